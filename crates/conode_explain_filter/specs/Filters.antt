-- Which lines are printed, and what the words of a filter are read as.
use Rattle.std.specs.Prelude.{◌≡◌, ℕ, ◌==◌, Bool, ◌&&◌, ◌||◌, List, length, Option, ⊤, Ok, Err}
use Rattle.std.specs.List.{list_any}
use Rattle.std.specs.Option.{option_copied}
use Rattle.conode_explain_text.specs.declared.so_far.Times.{Times}
use Rattle.conode_explain_filter.specs.declared.condition.Condition.{Condition}
use Rattle.conode_explain_filter.specs.declared.filter.Filter.{Filter}
use Rattle.conode_explain_filter.specs.declared.option.FilterOption.{FilterOption}
use Rattle.conode_explain_filter.specs.declared.option.FilterOption.TheVariants.{Of, Id, Kind, From, To}
use Rattle.conode_explain_filter.specs.declared.reading.FilterFault.{FilterFault}
use Rattle.conode_explain_filter.specs.declared.reading.FilterFault.TheVariants.{Word, Memory}
use Rattle.conode_explain_filter.specs.declared.reading.FilterWords.{FilterWords}
use Rattle.conode_explain_filter.specs.declared.subject.Subject.{Subject}
use Rattle.conode_explain_filter.specs.Conditions.{asked, holds}
use Rattle.conode_explain_filter.specs.Subjects.{transfer_subject}

-- one condition of an option holds, or it isn't used
abbrev pub is_one : Subject → Times → List Condition → Bool
is_one subject times conditions = (length conditions == 0) || list_any (holds subject times) conditions

-- a frame passes: it meets each option
unfoldable pub passes : Filter → Subject → Times → Bool
passes filter subject times =
    is_one subject times filter.of.items && (is_one subject times filter.id.items
    && (is_one subject times filter.kind.items && (is_one subject times filter.from.items
    && is_one subject times filter.to.items)))

-- the line of an SDO transfer of a node that ended: a request or a response of its channel would
-- pass
unfoldable pub passes_transfer : Filter → ℕ → Times → Bool
passes_transfer filter node times =
    passes filter (transfer_subject 0x600 node) times || passes filter (transfer_subject 0x580 node) times

-- the filter that the words of the options are read as
pub record IsFilter (words : FilterWords) (filter : Filter) : Type 0 where
  pub of : asked Of (option_copied words.of) ≡ Ok filter.of.items
  pub id : asked Id (option_copied words.id) ≡ Ok filter.id.items
  pub kind : asked Kind (option_copied words.kind) ≡ Ok filter.kind.items
  pub from : asked From (option_copied words.from) ≡ Ok filter.from.items
  pub to : asked To (option_copied words.to) ≡ Ok filter.to.items

-- the text of an option
abbrev pub text_for : FilterOption → FilterWords → Option (List ℕ)
text_for Of words = option_copied words.of
text_for Id words = option_copied words.id
text_for Kind words = option_copied words.kind
text_for From words = option_copied words.from
text_for To words = option_copied words.to

-- a fault of the text of an option: memory ran out, or the first word that isn't one of the
-- option's
abbrev pub IsFaultOf : FilterOption → Option (List ℕ) → FilterFault → Type 0
IsFaultOf option text Memory = ⊤
IsFaultOf option text (Word of word) = (of ≡ option) × (asked option text ≡ Err word.now)

-- a fault of the words
abbrev pub IsFault : FilterWords → FilterFault → Type 0
IsFault words Memory = ⊤
IsFault words (Word option word) = asked option (text_for option words) ≡ Err word.now
