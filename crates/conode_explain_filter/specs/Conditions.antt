-- What the words of a filter ask for.
use Rattle.std.specs.Prelude.{ℕ, ◌==◌, nat_lt, nat_le, Bool, true, false, not, ◌&&◌, ◌||◌, if◌then◌else◌, List, [], ◌∷◌, length, Option, Some, None, option_map, option_and_then, Result, Ok, Err}
use Rattle.std.specs.List.{list_any, before_first, after_first, slice_split}
use Rattle.std.specs.Option.{option_map_or}
use Rattle.co_text.specs.Texts.{decimal_in}
use Rattle.co_frame.specs.Segments.{same_bool}
use Rattle.conode_record.specs.Fields.{hex_number}
use Rattle.conode_explain_text.specs.declared.so_far.Times.{Times}
use Rattle.conode_explain_filter.specs.declared.condition.Condition.{Condition}
use Rattle.conode_explain_filter.specs.declared.condition.Condition.TheVariants.{Node, Ids, OfKind, From, Until}
use Rattle.conode_explain_filter.specs.declared.option.FilterOption.{FilterOption}
use Rattle.conode_explain_filter.specs.declared.option.FilterOption.TheVariants.{Of, Id, To}
use Rattle.conode_explain_filter.specs.declared.option.FilterOption.TheVariants as option
use Rattle.conode_explain_filter.specs.declared.condition.Written.{Written}
use Rattle.conode_explain_filter.specs.declared.subject.Subject.{Subject}
use Rattle.conode_explain_filter.specs.Kinds.{kind_in, same_kind}
use Rattle.conode_explain_filter.specs.Moments.{is_from, is_until, moment_in}

-- ---- one word

-- a node-ID
abbrev pub node_condition : List ℕ → Option Condition
node_condition word = option_map Node (decimal_in 1 127 word)

-- an identifier: one to three hexadecimal digits up to 7FF, or eight up to 3FFFFFFF
unfoldable pub written_in : List ℕ → Option Written
written_in word =
    let wide = length word == 8 in
    if (length word == 0) || (nat_lt 3 (length word) && not wide) then None
    else option_and_then (λ number.
    if nat_le number (if wide then 0x3FFFFFFF else 0x7FF) then Some (record { wide = wide; number = number }) else None)
    (hex_number word)

-- identifiers from one to another that has as many digits
unfoldable pub range_of : Written → Written → Option Condition
range_of first last =
    if same_bool first.wide last.wide && nat_le first.number last.number then Some (Ids first last) else None

-- one identifier, or two with a hyphen between them
unfoldable pub id_condition : List ℕ → Option Condition
id_condition word =
    if list_any (λ b. b == 45) word
    then option_and_then (λ first. option_and_then (range_of first) (written_in (after_first (λ b. b == 45) word)))
    (written_in (before_first (λ b. b == 45) word))
    else option_and_then (λ id. range_of id id) (written_in word)

-- a word of an option
unfoldable pub condition_in : FilterOption → List ℕ → Option Condition
condition_in Of word = node_condition word
condition_in Id word = id_condition word
condition_in option.Kind word = option_map OfKind (kind_in word)
condition_in option.From word = option_map From (moment_in word)
condition_in To word = option_map Until (moment_in word)

-- ---- whether a frame is one of those asked for

-- an identifier lies between two
abbrev pub is_between : Written → Written → Written → Bool
is_between first last id = same_bool first.wide id.wide && nat_le first.number id.number && nat_le id.number last.number

abbrev pub holds : Subject → Times → Condition → Bool
holds subject times (Node node) = option_map_or (λ of. (of == 0) || (of == node)) subject.node false
holds subject times (Ids first last) = is_between first last subject.id
holds subject times (OfKind kind) = same_kind subject.kind kind
holds subject times (From moment) = is_from times moment
holds subject times (Until moment) = is_until times moment

-- ---- the words of an option

-- a time is one word
abbrev pub is_time : FilterOption → Bool
is_time option.From = true
is_time To = true
is_time _ = false

-- the words of any other option have a comma between two
unfoldable pub words_in : FilterOption → List ℕ → List (List ℕ)
words_in option text = if is_time option then text ∷ [] else slice_split (λ b. b == 44) text

-- what a word asks for, before what the words after it ask for
abbrev pub with_first : Condition → Result (List Condition) (List ℕ) → Result (List Condition) (List ℕ)
with_first condition (Ok more) = Ok (condition ∷ more)
with_first condition (Err word) = Err word

-- what words ask for, or the first that is no word of the option
unfoldable pub conditions_of : FilterOption → List (List ℕ) → Result (List Condition) (List ℕ)
conditions_of option [] = Ok []
conditions_of option (word ∷ words) =
    option_map_or (λ condition. with_first condition (conditions_of option words))
    (condition_in option word) (Err word)

-- what the text of an option asks for
abbrev pub conditions_in : FilterOption → List ℕ → Result (List Condition) (List ℕ)
conditions_in option text = conditions_of option (words_in option text)

-- nothing where the option isn't used
abbrev pub asked : FilterOption → Option (List ℕ) → Result (List Condition) (List ℕ)
asked option None = Ok []
asked option (Some text) = conditions_in option text
