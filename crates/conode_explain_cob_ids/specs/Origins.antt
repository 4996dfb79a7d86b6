-- What an entry has, by the data sheet and by what the recording shows, and where that is from.
use Rattle.std.specs.Prelude.{ℕ, Bool, true, false, List, slice_index_or, Option, Some, None}
use Rattle.conode_explain_entries.specs.declared.state.Value.{Value}
use Rattle.conode_explain_entries.specs.declared.state.Value.TheVariants.{Assumed, Seen, Saved, Unknown}
use Rattle.conode_explain_cob_ids.specs.declared.origin.Origin.{Origin}
use Rattle.conode_explain_cob_ids.specs.declared.origin.Origin.TheVariants.{Sheet, Transfer, Store}

-- by its origin: what the sheet says where nothing was shown
abbrev pub number_by : Option ℕ → Value → Option ℕ
number_by sheet Assumed = sheet
number_by sheet (Seen number) = Some number
number_by sheet (Saved number) = Some number
number_by sheet Unknown = None

-- a value is the sheet's, is one that a transfer showed, or came back with a boot-up
abbrev pub is_from : Origin → Value → Bool
is_from Sheet Assumed = true
is_from Transfer (Seen number) = true
is_from Store (Saved number) = true
is_from origin value = false

-- what a sub-index has
abbrev pub value_at : List Value → ℕ → Value
value_at values sub = slice_index_or values sub Assumed
