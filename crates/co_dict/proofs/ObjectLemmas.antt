-- An entry that is there is one of its object.
use Rattle.std.proofs.Common.{◌≡◌, ℕ, zero, suc, ◌+◌, ◌<◌, ◌≤◌, Bool, true, false, Some, None, refl, ap, ◌∙◌, arith, inl, inr}
use Rattle.std.proofs.lemmas.Bool.{or_left, or_right}
use Rattle.std.proofs.Math.Nat.{eq-or-lt_of_le}
use Rattle.std.specs.Prelude.{is_some, is_none, not}
use Rattle.std.specs.List.{list_any, range_with_len}
use Rattle.co_value.specs.declared.key.Key.{Key}
use Rattle.co_dict.specs.declared.row.Row.{Row}
use Rattle.co_dict.specs.Rows.{Rows}
use Rattle.co_dict.specs.Refusals.{refused_if, first_of}
use Rattle.co_dict.specs.Objects.{has_sub, has_object, missing_entry}
use Rattle.co_frame_aborts.specs.AbortCodes.{object_missing, sub_index_missing}

-- what holds of a number of a range holds of one of them
pub any_in_range : (p : ℕ → Bool) (first count i : ℕ) → first ≤ i → i < first + count → p i ≡ true → list_any p (range_with_len first count) ≡ true
any_in_range p first zero i low high h = absurd (omega arith)
any_in_range p first (suc count) i low high h =
    elim (eq-or-lt_of_le low) [
      | inl same ↦ or_left (p first) (list_any p (range_with_len (first + 1) count)) (ap p same ∙ h)
      | inr less ↦ or_right (p first) (list_any p (range_with_len (first + 1) count)) (any_in_range p (first + 1) count i (omega arith) (omega arith) h)
    ]

-- an entry that is there is one of its object
pub entry_in_object : (rows : Rows) (key : Key) (row : Row) → key.sub < 256 → rows key ≡ Some row → has_object rows key.index ≡ true
unfolding has_object
entry_in_object rows key row small is = any_in_range (has_sub rows key.index) 0 256 key.sub (omega arith) (omega arith) (ap is_some is)

present_by_tests : (object absent : Bool) → object ≡ true → absent ≡ false → None ≡ first_of (refused_if (not object) object_missing) (first_of (refused_if absent sub_index_missing) None)
present_by_tests true false o a = refl
present_by_tests true true o a = absurd (cc)
present_by_tests false absent o a = absurd (cc)

-- an entry that is there isn't missing
pub nothing_missing : (rows : Rows) (key : Key) (row : Row) → key.sub < 256 → rows key ≡ Some row → None ≡ missing_entry rows key
nothing_missing rows key row small is = present_by_tests (has_object rows key.index) (is_none (rows key)) (entry_in_object rows key row small is) (ap is_none is)
