-- The text by which a data sheet that isn't accepted is read all the same.
use Rattle.std.specs.Prelude.{ℕ, zero, suc, nat_eq, nat_lt, Bool, true, false, ◌||◌, if◌then◌else◌, List, [], length, Option, Some, None, is_none}
use Rattle.co_sheet.specs.Accepted.{first_fault}
use Rattle.co_sheet_adapt.specs.Adapted.{adapted_text}
use Rattle.co_sheet_faults.specs.AllFaults.{faults_of}
use Rattle.co_sheet_text.specs.Text.{lines_of}
use Rattle.co_sheet_mend.specs.Repairs.{mended_by, repair_at}
use Rattle.co_sheet_mend.specs.declared.repair.Repair.{Repair}
use Rattle.co_sheet_mend.specs.declared.repairs.Repairs.{Repairs}
use Rattle.co_sheet_mend.specs.declared.rewriting.Rewritten.{Rewritten}
use Rattle.indexmap.specs.IndexMap.{get}

-- a text without what is at fault in it
abbrev pub mended : List ℕ → List ℕ
mended text = mended_by (repair_at (faults_of text)) (lines_of text)

abbrev pub is_accepted : List ℕ → Bool
is_accepted text = is_none (first_fault text)

-- what is read, and whether something was left out of it
pub record ReadableText : Type 0 where
  pub text : List ℕ
  pub is_mended : Bool

abbrev pub rewritten_view : Rewritten → ReadableText
rewritten_view made = record { text = made.text.items; is_mended = made.is_mended }

-- a text has at most 1,048,576 bytes
abbrev pub is_too_large : List ℕ → Bool
is_too_large text = nat_lt 1048576 (length text)

-- mended up to so many times, since what is dropped may be missed elsewhere: a type that becomes
-- DOMAIN may make a default faulty
unfoldable pub mended_in : ℕ → List ℕ → Option (List ℕ)
mended_in zero text = None
mended_in (suc rounds) text =
    if is_too_large text then None
    else (if is_accepted (mended text) then Some (mended text) else mended_in rounds (mended text))

abbrev pub as_mended : Option (List ℕ) → Option ReadableText
as_mended None = None
as_mended (Some text) = Some (record { text = text; is_mended = true })

-- as `adapt` rewrites a text, else mended eight times at most
unfoldable pub rewritten : List ℕ → Option ReadableText
rewritten text =
    if is_accepted (adapted_text [] text) then Some (record { text = adapted_text [] text; is_mended = false })
    else as_mended (mended_in 8 (adapted_text [] text))

-- how a text is read that isn't accepted; none where that doesn't help, and where it is accepted as it is
abbrev pub readable : List ℕ → Option ReadableText
readable text = if is_too_large text || is_accepted text then None else rewritten text

-- ---- what the code keeps

-- the repair of a line
abbrev pub repair_in : Repairs → ℕ → Option Repair
repair_in repairs line = get nat_eq repairs.by_line line
