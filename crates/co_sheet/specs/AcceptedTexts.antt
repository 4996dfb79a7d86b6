-- Which texts are data sheets, rule by rule: nothing is wrong with them (CiA 306).
use Rattle.std.specs.Prelude.{◌≡◌, ℕ, ◌≤◌, List, [], ◌∷◌, length, None}
use Rattle.co_sheet_text.specs.Sections.{TextSection}
use Rattle.co_sheet_rows.specs.declared.fault.SheetFault.{SheetFault}
use Rattle.co_sheet.specs.Checks.{checks}
use Rattle.co_sheet.specs.Accepted.{first_bad_line, sections_in}

-- none of these checks finds anything
abbrev pub FindNothing : List (List TextSection → List SheetFault) → List TextSection → Type 0
FindNothing [] sections = Unit {0}
FindNothing (check ∷ more) sections = (check sections ≡ []) × FindNothing more sections

-- a text is not too large, no line of it has a fault, and no check finds anything
pub record IsFaultless (text : List ℕ) : Type 0 where
  pub size : length text ≤ 1048576
  pub lines : first_bad_line text ≡ None
  pub sections : FindNothing checks (sections_in text)
