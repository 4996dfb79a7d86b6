-- The names that a data sheet has of its vendor and its product: VendorName and ProductName of the section DeviceInfo
-- (CiA 306-1, device information).
use Rattle.std.specs.Prelude.{ℕ, nat_le, Bool, false, ◌&&◌, if◌then◌else◌, List, [], ◌∷◌, codes, Option, None}
use Rattle.std.specs.List.{list_any}
use Rattle.std.specs.Option.{option_map_or, option_or}
use Rattle.std.specs.Str.Lines.{lines}
use Rattle.co_sheet_text.specs.Text.{Line, same_name, without_mark}
use Rattle.co_sheet_changes.specs.Groups.{property_in, section_in, value_given}

-- a line, whatever its number
abbrev pub unnumbered : List ℕ → Line
unnumbered bytes = record { number = 0; bytes = bytes }

-- the value that a line gives of a name, where it is in the section
abbrev pub info_at : List ℕ → Bool → Line → Option (List ℕ)
info_at name within line = if within then value_given name (property_in line) else None

-- whether what comes after a line is in the section
abbrev pub is_info_after : Bool → Line → Bool
is_info_after within line = option_map_or (λ name. same_name name (codes "DeviceInfo")) (section_in line) within

-- the first value of a name in the section, of lines that begin in it or not
abbrev pub info_from : List ℕ → Bool → List (List ℕ) → Option (List ℕ)
info_from name within [] = None
info_from name within (bytes ∷ more) =
    option_or (info_at name within (unnumbered bytes)) (info_from name (is_info_after within (unnumbered bytes)) more)

abbrev pub info_in : List ℕ → List ℕ → Option (List ℕ)
info_in name text = info_from name false (lines (without_mark text))

-- a digit other than 0
abbrev pub is_counting_digit : ℕ → Bool
is_counting_digit byte = nat_le 49 byte && nat_le byte 57

-- the device may be the boot-up master: SimpleBootUpMaster is there, and has a digit other than 0
abbrev pub is_boot_up_master : List ℕ → Bool
is_boot_up_master text = option_map_or (λ value. list_any is_counting_digit value) (info_in (codes "SimpleBootUpMaster") text) false
