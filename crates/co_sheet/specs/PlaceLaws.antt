-- Why a list with fewer places than it counts lacks one of them (CiA 306, object lists).
use Rattle.std.specs.Prelude.{◌≡◌, ℕ, nat_lt, List, length}
use Rattle.std.specs.List.{AllByRecursion}
use Rattle.co_sheet_text.specs.Sections.{TextSection}
use Rattle.co_sheet.specs.ObjectLists.{keys_to, lacks_place}

-- fewer keys from 1 to n than n are there exactly where one of them is missing
abbrev pub CountsPlaces : TextSection → Type 0
CountsPlaces s = (n : ℕ) → nat_lt (length (keys_to s n)) n ≡ lacks_place s n

abbrev pub AllCountPlaces : List TextSection → Type 0
AllCountPlaces sections = AllByRecursion CountsPlaces sections
