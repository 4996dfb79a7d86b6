-- What the sections of a text name, list by list (CiA 306, object lists).
use Rattle.std.specs.Prelude.{Bool, true, nat_le, if◌then◌else◌, List, [], filter}
use Rattle.std.specs.Option.{option_map_or}
use Rattle.co_sheet_text.specs.Names.{is_list}
use Rattle.co_sheet_text.specs.Sections.{TextSection}
use Rattle.co_sheet.specs.declared.checks.lists.Listing.{Listing as ListingOfCode}
use Rattle.co_sheet.specs.ObjectLists.{Listing, count_of, listings_in}
use Rattle.co_sheet.specs.Checks.{is_bad_list}

-- a listing of the code, as the definitions have it
abbrev pub listing_view : ListingOfCode → Listing
listing_view l = record { index = l.index; line = l.line }

-- what a list names from 1000h on
abbrev pub named_in : TextSection → List Listing
named_in s = filter (λ l. nat_le 0x1000 l.index) (listings_in s)

-- a list without its count, or a bad one
abbrev pub is_bad_section : TextSection → Bool
is_bad_section s = option_map_or (is_bad_list s) (count_of s) true

-- what a section names from 1000h on
abbrev pub named_by : TextSection → List Listing
named_by s = if is_list s.kind then named_in s else []
