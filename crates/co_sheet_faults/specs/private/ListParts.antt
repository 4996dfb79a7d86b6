-- Whether the object lists are at fault, part by part (CiA 306, object lists).
use Rattle.std.specs.Prelude.{ℕ, Bool, not, ◌&&◌, ◌||◌, ◌==◌, List, flat_map}
use Rattle.std.specs.List.{list_any}
use Rattle.co_sheet_text.specs.Names.{is_list}
use Rattle.co_sheet_text.specs.Sections.{TextSection}
use Rattle.co_sheet.specs.declared.checks.lists.Listing.{Listing as ListingOfCode}
use Rattle.co_sheet.specs.ObjectLists.{Listing, listings}
use Rattle.co_sheet.specs.Listings.{is_bad_section}
use Rattle.co_sheet.specs.Checks.{unread_number, is_listed_before, missing_section}
use Rattle.co_sheet_faults.specs.Soundness.{is_found}

-- a list with a number that can't be read, or a bad one
abbrev pub is_list_at_fault : TextSection → Bool
is_list_at_fault s =
    is_list s.kind && (is_found (flat_map unread_number s.properties) || is_bad_section s)

-- an index that is named before, or without its section
abbrev pub is_listing_at_fault : List TextSection → Listing → Bool
is_listing_at_fault sections l =
    is_listed_before (listings sections) l || is_found (missing_section sections l)

-- what the code reads of the lists names an index
abbrev pub is_named : List ListingOfCode → ℕ → Bool
is_named named index = list_any (λ l. l.index == index) named

-- it lacks 1000h, 1001h or 1018h
abbrev pub lacks_mandatory : List ListingOfCode → Bool
lacks_mandatory named =
    not (is_named named 0x1000 && is_named named 0x1001 && is_named named 0x1018)
