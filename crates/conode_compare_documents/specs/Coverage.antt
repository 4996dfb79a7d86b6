-- What the recording tested, and what it didn't.
use Rattle.std.specs.Prelude.{ℕ, ◌==◌, Bool, true, false, not, ◌||◌, if◌then◌else◌, List, [], ◌∷◌, ◌++◌, filter, length, codes, decimal}
use Rattle.std.specs.List.{concat, flat_map, slice_get}
use Rattle.std.specs.Option.{option_map, option_map_or}
use Rattle.co_value.specs.KeyTexts.{key_text}
use Rattle.co_sheet.specs.Content.{Row}
use Rattle.conode_compare_report.specs.Abouts.{Described}
use Rattle.conode_compare_report.specs.Coverages.{CoverageView}
use Rattle.conode_compare_report.specs.declared.coverage.Covered.{Covered}
use Rattle.conode_compare_report.specs.declared.coverage.Numbered.{Numbered}
use Rattle.conode_compare_report.specs.declared.kind.Counted.{Counted}
use Rattle.conode_compare_report.specs.declared.lanes.States.{States}
use Rattle.conode_compare_report.specs.Views.{Kept}
use Rattle.conode_compare_report.specs.declared.service.Served.{Served}
use Rattle.conode_compare_report.specs.Kinds.{kind_name, kind_rule}
use Rattle.conode_compare_report.specs.Services.{service_name}
use Rattle.conode_json.specs.Escapes.{escaped}
use Rattle.conode_json.specs.Filled.{any_text, code_digits}
use Rattle.conode_compare_documents.specs.declared.coverage.Listed.{Listed}
use Rattle.conode_compare_documents.specs.declared.coverage.Listed.TheVariants.{TransmissionTypes, AbortCodes}
use Rattle.conode_compare_documents.specs.declared.coverage.TheConstants.{TYPES, NO_TYPES, ABORTS, NO_ABORTS}
use Rattle.conode_compare_documents.specs.declared.kinds.TheConstants.{OPENING}
use Rattle.conode_compare_documents.specs.Indexed.{indexed}

-- the beginning of the item of what came so often; of 0 it is soft
abbrev pub item_begin : ℕ → List ℕ
item_begin count = if count == 0 then codes "<li class=\"not\">" else codes "<li>"

-- a count, or a word for 0
abbrev pub count_or : List ℕ → ℕ → List ℕ
count_or none count = if count == 0 then none else decimal count

-- ---- kinds of differences

-- the beginning of the row of a kind; of one that couldn't show it is soft
abbrev pub row_begin : ℕ → List ℕ
row_begin occasions = if occasions == 0 then codes "<tr class=\"not\"><td>" else codes "<tr><td>"

-- the beginning of the cell of how often it was found; it has a class more if it was
abbrev pub found_begin : ℕ → List ℕ
found_begin found =
    if found == 0 then codes "</td><td class=\"n\" data-is=\"Found\">" else codes "</td><td class=\"n found\" data-is=\"Found\">"

-- the row of a kind: how often it could have shown, and how often it did
unfoldable pub kind_row : Counted → List ℕ
kind_row counted = concat (
    row_begin counted.occasions ∷ kind_name counted.kind ∷ codes "</td><td>" ∷ kind_rule counted.kind
    ∷ codes "</td><td class=\"n\" data-is=\"Occasions\">" ∷ count_or (codes "none") counted.occasions
    ∷ found_begin counted.found ∷ decimal counted.found ∷ codes "</td></tr>\n" ∷ [])

unfoldable pub kinds_table : List Counted → List ℕ
kinds_table kinds = OPENING.now ++ flat_map kind_row kinds ++ codes "</tbody>\n</table>\n"

-- ---- entries

abbrev pub no_transfer : Covered
no_transfer = record { read = false; written = false; refused = false }

abbrev pub is_transferred : Covered → Bool
is_transferred covered = covered.read || covered.written || covered.refused

-- the end of an entry's item: which SDO transfers of it came, in words
abbrev pub entry_end : Covered → List ℕ
entry_end covered =
    if covered.read
    then (if covered.written
    then (if covered.refused then codes "<b>read, written, refused</b></li>\n" else codes "<b>read, written</b></li>\n")
    else if covered.refused then codes "<b>read, refused</b></li>\n" else codes "<b>read</b></li>\n")
    else if covered.written
    then (if covered.refused then codes "<b>written, refused</b></li>\n" else codes "<b>written</b></li>\n")
    else if covered.refused then codes "<b>refused</b></li>\n" else codes "</li>\n"

-- the transfers of the entry of this row
abbrev pub covered_at : List Covered → ℕ → Covered
covered_at entries at = option_map_or (λ covered. covered) (slice_get entries at) no_transfer

abbrev pub transferred_count : List Covered → ℕ
transferred_count entries = length (filter is_transferred entries)

-- an entry, with its name if it has one
unfoldable pub entry_text : Covered → Row → List ℕ
entry_text covered row = concat (
    codes "<li><code>" ∷ key_text row.key ∷ codes "</code>" ∷ any_text [] (option_map escaped row.name) [] ∷ entry_end covered ∷ [])

-- an entry in the list of those that were transferred, or in that of the others
abbrev pub is_listed : Bool → Covered → Bool
is_listed transferred covered = if transferred then is_transferred covered else not (is_transferred covered)

abbrev pub entry_item : Bool → List Covered → ℕ → Row → List ℕ
entry_item transferred entries at row =
    if is_listed transferred (covered_at entries at) then entry_text (covered_at entries at) row else []

abbrev pub entry_items : Bool → List Row → List Covered → List ℕ
entry_items transferred rows entries = indexed (entry_item transferred entries) 0 rows

unfoldable pub entries_begin : ℕ → ℕ → List ℕ
entries_begin transferred all = concat (
    codes "<h3>Entries that were transferred by SDO: " ∷ decimal transferred ∷ codes " of " ∷ decimal all
    ∷ codes "</h3>\n<ul>\n" ∷ [])

unfoldable pub entries_text : List Row → List Covered → List ℕ
entries_text rows entries =
    entries_begin (transferred_count entries) (length rows) ++ entry_items true rows entries
    ++ codes "</ul>\n<h3>Entries that weren't</h3>\n<ul class=\"not\">\n" ++ entry_items false rows entries ++ codes "</ul>\n"

-- ---- services, states, numbers

unfoldable pub service_item : Served → List ℕ
service_item served = concat (
    item_begin served.count ∷ service_name served.service ∷ codes "<b>" ∷ count_or (codes "not seen") served.count
    ∷ codes "</b></li>\n" ∷ [])

unfoldable pub services_text : List Served → List ℕ
services_text services = codes "<h3>Services</h3>\n<ul>\n" ++ flat_map service_item services ++ codes "</ul>\n"

-- the item of a state, before its name and after it
abbrev pub state_begin : Bool → List ℕ
state_begin seen = if seen then codes "<li>" else codes "<li class=\"not\">"

abbrev pub state_end : Bool → List ℕ
state_end seen = if seen then codes "<b>seen</b></li>\n" else codes "<b>not seen</b></li>\n"

-- its parts
abbrev pub state_item : List ℕ → Bool → List (List ℕ)
state_item name seen = state_begin seen ∷ name ∷ state_end seen ∷ []

unfoldable pub states_text : States → List ℕ
states_text states = concat (
    codes "<h3>NMT states</h3>\n<ul>\n" ∷ state_item (codes "initialising") states.initialising
    ++ state_item (codes "pre-operational") states.pre_operational ++ state_item (codes "operational") states.operational
    ++ state_item (codes "stopped") states.stopped ++ codes "</ul>\n" ∷ [])

-- a transmission type with its TPDOs, an abort code with its transfers
abbrev pub numbered_item : Listed → Numbered → List ℕ
numbered_item TransmissionTypes numbered = concat (
    codes "<li>type " ∷ decimal numbered.number ∷ codes "<b>" ∷ decimal numbered.count ∷ codes "</b></li>\n" ∷ [])
numbered_item AbortCodes numbered = concat (
    codes "<li><code>" ∷ code_digits numbered.number ∷ codes "</code><b>" ∷ decimal numbered.count ∷ codes "</b></li>\n" ∷ [])

-- a list under its head; of no number other words
unfoldable pub numbers_text : Listed → List ℕ → List ℕ → List Numbered → List ℕ
numbers_text listed head none numbers =
    if length numbers == 0 then none else head ++ flat_map (numbered_item listed) numbers ++ codes "</ul>\n"

unfoldable pub seen_text : CoverageView → List ℕ
seen_text coverage =
    services_text coverage.services ++ states_text coverage.states
    ++ numbers_text TransmissionTypes TYPES.now NO_TYPES.now coverage.types
    ++ numbers_text AbortCodes ABORTS.now NO_ABORTS.now coverage.aborts

-- ---- all of it

-- what the recording tested; the end of the section comes after it
unfoldable pub tested : Described → Kept → List ℕ
tested about report =
    kinds_table report.kinds ++ entries_text about.rows report.coverage.entries ++ seen_text report.coverage
