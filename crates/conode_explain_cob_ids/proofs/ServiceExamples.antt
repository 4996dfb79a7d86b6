-- Whose SYNC, TIME and emergencies an identifier is, evaluated on both sides of each edge.
use Rattle.std.proofs.Common.{◌≡◌, ℕ, true, false, [], ◌∷◌, List, Option, Some, None, refl, pos}
use Rattle.std.specs.Prelude.{codes, map}
use Rattle.co_value.specs.declared.data_type.DataType.TheVariants.{Unsigned32}
use Rattle.co_profile.specs.declared.access.Access.TheVariants.{Rw}
use Rattle.co_sheet.specs.Limits.{Default, absent, number, node_id}
use Rattle.co_sheet.specs.Content.{Row}
use Rattle.co_sheet_changes.specs.Names.{Names}
use Rattle.conode_explain_entries.specs.declared.entries.ShownPdo.{ShownPdo}
use Rattle.conode_explain_entries.specs.declared.state.Value.{Value}
use Rattle.conode_explain_entries.specs.declared.state.Value.TheVariants.{Assumed, Seen, Saved, Unknown}
use Rattle.conode_explain_entries.specs.Histories.{assumed_values}
use Rattle.conode_explain_cob_ids.specs.declared.service_ids.NamedService.{NamedService}
use Rattle.conode_explain_cob_ids.specs.declared.service_ids.NamedService.TheVariants.{Sync, Time, Emergency}
use Rattle.conode_explain_cob_ids.specs.Known.{KnownSheet}
use Rattle.conode_explain_cob_ids.specs.Named.{names_id}
use Rattle.conode_explain_cob_ids.specs.ServiceIds.{service_by_sheet, service_by_shown, service_with, service_word}
use Rattle.conode_explain_cob_ids.specs.SheetServices.{is_service_index, service_in_row, sheet_services}

-- ---- a COB-ID

indices : map is_service_index (0x1004 ∷ 0x1005 ∷ 0x1006 ∷ 0x1012 ∷ 0x1014 ∷ 0x1013 ∷ []) ≡ false ∷ true ∷ false ∷ true ∷ true ∷ false ∷ []
indices = refl

-- SYNC: bit 31 says nothing, with bit 30 the device sends it, with bit 29 the identifier has 29 bits
of_sync : map (λ word. names_id 0x1005 word 0x080) (0x80 ∷ 0x40000080 ∷ 0x80000080 ∷ 0x20000080 ∷ 0x81 ∷ []) ≡ true ∷ true ∷ true ∷ false ∷ false ∷ []
of_sync = refl

-- TIME: with bit 31 the device takes it, with bit 30 it sends it
of_time : map (λ word. names_id 0x1012 word 0x100) (0x100 ∷ 0x80000100 ∷ 0x40000100 ∷ 0xC0000100 ∷ 0xA0000100 ∷ 0x80000101 ∷ [])
    ≡ false ∷ true ∷ true ∷ true ∷ false ∷ false ∷ []
of_time = refl

-- emergencies: with bit 31 there are none
of_emergencies : map (λ word. names_id 0x1014 word 0x085) (0x85 ∷ 0x80000085 ∷ 0x40000085 ∷ 0x20000085 ∷ 0x86 ∷ []) ≡ true ∷ false ∷ true ∷ false ∷ false ∷ []
of_emergencies = refl

-- ---- by a sheet

abbrev row : ℕ → ℕ → Default → Row
row index sub begins = record {
  key = record { index = index; sub = sub };
  data_type = Unsigned32;
  access = Rw;
  low = None;
  high = None;
  default = begins;
  mappable = false;
  name = None;
  line = 1;
}

abbrev names : Option ℕ → List Row → Names
names only rows = record {
  sheet = Some (record { objects = []; rows = rows; sections = []; notes = []; dummies = []; node_id = None });
  only = only;
  originals = λ line. None;
}

abbrev sheet_on : Option (List ℕ) → Option ℕ → List Row → KnownSheet
sheet_on interface only rows = record {
  interface = interface;
  names = names only rows;
  pdos = [];
  services = sheet_services (names only rows);
}

-- of node 5, and of all nodes
abbrev own : List Row → KnownSheet
own rows = sheet_on None (Some 5) rows

abbrev common : List Row → KnownSheet
common rows = sheet_on None None rows

abbrev found : List KnownSheet → List ShownPdo → ℕ → Option NamedService
found sheets entries id = service_with (record { sheets = sheets; entries = entries; interface = codes "can0" }) id

abbrev by_default : Row
by_default = row 0x1014 0 (node_id 0x80)

own_emergencies : map (found (own (by_default ∷ []) ∷ []) []) (0x084 ∷ 0x085 ∷ 0x086 ∷ []) ≡ None ∷ Some (Emergency 5) ∷ None ∷ []
unfolding service_with service_by_sheet service_word sheet_services service_in_row
own_emergencies = refl

-- of no node are those of 080h, and those of 100h
all_emergencies : map (found (common (by_default ∷ []) ∷ []) []) (0x080 ∷ 0x081 ∷ 0x0FF ∷ 0x100 ∷ []) ≡ None ∷ Some (Emergency 1) ∷ Some (Emergency 127) ∷ None ∷ []
unfolding service_with service_by_sheet service_word sheet_services service_in_row
all_emergencies = refl

moved : map (found (own (row 0x1014 0 (number (pos 0x1C5)) ∷ []) ∷ []) []) (0x085 ∷ 0x1C5 ∷ []) ≡ None ∷ Some (Emergency 5) ∷ []
unfolding service_with service_by_sheet service_word sheet_services service_in_row
moved = refl

no_emergencies : found (own (row 0x1014 0 (number (pos 0x80000085)) ∷ []) ∷ []) [] 0x085 ≡ None
unfolding service_with service_by_sheet sheet_services service_in_row
no_emergencies = refl

-- an entry without a number, one with a sub-index, and an identifier that a default SDO channel has
without_number : found (own (row 0x1014 0 absent ∷ []) ∷ []) [] 0x085 ≡ None
unfolding service_with sheet_services service_in_row
without_number = refl

with_sub_index : found (own (row 0x1014 1 (node_id 0x80) ∷ []) ∷ []) [] 0x085 ≡ None
unfolding service_with sheet_services service_in_row
with_sub_index = refl

of_a_channel : found (own (row 0x1014 0 (number (pos 0x585)) ∷ []) ∷ []) [] 0x585 ≡ None
unfolding service_with
of_a_channel = refl

-- SYNC and TIME, of one node and of all
syncs : map (found (own (row 0x1005 0 (number (pos 0x40000090)) ∷ []) ∷ []) []) (0x080 ∷ 0x090 ∷ []) ≡ None ∷ Some Sync ∷ []
unfolding service_with service_by_sheet service_word sheet_services service_in_row
syncs = refl

common_sync : map (found (common (row 0x1005 0 (number (pos 0x80)) ∷ []) ∷ []) []) (0x080 ∷ 0x081 ∷ []) ≡ Some Sync ∷ None ∷ []
unfolding service_with service_by_sheet service_word sheet_services service_in_row
common_sync = refl

times : map (found (common (row 0x1012 0 (number (pos 0x80000100)) ∷ []) ∷ []) []) (0x0FF ∷ 0x100 ∷ []) ≡ None ∷ Some Time ∷ []
unfolding service_with service_by_sheet service_word sheet_services service_in_row
times = refl

-- a node's own sheet counts, whatever one for all nodes has; and one for the interface
own_sheet : map (found (own [] ∷ common (by_default ∷ []) ∷ []) []) (0x085 ∷ 0x086 ∷ []) ≡ None ∷ Some (Emergency 6) ∷ []
unfolding service_with service_by_sheet service_word sheet_services service_in_row
own_sheet = refl

interfaces : map (λ interface. found (sheet_on (Some interface) (Some 5) (by_default ∷ []) ∷ []) [] 0x085) (codes "can0" ∷ codes "can1" ∷ []) ≡ Some (Emergency 5) ∷ None ∷ []
unfolding service_with service_by_sheet service_word sheet_services service_in_row
interfaces = refl

-- ---- by the recording

-- what it shows of an entry of node 5
abbrev shown : List ℕ → ℕ → Value → ShownPdo
shown interface index value = record {
  index = index;
  node = 5;
  interface = record { items = interface };
  state = record { now = record { cob_id = Assumed; mapping = value ∷ [] }; stored = assumed_values; is_being_changed = false };
}

-- alone, and where the sheet says 085h
abbrev after : Value → ℕ → List (Option NamedService)
after value id =
    map (λ sheets. found sheets (shown (codes "can0") 0x1014 value ∷ []) id) ([] ∷ (own (by_default ∷ []) ∷ []) ∷ [])

seen_there : after (Seen 0x1C5) 0x1C5 ≡ Some (Emergency 5) ∷ Some (Emergency 5) ∷ []
unfolding service_with service_by_sheet service_by_shown service_word sheet_services service_in_row
seen_there = refl

saved_there : after (Saved 0x1C5) 0x1C5 ≡ Some (Emergency 5) ∷ Some (Emergency 5) ∷ []
unfolding service_with service_by_sheet service_by_shown service_word sheet_services service_in_row
saved_there = refl

no_more_here : after (Seen 0x1C5) 0x085 ≡ None ∷ None ∷ []
unfolding service_with service_by_sheet service_by_shown service_word sheet_services service_in_row
no_more_here = refl

disabled : after (Seen 0x80000085) 0x085 ≡ None ∷ None ∷ []
unfolding service_with service_by_sheet service_by_shown service_word sheet_services service_in_row
disabled = refl

unknown : after Unknown 0x085 ≡ None ∷ None ∷ []
unfolding service_with service_by_sheet service_by_shown service_word sheet_services service_in_row
unknown = refl

nothing_shown_yet : after Assumed 0x085 ≡ None ∷ Some (Emergency 5) ∷ []
unfolding service_with service_by_sheet service_by_shown service_word sheet_services service_in_row
nothing_shown_yet = refl

-- SYNC of a node that has another one than all
other_sync : map (found (common (row 0x1005 0 (number (pos 0x80)) ∷ []) ∷ []) (shown (codes "can0") 0x1005 (Seen 0x90) ∷ [])) (0x080 ∷ 0x090 ∷ 0x091 ∷ []) ≡ Some Sync ∷ Some Sync ∷ None ∷ []
unfolding service_with service_by_sheet service_by_shown service_word sheet_services service_in_row
other_sync = refl

-- an identifier that CiA 301 restricts; on this bus and on another one; another entry of a node
restricted : map (λ interface. found [] (shown interface 0x1012 (Seen 0x40000110) ∷ []) 0x110) (codes "can0" ∷ codes "can1" ∷ []) ≡ None ∷ None ∷ []
unfolding service_with service_by_shown
restricted = refl

time_there : map (λ interface. found [] (shown interface 0x1012 (Seen 0x40000190) ∷ []) 0x190) (codes "can0" ∷ codes "can1" ∷ []) ≡ Some Time ∷ None ∷ []
unfolding service_with service_by_shown
time_there = refl

no_service : found [] (shown (codes "can0") 0x1000 (Seen 0x190) ∷ []) 0x190 ≡ None
unfolding service_with service_by_shown
no_service = refl
