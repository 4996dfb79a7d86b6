-- What a data sheet says of what a device sends by itself, computed from the definitions.
use Rattle.std.proofs.Common.{◌≡◌, ℕ, Bool, true, false, List, [], ◌∷◌, map, Some, None, refl}
use Rattle.std.specs.Prelude.{pos}
use Rattle.co_profile.specs.declared.access.Access.{Access}
use Rattle.co_profile.specs.declared.access.Access.TheVariants.{Rw, Constant}
use Rattle.co_sheet.specs.Content.{Row}
use Rattle.co_sheet.specs.Limits.{absent, number, node_id}
use Rattle.co_value.specs.declared.data_type.DataType.TheVariants.{Unsigned8, Unsigned16, Unsigned32}
use Rattle.conode_compare_pdos.specs.Followed.{pdos_of, uncounted}
use Rattle.conode_compare_pdos.specs.Cycles.{new_cycle}
use Rattle.conode_explain_transfers.specs.declared.kinds.Side.{Side}
use Rattle.conode_explain_transfers.specs.declared.kinds.Side.TheVariants.{Client, Server}
use Rattle.conode_compare_nmt.specs.EntriesInForce.{asked_by, asked_to_write, facts_of, initial_entries, shares_id, sheet_entries, with_master, with_sharing}
use Rattle.conode_compare_nmt.specs.declared.entries.Entries.{Entries}
use Rattle.conode_compare_nmt.specs.declared.entries.Facts.{Facts}
use Rattle.conode_compare_nmt.specs.OtherClients.{no_clients}
use Rattle.conode_compare_nmt.proofs.Examples.{entries, row}

-- ---- what a data sheet says

abbrev rows : List Row
rows = row 0x1014 0 Unsigned32 Rw (node_id 0x80) ∷ row 0x1017 0 Unsigned16 Rw (number (pos 500)) ∷ []

plain_sheet : facts_of rows 5 false ≡ record {
  before = record { period = None; emergencies = false; inhibit = Some 0; inhibit_shown = None };
  booted = record { period = Some 500; emergencies = true; inhibit = Some 0; inhibit_shown = None };
  pdos = pdos_of rows 5;
  clients = no_clients;
  starts_itself = false;
  modular = false;
  stores = false;
  as_sheet = true;
}
unfolding facts_of initial_entries sheet_entries
plain_sheet = refl

-- where parameters are stored, and of a configuration, a boot-up shows no more
storing_sheet : (facts_of (row 0x1010 0 Unsigned8 Constant absent ∷ rows) 5 false).booted ≡ record { period = None; emergencies = false; inhibit = Some 0; inhibit_shown = None }
unfolding facts_of initial_entries sheet_entries
storing_sheet = refl

may_have_stored : map (λ configured. (facts_of (row 0x1010 0 Unsigned8 Constant absent ∷ rows) 5 configured).stores) (false ∷ true ∷ []) ≡ true ∷ false ∷ []
unfolding facts_of
may_have_stored = refl

configuration : (facts_of rows 5 true).booted ≡ record { period = None; emergencies = false; inhibit = Some 0; inhibit_shown = None }
unfolding facts_of initial_entries sheet_entries
configuration = refl

constant_sheet : (facts_of (row 0x1017 0 Unsigned16 Constant (number (pos 500)) ∷ []) 5 true).before.period ≡ Some 500
unfolding facts_of initial_entries sheet_entries
constant_sheet = refl

-- ---- a TPDO that may have the identifier of EMCY

abbrev booted_emergencies : List Row → Bool
booted_emergencies more = (facts_of (row 0x1014 0 Unsigned32 Rw (node_id 0x80) ∷ more) 5 false).booted.emergencies

-- by the sheet, valid or not
with_tpdos : map booted_emergencies ((row 0x1800 1 Unsigned32 Rw (node_id 0x180) ∷ []) ∷ (row 0x1800 1 Unsigned32 Rw (number (pos 0x85)) ∷ []) ∷ (row 0x19FF 1 Unsigned32 Rw (number (pos 0x80000085)) ∷ []) ∷ [])
    ≡ true ∷ false ∷ true ∷ []
unfolding facts_of initial_entries sheet_entries
with_tpdos = refl

-- before a boot-up where neither COB-ID changes
abbrev known_emergencies : Access → Access → Bool
known_emergencies own other = (facts_of (row 0x1014 0 Unsigned32 own (node_id 0x80) ∷ row 0x1800 1 Unsigned32 other (node_id 0x180) ∷ []) 5 false).before.emergencies

known : known_emergencies Constant Constant ∷ known_emergencies Constant Rw ∷ known_emergencies Rw Constant ∷ [] ≡ true ∷ false ∷ false ∷ []
unfolding facts_of initial_entries sheet_entries
known = refl

-- by a request of a client: an identifier, bit 31; in segments; of the mapping; an upload
abbrev asks : Side → ℕ → ℕ → ℕ → ℕ → Bool
asks side first high low last = shares_id 5 side (record { id = 0x605; bytes = first ∷ low ∷ high ∷ 1 ∷ 0x85 ∷ 0 ∷ 0 ∷ last ∷ [] })

asked : asks Client 0x23 0x18 3 0 ∷ asks Client 0x23 0x18 3 0x80 ∷ asks Client 0x21 0x18 3 0x80 ∷ asks Client 0x23 0x1A 3 0 ∷ asks Client 0x40 0x18 3 0 ∷ asks Server 0x23 0x18 3 0 ∷ []
    ≡ true ∷ false ∷ true ∷ false ∷ false ∷ false ∷ []
asked = refl

shared : map (λ shares. (with_sharing shares entries).emergencies) (false ∷ true ∷ []) ≡ true ∷ false ∷ []
shared = refl

-- ---- a client's frame that asks to write 1017:00 or 1015:00, whatever it is in the transfers: expedited, in segments, in blocks; an
-- upload, a segment of a block download that has none of these keys, and what a device sends

abbrev asks_by : Side → ℕ → ℕ → Entries
asks_by side first low = asked_by side (record { id = 0x605; bytes = first ∷ low ∷ 0x10 ∷ 0 ∷ 0xD0 ∷ 7 ∷ 0 ∷ 0 ∷ [] }) (record entries { period = Some 500; inhibit = Some 70 })

asked_period : map (λ first. (asks_by Client first 0x17).period) (0x2B ∷ 0x21 ∷ 0xC6 ∷ 0x40 ∷ []) ≡ None ∷ None ∷ None ∷ Some 500 ∷ []
unfolding asked_to_write
asked_period = refl

asked_inhibit : map (λ low. (asks_by Client 0x2B low).inhibit) (0x15 ∷ 0x17 ∷ []) ≡ None ∷ Some 70 ∷ []
unfolding asked_to_write
asked_inhibit = refl

none_asked : map (λ low. (asks_by Client 0x2B low).period) (0x15 ∷ 0x18 ∷ []) ≡ Some 500 ∷ Some 500 ∷ []
unfolding asked_to_write
none_asked = refl

by_device : (asks_by Server 0x2B 0x17).period ≡ Some 500
by_device = refl

-- the boot-up master may start itself, and its SYNCs aren't counted
abbrev mastered : Bool → Facts
mastered master = with_master master (facts_of rows 5 false)

masters : map (λ master. (mastered master).starts_itself) (true ∷ false ∷ []) ≡ true ∷ false ∷ []
unfolding facts_of
masters = refl

counted_by : map (λ master. (mastered master).pdos.first.cycle) (true ∷ false ∷ []) ≡ None ∷ Some new_cycle ∷ []
unfolding facts_of pdos_of
counted_by = refl

-- nothing else changes
kept_of_master : with_master true (facts_of rows 5 false) ≡ record (facts_of rows 5 false) { starts_itself = true; pdos = uncounted (pdos_of rows 5) }
unfolding facts_of
kept_of_master = refl
