-- The clients of other SDO channels than the default one, and what a data sheet with such a channel says, on both sides of each edge.
use Rattle.std.proofs.Common.{◌≡◌, ℕ, true, false, List, [], ◌∷◌, map, Option, Some, None, refl}
use Rattle.std.specs.Prelude.{pos}
use Rattle.co_profile.specs.declared.access.Access.TheVariants.{Rw}
use Rattle.co_sheet.specs.Content.{Row}
use Rattle.co_sheet.specs.Limits.{Default, absent, number, node_id}
use Rattle.co_value.specs.declared.data_type.DataType.TheVariants.{Unsigned16, Unsigned32}
use Rattle.co_value.specs.declared.key.Key.{Key}
use Rattle.conode_compare_pdos.specs.Followed.{pdos_of, unknown_pdos}
use Rattle.conode_compare_nmt.specs.declared.entries.Entries.{Entries}
use Rattle.conode_compare_nmt.specs.EntriesInForce.{asked_to_write, facts_of, initial_entries, sheet_entries}
use Rattle.conode_compare_nmt.specs.OtherClients.{clients_of, is_channel, is_open, may_send, no_clients}
use Rattle.conode_compare_nmt.proofs.Examples.{row}

abbrev pub key : ℕ → ℕ → Key
key index sub = record { index = index; sub = sub }

-- from 1201h to 127Fh; 1200h is the default one, and 1280h that of a client
channels : map (λ index. is_channel (key index 1)) (0x1200 ∷ 0x1201 ∷ 0x127F ∷ 0x1280 ∷ []) ≡ false ∷ true ∷ true ∷ false ∷ []
channels = refl

-- a COB-ID is valid without bit 31; 0 is none
opens : map is_open (None ∷ Some 0 ∷ Some 1 ∷ Some 0x7FFFFFFF ∷ Some 0x80000000 ∷ []) ≡ false ∷ false ∷ true ∷ true ∷ false ∷ []
opens = refl

-- ---- a data sheet: a heartbeat each 500 ms, and the first TPDO

abbrev pub with_channel : ℕ → Default → List Row
with_channel sub default =
    row 0x1014 0 Unsigned32 Rw (node_id 0x80) ∷ row 0x1017 0 Unsigned16 Rw (number (pos 500)) ∷ row 0x1201 sub Unsigned32 Rw default
    ∷ row 0x1800 1 Unsigned32 Rw (node_id 0x180) ∷ []

abbrev known : ℕ → Default → Option ℕ
known sub default = (facts_of (with_channel sub default) 5 false).booted.period

-- after a boot-up all is known, where the client's frames can be told, or there is none
told : known 1 (node_id 0x640) ∷ known 1 (number (pos 0x7FF)) ∷ known 1 (number (pos 0x80000000)) ∷ known 1 absent ∷ known 2 (node_id 0x600) ∷ []
    ≡ Some 500 ∷ Some 500 ∷ Some 500 ∷ Some 500 ∷ Some 500 ∷ []
unfolding facts_of sheet_entries
told = refl

-- An identifier of 29 bits; one of a channel that is set up while the device runs; those of its own EMCY, default
-- SDO channel and error control, and that of a TPDO: then nothing is but what never changes.
hidden : map (known 1) (number (pos 0x20000645) ∷ number (pos 0x40000645) ∷ number (pos 0x800) ∷ node_id 0x80 ∷ node_id 0x580 ∷ node_id 0x600 ∷ node_id 0x700 ∷ node_id 0x180 ∷ [])
    ≡ None ∷ None ∷ None ∷ None ∷ None ∷ None ∷ None ∷ None ∷ []
unfolding facts_of initial_entries sheet_entries
hidden = refl

hidden_pdos : (facts_of (with_channel 1 (node_id 0x600)) 5 false).pdos ≡ unknown_pdos
unfolding facts_of
hidden_pdos = refl

told_pdos : (facts_of (with_channel 1 (node_id 0x640)) 5 false).pdos ≡ pdos_of (with_channel 1 (node_id 0x640)) 5
unfolding facts_of
told_pdos = refl

-- ---- whose frames are its client's

abbrev two_channels : List Row
two_channels = row 0x1201 1 Unsigned32 Rw (node_id 0x6C0) ∷ row 0x1202 1 Unsigned32 Rw (node_id 0x640) ∷ row 0x1280 1 Unsigned32 Rw (node_id 0x600) ∷ []

one_client : clients_of (with_channel 1 (node_id 0x640)) 5 ≡ record { lowest = 0x645; highest = 0x645 }
one_client = refl

two_clients : clients_of two_channels 5 ≡ record { lowest = 0x645; highest = 0x6C5 }
two_clients = refl

none_open : clients_of (with_channel 1 (number (pos 0x80000000))) 5 ≡ no_clients
none_open = refl

from_lowest : map (may_send (record { lowest = 0x645; highest = 0x6C5 })) (0x644 ∷ 0x645 ∷ 0x6C5 ∷ 0x6C6 ∷ []) ≡ false ∷ true ∷ true ∷ false ∷ []
from_lowest = refl

none_sends : map (may_send no_clients) (0 ∷ 1 ∷ 0x7FF ∷ []) ≡ false ∷ false ∷ false ∷ []
none_sends = refl

-- ---- a request on the default channel to write its parameters

abbrev pub entries : Entries
entries = record { period = Some 500; emergencies = true; inhibit = Some 10; inhibit_shown = Some 7 }

opened : asked_to_write entries (key 0x1201 1) ≡ record { period = None; emergencies = false; inhibit = None; inhibit_shown = Some 7 }
unfolding asked_to_write
opened = refl

own : asked_to_write entries (key 0x1200 1) ≡ entries
unfolding asked_to_write
own = refl
