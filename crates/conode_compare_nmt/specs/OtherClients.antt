-- The clients of a device's SDO channels other than the default one (CiA 301, 7.5.2.33): each may write
-- each entry, so once one of them sends, what the device sends by itself is unknown.
use Rattle.std.specs.Prelude.{ℕ, ◌+◌, ◌==◌, nat_lt, nat_le, Bool, false, not, ◌&&◌, ◌||◌, if◌then◌else◌, List, [], ◌∷◌, Option, Some, None, is_none}
use Rattle.std.specs.List.{list_any}
use Rattle.co_sheet.specs.Content.{Row}
use Rattle.co_value.specs.declared.key.Key.{Key}
use Rattle.conode_compare_pdos.specs.Identifiers.{may_have}
use Rattle.conode_compare_pdos.specs.SheetNumbers.{number_of}
use Rattle.conode_compare_nmt.specs.declared.clients.OtherClients.{OtherClients}

-- 1201h to 127Fh, the parameters of these channels
abbrev pub is_channel : Key → Bool
is_channel key = nat_le 0x1201 key.index && nat_le key.index 0x127F

-- the COB-ID from its client, sub-index 1, is valid: bit 31 isn't set; that of its answers may be
-- written later
abbrev pub is_open : Option ℕ → Bool
is_open None = false
is_open (Some number) = nat_lt 0 number && nat_lt number 0x80000000

abbrev pub is_open_channel : ℕ → Row → Bool
is_open_channel node row = (is_channel row.key && (row.key.sub == 1)) && is_open (number_of node row.default)

-- ---- whose frames can be told

-- the identifiers of a device's EMCY, default SDO channel and error control (CiA 301, 7.3.5)
abbrev pub is_of_device : ℕ → ℕ → Bool
is_of_device node id = (id == 0x80 + node) || ((id == 0x580 + node) || ((id == 0x600 + node) || (id == 0x700 + node)))

-- an identifier of 11 bits that is none of these, nor perhaps that of a TPDO
abbrev pub is_apart : List Row → ℕ → ℕ → Bool
is_apart rows node number = nat_lt number 0x800 && not (is_of_device node number || may_have rows node number)

abbrev pub told_id : List Row → ℕ → Option ℕ → Option ℕ
told_id rows node None = None
told_id rows node (Some number) = if is_apart rows node number then Some number else None

-- the identifier of the client's frames on a channel that is open, where these can be told
abbrev pub client_id : List Row → ℕ → Row → Option ℕ
client_id rows node row = if is_open_channel node row then told_id rows node (number_of node row.default) else None

-- a channel is open on which they can't
abbrev pub is_hidden : List Row → ℕ → Row → Bool
is_hidden rows node row = is_open_channel node row && is_none (client_id rows node row)

abbrev pub has_hidden_channel : List Row → ℕ → Bool
has_hidden_channel rows node = list_any (is_hidden rows node) rows

-- ---- the identifiers of all of them: a frame counts from the lowest to the highest

abbrev pub no_clients : OtherClients
no_clients = record { lowest = 0x800; highest = 0 }

abbrev pub clients_with : OtherClients → Option ℕ → OtherClients
clients_with clients None = clients
clients_with clients (Some id) = record {
  lowest = if nat_lt id clients.lowest then id else clients.lowest;
  highest = if nat_lt clients.highest id then id else clients.highest;
}

abbrev pub clients_from : List Row → ℕ → OtherClients → List Row → OtherClients
clients_from rows node clients [] = clients
clients_from rows node clients (row ∷ later) = clients_from rows node (clients_with clients (client_id rows node row)) later

-- by a data sheet
abbrev pub clients_of : List Row → ℕ → OtherClients
clients_of rows node = clients_from rows node no_clients rows

-- there are any
abbrev pub has_clients : OtherClients → Bool
has_clients clients = nat_le clients.lowest clients.highest

-- a frame with this identifier may be one of theirs
abbrev pub may_send : OtherClients → ℕ → Bool
may_send clients id = nat_le clients.lowest id && nat_le id clients.highest
