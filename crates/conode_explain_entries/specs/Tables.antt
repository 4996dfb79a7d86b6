-- A table of the PDOs of which an entry was shown.
use Rattle.std.specs.Prelude.{ℕ, ◌==◌, nat_lt, Bool, not, ◌&&◌, ◌||◌, if◌then◌else◌, List, [], ◌∷◌, ◌++◌, length, find, map, Option, Some, None, option_map}
use Rattle.std.specs.List.{list_any}
use Rattle.std.specs.Option.{option_map_or}
use Rattle.std.specs.Str.{bytes_eq}
use Rattle.conode_explain_transfers.specs.declared.told.Told.{Told}
use Rattle.conode_explain_entries.specs.declared.entries.ShownPdo.{ShownPdo}
use Rattle.conode_explain_entries.specs.declared.event.Event.{Event}
use Rattle.conode_explain_entries.specs.declared.event.Event.TheVariants.{Written, Read}
use Rattle.conode_explain_entries.specs.declared.state.PdoState.{PdoState}
use Rattle.conode_explain_entries.specs.Events.{event_in}
use Rattle.conode_explain_entries.specs.Histories.{state_with, nothing_shown}

-- at most so many are followed
abbrev pub most_pdos : ℕ
most_pdos = 2048

-- nothing was shown of it
abbrev pub new_pdo : List ℕ → ℕ → ℕ → ShownPdo
new_pdo interface node index = record { index = index; node = node; interface = record { items = interface }; state = nothing_shown }

-- of a node on an interface
abbrev pub is_at : List ℕ → ℕ → ShownPdo → Bool
is_at interface node pdo = (pdo.node == node) && bytes_eq pdo.interface.items interface

-- and with this communication parameter
abbrev pub is_of : List ℕ → ℕ → ℕ → ShownPdo → Bool
is_of interface node index pdo = (pdo.index == index) && is_at interface node pdo

-- what was shown of a PDO, if it is in the table
abbrev pub state_in : List ShownPdo → List ℕ → ℕ → ℕ → Option PdoState
state_in table interface node index = option_map (λ pdo. pdo.state) (find (is_of interface node index) table)

-- ---- an event of a node on an interface

abbrev pub pdo_with : List ℕ → ℕ → Event → ShownPdo → ShownPdo
pdo_with interface node event pdo =
    if is_at interface node pdo then record pdo { state = state_with pdo.state pdo.index event } else pdo

-- the PDO of which an event shows an entry
abbrev pub index_shown : Event → Option ℕ
index_shown (Written of number) = Some of.index
index_shown (Read of number) = Some of.index
index_shown _ = None

-- one that wasn't shown before comes last, where there is room
abbrev pub added_at : List ShownPdo → List ℕ → ℕ → ℕ → List ShownPdo
added_at table interface node index =
    if list_any (is_of interface node index) table || not (nat_lt (length table) most_pdos) then [] else new_pdo interface node index ∷ []

abbrev pub added : List ShownPdo → List ℕ → ℕ → Event → List ShownPdo
added table interface node event = option_map_or (added_at table interface node) (index_shown event) []

-- the table after the event
unfoldable pub table_with : List ShownPdo → List ℕ → ℕ → Event → List ShownPdo
table_with table interface node event = map (pdo_with interface node event) (table ++ added table interface node event)

-- ---- all of a recording

-- the table after what is known about a frame on an interface
abbrev pub entries_with : List ShownPdo → List ℕ → Option Told → List ShownPdo
entries_with table interface None = table
entries_with table interface (Some told) = option_map_or (table_with table interface told.node) (event_in told) table

-- an event of a node on an interface
pub record Happening : Type 0 where
  pub interface : List ℕ
  pub node : ℕ
  pub event : Event

-- the table after all that happened, the newest first
abbrev pub table_after : List Happening → List ShownPdo
table_after [] = []
table_after (h ∷ older) = table_with (table_after older) h.interface h.node h.event

-- what the entries of a node's PDO have after all that happened
abbrev pub state_after : List Happening → List ℕ → ℕ → ℕ → PdoState
state_after [] interface node index = nothing_shown
state_after (h ∷ older) interface node index =
    if (node == h.node) && bytes_eq interface h.interface then state_with (state_after older interface node index) index h.event
    else state_after older interface node index

-- a PDO is followed: it is in the table, or there is room
abbrev pub is_followed_in : List ShownPdo → List ℕ → ℕ → ℕ → Bool
is_followed_in table interface node index = list_any (is_of interface node index) table || nat_lt (length table) most_pdos

-- what the table has of a PDO: of one that isn't in it nothing was shown
abbrev pub shown_in : List ShownPdo → List ℕ → ℕ → ℕ → PdoState
shown_in table interface node index = option_map_or (λ state. state) (state_in table interface node index) nothing_shown
