-- Entries that were set since the application asked: by SDO, by RPDOs or by a reset, also to the
-- bytes that they had.
use Rattle.std.specs.Prelude.{◌≡◌, ℕ, suc, ◌+◌, ◌/◌, ◌<◌, ◌≤◌, Bool, true, false, if◌then◌else◌, List, [], ◌∷◌, Option, Some, None, replicate}
use Rattle.std.specs.Option.{option_map_or}
use Rattle.std.specs.Box.{boxed_slice_items}
use Rattle.co_dict.specs.declared.area.Area.{Area}
use Rattle.co_dict.specs.declared.area.Area.TheVariants.{All, Communication}
use Rattle.co_dict.specs.Rows.{is_in_area}
use Rattle.co_dict_placed.specs.Changes.{is_changed, with_change, with_keys, without_change}
use Rattle.co_dict_table.specs.Entries.{EntryContent}
use Rattle.co_node_model.specs.Inputs.{InputView, Inputs}
use Rattle.co_node_model.specs.Moments.{Constants}
use Rattle.co_node_device.specs.declared.seen.Seen.{Seen}
use Rattle.co_node_device.specs.declared.seen.Seen.TheVariants as seen
use Rattle.co_node_device.specs.Lasts.{last_seen}
use Rattle.co_node_device.specs.SetEntries.{last_set}
use Rattle.bafokun.specs.declared.held.Held.{Held}
use Rattle.bafokun.specs.declared.handle.Handle.{Handle}

-- a bit for each of so many entries, none of them set: a byte for each eight, and one more
abbrev pub no_changes : ℕ → List ℕ
no_changes count = replicate (count / 8 + 1) 0

-- ---- what one input adds

-- the area that a reset restores, by what is seen of an input (7.3.2.2.1)
abbrev pub reset_seen : Seen → Option Area
reset_seen seen.Nothing = None
reset_seen seen.ResetNode = Some All
reset_seen seen.ResetCommunication = Some Communication
reset_seen seen.Sync = None
reset_seen seen.Rpdo = None
reset_seen (seen.Heartbeat node) = None

-- the changes with that of an entry with a number, if it is in an area
abbrev pub with_entry : Area → EntryContent → ℕ → List ℕ → List ℕ
with_entry area e number changes = if is_in_area area e.facts.key then with_change changes number else changes

-- the changes with those of all entries in an area, which are numbered from a number on
abbrev pub with_area : Area → List EntryContent → ℕ → List ℕ → List ℕ
with_area area [] number changes = changes
with_area area (e ∷ entries) number changes = with_area area entries (suc number) (with_entry area e number changes)

-- the changes with those of a reset, if one is seen: it sets each entry of its area to its default
abbrev pub with_reset : Seen → List EntryContent → List ℕ → List ℕ
with_reset s entries changes = option_map_or (λ area. with_area area entries 0 changes) (reset_seen s) changes

-- the changes with those of one more input: what it sets by SDO and RPDOs, or by a reset
abbrev pub and_set : Constants → Inputs → InputView → List EntryContent → List ℕ → List ℕ
and_set k before input entries changes =
    with_reset (last_seen k (input ∷ before)) entries (with_keys k.description (last_set k (input ∷ before)) changes)

-- ---- the answer

-- no entry from one number up to another changed
abbrev pub AreUnchanged : List ℕ → ℕ → ℕ → Type 0
AreUnchanged changes from to = (n : ℕ) → from ≤ n → n < to → is_changed changes n ≡ false

-- the first of so many entries that changed, from a number on, if any
abbrev pub IsNext : ℕ → List ℕ → ℕ → Option ℕ → Type 0
IsNext count changes from None = AreUnchanged changes from count
IsNext count changes from (Some number) =
    (from ≤ number) × (number < count) × (is_changed changes number ≡ true) × AreUnchanged changes from number

-- the changes after the number of an entry was returned, if one was
abbrev pub left_after : List ℕ → Option ℕ → List ℕ
left_after changes None = changes
left_after changes (Some number) = without_change changes number

-- C gets the number of the first entry that changed, which is forgotten then; if there is none,
-- nothing changes
abbrev pub IsGiven : ℕ → List ℕ → ℕ → ℕ → ℕ → Bool → List ℕ → Type 0
IsGiven count changes from before after false later =
    (after ≡ before) × IsNext count changes from None × (later ≡ changes)
IsGiven count changes from before after true later =
    IsNext count changes from (Some after) × (later ≡ left_after changes (Some after))

-- ---- of a device

-- the changes of a held device
abbrev pub changes_in : Option Held → List ℕ
changes_in None = []
changes_in (Some held) = boxed_slice_items held.changes

-- the changes of a place's device since the application asked
abbrev pub changes_of : Handle → List ℕ
changes_of place = changes_in place.seal.value
