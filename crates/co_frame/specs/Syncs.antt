-- Synchronization (CiA 301, 7.2.5).
use Rattle.std.specs.Prelude.{◌≡◌, ℕ, Option, Some, None, List, [], ◌∷◌}
use Rattle.co_frame.specs.declared.sync.Sync.{Sync}

-- no byte without a counter, and one byte with one
abbrev pub SpellsSync : Sync → List ℕ → Type 0
SpellsSync sync [] = sync.counter ≡ None
SpellsSync sync (byte ∷ []) = sync.counter ≡ Some byte
SpellsSync sync (first ∷ second ∷ bytes) = ⊥

-- the byte of a counter, if there is one
abbrev pub counter_bytes : Option ℕ → List ℕ
counter_bytes None = []
counter_bytes (Some counter) = counter ∷ []

-- the data bytes of a SYNC
abbrev pub sync_bytes : Sync → List ℕ
sync_bytes sync = counter_bytes sync.counter

-- what the data bytes say
abbrev pub sync_in : List ℕ → Option Sync
sync_in [] = Some (record { counter = None })
sync_in (byte ∷ []) = Some (record { counter = Some byte })
sync_in (first ∷ second ∷ bytes) = None
