-- A TPDO of type n = 2 to 240 answers each n-th SYNC (CiA 301, 7.5.2.37). With which one it begins is the
-- device's choice, and a slow device may send a frame after further SYNCs: until the next one came that
-- it answers.
use Rattle.std.specs.Prelude.{ℕ, ◌+◌, ◌-◌, ◌==◌, nat_lt, nat_le, Bool, true, ◌&&◌, ◌||◌, if◌then◌else◌, Option, Some}
use Rattle.conode_compare_pdos.specs.declared.cycle.Cycle.{Cycle}

-- the transmission types
abbrev pub is_cyclic : ℕ → Bool
is_cyclic n = nat_le 2 n && nat_le n 240

-- twice the greatest type: any frame may come after so many
abbrev pub most_counted : ℕ
most_counted = 480

-- nothing is known of the frames before: the next one may come at once
abbrev pub new_cycle : Cycle
new_cycle = record { syncs = most_counted; spare = 0; frames = 0 }

-- how many SYNCs came since the one that its last frame answered, at most
abbrev pub syncs_since : Cycle → ℕ
syncs_since cycle = cycle.spare + cycle.syncs

-- A SYNC with so many bytes came. One with a counter may begin the count anew, as that with the SYNC
-- start value (1800:06) does once.
abbrev pub cycle_synced : ℕ → Cycle → Cycle
cycle_synced length cycle =
    if length == 0 then record cycle { syncs = if nat_le most_counted cycle.syncs then most_counted else cycle.syncs + 1 }
    else new_cycle

-- A frame of type n that comes now can't answer a SYNC yet.
abbrev pub is_early : ℕ → Cycle → Bool
is_early n cycle = nat_lt (syncs_since cycle) n

-- A device that sends one SYNC too soon each time is early at frame n + 2. After one more the count begins
-- anew, so that SYNCs that the recorder lost don't add up.
abbrev pub is_counted_out : ℕ → Cycle → Bool
is_counted_out n cycle = nat_lt (n + 2) cycle.frames

-- with an early frame the count begins anew too
abbrev pub begins_anew : ℕ → Cycle → Bool
begins_anew n cycle = is_early n cycle || is_counted_out n cycle

-- It answers the n-th SYNC after the one that the frame before answered, or a later one: so many SYNCs
-- came since that, at most.
abbrev pub spare_after : ℕ → Cycle → ℕ
spare_after n cycle = if begins_anew n cycle || nat_le (n + n) (syncs_since cycle) then n else syncs_since cycle - n

-- so many frames are counted with it
abbrev pub frames_after : ℕ → Cycle → ℕ
frames_after n cycle = if is_early n cycle then 1 else (if is_counted_out n cycle then 1 else cycle.frames + 1)

-- It was sent. That counts where it is certain that it is of the type that is known.
abbrev pub cycle_sent : Bool → Option ℕ → Cycle → Cycle
cycle_sent true (Some n) cycle = if is_cyclic n then record { syncs = 0; spare = spare_after n cycle; frames = frames_after n cycle } else new_cycle
cycle_sent certain kind cycle = new_cycle
