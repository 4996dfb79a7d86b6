-- Which frames of a TPDO that answers each n-th SYNC come too early, on both sides of each edge, computed from the definitions.
use Rattle.std.proofs.Common.{◌≡◌, ℕ, ◌+◌, ◌++◌, Bool, true, false, List, [], ◌∷◌, map, Some, None, refl}
use Rattle.std.specs.Prelude.{pos}
use Rattle.co_profile.specs.declared.access.Access.TheVariants.{Rw}
use Rattle.co_sheet.specs.Content.{Row}
use Rattle.co_sheet.specs.Limits.{number}
use Rattle.co_value.specs.declared.data_type.DataType.TheVariants.{Unsigned32}
use Rattle.conode_explain_transfers.specs.declared.ended.Ending.TheVariants.{Done}
use Rattle.conode_explain_transfers.specs.declared.kinds.Direction.TheVariants.{Upload}
use Rattle.conode_explain_transfers.specs.declared.kinds.Protocol.TheVariants.{Expedited}
use Rattle.conode_compare_pdos.specs.declared.cycle.Cycle.{Cycle}
use Rattle.conode_compare_pdos.specs.declared.deviation.Deviation.TheVariants.{NotOperational, WithoutSync, FewSyncs}
use Rattle.conode_compare_pdos.specs.declared.deviation.Moment.{Moment}
use Rattle.conode_compare_pdos.specs.declared.parameters.Parameters.{Parameters}
use Rattle.conode_compare_pdos.specs.declared.tpdo.Tpdo.{Tpdo}
use Rattle.conode_compare_pdos.specs.Cycles.{cycle_sent, cycle_synced, is_cyclic, is_early, new_cycle}
use Rattle.conode_compare_pdos.specs.Deviations.{deviation_at, time_deviation}
use Rattle.conode_compare_pdos.specs.Followed.{cycle_of, framed, unknown_pdos}
use Rattle.conode_compare_pdos.specs.Tpdos.{after_command, after_frame, after_gap, after_poll, after_request, after_sync, after_transfer, booted_tpdo}

-- ---- frames

-- so many SYNCs came
abbrev passed : ℕ → Cycle → Cycle
passed count cycle = record cycle { syncs = cycle.syncs + count }

-- of the frames of a TPDO of type n, before each of which so many SYNCs came, which are early
early_in : ℕ → Cycle → List ℕ → List Bool
early_in n cycle [] = []
early_in n cycle (count ∷ later) = is_early n (passed count cycle) ∷ early_in n (cycle_sent true (Some n) (passed count cycle)) later

types : map is_cyclic (1 ∷ 2 ∷ 240 ∷ 241 ∷ []) ≡ false ∷ true ∷ true ∷ false ∷ []
types = refl

-- at each fourth, whichever is the first
exact : early_in 4 new_cycle (1 ∷ 4 ∷ 4 ∷ 4 ∷ []) ≡ false ∷ false ∷ false ∷ false ∷ []
unfolding early_in
exact = refl

-- at each: three frames in turn come after fewer SYNCs than the type; then the count begins anew
at_each : early_in 4 new_cycle (1 ∷ 1 ∷ 1 ∷ 1 ∷ 1 ∷ []) ≡ false ∷ false ∷ true ∷ false ∷ true ∷ []
unfolding early_in
at_each = refl

at_each_of_240 : early_in 240 new_cycle (1 ∷ 1 ∷ 1 ∷ []) ≡ false ∷ false ∷ true ∷ []
unfolding early_in
at_each_of_240 = refl

at_each_of_2 : early_in 2 new_cycle (1 ∷ 1 ∷ 1 ∷ 1 ∷ []) ≡ false ∷ false ∷ false ∷ true ∷ []
unfolding early_in
at_each_of_2 = refl

-- one SYNC too early each time
at_each_third : early_in 4 new_cycle (1 ∷ 3 ∷ 3 ∷ 3 ∷ 3 ∷ 3 ∷ []) ≡ false ∷ false ∷ false ∷ false ∷ false ∷ true ∷ []
unfolding early_in
at_each_third = refl

-- the first is sent as the next one is to be, and the next ones in time
slow : early_in 4 new_cycle (4 ∷ 0 ∷ 4 ∷ 4 ∷ []) ≡ false ∷ false ∷ false ∷ false ∷ []
unfolding early_in
slow = refl

not_so_slow : early_in 4 new_cycle (4 ∷ 0 ∷ 4 ∷ 3 ∷ []) ≡ false ∷ false ∷ false ∷ true ∷ []
unfolding early_in
not_so_slow = refl

-- one is missing: those after it may be as early as ever
missing : early_in 4 new_cycle (4 ∷ 0 ∷ 8 ∷ 0 ∷ 4 ∷ 3 ∷ []) ≡ false ∷ false ∷ false ∷ false ∷ false ∷ true ∷ []
unfolding early_in
missing = refl

-- n - 1, n, 2n - 1, 2n and 2n + 1 SYNCs since the one that the last frame answered
spares : map (λ since. cycle_sent true (Some 4) (record { syncs = since; spare = 0; frames = 0 })) (3 ∷ 4 ∷ 7 ∷ 8 ∷ 9 ∷ [])
    ≡ record { syncs = 0; spare = 4; frames = 1 } ∷ record { syncs = 0; spare = 0; frames = 1 } ∷ record { syncs = 0; spare = 3; frames = 1 } ∷ record { syncs = 0; spare = 4; frames = 1 } ∷ record { syncs = 0; spare = 4; frames = 1 } ∷ []
spares = refl

-- after n + 3 frames the count begins anew; and with an early one
counted_out : map (λ frames. cycle_sent true (Some 4) (record { syncs = 3; spare = 1; frames = frames })) (6 ∷ 7 ∷ [])
    ++ cycle_sent true (Some 4) (record { syncs = 3; spare = 0; frames = 6 }) ∷ []
    ≡ record { syncs = 0; spare = 0; frames = 7 } ∷ record { syncs = 0; spare = 4; frames = 1 } ∷ record { syncs = 0; spare = 4; frames = 1 } ∷ []
counted_out = refl

-- SYNCs that the recorder lost now and then don't add up
lost : early_in 2 new_cycle (2 ∷ 1 ∷ 2 ∷ 2 ∷ 2 ∷ 1 ∷ 1 ∷ 1 ∷ []) ≡ false ∷ false ∷ false ∷ false ∷ false ∷ false ∷ false ∷ false ∷ []
unfolding early_in
lost = refl

-- it isn't certain that it is of this type; it is of another type, or of one that isn't known
uncounted : cycle_sent false (Some 4) (record { syncs = 4; spare = 0; frames = 0 }) ∷ cycle_sent true (Some 1) (record { syncs = 4; spare = 0; frames = 0 }) ∷ cycle_sent true None (record { syncs = 4; spare = 0; frames = 0 }) ∷ []
    ≡ new_cycle ∷ new_cycle ∷ new_cycle ∷ []
uncounted = refl

-- ---- SYNCs

counted : map (λ syncs. cycle_synced 0 (record { syncs = syncs; spare = 3; frames = 0 })) (0 ∷ 479 ∷ 480 ∷ [])
    ≡ record { syncs = 1; spare = 3; frames = 0 } ∷ record { syncs = 480; spare = 3; frames = 0 } ∷ record { syncs = 480; spare = 3; frames = 0 } ∷ []
counted = refl

-- one with a counter
with_counter : cycle_synced 1 (record { syncs = 0; spare = 3; frames = 0 }) ≡ new_cycle
with_counter = refl

-- ---- a difference

abbrev at : Moment
at = record { micros = 900000; free = 900000; tolerance = 10; drift = 1; idle = false; known = true; commanded = None }

abbrev parameters : ℕ → Parameters
parameters kind = record { id = Some 0x188; kind = Some kind; inhibit = Some 0; timer = Some 0; length = Some 4 }

-- of type 4; one SYNC came since its last frame, and since the one that this answered up to three
abbrev early : Tpdo
early = record (booted_tpdo (Some (record { syncs = 1; spare = 2; frames = 0 })) (parameters 4)) { syncs = 1 }

found_early : deviation_at at true early 4 ≡ Some (FewSyncs 1 4)
unfolding deviation_at time_deviation
found_early = refl

in_time : deviation_at at true (record early { cycle = Some (record { syncs = 1; spare = 3; frames = 0 }) }) 4 ≡ None
unfolding deviation_at time_deviation
in_time = refl

-- after no SYNC it is that
without_sync : deviation_at at true (record early { syncs = 0 }) 4 ≡ Some WithoutSync
unfolding deviation_at time_deviation
without_sync = refl

-- where the identifier of SYNC or the state isn't known, SYNCs aren't counted, or a parameter was just written
not_found : deviation_at at false early 4 ∷ deviation_at (record at { known = false }) true early 4 ∷ deviation_at at true (record early { cycle = None }) 4 ∷ deviation_at at true (record early { changed = Some 890000 }) 4 ∷ []
    ≡ None ∷ None ∷ None ∷ None ∷ []
unfolding deviation_at time_deviation
not_found = refl

written_before : deviation_at at true (record early { changed = Some 889999 }) 4 ≡ Some (FewSyncs 1 4)
unfolding deviation_at time_deviation
written_before = refl

-- within the tolerance after the frame before, which may have been late
close : map (λ micros. deviation_at at true (record early { sent = Some (record { free = micros; micros = micros }) }) 4) (890000 ∷ 889999 ∷ [])
    ≡ None ∷ Some (FewSyncs 1 4) ∷ []
unfolding deviation_at time_deviation
close = refl

while_idle : deviation_at (record at { idle = true }) true early 4 ≡ Some NotOperational
unfolding deviation_at time_deviation
while_idle = refl

-- of types 2 to 240 alone; three SYNCs are enough for type 3
of_types : map (λ (p : Parameters). deviation_at at true (record early { parameters = p }) 4) (parameters 1 ∷ parameters 3 ∷ parameters 4 ∷ parameters 240 ∷ parameters 241 ∷ record (parameters 4) { kind = None } ∷ [])
    ≡ None ∷ None ∷ Some (FewSyncs 1 4) ∷ Some (FewSyncs 1 240) ∷ None ∷ None ∷ []
unfolding deviation_at time_deviation
of_types = refl

-- ---- where the count begins anew, and where it ends

abbrev sent : Tpdo
sent = after_frame at 0x188 4 (booted_tpdo (Some new_cycle) (parameters 4))

frame : sent.cycle ≡ Some (record { syncs = 0; spare = 4; frames = 1 })
frame = refl

-- while the state isn't known, or it isn't operational; within the tolerance after a parameter is written; of another one
other_frames : map (λ (pdo : Tpdo). pdo.cycle)
    (after_frame (record at { known = false }) 0x188 4 sent ∷ after_frame (record at { idle = true }) 0x188 4 sent ∷ after_frame at 0x188 4 (record sent { changed = Some 890000 }) ∷ after_frame at 0x189 4 sent ∷ [])
    ≡ Some new_cycle ∷ Some new_cycle ∷ Some new_cycle ∷ sent.cycle ∷ []
other_frames = refl

-- a command, a gap, a write, a value that is shown
begun_anew : map (λ (pdo : Tpdo). pdo.cycle)
    (after_command sent ∷ after_gap sent ∷ after_request (record { index = 0x1800; sub = 6 }) 7 0 sent ∷ after_request (record { index = 0x1A00; sub = 1 }) 7 0 sent
    ∷ after_transfer (record {
      key = record { index = 0x1800; sub = 2 };
      direction = Upload;
      protocol = Expedited;
      bytes = 1;
      first = record { items = 4 ∷ [] };
      frames = 2;
      begun = 5;
      newest = 6;
      end = 7;
      ending = Done false;
      fault = None;
    }) 7 0 sent ∷ [])
    ≡ Some new_cycle ∷ Some new_cycle ∷ Some new_cycle ∷ Some new_cycle ∷ Some new_cycle ∷ []
begun_anew = refl

-- once a remote frame asked for it SYNCs aren't counted
asked_for : map (λ (pdo : Tpdo). pdo.cycle) (after_poll 0x188 sent ∷ after_poll 0x189 sent ∷ after_command (after_poll 0x188 sent) ∷ after_frame at 0x188 4 (after_sync 0 (after_poll 0x188 sent)) ∷ [])
    ≡ None ∷ sent.cycle ∷ None ∷ None ∷ []
asked_for = refl

-- a SYNC without a counter, and one with it
synced : map (λ length. (framed (record unknown_pdos { sync = Some 0x80; first = sent }) at 0x80 length).first.cycle) (0 ∷ 1 ∷ [])
    ≡ Some (record { syncs = 1; spare = 4; frames = 1 }) ∷ Some new_cycle ∷ []
unfolding framed
synced = refl

-- a device that may become operational by itself
abbrev row : ℕ → Row
row index = record {
  key = record { index = index; sub = 0 };
  data_type = Unsigned32;
  access = Rw;
  low = None;
  high = None;
  default = number (pos 8);
  mappable = false;
  name = None;
  line = 1;
}

by_sheet : map (λ index. cycle_of (row index ∷ [])) (0x1F7F ∷ 0x1F80 ∷ []) ≡ Some new_cycle ∷ None ∷ []
by_sheet = refl
