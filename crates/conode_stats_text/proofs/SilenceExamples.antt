-- Which nodes are silent at the end, evaluated.
use Rattle.std.proofs.Common.{ℕ, Option, [], ◌∷◌, ◌≡◌, Some, None, true, false, refl}
use Rattle.std.specs.Prelude.{List}
use Rattle.conode_stats_counts.specs.declared.guarding.ErrorControl.{ErrorControl}
use Rattle.conode_stats_counts.specs.declared.guarding.ErrorControl.TheVariants.{Nothing, Heartbeat, AskedHeartbeat, TimedHeartbeat, Requested, Answer}
use Rattle.conode_stats_counts.specs.declared.node.Node.{Node}
use Rattle.conode_stats_counts.specs.declared.row.Row.{Row}
use Rattle.conode_stats_counts.specs.declared.state.NmtState.TheVariants.{BootUp}
use Rattle.conode_stats_counts.specs.declared.tally.Tally.{Tally}
use Rattle.conode_stats_counts.specs.Buses.{BusCounts}
use Rattle.conode_stats_text.specs.declared.finding.Finding.TheVariants.{Silent}
use Rattle.conode_stats_text.specs.declared.finding.Kind.TheVariants.{Silence as SilenceKind}
use Rattle.conode_stats_text.specs.declared.pace.Pace.TheVariants.{Written, Sheet, Median, Pdos}
use Rattle.conode_stats_text.specs.declared.silence.Silence.{Silence}
use Rattle.conode_stats_text.specs.declared.silence.Source.TheVariants.{Commands, Syncs, Sender}
use Rattle.conode_stats_text.specs.Findings.{node_finding}
use Rattle.conode_stats_text.specs.Paces.{median}
use Rattle.conode_stats_text.specs.Silences.{beat_silence, is_cyclic, is_from, is_tpdo, later, pdo_silence, silence_of}
use Rattle.conode_stats_text.proofs.NodeExamples.{ended_at, last, server}
use Rattle.conode_stats_text.proofs.PaceExamples.{heartbeats}

-- ---- by heartbeats: the last one at 1 s, by 100 ms

abbrev by_beats : Node
by_beats = record (server None) { heartbeats = heartbeats (Some 100) 2 0 [] }

not_silent : beat_silence (ended_at 1150000) None by_beats ≡ None
not_silent = refl

silent : beat_silence (ended_at 1150001) None by_beats ≡ Some (record { since = 1000000; pace = Written 100 })
silent = refl

-- the clock was set back by a second since: 100 ms up to then, and 50 ms from then on
abbrev set_back : ℕ → Tally
set_back last = record (ended_at last) { steps_back = 1; step_from = 1100000; step_to = 5000 }

not_silent_set_back : beat_silence (set_back 55000) None by_beats ≡ None
not_silent_set_back = refl

silent_set_back : beat_silence (set_back 55001) None by_beats ≡ Some (record { since = 1000000; pace = Written 100 })
silent_set_back = refl

-- ---- by guarding answers, the last one at 1 s: of requests that it didn't answer the first one, at 1.1 s

abbrev controlled : ErrorControl → Option ℕ → Node
controlled control asked = record by_beats { guarding = record { control = control; asked = asked } }

abbrev guarded : Option ℕ → Node
guarded asked = controlled (Answer true) asked

no_longer_guarded : beat_silence (ended_at 9000000) None (guarded None) ≡ None
no_longer_guarded = refl

answer_awaited : beat_silence (ended_at 1250000) None (guarded (Some 1100000)) ≡ None
answer_awaited = refl

answer_missing : beat_silence (ended_at 1250001) None (guarded (Some 1100000)) ≡ Some (record { since = 1100000; pace = Written 100 })
answer_missing = refl

-- though a sheet says that it sends heartbeats: its toggle bits show that it doesn't
guarded_all_the_same : beat_silence (ended_at 9000000) (Some 100) (controlled (Answer false) None) ≡ None
guarded_all_the_same = refl

-- one that has heartbeats doesn't answer a request
asked_in_vain : beat_silence (ended_at 1150001) None (controlled Heartbeat (Some 1100000)) ≡ Some (record { since = 1000000; pace = Written 100 })
asked_in_vain = refl

asked_once_in_vain : beat_silence (ended_at 1150001) None (controlled AskedHeartbeat (Some 1100000)) ≡ Some (record { since = 1000000; pace = Written 100 })
asked_once_in_vain = refl

asked_always_in_vain : beat_silence (ended_at 1150001) None (controlled TimedHeartbeat (Some 1100000)) ≡ Some (record { since = 1000000; pace = Written 100 })
asked_always_in_vain = refl

-- nor has one that sent nothing yet
none_sent : beat_silence (ended_at 1150001) None (controlled Nothing None) ≡ Some (record { since = 1000000; pace = Written 100 })
none_sent = refl

-- ---- the last frame of error control came after a request, by the median of 100 ms, and by a sheet with 100 ms

abbrev asked_last : Option ℕ → Node
asked_last asked = record (controlled Requested asked) { heartbeats = heartbeats None 0 0 (100000 ∷ 100000 ∷ []) }

no_longer_asked : beat_silence (ended_at 9000000) None (asked_last None) ≡ None
unfolding median
no_longer_asked = refl

not_answered : beat_silence (ended_at 1250001) None (asked_last (Some 1100000)) ≡ Some (record { since = 1100000; pace = Median 100000 })
unfolding median
not_answered = refl

sheet_in_time : beat_silence (ended_at 1150000) (Some 100) (asked_last None) ≡ None
sheet_in_time = refl

by_the_sheet : beat_silence (ended_at 1150001) (Some 100) (asked_last (Some 1100000)) ≡ Some (record { since = 1000000; pace = Sheet 100 })
by_the_sheet = refl

-- ---- who sends a frame: the identifiers of node 5 and of its neighbours in the table (CiA 301, 7.3.3)

first_tpdo : is_tpdo 5 0x185 ≡ true
first_tpdo = refl

second_tpdo : is_tpdo 5 0x285 ≡ true
second_tpdo = refl

third_tpdo : is_tpdo 5 0x385 ≡ true
third_tpdo = refl

fourth_tpdo : is_tpdo 5 0x485 ≡ true
fourth_tpdo = refl

other_tpdo : is_tpdo 5 0x186 ≡ false
other_tpdo = refl

rpdo : is_from (Sender 5) 0x205 ≡ false
rpdo = refl

sdo_response : is_from (Sender 5) 0x585 ≡ true
sdo_response = refl

sdo_request : is_from (Sender 5) 0x605 ≡ false
sdo_request = refl

emcy : is_from (Sender 5) 0x85 ≡ true
emcy = refl

heartbeat : is_from (Sender 5) 0x705 ≡ true
heartbeat = refl

-- an identifier of 29 bits has bit 31
extended : is_from (Sender 5) 0x80000185 ≡ false
extended = refl

command : is_from Commands 0 ≡ true
command = refl

sync : is_from Syncs 0x80 ≡ true
sync = refl

no_sync : is_from Syncs 0x100 ≡ false
no_sync = refl

-- ---- the newest of two, before and after the clock was set back

newer : later (ended_at 9) (Some 5) 6 ≡ Some 6
newer = refl

older : later (ended_at 9) (Some 6) 5 ≡ Some 6
older = refl

newer_set_back : later (set_back 55001) (Some 1000000) 50000 ≡ Some 50000
newer_set_back = refl

-- ---- cyclic TPDOs: their last frame at 10 s, a mean gap of 100 ms

abbrev tally : ℕ → ℕ → ℕ → Tally
tally gaps greatest last = record {
  first = 8000000;
  last = last;
  frames = 21;
  steps_back = 0;
  step_from = 0;
  step_to = 0;
  gaps = gaps;
  total = 2000000;
  smallest = 90000;
  greatest = greatest;
}

few_gaps : is_cyclic (record (tally 19 100000 10000000) { total = 1900000 }) ≡ false
few_gaps = refl

steady : is_cyclic (tally 20 200001 10000000) ≡ true
steady = refl

unsteady : is_cyclic (tally 20 200002 10000000) ≡ false
unsteady = refl

-- ---- by PDOs

abbrev tpdo : ℕ → ℕ → Row
tpdo id greatest = record { can_id = id; tally = tally 20 greatest 10000000 }

-- one frame with this stamp
abbrev at : ℕ → ℕ → Row
at id stamp = record { can_id = id; tally = tally 0 0 stamp }

abbrev since : ℕ → ℕ → Option Silence
since stamp gap = Some (record { since = stamp; pace = Pdos gap })

abbrev alone : List Row
alone = tpdo 0x185 200000 ∷ []

in_time : pdo_silence (ended_at 11000000) alone 5 ≡ None
unfolding pdo_silence
in_time = refl

missed : pdo_silence (ended_at 11000001) alone 5 ≡ since 10000000 200000
unfolding pdo_silence
missed = refl

-- it is of node 5, and the RPDO of no node
of_another : pdo_silence (ended_at 20000000) alone 6 ≡ None
unfolding pdo_silence
of_another = refl

of_none : pdo_silence (ended_at 20000000) (tpdo 0x205 200000 ∷ []) 5 ≡ None
unfolding pdo_silence
of_none = refl

-- PDOs that come when something happens
irregular : pdo_silence (ended_at 20000000) (tpdo 0x185 300000 ∷ []) 5 ≡ None
unfolding pdo_silence
irregular = refl

-- of two the one with the smaller gap
two : pdo_silence (ended_at 11000001) (tpdo 0x285 190000 ∷ tpdo 0x185 200000 ∷ []) 5 ≡ since 10000000 190000
unfolding pdo_silence
two = refl

-- another frame of the node, at most a gap after the PDO, and later
also : pdo_silence (ended_at 20000000) (at 0x585 10200000 ∷ alone) 5 ≡ since 10200000 200000
unfolding pdo_silence
also = refl

goes_on : pdo_silence (ended_at 20000000) (at 0x585 10200001 ∷ alone) 5 ≡ None
unfolding pdo_silence
goes_on = refl

-- on a bus with SYNC up to the last one
sync_ends : pdo_silence (ended_at 20000000) (at 0x80 11000000 ∷ alone) 5 ≡ None
unfolding pdo_silence
sync_ends = refl

sync_goes_on : pdo_silence (ended_at 20000000) (at 0x80 11000001 ∷ alone) 5 ≡ since 10000000 200000
unfolding pdo_silence
sync_goes_on = refl

-- an NMT command more than a gap before its last frame, a gap before it, and after it
started : pdo_silence (ended_at 20000000) (at 0 9799999 ∷ alone) 5 ≡ since 10000000 200000
unfolding pdo_silence
started = refl

stopped : pdo_silence (ended_at 20000000) (at 0 9800000 ∷ alone) 5 ≡ None
unfolding pdo_silence
stopped = refl

stopped_later : pdo_silence (ended_at 20000000) (at 0 15000000 ∷ alone) 5 ≡ None
unfolding pdo_silence
stopped_later = refl

-- ---- the whole: a node that sent nothing of error control, or booted up last, and one with heartbeats

module _ (bus : BusCounts) where
  abbrev ended : ℕ → BusCounts
  ended end = record bus { all = ended_at end; rows = alone }

  without : silence_of (ended 11000001) None 5 (server None) ≡ since 10000000 200000
  unfolding silence_of pdo_silence median
  without = refl

  booted : silence_of (ended 11000001) None 5 (record (server None) { last = Some (record last { state = BootUp }) }) ≡ since 10000000 200000
  unfolding silence_of pdo_silence median
  booted = refl

  with_beats : silence_of (ended 11000001) None 5 (record (server None) { last = Some last }) ≡ None
  unfolding silence_of median
  with_beats = refl

  -- its heartbeats say it first
  by_both : silence_of (ended 11000001) None 5 (record (server None) { heartbeats = heartbeats (Some 100) 0 0 [] })
      ≡ Some (record { since = 1000000; pace = Written 100 })
  unfolding silence_of
  by_both = refl

  of_its_kind : node_finding SilenceKind (ended 11000001) None 5 (server None) ≡ Some (Silent (record { since = 10000000; pace = Pdos 200000 }))
  unfolding silence_of pdo_silence median
  of_its_kind = refl
