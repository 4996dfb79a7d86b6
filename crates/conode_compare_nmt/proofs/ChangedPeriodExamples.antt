-- A period that may still run once 1017:00 has another, on both sides of each edge.
use Rattle.std.proofs.Common.{◌≡◌, ℕ, true, false, List, [], ◌∷◌, map, Option, Some, None, refl}
use Rattle.co_frame.specs.FrameContent.{FrameContent}
use Rattle.conode_explain_transfers.specs.declared.kinds.Side.TheVariants.{Client, Server}
use Rattle.co_value.specs.declared.key.Key.{Key}
use Rattle.conode_compare_nmt.specs.declared.finding.Finding.{Finding}
use Rattle.conode_compare_nmt.specs.declared.finding.Finding.TheVariants.{HeartbeatLate}
use Rattle.conode_compare_nmt.specs.declared.finding.NmtState.TheVariants.{Operational, PreOperational}
use Rattle.conode_compare_nmt.specs.Heartbeats.{answered_at, former_after, former_asked, late_finding, longest, may_be_of_change, newest_asked, overdue_by, period_asked, period_asked_by, runs_still, word_asked}
use Rattle.conode_compare_nmt.specs.States.{nothing_commanded}
use Rattle.conode_compare_nmt.proofs.Examples.{limits, pulse}

-- ---- which period may run

-- 1000 ms were asked to be written last, and before that nothing, less, as much, more
longest_of : map (λ former. longest former 1000) (None ∷ Some 999 ∷ Some 1000 ∷ Some 10000 ∷ []) ≡ 1000 ∷ 1000 ∷ 1000 ∷ 10000 ∷ []
longest_of = refl

-- a frame asks to replace 1000 ms, or nothing
written : map (former_asked (Some 1000)) (None ∷ Some 10000 ∷ []) ≡ Some 1000 ∷ Some 10000 ∷ []
written = refl

not_written : map (former_asked None) (None ∷ Some 5 ∷ []) ≡ None ∷ Some 5 ∷ []
not_written = refl

-- a client asks to write 1017:00, which has 1000 ms, and other entries; 1201h to 127Fh are of other SDO channels
abbrev key : ℕ → ℕ → Key
key index sub = record { index = index; sub = sub }

asked : map (λ k. period_asked k (Some 1000)) (key 0x1017 0 ∷ key 0x1017 1 ∷ key 0x1016 0 ∷ key 0x1018 0 ∷ []) ≡ Some 1000 ∷ None ∷ None ∷ None ∷ []
asked = refl

channels_asked : map (λ index. period_asked (key index 1) (Some 1000)) (0x1200 ∷ 0x1201 ∷ 0x127F ∷ 0x1280 ∷ []) ≡ None ∷ Some 65535 ∷ Some 65535 ∷ None ∷ []
channels_asked = refl

-- what it has isn't known: any that 16 bits have
unknown_asked : map (λ sub. period_asked (key 0x1017 sub) None) (0 ∷ 1 ∷ []) ≡ Some 65535 ∷ None ∷ []
unknown_asked = refl

-- by the request of a download, of a block download, and of an upload; and by an answer
abbrev named : ℕ → FrameContent
named first = record { id = 0x605; bytes = first ∷ 0x17 ∷ 0x10 ∷ 0 ∷ [] }

asked_by_frames : map (λ first. period_asked_by Client (named first) None) (0x2B ∷ 0xC2 ∷ 0x40 ∷ []) ≡ Some 65535 ∷ Some 65535 ∷ None ∷ []
asked_by_frames = refl

not_by_answer : period_asked_by Server (named 0x2B) None ≡ None
not_by_answer = refl

-- in one frame of two bytes; not in one of four, of another length, or with segments or blocks
abbrev written_by : ℕ → List ℕ → Option ℕ
written_by first last = word_asked (record { id = 0x605; bytes = first ∷ 0x17 ∷ 0x10 ∷ 0 ∷ 0x34 ∷ 0x12 ∷ 0 ∷ last })

words_asked : map (λ first. written_by first (0 ∷ [])) (0x2B ∷ 0x23 ∷ 0x22 ∷ 0x21 ∷ 0xC2 ∷ []) ≡ Some 0x1234 ∷ None ∷ None ∷ None ∷ None ∷ []
words_asked = refl

of_other_lengths : map (written_by 0x2B) ([] ∷ (0 ∷ 0 ∷ []) ∷ []) ≡ None ∷ None ∷ []
of_other_lengths = refl

-- the stamp of the answer, by which it is known again; it is known still, not yet, not any more
answers : answered_at None (Some 1000) (Some 5) 7 ∷ answered_at (Some 1000) (Some 500) (Some 5) 7 ∷ answered_at None None (Some 5) 7 ∷ answered_at (Some 1000) None (Some 5) 7 ∷ []
    ≡ Some 7 ∷ Some 5 ∷ Some 5 ∷ Some 5 ∷ []
answers = refl

-- ---- until when: 10000 ms, 10 ms and 1 % after 5 µs

runs : map (runs_still limits (Some 10000) (Some 5)) (10110005 ∷ 10110006 ∷ []) ≡ true ∷ false ∷ []
runs = refl

none_runs : runs_still limits (Some 10000) None 6 ∷ runs_still limits None (Some 5) 6 ∷ [] ≡ false ∷ false ∷ []
none_runs = refl

abbrev late_at : Option ℕ → ℕ → Option Finding
late_at former free = late_finding limits (Some 1000) (record pulse { former = former; answered = Some 5 }) free free

-- so until then no heartbeat is late by the new period; a shorter one changes nothing
long_one : map (late_at (Some 10000)) (1020006 ∷ 10110005 ∷ 10110006 ∷ []) ≡ None ∷ None ∷ Some (HeartbeatLate 10110001 1000) ∷ []
unfolding late_finding overdue_by
long_one = refl

short_one : map (λ former. late_at former 1020006) (None ∷ Some 0 ∷ Some 1000 ∷ []) ≡ Some (HeartbeatLate 1020001 1000) ∷ Some (HeartbeatLate 1020001 1000) ∷ Some (HeartbeatLate 1020001 1000) ∷ []
unfolding late_finding overdue_by
short_one = refl

-- of any one: 65535 ms, 10 ms and 1 %
any_one : map (late_at (Some 65535)) (1020006 ∷ 66200355 ∷ 66200356 ∷ []) ≡ None ∷ None ∷ Some (HeartbeatLate 66200351 1000) ∷ []
unfolding late_finding overdue_by
any_one = refl

-- ---- a heartbeat ends it

-- later than the tolerance after the answer; where it isn't known when that came
ended : map (former_after limits false (Some 10000) (Some 1000) (Some 5)) (10005 ∷ 10006 ∷ []) ≡ Some 10000 ∷ None ∷ []
ended = refl

ended_anyhow : former_after limits false (Some 10000) (Some 1000) None 10005 ≡ None
ended_anyhow = refl

-- not between the request and its answer
not_ended : former_after limits false (Some 10000) None (Some 5) 9000000 ≡ Some 10000
not_ended = refl

-- not by an early one, as at a change of the state
early : former_after limits true (Some 10000) (Some 1000) (Some 5) 10006 ≡ Some 10000
early = refl

-- nor by one that may be sent at a change of the state: it shows another one, or the one that a command leads to
changes : map (may_be_of_change (record nothing_commanded { state = Operational })) (5 ∷ 127 ∷ 4 ∷ []) ≡ false ∷ true ∷ true ∷ []
changes = refl

commanded_changes : map (λ due. may_be_of_change (record nothing_commanded { state = Operational; due = due }) 5) (Operational ∷ PreOperational ∷ []) ≡ true ∷ false ∷ []
commanded_changes = refl

-- no heartbeat is awaited longer for it
late_in_a_row : map (λ since. late_finding limits (Some 1000) (record pulse { since = Some since; former = Some 10000; answered = Some 5 }) 10110006 10110006) (9090005 ∷ 9090006 ∷ []) ≡ Some (HeartbeatLate 1020001 1000) ∷ None ∷ []
unfolding late_finding overdue_by
late_in_a_row = refl

-- ---- what a client asked last to write

-- a request to write 500 ms to 1017:00, or to 1018:00
abbrev pub request : ℕ → FrameContent
request index = record { id = 0x605; bytes = 0x2B ∷ index ∷ 0x10 ∷ 0 ∷ 0xF4 ∷ 1 ∷ 0 ∷ 0 ∷ [] }

-- to write other numbers to 1017:00
abbrev pub write : ℕ → FrameContent
write low = record { id = 0x605; bytes = 0x2B ∷ 0x17 ∷ 0x10 ∷ 0 ∷ low ∷ 1 ∷ 0 ∷ 0 ∷ [] }

-- another entry, an answer, and an upload
kept : newest_asked Client (request 0x18) (Some 5) ∷ newest_asked Server (write 0xF4) (Some 5) ∷ newest_asked Client (record { id = 0x605; bytes = 0x40 ∷ 0x17 ∷ 0x10 ∷ 0 ∷ 0 ∷ 0 ∷ 0 ∷ 0 ∷ [] }) (Some 5) ∷ []
    ≡ Some 5 ∷ Some 5 ∷ Some 5 ∷ []
kept = refl
