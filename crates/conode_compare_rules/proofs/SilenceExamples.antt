-- A request that isn't answered, at a heartbeat, or late, on both sides of each edge.
use Rattle.std.proofs.Common.{◌≡◌, ℕ, Bool, true, false, [], ◌∷◌, map, Option, Some, None, refl}
use Rattle.co_frame.specs.declared.nmt.NmtService.TheVariants.{Start, EnterPreOperational}
use Rattle.conode_explain_transfers.specs.declared.kinds.What.TheVariants.{Part}
use Rattle.co_value.specs.declared.key.Key.{Key}
use Rattle.conode_compare_transfers.specs.declared.dialogue.Dialogue.{Dialogue}
use Rattle.conode_compare_transfers.specs.Dialogues.{is_certain, nothing_asked}
use Rattle.conode_compare_nmt.specs.declared.finding.Finding.{Finding}
use Rattle.conode_compare_nmt.specs.declared.finding.Finding.TheVariants.{NoAnswer}
use Rattle.conode_compare_nmt.specs.declared.finding.NmtState.TheVariants.{Unknown, Operational, Stopped}
use Rattle.conode_compare_nmt.specs.declared.leaving.Leaving.TheVariants.{Nothing, Awaited, Shown}
use Rattle.conode_compare_nmt.specs.declared.limits.Limits.{Limits}
use Rattle.conode_compare_nmt.specs.declared.nmt.Nmt.{Nmt}
use Rattle.conode_compare_rules.specs.Answers.{could_answer_since, overdue_answer, shows_stopped, silence_finding}
use Rattle.conode_compare_nmt.specs.States.{after_command, is_settled}

abbrev limits : Limits
limits = record { tolerance = 10; drift = 1; answer = 1000; boot = 10000; time = None }

abbrev operational : Nmt
operational = record { state = Operational; commanded = None; reset = None; several = false; booted = None; due = Unknown; followed = None; changed = None; strayed = Unknown; mixed = false; odd = None; leaving = Nothing }

abbrev awaited : Key
awaited = record { index = 0x1000; sub = 0 }

abbrev asking : Dialogue
asking = record nothing_asked { asked = Some (record { key = awaited; micros = 2000000; writes = false; switches = false }) }

late : silence_finding limits 0 operational asking 3000001 5 ≡ Some (NoAnswer awaited 1000001)
unfolding silence_finding is_settled is_certain
late = refl

not_yet : silence_finding limits 0 operational asking 3000000 5 ≡ None
unfolding silence_finding is_settled is_certain
not_yet = refl

-- a heartbeat showed another state, 10 ms before the request and later
changed_before : map (λ changed. silence_finding limits 0 (record operational { changed = Some changed }) asking 3000001 5) (1989999 ∷ 1990000 ∷ []) ≡ Some (NoAnswer awaited 1000001) ∷ None ∷ []
unfolding silence_finding is_settled is_certain
changed_before = refl

-- it may be stopped still after a command that leads out of that; a frame showed that it isn't, with the request or
-- before it
stopped_still : map (λ leaving. silence_finding limits 0 (record operational { leaving = leaving }) asking 3000001 5) (Awaited ∷ Shown 2000000 ∷ Shown 1999999 ∷ [])
    ≡ None ∷ None ∷ Some (NoAnswer awaited 1000001) ∷ []
unfolding silence_finding is_settled is_certain
stopped_still = refl

-- ---- a late answer

-- it may have been stopped as it was asked, or since
in_time_to : map (λ leaving. could_answer_since limits (record operational { leaving = leaving }) asking.asked) (Nothing ∷ Awaited ∷ Shown 2000000 ∷ Shown 1999999 ∷ [])
    ≡ true ∷ false ∷ false ∷ true ∷ []
in_time_to = refl

shown_stopped : map (λ changed. could_answer_since limits (record operational { changed = Some changed }) asking.asked) (1989999 ∷ 1990000 ∷ []) ≡ true ∷ false ∷ []
shown_stopped = refl

not_asked : could_answer_since limits operational None ≡ false
not_asked = refl

-- it answers 1,000,001 µs later, or 1,000,000
abbrev answered_by : Nmt → Bool → ℕ → Option Finding
answered_by nmt owed micros = overdue_answer limits nmt (record {
  heard = record { what = Part; of = None; ended = None };
  asked = asking.asked;
  owed = owed;
  certain = true;
  breach = None;
  awaited = None;
}) micros

answers_late : map (answered_by operational true) (3000000 ∷ 3000001 ∷ []) ≡ None ∷ Some (NoAnswer awaited 1000001) ∷ []
answers_late = refl

excused : answered_by (record operational { leaving = Awaited }) true 3000001 ∷ answered_by operational false 3000001 ∷ [] ≡ None ∷ None ∷ []
excused = refl

-- a Stop came after the request, and then a Start
leaves : map (λ service. (after_command (record operational { state = Stopped }) service false 2500000).leaving) (Start ∷ EnterPreOperational ∷ []) ≡ Awaited ∷ Awaited ∷ []
unfolding after_command
leaves = refl

-- ---- a heartbeat

-- that shows stopped: it may have stopped by itself before the request
stopped_since : silence_finding limits 0 operational asking 3000001 4 ≡ None
unfolding silence_finding
stopped_since = refl

-- so does an answer of node guarding with its toggle bit
stopped_bytes : map shows_stopped (4 ∷ 0x84 ∷ 5 ∷ 0x85 ∷ 127 ∷ 255 ∷ []) ≡ true ∷ true ∷ false ∷ false ∷ false ∷ false ∷ []
stopped_bytes = refl
