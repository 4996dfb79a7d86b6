-- An EMCY within the inhibit time of a device that may have been switched off and on since its last one, on both sides of each
-- edge.
use Rattle.std.proofs.Common.{◌≡◌, ℕ, true, false, [], ◌∷◌, map, Option, Some, None, refl}
use Rattle.conode_compare_nmt.specs.declared.finding.Finding.{Finding}
use Rattle.conode_compare_nmt.specs.declared.finding.Finding.TheVariants.{EmergencyInhibit, EmergencyRegister, EmergencyStopped}
use Rattle.conode_compare_rules.specs.declared.kind.FrameKind.TheVariants.{Emergency}
use Rattle.conode_compare_rules.specs.declared.progress.Progress.{Progress}
use Rattle.conode_compare_rules.specs.EmergencyRules.{emergency_finding, inhibit_finding, unless_uncounted, came_just_now, emergency_findings}
use Rattle.conode_compare_nmt.specs.Heartbeats.{late_finding, overdue_by}
use Rattle.conode_compare_rules.specs.Gaps.{begun}
use Rattle.conode_compare_rules.specs.Progresses.{findings_at}
use Rattle.conode_compare_nmt.specs.States.{is_settled}
use Rattle.conode_compare_rules.specs.Verdicts.{found}
use Rattle.conode_compare_rules.proofs.MissingExamples.{subject, waiting}

just_now : map (came_just_now (Some 5)) (1000005 ∷ 1000006 ∷ []) ≡ true ∷ false ∷ []
just_now = refl

none_before : came_just_now None 5 ≡ false
none_before = refl

-- then no other difference of an EMCY goes
others : map (unless_uncounted true) (None ∷ Some EmergencyStopped ∷ Some (EmergencyRegister 0x8130 0) ∷ Some (EmergencyInhibit 1 1000) ∷ [])
    ≡ None ∷ Some EmergencyStopped ∷ Some (EmergencyRegister 0x8130 0) ∷ None ∷ []
others = refl

runs_on : unless_uncounted false (Some (EmergencyInhibit 1 1000)) ≡ Some (EmergencyInhibit 1 1000)
runs_on = refl

-- 1015:00 has 5 s, 1017:00 has 1 s; its last EMCY and its last heartbeat came at these times
abbrev found_after : ℕ → ℕ → ℕ → Option Finding
found_after emergency heartbeat micros =
    let progress : Progress = record waiting {
      entries = record waiting.entries { inhibit = Some 50000 };
      emergency = Some emergency;
      heartbeats = record waiting.heartbeats { since = Some heartbeat };
    } in
    (findings_at subject [] progress micros (Emergency 0 0)).frame

-- more than a second after both it may have been switched off and on
after_both : map (found_after 5 5) (1000005 ∷ 1000006 ∷ []) ≡ Some (EmergencyInhibit 1000000 50000) ∷ None ∷ []
unfolding findings_at begun emergency_findings emergency_finding inhibit_finding found late_finding overdue_by is_settled
after_both = refl

after_emergency : found_after 5 6 1000006 ≡ Some (EmergencyInhibit 1000001 50000)
unfolding findings_at begun emergency_findings emergency_finding inhibit_finding found late_finding overdue_by is_settled
after_emergency = refl

after_heartbeat : found_after 6 5 1000006 ≡ Some (EmergencyInhibit 1000000 50000)
unfolding findings_at begun emergency_findings emergency_finding inhibit_finding found late_finding overdue_by is_settled
after_heartbeat = refl

-- so it may while its heartbeat is late: after 1000 ms, 10 ms and 1 %
heartbeat_late : map (found_after 900000 5) (1020005 ∷ 1020006 ∷ []) ≡ Some (EmergencyInhibit 120005 50000) ∷ None ∷ []
unfolding findings_at begun emergency_findings emergency_finding inhibit_finding found late_finding overdue_by is_settled
heartbeat_late = refl
