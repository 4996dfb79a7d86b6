use Rattle.std.proofs.Common.{◌≡◌, ◌+◌, ◌⊎◌, inl, inr, List, []}
use Rattle.co_sheet.specs.Content.{Row}
use Rattle.co_node_model.specs.Moments.{Constants}
use Rattle.conode_compare_nmt.specs.declared.limits.Subject.{Subject}
use Rattle.conode_compare_laws.specs.Differences.{differences_in, emergency_differences}
use Rattle.conode_compare_laws.specs.Identifiers.{AllSendAside, AllSendWithout, AreElsewhere, AreNoEvents, JudgesNone}
use Rattle.conode_compare_laws.specs.Recordings.{Stamped, recording}
use Rattle.conode_compare_laws.proofs.EmergencyFrames.{no_emergency_differences}
use Rattle.conode_compare_laws.proofs.Unjudged.{none_judged}
use Rattle.conode_compare_laws.proofs.emergencies.no_emergency_differences.Goals as goal

either : (k : Constants) (subject : Subject) (rows : List Row) (inputs : List Stamped) → subject.node ≡ k.description.node → AreNoEvents inputs
    → AreElsewhere (0x700 + k.description.node) inputs → AreElsewhere (0x80 + k.description.node) inputs → AllSendAside k [] inputs
    → JudgesNone subject ⊎ AllSendWithout (0x80 + k.description.node) k [] inputs
    → differences_in emergency_differences subject rows (recording k inputs) ≡ []
either k subject rows inputs is no_events control emergency aside (inl none) = none_judged subject rows (recording k inputs) none
either k subject rows inputs is no_events control emergency aside (inr without) = no_emergency_differences k subject rows inputs is no_events control emergency aside without

pub returns : goal.returns
returns c = λ k subject rows inputs is no_events control emergency begins without.
    either k subject rows inputs is no_events control emergency (c.sends_aside.ensures k inputs begins) without
