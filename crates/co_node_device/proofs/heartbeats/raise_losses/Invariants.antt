use Rattle.std.proofs.Common.{◌≡◌, take}
use Rattle.co_node_parts.specs.EmergencyQueues.{EmergencyLog, EmergenciesStand, with_queued}
use Rattle.co_node_model.specs.Emergencies.{all_raised, emergencies_of}
use Rattle.co_node_model.specs.Heartbeats.{loss_errors}
use Rattle.co_node_device.proofs.heartbeats.raise_losses.Given as goal

-- those before the index are raised
abbrev pub invariant-loop : goal.invariant-loop
invariant-loop g l = record {
  description : g.S.ObjectStore.description l.store ≡ g.S.ObjectStore.description l.fn.store;
  contents : g.S.ObjectStore.contents l.store ≡ all_raised (g.S.ObjectStore.description l.fn.store).rows (loss_errors (take l.index l.lost)) (g.S.ObjectStore.contents l.fn.store);
  emergencies : (queued : EmergencyLog) → EmergenciesStand l.fn.emergencies queued
      → EmergenciesStand l.emergencies (with_queued (emergencies_of (g.S.ObjectStore.description l.fn.store).rows (loss_errors (take l.index l.lost)) (g.S.ObjectStore.contents l.fn.store)) queued);
}
