use Rattle.std.proofs.Common.{◌≡◌, ℕ, ◌≤◌, []}
use Rattle.co_node_model.specs.Inputs.{Inputs}
use Rattle.co_node_model.specs.Moments.{Constants}
use Rattle.co_node.specs.Nodes.{Stands}
use Rattle.co_node_model.specs.Ticks.{after_ticks}
use Rattle.bafokun.specs.Ending.{by_ticks}
use Rattle.bafokun.specs.Happened.{and_ticks}
use Rattle.bafokun.specs.Ticks.{given_last}
use Rattle.bafokun.proofs.held.Held.ticks.Given as goal

-- as many ticks as the index have passed, and none has given a frame
abbrev pub invariant-loop-i : goal.invariant-loop-i
invariant-loop-i l = record {
  empty : l.self.sent.items ≡ [];
  entries : l.self.entries ≡ l.fn.self.entries;
  changes : l.self.changes ≡ l.fn.self.changes;
  stands : (k : Constants) (before : Inputs) → Stands k l.fn.self.node before →
      Stands k l.self.node (after_ticks l.i before);
  quiet : (k : Constants) (before : Inputs) → Stands k l.fn.self.node before →
      (n : ℕ) → n ≤ l.i → given_last k before n ≡ [];
  events : (k : Constants) (before : Inputs) → Stands k l.fn.self.node before →
      l.self.events ≡ and_ticks k before l.i l.fn.self.events;
  ending : (k : Constants) (before : Inputs) → Stands k l.fn.self.node before →
      l.self.ending ≡ by_ticks k before l.i l.fn.self.ending;
}
