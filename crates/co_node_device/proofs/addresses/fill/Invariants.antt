use Rattle.std.proofs.Common.{◌≡◌, ℕ, ◌<◌, get_or}
use Rattle.std.specs.Prelude.{None}
use Rattle.std.specs.List.{find, range_with_len}
use Rattle.co_node_model.specs.Rpdos.{is_rpdo_with}
use Rattle.co_node_device.proofs.addresses.fill.Given as goal

-- at each identifier is the first of the numbers so far that is active and has it
abbrev pub invariant-loop-number : goal.invariant-loop-number
invariant-loop-number g l = record {
  first : (id : ℕ) → id < 2048 → get_or l.numbers id None
      ≡ find (is_rpdo_with (g.S.ObjectStore.contents l.store) id) (range_with_len 0 l.number);
}
