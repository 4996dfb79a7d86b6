use Rattle.std.proofs.Common.{ap, sym, ◌∙◌, arith}
use Rattle.std.specs.Prelude.{ℕ, Option, None}
use Rattle.std.specs.List.{find, range_with_len}
use Rattle.std.specs.Option.{option_or}
use Rattle.co_node_model.specs.Rpdos.{is_rpdo_with}
use Rattle.co_node_device.specs.AddressTables.{number_if}
use Rattle.co_node_device.proofs.Finds.{find_more, found_to_the_end}
use Rattle.co_node_device.proofs.addresses.fill.Goals as goal

pub loop-number-preserved : goal.loop-number-preserved
loop-number-preserved g c =
    let i = c.loop-number.invariant in
    let contents = g.S.ObjectStore.contents c.args.store.now in
    let number = c.loop-number.number in
    record {
      first = λ id within. c.enter.ensures id None within
          ∙ ap (λ (o : Option ℕ). option_or o (number_if (is_rpdo_with contents id c.of-k.result) c.of-k.result)) (i.first id within)
          ∙ ap (λ (n : ℕ). option_or (find (is_rpdo_with contents id) (range_with_len 0 number)) (number_if (is_rpdo_with contents id n) n)) c.of-k.ensures
          ∙ sym (find_more (is_rpdo_with contents id) number);
    }

pub returns-clause-numbers : goal.returns-clause-numbers
returns-clause-numbers g c = λ id within.
    found_to_the_end (g.S.ObjectStore.contents c.args.store.now) id _ c.loop-number.number (omega arith)
    (c.loop-number.invariant.first id within)
