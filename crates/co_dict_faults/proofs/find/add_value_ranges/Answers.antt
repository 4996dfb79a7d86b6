use Rattle.std.proofs.Common.{[], ◌∷◌, refl, map}
use Rattle.co_dict_build.specs.declared.build_fault.BuildFault.TheVariants.{ValueRange}
use Rattle.co_dict_faults.proofs.PieceLemmas.{pieces-turn, pieces-end}
use Rattle.co_dict_faults.proofs.find.add_value_ranges.Goals as goal

pub loop-key-preserved : goal.loop-key-preserved
loop-key-preserved c =
    pieces-turn (λ keys. map ValueRange keys) (λ key. ValueRange key ∷ []) (λ key keys. refl) c.args.outside.now c.loop-key.key-index _ c.loop-key.faults.items c.push.new.self.items _ c.loop-key-test.true
    c.in-Ok.ensures.items c.loop-key.invariant

pub returns : goal.returns
returns c = pieces-end (λ keys. map ValueRange keys) refl c.args.outside.now c.loop-key.key-index _ _ c.loop-key-test.false c.loop-key.invariant
