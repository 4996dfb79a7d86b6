use Rattle.std.proofs.Common.{None, refl}
use Rattle.std.specs.Prelude.{option_to_list}
use Rattle.std.specs.List.{flat_map}
use Rattle.co_sheet_text_warnings.specs.Places.{warnings_at}
use Rattle.co_sheet_text_warnings.proofs.PieceLemmas.{marked-turn, pieces-end}
use Rattle.co_sheet_text_warnings.proofs.places.add_each.Goals as goal

pub loop-line-preserved : goal.loop-line-preserved
loop-line-preserved c =
    marked-turn c.args.kind (λ found. flat_map option_to_list found) option_to_list (λ x l. refl) c.args.found.now c.loop-line.line-index None c.loop-line.warnings.items c.add_one.new.warnings.items _ c.loop-line-test.true
    (c.in-Ok.ensures _ refl) c.loop-line.invariant

pub returns : goal.returns
returns c = pieces-end (λ found. warnings_at c.args.kind (flat_map option_to_list found)) refl c.args.found.now c.loop-line.line-index _ _ c.loop-line-test.false c.loop-line.invariant
