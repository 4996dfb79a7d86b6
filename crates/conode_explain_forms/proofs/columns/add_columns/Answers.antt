use Rattle.std.proofs.Common.{refl, map}
use Rattle.std.specs.List.{flat_map}
use Rattle.conode_explain_cob_ids.specs.Known.{known_view}
use Rattle.conode_explain_forms.specs.Lines.{column}
use Rattle.conode_explain_cob_ids.proofs.Pieces.{all_made, one_more}
use Rattle.conode_explain_forms.proofs.columns.add_columns.Goals as goal

pub loop-signal-preserved : goal.loop-signal-preserved
loop-signal-preserved c =
    let piece = column (map known_view c.args.sheets.now) in
    one_more (flat_map piece) piece (λ x xs. refl) c.args.signals.now c.loop-signal.signal-index _ c.loop-signal.line.items c.add_column.new.line.items _ c.loop-signal-test.true
    c.in-Ok.ensures c.loop-signal.invariant

pub returns : goal.returns
returns c =
    all_made (flat_map (column (map known_view c.args.sheets.now))) refl c.args.signals.now c.loop-signal.signal-index c.loop-signal.line.items _ c.loop-signal-test.false c.loop-signal.invariant
