use Rattle.std.proofs.Common.{refl}
use Rattle.std.specs.List.{flat_map}
use Rattle.conode_explain_forms.specs.Lines.{quoted_byte}
use Rattle.conode_explain_cob_ids.proofs.Pieces.{all_made, one_more}
use Rattle.conode_explain_forms.proofs.columns.add_all_quoted.Goals as goal

pub loop-byte-preserved : goal.loop-byte-preserved
loop-byte-preserved c =
    one_more (flat_map quoted_byte) quoted_byte (λ x xs. refl) c.args.field.now c.loop-byte.byte-index _ c.loop-byte.line.items c.add_quoted.new.line.items _ c.loop-byte-test.true
    c.in-Ok.ensures c.loop-byte.invariant

pub returns : goal.returns
returns c = all_made (flat_map quoted_byte) refl c.args.field.now c.loop-byte.byte-index c.loop-byte.line.items _ c.loop-byte-test.false c.loop-byte.invariant
