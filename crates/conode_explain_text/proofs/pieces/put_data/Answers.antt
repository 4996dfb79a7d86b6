use Rattle.conode_explain_text.proofs.ColumnLemmas.{filled, joined}
use Rattle.conode_explain_text.proofs.pieces.put_data.Goals as goal

pub returns : goal.returns
returns c =
    rw (← filled c.args.bytes.now)
    (joined c.args.piece.now.items c.put_length.new.piece.items c.put_each.new.piece.items c.put.new.piece.items _ _ _
    c.put_length.ensures.items c.put_each.ensures.items c.put.ensures.items)
