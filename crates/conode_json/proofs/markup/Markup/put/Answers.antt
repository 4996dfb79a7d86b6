use Rattle.conode_json.proofs.FilledLaws.{filled_same}
use Rattle.conode_json.proofs.markup.Markup.put.Goals as goal

pub returns : goal.returns
returns c = rw (filled_same c.args.markup.now c.args.values.now, c.self.view_is) at c.put.ensures
