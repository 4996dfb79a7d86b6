use Rattle.std.proofs.Common.{◌≡◌, ap, ◌∙◌, arith}
use Rattle.std.proofs.lemmas.Grind.{common_steps}
use Rattle.co_pdo.specs.Images.{image_of, parts_of}
use Rattle.co_pdo.proofs.Parts.{parts_of_image}
use Rattle.co_pdo.proofs.data.joined.Goals as goal

pub returns-clause-parts : goal.returns-clause-parts
returns-clause-parts g c =
    let contents = g.S.ObjectStore.contents c.args.store.now in
    let image : c.loop-mapped.image.items ≡ image_of contents c.args.entries.now = grind (arith, common_steps, c.loop-mapped.invariant.same) in
    ap (parts_of c.args.entries.now) image ∙ parts_of_image (g.S.ObjectStore.description c.args.store.now) contents c.args.entries.now (g.met.S.ObjectStore.lawful c.args.store.now) c.requires.there
