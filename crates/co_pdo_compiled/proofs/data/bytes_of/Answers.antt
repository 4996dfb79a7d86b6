use Rattle.std.proofs.Common.{◌≡◌, Some, sym, ap, ◌∙◌}
use Rattle.std.specs.Prelude.{option_map}
use Rattle.co_pdo_compiled.proofs.Parts.{entry_wide}
use Rattle.co_pdo_compiled.proofs.data.bytes_of.Goals as goal

pub returns-clause-width : goal.returns-clause-width
returns-clause-width g c =
    let d = g.S.ObjectStore.description c.args.store.now in
    let contents = g.S.ObjectStore.contents c.args.store.now in
    let entry = c.args.entry.now in
    let held : contents entry.key ≡ Some c.in-Some.bytes.now =
    sym (c.place_laws.ensures.bytes entry.key entry.place c.requires.place) ∙ sym c.bytes_at.ensures ∙ ap (option_map (λ b. b.now)) c.in-Some.is in
    entry_wide d contents entry c.in-Some.bytes.now c.store_laws.ensures c.requires held
