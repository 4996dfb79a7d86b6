use Rattle.std.proofs.Common.{◌≡◌, ◌+◌, ◌≤◌, length, refl, sym, ap, ◌∙◌, arith}
use Rattle.std.proofs.Math.ListN.{replicate}
use Rattle.std.proofs.lemmas.Grind.{common_steps}
use Rattle.co_pdo.specs.Images.{bytes_in}
use Rattle.co_pdo.specs.Mappings.{width_in}
use Rattle.co_pdo.proofs.Parts.{bytes_wide, held_bytes, zeros_are}
use Rattle.co_pdo.proofs.data.append.Goals as goal
use Rattle.co_pdo.proofs.data.append.Goals.{in-Entry, in-Dummy}

pub returns-clause-width : goal.returns-clause-width
returns-clause-width g c = bytes_wide (g.S.ObjectStore.description c.args.store.now) (g.S.ObjectStore.contents c.args.store.now) c.args.mapped (g.met.S.ObjectStore.lawful c.args.store.now) c.requires.there

pub returns-clause-image : goal.returns-clause-image
returns-clause-image g c =
    let contents = g.S.ObjectStore.contents c.args.store.now in
    let wide : length (bytes_in contents c.args.mapped) ≡ width_in c.args.mapped = bytes_wide (g.S.ObjectStore.description c.args.store.now) contents c.args.mapped (g.met.S.ObjectStore.lawful c.args.store.now) c.requires.there in
    let bytes : c.match-mapped.bytes.now ≡ bytes_in contents c.args.mapped = elim c.match-mapped.branch [
      | in-Entry w ↦ ap (λ b. b.now) w.bytes-is ∙ ap (λ b. b.now) w.unwrap_or-bytes.ensures ∙ held_bytes w.bytes.result _ _ w.bytes.ensures refl ∙ sym (ap (bytes_in contents) w.in-Entry.is)
      | in-Dummy w ↦
          let short : w.from.result ≤ 8 = omega (arith, c.requires.room, ap width_in w.in-Dummy.is, w.from.ensures) in
          ap (λ b. b.now) w.bytes-is ∙ zeros_are w.from.result short ∙ ap (λ n. replicate n 0) w.from.ensures ∙ sym (ap (bytes_in contents) w.in-Dummy.is)
    ] in
    let room : length c.args.image.now.items + length c.match-mapped.bytes.now ≤ 8 = omega (arith, ap length bytes, wide, c.requires.room) in
    grind (arith, common_steps, c.try_extend_from_slice.ensures.variant, c.try_extend_from_slice.ensures.ok, room, bytes)
