use Rattle.std.proofs.Common.{ℕ, List, ◌≡◌, ◌∷◌, [], ◌++◌, length, sym, ap, subst, arith, length-append}
use Rattle.co_text.proofs.Pairs.{AreRead, read_more}
use Rattle.conode_record.proofs.content.eight_in.Goals as goal

pub loop-pair-preserved : goal.loop-pair-preserved
loop-pair-preserved c =
    let old = c.loop-pair.bytes in
    let byte = c.in-Some.byte in
    let after = c.in-Some.after.now in
    let appended : c.append.new.self ≡ old ++ byte ∷ [] = c.append.ensures in
    record {
      read = subst (λ (bytes : List ℕ). AreRead c.args.text.now bytes after) (sym appended)
          (read_more c.args.text.now old c.loop-pair.rest.now byte after c.loop-pair.invariant.read (sym c.in-Some.ensures.exact));
      few = omega (arith, ap length appended, length-append old (byte ∷ []), c.loop-pair.invariant.few);
    }
