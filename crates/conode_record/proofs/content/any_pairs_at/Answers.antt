use Rattle.std.proofs.Common.{ℕ, List, ◌≡◌, ◌∷◌, [], ◌++◌, length, sym, ap, subst, arith, length-append}
use Rattle.std.proofs.lemmas.Bool.Decides.{nat_tests}
use Rattle.co_text.proofs.Pairs.{AreRead, read_more}
use Rattle.conode_record.proofs.FieldNumbers.{pairs_all}
use Rattle.conode_record.proofs.content.any_pairs_at.Goals as goal

pub loop-byte-preserved : goal.loop-byte-preserved
loop-byte-preserved c =
    let old = c.loop-byte.bytes in
    let byte = c.in-Some.byte in
    let after = c.in-Some.after.now in
    let appended : c.append.new.self ≡ old ++ byte ∷ [] = c.append.ensures in
    let longer = ap length appended in
    let one = length-append old (byte ∷ []) in
    record {
      read = subst (λ (bytes : List ℕ). AreRead c.args.text.now bytes after) (sym appended)
          (read_more c.args.text.now old c.loop-byte.rest.now byte after c.loop-byte.invariant.read (sym c.in-Some.ensures.exact));
      few = grind (arith, nat_tests, longer, one, c.len.ensures.count, c.len.ensures.few, c.if-len-eq8.false);
    }

pub returns : goal.returns
returns c = pairs_all 8 c.args.text.now c.loop-byte.bytes c.loop-byte.rest.now c.loop-byte.invariant.read (sym c.in_default.ensures.exact) c.loop-byte.invariant.few
