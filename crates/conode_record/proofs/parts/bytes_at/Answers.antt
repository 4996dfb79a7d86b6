-- The bytes so far, and the next one.
use Rattle.std.proofs.Common.{ℕ, List, ◌≡◌, ◌+◌, ◌-◌, [], ◌∷◌, ◌++◌, length, refl, sym, ap, subst, arith, length-append}
use Rattle.conode_record.proofs.Bytes.{Reads, all_read, byte_lacks, reads_more, reads_none}
use Rattle.conode_record.proofs.parts.bytes_at.Goals as goal

pub loop-at-init : goal.loop-at-init
loop-at-init c = record {
  read = subst (λ (bytes : List ℕ). Reads c.args.base c.args.count c.args.text.now bytes (c.args.count - 0) c.args.text.now) (sym c.new-bytes.ensures)
      (subst (λ (n : ℕ). Reads c.args.base c.args.count c.args.text.now [] n c.args.text.now) (omega arith) (reads_none c.args.base c.args.count c.args.text.now));
  many = ap length c.new-bytes.ensures;
}

pub loop-at-preserved : goal.loop-at-preserved
loop-at-preserved c =
    let old = c.loop-at.bytes in
    let byte = c.in-Some.byte in
    let next = c.in-Some.after.now in
    let at = c.loop-at.at in
    let count = c.args.count in
    let appended : c.append.new.self ≡ old ++ byte ∷ [] = c.append.ensures in
    record {
      read = subst (λ (bytes : List ℕ). Reads c.args.base count c.args.text.now bytes (count - (at + 1)) next) (sym appended)
          (reads_more c.args.base count c.args.text.now old c.loop-at.rest.now (count - at) c.loop-at.invariant.read byte (count - (at + 1)) next (omega arith) (sym c.in-Some.ensures));
      many = omega (arith, ap length appended, length-append old (byte ∷ []), c.loop-at.invariant.many);
    }

pub returns-in_default : goal.returns-in_default
returns-in_default c = byte_lacks c.args.base c.args.count c.args.text.now c.loop-at.bytes c.loop-at.rest.now (c.args.count - c.loop-at.at) c.loop-at.invariant.read (c.args.count - (c.loop-at.at + 1)) (omega arith) (sym c.in_default.ensures)

pub returns : goal.returns
returns c = all_read c.args.base c.args.count c.args.text.now c.loop-at.bytes c.loop-at.rest.now _ c.loop-at.invariant.read (omega arith)
