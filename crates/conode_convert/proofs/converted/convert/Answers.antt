-- The lines so far, and then the next one, or the end.
use Rattle.std.proofs.Common.{arith}
use Rattle.co_stream.specs.Held.{nothing_held}
use Rattle.conode_convert.specs.Converted.{at_start}
use Rattle.conode_convert.proofs.Converting.{converted_any, converted_known, takes_flushed, takes_more, takes_none}
use Rattle.conode_convert.proofs.converted.convert.Goals as goal

pub loop-number-init : goal.loop-number-init
loop-number-init g c =
    let form = c.args.form in
    record {
      taken = rw (c.new-converting.ensures.lines, c.new-converting.ensures.log)
          (takes_none nothing_held (g.R.Read.remaining c.args.reader.now) (at_start form) (g.W.Write.contents c.args.out.now));
      few = omega arith;
    }

pub returns-in-None-clause-known : goal.returns-in-None-clause-known
returns-in-None-clause-known g c =
    let form = c.args.form in
    let before = g.R.Read.remaining c.args.reader.now in
    let between = g.R.Read.remaining c.loop-number.reader in
    let after = g.R.Read.remaining c.take_line.new.reader in
    let old = g.W.Write.contents c.args.out.now in
    let now = g.W.Write.contents c.loop-number.out in
    let out = g.W.Write.contents c.let_out.new.out in
    let so_far = c.loop-number.converting in
    let bad = c.loop-number.bad in
    let taken = takes_flushed nothing_held so_far.lines before between (at_start form) so_far.log old now bad c.loop-number.invariant.taken out c.let_out.ensures.text in
    let ended = rw c.in-None.is at c.in_ok-more.ensures.end in
    rw ended.0 (converted_known form so_far.lines c.take_line.new.self.lines before between after so_far.log old out bad taken ended.1)

pub returns-in-None-clause-any_reader : goal.returns-in-None-clause-any_reader
returns-in-None-clause-any_reader g c =
    let form = c.args.form in
    let before = g.R.Read.remaining c.args.reader.now in
    let between = g.R.Read.remaining c.loop-number.reader in
    let after = g.R.Read.remaining c.take_line.new.reader in
    let old = g.W.Write.contents c.args.out.now in
    let now = g.W.Write.contents c.loop-number.out in
    let out = g.W.Write.contents c.let_out.new.out in
    let so_far = c.loop-number.converting in
    let bad = c.loop-number.bad in
    let taken = takes_flushed nothing_held so_far.lines before between (at_start form) so_far.log old now bad c.loop-number.invariant.taken out c.let_out.ensures.text in
    let ended = rw c.in-None.is at c.in_ok-more.ensures.end in
    rw ended.0 (converted_any form so_far.lines c.take_line.new.self.lines before between after so_far.log old out bad taken ended.1)

pub loop-number-preserved : goal.loop-number-preserved
loop-number-preserved g c =
    let form = c.args.form in
    let before = g.R.Read.remaining c.args.reader.now in
    let between = g.R.Read.remaining c.loop-number.reader in
    let after = g.R.Read.remaining c.take_line.new.reader in
    let old = g.W.Write.contents c.args.out.now in
    let now = g.W.Write.contents c.loop-number.out in
    let out = g.W.Write.contents c.let_out.new.out in
    let new = g.W.Write.contents c.take_line.new.out in
    let so_far = c.loop-number.converting in
    let next = c.take_line.new.self in
    let bad = c.loop-number.bad in
    let taken = takes_flushed nothing_held so_far.lines before between (at_start form) so_far.log old now bad c.loop-number.invariant.taken out c.let_out.ensures.text in
    let more = rw c.in-Some.is at c.in_ok-more.ensures.line in
    let one = rw c.in-Some.is at c.in_ok-more.ensures.few in
    record {
      taken = takes_more nothing_held so_far.lines before between (at_start form) so_far.log old out bad taken next.lines after next.log new c.in-Some.more more;
      few = omega (arith, one, c.loop-number.invariant.few);
    }
