-- The lines so far, and then the next one, or the end.
use Rattle.std.proofs.Common.{[], arith}
use Rattle.co_stream.specs.Held.{nothing_held}
use Rattle.conode_convert.specs.Converted.{at_start}
use Rattle.conode_stats.proofs.Counting.{counts_any, counts_known, takes_more, takes_none}
use Rattle.conode_stats.proofs.recording.count.Goals as goal

pub loop-number-init : goal.loop-number-init
loop-number-init g c =
    record {
      taken = rw (c.new-counting.ensures.lines, c.new-counting.ensures.log, c.new-counting.ensures.counts)
          (takes_none nothing_held (g.R.Read.remaining c.args.reader.now) (at_start c.args.form));
      few = omega arith;
    }

pub returns-in-None-clause-known : goal.returns-in-None-clause-known
returns-in-None-clause-known g c =
    let before = g.R.Read.remaining c.args.reader.now in
    let between = g.R.Read.remaining c.loop-number.reader in
    let after = g.R.Read.remaining c.take_line.new.reader in
    let so_far = c.loop-number.counting in
    let ended = rw c.in-None.is at c.in_ok-more.ensures.end in
    let same = rw c.in-None.is at c.in_ok-more.ensures.kept in
    rw (c.into_counts-counts.ensures, same) (counts_known c.args.form so_far.lines c.take_line.new.self.lines before between after so_far.log so_far.counts c.loop-number.bad c.loop-number.invariant.taken ended)

pub returns-in-None-clause-any_reader : goal.returns-in-None-clause-any_reader
returns-in-None-clause-any_reader g c =
    let before = g.R.Read.remaining c.args.reader.now in
    let between = g.R.Read.remaining c.loop-number.reader in
    let after = g.R.Read.remaining c.take_line.new.reader in
    let so_far = c.loop-number.counting in
    let ended = rw c.in-None.is at c.in_ok-more.ensures.end in
    let same = rw c.in-None.is at c.in_ok-more.ensures.kept in
    rw (c.into_counts-counts.ensures, same) (counts_any c.args.form so_far.lines c.take_line.new.self.lines before between after so_far.log so_far.counts c.loop-number.bad c.loop-number.invariant.taken ended)

pub loop-number-preserved : goal.loop-number-preserved
loop-number-preserved g c =
    let before = g.R.Read.remaining c.args.reader.now in
    let between = g.R.Read.remaining c.loop-number.reader in
    let after = g.R.Read.remaining c.take_line.new.reader in
    let so_far = c.loop-number.counting in
    let next = c.take_line.new.self in
    let more = rw c.in-Some.is at c.in_ok-more.ensures.line in
    let one = rw c.in-Some.is at c.in_ok-more.ensures.few in
    record {
      taken = takes_more nothing_held so_far.lines before between (at_start c.args.form) so_far.log [] so_far.counts c.loop-number.bad c.loop-number.invariant.taken next.lines after next.log next.counts c.in-Some.more more;
      few = omega (arith, one, c.loop-number.invariant.few);
    }
