-- The lines so far, and then the next one, or the end.
use Rattle.std.proofs.Common.{◌+◌}
use Rattle.co_stream.specs.Held.{nothing_held}
use Rattle.conode_compare.specs.Compared.{SoFar}
use Rattle.conode_compare.specs.Views.{comparison_view}
use Rattle.conode_compare.proofs.LineLoop.{takes_flushed, takes_more, takes_none}
use Rattle.conode_compare.proofs.compared.take_lines.Goals as goal

pub loop-number-init : goal.loop-number-init
loop-number-init g c =
    let first = c.args.lines.now in
    rw c.requires.held
    (takes_none (comparison_view c.args.settings.now) nothing_held (g.R.Read.remaining c.args.reader.now) 1 (record { log = first.log; comparing = first.comparing }) (g.W.Write.contents c.args.out.now))

pub loop-number-preserved : goal.loop-number-preserved
loop-number-preserved g c =
    let what = comparison_view c.args.settings.now in
    let before = g.R.Read.remaining c.args.reader.now in
    let between = g.R.Read.remaining c.loop-number.reader in
    let after = g.R.Read.remaining c.take_line.new.reader in
    let old = g.W.Write.contents c.args.out.now in
    let now = g.W.Write.contents c.loop-number.out in
    let out = g.W.Write.contents c.let_out.new.out in
    let new = g.W.Write.contents c.take_line.new.out in
    let first : SoFar = record { log = c.args.lines.now.log; comparing = c.args.lines.now.comparing } in
    let so_far = c.loop-number.lines in
    let next = c.take_line.new.self in
    let taken = takes_flushed what nothing_held so_far.lines before between 1 c.loop-number.number first (record { log = so_far.log; comparing = so_far.comparing }) old now c.loop-number.invariant out c.let_out.ensures.text in
    let more = rw c.in-Ok-Some.field-0-is at c.in-Ok-Some.ensures.line in
    takes_more what nothing_held so_far.lines before between 1 c.loop-number.number first (record { log = so_far.log; comparing = so_far.comparing }) old out taken next.lines after (c.loop-number.number + 1) (record { log = next.log; comparing = next.comparing }) new more

pub returns-in-Ok-None : goal.returns-in-Ok-None
returns-in-Ok-None g c =
    let what = comparison_view c.args.settings.now in
    let before = g.R.Read.remaining c.args.reader.now in
    let between = g.R.Read.remaining c.loop-number.reader in
    let old = g.W.Write.contents c.args.out.now in
    let now = g.W.Write.contents c.loop-number.out in
    let out = g.W.Write.contents c.let_out.new.out in
    let first : SoFar = record { log = c.args.lines.now.log; comparing = c.args.lines.now.comparing } in
    let so_far = c.loop-number.lines in
    let ended = rw c.in-Ok-None.field-0-is at c.in-Ok-None.ensures.end in
    let kept = rw c.in-Ok-None.field-0-is at c.in-Ok-None.ensures.kept in
    rw (kept.0, kept.1, ended.0) (record {
      holds = so_far.lines;
      left = c.take_line.new.self.lines;
      between = between;
      next = c.loop-number.number;
      taken = takes_flushed what nothing_held so_far.lines before between 1 c.loop-number.number first (record { log = so_far.log; comparing = so_far.comparing }) old now c.loop-number.invariant out c.let_out.ensures.text;
      end = ended.1;
    })
