-- What is found next, and what is counted of it.
use Rattle.std.proofs.Common.{ℕ, List, sym, subst}
use Rattle.co_stream.specs.declared.bounded_lines.Found.{Found}
use Rattle.co_stream.specs.declared.bounded_lines.Found.TheVariants.{Line, Last}
use Rattle.co_stream.specs.Founds.{Finds}
use Rattle.co_stream.specs.Held.{to_come}
use Rattle.co_stream.specs.Readings.{Gave}
use Rattle.conode_stats.specs.Frames.{line_at}
use Rattle.conode_stats.proofs.Counting.{stands_after, takes_last, takes_line, takes_long}
use Rattle.conode_stats.proofs.step.Counting.take_line.Goals as goal

pub returns-in-Ok-End-clause-end : goal.returns-in-Ok-End-clause-end
returns-in-Ok-End-clause-end g c =
    let before = g.R.Read.remaining c.args.reader.now in
    let after = g.R.Read.remaining c.advance.new.reader in
    let held = c.args.self.now.lines in
    let holds = c.advance.new.self in
    subst (λ (f : Found). Gave held.ended holds.ended before after (λ had has. Finds (to_come held had) (to_come holds has) holds.line f)) c.in-Ok-End.field-0-is c.in-Ok-End.ensures.found

pub returns-in-Ok-TooLong-clause-line : goal.returns-in-Ok-TooLong-clause-line
returns-in-Ok-TooLong-clause-line g c = λ frames was.
    let before = g.R.Read.remaining c.args.reader.now in
    let after = g.R.Read.remaining c.advance.new.reader in
    let held = c.args.self.now.lines in
    let holds = c.advance.new.self in
    let found = subst (λ (f : Found). Gave held.ended holds.ended before after (λ had has. Finds (to_come held had) (to_come holds has) holds.line f)) c.in-Ok-TooLong.field-0-is c.in-Ok-TooLong.ensures.found in
    takes_long held holds before after c.args.self.now.log frames c.args.self.now.counts holds.line found was

pub returns-in_ok-bad-in-Ok-Line-clause-line : goal.returns-in_ok-bad-in-Ok-Line-clause-line
returns-in_ok-bad-in-Ok-Line-clause-line g c = λ frames was.
    let before = g.R.Read.remaining c.args.reader.now in
    let after = g.R.Read.remaining c.advance.new.reader in
    let held = c.args.self.now.lines in
    let holds = c.advance.new.self in
    let line = c.line-line.result.now in
    let found = subst (λ (f : Found). Gave held.ended holds.ended before after (λ had has. Finds (to_come held had) (to_come holds has) holds.line f)) c.in-Ok-Line.field-0-is c.in-Ok-Line.ensures.found in
    let here = subst (λ (l : List ℕ). Gave held.ended holds.ended before after (λ had has. Finds (to_come held had) (to_come holds has) l Line)) (sym c.line-line.ensures) found in
    let said = c.in_ok-bad-in-Ok-Line.ensures in
    takes_line held holds before after c.args.self.now.log frames c.count_line.new.counts line c.count_line.new.log said.log (stands_after c.args.self.now.counts c.count_line.new.counts frames (line_at c.args.self.now.log line) said.counts was) c.in_ok-bad-in-Ok-Line.bad said.bad here

pub returns-in_ok-count_line-in-Ok-Last-clause-line : goal.returns-in_ok-count_line-in-Ok-Last-clause-line
returns-in_ok-count_line-in-Ok-Last-clause-line g c = λ frames was.
    let before = g.R.Read.remaining c.args.reader.now in
    let after = g.R.Read.remaining c.advance.new.reader in
    let held = c.args.self.now.lines in
    let holds = c.advance.new.self in
    let line = c.line-line-in-Ok-Last.result.now in
    let found = subst (λ (f : Found). Gave held.ended holds.ended before after (λ had has. Finds (to_come held had) (to_come holds has) holds.line f)) c.in-Ok-Last.field-0-is c.in-Ok-Last.ensures.found in
    let here = subst (λ (l : List ℕ). Gave held.ended holds.ended before after (λ had has. Finds (to_come held had) (to_come holds has) l Last)) (sym c.line-line-in-Ok-Last.ensures) found in
    let said = c.in_ok-count_line-in-Ok-Last.ensures in
    takes_last held holds before after c.args.self.now.log frames c.count_line-in-Ok-Last.new.counts line c.count_line-in-Ok-Last.new.log said.log (stands_after c.args.self.now.counts c.count_line-in-Ok-Last.new.counts frames (line_at c.args.self.now.log line) said.counts was) here
