-- What is found next, and what is written of it.
use Rattle.std.proofs.Common.{ℕ, List, refl, sym, subst}
use Rattle.co_stream.specs.declared.bounded_lines.Found.{Found}
use Rattle.co_stream.specs.declared.bounded_lines.Found.TheVariants.{Line, Last}
use Rattle.co_stream.specs.Founds.{Finds}
use Rattle.co_stream.specs.Held.{to_come}
use Rattle.co_stream.specs.Readings.{Gave}
use Rattle.conode_convert.proofs.Converting.{takes_last, takes_line, takes_long}
use Rattle.conode_convert.proofs.step.Converting.take_line.Goals as goal

pub returns-in-Ok-End-clause-end : goal.returns-in-Ok-End-clause-end
returns-in-Ok-End-clause-end g c =
    let before = g.R.Read.remaining c.args.reader.now in
    let after = g.R.Read.remaining c.advance.new.reader in
    let held = c.args.self.now.lines in
    let holds = c.advance.new.self in (
      refl,
      subst (λ (f : Found). Gave held.ended holds.ended before after (λ had has. Finds (to_come held had) (to_come holds has) holds.line f)) c.in-Ok-End.field-0-is c.in-Ok-End.ensures.found,
    )

pub returns-in-Ok-TooLong-clause-line : goal.returns-in-Ok-TooLong-clause-line
returns-in-Ok-TooLong-clause-line g c =
    let before = g.R.Read.remaining c.args.reader.now in
    let after = g.R.Read.remaining c.advance.new.reader in
    let held = c.args.self.now.lines in
    let holds = c.advance.new.self in
    let out = g.W.Write.contents c.args.out.now in
    let found = subst (λ (f : Found). Gave held.ended holds.ended before after (λ had has. Finds (to_come held had) (to_come holds has) holds.line f)) c.in-Ok-TooLong.field-0-is c.in-Ok-TooLong.ensures.found in
    takes_long held holds before after c.args.self.now.log out out holds.line found refl

pub returns-in_ok-bad-in-Ok-Line-clause-line : goal.returns-in_ok-bad-in-Ok-Line-clause-line
returns-in_ok-bad-in-Ok-Line-clause-line g c =
    let before = g.R.Read.remaining c.args.reader.now in
    let after = g.R.Read.remaining c.advance.new.reader in
    let held = c.args.self.now.lines in
    let holds = c.advance.new.self in
    let old = g.W.Write.contents c.args.out.now in
    let new = g.W.Write.contents c.convert_line.new.out in
    let line = c.line-line.result.now in
    let found = subst (λ (f : Found). Gave held.ended holds.ended before after (λ had has. Finds (to_come held had) (to_come holds has) holds.line f)) c.in-Ok-Line.field-0-is c.in-Ok-Line.ensures.found in
    let here = subst (λ (l : List ℕ). Gave held.ended holds.ended before after (λ had has. Finds (to_come held had) (to_come holds has) l Line)) (sym c.line-line.ensures) found in
    let said = c.in_ok-bad-in-Ok-Line.ensures in
    takes_line held holds before after c.args.self.now.log old new line c.convert_line.new.log said.log said.lines c.in_ok-bad-in-Ok-Line.bad said.bad here

pub returns-in_ok-convert_line-in-Ok-Last-clause-line : goal.returns-in_ok-convert_line-in-Ok-Last-clause-line
returns-in_ok-convert_line-in-Ok-Last-clause-line g c =
    let before = g.R.Read.remaining c.args.reader.now in
    let after = g.R.Read.remaining c.advance.new.reader in
    let held = c.args.self.now.lines in
    let holds = c.advance.new.self in
    let old = g.W.Write.contents c.args.out.now in
    let new = g.W.Write.contents c.convert_line-in-Ok-Last.new.out in
    let line = c.line-line-in-Ok-Last.result.now in
    let found = subst (λ (f : Found). Gave held.ended holds.ended before after (λ had has. Finds (to_come held had) (to_come holds has) holds.line f)) c.in-Ok-Last.field-0-is c.in-Ok-Last.ensures.found in
    let here = subst (λ (l : List ℕ). Gave held.ended holds.ended before after (λ had has. Finds (to_come held had) (to_come holds has) l Last)) (sym c.line-line-in-Ok-Last.ensures) found in
    let said = c.in_ok-convert_line-in-Ok-Last.ensures in
    takes_last held holds before after c.args.self.now.log old new line c.convert_line-in-Ok-Last.new.log said.log said.lines here
