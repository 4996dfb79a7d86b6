-- What is found next, and what is written of it.
use Rattle.std.proofs.Common.{refl, subst, ◌∙◌}
use Rattle.co_stream.specs.declared.bounded_lines.Found.{Found}
use Rattle.co_stream.specs.Founds.{Finds}
use Rattle.co_stream.specs.Held.{to_come}
use Rattle.co_stream.specs.Readings.{Gave}
use Rattle.conode_explain.specs.Sheets.{sheets_of}
use Rattle.conode_explain.proofs.Explaining.{takes_last, takes_line, takes_long}
use Rattle.conode_explain.proofs.step.Explaining.take_line.Goals as goal

pub returns-in-Ok-End-clause-end : goal.returns-in-Ok-End-clause-end
returns-in-Ok-End-clause-end g c =
    let before = g.R.Read.remaining c.args.reader.now in
    let after = g.R.Read.remaining c.advance.new.reader in
    let held = c.args.self.now.lines in
    let holds = c.advance.new.self in (
      refl,
      subst (λ (f : Found). Gave held.ended holds.ended before after (λ had has. Finds (to_come held had) (to_come holds has) holds.line f)) c.in-Ok-End.field-0-is c.in-Ok-End.ensures.found,
    )

pub returns-in-Ok-TooLong-clause-line : goal.returns-in-Ok-TooLong-clause-line
returns-in-Ok-TooLong-clause-line g c =
    let before = g.R.Read.remaining c.args.reader.now in
    let after = g.R.Read.remaining c.advance.new.reader in
    let held = c.args.self.now.lines in
    let holds = c.advance.new.self in
    let out = g.W.Write.contents c.args.out.now in
    let found = subst (λ (f : Found). Gave held.ended holds.ended before after (λ had has. Finds (to_come held had) (to_come holds has) holds.line f)) c.in-Ok-TooLong.field-0-is c.in-Ok-TooLong.ensures.found in
    takes_long c.args.settings.now.form (sheets_of c.args.settings.now) held holds before after c.args.self.now.log c.args.self.now.progress out out holds.line found refl

pub returns-in-Ok-clause-line : goal.returns-in-Ok-clause-line
returns-in-Ok-clause-line g c =
    let before = g.R.Read.remaining c.args.reader.now in
    let after = g.R.Read.remaining c.advance.new.reader in
    let held = c.args.self.now.lines in
    let holds = c.advance.new.self in
    let old = g.W.Write.contents c.args.out.now in
    let new = g.W.Write.contents c.explain_line.new.out in
    let found = subst (λ (f : Found). Gave held.ended holds.ended before after (λ had has. Finds (to_come held had) (to_come holds has) holds.line f)) c.in-Ok-Line.field-0-is c.in-Ok-Line.ensures.found in
    let said = c.in-Ok.ensures in
    rw said.held (takes_line c.args.settings.now.form (sheets_of c.args.settings.now) held holds before after c.args.self.now.log c.args.self.now.progress old new holds.line c.explain_line.new.self.log c.explain_line.new.self.progress said.log said.progress said.lines c.name_wrong.result (c.name_wrong.ensures.count ∙ said.wrong) found)

pub returns-in-Ok-explain_line-clause-line : goal.returns-in-Ok-explain_line-clause-line
returns-in-Ok-explain_line-clause-line g c =
    let before = g.R.Read.remaining c.args.reader.now in
    let after = g.R.Read.remaining c.advance.new.reader in
    let held = c.args.self.now.lines in
    let holds = c.advance.new.self in
    let old = g.W.Write.contents c.args.out.now in
    let new = g.W.Write.contents c.explain_line-in-Ok-Last.new.out in
    let found = subst (λ (f : Found). Gave held.ended holds.ended before after (λ had has. Finds (to_come held had) (to_come holds has) holds.line f)) c.in-Ok-Last.field-0-is c.in-Ok-Last.ensures.found in
    let said = c.in-Ok-explain_line.ensures in
    rw said.held (takes_last c.args.settings.now.form (sheets_of c.args.settings.now) held holds before after c.args.self.now.log c.args.self.now.progress old new holds.line c.explain_line-in-Ok-Last.new.self.log c.explain_line-in-Ok-Last.new.self.progress said.log said.progress said.lines found)
