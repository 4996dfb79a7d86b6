-- What is found next, and what is written of it.
use Rattle.std.proofs.Common.{◌≡◌, ◌+◌, refl, sym, ap, ◌∙◌, subst}
use Rattle.co_stream.specs.declared.bounded_lines.Found.{Found}
use Rattle.co_stream.specs.Founds.{Finds}
use Rattle.co_stream.specs.Held.{to_come}
use Rattle.co_stream.specs.Readings.{Gave}
use Rattle.conode_explain.specs.LogLines.{line_at}
use Rattle.conode_io.specs.Written.{WritesLines}
use Rattle.conode_compare.specs.declared.comparing.Comparing.{Comparing}
use Rattle.conode_compare.specs.Compared.{bad_noted, line_noted, long_noted, said_lines, said_with}
use Rattle.conode_compare.specs.Taking.{Takes}
use Rattle.conode_compare.specs.Views.{comparison_view}
use Rattle.conode_compare.proofs.LineLoop.{takes_last, takes_line, takes_long}
use Rattle.conode_compare.proofs.line.Lines.take_line.Goals as goal

pub returns-in-Ok-End-clause-end : goal.returns-in-Ok-End-clause-end
returns-in-Ok-End-clause-end g c =
    let before = g.R.Read.remaining c.args.reader.now in
    let after = g.R.Read.remaining c.advance.new.reader in
    let held = c.args.self.now.lines in
    let holds = c.advance.new.self in (
      refl,
      subst (λ (f : Found). Gave held.ended holds.ended before after (λ had has. Finds (to_come held had) (to_come holds has) holds.line f)) c.in-Ok-End.field-0-is c.in-Ok-End.ensures.found,
    )

pub returns-in-Ok-clause-line : goal.returns-in-Ok-clause-line
returns-in-Ok-clause-line g c =
    let before = g.R.Read.remaining c.args.reader.now in
    let after = g.R.Read.remaining c.advance.new.reader in
    let held = c.args.self.now.lines in
    let holds = c.advance.new.self in
    let out = g.W.Write.contents c.args.out.now in
    let log = c.args.self.now.log in
    let first = c.args.self.now.comparing in
    let found = subst (λ (f : Found). Gave held.ended holds.ended before after (λ had has. Finds (to_come held had) (to_come holds has) holds.line f)) c.in-Ok-TooLong.field-0-is c.in-Ok-TooLong.ensures.found in
    let noted : c.note_bad_line.new.self ≡ long_noted first = c.note_bad_line.ensures ∙ ap bad_noted c.in-Ok.ensures in
    subst (λ (n : Comparing). Takes (comparison_view c.args.settings.now) held holds before after c.args.number (c.args.number + 1) (record { log = log; comparing = first }) (record { log = log; comparing = n }) out out) (sym noted)
    (takes_long (comparison_view c.args.settings.now) held holds before after c.args.number log first out out holds.line found refl)

pub returns-in-Ok-take_log_line-clause-line : goal.returns-in-Ok-take_log_line-clause-line
returns-in-Ok-take_log_line-clause-line g c =
    let before = g.R.Read.remaining c.args.reader.now in
    let after = g.R.Read.remaining c.advance.new.reader in
    let held = c.args.self.now.lines in
    let holds = c.advance.new.self in
    let old = g.W.Write.contents c.args.out.now in
    let new = g.W.Write.contents c.take_log_line.new.out in
    let what = comparison_view c.args.settings.now in
    let log = c.args.self.now.log in
    let first = c.args.self.now.comparing in
    let found = subst (λ (f : Found). Gave held.ended holds.ended before after (λ had has. Finds (to_come held had) (to_come holds has) holds.line f)) c.in-Ok-Line.field-0-is c.in-Ok-Line.ensures.found in
    let said = c.in-Ok-take_log_line.ensures in
    let noted : c.note_line-in-Ok-Line.new.self ≡ line_noted first holds.line = c.in-Ok-note_line.ensures ∙ ap (line_noted first) c.line.ensures in
    let next = subst (λ (n : Comparing). c.take_log_line.new.self.comparing ≡ said_with what n holds.line (line_at log holds.line)) noted said.next in
    let lines = subst (λ (n : Comparing). WritesLines old new (said_lines what c.args.number n (line_at log holds.line))) noted said.lines in
    rw said.held (takes_line what held holds before after c.args.number log first old new holds.line c.take_log_line.new.self.log c.take_log_line.new.self.comparing said.log next lines found)

pub returns-in-Ok-Last-clause-line : goal.returns-in-Ok-Last-clause-line
returns-in-Ok-Last-clause-line g c =
    let before = g.R.Read.remaining c.args.reader.now in
    let after = g.R.Read.remaining c.advance.new.reader in
    let held = c.args.self.now.lines in
    let holds = c.advance.new.self in
    let out = g.W.Write.contents c.args.out.now in
    let found = subst (λ (f : Found). Gave held.ended holds.ended before after (λ had has. Finds (to_come held had) (to_come holds has) holds.line f)) c.in-Ok-Last.field-0-is c.in-Ok-Last.ensures.found in
    takes_last (comparison_view c.args.settings.now) held holds before after c.args.number c.args.self.now.log c.args.self.now.comparing out out holds.line found refl
