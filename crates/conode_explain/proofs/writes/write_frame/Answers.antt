-- A frame of no channel at all.
use Rattle.std.proofs.Common.{◌≡◌, false, None, sym, ap, ◌∙◌}
use Rattle.conode_explain_cob_ids.specs.Buses.{Bus}
use Rattle.conode_explain_forms.specs.Places.{place_of}
use Rattle.conode_explain.specs.Explained.{may_be_told, place_for}
use Rattle.conode_explain.specs.Sheets.{sheets_of}
use Rattle.conode_explain.proofs.TellingLemmas.{quiet_lines, quiet_progress}
use Rattle.conode_explain.proofs.writes.write_frame.Goals as goal

pub returns-in-None-clause-lines : goal.returns-in-None-clause-lines
returns-in-None-clause-lines g c =
    let form = c.args.settings.now.form in
    let sheets = sheets_of c.args.settings.now in
    let progress = c.args.progress.now in
    let frame = c.args.frame.now in
    let none : place_for sheets progress frame ≡ None =
    ap (λ (bus : Bus). place_of bus frame.id frame.content) (sym c.bus_of-bus.ensures) ∙ sym c.place_of.ensures ∙ c.in-None.is in
    let quiet : may_be_told frame.id frame.content ≡ false = sym c.may_be_told.ensures ∙ c.if-not-may_be_told.true in
    rw (quiet_lines form sheets progress frame none quiet) (rw c.said-told.ensures at c.write_by.ensures.lines)

pub returns-in-None-clause-progress : goal.returns-in-None-clause-progress
returns-in-None-clause-progress g c =
    let form = c.args.settings.now.form in
    let sheets = sheets_of c.args.settings.now in
    let progress = c.args.progress.now in
    let frame = c.args.frame.now in
    let none : place_for sheets progress frame ≡ None =
    ap (λ (bus : Bus). place_of bus frame.id frame.content) (sym c.bus_of-bus.ensures) ∙ sym c.place_of.ensures ∙ c.in-None.is in
    let quiet : may_be_told frame.id frame.content ≡ false = sym c.may_be_told.ensures ∙ c.if-not-may_be_told.true in
    rw (quiet_progress form sheets progress frame none quiet) (rw c.said-told.ensures at c.write_by.ensures.progress)
