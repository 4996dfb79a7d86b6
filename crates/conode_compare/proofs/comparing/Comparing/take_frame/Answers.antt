-- The progress of a frame is taken first, and then what else it shows.
use Rattle.std.proofs.Common.{ap}
use Rattle.conode_compare_rules.specs.declared.verdict.Findings.{Findings}
use Rattle.conode_compare.specs.Views.{comparison_view}
use Rattle.conode_compare.proofs.FrameLemmas.{documented, on_ok, so_chosen, undocumented}
use Rattle.conode_compare.proofs.comparing.Comparing.take_frame.Goals as goal

pub returns-in-Ok-note_frame-clause-next : goal.returns-in-Ok-note_frame-clause-next
returns-in-Ok-note_frame-clause-next g c =
    let what = comparison_view c.args.settings.now in
    let so_far = c.args.self.now in
    let frame = c.args.frame.now in
    let chosen = so_chosen what.interface so_far.first.items frame.interface c.as_slice.result.now c.bytes-name.result.now c.is_compared.result
    c.as_slice.ensures.value c.bytes-name.ensures.bytes c.is_compared.ensures c.if-not-is_compared.false in
    documented what so_far frame chosen c.kind_of-kind.result c.kind_of-kind.ensures c.document_kind.new.progress c.document_kind.ensures.progress c.in-Ok.value c.in-Ok.ensures.verdict
    c.in-Some.report c.document_kind.new.report c.note_frame.new.self c.in-Some.is c.in-Ok.ensures.report c.in-Ok-note_frame.ensures.next

pub returns-in-Ok-note_frame-2-clause-next : goal.returns-in-Ok-note_frame-2-clause-next
returns-in-Ok-note_frame-2-clause-next g c =
    let what = comparison_view c.args.settings.now in
    let so_far = c.args.self.now in
    let frame = c.args.frame.now in
    let chosen = so_chosen what.interface so_far.first.items frame.interface c.as_slice.result.now c.bytes-name.result.now c.is_compared.result
    c.as_slice.ensures.value c.bytes-name.ensures.bytes c.is_compared.ensures c.if-not-is_compared.false in
    on_ok c.write_shown.result
    (undocumented what so_far frame chosen c.kind_of-kind.result c.kind_of-kind.ensures c.take-found.new.self c.take-found.ensures.progress c.take-found.result.verdict
    (ap (λ (found : Findings). found.verdict) c.take-found.ensures.findings) c.note_frame-in-None.new.self c.in-None.is c.in-Ok-note_frame-2.ensures.next)
