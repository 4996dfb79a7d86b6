use Rattle.std.proofs.Common.{codes, refl}
use Rattle.co_sheet_text.specs.Views.{section_view}
use Rattle.co_sheet.specs.Checks.{at_key, unread_number}
use Rattle.co_sheet_faults.specs.private.Collected.{compact_collected, compact_in}
use Rattle.co_sheet_faults.proofs.EntryCodeLemmas.{added, on-ok}
use Rattle.co_sheet_faults.proofs.objects.add_compact.Goals as goal

pub returns : goal.returns
returns c =
    let s = section_view c.args.section.now in
    on-ok c.add_compact_form.result
    (λ pushed. added c.add_compact_form.new.faults.items c.add_unread_at.new.faults.items c.args.faults.now.items (at_key unread_number (codes "CompactSubObj") s) (compact_in s) (compact_collected s)
    pushed c.in-Ok.ensures refl) c.add_compact_form.ensures
