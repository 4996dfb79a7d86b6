use Rattle.std.proofs.Common.{codes, refl}
use Rattle.co_sheet.specs.Checks.{at_key, unread_limit}
use Rattle.co_sheet.specs.SectionViews.{entry_view}
use Rattle.co_sheet_faults.specs.private.Collected.{default_collected, numeric_collected}
use Rattle.co_sheet_faults.specs.private.EntryParts.{limit_if}
use Rattle.co_sheet_faults.proofs.EntryCodeLemmas.{on-ok, six-added}
use Rattle.co_sheet_faults.proofs.entries.add_numeric.Goals as goal

pub returns : goal.returns
returns c =
    let t = c.args.data_type in
    let e = entry_view c.args.entry.now in
    let limits = c.limits_of-limits.result in
    let low = at_key (limit_if limits.is_low_bad) (codes "LowLimit") e.section in
    let high = at_key (limit_if limits.is_high_bad) (codes "HighLimit") e.section in
    on-ok c.add_default-2.result
    (λ pushed. six-added c.args.faults.now.items c.add_unread_limit.new.faults.items c.add_unread_limit-2.new.faults.items c.add_limit.new.faults.items c.add_limit-2.new.faults.items c.add_default.new.faults.items c.add_default-2.new.faults.items
    (at_key (unread_limit t) (codes "LowLimit") e.section) (at_key (unread_limit t) (codes "HighLimit") e.section) low high (default_collected (codes "DefaultValue") t e) (default_collected (codes "ParameterValue") t e)
    (numeric_collected t e) c.in-Ok.ensures c.in-Ok-add_unread_limit.ensures c.in-Ok-add_limit.ensures c.in-Ok-add_limit-2.ensures c.in-Ok-add_default.ensures pushed
    (rw (c.limits_of-limits.ensures.is_low_bad, c.limits_of-limits.ensures.is_high_bad) refl)) c.add_default-2.ensures
