use Rattle.std.proofs.Common.{◌++◌, codes, refl}
use Rattle.co_sheet.specs.Checks.{at_key, bad_access, unread_number}
use Rattle.co_sheet.specs.SectionViews.{entry_view}
use Rattle.co_sheet_faults.specs.AllChecks.{key_found, of_sound_type}
use Rattle.co_sheet_faults.specs.private.Collected.{entry_collected, type_collected, values_collected}
use Rattle.co_sheet_faults.proofs.EntryCodeLemmas.{added, on-ok}
use Rattle.co_sheet_faults.proofs.entries.add_entry.Goals as goal

pub returns : goal.returns
returns c =
    let e = entry_view c.args.entry.now in
    let first = c.add_missing_key.new.faults.items in
    let second = c.add_type.new.faults.items in
    let third = c.add_unread_at.new.faults.items in
    let now = c.add_typed_values.new.faults.items in
    let values = of_sound_type values_collected e in
    let accessed = bad_access e ++ values in
    let mapped = at_key unread_number (codes "PDOMapping") e.section ++ accessed in
    on-ok c.add_typed_values.result
    (λ pushed. added now first c.args.faults.now.items (key_found e) (type_collected e ++ mapped) (entry_collected e)
    (added now second first (type_collected e) mapped (type_collected e ++ mapped)
    (added now third second (at_key unread_number (codes "PDOMapping") e.section) accessed mapped
    (added now c.add_access.new.faults.items third (bad_access e) values accessed pushed c.in-Ok-add_access.ensures refl)
    c.in-Ok-add_unread_at.ensures refl) c.in-Ok-add_type.ensures refl) c.in-Ok.ensures refl) c.add_typed_values.ensures
