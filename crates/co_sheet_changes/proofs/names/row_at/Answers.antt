use Rattle.std.proofs.Common.{sym, subst, rules}
use Rattle.std.specs.List.Sorted.{IsBinarySearchResult}
use Rattle.std.proofs.lemmas.List.Sorted.{answers_always}
use Rattle.co_value.specs.Keys.{key_cmp}
use Rattle.co_sheet_rows.specs.declared.entry.EntryRow.{EntryRow}
use Rattle.co_sheet_changes.proofs.SearchedKeys.{row_found, row_absent}
use Rattle.co_sheet_changes.proofs.names.row_at.Goals as goal

pub returns-in-Ok : goal.returns-in-Ok
returns-in-Ok c =
    sym (row_found c.args.rows.now c.requires c.args.key c.in-Ok.place c.in-Ok.ensures.bound
    (subst (λ r. IsBinarySearchResult (λ (r : EntryRow). key_cmp r.key c.args.key) c.args.rows.now r) c.in-Ok.is (c.binary_search_by_key.ensures.position (λ (row : EntryRow). row.key) (answers_always _ _ _ (λ f a r g called. search rules)))) _)

pub returns-in-Err : goal.returns-in-Err
returns-in-Err c =
    sym (row_absent c.args.rows.now c.requires c.args.key c.in-Err.field-0
    (subst (λ r. IsBinarySearchResult (λ (r : EntryRow). key_cmp r.key c.args.key) c.args.rows.now r) c.in-Err.is (c.binary_search_by_key.ensures.position (λ (row : EntryRow). row.key) (answers_always _ _ _ (λ f a r g called. search rules)))))
