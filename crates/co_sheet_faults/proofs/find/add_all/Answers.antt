use Rattle.std.proofs.Common.{◌≡◌, ◌∙◌, ◌++◌, ◌<◌, ◌≤◌, List, [], ◌∷◌, ap, subst, sym, length, Contains, arith}
use Rattle.std.proofs.lemmas.Result.{on_ok_weaker}
use Rattle.std.specs.List.Sorted.{IsStrictlySortedBy}
use Rattle.co_sheet_rows.specs.declared.fault.SheetFault.{SheetFault}
use Rattle.co_sheet_rows.specs.declared.fault.FaultKind.TheVariants.{TooLarge}
use Rattle.co_sheet.specs.Faults.{fault_at}
use Rattle.co_sheet_faults.specs.FaultOrder.{fault_cmp}
use Rattle.co_sheet_text.specs.Text.{lines_of}
use Rattle.co_sheet_faults.specs.private.Collected.{text_collected}
use Rattle.co_sheet_faults.proofs.AllLemmas.{large-alone}
use Rattle.co_sheet_faults.proofs.TextCodeLemmas.{text-found, found-text}
use Rattle.co_sheet_faults.proofs.find.add_all.Goals as goal

-- that fault is the only one
alone : (old new : List SheetFault) → old ≡ [] → new ≡ old ++ fault_at 0 TooLarge ∷ [] → new ≡ fault_at 0 TooLarge ∷ []
alone old new none added = added ∙ ap (λ (l : List SheetFault). l ++ fault_at 0 TooLarge ∷ []) none

pub returns-then-text-gt-GREATEST_SIZE-clause-increase : goal.returns-then-text-gt-GREATEST_SIZE-clause-increase
unfolding IsStrictlySortedBy
returns-then-text-gt-GREATEST_SIZE-clause-increase c =
    on_ok_weaker c.add_if.result (λ added. subst (IsStrictlySortedBy fault_cmp) (sym (alone _ _ c.requires added)) (tt, tt)) c.add_if.ensures

pub returns-then-text-gt-GREATEST_SIZE-clause-all : goal.returns-then-text-gt-GREATEST_SIZE-clause-all
returns-then-text-gt-GREATEST_SIZE-clause-all c =
    let large : 1048576 < length c.args.text.now = omega arith in
    on_ok_weaker c.add_if.result
    (λ added. λ fault h. subst (λ (l : List SheetFault). Contains l fault) (large-alone c.args.text.now large ∙ sym (alone _ _ c.requires added)) h)
    c.add_if.ensures

pub returns-then-text-gt-GREATEST_SIZE-clause-only : goal.returns-then-text-gt-GREATEST_SIZE-clause-only
returns-then-text-gt-GREATEST_SIZE-clause-only c =
    let large : 1048576 < length c.args.text.now = omega arith in
    on_ok_weaker c.add_if.result
    (λ added. λ fault h. subst (λ (l : List SheetFault). Contains l fault) (alone _ _ c.requires added ∙ sym (large-alone c.args.text.now large)) h)
    c.add_if.ensures

pub returns-clause-increase : goal.returns-clause-increase
returns-clause-increase c = c.put_in_order.ensures.increase

pub returns-clause-all : goal.returns-clause-all
returns-clause-all c =
    let few : length c.args.text.now ≤ 1048576 = omega arith in
    let collected = c.in-Ok.ensures ∙ ap (λ (l : List SheetFault). l ++ text_collected (lines_of c.args.text.now)) c.requires in
    on_ok_weaker c.put_in_order.result
    (λ all. λ fault h. all fault (subst (λ (l : List SheetFault). Contains l fault) (sym collected) (found-text c.args.text.now few fault h)))
    c.put_in_order.ensures.all

pub returns-clause-only : goal.returns-clause-only
returns-clause-only c =
    let few : length c.args.text.now ≤ 1048576 = omega arith in
    let collected = c.in-Ok.ensures ∙ ap (λ (l : List SheetFault). l ++ text_collected (lines_of c.args.text.now)) c.requires in
    on_ok_weaker c.put_in_order.result
    (λ only. λ fault h. text-found c.args.text.now few fault (subst (λ (l : List SheetFault). Contains l fault) collected (only fault h)))
    c.put_in_order.ensures.only
