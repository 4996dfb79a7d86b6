use Rattle.std.proofs.Common.{ℕ, rules, subst, sym}
use Rattle.std.specs.List.Sorted.{IsStrictlySortedBy}
use Rattle.std.proofs.lemmas.Fn.{always_returns_same, dedup_same}
use Rattle.std.proofs.lemmas.List.Kept.{Contains-dedup, Contains-from_dedup, IsStrictlySortedBy-dedup}
use Rattle.std.proofs.lemmas.List.Sorted.{Contains-permutation, IsPermutation-sym}
use Rattle.co_sheet_rows.specs.declared.fault.SheetFault.{SheetFault}
use Rattle.co_sheet_rows.specs.FaultTexts.{fault_number}
use Rattle.co_sheet_faults.specs.FaultOrder.{fault_cmp}
use Rattle.co_sheet_faults.proofs.FaultOrderLemmas.{fault_total, same_place, same_equiv, ties, same_fault}
use Rattle.co_sheet_faults.proofs.find.put_in_order.Goals as goal

pub returns-clause-increase : goal.returns-clause-increase
returns-clause-increase c =
    let key : SheetFault → ℕ × ℕ = λ f. (f.line, fault_number f.kind) in
    let sorted = c.in-Ok.ensures.sorted key (always_returns_same _ _ _ (λ a r f' k. search rules)) in
    let is = dedup_same _ same_place _ (λ x y b f' x' y' k. search rules) _ _ c.dedup_by_key.ensures.filtered in
    subst (IsStrictlySortedBy fault_cmp) (sym is) (IsStrictlySortedBy-dedup fault_total ties _ sorted)

pub returns-clause-all : goal.returns-clause-all
returns-clause-all c = λ fault h.
    let is = dedup_same _ same_place _ (λ x y b f' x' y' k. search rules) _ _ c.dedup_by_key.ensures.filtered in
    rw is (Contains-dedup same_equiv same_fault _ fault (Contains-permutation _ _ fault c.in-Ok.ensures.permutation h))

pub returns-clause-only : goal.returns-clause-only
returns-clause-only c = λ fault h.
    let is = dedup_same _ same_place _ (λ x y b f' x' y' k. search rules) _ _ c.dedup_by_key.ensures.filtered in
    Contains-permutation _ _ fault (IsPermutation-sym _ _ c.in-Ok.ensures.permutation) (Contains-from_dedup _ _ fault (rw is at h))
