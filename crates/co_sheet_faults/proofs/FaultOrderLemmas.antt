-- Faults by line, and then by the number of their kind: two that tie are one.
use Rattle.std.proofs.Common.{◌≡◌, ℕ, Bool, true, false, cond, ◌&&◌, ◌==◌, if◌then◌else◌, refl, sym, ap, ◌∙◌, arith, ltb, eqb}
use Rattle.std.specs.Cmp.{IsTotalOrder, IsEquivalence}
use Rattle.std.specs.Ordering.{eq_by_cmp, is_eq, ordering_then}
use Rattle.std.specs.declared.cmp.Ordering.TheVariants.{Less, Equal, Greater}
use Rattle.std.proofs.lemmas.Bool.Decides.{nat_tests}
use Rattle.std.proofs.lemmas.Cmp.{nat_cmp_total, nat_eq_equiv, on_total, then_total, on_equiv, and_equiv}
use Rattle.co_sheet_rows.specs.declared.fault.FaultKind.{FaultKind}
use Rattle.co_sheet_rows.specs.declared.fault.FaultKind.TheVariants.{TooLarge, BadLine, KeyOutsideSection, DuplicateSection, DuplicateKey, MissingSection, BadNumber, AmbiguousNumber, BadList, ListedTwice, MissingKey, BadType, LeftOutType, BadAccess, BadLimits, BadDefault, MissingSub0, CompactForm, MissingMandatory, Memory}
use Rattle.co_sheet_rows.specs.declared.fault.SheetFault.{SheetFault}
use Rattle.co_sheet_rows.specs.FaultTexts.{fault_number}
use Rattle.co_sheet_faults.specs.FaultOrder.{fault_cmp}

pub fault_total : IsTotalOrder fault_cmp
fault_total = then_total (on_total (λ (f : SheetFault). f.line) nat_cmp_total) (on_total (λ (f : SheetFault). fault_number f.kind) nat_cmp_total)

-- the same line and number
abbrev pub same_place : SheetFault → SheetFault → Bool
same_place f g = eqb f.line g.line && eqb (fault_number f.kind) (fault_number g.kind)

pub same_equiv : IsEquivalence same_place
same_equiv = and_equiv (on_equiv (λ (f : SheetFault). f.line) nat_eq_equiv) (on_equiv (λ (f : SheetFault). fault_number f.kind) nat_eq_equiv)

apart : (a b : ℕ) → ltb a b ≡ true → eqb a b ≡ false
apart a b h = grind (arith, nat_tests)

ties_cases : (less same less_then same_then : Bool) → (less ≡ true → same ≡ false) → (less_then ≡ true → same_then ≡ false)
    → (same && same_then) ≡ is_eq (ordering_then (cond less Less (cond same Equal Greater)) (cond less_then Less (cond same_then Equal Greater)))
ties_cases true same less_then same_then h k = rw (h refl) refl
ties_cases false false less_then same_then h k = refl
ties_cases false true true same_then h k = rw (k refl) refl
ties_cases false true false true h k = refl
ties_cases false true false false h k = refl

pub ties : (f g : SheetFault) → same_place f g ≡ eq_by_cmp fault_cmp f g
ties f g =
    ties_cases (ltb f.line g.line) (eqb f.line g.line) (ltb (fault_number f.kind) (fault_number g.kind)) (eqb (fault_number f.kind) (fault_number g.kind))
    (apart f.line g.line) (apart (fault_number f.kind) (fault_number g.kind))

-- a kind is known by its number
abbrev numbered : ℕ → FaultKind
numbered n =
    if n == 1 then TooLarge else if n == 2 then BadLine else if n == 3 then KeyOutsideSection else if n == 4 then DuplicateSection
    else if n == 5 then DuplicateKey else if n == 6 then MissingSection else if n == 7 then BadNumber else if n == 8 then AmbiguousNumber
    else if n == 9 then BadList else if n == 10 then ListedTwice else if n == 11 then MissingKey else if n == 12 then BadType
    else if n == 13 then LeftOutType else if n == 14 then BadAccess else if n == 15 then BadLimits else if n == 16 then BadDefault
    else if n == 17 then MissingSub0 else if n == 18 then CompactForm else if n == 19 then MissingMandatory else Memory

kind-numbered : (k : FaultKind) → numbered (fault_number k) ≡ k
kind-numbered TooLarge = refl
kind-numbered BadLine = refl
kind-numbered KeyOutsideSection = refl
kind-numbered DuplicateSection = refl
kind-numbered DuplicateKey = refl
kind-numbered MissingSection = refl
kind-numbered BadNumber = refl
kind-numbered AmbiguousNumber = refl
kind-numbered BadList = refl
kind-numbered ListedTwice = refl
kind-numbered MissingKey = refl
kind-numbered BadType = refl
kind-numbered LeftOutType = refl
kind-numbered BadAccess = refl
kind-numbered BadLimits = refl
kind-numbered BadDefault = refl
kind-numbered MissingSub0 = refl
kind-numbered CompactForm = refl
kind-numbered MissingMandatory = refl
kind-numbered Memory = refl

both : (a b : Bool) → (a && b) ≡ true → (a ≡ true) × (b ≡ true)
both true true h = (refl, refl)
both true false h = absurd (cc)
both false b h = absurd (cc)

alike : (a b : ℕ) → eqb a b ≡ true → a ≡ b
alike a b h = grind (arith, nat_tests)

pub same_fault : (f g : SheetFault) → same_place f g ≡ true → f ≡ g
same_fault f g h =
    let parts = both (eqb f.line g.line) (eqb (fault_number f.kind) (fault_number g.kind)) h in
    let line = alike f.line g.line parts.0 in
    let number = alike (fault_number f.kind) (fault_number g.kind) parts.1 in
    let kind : f.kind ≡ g.kind = sym (kind-numbered f.kind) ∙ ap numbered number ∙ kind-numbered g.kind in
    ap (λ (k : FaultKind). let r : SheetFault = record { kind = k; line = f.line } in r) kind
    ∙ ap (λ (n : ℕ). let r : SheetFault = record { kind = g.kind; line = n } in r) line
