-- What a look at an identifier of a data sheet tells.
use Rattle.std.proofs.Common.{◌≡◌, ℕ, zero, suc, ◌<◌, Bool, true, false, List, [], ◌∷◌, ◌++◌, Option, None, length, get_or, refl, sym}
use Rattle.std.proofs.Common.{ap, ◌∙◌, eqb, arith, length-append}
use Rattle.std.proofs.Math.ListN.{get_or-append}
use Rattle.std.proofs.Math.Seq.{get_or-append_seam}
use Rattle.std.proofs.lemmas.Bool.{eqb-true, or_parts}
use Rattle.std.proofs.lemmas.Bool.Decides.{nat_tests}
use Rattle.std.specs.Prelude.{filter_map, if◌then◌else◌}
use Rattle.std.specs.List.{list_any}
use Rattle.co_text.proofs.Tests.{by_test}
use Rattle.conode_explain_cob_ids.specs.declared.sheet.SheetPdo.{SheetPdo}
use Rattle.conode_explain_cob_ids.specs.declared.sheet_services.SheetService.{SheetService}
use Rattle.conode_explain_cob_ids.specs.Buses.{Bus}
use Rattle.conode_explain_cob_ids.specs.Known.{KnownSheet, is_on}
use Rattle.conode_explain_cob_ids.specs.Named.{is_of_sheet, may_have, may_name, named_below}
use Rattle.conode_explain_cob_ids.specs.ServiceIds.{first_service, service_by_sheet, service_on}

-- ---- the table

counts : (only : Option ℕ) (pdos : List SheetPdo) (services : List SheetService) (n : ℕ)
    → length (named_below only pdos services n) ≡ n
unfolding named_below
counts only pdos services zero = refl
counts only pdos services (suc n) =
    omega (arith, counts only pdos services n, length-append (named_below only pdos services n) (is_of_sheet only pdos services n ∷ []))

at_place : (only : Option ℕ) (pdos : List SheetPdo) (services : List SheetService) (n id : ℕ) (d : Bool) → id < n
    → get_or (named_below only pdos services n) id d ≡ is_of_sheet only pdos services id
unfolding named_below
at_place only pdos services zero id d lt = absurd (omega (arith, lt))
at_place only pdos services (suc n) id d lt =
    let before = named_below only pdos services n in
    let count = counts only pdos services n in
    by_test (eqb id n)
    (λ same.
    let is : id ≡ n = eqb-true id n same in
    let place : id ≡ length before = is ∙ sym count in
    ap (λ (i : ℕ). get_or (before ++ is_of_sheet only pdos services n ∷ []) i d) place
    ∙ get_or-append_seam before (is_of_sheet only pdos services n) [] d
    ∙ ap (λ (i : ℕ). is_of_sheet only pdos services i) (sym is))
    (λ differs.
    let earlier : id < n = grind (arith, nat_tests) in
    get_or-append before (is_of_sheet only pdos services n ∷ []) d id (omega (arith, earlier, count))
    ∙ at_place only pdos services n id d earlier)

-- where the table says no, it is of no PDO, and of no service
pub none_of : (only : Option ℕ) (pdos : List SheetPdo) (services : List SheetService) (named : List Bool) (id : ℕ) (d found : Bool)
    → named ≡ named_below only pdos services 2048 → id < length named → found ≡ get_or named id d → found ≡ false
    → (list_any (may_have only id) pdos ≡ false) × (list_any (may_name only id) services ≡ false)
none_of only pdos services named id d found is lt looked absent =
    let few : id < 2048 = omega (arith, lt, ap length is, counts only pdos services 2048) in
    let none : is_of_sheet only pdos services id ≡ false =
    sym (at_place only pdos services 2048 id d few) ∙ ap (λ (l : List Bool). get_or l id d) (sym is) ∙ sym looked ∙ absent in
    or_parts (list_any (may_have only id) pdos) (list_any (may_name only id) services) none

-- ---- services

not_named : (bus : Bus) (id : ℕ) (only : Option ℕ) (service : SheetService)
    → may_name only id service ≡ false → service_by_sheet bus id only service ≡ None
unfolding service_by_sheet
not_named bus id only service is = rw is refl

none_named : (bus : Bus) (id : ℕ) (only : Option ℕ) (services : List SheetService)
    → list_any (may_name only id) services ≡ false → filter_map (service_by_sheet bus id only) services ≡ []
none_named bus id only [] is = refl
none_named bus id only (service ∷ services) is =
    let parts = or_parts (may_name only id service) (list_any (may_name only id) services) is in
    rw (not_named bus id only service parts.0) (none_named bus id only services parts.1)

on_either : {A : Type 0} (test : Bool) (found : Option A) → found ≡ None → None ≡ (if test then found else None)
on_either true found is = sym is
on_either false found is = refl

pub no_service : (bus : Bus) (id : ℕ) (sheet : KnownSheet)
    → list_any (may_name sheet.names.only id) sheet.services ≡ false → None ≡ service_on bus id sheet
no_service bus id sheet is =
    on_either (is_on bus.interface sheet) (first_service (filter_map (service_by_sheet bus id sheet.names.only) sheet.services))
    (ap first_service (none_named bus id sheet.names.only sheet.services is))
