use Rattle.std.proofs.Common.{◌≡◌, ◌≢◌, ℕ, Bool, true, false, eqb, refl, sym, ap, ◌∙◌, arith}
use Rattle.std.specs.Prelude.{◌&&◌, not}
use Rattle.std.proofs.lemmas.Bool.Decides.{nat_tests}
use Rattle.co_dict.specs.Rows.{Contents, number_at}
use Rattle.co_dict.specs.CobIds.{is_valid}
use Rattle.co_dict.specs.declared.side.Side.TheVariants as side
use Rattle.co_pdo.specs.Mappings.{count_of}
use Rattle.co_profile.specs.TransmissionTypes.{is_supported_type}
use Rattle.co_pdo.specs.Pdos.{cob_id_of}
use Rattle.co_pdo.specs.Tpdos.{tpdo_key, is_active}
use Rattle.co_pdo.proofs.places.Places.is_active.Goals as goal

by_numbers : (contents : Contents) (k word count kind : ℕ) → word ≡ cob_id_of side.Tpdo contents k → count ≡ count_of side.Tpdo contents k → kind ≡ number_at contents (tpdo_key k 2)
    → (is_valid word && not (eqb count 0) && is_supported_type kind) ≡ is_active contents k
by_numbers contents k word count kind w n t =
    ap (λ v. is_valid v && not (eqb count 0) && is_supported_type kind) w
    ∙ ap (λ v. is_valid (cob_id_of side.Tpdo contents k) && not (eqb v 0) && is_supported_type kind) n
    ∙ ap (λ v. is_valid (cob_id_of side.Tpdo contents k) && not (eqb (count_of side.Tpdo contents k) 0) && is_supported_type v) t

none_mapped : (valid kind : Bool) (count : ℕ) → count ≡ 0 → (valid && not (eqb count 0) && kind) ≡ false
none_mapped true kind count e = ap (λ n. true && not (eqb n 0) && kind) e
none_mapped false kind count e = refl

some_mapped : (valid kind : Bool) (count : ℕ) → valid ≡ true → count ≢ 0 → (valid && not (eqb count 0) && kind) ≡ kind
some_mapped valid kind count e h =
    let none : eqb count 0 ≡ false = grind (arith, nat_tests) in
    ap (λ v. v && not (eqb count 0) && kind) e ∙ ap (λ b. true && not b && kind) none

pub returns-then-mapped-eq0 : goal.returns-then-mapped-eq0
returns-then-mapped-eq0 g c = λ k lt at.
    sym (none_mapped (is_valid c.cob_id.result.0) _ c.mapped.result c.if-mapped-eq0.true)
    ∙ by_numbers (g.S.ObjectStore.contents c.args.store.now) k c.cob_id.result.0 c.mapped.result _ (c.cob_id.ensures k lt at) (c.mapped.ensures k lt at) refl

pub returns : goal.returns
returns g c = λ k lt at.
    c.is_supported.ensures
    ∙ sym (some_mapped (is_valid c.cob_id.result.0) _ c.mapped.result (sym c.is_valid.ensures ∙ c.if-not-is_valid.false) c.if-mapped-eq0.false)
    ∙ by_numbers (g.S.ObjectStore.contents c.args.store.now) k c.cob_id.result.0 c.mapped.result c.transmission_type.result.0 (c.cob_id.ensures k lt at) (c.mapped.ensures k lt at) (c.transmission_type.ensures k lt at)
