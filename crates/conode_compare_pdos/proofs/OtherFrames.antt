-- A data frame that none of the TPDOs has.
use Rattle.std.proofs.Common.{◌≡◌, ℕ, Bool, true, false, None, refl}
use Rattle.std.specs.Prelude.{◌||◌}
use Rattle.conode_compare_pdos.specs.declared.deviation.Moment.{Moment}
use Rattle.conode_compare_pdos.specs.declared.pdos.Pdos.{Pdos}
use Rattle.conode_compare_pdos.specs.Followed.{framed, has_id, sighting}
use Rattle.conode_compare_pdos.specs.Tpdos.{is_id}

-- none of four
none_of : (a b c d : Bool) → (a || (b || (c || d))) ≡ false → (a ≡ false) × ((b ≡ false) × ((c ≡ false) × (d ≡ false)))
none_of false false false false h = (refl, (refl, (refl, refl)))
none_of false false false true h = cc
none_of false false true d h = cc
none_of false true c d h = cc
none_of true b c d h = cc

module _ (moment : Moment) (pdos : Pdos) (id length : ℕ) (none : has_id pdos id ≡ false) where
  pub not_seen : sighting moment pdos id length ≡ None
  unfolding sighting
  not_seen =
      let all = none_of (is_id pdos.first.parameters.id id) (is_id pdos.second.parameters.id id) (is_id pdos.third.parameters.id id) (is_id pdos.fourth.parameters.id id) none in
      rw (all.0, all.1.0, all.1.1.0, all.1.1.1) refl

  pub kept : is_id pdos.sync id ≡ false → framed pdos moment id length ≡ pdos
  unfolding framed
  kept other =
      let all = none_of (is_id pdos.first.parameters.id id) (is_id pdos.second.parameters.id id) (is_id pdos.third.parameters.id id) (is_id pdos.fourth.parameters.id id) none in
      rw (other, all.0, all.1.0, all.1.1.0, all.1.1.1) refl
