-- What the laws about TPDOs ask of a data sheet that a device is built of.
use Rattle.std.specs.Prelude.{◌≡◌, true, false, IfSome}
use Rattle.co_node_model.specs.Moments.{Constants}
use Rattle.conode_compare_pdos.specs.declared.pdos.Pdos.{Pdos}
use Rattle.conode_compare_laws.specs.TpdoFrames.{is_followed}
use Rattle.conode_compare_laws.specs.TpdoParameters.{is_alone}

-- no other TPDO has the identifier of one of the four, nor SYNC
pub record AreOnTheirOwn (k : Constants) (pdos : Pdos) : Type 0 where
  pub apart : IfSome pdos.sync (λ id. is_followed pdos id ≡ false)
  pub first : is_alone k.start 0 pdos.first ≡ true
  pub second : is_alone k.start 1 pdos.second ≡ true
  pub third : is_alone k.start 2 pdos.third ≡ true
  pub fourth : is_alone k.start 3 pdos.fourth ≡ true
