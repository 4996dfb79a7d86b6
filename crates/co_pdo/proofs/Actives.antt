-- A PDO that is active is there.
use Rattle.std.proofs.Common.{◌≡◌, ℕ, Bool, true, false, Option, Some, None, refl, sym, ◌∙◌}
use Rattle.std.specs.Prelude.{is_some}
use Rattle.co_dict.specs.declared.side.Side.{Side}
use Rattle.co_dict.specs.Rows.{Contents}
use Rattle.co_dict.specs.Stores.{Description, IsDictionary}
use Rattle.co_pdo.specs.Mappings.{has_pdo}
use Rattle.co_pdo.specs.Pdos.{communication_key, is_pdo_active}

no_bytes : {X Y : Type 0} (o : Option X) (r : Option Y) → is_some o ≡ is_some r → is_some r ≡ false → o ≡ None
no_bytes None r e h = refl
no_bytes (Some x) r e h = cc

pub inactive : (side : Side) (d : Description) (contents : Contents) (k : ℕ) → IsDictionary d contents → has_pdo side d.rows k ≡ false → is_pdo_active side contents k ≡ false
inactive side d contents k laws h =
    let absent : contents (communication_key side k 1) ≡ None = no_bytes (contents (communication_key side k 1)) (d.rows (communication_key side k 1)) (laws.filled.present (communication_key side k 1)) h in
    rw absent refl

by_test : (there active : Bool) → (there ≡ false → active ≡ false) → active ≡ true → there ≡ true
by_test true active off on = refl
by_test false active off on = sym (off refl) ∙ on

pub active_there : (side : Side) (d : Description) (contents : Contents) (k : ℕ) → IsDictionary d contents → is_pdo_active side contents k ≡ true → has_pdo side d.rows k ≡ true
active_there side d contents k laws on = by_test (has_pdo side d.rows k) (is_pdo_active side contents k) (inactive side d contents k laws) on
