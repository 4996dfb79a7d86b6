-- The numbers that a data sheet gives the parameters of TPDOs are those that a device built of it begins with.
use Rattle.std.proofs.Common.{◌≡◌, ℕ, ◌+◌, ◌/◌, ◌%◌, ◌<◌, ◌≤◌, Bool, true, false, Option, Some, None, refl, ap, sym, subst, lit<}
use Rattle.std.specs.Prelude.{if◌then◌else◌, ◌==◌, ◌&&◌, nat_lt, option_and_then, IfSome}
use Rattle.std.specs.List.{All}
use Rattle.co_value.specs.declared.data_type.DataType.TheVariants.{Unsigned8, Unsigned16, Unsigned32}
use Rattle.co_value.specs.declared.key.Key.{Key}
use Rattle.co_profile.specs.Keys.{sync_key}
use Rattle.co_dict.specs.CobIds.{identifier_of as id_in}
use Rattle.co_dict.specs.declared.side.Side.TheVariants as side
use Rattle.co_dict.specs.Rows.{number_at}
use Rattle.co_dict_build.specs.Built.{Plan, built_contents, built_description}
use Rattle.co_dict_build.specs.BuildFaults.{value_out_of_range}
use Rattle.co_sheet.specs.SheetLaws.{IsSheetRow}
use Rattle.co_pdo.specs.Mappings.{mapping_of, total_of}
use Rattle.co_pdo.specs.Tpdos.{tpdo_key}
use Rattle.co_node.specs.Built.{IsBuilt}
use Rattle.co_node_model.specs.Moments.{Constants}
use Rattle.conode_compare_pdos.specs.declared.tpdo.Tpdo.{Tpdo}
use Rattle.conode_compare_pdos.specs.Followed.{cycle_of, pdos_of, uncounted}
use Rattle.conode_compare_pdos.specs.PdoParameters.{identifier_of, length_of, parameters_of}
use Rattle.conode_compare_pdos.specs.SheetNumbers.{preset_at, time_at, tiny}
use Rattle.conode_compare_pdos.specs.Tpdos.{booted_tpdo, without_cycle}
use Rattle.conode_compare_laws.specs.TpdoParameters.{AreTpdosOf, IsTpdoOf, is_alone}
use Rattle.conode_compare_laws.specs.TpdoSheets.{AreOnTheirOwn}
use Rattle.conode_compare_laws.proofs.Begins.{node_ok, to_127}
use Rattle.conode_compare_laws.proofs.SheetNumbers.{IsOwnKey, byte, from_some, long, preset_is, time_is, tiny_is}
use Rattle.conode_compare_laws.proofs.TpdoMapped.{bytes_mapped, none_out}

module _ (plan : Plan) (last : plan.node ≤ 127) (lawful : All IsSheetRow plan.rows) (none : value_out_of_range plan.node plan.rows ≡ None) where
  kind_known : (i : ℕ) → IsOwnKey (tpdo_key i 2) Unsigned8 → IfSome (tiny (preset_at plan.rows plan.node (tpdo_key i 2))) (λ kind. number_at (built_contents plan) (tpdo_key i 2) ≡ kind)
  kind_known i own = from_some _ (tiny (preset_at plan.rows plan.node (tpdo_key i 2))) (λ n h. preset_is plan last lawful none (tpdo_key i 2) Unsigned8 n byte own (tiny_is (preset_at plan.rows plan.node (tpdo_key i 2)) n h))

  time_known : (key : Key) → IsOwnKey key Unsigned16 → IfSome (time_at plan.rows plan.node key) (λ time. number_at (built_contents plan) key ≡ time)
  time_known key own = from_some _ (time_at plan.rows plan.node key) (λ n h. time_is plan last lawful none key n own h)

  sync_known : IfSome (option_and_then identifier_of (preset_at plan.rows plan.node sync_key)) (λ id. id_in (number_at (built_contents plan) sync_key) ≡ id)
  sync_known = by (preset_at plan.rows plan.node sync_key) refl
    where
      id_of : (x : ℕ) → number_at (built_contents plan) sync_key ≡ x → (b : Bool) → IfSome (if b then Some (x % 0x800) else None) (λ id. id_in (number_at (built_contents plan) sync_key) ≡ id)
      id_of x is true = ap id_in is
      id_of x is false = tt

      by : (o : Option ℕ) → preset_at plan.rows plan.node sync_key ≡ o → IfSome (option_and_then identifier_of o) (λ id. id_in (number_at (built_contents plan) sync_key) ≡ id)
      by None is = tt
      by (Some x) is =
          id_of x (preset_is plan last lawful none sync_key Unsigned32 x long (record { request = refl; answer = refl; fixed = refl; numeric = refl }) is) (nat_lt x 0x80000000 && (x / 0x20000000 % 2 == 0))

  own_keys : (i : ℕ) → i < 512 → IsOwnKey (tpdo_key i 2) Unsigned8 → IsOwnKey (tpdo_key i 3) Unsigned16 → IsOwnKey (tpdo_key i 5) Unsigned16
      → (k : Constants) → IsBuilt plan k → is_alone k.start i (booted_tpdo (cycle_of plan.rows) (parameters_of plan.rows plan.node i)) ≡ true → IsTpdoOf k i (booted_tpdo (cycle_of plan.rows) (parameters_of plan.rows plan.node i))
  unfolding parameters_of
  own_keys i less second third fifth k is alone = record {
    alone = alone;
    kind = subst (λ c. IfSome (tiny (preset_at plan.rows plan.node (tpdo_key i 2))) (λ kind. number_at c (tpdo_key i 2) ≡ kind)) (sym is.start) (kind_known i second);
    inhibit = subst (λ c. IfSome (time_at plan.rows plan.node (tpdo_key i 3)) (λ time. number_at c (tpdo_key i 3) ≡ time)) (sym is.start) (time_known (tpdo_key i 3) third);
    timer = subst (λ c. IfSome (time_at plan.rows plan.node (tpdo_key i 5)) (λ time. number_at c (tpdo_key i 5) ≡ time)) (sym is.start) (time_known (tpdo_key i 5) fifth);
    length = subst (λ d. IfSome (length_of plan.rows plan.node (0x1A00 + i)) (λ bytes. total_of (mapping_of side.Tpdo d k.start i) ≡ bytes)) (sym is.description)
        (subst (λ c. IfSome (length_of plan.rows plan.node (0x1A00 + i)) (λ bytes. total_of (mapping_of side.Tpdo (built_description plan) c i) ≡ bytes)) (sym is.start) (bytes_mapped plan i less lawful is.faultless));
    unsent = refl;
  }

  pub known : (k : Constants) → IsBuilt plan k → AreOnTheirOwn k (pdos_of plan.rows plan.node) → AreTpdosOf k (pdos_of plan.rows plan.node)
  unfolding pdos_of
  known k is own =
      record {
        sync = subst (λ c. IfSome (option_and_then identifier_of (preset_at plan.rows plan.node sync_key)) (λ id. id_in (number_at c sync_key) ≡ id)) (sym is.start) sync_known;
        apart = own.apart;
        first = own_keys 0 (lit< tt) (record { request = refl; answer = refl; fixed = refl; numeric = refl }) (record { request = refl; answer = refl; fixed = refl; numeric = refl }) (record { request = refl; answer = refl; fixed = refl; numeric = refl }) k is own.first;
        second = own_keys 1 (lit< tt) (record { request = refl; answer = refl; fixed = refl; numeric = refl }) (record { request = refl; answer = refl; fixed = refl; numeric = refl }) (record { request = refl; answer = refl; fixed = refl; numeric = refl }) k is own.second;
        third = own_keys 2 (lit< tt) (record { request = refl; answer = refl; fixed = refl; numeric = refl }) (record { request = refl; answer = refl; fixed = refl; numeric = refl }) (record { request = refl; answer = refl; fixed = refl; numeric = refl }) k is own.third;
        fourth = own_keys 3 (lit< tt) (record { request = refl; answer = refl; fixed = refl; numeric = refl }) (record { request = refl; answer = refl; fixed = refl; numeric = refl }) (record { request = refl; answer = refl; fixed = refl; numeric = refl }) k is own.fourth;
      }

-- ---- a device that is built

pub sheet_known : (plan : Plan) (k : Constants) → IsBuilt plan k → All IsSheetRow plan.rows → AreOnTheirOwn k (pdos_of plan.rows plan.node) → AreTpdosOf k (pdos_of plan.rows plan.node)
sheet_known plan k is lawful own = known plan (to_127 plan.node (node_ok plan is.faultless)) lawful (none_out plan is.faultless) k is own

-- ---- SYNCs aren't counted

tpdo_uncounted : (k : Constants) (number : ℕ) (sheet : Tpdo) → IsTpdoOf k number sheet → IsTpdoOf k number (without_cycle sheet)
unfolding is_alone
tpdo_uncounted k number sheet of = record { alone = of.alone; kind = of.kind; inhibit = of.inhibit; timer = of.timer; length = of.length; unsent = of.unsent }

pub sheet_uncounted : (plan : Plan) (k : Constants) → IsBuilt plan k → All IsSheetRow plan.rows → AreOnTheirOwn k (pdos_of plan.rows plan.node) → AreTpdosOf k (uncounted (pdos_of plan.rows plan.node))
sheet_uncounted plan k is lawful own =
    let pdos = pdos_of plan.rows plan.node in
    let known = sheet_known plan k is lawful own in
    record {
      sync = known.sync;
      apart = known.apart;
      first = tpdo_uncounted k 0 pdos.first known.first;
      second = tpdo_uncounted k 1 pdos.second known.second;
      third = tpdo_uncounted k 2 pdos.third known.third;
      fourth = tpdo_uncounted k 3 pdos.fourth known.fourth;
    }
