-- The first active RPDO with an identifier depends on the parameters of RPDOs alone, the identifier of SYNC on 1005h.
use Rattle.std.proofs.Common.{◌≡◌, ℕ, ◌+◌, ◌<◌, List, refl, ◌∙◌, arith}
use Rattle.std.specs.Prelude.{Option}
use Rattle.co_dict.specs.declared.side.Side.TheVariants.{Rpdo}
use Rattle.co_dict.specs.Rows.{Contents}
use Rattle.co_pdo.specs.Pdos.{communication_key}
use Rattle.co_node_model.specs.Rpdos.{is_rpdo_with, rpdo_with}
use Rattle.co_node_model.specs.Addresses.{AgreeOnAddresses, AgreeOnRpdos}
use Rattle.co_node_device.specs.AddressTables.{AreRpdosOf, IsTableOf, TableContent}
use Rattle.co_node_device.proofs.Finds.{find_same}

module _ (contents others : Contents) (agree : AgreeOnRpdos contents others) where
  same_test : (id k : ℕ) → k < 512 → is_rpdo_with contents id k ≡ is_rpdo_with others id k
  same_test id k below =
      let words : contents (communication_key Rpdo k 1) ≡ others (communication_key Rpdo k 1) =
      agree (communication_key Rpdo k 1) (omega arith) (omega arith) in
      let kinds : contents (communication_key Rpdo k 2) ≡ others (communication_key Rpdo k 2) =
      agree (communication_key Rpdo k 2) (omega arith) (omega arith) in
      let counts : contents (record { index = 0x1600 + k; sub = 0 }) ≡ others (record { index = 0x1600 + k; sub = 0 }) =
      agree (record { index = 0x1600 + k; sub = 0 }) (omega arith) (omega arith) in
      rw (words, kinds, counts) refl

  pub same_rpdo : (id : ℕ) → rpdo_with contents id ≡ rpdo_with others id
  unfolding rpdo_with
  same_rpdo id = find_same (is_rpdo_with contents id) (is_rpdo_with others id) 0 512 (λ k below. same_test id k below)

  same_rpdos : (numbers : List (Option ℕ)) → AreRpdosOf contents numbers → AreRpdosOf others numbers
  same_rpdos numbers are = λ id below. are id below ∙ same_rpdo id

pub same_table : (contents others : Contents) → AgreeOnAddresses contents others → (table : TableContent)
    → IsTableOf contents table → IsTableOf others table
same_table contents others agree table is = record {
  sync = is.sync ∙ (rw agree.sync refl);
  rpdos = same_rpdos contents others agree.rpdos table.numbers is.rpdos;
}
