-- What is known of the device before a frame, and what the frame is to it.
use Rattle.std.specs.Prelude.{ℕ, ◌+◌, ◌==◌, Bool, if◌then◌else◌, List, Option, option_and_then}
use Rattle.co_sheet.specs.Content.{Row}
use Rattle.conode_compare_pdos.specs.declared.pdos.Pdos.{Pdos}
use Rattle.conode_compare_pdos.specs.PdoParameters.{identifier_of, key_of}
use Rattle.conode_compare_pdos.specs.SheetNumbers.{preset_at}
use Rattle.conode_compare_pdos.specs.Tpdos.{is_id}
use Rattle.conode_compare_rules.specs.declared.kind.FrameKind.{FrameKind}
use Rattle.conode_compare_rules.specs.declared.kind.FrameKind.TheVariants.{Process}
use Rattle.conode_compare_rules.specs.declared.progress.Progress.{Progress}
use Rattle.conode_compare_report.specs.declared.before.Before.{Before}
use Rattle.conode_compare_report.specs.declared.before.Role.{Role}
use Rattle.conode_compare_report.specs.declared.before.Role.TheVariants.{Sync, Time, Tpdo, Rpdo, Other}
use Rattle.conode_compare_report.specs.declared.before.Rpdos.{Rpdos}

-- the identifier of the RPDO with this number, from 0 on, by the data sheet (CiA 301, 7.5.2.35)
abbrev pub rpdo_id : List Row → ℕ → ℕ → Option ℕ
rpdo_id rows node number = option_and_then identifier_of (preset_at rows node (key_of (0x1400 + number) 1))

unfoldable pub rpdos_of : List Row → ℕ → Rpdos
rpdos_of rows node = record {
  first = rpdo_id rows node 0;
  second = rpdo_id rows node 1;
  third = rpdo_id rows node 2;
  fourth = rpdo_id rows node 3;
}

-- the identifier of TIME (CiA 301, 7.3.3)
abbrev pub time_id : ℕ
time_id = 0x100

abbrev pub rpdo_role : Rpdos → ℕ → Role
rpdo_role rpdos id =
    if is_id rpdos.first id then Rpdo 1 else (if is_id rpdos.second id then Rpdo 2
    else (if is_id rpdos.third id then Rpdo 3 else (if is_id rpdos.fourth id then Rpdo 4
    else (if id == time_id then Time else Other))))

-- what a data frame with this identifier is
unfoldable pub role_of : Pdos → Rpdos → ℕ → Role
role_of pdos rpdos id =
    if is_id pdos.sync id then Sync
    else (if is_id pdos.first.parameters.id id then Tpdo 1 pdos.first.parameters
    else (if is_id pdos.second.parameters.id id then Tpdo 2 pdos.second.parameters
    else (if is_id pdos.third.parameters.id id then Tpdo 3 pdos.third.parameters
    else (if is_id pdos.fourth.parameters.id id then Tpdo 4 pdos.fourth.parameters
    else rpdo_role rpdos id))))

abbrev pub role_at : Pdos → Rpdos → FrameKind → Role
role_at pdos rpdos (Process id length) = role_of pdos rpdos id
role_at pdos rpdos _ = Other

-- `modular`: modules decide which entries the device has
unfoldable pub before_at : Rpdos → Bool → Progress → FrameKind → Before
before_at rpdos modular progress kind = record {
  state = progress.nmt.state;
  entries = progress.entries;
  modular = modular;
  role = role_at progress.pdos rpdos kind;
}
