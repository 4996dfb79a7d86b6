-- What `compare` finds of TPDOs, kind by kind (CiA 301, 7.2.2, 7.3.2.2 and 7.5.2.37).
use Rattle.std.specs.Prelude.{Bool, true, false, if◌then◌else◌, List, [], ◌∷◌, Option, Some}
use Rattle.conode_compare_pdos.specs.declared.deviation.Deviation.{Deviation}
use Rattle.conode_compare_pdos.specs.declared.deviation.Deviation.TheVariants.{Length, NotOperational, WithoutSync, FewSyncs, Inhibit, Timer}
use Rattle.conode_compare_nmt.specs.declared.finding.Finding.{Finding}
use Rattle.conode_compare_nmt.specs.declared.finding.Finding.TheVariants.{Pdo}
use Rattle.conode_compare_rules.specs.declared.kind.FrameKind.{FrameKind}
use Rattle.conode_compare_rules.specs.declared.kind.FrameKind.TheVariants.{Process}
use Rattle.conode_compare_rules.specs.declared.verdict.Findings.{Findings}

-- `pdo-state`
abbrev pub is_pdo_state : Deviation → Bool
is_pdo_state NotOperational = true
is_pdo_state other = false

-- `pdo-length`
abbrev pub is_pdo_length : Deviation → Bool
is_pdo_length (Length length mapped) = true
is_pdo_length other = false

-- `pdo-sync`, without a SYNC and after too few SYNCs
abbrev pub is_pdo_sync : Deviation → Bool
is_pdo_sync WithoutSync = true
is_pdo_sync (FewSyncs syncs n) = true
is_pdo_sync other = false

-- `pdo-inhibit`
abbrev pub is_pdo_inhibit : Deviation → Bool
is_pdo_inhibit (Inhibit passed inhibit) = true
is_pdo_inhibit other = false

-- `pdo-late`
abbrev pub is_pdo_late : Deviation → Bool
is_pdo_late (Timer passed timer) = true
is_pdo_late other = false

-- a difference, where it is one of a TPDO and of this kind
abbrev pub of_kind : (Deviation → Bool) → Option Finding → List Finding
of_kind is (Some (Pdo number deviation)) = if is deviation then Pdo number deviation ∷ [] else []
of_kind is other = []

-- of a data frame that isn't one of NMT, EMCY, SDO or error control, the difference of this kind
abbrev pub tpdo_differences : (Deviation → Bool) → FrameKind → Findings → List Finding
tpdo_differences is (Process id length) found = of_kind is found.frame
tpdo_differences is kind found = []
