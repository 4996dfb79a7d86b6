-- The communication and the mapping parameter of one PDO of either side (CiA 301, 7.5.2.35 to
-- 7.5.2.38).
use Rattle.std.specs.Prelude.{ℕ, ◌==◌, ◌&&◌, Bool, not}
use Rattle.co_value.specs.declared.key.Key.{Key}
use Rattle.co_profile.specs.TransmissionTypes.{is_supported_type}
use Rattle.co_dict.specs.declared.side.Side.{Side}
use Rattle.co_dict.specs.Rows.{Contents, number_at}
use Rattle.co_dict.specs.CobIds.{is_valid}
use Rattle.co_pdo.specs.Mappings.{communication_of, count_of}

-- a sub-index of the communication parameter of PDO k
abbrev pub communication_key : Side → ℕ → ℕ → Key
communication_key side k sub = record { index = communication_of side k; sub = sub }

-- the COB-ID word of PDO k, 0 if there is none
abbrev pub cob_id_of : Side → Contents → ℕ → ℕ
cob_id_of side contents k = number_at contents (communication_key side k 1)

-- PDO k is active: its COB-ID word is valid, something is mapped, and its transmission type is
-- supported
abbrev pub is_pdo_active : Side → Contents → ℕ → Bool
is_pdo_active side contents k =
    is_valid (cob_id_of side contents k)
    && not (count_of side contents k == 0)
    && is_supported_type (number_at contents (communication_key side k 2))
