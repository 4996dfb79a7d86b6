-- What may be written into a COB-ID word: 1005:00, 1014:00 and sub-index 1 of 1400h to 15FFh and
-- 1800h to 19FFh (CiA 301, 7.5.2.5, 7.5.2.17, 7.5.2.35 and 7.5.2.37).
use Rattle.std.specs.Prelude.{ℕ, ◌%◌, ◌==◌, Bool, ◌&&◌, not, Option, [], ◌∷◌}
use Rattle.co_value.specs.declared.key.Key.{Key}
use Rattle.co_dict.specs.Rows.{Contents, number_at}
use Rattle.co_dict.specs.Refusals.{refused_if, first_refusal}
use Rattle.co_dict.specs.CobIds.{has_bit_31, is_valid}
use Rattle.co_dict.specs.FreeIds.{is_good_word, is_good_sync_word}
use Rattle.co_frame_aborts.specs.AbortCodes.{invalid_value, not_in_this_state}

-- 1005:00: the word must be a good SYNC word
abbrev pub sync_cob_id_refusal : ℕ → Contents → ℕ → Option ℕ
sync_cob_id_refusal node contents word = refused_if (not (is_good_sync_word node contents word)) invalid_value

-- a valid word would get other bits 29 to 0, and stay valid
abbrev pub changes_while_valid : ℕ → ℕ → Bool
changes_while_valid old new = is_valid old && not (has_bit_31 new) && not (old % 0x4000_0000 == new % 0x4000_0000)

-- 1014:00 and a PDO's sub-index 1: the word must be a good one; bits 29 to 0 of a valid word change
-- only if bit 31 is set
abbrev pub cob_id_refusal : ℕ → Contents → Key → ℕ → Option ℕ
cob_id_refusal node contents key word = first_refusal (
    refused_if (not (is_good_word node contents word)) invalid_value
    ∷ refused_if (changes_while_valid (number_at contents key) word) not_in_this_state
    ∷ [])
