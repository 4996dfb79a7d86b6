-- Which COB-ID words a PDO, the emergency or SYNC may have (CiA 301, 7.3.5, 7.5.2).
use Rattle.std.specs.Prelude.{ℕ, Bool, ◌&&◌, ◌||◌, not}
use Rattle.co_dict.specs.Rows.{Contents}
use Rattle.co_dict.specs.CobIds.{identifier_of, has_bit_31, has_11_bits, is_sync_consumer, is_restricted, is_default_sdo}
use Rattle.co_dict.specs.SdoChannels.{is_sdo_id}

-- an identifier may be used: it is not restricted, no default SDO channel of any node has it, nor
-- one of this device
abbrev pub is_free : ℕ → Contents → ℕ → Bool
is_free node contents identifier = not (is_restricted identifier) && not (is_default_sdo identifier) && not (is_sdo_id node contents identifier)

-- a good word of a PDO or the emergency: bit 31 is set, or bits 29 to 11 are 0 and the identifier
-- is free
abbrev pub is_good_word : ℕ → Contents → ℕ → Bool
is_good_word node contents word = has_bit_31 word || (has_11_bits word && is_free node contents (identifier_of word))

-- a good word of SYNC: bits 30 to 11 are 0 and the identifier is free, whatever bit 31 is
abbrev pub is_good_sync_word : ℕ → Contents → ℕ → Bool
is_good_sync_word node contents word = is_sync_consumer word && is_free node contents (identifier_of word)
