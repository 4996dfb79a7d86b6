-- The SDO channels of a server: 1200h to 127Fh, the SDO server parameters (CiA 301, 7.5.2.33).
use Rattle.std.specs.Prelude.{ℕ, ◌+◌, ◌==◌, nat_le, Bool, ◌&&◌, ◌||◌, if◌then◌else◌}
use Rattle.std.specs.List.{list_any, range_with_len}
use Rattle.co_value.specs.declared.key.Key.{Key}
use Rattle.co_profile.specs.Indices.{sdo_server, nth}
use Rattle.co_dict.specs.Rows.{Contents, number_at}
use Rattle.co_dict.specs.CobIds.{identifier_of, is_valid}

-- the key of the COB-ID word of a channel's requests, client to server
abbrev pub request_key : ℕ → Key
request_key channel = record { index = nth sdo_server channel; sub = 1 }

-- the key of the COB-ID word of a channel's answers, server to client
abbrev pub answer_key : ℕ → Key
answer_key channel = record { index = nth sdo_server channel; sub = 2 }

-- channel 0 always exists; a channel 1 to 127 exists where both of its words are valid
abbrev pub is_channel : Contents → ℕ → Bool
is_channel contents channel =
    (channel == 0)
    || (nat_le channel 127 && is_valid (number_at contents (request_key channel)) && is_valid (number_at contents (answer_key channel)))

-- the identifier of a channel's requests; channel 0 has 600h + node-ID
abbrev pub request_id : ℕ → Contents → ℕ → ℕ
request_id node contents channel = if channel == 0 then 0x600 + node else identifier_of (number_at contents (request_key channel))

-- the identifier of a channel's answers; channel 0 has 580h + node-ID
abbrev pub answer_id : ℕ → Contents → ℕ → ℕ
answer_id node contents channel = if channel == 0 then 0x580 + node else identifier_of (number_at contents (answer_key channel))

-- a channel exists, and an identifier is one of its two
abbrev pub is_id_of_channel : ℕ → Contents → ℕ → ℕ → Bool
is_id_of_channel node contents identifier channel =
    is_channel contents channel && ((identifier == request_id node contents channel) || (identifier == answer_id node contents channel))

-- an identifier is one of an SDO channel that exists
unfoldable pub is_sdo_id : ℕ → Contents → ℕ → Bool
is_sdo_id node contents identifier = list_any (is_id_of_channel node contents identifier) (range_with_len 0 128)
