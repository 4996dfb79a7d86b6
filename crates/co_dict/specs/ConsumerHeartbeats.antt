-- 1016h, the consumer heartbeat time: bits 23 to 16 are a node-ID, bits 15 to 0 the time in ms
-- (CiA 301, 7.5.2.19).
use Rattle.std.specs.Prelude.{ℕ, ◌/◌, ◌%◌, ◌==◌, nat_lt, nat_le, Bool, ◌&&◌, not, Option}
use Rattle.std.specs.List.{list_any, range_with_len}
use Rattle.co_value.specs.declared.key.Key.{Key}
use Rattle.co_profile.specs.Indices.{consumer_heartbeat}
use Rattle.co_dict.specs.Rows.{Contents, number_at}
use Rattle.co_dict.specs.Refusals.{refused_if}
use Rattle.co_frame_aborts.specs.AbortCodes.{parameter_incompatible}

-- the key of an entry, 1016:01 to 7F
abbrev pub consumer_key : ℕ → Key
consumer_key sub = record { index = consumer_heartbeat; sub = sub }

-- the time in ms
abbrev pub consumer_time : ℕ → ℕ
consumer_time word = word % 0x1_0000

-- the node-ID whose heartbeat is consumed
abbrev pub consumer_node : ℕ → ℕ
consumer_node word = word / 0x1_0000 % 0x100

-- an entry is used: its time is above 0 and its node-ID is 1 to 127
abbrev pub is_consumer : ℕ → Bool
is_consumer word = nat_lt 0 (consumer_time word) && nat_le 1 (consumer_node word) && nat_le (consumer_node word) 127

-- an entry is used with this node-ID
abbrev pub is_consumer_of : ℕ → ℕ → Bool
is_consumer_of node word = is_consumer word && (consumer_node word == node)

-- another sub-index, 1 to 127, is used with this node-ID
unfoldable pub is_consumed_elsewhere : Contents → ℕ → ℕ → Bool
is_consumed_elsewhere contents sub node =
    list_any (λ other. not (other == sub) && is_consumer_of node (number_at contents (consumer_key other))) (range_with_len 1 127)

-- 1016:01 to 7F: no node-ID is used twice
abbrev pub consumer_refusal : Contents → ℕ → ℕ → Option ℕ
consumer_refusal contents sub word = refused_if (is_consumer word && is_consumed_elsewhere contents sub (consumer_node word)) parameter_incompatible
