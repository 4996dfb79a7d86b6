-- 1003h, the pre-defined error field: sub-index 0 is the number of errors, sub-index 1 the newest
-- one (CiA 301, 7.5.2.4).
use Rattle.std.specs.Prelude.{ℕ, ◌+◌, ◌-◌, ◌==◌, nat_lt, nat_le, min, Bool, ◌&&◌, not, if◌then◌else◌, Option, Some, List}
use Rattle.co_value.specs.declared.key.Key.{Key}
use Rattle.co_value.specs.Numbers.{low_bytes}
use Rattle.co_profile.specs.Indices.{error_field}
use Rattle.co_dict.specs.Rows.{Rows, Contents, number_at, written}
use Rattle.co_dict.specs.Refusals.{refused_if}
use Rattle.co_dict.specs.Objects.{has_sub, subs_present}
use Rattle.co_frame_aborts.specs.AbortCodes.{invalid_value}

-- the key of an error, or for 0 that of the number of errors
abbrev pub error_key : ℕ → Key
error_key sub = record { index = error_field; sub = sub }

-- the number of errors
abbrev pub error_count : Contents → ℕ
error_count contents = number_at contents (error_key 0)

-- a sub-index of 1003h above the number of errors: it has no error to read
abbrev pub is_past_errors : Contents → Key → Bool
is_past_errors contents key = (key.index == error_field) && nat_lt (error_count contents) key.sub

-- 1003:00: 0 alone may be written, which clears the field
abbrev pub error_count_refusal : ℕ → Option ℕ
error_count_refusal count = refused_if (not (count == 0)) invalid_value

-- how many errors the field has room for: the greatest number up to 254 such that 1003:01 to it are
-- there; none without 1003:00
abbrev pub error_room : Rows → ℕ
error_room rows = if has_sub rows error_field 0 then subs_present rows error_field 254 else 0

-- the bytes of a sub-index after the errors moved down by one: the first one has these, each other
-- one those of the sub-index before it
abbrev pub moved_bytes : Contents → List ℕ → ℕ → Option (List ℕ)
moved_bytes contents first sub = if sub == 1 then Some first else contents (error_key (sub - 1))

-- the contents after 1003:01 to a last sub-index moved down by one
abbrev pub moved_down : Contents → List ℕ → ℕ → Contents
moved_down contents first last = λ key.
    if (key.index == error_field) && nat_le 1 key.sub && nat_le key.sub last then moved_bytes contents first key.sub else contents key

-- the number of errors after one more, up to the room
abbrev pub next_count : Contents → ℕ → ℕ
next_count contents room = min (error_count contents + 1) room

-- the contents after an error was added: where there is room, all errors move down by one, the
-- first one is the code with 0 in its upper 16 bits, and the number increases by one, up to the
-- room
abbrev pub pushed : Rows → ℕ → Contents → Contents
pushed rows code contents = let room = error_room rows in
    if nat_lt 0 room
    then written (moved_down contents (low_bytes 4 code) room) (error_key 0) (low_bytes 1 (next_count contents room))
    else contents
