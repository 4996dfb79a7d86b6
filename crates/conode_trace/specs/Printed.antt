-- How frames are printed.
use Rattle.std.specs.Prelude.{ℕ, ◌/◌, ◌%◌, ◌^◌, nat_lt, if◌then◌else◌, List, [], ◌∷◌, ◌++◌, codes, decimal}
use Rattle.std.specs.List.{flat_map}
use Rattle.co_text.specs.Printed.{byte_text, digits_text}
use Rattle.co_frame.specs.FrameContent.{FrameContent}

-- an identifier of three digits, the number sign, and two digits a byte
unfoldable pub frame_text : FrameContent → List ℕ
frame_text frame = digits_text 16 3 frame.id ++ codes "#" ++ flat_map byte_text frame.bytes

-- seconds in ten digits, or in more where ten don't suffice
unfoldable pub seconds_text : ℕ → List ℕ
seconds_text seconds = if nat_lt seconds (10 ^ 10) then digits_text 10 10 seconds else decimal seconds

-- a time in ms as seconds and microseconds in parentheses
unfoldable pub stamp_text : ℕ → List ℕ
stamp_text ms =
    codes "(" ++ seconds_text (ms / 1000) ++ codes "." ++ digits_text 10 3 (ms % 1000) ++ codes "000)"

-- the line of a frame that is sent at a time in ms
unfoldable pub frame_line : ℕ → FrameContent → List ℕ
frame_line ms frame = stamp_text ms ++ codes " can0 " ++ frame_text frame ++ 10 ∷ []
