-- What an SDO abort says, in words (CiA 301, 7.2.4.3.17).
use Rattle.std.specs.Prelude.{ℕ, ◌==◌, nat_lt, Bool, ◌&&◌, ◌||◌, if◌then◌else◌, List, [], ◌∷◌, ◌++◌, length, drop, slice_index, codes, find}
use Rattle.std.specs.Option.{option_map_or}
use Rattle.co_text.specs.Printed.{digits_text}
use Rattle.co_value.specs.Numbers.{unsigned_of}
use Rattle.co_frame.specs.FrameContent.{FrameContent}
use Rattle.co_words.specs.declared.abort_reason.AbortReason.{AbortReason}
use Rattle.co_words.specs.declared.abort_reason.AbortReason.TheVariants.{ToggleNotAlternated, TimedOut, UnknownCommand, InvalidBlockSize, InvalidSequenceNumber, CrcError, OutOfMemory, UnsupportedAccess, WriteOnly, ReadOnly, ObjectMissing, NotMappable, MappingTooLong, ParameterIncompatible, DeviceIncompatible, HardwareError, LengthMismatch, TooLong, TooShort, SubIndexMissing, InvalidValue, AboveHighLimit, BelowLowLimit, LimitsCrossed, NoConnection, GeneralError, NotStorable, NotStorableByControl, NotInThisState, NoDictionary, NoValue}
use Rattle.co_words.specs.AbortReasons.{code_of, text_of}

-- each reason that the standard has
abbrev pub reasons : List AbortReason
reasons =
    ToggleNotAlternated ∷ TimedOut ∷ UnknownCommand ∷ InvalidBlockSize ∷ InvalidSequenceNumber ∷ CrcError ∷ OutOfMemory
    ∷ UnsupportedAccess ∷ WriteOnly ∷ ReadOnly ∷ ObjectMissing ∷ NotMappable ∷ MappingTooLong ∷ ParameterIncompatible
    ∷ DeviceIncompatible ∷ HardwareError ∷ LengthMismatch ∷ TooLong ∷ TooShort ∷ SubIndexMissing ∷ InvalidValue
    ∷ AboveHighLimit ∷ BelowLowLimit ∷ LimitsCrossed ∷ NoConnection ∷ GeneralError ∷ NotStorable ∷ NotStorableByControl
    ∷ NotInThisState ∷ NoDictionary ∷ NoValue ∷ []

-- what a code means; nothing where the standard doesn't have it
unfoldable pub words_of : ℕ → List ℕ
words_of code = option_map_or text_of (find (λ reason. code_of reason == code) reasons) []

-- an identifier of an SDO channel of the pre-defined connection set: an answer or a request (CiA
-- 301, 7.3.3)
abbrev pub is_sdo : ℕ → Bool
is_sdo id = (nat_lt 0x580 id && nat_lt id 0x600) || (nat_lt 0x600 id && nat_lt id 0x680)

-- eight bytes with cs = 4, which are the upper three bits of the first: 80h to 9Fh
abbrev pub has_abort : List ℕ → Bool
has_abort bytes = (length bytes == 8) && (nat_lt 0x7F (slice_index bytes 0) && nat_lt (slice_index bytes 0) 0xA0)

-- a frame that an end takes as an abort
abbrev pub is_abort : FrameContent → Bool
is_abort frame = is_sdo frame.id && has_abort frame.bytes

-- words in brackets, if there are some
abbrev pub in_brackets : List ℕ → List ℕ
in_brackets [] = []
in_brackets (letter ∷ letters) = codes " (" ++ (letter ∷ letters) ++ codes ")"

-- an abort's first byte is 80h: another one with cs = 4 is irregular
abbrev pub first_byte_words : ℕ → List ℕ
first_byte_words byte =
    if byte == 0x80 then [] else codes " (first byte " ++ digits_text 16 2 byte ++ codes "h in place of 80h)"

-- what the code of an abort means, and whether its first byte is another one than an abort has
unfoldable pub abort_words : FrameContent → List ℕ
abort_words frame =
    if is_abort frame
    then in_brackets (words_of (unsigned_of (drop 4 frame.bytes))) ++ first_byte_words (slice_index frame.bytes 0)
    else []
