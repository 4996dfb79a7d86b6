-- The line of a choice, and the last line with their number.
use Rattle.std.specs.Prelude.{ℕ, ◌==◌, if◌then◌else◌, List, [], ◌∷◌, ◌++◌, codes, decimal}
use Rattle.co_value.specs.KeyTexts.{key_text}
use Rattle.conode_text.specs.Filled.{filled}
use Rattle.conode_compare_choices.specs.declared.choice.Choice.{Choice}
use Rattle.conode_compare_choices.specs.declared.choice.Choice.TheVariants.{Segments, NoSize, ShortSegment, NoCrc, BlockSize, Switched, Code, Timeout, NoTimeout, Heartbeat, Phase, NoEmergency, OtherEmergency}
use Rattle.conode_compare_choices.specs.declared.length_error.LengthError.{LengthError}
use Rattle.conode_compare_choices.specs.declared.length_error.LengthError.TheVariants.{ShortRpdo, LongRpdo, OddSync}
use Rattle.conode_compare_text.specs.declared.tally.Tally.{Tally}
use Rattle.conode_compare_text.specs.Values.{bytes_text, hexadecimal, line_text, millis_text}
use Rattle.conode_compare_text.specs.Tallies.{tally_text}

-- what came, and that its EMCY didn't
abbrev pub missing_words : LengthError → List ℕ
missing_words ShortRpdo = codes "choice-emcy: an RPDO is too short, and EMCY 8210h didn't come for %"
missing_words LongRpdo = codes "choice-emcy: an RPDO is too long, and EMCY 8220h didn't come for %"
missing_words OddSync = codes "choice-emcy: a SYNC has another length, and EMCY 8240h didn't come for %"

abbrev pub other_words : LengthError → List ℕ
other_words ShortRpdo = codes "choice-emcy: an RPDO is too short, and EMCY 8200h came, not 8210h"
other_words LongRpdo = codes "choice-emcy: an RPDO is too long, and EMCY 8200h came, not 8220h"
other_words OddSync = codes "choice-emcy: a SYNC has another length, and EMCY 8200h came, not 8240h"

-- the name of the kind, and what was chosen
unfoldable pub choice_text : Choice → List ℕ
choice_text (Segments key bytes) =
    filled (codes "choice-segments: % has %, and is uploaded in segments")
    (key_text key ∷ bytes_text bytes ∷ [])
choice_text (NoSize key) =
    filled (codes "choice-size: % is uploaded without its size") (key_text key ∷ [])
choice_text (ShortSegment key bytes) =
    filled (codes "choice-short-segment: % is uploaded, a segment before the last has %")
    (key_text key ∷ bytes_text bytes ∷ [])
choice_text (NoCrc key) =
    filled (codes "choice-crc: % is transferred in blocks without a CRC") (key_text key ∷ [])
choice_text (BlockSize key segments) =
    filled (codes "choice-block-size: % is downloaded, sub-blocks of % segments are asked for")
    (key_text key ∷ decimal segments ∷ [])
choice_text (Switched key) =
    filled (codes "choice-switch: % is asked for in blocks, and uploaded by another protocol")
    (key_text key ∷ [])
choice_text (Code key came fitting) =
    filled (codes "choice-code: % is refused with %, and not with %")
    (key_text key ∷ hexadecimal came ∷ hexadecimal fitting ∷ [])
choice_text (Timeout key) =
    filled (codes "choice-timeout: the transfer of % is aborted since it timed out")
    (key_text key ∷ [])
choice_text (NoTimeout key waited time) =
    filled (codes "choice-timeout: the transfer of % goes on % after the client's frame before, the timeout is % ms")
    (key_text key ∷ millis_text waited ∷ decimal time ∷ [])
choice_text (Heartbeat passed period) =
    filled (codes "choice-heartbeat: % since the last one, 1017:00 has % ms")
    (millis_text passed ∷ decimal period ∷ [])
choice_text (Phase number syncs kind) =
    filled (codes "choice-phase: TPDO % is sent at SYNC % since the start, its type is %")
    (decimal number ∷ decimal syncs ∷ decimal kind ∷ [])
choice_text (NoEmergency error passed) = filled (missing_words error) (millis_text passed ∷ [])
choice_text (OtherEmergency error) = other_words error

-- `recording.log:123: choice-size: ..`
unfoldable pub choice_line : List ℕ → ℕ → Choice → List ℕ
choice_line recording line choice = line_text recording line (choice_text choice)

-- how many choices there are, in the last line
abbrev pub choices_words : ℕ → List ℕ
choices_words choices = if choices == 1 then codes ", % choice\n" else codes ", % choices\n"

unfoldable pub choices_summary : ℕ → Tally → ℕ → List ℕ
choices_summary node tally choices =
    tally_text node tally ++ filled (choices_words choices) (decimal choices ∷ [])
