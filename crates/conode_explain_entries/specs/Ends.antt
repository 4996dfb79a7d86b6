-- The line of a transfer that ended.
use Rattle.std.specs.Prelude.{ℕ, Bool, true, false, List, [], ◌∷◌, ◌++◌, codes}
use Rattle.co_value.specs.declared.key.Key.{Key}
use Rattle.co_value.specs.KeyTexts.{key_text}
use Rattle.conode_text.specs.Filled.{filled}
use Rattle.conode_explain_transfers.specs.declared.ended.Ended.{Ended}
use Rattle.conode_explain_transfers.specs.declared.ended.Ending.{Ending}
use Rattle.conode_explain_transfers.specs.declared.ended.Ending.TheVariants.{Done, Aborted, Unanswered, Repeated, Interrupted, Unfinished, Irregular, SizeDiffers, CrcDiffers, NotFollowed}
use Rattle.conode_explain_transfers.specs.declared.kinds.Direction.{Direction}
use Rattle.conode_explain_transfers.specs.declared.kinds.Direction.TheVariants.{Download, Upload}
use Rattle.conode_explain_transfers.specs.declared.kinds.Side.{Side}
use Rattle.conode_explain_transfers.specs.declared.kinds.Side.TheVariants.{Client, Server}
use Rattle.conode_explain_entries.specs.Numbers.{hexadecimal, grouped, plural, seconds_text}

-- ---- what is transferred

abbrev pub direction_text : Direction → List ℕ
direction_text Download = codes "download"
direction_text Upload = codes "upload"

-- what an entry is called, where it has a name
abbrev pub quoted : List ℕ → List ℕ
quoted [] = []
quoted (letter ∷ letters) = codes " \"" ++ (letter ∷ letters) ++ codes "\""

-- the entry
unfoldable pub entry_text : Key → List ℕ → List ℕ
entry_text key name = key_text key ++ quoted name

-- ---- how it ended

abbrev pub side_text : Side → List ℕ
side_text Client = codes "client"
side_text Server = codes "server"

-- what an abort code means, where that is known
abbrev pub in_brackets : List ℕ → List ℕ
in_brackets [] = []
in_brackets (letter ∷ letters) = filled (codes " (%)") ((letter ∷ letters) ∷ [])

unfoldable pub aborted_text : Side → ℕ → List ℕ → List ℕ
aborted_text by code words =
    filled (codes "aborted by the % with %%") (side_text by ∷ hexadecimal 8 code ∷ in_brackets words ∷ [])

unfoldable pub size_text : ℕ → ℕ → List ℕ
size_text indicated came = filled (codes "confirmed, but size % indicated, % came") (grouped indicated ∷ grouped came ∷ [])

unfoldable pub crc_text : ℕ → ℕ → List ℕ
crc_text came computed =
    filled (codes "confirmed, but CRC %, computed %") (hexadecimal 4 came ∷ hexadecimal 4 computed ∷ [])

-- every other end; a percent sign is the time from its newest frame to the end
unfoldable pub ending_words : Ending → List ℕ
ending_words (Done true) = codes "done, CRC right"
ending_words (Done false) = codes "done"
ending_words Unanswered = codes "no answer in %"
ending_words Repeated = codes "requested again after %"
ending_words Interrupted = codes "interrupted"
ending_words Unfinished = codes "unfinished where the recording ends, % after its last frame"
ending_words Irregular = codes "confirmed, but frames are missing or repeated in the recording"
ending_words (Aborted by code) = []
ending_words (SizeDiffers indicated) = []
ending_words (CrcDiffers came computed) = []
ending_words (NotFollowed next) = []

-- `words` is what its abort code means
abbrev pub ending_text : Ended → Ending → List ℕ → List ℕ
ending_text e (Aborted by code) words = aborted_text by code.0 words
ending_text e (SizeDiffers indicated) words = size_text indicated e.bytes
ending_text e (CrcDiffers came computed) words = crc_text came computed
ending_text e ending words = filled (ending_words ending) (seconds_text e.newest e.end ∷ [])

-- ---- the line

-- its beginning: which way the data went, and of which entry; `name` is what that is called
unfoldable pub transfer_text : Ended → List ℕ → List ℕ
transfer_text e name = filled (codes "SDO % %") (direction_text e.direction ∷ entry_text e.key name ∷ [])

-- how much was transferred, in how many frames, and the time from the first of them to the end
unfoldable pub count_text : Ended → List ℕ
count_text e =
    filled (codes " % byte% in % frame%, %: ")
    (grouped e.bytes ∷ plural e.bytes ∷ grouped e.frames ∷ plural e.frames ∷ seconds_text e.begun e.end ∷ [])

-- what follows its beginning, or the value that comes after that
unfoldable pub end_text : Ended → List ℕ → List ℕ
end_text e words = count_text e ++ ending_text e e.ending words
