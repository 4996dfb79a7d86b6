-- What the numbers of the communication profile mean, in words (CiA 301, 7.5.2).
use Rattle.std.specs.Prelude.{ℕ, ◌/◌, ◌%◌, ◌==◌, nat_le, Bool, true, false, not, ◌&&◌, ◌||◌, if◌then◌else◌, List, [], ◌∷◌, ◌++◌, codes, decimal, Option}
use Rattle.std.specs.Option.{option_map_or}
use Rattle.co_value.specs.declared.key.Key.{Key}
use Rattle.co_value.specs.KeyTexts.{key_text}
use Rattle.co_sheet_text.specs.Sections.{TextSection}
use Rattle.conode_show_text.specs.declared.meaning.Meaning.{Meaning}
use Rattle.conode_show_text.specs.declared.meaning.Meaning.TheVariants.{PdoCobId, CobId, SyncCobId, SyncPeriod, SyncWindow, SyncOverflow, TimeCobId, Transmission, Reception, PdoInhibit, EventTimer, EmcyInhibit, Consumer, Producer, Mapped}
use Rattle.co_sheet.specs.Commissioning.{is_node_number}
use Rattle.conode_show_text.specs.Names.{name_among}
use Rattle.conode_show_text.specs.CobIds.{pdo_cob_id_text, cob_id_text, sync_text, time_cob_id_text}
use Rattle.conode_show_text.specs.Texts.{plain_text}
use Rattle.conode_show_text.specs.declared.values.Word.{Word}
use Rattle.conode_show_text.specs.Values.{addend_text, word_of, value_of}

-- the transmission types of TPDOs that have words of their own (CiA 301, 7.5.2.37)
abbrev pub transmission_names : List (ℕ × List ℕ)
transmission_names =
    (0, codes "0: synchronous, acyclic") ∷ (1, codes "1: every SYNC") ∷ (252, codes "252: remote, synchronous")
    ∷ (253, codes "253: remote, event-driven") ∷ (254, codes "254: event-driven, manufacturer")
    ∷ (255, codes "255: event-driven, device profile") ∷ []

abbrev pub transmission_name : ℕ → Option (List ℕ)
transmission_name n = name_among n transmission_names

-- the others: up to 240 by SYNCs, above it reserved
unfoldable pub counted_syncs : ℕ → List ℕ
counted_syncs n =
    if nat_le n 240 then decimal n ++ codes ": every " ++ decimal n ++ codes " SYNCs"
    else decimal n ++ codes ": reserved"

unfoldable pub transmission_text : ℕ → List ℕ
transmission_text n = option_map_or (λ name. name) (transmission_name n) (counted_syncs n)

-- the transmission types of RPDOs (CiA 301, 7.5.2.35): up to 240 the next SYNC brings what was
-- received; 254 and 255 as for TPDOs; the others are reserved
unfoldable pub reception_text : ℕ → List ℕ
reception_text n =
    if nat_le n 240 then decimal n ++ codes ": with the next SYNC"
    else if n == 254 || n == 255 then transmission_text n
    else decimal n ++ codes ": reserved"

-- a time in ms; with tenths, if the number is in 100 µs
unfoldable pub millis_text : Bool → ℕ → List ℕ
millis_text in_tenths n =
    if in_tenths then decimal (n / 10) ++ codes "." ++ decimal (n % 10) else decimal n

-- the words for a time of 0, and those before another one
abbrev pub off_words : Meaning → List ℕ
off_words EmcyInhibit = codes "none"
off_words Producer = codes "off"
off_words meaning = []

abbrev pub before_words : Meaning → List ℕ
before_words Producer = codes "every "
before_words meaning = []

-- an inhibit time: in 100 µs
abbrev pub is_in_tenths : Meaning → Bool
is_in_tenths PdoInhibit = true
is_in_tenths EmcyInhibit = true
is_in_tenths meaning = false

-- a time after the words `before`, or the words `off` for 0
unfoldable pub time_text : List ℕ → List ℕ → Bool → ℕ → List ℕ
time_text off before in_tenths n =
    if n == 0 then off else before ++ millis_text in_tenths n ++ codes " ms"

-- a time in µs, printed in ms after the words `before`; 0: SYNC isn't sent by it, or there is no
-- window (CiA 301, 7.5.2.6 and 7.5.2.7)
unfoldable pub micros_text : List ℕ → ℕ → List ℕ
micros_text before n =
    if n == 0 then codes "none"
    else before ++ decimal (n / 1000) ++ codes "." ++ decimal (n / 100 % 10) ++ decimal (n / 10 % 10)
    ++ decimal (n % 10) ++ codes " ms"

-- the SYNC counter overflow value: SYNC has no counter, or one from 1 to this value; 1 and those
-- above 240 are reserved (CiA 301, 7.5.2.22)
unfoldable pub overflow_text : ℕ → List ℕ
overflow_text n =
    if n == 0 then codes "no counter"
    else if nat_le 2 n && nat_le n 240 then codes "counter from 1 to " ++ decimal n
    else decimal n ++ codes ": reserved"

-- a consumer heartbeat time: the node-ID in bits 23 to 16, below it the time in ms; bits 31 to 24
-- are reserved. The entry isn't used if the time is 0, or the node-ID isn't 1 to 127
abbrev pub is_consumer_used : ℕ → Bool
is_consumer_used n = is_node_number (n / 0x10000 % 0x100) && not (n % 0x10000 == 0)

abbrev pub consumer_reserved : ℕ → List ℕ
consumer_reserved n = if n / 0x1000000 == 0 then [] else codes ", bits 31 to 24 set"

unfoldable pub consumer_text : ℕ → List ℕ
consumer_text n =
    if is_consumer_used n
    then codes "node " ++ decimal (n / 0x10000 % 0x100) ++ codes ", within " ++ decimal (n % 0x10000) ++ codes " ms"
    ++ consumer_reserved n
    else codes "not used"

-- what a word of a mapping names: index, sub-index and length in bits
abbrev pub mapped_key : ℕ → Key
mapped_key n = record { index = n / 0x10000 % 0x10000; sub = n / 0x100 % 0x100 }

abbrev pub bits_name : ℕ → List ℕ
bits_name bits = if bits == 1 then codes " bit" else codes " bits"

unfoldable pub mapped_text : ℕ → List ℕ
mapped_text n = key_text (mapped_key n) ++ codes ", " ++ decimal (n % 0x100) ++ bits_name (n % 0x100)

-- the meaning of a word
abbrev pub meaning_text : Meaning → Word → List ℕ
meaning_text PdoCobId word = pdo_cob_id_text word
meaning_text CobId word = cob_id_text word
meaning_text SyncCobId word = sync_text word
meaning_text SyncPeriod word = micros_text (codes "every ") word.number
meaning_text SyncWindow word = micros_text [] word.number
meaning_text SyncOverflow word = overflow_text word.number
meaning_text TimeCobId word = time_cob_id_text word
meaning_text Transmission word = transmission_text word.number
meaning_text Reception word = reception_text word.number
meaning_text PdoInhibit word = time_text [] [] true word.number
meaning_text EventTimer word = time_text [] [] false word.number
meaning_text EmcyInhibit word = time_text (codes "none") [] true word.number
meaning_text Consumer word = consumer_text word.number
meaning_text Producer word = time_text (codes "off") (codes "every ") false word.number
meaning_text Mapped word = mapped_text word.number

-- whether it is a COB-ID, whose bits say something without the node-ID too
abbrev pub is_cob_id : Meaning → Bool
is_cob_id PdoCobId = true
is_cob_id CobId = true
is_cob_id SyncCobId = true
is_cob_id TimeCobId = true
is_cob_id other = false

-- a sum with a node-ID that isn't known: of a COB-ID with its words, any other alone
abbrev pub relative_text : Meaning → Word → List ℕ
relative_text meaning word =
    if is_cob_id meaning then codes "$NODEID+" ++ meaning_text meaning word else addend_text word.number

unfoldable pub word_text : Meaning → Word → List ℕ
word_text meaning word = if word.relative then relative_text meaning word else meaning_text meaning word

-- the value of an entry in words; a text that is no number is printed as it is
unfoldable pub said : Meaning → Option ℕ → TextSection → List ℕ
said meaning node section =
    option_map_or (λ k. option_map_or (word_text meaning) (word_of node k.value) (plain_text k.value))
    (value_of section) []
