-- The colour of a line on a terminal.
use Rattle.std.specs.Prelude.{ℕ, ◌-◌, ◌/◌, ◌==◌, Bool, true, false, not, ◌&&◌, if◌then◌else◌, List, [], ◌∷◌, ◌++◌, codes, length, slice_index, take, is_some}
use Rattle.conode_record.specs.declared.content.Content.{Content}
use Rattle.conode_record.specs.declared.content.Content.TheVariants.{Data}
use Rattle.conode_record.specs.declared.fields.Identifier.{Identifier}
use Rattle.conode_record.specs.declared.fields.Identifier.TheVariants.{Base, Extended, Error}
use Rattle.conode_record.specs.declared.line.Record.{Record}
use Rattle.conode_explain_filter.specs.declared.kind.Kind.{Kind}
use Rattle.conode_explain_filter.specs.declared.kind.Kind.TheVariants.{Sdo, Emergency, Nmt, Heartbeat}
use Rattle.conode_explain_filter.specs.declared.subject.Subject.{Subject}
use Rattle.conode_explain_text.specs.Lines.{odd_words}
use Rattle.conode_explain_text.specs.SoFar.{SoFar, times_at}
use Rattle.conode_explain_transfers.specs.declared.ended.Ending.{Ending}
use Rattle.conode_explain_transfers.specs.declared.ended.Ending.TheVariants.{Done, Unfinished}
use Rattle.conode_explain_forms.specs.declared.tones.Tone.{Tone}
use Rattle.conode_explain_forms.specs.declared.tones.Tone.TheVariants.{Plain, Bad, Odd, Good, Notable}

-- ---- of frames

-- the bytes of a frame of data
abbrev pub data_of : Content → List ℕ
data_of (Data bytes) = bytes
data_of other = []

-- an emergency: one whose code is 0 says that an error is gone (CiA 301, 7.2.7.1)
abbrev pub emergency_tone : List ℕ → Tone
emergency_tone bytes =
    if (length bytes == 8) && ((slice_index bytes 0 == 0) && (slice_index bytes 1 == 0)) then Good else Bad

-- an abort: cs = 4 in the upper three bits, 80h to 9Fh (CiA 301, 7.2.4.3.17); the last segment of a block transfer may have them too
abbrev pub abort_tone : Bool → List ℕ → Tone
abort_tone segment bytes = if (length bytes == 8) && ((slice_index bytes 0 / 32 == 4) && not segment) then Bad else Plain

abbrev pub boot_up_tone : List ℕ → Tone
boot_up_tone bytes = if (length bytes == 1) && (slice_index bytes 0 == 0) then Notable else Plain

-- of data by its service, whether they are a segment of a block transfer
unfoldable pub data_tone : Bool → Kind → List ℕ → Tone
data_tone segment Emergency bytes = emergency_tone bytes
data_tone segment Sdo bytes = abort_tone segment bytes
data_tone segment Nmt bytes = Notable
data_tone segment Heartbeat bytes = boot_up_tone bytes
data_tone segment _ bytes = Plain

abbrev pub service_tone : Bool → Identifier → Kind → List ℕ → Tone
service_tone segment (Base id) kind bytes = data_tone segment kind bytes
service_tone segment (Extended id) kind bytes = Plain
service_tone segment (Error class) kind bytes = Bad

-- an odd stamp shows where nothing else does
abbrev pub odd_tone : Bool → Tone
odd_tone is = if is then Odd else Plain

abbrev pub or_odd : Bool → Tone → Tone
or_odd is Plain = odd_tone is
or_odd is tone = tone

unfoldable pub frame_tone : SoFar → Subject → Bool → Record → Tone
frame_tone so_far subject segment frame =
    or_odd (is_some (odd_words (times_at so_far frame.micros))) (service_tone segment frame.id subject.kind (data_of frame.content))

-- ---- of transfers that ended

abbrev pub ending_tone : Ending → Tone
ending_tone (Done crc) = Good
ending_tone Unfinished = Odd
ending_tone other = Bad

-- ---- the line in it (ECMA-48, SGR)

-- what begins a colour
abbrev pub start_of : Tone → List ℕ
start_of Plain = []
start_of Bad = 27 ∷ codes "[31m"
start_of Odd = 27 ∷ codes "[33m"
start_of Good = 27 ∷ codes "[32m"
start_of Notable = 27 ∷ codes "[36m"

abbrev pub is_plain : Tone → Bool
is_plain Plain = true
is_plain tone = false

-- a line, whose last byte is its line feed, between the begin of a colour and its end
abbrev pub in_colour : List ℕ → List ℕ → List ℕ
in_colour start line = start ++ take (length line - 1) line ++ 27 ∷ codes "[0m\n"

unfoldable pub toned : Bool → Tone → List ℕ → List ℕ
toned colours tone line = if colours && not (is_plain tone) then in_colour (start_of tone) line else line
