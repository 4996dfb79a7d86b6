-- The lines that are written when a trace is decoded.
use Rattle.std.specs.Prelude.{◌≡◌, ℕ, Bool, true, false, List, [], ◌∷◌, Option, Some, None, Result, Ok, Err, IfSome}
use Rattle.std.specs.List.{flat_map}
use Rattle.co_sheet.specs.Content.{IsSheet, SheetContent}
use Rattle.conode_trace.specs.declared.trace_line.TraceLine.{TraceLine}
use Rattle.conode_trace.specs.declared.trace_line.TraceLine.TheVariants.{Data}
use Rattle.conode_trace.specs.Traces.{Input, frame, tick, app, TimedInput, trace_of}
use Rattle.conode_io.specs.declared.fault.CmdFault.{CmdFault}
use Rattle.conode_io.specs.declared.fault.CmdFault.TheVariants.{Read, Write, BadLine, Memory, NeverEnds}
use Rattle.conode_io.specs.Written.{WritesFrontOrLines, WritesLines, WritesSome}
use Rattle.conode_io.specs.TraceTexts.{trace_in, FailsWithinLine}
use Rattle.co_sheet_changes.specs.Names.{Names, originals_in}
use Rattle.conode_decode.specs.Texts.{decoded_line}

-- the names of a data sheet, if there is one, for one node or for all
abbrev pub names_in : Option SheetContent → Option ℕ → Names
names_in sheet node = record { sheet = sheet; only = node; originals = originals_in None }

-- the lines of an input: a frame has one; ticks and events have none
abbrev pub input_lines : Names → ℕ → Input → List (List ℕ)
input_lines names number (frame content) = decoded_line names number content ∷ []
input_lines names number tick = []
input_lines names number (app event) = []

-- the lines of inputs, in their order
abbrev pub decoded_lines : Names → List TimedInput → List (List ℕ)
decoded_lines names inputs = flat_map (λ t. input_lines names t.line t.input) inputs

-- the lines of the frames in a text, up to its first bad line
abbrev pub trace_lines : Names → List ℕ → List (List ℕ)
trace_lines names text = decoded_lines names (trace_in text).inputs

-- the line of a frame, if this line of the trace has one
abbrev pub said_lines : Names → ℕ → TraceLine → List (List ℕ)
said_lines names number (Data stamp content) = decoded_line names number content ∷ []
said_lines names number other = []

-- the lines of the frames in lines of a trace, up to the first bad one
abbrev pub lines_of : Names → List (List ℕ) → List (List ℕ)
lines_of names lines = decoded_lines names (trace_of lines).inputs

-- ---- how decoding ends

-- how decoding ends, by its result; `known` and `rest` are what the reader has before and after,
-- `old` and `new` what the writer has, as far as known
abbrev pub Decoded : Names → Option (List ℕ) → Option (List ℕ) → Option (List ℕ) → Option (List ℕ) → Result (Unit {0}) CmdFault → Type 0
Decoded names known rest old new (Ok done) =
    IfSome known (λ text. ((trace_in text).bad ≡ None) × WritesLines old new (trace_lines names text))
Decoded names known rest old new (Err (BadLine number)) =
    IfSome known (λ text. ((trace_in text).bad ≡ Some number) × WritesLines old new (trace_lines names text))
Decoded names known rest old new (Err Write) = IfSome known (λ text. WritesFrontOrLines old new (trace_lines names text))
Decoded names known rest old new (Err Memory) = IfSome known (λ text. WritesSome old new (trace_lines names text))
Decoded names known rest old new (Err Read) = FailsWithinLine known rest (λ taken. WritesLines old new (lines_of names taken))
Decoded names known rest old new (Err NeverEnds) = FailsWithinLine known rest (λ taken. WritesLines old new (lines_of names taken))

-- a trace without a bad line is decoded: the lines of its frames are written
abbrev pub DecodesAll : Names → Option (List ℕ) → Option (List ℕ) → List ℕ → Type 0
DecodesAll names old new text = ((trace_in text).bad ≡ None) × WritesLines old new (trace_lines names text)

-- the names that a trace is decoded with: those of a text that is a data sheet, where one is asked for
abbrev pub AreNames : Bool → Option ℕ → Names → Type 0
AreNames false node names = names ≡ names_in None node
AreNames true node names = (text : List ℕ) × (content : SheetContent) × IsSheet text content × (names ≡ names_in (Some content) node)
