-- The trace of a text, and a trace whose reader fails.
use Rattle.std.specs.Prelude.{◌≡◌, ℕ, ◌<◌, false, List, [], ◌∷◌, ◌++◌, length, Option, Some, None, ⊤}
use Rattle.std.specs.Io.KnownBytes.{Consumes}
use Rattle.std.specs.Str.Lines.{lines}
use Rattle.co_stream.specs.Lines.{has_line_feed}
use Rattle.conode_trace.specs.Traces.{Trace, Progress, trace_next, trace_of}
use Rattle.conode_io.specs.declared.fault.CmdFault.{CmdFault}
use Rattle.conode_io.specs.declared.fault.CmdFault.TheVariants.{BadLine}

-- the trace of a text
abbrev pub trace_in : List ℕ → Trace
trace_in text = trace_of (lines text)

-- These lines of a text came, and are good. What the reader gave after them is a part of a line;
-- the rest didn't come.
pub record CameBefore (text rest : List ℕ) : Type 0 where
  pub taken : List (List ℕ)
  pub part : List ℕ
  pub front : lines text ≡ taken ++ lines (part ++ rest)
  pub within : has_line_feed part ≡ false
  pub good : (trace_of taken).bad ≡ None

-- where the bytes are known: this holds of the lines that came
abbrev pub FailsWithinLine : Option (List ℕ) → Option (List ℕ) → (List (List ℕ) → Type 0) → Type 0
FailsWithinLine None rest P = ⊤
FailsWithinLine (Some text) None P = ⊥
FailsWithinLine (Some text) (Some rest) P = (came : CameBefore text rest) × P came.taken

-- A reader gave a text, and P holds of it. If its bytes before and after are known, this text is
-- what it lost.
abbrev pub GaveText : Option (List ℕ) → Option (List ℕ) → (List ℕ → Type 0) → Type 0
GaveText before after P = (text : List ℕ) × Consumes before after text × P text

-- the fault names the next line, where that has more than 512 bytes
abbrev pub NamesLongLine : Progress → CmdFault → Type 0
NamesLongLine progress (BadLine number) =
    (line : List ℕ) (more : List (List ℕ)) → 512 < length line → trace_next progress (line ∷ more) ≡ record { inputs = []; bad = Some number }
NamesLongLine progress other = ⊥
