-- How far a device came in a trace, and what was written.
use Rattle.std.specs.Prelude.{
  ◌≡◌,
  ℕ,
  ◌<◌,
  ◌⊎◌,
  List,
  [],
  ◌∷◌,
  ◌++◌,
  length,
  take,
  Option,
  Some,
  None,
  Bool,
  true,
  false,
  Result,
  Ok,
  Err,
  IfSome,
}
use Rattle.std.specs.List.{flat_map}
use Rattle.std.specs.Io.KnownBytes.{Appends}
use Rattle.conode_trace.specs.Traces.{Input, TimedInput, own_input, trace_of}
use Rattle.conode_trace.specs.declared.trace_line.TraceLine.{TraceLine}
use Rattle.co_frame.specs.FrameContent.{FrameContent}
use Rattle.conode_io.specs.declared.fault.CmdFault.{CmdFault}
use Rattle.conode_io.specs.declared.fault.CmdFault.TheVariants.{Read, Write, BadLine, Memory, NeverEnds}
use Rattle.conode_io.specs.Written.{IsFront, WritesFront, WritesLines, WritesSome}
use Rattle.conode_io.specs.TraceTexts.{trace_in, FailsWithinLine}
use Rattle.co_node_model.specs.Inputs.{Inputs}
use Rattle.co_node_model.specs.Moments.{Constants}
use Rattle.co_node_model.specs.Device.{all_frames, prescribed}
use Rattle.co_node.specs.declared.node.Node.{Node}
use Rattle.co_node.specs.Nodes.{Stands}
use Rattle.conode_device.specs.declared.totals.Totals.{Totals}
use Rattle.conode_device.specs.Lines.{
  after_inputs,
  boot_line,
  input_lines,
  replayed_lines,
  started_lines,
  totals_line,
  totals_of,
  view_of,
  views_of,
}

-- ---- what was written when it broke off

-- a writer's bytes have grown by some whole lines, and by a front of the next ones: some of these,
-- and perhaps a part of one
abbrev pub WritesPart : Option (List ℕ) → Option (List ℕ) → List (List ℕ) → List (List ℕ) → Type 0
WritesPart old new whole next =
    (front : List ℕ) × IsFront front (flat_map (λ line. line) next)
    × Appends old new (flat_map (λ line. line) whole ++ front)

-- a writer's bytes have grown by some whole lines, and by some of the next ones, never by all
abbrev pub WritesWhole : Option (List ℕ) → Option (List ℕ) → List (List ℕ) → List (List ℕ) → Type 0
WritesWhole old new whole next =
    (number : ℕ) × (number < length next) × WritesLines old new (whole ++ take number next)

-- ---- how far the device came

-- P holds, whatever the device took before
abbrev pub AfterAny : Node → (Constants → Inputs → Type 0) → Type 0
AfterAny node P = (k : Constants) (before : Inputs) → Stands k node before → P k before

-- it took a line's own input, and sent these frames
pub record TakesOwn (first last : Node) (said : TraceLine) (sent : List FrameContent) : Type 0 where
  pub input : Input
  pub is_own : own_input said ≡ Some input
  pub stands : AfterAny first (λ k before. Stands k last (view_of input ∷ before))
  pub frames : AfterAny first (λ k before. sent ≡ prescribed k before (view_of input))

-- whether it did; if a line has no own input, nothing happened
abbrev pub TookOwn : Node → Node → TraceLine → List FrameContent → Bool → Type 0
TookOwn first last said sent true = TakesOwn first last said sent
TookOwn first last said sent false = (own_input said ≡ None) × (last ≡ first)

-- it took all inputs, and their lines were written, so many frames among these
pub record HasPrinted (k : Constants) (before : Inputs) (old new : Option (List ℕ)) (node : Node)
    (printed : ℕ) (inputs : List TimedInput) : Type 0 where
  pub stands : Stands k node (after_inputs before inputs)
  pub written : WritesLines old new (replayed_lines k before inputs)
  pub frames : printed ≡ length (all_frames k before (views_of inputs))

-- it took all inputs, and the boot-up and their lines were written
pub record HasRun (k : Constants) (before : Inputs) (old new : Option (List ℕ)) (node : Node)
    (inputs : List TimedInput) : Type 0 where
  pub stands : Stands k node (after_inputs before inputs)
  pub written : WritesLines old new (started_lines k before inputs)

-- the same, and their totals were counted
pub record HasCounted (k : Constants) (before : Inputs) (old new : Option (List ℕ)) (node : Node)
    (totals : Totals) (inputs : List TimedInput) : Type 0 where
  pub run : HasRun k before old new node inputs
  pub counted : totals ≡ totals_of k before inputs

-- it took all inputs, and their totals were counted; these were written last
pub record HasEnded (k : Constants) (before : Inputs) (old new : Option (List ℕ)) (node : Node)
    (totals : Totals) (inputs : List TimedInput) : Type 0 where
  pub stands : Stands k node (after_inputs before inputs)
  pub counted : totals ≡ totals_of k before inputs
  pub written : WritesLines old new (started_lines k before inputs ++ totals_line totals ∷ [])

-- a text is a good trace, and the boot-up, the lines of its inputs and their totals were written
pub record ReplaysAll (k : Constants) (before : Inputs) (old new : Option (List ℕ)) (text : List ℕ) : Type 0 where
  pub good : (trace_in text).bad ≡ None
  pub written : WritesLines old new (started_lines k before (trace_in text).inputs
      ++ totals_line (totals_of k before (trace_in text).inputs) ∷ [])

-- it took some of the inputs, from the first on, and stopped at the lines of the last of these
pub record StopsAt (k : Constants) (before : Inputs) (node : Node) (inputs : List TimedInput) : Type 0 where
  pub earlier : List TimedInput
  pub last : TimedInput
  pub later : List TimedInput
  pub joined : inputs ≡ earlier ++ last ∷ later
  pub stands : Stands k node (after_inputs before (earlier ++ last ∷ []))

-- the same, with what was written after the boot-up
abbrev pub StopsIn : Constants → Inputs → Node → (List (List ℕ) → List (List ℕ) → Type 0) → List TimedInput → Type 0
StopsIn k before node Writes inputs =
    (at : StopsAt k before node inputs)
    × Writes (replayed_lines k before at.earlier) (input_lines k (after_inputs before at.earlier) at.last)

-- ---- results of private calls

-- lines were written, by how that ended: all of them; a front if the writer failed; some, never
-- all, if memory ran out
abbrev pub WrittenBy : Option (List ℕ) → Option (List ℕ) → List (List ℕ) → Result (Unit {0}) CmdFault → Type 0
WrittenBy old new lines (Ok done) = WritesLines old new lines
WrittenBy old new lines (Err Write) = WritesFront old new lines
WrittenBy old new lines (Err Memory) = WritesSome old new lines
WrittenBy old new lines (Err Read) = ⊥
WrittenBy old new lines (Err NeverEnds) = ⊥
WrittenBy old new lines (Err (BadLine number)) = ⊥

-- the same for lines that depend on what the device took before
abbrev pub WrittenAfter : Node → Option (List ℕ) → Option (List ℕ) → (Constants → Inputs → List (List ℕ))
    → Result (Unit {0}) CmdFault → Type 0
WrittenAfter node old new lines (Ok done) = AfterAny node (λ k before. WritesLines old new (lines k before))
WrittenAfter node old new lines (Err Write) = AfterAny node (λ k before. WritesFront old new (lines k before))
WrittenAfter node old new lines (Err Memory) = AfterAny node (λ k before. WritesSome old new (lines k before))
WrittenAfter node old new lines (Err Read) = ⊥
WrittenAfter node old new lines (Err NeverEnds) = ⊥
WrittenAfter node old new lines (Err (BadLine number)) = ⊥

-- inputs were taken and their lines written, by how that ended
abbrev pub PrintedBy : Node → Option (List ℕ) → Option (List ℕ) → Node → List TimedInput → Result ℕ CmdFault → Type 0
PrintedBy first old new last inputs (Ok printed) =
    AfterAny first (λ k before. HasPrinted k before old new last printed inputs)
PrintedBy first old new last inputs (Err Write) =
    AfterAny first (λ k before. StopsIn k before last (WritesPart old new) inputs)
PrintedBy first old new last inputs (Err Memory) =
    AfterAny first (λ k before. StopsIn k before last (WritesWhole old new) inputs)
PrintedBy first old new last inputs (Err Read) = ⊥
PrintedBy first old new last inputs (Err NeverEnds) = ⊥
PrintedBy first old new last inputs (Err (BadLine number)) = ⊥

-- ---- the whole

-- it broke off at a line: of the boot-up; of the last input that it took; or of the totals
abbrev pub BreaksOff : Constants → Inputs → Node → (List (List ℕ) → List (List ℕ) → Type 0) → List TimedInput → Type 0
BreaksOff k before node Writes inputs =
    (Stands k node before × Writes [] (boot_line k ∷ []))
    ⊎ (((at : StopsAt k before node inputs)
    × Writes (started_lines k before at.earlier) (input_lines k (after_inputs before at.earlier) at.last))
    ⊎ (Stands k node (after_inputs before inputs)
    × Writes (started_lines k before inputs) (totals_line (totals_of k before inputs) ∷ [])))

-- it took some of the inputs, from the first on, or all of them, and the boot-up and the lines of
-- these were written
pub record HasRunSome (k : Constants) (before : Inputs) (old new : Option (List ℕ)) (node : Node)
    (inputs : List TimedInput) : Type 0 where
  pub taken : List TimedInput
  pub later : List TimedInput
  pub joined : inputs ≡ taken ++ later
  pub run : HasRun k before old new node taken

-- ---- how it ends

-- the writer failed: at a line, or between two lines
abbrev pub FailsToWrite : Constants → Inputs → Option (List ℕ) → Option (List ℕ) → Node → List TimedInput → Type 0
FailsToWrite k before old new node inputs =
    BreaksOff k before node (WritesPart old new) inputs ⊎ HasRunSome k before old new node inputs

-- how a replay ends, by its result; `known` and `rest` are what the reader has before and after,
-- `old` and `new` what the writer has, as far as known; `Ends` is what holds after the last line
abbrev pub Replayed : (Constants → Inputs → Totals → List TimedInput → Type 0) → Node → Node
    → Option (List ℕ) → Option (List ℕ) → Option (List ℕ) → Option (List ℕ)
    → Result Totals CmdFault → Type 0
Replayed Ends first last known rest old new (Ok totals) =
    IfSome known (λ text. ((trace_in text).bad ≡ None)
    × AfterAny first (λ k before. Ends k before totals (trace_in text).inputs))
Replayed Ends first last known rest old new (Err (BadLine number)) =
    IfSome known (λ text. ((trace_in text).bad ≡ Some number)
    × AfterAny first (λ k before. HasRun k before old new last (trace_in text).inputs))
Replayed Ends first last known rest old new (Err Write) =
    IfSome known (λ text. AfterAny first (λ k before. FailsToWrite k before old new last (trace_in text).inputs))
Replayed Ends first last known rest old new (Err Memory) =
    IfSome known (λ text.
    AfterAny first (λ k before. BreaksOff k before last (WritesWhole old new) (trace_in text).inputs))
Replayed Ends first last known rest old new (Err Read) =
    FailsWithinLine known rest (λ taken.
    AfterAny first (λ k before. HasRun k before old new last (trace_of taken).inputs))
Replayed Ends first last known rest old new (Err NeverEnds) =
    FailsWithinLine known rest (λ taken.
    AfterAny first (λ k before. HasRun k before old new last (trace_of taken).inputs))
