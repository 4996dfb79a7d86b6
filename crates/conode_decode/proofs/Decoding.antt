-- How far the lines of a trace are written.
use Rattle.std.proofs.Common.{◌≡◌, ℕ, List, [], ◌∷◌, ◌++◌, Option, None, Some, IfSome, Err, refl, inl, inr, ap, sym, subst, ◌∙◌, arith, append-nil}
use Rattle.std.specs.Prelude.{◌≢◌, ◌⊎◌, Ok}
use Rattle.std.specs.List.{flat_map}
use Rattle.std.specs.Io.KnownBytes.{Appends, Keeps, IsAtEnd}
use Rattle.std.proofs.KnownBytes.{Appends-nil, Appends-kept}
use Rattle.std.proofs.lemmas.Grind.{flat_map-append}
use Rattle.co_stream.specs.Lines.{GivesLine, IsTooLong}
use Rattle.co_stream.specs.Readings.{LosesPartOfLine}
use Rattle.co_stream.specs.declared.fault.LineFault.{LineFault}
use Rattle.co_stream.specs.declared.fault.LineFault.TheVariants as reader
use Rattle.conode_trace.specs.declared.timed_line.TimedLine.{TimedLine}
use Rattle.conode_trace.specs.declared.trace_line.TraceLine.TheVariants.{Skipped, PassedOver, Data, Event}
use Rattle.conode_trace.specs.declared.event_line.EventLine.TheVariants.{Ticks, App}
use Rattle.conode_trace.specs.declared.trace_line.TraceLine.{TraceLine}
use Rattle.conode_trace.specs.Traces.{TimedInput, Trace, Progress, inputs_of, preceded, trace_next, trace_of}
use Rattle.conode_trace.specs.TraceLaws.{made_of_own, flat_map-inputs_of}
use Rattle.conode_io.specs.declared.fault.CmdFault.{CmdFault}
use Rattle.conode_io.specs.declared.fault.CmdFault.TheVariants.{Read, Write, BadLine, Memory, NeverEnds}
use Rattle.conode_io.specs.Written.{WritesFront, WritesFrontOrLines, WritesLines, WritesSome}
use Rattle.conode_io.proofs.WriteLemmas.{lines_after, front_of_more, front_after_lines, some_of_more, some_after_lines}
use Rattle.conode_io.specs.TraceTexts.{NamesLongLine}
use Rattle.conode_io.proofs.Taking.{HasTaken, taken_none, taken_more, at_end, at_bad_line, at_long_line, within_line, before_end, in_line}
use Rattle.co_sheet_changes.specs.Names.{Names}
use Rattle.conode_decode.specs.DecodedTraces.{decoded_lines, input_lines, said_lines, Decoded}

-- what the inputs of a trace write, one by one
abbrev line_of : Names → TimedInput → List (List ℕ)
line_of names t = input_lines names t.line t.input

-- the lines of a line's own input
own_lines : (names : Names) (number before ticks ms : ℕ) (said : TraceLine)
    → made_of_own (line_of names) (record { number = number; before = before; ticks = ticks; ms = ms; said = said }) ≡ said_lines names number said
own_lines names number before ticks ms Skipped = refl
own_lines names number before ticks ms (PassedOver stamp) = refl
own_lines names number before ticks ms (Data stamp content) = refl
own_lines names number before ticks ms (Event (Ticks count)) = refl
own_lines names number before ticks ms (Event (App event)) = refl

-- the lines of a line are those of its own input
lines_of_line : (names : Names) (t : TimedLine) → decoded_lines names (inputs_of t) ≡ said_lines names t.number t.said
lines_of_line names t = flat_map-inputs_of (line_of names) (λ line ms. refl) t ∙ own_lines names t.number t.before t.ticks t.ms t.said

-- lines were taken, and the lines of their frames are written
pub record HasDecoded (names : Names) (known left : Option (List ℕ)) (progress : Progress) (old new : Option (List ℕ)) : Type 0 where
  pub took : HasTaken known left progress
  pub written : WritesLines old new (decoded_lines names took.inputs)

pub decoded_none : (names : Names) (known left : Option (List ℕ)) (progress : Progress) (held : Option (List ℕ)) → left ≡ known → ((more : List (List ℕ)) → trace_next progress more ≡ trace_of more) → HasDecoded names known left progress held held
unfolding taken_none
decoded_none names known left progress held same start = record {
  took = taken_none known left progress same start;
  written = Appends-nil held;
}

module _ (names : Names) (known left : Option (List ℕ)) (progress : Progress) (old mid : Option (List ℕ)) (h : HasDecoded names known left progress old mid) where
  -- ---- a flush

  pub decoded_flushed : (new : Option (List ℕ)) → Keeps mid new → HasDecoded names known left progress old new
  decoded_flushed new kept = record {
    took = h.took;
    written = Appends-kept old mid new (flat_map (λ line. line) (decoded_lines names h.took.inputs)) h.written kept;
  }

  -- ---- a line

  -- the lines of what was taken, of a line, and of what comes later
  more_lines : (t : TimedLine) (later : List TimedInput) → decoded_lines names (h.took.inputs ++ (inputs_of t ++ later)) ≡ decoded_lines names h.took.inputs ++ (said_lines names t.number t.said ++ decoded_lines names later)
  more_lines t later =
      flat_map-append (line_of names) h.took.inputs (inputs_of t ++ later)
      ∙ ap (λ (lines : List (List ℕ)). decoded_lines names h.took.inputs ++ lines) (flat_map-append (line_of names) (inputs_of t) later
      ∙ ap (λ (first : List (List ℕ)). first ++ decoded_lines names later) (lines_of_line names t))

  pub decoded_more : (next : Option (List ℕ)) (after : Progress) (new : Option (List ℕ)) (line : List ℕ) (t : TimedLine)
      → GivesLine left next line → ((more : List (List ℕ)) → trace_next progress (line ∷ more) ≡ preceded (inputs_of t) (trace_next after more))
      → WritesLines mid new (said_lines names t.number t.said) → HasDecoded names known next after old new
  unfolding taken_more
  decoded_more next after new line t gives read written = record {
    took = taken_more known left progress h.took next after line t gives read;
    written =
        subst (WritesLines old new) (sym (flat_map-append (line_of names) h.took.inputs (inputs_of t) ∙ ap (λ (lines : List (List ℕ)). decoded_lines names h.took.inputs ++ lines) (lines_of_line names t)))
        (lines_after old mid new (decoded_lines names h.took.inputs) (said_lines names t.number t.said) h.written written);
  }

  -- ---- how it ends

  -- all lines of the trace are decoded
  abbrev IsWhole : Option ℕ → Trace → Type 0
  IsWhole bad trace = (trace.bad ≡ bad) × WritesLines old mid (decoded_lines names trace.inputs)

  pub ends : (rest : Option (List ℕ)) → IsAtEnd left → Decoded names known rest old mid (Ok tt)
  ends rest end = at_end (IsWhole None) known left progress h.took end (refl, h.written)

  pub ends_at_bad_line : (next rest : Option (List ℕ)) (line : List ℕ) (number : ℕ) → GivesLine left next line
      → ((more : List (List ℕ)) → trace_next progress (line ∷ more) ≡ record { inputs = []; bad = Some number }) → Decoded names known rest old mid (Err (BadLine number))
  ends_at_bad_line next rest line number gives bad = at_bad_line (IsWhole (Some number)) known left next progress h.took line number gives bad (refl, h.written)

  ends_at_long_line : (rest : Option (List ℕ)) (fault : CmdFault) → IfSome left IsTooLong → NamesLongLine progress fault → Decoded names known rest old mid (Err fault)
  ends_at_long_line rest (BadLine number) long named = at_long_line (IsWhole (Some number)) known left progress h.took number long named (refl, h.written)
  ends_at_long_line rest Read long named = absurd named
  ends_at_long_line rest Write long named = absurd named
  ends_at_long_line rest Memory long named = absurd named
  ends_at_long_line rest NeverEnds long named = absurd named

  -- the line reader gives no line
  pub ends_at_fault : (rest : Option (List ℕ)) (line : LineFault) (fault : CmdFault)
      → (line ≡ reader.Read → fault ≡ Read) → (line ≡ reader.NeverEnds → fault ≡ NeverEnds) → (line ≡ reader.TooLong → NamesLongLine progress fault)
      → (line ≡ reader.TooLong → IfSome left IsTooLong) → (line ≢ reader.TooLong → LosesPartOfLine left rest) → Decoded names known rest old mid (Err fault)
  ends_at_fault rest reader.Read fault read never long too_long lost =
      subst (λ (f : CmdFault). Decoded names known rest old mid (Err f)) (sym (read refl)) (within_line (λ inputs. WritesLines old mid (decoded_lines names inputs)) known left rest progress h.took (lost (λ is. cc)) h.written)
  ends_at_fault rest reader.NeverEnds fault read never long too_long lost =
      subst (λ (f : CmdFault). Decoded names known rest old mid (Err f)) (sym (never refl)) (within_line (λ inputs. WritesLines old mid (decoded_lines names inputs)) known left rest progress h.took (lost (λ is. cc)) h.written)
  ends_at_fault rest reader.TooLong fault read never long too_long lost = ends_at_long_line rest fault (too_long refl) (long refl)

-- ---- the writer fails, or memory runs out

all_or_front : (old new : Option (List ℕ)) (before more : List (List ℕ)) (bytes : List ℕ) → flat_map (λ (l : List ℕ). l) more ≡ bytes → WritesLines old new before → WritesFrontOrLines old new (before ++ more)
all_or_front old new before more [] none written =
    inr (subst (Appends old new) (sym (flat_map-append (λ (l : List ℕ). l) before more ∙ ap (λ (b : List ℕ). flat_map (λ (l : List ℕ). l) before ++ b) none ∙ append-nil (flat_map (λ (l : List ℕ). l) before))) written)
all_or_front old new before more (x ∷ xs) some written =
    inl (flat_map (λ (l : List ℕ). l) before, record { rest = x ∷ xs; some = omega arith; joined = flat_map-append (λ (l : List ℕ). l) before more ∙ ap (λ (b : List ℕ). flat_map (λ (l : List ℕ). l) before ++ b) some }, written)

module _ (names : Names) (known left rest : Option (List ℕ)) (progress : Progress) (old mid : Option (List ℕ)) (h : HasDecoded names known left progress old mid) where
  -- the writer fails between two lines
  pub fails_to_flush : Decoded names known rest old mid (Err Write)
  fails_to_flush =
      before_end (λ inputs. WritesFrontOrLines old mid (decoded_lines names inputs)) known left progress h.took
      (λ later. subst (WritesFrontOrLines old mid) (sym (flat_map-append (line_of names) h.took.inputs later)) (all_or_front old mid (decoded_lines names h.took.inputs) (decoded_lines names later) _ refl h.written))

  -- a line is not written
  pub fails_in_line : (following : Option (List ℕ)) (next : Progress) (new : Option (List ℕ)) (line : List ℕ) (t : TimedLine) (fault : CmdFault) → GivesLine left following line
      → ((more : List (List ℕ)) → trace_next progress (line ∷ more) ≡ preceded (inputs_of t) (trace_next next more))
      → (fault ≡ Write) ⊎ (fault ≡ Memory) → (fault ≡ Write → WritesFront mid new (said_lines names t.number t.said)) → (fault ≡ Memory → WritesSome mid new (said_lines names t.number t.said))
      → Decoded names known rest old new (Err fault)
  fails_in_line following next new line t fault gives read (inl is) front some =
      rw is (in_line (λ inputs. WritesFrontOrLines old new (decoded_lines names inputs)) known left following progress next h.took line t gives read
      (λ later. inl (subst (WritesFront old new) (sym (more_lines names known left progress old mid h t later))
      (front_after_lines old mid new (decoded_lines names h.took.inputs) (said_lines names t.number t.said ++ decoded_lines names later) h.written
      (front_of_more mid new (said_lines names t.number t.said) (decoded_lines names later) (front is))))))
  fails_in_line following next new line t fault gives read (inr is) front some =
      rw is (in_line (λ inputs. WritesSome old new (decoded_lines names inputs)) known left following progress next h.took line t gives read
      (λ later. subst (WritesSome old new) (sym (more_lines names known left progress old mid h t later))
      (some_after_lines old mid new (decoded_lines names h.took.inputs) (said_lines names t.number t.said ++ decoded_lines names later) h.written
      (some_of_more mid new (said_lines names t.number t.said) (decoded_lines names later) (some is)))))
