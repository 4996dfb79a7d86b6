-- How far a trace is replayed.
use Rattle.std.proofs.Common.{◌≡◌, ℕ, List, [], ◌∷◌, ◌++◌, Option, None, Some, Ok, Err, IfSome, refl, inl, inr, sym, subst, ◌∙◌}
use Rattle.std.specs.Prelude.{◌≢◌}
use Rattle.std.specs.List.{flat_map}
use Rattle.std.specs.Io.KnownBytes.{Keeps, IsAtEnd}
use Rattle.std.proofs.KnownBytes.{Appends-kept}
use Rattle.co_stream.specs.Lines.{GivesLine, IsTooLong}
use Rattle.co_stream.specs.Readings.{LosesPartOfLine}
use Rattle.co_stream.specs.declared.fault.LineFault.{LineFault}
use Rattle.co_stream.specs.declared.fault.LineFault.TheVariants as reader
use Rattle.conode_trace.specs.declared.timed_line.TimedLine.{TimedLine}
use Rattle.conode_trace.specs.Traces.{TimedInput, Progress, inputs_of, preceded, trace_next, trace_of}
use Rattle.conode_io.specs.declared.fault.CmdFault.{CmdFault}
use Rattle.conode_io.specs.declared.fault.CmdFault.TheVariants.{Read, Write, BadLine, Memory, NeverEnds}
use Rattle.conode_io.specs.Written.{WritesFront, WritesLines, WritesSome}
use Rattle.conode_io.proofs.WriteLemmas.{lines_after}
use Rattle.conode_io.specs.TraceTexts.{trace_in, FailsWithinLine, NamesLongLine}
use Rattle.conode_io.proofs.Taking.{HasTaken, taken_none, taken_more, at_end, at_bad_line, at_long_line, within_line, before_end, in_line}
use Rattle.co_node_model.specs.Inputs.{Inputs}
use Rattle.co_node_model.specs.Moments.{Constants}
use Rattle.co_node.specs.declared.node.Node.{Node}
use Rattle.co_node.specs.Nodes.{Stands}
use Rattle.conode_device.specs.declared.totals.Totals.{Totals}
use Rattle.conode_device.specs.Counts.{counted}
use Rattle.conode_device.specs.Lines.{after_inputs, boot_line, replayed_lines, started_lines, totals_line}
use Rattle.conode_device.specs.Runs.{AfterAny, BreaksOff, FailsToWrite, HasCounted, HasEnded, HasPrinted, HasRun, PrintedBy, Replayed, StopsIn, WritesPart, WritesWhole, WrittenAfter, WrittenBy}
use Rattle.conode_device.proofs.Inputs.{after_append, counted_more, part_after, part_more, replayed_append, stops_after, stops_later, whole_after, whole_more}

-- the lines of a trace so far are taken, and their inputs replayed
pub record HasReplayed (first : Node) (known left : Option (List ℕ)) (progress : Progress) (old new : Option (List ℕ)) (node : Node) (totals : Totals) : Type 0 where
  pub took : HasTaken known left progress
  pub gone : AfterAny first (λ k before. HasCounted k before old new node totals took.inputs)

pub replayed_none : (first : Node) (known left : Option (List ℕ)) (progress : Progress) (old new : Option (List ℕ)) (totals : Totals) → left ≡ known → ((more : List (List ℕ)) → trace_next progress more ≡ trace_of more)
    → totals ≡ record { handed = 0; printed = 1; ticks = 0 } → AfterAny first (λ k before. WritesLines old new (boot_line k ∷ [])) → HasReplayed first known left progress old new first totals
unfolding taken_none
replayed_none first known left progress old new totals same start none boot = record {
  took = taken_none known left progress same start;
  gone = λ k before stands. record { run = record { stands = stands; written = boot k before stands }; counted = none };
}

module _ (first : Node) (known left : Option (List ℕ)) (progress : Progress) (old mid : Option (List ℕ)) (node : Node) (totals : Totals) (h : HasReplayed first known left progress old mid node totals) where
  -- ---- a flush

  pub replayed_flushed : (new : Option (List ℕ)) → Keeps mid new → HasReplayed first known left progress old new node totals
  replayed_flushed new kept = record {
    took = h.took;
    gone = λ k before stands.
        let so_far = h.gone k before stands in
        record {
          run = record {
            stands = so_far.run.stands;
            written = Appends-kept old mid new (flat_map (λ line. line) (started_lines k before h.took.inputs)) so_far.run.written kept;
          };
          counted = so_far.counted;
        };
  }

  -- ---- a line

  pub replayed_more : (next : Option (List ℕ)) (after : Progress) (new : Option (List ℕ)) (then : Node) (line : List ℕ) (t : TimedLine) (printed : ℕ) (sum : Totals)
      → GivesLine left next line → ((more : List (List ℕ)) → trace_next progress (line ∷ more) ≡ preceded (inputs_of t) (trace_next after more))
      → AfterAny node (λ k before. HasPrinted k before mid new then printed (inputs_of t)) → sum ≡ counted totals t printed → HasReplayed first known next after old new then sum
  unfolding taken_more
  replayed_more next after new then line t printed sum gives read prints is = record {
    took = taken_more known left progress h.took next after line t gives read;
    gone = λ k before stands.
        let so_far = h.gone k before stands in
        let more = prints k (after_inputs before h.took.inputs) so_far.run.stands in
        record {
          run = record {
            stands = subst (Stands k then) (sym (after_append before h.took.inputs (inputs_of t))) more.stands;
            written = subst (λ (lines : List (List ℕ)). WritesLines old new (boot_line k ∷ lines)) (sym (replayed_append k before h.took.inputs (inputs_of t)))
                (lines_after old mid new (started_lines k before h.took.inputs) (replayed_lines k (after_inputs before h.took.inputs) (inputs_of t)) so_far.run.written more.written);
          };
          counted = is ∙ counted_more k before totals t printed h.took.inputs so_far.counted more.frames;
        };
  }

  -- ---- how it ends

  pub ends : (rest : Option (List ℕ)) → IsAtEnd left → Replayed (λ k before. HasCounted k before old mid node) first node known rest old mid (Ok totals)
  ends rest end =
      at_end (λ t. (t.bad ≡ None) × AfterAny first (λ k before. HasCounted k before old mid node totals t.inputs)) known left progress h.took end (refl, h.gone)

  runs : AfterAny first (λ k before. HasRun k before old mid node h.took.inputs)
  runs k before stands = (h.gone k before stands).run

  pub ends_at_bad_line : (Ends : Constants → Inputs → Totals → List TimedInput → Type 0) (next rest : Option (List ℕ)) (line : List ℕ) (number : ℕ) → GivesLine left next line
      → ((more : List (List ℕ)) → trace_next progress (line ∷ more) ≡ record { inputs = []; bad = Some number }) → Replayed Ends first node known rest old mid (Err (BadLine number))
  ends_at_bad_line Ends next rest line number gives bad =
      at_bad_line (λ t. (t.bad ≡ Some number) × AfterAny first (λ k before. HasRun k before old mid node t.inputs)) known left next progress h.took line number gives bad (refl, runs)

  ends_at_long_line : (Ends : Constants → Inputs → Totals → List TimedInput → Type 0) (rest : Option (List ℕ)) (fault : CmdFault) → IfSome left IsTooLong → NamesLongLine progress fault → Replayed Ends first node known rest old mid (Err fault)
  ends_at_long_line Ends rest (BadLine number) long named =
      at_long_line (λ t. (t.bad ≡ Some number) × AfterAny first (λ k before. HasRun k before old mid node t.inputs)) known left progress h.took number long named (refl, runs)
  ends_at_long_line Ends rest Read long named = absurd named
  ends_at_long_line Ends rest Write long named = absurd named
  ends_at_long_line Ends rest Memory long named = absurd named
  ends_at_long_line Ends rest NeverEnds long named = absurd named

  fails_within : (rest : Option (List ℕ)) → LosesPartOfLine left rest → FailsWithinLine known rest (λ taken. AfterAny first (λ k before. HasRun k before old mid node (trace_of taken).inputs))
  fails_within rest lost = within_line (λ inputs. AfterAny first (λ k before. HasRun k before old mid node inputs)) known left rest progress h.took lost runs

  -- the line reader gives no line
  pub ends_at_fault : (Ends : Constants → Inputs → Totals → List TimedInput → Type 0) (rest : Option (List ℕ)) (line : LineFault) (fault : CmdFault)
      → (line ≡ reader.Read → fault ≡ Read) → (line ≡ reader.NeverEnds → fault ≡ NeverEnds) → (line ≡ reader.TooLong → NamesLongLine progress fault)
      → (line ≡ reader.TooLong → IfSome left IsTooLong) → (line ≢ reader.TooLong → LosesPartOfLine left rest) → Replayed Ends first node known rest old mid (Err fault)
  ends_at_fault Ends rest reader.Read fault read never long too_long lost =
      subst (λ (f : CmdFault). Replayed Ends first node known rest old mid (Err f)) (sym (read refl)) (fails_within rest (lost (λ is. cc)))
  ends_at_fault Ends rest reader.NeverEnds fault read never long too_long lost =
      subst (λ (f : CmdFault). Replayed Ends first node known rest old mid (Err f)) (sym (never refl)) (fails_within rest (lost (λ is. cc)))
  ends_at_fault Ends rest reader.TooLong fault read never long too_long lost = ends_at_long_line Ends rest fault (too_long refl) (long refl)

  -- the writer fails between two lines
  pub fails_to_flush : (Ends : Constants → Inputs → Totals → List TimedInput → Type 0) (rest : Option (List ℕ)) → Replayed Ends first node known rest old mid (Err Write)
  fails_to_flush Ends rest =
      before_end (λ inputs. AfterAny first (λ k before. FailsToWrite k before old mid node inputs)) known left progress h.took
      (λ later k before stands. inr (record { taken = h.took.inputs; later = later; joined = refl; run = runs k before stands }))

  -- a line is not written
  module _ (following : Option (List ℕ)) (next : Progress) (new : Option (List ℕ)) (then : Node) (line : List ℕ) (t : TimedLine) (gives : GivesLine left following line)
      (read : (more : List (List ℕ)) → trace_next progress (line ∷ more) ≡ preceded (inputs_of t) (trace_next next more)) where
    -- what is written after the boot-up, with the boot-up
    stops : (Part Whole : List (List ℕ) → List (List ℕ) → Type 0) (k : Constants) (before : Inputs) → ((whole more : List (List ℕ)) → Part whole more → Whole (started_lines k before h.took.inputs ++ whole) more)
        → StopsIn k (after_inputs before h.took.inputs) then Part (inputs_of t) → (later : List TimedInput) → StopsIn k before then (λ whole more. Whole (boot_line k ∷ whole) more) (h.took.inputs ++ (inputs_of t ++ later))
    stops Part Whole k before after stopped later =
        stops_after k before then Part (λ whole more. Whole (boot_line k ∷ whole) more) h.took.inputs (inputs_of t ++ later) after
        (stops_later k (after_inputs before h.took.inputs) then Part (inputs_of t) later stopped)

    fails_writing : (Ends : Constants → Inputs → Totals → List TimedInput → Type 0) (rest : Option (List ℕ)) → AfterAny node (λ k before. StopsIn k before then (WritesPart mid new) (inputs_of t)) → Replayed Ends first then known rest old new (Err Write)
    fails_writing Ends rest stopped =
        in_line (λ inputs. AfterAny first (λ k before. FailsToWrite k before old new then inputs)) known left following progress next h.took line t gives read
        (λ later k before stands.
        let run = runs k before stands in
        inl (inr (inl (stops (WritesPart mid new) (WritesPart old new) k before (part_more old mid new (started_lines k before h.took.inputs) run.written) (stopped k (after_inputs before h.took.inputs) run.stands) later))))

    fails_making : (Ends : Constants → Inputs → Totals → List TimedInput → Type 0) (rest : Option (List ℕ)) → AfterAny node (λ k before. StopsIn k before then (WritesWhole mid new) (inputs_of t)) → Replayed Ends first then known rest old new (Err Memory)
    fails_making Ends rest stopped =
        in_line (λ inputs. AfterAny first (λ k before. BreaksOff k before then (WritesWhole old new) inputs)) known left following progress next h.took line t gives read
        (λ later k before stands.
        let run = runs k before stands in
        inr (inl (stops (WritesWhole mid new) (WritesWhole old new) k before (whole_more old mid new (started_lines k before h.took.inputs) run.written) (stopped k (after_inputs before h.took.inputs) run.stands) later)))

    pub fails_in_line : (Ends : Constants → Inputs → Totals → List TimedInput → Type 0) (rest : Option (List ℕ)) (fault : CmdFault) → PrintedBy node mid new then (inputs_of t) (Err fault)
        → Replayed Ends first then known rest old new (Err fault)
    fails_in_line Ends rest Write broke = fails_writing Ends rest broke
    fails_in_line Ends rest Memory broke = fails_making Ends rest broke
    fails_in_line Ends rest Read broke = absurd broke
    fails_in_line Ends rest NeverEnds broke = absurd broke
    fails_in_line Ends rest (BadLine number) broke = absurd broke

-- ---- the boot-up

if_known : (known : Option (List ℕ)) (P : List ℕ → Type 0) → ((text : List ℕ) → P text) → IfSome known P
if_known None P h = tt
if_known (Some text) P h = h text

pub boot_fails : (Ends : Constants → Inputs → Totals → List TimedInput → Type 0) (first : Node) (known rest old new : Option (List ℕ)) (fault : CmdFault)
    → WrittenAfter first old new (λ k before. boot_line k ∷ []) (Err fault) → Replayed Ends first first known rest old new (Err fault)
boot_fails Ends first known rest old new Write front =
    if_known known (λ text. AfterAny first (λ k before. FailsToWrite k before old new first (trace_in text).inputs)) (λ text k before stands. inl (inl (stands, front k before stands)))
boot_fails Ends first known rest old new Memory some =
    if_known known (λ text. AfterAny first (λ k before. BreaksOff k before first (WritesWhole old new) (trace_in text).inputs)) (λ text k before stands. inl (stands, some k before stands))
boot_fails Ends first known rest old new Read written = absurd written
boot_fails Ends first known rest old new NeverEnds written = absurd written
boot_fails Ends first known rest old new (BadLine number) written = absurd written

-- no other fault comes of it
pub boot_not : (first : Node) (old new : Option (List ℕ)) (fault other : CmdFault) → WrittenAfter first old new (λ k before. boot_line k ∷ []) (Err fault) → fault ≡ other
    → WrittenAfter first old new (λ k before. boot_line k ∷ []) (Err other)
boot_not first old new fault other written is = subst (λ (f : CmdFault). WrittenAfter first old new (λ k before. boot_line k ∷ []) (Err f)) is written

-- ---- the totals

-- another fault came first
pub fault_stays : (Some_Ends Ends : Constants → Inputs → Totals → List TimedInput → Type 0) (first last : Node) (known rest old new : Option (List ℕ)) (fault : CmdFault)
    → Replayed Some_Ends first last known rest old new (Err fault) → Replayed Ends first last known rest old new (Err fault)
fault_stays Some_Ends Ends first last known rest old new Read h = h
fault_stays Some_Ends Ends first last known rest old new Write h = h
fault_stays Some_Ends Ends first last known rest old new (BadLine number) h = h
fault_stays Some_Ends Ends first last known rest old new Memory h = h
fault_stays Some_Ends Ends first last known rest old new NeverEnds h = h

module _ (first last : Node) (rest old mid new : Option (List ℕ)) (totals : Totals) where
  pub totals_written : (known : Option (List ℕ)) → Replayed (λ k before. HasCounted k before old mid last) first last known rest old mid (Ok totals) → WritesLines mid new (totals_line totals ∷ [])
      → Replayed (λ k before. HasEnded k before old new last) first last known rest old new (Ok totals)
  totals_written None h written = tt
  totals_written (Some text) (good, gone) written = (
    good,
    λ k before stands.
        let all = gone k before stands in
        record {
          stands = all.run.stands;
          counted = all.counted;
          written = lines_after old mid new (started_lines k before (trace_in text).inputs) (totals_line totals ∷ []) all.run.written written;
        },
  )

  fails_writing_totals : (known : Option (List ℕ)) → Replayed (λ k before. HasCounted k before old mid last) first last known rest old mid (Ok totals) → WritesFront mid new (totals_line totals ∷ [])
      → Replayed (λ k before. HasEnded k before old new last) first last known rest old new (Err Write)
  fails_writing_totals None h front = tt
  fails_writing_totals (Some text) (good, gone) front = λ k before stands.
      let all = gone k before stands in
      inl (inr (inr (
        all.run.stands,
        subst (λ (sum : Totals). WritesPart old new (started_lines k before (trace_in text).inputs) (totals_line sum ∷ [])) all.counted
            (part_after old mid new (started_lines k before (trace_in text).inputs) all.run.written (totals_line totals ∷ []) front),
      )))

  fails_making_totals : (known : Option (List ℕ)) → Replayed (λ k before. HasCounted k before old mid last) first last known rest old mid (Ok totals) → WritesSome mid new (totals_line totals ∷ [])
      → Replayed (λ k before. HasEnded k before old new last) first last known rest old new (Err Memory)
  fails_making_totals None h some = tt
  fails_making_totals (Some text) (good, gone) some = λ k before stands.
      let all = gone k before stands in
      inr (inr (
        all.run.stands,
        subst (λ (sum : Totals). WritesWhole old new (started_lines k before (trace_in text).inputs) (totals_line sum ∷ [])) all.counted
            (whole_after old mid new (started_lines k before (trace_in text).inputs) all.run.written (totals_line totals ∷ []) some),
      ))

  pub totals_fail : (known : Option (List ℕ)) (fault : CmdFault) → Replayed (λ k before. HasCounted k before old mid last) first last known rest old mid (Ok totals) → WrittenBy mid new (totals_line totals ∷ []) (Err fault)
      → Replayed (λ k before. HasEnded k before old new last) first last known rest old new (Err fault)
  totals_fail known Write h front = fails_writing_totals known h front
  totals_fail known Memory h some = fails_making_totals known h some
  totals_fail known Read h written = absurd written
  totals_fail known NeverEnds h written = absurd written
  totals_fail known (BadLine number) h written = absurd written
