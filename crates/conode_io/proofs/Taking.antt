-- How far the lines of a trace are taken, for those who go through them one at a time.
use Rattle.std.proofs.Common.{◌≡◌, ℕ, ◌+◌, ◌<◌, List, [], ◌∷◌, ◌++◌, length, Option, None, Some, Result, Ok, Err, IfSome, refl, ap, sym, subst, ◌∙◌, append_assoc, append-nil}
use Rattle.std.specs.Prelude.{◌≢◌, IfOk, IfErr, IfNone, ⊤}
use Rattle.std.specs.Io.KnownBytes.{IsAtEnd}
use Rattle.std.specs.Str.Lines.{lines}
use Rattle.co_stream.specs.Lines.{GivesLine, IsTooLong}
use Rattle.co_stream.specs.Nexts.{IsNext, OfAny, new_reader}
use Rattle.co_stream.specs.Readings.{Reading, most_bytes, to_come, LosesPartOfLine}
use Rattle.co_stream.specs.declared.fault.LineFault.{LineFault}
use Rattle.co_stream.specs.declared.fault.LineFault.TheVariants.{Read, TooLong, NeverEnds}
use Rattle.co_stream.proofs.Readers.{gave_so}
use denote.Ref.{Bor}
use Rattle.conode_trace.specs.declared.timed_line.TimedLine.{TimedLine}
use Rattle.conode_trace.specs.Traces.{TimedInput, Trace, Progress, inputs_of, preceded, trace_next, trace_of}
use Rattle.conode_trace.proofs.Reading.{no_line}
use Rattle.conode_io.specs.TraceTexts.{trace_in, FailsWithinLine}

-- after these lines of a text, those of `left` are to come, where they are known
abbrev pub LeavesLines : Option (List ℕ) → Option (List ℕ) → List (List ℕ) → Type 0
LeavesLines None left taken = ⊤
LeavesLines (Some text) None taken = ⊥
LeavesLines (Some text) (Some rest) taken = lines text ≡ taken ++ lines rest

pub leaves_all : (known : Option (List ℕ)) → LeavesLines known known []
leaves_all None = tt
leaves_all (Some text) = refl

pub leaves_more : (known left next : Option (List ℕ)) (taken : List (List ℕ)) (line : List ℕ) → LeavesLines known left taken → GivesLine left next line → LeavesLines known next (taken ++ line ∷ [])
leaves_more None left next taken line h gives = tt
leaves_more (Some text) None next taken line h gives = absurd h
leaves_more (Some text) (Some rest) None taken line h gives = absurd gives
leaves_more (Some text) (Some rest) (Some after) taken line h gives =
    h ∙ ap (λ (more : List (List ℕ)). taken ++ more) gives ∙ sym (append_assoc taken (line ∷ []) (lines after))

-- lines were taken, and these are their inputs
pub record HasTaken (known left : Option (List ℕ)) (progress : Progress) : Type 0 where
  pub taken : List (List ℕ)
  pub inputs : List TimedInput
  pub front : LeavesLines known left taken
  pub reached : (more : List (List ℕ)) → trace_of (taken ++ more) ≡ preceded inputs (trace_next progress more)

unfoldable pub taken_none : (known left : Option (List ℕ)) (progress : Progress) → left ≡ known → ((more : List (List ℕ)) → trace_next progress more ≡ trace_of more) → HasTaken known left progress
taken_none known left progress same start = record {
  taken = [];
  inputs = [];
  front = subst (λ (l : Option (List ℕ)). LeavesLines known l []) (sym same) (leaves_all known);
  reached = λ more. sym (start more);
}

module _ (known left : Option (List ℕ)) (progress : Progress) (h : HasTaken known left progress) where
  unfoldable pub taken_more : (next : Option (List ℕ)) (after : Progress) (line : List ℕ) (t : TimedLine)
      → GivesLine left next line → ((more : List (List ℕ)) → trace_next progress (line ∷ more) ≡ preceded (inputs_of t) (trace_next after more))
      → HasTaken known next after
  taken_more next after line t gives read = record {
    taken = h.taken ++ line ∷ [];
    inputs = h.inputs ++ inputs_of t;
    front = leaves_more known left next h.taken line h.front gives;
    reached = λ more.
        ap trace_of (append_assoc h.taken (line ∷ []) more) ∙ h.reached (line ∷ more) ∙ ap (preceded h.inputs) (read more)
        ∙ ap (λ (all : List TimedInput). record { inputs = all; bad = (trace_next after more).bad }) (sym (append_assoc h.inputs (inputs_of t) (trace_next after more).inputs));
  }

-- ---- all lines of the trace

no_line_next : (progress : Progress) → trace_next progress [] ≡ record { inputs = []; bad = None }
unfolding trace_next
no_line_next progress = no_line (progress.number + 1) progress.clock

-- where the lines that are left give no inputs
whole : (P : Trace → Type 0) (text rest : List ℕ) (progress : Progress) (h : HasTaken (Some text) (Some rest) progress) (bad : Option ℕ) → trace_next progress (lines rest) ≡ record { inputs = []; bad = bad }
    → P (record { inputs = h.inputs; bad = bad }) → P (trace_in text)
whole P text rest progress h bad stops p =
    let all : trace_in text ≡ record { inputs = h.inputs ++ []; bad = bad } = ap trace_of h.front ∙ h.reached (lines rest) ∙ ap (preceded h.inputs) stops in
    subst P (sym (all ∙ ap (λ (i : List TimedInput). record { inputs = i; bad = bad }) (append-nil h.inputs))) p

pub at_end : (P : Trace → Type 0) (known left : Option (List ℕ)) (progress : Progress) (h : HasTaken known left progress) → IsAtEnd left → P (record { inputs = h.inputs; bad = None }) → IfSome known (λ text. P (trace_in text))
at_end P None left progress h end p = tt
at_end P (Some text) None progress h end p = absurd h.front
at_end P (Some text) (Some bytes) progress h end p =
    whole P text bytes progress h None (ap (λ (b : List ℕ). trace_next progress (lines b)) end ∙ no_line_next progress) p

pub at_bad_line : (P : Trace → Type 0) (known left next : Option (List ℕ)) (progress : Progress) (h : HasTaken known left progress) (line : List ℕ) (number : ℕ) → GivesLine left next line
    → ((more : List (List ℕ)) → trace_next progress (line ∷ more) ≡ record { inputs = []; bad = Some number }) → P (record { inputs = h.inputs; bad = Some number }) → IfSome known (λ text. P (trace_in text))
at_bad_line P None left next progress h line number gives bad p = tt
at_bad_line P (Some text) None next progress h line number gives bad p = absurd h.front
at_bad_line P (Some text) (Some bytes) None progress h line number gives bad p = absurd gives
at_bad_line P (Some text) (Some bytes) (Some after) progress h line number gives bad p =
    whole P text bytes progress h (Some number) (ap (trace_next progress) gives ∙ bad (lines after)) p

pub at_long_line : (P : Trace → Type 0) (known left : Option (List ℕ)) (progress : Progress) (h : HasTaken known left progress) (number : ℕ) → IfSome left IsTooLong
    → ((line : List ℕ) (more : List (List ℕ)) → 512 < length line → trace_next progress (line ∷ more) ≡ record { inputs = []; bad = Some number }) → P (record { inputs = h.inputs; bad = Some number }) → IfSome known (λ text. P (trace_in text))
at_long_line P None left progress h number long named p = tt
at_long_line P (Some text) None progress h number long named p = absurd h.front
at_long_line P (Some text) (Some bytes) progress h number (line, more, first, over) named p =
    whole P text bytes progress h (Some number) (ap (trace_next progress) first ∙ named line more over) p

-- ---- the reader fails

pub within_line : (P : List TimedInput → Type 0) (known left rest : Option (List ℕ)) (progress : Progress) (h : HasTaken known left progress) → LosesPartOfLine left rest → P h.inputs → FailsWithinLine known rest (λ taken. P (trace_of taken).inputs)
within_line P None left rest progress h lost p = tt
within_line P (Some text) None rest progress h lost p = absurd h.front
within_line P (Some text) (Some bytes) None progress h (part, came, within) p = absurd came
within_line P (Some text) (Some bytes) (Some rest) progress h (part, came, within) p =
    let all : trace_of h.taken ≡ preceded h.inputs (record { inputs = []; bad = None }) = ap trace_of (sym (append-nil h.taken)) ∙ h.reached [] ∙ ap (preceded h.inputs) (no_line_next progress) in
    let inputs : (trace_of h.taken).inputs ≡ h.inputs = ap (λ (t : Trace). t.inputs) all ∙ append-nil h.inputs in (
      record {
        taken = h.taken;
        part = part;
        front = h.front ∙ ap (λ (b : List ℕ). h.taken ++ lines b) came;
        within = within;
        good = ap (λ (t : Trace). t.bad) all;
      },
      subst P (sym inputs) p,
    )

-- ---- it ends before the trace does

-- between two lines
pub before_end : (P : List TimedInput → Type 0) (known left : Option (List ℕ)) (progress : Progress) (h : HasTaken known left progress) → ((later : List TimedInput) → P (h.inputs ++ later)) → IfSome known (λ text. P (trace_in text).inputs)
before_end P None left progress h p = tt
before_end P (Some text) None progress h p = absurd h.front
before_end P (Some text) (Some bytes) progress h p =
    let all : trace_in text ≡ preceded h.inputs (trace_next progress (lines bytes)) = ap trace_of h.front ∙ h.reached (lines bytes) in
    subst (λ (t : Trace). P t.inputs) (sym all) (p (trace_next progress (lines bytes)).inputs)

-- in a line
pub in_line : (P : List TimedInput → Type 0) (known left following : Option (List ℕ)) (progress next : Progress) (h : HasTaken known left progress) (line : List ℕ) (t : TimedLine) → GivesLine left following line
    → ((more : List (List ℕ)) → trace_next progress (line ∷ more) ≡ preceded (inputs_of t) (trace_next next more))
    → ((later : List TimedInput) → P (h.inputs ++ (inputs_of t ++ later))) → IfSome known (λ text. P (trace_in text).inputs)
in_line P None left following progress next h line t gives read p = tt
in_line P (Some text) None following progress next h line t gives read p = absurd h.front
in_line P (Some text) (Some bytes) None progress next h line t gives read p = absurd gives
in_line P (Some text) (Some bytes) (Some after) progress next h line t gives read p =
    let all : trace_in text ≡ preceded h.inputs (preceded (inputs_of t) (trace_next next (lines after))) =
    ap trace_of h.front ∙ h.reached (lines bytes) ∙ ap (λ (ls : List (List ℕ)). preceded h.inputs (trace_next progress ls)) gives ∙ ap (preceded h.inputs) (read (lines after)) in
    subst (λ (t : Trace). P t.inputs) (sym all) (p (trace_next next (lines after)).inputs)

-- ---- what the next line of a line reader is

module _ (old new : Reading) (before after : Option (List ℕ)) (result : Result (Option (Bor (List ℕ))) LineFault) (h : IsNext old new before after result) where
  pub next_line : (line : Bor (List ℕ)) → result ≡ Ok (Some line) → OfAny old new before after (λ had has. GivesLine (to_come old had) (to_come new has) line.now)
  next_line line is = subst (λ (r : Result (Option (Bor (List ℕ))) LineFault). IfOk r (λ next. IfSome next (λ l. OfAny old new before after (λ had has. GivesLine (to_come old had) (to_come new has) l.now)))) is h.line

  pub next_fewer : (line : Bor (List ℕ)) → result ≡ Ok (Some line) → most_bytes new.asks new.rest < most_bytes old.asks old.rest
  next_fewer line is = subst (λ (r : Result (Option (Bor (List ℕ))) LineFault). IfOk r (λ next. IfSome next (λ _. most_bytes new.asks new.rest < most_bytes old.asks old.rest))) is h.fewer

  pub next_no_fault : (line : Bor (List ℕ)) → result ≡ Ok (Some line) → new.fault ≡ None
  next_no_fault line is = subst (λ (r : Result (Option (Bor (List ℕ))) LineFault). IfOk r (λ _. new.fault ≡ None)) is h.no_fault

  pub next_end : result ≡ Ok None → OfAny old new before after (λ had has. IsAtEnd (to_come old had) × IsAtEnd (to_come new has))
  next_end is = subst (λ (r : Result (Option (Bor (List ℕ))) LineFault). IfOk r (λ next. IfNone next (OfAny old new before after (λ had has. IsAtEnd (to_come old had) × IsAtEnd (to_come new has))))) is h.end

  -- it gives none, for the first time
  module _ (fault : LineFault) (is : result ≡ Err fault) (first : old.fault ≡ None) where
    long : fault ≡ TooLong → OfAny old new before after (λ had has. IfSome (to_come old had) IsTooLong)
    long same = subst (λ (r : Result (Option (Bor (List ℕ))) LineFault). IfErr r (λ f. f ≡ TooLong → old.fault ≡ None → OfAny old new before after (λ had has. IfSome (to_come old had) IsTooLong))) is h.too_long same first

    lost : fault ≢ TooLong → OfAny old new before after (λ had has. LosesPartOfLine (to_come old had) has)
    lost other = subst (λ (r : Result (Option (Bor (List ℕ))) LineFault). IfErr r (λ f. f ≢ TooLong → old.fault ≡ None → OfAny old new before after (λ had has. LosesPartOfLine (to_come old had) has))) is h.within other first

    if_long : fault ≡ TooLong → OfAny old new before after (λ had has. (fault ≡ TooLong → IfSome (to_come old had) IsTooLong) × (fault ≢ TooLong → LosesPartOfLine (to_come old had) has))
    if_long same = gave_so old.ended new.ended before after _ _ (long same) (λ had has too_long. (λ _. too_long, λ other. absurd (other same)))

    if_lost : fault ≢ TooLong → OfAny old new before after (λ had has. (fault ≡ TooLong → IfSome (to_come old had) IsTooLong) × (fault ≢ TooLong → LosesPartOfLine (to_come old had) has))
    if_lost other = gave_so old.ended new.ended before after _ _ (lost other) (λ had has part. (λ same. absurd (other same), λ _. part))

-- why it gives none
pub next_fault : (old new : Reading) (before after : Option (List ℕ)) (result : Result (Option (Bor (List ℕ))) LineFault) (h : IsNext old new before after result) (fault : LineFault) (is : result ≡ Err fault) (first : old.fault ≡ None)
    → OfAny old new before after (λ had has. (fault ≡ TooLong → IfSome (to_come old had) IsTooLong) × (fault ≢ TooLong → LosesPartOfLine (to_come old had) has))
next_fault old new before after result h TooLong is first = if_long old new before after result h TooLong is first refl
next_fault old new before after result h Read is first = if_lost old new before after result h Read is first (λ same. cc)
next_fault old new before after result h NeverEnds is first = if_lost old new before after result h NeverEnds is first (λ same. cc)

-- nothing was read yet
pub all_to_come : (known : Option (List ℕ)) → to_come new_reader known ≡ known
all_to_come None = refl
all_to_come (Some bytes) = refl
