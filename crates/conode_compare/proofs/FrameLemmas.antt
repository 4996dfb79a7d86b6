-- A frame of which the progress is taken first, and then what else it shows.
use Rattle.std.proofs.Common.{◌≡◌, ℕ, Bool, true, false, List, Option, Some, None, Result, Ok, Err, OnOk, refl, sym, ap, ap₂, ◌∙◌}
use Rattle.std.specs.Prelude.{if◌then◌else◌}
use Rattle.std.proofs.lemmas.Bool.{false≢true}
use Rattle.conode_compare_report.specs.Views.{Kept}
use Rattle.conode_compare_rules.specs.declared.kind.FrameKind.{FrameKind}
use Rattle.conode_compare_rules.specs.declared.progress.Progress.{Progress}
use Rattle.conode_compare_rules.specs.declared.verdict.Verdict.{Verdict}
use Rattle.conode_record.specs.declared.line.Record.{Record}
use Rattle.conode_compare.specs.declared.comparing.Comparing.{Comparing}
use Rattle.conode_compare.specs.Compared.{Comparison, found_at, frame_noted_by, frame_taken, frame_with, is_compared, kind_at, kind_noted, other_seen, progress_at}

pub on_ok : {X E : Type 0} (r : Result X E) {P : Type 0} → P → OnOk r P
on_ok (Ok value) p = p
on_ok (Err fault) p = tt

if_so : (b : Bool) (x y : Comparing) → b ≡ true → x ≡ (if b then x else y)
if_so true x y h = refl
if_so false x y h = absurd (false≢true h)

-- by what a call says of these names
pub so_chosen : (interface : Option (List ℕ)) (first name given named : List ℕ) (b : Bool) → given ≡ first → named ≡ name → b ≡ is_compared interface given named → b ≡ true
    → is_compared interface first name ≡ true
so_chosen interface first name given named b given-is named-is is h = sym (ap₂ (is_compared interface) given-is named-is) ∙ sym is ∙ h

-- a frame that is compared
module _ (c : Comparison) (so_far : Comparing) (frame : Record) (chosen : is_compared c.interface so_far.first.items frame.interface ≡ true)
    (kind : FrameKind) (kind-is : kind ≡ kind_at c frame) (progress : Progress) (progress-is : progress ≡ progress_at c so_far frame kind)
    (verdict : Option Verdict) (verdict-is : verdict ≡ (found_at c so_far frame kind).verdict) where
  whole : frame_taken c so_far frame kind ≡ frame_with c so_far frame
  whole =
      ap (frame_taken c so_far frame) kind-is
      ∙ if_so (is_compared c.interface so_far.first.items frame.interface) (frame_taken c so_far frame (kind_at c frame)) (other_seen c.interface frame.interface so_far) chosen

  -- where a document is wanted
  kept_taken : (kept report : Kept) → so_far.report ≡ Some kept → report ≡ kind_noted c so_far.progress frame.micros kind kept
      → frame_noted_by c (record so_far { progress = progress; report = Some report }) frame kind verdict ≡ frame_taken c so_far frame kind
  unfolding frame_taken
  kept_taken kept report is report-is = rw (progress-is, verdict-is, report-is, is) refl

  pub documented : (kept report : Kept) (after : Comparing) → so_far.report ≡ Some kept → report ≡ kind_noted c so_far.progress frame.micros kind kept
      → after ≡ frame_noted_by c (record so_far { progress = progress; report = Some report }) frame kind verdict → after ≡ frame_with c so_far frame
  documented kept report after is report-is noted = noted ∙ kept_taken kept report is report-is ∙ whole

  -- where none is
  shown_taken : so_far.report ≡ None → frame_noted_by c (record so_far { progress = progress }) frame kind verdict ≡ frame_taken c so_far frame kind
  unfolding frame_taken
  shown_taken is = rw (progress-is, verdict-is, is) refl

  pub undocumented : (after : Comparing) → so_far.report ≡ None → after ≡ frame_noted_by c (record so_far { progress = progress }) frame kind verdict → after ≡ frame_with c so_far frame
  undocumented after is noted = noted ∙ shown_taken is ∙ whole
