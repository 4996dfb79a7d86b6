-- A recording has no difference of TPDOs of a kind, where it has none of the two kinds that it is made of.
use Rattle.std.proofs.Common.{◌≡◌, Bool, true, false, List, [], ◌∷◌, ◌++◌, Option, Some, refl, ap, ◌∙◌}
use Rattle.std.specs.Prelude.{if◌then◌else◌}
use Rattle.co_sheet.specs.Content.{Row}
use Rattle.conode_compare_pdos.specs.declared.deviation.Deviation.{Deviation}
use Rattle.conode_compare_nmt.specs.declared.finding.Finding.{Finding}
use Rattle.conode_compare_nmt.specs.declared.finding.Finding.TheVariants.{Pdo}
use Rattle.conode_compare_rules.specs.declared.kind.FrameKind.{FrameKind}
use Rattle.conode_compare_rules.specs.declared.kind.FrameKind.TheVariants.{Process}
use Rattle.conode_compare_nmt.specs.declared.limits.Subject.{Subject}
use Rattle.conode_compare_rules.specs.declared.progress.Progress.{Progress}
use Rattle.conode_compare_rules.specs.declared.verdict.Findings.{Findings}
use Rattle.conode_compare_rules.specs.Gaps.{before_recording}
use Rattle.conode_compare_rules.specs.Progresses.{findings_at, progress_with}
use Rattle.conode_compare_laws.specs.Differences.{differences_from, differences_in, kind_in}
use Rattle.conode_compare_laws.specs.Recordings.{Recorded}
use Rattle.conode_compare_laws.specs.TpdoDifferences.{of_kind, tpdo_differences}

both_empty : (xs ys : List Finding) → xs ++ ys ≡ [] → (xs ≡ []) × (ys ≡ [])
both_empty [] ys none = (refl, none)
both_empty (x ∷ xs) ys none = absurd (cc)

is_none : (b : Bool) (finding : Finding) → (if b then finding ∷ [] else []) ≡ [] → b ≡ false
is_none true finding none = absurd (cc)
is_none false finding none = refl

module _ (is one other : Deviation → Bool) (part : (deviation : Deviation) → one deviation ≡ false → other deviation ≡ false → is deviation ≡ false) (subject : Subject) (rows : List Row) where
  of_neither : (found : Option Finding) → of_kind one found ≡ [] → of_kind other found ≡ [] → of_kind is found ≡ []
  of_neither (Some (Pdo number deviation)) a b = rw (part deviation (is_none (one deviation) (Pdo number deviation) a) (is_none (other deviation) (Pdo number deviation) b)) refl
  of_neither _ a b = refl

  at_frame : (kind : FrameKind) (found : Findings) → tpdo_differences one kind found ≡ [] → tpdo_differences other kind found ≡ [] → tpdo_differences is kind found ≡ []
  at_frame (Process id length) found a b = of_neither found.frame a b
  at_frame _ found a b = refl

  of_both : (progress : Progress) (recorded : List Recorded) → differences_from (tpdo_differences one) subject rows progress recorded ≡ [] → differences_from (tpdo_differences other) subject rows progress recorded ≡ []
      → differences_from (tpdo_differences is) subject rows progress recorded ≡ []
  of_both progress [] a b = refl
  of_both progress (r ∷ later) a b =
      let kind : FrameKind = kind_in subject r in
      let found : Findings = findings_at subject rows progress r.micros kind in
      let next : Progress = progress_with subject progress r.micros kind in
      let x = both_empty (tpdo_differences one kind found) (differences_from (tpdo_differences one) subject rows next later) a in
      let y = both_empty (tpdo_differences other kind found) (differences_from (tpdo_differences other) subject rows next later) b in
      ap (λ xs. xs ++ differences_from (tpdo_differences is) subject rows next later) (at_frame kind found x.0 y.0) ∙ of_both next later x.1 y.1

  pub neither : (recorded : List Recorded) → differences_in (tpdo_differences one) subject rows recorded ≡ [] → differences_in (tpdo_differences other) subject rows recorded ≡ [] → differences_in (tpdo_differences is) subject rows recorded ≡ []
  neither recorded a b = of_both (before_recording subject) recorded a b
