-- Of a device that is built from a data sheet no upload is done of an entry that the sheet has as write only.
use Rattle.std.proofs.Common.{◌≡◌, ℕ, Bool, true, false, List, [], ◌∷◌, ◌++◌, Option, Some, None, refl, sym, ap, ◌∙◌, subst}
use Rattle.std.specs.Prelude.{option_and_then, IfSome}
use Rattle.std.proofs.lemmas.Bool.{false≢true}
use Rattle.co_value.specs.declared.key.Key.{Key}
use Rattle.co_frame_aborts.specs.AbortCodes.{no_value, write_only}
use Rattle.co_profile.specs.declared.access.Access.{Access}
use Rattle.co_profile.specs.declared.access.Access.TheVariants.{Wo}
use Rattle.co_dict.specs.ErrorField.{is_past_errors}
use Rattle.co_dict.specs.Objects.{missing_entry}
use Rattle.co_dict.specs.ReadRefusals.{is_write_only}
use Rattle.co_dict.specs.Refusals.{first_of, first_refusal, refused_if}
use Rattle.co_dict.specs.Rows.{Contents}
use Rattle.co_dict.specs.Stores.{Description, IsDictionary}
use Rattle.co_dict.specs.declared.row.Row.{Row as DictionaryRow}
use Rattle.co_dict_build.specs.Built.{Plan, built_description}
use Rattle.co_sdo.specs.Refused.{reading_refusal}
use Rattle.co_sdo.proofs.RefusalLemmas.{second_none}
use Rattle.co_sheet.specs.Content.{Row}
use Rattle.co_sheet_changes.specs.Names.{row_at}
use Rattle.conode_compare_values.specs.declared.mismatch.Mismatch.TheVariants.{AboveLimit, BelowLimit, BeyondRoom, ConstText, ReadRefused, ValueConst, ValueLength, Written}
use Rattle.conode_compare_values.specs.SheetValues.{is_readable}
use Rattle.conode_compare_nmt.specs.declared.finding.Finding.{Finding}
use Rattle.conode_compare_nmt.specs.declared.finding.Finding.TheVariants.{Value}
use Rattle.conode_compare_rules.specs.declared.kind.FrameKind.{FrameKind}
use Rattle.conode_compare_rules.specs.declared.kind.FrameKind.TheVariants.{Sdo}
use Rattle.conode_compare_nmt.specs.declared.limits.Subject.{Subject}
use Rattle.conode_compare_rules.specs.declared.progress.Progress.{Progress}
use Rattle.conode_compare_rules.specs.declared.verdict.Findings.{Findings}
use Rattle.conode_compare_rules.specs.Gaps.{before_recording}
use Rattle.conode_compare_rules.specs.Progresses.{findings_at, progress_with}
use Rattle.conode_compare_laws.specs.Differences.{differences_from, differences_in, kind_in}
use Rattle.conode_compare_laws.specs.Recordings.{Recorded}
use Rattle.conode_compare_laws.specs.ValueFindings.{of_served, read_differences, refusal_differences, served_differences}
use Rattle.conode_compare_laws.proofs.ValueAllowed.{row_built}
use Rattle.conode_compare_laws.proofs.ValueLengths.{had_of}
use Rattle.conode_compare_laws.proofs.ValueMismatches.{Passes, is_data, is_refusal, is_write, known_none, served_none}
use Rattle.conode_compare_laws.proofs.ValueOnly.{is_value}
use Rattle.conode_compare_laws.proofs.ValueUploads.{Picks}

-- ---- what the dictionary permits to read

-- an entry isn't write only
abbrev pub MayRead : Description → Key → Type 0
MayRead d key = IfSome (d.rows key) (λ row. is_write_only row.access ≡ false)

pub may_read : (d : Description) (c : Contents) (key : Key) → reading_refusal d c key ≡ None → MayRead d key
unfolding reading_refusal
may_read d c key none = by (d.rows key) (second_none (missing_entry d.rows key) (option_and_then refusals (d.rows key)) none)
  where
    refusals : DictionaryRow → Option ℕ
    refusals row = first_refusal (refused_if (is_write_only row.access) write_only ∷ refused_if (is_past_errors c key) no_value ∷ [])

    not_only : (b : Bool) (rest : Option ℕ) → first_of (refused_if b write_only) rest ≡ None → b ≡ false
    not_only true rest h = absurd (cc)
    not_only false rest h = refl

    by : (o : Option DictionaryRow) → option_and_then refusals o ≡ None → IfSome o (λ row. is_write_only row.access ≡ false)
    by None h = tt
    by (Some row) h = not_only (is_write_only row.access) _ h

-- so the sheet has it as readable
readable : (access : Access) → is_write_only access ≡ false → is_readable access ≡ true
readable Wo h = absurd (false≢true (sym h))
readable _ h = refl

sheet_readable : (plan : Plan) (row : Row) (key : Key) → row_at plan.rows key ≡ Some row → MayRead (built_description plan) key → is_readable row.access ≡ true
sheet_readable plan row key is may =
    readable row.access (subst (λ (o : Option DictionaryRow). IfSome o (λ r. is_write_only r.access ≡ false)) (row_built plan.node plan.limits plan.rows key row is) may)

-- ---- what is found

pub no_served : (finding : Finding) → is_value finding ≡ false → of_served (Some finding) ≡ []
no_served (Value mismatch) off = absurd (false≢true (sym off))
no_served _ off = refl

served_data : Passes of_served refl is_data
served_data (ValueLength key came width) h = refl
served_data (ValueConst key shown held) h = refl
served_data (ConstText key) h = refl
served_data _ h = absurd (false≢true h)

served_writes : Passes of_served refl is_write
served_writes (Written key) h = refl
served_writes (AboveLimit key) h = refl
served_writes (BelowLimit key) h = refl
served_writes (BeyondRoom key came room) h = refl
served_writes _ h = absurd (false≢true h)

served_refusals : Passes of_served refl is_refusal
served_refusals (ReadRefused key code) h = refl
served_refusals _ h = absurd (false≢true h)

-- `access-read`, of an entry that is write only
pub served_picks : (plan : Plan) (subject : Subject) → Picks (IsDictionary (built_description plan)) (MayRead (built_description plan)) of_served subject plan.rows
served_picks plan subject frame e got n shown small had =
    known_none of_served refl subject plan.rows frame e
    (λ row is. served_none of_served refl subject.node subject.facts.modular subject.rooms row _ e served_data served_writes served_refusals
    (λ crc up done. sheet_readable plan row e.key is (had_of (IsDictionary (built_description plan)) (MayRead (built_description plan)) e got n crc up done had).1))

-- ---- both kinds of `access-read`

both_at : (kind : FrameKind) (found : Findings) → read_differences kind found ≡ refusal_differences kind found ++ served_differences kind found
both_at (Sdo side frame) found = refl
both_at _ found = refl

no_more : {A : Type 0} (x y : List A) → x ++ y ≡ [] → (x ≡ []) × (y ≡ [])
no_more [] y h = (refl, h)
no_more (a ∷ x) y h = absurd (cc)

module _ (subject : Subject) (rows : List Row) where
  both_from : (recording : List Recorded) (p : Progress) → differences_from refusal_differences subject rows p recording ≡ [] → differences_from served_differences subject rows p recording ≡ []
      → differences_from read_differences subject rows p recording ≡ []
  both_from [] p a b = refl
  both_from (r ∷ later) p a b =
      let kind : FrameKind = kind_in subject r in
      let found : Findings = findings_at subject rows p r.micros kind in
      let next : Progress = progress_with subject p r.micros kind in
      let x = no_more (refusal_differences kind found) (differences_from refusal_differences subject rows next later) a in
      let y = no_more (served_differences kind found) (differences_from served_differences subject rows next later) b in
      let here : read_differences kind found ≡ [] = both_at kind found ∙ ap (λ l. l ++ served_differences kind found) x.0 ∙ y.0 in
      ap (λ l. l ++ differences_from read_differences subject rows next later) here ∙ both_from later next x.1 y.1

  pub both_none : (recording : List Recorded) → differences_in refusal_differences subject rows recording ≡ [] → differences_in served_differences subject rows recording ≡ [] → differences_in read_differences subject rows recording ≡ []
  both_none recording a b = both_from recording (before_recording subject) a b
