-- Of a device that is built from a data sheet each number that is uploaded has as many bytes as its type.
use Rattle.std.proofs.Common.{◌≡◌, ℕ, ◌≤◌, Bool, true, false, List, [], ◌∷◌, length, Option, Some, None, refl, sym, ap, ◌∙◌, subst, arith}
use Rattle.std.specs.Prelude.{nat_le, unwrap_or}
use Rattle.std.proofs.lemmas.Bool.{false≢true}
use Rattle.std.proofs.lemmas.Bool.Decides.{nat_tests}
use Rattle.std.proofs.lemmas.List.{take_all}
use Rattle.co_value.specs.declared.key.Key.{Key}
use Rattle.co_value.specs.Types.{width_of}
use Rattle.co_dict.specs.Rows.{Contents}
use Rattle.co_dict.specs.Stores.{IsDictionary}
use Rattle.co_dict_build.specs.Built.{Plan, built_description}
use Rattle.co_dict_build.specs.EntryLimits.{row_in}
use Rattle.co_sheet.specs.Content.{Row}
use Rattle.co_sheet_changes.specs.Names.{row_at}
use Rattle.conode_explain_transfers.specs.declared.ended.Ended.{Ended}
use Rattle.conode_explain_transfers.specs.declared.ended.Ending.TheVariants.{Done}
use Rattle.conode_explain_transfers.specs.declared.kinds.Direction.TheVariants.{Download, Upload}
use Rattle.conode_explain_transfers.specs.declared.kinds.Protocol.TheVariants.{Expedited}
use Rattle.conode_explain_transfers.specs.Digests.{counted}
use Rattle.conode_explain_laws.specs.Uploads.{read_said}
use Rattle.conode_compare_values.specs.declared.mismatch.Mismatch.TheVariants.{AboveLimit, BelowLimit, BeyondRoom, ConstText, ReadRefused, ReadServed, ValueConst, Written}
use Rattle.conode_compare_values.specs.SheetValues.{constant_mismatch, held_number, shown_number, text_mismatch, value_by, value_mismatch}
use Rattle.conode_compare_nmt.specs.declared.finding.Finding.{Finding}
use Rattle.conode_compare_nmt.specs.declared.finding.Finding.TheVariants.{Value}
use Rattle.conode_compare_nmt.specs.declared.limits.Subject.{Subject}
use Rattle.conode_compare_rules.specs.Answers.{is_exact, value_finding}
use Rattle.conode_compare_laws.specs.ValueFindings.{of_lengths}
use Rattle.conode_compare_laws.proofs.Expedited.{is_expedited}
use Rattle.conode_compare_laws.proofs.ReadAllowed.{Any}
use Rattle.conode_compare_laws.proofs.Fitting.{HasWidth, bytes_wide, of_filled}
use Rattle.conode_compare_laws.proofs.ValueAllowed.{row_built}
use Rattle.conode_compare_laws.proofs.ValueExpedited.{Small, download, long, short}
use Rattle.conode_compare_laws.proofs.ValueMismatches.{Passes, constants_only, is_const, is_refusal, is_served, is_write, known_none, number_none, passed, texts_only, uploads_none}
use Rattle.conode_compare_laws.proofs.ValueOnly.{is_value}
use Rattle.conode_compare_laws.proofs.ValueShown.{IsShown}
use Rattle.conode_compare_laws.proofs.ValueUploads.{AreHad, HadBytes, Picks}
use Rattle.conode_compare_laws.proofs.ValueWrites.{few_bytes, shown_of}

-- ---- what an upload that is done is known to have

said_read : (e : Ended) (got : List ℕ) (n : ℕ) (crc : Bool) → e.direction ≡ Upload → e.ending ≡ Done crc → read_said (Some e) got n ≡ record { frame = n; key = e.key; bytes = got } ∷ []
said_read e got n crc d s = rw (d, s) refl

pub had_of : (P : Contents → Type 0) (R : Key → Type 0) (e : Ended) (got : List ℕ) (n : ℕ) (crc : Bool) → e.direction ≡ Upload → e.ending ≡ Done crc → AreHad P R (read_said (Some e) got n) → HadBytes P e.key got × R e.key
had_of P R e got n crc up done h = (subst (AreHad P R) (said_read e got n crc up done) h).0

-- of a number
pub record IsNumber (e : Ended) (got : List ℕ) (w : ℕ) : Type 0 where
  pub few : w ≤ 8
  pub got_long : length got ≡ w
  pub first : e.first.items ≡ got
  pub bytes : e.bytes ≡ w
  pub at_once : e.protocol ≡ Expedited → w ≤ 4

-- a download doesn't come here, and what isn't expedited isn't asked
short_enough : (e : Ended) (w : ℕ) → e.direction ≡ Upload → e.bytes ≡ w → Small e → e.protocol ≡ Expedited → w ≤ 4
short_enough e w up count (download d) one = absurd (let f : Upload ≡ Download = sym up ∙ d in cc)
short_enough e w up count (long off) one = absurd (false≢true (sym off ∙ ap is_expedited one))
short_enough e w up count (short few) one = subst (λ n. n ≤ 4) count few

pub number_of : (plan : Plan) (row : Row) (e : Ended) (got : List ℕ) (w : ℕ) (contents : Contents) → row_at plan.rows e.key ≡ Some row → width_of row.data_type ≡ Some w → IsDictionary (built_description plan) contents
    → got ≡ unwrap_or (contents e.key) [] → IsShown e got → e.direction ≡ Upload → Small e → IsNumber e got w
number_of plan row e got w contents is wide lawful had shown up small =
    let d = built_description plan in
    let has : HasWidth (d.rows e.key) w = record { row = row_in plan.limits row; is = row_built plan.node plan.limits plan.rows e.key row is; width = wide } in
    let n : length got ≡ w = ap length had ∙ bytes_wide d.rows contents e.key w (of_filled d.rows contents lawful.filled) has in
    let b : nat_le w 8 ≡ true = ap (λ o. nat_le (unwrap_or o 0) 8) (sym wide) ∙ few_bytes row.data_type in
    let few : w ≤ 8 = grind (arith, nat_tests) in
    let count : e.bytes ≡ w = shown.bytes ∙ ap counted n ∙ omega arith in
    record {
      few = few;
      got_long = n;
      first = shown.first ∙ take_all 64 got (omega arith);
      bytes = count;
      at_once = short_enough e w up count small;
    }

-- ---- what is found

pub no_length : (finding : Finding) → is_value finding ≡ false → of_lengths (Some finding) ≡ []
no_length (Value mismatch) off = absurd (false≢true (sym off))
no_length _ off = refl

lengths_writes : Passes of_lengths refl is_write
lengths_writes (Written key) h = refl
lengths_writes (AboveLimit key) h = refl
lengths_writes (BelowLimit key) h = refl
lengths_writes (BeyondRoom key came room) h = refl
lengths_writes _ h = absurd (false≢true h)

lengths_refusals : Passes of_lengths refl is_refusal
lengths_refusals (ReadRefused key code) h = refl
lengths_refusals _ h = absurd (false≢true h)

lengths_served : Passes of_lengths refl is_served
lengths_served (ReadServed key) h = refl
lengths_served _ h = absurd (false≢true h)

lengths_constants : Passes of_lengths refl is_const
lengths_constants (ValueConst key shown held) h = refl
lengths_constants (ConstText key) h = refl
lengths_constants _ h = absurd (false≢true h)

text_lengths : (node : ℕ) (row : Row) (exact : Bool) (e : Ended) → width_of row.data_type ≡ None → of_lengths (value_finding (value_mismatch node row exact e)) ≡ []
unfolding value_mismatch
text_lengths node row exact e none =
    subst (λ width. of_lengths (value_finding (value_by node row exact e width)) ≡ []) (sym none)
    (passed of_lengths refl is_const lengths_constants (text_mismatch row exact e.first.items) (texts_only row exact row.default e.first.items))

-- `value-length`
pub length_picks : (plan : Plan) (subject : Subject) → Picks (IsDictionary (built_description plan)) Any of_lengths subject plan.rows
length_picks plan subject frame e got n shown small had =
    known_none of_lengths refl subject plan.rows frame e
    (λ row is. uploads_none of_lengths refl subject.node subject.facts.modular subject.rooms row _ e lengths_writes lengths_refusals lengths_served
    (λ crc up done. by row is (shown_of e got crc done shown) (had_of (IsDictionary (built_description plan)) Any e got n crc up done had).0 up (width_of row.data_type) refl))
  where
    by : (row : Row) → row_at plan.rows e.key ≡ Some row → IsShown e got → HadBytes (IsDictionary (built_description plan)) e.key got → e.direction ≡ Upload → (o : Option ℕ) → width_of row.data_type ≡ o
        → of_lengths (value_finding (value_mismatch subject.node row (is_exact e.protocol frame) e)) ≡ []
    by row is shows h up None wide = text_lengths subject.node row (is_exact e.protocol frame) e wide
    by row is shows h up (Some w) wide =
        let i : IsNumber e got w = number_of plan row e got w h.contents is wide h.held h.is shows up small in
        number_none of_lengths refl subject.node row (is_exact e.protocol frame) e w wide i.at_once i.bytes (ap length i.first ∙ i.got_long)
        (passed of_lengths refl is_const lengths_constants (constant_mismatch row (shown_number w e.first.items) (held_number subject.node row)) (constants_only row (shown_number w e.first.items) (held_number subject.node row)))
