-- Of a device that is built from a data sheet no download is done that this sheet forbids: of an entry that can't be written, or of a number
-- beyond its limits.
use Rattle.std.proofs.Common.{◌≡◌, ℕ, ◌≤◌, Bool, true, false, List, [], ◌∷◌, length, take, Option, Some, None, refl, sym, ap, ◌∙◌, ◌⊎◌, inl, inr, subst, arith}
use Rattle.std.specs.Prelude.{not, ◌&&◌, ◌==◌, if◌then◌else◌, nat_le, nat_lt, is_some, unwrap_or}
use Rattle.std.specs.Option.{option_map_or}
use Rattle.std.proofs.lemmas.Bool.{and_parts, eqb-true, false≢true}
use Rattle.std.proofs.lemmas.Bool.Decides.{nat_tests}
use Rattle.std.proofs.lemmas.List.{length-take, take_all, take-take}
use Rattle.co_value.specs.declared.data_type.DataType.{DataType}
use Rattle.co_value.specs.declared.data_type.DataType.TheVariants.{Domain, OctetString, VisibleString}
use Rattle.co_value.specs.declared.key.Key.{Key}
use Rattle.co_value.specs.Numbers.{number_of}
use Rattle.co_value.specs.Types.{width_of}
use Rattle.co_frame_aborts.specs.AbortCodes.{too_long, too_short}
use Rattle.co_frame.specs.declared.sdo_request.ExpeditedData.TheVariants.{Indicated, NotIndicated}
use Rattle.co_frame.specs.declared.sdo_request.SdoRequest.{SdoRequest}
use Rattle.co_frame.specs.declared.sdo_request.SdoRequest.TheVariants.{DownloadExpedited}
use Rattle.co_dict.specs.declared.row.Row.{Row as DictionaryRow}
use Rattle.co_dict.specs.Refusals.{refused_if}
use Rattle.co_dict.specs.Rows.{Rows}
use Rattle.co_dict.specs.Stores.{Description}
use Rattle.co_dict_build.specs.Built.{Plan, built_description}
use Rattle.co_dict_build.specs.Capacities.{Limits, capacity_at, capacity_of}
use Rattle.co_dict_build.specs.EntryLimits.{row_in}
use Rattle.co_sdo.specs.Refused.{capacity_at as room_at}
use Rattle.co_sdo.proofs.RefusalLemmas.{first_none, not_refused, second_none}
use Rattle.co_sheet.specs.Content.{Row}
use Rattle.co_sheet_changes.specs.Names.{row_at}
use Rattle.conode_explain_transfers.specs.declared.ended.Ended.{Ended}
use Rattle.conode_explain_transfers.specs.declared.ended.Ending.{Ending}
use Rattle.conode_explain_transfers.specs.declared.ended.Ending.TheVariants.{Done}
use Rattle.conode_explain_transfers.specs.declared.kinds.Direction.TheVariants.{Download}
use Rattle.conode_explain_transfers.specs.declared.kinds.Protocol.{Protocol}
use Rattle.conode_explain_transfers.specs.declared.kinds.Protocol.TheVariants.{Expedited}
use Rattle.conode_explain_laws.specs.Downloads.{entry_bytes, write_said}
use Rattle.conode_compare_values.specs.declared.mismatch.Mismatch.TheVariants.{AboveLimit, BelowLimit, BeyondRoom, ConstText, ReadRefused, ReadServed, ValueConst, ValueLength, Written}
use Rattle.conode_compare_values.specs.declared.rooms.Rooms.{Rooms}
use Rattle.conode_compare_values.specs.SheetValues.{beyond_mismatch, download_mismatch, first_bytes, has_limits, is_above, is_below, is_closed, is_error_count, is_number, is_read_only, limit_mismatch, room_mismatch, written_bytes, written_mismatch}
use Rattle.conode_compare_nmt.specs.declared.finding.Finding.{Finding}
use Rattle.conode_compare_nmt.specs.declared.finding.Finding.TheVariants.{Value}
use Rattle.conode_compare_nmt.specs.declared.limits.Subject.{Subject}
use Rattle.conode_compare_rules.specs.Answers.{value_finding}
use Rattle.conode_compare_laws.specs.ValueFindings.{of_limits, of_writes}
use Rattle.conode_compare_laws.proofs.ValueAllowed.{Accepted, IsInside, accepted, can_write, inside, row_built}
use Rattle.conode_compare_laws.proofs.ValueDownloads.{ArePermitted, Permitted, Picks}
use Rattle.conode_compare_laws.proofs.ValueMismatches.{Passes, downloads_none, if_none, is_data, is_limit, is_refusal, is_served, is_room, known_none, limits_only, or_none, passed, rooms_only}
use Rattle.conode_compare_laws.proofs.ValueOnly.{is_value}
use Rattle.conode_compare_laws.proofs.ValueShown.{IsShown, Shown}

-- ---- which are picked

pub no_write : (finding : Finding) → is_value finding ≡ false → of_writes (Some finding) ≡ []
no_write (Value mismatch) off = absurd (false≢true (sym off))
no_write _ off = refl

pub no_limit : (finding : Finding) → is_value finding ≡ false → of_limits (Some finding) ≡ []
no_limit (Value mismatch) off = absurd (false≢true (sym off))
no_limit _ off = refl

writes_data : Passes of_writes refl is_data
writes_data (ValueLength key came width) h = refl
writes_data (ValueConst key shown held) h = refl
writes_data (ConstText key) h = refl
writes_data _ h = absurd (false≢true h)

writes_refusals : Passes of_writes refl is_refusal
writes_refusals (ReadRefused key code) h = refl
writes_refusals _ h = absurd (false≢true h)

writes_served : Passes of_writes refl is_served
writes_served (ReadServed key) h = refl
writes_served _ h = absurd (false≢true h)

writes_limits : Passes of_writes refl is_limit
writes_limits (AboveLimit key) h = refl
writes_limits (BelowLimit key) h = refl
writes_limits _ h = absurd (false≢true h)

writes_rooms : Passes of_writes refl is_room
writes_rooms (BeyondRoom key came room) h = refl
writes_rooms _ h = absurd (false≢true h)

limits_data : Passes of_limits refl is_data
limits_data (ValueLength key came width) h = refl
limits_data (ValueConst key shown held) h = refl
limits_data (ConstText key) h = refl
limits_data _ h = absurd (false≢true h)

limits_refusals : Passes of_limits refl is_refusal
limits_refusals (ReadRefused key code) h = refl
limits_refusals _ h = absurd (false≢true h)

limits_served : Passes of_limits refl is_served
limits_served (ReadServed key) h = refl
limits_served _ h = absurd (false≢true h)

limits_rooms : Passes of_limits refl is_room
limits_rooms (BeyondRoom key came room) h = refl
limits_rooms _ h = absurd (false≢true h)

-- ---- what a download that is done is known to have

said_done : (rows : Rows) (initiate : Option SdoRequest) (e : Ended) (got : List ℕ) (n : ℕ) (crc : Bool) → e.direction ≡ Download → e.ending ≡ Done crc
    → write_said rows initiate (Some e) got n ≡ record { frame = n; key = e.key; bytes = entry_bytes rows e.key initiate got } ∷ []
said_done rows initiate e got n crc d s = rw (d, s) refl

pub permitted_of : (d : Description) (initiate : Option SdoRequest) (e : Ended) (got : List ℕ) (n : ℕ) (crc : Bool) → e.direction ≡ Download → e.ending ≡ Done crc → ArePermitted d (write_said d.rows initiate (Some e) got n)
    → Permitted d e.key (entry_bytes d.rows e.key initiate got)
permitted_of d initiate e got n crc down done h = (subst (ArePermitted d) (said_done d.rows initiate e got n crc down done) h).0

pub shown_of : (e : Ended) (got : List ℕ) (crc : Bool) → e.ending ≡ Done crc → Shown (Some e) got → IsShown e got
shown_of e got crc s h = by e.ending s h
  where
    by : (ending : Ending) → ending ≡ Done crc → Shown (Some (record e { ending = ending })) got → IsShown e got
    by (Done other) s h = record { bytes = h.bytes; first = h.first }
    by _ s h = absurd (cc)

pub accepted_of : (plan : Plan) (row : Row) (key : Key) (bytes : List ℕ) → row_at plan.rows key ≡ Some row → Permitted (built_description plan) key bytes → Accepted (row_in plan.limits row) bytes
accepted_of plan row key bytes is p = accepted (built_description plan) p.contents key p.indicated bytes (row_in plan.limits row) p.allowed (row_built plan.node plan.limits plan.rows key row is)

-- ---- the bytes that count

entry_either : (rows : Rows) (key : Key) (initiate : Option SdoRequest) (got : List ℕ) → (entry_bytes rows key initiate got ≡ got) ⊎ (entry_bytes rows key initiate got ≡ take (room_at rows key) got)
entry_either rows key (Some (DownloadExpedited k (NotIndicated four))) got = inr refl
entry_either rows key (Some (DownloadExpedited k (Indicated counted))) got = inl refl
entry_either rows key (Some _) got = inl refl
entry_either rows key None got = inl refl

-- the room of a number is its width
number_room : (limits : Limits) (row : Row) (t : DataType) → is_some (width_of t) ≡ true → capacity_at limits row t ≡ unwrap_or (width_of t) 0
number_room limits row VisibleString h = absurd (false≢true h)
number_room limits row OctetString h = absurd (false≢true h)
number_room limits row Domain h = absurd (false≢true h)
number_room limits row _ h = refl

pub few_bytes : (t : DataType) → nat_le (unwrap_or (width_of t) 0) 8 ≡ true
few_bytes VisibleString = refl
few_bytes _ = refl

same_take : (w : ℕ) (got : List ℕ) → w ≤ 8 → length (take 64 got) ≡ w → take 64 got ≡ got
same_take w got few is = take_all 64 got (let n = length-take 64 got in omega arith)

-- of a number of so many bytes, those that are compared, and those that are written
same_bytes : (w : ℕ) (got entry shown : List ℕ) → w ≤ 8 → length shown ≡ w → length entry ≡ w → (entry ≡ got) ⊎ (entry ≡ take w got) → (shown ≡ take 64 got) ⊎ (shown ≡ take w (take 64 got)) → shown ≡ entry
same_bytes w got entry shown few n m (inl e) (inl s) = s ∙ same_take w got few (ap length (sym s) ∙ n) ∙ sym e
same_bytes w got entry shown few n m (inl e) (inr s) =
    let all : length got ≡ w = ap length (sym e) ∙ m in
    s ∙ ap (take w) (take_all 64 got (omega arith)) ∙ take_all w got (omega arith) ∙ sym e
same_bytes w got entry shown few n m (inr e) (inl s) =
    let long : length (take 64 got) ≡ w = ap length (sym s) ∙ n in
    let whole : take 64 got ≡ got = same_take w got few long in
    s ∙ whole ∙ sym (take_all w got (let l : length got ≡ w = ap length (sym whole) ∙ long in omega arith)) ∙ sym e
same_bytes w got entry shown few n m (inr e) (inr s) = s ∙ take-take w 64 got (omega arith) ∙ sym e

-- which are compared
shown_either : (t : DataType) (protocol : Protocol) (bytes : List ℕ) (w : ℕ) → width_of t ≡ Some w → (written_bytes t protocol bytes ≡ bytes) ⊎ (written_bytes t protocol bytes ≡ take w bytes)
shown_either t Expedited bytes w is = by ((length bytes == 4) && nat_lt w 4) (ap (λ o. option_map_or (λ width. first_bytes width bytes) o bytes) is)
  where
    by : (b : Bool) → written_bytes t Expedited bytes ≡ (if b then take w bytes else bytes) → (written_bytes t Expedited bytes ≡ bytes) ⊎ (written_bytes t Expedited bytes ≡ take w bytes)
    by true e = inr e
    by false e = inl e
shown_either t _ bytes w is = inl refl

number_width : (row : Row) (bytes : List ℕ) (o : Option ℕ) → width_of row.data_type ≡ o → option_map_or (λ width. width == length bytes) o false ≡ true → (is_some o ≡ true) × (unwrap_or o 0 ≡ length bytes)
number_width row bytes None is h = absurd (false≢true h)
number_width row bytes (Some w) is h = (refl, eqb-true w (length bytes) h)

module _ (plan : Plan) (row : Row) (e : Ended) (initiate : Option SdoRequest) (got : List ℕ) (is : row_at plan.rows e.key ≡ Some row) (shown : IsShown e got) (a : Accepted (row_in plan.limits row) (entry_bytes (built_description plan).rows e.key initiate got)) where
  abbrev entry : List ℕ
  entry = entry_bytes (built_description plan).rows e.key initiate got

  abbrev compared : List ℕ
  compared = written_bytes row.data_type e.protocol e.first.items

  room_is : room_at (built_description plan).rows e.key ≡ capacity_of plan.limits row
  room_is = ap (λ (o : Option DictionaryRow). option_map_or (λ (r : DictionaryRow). r.capacity) o 0) (row_built plan.node plan.limits plan.rows e.key row is)

  module _ (w : ℕ) (wide : width_of row.data_type ≡ Some w) where
    width_is : capacity_of plan.limits row ≡ w
    width_is = number_room plan.limits row row.data_type (ap is_some wide) ∙ ap (λ o. unwrap_or o 0) wide

    few : w ≤ 8
    few = let b : nat_le w 8 ≡ true = ap (λ o. nat_le (unwrap_or o 0) 8) (sym wide) ∙ few_bytes row.data_type in grind (arith, nat_tests)

    entry_long : length entry ≡ w
    entry_long =
        let above : nat_lt (capacity_of plan.limits row) (length entry) ≡ false = not_refused (nat_lt (capacity_of plan.limits row) (length entry)) too_long (first_none (refused_if (nat_lt (capacity_of plan.limits row) (length entry)) too_long) _ a.size) in
        let below : nat_lt (length entry) (unwrap_or (width_of row.data_type) 0) ≡ false =
        not_refused (nat_lt (length entry) (unwrap_or (width_of row.data_type) 0)) too_short
        (first_none (refused_if (nat_lt (length entry) (unwrap_or (width_of row.data_type) 0)) too_short) None (second_none (refused_if (nat_lt (capacity_of plan.limits row) (length entry)) too_long) _ a.size)) in
        let above_w : nat_lt w (length entry) ≡ false = ap (λ n. nat_lt n (length entry)) (sym width_is) ∙ above in
        let below_w : nat_lt (length entry) w ≡ false = ap (λ o. nat_lt (length entry) (unwrap_or o 0)) (sym wide) ∙ below in
        grind (arith, nat_tests)

    compared_is : length compared ≡ w → compared ≡ entry
    compared_is n = same_bytes w got entry compared few n entry_long (by_entry (entry_either (built_description plan).rows e.key initiate got)) (by_shown (shown_either row.data_type e.protocol e.first.items w wide))
      where
        by_entry : (entry ≡ got) ⊎ (entry ≡ take (room_at (built_description plan).rows e.key) got) → (entry ≡ got) ⊎ (entry ≡ take w got)
        by_entry (inl h) = inl h
        by_entry (inr h) = inr (h ∙ ap (λ n. take n got) (room_is ∙ width_is))

        by_shown : (compared ≡ e.first.items) ⊎ (compared ≡ take w e.first.items) → (compared ≡ take 64 got) ⊎ (compared ≡ take w (take 64 got))
        by_shown (inl h) = inl (h ∙ shown.first)
        by_shown (inr h) = inr (h ∙ ap (take w) shown.first)

  -- a number that is compared is within the limits
  compared_inside : is_number row compared ≡ true → IsInside row (number_of row.data_type compared)
  compared_inside number = by (width_of row.data_type) refl
    where
      by : (o : Option ℕ) → width_of row.data_type ≡ o → IsInside row (number_of row.data_type compared)
      by None wide = absurd (false≢true (sym (ap (λ o. option_map_or (λ width. width == length compared) o false) wide) ∙ number))
      by (Some w) wide =
          let long : length compared ≡ w = sym (eqb-true w (length compared) (sym (ap (λ o. option_map_or (λ width. width == length compared) o false) wide) ∙ number)) in
          subst (λ bytes. IsInside row (number_of row.data_type bytes)) (sym (compared_is w wide long)) (inside plan.limits row entry (ap is_some wide) a.limit)

-- ---- what is found

module _ (plan : Plan) (subject : Subject) where
  write_row : (rooms : Rooms) (row : Row) (e : Ended) → is_read_only row.access ≡ false → of_writes (value_finding (download_mismatch rooms row e)) ≡ []
  write_row rooms row e free =
      let bytes : List ℕ = written_bytes row.data_type e.protocol e.first.items in
      or_none of_writes refl (written_mismatch row bytes) (room_mismatch rooms row e.protocol e.bytes)
      (if_none of_writes refl (is_closed row) (Some (Written row.key)) (beyond_mismatch row bytes) (λ on. absurd (false≢true (sym free ∙ (and_parts (is_read_only row.access) (not (is_error_count row.key)) on).0))) (λ off. passed of_writes refl is_limit writes_limits (beyond_mismatch row bytes) (limits_only row bytes)))
      (passed of_writes refl is_room writes_rooms (room_mismatch rooms row e.protocol e.bytes) (rooms_only rooms row e.protocol e.bytes))

  -- `access-write`
  pub write_picks : Picks of_writes subject plan.rows (built_description plan)
  write_picks frame e initiate got n shown fits permitted =
      known_none of_writes refl subject plan.rows frame e
      (λ row is. downloads_none of_writes refl subject.node subject.facts.modular subject.rooms row _ e writes_data writes_refusals writes_served
      (λ crc down done. write_row subject.rooms row e
      (can_write row.access (accepted_of plan row e.key _ is (permitted_of (built_description plan) initiate e got n crc down done permitted)).writable)))

  limit_row : (rooms : Rooms) (row : Row) (e : Ended)
      → (is_number row (written_bytes row.data_type e.protocol e.first.items) ≡ true → IsInside row (number_of row.data_type (written_bytes row.data_type e.protocol e.first.items)))
      → of_limits (value_finding (download_mismatch rooms row e)) ≡ []
  limit_row rooms row e within =
      let bytes : List ℕ = written_bytes row.data_type e.protocol e.first.items in
      or_none of_limits refl (written_mismatch row bytes) (room_mismatch rooms row e.protocol e.bytes)
      (if_none of_limits refl (is_closed row) (Some (Written row.key)) (beyond_mismatch row bytes) (λ on. refl)
      (λ off. if_none of_limits refl (has_limits row && is_number row bytes) (limit_mismatch row (number_of row.data_type bytes)) None
      (λ on. let i : IsInside row (number_of row.data_type bytes) = within (and_parts (has_limits row) (is_number row bytes) on).1 in
      if_none of_limits refl (is_above row.high (number_of row.data_type bytes)) (Some (AboveLimit row.key)) _ (λ above. absurd (false≢true (sym i.above ∙ above)))
      (λ under. if_none of_limits refl (is_below row.low (number_of row.data_type bytes)) (Some (BelowLimit row.key)) None (λ below. absurd (false≢true (sym i.below ∙ below))) (λ over. refl)))
      (λ none. refl)))
      (passed of_limits refl is_room limits_rooms (room_mismatch rooms row e.protocol e.bytes) (rooms_only rooms row e.protocol e.bytes))

  -- `access-limits` of numbers
  pub limit_picks : Picks of_limits subject plan.rows (built_description plan)
  limit_picks frame e initiate got n shown fits permitted =
      known_none of_limits refl subject plan.rows frame e
      (λ row is. downloads_none of_limits refl subject.node subject.facts.modular subject.rooms row _ e limits_data limits_refusals limits_served
      (λ crc down done. limit_row subject.rooms row e
      (compared_inside plan row e initiate got is (shown_of e got crc done shown)
      (accepted_of plan row e.key _ is (permitted_of (built_description plan) initiate e got n crc down done permitted)))))
