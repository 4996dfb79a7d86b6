-- Of a device that is built from a data sheet no download is done of more bytes than the sheet's rooms have, where these are the device's.
use Rattle.std.proofs.Common.{◌≡◌, ℕ, ◌-◌, ◌≤◌, Bool, true, false, not, List, [], length, Option, Some, None, refl, sym, ◌∙◌, subst, arith}
use Rattle.std.specs.Prelude.{◌%◌, ◌&&◌, ◌==◌, if◌then◌else◌, nat_le, nat_lt, max, option_and_then, option_map, IfSome}
use Rattle.std.proofs.Math.Nat.{le-max_right}
use Rattle.std.proofs.lemmas.Bool.{false≢true}
use Rattle.std.proofs.lemmas.Bool.Decides.{nat_tests}
use Rattle.co_value.specs.declared.data_type.DataType.{DataType}
use Rattle.co_value.specs.declared.data_type.DataType.TheVariants.{Domain, OctetString, VisibleString}
use Rattle.co_frame_aborts.specs.AbortCodes.{too_long}
use Rattle.co_frame.specs.declared.sdo_request.ExpeditedData.TheVariants.{Indicated, NotIndicated}
use Rattle.co_frame.specs.declared.sdo_request.SdoRequest.{SdoRequest}
use Rattle.co_frame.specs.declared.sdo_request.SdoRequest.TheVariants.{DownloadExpedited}
use Rattle.co_dict.specs.Refusals.{refused_if}
use Rattle.co_dict_build.specs.Built.{Plan, built_description}
use Rattle.co_dict_build.specs.Capacities.{capacity_of}
use Rattle.co_dict_build.specs.EntryLimits.{row_in}
use Rattle.co_sdo.proofs.RefusalLemmas.{first_none, not_refused}
use Rattle.co_sheet.specs.Content.{Row}
use Rattle.conode_explain_transfers.specs.declared.ended.Ended.{Ended}
use Rattle.conode_explain_transfers.specs.declared.kinds.Protocol.{Protocol}
use Rattle.conode_explain_transfers.specs.declared.kinds.Protocol.TheVariants.{Block, Expedited, Segmented}
use Rattle.conode_explain_transfers.specs.Digests.{counted}
use Rattle.conode_explain_laws.specs.Downloads.{entry_bytes}
use Rattle.conode_compare_values.specs.declared.mismatch.Mismatch.TheVariants.{AboveLimit, BelowLimit, BeyondRoom, ConstText, ReadRefused, ReadServed, ValueConst, ValueLength, Written}
use Rattle.conode_compare_values.specs.declared.rooms.Rooms.{Rooms}
use Rattle.conode_compare_values.specs.SheetValues.{beyond_mismatch, default_length, download_mismatch, is_closed, is_read_only, least_bytes, over_room, room_by, room_mismatch, room_of, written_bytes, written_mismatch}
use Rattle.conode_compare_nmt.specs.declared.finding.Finding.{Finding}
use Rattle.conode_compare_nmt.specs.declared.finding.Finding.TheVariants.{Value}
use Rattle.conode_compare_nmt.specs.declared.limits.Subject.{Subject}
use Rattle.conode_compare_rules.specs.Answers.{value_finding}
use Rattle.conode_compare_laws.specs.GivenRooms.{AreAmple, AreRoomsOf}
use Rattle.conode_compare_laws.specs.ValueFindings.{of_rooms}
use Rattle.conode_compare_laws.proofs.DownloadProtocols.{IsFit}
use Rattle.conode_compare_laws.proofs.RoomsOfDevices.{room_is}
use Rattle.conode_compare_laws.proofs.ValueAllowed.{Accepted}
use Rattle.conode_compare_laws.proofs.ValueDownloads.{Picks}
use Rattle.conode_compare_laws.proofs.ValueMismatches.{Passes, downloads_none, if_none, is_data, is_limit, is_refusal, is_served, known_none, limits_only, or_none, passed}
use Rattle.conode_compare_laws.proofs.ValueOnly.{is_value}
use Rattle.conode_compare_laws.proofs.ValueShown.{IsShown}
use Rattle.conode_compare_laws.proofs.ValueWrites.{accepted_of, permitted_of, shown_of}

-- ---- which are picked

pub no_room : (finding : Finding) → is_value finding ≡ false → of_rooms (Some finding) ≡ []
no_room (Value mismatch) off = absurd (false≢true (sym off))
no_room _ off = refl

rooms_data : Passes of_rooms refl is_data
rooms_data (ValueLength key came width) h = refl
rooms_data (ValueConst key shown held) h = refl
rooms_data (ConstText key) h = refl
rooms_data _ h = absurd (false≢true h)

rooms_refusals : Passes of_rooms refl is_refusal
rooms_refusals (ReadRefused key code) h = refl
rooms_refusals _ h = absurd (false≢true h)

rooms_served : Passes of_rooms refl is_served
rooms_served (ReadServed key) h = refl
rooms_served _ h = absurd (false≢true h)

rooms_limits : Passes of_rooms refl is_limit
rooms_limits (AboveLimit key) h = refl
rooms_limits (BelowLimit key) h = refl
rooms_limits _ h = absurd (false≢true h)

-- ---- rooms

of_string : (row : Row) (given : Option ℕ) → IfSome given (λ bytes. 4 ≤ bytes) → IfSome (option_map (max (default_length row.default)) given) (λ room. 4 ≤ room)
of_string row None h = tt
of_string row (Some bytes) h = let most : bytes ≤ max (default_length row.default) bytes = le-max_right (default_length row.default) bytes in omega (arith, h, most)

of_type : (rooms : Rooms) (row : Row) (t : DataType) → AreAmple rooms → IfSome (room_by rooms row t) (λ room. 4 ≤ room)
of_type rooms row VisibleString a = of_string row rooms.strings a.strings
of_type rooms row OctetString a = of_string row rooms.strings a.strings
of_type rooms row Domain a = a.domains
of_type rooms row _ a = tt

ample_room : (rooms : Rooms) (row : Row) → AreAmple rooms → IfSome (room_of rooms row) (λ room. 4 ≤ room)
ample_room rooms row a = by (nat_le 0x2000 row.key.index && not (is_read_only row.access))
  where
    by : (b : Bool) → IfSome (if b then room_by rooms row row.data_type else None) (λ room. 4 ≤ room)
    by true = of_type rooms row row.data_type a
    by false = tt

-- ---- how many bytes count at least

rest_few : (count : ℕ) → (if nat_lt count 4 then count else 0) ≤ 4
rest_few count = by (nat_lt count 4) refl
  where
    by : (b : Bool) → nat_lt count 4 ≡ b → (if b then count else 0) ≤ 4
    by true e = grind (arith, nat_tests)
    by false e = omega arith

rest_most : (count : ℕ) → (if nat_lt count 4 then count else 0) ≤ count
rest_most count = by (nat_lt count 4) refl
  where
    by : (b : Bool) → nat_lt count 4 ≡ b → (if b then count else 0) ≤ count
    by true e = omega arith
    by false e = grind (arith, nat_tests)

segments_most : (count : ℕ) (b : Bool) → (if b then count - 6 else count) ≤ count
segments_most count true = omega arith
segments_most count false = omega arith

least_most : (protocol : Protocol) (count : ℕ) → least_bytes protocol count ≤ count
least_most Block count = omega arith
least_most Segmented count = segments_most count (count % 7 == 0)
least_most _ count = rest_most count

least_few : (protocol : Protocol) (count : ℕ) → protocol ≡ Expedited → least_bytes protocol count ≤ 4
least_few protocol count is = subst (λ p. least_bytes p count ≤ 4) (sym is) (rest_few count)

counted_most : (n : ℕ) → counted n ≤ n
counted_most n = omega arith

under : (room least : ℕ) → least ≤ room → nat_lt room least ≡ false
under room least h = grind (arith, nat_tests)

-- ---- what is found

module _ (plan : Plan) (subject : Subject) (are : AreRoomsOf plan.limits subject.rooms) (ample : AreAmple subject.rooms) where
  module _ (row : Row) (e : Ended) (initiate : Option SdoRequest) (got : List ℕ) (shown : IsShown e got) (fit : IsFit initiate e.protocol)
      (a : Accepted (row_in plan.limits row) (entry_bytes (built_description plan).rows e.key initiate got)) where
    entry_fits : (entry : List ℕ) → Accepted (row_in plan.limits row) entry → length entry ≤ capacity_of plan.limits row
    entry_fits entry x =
        let above : nat_lt (capacity_of plan.limits row) (length entry) ≡ false = not_refused (nat_lt (capacity_of plan.limits row) (length entry)) too_long (first_none (refused_if (nat_lt (capacity_of plan.limits row) (length entry)) too_long) _ x.size) in
        grind (arith, nat_tests)

    whole : (room : ℕ) → room ≡ capacity_of plan.limits row → Accepted (row_in plan.limits row) got → least_bytes e.protocol e.bytes ≤ room
    whole room same x =
        let least : least_bytes e.protocol e.bytes ≤ e.bytes = least_most e.protocol e.bytes in
        let count : e.bytes ≤ length got = subst (λ n. n ≤ length got) (sym shown.bytes) (counted_most (length got)) in
        let room_for : length got ≤ capacity_of plan.limits row = entry_fits got x in
        omega (arith, least, count, room_for, same)

    within : (room : ℕ) → room ≡ capacity_of plan.limits row → 4 ≤ room → least_bytes e.protocol e.bytes ≤ room
    within room same four = by initiate fit a
      where
        by : (r : Option SdoRequest) → IsFit r e.protocol → Accepted (row_in plan.limits row) (entry_bytes (built_description plan).rows e.key r got) → least_bytes e.protocol e.bytes ≤ room
        by (Some (DownloadExpedited key (NotIndicated bytes))) f x = let few : least_bytes e.protocol e.bytes ≤ 4 = least_few e.protocol e.bytes f in omega (arith, few, four)
        by (Some (DownloadExpedited key (Indicated items))) f x = whole room same x
        by (Some _) f x = whole room same x
        by None f x = whole room same x

    room_row : of_rooms (value_finding (download_mismatch subject.rooms row e)) ≡ []
    room_row =
        let bytes : List ℕ = written_bytes row.data_type e.protocol e.first.items in
        or_none of_rooms refl (written_mismatch row bytes) (room_mismatch subject.rooms row e.protocol e.bytes)
        (if_none of_rooms refl (is_closed row) (Some (Written row.key)) (beyond_mismatch row bytes) (λ on. refl) (λ off. passed of_rooms refl is_limit rooms_limits (beyond_mismatch row bytes) (limits_only row bytes)))
        (by (room_of subject.rooms row) (room_is plan.limits subject.rooms row are) (ample_room subject.rooms row ample))
      where
        by : (o : Option ℕ) → IfSome o (λ room. room ≡ capacity_of plan.limits row) → IfSome o (λ room. 4 ≤ room) → of_rooms (value_finding (option_and_then (over_room row e.protocol e.bytes) o)) ≡ []
        by None same four = refl
        by (Some room) same four =
            if_none of_rooms refl (nat_lt room (least_bytes e.protocol e.bytes)) (Some (BeyondRoom row.key e.bytes room)) None
            (λ over. absurd (false≢true (sym (under room (least_bytes e.protocol e.bytes) (within room same four)) ∙ over))) (λ fine. refl)

  pub room_picks : Picks of_rooms subject plan.rows (built_description plan)
  room_picks frame e initiate got n shown fits permitted =
      known_none of_rooms refl subject plan.rows frame e
      (λ row is. downloads_none of_rooms refl subject.node subject.facts.modular subject.rooms row _ e rooms_data rooms_refusals rooms_served
      (λ crc down done. room_row row e initiate got (shown_of e got crc done shown) (fits down)
      (accepted_of plan row e.key _ is (permitted_of (built_description plan) initiate e got n crc down done permitted))))
