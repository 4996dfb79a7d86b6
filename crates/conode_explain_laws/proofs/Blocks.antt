-- A frame of the client in a download in blocks, with its answers.
use Rattle.std.proofs.Common.{◌≡◌, ℕ, suc, ◌+◌, ◌*◌, ◌/◌, ◌-◌, ◌%◌, ◌≤◌, Bool, true, false, List, [], ◌∷◌, ◌++◌, length, take, drop, Option, Some, None, refl, sym, ap, ◌∙◌, inl, inr, subst, arith, eqb, length-append, length-drop, append_assoc, append-nil}
use Rattle.std.specs.Prelude.{if◌then◌else◌, IfSome, nat_le, nat_lt, ◌==◌, ◌&&◌, ◌||◌}
use Rattle.std.specs.Option.{option_map_or}
use Rattle.std.proofs.lemmas.Bool.{false≢true}
use Rattle.std.proofs.lemmas.Bool.Decides.{nat_tests}
use Rattle.std.proofs.lemmas.List.{take_all}
use Rattle.co_value.specs.declared.key.Key.{Key}
use Rattle.co_frame.specs.BlockSegments.{block_segment_in, is_abort_in_sub_block}
use Rattle.co_frame.specs.SdoFields.{command, specifier, subcommand, has_bit}
use Rattle.co_frame.specs.SdoParts.{code_in}
use Rattle.co_frame.specs.SdoRequests.{request_row_in, request_in}
use Rattle.co_frame.specs.SdoResponses.{response_bytes}
use Rattle.co_frame.specs.declared.block_segment.BlockSegment.{BlockSegment}
use Rattle.co_frame.specs.declared.sdo_request.SdoRequest.{SdoRequest}
use Rattle.co_frame.specs.declared.sdo_request.SdoRequest.TheVariants.{DownloadExpedited, DownloadInitiate, Upload as UploadInitiate, Abort as Abandon, BlockUploadInitiate, BlockDownloadInitiate, BlockDownloadEnd}
use Rattle.co_frame.specs.declared.sdo_response.SdoResponse.TheVariants.{BlockDownloadAcknowledge, BlockDownloadDone}
use Rattle.co_dict.specs.Rows.{Rows, Contents}
use Rattle.co_dict.specs.Stores.{Description}
use Rattle.co_sdo.specs.declared.stage.Stage.TheVariants.{SubBlock as InSubBlock, LastTaken}
use Rattle.co_sdo.specs.Refused.{completion_refusal}
use Rattle.co_sdo.specs.Log.{Answer, Response as Replied}
use Rattle.co_sdo.specs.SubBlocks.{segment_taken, is_last_taken, bytes_taken}
use Rattle.co_sdo.specs.Downloads.{without}
use Rattle.co_sdo.specs.Opened.{OpenTransfer}
use Rattle.co_sdo.specs.Replies.{unless_refused, room_refusal, request_answers, answers_to}
use Rattle.co_sdo.specs.Completed.{unless}
use Rattle.co_sdo.specs.Steps.{opened_at, after_request, opened_next, whole, set_by_request, set_next}
use Rattle.co_sdo_laws.proofs.Frames.{acknowledged_read, block_done_read}
use Rattle.conode_explain_transfers.specs.declared.kinds.Direction.TheVariants.{Download}
use Rattle.conode_explain_transfers.specs.declared.kinds.Side.TheVariants.{Client, Server}
use Rattle.conode_explain_transfers.specs.declared.kinds.What.TheVariants.{Part}
use Rattle.conode_explain_transfers.specs.declared.stage.Stage.TheVariants.{SubBlock, AllAcknowledged, BlockEnded, Confirmed}
use Rattle.conode_explain_transfers.specs.declared.transfer.Transfer.{Transfer}
use Rattle.conode_explain_transfers.specs.BlockTurns.{is_block, segment_added, segment_ahead, acknowledged_at, acknowledged, crc_in, end_confirmed}
use Rattle.conode_explain_transfers.specs.Data.{data_with}
use Rattle.conode_explain_transfers.specs.Endings.{verdict}
use Rattle.conode_explain_transfers.specs.Followed.{with_frame, turns}
use Rattle.conode_explain_transfers.specs.Transfers.{Turn, after, awaited_number, is_download, goes_on, takes_pending, unexpected}
use Rattle.conode_explain_transfers.specs.Unanswered.{not_followed_by}
use Rattle.conode_explain_laws.specs.Downloads.{Complete, initiated_by, entry_bytes, write_said}
use Rattle.conode_explain_laws.proofs.Readings.{Reading, Segment, Begin, Abort, Request, Response, Nothing, request_reading, response_reading, plain_reading, beginning, segment_reading, sub_block_reading, reading_of}
use Rattle.conode_explain_laws.proofs.Views.{abort_no_write, View, read_as, hears_answers, abort_closes, aside_turn, aside_answers, is_begin, no_write}
use Rattle.conode_explain_laws.proofs.Follows.{blocks, all_sent, IsBlocks, InBlocks, AllSent, are_sent, Ends, ends_closed, ends_aside, response_read, answered_reads}
use Rattle.conode_explain_laws.proofs.Begins.{both, some_both, answered, refused, closed, maybe_write, write_of}

-- explain has this transfer
abbrev holds : Bool → Transfer → List ℕ → List Complete → ℕ → View
holds heard t got done count = record { following = record { heard = heard; transfer = Some t }; got = got; done = done; count = count }

-- ---- a segment

pub record IsSegment (frame : List ℕ) (segment : BlockSegment) : Type 0 where
  pub bytes : length segment.bytes ≡ 7
  pub command : (command frame == 0x80) ≡ false

pub is_segment : (frame : List ℕ) (segment : BlockSegment) → block_segment_in frame ≡ Some segment → IsSegment frame segment
is_segment frame segment e = by (length frame == 8) (nat_le 1 (command frame % 128)) refl refl e
  where
    by : (long numbered : Bool) → (length frame == 8) ≡ long → nat_le 1 (command frame % 128) ≡ numbered
        → (if long && numbered then Some (record { last = command frame / 128 == 1; sequence = command frame % 128; bytes = drop 1 frame }) else None) ≡ Some segment
        → IsSegment frame segment
    by true true l n e =
        let same : record { last = command frame / 128 == 1; sequence = command frame % 128; bytes = drop 1 frame } ≡ segment = cc in
        let few : length (drop 1 frame) ≡ 7 = (let d = length-drop 1 frame in grind (arith, nat_tests)) in
        record { bytes = ap (λ (s : BlockSegment). length s.bytes) (sym same) ∙ few; command = grind (arith, nat_tests) }
    by true false l n e = absurd (let f : None ≡ Some segment = e in cc)
    by false numbered l n e = absurd (let f : None ≡ Some segment = e in cc)

-- ---- what the channel makes of a frame inside a sub-block

-- how many segments are taken with this one, or none
abbrev pub taken_by : ℕ → Option BlockSegment → ℕ
taken_by taken next = option_map_or (λ segment. taken + 1) next taken

abbrev pub ends_with : Option BlockSegment → Bool
ends_with x = option_map_or (λ segment. segment.last || (segment.sequence == 127)) x false

-- the answers, and what is open then, where this is held
abbrev pub answers_at : Rows → Key → List ℕ → Bool → Bool → ℕ → List Answer
answers_at rows key held ends last n = if ends then unless_refused (if last then None else room_refusal rows key held) key (Replied (BlockDownloadAcknowledge n 127) ∷ []) else []

abbrev pub opens_at : Rows → Key → List ℕ → Option ℕ → Bool → Bool → ℕ → Option OpenTransfer
opens_at rows key held size ends last n =
    if ends then unless (if last then None else room_refusal rows key held) (opened_at key (if last then LastTaken size else InSubBlock size 0) held)
    else opened_at key (InSubBlock size n) held

-- the same, by the segment in the frame and the one that is taken
abbrev answers_for : Rows → Key → List ℕ → ℕ → Option BlockSegment → Option BlockSegment → List Answer
answers_for rows key before taken x next = answers_at rows key (before ++ bytes_taken next) (ends_with x) (is_last_taken next) (taken_by taken next)

abbrev Both : Rows → (ℕ → ℕ) → Key → List ℕ → Option ℕ → ℕ → List Complete → Bool → Option BlockSegment → Option BlockSegment → View → Type 0
Both rows stamp key before size taken done aborts x next v =
    Ends (if aborts then None else opens_at rows key (before ++ bytes_taken next) size (ends_with x) (is_last_taken next) (taken_by taken next)) None done
    (hears_answers rows stamp (answers_for rows key before taken x next) v)

-- a frame that is none, and begins no transfer
not_begun : (reading plain : Reading) → reading ≡ beginning plain → is_begin reading ≡ false → reading ≡ Nothing
not_begun reading (Begin new) is n = absurd (false≢true (sym n ∙ ap is_begin is))
not_begun reading _ is n = is

-- ---- answers

-- what explain knows after a response, by what it makes of the transfer
abbrev pub turned : Rows → ℕ → Bool → Transfer → List ℕ → List Complete → ℕ → Turn → View
turned rows micros heard t got done count turn = record {
  following = (turns heard t turn micros Server).next;
  got = data_with got turn.takes;
  done = write_said rows (initiated_by (Some t)) (turns heard t turn micros Server).says.ended (data_with got turn.takes) (suc count) ++ done;
  count = suc count;
}

-- an acknowledgement
pub acknowledges : (rows : Rows) (stamp : ℕ → ℕ) (heard : Bool) (u : Transfer) (got : List ℕ) (done : List Complete) (count sequence : ℕ) (turn : Turn) (P : View → Type 0) → u.direction ≡ Download
    → acknowledged_at u.stage u sequence 127 ≡ turn → P (turned rows (stamp count) heard u got done count turn)
    → P (hears_answers rows stamp (Replied (BlockDownloadAcknowledge sequence 127) ∷ []) (holds heard u got done count))
acknowledges rows stamp heard u got done count sequence turn P d e h =
    answered rows stamp (BlockDownloadAcknowledge sequence 127) (holds heard u got done count) (Response (BlockDownloadAcknowledge sequence 127)) P
    (response_read u (stamp count) (response_bytes (BlockDownloadAcknowledge sequence 127)) d ∙ ap response_reading (acknowledged_read sequence 127))
    (subst (λ w. P (turned rows (stamp count) heard u got done count w)) (sym (ap (λ x. acknowledged (is_download x) u sequence 127) d ∙ e)) h)

-- of the last segment
pub last_turn : (u : Transfer) (n : ℕ) → u.stage ≡ SubBlock true → length u.pending.items ≡ 7 * n → acknowledged_at u.stage u n 127 ≡ goes_on (record u { stage = AllAcknowledged })
last_turn u n e p =
    let below : nat_lt n (length u.pending.items / 7 + 1) ≡ true = grind (arith, nat_tests) in
    let is : (n + 1 == length u.pending.items / 7 + 1) ≡ true = grind (arith, nat_tests) in
    ap (λ stage. acknowledged_at stage u n 127) e ∙ rw (below, is) refl

-- of all segments of a sub-block
pub next_turn : (u : Transfer) (taken : ℕ) → u.stage ≡ SubBlock false → length u.pending.items ≡ 7 * taken
    → acknowledged_at u.stage u taken 127 ≡ takes_pending (record u { block_size = 127; next_number = 1; stage = SubBlock false }) (7 * taken)
next_turn u taken e p =
    let below : nat_lt taken (length u.pending.items / 7 + 1) ≡ true = grind (arith, nat_tests) in
    ap (λ stage. acknowledged_at stage u taken 127) e ∙ rw below refl

module _ (rows : Rows) (stamp : ℕ → ℕ) (heard : Bool) (u : Transfer) (got : List ℕ) (done : List Complete) (count : ℕ) (size : Option ℕ) (is : IsBlocks u) where
  all_come : (n : ℕ) → u.stage ≡ SubBlock true → length u.pending.items ≡ 7 * n → 1 ≤ n
      → Ends (opened_at u.key (LastTaken size) (got ++ u.pending.items)) None done
      (hears_answers rows stamp (Replied (BlockDownloadAcknowledge n 127) ∷ []) (holds heard u got done count))
  all_come n e p some =
      acknowledges rows stamp heard u got done count n (goes_on (record u { stage = AllAcknowledged })) (Ends (opened_at u.key (LastTaken size) (got ++ u.pending.items)) None done) is.direction (last_turn u n e p)
      (record {
        follows = all_sent size (record { is = record { direction = is.direction; protocol = is.protocol; request = is.request }; stage = refl; pending = omega (arith, p) }) refl;
        writes = inl refl;
      })

  sub_block_come : (n : ℕ) → u.stage ≡ SubBlock false → length u.pending.items ≡ 7 * n
      → Ends (opened_at u.key (InSubBlock size 0) (got ++ u.pending.items)) None done
      (hears_answers rows stamp (Replied (BlockDownloadAcknowledge n 127) ∷ []) (holds heard u got done count))
  sub_block_come n e p =
      let all : take (7 * n) u.pending.items ≡ u.pending.items = take_all (7 * n) u.pending.items (omega (arith, p)) in
      let bytes_are : got ++ u.pending.items ≡ (got ++ take (7 * n) u.pending.items) ++ [] = sym (append-nil (got ++ take (7 * n) u.pending.items) ∙ ap (λ (xs : List ℕ). got ++ xs) all) in
      acknowledges rows stamp heard u got done count n (takes_pending (record u { block_size = 127; next_number = 1; stage = SubBlock false }) (7 * n))
      (Ends (opened_at u.key (InSubBlock size 0) (got ++ u.pending.items)) None done) is.direction (next_turn u n e p)
      (record {
        follows = blocks 0 size (record { is = record { direction = is.direction; protocol = is.protocol; request = is.request }; stage = refl; pending = refl }) (ap (λ (xs : List ℕ). opened_at u.key (InSubBlock size 0) xs) bytes_are);
        writes = inl refl;
      })

  -- the channel ends the sub-block, or awaits more of it
  at_end : (ends last : Bool) (n : ℕ) → u.stage ≡ SubBlock last → length u.pending.items ≡ 7 * n → (last ≡ true → ends ≡ true) → (last ≡ true → 1 ≤ n)
      → Ends (opens_at rows u.key (got ++ u.pending.items) size ends last n) None done
      (hears_answers rows stamp (answers_at rows u.key (got ++ u.pending.items) ends last n) (holds heard u got done count))
  at_end true true n e p over some = all_come n e p (some refl)
  at_end false true n e p over some = absurd (false≢true (over refl))
  at_end false false n e p over some = record { follows = blocks n size (record { is = is; stage = e; pending = p }) refl; writes = inl refl }
  at_end true false n e p over some =
      refused rows stamp (room_refusal rows u.key (got ++ u.pending.items)) u.key (Replied (BlockDownloadAcknowledge n 127) ∷ []) _ None done (holds heard u got done count) refl
      (λ r. subst (λ x. Ends (unless x (opened_at u.key (InSubBlock size 0) (got ++ u.pending.items))) None done (hears_answers rows stamp (Replied (BlockDownloadAcknowledge n 127) ∷ []) (holds heard u got done count))) (sym r)
      (sub_block_come n e p))

-- ---- a segment, for both

-- explain after a segment that is the next, and after another
abbrev added : Transfer → BlockSegment → ℕ → Transfer
added t segment micros = with_frame Part (after t (segment_added t segment)) micros Client

abbrev passed : Transfer → BlockSegment → ℕ → Transfer
passed t segment micros = with_frame Part (after t (segment_ahead t segment)) micros Client

pub number_is : (t : Transfer) (taken n : ℕ) (b : Bool) → length t.pending.items ≡ 7 * taken → (n == awaited_number t) ≡ b → (n == taken + 1) ≡ b
number_is t taken n b p e =
    let awaited : length t.pending.items / 7 + 1 ≡ taken + 1 = omega (arith, p) in
    subst (λ x. (n == x) ≡ b) awaited e

module _ (d : Description) (contents : Contents) (stamp : ℕ → ℕ) (frame : List ℕ) (heard : Bool) (t : Transfer) (got : List ℕ) (done : List Complete) (count taken : ℕ) (size : Option ℕ) (h : InBlocks t taken) where
  -- taken
  is_added : (segment : BlockSegment) → nat_lt segment.sequence t.next_number ≡ false → (segment.sequence == awaited_number t) ≡ true
      → read_as d.rows (stamp count) Client frame (holds heard t got done count) (Segment segment) ≡ holds heard (added t segment (stamp count)) got done (suc count)
  is_added segment b1 b2 = rw (h.stage, b1, b2) refl

  takes_it : (segment : BlockSegment) → length segment.bytes ≡ 7
      → Ends (opens_at d.rows t.key ((got ++ t.pending.items) ++ segment.bytes) size (segment.last || (segment.sequence == 127)) segment.last (taken + 1)) None done
      (hears_answers d.rows stamp (answers_at d.rows t.key ((got ++ t.pending.items) ++ segment.bytes) (segment.last || (segment.sequence == 127)) segment.last (taken + 1)) (holds heard (added t segment (stamp count)) got done (suc count)))
  takes_it segment seven =
      let u = added t segment (stamp count) in
      let ends = segment.last || (segment.sequence == 127) in
      let p = h.pending in
      subst (λ (held : List ℕ). Ends (opens_at d.rows t.key held size ends segment.last (taken + 1)) None done
      (hears_answers d.rows stamp (answers_at d.rows t.key held ends segment.last (taken + 1)) (holds heard u got done (suc count)))) (sym (append_assoc got t.pending.items segment.bytes))
      (at_end d.rows stamp heard u got done (suc count) size (record { direction = h.is.direction; protocol = h.is.protocol; request = h.is.request })
      ends segment.last (taken + 1) refl (omega (arith, length-append t.pending.items segment.bytes, p, seven)) (λ l. rw l refl) (λ l. omega arith))

  -- not taken
  is_passed : (segment : BlockSegment) (next : Bool) → nat_lt segment.sequence t.next_number ≡ false → (segment.sequence == awaited_number t) ≡ false → (segment.sequence == t.next_number) ≡ next
      → read_as d.rows (stamp count) Client frame (holds heard t got done count) (Segment segment) ≡ holds heard (passed t segment (stamp count)) got done (suc count)
  is_passed segment true b1 b2 b3 = rw (h.stage, b1, b2, b3) refl
  is_passed segment false b1 b2 b3 = rw (h.stage, b1, b2, b3) refl

  passes_it : (segment : BlockSegment) (ends : Bool)
      → Ends (opens_at d.rows t.key ((got ++ t.pending.items) ++ []) size ends false taken) None done
      (hears_answers d.rows stamp (answers_at d.rows t.key ((got ++ t.pending.items) ++ []) ends false taken) (holds heard (passed t segment (stamp count)) got done (suc count)))
  passes_it segment ends =
      let u = passed t segment (stamp count) in
      subst (λ (held : List ℕ). Ends (opens_at d.rows t.key held size ends false taken) None done
      (hears_answers d.rows stamp (answers_at d.rows t.key held ends false taken) (holds heard u got done (suc count)))) (sym (append-nil (got ++ t.pending.items)))
      (at_end d.rows stamp heard u got done (suc count) size (record { direction = h.is.direction; protocol = h.is.protocol; request = h.is.request })
      ends false taken h.stage h.pending (λ l. absurd (false≢true l)) (λ l. absurd (false≢true l)))

  -- the segment is read by both
  segment_step : (segment : BlockSegment) (again next : Bool) → length segment.bytes ≡ 7 → nat_lt segment.sequence t.next_number ≡ again → (segment.sequence == awaited_number t) ≡ next
      → Both d.rows stamp t.key (got ++ t.pending.items) size taken done false (Some segment) (segment_taken taken (Some segment)) (read_as d.rows (stamp count) Client frame (holds heard t got done count) (Segment segment))
  segment_step segment true next seven b1 b2 =
      ends_aside _ None done _
      (aside_answers d.rows stamp (answers_for d.rows t.key (got ++ t.pending.items) taken (Some segment) (segment_taken taken (Some segment))) done _
      (aside_turn d.rows (stamp count) Client frame heard t got done count (Segment segment) (inl (rw (h.stage, b1) refl))))
  segment_step segment false true seven b1 b2 =
      subst (λ v. Both d.rows stamp t.key (got ++ t.pending.items) size taken done false (Some segment) (segment_taken taken (Some segment)) v) (sym (is_added segment b1 b2))
      (subst (λ b. Both d.rows stamp t.key (got ++ t.pending.items) size taken done false (Some segment) (if b then Some segment else None) (holds heard (added t segment (stamp count)) got done (suc count)))
      (sym (number_is t taken segment.sequence true h.pending b2)) (takes_it segment seven))
  segment_step segment false false seven b1 b2 =
      subst (λ v. Both d.rows stamp t.key (got ++ t.pending.items) size taken done false (Some segment) (segment_taken taken (Some segment)) v) (sym (is_passed segment (segment.sequence == t.next_number) b1 b2 refl))
      (subst (λ b. Both d.rows stamp t.key (got ++ t.pending.items) size taken done false (Some segment) (if b then Some segment else None) (holds heard (passed t segment (stamp count)) got done (suc count)))
      (sym (number_is t taken segment.sequence false h.pending b2)) (passes_it segment (segment.last || (segment.sequence == 127))))

-- any frame that begins no transfer
module _ (d : Description) (contents : Contents) (stamp : ℕ → ℕ) (frame : List ℕ) (heard : Bool) (t : Transfer) (got : List ℕ) (done : List Complete) (count taken : ℕ) (size : Option ℕ) (h : InBlocks t taken) (reading : Reading) (e : reading_of (Some t) Client (stamp count) frame ≡ reading) (n : is_begin reading ≡ false) where
  read_so : (r : Reading) → reading ≡ r
      → Both d.rows stamp t.key (got ++ t.pending.items) size taken done (command frame == 0x80) (block_segment_in frame) (segment_taken taken (block_segment_in frame)) (read_as d.rows (stamp count) Client frame (holds heard t got done count) r)
      → Both d.rows stamp t.key (got ++ t.pending.items) size taken done (command frame == 0x80) (block_segment_in frame) (segment_taken taken (block_segment_in frame)) (read_as d.rows (stamp count) Client frame (holds heard t got done count) reading)
  read_so r is x = subst (λ y. Both d.rows stamp t.key (got ++ t.pending.items) size taken done (command frame == 0x80) (block_segment_in frame) (segment_taken taken (block_segment_in frame)) (read_as d.rows (stamp count) Client frame (holds heard t got done count) y)) (sym is) x

  nothing : reading ≡ Nothing
      → Both d.rows stamp t.key (got ++ t.pending.items) size taken done (command frame == 0x80) (block_segment_in frame) (segment_taken taken (block_segment_in frame)) (read_as d.rows (stamp count) Client frame (holds heard t got done count) reading)
  nothing is =
      read_so Nothing is (ends_aside _ None done _
      (aside_answers d.rows stamp (answers_for d.rows t.key (got ++ t.pending.items) taken (block_segment_in frame) (segment_taken taken (block_segment_in frame))) done _ (aside_turn d.rows (stamp count) Client frame heard t got done count Nothing (inl refl))))

  by_size : (segment : BlockSegment) → block_segment_in frame ≡ Some segment → (within : Bool) → reading ≡ (if within then Segment segment else beginning (plain_reading Client (stamp count) frame))
      → Both d.rows stamp t.key (got ++ t.pending.items) size taken done (command frame == 0x80) (block_segment_in frame) (segment_taken taken (block_segment_in frame)) (read_as d.rows (stamp count) Client frame (holds heard t got done count) reading)
  by_size segment f false is = nothing (not_begun reading (plain_reading Client (stamp count) frame) is n)
  by_size segment f true is =
      let s = is_segment frame segment f in
      read_so (Segment segment) is
      (subst (λ x. Both d.rows stamp t.key (got ++ t.pending.items) size taken done (command frame == 0x80) x (segment_taken taken x) (read_as d.rows (stamp count) Client frame (holds heard t got done count) (Segment segment)))
      (sym f)
      (subst (λ b. Both d.rows stamp t.key (got ++ t.pending.items) size taken done b (Some segment) (segment_taken taken (Some segment)) (read_as d.rows (stamp count) Client frame (holds heard t got done count) (Segment segment)))
      (sym s.command) (segment_step d contents stamp frame heard t got done count taken size h segment (nat_lt segment.sequence t.next_number) (segment.sequence == awaited_number t) s.bytes refl refl)))

  by_segment : (x : Option BlockSegment) → block_segment_in frame ≡ x → reading ≡ segment_reading t.block_size x (beginning (plain_reading Client (stamp count) frame))
      → Both d.rows stamp t.key (got ++ t.pending.items) size taken done (command frame == 0x80) (block_segment_in frame) (segment_taken taken (block_segment_in frame)) (read_as d.rows (stamp count) Client frame (holds heard t got done count) reading)
  by_segment None f is = nothing (not_begun reading (plain_reading Client (stamp count) frame) is n)
  by_segment (Some segment) f is = by_size segment f (nat_le segment.sequence t.block_size) is

  by_abort : (abort : Bool) → reading ≡ (if abort then Abort (code_in frame) else segment_reading t.block_size (block_segment_in frame) (beginning (plain_reading Client (stamp count) frame)))
      → Both d.rows stamp t.key (got ++ t.pending.items) size taken done (command frame == 0x80) (block_segment_in frame) (segment_taken taken (block_segment_in frame)) (read_as d.rows (stamp count) Client frame (holds heard t got done count) reading)
  by_abort true is =
      read_so (Abort (code_in frame)) is
      (ends_aside _ None done _
      (aside_answers d.rows stamp (answers_for d.rows t.key (got ++ t.pending.items) taken (block_segment_in frame) (segment_taken taken (block_segment_in frame))) done _ (record { holds = tt; same = ap (λ w. w ++ done) (no_write (is_download t.direction) _ (abort_no_write Client (not_followed_by Client t frame) (code_in frame) _)) })))
  by_abort false is = by_segment (block_segment_in frame) refl is

  pub sub_block_step : Ends (opened_next d contents (opened_at t.key (InSubBlock size taken) (got ++ t.pending.items)) frame) (set_next d contents (opened_at t.key (InSubBlock size taken) (got ++ t.pending.items)) frame) done
      (hears_answers d.rows stamp (answers_to d contents (opened_at t.key (InSubBlock size taken) (got ++ t.pending.items)) frame) (read_as d.rows (stamp count) Client frame (holds heard t got done count) reading))
  sub_block_step =
      let read : reading_of (Some t) Client (stamp count) frame ≡ sub_block_reading t.block_size Client (stamp count) frame = rw (h.stage, h.is.direction) refl in
      by_abort (is_abort_in_sub_block frame) (sym e ∙ read)

-- ---- the end

-- the client ends it: the number of unused bytes is small
abbrev pub IsSmallEnd : SdoRequest → Type 0
IsSmallEnd (BlockDownloadEnd unused) = unused ≤ 7
IsSmallEnd _ = Unit {0}

pub small_end : (frame : List ℕ) → IfSome (request_in frame) IsSmallEnd
unfolding request_row_in
small_end frame =
    let P : SdoRequest → Type 0 = λ request. IsSmallEnd request in
    some_both P (eqb (length frame) 8) _ _
    (some_both P (eqb (specifier frame) 0) _ _ tt
    (some_both P (eqb (specifier frame) 1) _ _ (both P (has_bit 1 frame) _ _ tt tt)
    (some_both P (eqb (specifier frame) 2) _ _ tt
    (some_both P (eqb (specifier frame) 3) _ _ tt
    (some_both P (eqb (specifier frame) 4) _ _ tt
    (some_both P (eqb (specifier frame) 5) _ _
    (both P (eqb (subcommand frame) 0) _ _ tt (both P (eqb (subcommand frame) 1) _ _ tt (both P (eqb (subcommand frame) 2) _ _ tt tt)))
    (some_both P (eqb (specifier frame) 6) _ _ (both P (has_bit 0 frame) _ _ (omega arith) tt)
    tt)))))))
    tt

-- explain after the end
abbrev pub ended : Transfer → ℕ → ℕ → ℕ → Transfer
ended t unused crc micros = with_frame Part (after t (takes_pending (record t { stage = BlockEnded crc }) (length t.pending.items - unused))) micros Client

abbrev pub left_of : Transfer → ℕ → List ℕ
left_of t unused = take (length t.pending.items - unused) t.pending.items

take_past : (xs ys : List ℕ) (n : ℕ) → take (length xs + n) (xs ++ ys) ≡ xs ++ take n ys
take_past [] ys n = let e : 0 + n ≡ n = omega arith in ap (λ k. take k ys) e
take_past (x ∷ xs) ys n = let e : suc (length xs) + n ≡ suc (length xs + n) = omega arith in ap (λ k. take k (x ∷ (xs ++ ys))) e ∙ ap (λ l. x ∷ l) (take_past xs ys n)

-- the channel sets what explain has taken
pub without_is : (got pending : List ℕ) (unused : ℕ) → unused ≤ 7 → 7 ≤ length pending → got ++ take (length pending - unused) pending ≡ without unused (got ++ pending)
without_is got pending unused few many =
    let n : length (got ++ pending) - unused ≡ length got + (length pending - unused) = (let a = length-append got pending in omega (arith, a)) in
    sym (ap (λ k. take k (got ++ pending)) n ∙ take_past got pending (length pending - unused))

-- the client's end is answered
end_answered : (rows : Rows) (stamp : ℕ → ℕ) (heard : Bool) (t : Transfer) (got : List ℕ) (done : List Complete) (count micros unused crc : ℕ) (size : Option ℕ) → AllSent t → unused ≤ 7
    → Ends None (Some (record { key = t.key; indicated = size; bytes = without unused (got ++ t.pending.items) })) done
    (hears_answers rows stamp (Replied BlockDownloadDone ∷ []) (holds heard (ended t unused crc micros) (got ++ left_of t unused) done count))
end_answered rows stamp heard t got done count micros unused crc size h few =
    let u = ended t unused crc micros in
    let confirmed : Transfer = record u { stage = Confirmed (if t.crc then Some crc else None) } in
    let P : View → Type 0 = λ v. Ends None (Some (record { key = t.key; indicated = size; bytes = without unused (got ++ t.pending.items) })) done v in
    let turn : end_confirmed (is_download u.direction) u ≡ goes_on confirmed = ap (λ x. end_confirmed (is_download x) u) h.is.direction ∙ ap (λ x. if is_block x then goes_on confirmed else unexpected u) h.is.protocol in
    let write = write_of (suc count) t.key (entry_bytes rows t.key (request_in t.request.items) (got ++ left_of t unused)) in
    let bytes_are : entry_bytes rows t.key (request_in t.request.items) (got ++ left_of t unused) ≡ without unused (got ++ t.pending.items) =
    ap (λ r. entry_bytes rows t.key r (got ++ left_of t unused)) h.is.request ∙ without_is got t.pending.items unused few h.pending in
    answered rows stamp BlockDownloadDone (holds heard u (got ++ left_of t unused) done count) (Response BlockDownloadDone) P
    (response_read u (stamp count) (response_bytes BlockDownloadDone) h.is.direction ∙ ap response_reading block_done_read)
    (subst (λ w. P (turned rows (stamp count) heard u (got ++ left_of t unused) done count w)) (sym turn)
    (record {
      follows = tt;
      writes = elim (maybe_write (is_download t.direction) (verdict (after u (goes_on confirmed)) (if t.crc then Some crc else None)) write) [
        | inl e ↦ inl (ap (λ w. w ++ done) e)
        | inr e ↦ inr (ap (λ w. w ++ done) e ∙ ap (λ bytes. write_of (suc count) t.key bytes ++ done) bytes_are)
      ];
    }))

module _ (d : Description) (contents : Contents) (stamp : ℕ → ℕ) (frame : List ℕ) (heard : Bool) (t : Transfer) (got : List ℕ) (done : List Complete) (count : ℕ) (size : Option ℕ) (h : AllSent t) where
  is_ended : (unused : ℕ) → read_as d.rows (stamp count) Client frame (holds heard t got done count) (Request (BlockDownloadEnd unused))
      ≡ holds heard (ended t unused (crc_in frame) (stamp count)) (got ++ left_of t unused) done (suc count)
  is_ended unused = rw (h.is.direction, h.stage) refl

  end_step : (unused : ℕ) → unused ≤ 7
      → Ends (after_request d contents (opened_at t.key (LastTaken size) (got ++ t.pending.items)) (Some (BlockDownloadEnd unused))) (set_by_request d contents (opened_at t.key (LastTaken size) (got ++ t.pending.items)) (Some (BlockDownloadEnd unused))) done
      (hears_answers d.rows stamp (request_answers d contents (opened_at t.key (LastTaken size) (got ++ t.pending.items)) (Some (BlockDownloadEnd unused))) (read_as d.rows (stamp count) Client frame (holds heard t got done count) (Request (BlockDownloadEnd unused))))
  end_step unused few =
      let all = without unused (got ++ t.pending.items) in
      let refusal = completion_refusal d contents t.key size all in
      let u = ended t unused (crc_in frame) (stamp count) in
      subst (λ v. Ends None (unless refusal (whole t.key size all)) done (hears_answers d.rows stamp (unless_refused refusal t.key (Replied BlockDownloadDone ∷ [])) v)) (sym (is_ended unused))
      (refused d.rows stamp refusal t.key (Replied BlockDownloadDone ∷ []) None (unless refusal (whole t.key size all)) done (holds heard u (got ++ left_of t unused) done (suc count)) refl
      (λ r. subst (λ x. Ends None (unless x (whole t.key size all)) done (hears_answers d.rows stamp (Replied BlockDownloadDone ∷ []) (holds heard u (got ++ left_of t unused) done (suc count)))) (sym r)
      (end_answered d.rows stamp heard t got done (suc count) (stamp count) unused (crc_in frame) size h few)))

  by_request : (r : Option SdoRequest) → IfSome r IsSmallEnd → is_begin (request_reading r (stamp count) frame) ≡ false
      → Ends (after_request d contents (opened_at t.key (LastTaken size) (got ++ t.pending.items)) r) (set_by_request d contents (opened_at t.key (LastTaken size) (got ++ t.pending.items)) r) done
      (hears_answers d.rows stamp (request_answers d contents (opened_at t.key (LastTaken size) (got ++ t.pending.items)) r) (read_as d.rows (stamp count) Client frame (holds heard t got done count) (request_reading r (stamp count) frame)))
  by_request (Some (BlockDownloadEnd unused)) few n = end_step unused few
  by_request (Some (DownloadExpedited key value)) few n = absurd (false≢true (sym n))
  by_request (Some (DownloadInitiate key part)) few n = absurd (false≢true (sym n))
  by_request (Some (UploadInitiate key)) few n = absurd (false≢true (sym n))
  by_request (Some (BlockUploadInitiate key block_size threshold)) few n = absurd (false≢true (sym n))
  by_request (Some (BlockDownloadInitiate key part)) few n = absurd (false≢true (sym n))
  by_request (Some (Abandon key code)) few n = ends_closed _ _ done _ (abort_closes d.rows (stamp count) Client frame heard (Some t) got done count (Abort code) refl)
  by_request r few n =
      closed d.rows stamp t.key 0x05040001 _ _ done (read_as d.rows (stamp count) Client frame (holds heard t got done count) (request_reading r (stamp count) frame))
      (answered_reads d.rows (stamp count) frame heard t got done count (request_reading r (stamp count) frame) (are_sent t h) refl refl).same

  pub to_end : (reading : Reading) → reading_of (Some t) Client (stamp count) frame ≡ reading → is_begin reading ≡ false
      → Ends (opened_next d contents (opened_at t.key (LastTaken size) (got ++ t.pending.items)) frame) (set_next d contents (opened_at t.key (LastTaken size) (got ++ t.pending.items)) frame) done
      (hears_answers d.rows stamp (answers_to d contents (opened_at t.key (LastTaken size) (got ++ t.pending.items)) frame) (read_as d.rows (stamp count) Client frame (holds heard t got done count) reading))
  to_end reading e n =
      let read : reading_of (Some t) Client (stamp count) frame ≡ request_reading (request_in frame) (stamp count) frame = rw h.stage refl in
      let is : reading ≡ request_reading (request_in frame) (stamp count) frame = sym e ∙ read in
      subst (λ r. Ends (opened_next d contents (opened_at t.key (LastTaken size) (got ++ t.pending.items)) frame) (set_next d contents (opened_at t.key (LastTaken size) (got ++ t.pending.items)) frame) done
      (hears_answers d.rows stamp (answers_to d contents (opened_at t.key (LastTaken size) (got ++ t.pending.items)) frame) (read_as d.rows (stamp count) Client frame (holds heard t got done count) r))) (sym is)
      (by_request (request_in frame) (small_end frame) (sym (ap is_begin is) ∙ n))
