-- What is open after a frame inside a sub-block.
use Rattle.std.proofs.Common.{◌≡◌, ℕ, ◌+◌, ◌*◌, ◌/◌, ◌%◌, ◌≤◌, ◌<◌, Bool, true, false, cond, not, List, [], ◌∷◌, ◌++◌, length, drop, Option, Some, None, refl, sym, ap, ◌∙◌, arith, length-append, length-drop}
use Rattle.std.specs.Prelude.{◌&&◌, ◌||◌, ◌==◌, nat_lt, nat_le, slice_index}
use Rattle.std.specs.List.{list_any}
use Rattle.std.specs.Option.{option_map_or}
use Rattle.std.proofs.lemmas.Bool.{false≢true, or_parts}
use Rattle.std.proofs.lemmas.Bool.Decides.{nat_tests}
use Rattle.co_value.specs.declared.key.Key.{Key}
use Rattle.co_frame.specs.SdoFields.{command}
use Rattle.co_frame.specs.BlockSegments.{block_segment_in}
use Rattle.co_frame.specs.SdoRequests.{request_in}
use Rattle.co_frame.specs.declared.block_segment.BlockSegment.{BlockSegment}
use Rattle.co_frame.specs.declared.sdo_request.SdoRequest.TheVariants.{BlockDownloadInitiate}
use Rattle.co_frame.specs.declared.sdo_response.SdoResponse.TheVariants.{BlockDownloadAcknowledge}
use Rattle.co_dict.specs.Rows.{Rows, Contents}
use Rattle.co_sdo.specs.declared.stage.Stage.TheVariants.{SubBlock}
use Rattle.co_sdo.specs.Refused.{capacity_at}
use Rattle.co_sdo.specs.Log.{Response, Exchange, is_abort, requests}
use Rattle.co_sdo.specs.SubBlocks.{ends_sub_block, sub_block, segment_taken, and_segment, taken_segments, taken_after, bytes_taken, is_last_taken, block_bytes, has_last}
use Rattle.co_sdo.specs.Downloads.{is_whole_after, is_block_end}
use Rattle.co_sdo.specs.OpenTransfers.{Transfer, is_inside_after, is_abort_received, is_uploaded}
use Rattle.co_sdo.specs.Opened.{OpenTransfer}
use Rattle.co_sdo.specs.Replies.{aborted, unless_refused, room_refusal, taken_with, held_with, sub_block_refusal, sub_block_answers}
use Rattle.co_sdo.specs.Completed.{unless}
use Rattle.co_sdo.specs.Steps.{opened_at, stage_after_frame, after_frame}
use Rattle.co_sdo.specs.Standing.{IsBlockDownload}
use Rattle.co_sdo.proofs.Logs.{extended}
use Rattle.co_sdo.proofs.RefusalLemmas.{not_refused}
use Rattle.co_sdo.proofs.Initiations.{StepsTo, to_nothing, opens_to, exchange}
use Rattle.co_sdo.proofs.Continuations.{aborted_step}

-- ---- one segment

only : {A : Type 0} (c : Bool) (x y : A) → cond c (Some x) None ≡ Some y → x ≡ y
only true x y e = cc
only false x y e = cc

-- a segment has seven bytes
segment_bytes : (frame : List ℕ) (segment : BlockSegment) → length frame ≡ 8 → block_segment_in frame ≡ Some segment → length segment.bytes ≡ 7
segment_bytes frame segment n e =
    let first = slice_index frame 0 in
    let same : record { last = first / 128 == 1; sequence = first % 128; bytes = drop 1 frame } ≡ segment = only (length frame == 8 && nat_le 1 (first % 128)) _ segment e in
    let few : length (drop 1 frame) ≡ 7 = omega (arith, length-drop 1 frame) in
    ap (λ (s : BlockSegment). length s.bytes) (sym same) ∙ few

-- what holds of a segment that is taken
record IsNext (taken : ℕ) (segment : BlockSegment) : Type 0 where
  bytes : length segment.bytes ≡ 7
  sequence : segment.sequence ≡ taken + 1

next_facts : (taken : ℕ) (found : Option BlockSegment) (segment : BlockSegment) → ((s : BlockSegment) → found ≡ Some s → length s.bytes ≡ 7) → segment_taken taken found ≡ Some segment → IsNext taken segment
next_facts taken None segment seven e = cc
next_facts taken (Some s) segment seven e = by_test (s.sequence == taken + 1) refl e
  where
    by_test : (b : Bool) → (s.sequence == taken + 1) ≡ b → cond b (Some s) None ≡ Some segment → IsNext taken segment
    by_test false t h = cc
    by_test true t h =
        let same : s ≡ segment = cc in
        rw (← same) (record { bytes = seven s refl; sequence = grind (arith, nat_tests) })

-- a segment that doesn't end its sub-block is neither the last one nor number 127
record GoesOn (next : Option BlockSegment) : Type 0 where
  last : is_last_taken next ≡ false
  number : (segment : BlockSegment) → next ≡ Some segment → (segment.sequence == 127) ≡ false

goes_on : (taken : ℕ) (found : Option BlockSegment) → option_map_or (λ s. s.last || (s.sequence == 127)) found false ≡ false → GoesOn (segment_taken taken found)
goes_on taken None h = record { last = refl; number = λ segment e. cc }
goes_on taken (Some s) h = by_test (s.sequence == taken + 1)
  where
    by_test : (b : Bool) → GoesOn (cond b (Some s) None)
    by_test false = record { last = refl; number = λ segment e. cc }
    by_test true = record {
      last = (or_parts s.last (s.sequence == 127) h).0;
      number = λ segment e. let same : s ≡ segment = cc in rw (← same) ((or_parts s.last (s.sequence == 127) h).1);
    }

-- how many are taken with a segment
abbrev count_with : Option BlockSegment → ℕ → ℕ
count_with next taken = option_map_or (λ s. taken + 1) next taken

counted : (next : Option BlockSegment) (taken : List BlockSegment) → length (and_segment next taken) ≡ count_with next (length taken)
counted None taken = refl
counted (Some s) taken = omega arith

grown : (next : Option BlockSegment) (bytes : List ℕ) (capacity taken : ℕ) → ((s : BlockSegment) → next ≡ Some s → IsNext taken s) → length bytes ≤ capacity + 7 * taken
    → length (bytes ++ bytes_taken next) ≤ capacity + 7 * count_with next taken
grown None bytes capacity taken facts few = omega (arith, length-append bytes [])
grown (Some s) bytes capacity taken facts few = let seven = (facts s refl).bytes in omega (arith, length-append bytes s.bytes, seven)

count_most : (next : Option BlockSegment) (taken : ℕ) → taken < 127 → count_with next taken ≤ 127
count_most None taken h = omega arith
count_most (Some s) taken h = omega arith

count_below : (next : Option BlockSegment) (taken : ℕ) → GoesOn next → ((s : BlockSegment) → next ≡ Some s → IsNext taken s) → taken < 127 → count_with next taken < 127
count_below None taken g facts h = h
count_below (Some s) taken g facts h =
    let other = g.number s refl in
    let number = (facts s refl).sequence in
    grind (arith, nat_tests)

-- ---- one frame

abbrev and_exchange : Exchange → Transfer → Transfer
and_exchange x t = record { begin = t.begin; later = x ∷ t.later }

not_whole : (e i : Bool) (last : Bool) → last ≡ false → ((e && last) && i) || false ≡ false
not_whole true i last h = rw h refl
not_whole false i last h = refl

-- inside a sub-block 80h and an abort sent close a transfer, and nothing else does
extended_inside : (x : Exchange) (t : Transfer) (key : Key) (size : Option ℕ) (b : Bool) → request_in t.begin.request ≡ Some (BlockDownloadInitiate key size) → has_last (requests t.later) ≡ false
    → (command x.request == 0x80) || list_any is_abort x.answers ≡ b → extended x t ≡ cond b None (Some (and_exchange x t))
extended_inside x t key size b e h c =
    let q = Some (BlockDownloadInitiate key size) in
    ap (λ r. cond {A = Option Transfer} ((is_abort_received (is_inside_after r (requests t.later)) x.request || list_any is_abort x.answers) || (is_whole_after r (requests (x ∷ t.later)) || is_uploaded r x)) None (Some (and_exchange x t))) e
    ∙ ap (λ last. cond {A = Option Transfer} ((is_abort_received (not last) x.request || list_any is_abort x.answers) || (is_whole_after q (requests (x ∷ t.later)) || is_uploaded q x)) None (Some (and_exchange x t))) h
    ∙ ap (λ f. cond {A = Option Transfer} (((command x.request == 0x80) || list_any is_abort x.answers) || f) None (Some (and_exchange x t))) (not_whole (is_block_end (request_in x.request)) _ (has_last (requests t.later)) h)
    ∙ ap (λ f. cond {A = Option Transfer} (f || false) None (Some (and_exchange x t))) c ∙ or_nothing b
  where
    or_nothing : (b : Bool) → cond {A = Option Transfer} (b || false) None (Some (and_exchange x t)) ≡ cond b None (Some (and_exchange x t))
    or_nothing true = refl
    or_nothing false = refl

-- the block download that a begin and frames make, inside a sub-block
abbrev pub receiving : Key → Option ℕ → Transfer → OpenTransfer
receiving key size t = record { key = key; stage = SubBlock size (length (taken_segments (sub_block (requests t.later)))); bytes = block_bytes (requests t.later) }

abbrev taken_in : Transfer → ℕ
taken_in t = length (taken_segments (sub_block (requests t.later)))

abbrev next_in : Transfer → List ℕ → Option BlockSegment
next_in t frame = taken_after (requests t.later) frame

next_of : (t : Transfer) (frame : List ℕ) → length frame ≡ 8 → (s : BlockSegment) → next_in t frame ≡ Some s → IsNext (taken_in t) s
next_of t frame n s e = next_facts (taken_in t) (block_segment_in frame) s (λ s f. segment_bytes frame s n f) e

-- a frame that doesn't end its sub-block
kept : (rows : Rows) (contents : Contents) (key : Key) (size : Option ℕ) (t : Transfer) (frame : List ℕ)
    → request_in t.begin.request ≡ Some (BlockDownloadInitiate key size) → has_last (requests t.later) ≡ false → IsBlockDownload (capacity_at rows key) (requests t.later) → length frame ≡ 8
    → (command frame == 0x80) ≡ false → ends_sub_block frame ≡ false
    → StepsTo rows (opened_at key (SubBlock size (taken_with (taken_in t) frame)) (held_with (block_bytes (requests t.later)) (taken_in t) frame)) (extended (exchange frame contents []) t)
kept rows contents key size t frame e h u n c ends =
    let x = exchange frame contents [] in
    let next = next_in t frame in
    let on : GoesOn next = goes_on (taken_in t) (block_segment_in frame) ends in
    let inside = u.inside h in
    let count : length (taken_segments (sub_block (frame ∷ requests t.later))) ≡ count_with next (taken_in t) = rw ends (counted next (taken_segments (sub_block (requests t.later)))) in
    let held : length (block_bytes (requests t.later) ++ bytes_taken next) ≤ capacity_at rows key + 7 * count_with next (taken_in t) = grown next (block_bytes (requests t.later)) (capacity_at rows key) (taken_in t) (next_of t frame n) inside.0 in
    let below : count_with next (taken_in t) < 127 = count_below next (taken_in t) on (next_of t frame n) inside.1 in
    rw (extended_inside x t key size false e h (rw c refl)) (opens_to rows _ (and_exchange x t) _ e
    (rw (h, on.last, count) refl)
    (record { inside = λ _. rw count (held, below); bytes = omega arith }))

-- a frame that ends its sub-block
ended : (rows : Rows) (contents : Contents) (key : Key) (size : Option ℕ) (t : Transfer) (frame : List ℕ)
    → request_in t.begin.request ≡ Some (BlockDownloadInitiate key size) → has_last (requests t.later) ≡ false → IsBlockDownload (capacity_at rows key) (requests t.later) → length frame ≡ 8
    → (command frame == 0x80) ≡ false → ends_sub_block frame ≡ true
    → (code : Option ℕ) → sub_block_refusal rows (receiving key size t) (taken_in t) frame ≡ code
    → StepsTo rows (unless code (opened_at key (stage_after_frame size (taken_in t) frame) (held_with (block_bytes (requests t.later)) (taken_in t) frame)))
    (extended (exchange frame contents (unless_refused code key (Response (BlockDownloadAcknowledge (taken_with (taken_in t) frame) 127) ∷ []))) t)
ended rows contents key size t frame e h u n c ends (Some code) r = aborted_step rows None (exchange frame contents (aborted key code)) t refl refl
ended rows contents key size t frame e h u n c ends None r =
    let x = exchange frame contents (Response (BlockDownloadAcknowledge (taken_with (taken_in t) frame) 127) ∷ []) in
    let next = next_in t frame in
    let inside = u.inside h in
    let held : length (block_bytes (requests t.later) ++ bytes_taken next) ≤ capacity_at rows key + 7 * count_with next (taken_in t) = grown next (block_bytes (requests t.later)) (capacity_at rows key) (taken_in t) (next_of t frame n) inside.0 in
    let most : count_with next (taken_in t) ≤ 127 = count_most next (taken_in t) inside.1 in
    rw (extended_inside x t key size false e h (rw c refl)) (opens_to rows _ (and_exchange x t) _ e
    (rw (h, ends) refl)
    (record { inside = λ last. rw ends (room (is_last_taken next) ((or_parts (has_last (requests t.later)) (is_last_taken next) last).1) r, omega arith); bytes = omega arith }))
  where
    room : (last : Bool) → last ≡ false → cond last None (room_refusal rows key (block_bytes (requests t.later) ++ bytes_taken (next_in t frame))) ≡ None
        → length (block_bytes (requests t.later) ++ bytes_taken (next_in t frame)) ≤ capacity_at rows key + 7 * 0
    room true l r = absurd (false≢true (sym l))
    room false l r =
        let over : nat_lt (capacity_at rows key) (length (block_bytes (requests t.later) ++ bytes_taken (next_in t frame))) ≡ false = not_refused (nat_lt (capacity_at rows key) (length (block_bytes (requests t.later) ++ bytes_taken (next_in t frame)))) 0x06070012 r in
        grind (arith, nat_tests)

-- what is open after a frame inside a sub-block
pub frame_step : (rows : Rows) (contents : Contents) (key : Key) (size : Option ℕ) (t : Transfer) (frame : List ℕ)
    → request_in t.begin.request ≡ Some (BlockDownloadInitiate key size) → has_last (requests t.later) ≡ false → IsBlockDownload (capacity_at rows key) (requests t.later) → length frame ≡ 8
    → StepsTo rows (after_frame rows (receiving key size t) size (taken_in t) frame) (extended (exchange frame contents (sub_block_answers rows (receiving key size t) (taken_in t) frame)) t)
frame_step rows contents key size t frame e h u n = by_command (command frame == 0x80) refl (ends_sub_block frame) refl
  where
    by_command : (abort : Bool) → (command frame == 0x80) ≡ abort → (ends : Bool) → ends_sub_block frame ≡ ends
        → StepsTo rows (cond abort None (cond ends (unless (sub_block_refusal rows (receiving key size t) (taken_in t) frame) (opened_at key (stage_after_frame size (taken_in t) frame) (held_with (block_bytes (requests t.later)) (taken_in t) frame)))
        (opened_at key (SubBlock size (taken_with (taken_in t) frame)) (held_with (block_bytes (requests t.later)) (taken_in t) frame))))
        (extended (exchange frame contents (cond ends (unless_refused (sub_block_refusal rows (receiving key size t) (taken_in t) frame) key (Response (BlockDownloadAcknowledge (taken_with (taken_in t) frame) 127) ∷ [])) [])) t)
    by_command true c ends s = to_nothing rows None _ (extended_inside (exchange frame contents (cond ends (unless_refused (sub_block_refusal rows (receiving key size t) (taken_in t) frame) key (Response (BlockDownloadAcknowledge (taken_with (taken_in t) frame) 127) ∷ [])) [])) t key size true e h (rw c refl)) refl
    by_command false c true s = ended rows contents key size t frame e h u n c s _ refl
    by_command false c false s = kept rows contents key size t frame e h u n c s
