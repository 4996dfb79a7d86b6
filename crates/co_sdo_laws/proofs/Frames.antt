-- What is written of a transfer's requests and answers is read again.
use Rattle.std.proofs.Common.{◌≡◌, ℕ, ◌+◌, ◌-◌, ◌*◌, ◌/◌, ◌%◌, ◌<◌, ◌≤◌, Bool, true, false, cond, List, length, take, drop, Option, Some, None, refl, ap, arith, length-append}
use Rattle.std.specs.Prelude.{replicate, ◌==◌, nat_le}
use Rattle.std.proofs.lemmas.List.{length-replicate, take-append-le, take_all}
use Rattle.std.proofs.lemmas.Bool.Decides.{nat_tests}
use Rattle.co_value.specs.declared.key.Key.{Key}
use Rattle.co_value.specs.Numbers.{unsigned_of, low_bytes}
use Rattle.co_frame.specs.declared.sdo_request.SdoRequest.TheVariants.{DownloadExpedited, DownloadInitiate, DownloadSegment, Upload, UploadSegment, BlockUploadInitiate, BlockUploadEnd, BlockUploadAcknowledge, BlockUploadStart, BlockDownloadInitiate, BlockDownloadEnd}
use Rattle.co_frame.specs.declared.sdo_request.ExpeditedData.TheVariants.{Indicated}
use Rattle.co_frame.specs.declared.block_segment.BlockSegment.{BlockSegment}
use Rattle.co_frame.specs.BlockSegments.{block_segment_in, block_segment_bytes}
use Rattle.co_frame.specs.declared.sdo_response.SdoResponse.TheVariants.{DownloadDone, DownloadSegmentDone, UploadExpedited, UploadInitiated, UploadSegment as SegmentSent, BlockDownloadInitiated, BlockDownloadDone, BlockDownloadAcknowledge, BlockUploadInitiated, BlockUploadEnd as UploadEnd}
use Rattle.co_frame.specs.SdoFields.{padded, specifier, has_bit, key_in, unused_of_segment, unused_of_expedited}
use Rattle.co_frame.specs.SdoRequests.{request_row_in, request_in, request_bytes}
use Rattle.co_frame.specs.SdoResponses.{response_row_in, response_in, response_bytes}

-- ---- numbers

two_bytes : (x : ℕ) → x < 65536 → unsigned_of (low_bytes 2 x) ≡ x
two_bytes x h = omega arith

four_bytes : (x : ℕ) → x < 4294967296 → unsigned_of (low_bytes 4 x) ≡ x
four_bytes x h = omega arith

-- ---- segments

-- the command byte of a segment with m unused bytes
abbrev pub segment_command : Bool → ℕ → Bool → ℕ
segment_command toggle m last = cond toggle 16 0 + 2 * m + cond last 1 0

-- its parts
pub record IsCommand (toggle last : Bool) (m : ℕ) : Type 0 where
  pub top : segment_command toggle m last / 32 ≡ 0
  pub toggles : (segment_command toggle m last / 16 % 2 == 1) ≡ toggle
  pub ends : (segment_command toggle m last / 1 % 2 == 1) ≡ last
  pub unused : segment_command toggle m last / 2 % 8 ≡ m

pub command_of : (toggle last : Bool) (m : ℕ) → m ≤ 7 → IsCommand toggle last m
command_of true true m h = record { top = omega arith; toggles = grind (arith, nat_tests); ends = grind (arith, nat_tests); unused = omega arith }
command_of true false m h = record { top = omega arith; toggles = grind (arith, nat_tests); ends = grind (arith, nat_tests); unused = omega arith }
command_of false true m h = record { top = omega arith; toggles = grind (arith, nat_tests); ends = grind (arith, nat_tests); unused = omega arith }
command_of false false m h = record { top = omega arith; toggles = grind (arith, nat_tests); ends = grind (arith, nat_tests); unused = omega arith }

pub padded_length : (xs : List ℕ) (n : ℕ) → length xs ≤ n → length (padded n xs) ≡ n
padded_length xs n h = simp (length-append, length-replicate) (omega arith)

padded_taken : (xs : List ℕ) (n : ℕ) → length xs ≤ n → take (n - (n - length xs)) (padded n xs) ≡ xs
padded_taken xs n h =
    let all : n - (n - length xs) ≡ length xs = omega arith in
    let room : length xs ≤ length xs = omega arith in
    rw (all, take-append-le (length xs) xs (replicate (n - length xs) 0) room) (take_all (length xs) xs room)

-- bytes whose parts are those of a download's segment
request_segment : (bytes : List ℕ) (toggle : Bool) (items : List ℕ) (last : Bool) → length bytes ≡ 8 → specifier bytes ≡ 0 → has_bit 4 bytes ≡ toggle
    → take (7 - unused_of_segment bytes) (drop 1 bytes) ≡ items → has_bit 0 bytes ≡ last → request_in bytes ≡ Some (DownloadSegment toggle (record { items = items }) last)
unfolding request_row_in
request_segment bytes toggle items last n top t i l = rw (n, top, t, l) (ap (λ (xs : List ℕ). Some (DownloadSegment toggle (record { items = xs }) last)) i)

pub segment_read : (toggle : Bool) (items : List ℕ) (last : Bool) → length items ≤ 7
    → request_in (request_bytes (DownloadSegment toggle (record { items = items }) last)) ≡ Some (DownloadSegment toggle (record { items = items }) last)
segment_read toggle items last h =
    let c = command_of toggle last (7 - length items) (omega arith) in
    request_segment (request_bytes (DownloadSegment toggle (record { items = items }) last)) toggle items last
    (let n = padded_length items 7 h in omega (arith, n)) c.top c.toggles
    (rw c.unused (padded_taken items 7 h)) c.ends

-- ---- downloads

pub initiate_read : (key : Key) (size : ℕ) → key.index < 65536 → size < 4294967296 → request_in (request_bytes (DownloadInitiate key (Some size))) ≡ Some (DownloadInitiate key (Some size))
unfolding request_row_in
initiate_read key size k s = rw (two_bytes key.index k, four_bytes size s) refl

-- the size that an initiate request is read to indicate
abbrev pub size_read : Option ℕ → Option ℕ
size_read None = None
size_read (Some size) = Some (unsigned_of (low_bytes 4 size))

pub small_size : (size : ℕ) → size < 4294967296 → size_read (Some size) ≡ Some size
small_size size s = ap (λ (n : ℕ). Some n) (four_bytes size s)

pub begin_read : (key : Key) (size : Option ℕ) → key.index < 65536
    → request_in (request_bytes (DownloadInitiate key size)) ≡ Some (DownloadInitiate key (size_read size))
unfolding request_row_in
begin_read key None k = rw (two_bytes key.index k) refl
begin_read key (Some size) k = rw (two_bytes key.index k) refl

pub begin_long : (key : Key) (size : Option ℕ) → length (request_bytes (DownloadInitiate key size)) ≡ 8
begin_long key None = refl
begin_long key (Some size) = refl

pub done_read : (key : Key) → key.index < 65536 → response_in (response_bytes (DownloadDone key)) ≡ Some (DownloadDone key)
unfolding response_row_in
done_read key k = rw (two_bytes key.index k) refl

pub segment_done_read : (toggle : Bool) → response_in (response_bytes (DownloadSegmentDone toggle)) ≡ Some (DownloadSegmentDone toggle)
unfolding response_row_in
segment_done_read true = refl
segment_done_read false = refl

pub segment_long : (toggle : Bool) (items : List ℕ) (last : Bool) → length items ≤ 7 → length (request_bytes (DownloadSegment toggle (record { items = items }) last)) ≡ 8
segment_long toggle items last h = let n = padded_length items 7 h in omega (arith, n)

-- ---- expedited transfers

-- the command byte of expedited data with m unused bytes
abbrev pub expedited_command : ℕ → ℕ → ℕ
expedited_command top m = 32 * top + (4 * m + 3)

pub expedited_top : (top m : ℕ) → m ≤ 7 → expedited_command top m / 32 ≡ top
expedited_top top m h = omega arith

pub expedited_set : (top m : ℕ) → m ≤ 7 → (expedited_command top m / 2 % 2 == 1) ≡ true
expedited_set top m h = grind (arith, nat_tests)

expedited_indicated : (top m : ℕ) → m ≤ 3 → (expedited_command top m / 1 % 2 == 1) ≡ true
expedited_indicated top m h = grind (arith, nat_tests)

expedited_unused : (top m : ℕ) → m ≤ 3 → expedited_command top m / 4 % 4 ≡ m
expedited_unused top m h = omega arith

request_expedited : (bytes : List ℕ) (key : Key) (items : List ℕ) → length bytes ≡ 8 → specifier bytes ≡ 1 → has_bit 1 bytes ≡ true → has_bit 0 bytes ≡ true → key_in bytes ≡ key
    → take (4 - unused_of_expedited bytes) (drop 4 bytes) ≡ items → request_in bytes ≡ Some (DownloadExpedited key (Indicated (record { items = items })))
unfolding request_row_in
request_expedited bytes key items n top e i k part = rw (n, top, e, i, k) (ap (λ (xs : List ℕ). Some (DownloadExpedited key (Indicated (record { items = xs })))) part)

response_expedited : (bytes : List ℕ) (key : Key) (items : List ℕ) → length bytes ≡ 8 → specifier bytes ≡ 2 → has_bit 1 bytes ≡ true → has_bit 0 bytes ≡ true → key_in bytes ≡ key
    → take (4 - unused_of_expedited bytes) (drop 4 bytes) ≡ items → response_in bytes ≡ Some (UploadExpedited key (Indicated (record { items = items })))
unfolding response_row_in
response_expedited bytes key items n top e i k part = rw (n, top, e, i, k) (ap (λ (xs : List ℕ). Some (UploadExpedited key (Indicated (record { items = xs })))) part)

pub expedited_read : (key : Key) (items : List ℕ) → key.index < 65536 → 1 ≤ length items → length items ≤ 4
    → request_in (request_bytes (DownloadExpedited key (Indicated (record { items = items })))) ≡ Some (DownloadExpedited key (Indicated (record { items = items })))
expedited_read key items k some few =
    let m : 4 - length items ≤ 3 = omega arith in
    request_expedited (request_bytes (DownloadExpedited key (Indicated (record { items = items })))) key items
    (let n = padded_length items 4 few in omega (arith, n)) (expedited_top 1 (4 - length items) (omega arith)) (expedited_set 1 (4 - length items) (omega arith)) (expedited_indicated 1 (4 - length items) m)
    (rw (two_bytes key.index k) refl) (rw (expedited_unused 1 (4 - length items) m) (padded_taken items 4 few))

pub expedited_long : (key : Key) (items : List ℕ) → length items ≤ 4 → length (request_bytes (DownloadExpedited key (Indicated (record { items = items })))) ≡ 8
expedited_long key items few = let n = padded_length items 4 few in omega (arith, n)

pub expedited_sent_read : (key : Key) (items : List ℕ) → key.index < 65536 → 1 ≤ length items → length items ≤ 4
    → response_in (response_bytes (UploadExpedited key (Indicated (record { items = items })))) ≡ Some (UploadExpedited key (Indicated (record { items = items })))
expedited_sent_read key items k some few =
    let m : 4 - length items ≤ 3 = omega arith in
    response_expedited (response_bytes (UploadExpedited key (Indicated (record { items = items })))) key items
    (let n = padded_length items 4 few in omega (arith, n)) (expedited_top 2 (4 - length items) (omega arith)) (expedited_set 2 (4 - length items) (omega arith)) (expedited_indicated 2 (4 - length items) m)
    (rw (two_bytes key.index k) refl) (rw (expedited_unused 2 (4 - length items) m) (padded_taken items 4 few))

-- ---- uploads

pub upload_read : (key : Key) → key.index < 65536 → request_in (request_bytes (Upload key)) ≡ Some (Upload key)
unfolding request_row_in
upload_read key k = rw (two_bytes key.index k) refl

pub next_read : (toggle : Bool) → request_in (request_bytes (UploadSegment toggle)) ≡ Some (UploadSegment toggle)
unfolding request_row_in
next_read true = refl
next_read false = refl

pub upload_initiated_read : (key : Key) (size : ℕ) → key.index < 65536 → size < 4294967296 → response_in (response_bytes (UploadInitiated key (Some size))) ≡ Some (UploadInitiated key (Some size))
unfolding response_row_in
upload_initiated_read key size k s = rw (two_bytes key.index k, four_bytes size s) refl

response_segment : (bytes : List ℕ) (toggle : Bool) (items : List ℕ) (last : Bool) → length bytes ≡ 8 → specifier bytes ≡ 0 → has_bit 4 bytes ≡ toggle
    → take (7 - unused_of_segment bytes) (drop 1 bytes) ≡ items → has_bit 0 bytes ≡ last → response_in bytes ≡ Some (SegmentSent toggle (record { items = items }) last)
unfolding response_row_in
response_segment bytes toggle items last n top t i l = rw (n, top, t, l) (ap (λ (xs : List ℕ). Some (SegmentSent toggle (record { items = xs }) last)) i)

pub segment_sent_read : (toggle : Bool) (items : List ℕ) (last : Bool) → length items ≤ 7
    → response_in (response_bytes (SegmentSent toggle (record { items = items }) last)) ≡ Some (SegmentSent toggle (record { items = items }) last)
segment_sent_read toggle items last h =
    let c = command_of toggle last (7 - length items) (omega arith) in
    response_segment (response_bytes (SegmentSent toggle (record { items = items }) last)) toggle items last
    (let n = padded_length items 7 h in omega (arith, n)) c.top c.toggles
    (rw c.unused (padded_taken items 7 h)) c.ends

-- ---- block transfers

pub block_begin_read : (key : Key) (size : Option ℕ) → key.index < 65536
    → request_in (request_bytes (BlockDownloadInitiate key size)) ≡ Some (BlockDownloadInitiate key (size_read size))
unfolding request_row_in
block_begin_read key None k = rw (two_bytes key.index k) refl
block_begin_read key (Some size) k = rw (two_bytes key.index k) refl

pub block_begin_long : (key : Key) (size : Option ℕ) → length (request_bytes (BlockDownloadInitiate key size)) ≡ 8
block_begin_long key None = refl
block_begin_long key (Some size) = refl

pub block_initiated_read : (key : Key) (size : ℕ) → key.index < 65536 → response_in (response_bytes (BlockDownloadInitiated key size)) ≡ Some (BlockDownloadInitiated key size)
unfolding response_row_in
block_initiated_read key size k = rw (two_bytes key.index k) refl

pub block_done_read : response_in (response_bytes BlockDownloadDone) ≡ Some BlockDownloadDone
unfolding response_row_in
block_done_read = refl

pub acknowledged_read : (sequence size : ℕ) → response_in (response_bytes (BlockDownloadAcknowledge sequence size)) ≡ Some (BlockDownloadAcknowledge sequence size)
unfolding response_row_in
acknowledged_read sequence size = refl

-- the command byte of a block transfer's end with m unused bytes
end_bit : (m : ℕ) → m ≤ 7 → ((32 * 6 + (4 * m + 1)) / 1 % 2 == 1) ≡ true
end_bit m h = grind (arith, nat_tests)

end_top : (m : ℕ) → m ≤ 7 → (32 * 6 + (4 * m + 1)) / 32 ≡ 6
end_top m h = omega arith

end_unused : (m : ℕ) → m ≤ 7 → (32 * 6 + (4 * m + 1)) / 4 % 8 ≡ m
end_unused m h = omega arith

pub block_end_read : (m : ℕ) → m ≤ 7 → request_in (request_bytes (BlockDownloadEnd m)) ≡ Some (BlockDownloadEnd m)
unfolding request_row_in
block_end_read m h = rw (end_top m h, end_bit m h, end_unused m h) refl

pub upload_end_read : (m : ℕ) → m ≤ 7 → response_in (response_bytes (UploadEnd m)) ≡ Some (UploadEnd m)
unfolding response_row_in
upload_end_read m h = rw (end_top m h, end_bit m h, end_unused m h) refl

pub block_upload_read : (key : Key) (size threshold : ℕ) → key.index < 65536 → request_in (request_bytes (BlockUploadInitiate key size threshold)) ≡ Some (BlockUploadInitiate key size threshold)
unfolding request_row_in
block_upload_read key size threshold k = rw (two_bytes key.index k) refl

pub block_upload_initiated_read : (key : Key) (size : ℕ) → key.index < 65536 → size < 4294967296 → response_in (response_bytes (BlockUploadInitiated key (Some size))) ≡ Some (BlockUploadInitiated key (Some size))
unfolding response_row_in
block_upload_initiated_read key size k s = rw (two_bytes key.index k, four_bytes size s) refl

pub start_read : request_in (request_bytes BlockUploadStart) ≡ Some BlockUploadStart
unfolding request_row_in
start_read = refl

pub acknowledge_read : (sequence size : ℕ) → request_in (request_bytes (BlockUploadAcknowledge sequence size)) ≡ Some (BlockUploadAcknowledge sequence size)
unfolding request_row_in
acknowledge_read sequence size = refl

pub client_end_read : request_in (request_bytes BlockUploadEnd) ≡ Some BlockUploadEnd
unfolding request_row_in
client_end_read = refl

-- the first byte of a block segment
number_bits : (last : Bool) (number : ℕ) → number < 128 → ((cond last 128 0 + number) % 128 ≡ number) × (((cond last 128 0 + number) / 128 == 1) ≡ last)
number_bits true number h = (omega arith, grind (arith, nat_tests))
number_bits false number h = (omega arith, grind (arith, nat_tests))

pub block_segment_read : (segment : BlockSegment) → 1 ≤ segment.sequence → segment.sequence < 128 → length segment.bytes ≡ 7 → block_segment_in (block_segment_bytes segment) ≡ Some segment
block_segment_read segment some few n =
    let bits = number_bits segment.last segment.sequence few in
    let one : nat_le 1 segment.sequence ≡ true = grind (arith, nat_tests) in
    rw (n, bits.0, bits.1, one) refl
