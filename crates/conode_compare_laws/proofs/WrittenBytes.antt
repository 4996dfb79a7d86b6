-- What is written into the entries are bytes, numbers below 256, where frames and the application's writes have bytes: the data of
-- downloads and of RPDOs, errors, and what a reset restores.
use Rattle.std.proofs.Common.{ℕ, zero, suc, ◌+◌, ◌-◌, ◌/◌, ◌%◌, Bool, true, false, List, [], ◌∷◌, ◌++◌, length, take, drop, Option, Some, None}
use Rattle.std.specs.Prelude.{if◌then◌else◌, ◌==◌, ◌&&◌, ◌||◌, nat_le, nat_lt, is_some, slice_index, IfSome}
use Rattle.std.specs.List.{AllByRecursion}
use Rattle.std.specs.Option.{option_map_or}
use Rattle.co_value.specs.declared.key.Key.{Key}
use Rattle.co_value.specs.Keys.{same_key}
use Rattle.co_value.specs.Numbers.{AreBytes, low_bytes}
use Rattle.co_value.proofs.Bytes.{low_bytes-AreBytes}
use Rattle.co_frame.specs.BlockSegments.{block_segment_in}
use Rattle.co_frame.specs.SdoFields.{has_bit, key_in, specifier, subcommand}
use Rattle.co_frame.specs.SdoRequests.{request_in, request_row_in}
use Rattle.co_frame.specs.declared.block_segment.BlockSegment.{BlockSegment}
use Rattle.co_frame.specs.declared.sdo_request.ExpeditedData.{ExpeditedData}
use Rattle.co_frame.specs.declared.sdo_request.ExpeditedData.TheVariants.{Indicated, NotIndicated}
use Rattle.co_frame.specs.declared.sdo_request.SdoRequest.{SdoRequest}
use Rattle.co_frame.specs.declared.sdo_request.SdoRequest.TheVariants.{BlockDownloadInitiate, DownloadExpedited, DownloadInitiate, DownloadSegment}
use Rattle.co_dict.specs.declared.area.Area.{Area}
use Rattle.co_dict.specs.ErrorField.{error_key, error_room, moved_bytes, moved_down, next_count, pushed}
use Rattle.co_dict.specs.Rows.{Contents, Rows, is_in_area, restored, with_number, written}
use Rattle.co_dict.specs.Stores.{Description}
use Rattle.co_sdo.specs.Completed.{completed_by, download_with, is_expedited, permitted, set_by, unless}
use Rattle.co_sdo.specs.Downloads.{Download, download_after, expedited_part, is_whole_download, segment_part, segments_joined, sub_blocks_joined, whole_download}
use Rattle.co_sdo.specs.Log.{Dropped, Event, Exchange, Exchanged, Log, Ticked, TimedOut, exchanges, requests}
use Rattle.co_sdo.specs.OpenTransfers.{Since, Transfer, and_event, begins, has_cut, is_finished, is_inside, open_since, open_transfer, since_initiate, transfer_of}
use Rattle.co_sdo.specs.Refused.{completion_refusal}
use Rattle.co_sdo.specs.SubBlocks.{block_bytes, segment_taken, sub_block, taken_after, taken_segments, bytes_taken}
use Rattle.co_pdo.specs.declared.mapping.Mapped.{Mapped}
use Rattle.co_pdo.specs.declared.mapping.Mapped.TheVariants.{Dummy, Entry}
use Rattle.co_pdo.specs.Images.{any_outside, contents_after, with_parts, written_in_order}
use Rattle.co_pdo.specs.Mappings.{total_of}

-- ---- parts of bytes

pub bytes_append : (a b : List ℕ) → AreBytes a → AreBytes b → AreBytes (a ++ b)
bytes_append [] b h g = g
bytes_append (x ∷ a) b h g = (h.0, bytes_append a b h.1 g)

pub bytes_take : (n : ℕ) (a : List ℕ) → AreBytes a → AreBytes (take n a)
bytes_take zero a h = tt
bytes_take (suc n) [] h = tt
bytes_take (suc n) (x ∷ a) h = (h.0, bytes_take n a h.1)

pub bytes_drop : (n : ℕ) (a : List ℕ) → AreBytes a → AreBytes (drop n a)
bytes_drop zero a h = h
bytes_drop (suc n) [] h = tt
bytes_drop (suc n) (x ∷ a) h = bytes_drop n a h.1

module _ {A : Type 0} (P : A → Type 0) where
  pub both : (b : Bool) (x y : A) → P x → P y → P (if b then x else y)
  both true x y p q = p
  both false x y p q = q

  pub some_both : (b : Bool) (x y : Option A) → IfSome x P → IfSome y P → IfSome (if b then x else y) P
  some_both true x y p q = p
  some_both false x y p q = q

-- ---- the data of requests

abbrev HasData : SdoRequest → Type 0
HasData (DownloadExpedited key (Indicated counted)) = AreBytes counted.items
HasData (DownloadExpedited key (NotIndicated four)) = AreBytes four
HasData (DownloadSegment toggle segment last) = AreBytes segment.items
HasData _ = Unit {0}

has_data : (frame : List ℕ) → AreBytes frame → IfSome (request_in frame) HasData
unfolding request_row_in
has_data frame h =
    let P : SdoRequest → Type 0 = λ request. HasData request in
    let E : ExpeditedData → Type 0 = λ given. HasData (DownloadExpedited (key_in frame) given) in
    some_both P (length frame == 8) _ _
    (some_both P (specifier frame == 0) _ _ (bytes_take _ (drop 1 frame) (bytes_drop 1 frame h))
    (some_both P (specifier frame == 1) _ _ (both P (has_bit 1 frame) _ _ (both E (has_bit 0 frame) _ _ (bytes_take _ (drop 4 frame) (bytes_drop 4 frame h)) (bytes_drop 4 frame h)) tt)
    (some_both P (specifier frame == 2) _ _ tt
    (some_both P (specifier frame == 3) _ _ tt
    (some_both P (specifier frame == 4) _ _ tt
    (some_both P (specifier frame == 5) _ _
    (both P (subcommand frame == 0) _ _ tt (both P (subcommand frame == 1) _ _ tt (both P (subcommand frame == 2) _ _ tt tt)))
    (some_both P (specifier frame == 6) _ _ (both P (has_bit 0 frame) _ _ tt tt)
    tt)))))))
    tt

expedited_bytes : (rows : Rows) (key : Key) (given : ExpeditedData) → HasData (DownloadExpedited key given) → AreBytes (expedited_part rows key given)
expedited_bytes rows key (Indicated counted) h = h
expedited_bytes rows key (NotIndicated four) h = bytes_take _ four h

segment_bytes : (request : Option SdoRequest) → IfSome request HasData → AreBytes (segment_part request)
segment_bytes (Some (DownloadSegment toggle segment last)) h = h
segment_bytes _ h = tt

abbrev AllBytes : List (List ℕ) → Type 0
AllBytes frames = AllByRecursion AreBytes frames

joined_bytes : (frames : List (List ℕ)) → AllBytes frames → AreBytes (segments_joined frames)
joined_bytes [] h = tt
joined_bytes (frame ∷ older) h = bytes_append (segments_joined older) (segment_part (request_in frame)) (joined_bytes older h.1) (segment_bytes (request_in frame) (has_data frame h.0))

abbrev segment_of : List ℕ → BlockSegment
segment_of frame = record { last = slice_index frame 0 / 128 == 1; sequence = slice_index frame 0 % 128; bytes = drop 1 frame }

in_segment : (frame : List ℕ) → AreBytes frame → IfSome (block_segment_in frame) (λ s. AreBytes s.bytes)
in_segment frame h = by (length frame == 8 && nat_le 1 (slice_index frame 0 % 128))
  where
    by : (b : Bool) → IfSome (if b then Some (segment_of frame) else None) (λ (s : BlockSegment). AreBytes s.bytes)
    by true = bytes_drop 1 frame h
    by false = tt

taken_bytes : (count : ℕ) (frame : List ℕ) → AreBytes frame → AreBytes (bytes_taken (segment_taken count (block_segment_in frame)))
taken_bytes count frame h = by (block_segment_in frame) (in_segment frame h)
  where
    one : (segment : BlockSegment) (b : Bool) → AreBytes segment.bytes → AreBytes (bytes_taken (if b then Some segment else None))
    one segment true g = g
    one segment false g = tt

    by : (o : Option BlockSegment) → IfSome o (λ s. AreBytes s.bytes) → AreBytes (bytes_taken (segment_taken count o))
    by None g = tt
    by (Some segment) g = one segment (segment.sequence == count + 1) g

blocks_bytes : (frames : List (List ℕ)) → AllBytes frames → AreBytes (block_bytes frames)
blocks_bytes [] h = tt
blocks_bytes (frame ∷ older) h = bytes_append (block_bytes older) (bytes_taken (taken_after older frame)) (blocks_bytes older h.1) (taken_bytes (length (taken_segments (sub_block older))) frame h.0)

all_blocks_bytes : (frames : List (List ℕ)) → AllBytes frames → AreBytes (sub_blocks_joined frames)
all_blocks_bytes [] h = tt
all_blocks_bytes (frame ∷ older) h = bytes_take _ (block_bytes older) (blocks_bytes older h.1)

-- ---- downloads

abbrev pub HasBytesIn : Download → Type 0
HasBytesIn w = AreBytes w.bytes

after_bytes : (rows : Rows) (request : Option SdoRequest) (later : List (List ℕ)) → IfSome request HasData → AllBytes later → IfSome (download_after rows request later) HasBytesIn
after_bytes rows (Some (DownloadExpedited key given)) later h g = expedited_bytes rows key given h
after_bytes rows (Some (DownloadInitiate key size)) later h g = joined_bytes later g
after_bytes rows (Some (BlockDownloadInitiate key size)) later h g = all_blocks_bytes later g
after_bytes rows _ later h g = tt

whole_bytes : (rows : Rows) (begin : List ℕ) (later : List (List ℕ)) → AreBytes begin → AllBytes later → IfSome (whole_download rows begin later) HasBytesIn
whole_bytes rows begin later h g = some_both HasBytesIn (is_whole_download begin later) (download_after rows (request_in begin) later) None (after_bytes rows (request_in begin) later (has_data begin h) g) tt

-- what the log of a channel has
abbrev AreIn : List Exchange → Type 0
AreIn xs = AllByRecursion (λ x. AreBytes x.request) xs

requests_bytes : (xs : List Exchange) → AreIn xs → AllBytes (requests xs)
requests_bytes [] h = tt
requests_bytes (x ∷ xs) h = (h.0, requests_bytes xs h.1)

abbrev InTransfer : Transfer → Type 0
InTransfer t = AreBytes t.begin.request × AreIn t.later

with_bytes : (rows : Rows) (t : Option Transfer) (frame : List ℕ) → IfSome t InTransfer → AreBytes frame → IfSome (download_with rows t frame) HasBytesIn
with_bytes rows None frame h g = tt
with_bytes rows (Some t) frame h g = whole_bytes rows t.begin.request (frame ∷ requests t.later) h.0 (g, requests_bytes t.later h.1)

completed_bytes : (rows : Rows) (t : Option Transfer) (frame : List ℕ) → IfSome t InTransfer → AreBytes frame → IfSome (completed_by rows t frame) HasBytesIn
completed_bytes rows t frame h g =
    some_both HasBytesIn (option_map_or is_inside t false) None (if is_expedited (request_in frame) then whole_download rows frame [] else download_with rows t frame) tt
    (some_both HasBytesIn (is_expedited (request_in frame)) (whole_download rows frame []) (download_with rows t frame) (whole_bytes rows frame [] g tt) (with_bytes rows t frame h g))

permitted_bytes : (d : Description) (c : Contents) (w : Option Download) → IfSome w HasBytesIn → IfSome (permitted d c w) HasBytesIn
permitted_bytes d c None h = tt
permitted_bytes d c (Some w) h = by (completion_refusal d c w.key w.indicated w.bytes)
  where
    by : (o : Option ℕ) → IfSome (unless o (Some w)) HasBytesIn
    by None = h
    by (Some code) = tt

-- ---- logs

abbrev pub EventHasBytes : Event → Type 0
EventHasBytes (Exchanged x) = AreBytes x.request
EventHasBytes Ticked = Unit {0}
EventHasBytes (TimedOut answers) = Unit {0}
EventHasBytes Dropped = Unit {0}

abbrev pub LogHasBytes : Log → Type 0
LogHasBytes log = AllByRecursion (λ e. EventHasBytes e) log

exchanges_bytes : (log : Log) → LogHasBytes log → AreIn (exchanges log)
exchanges_bytes [] h = tt
exchanges_bytes (Exchanged x ∷ log) h = (h.0, exchanges_bytes log h.1)
exchanges_bytes (Ticked ∷ log) h = exchanges_bytes log h.1
exchanges_bytes (TimedOut answers ∷ log) h = exchanges_bytes log h.1
exchanges_bytes (Dropped ∷ log) h = exchanges_bytes log h.1

abbrev SinceHasBytes : Since → Type 0
SinceHasBytes s = AreBytes s.begin.request × LogHasBytes s.later

and_bytes : (e : Event) (s : Option Since) → EventHasBytes e → IfSome s SinceHasBytes → IfSome (and_event e s) SinceHasBytes
and_bytes e None g h = tt
and_bytes e (Some s) g h = (h.0, (g, h.1))

since_bytes : (log : Log) → LogHasBytes log → IfSome (since_initiate log) SinceHasBytes
since_bytes [] h = tt
since_bytes (Exchanged x ∷ log) h =
    some_both SinceHasBytes (begins (open_since (since_initiate log)) x.request) (Some (record { begin = x; later = [] })) (and_event (Exchanged x) (since_initiate log)) (h.0, tt) (and_bytes (Exchanged x) (since_initiate log) h.0 (since_bytes log h.1))
since_bytes (Ticked ∷ log) h = and_bytes Ticked (since_initiate log) tt (since_bytes log h.1)
since_bytes (TimedOut answers ∷ log) h = and_bytes (TimedOut answers) (since_initiate log) tt (since_bytes log h.1)
since_bytes (Dropped ∷ log) h = and_bytes Dropped (since_initiate log) tt (since_bytes log h.1)

open_bytes : (s : Option Since) → IfSome s SinceHasBytes → IfSome (open_since s) InTransfer
open_bytes None h = tt
open_bytes (Some s) h = some_both InTransfer (has_cut s.begin s.later || is_finished (transfer_of s)) None (Some (transfer_of s)) tt (h.0, exchanges_bytes s.later h.1)

pub set_bytes : (d : Description) (c : Contents) (log : Log) (frame : List ℕ) → LogHasBytes log → AreBytes frame → IfSome (set_by d c log frame) HasBytesIn
set_bytes d c log frame h g =
    permitted_bytes d c (completed_by d.rows (open_transfer log) frame) (completed_bytes d.rows (open_transfer log) frame (open_bytes (since_initiate log) (since_bytes log h)) g)

-- ---- the entries

pub record HoldBytes (c : Contents) : Type 0 where
  pub entry : (key : Key) → IfSome (c key) AreBytes

pub written_bytes : (c : Contents) (key : Key) (bytes : List ℕ) → AreBytes bytes → HoldBytes c → HoldBytes (written c key bytes)
written_bytes c key bytes g h = record { entry = λ other. some_both AreBytes (same_key other key) (Some bytes) (c other) g (h.entry other) }

pub number_bytes : (rows : Rows) (key : Key) (n : ℕ) (c : Contents) → HoldBytes c → HoldBytes (with_number rows key n c)
number_bytes rows key n c h = both HoldBytes (is_some (rows key)) (written c key (low_bytes 1 n)) c (written_bytes c key (low_bytes 1 n) (low_bytes-AreBytes 1 n) h) h

moved_hold : (c : Contents) (first : List ℕ) (last : ℕ) → AreBytes first → HoldBytes c → HoldBytes (moved_down c first last)
moved_hold c first last g h = record {
  entry = λ key. some_both AreBytes ((key.index == 0x1003) && nat_le 1 key.sub && nat_le key.sub last) (moved_bytes c first key.sub) (c key)
      (some_both AreBytes (key.sub == 1) (Some first) (c (error_key (key.sub - 1))) g (h.entry (error_key (key.sub - 1)))) (h.entry key);
}

pub pushed_bytes : (rows : Rows) (c : Contents) (code : ℕ) → HoldBytes c → HoldBytes (pushed rows code c)
pushed_bytes rows c code h =
    both HoldBytes (nat_lt 0 (error_room rows)) (written (moved_down c (low_bytes 4 code) (error_room rows)) (error_key 0) (low_bytes 1 (next_count c (error_room rows)))) c
    (written_bytes (moved_down c (low_bytes 4 code) (error_room rows)) (error_key 0) (low_bytes 1 (next_count c (error_room rows))) (low_bytes-AreBytes 1 (next_count c (error_room rows)))
    (moved_hold c (low_bytes 4 code) (error_room rows) (low_bytes-AreBytes 4 code) h)) h

in_order_bytes : (mapping : List Mapped) (bytes : List ℕ) (c : Contents) → AreBytes bytes → HoldBytes c → HoldBytes (written_in_order c (with_parts mapping bytes))
in_order_bytes [] bytes c g h = h
in_order_bytes (Dummy w ∷ mapping) bytes c g h = in_order_bytes mapping (drop w bytes) c (bytes_drop w bytes g) h
in_order_bytes (Entry key w ∷ mapping) bytes c g h = in_order_bytes mapping (drop w bytes) (written c key (take w bytes)) (bytes_drop w bytes g) (written_bytes c key (take w bytes) (bytes_take w bytes g) h)

pub data_bytes : (rows : Rows) (mapping : List Mapped) (bytes : List ℕ) (c : Contents) → AreBytes bytes → HoldBytes c → HoldBytes (contents_after rows mapping bytes c)
data_bytes rows mapping bytes c g h = both HoldBytes (nat_lt (length bytes) (total_of mapping) || any_outside rows mapping bytes) c (written_in_order c (with_parts mapping bytes)) h (in_order_bytes mapping bytes c g h)

pub reset_bytes : (area : Area) (initial c : Contents) → HoldBytes initial → HoldBytes c → HoldBytes (restored area initial c)
reset_bytes area initial c g h = record { entry = λ key. some_both AreBytes (is_in_area area key) (initial key) (c key) (g.entry key) (h.entry key) }
