-- The segments of a transfer in blocks, whichever end sends them: their bytes, their frames, and what a receiver then holds.
use Rattle.std.proofs.Common.{◌≡◌, ℕ, zero, suc, ◌+◌, ◌-◌, ◌*◌, ◌/◌, ◌%◌, ◌<◌, ◌≤◌, Bool, true, false, cond, List, ◌∷◌, ◌++◌, length, take, drop, map, Option, Some, None, refl, sym, ap, ◌∙◌, arith, eqb, subst, append_assoc, append-nil, length-take, length-drop, length-append, ◌⊎◌, inl, inr}
use Rattle.std.specs.Prelude.{◌||◌, if◌then◌else◌, min, nat_lt, replicate, slice_index}
use Rattle.std.specs.Option.{option_map_or}
use Rattle.std.specs.List.{range_with_len}
use Rattle.std.proofs.lemmas.List.{length-replicate, take-append-le, take_all}
use Rattle.std.proofs.lemmas.Bool.{eqb-true, false≢true}
use Rattle.std.proofs.lemmas.Bool.Decides.{nat_tests}
use Rattle.co_frame.specs.SdoFields.{padded}
use Rattle.co_frame.specs.BlockSegments.{block_segment_in, block_segment_bytes, is_abort_in_sub_block}
use Rattle.co_frame.specs.declared.block_segment.BlockSegment.{BlockSegment}
use Rattle.co_sdo_client.specs.Segments.{part_after, segment_count, block_segment, sub_block_length}
use Rattle.co_sdo_client.specs.SubBlocks.{and_segment, ends_sub_block, is_last_taken, sub_block, taken_segments}
use Rattle.co_sdo_client.specs.Verdicts.{segment_next, taken_with, held_with}
use Rattle.co_sdo.specs.Downloads.{without}
use Rattle.co_sdo_laws.proofs.Frames.{padded_length, block_segment_read}
use Rattle.co_sdo_laws.proofs.Segments.{joined, part_small}
use Rattle.co_sdo_laws.proofs.Permits.{not_above}
use Rattle.co_sdo_laws.proofs.Blocks.{live}

-- ---- data

full_part : (v : List ℕ) (k : ℕ) → suc k < segment_count v → length (part_after k v) ≡ 7
full_part v k h = length-take 7 (drop (7 * k) v) ∙ (let n = length-drop (7 * k) v in omega arith)

-- a segment that isn't the last has seven bytes of the value
pub full_joined : (v : List ℕ) (k : ℕ) → suc k < segment_count v → take (7 * k) v ++ padded 7 (part_after k v) ≡ take (7 * suc k) v
full_joined v k h =
    let n = full_part v k h in
    rw (n, append-nil (part_after k v)) (joined v k)

part_length : (v : List ℕ) (k : ℕ) → length (part_after k v) ≡ min 7 (length v - 7 * k)
part_length v k = length-take 7 (drop (7 * k) v) ∙ ap (min 7) (length-drop (7 * k) v)

-- the bytes of all segments
abbrev pub all_held : List ℕ → ℕ → List ℕ
all_held v k = take (7 * k) v ++ padded 7 (part_after k v)

take_front : (xs zeros : List ℕ) → take (length xs) (xs ++ zeros) ≡ xs
take_front xs zeros = let room : length xs ≤ length xs = omega arith in rw (take-append-le (length xs) xs zeros room) (take_all (length xs) xs room)

-- without the unused ones they are the value
pub all_is : (v : List ℕ) (k : ℕ) → suc k ≡ segment_count v → without (7 * segment_count v - length v) (all_held v k) ≡ v
all_is v k h = all_cut v (part_after k v) (take (7 * k) v) (7 * segment_count v) (joined v k ∙ take_all (7 * suc k) v (omega arith)) (omega (arith, part_length v k)) (omega arith)
  where
    all_cut : (v part front : List ℕ) (n : ℕ) → front ++ part ≡ v → length v + (7 - length part) ≡ n → length v ≤ n → without (n - length v) (front ++ padded 7 part) ≡ v
    all_cut v part front n e m h =
        let zeros : List ℕ = replicate (7 - length part) 0 in
        let is : front ++ padded 7 part ≡ v ++ zeros = sym (append_assoc front part zeros) ∙ ap (λ (xs : List ℕ). xs ++ zeros) e in
        let z : length zeros ≡ 7 - length part = length-replicate (7 - length part) 0 in
        let long : length (v ++ zeros) ≡ length v + length zeros = length-append v zeros in
        let cut : length (v ++ zeros) - (n - length v) ≡ length v = omega arith in
        rw (is, cut) (take_front v zeros)

-- ---- frames

-- how many segments the bytes have, and how many a sub-block after so many; how many sub-blocks
abbrev pub total : List ℕ → ℕ
total v = segment_count v

abbrev pub size_after : List ℕ → ℕ → ℕ
size_after v a = sub_block_length v a 127

abbrev pub blocks : List ℕ → ℕ
blocks v = (total v + 126) / 127

-- how many bytes of the last segment are unused
abbrev pub unused : List ℕ → ℕ
unused v = 7 * total v - length v

-- segment n of the sub-block after so many
abbrev pub segment_at : List ℕ → ℕ → ℕ → List ℕ
segment_at v a n = block_segment_bytes (block_segment v a n)

-- so many of them, from segment n on
abbrev pub segments : List ℕ → ℕ → ℕ → ℕ → List (List ℕ)
segments v a n more = map (segment_at v a) (range_with_len n more)

abbrev pub segment_with : Bool → ℕ → List ℕ → BlockSegment
segment_with last number bytes = record { last = last; sequence = number; bytes = bytes }

-- the bytes of segment n, with c or without
abbrev pub data_at : List ℕ → ℕ → ℕ → List ℕ
data_at v a n = padded 7 (part_after (a + n - 1) v)

abbrev pub frame_with : List ℕ → ℕ → ℕ → Bool → List ℕ
frame_with v a n last = block_segment_bytes (segment_with last n (data_at v a n))

pub data_long : (v : List ℕ) (a n : ℕ) → length (data_at v a n) ≡ 7
data_long v a n = padded_length (part_after (a + n - 1) v) 7 (part_small (a + n - 1) v)

pub frame_is : (v : List ℕ) (a n : ℕ) (last : Bool) → eqb (a + n) (total v) ≡ last → segment_at v a n ≡ frame_with v a n last
frame_is v a n last l = rw l refl

pub frame_long : (v : List ℕ) (a n : ℕ) (last : Bool) → length (frame_with v a n last) ≡ 8
frame_long v a n last = let m = data_long v a n in omega (arith, m)

pub frame_read : (v : List ℕ) (a n : ℕ) (last : Bool) → 1 ≤ n → n < 128 → block_segment_in (frame_with v a n last) ≡ Some (segment_with last n (data_at v a n))
frame_read v a n last some few = block_segment_read (segment_with last n (data_at v a n)) some few (data_long v a n)

-- its first byte isn't that of an abort
pub other_byte : (last : Bool) (n : ℕ) → 1 ≤ n → n < 128 → eqb (cond last 128 0 + n) 128 ≡ false
other_byte true n some few = grind (arith, nat_tests)
other_byte false n some few = grind (arith, nat_tests)

no_cut : (v : List ℕ) (a n : ℕ) (last : Bool) → eqb (a + n) (total v) ≡ last → 1 ≤ n → n < 128 → is_abort_in_sub_block (segment_at v a n) ≡ false
no_cut v a n last l some few = rw (l, frame_long v a n last, other_byte last n some few) refl

pub live_segments : (v : List ℕ) (a n more : ℕ) → 1 ≤ n → n + more ≤ 128 → live (segments v a n more) ≡ segments v a n more
live_segments v a n zero some few = refl
live_segments v a n (suc more) some few =
    rw (no_cut v a n _ refl some (omega arith)) (ap (λ (xs : List (List ℕ)). segment_at v a n ∷ xs) (live_segments v a (n + 1) more (omega arith) (omega arith)))

-- the next segment's bytes follow those before it
pub next_joined : (v : List ℕ) (a t n : ℕ) → n ≡ t + 1 → a + n < total v → take (7 * (a + t)) v ++ data_at v a n ≡ take (7 * (a + (t + 1))) v
next_joined v a t n turn more =
    let last : a + n - 1 ≡ a + t = omega arith in
    let sum : suc (a + t) ≡ a + (t + 1) = omega arith in
    ap (λ (j : ℕ). take (7 * (a + t)) v ++ padded 7 (part_after j v)) last ∙ full_joined v (a + t) (omega arith) ∙ ap (λ (j : ℕ). take (7 * j) v) sum

pub last_joined : (v : List ℕ) (a t n : ℕ) → n ≡ t + 1 → a + n ≡ total v → take (7 * (a + t)) v ++ data_at v a n ≡ all_held v (total v - 1)
last_joined v a t n turn whole =
    let last : a + n - 1 ≡ total v - 1 = omega arith in
    let before : a + t ≡ total v - 1 = omega arith in
    ap (λ (j : ℕ). take (7 * (a + t)) v ++ padded 7 (part_after j v)) last ∙ ap (λ (j : ℕ). take (7 * j) v ++ padded 7 (part_after (total v - 1) v)) before

-- ---- undisturbed

-- the next segment of a sub-block comes, after whole ones
pub record InTurn (a t n : ℕ) : Type 0 where
  pub whole : a % 127 ≡ 0
  pub next : n ≡ t + 1

-- a whole sub-block after whole ones was taken
pub record IsWhole (v : List ℕ) (a t : ℕ) : Type 0 where
  pub whole : a % 127 ≡ 0
  pub size : t ≡ size_after v a
  pub within : a < total v

pub not_turn : (n t : ℕ) → eqb n (t + 1) ≡ false → n ≡ t + 1 → ⊥
not_turn n t e h = absurd (grind (arith, nat_tests))

-- a whole sub-block has 127 segments where others are left; so many have been acknowledged then
pub full : (a u n : ℕ) → a % 127 ≡ 0 → u ≡ min 127 (n - a) → a + u < n → (a + u) % 127 ≡ 0
full a u n h e under = let f : u ≡ 127 = omega arith in omega arith

pub full_count : (b a u n : ℕ) → a % 127 ≡ 0 → u ≡ min 127 (n - a) → a + u < n → suc (b + a / 127) ≡ b + (a + u) / 127
full_count b a u n h e under = let f : u ≡ 127 = omega arith in omega arith

pub last_count : (b a u n : ℕ) → a % 127 ≡ 0 → u ≡ min 127 (n - a) → a < n → a + u ≡ n → suc (b + a / 127) ≡ b + (n + 126) / 127
last_count b a u n h e under all = omega arith

-- ---- a receiver, whichever end it is: it has t segments of the sub-block after a, and segment n comes

-- a frame that ends its sub-block, or doesn't
pub record Reads (frame : List ℕ) (end : Bool) : Type 0 where
  pub long : length frame ≡ 8
  pub other : eqb (slice_index frame 0) 128 ≡ false
  pub ends : ends_sub_block frame ≡ end

reads : (v : List ℕ) (a n : ℕ) (last end : Bool) → 1 ≤ n → n < 128 → last || eqb n 127 ≡ end → Reads (frame_with v a n last) end
reads v a n last end some few e =
    record { long = frame_long v a n last; other = other_byte last n some few; ends = rw (frame_read v a n last some few) e }

-- others are left, and it has u of the sub-block then: undisturbed n
pub record Goes (p : Type 0) (v : List ℕ) (a t n : ℕ) (end : Bool) (frame : List ℕ) : Type 0 where
  pub reads : Reads frame end
  pub u : ℕ
  pub taken : taken_with t frame ≡ u
  pub more : is_last_taken (segment_next t frame) ≡ false
  pub held : held_with (take (7 * (a + t)) v) t frame ≡ take (7 * (a + u)) v
  pub under : a + u < total v
  pub next : p → u ≡ n

-- all were taken
pub record Completes (v : List ℕ) (a t n : ℕ) (frame : List ℕ) : Type 0 where
  pub reads : Reads frame true
  pub taken : taken_with t frame ≡ n
  pub last : is_last_taken (segment_next t frame) ≡ true
  pub held : held_with (take (7 * (a + t)) v) t frame ≡ all_held v (total v - 1)
  pub next : n ≡ t + 1
  pub whole : a + n ≡ total v

goes : (p : Type 0) (v : List ℕ) (a t n : ℕ) (last end next : Bool) → 1 ≤ n → n < 128 → last || eqb n 127 ≡ end → a + t < total v
    → (p → InTurn a t n) → eqb n (t + 1) ≡ next → (next ≡ true → (last ≡ false) × (a + n < total v))
    → Goes p v a t n end (frame_with v a n last)
goes p v a t n last end true some few ends under turn e left =
    let next : n ≡ t + 1 = eqb-true _ _ e in
    let below : a + n < total v = (left refl).1 in
    record {
      reads = reads v a n last end some few ends;
      u = t + 1;
      taken = rw (frame_read v a n last some few, e) refl;
      more = rw (frame_read v a n last some few, e) (left refl).0;
      held = rw (frame_read v a n last some few, e) (next_joined v a t n next below);
      under = omega arith;
      next = λ x. sym next;
    }
goes p v a t n last end false some few ends under turn e left = record {
  reads = reads v a n last end some few ends;
  u = t;
  taken = rw (frame_read v a n last some few, e) refl;
  more = rw (frame_read v a n last some few, e) refl;
  held = rw (frame_read v a n last some few, e) (append-nil (take (7 * (a + t)) v));
  under = under;
  next = λ x. absurd (not_turn n t e (turn x).next);
}

completes : (v : List ℕ) (a t n : ℕ) → 1 ≤ n → n < 128 → a + n ≡ total v → eqb n (t + 1) ≡ true
    → Completes v a t n (frame_with v a n true)
completes v a t n some few whole e =
    let next : n ≡ t + 1 = eqb-true _ _ e in
    record {
      reads = reads v a n true true some few refl;
      taken = rw (frame_read v a n true some few, e) (sym next);
      last = rw (frame_read v a n true some few, e) refl;
      held = rw (frame_read v a n true some few, e) (last_joined v a t n next whole);
      next = next;
      whole = whole;
    }

-- it isn't the last segment of its sub-block
pub next_inside : (p : Type 0) (v : List ℕ) (a t n more : ℕ) → a + t < total v → 1 ≤ n → n + suc more ≡ size_after v a
    → (p → InTurn a t n) → Goes p v a t n false (segment_at v a n)
next_inside p v a t n more under some size turn =
    let inside : eqb n 127 ≡ false = grind (arith, nat_tests) in
    let left : eqb (a + n) (total v) ≡ false = grind (arith, nat_tests) in
    let below : a + n < total v = omega arith in
    subst (Goes p v a t n false) (sym (frame_is v a n false left))
    (goes p v a t n false false _ some (omega arith) inside under turn refl (λ e. (refl, below)))

-- it is
pub next_ends : (p : Type 0) (v : List ℕ) (a t n : ℕ) → a + t < total v → 1 ≤ n → n ≡ size_after v a
    → (p → InTurn a t n) → (last next : Bool) → eqb (a + n) (total v) ≡ last → eqb n (t + 1) ≡ next
    → Goes p v a t n true (segment_at v a n) ⊎ Completes v a t n (segment_at v a n)
next_ends p v a t n under some size turn true true l e =
    inr (subst (Completes v a t n) (sym (frame_is v a n true l)) (completes v a t n some (omega arith) (eqb-true _ _ l) e))
next_ends p v a t n under some size turn true false l e =
    inl (subst (Goes p v a t n true) (sym (frame_is v a n true l))
    (goes p v a t n true true false some (omega arith) refl under turn e (λ x. absurd (false≢true x))))
next_ends p v a t n under some size turn false next l e =
    let full : eqb n 127 ≡ true = grind (arith, nat_tests) in
    let below : a + n < total v = grind (arith, nat_tests) in
    inl (subst (Goes p v a t n true) (sym (frame_is v a n false l))
    (goes p v a t n false true next some (omega arith) full under turn e (λ x. (refl, below))))

-- where there is room for all bytes there is for what is held
pub has_room : (p : Type 0) (v : List ℕ) (a t n cap : ℕ) (end : Bool) (frame : List ℕ) → Goes p v a t n end frame → length v ≤ cap
    → nat_lt cap (length (held_with (take (7 * (a + t)) v) t frame)) ≡ true → ⊥
has_room p v a t n cap end frame g fits above =
    let same = ap length g.held in
    let few = length-take (7 * (a + g.u)) v in
    let within : length (held_with (take (7 * (a + t)) v) t frame) ≤ cap = omega arith in
    not_above cap _ within above

-- ---- the segments of a sub-block among frames

counted : (x : Option BlockSegment) (older : List BlockSegment)
    → length (and_segment x older) ≡ option_map_or (λ segment. length older + 1) x (length older)
counted None older = refl
counted (Some segment) older = omega arith

pub in_block : (later : List (List ℕ)) (frame : List ℕ) (t : ℕ) (end : Bool) → ends_sub_block frame ≡ end
    → length (taken_segments (sub_block later)) ≡ t
    → length (taken_segments (sub_block (frame ∷ later))) ≡ (if end then 0 else taken_with t frame)
in_block later frame t true e n = rw e refl
in_block later frame t false e n =
    let longer : sub_block (frame ∷ later) ≡ frame ∷ sub_block later = rw e refl in
    ap (λ (xs : List (List ℕ)). length (taken_segments xs)) longer ∙ counted _ (taken_segments (sub_block later))
    ∙ ap (λ (j : ℕ). taken_with j frame) n
