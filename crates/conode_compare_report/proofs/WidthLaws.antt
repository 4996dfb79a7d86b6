-- Spans that are joined while a recording goes on are those of the whole recording at the last width.
use Rattle.std.proofs.Common.{◌≡◌, ℕ, zero, suc, ◌+◌, ◌-◌, ◌*◌, ◌/◌, ◌^◌, ◌<◌, ◌≤◌, min, Bool, true, false, List, [], ◌∷◌, ◌++◌, length, replicate, Option, Some, None, refl, sym, ap, ap₂, subst, ◌∙◌, arith, append-nil}
use Rattle.std.specs.Prelude.{nat_lt, slice_set, if◌then◌else◌, ◌||◌, ◌==◌, ⊤}
use Rattle.std.specs.List.{slice_index_or}
use Rattle.std.proofs.Math.Nat.{div-div-eq-div-mul}
use Rattle.std.proofs.lemmas.Nat.{div_below, div-mul-add}
use Rattle.std.proofs.lemmas.Bool.Decides.{nat_tests}
use Rattle.co_sheet.specs.Content.{Row}
use Rattle.conode_compare_text.specs.declared.details.Details.{Details}
use Rattle.conode_compare_nmt.specs.declared.finding.Finding.{Finding}
use Rattle.conode_compare_nmt.specs.declared.finding.NmtState.{NmtState}
use Rattle.conode_compare_nmt.specs.declared.finding.NmtState.TheVariants.{Unknown, Initialising, PreOperational, Operational, Stopped}
use Rattle.conode_compare_report.specs.declared.lanes.Bin.{Bin}
use Rattle.conode_compare_report.specs.declared.lanes.Lane.{Lane}
use Rattle.conode_compare_report.specs.declared.lanes.Lane.TheVariants.{Heartbeats, Emergencies, Transfers, Tpdos, Rpdos}
use Rattle.conode_compare_report.specs.declared.lanes.States.{States}
use Rattle.conode_compare_report.specs.Contexts.{KeptLine}
use Rattle.conode_compare_report.specs.Counts.{changed_at, one_more as one_more_of}
use Rattle.conode_compare_report.specs.Coverages.{lane_of}
use Rattle.conode_compare_report.specs.Histories.{Happening, Came, WasBad, Framed, Passed, Found, happened, kept_of}
use Rattle.conode_compare_report.specs.Kinds.{kind_of}
use Rattle.conode_compare_report.specs.Occasions.{counts_found}
use Rattle.conode_compare_report.specs.Reports.{if_listed, line_kept, line_of, listed_in, most_listed, newest_with, nothing_kept, number_found, with_finding, with_frame, with_line}
use Rattle.conode_compare_report.specs.Spans.{LanesView, begun_at, bin_with, both_bins, doubled, empty_bin, filled, joined, lanes_with, place_in, placed_at, spans_with, states_of_both, states_with, widened}
use Rattle.conode_compare_report.specs.Views.{Kept}
use Rattle.conode_compare_report.specs.Widths.{Seen, StampsFit, seen_in, seen_of, spans_of}

-- ---- a frame in one of two spans, which are then one

abbrev bin_of : States → ℕ → ℕ → ℕ → ℕ → ℕ → ℕ → Bin
bin_of states h e t p r d = record { states = states; heartbeats = h; emergencies = e; transfers = t; tpdos = p; rpdos = r; differences = d }

same_bin : {s s' : States} {h h' e e' t t' p p' r r' d d' : ℕ} → s ≡ s' → h ≡ h' → e ≡ e' → t ≡ t' → p ≡ p' → r ≡ r' → d ≡ d'
    → bin_of s h e t p r d ≡ bin_of s' h' e' t' p' r' d'
same_bin {s} {s'} {h} {h'} {e} {e'} {t} {t'} {p} {p'} {r} {r'} {d} {d'} is ih ie it ip ir id =
    ap (λ (x : States). bin_of x h e t p r d) is ∙ ap (λ (x : ℕ). bin_of s' x e t p r d) ih ∙ ap (λ (x : ℕ). bin_of s' h' x t p r d) ie
    ∙ ap (λ (x : ℕ). bin_of s' h' e' x p r d) it ∙ ap (λ (x : ℕ). bin_of s' h' e' t' x r d) ip
    ∙ ap (λ (x : ℕ). bin_of s' h' e' t' p' x d) ir ∙ ap (λ (x : ℕ). bin_of s' h' e' t' p' r' x) id

left_sum : (m a b n : ℕ) → min (min (a + n) m + b) m ≡ min (min (a + b) m + n) m
left_sum m a b n = omega arith

right_sum : (m a b n : ℕ) → min (a + min (b + n) m) m ≡ min (min (a + b) m + n) m
right_sum m a b n = omega arith

or_true : (x : Bool) → (x || true) ≡ true
or_true true = refl
or_true false = refl

left_states : (state : NmtState) (a b : States) → states_of_both (states_with state a) b ≡ states_with state (states_of_both a b)
left_states Unknown a b = refl
left_states Initialising a b = refl
left_states PreOperational a b = refl
left_states Operational a b = refl
left_states Stopped a b = refl

right_states : (state : NmtState) (a b : States) → states_of_both a (states_with state b) ≡ states_with state (states_of_both a b)
right_states Unknown a b = refl
right_states Initialising a b = ap (λ (x : Bool). record (states_of_both a b) { initialising = x }) (or_true a.initialising)
right_states PreOperational a b = ap (λ (x : Bool). record (states_of_both a b) { pre_operational = x }) (or_true a.pre_operational)
right_states Operational a b = ap (λ (x : Bool). record (states_of_both a b) { operational = x }) (or_true a.operational)
right_states Stopped a b = ap (λ (x : Bool). record (states_of_both a b) { stopped = x }) (or_true a.stopped)

abbrev most : ℕ
most = 2 ^ 32 - 1

module _ (state : NmtState) (n : ℕ) where
  left_bin : (lane : Option Lane) (a b : Bin) → both_bins (bin_with state lane n a) b ≡ bin_with state lane n (both_bins a b)
  unfolding both_bins bin_with
  left_bin (Some Heartbeats) a b = same_bin (left_states state a.states b.states) (left_sum most a.heartbeats b.heartbeats 1) refl refl refl refl (left_sum most a.differences b.differences n)
  left_bin (Some Emergencies) a b = same_bin (left_states state a.states b.states) refl (left_sum most a.emergencies b.emergencies 1) refl refl refl (left_sum most a.differences b.differences n)
  left_bin (Some Transfers) a b = same_bin (left_states state a.states b.states) refl refl (left_sum most a.transfers b.transfers 1) refl refl (left_sum most a.differences b.differences n)
  left_bin (Some Tpdos) a b = same_bin (left_states state a.states b.states) refl refl refl (left_sum most a.tpdos b.tpdos 1) refl (left_sum most a.differences b.differences n)
  left_bin (Some Rpdos) a b = same_bin (left_states state a.states b.states) refl refl refl refl (left_sum most a.rpdos b.rpdos 1) (left_sum most a.differences b.differences n)
  left_bin None a b = same_bin (left_states state a.states b.states) refl refl refl refl refl (left_sum most a.differences b.differences n)

  right_bin : (lane : Option Lane) (a b : Bin) → both_bins a (bin_with state lane n b) ≡ bin_with state lane n (both_bins a b)
  unfolding both_bins bin_with
  right_bin (Some Heartbeats) a b = same_bin (right_states state a.states b.states) (right_sum most a.heartbeats b.heartbeats 1) refl refl refl refl (right_sum most a.differences b.differences n)
  right_bin (Some Emergencies) a b = same_bin (right_states state a.states b.states) refl (right_sum most a.emergencies b.emergencies 1) refl refl refl (right_sum most a.differences b.differences n)
  right_bin (Some Transfers) a b = same_bin (right_states state a.states b.states) refl refl (right_sum most a.transfers b.transfers 1) refl refl (right_sum most a.differences b.differences n)
  right_bin (Some Tpdos) a b = same_bin (right_states state a.states b.states) refl refl refl (right_sum most a.tpdos b.tpdos 1) refl (right_sum most a.differences b.differences n)
  right_bin (Some Rpdos) a b = same_bin (right_states state a.states b.states) refl refl refl refl (right_sum most a.rpdos b.rpdos 1) (right_sum most a.differences b.differences n)
  right_bin None a b = same_bin (right_states state a.states b.states) refl refl refl refl refl (right_sum most a.differences b.differences n)

both_empty : both_bins empty_bin empty_bin ≡ empty_bin
unfolding both_bins
both_empty = refl

-- ---- the span at a place

abbrev put : ℕ → (Bin → Bin) → List Bin → List Bin
put zero change [] = change empty_bin ∷ []
put zero change (b ∷ bins) = change b ∷ bins
put (suc p) change [] = empty_bin ∷ put p change []
put (suc p) change (b ∷ bins) = b ∷ put p change bins

either_next : (c : Bool) (b : Bin) (xs ys : List Bin) → (if c then b ∷ xs else b ∷ ys) ≡ b ∷ (if c then xs else ys)
either_next true b xs ys = refl
either_next false b xs ys = refl

test_next : (p n : ℕ) → nat_lt (suc p) (suc n) ≡ nat_lt p n
test_next p n = by_test (nat_lt p n) refl
  where
    by_test : (b : Bool) → nat_lt p n ≡ b → nat_lt (suc p) (suc n) ≡ b
    by_test true e = grind (arith, nat_tests)
    by_test false e = grind (arith, nat_tests)

changed_next : (p : ℕ) (change : Bin → Bin) (b : Bin) (bins : List Bin) → changed_at empty_bin (suc p) change (b ∷ bins) ≡ b ∷ changed_at empty_bin p change bins
changed_next p change b bins =
    ap (λ (c : Bool). if c then b ∷ slice_set bins p (change (slice_index_or bins p empty_bin)) else b ∷ bins) (test_next p (length bins))
    ∙ either_next (nat_lt p (length bins)) b (slice_set bins p (change (slice_index_or bins p empty_bin))) bins

is_put : (p : ℕ) (change : Bin → Bin) (bins : List Bin) → spans_with p change bins ≡ put p change bins
is_put zero change [] = refl
is_put zero change (b ∷ bins) =
    let none : 0 + 1 - suc (length bins) ≡ 0 = omega arith in
    let there : nat_lt 0 (suc (length bins)) ≡ true = grind (arith, nat_tests) in
    ap (λ (k : ℕ). changed_at empty_bin 0 change ((b ∷ bins) ++ replicate k empty_bin)) none ∙ ap (changed_at empty_bin 0 change) (append-nil (b ∷ bins))
    ∙ ap (λ (c : Bool). if c then change b ∷ bins else b ∷ bins) there
is_put (suc p) change [] =
    let some : suc p + 1 - 0 ≡ suc (p + 1 - 0) = omega arith in
    ap (λ (k : ℕ). changed_at empty_bin (suc p) change (replicate k empty_bin)) some ∙ changed_next p change empty_bin (filled p [])
    ∙ ap (λ (l : List Bin). empty_bin ∷ l) (is_put p change [])
is_put (suc p) change (b ∷ bins) =
    let same : suc p + 1 - suc (length bins) ≡ p + 1 - length bins = omega arith in
    ap (λ (k : ℕ). changed_at empty_bin (suc p) change (b ∷ (bins ++ replicate k empty_bin))) same ∙ changed_next p change b (filled p bins)
    ∙ ap (λ (l : List Bin). b ∷ l) (is_put p change bins)

put_some : (p : ℕ) (change : Bin → Bin) (bins : List Bin) → (length (put p change bins) == 0) ≡ false
put_some zero change [] = refl
put_some zero change (b ∷ bins) = grind (arith, nat_tests)
put_some (suc p) change [] = grind (arith, nat_tests)
put_some (suc p) change (b ∷ bins) = grind (arith, nat_tests)

-- ---- half as many spans

abbrev half : ℕ → ℕ
half zero = zero
half (suc zero) = zero
half (suc (suc p)) = suc (half p)

abbrev odd : ℕ → ℕ
odd zero = zero
odd (suc zero) = 1
odd (suc (suc p)) = odd p

halves : (p : ℕ) → p ≡ half p * 2 + odd p
halves zero = refl
halves (suc zero) = refl
halves (suc (suc p)) = let h : p ≡ half p * 2 + odd p = halves p in omega (arith, h)

odd_less : (p : ℕ) → odd p < 2
odd_less zero = omega arith
odd_less (suc zero) = omega arith
odd_less (suc (suc p)) = odd_less p

half_is : (p : ℕ) → half p ≡ p / 2
half_is p = sym (ap (λ (k : ℕ). k / 2) (halves p) ∙ div-mul-add (half p) 2 (odd p) (odd_less p))

place_is : (width passed : ℕ) → 0 < width → place_in width passed ≡ passed / width
place_is width passed some =
    let is : (width == 0) ≡ false = grind (arith, nat_tests) in
    ap (λ (c : Bool). if c then 0 else passed / width) is

half_place : (width passed : ℕ) → 0 < width → half (place_in width passed) ≡ place_in (width * 2) passed
half_place width passed some =
    ap half (place_is width passed some) ∙ half_is (passed / width) ∙ div-div-eq-div-mul passed width 2
    ∙ sym (place_is (width * 2) passed (omega (arith, some)))

abbrev AllPlain : List Bin → Type 0
AllPlain [] = ⊤
AllPlain (b ∷ bins) = (both_bins b empty_bin ≡ b) × AllPlain bins

module _ (state : NmtState) (lane : Option Lane) (n : ℕ) where
  abbrev change : Bin → Bin
  change bin = bin_with state lane n bin

  change_plain : (b : Bin) → both_bins b empty_bin ≡ b → both_bins (change b) empty_bin ≡ change b
  change_plain b h = left_bin state n lane b empty_bin ∙ ap (bin_with state lane n) h

  put_plain : (p : ℕ) (bins : List Bin) → AllPlain bins → AllPlain (put p (bin_with state lane n) bins)
  put_plain zero [] h = (change_plain empty_bin both_empty, tt)
  put_plain zero (b ∷ bins) h = (change_plain b h.0, h.1)
  put_plain (suc p) [] h = (both_empty, put_plain p [] tt)
  put_plain (suc p) (b ∷ bins) h = (h.0, put_plain p bins h.1)

  joined_put : (p : ℕ) (bins : List Bin) → AllPlain bins → joined (put p (bin_with state lane n) bins) ≡ put (half p) (bin_with state lane n) (joined bins)
  unfolding joined
  joined_put zero [] h = refl
  joined_put zero (b ∷ []) h = refl
  joined_put zero (a ∷ b ∷ more) h = ap (λ (x : Bin). x ∷ joined more) (left_bin state n lane a b)
  joined_put (suc zero) [] h = ap (λ (x : Bin). x ∷ []) (right_bin state n lane empty_bin empty_bin ∙ ap (bin_with state lane n) both_empty)
  joined_put (suc zero) (b ∷ []) h = ap (λ (x : Bin). x ∷ []) (right_bin state n lane b empty_bin ∙ ap (bin_with state lane n) h.0)
  joined_put (suc zero) (a ∷ b ∷ more) h = ap (λ (x : Bin). x ∷ joined more) (right_bin state n lane a b)
  joined_put (suc (suc p)) [] h = ap₂ (λ (x : Bin) (l : List Bin). x ∷ l) both_empty (joined_put p [] tt)
  joined_put (suc (suc p)) (b ∷ []) h = ap₂ (λ (x : Bin) (l : List Bin). x ∷ l) h.0 (joined_put p [] tt)
  joined_put (suc (suc p)) (a ∷ b ∷ more) h = ap (λ (l : List Bin). both_bins a b ∷ l) (joined_put p more h.1.1)

spans_plain : (begin width : ℕ) (seen : List Seen) → AllPlain (spans_of begin width seen)
unfolding spans_of
spans_plain begin width [] = tt
spans_plain begin width (s ∷ seen) =
    subst AllPlain (sym (is_put (place_in width (s.micros - begin)) (bin_with s.state s.lane s.differences) (spans_of begin width seen)))
    (put_plain s.state s.lane s.differences (place_in width (s.micros - begin)) (spans_of begin width seen) (spans_plain begin width seen))

joined_spans : (begin width : ℕ) (seen : List Seen) → 0 < width → joined (spans_of begin width seen) ≡ spans_of begin (width * 2) seen
unfolding spans_of joined
joined_spans begin width [] some = refl
joined_spans begin width (s ∷ seen) some =
    ap joined (is_put (place_in width (s.micros - begin)) (bin_with s.state s.lane s.differences) (spans_of begin width seen))
    ∙ joined_put s.state s.lane s.differences (place_in width (s.micros - begin)) (spans_of begin width seen) (spans_plain begin width seen)
    ∙ ap₂ (λ (p : ℕ) (bins : List Bin). put p (bin_with s.state s.lane s.differences) bins) (half_place width (s.micros - begin) some) (joined_spans begin width seen some)
    ∙ sym (is_put (place_in (width * 2) (s.micros - begin)) (bin_with s.state s.lane s.differences) (spans_of begin (width * 2) seen))

-- ---- wider spans

near_of : (width passed : ℕ) → 0 < width → passed < width * 2000 → place_in width passed < 2000
near_of width passed some lt =
    let near : passed / width < 2000 = div_below passed width 2000 some (omega (arith, lt)) in
    subst (λ (q : ℕ). q < 2000) (sym (place_is width passed some)) near

not_full : (width passed : ℕ) → 0 < width → passed < 2 ^ 64 → 2000 ≤ place_in width passed → min (width * 2) (2 ^ 64 - 1) ≡ width * 2
not_full width passed some fits far = by_test (nat_lt passed (width * 2000)) refl
  where
    by_test : (b : Bool) → nat_lt passed (width * 2000) ≡ b → min (width * 2) (2 ^ 64 - 1) ≡ width * 2
    by_test true e = absurd (let near : place_in width passed < 2000 = near_of width passed some (grind (arith, nat_tests)) in omega (arith, far, near))
    by_test false e = let least : width * 2000 ≤ passed = grind (arith, nat_tests) in omega (arith, least, fits)

unfoldable reach : ℕ → ℕ → ℕ
reach zero width = width * 2000
reach (suc steps) width = reach steps (width * 2)

reach_more : (steps w v : ℕ) → w ≤ v → reach steps w ≤ reach steps v
unfolding reach
reach_more zero w v le = omega (arith, le)
reach_more (suc steps) w v le = reach_more steps (w * 2) (v * 2) (omega (arith, le))

reach_of_one : reach 64 1 ≡ 2 ^ 64 * 2000
unfolding reach
reach_of_one = refl

far_enough : (width passed : ℕ) → 0 < width → passed < 2 ^ 64 → passed < reach 64 width
far_enough width passed some fits =
    let least : reach 64 1 ≤ reach 64 width = reach_more 64 1 width (omega (arith, some)) in
    let is : reach 64 1 ≡ 2 ^ 64 * 2000 = reach_of_one in
    omega (arith, least, is, fits)

record Wide (begin passed : ℕ) (seen : List Seen) (lanes : LanesView) : Type 0 where
  begins : lanes.begin ≡ begin
  spans : lanes.bins ≡ spans_of begin lanes.width seen
  some : 0 < lanes.width
  near : place_in lanes.width passed < 2000

widened_spans : (steps passed : ℕ) (seen : List Seen) (lanes : LanesView) → lanes.bins ≡ spans_of lanes.begin lanes.width seen → 0 < lanes.width → passed < 2 ^ 64
    → passed < reach steps lanes.width → Wide lanes.begin passed seen (widened steps passed lanes)
unfolding widened reach
widened_spans zero passed seen lanes is some fits far = record { begins = refl; spans = is; some = some; near = near_of lanes.width passed some far }
widened_spans (suc steps) passed seen lanes is some fits far =
    by_test (nat_lt (place_in lanes.width passed) 2000) refl far (λ l h k m. widened_spans steps passed seen l h k fits m)
  where
    by_test : (b : Bool) → nat_lt (place_in lanes.width passed) 2000 ≡ b → passed < reach steps (lanes.width * 2)
        → ((l : LanesView) → l.bins ≡ spans_of l.begin l.width seen → 0 < l.width → passed < reach steps l.width → Wide l.begin passed seen (widened steps passed l))
        → Wide lanes.begin passed seen (if b then lanes else widened steps passed (doubled lanes))
    by_test true e next again = record { begins = refl; spans = is; some = some; near = grind (arith, nat_tests) }
    by_test false e next again =
        let twice : min (lanes.width * 2) (2 ^ 64 - 1) ≡ lanes.width * 2 = not_full lanes.width passed some fits (grind (arith, nat_tests)) in
        again (doubled lanes)
        (ap joined is ∙ joined_spans lanes.begin lanes.width seen some ∙ ap (λ (w : ℕ). spans_of lanes.begin w seen) (sym twice))
        (omega (arith, some, twice)) (subst (λ (w : ℕ). passed < reach steps w) (sym twice) next)

-- ---- a frame

record Drawn (seen : List Seen) (lanes : LanesView) : Type 0 where
  spans : lanes.bins ≡ spans_of lanes.begin lanes.width seen
  some : 0 < lanes.width

none_of : (begin width : ℕ) → spans_of begin width [] ≡ []
unfolding spans_of
none_of begin width = refl

begun : (micros : ℕ) (seen : List Seen) (lanes : LanesView) → Drawn seen lanes → Drawn seen (begun_at micros lanes)
unfolding spans_of
begun micros [] lanes h = by_test (length lanes.bins == 0)
  where
    by_test : (b : Bool) → Drawn [] (if b then record lanes { begin = micros } else lanes)
    by_test true = record { spans = h.spans ∙ none_of lanes.begin lanes.width ∙ sym (none_of micros lanes.width); some = h.some }
    by_test false = h
begun micros (s ∷ seen) lanes h =
    let is : (length lanes.bins == 0) ≡ false =
    ap (λ (l : List Bin). length l == 0) (h.spans ∙ is_put (place_in lanes.width (s.micros - lanes.begin)) (bin_with s.state s.lane s.differences) (spans_of lanes.begin lanes.width seen))
    ∙ put_some (place_in lanes.width (s.micros - lanes.begin)) (bin_with s.state s.lane s.differences) (spans_of lanes.begin lanes.width seen) in
    subst (λ (b : Bool). Drawn (s ∷ seen) (if b then record lanes { begin = micros } else lanes)) (sym is) h

placed_spans : (begin : ℕ) (s : Seen) (seen : List Seen) (lanes : LanesView) → Wide begin (s.micros - begin) seen lanes
    → Drawn (s ∷ seen) (placed_at s.micros (bin_with s.state s.lane s.differences) lanes)
unfolding spans_of
placed_spans begin s seen lanes h =
    let near : place_in lanes.width (s.micros - lanes.begin) < 2000 = subst (λ (b : ℕ). place_in lanes.width (s.micros - b) < 2000) (sym h.begins) h.near in
    let at : min (place_in lanes.width (s.micros - lanes.begin)) 1999 ≡ place_in lanes.width (s.micros - lanes.begin) = omega (arith, near) in
    record {
      spans = ap₂ (λ (p : ℕ) (bins : List Bin). spans_with p (bin_with s.state s.lane s.differences) bins) at
          (h.spans ∙ ap (λ (b : ℕ). spans_of b lanes.width seen) (sym h.begins));
      some = h.some;
    }

one_more : (s : Seen) (seen : List Seen) (lanes : LanesView) → s.micros < 2 ^ 64 → Drawn seen lanes
    → Drawn (s ∷ seen) (lanes_with s.micros (bin_with s.state s.lane s.differences) lanes)
unfolding lanes_with
one_more s seen lanes fits h = from_begin (begun_at s.micros lanes) (begun s.micros seen lanes h)
  where
    from_begin : (l : LanesView) → Drawn seen l
        → Drawn (s ∷ seen) (placed_at s.micros (bin_with s.state s.lane s.differences) (widened 64 (s.micros - l.begin) l))
    from_begin l d =
        let less : s.micros - l.begin < 2 ^ 64 = omega (arith, fits) in
        placed_spans l.begin s seen (widened 64 (s.micros - l.begin) l)
        (widened_spans 64 (s.micros - l.begin) seen l d.spans d.some less (far_enough l.width (s.micros - l.begin) d.some less))

-- ---- all that happened

one_of_two : (b : Bool) (x y : Kept) (lanes : LanesView) → x.lanes ≡ lanes → y.lanes ≡ lanes → (if b then x else y).lanes ≡ lanes
one_of_two true x y lanes h k = h
one_of_two false x y lanes h k = k

of_line : (kept : Kept) (line : KeptLine) → (line_kept kept line).lanes ≡ kept.lanes
of_line kept line =
    one_of_two (nat_lt kept.wanted line.number) (record kept { lines = line.number; recent = newest_with kept.recent line })
    (record kept { lines = line.number; context = kept.context ++ line ∷ [] }) kept.lanes refl refl

of_finding : (kept : Kept) (micros : ℕ) (details : Details) (finding : Finding) → (if_listed kept micros details finding).lanes ≡ kept.lanes
of_finding kept micros details finding =
    one_of_two (nat_lt (length kept.noted) most_listed) (listed_in (kept.context ++ kept.recent) kept micros details finding)
    (record kept { unlisted = one_more_of kept.unlisted }) kept.lanes refl refl

fits_before : (happening : Happening) (seen : List Seen) → StampsFit (seen_in happening ++ seen) → StampsFit seen
fits_before (Came line) seen fit = fit
fits_before WasBad seen fit = fit
fits_before (Framed rows micros kind before state free judged found) seen fit = fit.1
fits_before (Passed kind) seen fit = fit
fits_before (Found micros details finding) seen fit = fit

step : (happening : Happening) (seen : List Seen) (kept : Kept) → StampsFit (seen_in happening ++ seen) → Drawn seen kept.lanes
    → Drawn (seen_in happening ++ seen) (happened kept happening).lanes
unfolding with_line with_frame with_finding
step (Came line) seen kept fit h = subst (Drawn seen) (sym (of_line kept (line_of (one_more_of kept.lines) line))) h
step WasBad seen kept fit h = h
step (Framed rows micros kind before state free judged found) seen kept fit h =
    one_more (record { micros = micros; state = state; lane = lane_of kind before.role; differences = number_found found }) seen kept.lanes fit.0 h
step (Passed kind) seen kept fit h = h
step (Found micros details finding) seen kept fit h =
    subst (Drawn seen) (sym (of_finding (record kept { kinds = counts_found (kind_of finding) kept.kinds }) micros details finding)) h

drawn : (rows : List Row) (node : ℕ) (happenings : List Happening) → StampsFit (seen_of happenings) → Drawn (seen_of happenings) (kept_of rows node happenings).lanes
unfolding kept_of seen_of nothing_kept spans_of
drawn rows node [] fit = record { spans = refl; some = omega arith }
drawn rows node (newest ∷ older) fit =
    step newest (seen_of older) (kept_of rows node older) fit (drawn rows node older (fits_before newest (seen_of older) fit))

pub all_spans : (rows : List Row) (node : ℕ) (happenings : List Happening) → StampsFit (seen_of happenings)
    → (kept_of rows node happenings).lanes.bins ≡ spans_of (kept_of rows node happenings).lanes.begin (kept_of rows node happenings).lanes.width (seen_of happenings)
all_spans rows node happenings fit = (drawn rows node happenings fit).spans
