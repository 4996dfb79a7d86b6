-- The channels that exist are in order: their numbers come from a range.
use Rattle.std.proofs.Common.{◌≡◌, ℕ, zero, suc, ◌+◌, ◌<◌, ◌≤◌, Bool, true, false, cond, List, [], ◌∷◌, ◌++◌, length, get_or, refl, sym, ap, ◌∙◌, subst, arith}
use Rattle.std.specs.Prelude.{map}
use Rattle.std.specs.Prelude.{option_map, ◌&&◌}
use Rattle.std.specs.List.{filter, find, range_with_len}
use Rattle.std.proofs.lemmas.List.{get_or-map, length-map, map-append, append-nil}
use Rattle.co_value.specs.declared.key.Key.{Key}
use Rattle.co_dict.specs.Rows.{Rows, Contents, capacity_at}
use Rattle.co_dict.specs.Stores.{Description}
use Rattle.co_dict.specs.SdoChannels.{is_channel}
use Rattle.co_sdo.specs.declared.channels.NumberedChannel.{NumberedChannel}
use Rattle.co_sdo.specs.Banks.{BankStands}
use Rattle.co_sdo.proofs.Searches.{find_filter, find_map}
use Rattle.co_sdo.specs.Channels.{ChannelSettings, AreInOrder, HaveRoom, settings_for, channels_below, channels_of}

-- numbers from low on, below high, that increase
record Rising (low high : ℕ) (xs : List ℕ) : Type 0 where
  first : (i d : ℕ) → i < length xs → low ≤ get_or xs i d
  last : (i d : ℕ) → i < length xs → get_or xs i d < high
  increasing : (i j d : ℕ) → i < j → j < length xs → get_or xs i d < get_or xs j d
  few : low + length xs ≤ high

later : (low high : ℕ) (xs : List ℕ) → Rising (low + 1) high xs → Rising low high xs
later low high xs r = record {
  first = λ i d lt. omega (arith, r.first i d lt);
  last = r.last;
  increasing = r.increasing;
  few = omega (arith, r.few);
}

and_first : (low high : ℕ) (xs : List ℕ) → Rising (low + 1) high xs → Rising low high (low ∷ xs)
and_first low high xs r = record { first = firsts; last = lasts; increasing = increase; few = omega (arith, r.few) }
  where
    firsts : (i d : ℕ) → i < length (low ∷ xs) → low ≤ get_or (low ∷ xs) i d
    firsts zero d lt = omega arith
    firsts (suc i) d lt = let here : i < length xs = omega arith in omega (arith, r.first i d here)

    lasts : (i d : ℕ) → i < length (low ∷ xs) → get_or (low ∷ xs) i d < high
    lasts zero d lt = omega (arith, r.few)
    lasts (suc i) d lt = r.last i d (omega arith)

    increase : (i j d : ℕ) → i < j → j < length (low ∷ xs) → get_or (low ∷ xs) i d < get_or (low ∷ xs) j d
    increase i zero d less lt = absurd (omega arith)
    increase zero (suc j) d less lt = let here : j < length xs = omega arith in omega (arith, r.first j d here)
    increase (suc i) (suc j) d less lt = r.increasing i j d (omega arith) (omega arith)

rising : (q : ℕ → Bool) (low count : ℕ) → Rising low (low + count) (filter q (range_with_len low count))
rising q low zero = record { first = λ i d lt. absurd (omega arith); last = λ i d lt. absurd (omega arith); increasing = λ i j d less lt. absurd (omega arith); few = omega arith }
rising q low (suc count) =
    let e : low + 1 + count ≡ low + suc count = omega arith in
    by_test (q low) (subst (λ (n : ℕ). Rising (low + 1) n (filter q (range_with_len (low + 1) count))) e (rising q (low + 1) count))
  where
    by_test : (b : Bool) → Rising (low + 1) (low + suc count) (filter q (range_with_len (low + 1) count)) → Rising low (low + suc count) (cond b (low ∷ filter q (range_with_len (low + 1) count)) (filter q (range_with_len (low + 1) count)))
    by_test true r = and_first low (low + suc count) (filter q (range_with_len (low + 1) count)) r
    by_test false r = later low (low + suc count) (filter q (range_with_len (low + 1) count)) r

-- the channels that exist are in order
pub channels_in_order : (d : Description) (contents : Contents) (greatest time : ℕ) → AreInOrder (channels_of d contents greatest time)
unfolding channels_below
channels_in_order d contents greatest time =
    let f : ℕ → ChannelSettings = settings_for d contents greatest time in
    let numbers : List ℕ = filter (is_channel contents) (range_with_len 0 128) in
    let r : Rising 0 (0 + 128) numbers = rising (is_channel contents) 0 128 in
    let len : length (map f numbers) ≡ length numbers = simp length-map in
    record {
      few = omega (arith, r.few, len);
      below = λ i e lt. let here : i < length numbers = omega (arith, len) in subst (λ (c : ChannelSettings). c.number < 128) (sym (get_or-map f numbers i 0 e here)) (r.last i 0 here);
      increasing = λ i j e less lt.
          let there : j < length numbers = omega (arith, len) in
          let here : i < length numbers = omega (arith, len) in
          subst (λ (c : ChannelSettings). c.number < (get_or (map f numbers) j e).number) (sym (get_or-map f numbers i 0 e here))
          (subst (λ (c : ChannelSettings). get_or numbers i 0 < c.number) (sym (get_or-map f numbers j 0 e there)) (r.increasing i j 0 less there));
    }

-- each has room for what the greatest capacity bounds
pub channels_have_room : (d : Description) (contents : Contents) (greatest time : ℕ) (rows : Rows) → ((key : Key) → capacity_at rows key ≤ greatest) → HaveRoom rows (channels_of d contents greatest time)
unfolding channels_below
channels_have_room d contents greatest time rows bounded = λ i e key lt.
    let f : ℕ → ChannelSettings = settings_for d contents greatest time in
    let numbers : List ℕ = filter (is_channel contents) (range_with_len 0 128) in
    let len : length (map f numbers) ≡ length numbers = simp length-map in
    subst (λ (c : ChannelSettings). capacity_at rows key ≤ c.greatest) (sym (get_or-map f numbers i 0 e (omega (arith, len, lt)))) (bounded key)

-- one number more
filter_more : (q : ℕ → Bool) (low count : ℕ) → filter q (range_with_len low (suc count)) ≡ filter q (range_with_len low count) ++ cond (q (low + count)) ((low + count) ∷ []) []
filter_more q low zero = let e : low + 0 ≡ low = omega arith in rw e refl
filter_more q low (suc count) = by_test (q low) (filter_more q (low + 1) count)
  where
    e : low + 1 + count ≡ low + suc count
    e = omega arith

    by_test : (b : Bool) → filter q (range_with_len (low + 1) (suc count)) ≡ filter q (range_with_len (low + 1) count) ++ cond (q (low + 1 + count)) ((low + 1 + count) ∷ []) []
        → cond b (low ∷ filter q (range_with_len (low + 1) (suc count))) (filter q (range_with_len (low + 1) (suc count)))
        ≡ cond b (low ∷ filter q (range_with_len (low + 1) count)) (filter q (range_with_len (low + 1) count)) ++ cond (q (low + suc count)) ((low + suc count) ∷ []) []
    by_test true more = ap (λ (xs : List ℕ). low ∷ xs) (more ∙ ap (λ n. filter q (range_with_len (low + 1) count) ++ cond (q n) (n ∷ []) []) e)
    by_test false more = more ∙ ap (λ n. filter q (range_with_len (low + 1) count) ++ cond (q n) (n ∷ []) []) e

module _ (number : ℕ) (d : Description) (contents : Contents) (greatest time : ℕ) where
  abbrev made : ℕ → ChannelSettings
  made = settings_for d contents greatest time

  abbrev below : List ℕ
  below = filter (is_channel contents) (range_with_len 0 number)

  before : channels_below number d contents greatest time ≡ map made below
  unfolding channels_below
  before = refl

  more : (b : Bool) → is_channel contents number ≡ b → channels_below (number + 1) d contents greatest time ≡ map made (below ++ cond b (number ∷ []) [])
  unfolding channels_below
  more b e =
      let next : number + 1 ≡ suc number = omega arith in
      let here : 0 + number ≡ number = omega arith in
      ap (λ n. map made (filter (is_channel contents) (range_with_len 0 n))) next
      ∙ ap (map made) (filter_more (is_channel contents) 0 number)
      ∙ ap (λ n. map made (below ++ cond (is_channel contents n) (n ∷ []) [])) here
      ∙ ap (λ t. map made (below ++ cond t (number ∷ []) [])) e

  -- the channel with the next number, if it exists
  pub channels_with : is_channel contents number ≡ true → channels_below (number + 1) d contents greatest time ≡ channels_below number d contents greatest time ++ settings_for d contents greatest time number ∷ []
  channels_with e = more true e ∙ map-append made below (number ∷ []) ∙ ap (λ (cs : List ChannelSettings). cs ++ made number ∷ []) (sym before)

  pub channels_without : is_channel contents number ≡ false → channels_below (number + 1) d contents greatest time ≡ channels_below number d contents greatest time
  channels_without e = more false e ∙ ap (map made) (append-nil below) ∙ sym before

-- there is none below number 0
pub none_below : (d : Description) (contents : Contents) (greatest time : ℕ) (bank : List NumberedChannel) → bank ≡ [] → BankStands d (channels_below 0 d contents greatest time) bank (λ n. [])
unfolding channels_below
none_below d contents greatest time bank e = subst (λ (b : List NumberedChannel). BankStands d [] b (λ n. [])) (sym e) (record { settings = refl; each = λ i e lt. absurd (omega arith) })

-- what is found first is the lowest that exists and passes
pub lowest_found : (d : Description) (contents : Contents) (greatest time : ℕ) (passes : ChannelSettings → Bool)
    → find passes (channels_of d contents greatest time) ≡ option_map (settings_for d contents greatest time) (find (λ n. is_channel contents n && passes (settings_for d contents greatest time n)) (range_with_len 0 128))
unfolding channels_below
lowest_found d contents greatest time passes =
    find_map passes (settings_for d contents greatest time) (filter (is_channel contents) (range_with_len 0 128))
    ∙ ap (option_map (settings_for d contents greatest time)) (find_filter (λ n. passes (settings_for d contents greatest time n)) (is_channel contents) (range_with_len 0 128))
