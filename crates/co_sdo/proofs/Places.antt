-- The channel at a place of the list, and what its event makes of all.
use Rattle.std.proofs.Common.{◌≡◌, ◌≢◌, ℕ, ◌+◌, ◌-◌, ◌<◌, ◌≤◌, Bool, true, false, eqb, ltb, List, [], ◌∷◌, ◌++◌, length, get_or, set, refl, sym, ap, ◌∙◌, subst, arith, get_or-set_same, get_or-set_other, length-set, Some, None, Option}
use Rattle.std.specs.Prelude.{position, map, option_map, ◌&&◌, not, nat_lt, nat_le, is_some}
use Rattle.std.specs.List.{find, range_with_len}
use Rattle.std.proofs.lemmas.List.{get_or-map, length-map}
use Rattle.std.proofs.lemmas.List.FromFn.{get_or-map-range_with_len, length-map-range_with_len, map-range_with_len_more}
use Rattle.std.proofs.lemmas.List.Quantifiers.{position-Some}
use Rattle.std.proofs.lemmas.Bool.Decides.{nat_tests}
use Rattle.co_value.specs.declared.key.Key.{Key}
use Rattle.co_dict.specs.Rows.{Rows, capacity_at}
use Rattle.co_dict.specs.Stores.{Description}
use Rattle.co_sdo.specs.Log.{Log, ticks_quiet}
use Rattle.co_sdo.specs.Opened.{opened_after, is_time_over}
use Rattle.co_sdo.specs.Standing.{Standing, Stands, is_expired}
use Rattle.co_sdo.specs.declared.channels.NumberedChannel.{NumberedChannel}
use Rattle.co_sdo.specs.Channels.{ChannelSettings, AreInOrder, HaveRoom}
use Rattle.co_sdo.specs.Banks.{BankStands, IsBank, settings_of, all_settings, places_below}
use Rattle.co_sdo.proofs.Changes.{settings_set}
use Rattle.co_sdo.proofs.Searches.{find_map, find_same, find_at_place, find_nowhere, position_map}

-- ---- what never changes of the one at a place

pub settings_at : (bank : List NumberedChannel) (i : ℕ) (c : NumberedChannel) (e : ChannelSettings) → i < length bank → c ≡ get_or bank i c → get_or (all_settings bank) i e ≡ settings_of c
settings_at bank i c e lt is = get_or-map settings_of bank i c e lt ∙ ap settings_of (sym is)

pub settings_kept : (value bank : List NumberedChannel) (i : ℕ) (c new : NumberedChannel) → bank ≡ value → c ≡ get_or bank i c → settings_of new ≡ settings_of c → all_settings (set bank i new) ≡ all_settings value
settings_kept value bank i c new same is e = settings_set bank i new c (e ∙ ap settings_of is) ∙ ap all_settings same

pub bank_kept : (table : List (Option ℕ)) (bank : List NumberedChannel) (i : ℕ) (c new : NumberedChannel) → c ≡ get_or bank i c → settings_of new ≡ settings_of c → IsBank table (all_settings bank) → IsBank table (all_settings (set bank i new))
bank_kept table bank i c new is e b = subst (λ (s : List ChannelSettings). IsBank table s) (sym (settings_kept bank bank i c new refl is e)) b

-- ---- the table of places

-- one identifier more
pub places_more : (table : List (Option ℕ)) (bank : List NumberedChannel) (id : ℕ) (o : Option ℕ) → table ≡ places_below id (all_settings bank) → o ≡ position (λ e. eqb e.channel.request id) bank → table ++ o ∷ [] ≡ places_below (id + 1) (all_settings bank)
unfolding places_below
places_more table bank id o before is =
    let f : ℕ → Option ℕ = λ n. position (λ s. eqb s.request n) (all_settings bank) in
    ap (λ t. t ++ o ∷ []) before
    ∙ ap (λ p. map f (range_with_len 0 id) ++ p ∷ []) (is ∙ sym (position_map (λ s. eqb s.request id) settings_of bank))
    ∙ sym (map-range_with_len_more f 0 id id (omega arith))

pub no_places : (bank : List NumberedChannel) (table : List (Option ℕ)) → table ≡ [] → table ≡ places_below 0 (all_settings bank)
unfolding places_below
no_places bank table e = e

pub table_length : (table : List (Option ℕ)) (end : ℕ) (channels : List ChannelSettings) → table ≡ places_below end channels → length table ≡ end
unfolding places_below
table_length table end channels is = ap length is ∙ length-map-range_with_len (λ n. position (λ s. eqb s.request n) channels) 0 end

-- what is in the table is what a search finds
pub place_at : (table : List (Option ℕ)) (end : ℕ) (bank : List NumberedChannel) (id : ℕ) (o : Option ℕ) → table ≡ places_below end (all_settings bank) → id < end → o ≡ get_or table id o → position (λ e. eqb e.channel.request id) bank ≡ o
unfolding places_below
place_at table end bank id o is lt at =
    let f : ℕ → Option ℕ = λ n. position (λ s. eqb s.request n) (all_settings bank) in
    sym (at ∙ ap (λ t. get_or t id o) is ∙ get_or-map-range_with_len f 0 end id id o lt (omega arith) ∙ position_map (λ s. eqb s.request id) settings_of bank)

-- the place that a search found is one of the list
pub within : (p : NumberedChannel → Bool) (bank : List NumberedChannel) (i : ℕ) (c : NumberedChannel) → position p bank ≡ Some i → i < length bank
within p bank i c at = (position-Some p bank i c at).0

-- what is there passes
pub passes : (p : NumberedChannel → Bool) (bank : List NumberedChannel) (i : ℕ) (c : NumberedChannel) → position p bank ≡ Some i → c ≡ get_or bank i c → p c ≡ true
passes p bank i c at is = ap p is ∙ (position-Some p bank i c at).1

pub room_at : (rows : Rows) (value bank : List NumberedChannel) (i : ℕ) (c : NumberedChannel) → bank ≡ value → HaveRoom rows (all_settings value) → i < length bank → c ≡ get_or bank i c → (key : Key) → capacity_at rows key ≤ c.channel.greatest
room_at rows value bank i c same all lt is key =
    let there : HaveRoom rows (all_settings bank) = subst (λ (v : List NumberedChannel). HaveRoom rows (all_settings v)) (sym same) all in
    let here : i < length (all_settings bank) = simp length-map lt in
    subst (λ (s : ChannelSettings). capacity_at rows key ≤ s.greatest) (settings_at bank i c (settings_of c) lt is) (there i (settings_of c) key here)

-- no two have one number
other_number : (bank : List NumberedChannel) (i j : ℕ) (c e : NumberedChannel) → AreInOrder (all_settings bank) → i < length bank → j < length bank → j ≢ i → c ≡ get_or bank i c → eqb (get_or bank j e).number c.number ≡ false
other_number bank i j c e order lt below other is =
    let ni : (get_or (all_settings bank) i (settings_of c)).number ≡ c.number = ap (λ (s : ChannelSettings). s.number) (settings_at bank i c (settings_of c) lt is) in
    let nj : (get_or (all_settings bank) j (settings_of c)).number ≡ (get_or bank j e).number = ap (λ (s : ChannelSettings). s.number) (get_or-map settings_of bank j e (settings_of c) below) in
    let len : length (all_settings bank) ≡ length bank = simp length-map in
    by_order ni nj len (ltb i j) refl (ltb j i) refl
  where
    by_order : (get_or (all_settings bank) i (settings_of c)).number ≡ c.number → (get_or (all_settings bank) j (settings_of c)).number ≡ (get_or bank j e).number → length (all_settings bank) ≡ length bank
        → (a : Bool) → ltb i j ≡ a → (b : Bool) → ltb j i ≡ b → eqb (get_or bank j e).number c.number ≡ false
    by_order ni nj len true h b k =
        let less : i < j = grind (arith, nat_tests) in
        let apart : c.number < (get_or bank j e).number = omega (arith, order.increasing i j (settings_of c) less (omega arith)) in
        grind (arith, nat_tests)
    by_order ni nj len false h true k =
        let less : j < i = grind (arith, nat_tests) in
        let apart : (get_or bank j e).number < c.number = omega (arith, order.increasing j i (settings_of c) less (omega arith)) in
        grind (arith, nat_tests)
    by_order ni nj len false h false k = let same : j ≡ i = grind (arith, nat_tests) in absurd (other same)

-- ---- where all stand after their logs

module _ (d : Description) (channels : List ChannelSettings) (value bank : List NumberedChannel) (same : bank ≡ value) (logs : ℕ → Log) (all : BankStands d channels value logs) where
  pub there : BankStands d channels bank logs
  there = subst (λ (v : List NumberedChannel). BankStands d channels v logs) (sym same) all

  -- the one at a place stands after the log of its number
  pub stands_at : (i : ℕ) (c : NumberedChannel) → i < length bank → c ≡ get_or bank i c → Stands d c.channel (logs c.number)
  stands_at i c lt is = subst (λ (e : NumberedChannel). Stands d e.channel (logs e.number)) (sym is) (there.each i c lt)

  -- what a search finds of the channels is at the place that a search of the list finds
  pub found : (q : ChannelSettings → Bool) (p : NumberedChannel → Bool) → ((j : ℕ) (e : NumberedChannel) → j < length bank → q (settings_of (get_or bank j e)) ≡ p (get_or bank j e)) → (i : ℕ) (c : NumberedChannel)
      → position p bank ≡ Some i → c ≡ get_or bank i c → find q channels ≡ Some (settings_of c)
  found q p agree i c at is =
      ap (find q) (sym there.settings)
      ∙ find_map q settings_of bank
      ∙ ap (option_map settings_of) (find_same (λ e. q (settings_of e)) p bank agree ∙ find_at_place p bank i c at)
      ∙ ap (λ (e : NumberedChannel). Some (settings_of e)) (sym is)

  pub found_none : (q : ChannelSettings → Bool) (p : NumberedChannel → Bool) → ((j : ℕ) (e : NumberedChannel) → j < length bank → q (settings_of (get_or bank j e)) ≡ p (get_or bank j e)) → position p bank ≡ None → find q channels ≡ None
  found_none q p agree at =
      ap (find q) (sym there.settings)
      ∙ find_map q settings_of bank
      ∙ ap (option_map settings_of) (find_same (λ e. q (settings_of e)) p bank agree ∙ find_nowhere p bank at)

  -- one of them changed, and its log: the others stay
  pub changed_at : (after : ℕ → Log) (i : ℕ) (c new : NumberedChannel) → AreInOrder (all_settings bank) → i < length bank → c ≡ get_or bank i c → settings_of new ≡ settings_of c → ((n : ℕ) → eqb n c.number ≡ false → after n ≡ logs n)
      → Stands d new.channel (after c.number) → BankStands d channels (set bank i new) after
  changed_at after i c new order lt is kept others stands = record {
    settings = settings_kept bank bank i c new refl is kept ∙ there.settings;
    each = λ j e below. by_test j e (simp length-set at below) (eqb j i) refl;
  }
    where
      number : new.number ≡ c.number
      number = ap (λ (s : ChannelSettings). s.number) kept

      by_test : (j : ℕ) (e : NumberedChannel) → j < length bank → (b : Bool) → eqb j i ≡ b → Stands d (get_or (set bank i new) j e).channel (after (get_or (set bank i new) j e).number)
      by_test j e below true h = let here : j ≡ i = grind (arith, nat_tests) in rw here (rw get_or-set_same (rw number stands))
      by_test j e below false h =
          let other : j ≢ i = grind (arith, nat_tests) in
          rw get_or-set_other (rw (others (get_or bank j e).number (other_number bank i j c e order lt below other is)) (there.each j e below))

  -- ---- the time of a transfer

  not_left : (time quiet : ℕ) → not (nat_lt 0 (time - quiet)) ≡ nat_le time quiet
  not_left time quiet = grind (arith, nat_tests)

  -- what a channel knows of its time is what its log gives
  expired_is : (c : Standing) (log : Log) → Stands d c log → is_time_over c.time log ≡ is_expired c
  expired_is c log s = rw (s.current, s.left) (ap (λ b. is_some (opened_after log) && (nat_lt 0 c.time && b)) (sym (not_left c.time (ticks_quiet log))))

  pub expired_at : (j : ℕ) (e : NumberedChannel) → j < length bank → is_time_over (get_or bank j e).channel.time (logs (get_or bank j e).number) ≡ is_expired (get_or bank j e).channel
  expired_at j e lt = expired_is (get_or bank j e).channel (logs (get_or bank j e).number) (there.each j e lt)
