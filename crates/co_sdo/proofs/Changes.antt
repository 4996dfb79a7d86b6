-- A list of channels after a change of one of them, or of each.
use Rattle.std.proofs.Common.{◌≡◌, ◌≢◌, ℕ, ◌+◌, ◌<◌, ◌≤◌, Bool, true, false, eqb, ltb, List, [], ◌∷◌, ◌++◌, length, get_or, set, refl, sym, ap, ◌∙◌, arith, get_or-set_same, get_or-set_other, take, cond, Some, None, ◌||◌}
use Rattle.std.specs.Prelude.{position}
use Rattle.std.specs.List.{position_or_len}
use Rattle.std.proofs.lemmas.List.Sums.{position_or_len_is}
use Rattle.std.proofs.Math.Seq.{map-set_same, take-append_seam}
use Rattle.std.proofs.lemmas.List.{map-append, length-append, get_or_append_left, get_or-append-add}
use Rattle.std.proofs.lemmas.Bool.Decides.{nat_tests}
use Rattle.co_dict.specs.Stores.{Description}
use Rattle.co_sdo.specs.Log.{Log, Event}
use Rattle.co_sdo.specs.Standing.{Stands}
use Rattle.co_sdo.specs.declared.channels.NumberedChannel.{NumberedChannel}
use Rattle.co_sdo.specs.Channels.{ChannelSettings}
use Rattle.co_sdo.specs.Banks.{BankStands, settings_of, all_settings}
use Rattle.co_sdo.specs.Events.{with_each}

-- ---- one more channel

pub pushed : (d : Description) (channels : List ChannelSettings) (bank : List NumberedChannel) (new : NumberedChannel) → BankStands d channels bank (λ n. []) → Stands d new.channel []
    → BankStands d (channels ++ settings_of new ∷ []) (bank ++ new ∷ []) (λ n. [])
pushed d channels bank new before here = record {
  settings = map-append settings_of bank (new ∷ []) ∙ ap (λ (cs : List ChannelSettings). cs ++ settings_of new ∷ []) before.settings;
  each = λ i e lt. by_test i e (omega (arith, length-append bank (new ∷ []), lt)) (ltb i (length bank)) refl;
}
  where
    by_test : (i : ℕ) (e : NumberedChannel) → i < length bank + 1 → (b : Bool) → ltb i (length bank) ≡ b → Stands d (get_or (bank ++ new ∷ []) i e).channel []
    by_test i e lt true h = let less : i < length bank = grind (arith, nat_tests) in rw (get_or_append_left bank (new ∷ []) e i less) (before.each i e less)
    by_test i e lt false h = let last : i ≡ length bank + 0 = grind (arith, nat_tests) in rw last (rw (get_or-append-add bank (new ∷ []) 0 e) here)

-- ---- each of them, one after the other

-- what never changes of one is what it was of all
pub settings_set : (bank : List NumberedChannel) (i : ℕ) (new old : NumberedChannel) → settings_of new ≡ settings_of (get_or bank i old) → all_settings (set bank i new) ≡ all_settings bank
settings_set bank i new old e = map-set_same settings_of bank i new old e

-- those past a place are as they were
pub rest_set : (first bank : List NumberedChannel) (i : ℕ) (new : NumberedChannel) → ((j : ℕ) (e : NumberedChannel) → i ≤ j → get_or bank j e ≡ get_or first j e)
    → (j : ℕ) (e : NumberedChannel) → i + 1 ≤ j → get_or (set bank i new) j e ≡ get_or first j e
rest_set first bank i new rest j e le = let other : j ≢ i = omega arith in rw get_or-set_other (rest j e (omega arith))

-- those before a place have a longer log, and now the one at it
pub done_set : (d : Description) (event : Event) (channels : List ChannelSettings) (first bank : List NumberedChannel) (i : ℕ) (old new : NumberedChannel) → i < length bank → length bank ≡ length first
    → ((j : ℕ) (e : NumberedChannel) → i ≤ j → get_or bank j e ≡ get_or first j e)
    → new.number ≡ (get_or bank i old).number → ((log : Log) → Stands d (get_or bank i old).channel log → Stands d new.channel (event ∷ log)) → (logs : ℕ → Log) → BankStands d channels first logs
    → ((j : ℕ) (e : NumberedChannel) → j < i → Stands d (get_or bank j e).channel (event ∷ logs (get_or bank j e).number))
    → (j : ℕ) (e : NumberedChannel) → j < i + 1 → Stands d (get_or (set bank i new) j e).channel (event ∷ logs (get_or (set bank i new) j e).number)
done_set d event channels first bank i old new lt len rest number step logs all done j e below = by_test (eqb j i) refl
  where
    here : Stands d (get_or bank i old).channel (logs (get_or bank i old).number)
    here = rw (rest i old (omega arith)) (all.each i old (omega arith))

    by_test : (b : Bool) → eqb j i ≡ b → Stands d (get_or (set bank i new) j e).channel (event ∷ logs (get_or (set bank i new) j e).number)
    by_test true h = let same : j ≡ i = grind (arith, nat_tests) in rw same (rw get_or-set_same (rw number (step (logs (get_or bank i old).number) here)))
    by_test false h = let other : j ≢ i = grind (arith, nat_tests) in rw get_or-set_other (done j e (omega arith))

-- after the last one
pub done_all : (d : Description) (event : Event) (channels : List ChannelSettings) (first bank : List NumberedChannel) (i : ℕ) (logs : ℕ → Log) → length bank ≤ i → all_settings bank ≡ all_settings first → BankStands d channels first logs
    → ((j : ℕ) (e : NumberedChannel) → j < i → Stands d (get_or bank j e).channel (event ∷ logs (get_or bank j e).number)) → BankStands d channels bank (with_each event logs)
done_all d event channels first bank i logs le same all done = record { settings = same ∙ all.settings; each = λ j e lt. done j e (omega arith) }

-- what a call left in the slice of a list is the list
pub all_written : {A : Type 0} (n : ℕ) (new rest : List A) → length new ≡ n → take n (new ++ rest) ≡ new
all_written n new rest e = ap (λ m. take m (new ++ rest)) (sym e) ∙ take-append_seam new rest

-- ---- none of them that passes a test

-- those before a place don't pass, nor the one that is now at it
pub quiet_set : (p : NumberedChannel → Bool) (bank : List NumberedChannel) (i : ℕ) (new : NumberedChannel) → i < length bank → p new ≡ false
    → ((j : ℕ) (e : NumberedChannel) → j < i → p (get_or bank j e) ≡ false) → (j : ℕ) (e : NumberedChannel) → j < i + 1 → p (get_or (set bank i new) j e) ≡ false
quiet_set p bank i new lt here before j e below = by_test (eqb j i) refl
  where
    by_test : (b : Bool) → eqb j i ≡ b → p (get_or (set bank i new) j e) ≡ false
    by_test true h = let same : j ≡ i = grind (arith, nat_tests) in rw same (rw get_or-set_same here)
    by_test false h = let other : j ≢ i = grind (arith, nat_tests) in rw get_or-set_other (before j e (omega arith))

-- neither of two that are false together is true
pub or_false : (a b : Bool) → (a || b) ≡ false → (a ≡ false) × (b ≡ false)
or_false false b h = (refl, h)
or_false true b h = cc

-- where none passes a search finds none
pub none_passes : (p : NumberedChannel → Bool) (bank : List NumberedChannel) (i : ℕ) → length bank ≤ i → ((j : ℕ) (e : NumberedChannel) → j < i → p (get_or bank j e) ≡ false) → position p bank ≡ None
none_passes p [] i le quiet = refl
none_passes p (c ∷ cs) i le quiet =
    let size : ℕ = length (c ∷ cs) in
    let first : position_or_len p (c ∷ cs) ≡ size = position_or_len_is p (c ∷ cs) size c (omega arith) (λ k lt. quiet k c (omega arith)) (λ lt. absurd (omega arith)) in
    let past : ltb (position_or_len p (c ∷ cs)) size ≡ false = grind (arith, nat_tests) in
    ap (λ b. cond b (Some (position_or_len p (c ∷ cs))) None) past
