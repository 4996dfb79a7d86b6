-- For how many ticks no transfer is given up.
use Rattle.std.proofs.Common.{◌≡◌, ℕ, zero, suc, ◌<◌, Bool, false, true, ltb, cond, List, [], ◌∷◌, length, get_or, Some, None, refl, sym, ap, ◌∙◌, subst, arith, ◌+◌}
use Rattle.std.specs.Prelude.{option_map}
use Rattle.std.specs.List.{find}
use Rattle.std.proofs.lemmas.Bool.Decides.{nat_tests}
use Rattle.co_dict.specs.Stores.{Description}
use Rattle.co_sdo.specs.Log.{Log, Ticked}
use Rattle.co_sdo.specs.Opened.{NotOverFor, is_time_over}
use Rattle.co_sdo.specs.declared.channels.NumberedChannel.{NumberedChannel}
use Rattle.co_sdo.specs.Channels.{ChannelSettings}
use Rattle.co_sdo.specs.Banks.{AreInTimeFor, BankStands, all_settings, settings_of}
use Rattle.co_sdo.specs.Events.{NoTimeOutFor, time_out_of, time_out_on, with_each}

-- one more of them is in time
pub one_more : (n i : ℕ) (bank : List NumberedChannel) (logs : ℕ → Log) → AreInTimeFor n i bank logs
    → ((e : NumberedChannel) → NotOverFor (get_or bank i e).channel.time n (logs (get_or bank i e).number)) → AreInTimeFor n (i + 1) bank logs
one_more n i bank logs before here j e lt = by (ltb j i) refl
  where
    by : (b : Bool) → ltb j i ≡ b → NotOverFor (get_or bank j e).channel.time n (logs (get_or bank j e).number)
    by true h = before j e (grind (arith, nat_tests))
    by false h =
        let same : i ≡ j = grind (arith, nat_tests) in
        subst (λ (m : ℕ). NotOverFor (get_or bank m e).channel.time n (logs (get_or bank m e).number)) same (here e)

none_found : (q : ChannelSettings → Bool) (bank : List NumberedChannel)
    → ((i : ℕ) (e : NumberedChannel) → i < length bank → q (settings_of (get_or bank i e)) ≡ false) → find q (all_settings bank) ≡ None
none_found q [] off = refl
none_found q (c ∷ bank) off =
    ap (λ (b : Bool). cond b (Some (settings_of c)) (find q (all_settings bank))) (off 0 c (omega arith))
    ∙ none_found q bank (λ i e lt. off (suc i) e (omega arith))

none_now : (n : ℕ) (bank : List NumberedChannel) (logs : ℕ → Log) → AreInTimeFor (suc n) (length bank) bank logs → time_out_of (all_settings bank) (with_each Ticked logs) ≡ None
none_now n bank logs all =
    ap (option_map (λ (c : ChannelSettings). time_out_on c (Ticked ∷ logs c.number)))
    (none_found (λ (c : ChannelSettings). is_time_over c.time (Ticked ∷ logs c.number)) bank (λ i e lt. (all i e lt).0))

by_channels : (n : ℕ) (bank : List NumberedChannel) (logs : ℕ → Log) → AreInTimeFor n (length bank) bank logs → NoTimeOutFor (all_settings bank) n logs
by_channels zero bank logs all = tt
by_channels (suc n) bank logs all = (none_now n bank logs all, by_channels n bank (with_each Ticked logs) (λ i e lt. (all i e lt).1))

pub no_time_out : (d : Description) (channels : List ChannelSettings) (value bank : List NumberedChannel) (logs : ℕ → Log) (n : ℕ) → bank ≡ value
    → BankStands d channels value logs → (BankStands d channels bank logs → AreInTimeFor n (length bank) bank logs) → NoTimeOutFor channels n logs
no_time_out d channels value bank logs n same stands all =
    let there : BankStands d channels bank logs = subst (λ (v : List NumberedChannel). BankStands d channels v logs) (sym same) stands in
    subst (λ (c : List ChannelSettings). NoTimeOutFor c n logs) there.settings (by_channels n bank logs (all there))
