-- One write, and what it does to the condition of the schedule.
use Rattle.std.proofs.Common.{◌≡◌, ◌≢◌, ℕ, ◌+◌, ◌-◌, ◌<◌, ◌≤◌, Bool, true, false, cond, eqb, List, [], ◌∷◌, ◌++◌, Option, Some, None, refl, sym, ap, ◌∙◌, subst, arith}
use Rattle.std.specs.Prelude.{◌&&◌, not, unwrap_or}
use Rattle.std.proofs.lemmas.Grind.{common_steps}
use Rattle.std.proofs.lemmas.Bool.Decides.{nat_tests}
use Rattle.co_value.specs.declared.key.Key.{Key}
use Rattle.co_value.specs.Keys.{same_key, same_key-is}
use Rattle.co_value.specs.Numbers.{unsigned_of}
use Rattle.co_profile.specs.Indices.{is_within, tpdo_communication}
use Rattle.co_dict.specs.Rows.{Contents, number_at, written}
use Rattle.co_dict.specs.Stores.{Description}
use Rattle.co_dict.specs.OwnRules.{own_refusal}
use Rattle.co_dict.specs.PdoRules.{is_pdo_valid}
use Rattle.co_dict.specs.CobIds.{is_valid}
use Rattle.co_pdo.specs.declared.settings.Settings.{Settings}
use Rattle.co_pdo.specs.declared.tpdo.Part.{Part}
use Rattle.co_pdo.specs.declared.tpdo.Part.TheVariants.{Whole, Timer}
use Rattle.co_pdo.specs.Log.{Log, Started, started_with}
use Rattle.co_pdo.specs.Countdowns.{IsAsAt, IsAsStarted, IsCurrent}
use Rattle.co_profile.specs.TransmissionTypes.{is_supported_type}
use Rattle.co_pdo.specs.Tpdos.{tpdo_key, tpdo_count_key, is_active, settings_of}
use Rattle.co_pdo.specs.Schedules.{History, log_of, AllCurrent}
use Rattle.co_node_model.specs.declared.turn.Turn.TheVariants.{Quiet}
use Rattle.co_node_model.specs.Tpdos.{part_started, start_turn, turn_by_write, with_turn}
use Rattle.co_node_laws.proofs.Below.{Below}
use Rattle.co_node_laws.specs.Settings.{HasSameSettings}
use Rattle.co_node_laws.proofs.SameSettings.{written_other}

-- from c to e an entry was set to bytes that its own rule permits, and else no entry from 1004h to 1FFFh changed
pub record IsWrite (d : Description) (c e : Contents) (key : Key) (bytes : List ℕ) : Type 0 where
  pub permitted : own_refusal d c key bytes ≡ None
  pub same : HasSameSettings (written c key bytes) e

-- ---- numbers of entries from 1004h to 1FFFh

pub number_same : (c e : Contents) (key : Key) → HasSameSettings c e → 0x1004 ≤ key.index → key.index ≤ 0x1FFF → number_at c key ≡ number_at e key
number_same c e key same low high = ap (λ b. unsigned_of (unwrap_or b [])) (same.same key low high)

-- ---- settings after a change, over the log before it

idle : (s t : Settings) (log : Log) → IsCurrent s log → t.is_active ≡ false → t.event_timer ≡ s.event_timer → IsCurrent t log
idle s t log h off same = record { started = λ on. absurd (cc); timer = same ∙ h.timer }

as_at : (start : Option Settings) (s t : Settings) → t.transmission_type.0 ≡ s.transmission_type.0 → t.inhibit_time ≡ s.inhibit_time → IsAsAt start s → IsAsAt start t
as_at None s t kind inhibit h = absurd h
as_at (Some start) s t kind inhibit h = (h.0 ∙ sym kind, h.1 ∙ sym inhibit)

retimed : (s t : Settings) (log : Log) → IsCurrent s log → t.is_active ≡ s.is_active → t.transmission_type.0 ≡ s.transmission_type.0 → t.inhibit_time ≡ s.inhibit_time → IsAsStarted t log
retimed s t log h active kind inhibit = λ on. as_at (started_with log) s t kind inhibit (h.started (sym active ∙ on))

alike : (s t : Settings) (log : Log) → IsCurrent s log → t.is_active ≡ s.is_active → t.transmission_type.0 ≡ s.transmission_type.0 → t.inhibit_time ≡ s.inhibit_time → t.event_timer ≡ s.event_timer → IsCurrent t log
alike s t log h active kind inhibit timer = record { started = retimed s t log h active kind inhibit; timer = timer ∙ h.timer }

-- whether a TPDO is active, by its three numbers
active_by : (c e : Contents) (j : ℕ) → number_at e (tpdo_key j 1) ≡ number_at c (tpdo_key j 1) → number_at e (tpdo_key j 2) ≡ number_at c (tpdo_key j 2) → number_at e (tpdo_count_key j) ≡ number_at c (tpdo_count_key j) → is_active e j ≡ is_active c j
active_by c e j word kind count =
    ap (λ n. is_valid n && not (eqb (number_at e (tpdo_count_key j)) 0) && is_supported_type (number_at e (tpdo_key j 2))) word
    ∙ ap (λ n. is_valid (number_at c (tpdo_key j 1)) && not (eqb n 0) && is_supported_type (number_at e (tpdo_key j 2))) count
    ∙ ap (λ n. is_valid (number_at c (tpdo_key j 1)) && not (eqb (number_at c (tpdo_count_key j)) 0) && is_supported_type n) kind

pub current_kept : (c e : Contents) (history : History) → HasSameSettings c e → AllCurrent c history → AllCurrent e history
current_kept c e history same all = λ k less.
    alike (settings_of c k) (settings_of e k) (log_of k history) (all k less)
    (active_by c e k
    (sym (number_same c e (tpdo_key k 1) same (omega arith) (omega arith)))
    (sym (number_same c e (tpdo_key k 2) same (omega arith) (omega arith)))
    (sym (number_same c e (tpdo_count_key k) same (omega arith) (omega arith))))
    (sym (number_same c e (tpdo_key k 2) same (omega arith) (omega arith)))
    (sym (number_same c e (tpdo_key k 3) same (omega arith) (omega arith)))
    (sym (number_same c e (tpdo_key k 5) same (omega arith) (omega arith)))

-- ---- what a write leaves

pub number_kept : (c e : Contents) (key other : Key) (bytes : List ℕ) → HasSameSettings (written c key bytes) e → 0x1004 ≤ other.index → other.index ≤ 0x1FFF → same_key key other ≡ false → number_at e other ≡ number_at c other
number_kept c e key other bytes same low high differs =
    ap (λ b. unsigned_of (unwrap_or b [])) (sym (same.same other low high) ∙ written_other c key other bytes differs)

-- ---- what a TPDO's log is after a write

log_here : (d : Description) (key : Key) (e : Contents) (due : List ℕ) (history : History) (j : ℕ) (part : Part) → j < 512 → key.index ≡ 0x1800 + j → part_started key.sub ≡ Some part
    → log_of j (with_turn d (turn_by_write key) e due history) ≡ Started part (settings_of e j) ∷ log_of j history
log_here d key e due history j part less index sub =
    let within : is_within tpdo_communication key.index ≡ true = grind (arith, nat_tests) in
    let here : eqb (key.index - 0x1800) j ≡ true = grind (arith, nat_tests) in
    ap (λ b. log_of j (with_turn d (cond b (start_turn (key.index - 0x1800) (part_started key.sub)) Quiet) e due history)) within
    ∙ ap (λ o. log_of j (with_turn d (start_turn (key.index - 0x1800) o) e due history)) sub
    ∙ ap (λ b. cond b (Started part (settings_of e j) ∷ []) [] ++ log_of j history) here

log_here_none : (d : Description) (key : Key) (e : Contents) (due : List ℕ) (history : History) (j : ℕ) → j < 512 → key.index ≡ 0x1800 + j → part_started key.sub ≡ None
    → log_of j (with_turn d (turn_by_write key) e due history) ≡ log_of j history
log_here_none d key e due history j less index sub =
    let within : is_within tpdo_communication key.index ≡ true = grind (arith, nat_tests) in
    ap (λ b. log_of j (with_turn d (cond b (start_turn (key.index - 0x1800) (part_started key.sub)) Quiet) e due history)) within
    ∙ ap (λ o. log_of j (with_turn d (start_turn (key.index - 0x1800) o) e due history)) sub

log_by_part : (d : Description) (key : Key) (e : Contents) (due : List ℕ) (history : History) (j : ℕ) (within : Bool) (part : Option Part) → is_within tpdo_communication key.index ≡ within → key.index ≢ 0x1800 + j
    → log_of j (with_turn d (cond within (start_turn (key.index - 0x1800) part) Quiet) e due history) ≡ log_of j history
log_by_part d key e due history j false part is differs = refl
log_by_part d key e due history j true None is differs = refl
log_by_part d key e due history j true (Some part) is differs =
    let other : eqb (key.index - 0x1800) j ≡ false = grind (arith, nat_tests) in
    ap (λ b. cond b (Started part (settings_of e j) ∷ []) [] ++ log_of j history) other

log_elsewhere : (d : Description) (key : Key) (e : Contents) (due : List ℕ) (history : History) (j : ℕ) → key.index ≢ 0x1800 + j → log_of j (with_turn d (turn_by_write key) e due history) ≡ log_of j history
log_elsewhere d key e due history j differs = log_by_part d key e due history j (is_within tpdo_communication key.index) (part_started key.sub) refl differs

-- ---- one write

-- a write of the inhibit time or of the count of TPDO j leaves it inactive
still_idle : (c e : Contents) (key : Key) (bytes : List ℕ) (j : ℕ) → j < 512 → HasSameSettings (written c key bytes) e → same_key key (tpdo_key j 1) ≡ false → is_pdo_valid c (0x1800 + j) ≡ false → is_active e j ≡ false
still_idle c e key bytes j less same differs off =
    let word : number_at e (tpdo_key j 1) ≡ number_at c (tpdo_key j 1) = number_kept c e key (tpdo_key j 1) bytes same (omega arith) (omega arith) differs in
    let invalid : is_valid (number_at e (tpdo_key j 1)) ≡ false = ap is_valid word ∙ off in
    ap (λ b. b && not (eqb (number_at e (tpdo_count_key j)) 0) && is_supported_type (number_at e (tpdo_key j 2))) invalid

-- the key is none of these four of a TPDO
record Apart (key : Key) (j : ℕ) : Type 0 where
  word : same_key key (tpdo_key j 1) ≡ false
  kind : same_key key (tpdo_key j 2) ≡ false
  inhibit : same_key key (tpdo_key j 3) ≡ false
  count : same_key key (tpdo_count_key j) ≡ false

still_started : (c e : Contents) (key : Key) (bytes : List ℕ) (j : ℕ) (log : Log) → j < 512 → HasSameSettings (written c key bytes) e → Apart key j → IsCurrent (settings_of c j) log → IsAsStarted (settings_of e j) log
still_started c e key bytes j log less same apart h =
    let word = number_kept c e key (tpdo_key j 1) bytes same (omega arith) (omega arith) apart.word in
    let kind = number_kept c e key (tpdo_key j 2) bytes same (omega arith) (omega arith) apart.kind in
    let inhibit = number_kept c e key (tpdo_key j 3) bytes same (omega arith) (omega arith) apart.inhibit in
    let count = number_kept c e key (tpdo_count_key j) bytes same (omega arith) (omega arith) apart.count in
    retimed (settings_of c j) (settings_of e j) log h (active_by c e j word kind count) kind inhibit

timer_kept : (c e : Contents) (key : Key) (bytes : List ℕ) (j : ℕ) → j < 512 → HasSameSettings (written c key bytes) e → same_key key (tpdo_key j 5) ≡ false → number_at e (tpdo_key j 5) ≡ number_at c (tpdo_key j 5)
timer_kept c e key bytes j less same differs = number_kept c e key (tpdo_key j 5) bytes same (omega arith) (omega arith) differs

timer_sub : (n : ℕ) → part_started n ≡ Some Timer → n ≡ 5
timer_sub n h = grind (arith, common_steps)

not_same : (n m : ℕ) → eqb n m ≡ false → n ≢ m
not_same n m h = grind (arith, nat_tests)

module _ (below : Below) where
  -- the write is at the communication parameter of TPDO j, by what its sub-index starts
  at_none : (d : Description) (c e : Contents) (key : Key) (bytes : List ℕ) (j : ℕ) (log : Log) (third : Bool) → eqb key.sub 3 ≡ third → j < 512 → key.index ≡ 0x1800 + j → part_started key.sub ≡ None → IsWrite d c e key bytes → IsCurrent (settings_of c j) log → IsCurrent (settings_of e j) log
  at_none d c e key bytes j log true is less index sub w h =
      let same : key ≡ tpdo_key j 3 = same_key-is key (tpdo_key j 3) (grind (arith, nat_tests)) in
      let off : is_pdo_valid c (0x1800 + j) ≡ false = below.inhibit_time d c j bytes less (subst (λ (k : Key). own_refusal d c k bytes ≡ None) same w.permitted) in
      idle (settings_of c j) (settings_of e j) log h
      (still_idle c e key bytes j less w.same (grind (arith, nat_tests)) off) (timer_kept c e key bytes j less w.same (grind (arith, nat_tests)))
  at_none d c e key bytes j log false is less index sub w h =
      let apart : Apart key j = record { word = grind (arith, nat_tests); kind = grind (arith, nat_tests); inhibit = grind (arith, nat_tests); count = grind (arith, nat_tests) } in
      record {
        started = still_started c e key bytes j log less w.same apart h;
        timer = timer_kept c e key bytes j less w.same (grind (arith, nat_tests)) ∙ h.timer;
      }

  at_part : (d : Description) (c e : Contents) (key : Key) (bytes due : List ℕ) (history : History) (j : ℕ) (part : Option Part) → part_started key.sub ≡ part → j < 512 → key.index ≡ 0x1800 + j → IsWrite d c e key bytes → IsCurrent (settings_of c j) (log_of j history)
      → IsCurrent (settings_of e j) (log_of j (with_turn d (turn_by_write key) e due history))
  at_part d c e key bytes due history j None sub less index w h = rw (log_here_none d key e due history j less index sub) (at_none d c e key bytes j (log_of j history) (eqb key.sub 3) refl less index sub w h)
  at_part d c e key bytes due history j (Some Whole) sub less index w h = rw (log_here d key e due history j Whole less index sub) (record { started = λ on. (refl, refl); timer = refl })
  at_part d c e key bytes due history j (Some Timer) sub less index w h =
      let fifth : key.sub ≡ 5 = timer_sub key.sub sub in
      let apart : Apart key j = record { word = grind (arith, nat_tests); kind = grind (arith, nat_tests); inhibit = grind (arith, nat_tests); count = grind (arith, nat_tests) } in
      rw (log_here d key e due history j Timer less index sub) (record { started = still_started c e key bytes j (log_of j history) less w.same apart h; timer = refl })

  -- the write is elsewhere
  elsewhere : (d : Description) (c e : Contents) (key : Key) (bytes : List ℕ) (j : ℕ) (log : Log) (counts : Bool) → same_key key (tpdo_count_key j) ≡ counts → j < 512 → key.index ≢ 0x1800 + j → IsWrite d c e key bytes → IsCurrent (settings_of c j) log → IsCurrent (settings_of e j) log
  elsewhere d c e key bytes j log true is less differs w h =
      let same : key ≡ tpdo_count_key j = same_key-is key (tpdo_count_key j) is in
      let off : is_pdo_valid c (0x1800 + j) ≡ false = below.mapping d c j bytes less (subst (λ (k : Key). own_refusal d c k bytes ≡ None) same w.permitted) in
      idle (settings_of c j) (settings_of e j) log h
      (still_idle c e key bytes j less w.same (grind (arith, nat_tests)) off) (timer_kept c e key bytes j less w.same (grind (arith, nat_tests)))
  elsewhere d c e key bytes j log false is less differs w h =
      let apart : Apart key j = record { word = grind (arith, nat_tests); kind = grind (arith, nat_tests); inhibit = grind (arith, nat_tests); count = is } in
      record {
        started = still_started c e key bytes j log less w.same apart h;
        timer = timer_kept c e key bytes j less w.same (grind (arith, nat_tests)) ∙ h.timer;
      }

  by_index : (d : Description) (c e : Contents) (key : Key) (bytes due : List ℕ) (history : History) (j : ℕ) (here : Bool) → eqb key.index (0x1800 + j) ≡ here → j < 512 → IsWrite d c e key bytes → IsCurrent (settings_of c j) (log_of j history)
      → IsCurrent (settings_of e j) (log_of j (with_turn d (turn_by_write key) e due history))
  by_index d c e key bytes due history j true is less w h = at_part d c e key bytes due history j (part_started key.sub) refl less (grind (arith, nat_tests)) w h
  by_index d c e key bytes due history j false is less w h =
      let differs : key.index ≢ 0x1800 + j = not_same key.index (0x1800 + j) is in
      rw (log_elsewhere d key e due history j differs) (elsewhere d c e key bytes j (log_of j history) (same_key key (tpdo_count_key j)) refl less differs w h)

  pub current_written : (d : Description) (c e : Contents) (key : Key) (bytes due : List ℕ) (history : History) → IsWrite d c e key bytes → AllCurrent c history → AllCurrent e (with_turn d (turn_by_write key) e due history)
  current_written d c e key bytes due history w all = λ j less. by_index d c e key bytes due history j (eqb key.index (0x1800 + j)) refl less w (all j less)
