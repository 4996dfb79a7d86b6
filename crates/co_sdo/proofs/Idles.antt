-- For how many ticks the time of a transfer isn't over.
use Rattle.std.proofs.Common.{◌≡◌, ℕ, zero, suc, ◌+◌, ◌-◌, ◌<◌, ◌≤◌, Bool, true, false, ◌∷◌, Option, Some, None, refl, ap, ◌∙◌, arith}
use Rattle.std.specs.Prelude.{◌&&◌, nat_lt, nat_le, is_some, not, List}
use Rattle.std.proofs.Math.Bool.{and-false}
use Rattle.std.proofs.lemmas.Bool.Decides.{nat_tests}
use Rattle.co_sdo.specs.declared.stage.Ongoing.{Ongoing}
use Rattle.co_sdo.specs.Fields.{opened_in}
use Rattle.co_sdo.specs.Log.{Log, Ticked, ticks_quiet}
use Rattle.co_sdo.specs.OpenTransfers.{Since, and_event, open_since, since_initiate}
use Rattle.co_sdo.specs.Opened.{NotOverFor, opened, opened_after}

-- a tick opens and ends nothing
tick_since : (s : Option Since) → open_since (and_event Ticked s) ≡ open_since s
tick_since None = refl
tick_since (Some s) = refl

pub opened_tick : (log : Log) → opened_after (Ticked ∷ log) ≡ opened_after log
opened_tick log = ap opened (tick_since (since_initiate log))

within : (b c : Bool) (time ticks : ℕ) → 1 < time - ticks → b && (c && nat_le time (ticks + 1)) ≡ false
within b c time ticks lt =
    let below : nat_le time (ticks + 1) ≡ false = grind (arith, nat_tests) in
    ap (λ (x : Bool). b && (c && x)) below ∙ ap (λ (x : Bool). b && x) (and-false c) ∙ and-false b

pub not_over : (time n : ℕ) (log : Log) → n ≤ time - ticks_quiet log - 1 → NotOverFor time n log
not_over time zero log le = tt
not_over time (suc n) log le =
    (within (is_some (opened_after (Ticked ∷ log))) (nat_lt 0 time) time (ticks_quiet log) (omega arith), not_over time n (Ticked ∷ log) (omega arith))

pub no_time : (time n : ℕ) (log : Log) → time ≡ 0 → NotOverFor time n log
no_time time zero log none = tt
no_time time (suc n) log none = (
  ap (λ (m : ℕ). is_some (opened_after (Ticked ∷ log)) && (nat_lt 0 m && nat_le m (ticks_quiet log + 1))) none ∙ and-false (is_some (opened_after (Ticked ∷ log))),
  no_time time n (Ticked ∷ log) none,
)

pub none_open : (time n : ℕ) (log : Log) → opened_after log ≡ None → NotOverFor time n log
none_open time zero log none = tt
none_open time (suc n) log none = (
  ap (λ o. is_some o && (nat_lt 0 time && nat_le time (ticks_quiet log + 1))) (opened_tick log ∙ none),
  none_open time n (Ticked ∷ log) (opened_tick log ∙ none),
)

-- nothing is open where the code has nothing open
pub nothing_opened : (o : Option Ongoing) (bytes : List ℕ) (none : Bool) → is_some o ≡ not none → none ≡ true → opened_in o bytes ≡ None
nothing_opened None bytes none e t = refl
nothing_opened (Some ongoing) bytes true e t = cc
nothing_opened (Some ongoing) bytes false e t = cc
