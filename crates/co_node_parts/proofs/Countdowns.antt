-- The countdown of the heartbeat producer, and the ticks that it counts.
use Rattle.std.proofs.Common.{◌≡◌, ℕ, ◌+◌, ◌-◌, ◌<◌, ◌≤◌, ◌⊎◌, inl, inr, Bool, true, false, ltb, ◌∷◌, refl, sym, ap, ◌∙◌, arith, add-one}
use Rattle.std.specs.Prelude.{◌%◌, ◌==◌, ◌&&◌, nat_lt}
use Rattle.std.proofs.Math.Nat.{suc-mod, mod_self, mod-eq_of_lt, mod-lt}
use Rattle.std.proofs.lemmas.Bool.Decides.{nat_tests}
use Rattle.co_node_parts.specs.declared.heartbeat_producer.ProducerEvent.TheVariants.{Tick}
use Rattle.co_node_parts.specs.Producers.{Producer, ProducerLog, ProducerStands, ticks, period_of, is_heartbeat_due}

-- one tick more, modulo the period: it goes around, or it is one more
around : (n k : ℕ) → 0 < k → ((n % k + 1 ≡ k) × ((n + 1) % k ≡ 0)) ⊎ ((n % k + 1 < k) × ((n + 1) % k ≡ n % k + 1))
around n k h = by_test (ltb (n % k + 1) k) refl
  where
    step : (n + 1) % k ≡ (n % k + 1) % k
    step = rw (add-one, suc-mod n k, add-one) refl

    by_test : (b : Bool) → ltb (n % k + 1) k ≡ b → ((n % k + 1 ≡ k) × ((n + 1) % k ≡ 0)) ⊎ ((n % k + 1 < k) × ((n + 1) % k ≡ n % k + 1))
    by_test true e = let lt : n % k + 1 < k = grind (arith, nat_tests) in inr (lt, step ∙ mod-eq_of_lt lt)
    by_test false e =
        let below : n % k < k = mod-lt n h in
        let same : n % k + 1 ≡ k = grind (arith, nat_tests) in
        inl (same, step ∙ ap (λ m. m % k) same ∙ mod_self k)

-- more than one tick is left: one fewer is left after a tick, whose number is no multiple
running : (n k : ℕ) → 1 < k - n % k → (k - n % k - 1 ≡ k - (n + 1) % k) × (false ≡ (nat_lt 0 k && (n + 1) % k == 0))
running n k h = elim (around n k (omega arith)) [
  | inl e ↦ let b : n % k + 1 ≡ k = e.0 in absurd (omega arith)
  | inr e ↦ let z : (n + 1) % k ≡ n % k + 1 = e.1 in (omega arith, grind (arith, nat_tests))
]

-- at most one is left: the tick's number is a multiple of the period, and all of it is left after it
ending : (n k : ℕ) → k - n % k ≤ 1 → (k ≡ k - (n + 1) % k) × (nat_lt 0 k ≡ (nat_lt 0 k && (n + 1) % k == 0))
ending n k h = by_test (nat_lt 0 k) refl
  where
    by_test : (b : Bool) → nat_lt 0 k ≡ b → (k ≡ k - (n + 1) % k) × (nat_lt 0 k ≡ (nat_lt 0 k && (n + 1) % k == 0))
    by_test false e = let z : k ≡ 0 = grind (arith, nat_tests) in (omega arith, grind (arith, nat_tests))
    by_test true e = elim (around n k (grind (arith, nat_tests))) [
      | inl e ↦ let z : (n + 1) % k ≡ 0 = e.1 in (omega arith, grind (arith, nat_tests))
      | inr e ↦ let b : n % k + 1 < k = e.0 in absurd (omega arith)
    ]

module _ (p : Producer) (log : ProducerLog) (h : ProducerStands p log) where
  running_left : 1 < p.left → 1 < period_of log - ticks log % period_of log
  running_left lt = let e : p.left ≡ period_of log - ticks log % period_of log = h.left ∙ ap (λ k. k - ticks log % k) h.period in omega arith

  ending_left : p.left ≤ 1 → period_of log - ticks log % period_of log ≤ 1
  ending_left le = let e : p.left ≡ period_of log - ticks log % period_of log = h.left ∙ ap (λ k. k - ticks log % k) h.period in omega arith

  pub stands_running : 1 < p.left → ProducerStands (record { period = p.period; left = p.left - 1 }) (Tick ∷ log)
  stands_running lt = record {
    period = h.period;
    left = ap (λ n. n - 1) (h.left ∙ ap (λ k. k - ticks log % k) h.period) ∙ (running (ticks log) (period_of log) (running_left lt)).0 ∙ ap (λ k. k - (ticks log + 1) % k) (sym h.period);
  }

  pub stands_ending : p.left ≤ 1 → ProducerStands (record { period = p.period; left = p.period }) (Tick ∷ log)
  stands_ending le = record {
    period = h.period;
    left = h.period ∙ (ending (ticks log) (period_of log) (ending_left le)).0 ∙ ap (λ k. k - (ticks log + 1) % k) (sym h.period);
  }

  pub not_due : 1 < p.left → false ≡ is_heartbeat_due Tick log
  not_due lt = (running (ticks log) (period_of log) (running_left lt)).1

  pub due_unless_off : p.left ≤ 1 → nat_lt 0 p.period ≡ is_heartbeat_due Tick log
  due_unless_off le = ap (nat_lt 0) h.period ∙ (ending (ticks log) (period_of log) (ending_left le)).1
