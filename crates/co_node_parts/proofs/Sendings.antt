-- What is left of the inhibit times of some sendings, and several emergencies that are queued at once.
use Rattle.std.proofs.Common.{◌≡◌, ℕ, ◌+◌, ◌-◌, ◌<◌, ◌≤◌, Bool, true, false, leb, eqb, List, [], ◌∷◌, ◌++◌, refl, sym, ap, ◌∙◌, arith}
use Rattle.std.specs.Prelude.{◌&&◌, max, map, slice_get, None}
use Rattle.std.specs.List.{list_all}
use Rattle.std.proofs.lemmas.Bool.Decides.{nat_tests}
use Rattle.co_frame.specs.InhibitTimes.{in_ms}
use Rattle.co_frame.specs.declared.emergency.Emergency.{Emergency}
use Rattle.co_node_parts.specs.declared.emergencies.EmergencyEvent.TheVariants.{Queue}
use Rattle.co_node_parts.specs.EmergencyQueues.{Sending, older, is_past, inhibit_left, EmergencyLog, sendings, queue_of, is_inhibit_over, emergency_due, Noted, with_queued}

one_past : (n age rest : ℕ) (b : Bool) → eqb rest 0 ≡ b → eqb (max (n - age) rest) 0 ≡ leb n age && b
one_past n age rest true e = grind (arith, nat_tests)
one_past n age rest false e = grind (arith, nat_tests)

-- nothing is left exactly where each sending is past
left_over : (xs : List Sending) → eqb (inhibit_left xs) 0 ≡ list_all is_past xs
left_over [] = refl
left_over (s ∷ xs) = one_past (in_ms s.inhibit) s.age (inhibit_left xs) _ (left_over xs)

one_older : (n age rest : ℕ) → max (n - age) rest - 1 ≡ max (n - (age + 1)) (rest - 1)
one_older n age rest = omega arith

-- a tick later one tick fewer is left
pub left_older : (xs : List Sending) → inhibit_left xs - 1 ≡ inhibit_left (map older xs)
left_older [] = refl
left_older (s ∷ xs) = one_older (in_ms s.inhibit) s.age (inhibit_left xs) ∙ ap (max (in_ms s.inhibit - (s.age + 1))) (left_older xs)

module _ (may : Bool) (log : EmergencyLog) (left : ℕ) (h : left ≡ inhibit_left (sendings log)) where
  over_as : (b : Bool) → eqb left 0 ≡ b → is_inhibit_over log ≡ b
  over_as b z = sym (left_over (sendings log)) ∙ ap (λ n. eqb n 0) (sym h) ∙ z

  -- the front is due where it may be sent and nothing is left
  pub front_due : may ≡ true → left ≤ 0 → slice_get (queue_of log) 0 ≡ emergency_due may log
  front_due m le = let over : is_inhibit_over log ≡ true = over_as true (grind (arith, nat_tests)) in rw (m, over) refl

  pub none_while_left : 0 < left → None ≡ emergency_due may log
  none_while_left lt = let over : is_inhibit_over log ≡ false = over_as false (grind (arith, nat_tests)) in by_test may
    where
      by_test : (b : Bool) → None ≡ emergency_due b log
      by_test true = let over : is_inhibit_over log ≡ false = over_as false (grind (arith, nat_tests)) in rw over refl
      by_test false = refl

  pub none_where_not : may ≡ false → None ≡ emergency_due may log
  none_where_not m = rw m refl

-- the last of several is queued last
pub with_queued-snoc : (es : List Emergency) (e : Emergency) (log : EmergencyLog) → with_queued (es ++ e ∷ []) log ≡ Noted (Queue e) ∷ with_queued es log
with_queued-snoc [] e log = refl
with_queued-snoc (f ∷ es) e log = with_queued-snoc es e (Noted (Queue f) ∷ log)
