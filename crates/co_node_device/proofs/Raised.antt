-- Losses that are raised one by one.
use Rattle.std.proofs.Common.{◌≡◌, ℕ, ◌+◌, ◌<◌, List, [], ◌∷◌, ◌++◌, length, take, get_or, refl, sym, ap, ◌∙◌, subst}
use Rattle.std.proofs.lemmas.List.{take_more}
use Rattle.co_dict.specs.Rows.{Rows, Contents}
use Rattle.co_dict.specs.Stores.{Description}
use Rattle.co_node_parts.specs.declared.emergencies.EmergencyEvent.TheVariants.{Queue}
use Rattle.co_node_parts.specs.EmergencyQueues.{EmergencyLog, Noted, Pending, EmergenciesStand, with_queued}
use Rattle.co_node_model.specs.Emergencies.{heartbeat_lost, raised, emergency_of, all_raised, emergencies_of}
use Rattle.co_node_model.specs.Heartbeats.{loss_errors}

-- the last one is raised last
raised_last : (rows : Rows) (xs : List ℕ) (x : ℕ) (contents : Contents) → all_raised rows (loss_errors (xs ++ x ∷ [])) contents ≡ raised rows heartbeat_lost (all_raised rows (loss_errors xs) contents)
raised_last rows [] x contents = refl
raised_last rows (y ∷ xs) x contents = raised_last rows xs x (raised rows heartbeat_lost contents)

queued_last : (rows : Rows) (xs : List ℕ) (x : ℕ) (contents : Contents) (log : EmergencyLog)
    → with_queued (emergencies_of rows (loss_errors (xs ++ x ∷ [])) contents) log
    ≡ Noted (Queue (emergency_of heartbeat_lost (all_raised rows (loss_errors xs) contents))) ∷ with_queued (emergencies_of rows (loss_errors xs) contents) log
queued_last rows [] x contents log = refl
queued_last rows (y ∷ xs) x contents log = queued_last rows xs x (raised rows heartbeat_lost contents) (Noted (Queue (emergency_of heartbeat_lost contents)) ∷ log)

module _ (d here : Description) (xs : List ℕ) (i : ℕ) (old before : Contents) (lt : i < length xs) (same : here ≡ d) (h : before ≡ all_raised d.rows (loss_errors (take i xs)) old) where
  -- one more is raised
  pub raised_more : (after : Contents) → after ≡ raised here.rows heartbeat_lost before → after ≡ all_raised d.rows (loss_errors (take (i + 1) xs)) old
  raised_more after a =
      a ∙ ap (λ (e : Description). raised e.rows heartbeat_lost before) same ∙ ap (raised d.rows heartbeat_lost) h
      ∙ sym (ap (λ (ys : List ℕ). all_raised d.rows (loss_errors ys) old) (take_more xs i 0 lt) ∙ raised_last d.rows (take i xs) (get_or xs i 0) old)

  pub raised_queue : (p : Pending) (log : EmergencyLog) → EmergenciesStand p (Noted (Queue (emergency_of heartbeat_lost before)) ∷ with_queued (emergencies_of d.rows (loss_errors (take i xs)) old) log)
      → EmergenciesStand p (with_queued (emergencies_of d.rows (loss_errors (take (i + 1) xs)) old) log)
  raised_queue p log s =
      let queue : EmergencyLog = with_queued (emergencies_of d.rows (loss_errors (take i xs)) old) log in
      let last : Noted (Queue (emergency_of heartbeat_lost before)) ∷ queue ≡ with_queued (emergencies_of d.rows (loss_errors (take (i + 1) xs)) old) log =
      ap (λ (k : Contents). Noted (Queue (emergency_of heartbeat_lost k)) ∷ queue) h
      ∙ sym (ap (λ (ys : List ℕ). with_queued (emergencies_of d.rows (loss_errors ys) old) log) (take_more xs i 0 lt) ∙ queued_last d.rows (take i xs) (get_or xs i 0) old log) in
      subst (EmergenciesStand p) last s
