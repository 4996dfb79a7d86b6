-- All TPDOs after a change of one, and the numbers of those that are due.
use Rattle.std.proofs.Common.{◌≡◌, ◌≢◌, ℕ, ◌+◌, ◌<◌, ◌≤◌, Bool, true, false, cond, eqb, List, [], ◌∷◌, ◌++◌, length, map, take, get_or, set, refl, sym, ap, ◌∙◌, subst, arith, append-nil, length-append, get_or-set_same, get_or-set_other}
use Rattle.std.specs.List.{filter, range_with_len}
use Rattle.std.proofs.Math.Seq.{map-set_same}
use Rattle.std.proofs.lemmas.List.{take_all, map-id, get_or_default, get_or-map, length-map}
use Rattle.std.proofs.lemmas.List.Elements.{filter_more}
use Rattle.std.proofs.lemmas.List.FromFn.{filter_of_map_range_with_len_more}
use Rattle.std.proofs.lemmas.Bool.Decides.{nat_tests}
use Rattle.co_dict.specs.Rows.{Contents}
use Rattle.co_dict.specs.Stores.{Description}
use Rattle.std.specs.Prelude.{◌&&◌}
use Rattle.co_pdo.specs.declared.settings.Settings.{Settings}
use Rattle.co_pdo.specs.declared.tpdo.Occasion.{Occasion}
use Rattle.co_pdo.specs.declared.tpdo.Occasion.TheVariants.{Event}
use Rattle.co_pdo.specs.declared.tpdo.Part.TheVariants.{Whole}
use Rattle.co_pdo.specs.declared.tpdo.Tpdo.{Tpdo}
use Rattle.co_pdo.specs.declared.places.Places.{Places}
use Rattle.co_pdo.specs.Tpdos.{places_of, settings_of}
use Rattle.co_pdo.specs.Log.{Log, Started, Happened}
use Rattle.co_pdo.specs.Due.{is_due}
use Rattle.co_pdo.specs.Countdowns.{IsAfter, IsCurrent}
use Rattle.co_pdo.specs.Schedules.{ArePlaces, AllAfter, AllCurrentAfter, is_among, with_occasion, with_whole_start, with_event_if, with_events_among}

-- one more number of a range
pub filter_range_more : (p : ℕ → Bool) (n : ℕ) → filter p (range_with_len 0 (n + 1)) ≡ filter p (range_with_len 0 n) ++ cond (p n) (n ∷ []) []
filter_range_more p n =
    ap (filter p) (sym (map-id (range_with_len 0 (n + 1)))) ∙ filter_of_map_range_with_len_more p (λ (x : ℕ). x) 0 n n (omega arith)
    ∙ ap (λ xs. filter p xs ++ cond (p n) (n ∷ []) []) (map-id (range_with_len 0 n))

-- what is appended, by a test
pub appended_true : (b : Bool) (k : ℕ) (before after pushed : List ℕ) → b ≡ true → pushed ≡ before ++ k ∷ [] → after ≡ pushed → after ≡ before ++ cond b (k ∷ []) []
appended_true b k before after pushed e p a = a ∙ p ∙ ap (λ t. before ++ cond t (k ∷ []) []) (sym e)

pub appended_false : (b : Bool) (k : ℕ) (before after : List ℕ) → b ≡ false → after ≡ before → after ≡ before ++ cond b (k ∷ []) []
appended_false b k before after e a = a ∙ sym (append-nil before) ∙ ap (λ t. before ++ cond t (k ∷ []) []) (sym e)

pub few_more : (b : Bool) (i k : ℕ) (before after : List ℕ) → length before ≤ i → after ≡ before ++ cond b (k ∷ []) [] → length after ≤ i + 1
few_more true i k before after h e = omega (arith, ap length e, length-append before (k ∷ []))
few_more false i k before after h e = omega (arith, ap length e, length-append before [])

-- the elements past a place are as they were
pub rest_set : (fn xs : List Tpdo) (i : ℕ) (new : Tpdo) → ((j : ℕ) (d : Tpdo) → i ≤ j → get_or xs j d ≡ get_or fn j d) → (j : ℕ) (d : Tpdo) → i + 1 ≤ j → get_or (set xs i new) j d ≡ get_or fn j d
rest_set fn xs i new rest j d le = let other : j ≢ i = omega arith in rw get_or-set_other (rest j d (omega arith))

-- the numbers stay
pub numbers_set : (xs : List Tpdo) (i : ℕ) (new old : Tpdo) → new.number ≡ (get_or xs i old).number → map (λ t. t.number) (set xs i new) ≡ map (λ t. t.number) xs
numbers_set xs i new old e = map-set_same (λ t. t.number) xs i new old e

-- the number at a place
pub number_at_place : (xs : List Tpdo) (i : ℕ) (d : Tpdo) → i < length xs → get_or (map (λ t. t.number) xs) i 0 ≡ (get_or xs i d).number
number_at_place xs i d lt = get_or-map (λ t. t.number) xs i d 0 lt

-- the places at one, where they are those of all
pub places_at : (dict : Description) (xs : List Tpdo) (places : List Places) (i : ℕ) (d : Tpdo) (p : Places) → i < length xs → ArePlaces dict (map (λ t. t.number) xs) places → get_or places i p ≡ places_of dict (get_or xs i d).number
places_at dict xs places i d p lt placed =
    let within : i < length (map (λ (t : Tpdo). t.number) xs) = simp length-map lt in
    ap (λ (ps : List Places). get_or ps i p) placed ∙ get_or-map (places_of dict) (map (λ t. t.number) xs) i 0 p within ∙ ap (places_of dict) (number_at_place xs i d lt)

-- what a call did to one TPDO, by its number: whether it was sent, and its countdowns after it
pub record Took (goes : ℕ → Bool) (next : ℕ → Log) (old new : Tpdo) (sent : Bool) : Type 0 where
  pub number : new.number ≡ old.number
  pub due : sent ≡ goes old.number
  pub after : IsAfter new (next old.number)

module _ (fn xs : List Tpdo) (i : ℕ) (d : Tpdo) (lt : i < length fn) (rest : (j : ℕ) (e : Tpdo) → i ≤ j → get_or xs j e ≡ get_or fn j e) where
  here : get_or xs i d ≡ get_or fn i d
  here = rest i d (omega arith)

  -- the places of a TPDO that the call did not come to
  pub placed_here : (dict : Description) (places : List Places) (p : Places) → ArePlaces dict (map (λ t. t.number) fn) places → get_or places i p ≡ places_of dict (get_or xs i d).number
  placed_here dict places p placed = places_at dict fn places i d p lt placed ∙ ap (λ (t : Tpdo). places_of dict t.number) (sym here)

  -- its number is small
  pub below_here : ((j : ℕ) (e : Tpdo) → j < length fn → (get_or fn j e).number < 512) → (get_or xs i d).number < 512
  below_here small = subst (λ (t : Tpdo). t.number < 512) (sym here) (small i d lt)

  -- its countdowns
  had_after : (logs : ℕ → Log) → AllAfter fn logs → IsAfter (get_or xs i d) (logs (get_or xs i d).number)
  had_after logs all = subst (λ (t : Tpdo). IsAfter t (logs t.number)) (sym here) (all i d lt)

  had_current : (contents : Contents) (logs : ℕ → Log) → ((j : ℕ) (e : Tpdo) → j < length fn → (get_or fn j e).number < 512) → AllCurrentAfter contents logs → IsCurrent (settings_of contents (get_or xs i d).number) (logs (get_or xs i d).number)
  had_current contents logs small current = subst (λ (t : Tpdo). IsCurrent (settings_of contents t.number) (logs t.number)) (sym here) (current _ (small i d lt))

  module _ (contents : Contents) (logs : ℕ → Log) (new : Tpdo) (number : new.number ≡ (get_or xs i d).number) (all : AllAfter fn logs) where
    -- a whole start
    pub started : (settings : Settings) → settings ≡ settings_of contents (get_or xs i d).number
        → ((log : Log) → IsAfter (get_or xs i d) log → IsAfter new (Started Whole settings ∷ log)) → Took (λ k. false) (with_whole_start contents logs) (get_or xs i d) new false
    started settings read after =
        let k : ℕ = (get_or xs i d).number in
        record {
          number = number;
          due = refl;
          after = subst (λ (s : Settings). IsAfter new (Started Whole s ∷ logs k)) read (after (logs k) (had_after logs all));
        }

    module _ (sent : Bool) (small : (j : ℕ) (e : Tpdo) → j < length fn → (get_or fn j e).number < 512) (current : AllCurrentAfter contents logs) where
      -- a SYNC, an event or a tick
      pub happened : (o : Occasion) → ((log : Log) → IsAfter (get_or xs i d) log → IsCurrent (settings_of contents (get_or xs i d).number) log → sent ≡ is_due (settings_of contents (get_or xs i d).number) log o)
          → ((log : Log) → IsAfter (get_or xs i d) log → IsCurrent (settings_of contents (get_or xs i d).number) log → IsAfter new (Happened o (settings_of contents (get_or xs i d).number) sent ∷ log))
          → Took (λ k. is_due (settings_of contents k) (logs k) o) (with_occasion contents o logs) (get_or xs i d) new sent
      happened o due after =
          let k : ℕ = (get_or xs i d).number in
          let is : sent ≡ is_due (settings_of contents k) (logs k) o = due (logs k) (had_after logs all) (had_current contents logs small current) in
          record {
            number = number;
            due = is;
            after = subst (λ (b : Bool). IsAfter new (Happened o (settings_of contents k) b ∷ logs k)) is (after (logs k) (had_after logs all) (had_current contents logs small current));
          }

      -- an event, if its number is among some
      pub happened_among : (numbers : List ℕ) → ((log : Log) → IsAfter (get_or xs i d) log → IsCurrent (settings_of contents (get_or xs i d).number) log → sent ≡ is_among (get_or xs i d).number numbers && is_due (settings_of contents (get_or xs i d).number) log Event)
          → ((log : Log) → IsAfter (get_or xs i d) log → IsCurrent (settings_of contents (get_or xs i d).number) log → IsAfter new (with_event_if (is_among (get_or xs i d).number numbers) (settings_of contents (get_or xs i d).number) log))
          → Took (λ k. is_among k numbers && is_due (settings_of contents k) (logs k) Event) (with_events_among numbers contents logs) (get_or xs i d) new sent
      happened_among numbers due after = record {
        number = number;
        due = due (logs (get_or xs i d).number) (had_after logs all) (had_current contents logs small current);
        after = after (logs (get_or xs i d).number) (had_after logs all) (had_current contents logs small current);
      }

  module _ (goes : ℕ → Bool) (next : ℕ → Log) (new : Tpdo) (sent : Bool) (len : length xs ≡ length fn) (took : Took goes next (get_or xs i d) new sent) where
    took_here : Took goes next (get_or fn i d) new sent
    took_here = subst (λ (t : Tpdo). Took goes next t new sent) here took

    pub done_set : ((j : ℕ) (e : Tpdo) → j < i → IsAfter (get_or xs j e) (next (get_or fn j e).number)) → (j : ℕ) (e : Tpdo) → j < i + 1 → IsAfter (get_or (set xs i new) j e) (next (get_or fn j e).number)
    done_set done j e below = by_test (eqb j i) refl
      where
        by_test : (b : Bool) → eqb j i ≡ b → IsAfter (get_or (set xs i new) j e) (next (get_or fn j e).number)
        by_test true h =
            let same : j ≡ i = grind (arith, nat_tests) in
            let within : i < length xs = omega arith in
            let same_place : get_or fn i d ≡ get_or fn i e = get_or_default fn i d e lt in
            let taken : IsAfter new (next (get_or fn i e).number) = subst (λ (t : Tpdo). IsAfter new (next t.number)) same_place took_here.after in
            rw same (rw get_or-set_same taken)
        by_test false h = let other : j ≢ i = grind (arith, nat_tests) in rw get_or-set_other (done j e (omega arith))

    pub due_more : (before after : List ℕ) → before ≡ filter goes (take i (map (λ t. t.number) fn)) → after ≡ before ++ cond sent (new.number ∷ []) [] → after ≡ filter goes (take (i + 1) (map (λ t. t.number) fn))
    due_more before after b a =
        let n : ℕ = (get_or fn i d).number in
        let at_place : get_or (map (λ t. t.number) fn) i 0 ≡ n = number_at_place fn i d lt in
        let within : i < length (map (λ (t : Tpdo). t.number) fn) = simp length-map lt in
        a ∙ ap (λ ys. ys ++ cond sent (new.number ∷ []) []) b
        ∙ ap (λ (k : ℕ). filter goes (take i (map (λ t. t.number) fn)) ++ cond sent (k ∷ []) []) took_here.number
        ∙ ap (λ (w : Bool). filter goes (take i (map (λ t. t.number) fn)) ++ cond w (n ∷ []) []) took_here.due
        ∙ ap (λ (k : ℕ). filter goes (take i (map (λ t. t.number) fn)) ++ cond (goes k) (k ∷ []) []) (sym at_place)
        ∙ sym (filter_more goes (map (λ t. t.number) fn) i 0 within)

-- after the last place
pub due_to_the_end : (p : ℕ → Bool) (fn : List Tpdo) (i : ℕ) (due : List ℕ) → length fn ≤ i → due ≡ filter p (take i (map (λ t. t.number) fn)) → due ≡ filter p (map (λ t. t.number) fn)
due_to_the_end p fn i due le e =
    let all : length (map (λ (t : Tpdo). t.number) fn) ≤ i = simp length-map le in
    e ∙ ap (filter p) (take_all i (map (λ t. t.number) fn) all)

pub done_to_the_end : (fn xs : List Tpdo) (i : ℕ) (next : ℕ → Log) → length xs ≡ length fn → length fn ≤ i → map (λ t. t.number) xs ≡ map (λ t. t.number) fn
    → ((j : ℕ) (e : Tpdo) → j < i → IsAfter (get_or xs j e) (next (get_or fn j e).number)) → AllAfter xs next
done_to_the_end fn xs i next len le numbers done j e lt =
    let within : j < length fn = omega arith in
    let same : (get_or fn j e).number ≡ (get_or xs j e).number = sym (number_at_place fn j e within) ∙ ap (λ ns. get_or ns j 0) (sym numbers) ∙ number_at_place xs j e lt in
    subst (λ (k : ℕ). IsAfter (get_or xs j e) (next k)) same (done j e (omega arith))
