-- The table has what happened, of each PDO that is followed.
use Rattle.std.proofs.Common.{◌≡◌, ℕ, ◌+◌, Bool, true, false, if◌then◌else◌, List, [], ◌∷◌, ◌++◌, length, map, Option, Some, None, refl, sym, ap, ap₂, ◌∙◌, arith, eqb, length-append}
use Rattle.std.specs.Prelude.{not, ◌||◌, ◌&&◌, nat_lt, ◌==◌}
use Rattle.std.specs.List.{list_any}
use Rattle.std.specs.Option.{option_map_or}
use Rattle.std.specs.Str.{bytes_eq}
use Rattle.std.proofs.lemmas.Bool.{eqb-true}
use Rattle.std.proofs.lemmas.Bool.Decides.{nat_tests}
use Rattle.std.proofs.lemmas.List.Folds.{list_any-append}
use Rattle.std.proofs.lemmas.List.{length-map}
use Rattle.std.proofs.lemmas.Slice.Eq.{bytes_eq-Decides}
use Rattle.conode_explain_entries.specs.declared.entries.ShownPdo.{ShownPdo}
use Rattle.conode_explain_entries.specs.declared.event.Event.{Event}
use Rattle.conode_explain_entries.specs.declared.event.Event.TheVariants.{Written, Read, BootedUp, Saved, Restored, Unclear}
use Rattle.conode_explain_entries.specs.declared.event.PdoEntry.{PdoEntry}
use Rattle.conode_explain_entries.specs.declared.state.PdoState.{PdoState}
use Rattle.conode_explain_entries.specs.Histories.{assumed_values, is_constant, nothing_shown, state_with, stored_values}
use Rattle.conode_explain_entries.specs.Tables.{Happening, added, added_at, index_shown, is_at, is_followed_in, is_of, most_pdos, new_pdo, pdo_with, shown_in, state_after, table_after, table_with}

-- ---- tests

by_test : {P : Type 0} (b : Bool) → (b ≡ true → P) → (b ≡ false → P) → P
by_test true holds fails = holds refl
by_test false holds fails = fails refl

and_true : (a b : Bool) → a && b ≡ true → (a ≡ true) × (b ≡ true)
and_true true b h = (refl, h)
and_true false b h = let no : false ≡ true = h in absurd cc

or_false : (a b : Bool) → a || b ≡ false → (a ≡ false) × (b ≡ false)
or_false true b h = let no : true ≡ false = h in absurd cc
or_false false b h = (refl, h)

not_false : (a : Bool) → not a ≡ false → a ≡ true
not_false true h = refl
not_false false h = let no : true ≡ false = h in absurd cc

-- ---- a PDO in an event

with_event : Bool → ℕ → Event → PdoState → PdoState
with_event at index event state = if at then state_with state index event else state

-- an event of this node
abbrev here : ℕ → List ℕ → ℕ → List ℕ → Bool
here node interface its_node its_interface = (node == its_node) && bytes_eq interface its_interface

same_place : (i : List ℕ) (n : ℕ) (k : ℕ) (x : ShownPdo) → is_of i n k x ≡ true → (x.index ≡ k) × (x.node ≡ n) × (x.interface.items ≡ i)
same_place i n k x h =
    let parts = and_true (x.index == k) (is_at i n x) h in
    let at = and_true (x.node == n) (bytes_eq x.interface.items i) parts.1 in
    (eqb-true x.index k parts.0, eqb-true x.node n at.0, (bytes_eq-Decides x.interface.items i).0 at.1)

same_of : (i : List ℕ) (n : ℕ) (k : ℕ) (j : List ℕ) (m : ℕ) (e : Event) (x : ShownPdo) → is_of i n k (pdo_with j m e x) ≡ is_of i n k x
same_of i n k j m e x = by_test (is_at j m x) (λ at. rw at refl) (λ off. rw off refl)

pdo_has : (i : List ℕ) (n : ℕ) (k : ℕ) (j : List ℕ) (m : ℕ) (e : Event) (x : ShownPdo) → is_of i n k x ≡ true
    → (pdo_with j m e x).state ≡ with_event (here n i m j) k e x.state
unfolding with_event
pdo_has i n k j m e x h =
    let place = same_place i n k x h in
    let same : here n i m j ≡ is_at j m x = ap₂ (λ (node : ℕ) (interface : List ℕ). (node == m) && bytes_eq interface j) (sym place.1) (sym place.2) in
    rw same (by_test (is_at j m x) (λ at. rw at (ap (λ (index : ℕ). state_with x.state index e) place.0)) (λ off. rw off refl))

-- ---- a table in an event

any_changed : (i : List ℕ) (n : ℕ) (k : ℕ) (j : List ℕ) (m : ℕ) (e : Event) (xs : List ShownPdo)
    → list_any (is_of i n k) (map (pdo_with j m e) xs) ≡ list_any (is_of i n k) xs
any_changed i n k j m e [] = refl
any_changed i n k j m e (x ∷ xs) = ap₂ (λ (a b : Bool). a || b) (same_of i n k j m e x) (any_changed i n k j m e xs)

has_changed : (i : List ℕ) (n : ℕ) (k : ℕ) (j : List ℕ) (m : ℕ) (e : Event) (xs : List ShownPdo) → list_any (is_of i n k) xs ≡ true
    → shown_in (map (pdo_with j m e) xs) i n k ≡ with_event (here n i m j) k e (shown_in xs i n k)
has_changed i n k j m e [] h = let no : false ≡ true = h in absurd cc
has_changed i n k j m e (x ∷ xs) h =
    by_test (is_of i n k x)
    (λ hit. let moved : is_of i n k (pdo_with j m e x) ≡ true = same_of i n k j m e x ∙ hit in rw (moved, hit) (pdo_has i n k j m e x hit))
    (λ miss. let moved : is_of i n k (pdo_with j m e x) ≡ false = same_of i n k j m e x ∙ miss in rw (moved, miss) (has_changed i n k j m e xs (rw miss at h)))

none_has : (i : List ℕ) (n : ℕ) (k : ℕ) (xs : List ShownPdo) → list_any (is_of i n k) xs ≡ false → shown_in xs i n k ≡ nothing_shown
none_has i n k [] h = refl
none_has i n k (x ∷ xs) h = let parts = or_false (is_of i n k x) (list_any (is_of i n k) xs) h in rw parts.0 (none_has i n k xs parts.1)

has_before : (i : List ℕ) (n : ℕ) (k : ℕ) (xs ys : List ShownPdo) → list_any (is_of i n k) xs ≡ true → shown_in (xs ++ ys) i n k ≡ shown_in xs i n k
has_before i n k [] ys h = let no : false ≡ true = h in absurd cc
has_before i n k (x ∷ xs) ys h = by_test (is_of i n k x) (λ hit. rw hit refl) (λ miss. rw miss (has_before i n k xs ys (rw miss at h)))

has_beyond : (i : List ℕ) (n : ℕ) (k : ℕ) (xs ys : List ShownPdo) → list_any (is_of i n k) xs ≡ false → shown_in (xs ++ ys) i n k ≡ shown_in ys i n k
has_beyond i n k [] ys h = refl
has_beyond i n k (x ∷ xs) ys h = let parts = or_false (is_of i n k x) (list_any (is_of i n k) xs) h in rw parts.0 (has_beyond i n k xs ys parts.1)

-- ---- a PDO that is added

room_at : (table : List ShownPdo) (i : List ℕ) (n : ℕ) (k : ℕ) (j : List ℕ) (m : ℕ) (key : ℕ)
    → list_any (is_of i n k) (added_at table j m key) ≡ true → nat_lt (length table) most_pdos ≡ true
room_at table i n k j m key h =
    by_test (list_any (is_of j m key) table || not (nat_lt (length table) most_pdos))
    (λ full. let no : false ≡ true = rw full at h in absurd cc)
    (λ free. not_false (nat_lt (length table) most_pdos) (or_false (list_any (is_of j m key) table) (not (nat_lt (length table) most_pdos)) free).1)

room : (table : List ShownPdo) (i : List ℕ) (n : ℕ) (k : ℕ) (j : List ℕ) (m : ℕ) (of : Option ℕ)
    → list_any (is_of i n k) (option_map_or (added_at table j m) of []) ≡ true → nat_lt (length table) most_pdos ≡ true
room table i n k j m None h = let no : false ≡ true = h in absurd cc
room table i n k j m (Some key) h = room_at table i n k j m key h

new_has : (i : List ℕ) (n : ℕ) (k : ℕ) (j : List ℕ) (m : ℕ) (key : ℕ) → shown_in (new_pdo j m key ∷ []) i n k ≡ nothing_shown
new_has i n k j m key = by_test (is_of i n k (new_pdo j m key)) (λ hit. rw hit refl) (λ miss. rw miss refl)

added_has : (table : List ShownPdo) (i : List ℕ) (n : ℕ) (k : ℕ) (j : List ℕ) (m : ℕ) (of : Option ℕ)
    → shown_in (option_map_or (added_at table j m) of []) i n k ≡ nothing_shown
added_has table i n k j m None = refl
added_has table i n k j m (Some key) =
    by_test (list_any (is_of j m key) table || not (nat_lt (length table) most_pdos))
    (λ full. rw full refl)
    (λ free. rw free (new_has i n k j m key))

-- ---- an event that shows another PDO

self_of : (i : List ℕ) (n k : ℕ) → is_of i n k (new_pdo i n k) ≡ true
self_of i n k =
    let interface : bytes_eq i i ≡ true = (bytes_eq-Decides i i).1 refl in
    let node : eqb n n ≡ true = grind arith in
    let index : eqb k k ≡ true = grind arith in
    rw (index, node, interface) refl

-- it isn't shown, as it would be added
other_shown : (table : List ShownPdo) (i : List ℕ) (n k index : ℕ) → list_any (is_of i n k) table ≡ false → nat_lt (length table) most_pdos ≡ true
    → list_any (is_of i n k) (added_at table i n index) ≡ false → (index == k) ≡ false
other_shown table i n k index outside free h =
    by_test (index == k)
    (λ same.
    let is : index ≡ k = eqb-true index k same in
    let there : list_any (is_of i n k) (added_at table i n k) ≡ false = ap (λ (other : ℕ). list_any (is_of i n k) (added_at table i n other)) (sym is) ∙ h in
    let opens : list_any (is_of i n k) table || not (nat_lt (length table) most_pdos) ≡ false = rw (outside, free) refl in
    let alone : is_of i n k (new_pdo i n k) || false ≡ false = rw opens at there in
    let no : true ≡ false = rw (self_of i n k) at alone in
    absurd cc)
    (λ differs. differs)

stays_assumed : (certain : Bool) → stored_values certain assumed_values ≡ assumed_values
unfolding assumed_values
stays_assumed certain = refl

quiet_write : (k : ℕ) (of : PdoEntry) (number : Option ℕ) → (of.index == k) ≡ false → state_with nothing_shown k (Written of number) ≡ nothing_shown
quiet_write k of number other = rw other refl

quiet_read : (k : ℕ) (of : PdoEntry) (number : Option ℕ) → (of.index == k) ≡ false → state_with nothing_shown k (Read of number) ≡ nothing_shown
quiet_read k of number other = rw other refl

quiet_save : (k : ℕ) → state_with nothing_shown k Saved ≡ nothing_shown
quiet_save k = rw (stays_assumed true) refl

quiet_unclear : (k : ℕ) → state_with nothing_shown k Unclear ≡ nothing_shown
quiet_unclear k = rw (stays_assumed false) refl

quiet : (table : List ShownPdo) (i : List ℕ) (n k : ℕ) (e : Event) → list_any (is_of i n k) table ≡ false → nat_lt (length table) most_pdos ≡ true
    → list_any (is_of i n k) (added table i n e) ≡ false → state_with nothing_shown k e ≡ nothing_shown
quiet table i n k (Written of number) outside free h = quiet_write k of number (other_shown table i n k of.index outside free h)
quiet table i n k (Read of number) outside free h = quiet_read k of number (other_shown table i n k of.index outside free h)
quiet table i n k BootedUp outside free h = by_test (is_constant k) (λ stays. rw stays refl) (λ changes. rw changes refl)
quiet table i n k Saved outside free h = quiet_save k
quiet table i n k Unclear outside free h = quiet_unclear k
quiet table i n k Restored outside free h = refl

-- ---- a table after an event

-- an event of this node or of another one
nothing_changes : (table : List ShownPdo) (i : List ℕ) (n : ℕ) (k : ℕ) (j : List ℕ) (m : ℕ) (e : Event) → list_any (is_of i n k) table ≡ false
    → nat_lt (length table) most_pdos ≡ true → list_any (is_of i n k) (added table j m e) ≡ false → with_event (here n i m j) k e nothing_shown ≡ nothing_shown
unfolding with_event
nothing_changes table i n k j m e outside free h =
    by_test (here n i m j)
    (λ at.
    let parts = and_true (n == m) (bytes_eq i j) at in
    let node : n ≡ m = eqb-true n m parts.0 in
    let interface : i ≡ j = (bytes_eq-Decides i j).0 parts.1 in
    let there : list_any (is_of i n k) (added table i n e) ≡ false = ap₂ (λ (l : List ℕ) (o : ℕ). list_any (is_of i n k) (added table l o e)) interface node ∙ h in
    rw at (quiet table i n k e outside free there))
    (λ off. rw off refl)

room_of : (a b : ℕ) → nat_lt (a + b) most_pdos ≡ true → nat_lt a most_pdos ≡ true
room_of a b h = grind (arith, nat_tests)

-- there was room before
room_before : (xs ys : List ShownPdo) (j : List ℕ) (m : ℕ) (e : Event) → nat_lt (length (map (pdo_with j m e) (xs ++ ys))) most_pdos ≡ true
    → nat_lt (length xs) most_pdos ≡ true
room_before xs ys j m e h =
    let changed : length (map (pdo_with j m e) (xs ++ ys)) ≡ length xs + length ys = length-map (xs ++ ys) (pdo_with j m e) ∙ length-append xs ys in
    let fewer : nat_lt (length xs + length ys) most_pdos ≡ true = rw changed at h in
    room_of (length xs) (length ys) fewer

after_one : (table : List ShownPdo) (before : PdoState) (j : List ℕ) (m : ℕ) (e : Event) (i : List ℕ) (n : ℕ) (k : ℕ)
    → (is_followed_in table i n k ≡ true → shown_in table i n k ≡ before) → is_followed_in (table_with table j m e) i n k ≡ true
    → shown_in (table_with table j m e) i n k ≡ with_event (here n i m j) k e before
unfolding table_with
after_one table before j m e i n k known followed =
    let ys = added table j m e in
    by_test (list_any (is_of i n k) table)
    (λ inside.
    let there : list_any (is_of i n k) (table ++ ys) ≡ true = list_any-append (is_of i n k) table ys ∙ rw inside refl in
    has_changed i n k j m e (table ++ ys) there
    ∙ ap (with_event (here n i m j) k e) (has_before i n k table ys inside ∙ known (rw inside refl)))
    (λ outside.
    let had : nat_lt (length table) most_pdos ≡ true → nothing_shown ≡ before = λ free. sym (none_has i n k table outside) ∙ known (rw (outside, free) refl) in
    by_test (list_any (is_of i n k) ys)
    (λ shows.
    let there : list_any (is_of i n k) (table ++ ys) ≡ true = list_any-append (is_of i n k) table ys ∙ rw (outside, shows) refl in
    has_changed i n k j m e (table ++ ys) there
    ∙ ap (with_event (here n i m j) k e)
    (has_beyond i n k table ys outside ∙ added_has table i n k j m (index_shown e) ∙ had (room table i n k j m (index_shown e) shows)))
    (λ other.
    let nowhere : list_any (is_of i n k) (map (pdo_with j m e) (table ++ ys)) ≡ false =
    any_changed i n k j m e (table ++ ys) ∙ list_any-append (is_of i n k) table ys ∙ rw (outside, other) refl in
    let free : nat_lt (length table) most_pdos ≡ true = room_before table ys j m e (rw nowhere at followed) in
    none_has i n k (map (pdo_with j m e) (table ++ ys)) nowhere
    ∙ sym (nothing_changes table i n k j m e outside free other)
    ∙ ap (with_event (here n i m j) k e) (had free)))

-- ---- all that happened

pub shown : (log : List Happening) (i : List ℕ) (n : ℕ) (k : ℕ) → is_followed_in (table_after log) i n k ≡ true
    → shown_in (table_after log) i n k ≡ state_after log i n k
unfolding with_event
shown [] i n k followed = refl
shown (h ∷ older) i n k followed =
    after_one (table_after older) (state_after older i n k) h.interface h.node h.event i n k (shown older i n k) followed
