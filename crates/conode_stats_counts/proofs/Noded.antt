-- One frame more, as it is counted of nodes, is one frame more by definition.
use Rattle.std.proofs.Common.{ℕ, zero, suc, ◌+◌, ◌<◌, ◌≤◌, true, false, List, [], ◌∷◌, ◌++◌, ◌≡◌, ◌∙◌, Option, Some, None, length, map, replicate, refl, sym, ap, ap₂, arith}
use Rattle.std.specs.Prelude.{◌==◌, nat_lt, slice_set}
use Rattle.std.specs.List.{slice_index_or}
use Rattle.std.proofs.lemmas.Bool.Decides.{nat_tests}
use Rattle.std.proofs.lemmas.List.{replicate-append-replicate}
use Rattle.co_text.proofs.Tests.{by_test}
use Rattle.conode_record.specs.declared.line.Record.{Record}
use Rattle.conode_stats_counts.specs.declared.node.Node.{Node}
use Rattle.conode_stats_counts.specs.declared.shown_time.ShownTime.{ShownTime}
use Rattle.conode_stats_counts.specs.declared.sign.Sign.{Sign}
use Rattle.conode_stats_counts.specs.declared.sign.Sign.TheVariants.{Reset, Shows, Exchanges, Asks, Other}
use Rattle.conode_stats_counts.specs.Failures.{channels_of}
use Rattle.conode_stats_counts.specs.Nodes.{changed_at, log_timed, log_with, most_nodes, new_node, node_log, nodes_of, nodes_timed, nodes_with, shown_by, sign_of, table}
use Rattle.conode_stats_counts.specs.NodeCounts.{node_asked, node_commanded, node_exchanged, node_of, node_timed, node_with}
use Rattle.conode_stats_counts.specs.States.{NodeEvent, Commanded}
use Rattle.conode_stats_counts.proofs.NodeEvents.{asked_more, commanded_more, exchanged_more, shows_more, timed_more}

-- ---- tables

length_table : {A : Type 0} (value : ℕ → A) (first count : ℕ) → length (table value first count) ≡ count
unfolding table
length_table value first zero = refl
length_table value first (suc count) = ap suc (length_table value (suc first) count)

map_table : {A : Type 0} (change : A → A) (value next : ℕ → A) (all : (n : ℕ) → change (value n) ≡ next n) (first count : ℕ)
    → map change (table value first count) ≡ table next first count
unfolding table
map_table change value next all first zero = refl
map_table change value next all first (suc count) = ap₂ (λ x xs. x ∷ xs) (all first) (map_table change value next all (suc first) count)

-- the same number in each place
alike : {A : Type 0} (x : A) (first count : ℕ) → table (λ n. x) first count ≡ replicate count x
unfolding table
alike x first zero = refl
alike x first (suc count) = ap (λ xs. x ∷ xs) (alike x (suc first) count)

module _ {A : Type 0} (value next : ℕ → A) (place : ℕ) (others : (n : ℕ) → (place == n) ≡ false → value n ≡ next n) where
  after : (first count : ℕ) → place < first → table value first count ≡ table next first count
  unfolding table
  after first zero lt = refl
  after first (suc count) lt =
      let other : (place == first) ≡ false = grind (arith, nat_tests) in
      ap₂ (λ x xs. x ∷ xs) (others first other) (after (suc first) count (omega (arith, lt)))

  past : (first count : ℕ) → first + count ≤ place → table value first count ≡ table next first count
  unfolding table
  past first zero le = refl
  past first (suc count) le =
      let other : (place == first) ≡ false = grind (arith, nat_tests) in
      ap₂ (λ x xs. x ∷ xs) (others first other) (past (suc first) count (omega (arith, le)))

  within : (change : A → A) (none : A) (is : change (value place) ≡ next place) (first count index : ℕ) → place ≡ first + index → index < count
      → slice_set (table value first count) index (change (slice_index_or (table value first count) index none)) ≡ table next first count
  unfolding table
  within change none is first zero index at lt = absurd (omega (arith, lt))
  within change none is first (suc count) zero at lt =
      let here : place ≡ first = omega (arith, at) in
      let it : change (value first) ≡ next first = rw here at is in
      ap₂ (λ x xs. x ∷ xs) it (after (suc first) count (omega (arith, here)))
  within change none is first (suc count) (suc index) at lt =
      let other : (place == first) ≡ false = grind (arith, nat_tests) in
      ap₂ (λ x xs. x ∷ xs) (others first other) (within change none is (suc first) count index (omega (arith, at)) (omega (arith, lt)))

-- ---- nodes

module _ (logs : ℕ → List NodeEvent) (count : ℕ) where
  abbrev nodes : (ℕ → List NodeEvent) → List Node
  nodes logs = table (λ n. node_of (logs n)) 0 count

  -- one of them
  one : (next : ℕ → List NodeEvent) (place : ℕ) (change : Node → Node)
      → change (node_of (logs place)) ≡ node_of (next place)
      → ((n : ℕ) → (place == n) ≡ false → next n ≡ logs n)
      → changed_at place change (nodes logs) ≡ nodes next
  one next place change is others =
      let value : ℕ → Node = λ n. node_of (logs n) in
      let after : ℕ → Node = λ n. node_of (next n) in
      let same : (n : ℕ) → (place == n) ≡ false → value n ≡ after n = λ n other. ap node_of (sym (others n other)) in
      let few = length_table value 0 count in
      by_test (nat_lt place count)
      (λ holds. let lt : place < count = grind (arith, nat_tests) in
      rw (few, holds) (within value after place same change new_node is 0 count place (omega arith) lt))
      (λ fails. let le : 0 + count ≤ place = grind (arith, nat_tests) in
      rw (few, fails) (past value after place same 0 count le))

  sign_more : (sign : Sign) (micros : ℕ) → nodes_with sign micros (nodes logs) ≡ nodes (λ n. log_with n sign micros (logs n))
  unfolding nodes_with
  sign_more Other micros = refl
  sign_more (Reset place) micros = by_test (place == 0)
      (λ all. rw all (map_table node_commanded (λ n. node_of (logs n)) (λ n. node_of (Commanded ∷ logs n)) (λ n. commanded_more (logs n)) 0 count))
      (λ single. let e : nodes_with (Reset place) micros (nodes logs) ≡ changed_at place node_commanded (nodes logs) = rw single refl in
      e ∙ one (λ n. log_with n (Reset place) micros (logs n)) place node_commanded (let self : (place == place) ≡ true = grind (arith, nat_tests) in rw (single, self) (commanded_more (logs place)))
      (λ n other. rw (single, other) refl))
  sign_more (Shows place state toggle) micros =
      one (λ n. log_with n (Shows place state toggle) micros (logs n)) place (node_with state toggle micros) (let self : (place == place) ≡ true = grind (arith, nat_tests) in rw self (shows_more (logs place) state toggle micros))
      (λ n other. rw other refl)
  sign_more (Exchanges place frame) micros =
      one (λ n. log_with n (Exchanges place frame) micros (logs n)) place (node_exchanged frame micros) (let self : (place == place) ≡ true = grind (arith, nat_tests) in rw self (exchanged_more (logs place) frame micros))
      (λ n other. rw other refl)
  sign_more (Asks place) micros =
      one (λ n. log_with n (Asks place) micros (logs n)) place (node_asked micros) (let self : (place == place) ≡ true = grind (arith, nat_tests) in rw self (asked_more (logs place) micros))
      (λ n other. rw other refl)

  time_more : (shown : Option ShownTime) (micros : ℕ) → nodes_timed shown micros (nodes logs) ≡ nodes (λ n. log_timed n shown micros (logs n))
  unfolding nodes_timed
  time_more None micros = refl
  time_more (Some shown) micros =
      one (λ n. log_timed n (Some shown) micros (logs n)) shown.node (node_timed shown.direction shown.time micros)
      (let self : (shown.node == shown.node) ≡ true = grind (arith, nat_tests) in rw self (timed_more (logs shown.node) shown.direction shown.time micros))
      (λ n other. rw other refl)

-- a frame of a bus
pub one_more : (frames : List Record) (frame : Record)
    → nodes_timed (shown_by (channels_of frames) frame) frame.micros (nodes_with (sign_of frame) frame.micros (nodes_of frames)) ≡ nodes_of (frame ∷ frames)
unfolding nodes_of node_log
one_more frames frame =
    ap (nodes_timed (shown_by (channels_of frames) frame) frame.micros) (sign_more (λ n. node_log n frames) most_nodes (sign_of frame) frame.micros)
    ∙ time_more (λ n. log_with n (sign_of frame) frame.micros (node_log n frames)) most_nodes (shown_by (channels_of frames) frame) frame.micros

-- one node more that sent nothing
pub one_new : (before after : List Node) (count : ℕ) (node : Node) → before ≡ replicate count (node_of []) → node ≡ node_of [] → after ≡ before ++ node ∷ []
    → after ≡ replicate (count + 1) (node_of [])
one_new before after count node so_far is more = more ∙ (rw (so_far, is) (replicate-append-replicate count 1 (node_of [])))

-- no frame
none : nodes_of [] ≡ replicate most_nodes (node_of [])
unfolding nodes_of node_log
none = alike (node_of []) 0 most_nodes

pub all_new : (nodes : List Node) (count : ℕ) → count ≡ 128 → nodes ≡ replicate count (node_of []) → nodes ≡ nodes_of []
all_new nodes count e so_far = so_far ∙ rw e (sym none)
