-- One event more of a node, as it is counted, is one event more by definition.
use Rattle.std.proofs.Common.{ℕ, Bool, false, List, ◌∷◌, ◌≡◌, ◌∙◌, ◌+◌, ◌-◌, Option, Some, None, refl, ap, arith}
use Rattle.std.specs.Prelude.{is_some, not, ◌&&◌, ◌||◌, if◌then◌else◌}
use Rattle.co_text.proofs.Tests.{by_test}
use Rattle.conode_explain_transfers.specs.declared.kinds.Direction.{Direction}
use Rattle.conode_stats_counts.specs.declared.guarding.Guarding.{Guarding}
use Rattle.conode_stats_counts.specs.declared.node.Node.{Node}
use Rattle.conode_stats_counts.specs.declared.node.Shown.{Shown}
use Rattle.conode_stats_counts.specs.declared.state.NmtState.{NmtState}
use Rattle.conode_stats_counts.specs.declared.state.NmtState.TheVariants.{BootUp, PreOperational, Operational, Stopped, Unknown}
use Rattle.conode_stats_counts.specs.declared.state.StateTimes.{StateTimes}
use Rattle.conode_stats_counts.specs.declared.heartbeats.Heartbeats.{Heartbeats}
use Rattle.conode_stats_counts.specs.declared.sdo_frame.SdoFrame.{SdoFrame}
use Rattle.conode_stats_counts.specs.Gaps.{counted}
use Rattle.conode_stats_counts.specs.Guardings.{answered_with, control_of, guarding_of, unanswered}
use Rattle.conode_stats_counts.specs.Heartbeats.{heartbeats_of, longest_answer, pending}
use Rattle.conode_stats_counts.specs.NodeCounts.{booted_if, node_asked, node_commanded, node_exchanged, node_of, node_timed, node_with}
use Rattle.conode_stats_counts.specs.Restarts.{last_restart, restarts}
use Rattle.conode_stats_counts.specs.States.{NodeEvent, Commanded, Sent, Exchanged, Timed, Asked, boot_ups, gap_if, is_commanded, newest, same_state, time_in, time_since, times_of, times_since, times_with}
use Rattle.conode_stats_counts.proofs.Beaten as beaten
use Rattle.conode_stats_counts.proofs.Tallied.{counted_more}

-- ---- times

none_more : (n : ℕ) → counted n ≡ counted (0 + n)
none_more n = ap counted (let e : n ≡ 0 + n = omega arith in e)

same_times : (a a' b b' c c' d d' e e' : ℕ) → a ≡ a' → b ≡ b' → c ≡ c' → d ≡ d' → e ≡ e'
    → ◌≡◌ {A = StateTimes}
    (record { boot_up = a; pre_operational = b; operational = c; stopped = d; unknown = e })
    (record { boot_up = a'; pre_operational = b'; operational = c'; stopped = d'; unknown = e' })
same_times a a' b b' c c' d d' e e' p q r s t = cc

abbrev times : ℕ → ℕ → ℕ → ℕ → ℕ → StateTimes
times a b c d e = record {
  boot_up = counted a;
  pre_operational = counted b;
  operational = counted c;
  stopped = counted d;
  unknown = counted e;
}

module _ (a b c d e : ℕ) where
  abbrev more_in : NmtState → ℕ → StateTimes
  more_in state gap = times
      (gap_if (same_state state BootUp) gap + a)
      (gap_if (same_state state PreOperational) gap + b)
      (gap_if (same_state state Operational) gap + c)
      (gap_if (same_state state Stopped) gap + d)
      (gap_if (same_state state Unknown) gap + e)

  in_state : (state : NmtState) (gap : ℕ) → times_with state gap (times a b c d e) ≡ more_in state gap
  in_state BootUp gap = same_times _ _ _ _ _ _ _ _ _ _ (counted_more a gap) (none_more b) (none_more c) (none_more d) (none_more e)
  in_state PreOperational gap = same_times _ _ _ _ _ _ _ _ _ _ (none_more a) (counted_more b gap) (none_more c) (none_more d) (none_more e)
  in_state Operational gap = same_times _ _ _ _ _ _ _ _ _ _ (none_more a) (none_more b) (counted_more c gap) (none_more d) (none_more e)
  in_state Stopped gap = same_times _ _ _ _ _ _ _ _ _ _ (none_more a) (none_more b) (none_more c) (counted_more d gap) (none_more e)
  in_state Unknown gap = same_times _ _ _ _ _ _ _ _ _ _ (none_more a) (none_more b) (none_more c) (none_more d) (counted_more e gap)

  since : (last : Option Shown) (micros : ℕ) → times_since last micros (times a b c d e) ≡ times
      (time_since BootUp last micros + a)
      (time_since PreOperational last micros + b)
      (time_since Operational last micros + c)
      (time_since Stopped last micros + d)
      (time_since Unknown last micros + e)
  since None micros = same_times _ _ _ _ _ _ _ _ _ _ (none_more a) (none_more b) (none_more c) (none_more d) (none_more e)
  since (Some before) micros = in_state before.state (micros - before.micros)

times_more : (log : List NodeEvent) (state : NmtState) (toggle : Bool) (micros : ℕ)
    → times_since (newest log) micros (times_of log) ≡ times_of (Sent state toggle micros ∷ log)
unfolding time_in
times_more log state toggle micros =
    since (time_in BootUp log) (time_in PreOperational log) (time_in Operational log) (time_in Stopped log) (time_in Unknown log) (newest log) micros

-- ---- the whole

same_node : (last : Option Shown) (b b' r r' l l' : ℕ) (asked asked' : Bool) (t t' : StateTimes) (h h' : Heartbeats) (p p' : Option ℕ) (a : Option ℕ) (u : Guarding)
    → b ≡ b' → r ≡ r' → l ≡ l' → asked ≡ asked' → t ≡ t' → h ≡ h' → p ≡ p'
    → ◌≡◌ {A = Node}
    (record { last = last; boot_ups = b; restarts = r; last_restart = l; is_commanded = asked; times = t; heartbeats = h; guarding = u; pending = p; longest_answer = a })
    (record { last = last; boot_ups = b'; restarts = r'; last_restart = l'; is_commanded = asked'; times = t'; heartbeats = h'; guarding = u; pending = p'; longest_answer = a })
same_node last b b' r r' l l' asked asked' t t' h h' p p' a u e f g i j k m = cc

-- a node with these parts after a frame
abbrev with_parts : NmtState → Bool → ℕ → Option Shown → ℕ → ℕ → ℕ → Bool → StateTimes → Heartbeats → Guarding → Option ℕ → Option ℕ → Heartbeats → Node
with_parts state toggle micros last b r l asked t h u p a next =
    record (booted_if (same_state state BootUp) micros (record {
      last = last;
      boot_ups = counted b;
      restarts = counted r;
      last_restart = l;
      is_commanded = asked;
      times = t;
      heartbeats = h;
      guarding = u;
      pending = p;
      longest_answer = a;
    })) {
      last = Some (record { state = state; micros = micros });
      times = times_since last micros t;
      heartbeats = next;
      guarding = answered_with (same_state state BootUp) toggle u;
    }

module _ (state : NmtState) (toggle : Bool) (micros : ℕ) (last : Option Shown) (b r l : ℕ) (asked : Bool) (t more : StateTimes) (h next : Heartbeats) (u : Guarding) (p : Option ℕ) (a : Option ℕ) (is : times_since last micros t ≡ more) where
  abbrev after : Bool → Node
  after boots = record {
    last = Some (record { state = state; micros = micros });
    boot_ups = counted ((if boots then 1 else 0) + b);
    restarts = counted ((if boots && ((is_some last || is_some a) && not asked) then 1 else 0) + r);
    last_restart = if boots && ((is_some last || is_some a) && not asked) then micros else l;
    is_commanded = if boots then false else asked;
    times = more;
    heartbeats = next;
    guarding = answered_with boots toggle u;
    pending = if boots then None else p;
    longest_answer = a;
  }

  parts : with_parts state toggle micros last b r l asked t h u p a next ≡ after (same_state state BootUp)
  parts = by_test (same_state state BootUp)
      (λ boots. by_test ((is_some last || is_some a) && not asked)
      (λ holds. rw (boots, holds) (same_node _ _ _ _ _ _ _ _ _ _ _ _ _ _ _ _ _ (counted_more b 1) (counted_more r 1) refl refl is refl refl))
      (λ fails. rw (boots, fails) (same_node _ _ _ _ _ _ _ _ _ _ _ _ _ _ _ _ _ (counted_more b 1) (none_more r) refl refl is refl refl)))
      (λ other. rw other (same_node _ _ _ _ _ _ _ _ _ _ _ _ _ _ _ _ _ (none_more b) (none_more r) refl refl is refl refl))

pub shows_more : (log : List NodeEvent) (state : NmtState) (toggle : Bool) (micros : ℕ)
    → node_with state toggle micros (node_of log) ≡ node_of (Sent state toggle micros ∷ log)
unfolding node_with node_of newest boot_ups restarts last_restart is_commanded pending longest_answer unanswered control_of
shows_more log state toggle micros =
    ap (with_parts state toggle micros (newest log) (boot_ups log) (restarts log) (last_restart log) (is_commanded log) (times_of log) (heartbeats_of log) (guarding_of log) (pending log) (longest_answer log)) (beaten.shown_more log state toggle micros)
    ∙ parts state toggle micros (newest log) (boot_ups log) (restarts log) (last_restart log) (is_commanded log) (times_of log) (times_of (Sent state toggle micros ∷ log)) (heartbeats_of log) (heartbeats_of (Sent state toggle micros ∷ log)) (guarding_of log) (pending log) (longest_answer log) (times_more log state toggle micros)

pub commanded_more : (log : List NodeEvent) → node_commanded (node_of log) ≡ node_of (Commanded ∷ log)
unfolding node_commanded node_of newest boot_ups restarts last_restart is_commanded time_in pending longest_answer unanswered control_of
commanded_more log =
    same_node (newest log) _ _ _ _ _ _ _ _ _ _ _ _ _ _ (longest_answer log) _ refl refl refl refl refl (beaten.commanded_more log) refl

pub exchanged_more : (log : List NodeEvent) (frame : SdoFrame) (micros : ℕ) → node_exchanged frame micros (node_of log) ≡ node_of (Exchanged frame micros ∷ log)
unfolding node_exchanged node_of newest boot_ups restarts last_restart is_commanded time_in pending longest_answer unanswered control_of
exchanged_more log frame micros =
    same_node (newest log) _ _ _ _ _ _ _ _ _ _ _ _ _ _ _ _ refl refl refl refl refl (beaten.exchanged_more log frame micros) refl

pub timed_more : (log : List NodeEvent) (direction : Direction) (time micros : ℕ) → node_timed direction time micros (node_of log) ≡ node_of (Timed direction time micros ∷ log)
unfolding node_timed node_of newest boot_ups restarts last_restart is_commanded time_in pending longest_answer unanswered control_of
timed_more log direction time micros =
    same_node (newest log) _ _ _ _ _ _ _ _ _ _ _ _ _ _ (longest_answer log) _ refl refl refl refl refl (beaten.timed_more log direction time micros) refl

pub asked_more : (log : List NodeEvent) (micros : ℕ) → node_asked micros (node_of log) ≡ node_of (Asked micros ∷ log)
unfolding node_asked node_of newest boot_ups restarts last_restart is_commanded time_in pending longest_answer unanswered control_of
asked_more log micros =
    same_node (newest log) _ _ _ _ _ _ _ _ _ _ _ _ _ _ (longest_answer log) _ refl refl refl refl refl (beaten.asked_more log micros) refl
