-- What a heartbeat, and an entry of 1016h, last began with is what their entries have now.
use Rattle.std.proofs.Common.{◌≡◌, ℕ, ◌≤◌, Bool, true, false, cond, [], ◌∷◌, Option, Some, None, refl, sym, ap, ◌∙◌, arith}
use Rattle.std.specs.Prelude.{◌||◌}
use Rattle.co_value.specs.declared.key.Key.{Key}
use Rattle.co_dict.specs.ConsumerHeartbeats.{consumer_key}
use Rattle.co_dict.specs.Rows.{Contents, number_at}
use Rattle.co_dict.specs.Stores.{Description}
use Rattle.co_node_parts.specs.Consumers.{monitored_by}
use Rattle.co_node_model.specs.Inputs.{InputView, Inputs}
use Rattle.co_node_model.specs.Keys.{is_set}
use Rattle.co_profile.specs.Keys.{producer_key}
use Rattle.co_node_model.specs.Nmt.{is_reset}
use Rattle.co_node_model.specs.Moments.{Constants}
use Rattle.co_node_model.specs.Device.{moments, contents_of}
use Rattle.co_node_model.specs.Marks.{marked_key}
use Rattle.co_node_laws.specs.Distances.{moment_at, begins_heartbeat, heartbeat_period, begins_entry, monitored}
use Rattle.co_node_laws.proofs.Below.{Below}
use Rattle.co_node_laws.proofs.Received.{MayBecome, after_received, changed}
use Rattle.co_node_laws.proofs.Writes.{number_same, number_kept}

first_off : (a b : Bool) → a || b ≡ false → a ≡ false
first_off true b e = absurd (cc)
first_off false b e = refl

second_off : (a b : Bool) → a || b ≡ false → b ≡ false
second_off true b e = absurd (cc)
second_off false b e = e

number_stays : (d : Description) (set : Option Key) (c e : Contents) (other : Key) → 0x1004 ≤ other.index → other.index ≤ 0x1FFF → is_set set other ≡ false → MayBecome d set c e → number_at c other ≡ number_at e other
number_stays d None c e other low high off may = number_same c e other may low high
number_stays d (Some key) c e other low high off may = sym (number_kept c e key other may.0 may.1.same low high off)

module _ (below : Below) where
  -- an entry that isn't written keeps its number, where the input is no reset
  stays : (k : Constants) (inputs : Inputs) (input : InputView) (other : Key) → 0x1004 ≤ other.index → other.index ≤ 0x1FFF
      → is_reset (moment_at k inputs input).mark || is_set (marked_key (moment_at k inputs input).mark) other ≡ false
      → number_at (contents_of k inputs) other ≡ number_at (contents_of k (input ∷ inputs)) other
  stays k inputs input other low high off =
      let m = moment_at k inputs input in
      number_stays k.description (marked_key m.mark) (contents_of k inputs) m.contents other low high (second_off (is_reset m.mark) (is_set (marked_key m.mark) other) off)
      (changed below k (moments k inputs) input (first_off (is_reset m.mark) (is_set (marked_key m.mark) other) off))

  period_by : (k : Constants) (inputs : Inputs) (input : InputView) (b : Bool) → begins_heartbeat (moment_at k inputs input).mark ≡ b → heartbeat_period k inputs ≡ number_at (contents_of k inputs) producer_key
      → cond b (number_at (contents_of k (input ∷ inputs)) producer_key) (heartbeat_period k inputs) ≡ number_at (contents_of k (input ∷ inputs)) producer_key
  period_by k inputs input true is before = refl
  period_by k inputs input false is before = before ∙ stays k inputs input producer_key (omega arith) (omega arith) is

  pub period_now : (k : Constants) (inputs : Inputs) → heartbeat_period k inputs ≡ number_at (contents_of k inputs) producer_key
  period_now k [] = refl
  period_now k (input ∷ inputs) = period_by k inputs input (begins_heartbeat (moment_at k inputs input).mark) refl (period_now k inputs)

  monitored_with : (k : Constants) (sub : ℕ) (inputs : Inputs) (input : InputView) (b : Bool) → begins_entry sub (moment_at k inputs input).mark ≡ b → monitored k sub inputs ≡ monitored_by (number_at (contents_of k inputs) (consumer_key sub))
      → cond b (monitored_by (number_at (moment_at k inputs input).received (consumer_key sub))) (monitored k sub inputs) ≡ monitored_by (number_at (contents_of k (input ∷ inputs)) (consumer_key sub))
  monitored_with k sub inputs input true is before =
      let m = moment_at k inputs input in
      ap monitored_by (number_same m.received m.contents (consumer_key sub) (after_received below k (moments k inputs) input) (omega arith) (omega arith))
  monitored_with k sub inputs input false is before = before ∙ ap monitored_by (stays k inputs input (consumer_key sub) (omega arith) (omega arith) is)

  pub monitored_now : (k : Constants) (sub : ℕ) (inputs : Inputs) → monitored k sub inputs ≡ monitored_by (number_at (contents_of k inputs) (consumer_key sub))
  monitored_now k sub [] = refl
  monitored_now k sub (input ∷ inputs) = monitored_with k sub inputs input (begins_entry sub (moment_at k inputs input).mark) refl (monitored_now k sub inputs)
