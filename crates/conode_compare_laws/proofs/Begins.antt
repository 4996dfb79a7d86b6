-- A device built from a data sheet begins with all its COB-IDs aside from the identifiers of NMT and of its error control.
use Rattle.std.proofs.Common.{◌≡◌, ℕ, zero, suc, ◌+◌, ◌-◌, ◌<◌, ◌≤◌, Bool, true, false, List, [], ◌∷◌, map, Option, Some, None, refl, ap, sym, subst, ◌∙◌, arith, ◌⊎◌, inl, inr, unwrap_or}
use Rattle.std.specs.Prelude.{◌==◌, ◌&&◌, ◌||◌, not, if◌then◌else◌, nat_le, find, filter, option_map}
use Rattle.std.specs.List.{AllByRecursion, range_with_len}
use Rattle.std.specs.Option.{option_or}
use Rattle.std.proofs.lemmas.Bool.Decides.{nat_tests}
use Rattle.co_value.specs.declared.key.Key.{Key}
use Rattle.co_value.specs.Keys.{same_key, same_key-is}
use Rattle.co_value.specs.Numbers.{unsigned_of}
use Rattle.co_profile.specs.Indices.{sdo_server}
use Rattle.co_profile.specs.Keys.{emergency_key}
use Rattle.co_dict.specs.CobIds.{has_11_bits, has_bit_31, identifier_of, is_restricted, is_valid}
use Rattle.co_dict.specs.FreeIds.{is_good_word}
use Rattle.co_dict.specs.Rows.{Contents, number_at}
use Rattle.co_dict.specs.SdoChannels.{answer_id, answer_key, is_channel, request_key}
use Rattle.co_dict.specs.Stores.{Description}
use Rattle.co_dict_build.specs.declared.build_fault.BuildFault.{BuildFault}
use Rattle.co_dict_build.specs.declared.build_fault.BuildFault.TheVariants.{BadCobId, NodeId}
use Rattle.co_dict_build.specs.Built.{Plan, built, built_contents, built_description}
use Rattle.co_dict_build.specs.BuildFaults.{bad_cob_id, build_fault, fault_if, is_bad_channel_word, is_bad_cob_id, is_bad_word, is_channel_key, is_node, is_sync_key, is_used_before, is_word_key}
use Rattle.co_dict_build.specs.ListedEntries.{ListedEntry, entry_at, keys_in}
use Rattle.co_dict_build.proofs.Plans.{begins_initially}
use Rattle.co_sdo.specs.Channels.{ChannelSettings, channels_below, channels_of, settings_for}
use Rattle.co_pdo.specs.Tpdos.{tpdo_key}
use Rattle.co_node_model.specs.Moments.{Constants}
use Rattle.co_node.specs.Built.{IsBuilt}
use Rattle.conode_compare_laws.specs.Identifiers.{BeginsAside, HasAsideWords, IsAside, IsAsideWord}
use Rattle.conode_compare_laws.proofs.Words.{good_aside, unrestricted_aside}

-- ---- no fault

neither : (a b : Option BuildFault) → option_or a b ≡ None → (a ≡ None) × (b ≡ None)
neither None b h = (refl, h)
neither (Some x) b h = absurd (cc)

unless : (condition : Bool) (fault : BuildFault) → fault_if (not condition) fault ≡ None → condition ≡ true
unless true fault h = refl
unless false fault h = absurd (cc)

unmapped : (key : Option Key) → option_map BadCobId key ≡ None → key ≡ None
unmapped None h = refl
unmapped (Some key) h = absurd (cc)

pub node_ok : (plan : Plan) → build_fault plan ≡ None → is_node plan.node ≡ true
node_ok plan h = unless (is_node plan.node) NodeId (neither _ _ h).0

pub to_127 : (node : ℕ) → is_node node ≡ true → node ≤ 127
to_127 node h = grind (arith, nat_tests)

none_bad : (plan : Plan) → build_fault plan ≡ None → bad_cob_id (built_description plan) (built_contents plan) ≡ None
none_bad plan h = unmapped _ (neither _ _ (neither _ _ (neither _ _ (neither _ _ h).1).1).0).0

-- ---- no key is bad: then one with an entry isn't

passes_by : (bad : Key → Bool) (e : ListedEntry) (es : List ListedEntry) (key : Key) (b here : Bool) → bad e.key ≡ b → same_key key e.key ≡ here → find bad (keys_in (e ∷ es)) ≡ None
    → (find bad (keys_in es) ≡ None → (bad key ≡ false) ⊎ (entry_at es key ≡ None))
    → (bad key ≡ false) ⊎ (entry_at (e ∷ es) key ≡ None)
passes_by bad e es key true here is same none rest = absurd (let found : find bad (keys_in (e ∷ es)) ≡ Some e.key = rw is refl in cc)
passes_by bad e es key false true is same none rest = inl (ap bad (same_key-is key e.key same) ∙ is)
passes_by bad e es key false false is same none rest =
    let later : find bad (keys_in (e ∷ es)) ≡ find bad (keys_in es) = rw is refl in
    let after : entry_at (e ∷ es) key ≡ entry_at es key = rw same refl in
    elim (rest (sym later ∙ none)) [ inl passes ↦ inl passes | inr absent ↦ inr (after ∙ absent) ]

pub passes : (bad : Key → Bool) (es : List ListedEntry) (key : Key) → find bad (keys_in es) ≡ None → (bad key ≡ false) ⊎ (entry_at es key ≡ None)
passes bad [] key none = inr refl
passes bad (e ∷ es) key none = passes_by bad e es key (bad e.key) (same_key key e.key) refl refl none (passes bad es key)

pub absent_is_0 : (plan : Plan) (key : Key) → entry_at (built plan) key ≡ None → number_at (built_contents plan) key ≡ 0
absent_is_0 plan key absent = ap (λ e. unsigned_of (unwrap_or (option_map (λ (e : ListedEntry). e.bytes) e) [])) absent

-- ---- the words of EMCY and PDOs

good_by : (bit none good : Bool) → not (none || good) ≡ false → (not bit && not none) ≡ true → good ≡ true
good_by true none good h valid = absurd (cc)
good_by false true good h valid = absurd (cc)
good_by false false true h valid = refl
good_by false false false h valid = absurd (cc)

word_aside : (node : ℕ) (c : Contents) (word : ℕ) → node ≤ 127 → is_bad_word node c word ≡ false → IsAsideWord node word
word_aside node c word last off = λ valid. good_aside node node c word last (good_by (has_bit_31 word) (word == 0) (is_good_word node c word) off valid) valid

zero_aside : (node : ℕ) → IsAsideWord node 0
zero_aside node = λ valid. absurd (cc)

emergency_bad : (node : ℕ) (c : Contents) → is_bad_cob_id node c emergency_key ≡ is_bad_word node c (number_at c emergency_key)
emergency_bad node c = refl

no_sync : (n : ℕ) → is_sync_key (tpdo_key n 1) ≡ false
no_sync n = grind (arith, nat_tests)

is_word : (n : ℕ) → n < 512 → is_word_key (tpdo_key n 1) ≡ true
is_word n less = grind (arith, nat_tests)

tpdo_bad : (node : ℕ) (c : Contents) (n : ℕ) → n < 512 → is_bad_cob_id node c (tpdo_key n 1) ≡ is_bad_word node c (number_at c (tpdo_key n 1))
tpdo_bad node c n less = rw (no_sync n, is_word n less) refl

start_word : (plan : Plan) (key : Key) → build_fault plan ≡ None → is_bad_cob_id plan.node (built_contents plan) key ≡ is_bad_word plan.node (built_contents plan) (number_at (built_contents plan) key)
    → IsAsideWord plan.node (number_at (built_contents plan) key)
start_word plan key h bad =
    let c : Contents = built_contents plan in
    let last : plan.node ≤ 127 = to_127 plan.node (node_ok plan h) in
    elim (passes (is_bad_cob_id plan.node c) (built plan) key (none_bad plan h)) [
      | inl off ↦ word_aside plan.node c (number_at c key) last (sym bad ∙ off)
      | inr absent ↦ subst (IsAsideWord plan.node) (sym (absent_is_0 plan key absent)) (zero_aside plan.node)
    ]

start_words : (plan : Plan) → build_fault plan ≡ None → HasAsideWords plan.node (built_contents plan)
start_words plan h = record {
  emergency = start_word plan emergency_key h (emergency_bad plan.node (built_contents plan));
  tpdos = λ n less. start_word plan (tpdo_key n 1) h (tpdo_bad plan.node (built_contents plan) n less);
}

initial_same : (plan : Plan) (key : Key) → number_at (built_contents plan) key ≡ number_at (built_description plan).initial key
initial_same plan key = ap (λ b. unsigned_of (unwrap_or b [])) (begins_initially plan (built_description plan) (built_contents plan) refl refl key)

initial_words : (plan : Plan) → build_fault plan ≡ None → HasAsideWords plan.node (built_description plan).initial
initial_words plan h =
    let s : HasAsideWords plan.node (built_contents plan) = start_words plan h in
    record {
      emergency = subst (IsAsideWord plan.node) (initial_same plan emergency_key) s.emergency;
      tpdos = λ n less. subst (IsAsideWord plan.node) (initial_same plan (tpdo_key n 1)) (s.tpdos n less);
    }

-- ---- the SDO channels

-- the parts of what a bad word of a channel is
unrestricted_by : (here there wide restricted used : Bool) → (here && there && (not wide || restricted || used)) ≡ false → here ≡ true → there ≡ true → restricted ≡ false
unrestricted_by true true true false used h a b = refl
unrestricted_by true true true true used h a b = absurd (cc)
unrestricted_by true true false restricted used h a b = absurd (cc)
unrestricted_by true false wide restricted used h a b = absurd (cc)
unrestricted_by false there wide restricted used h a b = absurd (cc)

no_sync_answer : (n : ℕ) → is_sync_key (answer_key n) ≡ false
no_sync_answer n = grind (arith, nat_tests)

no_word_answer : (n : ℕ) → n < 128 → is_word_key (answer_key n) ≡ false
no_word_answer n less = grind (arith, nat_tests)

is_channel_answer : (n : ℕ) → n < 128 → is_channel_key (answer_key n) ≡ true
is_channel_answer n less = grind (arith, nat_tests)

answer_bad : (node : ℕ) (c : Contents) (n : ℕ) → n < 128
    → is_bad_cob_id node c (answer_key n) ≡ (is_channel_key (answer_key n) && is_channel c ((answer_key n).index - sdo_server.0) && is_bad_channel_word node c (answer_key n) (number_at c (answer_key n)))
answer_bad node c n less = rw (no_sync_answer n, no_word_answer n less) refl

-- a channel but the first one has valid words
answer_valid : (c : Contents) (n : ℕ) → (n == 0) ≡ false → is_channel c n ≡ true → is_valid (number_at c (answer_key n)) ≡ true
answer_valid c n other there = by (n == 0) (nat_le n 127) (is_valid (number_at c (request_key n))) (is_valid (number_at c (answer_key n))) other there
  where
    by : (first few request answer : Bool) → first ≡ false → (first || (few && request && answer)) ≡ true → answer ≡ true
    by true few request answer o t = absurd (cc)
    by false true true answer o t = t
    by false true false answer o t = absurd (cc)
    by false false request answer o t = absurd (cc)

own_number : (n : ℕ) → (answer_key n).index - sdo_server.0 ≡ n
own_number n = omega arith

response_aside : (plan : Plan) (n : ℕ) (first : Bool) → (n == 0) ≡ first → n < 128 → build_fault plan ≡ None → is_channel (built_contents plan) n ≡ true
    → IsAside plan.node (answer_id plan.node (built_contents plan) n)
response_aside plan n true is less h there =
    subst (IsAside plan.node) (sym (ap (λ b. if b then 0x580 + plan.node else identifier_of (number_at (built_contents plan) (answer_key n))) is)) (λ e. omega arith, λ e. omega arith)
response_aside plan n false is less h there =
    let c : Contents = built_contents plan in
    let word : ℕ = number_at c (answer_key n) in
    let last : plan.node ≤ 127 = to_127 plan.node (node_ok plan h) in
    subst (IsAside plan.node) (sym (ap (λ b. if b then 0x580 + plan.node else identifier_of word) is))
    (elim (passes (is_bad_cob_id plan.node c) (built plan) (answer_key n) (none_bad plan h)) [
      | inl off ↦ unrestricted_aside plan.node (identifier_of word) last
          (unrestricted_by (is_channel_key (answer_key n)) (is_channel c ((answer_key n).index - sdo_server.0)) (has_11_bits word) (is_restricted (identifier_of word)) (is_used_before plan.node c (answer_key n) (identifier_of word))
          (sym (answer_bad plan.node c n less) ∙ off) (is_channel_answer n less) (ap (is_channel c) (own_number n) ∙ there))
      | inr absent ↦ absurd (let invalid : is_valid word ≡ false = ap is_valid (absent_is_0 plan (answer_key n) absent) in let valid : is_valid word ≡ true = answer_valid c n is there in cc)
    ])

all_below : (first count : ℕ) → first + count ≤ 128 → AllByRecursion (λ n. n < 128) (range_with_len first count)
all_below first zero h = tt
all_below first (suc count) h = (omega arith, all_below (first + 1) count (omega arith))

responses_aside : (plan : Plan) (greatest time : ℕ) (numbers : List ℕ) → AllByRecursion (λ n. n < 128) numbers → build_fault plan ≡ None
    → AllByRecursion (λ one. IsAside plan.node one.response) (map (settings_for (built_description plan) (built_contents plan) greatest time) (filter (is_channel (built_contents plan)) numbers))
responses_aside plan greatest time [] less h = tt
responses_aside plan greatest time (n ∷ numbers) less h = by (is_channel (built_contents plan) n) refl (responses_aside plan greatest time numbers less.1 h)
  where
    by : (b : Bool) → is_channel (built_contents plan) n ≡ b
        → AllByRecursion (λ (one : ChannelSettings). IsAside plan.node one.response) (map (settings_for (built_description plan) (built_contents plan) greatest time) (filter (is_channel (built_contents plan)) numbers))
        → AllByRecursion (λ (one : ChannelSettings). IsAside plan.node one.response)
        (map (settings_for (built_description plan) (built_contents plan) greatest time) (if b then n ∷ filter (is_channel (built_contents plan)) numbers else filter (is_channel (built_contents plan)) numbers))
    by true there later = (response_aside plan n (n == 0) refl less.0 h there, later)
    by false there later = later

channels_aside : (plan : Plan) (greatest time : ℕ) → build_fault plan ≡ None → AllByRecursion (λ one. IsAside plan.node one.response) (channels_of (built_description plan) (built_contents plan) greatest time)
unfolding channels_below
channels_aside plan greatest time h = responses_aside plan greatest time (range_with_len 0 128) (all_below 0 128 (omega arith)) h

-- ---- together

pub begins : (plan : Plan) (k : Constants) → IsBuilt plan k → BeginsAside k
begins plan k is =
    let h = is.faultless in
    record {
      last_node = subst (λ (d : Description). d.node ≤ 127) (sym is.description) (to_127 plan.node (node_ok plan h));
      channels = subst (λ (d : Description). AllByRecursion (λ (one : ChannelSettings). IsAside d.node one.response) (channels_of d k.start k.greatest k.time)) (sym is.description)
          (subst (λ (c : Contents). AllByRecursion (λ (one : ChannelSettings). IsAside plan.node one.response) (channels_of (built_description plan) c k.greatest k.time)) (sym is.start)
          (channels_aside plan k.greatest k.time h));
      start = subst (λ (d : Description). HasAsideWords d.node k.start) (sym is.description) (subst (HasAsideWords plan.node) (sym is.start) (start_words plan h));
      initial = subst (λ (d : Description). HasAsideWords d.node d.initial) (sym is.description) (initial_words plan h);
    }
