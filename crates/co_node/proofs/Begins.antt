-- A device built from a data sheet begins with SYNC and EMCY apart from the default SDO channel.
use Rattle.std.proofs.Common.{◌≡◌, ℕ, ◌≤◌, ◌+◌, Bool, true, false, List, [], ◌∷◌, Option, Some, None, refl, ap, sym, subst, ◌∙◌, arith, ◌⊎◌, inl, inr, unwrap_or}
use Rattle.std.specs.Prelude.{◌==◌, ◌&&◌, ◌||◌, not, find, option_map}
use Rattle.std.specs.Option.{option_or}
use Rattle.std.proofs.lemmas.Bool.Decides.{nat_tests}
use Rattle.co_value.specs.declared.key.Key.{Key}
use Rattle.co_value.specs.Keys.{same_key, same_key-is}
use Rattle.co_value.specs.Numbers.{unsigned_of}
use Rattle.co_dict.specs.CobIds.{has_bit_31, identifier_of}
use Rattle.co_dict.specs.FreeIds.{is_good_sync_word, is_good_word}
use Rattle.co_dict.specs.Rows.{Contents, number_at}
use Rattle.co_dict.specs.Stores.{Description}
use Rattle.co_dict_build.specs.declared.build_fault.BuildFault.{BuildFault}
use Rattle.co_dict_build.specs.declared.build_fault.BuildFault.TheVariants.{BadCobId, NodeId}
use Rattle.co_dict_build.specs.Built.{Plan, built, built_contents, built_description}
use Rattle.co_dict_build.specs.BuildFaults.{bad_cob_id, build_fault, fault_if, is_bad_cob_id, is_node}
use Rattle.co_dict_build.specs.ListedEntries.{ListedEntry, entry_at, keys_in}
use Rattle.co_dict_build.proofs.Plans.{begins_initially}
use Rattle.co_profile.specs.Keys.{emergency_key, sync_key}
use Rattle.co_node_model.specs.Moments.{Constants}
use Rattle.co_node_laws.specs.Apart.{AreApart, BeginsApart}
use Rattle.co_node.specs.Built.{IsBuilt}
use Rattle.co_node_laws.proofs.Apart.{emergency_has, good_emergency, good_sync, same_words, sync_has}

-- ---- no fault

neither : (a b : Option BuildFault) → option_or a b ≡ None → (a ≡ None) × (b ≡ None)
neither None b h = (refl, h)
neither (Some x) b h = absurd (cc)

unless : (condition : Bool) (fault : BuildFault) → fault_if (not condition) fault ≡ None → condition ≡ true
unless true fault h = refl
unless false fault h = absurd (cc)

unmapped : (key : Option Key) → option_map BadCobId key ≡ None → key ≡ None
unmapped None h = refl
unmapped (Some key) h = absurd (cc)

node_ok : (plan : Plan) → build_fault plan ≡ None → is_node plan.node ≡ true
node_ok plan h = unless (is_node plan.node) NodeId (neither _ _ h).0

no_bad_cob_id : (plan : Plan) → build_fault plan ≡ None → bad_cob_id (built_description plan) (built_contents plan) ≡ None
no_bad_cob_id plan h = unmapped _ (neither _ _ (neither _ _ (neither _ _ (neither _ _ h).1).1).0).0

-- ---- no key fails a test: then one with an entry passes

passes_by : (bad : Key → Bool) (e : ListedEntry) (es : List ListedEntry) (key : Key) (b here : Bool) → bad e.key ≡ b → same_key key e.key ≡ here → find bad (keys_in (e ∷ es)) ≡ None
    → (find bad (keys_in es) ≡ None → (bad key ≡ false) ⊎ (entry_at es key ≡ None))
    → (bad key ≡ false) ⊎ (entry_at (e ∷ es) key ≡ None)
passes_by bad e es key true here is same none rest = absurd (let found : find bad (keys_in (e ∷ es)) ≡ Some e.key = rw is refl in cc)
passes_by bad e es key false true is same none rest = inl (ap bad (same_key-is key e.key same) ∙ is)
passes_by bad e es key false false is same none rest =
    let later : find bad (keys_in (e ∷ es)) ≡ find bad (keys_in es) = rw is refl in
    let after : entry_at (e ∷ es) key ≡ entry_at es key = rw same refl in
    elim (rest (sym later ∙ none)) [ inl passes ↦ inl passes | inr absent ↦ inr (after ∙ absent) ]

passes : (bad : Key → Bool) (es : List ListedEntry) (key : Key) → find bad (keys_in es) ≡ None → (bad key ≡ false) ⊎ (entry_at es key ≡ None)
passes bad [] key none = inr refl
passes bad (e ∷ es) key none = passes_by bad e es key (bad e.key) (same_key key e.key) refl refl none (passes bad es key)

absent_is_0 : (plan : Plan) (key : Key) → entry_at (built plan) key ≡ None → number_at (built_contents plan) key ≡ 0
absent_is_0 plan key absent = ap (λ e. unsigned_of (unwrap_or (option_map (λ (e : ListedEntry). e.bytes) e) [])) absent

-- ---- a word that isn't bad is 0 or good

sync_by : (zero good here : Bool) → not (zero || good) ≡ false → (good ≡ true → (not zero && here) ≡ false) → (not zero && here) ≡ false
sync_by true good here h off = refl
sync_by false true here h off = off refl
sync_by false false here h off = absurd (cc)

emergency_by : (bit zero good here : Bool) → not (zero || good) ≡ false → (good ≡ true → ((not bit && not zero) && here) ≡ false) → ((not bit && not zero) && here) ≡ false
emergency_by true zero good here h off = refl
emergency_by false true good here h off = refl
emergency_by false false true here h off = off refl
emergency_by false false false here h off = absurd (cc)

sync_not_bad : (node : ℕ) (c : Contents) → 1 ≤ node → node ≤ 127 → is_bad_cob_id node c sync_key ≡ false → sync_has (0x600 + node) (number_at c sync_key) ≡ false
sync_not_bad node c first last off =
    let word : ℕ = number_at c sync_key in
    sync_by (word == 0) (is_good_sync_word node c word) (identifier_of word == (0x600 + node)) off (good_sync node c word first last)

emergency_not_bad : (node : ℕ) (c : Contents) → 1 ≤ node → node ≤ 127 → is_bad_cob_id node c emergency_key ≡ false → emergency_has (0x580 + node) (number_at c emergency_key) ≡ false
emergency_not_bad node c first last off =
    let word : ℕ = number_at c emergency_key in
    emergency_by (has_bit_31 word) (word == 0) (is_good_word node c word) (identifier_of word == (0x580 + node)) off (good_emergency node c word first last)

-- ---- together

from_1 : (node : ℕ) → is_node node ≡ true → 1 ≤ node
from_1 node h = grind (arith, nat_tests)

to_127 : (node : ℕ) → is_node node ≡ true → node ≤ 127
to_127 node h = grind (arith, nat_tests)

start_apart : (plan : Plan) → build_fault plan ≡ None → AreApart plan.node (built_contents plan)
start_apart plan h =
    let c : Contents = built_contents plan in
    let first : 1 ≤ plan.node = from_1 plan.node (node_ok plan h) in
    let last : plan.node ≤ 127 = to_127 plan.node (node_ok plan h) in
    let none = no_bad_cob_id plan h in
    record {
      sync = elim (passes (is_bad_cob_id plan.node c) (built plan) sync_key none) [
        | inl off ↦ sync_not_bad plan.node c first last off
        | inr absent ↦ ap (sync_has (0x600 + plan.node)) (absent_is_0 plan sync_key absent)
      ];
      emergency = elim (passes (is_bad_cob_id plan.node c) (built plan) emergency_key none) [
        | inl off ↦ emergency_not_bad plan.node c first last off
        | inr absent ↦ ap (emergency_has (0x580 + plan.node)) (absent_is_0 plan emergency_key absent)
      ];
    }

initial_same : (plan : Plan) (key : Key) → number_at (built_description plan).initial key ≡ number_at (built_contents plan) key
initial_same plan key = ap (λ b. unsigned_of (unwrap_or b [])) (sym (begins_initially plan (built_description plan) (built_contents plan) refl refl key))

initial_apart : (plan : Plan) → build_fault plan ≡ None → AreApart plan.node (built_description plan).initial
initial_apart plan h =
    same_words plan.node (built_contents plan) (built_description plan).initial (initial_same plan sync_key) (initial_same plan emergency_key) (start_apart plan h)

pub begins : (plan : Plan) (k : Constants) → IsBuilt plan k → BeginsApart k
begins plan k built =
    let h = built.faultless in
    record {
      first_node = subst (λ (d : Description). 1 ≤ d.node) (sym built.description) (from_1 plan.node (node_ok plan h));
      last_node = subst (λ (d : Description). d.node ≤ 127) (sym built.description) (to_127 plan.node (node_ok plan h));
      start = subst (AreApart k.description.node) (sym built.start) (subst (λ (d : Description). AreApart d.node (built_contents plan)) (sym built.description) (start_apart plan h));
      initial = subst (λ (d : Description). AreApart d.node d.initial) (sym built.description) (initial_apart plan h);
    }
