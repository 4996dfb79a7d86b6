-- The COB-IDs of a device stay aside from the identifiers of NMT and of its error control: the dictionary refuses those (CiA 301,
-- 7.3.5).
use Rattle.std.proofs.Common.{◌≡◌, ℕ, ◌+◌, ◌<◌, ◌≤◌, Bool, true, false, [], ◌∷◌, List, Option, Some, None, refl, ap, sym, subst, ◌∙◌, arith}
use Rattle.std.specs.Prelude.{◌==◌, ◌&&◌, ◌||◌, not, if◌then◌else◌, option_and_then, unwrap_or}
use Rattle.std.proofs.lemmas.Bool.Decides.{nat_tests}
use Rattle.co_value.specs.declared.key.Key.{Key}
use Rattle.co_value.specs.Keys.{same_key, same_key-is, same_key-refl}
use Rattle.co_value.specs.Numbers.{unsigned_of}
use Rattle.co_frame_aborts.specs.AbortCodes.{invalid_value, not_in_this_state}
use Rattle.co_frame.specs.FrameContent.{FrameContent}
use Rattle.co_frame.specs.Nmt.{nmt_command_in}
use Rattle.co_frame.specs.declared.nmt.NmtService.{NmtService}
use Rattle.co_frame.specs.declared.nmt.NmtService.TheVariants.{Start, Stop, EnterPreOperational, ResetNode, ResetCommunication}
use Rattle.co_profile.specs.Keys.{emergency_key}
use Rattle.co_dict.specs.CobIds.{has_11_bits, has_bit_31, identifier_of, is_default_sdo, is_restricted}
use Rattle.co_dict.specs.CobIdRules.{changes_while_valid}
use Rattle.co_dict.specs.FreeIds.{is_free, is_good_word}
use Rattle.co_dict.specs.OwnRules.{own_refusal, own_rule_of, rule_refusal}
use Rattle.co_dict.specs.Refusals.{first_refusal, refused_if}
use Rattle.co_dict.specs.Rows.{Contents, number_at, written}
use Rattle.co_dict.specs.SdoChannels.{is_sdo_id}
use Rattle.co_dict.specs.Stores.{Description}
use Rattle.co_pdo.specs.Tpdos.{tpdo_key}
use Rattle.co_node_model.specs.declared.address.Address.TheVariants.{Nmt}
use Rattle.co_node_model.specs.Addresses.{address_at}
use Rattle.co_node_model.specs.Device.{contents_of, moment, moments}
use Rattle.co_node_model.specs.Inputs.{Applied, Framed, Inputs, InputView, Ticked}
use Rattle.co_node_model.specs.Marks.{marked_key}
use Rattle.co_node_model.specs.Moments.{Constants}
use Rattle.co_node_model.specs.Nmt.{after_service, is_reset_by, service_for}
use Rattle.co_node_laws.specs.Settings.{HasSameSettings}
use Rattle.co_node_laws.proofs.Below.{Below}
use Rattle.co_node_laws.proofs.Changed.{by_address}
use Rattle.co_node_laws.proofs.Received.{MayBecome, changed}
use Rattle.co_node_laws.proofs.Writes.{IsWrite, number_kept, number_same}
use Rattle.conode_compare_laws.specs.Identifiers.{BeginsAside, HasAsideWords, IsAside, IsAsideWord}
use Rattle.conode_compare_laws.proofs.Inputs.{command_in, command_is}

-- ---- a good word is aside

restricted_control : (node : ℕ) → node ≤ 127 → is_restricted (0x700 + node) ≡ true
restricted_control node last = grind (arith, nat_tests)

pub unrestricted_aside : (node id : ℕ) → node ≤ 127 → is_restricted id ≡ false → IsAside node id
unrestricted_aside node id last off = (
  λ is. absurd (let on : is_restricted id ≡ true = ap is_restricted is in cc),
  λ is. absurd (let on : is_restricted id ≡ true = ap is_restricted is ∙ restricted_control node last in cc),
)

first_off : (a b c : Bool) → (not a && not b && not c) ≡ true → a ≡ false
first_off true b c h = absurd (cc)
first_off false b c h = refl

free_by : (bit zero small free : Bool) → (not bit && not zero) ≡ true → (bit || (small && free)) ≡ true → free ≡ true
free_by true zero small free valid good = absurd (cc)
free_by false zero true free valid good = good
free_by false zero false free valid good = absurd (cc)

pub good_aside : (node device : ℕ) (c : Contents) (word : ℕ) → node ≤ 127 → is_good_word device c word ≡ true → IsAsideWord node word
good_aside node device c word last good = λ valid.
    let id : ℕ = identifier_of word in
    let free : is_free device c id ≡ true = free_by (has_bit_31 word) (word == 0) (has_11_bits word) (is_free device c id) valid good in
    unrestricted_aside node id last (first_off (is_restricted id) (is_default_sdo id) (is_sdo_id device c id) free)

-- ---- what the own rule of a COB-ID permits

permitted_first : (good bad : Bool) (code next : ℕ) → first_refusal (refused_if (not good) code ∷ refused_if bad next ∷ []) ≡ None → good ≡ true
permitted_first true bad code next none = refl
permitted_first false bad code next none = absurd (cc)

permitted_good : (d : Description) (c : Contents) (key : Key) (bytes : List ℕ) → own_rule_of key ≡ own_rule_of emergency_key → own_refusal d c key bytes ≡ None → is_good_word d.node c (unsigned_of bytes) ≡ true
permitted_good d c key bytes rule none =
    permitted_first (is_good_word d.node c (unsigned_of bytes)) (changes_while_valid (number_at c key) (unsigned_of bytes)) invalid_value not_in_this_state
    (sym (ap (λ r. option_and_then (λ own. rule_refusal own d c key (unsigned_of bytes)) r) rule) ∙ none)

tpdo_rule : (n : ℕ) → n < 512 → own_rule_of (tpdo_key n 1) ≡ own_rule_of emergency_key
tpdo_rule n less = grind (arith, nat_tests)

-- ---- one change

number_written : (c : Contents) (key : Key) (bytes : List ℕ) → number_at (written c key bytes) key ≡ unsigned_of bytes
number_written c key bytes = ap (λ b. unsigned_of (unwrap_or (if b then Some bytes else c key) [])) (same_key-refl key)

write_word : (d : Description) (c e : Contents) (key other : Key) (bytes : List ℕ) (here : Bool) → same_key key other ≡ here → d.node ≤ 127 → own_rule_of other ≡ own_rule_of emergency_key → 0x1004 ≤ other.index → other.index ≤ 0x1FFF
    → IsWrite d c e key bytes → IsAsideWord d.node (number_at c other) → IsAsideWord d.node (number_at e other)
write_word d c e key other bytes true is last rule low high w aside =
    let same : key ≡ other = same_key-is key other is in
    let permitted : own_refusal d c other bytes ≡ None = subst (λ (k : Key). own_refusal d c k bytes ≡ None) same w.permitted in
    let settings : HasSameSettings (written c other bytes) e = subst (λ (k : Key). HasSameSettings (written c k bytes) e) same w.same in
    let number : unsigned_of bytes ≡ number_at e other = sym (number_written c other bytes) ∙ number_same (written c other bytes) e other settings low high in
    subst (IsAsideWord d.node) number (good_aside d.node d.node c (unsigned_of bytes) last (permitted_good d c other bytes rule permitted))
write_word d c e key other bytes false is last rule low high w aside =
    subst (IsAsideWord d.node) (sym (number_kept c e key other bytes w.same low high is)) aside

same_words : (node : ℕ) (c e : Contents) → HasSameSettings c e → HasAsideWords node c → HasAsideWords node e
same_words node c e same h = record {
  emergency = subst (IsAsideWord node) (number_same c e emergency_key same (omega arith) (omega arith)) h.emergency;
  tpdos = λ n less. subst (IsAsideWord node) (number_same c e (tpdo_key n 1) same (omega arith) (omega arith)) (h.tpdos n less);
}

by_set : (d : Description) (set : Option Key) (c e : Contents) → d.node ≤ 127 → MayBecome d set c e → HasAsideWords d.node c → HasAsideWords d.node e
by_set d None c e last may h = same_words d.node c e may h
by_set d (Some key) c e last may h = record {
  emergency = write_word d c e key emergency_key may.0 (same_key key emergency_key) refl last refl (omega arith) (omega arith) may.1 h.emergency;
  tpdos = λ n less. write_word d c e key (tpdo_key n 1) may.0 (same_key key (tpdo_key n 1)) refl last (tpdo_rule n less) (omega arith) (omega arith) may.1 (h.tpdos n less);
}

-- the numbers that a reset restores are the initial ones
restored_words : (node : ℕ) (c e : Contents) → number_at e emergency_key ≡ number_at c emergency_key → ((n : ℕ) → n < 512 → number_at e (tpdo_key n 1) ≡ number_at c (tpdo_key n 1)) → HasAsideWords node c → HasAsideWords node e
restored_words node c e emergency tpdos h = record {
  emergency = subst (IsAsideWord node) (sym emergency) h.emergency;
  tpdos = λ n less. subst (IsAsideWord node) (sym (tpdos n less)) (h.tpdos n less);
}

tpdo_restored : (initial c : Contents) (n : ℕ) → n < 512 → number_at (after_service initial (Some ResetCommunication) c) (tpdo_key n 1) ≡ number_at initial (tpdo_key n 1)
tpdo_restored initial c n less = grind (arith, nat_tests)

by_service : (node : ℕ) (initial c : Contents) (service : Option NmtService) → HasAsideWords node initial → HasAsideWords node c → HasAsideWords node (after_service initial service c)
by_service node initial c None begins h = h
by_service node initial c (Some Start) begins h = h
by_service node initial c (Some Stop) begins h = h
by_service node initial c (Some EnterPreOperational) begins h = h
by_service node initial c (Some ResetNode) begins h = restored_words node initial (after_service initial (Some ResetNode) c) refl (λ n less. refl) begins
by_service node initial c (Some ResetCommunication) begins h = restored_words node initial (after_service initial (Some ResetCommunication) c) refl (tpdo_restored initial c) begins

-- ---- over all inputs

module _ (below : Below) where
  unreset : (k : Constants) (inputs : Inputs) (input : InputView) → k.description.node ≤ 127 → is_reset_by (command_in k.description.node input) ≡ false → HasAsideWords k.description.node (contents_of k inputs)
      → HasAsideWords k.description.node (contents_of k (input ∷ inputs))
  unreset k inputs input last off h =
      by_set k.description (marked_key (moment k (moments k inputs) input).mark) (contents_of k inputs) (contents_of k (input ∷ inputs)) last
      (changed below k (moments k inputs) input (ap is_reset_by (command_is k (moments k inputs) input) ∙ off)) h

  at_frame : (k : Constants) (inputs : Inputs) (frame : FrameContent) (b : Bool) → (frame.id == 0) ≡ b → k.description.node ≤ 127 → HasAsideWords k.description.node k.description.initial → HasAsideWords k.description.node (contents_of k inputs)
      → HasAsideWords k.description.node (contents_of k (Framed frame ∷ inputs))
  at_frame k inputs frame true is last begins h =
      let nmt : address_at k (moments k inputs) frame.id ≡ Nmt = rw is refl in
      subst (HasAsideWords k.description.node) (sym (by_address k inputs frame Nmt nmt))
      (by_service k.description.node k.description.initial (contents_of k inputs) (service_for k.description.node (nmt_command_in frame)) begins h)
  at_frame k inputs frame false is last begins h =
      unreset k inputs (Framed frame) last (ap (λ b. is_reset_by (if b then service_for k.description.node (nmt_command_in frame) else None)) is) h

  pub stay : (k : Constants) (inputs : Inputs) → BeginsAside k → HasAsideWords k.description.node (contents_of k inputs)
  stay k [] begins = begins.start
  stay k (Framed frame ∷ inputs) begins = at_frame k inputs frame (frame.id == 0) refl begins.last_node begins.initial (stay k inputs begins)
  stay k (Ticked ∷ inputs) begins = unreset k inputs Ticked begins.last_node refl (stay k inputs begins)
  stay k (Applied event ∷ inputs) begins = unreset k inputs (Applied event) begins.last_node refl (stay k inputs begins)
