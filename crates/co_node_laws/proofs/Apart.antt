-- SYNC and EMCY stay apart from the default SDO channel.
use Rattle.std.proofs.Common.{◌≡◌, ℕ, ◌+◌, ◌≤◌, Bool, true, false, [], ◌∷◌, List, Option, Some, None, refl, ap, sym, subst, ◌∙◌, arith}
use Rattle.std.specs.Prelude.{◌==◌, ◌&&◌, ◌||◌, not, if◌then◌else◌}
use Rattle.std.proofs.lemmas.Bool.{eqb-true}
use Rattle.std.proofs.lemmas.Bool.Decides.{nat_tests}
use Rattle.co_value.specs.declared.key.Key.{Key}
use Rattle.co_value.specs.Keys.{same_key, same_key-is}
use Rattle.co_value.specs.Numbers.{unsigned_of}
use Rattle.co_frame.specs.FrameContent.{FrameContent}
use Rattle.co_frame.specs.Heartbeats.{heartbeat_in}
use Rattle.co_frame.specs.Nmt.{nmt_command_in}
use Rattle.co_frame.specs.declared.nmt.NmtService.{NmtService}
use Rattle.co_frame.specs.declared.nmt.NmtService.TheVariants.{Start, Stop, EnterPreOperational, ResetNode, ResetCommunication}
use Rattle.co_frame_aborts.specs.AbortCodes.{invalid_value, not_in_this_state}
use Rattle.co_dict.specs.CobIds.{has_11_bits, has_bit_31, identifier_of, is_default_sdo, is_restricted, is_sync_consumer, is_valid}
use Rattle.co_dict.specs.CobIdRules.{changes_while_valid}
use Rattle.co_dict.specs.FreeIds.{is_free, is_good_sync_word, is_good_word}
use Rattle.co_dict.specs.OwnRules.{own_refusal}
use Rattle.co_dict.specs.Refusals.{first_refusal, refused_if}
use Rattle.co_dict.specs.Rows.{Contents, number_at, written}
use Rattle.co_dict.specs.SdoChannels.{is_sdo_id}
use Rattle.co_dict.specs.Stores.{Description}
use Rattle.co_node_parts.specs.NmtStates.{is_state}
use Rattle.co_node_parts.specs.declared.nmt_state.NodeState.TheVariants.{Operational, Stopped}
use Rattle.co_node_model.specs.Sync.{is_sync_id}
use Rattle.co_node_model.specs.AppEvents.{event_refusal, with_app_event}
use Rattle.co_node_model.specs.Inputs.{AppView, Applied, ChangedAt, Cleared, EventOn, Framed, InputView, Inputs, Raised, Ticked, Written}
use Rattle.co_profile.specs.Keys.{emergency_key, sync_key}
use Rattle.co_node_model.specs.Nmt.{is_reset, is_reset_by, state_at, after_service, service_for}
use Rattle.co_node_model.specs.declared.address.Address.{Address}
use Rattle.co_node_model.specs.declared.address.Address.TheVariants.{Channel, ErrorControl, Nmt, Nobody, Rpdo, Sync}
use Rattle.co_node_laws.specs.Settings.{HasSameSettings}
use Rattle.co_node_model.specs.Moments.{Constants, History, Moment, nothing_of}
use Rattle.co_node_model.specs.Device.{moment, with_frame, contents_of, moments}
use Rattle.co_node_model.specs.Addresses.{address_at}
use Rattle.co_node_model.specs.Heartbeats.{is_heartbeat}
use Rattle.co_node_model.specs.Marks.{marked_key}
use Rattle.co_node_laws.proofs.Below.{Below}
use Rattle.co_node_laws.proofs.Changed.{by_address}
use Rattle.co_node_laws.proofs.Received.{MayBecome, changed}
use Rattle.co_node_laws.proofs.Writes.{IsWrite, number_kept, number_same}
use Rattle.co_node_laws.specs.Apart.{AreApart, BeginsApart, is_emergency_id}
use Rattle.co_node_laws.proofs.MarkLemmas.{written_command}

-- ---- words

-- a SYNC word with an identifier; an emergency's
abbrev pub sync_has : ℕ → ℕ → Bool
sync_has id word = not (word == 0) && identifier_of word == id

abbrev pub emergency_has : ℕ → ℕ → Bool
emergency_has id word = is_valid word && identifier_of word == id

request_reserved : (node : ℕ) → 1 ≤ node → node ≤ 127 → is_default_sdo (0x600 + node) ≡ true
request_reserved node first last = grind (arith, nat_tests)

response_reserved : (node : ℕ) → 1 ≤ node → node ≤ 127 → is_default_sdo (0x580 + node) ≡ true
response_reserved node first last = grind (arith, nat_tests)

second_off : (a b c : Bool) → (not a && not b && not c) ≡ true → b ≡ false
second_off true b c h = absurd (cc)
second_off false true c h = absurd (cc)
second_off false false c h = refl

not_default : (node : ℕ) (c : Contents) (id : ℕ) → is_free node c id ≡ true → is_default_sdo id ≡ false
not_default node c id free = second_off (is_restricted id) (is_default_sdo id) (is_sdo_id node c id) free

-- a free identifier is none of a default channel
other_by : (node : ℕ) (c : Contents) (id reserved : ℕ) (same : Bool) → (id == reserved) ≡ same → is_default_sdo reserved ≡ true → is_free node c id ≡ true → (id == reserved) ≡ false
other_by node c id reserved false is default free = is
other_by node c id reserved true is default free =
    let there : is_default_sdo id ≡ true = ap is_default_sdo (eqb-true id reserved is) ∙ default in
    let off : is_default_sdo id ≡ false = not_default node c id free in
    absurd (cc)

other : (node : ℕ) (c : Contents) (id reserved : ℕ) → is_default_sdo reserved ≡ true → is_free node c id ≡ true → (id == reserved) ≡ false
other node c id reserved default free = other_by node c id reserved (id == reserved) refl default free

last_off : (a b : Bool) → b ≡ false → (a && b) ≡ false
last_off true b off = off
last_off false b off = refl

last_on : (a b : Bool) → (a && b) ≡ true → b ≡ true
last_on true b on = on
last_on false b on = absurd (cc)

pub good_sync : (node : ℕ) (c : Contents) (word : ℕ) → 1 ≤ node → node ≤ 127 → is_good_sync_word node c word ≡ true → sync_has (0x600 + node) word ≡ false
good_sync node c word first last good =
    last_off (not (word == 0)) (identifier_of word == (0x600 + node))
    (other node c (identifier_of word) (0x600 + node) (request_reserved node first last) (last_on (is_sync_consumer word) (is_free node c (identifier_of word)) good))

good_by : (bit small free zero here : Bool) → (bit || (small && free)) ≡ true → (free ≡ true → here ≡ false) → ((not bit && not zero) && here) ≡ false
good_by true small free zero here good off = refl
good_by false true true zero here good off = last_off (not zero) here (off refl)
good_by false true false zero here good off = absurd (cc)
good_by false false free zero here good off = absurd (cc)

pub good_emergency : (node : ℕ) (c : Contents) (word : ℕ) → 1 ≤ node → node ≤ 127 → is_good_word node c word ≡ true → emergency_has (0x580 + node) word ≡ false
good_emergency node c word first last good =
    good_by (has_bit_31 word) (has_11_bits word) (is_free node c (identifier_of word)) (word == 0) (identifier_of word == (0x580 + node)) good
    (other node c (identifier_of word) (0x580 + node) (response_reserved node first last))

-- ---- what the own rules of 1005:00 and 1014:00 permit

permitted_if : (good : Bool) (code : ℕ) → refused_if (not good) code ≡ None → good ≡ true
permitted_if true code none = refl
permitted_if false code none = absurd (cc)

permitted_first : (good bad : Bool) (code next : ℕ) → first_refusal (refused_if (not good) code ∷ refused_if bad next ∷ []) ≡ None → good ≡ true
permitted_first true bad code next none = refl
permitted_first false bad code next none = absurd (cc)

sync_permitted : (d : Description) (c : Contents) (bytes : List ℕ) → own_refusal d c sync_key bytes ≡ None → is_good_sync_word d.node c (unsigned_of bytes) ≡ true
sync_permitted d c bytes none = permitted_if (is_good_sync_word d.node c (unsigned_of bytes)) invalid_value none

emergency_permitted : (d : Description) (c : Contents) (bytes : List ℕ) → own_refusal d c emergency_key bytes ≡ None → is_good_word d.node c (unsigned_of bytes) ≡ true
emergency_permitted d c bytes none =
    permitted_first (is_good_word d.node c (unsigned_of bytes)) (changes_while_valid (number_at c emergency_key) (unsigned_of bytes)) invalid_value not_in_this_state none

-- ---- one change

abbrev pub IsNode : ℕ → Type 0
IsNode node = (1 ≤ node) × (node ≤ 127)

pub same_words : (node : ℕ) (c e : Contents) → number_at e sync_key ≡ number_at c sync_key → number_at e emergency_key ≡ number_at c emergency_key → AreApart node c → AreApart node e
same_words node c e sync emergency apart = record {
  sync = ap (sync_has (0x600 + node)) sync ∙ apart.sync;
  emergency = ap (emergency_has (0x580 + node)) emergency ∙ apart.emergency;
}

same_settings : (node : ℕ) (c e : Contents) → HasSameSettings c e → AreApart node c → AreApart node e
same_settings node c e same apart =
    same_words node c e
    (sym (number_same c e sync_key same (omega arith) (omega arith)))
    (sym (number_same c e emergency_key same (omega arith) (omega arith)))
    apart

write_sync : (d : Description) (c e : Contents) (key : Key) (bytes : List ℕ) (here : Bool) → same_key key sync_key ≡ here → IsNode d.node → IsWrite d c e key bytes → is_sync_id c (0x600 + d.node) ≡ false → is_sync_id e (0x600 + d.node) ≡ false
write_sync d c e key bytes true is node w apart =
    let same : key ≡ sync_key = same_key-is key sync_key is in
    let permitted : own_refusal d c sync_key bytes ≡ None = subst (λ (k : Key). own_refusal d c k bytes ≡ None) same w.permitted in
    let settings : HasSameSettings (written c sync_key bytes) e = subst (λ (k : Key). HasSameSettings (written c k bytes) e) same w.same in
    ap (sync_has (0x600 + d.node)) (sym (number_same (written c sync_key bytes) e sync_key settings (omega arith) (omega arith)))
    ∙ good_sync d.node c (unsigned_of bytes) node.0 node.1 (sync_permitted d c bytes permitted)
write_sync d c e key bytes false is node w apart =
    ap (sync_has (0x600 + d.node)) (number_kept c e key sync_key bytes w.same (omega arith) (omega arith) is) ∙ apart

write_emergency : (d : Description) (c e : Contents) (key : Key) (bytes : List ℕ) (here : Bool) → same_key key emergency_key ≡ here → IsNode d.node → IsWrite d c e key bytes → is_emergency_id c (0x580 + d.node) ≡ false → is_emergency_id e (0x580 + d.node) ≡ false
write_emergency d c e key bytes true is node w apart =
    let same : key ≡ emergency_key = same_key-is key emergency_key is in
    let permitted : own_refusal d c emergency_key bytes ≡ None = subst (λ (k : Key). own_refusal d c k bytes ≡ None) same w.permitted in
    let settings : HasSameSettings (written c emergency_key bytes) e = subst (λ (k : Key). HasSameSettings (written c k bytes) e) same w.same in
    ap (emergency_has (0x580 + d.node)) (sym (number_same (written c emergency_key bytes) e emergency_key settings (omega arith) (omega arith)))
    ∙ good_emergency d.node c (unsigned_of bytes) node.0 node.1 (emergency_permitted d c bytes permitted)
write_emergency d c e key bytes false is node w apart =
    ap (emergency_has (0x580 + d.node)) (number_kept c e key emergency_key bytes w.same (omega arith) (omega arith) is) ∙ apart

by_set : (d : Description) (set : Option Key) (c e : Contents) → IsNode d.node → MayBecome d set c e → AreApart d.node c → AreApart d.node e
by_set d None c e node may apart = same_settings d.node c e may apart
by_set d (Some key) c e node may apart = record {
  sync = write_sync d c e key may.0 (same_key key sync_key) refl node may.1 apart.sync;
  emergency = write_emergency d c e key may.0 (same_key key emergency_key) refl node may.1 apart.emergency;
}

by_service : (node : ℕ) (initial c : Contents) (service : Option NmtService) → AreApart node initial → AreApart node c → AreApart node (after_service initial service c)
by_service node initial c None begins apart = apart
by_service node initial c (Some Start) begins apart = apart
by_service node initial c (Some Stop) begins apart = apart
by_service node initial c (Some EnterPreOperational) begins apart = apart
by_service node initial c (Some ResetNode) begins apart = same_words node initial (after_service initial (Some ResetNode) c) refl refl begins
by_service node initial c (Some ResetCommunication) begins apart = same_words node initial (after_service initial (Some ResetCommunication) c) refl refl begins

-- ---- inputs that are no reset

of_either : (b : Bool) (x y : Moment) → is_reset x.mark ≡ false → is_reset y.mark ≡ false → is_reset (if b then x else y).mark ≡ false
of_either true x y p q = p
of_either false x y p q = q

abbrev is_command : Address → Bool
is_command Nmt = true
is_command address = false

no_reset : (k : Constants) (history : History) (address : Address) (frame : FrameContent) (input : InputView) (c : Contents) → is_command address ≡ false → is_reset (with_frame k history address frame (nothing_of input c)).mark ≡ false
no_reset k history Nmt frame input c off = absurd (cc)
no_reset k history Sync frame input c off = of_either (is_state Stopped (state_at history)) _ _ refl refl
no_reset k history (Channel j) frame input c off = of_either (is_state Stopped (state_at history)) _ _ refl (ap is_reset_by (written_command _))
no_reset k history (Rpdo n) frame input c off = of_either (is_state Operational (state_at history)) _ _ refl refl
no_reset k history (ErrorControl node) frame input c off = of_either (is_heartbeat (heartbeat_in frame.bytes)) _ _ refl refl
no_reset k history Nobody frame input c off = refl

no_reset_event : (d : Description) (event : AppView) (refusal : Option ℕ) (input : InputView) (c : Contents) → is_reset (with_app_event d event refusal (nothing_of input c)).mark ≡ false
no_reset_event d event (Some code) input c = refl
no_reset_event d (Written key bytes) None input c = refl
no_reset_event d (EventOn n) None input c = refl
no_reset_event d (ChangedAt key) None input c = refl
no_reset_event d (Raised code bits manufacturer) None input c = refl
no_reset_event d (Cleared bits) None input c = refl

-- ---- together

module _ (below : Below) where
  unreset : (k : Constants) (inputs : Inputs) (input : InputView) → IsNode k.description.node → is_reset (moment k (moments k inputs) input).mark ≡ false → AreApart k.description.node (contents_of k inputs)
      → AreApart k.description.node (contents_of k (input ∷ inputs))
  unreset k inputs input node off apart =
      by_set k.description (marked_key (moment k (moments k inputs) input).mark) (contents_of k inputs) (contents_of k (input ∷ inputs)) node
      (changed below k (moments k inputs) input off) apart

  other_frame : (k : Constants) (inputs : Inputs) (frame : FrameContent) (address : Address) → address_at k (moments k inputs) frame.id ≡ address → is_command address ≡ false → IsNode k.description.node → AreApart k.description.node (contents_of k inputs)
      → AreApart k.description.node (contents_of k (Framed frame ∷ inputs))
  other_frame k inputs frame address is off node apart =
      unreset k inputs (Framed frame) node
      (ap (λ a. is_reset (with_frame k (moments k inputs) a frame (nothing_of (Framed frame) (contents_of k inputs))).mark) is
      ∙ no_reset k (moments k inputs) address frame (Framed frame) (contents_of k inputs) off)
      apart

  at_frame : (k : Constants) (inputs : Inputs) (frame : FrameContent) (address : Address) → address_at k (moments k inputs) frame.id ≡ address → IsNode k.description.node → AreApart k.description.node k.description.initial → AreApart k.description.node (contents_of k inputs)
      → AreApart k.description.node (contents_of k (Framed frame ∷ inputs))
  at_frame k inputs frame Nmt is node begins apart =
      subst (AreApart k.description.node) (sym (by_address k inputs frame Nmt is))
      (by_service k.description.node k.description.initial (contents_of k inputs) (service_for k.description.node (nmt_command_in frame)) begins apart)
  at_frame k inputs frame Sync is node begins apart = other_frame k inputs frame Sync is refl node apart
  at_frame k inputs frame (Channel j) is node begins apart = other_frame k inputs frame (Channel j) is refl node apart
  at_frame k inputs frame (Rpdo n) is node begins apart = other_frame k inputs frame (Rpdo n) is refl node apart
  at_frame k inputs frame (ErrorControl n) is node begins apart = other_frame k inputs frame (ErrorControl n) is refl node apart
  at_frame k inputs frame Nobody is node begins apart = other_frame k inputs frame Nobody is refl node apart

  pub stays : (k : Constants) (inputs : Inputs) → BeginsApart k → AreApart k.description.node (contents_of k inputs)
  stays k [] begins = begins.start
  stays k (Framed frame ∷ inputs) begins =
      at_frame k inputs frame (address_at k (moments k inputs) frame.id) refl (begins.first_node, begins.last_node) begins.initial (stays k inputs begins)
  stays k (Ticked ∷ inputs) begins = unreset k inputs Ticked (begins.first_node, begins.last_node) refl (stays k inputs begins)
  stays k (Applied event ∷ inputs) begins =
      unreset k inputs (Applied event) (begins.first_node, begins.last_node)
      (no_reset_event k.description event (event_refusal k.description (contents_of k inputs) event) (Applied event) (contents_of k inputs))
      (stays k inputs begins)
