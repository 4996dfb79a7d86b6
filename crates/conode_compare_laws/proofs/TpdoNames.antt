-- A frame of the default SDO channel that asks for no parameter of a TPDO changes nothing of what compare has of TPDOs, or ends it.
use Rattle.std.proofs.Common.{◌≡◌, ℕ, ◌+◌, ◌*◌, Bool, true, false, List, [], ◌∷◌, length, Option, Some, None, refl, sym, ap, ◌∙◌, subst, arith}
use Rattle.std.specs.Prelude.{if◌then◌else◌, ◌==◌, ◌&&◌, nat_le, IfSome}
use Rattle.std.specs.List.{AllByRecursion}
use Rattle.std.proofs.lemmas.Bool.{eqb-true, or_parts}
use Rattle.co_value.specs.declared.key.Key.{Key}
use Rattle.co_value.specs.Keys.{same_key}
use Rattle.co_frame.specs.FrameContent.{FrameContent}
use Rattle.co_frame.specs.SdoFields.{key_in}
use Rattle.co_profile.specs.Keys.{sync_key}
use Rattle.conode_explain_transfers.specs.declared.ended.Ended.{Ended}
use Rattle.conode_explain_transfers.specs.declared.kinds.Side.{Side}
use Rattle.conode_explain_transfers.specs.declared.kinds.Side.TheVariants.{Client, Server}
use Rattle.conode_explain_transfers.specs.declared.kinds.What.{What}
use Rattle.conode_explain_transfers.specs.declared.kinds.What.TheVariants as what
use Rattle.conode_explain_transfers.specs.Followed.{followed}
use Rattle.conode_compare_pdos.specs.declared.pdos.Pdos.{Pdos}
use Rattle.conode_compare_pdos.specs.Followed.{requested, transferred, unknown_pdos}
use Rattle.conode_compare_nmt.specs.declared.limits.Subject.{Subject}
use Rattle.conode_compare_rules.specs.declared.progress.Progress.{Progress}
use Rattle.conode_compare_nmt.specs.OtherClients.{is_channel}
use Rattle.conode_compare_rules.specs.Channels.{after_sdo, channel_heard, exchange_at, exchange_noted, hides_end, leaves_unknown_at, pdos_asked, pdos_beside, pdos_by, pdos_ended, pdos_heard, shown_beside}
use Rattle.conode_compare_transfers.specs.declared.dialogue.Asked.{Asked}
use Rattle.conode_compare_transfers.specs.Breaches as breaches
use Rattle.conode_compare_transfers.specs.Dialogues.{asked_after, asks_to_write, dialogue_heard, is_initiate}
use Rattle.conode_compare_laws.specs.Identifiers.{AreNoSdo}
use Rattle.conode_compare_laws.specs.NamedTpdos.{AreNoSdoSyncs, NameNoTpdos, NamesNoTpdo, NamesNone, is_tpdo_communication, is_tpdo_mapping_or_sync}
use Rattle.conode_compare_laws.specs.Recordings.{Recorded, stamped}
use Rattle.conode_compare_laws.proofs.NamedKeys.{IsOpenOn, beside_such, NamesBy, Names, ended_such, initiated}

-- ---- which frames these are

abbrev pub AllNameNone : ℕ → List FrameContent → Type 0
AllNameNone node frames = AllByRecursion (NamesNoTpdo node) frames

pub unstamped_names : (node micros : ℕ) (frames : List FrameContent) → NameNoTpdos node (stamped micros frames) → AllNameNone node frames
unstamped_names node micros [] h = tt
unstamped_names node micros (frame ∷ frames) h = (h.0, unstamped_names node micros frames h.1)

-- without SDO on the default channel no entry is named
pub no_tpdo_named : (node : ℕ) (recorded : List Recorded) → AreNoSdo node recorded → NameNoTpdos node recorded
no_tpdo_named node [] h = tt
no_tpdo_named node (r ∷ later) h = (λ id eight. absurd (h.0.1 id), no_tpdo_named node later h.1)

-- nor is a SYNC one of it
pub no_sdo_sync : (pdos : Pdos) (node : ℕ) (recorded : List Recorded) → AreNoSdo node recorded → AreNoSdoSyncs pdos node recorded
no_sdo_sync pdos node [] h = tt
no_sdo_sync pdos node (r ∷ later) h = (λ on. h.0, no_sdo_sync pdos node later h.1)

-- no communication parameter of a TPDO that is followed
abbrev pub IsApart : Key → Type 0
IsApart key = is_tpdo_communication key ≡ false

-- a frame by an end
abbrev pub NamesNoneBy : Side → FrameContent → Type 0
NamesNoneBy Client frame = length frame.bytes ≡ 8 → NamesNone frame
NamesNoneBy Server frame = Unit {0}

pub names_apart : (node : ℕ) (frame : FrameContent) → NamesNoTpdo node frame → Names IsApart node frame
names_apart node frame n = λ id eight. (n id eight).communication

apart_by : (side : Side) (frame : FrameContent) → NamesNoneBy side frame → NamesBy IsApart side frame.bytes
apart_by Client frame n = λ eight. (n eight).communication
apart_by Server frame n = tt

-- ---- an index that isn't among some

off : (among : ℕ → Bool) (index one : ℕ) → among index ≡ false → among one ≡ true → (index == one) ≡ false
off among index one a b = by (index == one) refl
  where
    by : (x : Bool) → (index == one) ≡ x → x ≡ false
    by true e = absurd (let on : among index ≡ true = ap among (eqb-true index one e) ∙ b in cc)
    by false e = refl

abbrev is_communication : ℕ → Bool
is_communication index = nat_le 0x1800 index && nat_le index 0x1803

abbrev is_mapping : ℕ → Bool
is_mapping index = nat_le 0x1A00 index && nat_le index 0x1A03

-- ---- a transfer that ends, and a request

ended_same : (pdos : Pdos) (o : Option Ended) (micros : ℕ) → IfSome o (λ e. IsApart e.key) → pdos_ended pdos o micros ≡ pdos
unfolding transferred
ended_same pdos None micros h = refl
ended_same pdos (Some e) micros h =
    rw (
      off is_communication e.key.index 0x1800 h refl,
      off is_communication e.key.index 0x1801 h refl,
      off is_communication e.key.index 0x1802 h refl,
      off is_communication e.key.index 0x1803 h refl,
    ) refl

-- what a download leaves unknown is none of it either
beside_same : (unknown : Bool) (o : Option Ended) (pdos : Pdos) → IfSome o (λ e. IsApart e.key) → pdos_beside unknown o pdos ≡ pdos
beside_same false o pdos h = refl
beside_same true None pdos h = refl
beside_same true (Some e) pdos h = rw h refl

requested_same : (pdos : Pdos) (key : Key) (micros : ℕ) → IsApart key → is_tpdo_mapping_or_sync key ≡ false → requested pdos key micros ≡ pdos
unfolding requested
requested_same pdos key micros h g =
    let parts = or_parts (same_key key sync_key) (is_mapping key.index) g in
    rw (
      parts.0,
      off is_communication key.index 0x1800 h refl,
      off is_communication key.index 0x1801 h refl,
      off is_communication key.index 0x1802 h refl,
      off is_communication key.index 0x1803 h refl,
      off is_mapping key.index 0x1A00 parts.1 refl,
      off is_mapping key.index 0x1A01 parts.1 refl,
      off is_mapping key.index 0x1A02 parts.1 refl,
      off is_mapping key.index 0x1A03 parts.1 refl,
    ) refl

-- a request to write names none of these entries
record WritesNone (asked : Asked) : Type 0 where
  communication : IsApart asked.key
  written : asked.writes ≡ true → is_tpdo_mapping_or_sync asked.key ≡ false

-- what is known of TPDOs stays, or is unknown after a request to write the parameters of another SDO channel
asked_kept : (I : Pdos → Type 0) (pdos : Pdos) (o : Option Asked) (micros : ℕ) → I unknown_pdos → IfSome o WritesNone → I pdos → I (pdos_asked pdos o micros)
asked_kept I pdos None micros unknown h g = g
asked_kept I pdos (Some asked) micros unknown h g = by asked.writes (is_channel asked.key) h.written
  where
    by : (b c : Bool) → (b ≡ true → is_tpdo_mapping_or_sync asked.key ≡ false) → I (if b then (if c then unknown_pdos else requested pdos asked.key micros) else pdos)
    by true true w = unknown
    by true false w = subst I (sym (requested_same pdos asked.key micros h.communication (w refl))) g
    by false c w = g

-- ---- the request that is awaited after a frame: its entry is that which the frame names

pub key_is : (frame : FrameContent) → length frame.bytes ≡ 8 → key_in frame.bytes ≡ breaches.key_in frame
key_is frame eight = by frame.bytes eight
  where
    two : (b c : ℕ) → b + 256 * (c + 256 * 0) ≡ b + c * 256
    two b c = omega arith

    by : (bytes : List ℕ) → length bytes ≡ 8 → key_in bytes ≡ breaches.key_in (record { id = frame.id; bytes = bytes })
    by [] e = absurd (let no : 0 ≡ 8 = e in omega arith)
    by (a ∷ []) e = absurd (let no : 1 ≡ 8 = e in omega arith)
    by (a ∷ b ∷ []) e = absurd (let no : 2 ≡ 8 = e in omega arith)
    by (a ∷ b ∷ c ∷ rest) e = ap (λ i. record { index = i; sub = (key_in (a ∷ b ∷ c ∷ rest)).sub }) (two b c)

asked_none : (w : What) (micros : ℕ) (frame : FrameContent) → (is_initiate w ≡ true → (length frame.bytes ≡ 8) × NamesNone frame) → IfSome (asked_after w micros frame) WritesNone
asked_none what.Initiate micros frame h =
    let n : (length frame.bytes ≡ 8) × NamesNone frame = h refl in
    let same : key_in frame.bytes ≡ breaches.key_in frame = key_is frame n.0 in
    record {
      communication = subst IsApart same n.1.communication;
      written = λ on. subst (λ key. is_tpdo_mapping_or_sync key ≡ false) same (n.1.written on);
    }
asked_none _ micros frame h = tt

-- with its length
long_by : (side : Side) (frame : FrameContent) → NamesNoneBy side frame → NamesBy (λ key. (length frame.bytes ≡ 8) × NamesNone frame) side frame.bytes
long_by Client frame n = λ eight. (eight, n eight)
long_by Server frame n = tt

asked_heard : (subject : Subject) (p : Progress) (micros : ℕ) (side : Side) (frame : FrameContent) → NamesNoneBy side frame
    → IfSome (dialogue_heard subject.limits.answer p.started p.dialogue micros side frame).asked WritesNone
unfolding dialogue_heard
asked_heard subject p micros side frame n =
    asked_none (followed p.dialogue.channel micros side frame.bytes).says.what micros frame
    (initiated ((length frame.bytes ≡ 8) × NamesNone frame) p.dialogue.channel micros side frame.bytes (long_by side frame n))

-- ---- a frame of the channel

-- whatever the frame is in the transfers of the channel
by_kept : (I : Pdos → Type 0) (side : Side) (frame : FrameContent) (pdos : Pdos) (micros : ℕ) → I unknown_pdos → NamesNoneBy side frame → I pdos → I (pdos_by side frame pdos micros)
by_kept I Server frame pdos micros unknown n h = h
by_kept I Client frame pdos micros unknown n h = by (length frame.bytes == 8) (asks_to_write frame) (is_channel (breaches.key_in frame)) refl refl
  where
    by : (a b c : Bool) → (length frame.bytes == 8) ≡ a → asks_to_write frame ≡ b → I (if a && b then (if c then unknown_pdos else requested pdos (breaches.key_in frame) micros) else pdos)
    by true true true eight asks = unknown
    by true true false eight asks =
        let full : length frame.bytes ≡ 8 = eqb-true (length frame.bytes) 8 eight in
        let none : NamesNone frame = n full in
        let same : key_in frame.bytes ≡ breaches.key_in frame = key_is frame full in
        subst I
        (sym (requested_same pdos (breaches.key_in frame) micros (subst IsApart same none.communication) (subst (λ key. is_tpdo_mapping_or_sync key ≡ false) same (none.written asks)))) h
    by true false c eight asks = h
    by false b c eight asks = h

pub heard_kept : (I : Pdos → Type 0) (subject : Subject) (p : Progress) (micros : ℕ) (side : Side) (frame : FrameContent) → I unknown_pdos → NamesNoneBy side frame → IsOpenOn IsApart p → I p.pdos
    → I (after_sdo subject p micros side frame).pdos
unfolding channel_heard exchange_noted
heard_kept I subject p micros side frame unknown n opened h =
    let e : Option Ended = (exchange_at subject p micros side frame).heard.ended in
    let ended : Option Ended = shown_beside (hides_end subject p micros e) e in
    let beside : Pdos = pdos_beside (leaves_unknown_at subject p micros e) e p.pdos in
    let apart : IfSome e (λ e. IsApart e.key) = ended_such IsApart subject p micros side frame (apart_by side frame n) opened in
    let asked : Option Asked = (dialogue_heard subject.limits.answer p.started p.dialogue micros side frame).asked in
    by_kept I side frame (pdos_heard beside ended asked micros) micros unknown n
    (asked_kept I (pdos_ended beside ended micros) asked micros unknown (asked_heard subject p micros side frame n)
    (subst I (sym (ended_same beside ended micros (beside_such (λ e. IsApart e.key) (hides_end subject p micros e) e apart) ∙ beside_same (leaves_unknown_at subject p micros e) e p.pdos apart)) h))
