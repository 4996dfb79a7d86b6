-- Whose frames have which identifiers in a recording.
use Rattle.std.specs.Prelude.{◌≡◌, ℕ, ◌+◌, ◌≢◌, ◌<◌, ◌≤◌, true, false, List, [], ◌∷◌, length, map}
use Rattle.std.specs.List.{AllByRecursion}
use Rattle.co_value.specs.declared.key.Key.{Key}
use Rattle.co_frame.specs.FrameContent.{FrameContent}
use Rattle.co_frame.specs.SdoFields.{key_in}
use Rattle.co_profile.specs.Keys.{emergency_key}
use Rattle.co_dict.specs.CobIds.{identifier_of, is_valid}
use Rattle.co_dict.specs.Rows.{Contents, number_at}
use Rattle.co_sdo.specs.Events.{frames_at}
use Rattle.co_pdo.specs.Tpdos.{tpdo_key}
use Rattle.co_node_model.specs.Inputs.{InputView, Inputs, Framed, Ticked, Applied}
use Rattle.co_node_model.specs.Moments.{Constants, Moment, channels}
use Rattle.co_node_model.specs.Device.{moment, moments}
use Rattle.co_node_model.specs.Emergencies.{emergency_frames}
use Rattle.co_node_model.specs.Tpdos.{tpdo_frame}
use Rattle.conode_compare_nmt.specs.declared.limits.Subject.{Subject}
use Rattle.conode_compare_laws.specs.Recordings.{Recorded, Stamped}

-- ---- what comes to a device

-- an input is no frame with this identifier
abbrev pub IsElsewhere : ℕ → InputView → Type 0
IsElsewhere id (Framed frame) = frame.id ≢ id
IsElsewhere id Ticked = Unit {0}
IsElsewhere id (Applied event) = Unit {0}

-- no other node sends on this identifier
abbrev pub AreElsewhere : ℕ → List Stamped → Type 0
AreElsewhere id inputs = AllByRecursion (λ s. IsElsewhere id s.input) inputs

-- an input is no event of the application
abbrev pub IsNoEvent : InputView → Type 0
IsNoEvent (Framed frame) = Unit {0}
IsNoEvent Ticked = Unit {0}
IsNoEvent (Applied event) = ⊥

abbrev pub AreNoEvents : List Stamped → Type 0
AreNoEvents inputs = AllByRecursion (λ s. IsNoEvent s.input) inputs

-- a frame of a recording isn't one of the device's default SDO channel
abbrev pub IsNoSdo : ℕ → Recorded → Type 0
IsNoSdo node r = (r.frame.id ≢ 0x580 + node) × (r.frame.id ≢ 0x600 + node)

abbrev pub AreNoSdo : ℕ → List Recorded → Type 0
AreNoSdo node recorded = AllByRecursion (IsNoSdo node) recorded

-- a frame of a recording doesn't name an entry on the device's default SDO channel: it isn't one of
-- eight bytes with the identifier of the client's frames that has the key in bytes 1 to 3, where
-- initiate requests have their multiplexer (CiA 301, 7.2.4.3), whatever else it is
abbrev pub IsUnnamedAt : Key → ℕ → Recorded → Type 0
IsUnnamedAt key node r = r.frame.id ≡ 0x600 + node → length r.frame.bytes ≡ 8 → key_in r.frame.bytes ≢ key

abbrev pub IsUnnamed : Key → ℕ → List Recorded → Type 0
IsUnnamed key node recorded = AllByRecursion (IsUnnamedAt key node) recorded

-- ---- frames of the device

-- an identifier is neither that of NMT commands nor that of the device's error control (CiA 301,
-- 7.3.5: no COB-ID has one of these)
abbrev pub IsAside : ℕ → ℕ → Type 0
IsAside node id = (id ≢ 0) × (id ≢ 0x700 + node)

abbrev pub AreAside : ℕ → List FrameContent → Type 0
AreAside node frames = AllByRecursion (λ frame. IsAside node frame.id) frames

-- all that a device sends at an input, besides its boot-up and heartbeats
pub record SendsAside (k : Constants) (m : Moment) : Type 0 where
  pub answers : AreAside k.description.node (frames_at m.exchange)
  pub time_out : AreAside k.description.node (frames_at m.timed_out)
  pub emergency : AreAside k.description.node (emergency_frames m.contents m.emergency)
  pub tpdos : AreAside k.description.node (map (tpdo_frame k.description m.contents) m.due)

-- at each of these inputs, which come after those before
abbrev pub AllSendAside : Constants → Inputs → List Stamped → Type 0
AllSendAside k before [] = Unit {0}
AllSendAside k before (s ∷ later) = SendsAside k (moment k (moments k before) s.input) × AllSendAside k (s.input ∷ before) later

-- frames without this identifier
abbrev pub AreWithout : ℕ → List FrameContent → Type 0
AreWithout id frames = AllByRecursion (λ frame. frame.id ≢ id) frames

-- none of SDO and of TPDOs that a device sends at an input has this identifier
pub record SendsWithout (id : ℕ) (k : Constants) (m : Moment) : Type 0 where
  pub answers : AreWithout id (frames_at m.exchange)
  pub time_out : AreWithout id (frames_at m.timed_out)
  pub tpdos : AreWithout id (map (tpdo_frame k.description m.contents) m.due)

abbrev pub AllSendWithout : ℕ → Constants → Inputs → List Stamped → Type 0
AllSendWithout id k before [] = Unit {0}
AllSendWithout id k before (s ∷ later) = SendsWithout id k (moment k (moments k before) s.input) × AllSendWithout id k (s.input ∷ before) later

-- ---- what is known of a device

-- no EMCY is judged: by the data sheet 1014:00 may have another COB-ID, or a TPDO that of EMCY
pub record JudgesNone (subject : Subject) : Type 0 where
  pub before : subject.facts.before.emergencies ≡ false
  pub booted : subject.facts.booted.emergencies ≡ false

-- ---- a device that keeps to them

-- a COB-ID word isn't valid, or its identifier is none of these
abbrev pub IsAsideWord : ℕ → ℕ → Type 0
IsAsideWord node word = is_valid word ≡ true → IsAside node (identifier_of word)

-- 1014:00, and 1800:01 to 19FF:01
pub record HasAsideWords (node : ℕ) (contents : Contents) : Type 0 where
  pub emergency : IsAsideWord node (number_at contents emergency_key)
  pub tpdos : (n : ℕ) → n < 512 → IsAsideWord node (number_at contents (tpdo_key n 1))

-- a device with a node-ID up to 127 whose SDO channels answer elsewhere, and whose COB-IDs are so
-- when it is built, and as a reset restores them
pub record BeginsAside (k : Constants) : Type 0 where
  pub last_node : k.description.node ≤ 127
  pub channels : AllByRecursion (λ c. IsAside k.description.node c.response) (channels k)
  pub start : HasAsideWords k.description.node k.start
  pub initial : HasAsideWords k.description.node k.description.initial
