-- Where none of them is written, the parameters of TPDOs stay as the device was built with: a reset restores them.
use Rattle.std.proofs.Common.{◌≡◌, ◌≤◌, Bool, true, false, List, [], ◌∷◌, Option, Some, None, refl, ap, sym, ◌∙◌, subst, arith}
use Rattle.std.specs.Prelude.{if◌then◌else◌, ◌==◌}
use Rattle.std.proofs.lemmas.Bool.Decides.{nat_tests}
use Rattle.co_value.specs.declared.key.Key.{Key}
use Rattle.co_value.specs.Keys.{same_key, same_key-is}
use Rattle.co_frame.specs.FrameContent.{FrameContent}
use Rattle.co_frame.specs.Nmt.{nmt_command_in}
use Rattle.co_frame.specs.declared.nmt.NmtService.{NmtService}
use Rattle.co_frame.specs.declared.nmt.NmtService.TheVariants.{Start, Stop, EnterPreOperational, ResetNode, ResetCommunication}
use Rattle.co_profile.specs.Indices.{communication_profile, is_within}
use Rattle.co_dict.specs.Rows.{Contents}
use Rattle.co_dict.specs.Stores.{Description}
use Rattle.co_dict_build.specs.Built.{Plan, built_contents, built_description}
use Rattle.co_dict_build.proofs.Plans.{begins_initially}
use Rattle.co_node.specs.Built.{IsBuilt}
use Rattle.co_node_model.specs.declared.address.Address.TheVariants.{Nmt}
use Rattle.co_node_model.specs.Addresses.{address_at}
use Rattle.co_node_model.specs.Device.{contents_of, moment, moments}
use Rattle.co_node_model.specs.Inputs.{Applied, Framed, Inputs, InputView, Ticked}
use Rattle.co_node_model.specs.Marks.{marked_key}
use Rattle.co_node_model.specs.Moments.{Constants}
use Rattle.co_node_model.specs.Nmt.{after_service, is_reset_by, service_for}
use Rattle.co_node_laws.proofs.Below.{Below}
use Rattle.co_node_laws.proofs.Changed.{by_address}
use Rattle.co_node_laws.proofs.Received.{MayBecome, changed}
use Rattle.co_node_laws.proofs.SameSettings.{written_other}
use Rattle.conode_compare_laws.specs.Recordings.{Stamped}
use Rattle.conode_compare_laws.specs.TpdoParameters.{AllKeepTpdos, AllWriteNone, is_tpdo_parameter, is_tpdo_set}
use Rattle.conode_compare_laws.proofs.Inputs.{command_in, command_is}

-- the parameters are those that the device was built with
abbrev pub AreBuilt : Constants → Contents → Type 0
AreBuilt k c = (key : Key) → is_tpdo_parameter key ≡ true → c key ≡ k.start key

-- a device that is built begins with what a reset restores
pub begins_as_built : (plan : Plan) (k : Constants) → IsBuilt plan k → (key : Key) → k.description.initial key ≡ k.start key
begins_as_built plan k built key =
    ap (λ (d : Description). d.initial key) built.description ∙ sym (begins_initially plan (built_description plan) (built_contents plan) refl refl key) ∙ ap (λ (c : Contents). c key) (sym built.start)

from_1005 : (key : Key) → is_tpdo_parameter key ≡ true → 0x1005 ≤ key.index
from_1005 key is = grind (arith, nat_tests)

to_1BFF : (key : Key) → is_tpdo_parameter key ≡ true → key.index ≤ 0x1BFF
to_1BFF key is = grind (arith, nat_tests)

in_profile : (key : Key) → is_tpdo_parameter key ≡ true → is_within communication_profile key.index ≡ true
in_profile key is = grind (arith, nat_tests)

apart : (set key : Key) (same : Bool) → same_key set key ≡ same → is_tpdo_parameter set ≡ false → is_tpdo_parameter key ≡ true → same ≡ false
apart set key false is off on = refl
apart set key true is off on = absurd (let no : is_tpdo_parameter key ≡ false = ap is_tpdo_parameter (sym (same_key-is set key is)) ∙ off in cc)

by_set : (d : Description) (set : Option Key) (c e : Contents) → MayBecome d set c e → is_tpdo_set set ≡ false → (key : Key) → is_tpdo_parameter key ≡ true → c key ≡ e key
by_set d None c e may off key on =
    let low : 0x1005 ≤ key.index = from_1005 key on in
    let high : key.index ≤ 0x1BFF = to_1BFF key on in
    may.same key (omega arith) (omega arith)
by_set d (Some set) c e may off key on =
    let low : 0x1005 ≤ key.index = from_1005 key on in
    let high : key.index ≤ 0x1BFF = to_1BFF key on in
    sym (written_other c set key may.0 (apart set key (same_key set key) refl off on)) ∙ may.1.same.same key (omega arith) (omega arith)

by_service : (k : Constants) (service : Option NmtService) (c : Contents) → AreBuilt k k.description.initial → AreBuilt k c → AreBuilt k (after_service k.description.initial service c)
by_service k None c initial h = h
by_service k (Some Start) c initial h = h
by_service k (Some Stop) c initial h = h
by_service k (Some EnterPreOperational) c initial h = h
by_service k (Some ResetNode) c initial h = λ key on. initial key on
by_service k (Some ResetCommunication) c initial h = λ key on.
    ap (λ b. if b then k.description.initial key else c key) (in_profile key on) ∙ initial key on

module _ (below : Below) where
  unreset : (k : Constants) (before : Inputs) (input : InputView) → is_reset_by (command_in k.description.node input) ≡ false → is_tpdo_set (marked_key (moment k (moments k before) input).mark) ≡ false → AreBuilt k (contents_of k before)
      → AreBuilt k (contents_of k (input ∷ before))
  unreset k before input off unset h = λ key on.
      sym (by_set k.description (marked_key (moment k (moments k before) input).mark) (contents_of k before) (contents_of k (input ∷ before))
      (changed below k (moments k before) input (ap is_reset_by (command_is k (moments k before) input) ∙ off)) unset key on)
      ∙ h key on

  at_frame : (k : Constants) (before : Inputs) (frame : FrameContent) (b : Bool) → (frame.id == 0) ≡ b → AreBuilt k k.description.initial → is_tpdo_set (marked_key (moment k (moments k before) (Framed frame)).mark) ≡ false
      → AreBuilt k (contents_of k before) → AreBuilt k (contents_of k (Framed frame ∷ before))
  at_frame k before frame true is initial unset h =
      let nmt : address_at k (moments k before) frame.id ≡ Nmt = rw is refl in
      subst (AreBuilt k) (sym (by_address k before frame Nmt nmt)) (by_service k (service_for k.description.node (nmt_command_in frame)) (contents_of k before) initial h)
  at_frame k before frame false is initial unset h =
      unreset k before (Framed frame) (ap (λ b. is_reset_by (if b then service_for k.description.node (nmt_command_in frame) else None)) is) unset h

  next : (k : Constants) (before : Inputs) (input : InputView) → AreBuilt k k.description.initial → is_tpdo_set (marked_key (moment k (moments k before) input).mark) ≡ false → AreBuilt k (contents_of k before) → AreBuilt k (contents_of k (input ∷ before))
  next k before (Framed frame) initial unset h = at_frame k before frame (frame.id == 0) refl initial unset h
  next k before Ticked initial unset h = unreset k before Ticked refl unset h
  next k before (Applied event) initial unset h = unreset k before (Applied event) refl unset h

  pub all_keep : (k : Constants) (inputs : List Stamped) (before : Inputs) → AreBuilt k k.description.initial → AllWriteNone k before inputs → AreBuilt k (contents_of k before) → AllKeepTpdos k before inputs
  all_keep k [] before initial unset h = tt
  all_keep k (s ∷ later) before initial unset h =
      let kept : AreBuilt k (contents_of k (s.input ∷ before)) = next k before s.input initial unset.0 h in
      (record { unwritten = unset.0; same = kept }, all_keep k later (s.input ∷ before) initial unset.1 kept)
