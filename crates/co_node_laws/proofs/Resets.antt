-- What an NMT command leaves: a reset to this node, and everything else.
use Rattle.std.proofs.Common.{◌≡◌, ℕ, ◌<◌, Bool, true, false, cond, [], ◌∷◌, Option, Some, None, refl, ap, ◌∙◌, arith}
use Rattle.std.specs.Prelude.{nat_lt}
use Rattle.std.proofs.lemmas.Bool.Decides.{nat_tests}
use Rattle.co_frame.specs.FrameContent.{FrameContent}
use Rattle.co_frame.specs.Nmt.{nmt_command_in, nmt_command_bytes}
use Rattle.co_frame.specs.declared.nmt.NmtService.{NmtService}
use Rattle.co_frame.specs.declared.nmt.NmtService.TheVariants.{Start, Stop, EnterPreOperational, ResetNode, ResetCommunication}
use Rattle.co_frame.specs.declared.heartbeat.Heartbeat.TheVariants.{BootUp}
use Rattle.co_dict.specs.declared.area.Area.{Area}
use Rattle.co_dict.specs.declared.area.Area.TheVariants.{Communication, All}
use Rattle.co_dict.specs.Rows.{Contents, restored}
use Rattle.co_node_parts.specs.declared.nmt_state.NodeState.TheVariants.{PreOperational}
use Rattle.co_node_parts.specs.declared.emergencies.EmergencyEvent.TheVariants.{Empty}
use Rattle.co_node_parts.specs.EmergencyQueues.{EmergencyLog, Noted, emergency_due}
use Rattle.co_node_model.specs.Inputs.{InputView, Inputs, Framed}
use Rattle.co_node_model.specs.Nmt.{is_reset_by, state_at, service_for, after_service, with_service}
use Rattle.co_node_model.specs.declared.address.Address.TheVariants.{Nmt}
use Rattle.co_node_model.specs.Moments.{Constants, Moment, History, nothing_of}
use Rattle.co_node_model.specs.Heartbeats.{boot_up, with_losses, with_life}
use Rattle.co_node_model.specs.Emergencies.{emergency_log, with_emergency}
use Rattle.co_node_model.specs.Addresses.{address_at}
use Rattle.co_node_model.specs.Rpdos.{with_pdos}
use Rattle.co_node_model.specs.Tpdos.{with_tpdos}
use Rattle.co_node_model.specs.Device.{frames, moments, contents_of, state_of, prescribed}
use Rattle.co_node_laws.specs.Changes.{is_for, reset_service, reset_to}
use Rattle.co_node_laws.proofs.Changed.{by_address}

-- ---- a command that is no reset

same_after : (initial c : Contents) (service : Option NmtService) → is_reset_by service ≡ false → after_service initial service c ≡ c
same_after initial c None off = refl
same_after initial c (Some Start) off = refl
same_after initial c (Some Stop) off = refl
same_after initial c (Some EnterPreOperational) off = refl
same_after initial c (Some ResetNode) off = absurd (cc)
same_after initial c (Some ResetCommunication) off = absurd (cc)

nmt_at : (k : Constants) (history : History) (id : ℕ) → id ≡ 0 → address_at k history id ≡ Nmt
nmt_at k history id e = rw e refl

pub no_reset : (k : Constants) (inputs : Inputs) (frame : FrameContent) → frame.id ≡ 0 → is_reset_by (service_for k.description.node (nmt_command_in frame)) ≡ false
    → contents_of k (Framed frame ∷ inputs) ≡ contents_of k inputs
no_reset k inputs frame id off =
    by_address k inputs frame Nmt (nmt_at k (moments k inputs) frame.id id)
    ∙ same_after k.description.initial (contents_of k inputs) (service_for k.description.node (nmt_command_in frame)) off

-- ---- a reset

-- the frame of a reset
abbrev reset_frame : ℕ → Area → FrameContent
reset_frame node area = record { id = 0; bytes = nmt_command_bytes (record { service = reset_service area; node = node }) }

-- what the frame of a reset says, by whether its node-ID can be one
said : (small : Bool) (node : ℕ) (area : Area) → nat_lt node 128 ≡ small
    → nmt_command_in (reset_frame node area) ≡ cond small (Some (record { service = reset_service area; node = node })) None
said true node All e = rw e refl
said true node Communication e = rw e refl
said false node All e = rw e refl
said false node Communication e = rw e refl

service_if : (k : Constants) (node : ℕ) (service : NmtService) (here : Bool) → is_for k node ≡ here → service_for k.description.node (Some (record { service = service; node = node })) ≡ cond here (Some service) None
service_if k node service here e = ap (λ b. cond b (Some service) None) e

reset_for : (k : Constants) (node : ℕ) (area : Area) → node < 128 → is_for k node ≡ true → service_for k.description.node (nmt_command_in (reset_frame node area)) ≡ Some (reset_service area)
reset_for k node area small here =
    let is_small : nat_lt node 128 ≡ true = grind (arith, nat_tests) in
    ap (λ command. service_for k.description.node command) (said true node area is_small) ∙ service_if k node (reset_service area) true here

not_reset : (k : Constants) (node : ℕ) (area : Area) (small : Bool) → nat_lt node 128 ≡ small → is_for k node ≡ false → service_for k.description.node (nmt_command_in (reset_frame node area)) ≡ None
not_reset k node area true e off = ap (λ command. service_for k.description.node command) (said true node area e) ∙ service_if k node (reset_service area) false off
not_reset k node area false e off = ap (λ command. service_for k.description.node command) (said false node area e)

pub another : (k : Constants) (inputs : Inputs) (node : ℕ) (area : Area) → is_for k node ≡ false → contents_of k (reset_to node area ∷ inputs) ≡ contents_of k inputs
another k inputs node area off = no_reset k inputs (reset_frame node area) refl (ap is_reset_by (not_reset k node area (nat_lt node 128) refl off))

after_reset : (initial c : Contents) (area : Area) → after_service initial (Some (reset_service area)) c ≡ restored area initial c
after_reset initial c All = refl
after_reset initial c Communication = refl

pub area_restored : (k : Constants) (inputs : Inputs) (node : ℕ) (area : Area) → node < 128 → is_for k node ≡ true
    → contents_of k (reset_to node area ∷ inputs) ≡ restored area k.description.initial (contents_of k inputs)
area_restored k inputs node area small here =
    by_address k inputs (reset_frame node area) Nmt refl
    ∙ ap (λ service. after_service k.description.initial service (contents_of k inputs)) (reset_for k node area small here)
    ∙ after_reset k.description.initial (contents_of k inputs) area

-- the moment of a command with a service
abbrev commanded : Constants → History → InputView → Contents → Option NmtService → Moment
commanded k history input c service =
    with_tpdos k history (with_life k history (with_emergency history (with_pdos k history (with_losses k history (with_service k.description.initial service (nothing_of input c))))))

state_after_reset : (k : Constants) (history : History) (input : InputView) (c : Contents) (area : Area) → state_at (commanded k history input c (Some (reset_service area)) ∷ history) ≡ PreOperational
state_after_reset k history input c All = refl
state_after_reset k history input c Communication = refl

pub pre_operational : (k : Constants) (inputs : Inputs) (node : ℕ) (area : Area) → node < 128 → is_for k node ≡ true → state_of k (reset_to node area ∷ inputs) ≡ PreOperational
pre_operational k inputs node area small here =
    let h = moments k inputs in
    let c = contents_of k inputs in
    ap (λ service. state_at (commanded k h (reset_to node area) c service ∷ h)) (reset_for k node area small here)
    ∙ state_after_reset k h (reset_to node area) c area

-- after a reset no emergency is due
nothing_due : (may : Bool) (log : EmergencyLog) → emergency_due may (Noted Empty ∷ log) ≡ None
nothing_due true log = refl
nothing_due false log = refl

-- a moment whose only frame is a boot-up
alone : (k : Constants) (m : Moment) → m.exchange ≡ None → m.timed_out ≡ None → m.emergency ≡ None → m.life ≡ Some BootUp → m.due ≡ [] → frames k m ≡ boot_up k ∷ []
alone k m exchange timed_out emergency life due = rw (exchange, timed_out, emergency, life, due) refl

reset_alone : (k : Constants) (history : History) (input : InputView) (c : Contents) (area : Area) → frames k (commanded k history input c (Some (reset_service area))) ≡ boot_up k ∷ []
reset_alone k history input c All = alone k (commanded k history input c (Some ResetNode)) refl refl (nothing_due _ (emergency_log history)) refl refl
reset_alone k history input c Communication = alone k (commanded k history input c (Some ResetCommunication)) refl refl (nothing_due _ (emergency_log history)) refl refl

pub boot_up_alone : (k : Constants) (inputs : Inputs) (node : ℕ) (area : Area) → node < 128 → is_for k node ≡ true → prescribed k inputs (reset_to node area) ≡ boot_up k ∷ []
boot_up_alone k inputs node area small here =
    let h = moments k inputs in
    let c = contents_of k inputs in
    ap (λ service. frames k (commanded k h (reset_to node area) c service)) (reset_for k node area small here)
    ∙ reset_alone k h (reset_to node area) c area
