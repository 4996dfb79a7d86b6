-- Frames that aren't TPDOs, and what compare has of TPDOs after them: each law has its own say of that (`IsKept`).
use Rattle.std.proofs.Common.{◌≡◌, ◌≢◌, ℕ, ◌+◌, ◌-◌, ◌≤◌, Bool, true, false, List, [], ◌∷◌, length, Option, Some, None, refl, sym, ap, ◌∙◌, subst, arith, ◌⊎◌, inl, inr}
use Rattle.std.specs.Prelude.{if◌then◌else◌, ◌==◌, nat_lt, is_some, option_map, IfSome}
use Rattle.std.specs.List.{AllByRecursion}
use Rattle.std.proofs.lemmas.Bool.{eqb-true, ltb-false, ne_eqb, or_parts}
use Rattle.co_frame.specs.FrameContent.{FrameContent}
use Rattle.co_frame.specs.Emergencies.{emergency_in}
use Rattle.co_frame.specs.Heartbeats.{heartbeat_bytes, state_byte}
use Rattle.co_frame.specs.Nmt.{nmt_command_in}
use Rattle.co_frame.specs.declared.emergency.Emergency.{Emergency}
use Rattle.co_frame.specs.declared.heartbeat.Heartbeat.TheVariants.{BootUp}
use Rattle.co_frame.specs.declared.nmt.NmtCommand.{NmtCommand}
use Rattle.co_frame.specs.declared.nmt.NmtService.{NmtService}
use Rattle.co_frame.specs.declared.nmt.NmtService.TheVariants.{Start, Stop, EnterPreOperational, ResetNode, ResetCommunication}
use Rattle.co_sheet.specs.Content.{Row}
use Rattle.co_node_model.specs.Heartbeats.{life_frames}
use Rattle.co_node_parts.specs.NmtStates.{heartbeat_of}
use Rattle.co_node_parts.specs.declared.nmt_state.NodeState.{NodeState}
use Rattle.co_node_parts.specs.declared.nmt_state.NodeState.TheVariants as node
use Rattle.conode_explain_transfers.specs.declared.kinds.Side.{Side}
use Rattle.conode_explain_transfers.specs.declared.kinds.Side.TheVariants.{Client, Server}
use Rattle.conode_compare_pdos.specs.declared.deviation.Deviation.{Deviation}
use Rattle.conode_compare_pdos.specs.declared.deviation.Moment.{Moment}
use Rattle.conode_compare_pdos.specs.declared.pdos.Pdos.{Pdos}
use Rattle.conode_compare_pdos.specs.declared.pdos.Sighting.{Sighting}
use Rattle.conode_compare_pdos.specs.declared.tpdo.Tpdo.{Tpdo}
use Rattle.conode_compare_pdos.specs.Cycles.{cycle_sent}
use Rattle.conode_compare_pdos.specs.Deviations.{deviation_at, is_certain, is_judged, shows_length}
use Rattle.conode_compare_pdos.specs.Followed.{commanded, first_seen, framed, interrupted, is_shared, or_else, seen, sighting, unjudged, unknown_pdos}
use Rattle.conode_compare_pdos.specs.PdoParameters.{nothing_known}
use Rattle.conode_compare_pdos.specs.Tpdos.{after_frame as after_tpdo, is_id}
use Rattle.conode_compare_nmt.specs.declared.finding.Finding.{Finding}
use Rattle.conode_compare_nmt.specs.declared.finding.Finding.TheVariants.{Pdo}
use Rattle.conode_compare_rules.specs.declared.kind.FrameKind.{FrameKind}
use Rattle.conode_compare_rules.specs.declared.kind.FrameKind.TheVariants.{Command, CommandToAll, LongCommand, Control, Emergency as Emcy, OddEmergency, Other, Process, Sdo}
use Rattle.conode_compare_nmt.specs.declared.limits.Limits.{Limits}
use Rattle.conode_compare_nmt.specs.declared.limits.Subject.{Subject}
use Rattle.conode_compare_rules.specs.declared.progress.Progress.{Progress}
use Rattle.conode_compare_rules.specs.FrameKinds.{command_kind, command_to, control_kind, data_kind, emergency_kind, emergency_with, length_of, long_command_in}
use Rattle.conode_compare_nmt.specs.Heartbeats.{follows_closely, is_gap}
use Rattle.conode_compare_rules.specs.NmtFrames as nmt_frames
use Rattle.conode_compare_rules.specs.Gaps.{anew_after, begins_anew, begun, free_at, was_quiet, with_gap}
use Rattle.conode_compare_rules.specs.NmtFrames.{after_command, booted, booted_pdos, is_overdue, may_differ}
use Rattle.conode_compare_rules.specs.EmergencyRules.{after_emergency}
use Rattle.conode_compare_rules.specs.Channels.{after_sdo, answer_noted, channel_heard, exchange_noted, late_noted}
use Rattle.conode_compare_rules.specs.Processes.{after_process, late_by_tpdo, moment_at, process_findings, sighting_findings, is_of_client, sighted, unless_overdue}
use Rattle.conode_compare_rules.specs.Progresses.{after_frame, findings_at, findings_in, progress_with}
use Rattle.conode_compare_rules.specs.Verdicts.{found}
use Rattle.conode_compare_laws.specs.TpdoDifferences.{of_kind, tpdo_differences}
use Rattle.conode_compare_laws.specs.TpdoFrames.{is_followed}
use Rattle.conode_compare_laws.specs.NamedTpdos.{NamesNoTpdo}
use Rattle.conode_compare_laws.proofs.LongCommands.{long_such}
use Rattle.conode_compare_laws.proofs.Frames.{life_kind}
use Rattle.conode_compare_laws.proofs.NamedKeys.{IsOpenOn, begun_open, noted_open, stays_open}
use Rattle.conode_compare_laws.proofs.Runs.{AllRun}
use Rattle.conode_compare_laws.proofs.TpdoNames.{IsApart, NamesNoneBy, heard_kept, names_apart}

-- ---- what compare has of TPDOs

-- a TPDO has the parameters of the data sheet, or nothing of it is known
abbrev pub IsOf : Tpdo → Tpdo → Type 0
IsOf sheet pdo = (pdo.parameters ≡ nothing_known) ⊎ (pdo.parameters ≡ sheet.parameters)

-- so each of the four, and the identifier of SYNC
pub record Knows (facts pdos : Pdos) : Type 0 where
  pub sync : (pdos.sync ≡ None) ⊎ (pdos.sync ≡ facts.sync)
  pub first : IsOf facts.first pdos.first
  pub second : IsOf facts.second pdos.second
  pub third : IsOf facts.third pdos.third
  pub fourth : IsOf facts.fourth pdos.fourth

pub other_id : (sheet pdo : Tpdo) (id : ℕ) → IsOf sheet pdo → is_id sheet.parameters.id id ≡ false → is_id pdo.parameters.id id ≡ false
other_id sheet pdo id (inl unknown) off = ap (λ parameters. is_id parameters.id id) unknown
other_id sheet pdo id (inr same) off = ap (λ parameters. is_id parameters.id id) same ∙ off

pub tpdo_sent : (moment : Moment) (id length : ℕ) (pdo : Tpdo) → (after_tpdo moment id length pdo).parameters ≡ pdo.parameters
tpdo_sent moment id length pdo = by (is_id pdo.parameters.id id) pdo refl
  where
    by : (b : Bool) (x : Tpdo) → x.parameters ≡ pdo.parameters
        → (if b then record pdo { sent = Some (record { free = moment.free; micros = moment.micros }); syncs = pdo.syncs - 1; cycle = option_map (cycle_sent (is_certain moment pdo.changed) pdo.parameters.kind) pdo.cycle; odd = if shows_length moment pdo length then Some length else pdo.odd } else x).parameters ≡ pdo.parameters
    by true x h = refl
    by false x h = h

is_still_of : (sheet pdo after : Tpdo) → after.parameters ≡ pdo.parameters → IsOf sheet pdo → IsOf sheet after
is_still_of sheet pdo after e (inl unknown) = inl (e ∙ unknown)
is_still_of sheet pdo after e (inr same) = inr (e ∙ same)

pub knows_unknown : (facts : Pdos) → Knows facts unknown_pdos
knows_unknown facts = record { sync = inl refl; first = inl refl; second = inl refl; third = inl refl; fourth = inl refl }

pub knows_sheet : (facts : Pdos) → Knows facts facts
knows_sheet facts = record { sync = inr refl; first = inr refl; second = inr refl; third = inr refl; fourth = inr refl }

pub knows_commanded : (facts pdos : Pdos) → Knows facts pdos → Knows facts (commanded pdos)
knows_commanded facts pdos h = record { sync = h.sync; first = h.first; second = h.second; third = h.third; fourth = h.fourth }

pub knows_interrupted : (facts pdos : Pdos) → Knows facts pdos → Knows facts (interrupted pdos)
knows_interrupted facts pdos h = record { sync = h.sync; first = h.first; second = h.second; third = h.third; fourth = h.fourth }

pub knows_framed : (facts pdos : Pdos) (moment : Moment) (id length : ℕ) → Knows facts pdos → Knows facts (framed pdos moment id length)
unfolding framed
knows_framed facts pdos moment id length h = by (is_id pdos.sync id) _ _
    (record { sync = h.sync; first = h.first; second = h.second; third = h.third; fourth = h.fourth })
    (record {
      sync = h.sync;
      first = is_still_of facts.first pdos.first (after_tpdo moment id length pdos.first) (tpdo_sent moment id length pdos.first) h.first;
      second = is_still_of facts.second pdos.second (after_tpdo moment id length pdos.second) (tpdo_sent moment id length pdos.second) h.second;
      third = is_still_of facts.third pdos.third (after_tpdo moment id length pdos.third) (tpdo_sent moment id length pdos.third) h.third;
      fourth = is_still_of facts.fourth pdos.fourth (after_tpdo moment id length pdos.fourth) (tpdo_sent moment id length pdos.fourth) h.fourth;
    })
  where
    by : (b : Bool) (x y : Pdos) → Knows facts x → Knows facts y → Knows facts (if b then x else y)
    by true x y p q = p
    by false x y p q = q

-- what a law says of them, which frames other than TPDOs and boot-ups leave true
pub record IsKept (facts : Pdos) (I : Pdos → Type 0) : Type 0 where
  pub knows : (pdos : Pdos) → I pdos → Knows facts pdos
  pub unknown : I unknown_pdos
  pub command : (pdos : Pdos) → I pdos → I (commanded pdos)
  pub gap : (pdos : Pdos) → I pdos → I (interrupted pdos)
  pub other : (pdos : Pdos) (moment : Moment) (id length : ℕ) → is_followed facts id ≡ false → I pdos → I (framed pdos moment id length)

pub knows_kept : (facts : Pdos) → IsKept facts (Knows facts)
knows_kept facts = record {
  knows = λ pdos h. h;
  unknown = knows_unknown facts;
  command = knows_commanded facts;
  gap = knows_interrupted facts;
  other = λ pdos moment id length off. knows_framed facts pdos moment id length;
}

-- ---- a difference of a kind

abbrev pub is_of : (Deviation → Bool) → Option Deviation → Bool
is_of is None = false
is_of is (Some deviation) = is deviation

-- what is said of a frame has no difference of this kind
abbrev pub IsFine : (Deviation → Bool) → Option Sighting → Type 0
IsFine is None = Unit {0}
IsFine is (Some sighting) = is_of is sighting.deviation ≡ false

none_of : (is : Deviation → Bool) (number : ℕ) (deviation : Option Deviation) → is_of is deviation ≡ false → of_kind is (option_map (λ d. Pdo number d) deviation) ≡ []
none_of is number None off = refl
none_of is number (Some d) off = rw off refl

pub sighted_none : (is : Deviation → Bool) (late : Option Finding) (id length : ℕ) (o : Option Sighting) → IsFine is o → tpdo_differences is (Process id length) (sighting_findings late o) ≡ []
unfolding found
sighted_none is late id length None fine = refl
sighted_none is late id length (Some sighting) fine = none_of is sighting.number sighting.deviation fine

-- while a heartbeat is late it isn't judged
pub overdue_fine : (is : Deviation → Bool) (overdue : Bool) (o : Option Sighting) → IsFine is o → IsFine is (unless_overdue overdue o)
overdue_fine is true None h = h
overdue_fine is true (Some seen) h = refl
overdue_fine is false o h = h

pub seen_fine : (is : Deviation → Bool) (moment : Moment) (has_sync : Bool) (number : ℕ) (pdo : Tpdo) (id length : ℕ) → (is_id pdo.parameters.id id ≡ true → is_of is (deviation_at moment has_sync pdo length) ≡ false)
    → IsFine is (seen moment has_sync number pdo id length)
seen_fine is moment has_sync number pdo id length none = by (is_id pdo.parameters.id id) none
  where
    by : (b : Bool) → (b ≡ true → is_of is (deviation_at moment has_sync pdo length) ≡ false)
        → IsFine is (if b then Some (record { number = number; deviation = deviation_at moment has_sync pdo length; judged = is_judged moment pdo length }) else None)
    by true h = h refl
    by false h = tt

or_fine : (is : Deviation → Bool) (a b : Option Sighting) → IsFine is a → IsFine is b → IsFine is (or_else a b)
or_fine is None b p q = q
or_fine is (Some sighting) b p q = p

-- none of the four that have the identifier of a frame is otherwise than it should be
pub record AreFine (is : Deviation → Bool) (moment : Moment) (pdos : Pdos) (id length : ℕ) : Type 0 where
  pub first : is_id pdos.first.parameters.id id ≡ true → is_of is (deviation_at moment (is_some pdos.sync) pdos.first length) ≡ false
  pub second : is_id pdos.second.parameters.id id ≡ true → is_of is (deviation_at moment (is_some pdos.sync) pdos.second length) ≡ false
  pub third : is_id pdos.third.parameters.id id ≡ true → is_of is (deviation_at moment (is_some pdos.sync) pdos.third length) ≡ false
  pub fourth : is_id pdos.fourth.parameters.id id ≡ true → is_of is (deviation_at moment (is_some pdos.sync) pdos.fourth length) ≡ false

unjudged_fine : (is : Deviation → Bool) (seen : Option Sighting) → IsFine is (unjudged seen)
unjudged_fine is None = tt
unjudged_fine is (Some seen) = refl

pub all_fine : (is : Deviation → Bool) (moment : Moment) (pdos : Pdos) (id length : ℕ) → AreFine is moment pdos id length → IsFine is (sighting moment pdos id length)
unfolding sighting
all_fine is moment pdos id length h = by (is_shared pdos id)
  where
    first : IsFine is (first_seen moment pdos id length)
    first =
        or_fine is _ _ (seen_fine is moment (is_some pdos.sync) 1 pdos.first id length h.first)
        (or_fine is _ _ (seen_fine is moment (is_some pdos.sync) 2 pdos.second id length h.second)
        (or_fine is _ _ (seen_fine is moment (is_some pdos.sync) 3 pdos.third id length h.third) (seen_fine is moment (is_some pdos.sync) 4 pdos.fourth id length h.fourth)))

    by : (b : Bool) → IsFine is (if b then unjudged (first_seen moment pdos id length) else first_seen moment pdos id length)
    by true = unjudged_fine is (first_seen moment pdos id length)
    by false = first

pub unseen : (is : Deviation → Bool) (moment : Moment) (facts pdos : Pdos) (id length : ℕ) → Knows facts pdos → is_followed facts id ≡ false → AreFine is moment pdos id length
unseen is moment facts pdos id length knows off =
    let a = or_parts (is_id facts.first.parameters.id id) _ off in
    let b = or_parts (is_id facts.second.parameters.id id) _ a.1 in
    let c = or_parts (is_id facts.third.parameters.id id) _ b.1 in
    record {
      first = λ on. absurd (let no : is_id pdos.first.parameters.id id ≡ false = other_id facts.first pdos.first id knows.first a.0 in cc);
      second = λ on. absurd (let no : is_id pdos.second.parameters.id id ≡ false = other_id facts.second pdos.second id knows.second b.0 in cc);
      third = λ on. absurd (let no : is_id pdos.third.parameters.id id ≡ false = other_id facts.third pdos.third id knows.third c.0 in cc);
      fourth = λ on. absurd (let no : is_id pdos.fourth.parameters.id id ≡ false = other_id facts.fourth pdos.fourth id knows.fourth c.1 in cc);
    }

-- ---- a recording that begins anew at a frame

-- the bus was free at the newest frame or before it
abbrev pub IsFresh : Progress → Type 0
IsFresh p = IfSome p.newest (λ newest. p.free ≤ newest)

-- the frame is the newest, and the bus wasn't free after it
pub record IsNewest (micros : ℕ) (p : Progress) : Type 0 where
  pub free : p.free ≤ micros
  pub newest : p.newest ≡ Some micros

pub fresh : (micros : ℕ) (p : Progress) → IsNewest micros p → IsFresh p
fresh micros p h = subst (λ n. IfSome n (λ newest. p.free ≤ newest)) (sym h.newest) h.free

closely : (b : Bool) (free newest micros : ℕ) → free ≤ newest → newest ≤ micros → (if b then free else micros) ≤ micros
closely true free newest micros f n = omega arith
closely false free newest micros f n = omega arith

free_fits : (newest : Option ℕ) (free micros : ℕ) (limits : Limits) (period : Option ℕ) → IfSome newest (λ n. free ≤ n) → anew_after limits period newest micros ≡ false → free_at newest free micros ≤ micros
free_fits None free micros limits period h off = absurd (cc)
free_fits (Some n) free micros limits period h off = closely (follows_closely n micros) free n micros h (ltb-false micros n (or_parts (nat_lt micros n) (is_gap limits period n micros) off).0)

pub begun_newest : (subject : Subject) (p : Progress) (micros : ℕ) → IsFresh p → IsNewest micros (begun subject p micros)
unfolding begun
begun_newest subject p micros h = by (begins_anew subject.limits p micros) refl _ _
    (record { free = omega arith; newest = refl })
    (λ off. record { free = free_fits p.newest p.free micros subject.limits p.entries.period h off; newest = refl })
  where
    by : (b : Bool) → begins_anew subject.limits p micros ≡ b → (x y : Progress) → IsNewest micros x → (begins_anew subject.limits p micros ≡ false → IsNewest micros y) → IsNewest micros (if b then x else y)
    by true is x y f g = f
    by false is x y f g = g is

pub begun_kept : (subject : Subject) (I : Pdos → Type 0) (p : Progress) (micros : ℕ) → IsKept subject.facts.pdos I → I p.pdos → I (begun subject p micros).pdos
unfolding begun
begun_kept subject I p micros kept h = by (begins_anew subject.limits p micros) _ _ kept.unknown (quiet (was_quiet subject.limits p micros))
  where
    quiet : (b : Bool) → I (if b then interrupted p.pdos else p.pdos)
    quiet true = kept.gap p.pdos h
    quiet false = h

    by : (b : Bool) (x y : Progress) → I x.pdos → I y.pdos → I (if b then x else y).pdos
    by true x y f g = f
    by false x y f g = g

-- ---- one frame

-- what holds after it of the newest frame and of TPDOs
pub record Stays (I : Pdos → Type 0) (p : Progress) : Type 0 where
  pub fresh : IsFresh p
  pub kept : I p.pdos

-- and of the open transfer: it isn't of a communication parameter of these TPDOs
pub record Holds (I : Pdos → Type 0) (p : Progress) : Type 0 where
  pub fresh : IsFresh p
  pub kept : I p.pdos
  pub opened : IsOpenOn IsApart p

-- nothing of these kinds is found at it, and what holds then
pub record Passes (is : Deviation → Bool) (I : Pdos → Type 0) (subject : Subject) (rows : List Row) (p : Progress) (micros : ℕ) (kind : FrameKind) : Type 0 where
  pub none : tpdo_differences is kind (findings_in subject rows p micros kind) ≡ []
  pub after : Stays I (after_frame subject p micros kind)

now_holds : (I : Pdos → Type 0) (subject : Subject) (p : Progress) (micros : ℕ) (frame : FrameContent) → NamesNoTpdo subject.node frame → IsOpenOn IsApart p
    → Stays I (after_frame subject (begun subject p micros) micros (data_kind subject.node frame)) → Holds I (progress_with subject p micros (data_kind subject.node frame))
unfolding progress_with
now_holds I subject p micros frame names opened stays =
    record { fresh = stays.fresh; kept = stays.kept; opened = stays_open IsApart subject p micros frame (names_apart subject.node frame names) opened }

pub one : (is : Deviation → Bool) (I : Pdos → Type 0) (subject : Subject) (rows : List Row) (micros : ℕ) (p : Progress) (frame : FrameContent) (kind : FrameKind) → data_kind subject.node frame ≡ kind
    → NamesNoTpdo subject.node frame → IsOpenOn IsApart p → Passes is I subject rows (begun subject p micros) micros kind → AllRun (tpdo_differences is) subject rows micros p (frame ∷ []) (Holds I)
unfolding findings_at
one is I subject rows micros p frame kind same names opened h =
    let pass : Passes is I subject rows (begun subject p micros) micros (data_kind subject.node frame) = subst (λ other. Passes is I subject rows (begun subject p micros) micros other) (sym same) h in
    (pass.none, now_holds I subject p micros frame names opened pass.after)

-- ---- frames of the default SDO channel

sdo_newest : (subject : Subject) (p : Progress) (micros : ℕ) (side : Side) (frame : FrameContent) → IsNewest micros p → IsNewest micros (after_sdo subject p micros side frame)
unfolding channel_heard exchange_noted
sdo_newest subject p micros side frame new = record { free = new.free; newest = new.newest }

sdo_stays : (I : Pdos → Type 0) (subject : Subject) (p : Progress) (micros : ℕ) (side : Side) (frame : FrameContent) → I unknown_pdos → NamesNoneBy side frame → IsOpenOn IsApart p → IsNewest micros p → I p.pdos
    → Stays I (after_sdo subject p micros side frame)
sdo_stays I subject p micros side frame unknown names opened new h = record {
  fresh = fresh micros (after_sdo subject p micros side frame) (sdo_newest subject p micros side frame new);
  kept = heard_kept I subject p micros side frame unknown names opened h;
}

pub sdo_passes : (is : Deviation → Bool) (I : Pdos → Type 0) (subject : Subject) (rows : List Row) (p : Progress) (micros : ℕ) (side : Side) (frame : FrameContent) → I unknown_pdos → NamesNoneBy side frame → IsOpenOn IsApart p → IsNewest micros p → I p.pdos
    → Passes is I subject rows p micros (Sdo side frame)
unfolding late_noted
sdo_passes is I subject rows p micros Client frame unknown names opened new h = record { none = refl; after = sdo_stays I subject p micros Client frame unknown names opened new h }
sdo_passes is I subject rows p micros Server frame unknown names opened new h = record {
  none = refl;
  after = sdo_stays I subject (answer_noted subject p micros) micros Server frame unknown names (noted_open IsApart subject p micros opened) (record { free = new.free; newest = new.newest }) h;
}

-- ---- frames that are neither error control nor TPDOs

abbrev IsOtherKind : Pdos → FrameKind → Type 0
IsOtherKind facts (Command service) = Unit {0}
IsOtherKind facts (CommandToAll service) = Unit {0}
IsOtherKind facts (LongCommand service) = Unit {0}
IsOtherKind facts (Emcy code register) = Unit {0}
IsOtherKind facts (OddEmergency length) = Unit {0}
IsOtherKind facts (Sdo side frame) = NamesNoneBy side frame
IsOtherKind facts (Process id length) = is_followed facts id ≡ false
IsOtherKind facts Other = Unit {0}
IsOtherKind facts _ = ⊥

pub either_kept : (I : Pdos → Type 0) (b : Bool) (x y : Pdos) → I x → I y → I (if b then x else y)
either_kept I true x y p q = p
either_kept I false x y p q = q

command_holds : (facts : Pdos) (I : Pdos → Type 0) (p : Progress) (micros : ℕ) (service : NmtService) (own : Bool) → IsKept facts I → IsNewest micros p → I p.pdos → Stays I (after_command p service own micros)
unfolding after_command with_gap
command_holds facts I p micros Start own kept new h = record { fresh = fresh micros p new; kept = kept.command p.pdos h }
command_holds facts I p micros Stop own kept new h = record { fresh = fresh micros p new; kept = kept.command p.pdos h }
command_holds facts I p micros EnterPreOperational own kept new h = record { fresh = fresh micros p new; kept = kept.command p.pdos h }
command_holds facts I p micros ResetNode own kept new h = record { fresh = fresh micros p new; kept = kept.unknown }
command_holds facts I p micros ResetCommunication own kept new h = record { fresh = fresh micros p new; kept = kept.unknown }

other_passes : (is : Deviation → Bool) (I : Pdos → Type 0) (subject : Subject) (rows : List Row) (p : Progress) (micros : ℕ) (kind : FrameKind) → IsKept subject.facts.pdos I → IsOtherKind subject.facts.pdos kind
    → IsOpenOn IsApart p → IsNewest micros p → I p.pdos → Passes is I subject rows p micros kind
unfolding after_emergency process_findings after_process
other_passes is I subject rows p micros (Command service) kept other opened new h = record { none = refl; after = command_holds subject.facts.pdos I p micros service false kept new h }
other_passes is I subject rows p micros (CommandToAll service) kept other opened new h = record { none = refl; after = command_holds subject.facts.pdos I p micros service subject.facts.starts_itself kept new h }
other_passes is I subject rows p micros (LongCommand service) kept other opened new h = record { none = refl; after = command_holds subject.facts.pdos I p micros service true kept new h }
other_passes is I subject rows p micros (Emcy code register) kept other opened new h = record { none = refl; after = record { fresh = fresh micros p new; kept = h } }
other_passes is I subject rows p micros (OddEmergency length) kept other opened new h = record { none = refl; after = record { fresh = fresh micros p new; kept = h } }
other_passes is I subject rows p micros (Process id length) kept other opened new h = record {
  none = sighted_none is (late_by_tpdo subject p micros id length) id length (sighted subject p micros id length)
      (overdue_fine is (is_overdue subject p) (sighting (moment_at subject p micros) p.pdos id length)
      (all_fine is (moment_at subject p micros) p.pdos id length (unseen is (moment_at subject p micros) subject.facts.pdos p.pdos id length (kept.knows p.pdos h) other)));
  after = record { fresh = fresh micros p new; kept = either_kept I (is_of_client subject id) _ _ kept.unknown (kept.other p.pdos (moment_at subject p micros) id length other h) };
}
other_passes is I subject rows p micros (Sdo side frame) kept other opened new h = sdo_passes is I subject rows p micros side frame kept.unknown other opened new h
other_passes is I subject rows p micros Other kept other opened new h = record { none = refl; after = record { fresh = fresh micros p new; kept = h } }
other_passes is I subject rows p micros _ kept other opened new h = absurd other

other_command : (facts : Pdos) (node : ℕ) (long command : Option NmtCommand) → IsOtherKind facts (command_to node long command)
other_command facts node long None = long_such (IsOtherKind facts) node long (λ service. tt) tt
other_command facts node long (Some command) = by (command.node == 0) (command.node == node)
  where
    by : (a b : Bool) → IsOtherKind facts (if a then CommandToAll command.service else (if b then Command command.service else Other))
    by true b = tt
    by false true = tt
    by false false = tt

other_emergency : (facts : Pdos) (length : ℕ) (o : Option Emergency) → IsOtherKind facts (emergency_with length o)
other_emergency facts length None = tt
other_emergency facts length (Some emergency) = tt

-- frames of other services than error control, and none that is taken for a TPDO
abbrev pub IsOther : Pdos → ℕ → FrameContent → Type 0
IsOther facts node frame = (frame.id ≢ 0x700 + node) × (is_followed facts frame.id ≡ false) × NamesNoTpdo node frame

other_kind : (facts : Pdos) (node : ℕ) (frame : FrameContent) → IsOther facts node frame → IsOtherKind facts (data_kind node frame)
other_kind facts node frame h =
    by (frame.id == 0) (frame.id == 0x80 + node) (frame.id == 0x580 + node) (frame.id == 0x600 + node) (frame.id == 0x700 + node)
    (λ e. h.2 (eqb-true frame.id (0x600 + node) e)) (ne_eqb frame.id (0x700 + node) h.0)
  where
    by : (a b c d e : Bool) → (d ≡ true → NamesNoneBy Client frame) → e ≡ false
        → IsOtherKind facts (if a then command_kind node frame
        else (if b then emergency_kind frame
        else (if c then Sdo Server frame
        else (if d then Sdo Client frame
        else (if e then control_kind frame else Process frame.id (length_of frame))))))
    by true b c d e q r = other_command facts node (long_command_in frame) (nmt_command_in frame)
    by false true c d e q r = other_emergency facts (length_of frame) (emergency_in frame.bytes)
    by false false true d e q r = tt
    by false false false true e q r = q refl
    by false false false false true q r = absurd (cc)
    by false false false false false q r = h.1

pub others : (is : Deviation → Bool) (I : Pdos → Type 0) (subject : Subject) (rows : List Row) (micros : ℕ) (frames : List FrameContent) (p : Progress) → IsKept subject.facts.pdos I
    → AllByRecursion (λ frame. IsOther subject.facts.pdos subject.node frame) frames → Holds I p → AllRun (tpdo_differences is) subject rows micros p frames (Holds I)
others is I subject rows micros [] p kept are h = h
others is I subject rows micros (frame ∷ later) p kept are h =
    let first : AllRun (tpdo_differences is) subject rows micros p (frame ∷ []) (Holds I) =
    one is I subject rows micros p frame (data_kind subject.node frame) refl are.0.2 h.opened
    (other_passes is I subject rows (begun subject p micros) micros (data_kind subject.node frame) kept (other_kind subject.facts.pdos subject.node frame are.0)
    (begun_open IsApart subject p micros h.opened) (begun_newest subject p micros h.fresh) (begun_kept subject I p micros kept h.kept)) in
    (first.0, others is I subject rows micros later (progress_with subject p micros (data_kind subject.node frame)) kept are.1 first.1)

-- ---- the boot-up, and heartbeats

boot_passes : (is : Deviation → Bool) (I : Pdos → Type 0) (subject : Subject) (rows : List Row) (p : Progress) (micros : ℕ) → I (booted_pdos subject p) → IsNewest micros p → Passes is I subject rows p micros (Control 0)
unfolding booted
boot_passes is I subject rows p micros begins new = record { none = refl; after = record { fresh = fresh micros p new; kept = begins } }

-- frames of error control are none of a client
life_names : (node : ℕ) (bytes : List ℕ) → NamesNoTpdo node (record { id = 0x700 + node; bytes = bytes })
life_names node bytes = λ id eight. absurd (let same : 0x700 + node ≡ 0x600 + node = id in omega arith)

-- whatever held before it
pub boots : (is : Deviation → Bool) (I : Pdos → Type 0) (subject : Subject) (rows : List Row) (micros : ℕ) (p : Progress) → I (booted_pdos subject (begun subject p micros)) → IsFresh p → IsOpenOn IsApart p
    → AllRun (tpdo_differences is) subject rows micros p (record { id = 0x700 + subject.node; bytes = heartbeat_bytes BootUp } ∷ []) (Holds I)
boots is I subject rows micros p begins h opened =
    one is I subject rows micros p (record { id = 0x700 + subject.node; bytes = heartbeat_bytes BootUp }) (Control 0) (life_kind subject.node BootUp) (life_names subject.node (heartbeat_bytes BootUp)) opened
    (boot_passes is I subject rows (begun subject p micros) micros begins (begun_newest subject p micros h))

heartbeat_passes : (is : Deviation → Bool) (I : Pdos → Type 0) (subject : Subject) (rows : List Row) (p : Progress) (micros : ℕ) (actual : NodeState) → IsKept subject.facts.pdos I → IsNewest micros p → I p.pdos
    → Passes is I subject rows p micros (Control (state_byte (heartbeat_of actual)))
unfolding nmt_frames.after_control
heartbeat_passes is I subject rows p micros node.PreOperational kept new h = record { none = refl; after = record { fresh = fresh micros p new; kept = kept.command p.pdos h } }
heartbeat_passes is I subject rows p micros node.Operational kept new h = record { none = refl; after = record { fresh = fresh micros p new; kept = h } }
heartbeat_passes is I subject rows p micros node.Stopped kept new h = record { none = refl; after = record { fresh = fresh micros p new; kept = kept.command p.pdos h } }

-- what the device sends of error control at an input: its boot-up at a reset, else a heartbeat or nothing
pub lives : (is : Deviation → Bool) (I : Pdos → Type 0) (subject : Subject) (rows : List Row) (micros : ℕ) (p : Progress) (reset due : Bool) (final : NodeState) → IsKept subject.facts.pdos I
    → (reset ≡ true → I subject.facts.pdos) → Holds I p
    → AllRun (tpdo_differences is) subject rows micros p (life_frames subject.node (if reset then Some BootUp else (if due then Some (heartbeat_of final) else None))) (Holds I)
lives is I subject rows micros p true due final kept begins h =
    boots is I subject rows micros p (either_kept I (may_differ subject (begun subject p micros)) _ _ kept.unknown (begins refl)) h.fresh h.opened
lives is I subject rows micros p false false final kept begins h = h
lives is I subject rows micros p false true final kept begins h =
    one is I subject rows micros p (record { id = 0x700 + subject.node; bytes = heartbeat_bytes (heartbeat_of final) }) (Control (state_byte (heartbeat_of final))) (life_kind subject.node (heartbeat_of final))
    (life_names subject.node (heartbeat_bytes (heartbeat_of final))) h.opened
    (heartbeat_passes is I subject rows (begun subject p micros) micros final kept (begun_newest subject p micros h.fresh) (begun_kept subject I p micros kept h.kept))
