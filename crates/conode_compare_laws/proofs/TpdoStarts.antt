-- The frame that an input is, to the times of TPDOs: as operational is entered a command comes, and they count anew.
use Rattle.std.proofs.Common.{◌≡◌, ℕ, ◌+◌, ◌-◌, ◌≤◌, Bool, true, false, List, [], ◌∷◌, Option, Some, None, refl, sym, subst, arith}
use Rattle.std.specs.Prelude.{if◌then◌else◌, ◌==◌, ◌||◌, not, is_some}
use Rattle.std.proofs.lemmas.Bool.{eqb-true}
use Rattle.co_value.specs.declared.key.Key.{Key}
use Rattle.co_frame.specs.FrameContent.{FrameContent}
use Rattle.co_frame.specs.Nmt.{nmt_command_in}
use Rattle.co_frame.specs.declared.nmt.NmtCommand.{NmtCommand}
use Rattle.co_frame.specs.declared.nmt.NmtService.{NmtService}
use Rattle.co_frame.specs.declared.nmt.NmtService.TheVariants.{Start, Stop, EnterPreOperational, ResetNode, ResetCommunication}
use Rattle.co_profile.specs.Indices.{is_within, tpdo_communication}
use Rattle.co_sheet.specs.Content.{Row}
use Rattle.co_pdo.specs.declared.tpdo.Part.{Part}
use Rattle.co_node_parts.specs.NmtStates.{is_state}
use Rattle.co_node_parts.specs.declared.nmt_state.NodeState.{NodeState}
use Rattle.co_node_parts.specs.declared.nmt_state.NodeState.TheVariants as node
use Rattle.co_node_model.specs.declared.mark.Mark.{Mark}
use Rattle.co_node_model.specs.declared.mark.Mark.TheVariants as was
use Rattle.co_node_model.specs.declared.turn.Turn.{Turn}
use Rattle.co_node_model.specs.declared.turn.Turn.TheVariants as turn
use Rattle.co_node_model.specs.Device.{moment}
use Rattle.co_node_model.specs.Inputs.{Applied, Framed, InputView, Ticked}
use Rattle.co_node_model.specs.Marks.{marked_key, marked_tick}
use Rattle.co_node_model.specs.Moments.{Constants, History, Moment}
use Rattle.co_node_model.specs.Nmt.{service_for, state_at}
use Rattle.co_node_model.specs.Tpdos.{part_started, start_turn, turn_at, turn_by_write, turn_with}
use Rattle.conode_compare_pdos.specs.declared.deviation.Deviation.{Deviation}
use Rattle.conode_compare_pdos.specs.declared.pdos.Pdos.{Pdos}
use Rattle.conode_compare_pdos.specs.declared.tpdo.Sent.{Sent}
use Rattle.conode_compare_nmt.specs.declared.finding.NmtState.TheVariants.{PreOperational}
use Rattle.conode_compare_rules.specs.declared.kind.FrameKind.TheVariants.{Command, CommandToAll, Other}
use Rattle.conode_compare_nmt.specs.declared.limits.Subject.{Subject}
use Rattle.conode_compare_rules.specs.declared.progress.Progress.{Progress}
use Rattle.conode_compare_rules.specs.FrameKinds.{command_kind, command_to, long_command_in}
use Rattle.conode_compare_rules.specs.Gaps.{begun, with_gap}
use Rattle.conode_compare_rules.specs.NmtFrames.{after_command}
use Rattle.conode_compare_laws.specs.NamedTpdos.{NamesNoTpdo}
use Rattle.conode_compare_laws.specs.Recordings.{elapsed, frame_of}
use Rattle.conode_compare_laws.specs.TpdoDifferences.{tpdo_differences}
use Rattle.conode_compare_laws.proofs.Frames.{nmt_kind}
use Rattle.conode_compare_laws.proofs.Inputs.{command_in, end_shown, state_by}
use Rattle.conode_compare_laws.proofs.Pausing.{took}
use Rattle.conode_compare_laws.proofs.Runs.{AllRun}
use Rattle.conode_compare_laws.proofs.Shown.{is_shown}
use Rattle.conode_compare_laws.proofs.TpdoOthers.{Holds, IsNewest, Knows, Passes, Stays, begun_kept, begun_newest, fresh, knows_kept, one}
use Rattle.conode_compare_laws.proofs.TpdoTimes.{AreTimed, commanded_timed, unknown_timed}

-- ---- turns

abbrev pub is_start_all : Turn → Bool
is_start_all turn.StartAll = true
is_start_all other = false

abbrev pub is_tick_turn : Turn → Bool
is_tick_turn turn.Tick = true
is_tick_turn other = false

-- neither
abbrev is_plain : Turn → Bool
is_plain t = not (is_start_all t || is_tick_turn t)

started : (n : ℕ) (part : Option Part) → is_plain (start_turn n part) ≡ true
started n None = refl
started n (Some part) = refl

written : (key : Key) → is_plain (turn_by_write key) ≡ true
written key = by (is_within tpdo_communication key.index)
  where
    by : (b : Bool) → is_plain (if b then start_turn (key.index - tpdo_communication.0) (part_started key.sub) else turn.Quiet) ≡ true
    by true = started (key.index - tpdo_communication.0) (part_started key.sub)
    by false = refl

no_start_all : (t : Turn) → is_plain t ≡ true → is_start_all t ≡ false
no_start_all turn.Quiet h = refl
no_start_all turn.StartAll h = absurd (cc)
no_start_all (turn.Start n part) h = refl
no_start_all (turn.Sync counter) h = refl
no_start_all (turn.Asked asked) h = refl
no_start_all turn.Tick h = absurd (cc)

no_tick : (t : Turn) → is_plain t ≡ true → is_tick_turn t ≡ false
no_tick turn.Quiet h = refl
no_tick turn.StartAll h = absurd (cc)
no_tick (turn.Start n part) h = refl
no_tick (turn.Sync counter) h = refl
no_tick (turn.Asked asked) h = refl
no_tick turn.Tick h = absurd (cc)

marked_start : (mark : Mark) → is_start_all (turn_with (marked_key mark) mark) ≡ false
marked_start was.Quiet = refl
marked_start (was.Command service) = refl
marked_start (was.Written key) = no_start_all (turn_by_write key) (written key)
marked_start (was.Sync frame) = refl
marked_start (was.Rpdo frame) = refl
marked_start (was.Heard node) = refl
marked_start (was.Tick timed_out) = refl
marked_start (was.Asked asked) = refl

unmarked_tick : (mark : Mark) → marked_tick mark ≡ false → is_tick_turn (turn_with (marked_key mark) mark) ≡ false
unmarked_tick was.Quiet off = refl
unmarked_tick (was.Command service) off = refl
unmarked_tick (was.Written key) off = no_tick (turn_by_write key) (written key)
unmarked_tick (was.Sync frame) off = refl
unmarked_tick (was.Rpdo frame) off = refl
unmarked_tick (was.Heard node) off = refl
unmarked_tick (was.Tick timed_out) off = absurd (cc)
unmarked_tick (was.Asked asked) off = refl

-- a turn that is a tick takes 1 ms
pub takes_a_tick : (k : Constants) (history : History) (input : InputView) → (if is_tick_turn (turn_at (moment k history input) history) then 1000 else 0) ≤ elapsed input
takes_a_tick k history input =
    let m : Moment = moment k history input in
    subst (λ e. (if is_tick_turn (turn_at m history) then 1000 else 0) ≤ e) (took k history input) (by (is_state node.Operational (state_at (m ∷ history))) (is_state node.Operational (state_at history)) (marked_tick m.mark) refl)
  where
    few : (b : Bool) → (if b then 1000 else 0) ≤ 1000
    few true = omega arith
    few false = omega arith

    none : (b : Bool) → b ≡ false → (if b then 1000 else 0) ≤ 0
    none true h = absurd (cc)
    none false h = omega arith

    by : (a b tick : Bool) → marked_tick (moment k history input).mark ≡ tick
        → (if is_tick_turn (if not a then turn.Quiet else (if not b then turn.StartAll else turn_with (marked_key (moment k history input).mark) (moment k history input).mark)) then 1000 else 0) ≤ (if tick then 1000 else 0)
    by a b true is = few (is_tick_turn (if not a then turn.Quiet else (if not b then turn.StartAll else turn_with (marked_key (moment k history input).mark) (moment k history input).mark)))
    by false b false is = omega arith
    by true false false is = omega arith
    by true true false is = none (is_tick_turn (turn_with (marked_key (moment k history input).mark) (moment k history input).mark)) (unmarked_tick (moment k history input).mark is)

-- ---- operational is entered by a command

not_operational : (state : NodeState) → is_state node.Operational state ≡ false → is_shown PreOperational state ≡ true
not_operational node.PreOperational off = refl
not_operational node.Operational off = absurd (cc)
not_operational node.Stopped off = refl

operational : (state : NodeState) → is_state node.Operational state ≡ true → is_shown PreOperational state ≡ false
operational node.PreOperational on = absurd (cc)
operational node.Operational on = refl
operational node.Stopped on = absurd (cc)

uncommanded : (k : Constants) (history : History) (input : InputView) → command_in k.description.node input ≡ None → is_state node.Operational (state_at history) ≡ false → is_state node.Operational (state_at (moment k history input ∷ history)) ≡ false
uncommanded k history input none off = by (is_state node.Operational (state_at (moment k history input ∷ history))) refl
  where
    final : NodeState
    final = state_at (moment k history input ∷ history)

    shown : is_shown PreOperational final ≡ true
    shown = end_shown k history input PreOperational (subst (λ c. is_shown PreOperational (state_by c (state_at history)) ≡ true) (sym none) (not_operational (state_at history) off))

    by : (b : Bool) → is_state node.Operational final ≡ b → b ≡ false
    by true on = absurd (let hidden : is_shown PreOperational final ≡ false = operational final on in let s : is_shown PreOperational final ≡ true = shown in cc)
    by false on = refl

pub start_commanded : (k : Constants) (history : History) (input : InputView) → is_start_all (turn_at (moment k history input) history) ≡ true → is_some (command_in k.description.node input) ≡ true
start_commanded k history input is = by (command_in k.description.node input) refl
  where
    m : Moment
    m = moment k history input

    never : (a b : Bool) → (b ≡ false → a ≡ false) → is_start_all (if not a then turn.Quiet else (if not b then turn.StartAll else turn_with (marked_key m.mark) m.mark)) ≡ false
    never false b h = refl
    never true true h = marked_start m.mark
    never true false h = absurd (let no : true ≡ false = h refl in cc)

    by : (o : Option NmtService) → command_in k.description.node input ≡ o → is_some o ≡ true
    by (Some service) e = refl
    by None e =
        let no : is_start_all (turn_at m history) ≡ false = never (is_state node.Operational (state_at (m ∷ history))) (is_state node.Operational (state_at history)) (uncommanded k history input e) in
        absurd (cc)

-- ---- a command comes

module _ (is : Deviation → Bool) (R : ℕ → Sent → List ℕ → Type 0) (ids : ℕ → ℕ) (ages : ℕ → List ℕ) (subject : Subject) (rows : List Row) (micros : ℕ) where
  abbrev pub I : Pdos → Type 0
  I = AreTimed R subject.node ids subject.facts.pdos micros ages

  command_holds : (p : Progress) (service : NmtService) (own : Bool) → IsNewest micros p → Knows subject.facts.pdos p.pdos → Stays I (after_command p service own micros)
  unfolding after_command with_gap
  command_holds p Start own new h = record { fresh = fresh micros p new; kept = commanded_timed R subject.node ids subject.facts.pdos micros ages p.pdos h }
  command_holds p Stop own new h = record { fresh = fresh micros p new; kept = commanded_timed R subject.node ids subject.facts.pdos micros ages p.pdos h }
  command_holds p EnterPreOperational own new h = record { fresh = fresh micros p new; kept = commanded_timed R subject.node ids subject.facts.pdos micros ages p.pdos h }
  command_holds p ResetNode own new h = record { fresh = fresh micros p new; kept = unknown_timed R subject.node ids subject.facts.pdos micros ages }
  command_holds p ResetCommunication own new h = record { fresh = fresh micros p new; kept = unknown_timed R subject.node ids subject.facts.pdos micros ages }

  command_passes : (p : Progress) (long command : Option NmtCommand) → is_some (service_for subject.node command) ≡ true → IsNewest micros p → Knows subject.facts.pdos p.pdos → Passes is I subject rows p micros (command_to subject.node long command)
  command_passes p long None is_one new h = absurd (cc)
  command_passes p long (Some command) is_one new h = by (command.node == 0) (command.node == subject.node) is_one
    where
      by : (all this : Bool) → is_some (if all || this then Some command.service else None) ≡ true
          → Passes is I subject rows p micros (if all then CommandToAll command.service else (if this then Command command.service else Other))
      by true this g = record { none = refl; after = command_holds p command.service subject.facts.starts_itself new h }
      by false true g = record { none = refl; after = command_holds p command.service false new h }
      by false false g = absurd (cc)

  -- it is none of a client
  command_names : (frame : FrameContent) → (frame.id == 0) ≡ true → NamesNoTpdo subject.node frame
  command_names frame zero = λ id eight. absurd (let none : frame.id ≡ 0 = eqb-true frame.id 0 zero in let some : frame.id ≡ 0x600 + subject.node = id in omega arith)

  pub command_comes : (input : InputView) (p : Progress) → is_some (command_in subject.node input) ≡ true → Holds (Knows subject.facts.pdos) p → AllRun (tpdo_differences is) subject rows micros p (frame_of input) (Holds I)
  command_comes Ticked p on h = absurd (cc)
  command_comes (Applied event) p on h = absurd (cc)
  command_comes (Framed frame) p on h = by (frame.id == 0) refl on
    where
      by : (b : Bool) → (frame.id == 0) ≡ b → is_some (if b then service_for subject.node (nmt_command_in frame) else None) ≡ true → AllRun (tpdo_differences is) subject rows micros p (frame ∷ []) (Holds I)
      by true zero g =
          one is I subject rows micros p frame (command_kind subject.node frame) (nmt_kind subject.node frame zero) (command_names frame zero) h.opened
          (command_passes (begun subject p micros) (long_command_in frame) (nmt_command_in frame) g (begun_newest subject p micros h.fresh) (begun_kept subject (Knows subject.facts.pdos) p micros (knows_kept subject.facts.pdos) h.kept))
      by false zero g = absurd (cc)
