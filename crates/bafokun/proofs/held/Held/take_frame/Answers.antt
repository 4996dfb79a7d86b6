use Rattle.std.proofs.Common.{◌∷◌, ◌∙◌, rules}
use Rattle.std.proofs.lemmas.List.{with_items_is, places}
use Rattle.co_node_model.specs.Inputs.{Framed}
use Rattle.bafokun.proofs.NoReset.{ending_by_frame, set_by_command, set_by_frame}
use Rattle.bafokun.proofs.held.Held.take_frame.Goals as goal

pub returns-then-id-eq0-clause-changes : goal.returns-then-id-eq0-clause-changes
returns-then-id-eq0-clause-changes c = λ k before stands.
    set_by_command k before c.args.frame.now c.args.self.now.entries _ _ c.take_frame_noting-seen.new.changes _ _
    c.deref_mut.ensures.value (c.take_frame_noting-seen.ensures.changes k before stands)
    (with_items_is c.args.self.now.changes.items c.take_frame_noting-seen.new.changes (search (rules, places)))
    (c.note_command.ensures.changes k (Framed c.args.frame.now ∷ before) (c.take_frame_noting-seen.ensures.stands k before stands))

pub returns-then-id-eq0-clause-events : goal.returns-then-id-eq0-clause-events
returns-then-id-eq0-clause-events c = λ k before stands.
    c.note_command.ensures.events k before (Framed c.args.frame.now) (c.take_frame_noting-seen.ensures.stands k before stands) (c.state-state.ensures k before stands)

pub returns-then-id-eq0-2-clause-changes : goal.returns-then-id-eq0-2-clause-changes
returns-then-id-eq0-2-clause-changes c = λ k before stands.
    set_by_command k before c.args.frame.now c.args.self.now.entries _ _ c.take_frame_noting-seen.new.changes _ _
    c.deref_mut.ensures.value (c.take_frame_noting-seen.ensures.changes k before stands)
    (with_items_is c.args.self.now.changes.items c.take_frame_noting-seen.new.changes (search (rules, places)))
    (c.note_command-then-id-eq0-2.ensures.changes k (Framed c.args.frame.now ∷ before) (c.take_frame_noting-seen.ensures.stands k before stands))

pub returns-then-id-eq0-2-clause-events : goal.returns-then-id-eq0-2-clause-events
returns-then-id-eq0-2-clause-events c = λ k before stands.
    c.note_command-then-id-eq0-2.ensures.events k before (Framed c.args.frame.now) (c.take_frame_noting-seen.ensures.stands k before stands) (c.state-state.ensures k before stands)

pub returns-else-is_rpdo-clause-changes : goal.returns-else-is_rpdo-clause-changes
returns-else-is_rpdo-clause-changes c = λ k before stands.
    set_by_frame k before c.args.frame.now c.args.self.now.entries _ _ c.take_frame_noting-seen.new.changes _
    (λ e. c.if-id-eq0-2.false (c.id-else-is_sync.ensures.id ∙ e))
    c.deref_mut.ensures.value (c.take_frame_noting-seen.ensures.changes k before stands)
    (with_items_is c.args.self.now.changes.items c.take_frame_noting-seen.new.changes (search (rules, places)))

pub returns-else-is_rpdo-clause-events : goal.returns-else-is_rpdo-clause-events
returns-else-is_rpdo-clause-events c = λ k before stands.
    c.note_frame-else-is_rpdo.ensures k before c.args.frame.now (λ e. c.if-id-eq0-2.false (c.id-else-is_sync.ensures.id ∙ e))
    (c.last_seen.ensures k (Framed c.args.frame.now ∷ before) (c.take_frame_noting-seen.ensures.stands k before stands))

pub returns-then-id-eq0-clause-ending : goal.returns-then-id-eq0-clause-ending
returns-then-id-eq0-clause-ending c = λ k before stands.
    c.note_command.ensures.ending k (Framed c.args.frame.now ∷ before) (c.take_frame_noting-seen.ensures.stands k before stands)

pub returns-then-id-eq0-2-clause-ending : goal.returns-then-id-eq0-2-clause-ending
returns-then-id-eq0-2-clause-ending c = λ k before stands.
    c.note_command-then-id-eq0-2.ensures.ending k (Framed c.args.frame.now ∷ before) (c.take_frame_noting-seen.ensures.stands k before stands)

pub returns-else-is_rpdo-clause-ending : goal.returns-else-is_rpdo-clause-ending
returns-else-is_rpdo-clause-ending c = λ k before stands.
    ending_by_frame k before c.args.frame.now c.args.self.now.ending (λ e. c.if-id-eq0-2.false (c.id-else-is_sync.ensures.id ∙ e))
