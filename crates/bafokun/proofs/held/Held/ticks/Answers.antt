use Rattle.std.proofs.Common.{◌≡◌, ◌+◌, true, false, [], sym, ap, ◌∙◌, rules, arith}
use Rattle.co_node_model.specs.Inputs.{Ticked}
use Rattle.co_node_model.specs.Ticks.{after_ticks}
use Rattle.bafokun.specs.Ending.{by_input}
use Rattle.bafokun.specs.Happened.{and_input}
use Rattle.bafokun.specs.Ticks.{given_last}
use Rattle.bafokun.proofs.Added.{one_more_ending, one_more_tick}
use Rattle.bafokun.proofs.Ticks.{all_gave, one_more_given, one_more_stands, up_to_next}
use Rattle.bafokun.proofs.held.Held.ticks.Goals as goal

pub returns-then-has_sent-clause-gave : goal.returns-then-has_sent-clause-gave
returns-then-has_sent-clause-gave c = λ k before stands.
    let inv = c.loop-i.invariant in
    let yes : c.has_sent.result ≡ true = search rules in
    let gave = c.tick.ensures.gave k (after_ticks c.loop-i.i before) (inv.stands k before stands) in
    let sent : c.tick.new.self.sent.items ≡ given_last k before (c.loop-i.i + 1) =
    gave.sent ∙ sym (one_more_given k before c.loop-i.i) in
    record {
      ticks = record {
        within = omega arith;
        quiet = λ n below. inv.quiet k before stands n (omega arith);
        early = λ fewer none. c.has_sent.ensures.yes yes (sent ∙ none);
      };
      stands = one_more_stands k before c.loop-i.i c.tick.new.self.node gave.stands;
      sent = sent;
    }

pub returns-then-has_sent-clause-events : goal.returns-then-has_sent-clause-events
returns-then-has_sent-clause-events c = λ k before stands.
    let inv = c.loop-i.invariant in
    c.tick.ensures.events k (after_ticks c.loop-i.i before) (inv.stands k before stands)
    ∙ ap (and_input k (after_ticks c.loop-i.i before) Ticked) (inv.events k before stands)
    ∙ sym (one_more_tick k before c.loop-i.i c.args.self.now.events)

pub returns-then-has_sent-clause-ending : goal.returns-then-has_sent-clause-ending
returns-then-has_sent-clause-ending c = λ k before stands.
    let inv = c.loop-i.invariant in
    c.tick.ensures.ending k (after_ticks c.loop-i.i before) (inv.stands k before stands)
    ∙ ap (by_input k (after_ticks c.loop-i.i before) Ticked) (inv.ending k before stands)
    ∙ sym (one_more_ending k before c.loop-i.i c.args.self.now.ending)

pub loop-i-preserved : goal.loop-i-preserved
loop-i-preserved c =
    let inv = c.loop-i.invariant in
    let no : c.has_sent.result ≡ false = search rules in
    let empty : c.tick.new.self.sent.items ≡ [] = c.has_sent.ensures.no no in
    record {
      empty = empty;
      entries = c.tick.ensures.entries ∙ inv.entries;
      changes = c.tick.ensures.changes ∙ inv.changes;
      stands = λ k before stands. one_more_stands k before c.loop-i.i c.tick.new.self.node
          (c.tick.ensures.gave k (after_ticks c.loop-i.i before) (inv.stands k before stands)).stands;
      quiet = λ k before stands. up_to_next (λ n. given_last k before n ≡ []) c.loop-i.i (inv.quiet k before stands)
          (one_more_given k before c.loop-i.i
          ∙ sym (c.tick.ensures.gave k (after_ticks c.loop-i.i before) (inv.stands k before stands)).sent ∙ empty);
      events = λ k before stands.
          c.tick.ensures.events k (after_ticks c.loop-i.i before) (inv.stands k before stands)
          ∙ ap (and_input k (after_ticks c.loop-i.i before) Ticked) (inv.events k before stands)
          ∙ sym (one_more_tick k before c.loop-i.i c.args.self.now.events);
      ending = λ k before stands.
          c.tick.ensures.ending k (after_ticks c.loop-i.i before) (inv.stands k before stands)
          ∙ ap (by_input k (after_ticks c.loop-i.i before) Ticked) (inv.ending k before stands)
          ∙ sym (one_more_ending k before c.loop-i.i c.args.self.now.ending);
    }

pub returns-clause-gave : goal.returns-clause-gave
returns-clause-gave c = λ k before stands.
    let inv = c.loop-i.invariant in
    all_gave k before c.args.most c.loop-i.i c.loop-i.self c.loop-i.auto.i-end c.loop-i-test.false inv.empty
    (inv.stands k before stands) (inv.quiet k before stands)
