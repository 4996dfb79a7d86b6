-- Each way that a line is found, and what a part of it leaves to come.
use Rattle.std.proofs.Common.{◌≡◌, ℕ, true, false, List, sym, ap, subst, ◌∙◌, rules, Ok, Bool}
use Rattle.co_stream.specs.Lines.{has_line_feed}
use Rattle.co_stream.specs.Held.{Held}
use Rattle.co_stream.proofs.Passing.{PassedAny, passed_over_any, line_finds_any, last_finds_any, fails_any, refilled_any, over_feed}
use Rattle.co_stream.proofs.bounded_lines.BoundedLines.advance.Goals as goal

pub returns-then-take_line-clause-found : goal.returns-then-take_line-clause-found
returns-then-take_line-clause-found g c =
    let old = c.args.self.now in
    let before = g.R.Read.remaining c.args.reader.now in
    let after = g.R.Read.remaining c.loop-asks.reader in
    let now = c.self.inside in
    let passing = c.loop-asks.passing in
    let h : PassedAny old.ended now.ended old.rest now.window.rest before after passing =
    subst (λ (s : Held). PassedAny old.ended s.ended old.rest s.rest before after passing) (sym c.self.view_is) c.loop-asks.invariant.passed in
    let (front, cut, none, line) = c.take_line.ensures.line (search rules) in
    line_finds_any old.ended now.ended old.rest now.window.rest before after passing h front c.take_line.new.self.rest c.take_line.new.self.line c.line_found.result cut none line
    c.line_found.ensures.long c.line_found.ensures.short c.line_found.ensures.longer

pub returns-then-self-clause-found : goal.returns-then-self-clause-found
returns-then-self-clause-found g c =
    let old = c.args.self.now in
    let before = g.R.Read.remaining c.args.reader.now in
    let after = g.R.Read.remaining c.loop-asks.reader in
    let now = c.self.inside in
    let passing = c.loop-asks.passing in
    let h : PassedAny old.ended now.ended old.rest now.window.rest before after passing =
    subst (λ (s : Held). PassedAny old.ended s.ended old.rest s.rest before after passing) (sym c.self.view_is) c.loop-asks.invariant.passed in
    let none = c.take_line.ensures.none (search rules) in
    let rest = c.take_line.new.self.rest in
    let left = c.pass_over-passing.new.self.rest in
    let over = c.pass_over-passing.result in
    let kept : PassedAny old.ended now.ended old.rest rest before after passing = subst (λ (r : List ℕ). PassedAny old.ended now.ended old.rest r before after passing) (sym none.1) h in
    let feedless : has_line_feed rest ≡ false = ap has_line_feed none.1 ∙ none.0 in
    let o = passed_over_any old.ended now.ended old.rest rest before after passing kept over left feedless c.pass_over-passing.ensures.over c.pass_over-passing.ensures.kept in
    let none_left = over_feed passing over rest left feedless c.pass_over-passing.ensures.over c.pass_over-passing.ensures.kept in
    let found = last_finds_any old.ended now.ended old.rest left before after over o c.if-self.true c.last_found.new.self.line c.last_found.new.self.rest c.last_found.result none_left c.last_found.ensures.line c.last_found.ensures.rest
    c.last_found.ensures.long c.last_found.ensures.none c.last_found.ensures.short c.last_found.ensures.longer in
    rw c.last_found.ensures.ended found

pub returns-in_err-self-inside-clause-within : goal.returns-in_err-self-inside-clause-within
returns-in_err-self-inside-clause-within g c = λ _.
    let old = c.args.self.now in
    let before = g.R.Read.remaining c.args.reader.now in
    let between = g.R.Read.remaining c.loop-asks.reader in
    let after = g.R.Read.remaining c.refill.new.reader in
    let now = c.self.inside in
    let passing = c.loop-asks.passing in
    let h : PassedAny old.ended now.ended old.rest now.window.rest before between passing =
    subst (λ (s : Held). PassedAny old.ended s.ended old.rest s.rest before between passing) (sym c.self.view_is) c.loop-asks.invariant.passed in
    let none = c.take_line.ensures.none (search rules) in
    let rest = c.take_line.new.self.rest in
    let left = c.pass_over-passing.new.self.rest in
    let over = c.pass_over-passing.result in
    let kept : PassedAny old.ended now.ended old.rest rest before between passing = subst (λ (r : List ℕ). PassedAny old.ended now.ended old.rest r before between passing) (sym none.1) h in
    let feedless : has_line_feed rest ≡ false = ap has_line_feed none.1 ∙ none.0 in
    let o = passed_over_any old.ended now.ended old.rest rest before between passing kept over left feedless c.pass_over-passing.ensures.over c.pass_over-passing.ensures.kept in
    let none_left = over_feed passing over rest left feedless c.pass_over-passing.ensures.over c.pass_over-passing.ensures.kept in
    fails_any old.ended now.ended old.rest left before between after over o c.if-self.false none_left c.in_err-self-inside.ensures.err

pub loop-asks-preserved : goal.loop-asks-preserved
loop-asks-preserved g c =
    let old = c.args.self.now in
    let before = g.R.Read.remaining c.args.reader.now in
    let between = g.R.Read.remaining c.loop-asks.reader in
    let after = g.R.Read.remaining c.refill.new.reader in
    let now = c.self.inside in
    let passing = c.loop-asks.passing in
    let h : PassedAny old.ended now.ended old.rest now.window.rest before between passing =
    subst (λ (s : Held). PassedAny old.ended s.ended old.rest s.rest before between passing) (sym c.self.view_is) c.loop-asks.invariant.passed in
    let none = c.take_line.ensures.none (search rules) in
    let rest = c.take_line.new.self.rest in
    let left = c.pass_over-passing.new.self.rest in
    let over = c.pass_over-passing.result in
    let kept : PassedAny old.ended now.ended old.rest rest before between passing = subst (λ (r : List ℕ). PassedAny old.ended now.ended old.rest r before between passing) (sym none.1) h in
    let feedless : has_line_feed rest ≡ false = ap has_line_feed none.1 ∙ none.0 in
    let o = passed_over_any old.ended now.ended old.rest rest before between passing kept over left feedless c.pass_over-passing.ensures.over c.pass_over-passing.ensures.kept in
    let is : now.ended ≡ false = c.if-self.false in
    let (came, grown, consumed) = c.in_ok-self-inside.ensures.more in
    record {
      passed = refilled_any old.ended now.ended old.rest left before between after over o is c.in_ok-self-inside.field-0 c.refill.new.self.rest came grown consumed
          (λ e. (c.in_ok-self-inside.ensures.end (ap Ok e)).1);
      held = λ t. let same : true ≡ false = sym t ∙ ap has_line_feed (sym (c.loop-asks.invariant.held t).1 ∙ sym (ap (λ (s : Held). s.rest) c.self.view_is)) ∙ none.0 in absurd cc;
      ended = λ t. let same : true ≡ false = sym (c.loop-asks.invariant.ended t).1 ∙ sym (ap (λ (s : Held). s.ended) c.self.view_is) ∙ is in absurd cc;
    }
