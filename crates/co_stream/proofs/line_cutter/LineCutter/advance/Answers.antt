use Rattle.std.proofs.Common.{◌≡◌, ◌++◌, [], ◌∙◌, sym, ap, length, false, rules, arith, length-append}
use Rattle.std.proofs.lemmas.Result.{IfErr-weaker}
use Rattle.std.specs.Io.KnownBytes.{Keeps}
use Rattle.co_stream.specs.Readings.{known_bytes}
use Rattle.co_stream.proofs.LineLemmas.{no_feed-append}
use Rattle.co_stream.proofs.PieceLemmas.{always_err}
use Rattle.co_stream.proofs.Readers.{gave_so, gave_then, gave_kept}
use Rattle.co_stream.proofs.ReadingLemmas.{piece_too_long, part_lost, last_line, last_line_too_long, line_ended, more_came, no_line, past_end}
use Rattle.co_stream.proofs.line_cutter.LineCutter.advance.Goals as goal

pub returns-in_err-move_line-clause-too_long : goal.returns-in_err-move_line-clause-too_long
returns-in_err-move_line-clause-too_long g c =
    let now = c.loop-self.self in
    let old = c.args.self.now in
    always_err c.from_residual.result _ (λ e _.
    gave_so old.ended now.ended (g.R.Read.remaining c.args.reader.now) (g.R.Read.remaining c.loop-self.reader) _ _ c.loop-self.invariant.came
    (λ had has came. piece_too_long (known_bytes old.ended old.piece had) now.ended now.line now.piece has came c.loop-self.invariant.within (search rules)))

pub returns-in_err-refill-clause-within : goal.returns-in_err-refill-clause-within
returns-in_err-refill-clause-within g c =
    let now = c.loop-self.self in
    let old = c.args.self.now in
    let moved = c.move_line.ensures.part (search rules) in
    let unended : now.ended ≡ false = search rules in
    let kept : Keeps (g.R.Read.remaining c.loop-self.reader) (g.R.Read.remaining c.refill.new.reader) = search rules in
    always_err c.from_residual-in_err-refill.result _ (λ e _.
    gave_then old.ended now.ended c.refill.new.self.ended (g.R.Read.remaining c.args.reader.now) (g.R.Read.remaining c.loop-self.reader) (g.R.Read.remaining c.refill.new.reader) _ _ _
    c.loop-self.invariant.came (gave_kept now.ended c.refill.new.self.ended _ _ unended kept)
    (λ had mid has came same. part_lost (known_bytes old.ended old.piece had) now.ended now.line now.piece mid has came c.loop-self.invariant.within moved.1 unended same))

pub returns-then-not-branch-2-clause-line : goal.returns-then-not-branch-2-clause-line
returns-then-not-branch-2-clause-line g c = λ done.
    let now = c.loop-self.self in
    let old = c.args.self.now in
    let next = c.refill.new.self in
    let moved = c.move_line.ensures.part (search rules) in
    let last = c.last_line.ensures.line done in
    let ended = c.refill.ensures.end (search rules) in
    let text : next.line ≡ now.line ++ now.piece = c.refill.ensures.line ∙ moved.2 in
    rw (c.last_line.ensures.ended, c.last_line.ensures.piece, last.0)
    (gave_then old.ended now.ended next.ended (g.R.Read.remaining c.args.reader.now) (g.R.Read.remaining c.loop-self.reader) (g.R.Read.remaining c.refill.new.reader) _ _ _
    c.loop-self.invariant.came (search rules)
    (λ had mid has came kept. last_line (known_bytes old.ended old.piece had) now.ended next.ended now.line now.piece next.piece next.line mid has came c.loop-self.invariant.within moved.1 kept ended.1 ended.0 text last.1))

pub returns-then-not-branch-2-clause-end : goal.returns-then-not-branch-2-clause-end
returns-then-not-branch-2-clause-end g c = λ done.
    let now = c.loop-self.self in
    let old = c.args.self.now in
    let next = c.refill.new.self in
    let moved = c.move_line.ensures.part (search rules) in
    let ended = c.refill.ensures.end (search rules) in
    let text : next.line ≡ now.line ++ now.piece = c.refill.ensures.line ∙ moved.2 in
    let none : now.line ++ now.piece ≡ [] = sym text ∙ c.last_line.ensures.none done in
    rw (c.last_line.ensures.ended, c.last_line.ensures.piece) (
      gave_then old.ended now.ended next.ended (g.R.Read.remaining c.args.reader.now) (g.R.Read.remaining c.loop-self.reader) (g.R.Read.remaining c.refill.new.reader) _ _ _
          c.loop-self.invariant.came (search rules)
          (λ had mid has came kept. (no_line (known_bytes old.ended old.piece had) now.ended next.ended now.line now.piece next.piece mid has came kept ended.1 ended.0 none, past_end next.ended next.piece has ended.1 ended.0)),
      ended.0,
      ended.1,
    )

pub returns-then-not-branch-2-clause-too_long : goal.returns-then-not-branch-2-clause-too_long
returns-then-not-branch-2-clause-too_long g c =
    let now = c.loop-self.self in
    let old = c.args.self.now in
    let next = c.refill.new.self in
    let moved = c.move_line.ensures.part (search rules) in
    let ended = c.refill.ensures.end (search rules) in
    let text : next.line ≡ now.line ++ now.piece = c.refill.ensures.line ∙ moved.2 in
    rw c.last_line.ensures.ended (IfErr-weaker c.last_line.result _ _
    (λ e last _. gave_then old.ended now.ended next.ended (g.R.Read.remaining c.args.reader.now) (g.R.Read.remaining c.loop-self.reader) (g.R.Read.remaining c.refill.new.reader) _ _ _
    c.loop-self.invariant.came (search rules)
    (λ had mid has came kept. last_line_too_long (known_bytes old.ended old.piece had) now.ended next.ended now.line now.piece next.piece next.line mid has came c.loop-self.invariant.within moved.1 kept ended.1 ended.0 text last.1))
    c.last_line.ensures.too_long)

pub loop-self-preserved : goal.loop-self-preserved
loop-self-preserved g c =
    let now = c.loop-self.self in
    let old = c.args.self.now in
    let next = c.refill.new.self in
    let moved = c.move_line.ensures.part (search rules) in
    record {
      came = rw (c.refill.ensures.line, moved.2)
          (gave_then old.ended now.ended next.ended (g.R.Read.remaining c.args.reader.now) (g.R.Read.remaining c.loop-self.reader) (g.R.Read.remaining c.refill.new.reader) _ _ _
          c.loop-self.invariant.came (search rules)
          (λ had mid has came kept. more_came (known_bytes old.ended old.piece had) now.ended next.ended now.line now.piece next.piece mid has came kept));
      within = rw (c.refill.ensures.line, moved.2) (no_feed-append now.line now.piece c.loop-self.invariant.within moved.1);
      held = search rules;
      ended = search rules;
      asked = search rules;
      few = rw (c.refill.ensures.line, moved.2) (omega (arith, length-append now.line now.piece, c.in_ok-refill.ensures.few, c.loop-self.invariant.few, ap length moved.0));
    }

pub returns-clause-line : goal.returns-clause-line
returns-clause-line g c = λ _.
    let now = c.loop-self.self in
    let old = c.args.self.now in
    let moved = c.move_line.ensures.whole (search rules) in
    let (front, cut, h, grown) = moved in
    rw grown (gave_so old.ended now.ended (g.R.Read.remaining c.args.reader.now) (g.R.Read.remaining c.loop-self.reader) _ _ c.loop-self.invariant.came
    (λ had has came. line_ended (known_bytes old.ended old.piece had) now.ended now.line now.piece front c.move_line.new.self has came c.loop-self.invariant.within cut h))
