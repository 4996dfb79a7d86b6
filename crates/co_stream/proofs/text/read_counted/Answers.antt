use Rattle.std.proofs.Common.{rules, ◌≡◌, [], take, subst, arith, append-nil}
use Rattle.std.specs.Io.KnownBytes.{Consumes}
use Rattle.std.proofs.KnownBytes.{Consumes-trans}
use Rattle.co_stream.proofs.TextLemmas.{whole_text, first_bytes}
use Rattle.co_stream.proofs.text.read_counted.Goals as goal

pub returns-then-count-eq0-clause-text : goal.returns-then-count-eq0-clause-text
returns-then-count-eq0-clause-text g c =
    let remaining = g.R.Read.remaining in
    let text = c.loop-piece.text.items in
    let none : c.in_ok-count.count ≡ 0 = search rules in
    let moved : Consumes (remaining c.loop-piece.reader) (remaining c.ask.new.reader) [] = subst (λ n. Consumes (remaining c.loop-piece.reader) (remaining c.ask.new.reader) (take n c.ask.new.room)) none c.in_ok-count.ensures.bytes.0 in
    let came = subst (Consumes (remaining c.args.reader.now) (remaining c.ask.new.reader)) (append-nil text) (Consumes-trans _ _ _ text [] c.loop-piece.invariant.came moved) in
    whole_text _ (remaining c.ask.new.reader) text 1048577 came (c.in_ok-count.ensures.bytes.1 none (search rules)) c.loop-piece.invariant.size

pub returns-clause-text : goal.returns-clause-text
returns-clause-text g c = first_bytes _ (g.R.Read.remaining c.loop-piece.reader) c.loop-piece.text.items 1048577 c.loop-piece.invariant.came (omega (arith, c.loop-piece.invariant.size, c.loop-piece-test.false))
