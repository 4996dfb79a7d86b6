use Rattle.std.proofs.Common.{◌≡◌, ◌++◌, ◌∷◌, take, drop, sym, ap, ◌∙◌, rules, length-take-le}
use Rattle.co_stream.proofs.LineLemmas.{cut_at_feed}
use Rattle.co_stream.proofs.PieceLemmas.{past_feed}
use Rattle.co_stream.proofs.WindowLemmas.{line_taken}
use Rattle.co_stream.proofs.window.Window.take_line.Goals as goal

pub returns-clause-line : goal.returns-clause-line
returns-clause-line c = λ _.
    let w = c.self.inside in
    let front = c.in-Some.front.now in
    let after = c.in-Some.after.now in
    let whole = take w.end w.bytes in
    let cut = cut_at_feed c.rest.result.now front after (search rules) c.in-Some.ensures.before c.in-Some.ensures.after in
    let is : drop w.start whole ≡ front ++ 10 ∷ after = ap (λ t. t.rest) c.self.view_is ∙ sym c.rest.ensures ∙ cut.0 in
    let left = past_feed whole front after w.start w.end is (length-take-le _ _ (search rules)) in
    let line = line_taken w.bytes w.start w.end c.length_without_return-length.result front (10 ∷ after) is (search rules) c.length_without_return-length.ensures.within in
    (front, sym c.rest.ensures ∙ cut.0 ∙ ap (λ l. front ++ 10 ∷ l) (sym left), cut.1, line ∙ sym c.length_without_return-length.ensures.front)
