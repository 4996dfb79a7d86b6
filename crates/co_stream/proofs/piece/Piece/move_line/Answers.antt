use Rattle.std.proofs.Common.{◌++◌, ◌∷◌, take, sym, ap, ◌∙◌, rules, length-take-le}
use Rattle.co_stream.proofs.LineLemmas.{cut_at_feed}
use Rattle.co_stream.proofs.PieceLemmas.{past_feed, always_err}
use Rattle.co_stream.proofs.piece.Piece.move_line.Goals as goal

pub returns-in_err-add-in-Some-clause-too_long : goal.returns-in_err-add-in-Some-clause-too_long
returns-in_err-add-in-Some-clause-too_long c =
    let cut = cut_at_feed c.rest.result.now c.in-Some.front.now c.in-Some.after.now (search rules) c.in-Some.ensures.before c.in-Some.ensures.after in
    always_err c.from_residual.result _ (λ e. (c.in-Some.front.now, 10 ∷ c.in-Some.after.now, sym c.rest.ensures ∙ cut.0, cut.1, search rules))

pub returns-in_ok-add-in-Some-clause-whole : goal.returns-in_ok-add-in-Some-clause-whole
returns-in_ok-add-in-Some-clause-whole c = λ _.
    let cut = cut_at_feed c.rest.result.now c.in-Some.front.now c.in-Some.after.now (search rules) c.in-Some.ensures.before c.in-Some.ensures.after in
    let whole = take c.self.inside.end c.self.inside.bytes in
    let left = past_feed whole c.in-Some.front.now c.in-Some.after.now c.self.inside.start c.self.inside.end (c.self.view_is ∙ sym c.rest.ensures ∙ cut.0) (length-take-le _ _ (search rules)) in
    (c.in-Some.front.now, sym c.rest.ensures ∙ cut.0 ∙ ap (λ l. c.in-Some.front.now ++ 10 ∷ l) (sym left), cut.1, search rules)
