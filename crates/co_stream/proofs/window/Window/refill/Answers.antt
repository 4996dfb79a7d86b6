use Rattle.std.proofs.Common.{◌≡◌, ℕ, List, ◌-◌, ◌++◌, ◌<◌, length, take, sym, ap, refl, ◌∙◌, rules, arith, append-nil, ltb, false}
use Rattle.std.proofs.lemmas.Bool.Decides.{nat_tests}
use Rattle.std.proofs.lemmas.Slice.{take-put_mid_below}
use Rattle.std.proofs.lemmas.List.{length-take-le, length-drop}
use borrow.Rule.Slice.PartMut.{mid_len}
use Rattle.std.specs.List.{copy_within}
use Rattle.co_stream.proofs.PieceLemmas.{always_err}
use Rattle.co_stream.proofs.WindowLemmas.{moved, taken_more}
use Rattle.co_stream.proofs.window.Window.refill.Goals as goal

pub returns-in_err-count-clause-rest : goal.returns-in_err-count-clause-rest
returns-in_err-count-clause-rest g c =
    let w = c.self.inside in
    let after : c.copy_within.new.self ≡ copy_within w.bytes w.start w.end 0 = c.copy_within.ensures.after in
    let front : take (w.end - w.start) c.copy_within.new.self ≡ c.args.self.now.rest = ap (take (w.end - w.start)) after ∙ moved w.bytes w.start w.end (w.end - w.start) (omega arith) (search rules) refl ∙ ap (λ t. t.rest) c.self.view_is in
    always_err c.from_residual.result _ (λ e. take-put_mid_below (w.end - w.start) _ c.copy_within.new.self c.ask.new.room (w.end - w.start) (omega arith) (search rules) ∙ front)

pub returns-clause-more : goal.returns-clause-more
returns-clause-more g c =
    let w = c.self.inside in
    let count = c.in_ok-count.count in
    let after : c.copy_within.new.self ≡ copy_within w.bytes w.start w.end 0 = c.copy_within.ensures.after in
    let front : take (w.end - w.start) c.copy_within.new.self ≡ c.args.self.now.rest = ap (take (w.end - w.start)) after ∙ moved w.bytes w.start w.end (w.end - w.start) (omega arith) (search rules) refl ∙ ap (λ t. t.rest) c.self.view_is in (
      take count c.ask.new.room,
      taken_more (w.end - w.start) count _ c.copy_within.new.self c.ask.new.room (search rules) c.in_ok-count.ensures.bound ∙ ap (λ (l : List ℕ). l ++ take count c.ask.new.room) front,
      c.in_ok-count.ensures.bytes.0,
    )

pub returns-clause-end : goal.returns-clause-end
returns-clause-end g c = λ e.
    let w = c.self.inside in
    let count = c.in_ok-count.count in
    let none : ltb 0 count ≡ false = cc in
    let zero : count ≡ 0 = grind (arith, nat_tests, none) in
    let after : c.copy_within.new.self ≡ copy_within w.bytes w.start w.end 0 = c.copy_within.ensures.after in
    let front : take (w.end - w.start) c.copy_within.new.self ≡ c.args.self.now.rest = ap (take (w.end - w.start)) after ∙ moved w.bytes w.start w.end (w.end - w.start) (omega arith) (search rules) refl ∙ ap (λ t. t.rest) c.self.view_is in
    let size : length c.args.self.now.rest ≡ w.end - w.start = ap (λ t. length t.rest) (sym c.self.view_is) ∙ length-drop w.start (take w.end w.bytes) ∙ ap (λ n. n - w.start) (length-take-le w.end w.bytes (search rules)) in
    let same = c.ask.ensures.length in
    let part = mid_len (w.end - w.start) 8192 c.copy_within.new.self (search rules) in
    let room : 0 < length c.ask.new.room = omega (arith, size, same, part, c.requires) in (
      taken_more (w.end - w.start) count _ c.copy_within.new.self c.ask.new.room (search rules) c.in_ok-count.ensures.bound ∙ ap (λ (l : List ℕ). l ++ take count c.ask.new.room) front
          ∙ ap (λ (n : ℕ). c.args.self.now.rest ++ take n c.ask.new.room) zero ∙ append-nil c.args.self.now.rest,
      c.in_ok-count.ensures.bytes.1 zero room,
    )
