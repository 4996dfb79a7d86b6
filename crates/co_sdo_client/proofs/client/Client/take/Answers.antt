-- A frame, over all events that the client stands after.
use Rattle.std.proofs.Common.{◌≡◌, true, sym, ◌∙◌, arith}
use Rattle.std.proofs.lemmas.Bool.Decides.{nat_tests}
use Rattle.co_sdo_client.specs.Standing.{is_answer_on}
use Rattle.co_sdo_client.proofs.TakeLemmas.{frame_stands}
use Rattle.co_sdo_client.proofs.client.Client.take.Goals as goal

pub returns-clause-stands : goal.returns-clause-stands
returns-clause-stands c = λ call events h.
    let on : is_answer_on c.args.self.now.answer c.args.frame.now ≡ true = grind (arith, nat_tests) in
    rw (on, c.take_answer.ensures.client) (frame_stands call events c.args.self.now c.args.frame.now.bytes h (sym c.waits.ensures ∙ c.if-not-waits.false))
