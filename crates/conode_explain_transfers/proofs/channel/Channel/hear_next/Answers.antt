-- What the channel takes, by what each step gives.
use Rattle.std.proofs.Common.{ap}
use Rattle.conode_explain_transfers.proofs.HeardLemmas.{says_next, next_next}
use Rattle.conode_explain_transfers.proofs.channel.Channel.hear_next.Goals as goal

pub returns-clause-says : goal.returns-clause-says
returns-clause-says c = says_next _ _ _ _ _ _ _ _ _ _ c.make_up.ensures c.take-heard.ensures.heard c.awaits_answer-awaits.ensures c.last_again-again.ensures c.named.ensures c.sure_end.ensures

pub returns-clause-next : goal.returns-clause-next
returns-clause-next c = next_next _ _ _ _ _ _ _ _ c.make_up.ensures c.take-heard.ensures.next (ap (λ h. h.what) c.take-heard.ensures.heard) c.note.ensures
