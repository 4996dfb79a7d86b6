-- What the bytes say is what they spell.
use Rattle.std.proofs.lemmas.Option.{IfSome_then}
use Rattle.co_frame.proofs.Spellable.{spellable_response}
use Rattle.co_frame.proofs.Responses.{response_spelled, spelled_response}
use Rattle.co_frame.proofs.sdo_response.SdoResponse.read.Goals as goal

pub returns-clause-found : goal.returns-clause-found
returns-clause-found c = rw (c.response_of.ensures, c.bytes.ensures.bytes) (response_spelled c.args.frame.now.bytes)

pub returns-clause-only : goal.returns-clause-only
returns-clause-only c response spelled = rw (c.response_of.ensures, c.bytes.ensures.bytes) (spelled_response response c.args.frame.now.bytes spelled)

pub returns-clause-spellable : goal.returns-clause-spellable
returns-clause-spellable c = IfSome_then _ (returns-clause-found c) (spellable_response c.args.frame.now.bytes)
