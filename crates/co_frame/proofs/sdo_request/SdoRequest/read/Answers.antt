-- What the bytes say is what they spell.
use Rattle.std.proofs.lemmas.Option.{IfSome_then}
use Rattle.co_frame.proofs.Spellable.{spellable_request}
use Rattle.co_frame.proofs.Requests.{request_spelled, spelled_request}
use Rattle.co_frame.proofs.sdo_request.SdoRequest.read.Goals as goal

pub returns-clause-found : goal.returns-clause-found
returns-clause-found c = rw (c.request_of.ensures, c.bytes.ensures.bytes) (request_spelled c.args.frame.now.bytes)

pub returns-clause-only : goal.returns-clause-only
returns-clause-only c request spelled = rw (c.request_of.ensures, c.bytes.ensures.bytes) (spelled_request request c.args.frame.now.bytes spelled)

pub returns-clause-spellable : goal.returns-clause-spellable
returns-clause-spellable c = IfSome_then _ (returns-clause-found c) (spellable_request c.args.frame.now.bytes)
