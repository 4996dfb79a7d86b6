-- The last line feed, or that there is none.
use Rattle.co_stream.proofs.PieceLemmas.{ends_nowhere, ends_past}
use Rattle.co_stream.proofs.window.past_last_feed.Goals as goal

pub returns-in-Some : goal.returns-in-Some
returns-in-Some c = ends_past c.args.bytes.now c.in-Some.place c.in-Some.ensures.0 c.in-Some.ensures.1

pub returns-in-None : goal.returns-in-None
returns-in-None c = ends_nowhere c.args.bytes.now c.in-None.ensures
