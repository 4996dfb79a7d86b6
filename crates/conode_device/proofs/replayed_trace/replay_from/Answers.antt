use Rattle.co_stream.proofs.Readers.{of_given, of_known}
use Rattle.conode_device.proofs.replayed_trace.replay_from.Goals as goal

pub returns-clause-known : goal.returns-clause-known
returns-clause-known g c =
    let (ended, gave) = c.replay_whole.ensures in
    of_known _ ended (g.R.Read.remaining c.args.reader.now) (g.R.Read.remaining c.replay_whole.new.reader) _ gave

pub returns-clause-any_reader : goal.returns-clause-any_reader
returns-clause-any_reader g c =
    let (ended, gave) = c.replay_whole.ensures in
    (gave.bytes, gave.taken, of_given _ ended (g.R.Read.remaining c.args.reader.now) (g.R.Read.remaining c.replay_whole.new.reader) _ gave)
