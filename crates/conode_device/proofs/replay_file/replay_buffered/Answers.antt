use Rattle.std.specs.Process.{exit_status}
use Rattle.conode_device.proofs.Statuses.{only_whole}
use Rattle.conode_device.proofs.replay_file.replay_buffered.Goals as goal

pub returns-clause-whole : goal.returns-clause-whole
returns-clause-whole g c = λ zero.
    let (text, taken, replayed) = c.replay_input.ensures.whole (only_whole c.replay_input.result (exit_status c.status-2.result) c.status-2.ensures zero) in
    (text, replayed)
