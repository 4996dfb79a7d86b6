-- What is known after a frame of the SDO channel: each part is what its function gives.
use Rattle.std.proofs.Common.{refl, sym}
use Rattle.conode_compare_rules.specs.Channels.{channel_heard, exchange_at}
use Rattle.conode_compare_rules.proofs.progress.Progress.hear.Goals as goal

pub returns-clause-progress : goal.returns-clause-progress
unfolding channel_heard exchange_at
returns-clause-progress c =
    rw (sym c.hear-exchange.ensures.exchange, sym c.hear-exchange.ensures.next, c.leave_open.ensures, c.asked_then-self.ensures, c.asks_for_profile-asks.ensures, c.hear_pdos_by.ensures, c.hear_pdos.ensures, c.leave_pdos.ensures, c.with_asked-self.ensures)
    (rw (c.newest_asked-newest.ensures, c.with_former-heartbeats.ensures, c.period_asked_by-longest.ensures, c.period_then-period_then.ensures, c.heard-heartbeats.ensures, c.with_sharing-entries.ensures, c.shares_id-shares.ensures, c.asked_by-entries.ensures, c.entries_heard-entries.ensures, c.note_heard.ensures, c.hides_end-other.ensures, c.leaves_unknown-unknown.ensures, c.may_miss_end-misses.ensures, c.is_doubtful-doubtful.ensures) refl)
