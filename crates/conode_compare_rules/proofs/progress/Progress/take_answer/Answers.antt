-- What is found at an answer, and what is known then: each part is what its function gives.
use Rattle.std.proofs.Common.{refl}
use Rattle.conode_compare_rules.specs.Channels.{answer_findings}
use Rattle.conode_compare_rules.proofs.progress.Progress.take_answer.Goals as goal

pub returns-clause-findings : goal.returns-clause-findings
unfolding answer_findings
returns-clause-findings c =
    rw (c.of.ensures, c.or-difference.ensures, c.stopped_finding.ensures, c.or.ensures, c.answer_finding.ensures, c.held_finding-held.ensures, c.is_judged-judged.ensures, c.hear-exchange.ensures.written, c.hear-exchange.ensures.exchange, c.answer_nmt-nmt.ensures, c.note_answer-heartbeat.ensures.progress, c.note_answer-heartbeat.ensures.finding, c.is_overdue-overdue.ensures, c.boot_finding-boot.ensures) refl

pub returns-clause-progress : goal.returns-clause-progress
returns-clause-progress c =
    rw (c.note_exchange.ensures, c.hear-exchange.ensures.progress, c.hear-exchange.ensures.exchange, c.note_answer-heartbeat.ensures.progress) refl
