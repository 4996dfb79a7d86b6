use Rattle.std.proofs.Common.{ap, ◌∙◌}
use Rattle.conode_stats_counts.specs.declared.load.Load.{Load}
use Rattle.conode_stats_counts.specs.declared.tally.Tally.{Tally}
use Rattle.conode_stats_text.specs.Tables.{unknown_line}
use Rattle.conode_stats_text.specs.StatsLines.{load_line}
use Rattle.conode_stats_text.proofs.Appended.{both, same}
use Rattle.conode_stats_text.proofs.tables.push_loads.Goals as goal

pub returns-in-Some : goal.returns-in-Some
returns-in-Some c =
    let bus = c.args.bus.now in
    let rate = c.in-Some.rate in
    let line =
    ap (λ (l : Load). load_line rate c.all.result l) c.load-load.ensures ∙ ap (λ (a : Tally). load_line rate a bus.load) c.all.ensures in
    rw c.in-Some.is
    (both _ _ _ _ _ (same _ _ _ _ line c.push_load.ensures)
    (same _ _ _ _ (ap (λ (l : Load). unknown_line l.unknown) c.load-load.ensures) c.push_unknown.ensures))
