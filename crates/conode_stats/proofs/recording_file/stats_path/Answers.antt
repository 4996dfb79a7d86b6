-- Of standard input or of a file, some text.
use Rattle.conode_stats.proofs.StatusLemmas.{counts_all}
use Rattle.conode_stats.proofs.recording_file.stats_path.Goals as goal

pub returns-then-eq-clause-whole : goal.returns-then-eq-clause-whole
returns-then-eq-clause-whole g c =
    counts_all c.args.settings.now (g.O.Write.contents c.args.out.now) (g.O.Write.contents c.stats_input.new.out) _ _ _ c.stats_input.ensures.any_reader

pub returns-in-Ok-clause-whole : goal.returns-in-Ok-clause-whole
returns-in-Ok-clause-whole g c =
    counts_all c.args.settings.now (g.O.Write.contents c.args.out.now) (g.O.Write.contents c.stats_input-in-Ok.new.out) _ _ _ c.stats_input-in-Ok.ensures.any_reader
