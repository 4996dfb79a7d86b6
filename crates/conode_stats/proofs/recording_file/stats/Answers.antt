-- The frames are counted, and then their page is written.
use Rattle.std.proofs.Common.{List, ℕ, vec_items}
use Rattle.std.specs.Io.KnownBytes.{Appends}
use Rattle.conode_stats.specs.ExitStatus.{IsMade}
use Rattle.conode_stats.proofs.StatusLemmas.{both, page_any, page_known}
use Rattle.conode_stats.proofs.recording_file.stats.Goals as goal

pub returns-in-Ok-write_page-clause-known : goal.returns-in-Ok-write_page-clause-known
returns-in-Ok-write_page-clause-known g c =
    let settings = c.args.settings.now in
    let counted = c.in-Ok.value in
    let old = g.O.Write.contents c.args.out.now in
    let new = g.O.Write.contents c.write_page.new.out in
    page_known settings counted.counts counted.bad old new
    (both vec_items c.page_of.result (λ made. Appends old new made) (λ made. IsMade settings counted.counts counted.bad made) c.in-Ok-write_page.ensures c.page_of.ensures)
    (g.R.Read.remaining c.args.input.now) c.in-Ok.ensures.known

pub returns-in-Ok-write_page-clause-any_reader : goal.returns-in-Ok-write_page-clause-any_reader
returns-in-Ok-write_page-clause-any_reader g c =
    let settings = c.args.settings.now in
    let counted = c.in-Ok.value in
    let old = g.O.Write.contents c.args.out.now in
    let new = g.O.Write.contents c.write_page.new.out in
    page_any settings counted.counts counted.bad old new
    (both vec_items c.page_of.result (λ made. Appends old new made) (λ made. IsMade settings counted.counts counted.bad made) c.in-Ok-write_page.ensures c.page_of.ensures)
    (g.R.Read.remaining c.args.input.now) (g.R.Read.remaining c.count.new.reader) c.in-Ok.ensures.any_reader
