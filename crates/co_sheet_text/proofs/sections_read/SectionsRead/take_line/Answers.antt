use Rattle.co_sheet_text.specs.SectionsKept.{sections_kept}
use Rattle.co_sheet_text.proofs.SectionsReadLemmas.{skipped_line}
use Rattle.co_sheet_text.proofs.sections_read.SectionsRead.take_line.Goals as goal

pub returns-in-Skipped-clause-ok : goal.returns-in-Skipped-clause-ok
returns-in-Skipped-clause-ok c =
    let s = c.args.self.now in
    skipped_line (sections_kept s.closed.items s.current) (record { number = c.args.number; bytes = c.args.bytes.now }) c.if-bytes-gt-LONGEST_LINE.false c.in-Skipped.ensures
