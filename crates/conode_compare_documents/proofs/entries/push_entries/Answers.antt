-- One part after another.
use Rattle.conode_compare_report.proofs.Places.{rows_counted}
use Rattle.conode_compare_documents.specs.Coverage.{entries_begin, entries_text}
use Rattle.conode_json.proofs.Appending.{both}
use Rattle.conode_compare_documents.proofs.entries.push_entries.Goals as goal

pub returns : goal.returns
unfolding entries_text entries_begin
returns c =
    both (both (both (both (rw (c.transferred_count.ensures, ← rows_counted c.args.rows.now) at c.put.ensures) c.push_items.ensures) c.put_words.ensures) c.push_items-2.ensures) c.put_words-2.ensures
