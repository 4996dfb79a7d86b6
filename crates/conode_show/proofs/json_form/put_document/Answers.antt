-- One part after another.
use Rattle.std.proofs.Common.{append-nil}
use Rattle.std.specs.Prelude.{codes, option_map, pos}
use Rattle.conode_json.specs.Members.{number_if, number_member}
use Rattle.conode_show.specs.JsonForm.{document_tokens}
use Rattle.conode_text.proofs.Appending.{both}
use Rattle.conode_show.proofs.json_form.put_document.Goals as goal

pub returns : goal.returns
unfolding document_tokens number_member
returns c =
    let begun = rw (c.node_number.ensures, append-nil (number_if (codes "node") (option_map pos c.args.node))) at c.put.ensures in
    both (both (both (both begun c.put_chapter.ensures) c.put_chapter-2.ensures) c.put_chapter-3.ensures) c.put-2.ensures
