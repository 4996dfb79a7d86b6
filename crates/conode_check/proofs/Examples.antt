-- The lines, evaluated.
use Rattle.std.proofs.Common.{◌≡◌, [], ◌∷◌, None, codes, refl}
use Rattle.std.specs.Fmt.{digits}
use Rattle.conode_text.specs.Filled.{filled}
use Rattle.co_sheet.specs.Content.{ObjectRow, Row}
use Rattle.co_sheet_rows.specs.declared.note.Note.{Note}
use Rattle.conode_check.specs.SheetTexts.{joined, node_line, summary_line}

own_node : node_line 127 ≡ codes "node 127\n"
unfolding node_line filled digits
own_node = refl

two_lines : joined (codes "a\n" ∷ codes "b\n" ∷ []) ≡ codes "a\nb\n"
two_lines = refl

-- each number at its place
of_three : (object : ObjectRow) (row : Row) (note : Note)
    → summary_line (record { objects = object ∷ []; rows = row ∷ row ∷ []; sections = []; notes = note ∷ note ∷ note ∷ []; dummies = []; node_id = None })
    ≡ codes "ok: 1 objects, 2 entries, 3 notes\n"
unfolding summary_line filled digits
of_three object row note = refl
