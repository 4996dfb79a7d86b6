use Rattle.std.proofs.Common.{append_assoc, ◌≡◌, ◌++◌, codes, decimal, ℕ, List, length, map, sym, ap, ◌∙◌, Bor}
use Rattle.std.proofs.lemmas.List.{length-map}
use Rattle.std.proofs.lemmas.Result.{IfOk-equal}
use Rattle.co_sheet_changes.specs.Pieces.{assigned}
use Rattle.co_sheet_mend.specs.Repairs.{counted_text, numbered_from}
use Rattle.co_sheet_mend.proofs.lines.push_values.Goals as goal

pub returns : goal.returns
unfolding counted_text
returns c =
    let made = c.args.made.now.items in
    let values = map (λ (v : Bor (List ℕ)). v.now) c.args.values.now in
    let many : length values ≡ length c.args.values.now = length-map c.args.values.now _ in
    let count = assigned (codes "SupportedObjects") (decimal (length values)) in
    let counted : c.push_count.new.made.items ≡ made ++ count =
    c.in_ok-push_count.ensures ∙ ap (λ (n : ℕ). made ++ assigned (codes "SupportedObjects") (decimal n)) (sym many) in
    IfOk-equal c.push_numbered.result _ _ _ c.push_numbered.ensures (rw counted (append_assoc made count (numbered_from 1 values)))
