-- The number of a word comes in the line's place.
use Rattle.std.proofs.Common.{◌≡◌, Bool, List, ℕ, ◌++◌, Option, Some, OnOk, ap, codes, map, subst, sym, take, ◌∙◌}
use Rattle.std.specs.Option.{option_map_or}
use Rattle.co_sheet_changes.specs.Pieces.{assigned}
use Rattle.co_sheet_changes.specs.Views.{line_view}
use Rattle.co_sheet_text.specs.LinesAtFault.{emptied}
use Rattle.co_sheet_mend.specs.Repairs.{code_given, ended, is_sub_of, most_looked_at, next_section}
use Rattle.co_sheet_mend.proofs.lines.push_dropped.Goals as goal

pub returns-in-Some : goal.returns-in-Some
returns-in-Some c =
    let line = line_view c.args.line.now in
    let has_sub = is_sub_of c.args.key (next_section (take most_looked_at (map line_view c.args.more.now))) in
    let found : c.is_sub_of.result ≡ has_sub = c.is_sub_of.ensures ∙ ap (is_sub_of c.args.key) (c.next_section.ensures ∙ ap next_section c.near.ensures) in
    let given : Some c.in-Some.code.now ≡ code_given has_sub line = c.in-Some.ensures ∙ ap (λ (b : Bool). code_given b line) found in
    subst (λ (code : Option (List ℕ)). OnOk c.push_assigned.result (c.push_assigned.new.made.items ≡ c.args.made.now.items ++ option_map_or (assigned (codes "ObjectType")) code (ended (emptied line).bytes)))
    given c.push_assigned.ensures
