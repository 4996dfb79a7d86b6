use Rattle.std.proofs.Common.{◌∙◌, ◌++◌, ◌∷◌, [], List, drop, sym, ap}
use Rattle.co_sheet_text.specs.declared.text_section.Property.{Property as CodeProperty}
use Rattle.co_sheet_text.proofs.CutLemmas.{own_pushed}
use Rattle.co_sheet_text.proofs.PropertyLemmas.{number_added, other_added}
use Rattle.co_sheet_text.proofs.open_section.OpenSection.add.Goals as goal
use Rattle.co_sheet_text.proofs.open_section.OpenSection.add.Goals.{then-all_digits+in_ok-insert, else-all_digits}

pub invariant_of-self-2-clause-indexed : goal.invariant_of-self-2-clause-indexed
invariant_of-self-2-clause-indexed c =
    let s = c.args.self.now in
    let pushed = c.push_reserved.ensures.items ∙ ap (λ (items : List CodeProperty). items ++ c.args.property ∷ []) c.in_ok-reserve.ensures.items in
    let own = own_pushed s.first s.properties.items c.push_reserved.new.self.items c.args.property s.within pushed in
    elim c.if-all_digits.branch [
      | then-all_digits+in_ok-insert w ↦ rw w.self-is
          (number_added s.numbers.keys w.insert.new.self.keys (drop s.first s.properties.items) c.args.property (sym w.if-all_digits.ensures) s.indexed c.requires
          w.in_ok-insert.ensures.keys (drop s.first c.push_reserved.new.self.items) own)
      | else-all_digits w ↦ rw w.self-is
          (other_added s.numbers.keys (drop s.first s.properties.items) c.args.property (sym w.if-all_digits.ensures) s.indexed (drop s.first c.push_reserved.new.self.items) own)
    ]
