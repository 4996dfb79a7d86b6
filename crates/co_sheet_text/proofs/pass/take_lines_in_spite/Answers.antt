use Rattle.std.proofs.Common.{◌≡◌, ◌∷◌, ◌++◌, [], ap, ◌∙◌, rules, arith}
use Rattle.std.specs.List.{cons_option}
use Rattle.std.specs.Str.Lines.{lines}
use Rattle.co_sheet_text.specs.SectionsKept.{sections_kept}
use Rattle.co_sheet_text.proofs.ReadLemmas.{on_all, on_next, on_end}
use Rattle.co_sheet_text.proofs.pass.take_lines_in_spite.Goals as goal

pub loop-line-init : goal.loop-line-init
loop-line-init c =
    let s = c.args.sections.now in
    record {
      reads = on_all c.args.text.now c.without_mark-rest.result.now (sections_kept s.closed.items s.current) c.args.faults.now.items c.without_mark-rest.ensures.text c.requires.new c.requires.none;
      few = omega arith;
    }

pub loop-line-preserved : goal.loop-line-preserved
loop-line-preserved c =
    let s = c.loop-line.sections in
    let t = c.take_in_spite.new.self in
    let first : lines c.loop-line.rest.now ≡ c.in-Some.line.now ∷ lines c.in-Some.others.now = search rules in
    record {
      reads = on_next c.args.text.now c.loop-line.rest.now c.in-Some.others.now c.in-Some.line.now c.loop-line.number (sections_kept s.closed.items s.current) (sections_kept t.closed.items t.current) c.loop-line.faults.items c.add_fault.new.faults.items
          c.loop-line.invariant.reads first c.in_ok-fault.ensures.taken (c.in_ok-add_fault.ensures ∙ ap (λ o. c.loop-line.faults.items ++ cons_option o []) c.in_ok-fault.ensures.fault);
      few = omega (arith, c.in-Some.ensures.shorter);
    }

pub returns-clause-sections : goal.returns-clause-sections
returns-clause-sections c =
    let s = c.loop-line.sections in
    let none : lines c.loop-line.rest.now ≡ [] = search rules in
    (on_end c.args.text.now c.loop-line.rest.now c.loop-line.number (sections_kept s.closed.items s.current) c.loop-line.faults.items c.loop-line.invariant.reads none).1

pub returns-clause-faults : goal.returns-clause-faults
returns-clause-faults c =
    let s = c.loop-line.sections in
    let none : lines c.loop-line.rest.now ≡ [] = search rules in
    (on_end c.args.text.now c.loop-line.rest.now c.loop-line.number (sections_kept s.closed.items s.current) c.loop-line.faults.items c.loop-line.invariant.reads none).0
