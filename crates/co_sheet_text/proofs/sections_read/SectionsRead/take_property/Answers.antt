use Rattle.std.proofs.Common.{◌≡◌, ◌∙◌, ◌++◌, ◌∷◌, [], List, Option, None, Result, Ok, Err, OnOk, OnErr, IfErr, is_some, sym, ap, inr}
use Rattle.std.specs.Prelude.{option_map}
use Rattle.co_sheet_text.specs.declared.section_kind.SectionKind.{SectionKind}
use Rattle.co_sheet_text.specs.declared.fault.TextFault.{TextFault}
use Rattle.co_sheet_text.specs.declared.open_section.OpenSection.{OpenSection}
use Rattle.co_sheet_text.specs.declared.text_section.Property.{Property as CodeProperty}
use Rattle.co_sheet_text.specs.Sections.{TextSection, Property, fault_at, name_value, property_given, section_at}
use Rattle.co_sheet_text.specs.LinesRead.{with_property, fault_within}
use Rattle.co_sheet_text.specs.Cuts.{cut}
use Rattle.co_sheet_text.specs.OpenSections.{open_view, earlier_properties}
use Rattle.co_sheet_text.proofs.SectionsReadLemmas.{section_at-with_property}
use Rattle.co_sheet_text.proofs.SectionsKeptLemmas.{kept_some, last_kept, none_kept, with_last-kept, fault_at_last, same_open}
use Rattle.co_sheet_text.proofs.sections_read.SectionsRead.take_property.Goals as goal

-- whether a section of a kind is there doesn't change, whether the line is taken or not
kinds-kept : {X : Type 0} (r : Result X TextFault) (k : SectionKind) (ss : List TextSection) (s t : TextSection) (o : Option Property)
    → OnOk r (t ≡ with_property s o) → OnErr r (t ≡ s) → is_some (section_at k (ss ++ s ∷ [])) ≡ is_some (section_at k (ss ++ t ∷ []))
kinds-kept (Ok x) k ss s t o taken kept = section_at-with_property k ss s t o taken
kinds-kept (Err e) k ss s t o taken kept = section_at-with_property k ss s t None kept

ok-both : {X : Type 0} (r : Result X TextFault) (A B C : Type 0) → (A → B → C) → OnOk r A → OnOk r B → OnOk r C
ok-both (Ok x) A B C f a b = f a b
ok-both (Err e) A B C f a b = tt

err-more : {X : Type 0} (r : Result X TextFault) (P Q : TextFault → Type 0) → ((e : TextFault) → P e → Q e) → IfErr r P → IfErr r Q
err-more (Ok x) P Q f p = tt
err-more (Err e) P Q f p = f e p

pub invariant_of-self : goal.invariant_of-self
invariant_of-self c =
    let s = c.args.self.now in
    let old = c.in-Some.section in
    let new = c.take_line.new.self in
    let front = cut s.closed.items (earlier_properties old) in
    record {
      indexed = λ k. s.indexed k
          ∙ ap (λ r. is_some (section_at k r)) (kept_some s.closed.items s.current old c.in-Some.is)
          ∙ kinds-kept c.take_line.result k front (open_view old) (open_view new)
          (property_given old.kind c.args.line (name_value c.args.name.now c.args.value.now)) c.take_line.ensures.taken c.take_line.ensures.kept
          ∙ ap (λ (ps : List CodeProperty). is_some (section_at k (cut s.closed.items ps ++ open_view new ∷ []))) (sym c.take_line.ensures.earlier.earlier);
      begun = λ e. cc;
      counted = λ t e. s.counted old c.in-Some.is ∙ sym c.take_line.ensures.earlier.first ∙ ap (λ (o : OpenSection). o.first) (same_open new t e);
    }

pub returns-in-Some-clause-ok : goal.returns-in-Some-clause-ok
returns-in-Some-clause-ok c =
    let s = c.args.self.now in
    let form = name_value c.args.name.now c.args.value.now in
    ok-both c.take_line.result _ _ _
    (λ good taken. (
      ap (λ (o : Option TextSection). fault_within o form) (last_kept s.closed.items s.current c.in-Some.section c.in-Some.is) ∙ good,
      with_last-kept (λ t. with_property t (property_given t.kind c.args.line form)) s.closed.items s.current c.in-Some.section c.take_line.new.self c.in-Some.is taken
          c.take_line.ensures.earlier.earlier,
    )) c.take_line.ensures.good c.take_line.ensures.taken

pub returns-in-Some-clause-err : goal.returns-in-Some-clause-err
returns-in-Some-clause-err c =
    let s = c.args.self.now in
    err-more c.take_line.result _ _
    (λ e bad. fault_at_last e _ (open_view c.in-Some.section) (name_value c.args.name.now c.args.value.now) c.args.line
    (last_kept s.closed.items s.current c.in-Some.section c.in-Some.is) bad) c.take_line.ensures.err

pub returns-in-None-clause-err : goal.returns-in-None-clause-err
returns-in-None-clause-err c =
    let s = c.args.self.now in
    inr (ap (λ (o : Option TextSection). option_map (fault_at c.args.line) (fault_within o (name_value c.args.name.now c.args.value.now)))
    (none_kept s.closed.items s.current c.in-None.is))
