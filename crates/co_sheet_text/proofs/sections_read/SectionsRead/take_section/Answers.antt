use Rattle.std.proofs.Common.{ℕ, ◌≡◌, ◌∙◌, ◌++◌, ◌∷◌, [], List, Bool, true, not, Some, is_some, refl, sym, ap, inr}
use Rattle.std.specs.Prelude.{option_map}
use Rattle.co_sheet_text.specs.declared.header.Header.{Header}
use Rattle.co_sheet_text.specs.declared.section_kind.SectionKind.{SectionKind}
use Rattle.co_sheet_text.specs.Names.{kind_of}
use Rattle.co_sheet_text.specs.Sections.{TextSection, fault_at, section_at}
use Rattle.co_sheet_text.specs.LinesRead.{begun_section, empty_section}
use Rattle.co_sheet_text.specs.OpenSections.{open_view}
use Rattle.co_sheet_text.specs.SectionsKept.{sections_kept}
use Rattle.co_sheet_text.proofs.SectionsReadLemmas.{indexes_more, section_fault_is, section_fault, not_read, not_known}
use Rattle.co_sheet_text.proofs.SectionsKeptLemmas.{begun_after, begun_first, same_open, earlier_count, counted_after, counted_first}
use Rattle.co_sheet_text.proofs.sections_read.SectionsRead.take_section.Goals as goal
use Rattle.co_sheet_text.proofs.sections_read.SectionsRead.take_section.Goals.{else-is_read-via-then-is_read+else-not-is_new, else-is_read-via-else-is_read}

pub returns-then-not-is_new-clause-err : goal.returns-then-not-is_new-clause-err
returns-then-not-is_new-clause-err c =
    let s = c.args.self.now in
    let fault = section_fault_is c.args.name.now c.of_name-kind.result s.kinds.keys (sections_kept s.closed.items s.current) c.in_ok-is_new.is_new c.of_name-kind.ensures
    s.indexed c.in_ok-is_new.ensures.added in
    inr (ap (option_map (fault_at c.args.line))
    (fault ∙ ap (λ (b : Bool). section_fault b (not c.in_ok-is_new.is_new)) (sym c.if-is_read.ensures) ∙ ap (λ (b : Bool). section_fault true (not b)) c.if-not-is_new.true))

pub invariant_of-self-in-Some : goal.invariant_of-self-in-Some
invariant_of-self-in-Some c =
    let s = c.args.self.now in
    let kept = sections_kept s.closed.items s.current in
    let whole = c.in-Some.section in
    let counted = s.counted whole c.in-Some.is in
    let pushed = c.push_reserved.ensures.items ∙ ap (λ (items : List Header). items ++ c.header.result ∷ []) c.in_ok-reserve.ensures.items in
    let after = begun_after s.closed.items c.push_reserved.new.self.items s.current (Some c.begin.new.self) c.header.result whole c.begin.new.self
    c.in-Some.is refl pushed (earlier_count s.closed.items whole counted) c.header.ensures.count c.header.ensures.whole c.begin.ensures.earlier in
    record {
      indexed = λ k. indexes_more s.kinds.keys c.insert.new.self.keys kept kept c.of_name-kind.result (open_view c.begin.new.self) s.indexed
          c.in_ok-is_new.ensures.updates.0 refl (ap (λ (t : TextSection). t.kind) c.begin.ensures.begun) k
          ∙ ap (λ (ss : List TextSection). is_some (section_at k ss)) (sym after);
      begun = λ e. cc;
      counted = λ t e. counted_after s.closed.items c.push_reserved.new.self.items c.header.result whole c.begin.new.self t counted pushed
          c.header.ensures.count c.begin.ensures.first (same_open c.begin.new.self t e);
    }

pub invariant_of-self-in-None : goal.invariant_of-self-in-None
invariant_of-self-in-None c =
    let s = c.args.self.now in
    let kept = sections_kept s.closed.items s.current in
    let empty = c.in_ok-reserve.ensures.items ∙ s.begun c.in-None.is in
    let after = begun_first c.reserve.new.self.items s.current (Some c.new.result) c.new.result c.in-None.is refl empty in
    let same = ap (λ (items : List Header). sections_kept items s.current) c.in_ok-reserve.ensures.items in
    record {
      indexed = λ k. indexes_more s.kinds.keys c.insert.new.self.keys kept (sections_kept c.reserve.new.self.items s.current) c.of_name-kind.result (open_view c.new.result) s.indexed
          c.in_ok-is_new.ensures.updates.0 same (ap (λ (t : TextSection). t.kind) c.new.ensures.begun) k
          ∙ ap (λ (ss : List TextSection). is_some (section_at k ss)) (sym after);
      begun = λ e. cc;
      counted = λ t e. counted_first c.reserve.new.self.items c.new.result t empty c.new.ensures.first (same_open c.new.result t e);
    }

-- the section that a name begins, by its kind
begun-is : (kept : List TextSection) (kind : SectionKind) (name : List ℕ) (line : ℕ) (s : TextSection) → s ≡ begun_section kind name line → kind ≡ kind_of name
    → kept ++ s ∷ [] ≡ kept ++ empty_section name line ∷ []
begun-is kept kind name line s begun is =
    ap (λ (t : TextSection). kept ++ t ∷ []) (begun ∙ ap (λ (k : SectionKind). begun_section k name line) is)

pub returns-in-Some-clause-ok : goal.returns-in-Some-clause-ok
returns-in-Some-clause-ok c =
    let s = c.args.self.now in
    let kept = sections_kept s.closed.items s.current in
    let whole = c.in-Some.section in
    let pushed = c.push_reserved.ensures.items ∙ ap (λ (items : List Header). items ++ c.header.result ∷ []) c.in_ok-reserve.ensures.items in
    let fault = section_fault_is c.args.name.now c.of_name-kind.result s.kinds.keys kept c.in_ok-is_new.is_new c.of_name-kind.ensures
    s.indexed c.in_ok-is_new.ensures.added in (
      fault ∙ elim c.else-is_read.branch [
        | else-is_read-via-then-is_read+else-not-is_new w ↦ not_known _ _ (ap not w.if-not-is_new.false)
        | else-is_read-via-else-is_read w ↦ not_read _ _ (sym w.if-is_read.ensures)
      ],
      begun_after s.closed.items c.push_reserved.new.self.items s.current (Some c.begin.new.self) c.header.result whole c.begin.new.self
          c.in-Some.is refl pushed (earlier_count s.closed.items whole (s.counted whole c.in-Some.is)) c.header.ensures.count c.header.ensures.whole c.begin.ensures.earlier
          ∙ begun-is kept c.of_name-kind.result c.args.name.now c.args.line (open_view c.begin.new.self) c.begin.ensures.begun c.of_name-kind.ensures,
    )
