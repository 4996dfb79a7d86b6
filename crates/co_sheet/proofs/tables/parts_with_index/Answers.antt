use Rattle.std.proofs.Common.{◌≡◌, ◌∙◌, List, true, false, map, take, drop, ltb, leb, rules, sym, ap, subst}
use Rattle.std.specs.List.Sorted.{IsNonDecreasingBy, IsPartitionPoint}
use Rattle.std.proofs.lemmas.List.Sorted.{IsNonDecreasingBy-drop, IsPartitionedBy-ltb, IsPartitionedBy-leb, IsPartitionPoint-from_clause}
use Rattle.co_sheet.specs.declared.tables.EntrySection.{EntrySection}
use Rattle.co_sheet.specs.SectionViews.{entry_view}
use Rattle.co_sheet.proofs.PartLemmas.{own_parts, parts-filter}
use Rattle.co_sheet.proofs.tables.parts_with_index.Goals as goal

pub returns : goal.returns
returns c =
    let parts = c.args.parts.now in
    let i = c.args.index in
    let first = c.partition_point.result in
    let n = c.partition_point-2.result in
    let index = λ (e : EntrySection). e.key.index in
    let rest : c.split_at.result.1.now ≡ drop first parts = c.split_at.ensures.back in
    let low = IsPartitionPoint-from_clause (λ (e : EntrySection). ltb e.key.index i) parts first c.partition_point.ensures.partitioned
    (IsPartitionedBy-ltb index parts i c.requires) (λ a r f' k. search rules) in
    let by_index = subst (IsNonDecreasingBy index) (sym rest) (IsNonDecreasingBy-drop index first parts c.requires) in
    let high = IsPartitionPoint-from_clause (λ (e : EntrySection). leb e.key.index i) c.split_at.result.1.now n c.partition_point-2.ensures.partitioned
    (IsPartitionedBy-leb index c.split_at.result.1.now i by_index) (λ a r f' k. search rules) in
    let own = own_parts i first n parts low (subst (λ (l : List EntrySection). IsPartitionPoint (λ e. leb e.key.index i ≡ true) (λ e. leb e.key.index i ≡ false) l n) rest high) in
    ap (map entry_view) (c.split_at-2.ensures.front ∙ ap (take n) rest ∙ sym own)
    ∙ parts-filter i parts
