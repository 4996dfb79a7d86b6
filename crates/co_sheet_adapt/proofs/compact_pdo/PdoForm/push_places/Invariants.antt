use Rattle.std.proofs.Common.{◌≡◌, ◌+◌, ◌++◌, drop}
use Rattle.co_sheet_adapt.specs.CompactPdo.{places_from}
use Rattle.co_sheet_adapt.proofs.compact_pdo.PdoForm.push_places.Given as goal

-- those so far, and after them those of the rest
abbrev pub invariant-loop-index : goal.invariant-loop-index
invariant-loop-index l = record {
  written : l.text.items ++ places_from l.place (drop l.index-index l.self.unlisted.items) ≡ l.fn.text.items ++ places_from (l.self.listed + 1) l.self.unlisted.items;
  counted : l.place ≡ l.self.listed + 1 + l.index-index;
}
