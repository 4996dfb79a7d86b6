use Rattle.std.proofs.Common.{◌≡◌, ℕ, List, fold, max, sym, ap, ◌∙◌}
use Rattle.std.proofs.lemmas.List.Folds.{fold-map}
use Rattle.co_dict_build.specs.declared.stored_entry.StoredEntry.{StoredEntry}
use Rattle.co_dict_build.specs.ListedEntries.{ListedEntry}
use Rattle.co_dict_build.specs.StoredEntries.{entry_view, entry_views}
use Rattle.co_dict_build.proofs.GreatestCapacity.{most_is, most_of}
use Rattle.co_dict_list.proofs.list_store.ListStoreObjectStore.greatest_capacity.Goals as goal

-- the greatest capacity in a list of entries in memory
abbrev most_in : List StoredEntry → ℕ
most_in entries = fold (λ most (e : StoredEntry). max most e.row.capacity) 0 entries

most_of_views : (entries : List StoredEntry) → most_in entries ≡ most_of 0 (entry_views entries)
most_of_views entries = sym (fold-map (λ most (e : ListedEntry). max most e.row.capacity) entry_view 0 entries)

pub returns : goal.returns
returns c =
    let s = c.args.self.now in
    c.greatest_capacity.ensures ∙ ap most_in c.deref.ensures.value ∙ most_of_views s.entries.items
    ∙ most_is s.node_id s.dummies (entry_views s.entries.items) s.increasing
