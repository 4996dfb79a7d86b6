use Rattle.std.proofs.Common.{◌≡◌, List, [], ◌∷◌, length, map, refl, ap, ◌∙◌, subst, rules}
use Rattle.std.specs.List.Sorted.{IsSearchInRange, IsBinarySearchResult}
use Rattle.std.proofs.lemmas.List.Sorted.{answers_always}
use Rattle.co_value.specs.declared.key.Key.{Key}
use Rattle.co_value.specs.Keys.{same_key}
use Rattle.co_dict_build.specs.declared.stored_entry.StoredEntry.{StoredEntry}
use Rattle.co_dict_build.specs.ListedEntries.{keys_in, are_increasing}
use Rattle.co_dict_build.specs.StoredEntries.{entry_view, entry_views}
use Rattle.co_dict_build.proofs.Places.{position-map}
use Rattle.co_dict_build.proofs.Search.{key_cmp, searched}
use Rattle.co_dict_list.proofs.list_store.ListStore.position.Goals as goal

same_keys : (entries : List StoredEntry) → map (λ (e : StoredEntry). e.key) entries ≡ keys_in (entry_views entries)
same_keys [] = refl
same_keys (e ∷ entries) = ap (λ (keys : List Key). e.key ∷ keys) (same_keys entries)

-- the closure gives an entry's key, and the slice is the list of the entries
pub returns : goal.returns
returns c =
    let entries = c.args.self.now.entries.items in
    c.ok.ensures.value
    ∙ searched (λ (e : StoredEntry). e.key) entries (ap are_increasing (same_keys entries) ∙ c.args.self.now.increasing) c.args.key c.binary_search_by_key.result
    (subst (λ (entries : List StoredEntry). IsSearchInRange c.binary_search_by_key.result (length entries)) c.deref.ensures.value c.binary_search_by_key.ensures.bound)
    (subst (λ (entries : List StoredEntry). IsBinarySearchResult (λ (e : StoredEntry). key_cmp e.key c.args.key) entries c.binary_search_by_key.result) c.deref.ensures.value
    (c.binary_search_by_key.ensures.position (λ (entry : StoredEntry). entry.key) (answers_always _ _ _ (λ f a r g called. search rules))))
    ∙ position-map (λ e. same_key c.args.key e.key) entry_view entries
