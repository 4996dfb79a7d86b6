-- The entries in memory, and what they are as a list.
use Rattle.std.proofs.Common.{◌≡◌, ◌+◌, ◌<◌, ◌≤◌, ℕ, List, length, get_or, set, map, sym, ap, ◌∙◌, subst}
use Rattle.std.specs.Vec.{with_items}
use Rattle.std.specs.declared.vec.Vec.{Vec}
use Rattle.std.proofs.Math.ListN.{get_or-map}
use Rattle.std.proofs.lemmas.List.{length-map, map-set, with_items_is}
use Rattle.co_dict.specs.declared.area.Area.{Area}
use Rattle.co_dict_build.specs.declared.stored_entry.StoredEntry.{StoredEntry}
use Rattle.co_dict_build.specs.ListedEntries.{ListedEntry, reset_entry}
use Rattle.co_dict_build.specs.StoredEntries.{entry_view, entry_views}
use Rattle.co_dict_build.proofs.Changes.{with_bytes, AreResetUpTo, reset_one, reset_all}

-- the view of the entry that was read at a place
pub view_at : (entries : List StoredEntry) (at : ℕ) (e : StoredEntry) → e ≡ get_or entries at e → entry_view e ≡ get_or (entry_views entries) at (entry_view e)
view_at entries at e is = ap entry_view is ∙ sym (get_or-map entry_view entries at e)

-- the entries after the one at a place was filled with other bytes
pub views-filled : (entries : List StoredEntry) (at : ℕ) (e e' : StoredEntry) (bytes : List ℕ) → e ≡ get_or entries at e → entry_view e' ≡ record (entry_view e) { bytes = bytes }
    → entry_views (set entries at e') ≡ with_bytes (entry_views entries) at (entry_view e) bytes
views-filled entries at e e' bytes is filled =
    map-set entry_view entries at e'
    ∙ ap (set (entry_views entries) at) (filled ∙ ap (λ (v : ListedEntry). let w : ListedEntry = record v { bytes = bytes } in w) (view_at entries at e is))

-- one more entry was reset
pub views-reset_one : (area : Area) (before : List ListedEntry) (now : List StoredEntry) (index : ℕ) (e e' : StoredEntry) → index < length now → AreResetUpTo area before (entry_views now) index
    → entry_view e' ≡ reset_entry area (entry_view (get_or now index e)) → AreResetUpTo area before (entry_views (set now index e')) (index + 1)
views-reset_one area before now index e e' within up_to reset =
    subst (λ (views : List ListedEntry). AreResetUpTo area before views (index + 1)) (sym (map-set entry_view now index e'))
    (reset_one area before (entry_views now) index (entry_view e) (entry_view e') (subst (λ n. index < n) (sym (length-map now entry_view)) within) up_to
    (reset ∙ ap (reset_entry area) (sym (get_or-map entry_view now index e))))

-- past the last entry all were reset
pub views-reset_all : {Z : Type 0} (area : Area) (entries : Vec StoredEntry Z) (before now : List StoredEntry) (index : ℕ) → before ≡ entries.items → length before ≡ entries.len
    → length now ≡ length before → length before ≤ index → AreResetUpTo area (entry_views before) (entry_views now) index
    → entry_views (with_items entries now).items ≡ map (reset_entry area) (entry_views entries.items)
views-reset_all area entries before now index are len same past up_to =
    let views_same : length (entry_views now) ≡ length (entry_views before) = length-map now entry_view ∙ same ∙ sym (length-map before entry_view) in
    let views_past : length (entry_views before) ≤ index = subst (λ n. n ≤ index) (sym (length-map before entry_view)) past in
    ap entry_views (with_items_is entries now (same ∙ len)) ∙ reset_all area (entry_views before) (entry_views now) index views_same views_past up_to ∙ ap (λ (es : List StoredEntry). map (reset_entry area) (entry_views es)) are
