use Rattle.std.proofs.Common.{◌<◌, length, slice_index_or, Some, sym, ap, ◌∙◌, subst, arith}
use Rattle.std.proofs.lemmas.Bool.Decides.{nat_tests}
use Rattle.std.proofs.lemmas.List.{length-map}
use Rattle.co_dict_build.specs.StoredEntries.{entry_view, entry_views}
use Rattle.co_dict_build.proofs.Numbering.{part_by_place}
use Rattle.co_dict_list.proofs.Views.{view_at}
use Rattle.co_dict_list.proofs.list_store.ListStoreObjectStore.bytes_at.Goals as goal

pub returns : goal.returns
returns c =
    let store = c.args.self.now in
    let entries = entry_views store.entries.items in
    let e = c.in_ok-entry.entry.now in
    let found = c.in_ok-entry.ensures.lookup in
    let inside : c.args.place < length entries = subst (λ n. c.args.place < n) (sym (length-map store.entries.items entry_view ∙ ap length (sym c.deref.ensures.value))) (grind (arith, nat_tests, found.0)) in
    ap Some c.bytes.ensures ∙ ap (λ v. Some v.bytes) (view_at store.entries.items c.args.place e (found.1 ∙ ap (λ es. slice_index_or es c.args.place e) c.deref.ensures.value)) ∙ part_by_place entries store.increasing (λ e. e.bytes) c.args.place (entry_view e) inside
