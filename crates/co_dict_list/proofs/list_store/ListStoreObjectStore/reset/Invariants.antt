use Rattle.co_dict_build.specs.StoredEntries.{entry_views}
use Rattle.co_dict_build.proofs.Changes.{AreResetUpTo}
use Rattle.co_dict_list.proofs.list_store.ListStoreObjectStore.reset.Given as goal

abbrev pub invariant-loop-entry : goal.invariant-loop-entry
invariant-loop-entry l = AreResetUpTo l.area (entry_views l.initial.entry-items) (entry_views l.entry-items) l.entry-index
