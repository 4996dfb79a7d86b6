-- What an entry in memory contains.
use Rattle.std.proofs.Common.{◌≡◌, true, List, [], ◌∷◌, length, sym, subst, arith}
use Rattle.std.specs.Prelude.{take, map}
use Rattle.std.specs.List.{AllByRecursion}
use Rattle.std.specs.Box.{boxed_slice_items}
use Rattle.std.proofs.lemmas.List.{length-take-le}
use Rattle.co_dict_build.specs.declared.stored_entry.StoredEntry.{StoredEntry}
use Rattle.co_dict.specs.Rows.{fits}
use Rattle.co_dict_build.specs.ListedEntries.{ListedEntry, IsEntry}

-- an entry in memory: its bytes are the first of its buffer
abbrev pub entry_view : StoredEntry → ListedEntry
entry_view e = record {
  key = e.key;
  row = e.row;
  bytes = take e.size (boxed_slice_items e.buffer);
  initial = boxed_slice_items e.initial;
}

-- the entries in memory
abbrev pub entry_views : List StoredEntry → List ListedEntry
entry_views entries = map entry_view entries

-- an entry has `size` bytes
size_is : (e : StoredEntry) → length (entry_view e).bytes ≡ e.size
size_is e = length-take-le e.size (boxed_slice_items e.buffer) (omega (arith, e.within, e.reserved, e.buffer.items.ok.0))

-- an entry in memory is an entry of a dictionary
is_entry : (e : StoredEntry) → IsEntry (entry_view e)
is_entry e = record {
  key = e.is_key;
  from_1000 = e.from_1000;
  capacity = e.capacity;
  width = e.width;
  fixed = e.fixed;
  limits = e.limits;
  fitting = subst (λ size. fits e.row size ≡ true) (sym (size_is e)) e.fitting;
  bytes = e.bytes;
  initially = subst (λ size. fits e.row size ≡ true) e.initial.items.ok.0 e.initially;
  initial_bytes = e.initial_bytes;
}

-- and so is each of a list
pub are_entries : (entries : List StoredEntry) → AllByRecursion IsEntry (entry_views entries)
are_entries [] = tt
are_entries (e ∷ entries) = (is_entry e, are_entries entries)
