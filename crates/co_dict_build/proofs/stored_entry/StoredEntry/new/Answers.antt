use Rattle.std.proofs.Common.{sym, ap, ◌∙◌, subst, arith, take, length}
use Rattle.co_value.specs.Numbers.{AreBytes}
use Rattle.co_dict_build.proofs.EntryBytes.{are_bytes, front_written}
use Rattle.co_dict_build.proofs.stored_entry.StoredEntry.new.Goals as goal

pub invariant_of-result-clause-bytes : goal.invariant_of-result-clause-bytes
invariant_of-result-clause-bytes c =
    let written = front_written c.in_ok-buffer.buffer c.copy_to_front.new.buffer c.args.initial.now (omega (arith, c.copy_to_front.auto.buffer, c.deref_mut.ensures.len)) c.copy_to_front.ensures in
    subst AreBytes (sym (ap (take (length c.args.initial.now)) c.into_boxed_slice.ensures.items ∙ written)) (are_bytes _ c.type_inv.initial)

pub invariant_of-result-clause-initial_bytes : goal.invariant_of-result-clause-initial_bytes
invariant_of-result-clause-initial_bytes c = subst AreBytes (sym c.in_ok-from_slice.ensures.ok) (are_bytes _ c.type_inv.initial)
