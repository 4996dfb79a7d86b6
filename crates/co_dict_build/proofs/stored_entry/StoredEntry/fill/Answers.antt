use Rattle.std.proofs.Common.{sym, subst, arith}
use Rattle.co_value.specs.Numbers.{AreBytes}
use Rattle.co_dict_build.proofs.EntryBytes.{are_bytes, front_written}
use Rattle.co_dict_build.proofs.stored_entry.StoredEntry.fill.Goals as goal

pub invariant_of-self-clause-bytes : goal.invariant_of-self-clause-bytes
invariant_of-self-clause-bytes c =
    subst AreBytes (sym (front_written c.args.self.now.buffer.items c.copy_to_front.new.buffer _ (omega (arith, c.copy_to_front.auto.buffer, c.deref_mut.ensures.len)) c.copy_to_front.ensures))
    (are_bytes _ c.type_inv.bytes)
