use Rattle.std.proofs.Common.{refl, sym}
use Rattle.co_value.specs.declared.data_type.DataType.TheVariants.{Unsigned32}
use Rattle.co_dict.proofs.StoreLemmas.{fixed_length}
use Rattle.co_dict.proofs.numbers.number_u32.Goals as goal

pub read_u32-requires : goal.read_u32-requires
read_u32-requires g c = fixed_length _ _ c.store_laws.ensures c.args.key Unsigned32 4 c.in-Some.bytes.now c.requires refl (sym c.in-Some.ensures)
