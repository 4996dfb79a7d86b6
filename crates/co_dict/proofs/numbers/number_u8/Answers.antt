use Rattle.std.proofs.Common.{refl, sym}
use Rattle.co_value.specs.declared.data_type.DataType.TheVariants.{Unsigned8}
use Rattle.co_dict.proofs.StoreLemmas.{fixed_length}
use Rattle.co_dict.proofs.numbers.number_u8.Goals as goal

pub read_u8-requires : goal.read_u8-requires
read_u8-requires g c = fixed_length _ _ c.store_laws.ensures c.args.key Unsigned8 1 c.in-Some.bytes.now c.requires refl (sym c.in-Some.ensures)
