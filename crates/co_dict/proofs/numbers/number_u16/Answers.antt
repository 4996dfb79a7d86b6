use Rattle.std.proofs.Common.{refl, sym}
use Rattle.co_value.specs.declared.data_type.DataType.TheVariants.{Unsigned16}
use Rattle.co_dict.proofs.StoreLemmas.{fixed_length}
use Rattle.co_dict.proofs.numbers.number_u16.Goals as goal

pub read_u16-requires : goal.read_u16-requires
read_u16-requires g c = fixed_length _ _ c.store_laws.ensures c.args.key Unsigned16 2 c.in-Some.bytes.now c.requires refl (sym c.in-Some.ensures)
