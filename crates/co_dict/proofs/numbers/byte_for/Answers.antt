use Rattle.std.proofs.Common.{refl, length}
use Rattle.co_value.specs.declared.data_type.DataType.TheVariants.{Unsigned8}
use Rattle.co_dict.proofs.StoreLemmas.{taken_length}
use Rattle.co_dict.proofs.numbers.byte_for.Goals as goal

pub read_u8-requires : goal.read_u8-requires
read_u8-requires g c = taken_length _ c.store_laws.ensures.description c.args.key Unsigned8 1 (length c.args.bytes.now) c.requires.fixed refl c.requires.takes
