use Rattle.std.proofs.Common.{refl, length}
use Rattle.co_value.specs.declared.data_type.DataType.TheVariants.{Unsigned32}
use Rattle.co_dict.proofs.StoreLemmas.{taken_length}
use Rattle.co_dict.proofs.numbers.word_for.Goals as goal

pub read_u32-requires : goal.read_u32-requires
read_u32-requires g c = taken_length _ c.store_laws.ensures.description c.args.key Unsigned32 4 (length c.args.bytes.now) c.requires.fixed refl c.requires.takes
