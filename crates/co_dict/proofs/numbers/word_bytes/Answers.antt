use Rattle.std.proofs.Common.{refl, sym}
use Rattle.co_value.specs.declared.data_type.DataType.TheVariants.{Unsigned32}
use Rattle.co_dict.proofs.StoreLemmas.{fixed_length}
use Rattle.co_dict.proofs.numbers.word_bytes.Goals as goal

pub four_bytes-requires : goal.four_bytes-requires
four_bytes-requires g c = fixed_length _ _ c.store_laws.ensures c.args.key Unsigned32 4 c.in_ok-bytes.bytes.now c.requires refl (sym c.in_ok-bytes.ensures)
