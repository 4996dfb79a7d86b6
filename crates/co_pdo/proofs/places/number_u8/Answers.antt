use Rattle.std.proofs.Common.{[], refl, ap, ◌∙◌}
use Rattle.std.specs.Prelude.{unwrap_or}
use Rattle.co_value.specs.declared.data_type.DataType.TheVariants.{Unsigned8}
use Rattle.co_value.specs.Numbers.{unsigned_of}
use Rattle.co_pdo.proofs.places.number_u8.Goals as goal

pub returns-in-Some : goal.returns-in-Some
returns-in-Some g c = λ key fixed at.
    c.read_u8.ensures ∙ ap (λ o. unsigned_of (unwrap_or o [])) (c.in-Some.ensures.bytes key Unsigned8 fixed refl at)

pub returns-in-None : goal.returns-in-None
returns-in-None g c = λ key fixed at. ap (λ o. unsigned_of (unwrap_or o [])) (c.in-None.ensures.bytes key Unsigned8 fixed refl at)
