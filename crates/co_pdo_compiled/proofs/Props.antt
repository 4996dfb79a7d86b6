-- What a compiled mapping asks of a dictionary is a proposition, so that it may be a ghost field.
use Rattle.std.proofs.Props.{props}
use Rattle.co_dict.specs.Stores.{Description}
use Rattle.co_pdo_compiled.specs.declared.part.Part.{Part}
use Rattle.co_pdo_compiled.specs.declared.part.Part.TheVariants.{Placed, PassedOver}
use Rattle.co_pdo_compiled.specs.CompiledMappings.{HasPart}

pub part_prop : (d : Description) (part : Part) → IsProp (HasPart d part)
part_prop d (Placed entry) = hlevel props
part_prop d (PassedOver width) = hlevel props
