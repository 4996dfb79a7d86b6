-- The first of the three faults.
use Rattle.std.proofs.Common.{◌≡◌, Option, ap, ◌∙◌}
use Rattle.std.specs.Option.{option_or}
use Rattle.co_dict_build.specs.declared.build_fault.BuildFault.{BuildFault}
use Rattle.co_dict_build.proofs.Faults.{first_of}
use Rattle.co_dict_build.proofs.build.parameter_fault.Goals as goal

pub returns : goal.returns
returns g c =
    let first : c.or.result ≡ option_or c.word_fault.result c.pair_fault.result = c.or.ensures in
    let second : c.or-2.result ≡ option_or c.or.result c.mapping_fault.result = c.or-2.ensures in
    second ∙ ap (λ (o : Option BuildFault). option_or o c.mapping_fault.result) first
    ∙ first_of c.word_fault.result c.pair_fault.result c.mapping_fault.result _ _ _ c.word_fault.ensures c.pair_fault.ensures c.mapping_fault.ensures
