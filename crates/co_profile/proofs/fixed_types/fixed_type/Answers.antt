use Rattle.std.proofs.Common.{◌∙◌}
use Rattle.co_profile.specs.declared.fixed_types.TheConstants.{FIXED_TYPES}
use Rattle.co_profile.proofs.FixedTypeLemmas.{find-rows, none-fixed}
use Rattle.co_profile.proofs.fixed_types.fixed_type.Goals as goal

pub returns-then-key-gt-LAST_FIXED_INDEX : goal.returns-then-key-gt-LAST_FIXED_INDEX
returns-then-key-gt-LAST_FIXED_INDEX c = none-fixed c.args.key c.if-key-gt-LAST_FIXED_INDEX.true

pub returns : goal.returns
returns c = c.type_among.ensures ∙ find-rows c.args.key FIXED_TYPES
