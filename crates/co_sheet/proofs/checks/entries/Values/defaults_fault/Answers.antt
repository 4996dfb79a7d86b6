use Rattle.std.proofs.Common.{[]}
use Rattle.std.specs.Option.{option_map_or}
use Rattle.co_sheet.specs.private.EntryReadings.{default_found}
use Rattle.co_sheet.proofs.LeastLemmas.{least-two}
use Rattle.co_sheet.proofs.checks.entries.Values.defaults_fault.Goals as goal

pub returns : goal.returns
returns c =
    let values = c.args.self.now in
    let found = default_found c.args.data_type values in
    least-two (option_map_or found values.default []) (option_map_or found values.parameter []) c.default_fault-of_default.result c.default_fault-of_parameter.result c.earlier.result c.earlier.ensures c.default_fault-of_default.ensures c.default_fault-of_parameter.ensures
