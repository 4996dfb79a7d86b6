use Rattle.std.proofs.Common.{[], ◌++◌}
use Rattle.std.specs.Option.{option_map_or, option_or}
use Rattle.co_sheet.specs.private.EntryReadings.{outside, crossed}
use Rattle.co_sheet.proofs.LeastLemmas.{least-two}
use Rattle.co_sheet.proofs.checks.entries.Values.limits_fault.Goals as goal

pub returns : goal.returns
returns c =
    let t = c.args.data_type in
    let values = c.args.self.now in
    let low = option_map_or (outside t) values.low [] in
    let high = option_map_or (outside t) values.high [] in
    let both = option_map_or (crossed t values.low values.high) (option_or values.high values.low) [] in
    let each = least-two low high c.outside-of_low.result c.outside-of_high.result c.earlier-of_each.result c.earlier-of_each.ensures c.outside-of_low.ensures c.outside-of_high.ensures in
    least-two (low ++ high) both c.earlier-of_each.result c.crossed-of_both.result c.earlier.result c.earlier.ensures each c.crossed-of_both.ensures
