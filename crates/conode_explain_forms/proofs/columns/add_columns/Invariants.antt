use Rattle.std.proofs.Common.{◌≡◌, ◌++◌, drop, map}
use Rattle.std.specs.List.{flat_map}
use Rattle.conode_explain_cob_ids.specs.Known.{known_view}
use Rattle.conode_explain_forms.specs.Lines.{column}
use Rattle.conode_explain_forms.proofs.columns.add_columns.Given as goal

-- those so far, and after them those of the rest
abbrev pub invariant-loop-signal : goal.invariant-loop-signal
invariant-loop-signal l =
    l.line.items ++ flat_map (column (map known_view l.sheets)) (drop l.signal-index l.signals)
    ≡ l.fn.line.items ++ flat_map (column (map known_view l.sheets)) l.signals
