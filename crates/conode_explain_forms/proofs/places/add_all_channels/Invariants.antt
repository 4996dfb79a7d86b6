use Rattle.std.proofs.Common.{◌≡◌, ◌++◌, drop, map}
use Rattle.std.specs.List.{flat_map}
use Rattle.conode_explain_cob_ids.specs.Known.{known_view}
use Rattle.conode_explain_forms.specs.Places.{channels_in}
use Rattle.conode_explain_forms.proofs.places.add_all_channels.Given as goal

-- those so far, and after them those of the rest
abbrev pub invariant-loop-sheet : goal.invariant-loop-sheet
invariant-loop-sheet l =
    l.channels.items ++ flat_map channels_in (map known_view (drop l.sheet-index l.sheets))
    ≡ l.fn.channels.items ++ flat_map channels_in (map known_view l.sheets)
