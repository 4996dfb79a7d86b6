use Rattle.std.proofs.Common.{◌≡◌, ◌++◌, drop, take}
use Rattle.std.specs.Prelude.{◌||◌, string_bytes}
use Rattle.std.specs.List.{flat_map}
use Rattle.conode_explain_cob_ids.specs.Buses.{bus_view}
use Rattle.conode_explain_forms.specs.Fields.{field_of}
use Rattle.conode_explain_forms.specs.Lines.{after_comma, has_one}
use Rattle.conode_explain_forms.proofs.lines.push_fields.Given as goal

-- the fields so far, and after them those of the rest; and whether one of either has a value
abbrev pub invariant-loop-signal : goal.invariant-loop-signal
invariant-loop-signal l =
    let value = field_of (bus_view l.bus) l.claims l.bytes l.told in
    record {
      has : (l.has || has_one value (drop l.signal-index l.signals)) ≡ has_one value l.signals;
      text : string_bytes l.text ≡ string_bytes l.fn.text ++ flat_map (after_comma value) (take l.signal-index l.signals);
    }
