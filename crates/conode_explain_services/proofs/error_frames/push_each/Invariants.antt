use Rattle.std.proofs.Common.{◌≡◌, ◌++◌, map, take}
use Rattle.std.specs.Prelude.{string_bytes}
use Rattle.std.specs.List.{flat_map}
use Rattle.conode_explain_services.specs.ErrorFrames.{class_text}
use Rattle.conode_explain_services.specs.Parts.{row_of}
use Rattle.conode_explain_services.proofs.error_frames.push_each.Given as goal

abbrev pub invariant-loop-row : goal.invariant-loop-row
invariant-loop-row l = string_bytes l.text ≡ string_bytes l.fn.text ++ flat_map (class_text l.reported l.bytes) (map row_of (take l.row-index l.rows))
