use Rattle.std.proofs.Common.{◌≡◌, ◌++◌, map, take}
use Rattle.std.specs.Prelude.{string_bytes}
use Rattle.conode_explain_services.specs.ErrorFrames.{flags_text}
use Rattle.conode_explain_services.specs.Parts.{row_of}
use Rattle.conode_explain_services.proofs.error_frames.push_flags.Given as goal

abbrev pub invariant-loop-row : goal.invariant-loop-row
invariant-loop-row l = string_bytes l.text ≡ string_bytes l.fn.text ++ flags_text (map row_of (take l.row-index l.rows)) l.bits
