use Rattle.std.proofs.Common.{◌≡◌, ◌+◌, ◌++◌, drop}
use Rattle.std.specs.Prelude.{string_bytes}
use Rattle.conode_explain_cob_ids.specs.Devices.{device_view}
use Rattle.conode_explain_pdo.specs.Mappings.{more_parts, total_bits}
use Rattle.conode_explain_pdo.proofs.mapping.push_more_parts.Given as goal

-- the parts so far, and after them those of the rest; and the bits so far with those of the rest
abbrev pub invariant-loop-word : goal.invariant-loop-word
invariant-loop-word l =
    record {
      text : string_bytes l.text ++ more_parts (device_view l.device) l.node l.bytes l.offset (drop l.word-index l.words)
          ≡ string_bytes l.fn.text ++ more_parts (device_view l.device) l.node l.bytes l.start l.words;
      bits : l.offset + total_bits (drop l.word-index l.words) ≡ l.start + total_bits l.words;
    }
