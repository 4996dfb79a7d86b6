use Rattle.std.proofs.Common.{◌≡◌, ◌++◌, drop}
use Rattle.std.specs.Prelude.{string_bytes}
use Rattle.conode_explain_cob_ids.specs.Buses.{bus_view}
use Rattle.conode_explain_pdo.specs.Pdos.{more_pdos}
use Rattle.conode_explain_pdo.proofs.pdo.push_more.Given as goal

-- what was said so far, and after it what the rest say
abbrev pub invariant-loop-claim : goal.invariant-loop-claim
invariant-loop-claim l =
    string_bytes l.text ++ more_pdos (bus_view l.bus) l.bytes (drop l.claim-index l.claims)
    ≡ string_bytes l.fn.text ++ more_pdos (bus_view l.bus) l.bytes l.claims
