use Rattle.std.proofs.Common.{◌≡◌, drop}
use Rattle.conode_explain_cob_ids.specs.Buses.{bus_view}
use Rattle.conode_explain_forms.specs.Fields.{pdo_bits}
use Rattle.conode_explain_forms.proofs.fields.pdo_bits.Given as goal

-- it is none of those so far
abbrev pub invariant-loop-claim : goal.invariant-loop-claim
invariant-loop-claim l =
    pdo_bits (bus_view l.bus) l.signal l.bytes (drop l.claim-index l.claims) ≡ pdo_bits (bus_view l.bus) l.signal l.bytes l.claims
