use Rattle.std.proofs.Common.{arith}
use Rattle.co_sheet_changes.specs.Names.{names_view}
use Rattle.conode_explain_cob_ids.proofs.NamedIds.{none_of}
use Rattle.conode_explain_cob_ids.proofs.known_sheet.KnownSheet.may_name.Goals as goal

pub returns-then-place-len-clause-pdo : goal.returns-then-place-len-clause-pdo
returns-then-place-len-clause-pdo c =
    let sheet = c.args.self.now in
    let named = c.index.result.now in
    λ absent.
    (none_of (names_view sheet.names).only sheet.pdos.items sheet.services.items sheet.named.items c.args.id named named
    sheet.its_named (omega arith) c.index.ensures absent).0

pub returns-then-place-len-clause-service : goal.returns-then-place-len-clause-service
returns-then-place-len-clause-service c =
    let sheet = c.args.self.now in
    let named = c.index.result.now in
    λ absent.
    (none_of (names_view sheet.names).only sheet.pdos.items sheet.services.items sheet.named.items c.args.id named named
    sheet.its_named (omega arith) c.index.ensures absent).1
