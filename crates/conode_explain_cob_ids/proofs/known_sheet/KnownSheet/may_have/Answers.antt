use Rattle.std.proofs.Common.{[], arith}
use Rattle.co_sheet_changes.specs.Names.{names_view}
use Rattle.conode_explain_cob_ids.proofs.NamedIds.{none_of}
use Rattle.conode_explain_cob_ids.proofs.known_sheet.KnownSheet.may_have.Goals as goal

pub returns-then-place-len : goal.returns-then-place-len
returns-then-place-len c =
    let sheet = c.args.self.now in
    let had = c.index.result.now in
    λ absent.
    (none_of (names_view sheet.names).only sheet.pdos.items [] sheet.had.items c.args.id had had
    sheet.its_had (omega arith) c.index.ensures absent).0
