use Rattle.conode_compare_laws.proofs.TpdoSheets.{sheet_known, sheet_uncounted}
use Rattle.conode_compare_laws.proofs.tpdo_built.tpdos_of_sheet.Goals as goal

pub returns : goal.returns
returns c = record { counted = sheet_known; master = sheet_uncounted }
