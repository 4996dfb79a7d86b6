-- The COB-IDs of SYNC, TIME and emergencies of a data sheet, as its entries begin (CiA 301, 7.5.2.5,
-- 7.5.2.15 and 7.5.2.17).
use Rattle.std.specs.Prelude.{ℕ, ◌==◌, Bool, ◌&&◌, ◌||◌, if◌then◌else◌, List, [], filter_map, Option, None, option_map}
use Rattle.std.specs.Option.{option_map_or}
use Rattle.co_sheet.specs.Content.{Row}
use Rattle.co_sheet_changes.specs.Names.{Names}
use Rattle.conode_explain_cob_ids.specs.declared.sheet_services.SheetService.{SheetService}
use Rattle.conode_explain_cob_ids.specs.CobIds.{cob_id_of}

abbrev pub is_service_index : ℕ → Bool
is_service_index index = (index == 0x1005) || ((index == 0x1012) || (index == 0x1014))

unfoldable pub service_in_row : Row → Option SheetService
service_in_row row =
    if (row.key.sub == 0) && is_service_index row.key.index
    then option_map (λ cob_id. record { index = row.key.index; cob_id = cob_id }) (cob_id_of row.default) else None

unfoldable pub sheet_services : Names → List SheetService
sheet_services names = option_map_or (λ sheet. filter_map service_in_row sheet.rows) names.sheet []
