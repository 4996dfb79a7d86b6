-- The data sheets that are known of nodes.
use Rattle.std.specs.Prelude.{ℕ, Bool, true, ◌&&◌, List, [], find, Option, None}
use Rattle.std.specs.Option.{option_copied, option_map_or}
use Rattle.std.specs.Str.{bytes_eq}
use Rattle.co_sheet_changes.specs.Names.{Names, are_for, names_view}
use Rattle.conode_explain_cob_ids.specs.declared.known_sheet.KnownSheet.{KnownSheet as KnownSheetOfCode}
use Rattle.conode_explain_cob_ids.specs.declared.sheet.SheetPdo.{SheetPdo}
use Rattle.conode_explain_cob_ids.specs.declared.sheet_services.SheetService.{SheetService}
use Rattle.conode_explain_cob_ids.specs.Sheets.{sheet_pdos}
use Rattle.conode_explain_cob_ids.specs.SheetServices.{sheet_services}

-- a data sheet, the node and the interface that it is for (every one where there is none), its PDOs,
-- and its COB-IDs of SYNC, TIME and emergencies
pub record KnownSheet : Type 0 where
  pub interface : Option (List ℕ)
  pub names : Names
  pub pdos : List SheetPdo
  pub services : List SheetService

abbrev pub known_view : KnownSheetOfCode → KnownSheet
known_view sheet = record {
  interface = option_copied sheet.interface;
  names = names_view sheet.names;
  pdos = sheet.pdos.items;
  services = sheet.services.items;
}

-- a data sheet with both
abbrev pub known_sheet : Option (List ℕ) → Names → KnownSheet
known_sheet interface names =
    record { interface = interface; names = names; pdos = sheet_pdos names; services = sheet_services names }

-- it is for an interface
abbrev pub is_on : List ℕ → KnownSheet → Bool
is_on interface sheet = option_map_or (λ name. bytes_eq name interface) sheet.interface true

-- and for a node
abbrev pub fits : List ℕ → ℕ → KnownSheet → Bool
fits interface node sheet = is_on interface sheet && are_for sheet.names.only node

-- of several that are, the first counts
abbrev pub sheet_for : List KnownSheet → List ℕ → ℕ → Option KnownSheet
sheet_for sheets interface node = find (fits interface node) sheets

-- no sheet
abbrev pub no_names : Names
no_names = record { sheet = None; only = None; originals = λ line. None }

-- where the names of a node's entries come from
unfoldable pub names_for : List KnownSheet → List ℕ → ℕ → Names
names_for sheets interface node = option_map_or (λ sheet. sheet.names) (sheet_for sheets interface node) no_names

-- the PDOs of a node's data sheet
abbrev pub pdos_for : List KnownSheet → List ℕ → ℕ → List SheetPdo
pdos_for sheets interface node = option_map_or (λ sheet. sheet.pdos) (sheet_for sheets interface node) []

-- the COB-IDs of its services
abbrev pub services_for : List KnownSheet → List ℕ → ℕ → List SheetService
services_for sheets interface node = option_map_or (λ sheet. sheet.services) (sheet_for sheets interface node) []
