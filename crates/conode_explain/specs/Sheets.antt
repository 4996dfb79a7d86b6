-- The data sheets by which a recording is explained.
use Rattle.std.specs.Prelude.{ℕ, Bool, true, false, ◌&&◌, List, ◌++◌, filter, map, Option, Some, is_some}
use Rattle.std.specs.Option.{option_copied, option_or}
use Rattle.co_frame.specs.Segments.{same_bool}
use Rattle.co_sheet_changes.specs.Names.{originals_in}
use Rattle.conode_explain_cob_ids.specs.Known.{KnownSheet, known_sheet, known_view}
use Rattle.conode_explain.specs.declared.sheets.ReadSheet.{ReadSheet}
use Rattle.conode_explain.specs.declared.settings.Settings.{Settings}

abbrev pub sheets_of : Settings → List KnownSheet
sheets_of settings = map known_view settings.sheets.now

-- ---- what a sheet is for

-- the node: the one that its word has, else the sheet's own, of a device configuration file; none
-- where it is for all
abbrev pub node_for : Option ℕ → Option ℕ → Option ℕ
node_for word own = option_or word own

-- a sheet that was read, with its PDOs
abbrev pub read_view : ReadSheet → KnownSheet
read_view sheet =
    known_sheet (option_copied sheet.word.interface) (record {
      sheet = Some sheet.sheet;
      only = node_for sheet.word.node sheet.sheet.node_id;
      originals = originals_in (Some sheet.originals);
    })

-- ---- which one counts where several are for a node

-- it is for one node, or for all; and for one interface, or for each
abbrev pub is_kind : Bool → Bool → KnownSheet → Bool
is_kind node interface sheet =
    same_bool (is_some sheet.names.only) node && same_bool (is_some sheet.interface) interface

abbrev pub of_kind : Bool → Bool → List KnownSheet → List KnownSheet
of_kind node interface sheets = filter (is_kind node interface) sheets

-- a node's own sheet comes before one for all nodes; of those the one for an interface; and of
-- these the one that is named first
unfoldable pub in_order : List KnownSheet → List KnownSheet
in_order sheets =
    of_kind true true sheets ++ of_kind true false sheets ++ of_kind false true sheets ++ of_kind false false sheets
