-- What contracts see of what is compared.
use Rattle.std.specs.Prelude.{map}
use Rattle.std.specs.Option.{option_copied}
use Rattle.co_sheet.specs.SheetViews.{row_view}
use Rattle.co_sheet_changes.specs.Views.{text_at}
use Rattle.conode_compare.specs.declared.writes.Settings.{Settings}
use Rattle.conode_compare.specs.Compared.{Comparison}

abbrev pub comparison_view : Settings → Comparison
comparison_view settings = record {
  subject = settings.subject;
  rows = map row_view settings.rows.now;
  originals = text_at settings.originals.now;
  vendor_name = option_copied settings.names.vendor;
  product_name = option_copied settings.names.product;
  recording = settings.recording.now;
  interface = option_copied settings.interface;
  choices = settings.choices;
  learned = settings.learned;
}
