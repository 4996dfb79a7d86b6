-- What a document says of the comparison itself, without references.
use Rattle.std.specs.Prelude.{ℕ, Bool, map, List, Option}
use Rattle.std.specs.Option.{option_copied}
use Rattle.co_sheet.specs.Content.{Row}
use Rattle.co_sheet.specs.SheetViews.{row_view}
use Rattle.conode_compare_nmt.specs.declared.limits.Limits.{Limits}
use Rattle.conode_compare_text.specs.declared.tally.Tally.{Tally}
use Rattle.conode_compare_report.specs.declared.about.About.{About}

pub record Described : Type 0 where
  pub version : List ℕ
  pub sheet : List ℕ
  pub recording : List ℕ
  pub interface : Option (List ℕ)
  pub node : ℕ
  pub limits : Limits
  pub rows : List Row
  pub vendor_name : Option (List ℕ)
  pub product_name : Option (List ℕ)
  pub vendor : Option ℕ
  pub product : Option ℕ
  pub revision : Option ℕ
  pub tally : Tally
  pub several : Bool

abbrev pub about_view : About → Described
about_view about = record {
  version = about.version.now;
  sheet = about.sheet.now;
  recording = about.recording.now;
  interface = option_copied about.interface;
  node = about.node;
  limits = about.limits;
  rows = map row_view about.rows.now;
  vendor_name = option_copied about.names.vendor;
  product_name = option_copied about.names.product;
  vendor = about.vendor;
  product = about.product;
  revision = about.revision;
  tally = about.tally;
  several = about.several;
}
