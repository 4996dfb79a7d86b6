-- What is written at the end of a comparison: its last lines, or its document.
use Rattle.std.specs.Prelude.{ℕ, List, [], ◌∷◌, ◌++◌, Option, Some, None}
use Rattle.conode_logs.specs.declared.log.Form.{Form}
use Rattle.conode_compare_pdos.specs.SheetNumbers.{preset_at}
use Rattle.conode_compare_report.specs.Abouts.{Described}
use Rattle.conode_compare_report.specs.Reports.{nothing_kept}
use Rattle.conode_compare_report.specs.Views.{Kept}
use Rattle.conode_compare_documents.specs.JsonDocument.{json_document}
use Rattle.conode_compare_documents.specs.JunitDocument.{junit_document}
use Rattle.conode_compare_documents.specs.Page.{page}
use Rattle.conode_compare.specs.declared.comparing.Comparing.{Comparing}
use Rattle.conode_compare.specs.declared.document.Format.{Format}
use Rattle.conode_compare.specs.declared.document.Format.TheVariants.{Text, Json, JUnit, Html}
use Rattle.conode_compare.specs.Compared.{Comparison, compared, comparing_after}
use Rattle.conode_compare.specs.LastLines.{last_lines}

-- what is kept for a document of this format; none for text
abbrev pub kept_for : Format → Comparison → Option Kept
kept_for Text c = None
kept_for Json c = Some (nothing_kept c.rows c.subject.node)
kept_for JUnit c = Some (nothing_kept c.rows c.subject.node)
kept_for Html c = Some (nothing_kept c.rows c.subject.node)

abbrev pub document : Format → Described → Kept → List ℕ
document Text about kept = []
document Json about kept = json_document about kept
document JUnit about kept = junit_document about kept
document Html about kept = page about kept

-- the number that the sheet has at a sub-index of the identity object (CiA 301, 7.5.2.21)
abbrev pub identity_at : Comparison → ℕ → Option ℕ
identity_at c sub = preset_at c.rows c.subject.node (record { index = 0x1018; sub = sub })

-- what a document says of a comparison that ended, by a program of this version, with the sheet of
-- this path
unfoldable pub described : Comparison → List ℕ → List ℕ → Comparing → Described
described c version sheet comparing = record {
  version = version;
  sheet = sheet;
  recording = c.recording;
  interface = c.interface;
  node = c.subject.node;
  limits = c.subject.limits;
  rows = c.rows;
  vendor_name = c.vendor_name;
  product_name = c.product_name;
  vendor = identity_at c 1;
  product = identity_at c 2;
  revision = identity_at c 3;
  tally = comparing.tally;
  several = comparing.several;
}

-- the last lines, or the document
abbrev pub end_lines : Format → Comparison → List ℕ → List ℕ → Comparing → Option Kept → List (List ℕ)
end_lines format c version sheet comparing None = last_lines c comparing
end_lines format c version sheet comparing (Some kept) = document format (described c version sheet comparing) kept ∷ []

-- all that is written of a recording: the lines of its differences, then the last lines or the
-- document
abbrev pub output : Format → Comparison → List ℕ → List ℕ → Form → List ℕ → List (List ℕ)
output format c version sheet form text =
    let comparing = comparing_after c form (kept_for format c) text in
    compared c form (kept_for format c) text ++ end_lines format c version sheet comparing comparing.report
