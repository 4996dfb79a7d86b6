-- What is compared, by the text of a data sheet and what is asked for; and what a comparison that is
-- made comes to: all is written, and the status says whether there is a difference.
use Rattle.std.specs.Prelude.{ℕ, ◌≡◌, Bool, List, [], codes, Option, None, Some, is_some}
use Rattle.std.specs.Option.{option_copied, option_or}
use Rattle.co_sheet.specs.Content.{IsSheet, Row, SheetContent}
use Rattle.co_sheet_changes.specs.Originals.{original_at}
use Rattle.conode_compare_nmt.specs.EntriesInForce.{facts_of, with_master}
use Rattle.conode_compare_report.specs.SheetNames.{info_in, is_boot_up_master}
use Rattle.conode_compare_values.specs.HeldWords.{held_in}
use Rattle.conode_compare_values.specs.declared.entries.HeldEntry.{HeldEntry}
use Rattle.conode_io.specs.Written.{WritesLines}
use Rattle.conode_logs.specs.declared.log.Form.{Form}
use Rattle.conode_compare.specs.declared.compare_file.Asked.{Asked}
use Rattle.conode_compare.specs.declared.comparing.Comparing.{Comparing}
use Rattle.conode_compare.specs.declared.document.Format.{Format}
use Rattle.conode_compare.specs.Compared.{Comparison, comparing_after}
use Rattle.conode_compare.specs.Documents.{kept_for, output}
use Rattle.conode_compare.specs.Verdicts.{verdict_status}

-- the status, by what is known at the end of a recording
abbrev pub status_after : Comparing → ℕ
status_after comparing = verdict_status comparing.tally comparing.several

-- a recording of this text is compared: its status is this one, and all is written
abbrev pub Judged : Format → Comparison → List ℕ → List ℕ → Form → Option (List ℕ) → Option (List ℕ) → ℕ → List ℕ → Type 0
Judged format c version sheet form old new status text =
    (status ≡ status_after (comparing_after c form (kept_for format c) text))
    × WritesLines old new (output format c version sheet form text)

-- the entries that these words name are held; none without words
abbrev pub AreHeld : List Row → Option (List ℕ) → List HeldEntry → Type 0
AreHeld rows None held = held ≡ []
AreHeld rows (Some words) held = held_in rows words ≡ Some held

-- What is compared is the device of a data sheet that says this, as it is asked for: the node-ID that
-- is given goes before the sheet's own. `originals` are the original data types of its sections, by
-- the line, `vendor_name` and `product_name` its names, and `master` whether it says that the device
-- may be the boot-up master.
pub record IsAskedOf (content : SheetContent) (originals : ℕ → Option (List ℕ)) (vendor_name product_name : Option (List ℕ)) (master : Bool)
    (asked : Asked) (recording : List ℕ) (c : Comparison) : Type 0 where
  pub node : option_or asked.node content.node_id ≡ Some c.subject.node
  pub limits : c.subject.limits ≡ asked.limits
  pub facts : c.subject.facts ≡ with_master master (facts_of content.rows c.subject.node (is_some content.node_id))
  pub held : AreHeld content.rows (option_copied asked.held) c.subject.held.entries.items
  pub rooms : c.subject.rooms ≡ asked.rooms
  pub rows : c.rows ≡ content.rows
  pub originals_of : (line : ℕ) → c.originals line ≡ originals line
  pub vendor : c.vendor_name ≡ vendor_name
  pub product : c.product_name ≡ product_name
  pub recording_of : c.recording ≡ recording
  pub interface : c.interface ≡ option_copied asked.interface
  pub choices : c.choices ≡ asked.choices
  pub learned : c.learned ≡ asked.learned

-- the same of the data sheet of this text, which is accepted
abbrev pub IsAsked : List ℕ → Asked → List ℕ → Comparison → Type 0
IsAsked text asked recording c =
    (content : SheetContent) × IsSheet text content
    × IsAskedOf content (original_at text) (info_in (codes "VendorName") text) (info_in (codes "ProductName") text) (is_boot_up_master text) asked recording c

-- A recording is compared with the data sheet of a text, of which this holds of what is compared: all is
-- written, and the status is that of the recording.
abbrev pub IsJudged : (Comparison → Type 0) → Asked → List ℕ → Option (List ℕ) → Option (List ℕ) → ℕ → Type 0
IsJudged Of asked sheet old new status =
    (c : Comparison) × Of c × (text : List ℕ) × Judged asked.format c asked.version.now sheet asked.form old new status text
