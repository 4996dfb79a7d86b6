-- What was compared, and how the page was made.
use Rattle.std.specs.Prelude.{ℕ, List, [], ◌∷◌, ◌++◌, length, codes, decimal, Option, Some, None}
use Rattle.std.specs.List.{concat}
use Rattle.std.specs.Option.{option_map}
use Rattle.conode_compare_report.specs.Abouts.{Described}
use Rattle.conode_compare_report.specs.declared.identity.Identity.{Identity}
use Rattle.conode_compare_report.specs.Views.{Kept}
use Rattle.conode_json.specs.Escapes.{escaped}
use Rattle.conode_json.specs.Filled.{any_text, code_digits, code_text, seconds_text}
use Rattle.conode_compare_documents.specs.declared.device.TheConstants.{CLOSING}

-- the parts of a row: a number of the identity, 1018h, with its name
abbrev pub identity_row : List ℕ → Option ℕ → List (List ℕ)
identity_row name number =
    codes "<dt>" ∷ name ∷ codes "</dt><dd>" ∷ code_text number (codes "not in the data sheet") ∷ codes "</dd>\n" ∷ []

-- a number that the recording shows, with its name, if it shows one
abbrev pub recorded_row : List ℕ → Option ℕ → List ℕ
recorded_row name number =
    any_text (codes "<dt>" ++ name ++ codes ", as recorded</dt><dd>") (option_map code_digits number) (codes "</dd>\n")

-- a text from outside, with its name, if there is one
abbrev pub any_row : List ℕ → Option (List ℕ) → List ℕ
any_row name text = any_text (codes "<dt>" ++ name ++ codes "</dt><dd>") (option_map escaped text) (codes "</dd>\n")

-- the identity by the sheet, and by the recording
abbrev pub identity : Described → Identity → List (List ℕ)
identity about shown =
    identity_row (codes "Vendor-ID") about.vendor ++ identity_row (codes "Product code") about.product
    ++ identity_row (codes "Revision number") about.revision
    ++ recorded_row (codes "Revision number") shown.revision ∷ recorded_row (codes "Serial number") shown.serial ∷ []

-- the node-ID, the data sheet with so many entries, and the recording with so many lines
abbrev pub compared_rows : Described → ℕ → ℕ → ℕ → List (List ℕ)
compared_rows about entries lines bad =
    codes "<dt>Node-ID</dt><dd>" ∷ decimal about.node
    ∷ codes "</dd>\n<dt>Data sheet</dt><dd>" ∷ escaped about.sheet ∷ codes ", " ∷ decimal entries
    ∷ codes " entries</dd>\n<dt>Recording</dt><dd>" ∷ escaped about.recording ∷ codes ", " ∷ decimal lines
    ∷ codes " lines, " ∷ decimal bad ∷ codes " of them bad</dd>\n" ∷ []

-- the names of vendor and product, if the sheet has them, the identity, what was compared, and the interface
unfoldable pub device_rows : Described → Identity → ℕ → ℕ → ℕ → List ℕ
device_rows about shown entries lines bad = concat (
    codes "<section>\n<h2>Device</h2>\n<dl>\n" ∷ any_row (codes "Vendor") about.vendor_name
    ∷ any_row (codes "Product") about.product_name ∷ identity about shown ++ compared_rows about entries lines bad
    ++ any_row (codes "Interface") about.interface ∷ [])

-- the stamps of the first and of the newest frame, and the end of the section
abbrev pub stamps_row : Option ℕ → ℕ → List ℕ
stamps_row None end = codes "</dl>\n</section>\n"
stamps_row (Some begin) end = concat (
    codes "<dt>Stamps</dt><dd>" ∷ seconds_text begin ∷ codes " to " ∷ seconds_text end
    ∷ codes " s</dd>\n</dl>\n</section>\n" ∷ [])

-- the device and its recording
unfoldable pub device : Described → Kept → List ℕ
device about report =
    device_rows about report.coverage.identity (length about.rows) report.lines report.bad_lines
    ++ stamps_row report.begin report.end

-- the end of the last section, and how the page was made: by which version, and how exactly the device was judged
unfoldable pub foot : Described → List ℕ
foot about = concat (
    codes "</section>\n<footer>Made by conode " ∷ escaped about.version ∷ codes ", as <code>conode compare --format html --tolerance "
    ∷ decimal about.limits.tolerance ∷ codes " --drift " ∷ decimal about.limits.drift
    ∷ codes " --answer " ∷ decimal about.limits.answer ∷ codes " --boot " ∷ decimal about.limits.boot ∷ CLOSING.now ∷ [])
