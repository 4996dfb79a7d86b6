-- A comparison as one document of JSON, in tokens (RFC 8259). Stamps are in microseconds.
use Rattle.std.specs.Prelude.{ℕ, List, [], ◌∷◌, ◌++◌, pos, codes, Option, option_map}
use Rattle.std.specs.List.{flat_map}
use Rattle.json.specs.Token.{Token, begin_object, end_object, end_array}
use Rattle.json.specs.Print.{print}
use Rattle.conode_json.specs.Members.{array_begin, number_if, number_member, object_begin, text_member}
use Rattle.conode_compare_text.specs.declared.tally.Tally.{Tally}
use Rattle.conode_compare_report.specs.Abouts.{Described}
use Rattle.conode_compare_report.specs.declared.identity.Identity.{Identity}
use Rattle.conode_compare_report.specs.declared.kind.Counted.{Counted}
use Rattle.conode_compare_report.specs.Kinds.{kind_name, kind_rule}
use Rattle.conode_compare_report.specs.Views.{Kept}
use Rattle.conode_compare_documents.specs.CoverageTokens.{coverage_member}
use Rattle.conode_compare_documents.specs.NotedTokens.{findings_member}
use Rattle.conode_compare_documents.specs.Parts.{bytes_if, joined}
use Rattle.conode_compare_report.specs.Outcomes.{outcome_name, outcome_of}

-- what was compared, and how: the node-ID, the identity and the names of the sheet, as far as it has them, and the identity
-- that the recording shows; how exactly the device is judged, in ms and in percent
unfoldable pub document_begin : Described → Identity → List Token
document_begin about shown =
    joined ((begin_object ∷ []) ∷ number_member (codes "version") (pos 1) ∷ [])
    ++ text_member (codes "program") about.version ++ text_member (codes "sheet") about.sheet
    ++ text_member (codes "recording") about.recording
    ++ joined (object_begin (codes "device") ∷ number_member (codes "node") (pos about.node)
    ∷ number_if (codes "vendor") (option_map pos about.vendor) ∷ number_if (codes "product") (option_map pos about.product)
    ∷ number_if (codes "revision") (option_map pos about.revision) ∷ [])
    ++ bytes_if (codes "vendorName") about.vendor_name ++ bytes_if (codes "productName") about.product_name
    ++ joined (number_if (codes "recordedRevision") (option_map pos shown.revision)
    ∷ number_if (codes "recordedSerial") (option_map pos shown.serial) ∷ (end_object ∷ [])
    ∷ object_begin (codes "limits") ∷ number_member (codes "tolerance") (pos about.limits.tolerance)
    ∷ number_member (codes "drift") (pos about.limits.drift) ∷ number_member (codes "answer") (pos about.limits.answer)
    ∷ number_member (codes "boot") (pos about.limits.boot) ∷ (end_object ∷ []) ∷ [])

-- the stamp of the newest frame, if there is one
abbrev pub end_of : Kept → Option ℕ
end_of report = option_map (λ begin. report.end) report.begin

-- how it ended: the verdict, how many frames have which verdict, of which services the unjudged ones are, the lines of the
-- recording, the stamps of its first and its newest frame, and how many differences aren't listed
unfoldable pub ended_members : List ℕ → Tally → Kept → Option ℕ → List Token
ended_members verdict tally report end = joined (
    text_member (codes "verdict") verdict ∷ object_begin (codes "frames")
    ∷ number_member (codes "prescribed") (pos tally.prescribed) ∷ number_member (codes "different") (pos tally.different)
    ∷ number_member (codes "unjudged") (pos tally.unjudged) ∷ (end_object ∷ [])
    ∷ object_begin (codes "unjudgedFrames") ∷ number_member (codes "heartbeats") (pos tally.services.heartbeats)
    ∷ number_member (codes "emcy") (pos tally.services.emergencies) ∷ number_member (codes "sdoAnswers") (pos tally.services.answers)
    ∷ number_member (codes "tpdos") (pos tally.services.tpdos) ∷ (end_object ∷ [])
    ∷ number_member (codes "lines") (pos report.lines) ∷ number_member (codes "badLines") (pos report.bad_lines)
    ∷ number_if (codes "begin") (option_map pos report.begin) ∷ number_if (codes "end") (option_map pos end)
    ∷ number_member (codes "unlisted") (pos report.unlisted) ∷ [])

abbrev pub outcome_members : Described → Kept → List Token
outcome_members about report = ended_members (outcome_name (outcome_of about)) about.tally report (end_of report)

-- a kind of difference: how often it was found, and how often it could have been
unfoldable pub kind_tokens : Counted → List Token
kind_tokens counted = joined (
    (begin_object ∷ []) ∷ text_member (codes "name") (kind_name counted.kind) ∷ text_member (codes "rule") (kind_rule counted.kind)
    ∷ number_member (codes "found") (pos counted.found) ∷ number_member (codes "occasions") (pos counted.occasions)
    ∷ (end_object ∷ []) ∷ [])

unfoldable pub kinds_member : List Counted → List Token
kinds_member kinds = array_begin (codes "kinds") ++ flat_map kind_tokens kinds ++ end_array ∷ []

unfoldable pub document_tokens : Described → Kept → List Token
document_tokens about report =
    document_begin about report.coverage.identity ++ outcome_members about report
    ++ findings_member report.context report.noted ++ kinds_member report.kinds ++ coverage_member about.rows report.coverage ++ end_object ∷ []

-- the text of the tokens, and a line feed
unfoldable pub json_document : Described → Kept → List ℕ
json_document about report = print (document_tokens about report) ++ 10 ∷ []
