-- A comparison as a document of JUnit, the form of test results that build servers read.
use Rattle.std.specs.Prelude.{ℕ, ◌+◌, ◌-◌, ◌==◌, nat_lt, Bool, ◌&&◌, List, [], ◌∷◌, ◌++◌, length, codes, decimal, count_by}
use Rattle.std.specs.List.{concat, flat_map}
use Rattle.std.specs.Option.{option_map_or}
use Rattle.conode_compare_report.specs.Abouts.{Described}
use Rattle.conode_compare_report.specs.declared.kind.Counted.{Counted}
use Rattle.conode_compare_report.specs.Views.{Kept}
use Rattle.conode_json.specs.Escapes.{escaped}
use Rattle.conode_json.specs.Filled.{seconds_text}
use Rattle.conode_compare_report.specs.declared.outcome.Outcome.{Outcome}
use Rattle.conode_compare_report.specs.declared.outcome.Outcome.TheVariants.{NoDifference, Differences, NoFrame, SeveralInterfaces}
use Rattle.conode_compare_documents.specs.declared.junit_text.Numbers.{Numbers}
use Rattle.conode_compare_documents.specs.declared.junit_text.TheConstants.{OPENING}
use Rattle.conode_compare_documents.specs.JunitCases.{case_markup, outcome_case}
use Rattle.conode_compare_report.specs.Outcomes.{outcome_of}

abbrev pub is_failed : Counted → Bool
is_failed counted = nat_lt 0 counted.found

abbrev pub is_skipped : Counted → Bool
is_skipped counted = (counted.found == 0) && (counted.occasions == 0)

abbrev pub error_count : Outcome → ℕ
error_count NoDifference = 0
error_count Differences = 0
error_count NoFrame = 1
error_count SeveralInterfaces = 1

-- the microseconds from the first frame to the newest
abbrev pub span_of : Kept → ℕ
span_of report = option_map_or (λ begin. report.end - begin) report.begin 0

-- how many test cases there are, and how they ended
abbrev pub numbers_of : Described → Kept → Numbers
numbers_of about report = record {
  tests = length report.kinds + error_count (outcome_of about);
  failures = count_by is_failed report.kinds;
  errors = error_count (outcome_of about);
  skipped = count_by is_skipped report.kinds;
}

-- up to the test cases: the recording's name, their numbers, a time in seconds, and what was compared, by which version of the
-- program
unfoldable pub suite_begin : Described → Numbers → ℕ → List ℕ
suite_begin about numbers micros = concat (
    OPENING.now ∷ escaped about.recording ∷ codes "\" tests=\"" ∷ decimal numbers.tests
    ∷ codes "\" failures=\"" ∷ decimal numbers.failures ∷ codes "\" errors=\"" ∷ decimal numbers.errors
    ∷ codes "\" skipped=\"" ∷ decimal numbers.skipped ∷ codes "\" time=\"" ∷ seconds_text micros
    ∷ codes "\">\n<properties>\n<property name=\"version\" value=\"" ∷ escaped about.version
    ∷ codes "\"/>\n<property name=\"sheet\" value=\"" ∷ escaped about.sheet
    ∷ codes "\"/>\n<property name=\"recording\" value=\"" ∷ escaped about.recording
    ∷ codes "\"/>\n<property name=\"node\" value=\"" ∷ decimal about.node ∷ codes "\"/>\n</properties>\n" ∷ [])

unfoldable pub junit_document : Described → Kept → List ℕ
junit_document about report =
    suite_begin about (numbers_of about report) (span_of report)
    ++ flat_map (case_markup about.recording report.noted) report.kinds
    ++ outcome_case about.node (outcome_of about) ++ codes "</testsuite>\n</testsuites>\n"
