-- A document of JUnit, evaluated, and its parts on both sides of each edge.
use Rattle.std.proofs.Common.{◌≡◌, true, [], ◌∷◌, ◌++◌, codes, refl, replicate, append-nil}
use Rattle.std.specs.Fmt.{digits}
use Rattle.std.specs.List.{flat_map}
use Rattle.std.specs.Str.{chars, is_utf8}
use lib.Utf8.{encode}
use Rattle.co_text.specs.Printed.{digits_text}
use Rattle.conode_json.specs.Characters.{characters_of}
use Rattle.conode_json.specs.Escapes.{escaped_character}
use Rattle.conode_json.specs.Filled.{seconds_text}
use Rattle.conode_text.specs.Filled.{filled}
use Rattle.conode_compare_text.specs.FindingTexts.{finding_line, finding_text}
use Rattle.conode_compare_text.specs.Values.{line_front, millis_text}
use Rattle.conode_compare_text.specs.Tallies.{no_frames}
use Rattle.conode_compare_report.specs.declared.kind.Kind.TheVariants.{HeartbeatLate}
use Rattle.conode_compare_report.specs.Reports.{nothing_kept}
use Rattle.conode_compare_report.specs.declared.outcome.Outcome.TheVariants.{NoFrame, SeveralInterfaces}
use Rattle.conode_compare_documents.specs.JunitCases.{differences_word, failed_markup, failure_begin, is_of_kind, line_markup, lines_markup, no_frame_case, outcome_case, passed_markup}
use Rattle.conode_compare_documents.specs.JunitDocument.{junit_document, numbers_of, span_of, suite_begin}
use Rattle.conode_compare_documents.proofs.Reported.{about, late, report}

-- ---- the lines of a case

own_kind : is_of_kind HeartbeatLate late ≡ true
own_kind = refl

-- a hundred have a line, and what is found beyond them is counted
hundred : lines_markup (codes "a.log") 100 (replicate 100 late) ≡ flat_map (line_markup (codes "a.log")) (replicate 100 late)
unfolding lines_markup
hundred = append-nil (flat_map (line_markup (codes "a.log")) (replicate 100 late))

hundred_and_one : lines_markup (codes "a.log") 101 (replicate 101 late) ≡ flat_map (line_markup (codes "a.log")) (replicate 100 late) ++ codes "and 1 more\n"
unfolding lines_markup digits
hundred_and_one = refl

-- past those that are kept
none_kept : lines_markup (codes "a.log") 3 [] ≡ codes "and 3 more\n"
unfolding lines_markup digits
none_kept = refl

-- the recording's name is escaped
odd_name : line_markup (codes "<b>") late ≡ codes "&lt;b&gt;:3: heartbeat-late: 1020.001 ms since the last one, 1017:00 has 1000 ms\n"
unfolding line_markup finding_line finding_text millis_text escaped_character characters_of is_utf8 chars encode digits_text digits filled line_front
odd_name = refl

one_and_two : differences_word 0 ∷ differences_word 1 ∷ differences_word 2 ∷ [] ≡ codes " differences: " ∷ codes " difference: " ∷ codes " differences: " ∷ []
one_and_two = refl

-- ---- the numbers

no_span : span_of (nothing_kept [] 5) ≡ 0
unfolding nothing_kept
no_span = refl

-- the stamps stepped back
span_back : span_of (record report { end = 999999 }) ≡ 0
span_back = refl

-- ---- a comparison that couldn't be made

no_frame : outcome_case 5 NoFrame ≡ codes "<testcase classname=\"conode.compare\" name=\"compared\"><error type=\"not-compared\" message=\"no frame of node 5\"/></testcase>\n"
unfolding outcome_case no_frame_case digits
no_frame = refl

several_interfaces : outcome_case 5 SeveralInterfaces ≡ codes "<testcase classname=\"conode.compare\" name=\"compared\"><error type=\"not-compared\" message=\"several interfaces: name one with --interface\"/></testcase>\n"
unfolding outcome_case
several_interfaces = refl

one_more_case : numbers_of (record about { tally = no_frames }) report ≡ record { tests = 4; failures = 1; errors = 1; skipped = 1 }
one_more_case = refl

-- ---- the document

document : junit_document about report
    ≡ codes "<?xml version=\"1.0\" encoding=\"UTF-8\"?>\n<testsuites>\n"
    ++ codes "<testsuite name=\"a.log\" tests=\"3\" failures=\"1\" errors=\"0\" skipped=\"1\" time=\"2.020001\">\n"
    ++ codes "<properties>\n<property name=\"version\" value=\"0.12.0\"/>\n<property name=\"sheet\" value=\"a&amp;b.eds\"/>\n"
    ++ codes "<property name=\"recording\" value=\"a.log\"/>\n<property name=\"node\" value=\"5\"/>\n</properties>\n"
    ++ codes "<testcase classname=\"conode.compare\" name=\"heartbeat-late\"><failure type=\"heartbeat-late\" message=\"1 difference: "
    ++ codes "a heartbeat comes within the producer heartbeat time, 1017:00 (CiA 301, 7.2.8.3.2)\">"
    ++ codes "a.log:3: heartbeat-late: 1020.001 ms since the last one, 1017:00 has 1000 ms\n</failure></testcase>\n"
    ++ codes "<testcase classname=\"conode.compare\" name=\"pdo-sync\"/>\n"
    ++ codes "<testcase classname=\"conode.compare\" name=\"answer-crc\"><skipped message=\"no occasion in this recording\"/></testcase>\n"
    ++ codes "</testsuite>\n</testsuites>\n"
unfolding junit_document suite_begin passed_markup failed_markup failure_begin lines_markup line_markup outcome_case finding_line finding_text millis_text seconds_text escaped_character characters_of is_utf8 chars encode digits_text digits filled line_front
document = refl
