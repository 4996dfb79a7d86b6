-- A document of JSON, evaluated, and its parts on both sides of each edge.
use Rattle.std.proofs.Common.{◌≡◌, true, [], ◌∷◌, ◌++◌, None, codes, refl}
use Rattle.std.specs.Fmt.{digits}
use Rattle.std.specs.Str.{chars, is_utf8}
use lib.Utf8.{encode}
use Rattle.json.specs.Print.{escape_byte, print_from}
use Rattle.json.specs.Token.{begin_object, end_object, key, number, string}
use Rattle.co_text.specs.Printed.{digits_text}
use Rattle.conode_json.specs.Characters.{characters_of, windows_1252}
use Rattle.conode_json.specs.Members.{array_begin, flag_member, number_member, object_begin, text_member}
use Rattle.conode_text.specs.Filled.{filled}
use Rattle.conode_compare_text.specs.FindingTexts.{finding_text}
use Rattle.conode_compare_text.specs.Values.{millis_text}
use Rattle.conode_compare_text.specs.Tallies.{no_frames}
use Rattle.conode_compare_report.specs.Reports.{nothing_kept}
use Rattle.conode_compare_report.specs.declared.outcome.Outcome.TheVariants.{NoDifference, Differences, NoFrame, SeveralInterfaces}
use Rattle.conode_compare_report.specs.Outcomes.{of_tally, outcome_name, outcome_of}
use Rattle.conode_compare_documents.specs.CoverageTokens.{abort_tokens, aborts_member, coverage_member, entries_member, entry_tokens, served_tokens, services_member, states_member, type_tokens, types_member}
use Rattle.conode_compare_documents.specs.NotedTokens.{context_member, context_tokens, findings_member, noted_tokens, said_tokens}
use Rattle.conode_compare_documents.specs.JsonDocument.{document_begin, document_tokens, ended_members, json_document, kind_tokens, kinds_member, outcome_members}
use Rattle.conode_compare_documents.specs.Parts.{bytes_if}
use Rattle.conode_compare_documents.proofs.Reported.{about, report}

-- ---- how it ended

no_difference : of_tally (record no_frames { prescribed = 1 }) ∷ of_tally (record no_frames { unjudged = 1 }) ∷ [] ≡ NoDifference ∷ NoDifference ∷ []
no_difference = refl

differences : of_tally (record no_frames { different = 1; prescribed = 7 }) ≡ Differences
differences = refl

no_frame : of_tally no_frames ≡ NoFrame
no_frame = refl

-- of several interfaces, whatever was found on the first
several_interfaces : outcome_of (record about { several = true }) ≡ SeveralInterfaces
several_interfaces = refl

not_compared : outcome_name NoFrame ∷ outcome_name SeveralInterfaces ∷ [] ≡ codes "not compared" ∷ codes "not compared" ∷ []
not_compared = refl

-- ---- what is left out

no_name : bytes_if (codes "name") None ≡ []
unfolding text_member
no_name = refl

-- a recording without a frame of the interface
no_stamps : outcome_members about (nothing_kept [] 5)
    ≡ key (codes "verdict") ∷ string (codes "differences") ∷ key (codes "frames") ∷ begin_object ∷ key (codes "prescribed") ∷ number (codes "2")
    ∷ key (codes "different") ∷ number (codes "1") ∷ key (codes "unjudged") ∷ number (codes "18") ∷ end_object
    ∷ key (codes "unjudgedFrames") ∷ begin_object ∷ key (codes "heartbeats") ∷ number (codes "3") ∷ key (codes "emcy") ∷ number (codes "4")
    ∷ key (codes "sdoAnswers") ∷ number (codes "5") ∷ key (codes "tpdos") ∷ number (codes "6") ∷ end_object
    ∷ key (codes "lines") ∷ number (codes "0") ∷ key (codes "badLines") ∷ number (codes "0") ∷ key (codes "unlisted") ∷ number (codes "0") ∷ []
unfolding ended_members nothing_kept object_begin text_member number_member digits
no_stamps = refl

-- ---- the document

document : json_document about report
    ≡ codes "{\"version\":1,\"program\":\"0.12.0\",\"sheet\":\"a&b.eds\",\"recording\":\"a.log\",\"device\":{\"node\":5,\"vendor\":69,\"revision\":4294967295,\"vendorName\":\"A\\\"B\",\"recordedSerial\":123456},"
    ++ codes "\"limits\":{\"tolerance\":10,\"drift\":1,\"answer\":1000,\"boot\":10000},\"verdict\":\"differences\",\"frames\":{\"prescribed\":2,\"different\":1,\"unjudged\":18},"
    ++ codes "\"unjudgedFrames\":{\"heartbeats\":3,\"emcy\":4,\"sdoAnswers\":5,\"tpdos\":6},"
    ++ codes "\"lines\":8,\"badLines\":1,\"begin\":1000000,\"end\":3020001,\"unlisted\":0,"
    ++ codes "\"findings\":[{\"line\":3,\"stamp\":3020001,\"kind\":\"heartbeat-late\",\"text\":\"heartbeat-late: 1020.001 ms since the last one, 1017:00 has 1000 ms\","
    ++ codes "\"rule\":\"a heartbeat comes within the producer heartbeat time, 1017:00 (CiA 301, 7.2.8.3.2)\","
    ++ codes "\"context\":[{\"line\":2,\"text\":\"(2.000000) c 705#7F\"},{\"line\":3,\"text\":\"" ++ 0xC3 ∷ 0xBC ∷ codes "\"}]}],"
    ++ codes "\"kinds\":[{\"name\":\"heartbeat-late\",\"rule\":\"a heartbeat comes within the producer heartbeat time, 1017:00 (CiA 301, 7.2.8.3.2)\",\"found\":1,\"occasions\":2},"
    ++ codes "{\"name\":\"pdo-sync\",\"rule\":\"a TPDO of type n up to 240 is sent at each n-th SYNC, of type 0 after one (CiA 301, 7.5.2.37)\",\"found\":0,\"occasions\":4},"
    ++ codes "{\"name\":\"answer-crc\",\"rule\":\"a block upload ends with the CRC of its bytes (CiA 301, 7.2.4.3.16)\",\"found\":0,\"occasions\":0}],"
    ++ codes "\"coverage\":{\"entries\":[{\"index\":4119,\"subIndex\":0,\"name\":\"<Heartbeat>\",\"read\":false,\"written\":true,\"refused\":false}],"
    ++ codes "\"services\":[{\"name\":\"boot-up\",\"count\":1}],\"states\":{\"initialising\":false,\"preOperational\":true,\"operational\":false,\"stopped\":false},"
    ++ codes "\"tpdoTypes\":[{\"type\":254,\"count\":7}],\"abortCodes\":[{\"code\":\"06020000\",\"count\":2}]}}\n"
unfolding json_document document_tokens document_begin ended_members findings_member noted_tokens said_tokens context_member context_tokens kinds_member kind_tokens coverage_member entries_member entry_tokens services_member served_tokens states_member types_member type_tokens aborts_member abort_tokens finding_text millis_text array_begin object_begin text_member number_member flag_member characters_of windows_1252 is_utf8 chars encode digits_text digits print_from escape_byte filled
document = refl
