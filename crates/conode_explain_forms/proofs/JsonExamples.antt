-- Lines as objects of JSON, evaluated: each part, and both sides of each edge.
use Rattle.std.proofs.Common.{◌≡◌, ℕ, true, false, List, [], ◌∷◌, Some, None, map, refl}
use Rattle.std.specs.Prelude.{codes}
use Rattle.std.specs.Fmt.{digits}
use Rattle.std.specs.List.{flat_map}
use Rattle.std.specs.Str.{is_utf8, chars}
use lib.Utf8.{encode}
use Rattle.json.specs.Token.{begin_array, end_array, key, string, number, boolean}
use Rattle.json.specs.Print.{print_from, escape_byte}
use Rattle.co_text.specs.Printed.{digits_text}
use Rattle.conode_record.specs.declared.content.Content.TheVariants.{Data, Remote, Fd}
use Rattle.conode_record.specs.declared.fields.Identifier.TheVariants.{Base, Extended, Error}
use Rattle.conode_record.specs.declared.line.Record.{Record}
use Rattle.conode_json.specs.Characters.{characters_of, windows_1252}
use Rattle.conode_explain_transfers.specs.declared.ended.Ended.{Ended}
use Rattle.conode_explain_transfers.specs.declared.ended.Ending.{Ending}
use Rattle.conode_explain_transfers.specs.declared.ended.Ending.TheVariants.{Done, Aborted, Unanswered, Repeated, Interrupted, Unfinished, Irregular, SizeDiffers, CrcDiffers}
use Rattle.conode_explain_transfers.specs.declared.kinds.Direction.{Direction}
use Rattle.conode_explain_transfers.specs.declared.kinds.Direction.TheVariants.{Download, Upload}
use Rattle.conode_explain_transfers.specs.declared.kinds.Protocol.{Protocol}
use Rattle.conode_explain_transfers.specs.declared.kinds.Protocol.TheVariants.{Undecided, Expedited, Segmented, Block}
use Rattle.conode_explain_transfers.specs.declared.kinds.Side.TheVariants.{Client, Server}
use Rattle.conode_explain_filter.specs.declared.kind.Kind.TheVariants.{Sync, Pdo, Nmt}
use Rattle.conode_explain_text.specs.declared.so_far.Times.{Times}
use Rattle.conode_explain_text.specs.declared.stamps.StampForm.TheVariants.{Relative, Absolute, Delta, Date as AsDate}
use Rattle.conode_explain_text.specs.Dates.{date_in_year, date_of, day_of_year, year_of_cycle}
use Rattle.conode_explain_text.specs.Lines.{content, gap, identifier, interface, line_parts, odd_words, note, own_parts, said, stamp}
use Rattle.conode_explain_text.specs.SoFar.{nothing_seen, seen_with}
use Rattle.conode_explain_text.specs.Stamps.{date_text, moment_text, time_of_day_text}
use Rattle.conode_json.specs.Members.{flag_member, number_member, numbers_member, text_member}
use Rattle.conode_explain_forms.specs.EndLines.{abort_members, end_json_line, end_tokens, protocol_members, result_members, result_name, subject_members}
use Rattle.conode_explain_forms.specs.JsonLines.{data_members, json_line, kind_members, line_tokens, of_several, part_tokens, stamp_member}

-- ---- times

times : ℕ → ℕ → ℕ → Times
times first before now = record { first = first; before = before; now = now }

since_first : part_tokens (stamp Relative (times 1000000 2000000 13345678)) ≡ key (codes "stamp") ∷ number (codes "12345678") ∷ []
unfolding times stamp_member number_member digits
since_first = refl

before_first : part_tokens (stamp Relative (times 1000000 2000000 999999)) ≡ key (codes "stamp") ∷ number (codes "-1") ∷ []
unfolding times stamp_member number_member digits
before_first = refl

as_recorded : part_tokens (stamp Absolute (times 1000000 2000000 1436509052249713)) ≡ key (codes "stamp") ∷ number (codes "1436509052249713") ∷ []
unfolding times stamp_member number_member digits
as_recorded = refl

since_before : part_tokens (stamp Delta (times 1000000 2000000 2000412)) ≡ key (codes "stamp") ∷ number (codes "412") ∷ []
unfolding times stamp_member number_member digits
since_before = refl

as_date : part_tokens (stamp AsDate (times 0 0 1436509052249713)) ≡ key (codes "stamp") ∷ string (codes "2015-07-10 06:17:32.249713") ∷ []
unfolding times stamp_member text_member moment_text date_text time_of_day_text date_of date_in_year day_of_year year_of_cycle digits_text digits
as_date = refl

gap_back : part_tokens (gap (times 1000000 2000000 1999988)) ≡ key (codes "gap") ∷ number (codes "-12") ∷ []
unfolding times number_member digits
gap_back = refl

-- ---- a frame

name_escaped : part_tokens (interface (0x20 ∷ 0x7E ∷ [])) ≡ key (codes "interface") ∷ string (codes "\\x20~") ∷ []
unfolding text_member digits_text
name_escaped = refl

id_base : part_tokens (identifier (Base 0x07F)) ≡ key (codes "id") ∷ string (codes "07F") ∷ []
unfolding text_member digits_text
id_base = refl

id_extended : part_tokens (identifier (Extended 0x7F)) ≡ key (codes "id") ∷ string (codes "0000007F") ∷ []
unfolding text_member digits_text
id_extended = refl

id_error : part_tokens (identifier (Error 4)) ≡ key (codes "id") ∷ string (codes "20000004") ∷ key (codes "error") ∷ boolean true ∷ []
unfolding text_member flag_member digits_text
id_error = refl

two_bytes : part_tokens (content (Data (0xE8 ∷ 3 ∷ [])))
    ≡ key (codes "frame") ∷ string (codes "data") ∷ key (codes "length") ∷ number (codes "2") ∷ key (codes "data") ∷ begin_array ∷ number (codes "232") ∷ number (codes "3") ∷ end_array
    ∷ key (codes "raw") ∷ string (codes "E803") ∷ []
unfolding data_members numbers_member number_member text_member digits_text digits
two_bytes = refl

remote_of_8 : part_tokens (content (Remote 8))
    ≡ key (codes "frame") ∷ string (codes "remote") ∷ key (codes "length") ∷ number (codes "8") ∷ key (codes "data") ∷ begin_array ∷ end_array ∷ key (codes "raw") ∷ string [] ∷ []
unfolding data_members numbers_member number_member text_member digits_text digits
remote_of_8 = refl

fd_of_one : part_tokens (content (Fd 1 (0 ∷ [])))
    ≡ key (codes "frame") ∷ string (codes "fd") ∷ key (codes "flags") ∷ number (codes "1") ∷ key (codes "length") ∷ number (codes "1") ∷ key (codes "data") ∷ begin_array ∷ number (codes "0") ∷ end_array ∷ key (codes "raw") ∷ string (codes "00") ∷ []
unfolding data_members numbers_member number_member text_member digits_text digits
fd_of_one = refl

-- a control character as it is, which the text escapes; a byte that is no UTF-8
said_as_it_is : part_tokens (said (65 ∷ 27 ∷ [])) ≡ key (codes "text") ∷ string (65 ∷ 27 ∷ []) ∷ []
unfolding text_member characters_of is_utf8 chars encode
said_as_it_is = refl

said_in_windows : part_tokens (said (0xFC ∷ [])) ≡ key (codes "text") ∷ string (0xC3 ∷ 0xBC ∷ []) ∷ []
unfolding text_member characters_of windows_1252 is_utf8 chars encode
said_in_windows = refl

noted : part_tokens (note (codes "back")) ≡ key (codes "note") ∷ string (codes "back") ∷ []
unfolding text_member
noted = refl

of_a_node : kind_members Pdo (Some 127) ≡ key (codes "kind") ∷ string (codes "pdo") ∷ key (codes "node") ∷ number (codes "127") ∷ []
unfolding kind_members text_member number_member digits
of_a_node = refl

of_all_nodes : kind_members Nmt (Some 0) ≡ key (codes "kind") ∷ string (codes "nmt") ∷ key (codes "node") ∷ number (codes "0") ∷ []
unfolding kind_members text_member number_member digits
of_all_nodes = refl

of_no_node : kind_members Sync None ≡ key (codes "kind") ∷ string (codes "sync") ∷ []
unfolding kind_members text_member
of_no_node = refl

-- ---- whole lines

sync : ℕ → List ℕ → Record
sync micros name = record { micros = micros; interface = name; id = Base 0x80; content = Data (7 ∷ []); direction = None }

first_line : json_line Sync None (line_parts Relative (of_several nothing_seen) (sync 5 (codes "can0")) (codes "SYNC \"7\""))
    ≡ codes "{\"stamp\":0,\"gap\":0,\"interface\":\"can0\",\"id\":\"080\",\"frame\":\"data\",\"length\":1,\"data\":[7],\"raw\":\"07\",\"text\":\"SYNC \\\"7\\\"\",\"kind\":\"sync\"}\n"
unfolding sync json_line line_tokens line_parts odd_words stamp_member kind_members data_members numbers_member text_member number_member characters_of is_utf8 chars encode digits_text digits print_from escape_byte
first_line = refl

line_back_on_another : json_line Sync None (line_parts Relative (of_several (seen_with nothing_seen 5 (codes "can0"))) (sync 4 (codes "can1")) (codes "SYNC"))
    ≡ codes "{\"stamp\":-1,\"gap\":-1,\"interface\":\"can1\",\"id\":\"080\",\"frame\":\"data\",\"length\":1,\"data\":[7],\"raw\":\"07\",\"text\":\"SYNC\",\"note\":\"the stamp steps back\",\"kind\":\"sync\"}\n"
unfolding sync json_line line_tokens line_parts odd_words stamp_member kind_members data_members numbers_member text_member number_member characters_of is_utf8 chars encode digits_text digits print_from escape_byte
line_back_on_another = refl

line_on_the_same : json_line Sync None (line_parts Relative (of_several (seen_with nothing_seen 5 (codes "can0"))) (sync 6 (codes "can0")) (codes "SYNC"))
    ≡ codes "{\"stamp\":1,\"gap\":1,\"interface\":\"can0\",\"id\":\"080\",\"frame\":\"data\",\"length\":1,\"data\":[7],\"raw\":\"07\",\"text\":\"SYNC\",\"kind\":\"sync\"}\n"
unfolding sync json_line line_tokens line_parts odd_words stamp_member kind_members data_members numbers_member text_member number_member characters_of is_utf8 chars encode digits_text digits print_from escape_byte
line_on_the_same = refl

-- ---- transfers that ended

-- of 2100:01, from 1 s to 1.182 s
abbrev transfer : Direction → Protocol → ℕ → Ending → Ended
transfer direction protocol bytes ending = record {
  key = record { index = 0x2100; sub = 1 };
  direction = direction;
  protocol = protocol;
  bytes = bytes;
  first = record { items = [] };
  frames = 150;
  begun = 1000000;
  newest = 1180000;
  end = 1182000;
  ending = ending;
  fault = None;
}

done_line : end_json_line 5 (transfer Download Block 1024 (Done true)) (own_parts Relative (times 5 5 6) true (codes "can1") (codes "node 5  done"))
    ≡ codes "{\"stamp\":1,\"interface\":\"can1\",\"text\":\"node 5  done\",\"kind\":\"sdo\",\"node\":5,\"index\":8448,\"subIndex\":1,\"direction\":\"download\",\"protocol\":\"block\",\"result\":\"done\",\"bytes\":1024,\"frames\":150,\"duration\":182000}\n"
unfolding times end_json_line end_tokens subject_members result_members own_parts stamp_member kind_members text_member number_member characters_of is_utf8 chars encode digits_text digits print_from escape_byte
done_line = refl

aborted_line : end_json_line 127 (transfer Upload Undecided 0 (Aborted Server (record { 0 = 0x06020000 }))) (own_parts Relative (times 5 5 5) true (codes "can1") (codes "x"))
    ≡ codes "{\"stamp\":0,\"interface\":\"can1\",\"text\":\"x\",\"kind\":\"sdo\",\"node\":127,\"index\":8448,\"subIndex\":1,\"direction\":\"upload\",\"result\":\"aborted\",\"bytes\":0,\"frames\":150,\"duration\":182000,\"abortedBy\":\"server\",\"abortCode\":\"06020000\"}\n"
unfolding times end_json_line end_tokens subject_members result_members own_parts stamp_member kind_members text_member number_member characters_of is_utf8 chars encode digits_text digits print_from escape_byte
aborted_line = refl

by_the_client : abort_members (Aborted Client (record { 0 = 0x0504000A }))
    ≡ key (codes "abortedBy") ∷ string (codes "client") ∷ key (codes "abortCode") ∷ string (codes "0504000A") ∷ []
unfolding text_member digits_text
by_the_client = refl

protocols : flat_map protocol_members (Undecided ∷ Expedited ∷ Segmented ∷ Block ∷ [])
    ≡ key (codes "protocol") ∷ string (codes "expedited") ∷ key (codes "protocol") ∷ string (codes "segmented") ∷ key (codes "protocol") ∷ string (codes "block") ∷ []
unfolding text_member
protocols = refl

results : map result_name (Done false ∷ Aborted Client (record { 0 = 0 }) ∷ Unanswered ∷ Repeated ∷ Interrupted ∷ Unfinished ∷ Irregular ∷ SizeDiffers 1 ∷ CrcDiffers 1 2 ∷ [])
    ≡ codes "done" ∷ codes "aborted" ∷ codes "unanswered" ∷ codes "repeated" ∷ codes "interrupted" ∷ codes "unfinished" ∷ codes "irregular" ∷ codes "sizeDiffers" ∷ codes "crcDiffers" ∷ []
results = refl

not_aborted : flat_map abort_members (Done false ∷ Unanswered ∷ SizeDiffers 1 ∷ []) ≡ []
not_aborted = refl

-- an end with an earlier stamp than the beginning; a number that readers may not keep
of_no_time : result_members (record { key = record { index = 0; sub = 0 }; direction = Upload; protocol = Block; bytes = 9007199254740992; first = record { items = [] }; frames = 1; begun = 2; newest = 2; end = 1; ending = Unfinished; fault = None })
    ≡ key (codes "result") ∷ string (codes "unfinished") ∷ key (codes "bytes") ∷ string (codes "9007199254740992") ∷ key (codes "frames") ∷ number (codes "1") ∷ key (codes "duration") ∷ number (codes "0") ∷ []
unfolding result_members text_member number_member digits
of_no_time = refl
