-- The parts of the page, evaluated.
use Rattle.std.proofs.Common.{◌≡◌, ℕ, List, [], ◌∷◌, ◌++◌, true, false, None, Some, refl, codes, map}
use Rattle.std.specs.Fmt.{digits}
use Rattle.std.specs.List.{concat, flat_map}
use Rattle.std.specs.Str.{chars, is_utf8}
use Rattle.co_text.specs.Printed.{digits_text}
use Rattle.conode_compare_nmt.specs.declared.finding.Finding.TheVariants.{HeartbeatLate}
use Rattle.conode_compare_report.specs.declared.coverage.Covered.{Covered}
use Rattle.conode_compare_report.specs.declared.lanes.Bin.{Bin}
use Rattle.conode_compare_report.specs.declared.lanes.Lane.TheVariants.{Heartbeats, Emergencies, Transfers, Tpdos, Rpdos}
use Rattle.conode_compare_report.specs.declared.lanes.States.{States}
use Rattle.conode_compare_report.specs.declared.noted.Noted.{Noted}
use Rattle.conode_compare_report.specs.Contexts.{KeptLine}
use Rattle.conode_compare_report.specs.Spans.{LanesView}
use Rattle.conode_text.specs.Filled.{filled}
use Rattle.conode_compare_text.specs.FindingTexts.{finding_text}
use Rattle.conode_compare_text.specs.Beside.{no_details}
use Rattle.conode_compare_text.specs.Values.{millis_text}
use Rattle.conode_json.specs.Characters.{characters_of}
use Rattle.conode_json.specs.Escapes.{escaped_character}
use Rattle.conode_json.specs.Filled.{code_digits, seconds_text}
use Rattle.conode_compare_report.specs.declared.outcome.Outcome.{Outcome}
use Rattle.conode_compare_report.specs.declared.outcome.Outcome.TheVariants.{NoDifference, Differences, NoFrame, SeveralInterfaces}
use Rattle.conode_compare_documents.specs.declared.states.Shown.TheVariants.{Nothing, Initialising, PreOperational, Operational, Stopped, Several}
use Rattle.conode_compare_documents.specs.declared.coverage.Listed.TheVariants.{TransmissionTypes, AbortCodes}
use Rattle.conode_compare_documents.specs.declared.picture.TheConstants.{LEGEND}
use Rattle.conode_compare_documents.specs.declared.coverage.TheConstants.{NO_TYPES, TYPES}
use Rattle.conode_compare_documents.specs.Coverage.{count_or, entry_end, found_begin, is_listed, item_begin, numbers_text, row_begin, state_item, transferred_count}
use Rattle.conode_compare_documents.specs.Device.{any_row, identity_row, recorded_row}
use Rattle.conode_compare_documents.specs.Differences.{context_line, list_end, said}
use Rattle.conode_compare_documents.specs.Head.{headline_number, headline_words}
use Rattle.conode_compare_documents.specs.Indexed.{indexed}
use Rattle.conode_compare_documents.specs.Picture.{across, areas, axis_text, count_in, difference_mark, is_quiet, mark_text, next_shown, outline, quarter_of, shown_of, span_of, state_area, top_of}

-- ---- the verdict

abbrev headline : Outcome → ℕ → List ℕ
headline outcome count = headline_number outcome count ++ headline_words outcome count

headlines : headline NoDifference 0 ∷ headline Differences 1 ∷ headline Differences 2 ∷ headline NoFrame 0 ∷ headline SeveralInterfaces 3 ∷ []
    ≡ codes "No difference" ∷ codes "1 difference" ∷ codes "2 differences" ∷ codes "Not compared" ∷ codes "Not compared" ∷ []
unfolding digits
headlines = refl

-- ---- the device

identity_values : concat (identity_row (codes "A") None) ∷ concat (identity_row (codes "A") (Some 0xF1A2)) ∷ []
    ≡ codes "<dt>A</dt><dd>not in the data sheet</dd>\n" ∷ codes "<dt>A</dt><dd>0000F1A2h</dd>\n" ∷ []
unfolding code_digits digits_text
identity_values = refl

texts : any_row (codes "A") None ∷ any_row (codes "A") (Some (codes "c<0")) ∷ [] ≡ [] ∷ codes "<dt>A</dt><dd>c&lt;0</dd>\n" ∷ []
unfolding escaped_character characters_of is_utf8 chars lib.Utf8.encode
texts = refl

recorded : recorded_row (codes "A") None ∷ recorded_row (codes "A") (Some 0x1E240) ∷ [] ≡ [] ∷ codes "<dt>A, as recorded</dt><dd>0001E240h</dd>\n" ∷ []
unfolding code_digits digits_text
recorded = refl

-- ---- differences

abbrev late : Noted
late = record { line = 7; micros = 4120000; finding = HeartbeatLate 1021000 1000; details = no_details; first = 0 }

without_kind : said late ≡ codes "1021.000 ms since the last one, 1017:00 has 1000 ms"
unfolding finding_text millis_text digits_text digits filled
without_kind = refl

abbrev line : ℕ → KeptLine
line number = record { number = number; bytes = codes "a&b" }

context : flat_map (context_line 7) (line 6 ∷ line 7 ∷ line 8 ∷ []) ≡ codes "6: a&amp;b\n<mark>7: a&amp;b\n</mark>8: a&amp;b\n"
unfolding context_line digits escaped_character characters_of is_utf8 chars lib.Utf8.encode
context = refl

unlisted : list_end 0 ∷ list_end 12 ∷ []
    ≡ codes "</table>\n</section>\n" ∷ codes "</table>\n<p>12 more came after these, and aren't listed.</p>\n</section>\n" ∷ []
unfolding digits
unlisted = refl

-- ---- frames

-- none, one, 2 and 3, 4 to 7, more
tops : map top_of (0 ∷ 1 ∷ 2 ∷ 3 ∷ 4 ∷ 7 ∷ 8 ∷ []) ≡ 100 ∷ 50 ∷ 35 ∷ 35 ∷ 20 ∷ 20 ∷ 5 ∷ []
tops = refl

abbrev in_states : States → Bin
in_states states = record { states = states; heartbeats = 0; emergencies = 0; transfers = 0; tpdos = 0; rpdos = 0; differences = 0 }

abbrev unknown : States
unknown = record { initialising = false; pre_operational = false; operational = false; stopped = false }

-- with so many heartbeats, and twice as many of the next, and so on
abbrev frames : ℕ → Bin
frames count = record (in_states unknown) { heartbeats = count; emergencies = 2; transfers = 4; tpdos = 8; rpdos = 1 }

-- the outline of no frame, one, one, four and none: it ends where the last span does
outlines : outline Heartbeats 0 100 (frames 0 ∷ frames 1 ∷ frames 1 ∷ frames 4 ∷ frames 0 ∷ [])
    ≡ codes "H1V50H3V20H4V100H5V100Z\"/><use href=\"#across\"/></svg></div>\n"
unfolding digits
outlines = refl

other_lanes : map (λ lane. top_of (count_in lane (frames 0))) (Heartbeats ∷ Emergencies ∷ Transfers ∷ Tpdos ∷ Rpdos ∷ []) ≡ 100 ∷ 35 ∷ 20 ∷ 5 ∷ 50 ∷ []
other_lanes = refl

-- ---- states

abbrev initialising : States
initialising = record unknown { initialising = true }

abbrev pre_operational : States
pre_operational = record unknown { pre_operational = true }

abbrev operational : States
operational = record unknown { operational = true }

abbrev stopped : States
stopped = record unknown { stopped = true }

single : map shown_of (unknown ∷ initialising ∷ pre_operational ∷ operational ∷ stopped ∷ []) ≡ Nothing ∷ Initialising ∷ PreOperational ∷ Operational ∷ Stopped ∷ []
single = refl

both : map shown_of (record initialising { pre_operational = true } ∷ record initialising { operational = true } ∷ record initialising { stopped = true } ∷ record pre_operational { operational = true } ∷ record pre_operational { stopped = true } ∷ record operational { stopped = true } ∷ [])
    ≡ Several ∷ Several ∷ Several ∷ Several ∷ Several ∷ Several ∷ []
both = refl

-- nothing is known in the first span; neighbours in one state are one area
state_areas : areas Nothing 0 0 (in_states unknown ∷ in_states pre_operational ∷ in_states pre_operational ∷ in_states operational ∷ [])
    ≡ codes "<rect class=\"pre-operational\" x=\"1\" y=\"40\" width=\"2\" height=\"100\"><title>pre-operational</title></rect>\n<rect class=\"operational\" x=\"3\" y=\"0\" width=\"1\" height=\"100\"><title>operational</title></rect>\n"
unfolding state_area digits
state_areas = refl

-- without a frame a state goes on, but of several none; with one whose state is unknown, nothing is shown
after : map (λ bin. next_shown Operational bin) (in_states unknown ∷ in_states stopped ∷ record (in_states unknown) { rpdos = 1 } ∷ []) ≡ Operational ∷ Stopped ∷ Nothing ∷ []
after = refl

after_several : next_shown Several (in_states unknown) ≡ Nothing
after_several = refl

quiet : map is_quiet (in_states unknown ∷ record (in_states unknown) { heartbeats = 1 } ∷ record (in_states unknown) { emergencies = 1 } ∷ record (in_states unknown) { transfers = 1 } ∷ record (in_states unknown) { tpdos = 1 } ∷ record (in_states unknown) { rpdos = 1 } ∷ [])
    ≡ true ∷ false ∷ false ∷ false ∷ false ∷ false ∷ []
quiet = refl

-- ---- marks

abbrev with_differences : ℕ → Bin
with_differences count = record (in_states unknown) { differences = count }

lines_across : indexed across 0 (with_differences 1 ∷ with_differences 0 ∷ with_differences 9 ∷ []) ≡ codes "M0.5 0v100M2.5 0v100"
unfolding digits
lines_across = refl

abbrev three_spans : LanesView
three_spans = record { begin = 4000000; width = 50000; bins = with_differences 0 ∷ with_differences 0 ∷ with_differences 1 ∷ [] }

-- before the first frame, in the first span, at the begin of the second, after the last; without a width
places : span_of three_spans 3000000 ∷ span_of three_spans 4049999 ∷ span_of three_spans 4050000 ∷ span_of three_spans 9000000 ∷ span_of (record three_spans { width = 0 }) 9000000 ∷ []
    ≡ 0 ∷ 0 ∷ 1 ∷ 2 ∷ 0 ∷ []
places = refl

mark : difference_mark three_spans 5 late ≡ codes "<a href=\"#d5\"><path class=\"hit\" d=\"M2.5 0v100\"><title>line 7, 0.120000 s: heartbeat-late</title></path></a>\n"
unfolding mark_text seconds_text digits_text digits
mark = refl

axis : axis_text (quarter_of three_spans)
    ≡ codes "<div class=\"axis\"><span>0.000000 s</span><span>0.037500 s</span><span>0.075000 s</span><span>0.112500 s</span><span>0.150000" ++ LEGEND.now
unfolding axis_text seconds_text digits_text digits
axis = refl

-- ---- what the recording tested

counts : item_begin 0 ∷ count_or (codes "none") 0 ∷ row_begin 0 ∷ found_begin 0 ∷ item_begin 12 ∷ count_or (codes "none") 12 ∷ row_begin 12 ∷ found_begin 12 ∷ []
    ≡ codes "<li class=\"not\">" ∷ codes "none" ∷ codes "<tr class=\"not\"><td>" ∷ codes "</td><td class=\"n\" data-is=\"Found\">"
    ∷ codes "<li>" ∷ codes "12" ∷ codes "<tr><td>" ∷ codes "</td><td class=\"n found\" data-is=\"Found\">" ∷ []
unfolding digits
counts = refl

abbrev no_transfer : Covered
no_transfer = record { read = false; written = false; refused = false }

abbrev read : Covered
read = record no_transfer { read = true }

abbrev written : Covered
written = record no_transfer { written = true }

abbrev all_transfers : List Covered
all_transfers =
    no_transfer ∷ read ∷ written ∷ record no_transfer { refused = true } ∷ record read { written = true } ∷ record read { refused = true }
    ∷ record written { refused = true } ∷ record { read = true; written = true; refused = true } ∷ []

transfers : map entry_end all_transfers
    ≡ codes "</li>\n" ∷ codes "<b>read</b></li>\n" ∷ codes "<b>written</b></li>\n" ∷ codes "<b>refused</b></li>\n" ∷ codes "<b>read, written</b></li>\n"
    ∷ codes "<b>read, refused</b></li>\n" ∷ codes "<b>written, refused</b></li>\n" ∷ codes "<b>read, written, refused</b></li>\n" ∷ []
transfers = refl

one_has_none : transferred_count all_transfers ≡ 7
one_has_none = refl

lists : is_listed true read ∷ is_listed true no_transfer ∷ is_listed false read ∷ is_listed false no_transfer ∷ [] ≡ true ∷ false ∷ false ∷ true ∷ []
lists = refl

states_seen : concat (state_item (codes "stopped") true) ∷ concat (state_item (codes "stopped") false) ∷ []
    ≡ codes "<li>stopped<b>seen</b></li>\n" ∷ codes "<li class=\"not\">stopped<b>not seen</b></li>\n" ∷ []
states_seen = refl

types : numbers_text TransmissionTypes TYPES.now NO_TYPES.now [] ∷ numbers_text TransmissionTypes TYPES.now NO_TYPES.now (record { number = 254; count = 3 } ∷ []) ∷ []
    ≡ NO_TYPES.now ∷ (TYPES.now ++ codes "<li>type 254<b>3</b></li>\n</ul>\n") ∷ []
unfolding numbers_text digits
types = refl

aborts : numbers_text AbortCodes [] [] (record { number = 0x06020000; count = 2 } ∷ []) ≡ codes "<li><code>06020000h</code><b>2</b></li>\n</ul>\n"
unfolding numbers_text code_digits digits_text digits
aborts = refl
