-- The bus over time, in lanes: a picture (SVG) for each, all in the same scale, one unit a span of time.
use Rattle.std.specs.Prelude.{ℕ, ◌+◌, ◌-◌, ◌*◌, ◌/◌, ◌^◌, ◌==◌, nat_le, min, Bool, ◌&&◌, ◌||◌, if◌then◌else◌, List, [], ◌∷◌, ◌++◌, length, codes, decimal}
use Rattle.std.specs.List.{concat, flat_map}
use Rattle.conode_compare_report.specs.declared.lanes.Bin.{Bin}
use Rattle.conode_compare_report.specs.Spans.{LanesView}
use Rattle.conode_compare_report.specs.declared.lanes.States.{States}
use Rattle.conode_compare_report.specs.declared.noted.Noted.{Noted}
use Rattle.conode_compare_report.specs.Views.{Kept}
use Rattle.conode_compare_report.specs.Kinds.{kind_name, kind_of}
use Rattle.conode_json.specs.Filled.{seconds_text}
use Rattle.conode_compare_report.specs.declared.lanes.Lane.{Lane}
use Rattle.conode_compare_report.specs.declared.lanes.Lane.TheVariants.{Heartbeats, Emergencies, Transfers, Tpdos, Rpdos}
use Rattle.conode_compare_documents.specs.declared.states.Shown.{Shown}
use Rattle.conode_compare_documents.specs.declared.states.Shown.TheVariants.{Nothing, Initialising, PreOperational, Operational, Stopped, Several}
use Rattle.conode_compare_documents.specs.declared.lane.TheConstants.{OUTLINE, OUTLINE_END}
use Rattle.conode_compare_documents.specs.declared.picture.TheConstants.{ACROSS, LEGEND}
use Rattle.conode_compare_documents.specs.Indexed.{indexed}

-- a lane up to its picture, with its name, of so many spans, and what its picture begins with
unfoldable pub lane_begin : List ℕ → ℕ → List ℕ → List ℕ
lane_begin name spans within = concat (
    codes "<div class=\"lane\"><span>" ∷ name
    ∷ codes "</span><svg xmlns=\"http://www.w3.org/2000/svg\" viewBox=\"0 0 " ∷ decimal spans
    ∷ codes " 100\" preserveAspectRatio=\"none\">" ∷ within ∷ [])

-- ---- frames

abbrev pub lane_name : Lane → List ℕ
lane_name Heartbeats = codes "Heartbeat"
lane_name Emergencies = codes "EMCY"
lane_name Transfers = codes "SDO"
lane_name Tpdos = codes "TPDOs"
lane_name Rpdos = codes "RPDOs"

abbrev pub count_in : Lane → Bin → ℕ
count_in Heartbeats bin = bin.heartbeats
count_in Emergencies bin = bin.emergencies
count_in Transfers bin = bin.transfers
count_in Tpdos bin = bin.tpdos
count_in Rpdos bin = bin.rpdos

-- where the top of so many frames is, from the top of the lane: of none, one, 2 and 3, 4 to 7, and more
abbrev pub top_of : ℕ → ℕ
top_of count =
    if count == 0 then 100 else if count == 1 then 50
    else if nat_le count 3 then 35 else if nat_le count 7 then 20 else 5

-- a step of the outline
abbrev pub step : ℕ → ℕ → ℕ → List ℕ
step at before top = if top == before then [] else concat (codes "H" ∷ decimal at ∷ codes "V" ∷ decimal top ∷ [])

-- the outline of spans, from this one on, where the one before it has its top there; its end, and that of its lane
abbrev pub outline : Lane → ℕ → ℕ → List Bin → List ℕ
outline lane at before [] = concat (codes "H" ∷ decimal at ∷ OUTLINE_END.now ∷ [])
outline lane at before (bin ∷ rest) =
    step at before (top_of (count_in lane bin)) ++ outline lane (at + 1) (top_of (count_in lane bin)) rest

unfoldable pub frames_lane : List Bin → Lane → List ℕ
frames_lane bins lane = lane_begin (lane_name lane) (length bins) OUTLINE.now ++ outline lane 0 100 bins

-- ---- NMT states

abbrev pub shown_of : States → Shown
shown_of states =
    if states.initialising
    then (if states.pre_operational || states.operational || states.stopped then Several else Initialising)
    else if states.pre_operational then (if states.operational || states.stopped then Several else PreOperational)
    else if states.operational then (if states.stopped then Several else Operational)
    else if states.stopped then Stopped else Nothing

-- no frame of the device came in a span, so its state goes on
abbrev pub is_quiet : Bin → Bool
is_quiet bin =
    bin.heartbeats == 0 && bin.emergencies == 0 && bin.transfers == 0 && bin.tpdos == 0 && bin.rpdos == 0

-- what a span of no known state shows after one that showed this: it goes on where no frame came, but of several it isn't
-- known which
abbrev pub going_on : Shown → Bin → Shown
going_on Several bin = Nothing
going_on shown bin = if is_quiet bin then shown else Nothing

-- what a span shows after one that showed this
abbrev pub shown_after : Shown → Bin → Shown → Shown
shown_after shown bin Nothing = going_on shown bin
shown_after shown bin own = own

abbrev pub next_shown : Shown → Bin → Shown
next_shown shown bin = shown_after shown bin (shown_of bin.states)

-- where the top of a state is, from the top of the lane: each has its own
abbrev pub state_top : Shown → ℕ
state_top Nothing = 100
state_top Initialising = 85
state_top Stopped = 65
state_top PreOperational = 40
state_top Operational = 0
state_top Several = 20

abbrev pub state_class : Shown → List ℕ
state_class Nothing = []
state_class Initialising = codes "initialising"
state_class Stopped = codes "stopped"
state_class PreOperational = codes "pre-operational"
state_class Operational = codes "operational"
state_class Several = codes "several"

-- the spans in one state, of this class, with this top, so many from this one on
unfoldable pub state_area : List ℕ → ℕ → ℕ → ℕ → List ℕ
state_area class top from width = concat (
    codes "<rect class=\"" ∷ class ∷ codes "\" x=\"" ∷ decimal from ∷ codes "\" y=\"" ∷ decimal top
    ∷ codes "\" width=\"" ∷ decimal width ∷ codes "\" height=\"100\"><title>" ∷ class ∷ codes "</title></rect>\n" ∷ [])

-- nothing, if the state isn't known
abbrev pub any_area : Shown → ℕ → ℕ → List ℕ
any_area shown from to =
    if state_top shown == 100 then [] else state_area (state_class shown) (state_top shown) from (to - from)

-- the areas of spans, from this one on, where the state before it began there
abbrev pub areas : Shown → ℕ → ℕ → List Bin → List ℕ
areas shown from at [] = any_area shown from at
areas shown from at (bin ∷ rest) =
    if state_top (next_shown shown bin) == state_top shown then areas shown from (at + 1) rest
    else any_area shown from at ++ areas (next_shown shown bin) at (at + 1) rest

unfoldable pub states_lane : List Bin → List ℕ
states_lane bins =
    lane_begin (codes "NMT state") (length bins) [] ++ areas Nothing 0 0 bins ++ codes "<use href=\"#across\"/></svg></div>\n"

-- ---- differences

-- a line across the lanes where a span has differences
abbrev pub across : ℕ → Bin → List ℕ
across at bin = if bin.differences == 0 then [] else concat (codes "M" ∷ decimal at ∷ codes ".5 0v100" ∷ [])

-- all of them, and their end
unfoldable pub across_text : List Bin → List ℕ
across_text bins = indexed across 0 bins ++ codes "\"/></defs>\n"

-- the span of a stamp
abbrev pub span_of : LanesView → ℕ → ℕ
span_of lanes micros =
    if lanes.width == 0 then 0 else min ((micros - lanes.begin) / lanes.width) (length lanes.bins - 1)

-- the mark of a difference in this span, so long after the first frame; it leads to its row
unfoldable pub mark_text : ℕ → ℕ → ℕ → Noted → List ℕ
mark_text at span since noted = concat (
    codes "<a href=\"#d" ∷ decimal at ∷ codes "\"><path class=\"hit\" d=\"M" ∷ decimal span
    ∷ codes ".5 0v100\"><title>line " ∷ decimal noted.line ∷ codes ", " ∷ seconds_text since
    ∷ codes " s: " ∷ kind_name (kind_of noted.finding) ∷ codes "</title></path></a>\n" ∷ [])

abbrev pub difference_mark : LanesView → ℕ → Noted → List ℕ
difference_mark lanes at noted = mark_text at (span_of lanes noted.micros) (noted.micros - lanes.begin) noted

-- the marks, and the end of their lane
unfoldable pub marks_text : LanesView → List Noted → List ℕ
marks_text lanes noted = indexed (difference_mark lanes) 0 noted ++ codes "</svg></div>\n"

-- the lines across are there under the name by which each lane shows them
unfoldable pub differences_lane : List Bin → LanesView → List Noted → List ℕ
differences_lane bins lanes noted =
    lane_begin (codes "Differences") (length bins) ACROSS.now ++ across_text bins ++ marks_text lanes noted

-- ---- the picture

-- times since the first frame: at the begin, after each quarter, at the end; and the colours of the states
unfoldable pub axis_text : ℕ → List ℕ
axis_text quarter = concat (
    codes "<div class=\"axis\"><span>" ∷ seconds_text 0 ∷ codes " s</span><span>" ∷ seconds_text quarter
    ∷ codes " s</span><span>" ∷ seconds_text (quarter * 2) ∷ codes " s</span><span>" ∷ seconds_text (quarter * 3)
    ∷ codes " s</span><span>" ∷ seconds_text (quarter * 4) ∷ LEGEND.now ∷ [])

abbrev pub quarter_of : LanesView → ℕ
quarter_of lanes = min (length lanes.bins * lanes.width) (2 ^ 64 - 1) / 4

abbrev pub frame_lanes : List Bin → List ℕ
frame_lanes bins = flat_map (frames_lane bins) (Heartbeats ∷ Emergencies ∷ Transfers ∷ Tpdos ∷ Rpdos ∷ [])

unfoldable pub lanes_picture : LanesView → List Noted → List ℕ
lanes_picture lanes noted =
    differences_lane lanes.bins lanes noted ++ states_lane lanes.bins ++ frame_lanes lanes.bins ++ axis_text (quarter_of lanes)

-- the lanes, if there is a frame; the end of the section
abbrev pub any_picture : LanesView → List Noted → List ℕ
any_picture lanes noted =
    if length lanes.bins == 0 then codes "<p>No frame was compared.</p>\n</section>\n" else lanes_picture lanes noted

unfoldable pub picture : Kept → List ℕ
picture report = codes "<section>\n<h2>The bus over time</h2>\n" ++ any_picture report.lanes report.noted
