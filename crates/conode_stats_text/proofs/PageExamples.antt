-- The page, evaluated.
use Rattle.std.proofs.Common.{ℕ, List, [], ◌∷◌, ◌++◌, ◌≡◌, Some, None, replicate, refl}
use Rattle.std.specs.Prelude.{codes}
use Rattle.std.specs.Fmt.{digits}
use Rattle.co_text.specs.Printed.{digits_text}
use Rattle.conode_stats_counts.specs.declared.failure.FailureRow.{FailureRow}
use Rattle.conode_stats_counts.specs.declared.failure.Reason.TheVariants.{NoCode}
use Rattle.conode_stats_counts.specs.declared.node.Node.{Node}
use Rattle.conode_stats_counts.specs.declared.row.Row.{Row}
use Rattle.conode_stats_counts.specs.declared.tally.Tally.{Tally}
use Rattle.conode_stats_counts.specs.Buses.{BusCounts}
use Rattle.conode_stats_counts.specs.Gaps.{most}
use Rattle.conode_stats_text.specs.declared.finding.Finding.TheVariants.{Emergency, Failed, Restarted}
use Rattle.conode_stats_text.specs.declared.finding.Kind.TheVariants.{Emergencies, ErrorFrames, Failures, MoreEmergencies, MoreFailures, MoreIdentifiers, Pause, Restarts, StepsBack}
use Rattle.conode_stats_text.specs.declared.page.Page.{Page}
use Rattle.conode_stats_text.specs.Cells.{seconds, thousandths}
use Rattle.conode_stats_text.specs.Figures.{ratio}
use Rattle.conode_stats_text.specs.Findings.{Wrong, count_on, error_frames, long_pause}
use Rattle.conode_stats_text.specs.NodeLines.{node_line, restart_line}
use Rattle.conode_stats_text.specs.Found.{all_found, count_of, found, found_lines, kind_lines, nodes_found, open_found, rows_found, rows_found_of}
use Rattle.conode_stats_text.specs.NodeIds.{up_to}
use Rattle.conode_stats_text.specs.Pages.{end_lines, most_at_top, page_lines, top_lines}
use Rattle.conode_stats_text.specs.Tables.{by_id, front_lines, id_lines, inserted, load_lines, loads, node_lines, node_table, table_lines, unknown_line}
use Rattle.conode_stats_text.specs.StatsLines.{bus_line, count_line, counts_line, id_text, node_front, row_line}
use Rattle.conode_stats_text.proofs.NodeExamples.{ended_at, node, server}

-- ---- one kind: two are at the top of a long page, the others at its end

abbrev wrong : ℕ → Wrong
wrong node = record { interface = codes "can0"; node = node; finding = Restarted 2 1130000 }

two : kind_lines 0 2 Restarts (wrong 5 ∷ wrong 6 ∷ [])
    ≡ codes "  can0: node 5 restarts without a reset command: 2, the last at 1.130000\n  can0: node 6 restarts without a reset command: 2, the last at 1.130000\n"
unfolding kind_lines restart_line node_front seconds digits_text digits
two = refl

three : kind_lines 0 2 Restarts (wrong 5 ∷ wrong 6 ∷ wrong 7 ∷ [])
    ≡ codes "  can0: node 5 restarts without a reset command: 2, the last at 1.130000\n  can0: node 6 restarts without a reset command: 2, the last at 1.130000\n  further nodes that restarted, at the end of the page: 1\n"
unfolding kind_lines restart_line count_line node_front seconds digits_text digits
three = refl

no_third : kind_lines 2 most Restarts (wrong 5 ∷ wrong 6 ∷ []) ≡ []
unfolding kind_lines
no_third = refl

third : kind_lines 2 most Restarts (wrong 5 ∷ wrong 6 ∷ wrong 7 ∷ []) ≡ codes "  can0: node 7 restarts without a reset command: 2, the last at 1.130000\n"
unfolding kind_lines restart_line node_front seconds digits_text digits
third = refl

all_three : kind_lines 0 most Restarts (wrong 5 ∷ wrong 6 ∷ wrong 7 ∷ [])
    ≡ codes "  can0: node 5 restarts without a reset command: 2, the last at 1.130000\n  can0: node 6 restarts without a reset command: 2, the last at 1.130000\n  can0: node 7 restarts without a reset command: 2, the last at 1.130000\n"
unfolding kind_lines restart_line node_front seconds digits_text digits
all_three = refl

no_more : most_at_top 20 ≡ most
no_more = refl

more : most_at_top 21 ≡ 2
more = refl

-- ---- a bus

numbers : up_to 3 ≡ 1 ∷ 2 ∷ 3 ∷ []
unfolding up_to
numbers = refl

abbrev tally : Tally
tally = record {
  first = 1000000;
  last = 1500000;
  frames = 2;
  steps_back = 0;
  step_from = 0;
  step_to = 0;
  gaps = 1;
  total = 500000;
  smallest = 500000;
  greatest = 500000;
}

-- an identifier with one frame
abbrev row : ℕ → Row
row id = record { can_id = id; tally = record tally { frames = 1; gaps = 0; total = 0; smallest = most; greatest = 0 } }

abbrev bus_with : Tally → List Node → List FailureRow → List FailureRow → List Row → BusCounts
bus_with all nodes failures emergencies rows = record {
  interface = codes "can0";
  all = all;
  load = record {
    bits = 200;
    most = 220;
    unknown = 0;
    now = record { second = 1; bits = 200; most = 220 };
    busiest = record { second = 1; bits = 200; most = 220 };
  };
  nodes = nodes;
  transfers = record { channels = []; rows = failures; left_out = 3 };
  emergencies = record { rows = emergencies; left_out = 4 };
  rows = rows;
  left_out = 5;
}

-- whose identifiers came in another order, and where all has a row
abbrev plain : BusCounts
plain = record (bus_with tally [] [] [] (row 0x705 ∷ row 0x86 ∷ [])) {
  transfers = record { channels = []; rows = []; left_out = 0 };
  emergencies = record { rows = []; left_out = 0 };
  left_out = 0;
}

-- ---- what looks wrong on it

abbrev quiet : Node
quiet = node 0

-- node 0 is none, and the last is node 127
restarted : nodes_found Restarts [] (bus_with tally (node 2 ∷ quiet ∷ node 2 ∷ quiet ∷ node 3 ∷ []) [] [] [])
    ≡ record { interface = codes "can0"; node = 2; finding = Restarted 2 1130000 }
    ∷ record { interface = codes "can0"; node = 4; finding = Restarted 3 1130000 } ∷ []
unfolding nodes_found up_to
restarted = refl

last_node : nodes_found Restarts [] (bus_with tally (replicate 127 quiet ++ node 2 ∷ node 3 ∷ []) [] [] [])
    ≡ record { interface = codes "can0"; node = 127; finding = Restarted 2 1130000 } ∷ []
unfolding nodes_found up_to
last_node = refl

abbrev failure : ℕ → ℕ → FailureRow
failure node count = record { cause = record { node = node; reason = NoCode }; count = count; first = 1000250; last = 3001000 }

-- by node, and those of a node in their order
failures : rows_found Failures (codes "can0") (failure 127 1 ∷ failure 128 2 ∷ failure 1 3 ∷ failure 0 4 ∷ failure 1 5 ∷ [])
    ≡ record { interface = codes "can0"; node = 1; finding = Failed (failure 1 3) }
    ∷ record { interface = codes "can0"; node = 1; finding = Failed (failure 1 5) }
    ∷ record { interface = codes "can0"; node = 127; finding = Failed (failure 127 1) } ∷ []
unfolding rows_found rows_found_of up_to
failures = refl

emergencies : rows_found Emergencies (codes "can0") (failure 5 1 ∷ []) ≡ record { interface = codes "can0"; node = 5; finding = Emergency (failure 5 1) } ∷ []
unfolding rows_found rows_found_of up_to
emergencies = refl

-- an hour, and a microsecond more
hour : long_pause (record tally { greatest = 3600000000 }) ≡ 0
hour = refl

more_than_an_hour : long_pause (record tally { greatest = 3600000001 }) ≡ 3600
more_than_an_hour = refl

-- both sides of both edges
errors : error_frames (row 0x1FFFFFFF ∷ row 0x20000000 ∷ row 0x7FFFFFFF ∷ row 0x80000000 ∷ []) ≡ 2
unfolding error_frames
errors = refl

abbrev counting : BusCounts
counting = bus_with (record tally { steps_back = 2; greatest = 7200000000 }) [] [] [] (row 0x20000080 ∷ [])

pause : count_on Pause counting ≡ 7200
pause = refl

steps_back : count_on StepsBack counting ≡ 2
steps_back = refl

error_frame : count_on ErrorFrames counting ≡ 1
unfolding error_frames
error_frame = refl

more_failures : count_on MoreFailures counting ≡ 3
more_failures = refl

more_emergencies : count_on MoreEmergencies counting ≡ 4
more_emergencies = refl

more_identifiers : count_on MoreIdentifiers counting ≡ 5
more_identifiers = refl

other : count_on Restarts counting ≡ 0
other = refl

-- ---- the tables

-- two rows with one identifier keep their order
sorted : by_id (row 5 ∷ record (row 3) { tally = tally } ∷ row 3 ∷ row 1 ∷ []) ≡ row 1 ∷ record (row 3) { tally = tally } ∷ row 3 ∷ row 5 ∷ []
unfolding by_id inserted
sorted = refl

all_known : unknown_line 0 ≡ []
all_known = refl

one_unknown : unknown_line 1 ≡ codes "    CAN FD and error frames, whose bits aren't known: 1\n"
unfolding digits
one_unknown = refl

without_rate : loads None plain ≡ []
without_rate = refl

without_stamps : load_lines (Some 125000) (bus_with (record tally { last = 0 }) [] [] [] []) ≡ codes "    no stamps, so no gaps, rates and load\n"
without_stamps = refl

-- ---- the page

module _ (any : Page) where
  -- of buses, with so many frames of others and so many bad lines, without sheets and a bit rate
  abbrev page : List BusCounts → ℕ → ℕ → Page
  page buses left_out bad = record any {
    counts = record any.counts { now = record { buses = buses; left_out = left_out } };
    sheets = record any.sheets { now = [] };
    bad = bad;
    bit_rate = None;
  }

  no_frames : page_lines (page [] 0 0)
      ≡ codes "What looks wrong\n  no frames\nBuses\ninterface              id       frames    frames/s    smallest ms     mean ms   greatest ms\n"
  unfolding page_lines top_lines table_lines found_lines kind_lines all_found found
  no_frames = refl

  nothing_wrong : page_lines (page (plain ∷ []) 0 0)
      ≡ codes "What looks wrong\n  nothing\nBuses\n  can0: 2 frames in 0.500000 s, the first at 1.000000\ninterface              id       frames    frames/s    smallest ms     mean ms   greatest ms\ncan0                  086            1           -              -           -             -\ncan0                  705            1           -              -           -             -\n"
  unfolding page_lines top_lines table_lines found_lines kind_lines all_found found nodes_found rows_found rows_found_of open_found error_frames up_to front_lines bus_line id_lines by_id inserted row_line id_text ratio seconds digits_text digits
  nothing_wrong = refl

  bad_line : top_lines 0 (page [] 0 1) ≡ codes "What looks wrong\n  bad lines: 1\n"
  unfolding top_lines found_lines kind_lines found count_line digits
  bad_line = refl

  other_interfaces : top_lines 0 (page [] 3 0) ≡ codes "What looks wrong\n  frames of more than 16 interfaces, not counted: 3\n"
  unfolding top_lines found_lines kind_lines found count_line digits
  other_interfaces = refl

  -- where a stamp steps back
  abbrev back : List ℕ → BusCounts
  back interface = record plain { interface = interface; all = record tally { steps_back = 1 } }

  abbrev three_buses : List BusCounts
  three_buses = back (codes "can0") ∷ back (codes "can1") ∷ back (codes "can2") ∷ []

  count : count_of (page three_buses 0 0) ≡ 3
  unfolding all_found found nodes_found rows_found rows_found_of open_found error_frames up_to
  count = refl

  -- of 20 in all, and of 21
  short_top : top_lines 20 (page three_buses 0 0)
      ≡ codes "What looks wrong\n  can0: stamps that step back: 1\n  can1: stamps that step back: 1\n  can2: stamps that step back: 1\n"
  unfolding top_lines found_lines kind_lines found nodes_found rows_found rows_found_of open_found error_frames up_to counts_line count_line digits
  short_top = refl

  no_end : end_lines 20 (page three_buses 0 0) ≡ []
  no_end = refl

  long_top : top_lines 21 (page three_buses 0 0)
      ≡ codes "What looks wrong\n  can0: stamps that step back: 1\n  can1: stamps that step back: 1\n  further interfaces with this, at the end of the page: 1\n"
  unfolding top_lines found_lines kind_lines found nodes_found rows_found rows_found_of open_found error_frames up_to counts_line count_line digits
  long_top = refl

  end : end_lines 21 (page three_buses 0 0) ≡ codes "More of what looks wrong\n  can2: stamps that step back: 1\n"
  unfolding found_lines kind_lines found nodes_found rows_found rows_found_of open_found error_frames up_to counts_line digits
  end = refl

  -- no node that has a line, and one
  no_nodes : node_table (page (plain ∷ bus_with tally (server None ∷ server None ∷ []) [] [] [] ∷ []) 0 0) ≡ []
  no_nodes = refl

  one_node : node_table (page (plain ∷ bus_with (ended_at 41000000) (server None ∷ server (Some 250) ∷ []) [] [] [] ∷ []) 0 0)
      ≡ codes "interface            node     boot-ups    restarts    boot-up s  pre-operational s  operational s    stopped s    unknown s  longest answer ms  at the end\ncan0                    1            3           0        0.001              2.000         30.000        0.000        0.005              0.250  -\n"
  unfolding table_lines node_lines up_to node_line thousandths digits_text digits
  one_node = refl
