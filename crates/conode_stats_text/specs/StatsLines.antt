-- The lines of the page.
use Rattle.std.specs.Prelude.{ℕ, ◌%◌, ◌==◌, nat_lt, if◌then◌else◌, List, [], ◌∷◌, ◌++◌, codes, decimal}
use Rattle.std.specs.List.{concat}
use Rattle.co_text.specs.Printed.{digits_text}
use Rattle.conode_stats_counts.specs.declared.load.Load.{Load}
use Rattle.conode_stats_counts.specs.declared.row.Row.{Row}
use Rattle.conode_stats_counts.specs.declared.tally.Tally.{Tally}
use Rattle.conode_stats_text.specs.Cells.{figure, left, name_text, or_none, right, seconds, tenths, thousandths}
use Rattle.conode_stats_text.specs.Figures.{gap_of, load, mean, rate, room_in}

-- an identifier in three digits; in eight, if it has 29 bits or is of an error frame
unfoldable pub id_text : ℕ → List ℕ
id_text id = if nat_lt id 0x800 then digits_text 16 3 id else digits_text 16 8 (id % 0x80000000)

-- the line of an identifier on an interface, with the figures of its gaps
unfoldable pub row_line : List ℕ → Row → List ℕ
row_line interface row =
    concat (left 15 (name_text interface) ∷ codes "  " ∷ right 8 (id_text row.can_id) ∷ figure 13 (decimal row.tally.frames)
    ∷ figure 12 (or_none tenths (rate row.tally)) ∷ figure 15 (or_none thousandths (gap_of row.tally row.tally.smallest))
    ∷ figure 12 (or_none thousandths (mean row.tally)) ∷ figure 14 (or_none thousandths (gap_of row.tally row.tally.greatest)) ∷ codes "\n" ∷ [])

-- a load
abbrev pub load_tenths : ℕ → ℕ → List ℕ
load_tenths bits room = or_none tenths (load bits room)

-- if some frames have an unknown size, the load is a lower bound
abbrev pub load_word : Load → List ℕ
load_word load = if load.unknown == 0 then codes "    load " else codes "    load at least "

-- how busy a bus is, after a word, on which so many bits fit; beside it the greatest possible load
unfoldable pub load_front : List ℕ → ℕ → Load → List ℕ
load_front word room load =
    concat (word ∷ load_tenths load.bits room ∷ codes " % (worst case " ∷ load_tenths load.most room
    ∷ codes " %), busiest second " ∷ [])

-- the busiest second, in which so many bits fit; beside it the greatest possible load
unfoldable pub busiest_part : ℕ → Load → List ℕ
busiest_part room load =
    concat (decimal load.busiest.second ∷ codes ": " ∷ load_tenths load.busiest.bits room ∷ codes " % (worst case "
    ∷ load_tenths load.busiest.most room ∷ codes " %)\n" ∷ [])

unfoldable pub load_line : ℕ → Tally → Load → List ℕ
load_line bit_rate all load = load_front (load_word load) (room_in bit_rate all.total) load ++ busiest_part bit_rate load

abbrev pub frames_in : ℕ → List ℕ
frames_in count = if count == 1 then codes " frame in " else codes " frames in "

-- the frames of a bus, and the time over which they came
unfoldable pub bus_line : List ℕ → Tally → List ℕ
bus_line interface all =
    concat (codes "  " ∷ name_text interface ∷ codes ": " ∷ decimal all.frames ∷ frames_in all.frames ∷ seconds all.total
    ∷ codes " s, the first at " ∷ seconds all.first ∷ codes "\n" ∷ [])

-- ---- what looks wrong

-- the front of a line about a node
unfoldable pub node_front : List ℕ → ℕ → List ℕ
node_front interface node = codes "  " ++ name_text interface ++ codes ": node " ++ decimal node

-- the line of other things of an interface, with their count
unfoldable pub counts_line : List ℕ → List ℕ → ℕ → List ℕ
counts_line interface what count =
    concat (codes "  " ∷ name_text interface ∷ codes ": " ∷ what ∷ codes ": " ∷ decimal count ∷ codes "\n" ∷ [])

-- of the whole recording
unfoldable pub count_line : List ℕ → ℕ → List ℕ
count_line what count = concat (codes "  " ∷ what ∷ codes ": " ∷ decimal count ∷ codes "\n" ∷ [])

-- nothing for a count of 0
abbrev pub if_any : List ℕ → ℕ → List ℕ
if_any what count = if count == 0 then [] else count_line what count
