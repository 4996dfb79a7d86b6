-- The texts of the pieces of lines, and of the cells of tables.
use Rattle.std.specs.Prelude.{ℕ, List, decimal}
use Rattle.co_text.specs.Printed.{digits_text}
use Rattle.co_value.specs.KeyTexts.{key_text}
use Rattle.conode_stats_text.specs.declared.cells.Cell.{Cell}
use Rattle.conode_stats_text.specs.declared.cells.Cell.TheVariants.{Column, Id, Count, Tenths as TenthsCell, Millis as MillisCell, Gap}
use Rattle.conode_stats_text.specs.declared.pieces.Piece.{Piece}
use Rattle.conode_stats_text.specs.declared.pieces.Piece.TheVariants.{Words, Name, Node, Number, Seconds, Millis, Load, Long, Short, Entry}
use Rattle.conode_stats_text.specs.Cells.{figure, left, name_text, or_none, right, seconds, tenths, thousandths}
use Rattle.conode_stats_text.specs.StatsLines.{id_text, load_tenths, node_front}

abbrev pub piece_text : Piece → List ℕ
piece_text (Words words) = words.now
piece_text (Name name) = name_text name.now
piece_text (Node interface node) = node_front interface.now node
piece_text (Number number) = decimal number
piece_text (Seconds micros) = seconds micros
piece_text (Millis micros) = thousandths micros
piece_text (Load bits room) = load_tenths bits room
piece_text (Long number) = digits_text 16 8 number
piece_text (Short number) = digits_text 16 4 number
piece_text (Entry key) = key_text key

-- what a cell shows
abbrev pub shown_text : Cell → List ℕ
shown_text (Gap words) = words.now
shown_text (Column name) = name_text name.now
shown_text (Id width id) = id_text id
shown_text (Count width count) = decimal count
shown_text (TenthsCell width number) = or_none tenths number
shown_text (MillisCell width number) = or_none thousandths number

-- names are to the left of 15 columns, identifiers and figures to the right of a width
abbrev pub cell_text : Cell → List ℕ
cell_text (Gap words) = words.now
cell_text (Column name) = left 15 (name_text name.now)
cell_text (Id width id) = right width (id_text id)
cell_text (Count width count) = figure width (decimal count)
cell_text (TenthsCell width number) = figure width (or_none tenths number)
cell_text (MillisCell width number) = figure width (or_none thousandths number)
