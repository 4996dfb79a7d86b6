-- The parts of a line of a transfer.
use Rattle.std.specs.Prelude.{ℕ, List}
use Rattle.conode_explain_entries.specs.declared.part.Part.{Part}
use Rattle.conode_explain_entries.specs.declared.part.Part.TheVariants.{Sender, InBrackets, Grouped, Seconds, Crc, Code}
use Rattle.conode_explain_entries.specs.Ends.{in_brackets, side_text}
use Rattle.conode_explain_entries.specs.Numbers.{grouped, hexadecimal, seconds_text}

abbrev pub part_text : Part → List ℕ
part_text (Sender side) = side_text side
part_text (InBrackets words) = in_brackets words.now
part_text (Grouped number) = grouped number
part_text (Seconds from to) = seconds_text from to
part_text (Crc crc) = hexadecimal 4 crc
part_text (Code code) = hexadecimal 8 code
