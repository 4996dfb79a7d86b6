-- Which last line of a recording, that no line feed ends, may be cut off.
use Rattle.std.specs.Prelude.{nat_lt, Bool, false, ◌&&◌, length, is_none, Result, Ok, Err}
use Rattle.conode_record.specs.declared.content.Content.{Content}
use Rattle.conode_record.specs.declared.content.Content.TheVariants.{Data, Remote, Fd}
use Rattle.conode_record.specs.declared.bad_line.BadLine.{BadLine}
use Rattle.conode_record.specs.declared.line.RecordLine.{RecordLine}
use Rattle.conode_record.specs.declared.line.RecordLine.TheVariants.{Frame, Skipped}

-- a data frame may have more bytes; a remote frame has none
abbrev pub has_room : Content → Bool
has_room (Data bytes) = nat_lt (length bytes) 8
has_room (Remote count) = false
has_room (Fd flags bytes) = nat_lt (length bytes) 64

-- where a line in the form of `candump -L` ends after its data, more of them may have come: a direction would stand after the last
abbrev pub may_be_cut : Result RecordLine BadLine → Bool
may_be_cut (Ok (Frame frame)) = is_none frame.direction && has_room frame.content
may_be_cut (Ok Skipped) = false
may_be_cut (Err bad) = false
