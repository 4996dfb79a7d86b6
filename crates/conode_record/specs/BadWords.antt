-- What is wrong with a line, in words.
use Rattle.std.specs.Prelude.{List, ℕ, codes}
use Rattle.conode_record.specs.declared.bad_line.BadLine.{BadLine}
use Rattle.conode_record.specs.declared.bad_line.BadLine.TheVariants as record_bad
use Rattle.conode_record.specs.declared.bad_log_line.BadLogLine.{BadLogLine}
use Rattle.conode_record.specs.declared.bad_log_line.BadLogLine.TheVariants as bad

-- what is wrong with a line as `candump -L` writes it
abbrev pub of_record : BadLine → BadLogLine
of_record record_bad.Stamp = bad.RecordStamp
of_record record_bad.Interface = bad.RecordInterface
of_record record_bad.Identifier = bad.RecordIdentifier
of_record record_bad.Flags = bad.RecordFlags
of_record record_bad.Length = bad.RecordLength
of_record record_bad.Data = bad.RecordData
of_record record_bad.TooManyBytes = bad.TooManyBytes
of_record record_bad.Ending = bad.RecordEnding

-- what is wrong, in words
abbrev pub bad_words : BadLogLine → List ℕ
bad_words bad.Unknown = codes "no recorder is known that writes such a line; --log FORM names one"
bad_words bad.Version = codes "the version of the .trc isn't 1.1, 1.3, 2.0 or 2.1"
bad_words bad.Columns = codes "the columns aren't N,O,T,B,I,d,R,L,D, where B and R may be left out, and l may be there for L"
bad_words bad.Base = codes "after base there is no hex or dec, or after that no timestamps absolute or relative"
bad_words bad.Stamp = codes "there is no stamp as this form of log has it"
bad_words bad.TooLate = codes "the stamps up to here add up to more than 999999999999 seconds"
bad_words bad.Interface = codes "there is no interface of at most 15 bytes, or no channel from 1 to 255"
bad_words bad.Type = codes "the message is of no type that this form of log has"
bad_words bad.Direction = codes "there is no direction, Rx or Tx"
bad_words bad.Identifier = codes "there is no identifier up to 7FF (11 bits) or 1FFFFFFF (29 bits) as this form of log has it"
bad_words bad.Flags = codes "there are no flags of a CAN FD frame"
bad_words bad.Length = codes "there is no length up to 8, or of a CAN FD frame up to 64, as this form of log has it"
bad_words bad.Data = codes "the data aren't as many bytes as the length says"
bad_words bad.TooManyBytes = codes "there are more than 8 data bytes, or in a CAN FD frame more than 64"
bad_words bad.Ending = codes "after the frame comes something else"
bad_words bad.RecordStamp = codes "it doesn't begin with a stamp, as (1700000000.250000): seconds, and microseconds in six digits"
bad_words bad.RecordInterface = codes "after the stamp there is no interface between blanks, as can0, of at most 15 bytes"
bad_words bad.RecordIdentifier = codes "after the interface there is no identifier, as 185#: three digits up to 7FF, or eight up to 3FFFFFFF"
bad_words bad.RecordFlags = codes "after ## there is no hexadecimal digit of a CAN FD frame's flags"
bad_words bad.RecordLength = codes "the length of a remote frame is no digit up to 8"
bad_words bad.RecordData = codes "the data are no pairs of hexadecimal digits"
bad_words bad.RecordEnding = codes "after the data comes something else than R (received) or T (sent)"
