-- A reader's fault as a fault of a line reader, and as one of a text.
use Rattle.co_stream.specs.declared.fault.AskFault.{AskFault}
use Rattle.co_stream.specs.declared.fault.AskFault.TheVariants.{Read, NeverEnds}
use Rattle.co_stream.specs.declared.fault.LineFault.{LineFault}
use Rattle.co_stream.specs.declared.fault.LineFault.TheVariants as line
use Rattle.co_stream.specs.declared.fault.StreamFault.{StreamFault}
use Rattle.co_stream.specs.declared.fault.StreamFault.TheVariants as stream

-- as the fault of a line reader
abbrev pub line_fault : AskFault → LineFault
line_fault Read = line.Read
line_fault NeverEnds = line.NeverEnds

-- as the fault of a text
abbrev pub stream_fault : AskFault → StreamFault
stream_fault Read = stream.Read
stream_fault NeverEnds = stream.NeverEnds
