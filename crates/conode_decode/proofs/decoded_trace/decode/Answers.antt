use Rattle.std.specs.Option.{option_copied}
use Rattle.conode_decode.specs.DecodedTraces.{names_in}
use Rattle.conode_decode.proofs.Stopped.{bad_line_named, good_whole, lines_before, lines_made, lines_whole, lines_within, lines_written}
use Rattle.conode_decode.proofs.decoded_trace.decode.Goals as goal

pub returns-clause-ok : goal.returns-clause-ok
returns-clause-ok g c = good_whole (names_in (option_copied c.args.sheet) c.args.node) (g.R.Read.remaining c.args.reader.now) (g.R.Read.remaining c.decode_from.new.reader) (g.W.Write.contents c.args.writer.now) (g.W.Write.contents c.decode_from.new.writer) c.decode_from.result c.decode_from.ensures.known

pub returns-clause-text : goal.returns-clause-text
returns-clause-text g c = lines_whole (names_in (option_copied c.args.sheet) c.args.node) (g.R.Read.remaining c.args.reader.now) (g.R.Read.remaining c.decode_from.new.reader) (g.W.Write.contents c.args.writer.now) (g.W.Write.contents c.decode_from.new.writer) c.decode_from.result c.decode_from.ensures.known

pub returns-clause-bad_line : goal.returns-clause-bad_line
returns-clause-bad_line g c number said = bad_line_named (names_in (option_copied c.args.sheet) c.args.node) (g.R.Read.remaining c.args.reader.now) (g.R.Read.remaining c.decode_from.new.reader) (g.W.Write.contents c.args.writer.now) (g.W.Write.contents c.decode_from.new.writer) c.decode_from.result number said c.decode_from.ensures.known

pub returns-clause-before : goal.returns-clause-before
returns-clause-before g c number said = lines_before (names_in (option_copied c.args.sheet) c.args.node) (g.R.Read.remaining c.args.reader.now) (g.R.Read.remaining c.decode_from.new.reader) (g.W.Write.contents c.args.writer.now) (g.W.Write.contents c.decode_from.new.writer) c.decode_from.result number said c.decode_from.ensures.known

pub returns-clause-write : goal.returns-clause-write
returns-clause-write g c said = lines_written (names_in (option_copied c.args.sheet) c.args.node) (g.R.Read.remaining c.args.reader.now) (g.R.Read.remaining c.decode_from.new.reader) (g.W.Write.contents c.args.writer.now) (g.W.Write.contents c.decode_from.new.writer) c.decode_from.result said c.decode_from.ensures.known

pub returns-clause-memory : goal.returns-clause-memory
returns-clause-memory g c said = lines_made (names_in (option_copied c.args.sheet) c.args.node) (g.R.Read.remaining c.args.reader.now) (g.R.Read.remaining c.decode_from.new.reader) (g.W.Write.contents c.args.writer.now) (g.W.Write.contents c.decode_from.new.writer) c.decode_from.result said c.decode_from.ensures.known

pub returns-clause-unread : goal.returns-clause-unread
returns-clause-unread g c = lines_within (names_in (option_copied c.args.sheet) c.args.node) (g.R.Read.remaining c.args.reader.now) (g.R.Read.remaining c.decode_from.new.reader) (g.W.Write.contents c.args.writer.now) (g.W.Write.contents c.decode_from.new.writer) c.decode_from.result c.decode_from.ensures.known
