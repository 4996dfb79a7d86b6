-- The lines so far, and then the next one, or the end.
use Rattle.std.proofs.Common.{◌≡◌, ◌+◌, Bool, true, false, refl, sym, subst, ◌∙◌, arith}
use Rattle.std.specs.Prelude.{◌&&◌, ◌==◌}
use Rattle.co_stream.specs.Held.{nothing_held}
use Rattle.conode_convert.specs.Converted.{at_start}
use Rattle.conode_explain.specs.Explained.{nothing_known}
use Rattle.conode_explain.specs.Sheets.{sheets_of}
use Rattle.conode_explain.specs.Taking.{Takes}
use Rattle.conode_explain.proofs.Explaining.{explained_any, explained_known, goes_on, stopped_any, stopped_known, stops_then, takes_flushed, takes_more, takes_none}
use Rattle.conode_explain.proofs.explained.explain_all.Goals as goal

pub loop-number-init : goal.loop-number-init
loop-number-init g c =
    let form = c.args.settings.now.form in
    let sheets = sheets_of c.args.settings.now in
    record {
      taken = rw (c.requires.lines, c.requires.log, c.requires.progress)
          (takes_none form sheets nothing_held (g.R.Read.remaining c.args.reader.now) (at_start form.log) nothing_known (g.W.Write.contents c.args.out.now));
      few = omega arith;
      none = λ _. refl;
    }

pub returns-in-None-clause-known : goal.returns-in-None-clause-known
returns-in-None-clause-known g c =
    let form = c.args.settings.now.form in
    let sheets = sheets_of c.args.settings.now in
    let before = g.R.Read.remaining c.args.reader.now in
    let between = g.R.Read.remaining c.loop-number.reader in
    let after = g.R.Read.remaining c.take_line.new.reader in
    let old = g.W.Write.contents c.args.out.now in
    let now = g.W.Write.contents c.loop-number.out in
    let out = g.W.Write.contents c.let_out.new.out in
    let so_far = c.loop-number.explaining in
    let bad = c.loop-number.bad in
    let taken = takes_flushed form sheets nothing_held so_far.lines before between (at_start form.log) so_far.log nothing_known so_far.progress old now bad c.loop-number.invariant.taken out c.let_out.ensures.text in
    let ended = rw c.in-None.is at c.in-Ok-take_line.ensures.end in
    let same = rw c.in-None.is at c.in-Ok-take_line.ensures.progress_kept in
    let last = g.W.Write.contents c.finish-in-None.new.out in
    let rest = rw (ended.0, same) at c.in-Ok-finish-2.ensures.lines in
    explained_known form sheets so_far.lines c.take_line.new.self.lines before between after so_far.log so_far.progress old out last bad taken c.loop-number.invariant.none rest ended.1

pub returns-in-None-clause-any_reader : goal.returns-in-None-clause-any_reader
returns-in-None-clause-any_reader g c =
    let form = c.args.settings.now.form in
    let sheets = sheets_of c.args.settings.now in
    let before = g.R.Read.remaining c.args.reader.now in
    let between = g.R.Read.remaining c.loop-number.reader in
    let after = g.R.Read.remaining c.take_line.new.reader in
    let old = g.W.Write.contents c.args.out.now in
    let now = g.W.Write.contents c.loop-number.out in
    let out = g.W.Write.contents c.let_out.new.out in
    let so_far = c.loop-number.explaining in
    let bad = c.loop-number.bad in
    let taken = takes_flushed form sheets nothing_held so_far.lines before between (at_start form.log) so_far.log nothing_known so_far.progress old now bad c.loop-number.invariant.taken out c.let_out.ensures.text in
    let ended = rw c.in-None.is at c.in-Ok-take_line.ensures.end in
    let same = rw c.in-None.is at c.in-Ok-take_line.ensures.progress_kept in
    let last = g.W.Write.contents c.finish-in-None.new.out in
    let rest = rw (ended.0, same) at c.in-Ok-finish-2.ensures.lines in
    explained_any form sheets so_far.lines c.take_line.new.self.lines before between after so_far.log so_far.progress old out last bad taken c.loop-number.invariant.none rest ended.1

pub loop-number-preserved : goal.loop-number-preserved
loop-number-preserved g c =
    let form = c.args.settings.now.form in
    let sheets = sheets_of c.args.settings.now in
    let before = g.R.Read.remaining c.args.reader.now in
    let between = g.R.Read.remaining c.loop-number.reader in
    let after = g.R.Read.remaining c.take_line.new.reader in
    let old = g.W.Write.contents c.args.out.now in
    let now = g.W.Write.contents c.loop-number.out in
    let out = g.W.Write.contents c.let_out.new.out in
    let new = g.W.Write.contents c.take_line.new.out in
    let so_far = c.loop-number.explaining in
    let next = c.take_line.new.self in
    let bad = c.loop-number.bad in
    let taken = takes_flushed form sheets nothing_held so_far.lines before between (at_start form.log) so_far.log nothing_known so_far.progress old now bad c.loop-number.invariant.taken out c.let_out.ensures.text in
    let line = rw c.in-Some.is at c.in-Ok-take_line.ensures.line in
    let one = rw c.in-Some.is at c.in-Ok-take_line.ensures.few in
    let more = c.in-Some.more in
    let goes : (form.stop && (more == 1)) ≡ false = sym c.ends.ensures ∙ c.if-ends.false in
    let goes_past = subst (λ (stopped : Bool). Takes form sheets so_far.lines next.lines between after so_far.log next.log so_far.progress next.progress out new more stopped) goes line in
    record {
      taken = takes_more form sheets nothing_held so_far.lines before between (at_start form.log) so_far.log nothing_known so_far.progress old out bad taken next.lines after next.log next.progress new more false goes_past;
      none = goes_on form.stop bad more goes one c.loop-number.invariant.none;
      few = omega (arith, one, c.loop-number.invariant.few);
    }

-- the first bad line
pub returns-then-ends-clause-known : goal.returns-then-ends-clause-known
returns-then-ends-clause-known g c =
    let form = c.args.settings.now.form in
    let sheets = sheets_of c.args.settings.now in
    let before = g.R.Read.remaining c.args.reader.now in
    let between = g.R.Read.remaining c.loop-number.reader in
    let after = g.R.Read.remaining c.take_line.new.reader in
    let old = g.W.Write.contents c.args.out.now in
    let now = g.W.Write.contents c.loop-number.out in
    let out = g.W.Write.contents c.let_out.new.out in
    let new = g.W.Write.contents c.take_line.new.out in
    let last = g.W.Write.contents c.finish.new.out in
    let so_far = c.loop-number.explaining in
    let next = c.take_line.new.self in
    let bad = c.loop-number.bad in
    let taken = takes_flushed form sheets nothing_held so_far.lines before between (at_start form.log) so_far.log nothing_known so_far.progress old now bad c.loop-number.invariant.taken out c.let_out.ensures.text in
    let line = rw c.in-Some.is at c.in-Ok-take_line.ensures.line in
    let more = c.in-Some.more in
    let ended : (form.stop && (more == 1)) ≡ true = sym c.ends.ensures ∙ c.if-ends.true in
    let up_to = subst (λ (stopped : Bool). Takes form sheets so_far.lines next.lines between after so_far.log next.log so_far.progress next.progress out new more stopped) ended line in
    let is = stops_then form.stop more ended in
    let none : bad ≡ 0 = c.loop-number.invariant.none is.0 in
    stopped_known form sheets next.lines before after next.log next.progress old new last (bad + more)
    (takes_more form sheets nothing_held so_far.lines before between (at_start form.log) so_far.log nothing_known so_far.progress old out bad taken next.lines after next.log next.progress new more true up_to)
    is.0 (omega (arith, none, is.1)) c.in-Ok-finish.ensures.lines

pub returns-then-ends-clause-any_reader : goal.returns-then-ends-clause-any_reader
returns-then-ends-clause-any_reader g c =
    let form = c.args.settings.now.form in
    let sheets = sheets_of c.args.settings.now in
    let before = g.R.Read.remaining c.args.reader.now in
    let between = g.R.Read.remaining c.loop-number.reader in
    let after = g.R.Read.remaining c.take_line.new.reader in
    let old = g.W.Write.contents c.args.out.now in
    let now = g.W.Write.contents c.loop-number.out in
    let out = g.W.Write.contents c.let_out.new.out in
    let new = g.W.Write.contents c.take_line.new.out in
    let last = g.W.Write.contents c.finish.new.out in
    let so_far = c.loop-number.explaining in
    let next = c.take_line.new.self in
    let bad = c.loop-number.bad in
    let taken = takes_flushed form sheets nothing_held so_far.lines before between (at_start form.log) so_far.log nothing_known so_far.progress old now bad c.loop-number.invariant.taken out c.let_out.ensures.text in
    let line = rw c.in-Some.is at c.in-Ok-take_line.ensures.line in
    let more = c.in-Some.more in
    let ended : (form.stop && (more == 1)) ≡ true = sym c.ends.ensures ∙ c.if-ends.true in
    let up_to = subst (λ (stopped : Bool). Takes form sheets so_far.lines next.lines between after so_far.log next.log so_far.progress next.progress out new more stopped) ended line in
    let is = stops_then form.stop more ended in
    let none : bad ≡ 0 = c.loop-number.invariant.none is.0 in
    stopped_any form sheets next.lines before after next.log next.progress old new last (bad + more)
    (takes_more form sheets nothing_held so_far.lines before between (at_start form.log) so_far.log nothing_known so_far.progress old out bad taken next.lines after next.log next.progress new more true up_to)
    is.0 (omega (arith, none, is.1)) c.in-Ok-finish.ensures.lines
