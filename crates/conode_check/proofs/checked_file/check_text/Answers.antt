use Rattle.std.proofs.Common.{◌≡◌}
use Rattle.std.proofs.KnownBytes.{Keeps-trans}
use Rattle.co_dict_build.specs.Capacities.{limits_view}
use Rattle.conode_io.specs.declared.ending.Ending.TheVariants.{Said}
use Rattle.conode_io.specs.declared.fault.CmdFault.TheVariants.{Memory, Write}
use Rattle.conode_io.proofs.StoppedLemmas.{memory_is_other, said_on_err, said_own}
use Rattle.conode_check.specs.SheetTexts.{checked_lines}
use Rattle.conode_check.proofs.CheckLemmas.{check_ending, fault_was, outcome_was, some_then_memory, writer_failed}
use Rattle.conode_check.proofs.checked_file.check_text.Goals as goal

pub returns-in-Err-clause-memory : goal.returns-in-Err-clause-memory
returns-in-Err-clause-memory g c said =
    let is : c.say_why.result ≡ Said Memory = cc in
    let same = said_own c.say_why.result c.in-Err.fault Memory c.say_why.ensures.ending is in
    let own = outcome_was c.check-outcome.result c.in-Err.fault Memory c.in-Err.ensures.err same memory_is_other in
    some_then_memory (g.O.Write.contents c.args.out.now) (g.O.Write.contents c.check-outcome.new.writer) (g.O.Write.contents c.flushed.new.writer) (g.O.Write.contents c.say_why.new.out)
    (checked_lines c.args.text.now c.args.node (limits_view c.args.limits.now)) (c.check-outcome.ensures.memory own) c.flushed.ensures.text (c.say_why.ensures.memory same is)

pub returns-in-Err-clause-write : goal.returns-in-Err-clause-write
returns-in-Err-clause-write g c said =
    let is : c.say_why.result ≡ Said Write = cc in
    let same = said_own c.say_why.result c.in-Err.fault Write c.say_why.ensures.ending is in
    let kept = Keeps-trans (g.O.Write.contents c.check-outcome.new.writer) (g.O.Write.contents c.flushed.new.writer) (g.O.Write.contents c.say_why.new.out) c.flushed.ensures.text (c.say_why.ensures.unwritable same) in
    writer_failed (g.O.Write.contents c.args.out.now) (g.O.Write.contents c.check-outcome.new.writer) (g.O.Write.contents c.say_why.new.out) kept
    (checked_lines c.args.text.now c.args.node (limits_view c.args.limits.now)) c.check-outcome.result c.in-Err.fault c.check-outcome.ensures.write c.check-outcome.ensures.text c.in-Err.ensures.kept same

pub returns-in-Err-clause-write_said : goal.returns-in-Err-clause-write_said
returns-in-Err-clause-write_said g c said =
    let is : c.say_why.result ≡ Said Write = cc in
    said_on_err c.say_why.result c.in-Err.fault (g.E.Write.contents c.args.err.now) (g.E.Write.contents c.say_why.new.err) c.say_why.ensures.ending c.say_why.ensures.on_err is

pub returns-in-Err-clause-err : goal.returns-in-Err-clause-err
returns-in-Err-clause-err g c =
    check_ending c.say_why.result c.in-Err.fault c.say_why.ensures.ending (fault_was c.check-outcome.result c.in-Err.fault c.in-Err.ensures.err c.check-outcome.ensures.err)
