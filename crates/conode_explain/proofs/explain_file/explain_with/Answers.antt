-- Where a signal is missing, where memory ran out, and else by the recording.
use Rattle.std.proofs.Common.{Option, is_some, map, inl, inr, ap, sym, ◌∙◌}
use Rattle.conode_explain_cob_ids.specs.Known.{known_view}
use Rattle.conode_explain_forms.specs.declared.signal.Signal.{Signal}
use Rattle.conode_io.specs.declared.fault.CmdFault.TheVariants.{Memory}
use Rattle.conode_explain.specs.ExitStatus.{WritesFile}
use Rattle.conode_explain.proofs.StatusLemmas.{ends_early}
use Rattle.conode_explain.proofs.explain_file.explain_with.Goals as goal

pub returns-in-Some : goal.returns-in-Some
returns-in-Some g c = inl (c.missing_signal.ensures, ap (λ (o : Option Signal). is_some o) (sym c.first_missing.ensures ∙ c.in-Some.is))

pub returns-in_default-channels_of : goal.returns-in_default-channels_of
returns-in_default-channels_of g c =
    inr (ends_early (WritesFile c.args.form (map known_view c.args.sheets.now) (g.O.Write.contents c.args.out.now) (g.O.Write.contents c.no_memory.new.out)) _ Memory c.no_memory.ensures)

pub returns : goal.returns
returns g c = inr c.explain_path.ensures
