-- In the form that the options ask for.
use Rattle.std.proofs.Common.{refl}
use Rattle.conode_explain.proofs.StatusLemmas.{not_zero}
use Rattle.conode_explain.proofs.explain_file.explain_filtered.Goals as goal

pub returns-in-Ok-clause-whole : goal.returns-in-Ok-clause-whole
returns-in-Ok-clause-whole g c is = (
  record {
    stamps = c.args.options.now.stamps;
    transfers = c.args.options.now.transfers;
    changes = c.args.options.now.changes;
    stop = c.args.options.now.stop;
    format = c.args.options.now.format;
    colours = c.args.options.now.colours;
    log = c.args.options.now.log;
    filter = c.args.filter;
    signals = c.as_slice.result;
  },
  record {
    stamps = refl;
    transfers = refl;
    changes = refl;
    stop = refl;
    format = refl;
    colours = refl;
    log = refl;
    filter = c.requires;
    signals = rw c.as_slice.ensures.value c.in-Ok.ensures;
  },
  c.explain_named.ensures.whole is,
)

pub returns-in-Err-clause-whole : goal.returns-in-Err-clause-whole
returns-in-Err-clause-whole g c = not_zero _ c.bad_signal.ensures
