-- Where the filter is open.
use Rattle.std.proofs.Common.{◌≡◌, true, refl}
use Rattle.conode_explain_filter.specs.Filters.{passes}
use Rattle.conode_explain_text.specs.SoFar.{times_at}
use Rattle.conode_explain.specs.Filtered.{passes_frame, subject_by}
use Rattle.conode_explain.proofs.filtered.passes_frame.Goals as goal

pub returns-then-is_open : goal.returns-then-is_open
unfolding passes_frame
returns-then-is_open c =
    let frame = c.args.frame.now in
    let subject = subject_by c.args.whose c.args.claims.now frame in
    let times = times_at c.args.seen.now frame.micros in
    let passed : passes c.args.form.now.filter.now subject times ≡ true = c.is_open.ensures c.if-is_open.true subject times in
    rw passed refl
