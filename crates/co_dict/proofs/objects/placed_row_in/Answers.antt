use Rattle.std.proofs.Common.{sym, ◌∙◌, arith}
use Rattle.co_dict.proofs.ObjectLemmas.{nothing_missing}
use Rattle.co_dict.proofs.objects.placed_row_in.Goals as goal

pub returns-clause-refusal : goal.returns-clause-refusal
returns-clause-refusal g c =
    nothing_missing (g.S.ObjectStore.description c.args.store.now).rows _ c.in-Some-row_at.row (omega (arith, c.ranges.sub.fits))
    (sym (c.place_laws.ensures.row _ c.in-Some.place (sym c.in-Some.ensures)) ∙ sym c.in-Some-row_at.ensures)
