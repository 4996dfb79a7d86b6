use Rattle.std.proofs.Common.{sym, arith}
use Rattle.co_dict.proofs.ObjectLemmas.{nothing_missing}
use Rattle.co_dict.proofs.objects.row_in.Goals as goal

pub returns-in-Some-clause-refusal : goal.returns-in-Some-clause-refusal
returns-in-Some-clause-refusal g c = nothing_missing (g.S.ObjectStore.description c.args.store.now).rows _ c.in-Some.row (omega (arith, c.ranges.sub.fits)) (sym c.in-Some.ensures)
