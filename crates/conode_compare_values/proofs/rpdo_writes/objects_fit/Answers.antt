-- An object that doesn't fit, one that does, and the end of the mapping.
use Rattle.std.proofs.Common.{◌∙◌, None, sym, map}
use Rattle.co_sheet.specs.SheetViews.{row_view}
use Rattle.conode_compare_values.proofs.Objects.{fit_end, fit_off, fit_on}
use Rattle.conode_compare_values.proofs.rpdo_writes.objects_fit.Goals as goal

pub returns-then-not-fits_at : goal.returns-then-not-fits_at
returns-then-not-fits_at c =
    let off = fit_off (map row_view c.args.rows.now) c.args.count c.loop-place.place c.args.objects.now c.loop-place.rest.now None c.loop-place-test.true c.fits_at.result c.fits_at.ensures c.if-not-fits_at.true in
    sym off ∙ c.loop-place.invariant

pub loop-place-preserved : goal.loop-place-preserved
loop-place-preserved c =
    let on = fit_on (map row_view c.args.rows.now) c.args.count c.loop-place.place c.args.objects.now c.loop-place.rest.now None c.loop-place-test.true c.fits_at.result c.fits_at.ensures c.if-not-fits_at.false in
    rw (c.later_bytes-rest.ensures, c.object_bytes.ensures) (sym on ∙ c.loop-place.invariant)

pub returns : goal.returns
returns c =
    sym (fit_end (map row_view c.args.rows.now) c.args.count c.loop-place.place c.args.objects.now c.loop-place.rest.now c.loop-place-test.false) ∙ c.loop-place.invariant
