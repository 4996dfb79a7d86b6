use Rattle.std.proofs.Common.{◌+◌, refl, sym, ap, ◌∙◌, arith}
use Rattle.co_dict.specs.Rows.{written}
use Rattle.co_dict.specs.Objects.{has_sub}
use Rattle.co_dict.specs.ErrorField.{error_key}
use Rattle.co_dict.proofs.PushLemmas.{sub_present, moved_none, moved_next, next_error}
use Rattle.co_dict.proofs.error_field.move_down.Goals as goal

pub loop-earlier-init : goal.loop-earlier-init
loop-earlier-init g c = record { contents = sym (moved_none _ _); description = refl; carried = refl }

pub replace_error-next-requires-clause-there : goal.replace_error-next-requires-clause-there
replace_error-next-requires-clause-there g c =
    ap (λ d. has_sub d.rows 0x1003 (c.loop-earlier.earlier + 1)) c.loop-earlier.invariant.description
    ∙ sub_present (g.S.ObjectStore.description c.args.store.now).rows 0x1003 254 (c.loop-earlier.earlier + 1) (omega arith) (omega (arith, c.loop-earlier-test.true, c.requires.there))

pub loop-earlier-preserved : goal.loop-earlier-preserved
loop-earlier-preserved g c =
    let before = g.S.ObjectStore.contents c.args.store.now in
    let earlier = c.loop-earlier.earlier in
    let invariant = c.loop-earlier.invariant in
    let replaced = c.replace_error-next.ensures in
    record {
      contents = replaced.contents ∙ ap (λ s. written s (error_key (earlier + 1)) c.loop-earlier.error) invariant.contents ∙ sym (moved_next before c.args.first c.loop-earlier.error earlier invariant.carried);
      description = replaced.description ∙ invariant.description;
      carried = next_error before c.args.first c.replace_error-next.result earlier (ap (λ s. s (error_key (earlier + 1))) (sym invariant.contents) ∙ replaced.before);
    }
