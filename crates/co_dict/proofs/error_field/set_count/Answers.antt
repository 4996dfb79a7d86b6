use Rattle.std.proofs.Common.{refl, ap, ◌∙◌}
use Rattle.co_value.specs.declared.data_type.DataType.TheVariants.{Unsigned8}
use Rattle.co_dict.specs.Rows.{takes}
use Rattle.co_dict.specs.ErrorField.{error_key}
use Rattle.co_dict.proofs.StoreLemmas.{takes_width}
use Rattle.co_dict.proofs.error_field.set_count.Goals as goal

pub set-requires : goal.set-requires
set-requires g c =
    let d = g.S.ObjectStore.description c.args.store.now in
    ap (λ key. takes d.rows key 1) c.error_key.ensures ∙ takes_width d c.store_laws.ensures.description (error_key 0) Unsigned8 1 refl refl c.requires
