use Rattle.std.proofs.Common.{rules, ◌≡◌, true, refl}
use Rattle.std.specs.Prelude.{is_some}
use Rattle.co_value.specs.declared.data_type.DataType.TheVariants.{Unsigned8}
use Rattle.co_dict.proofs.StoreLemmas.{takes_width}
use Rattle.co_dict.proofs.numbers.set_u8.Goals as goal

pub set-requires : goal.set-requires
set-requires g c =
    let d = g.S.ObjectStore.description c.args.store.now in
    let there : is_some (d.rows c.args.key) ≡ true = search rules in
    takes_width d c.store_laws.ensures.description c.args.key Unsigned8 1 c.requires refl there
