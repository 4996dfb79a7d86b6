use Rattle.std.proofs.Common.{get_or, sym, ap, ◌∙◌}
use Rattle.std.specs.Option.{option_copied}
use Rattle.co_pdo.proofs.Built.{first_place}
use Rattle.co_pdo.proofs.tpdos.counter_overflow.Goals as goal

pub returns-in-Some : goal.returns-in-Some
returns-in-Some g c = λ numbers placed some.
    c.counter_overflow.ensures (get_or numbers 0 0)
    (first_place (g.S.ObjectStore.description c.args.store.now) numbers c.args.places.now _ (sym c.first.ensures.value ∙ ap option_copied c.in-Some.is) placed some)
