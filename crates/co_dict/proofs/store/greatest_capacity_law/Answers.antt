use Rattle.co_dict.proofs.GreatestCapacity.{is_greatest, one_greatest, room_within}
use Rattle.co_dict.proofs.store.greatest_capacity_law.Goals as goal

pub returns-clause-greatest : goal.returns-clause-greatest
returns-clause-greatest g c = is_greatest (g.S.ObjectStore.description c.args.store.now) c.store_laws.ensures.description

pub returns-clause-enough : goal.returns-clause-enough
returns-clause-enough g c = λ key.
    room_within _ _ (is_greatest (g.S.ObjectStore.description c.args.store.now) c.store_laws.ensures.description) key

pub returns-clause-only : goal.returns-clause-only
returns-clause-only g c = λ size asked.
    one_greatest _ size _ asked (is_greatest (g.S.ObjectStore.description c.args.store.now) c.store_laws.ensures.description)
