use Rattle.co_dict.proofs.PlaceLemmas.{has_place, one_key, key_of_place, row_by_place, bytes_by_place, takes_by_place, written_by_place}
use Rattle.co_dict.proofs.store.place_laws.Goals as goal

pub returns-clause-present : goal.returns-clause-present
returns-clause-present g c = has_place (g.S.ObjectStore.description c.args.store.now) c.store_laws.ensures.description

pub returns-clause-different : goal.returns-clause-different
returns-clause-different g c = one_key (g.S.ObjectStore.description c.args.store.now)

pub returns-clause-key : goal.returns-clause-key
returns-clause-key g c = key_of_place (g.S.ObjectStore.description c.args.store.now)

pub returns-clause-row : goal.returns-clause-row
returns-clause-row g c = row_by_place (g.S.ObjectStore.description c.args.store.now)

pub returns-clause-bytes : goal.returns-clause-bytes
returns-clause-bytes g c = bytes_by_place (g.S.ObjectStore.description c.args.store.now) (g.S.ObjectStore.contents c.args.store.now)

pub returns-clause-takes : goal.returns-clause-takes
returns-clause-takes g c = takes_by_place (g.S.ObjectStore.description c.args.store.now)

pub returns-clause-written : goal.returns-clause-written
returns-clause-written g c = written_by_place (g.S.ObjectStore.description c.args.store.now) (g.S.ObjectStore.contents c.args.store.now)
