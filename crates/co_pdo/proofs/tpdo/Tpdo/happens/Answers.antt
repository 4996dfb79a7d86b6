use Rattle.std.proofs.Common.{◌≡◌, Bool, true, false, ◌∷◌, ap, ◌∙◌}
use Rattle.co_dict.specs.Rows.{Contents}
use Rattle.co_pdo.specs.declared.tpdo.Tpdo.{Tpdo}
use Rattle.co_pdo.specs.declared.tpdo.Occasion.{Occasion}
use Rattle.co_pdo.specs.Tpdos.{is_active, settings_of}
use Rattle.co_pdo.specs.Steps.{counts, counted, wants, marked}
use Rattle.co_pdo.specs.Log.{Log, Happened}
use Rattle.co_pdo.specs.Due.{is_due}
use Rattle.co_pdo.specs.Countdowns.{IsAfter, IsCurrent}
use Rattle.co_pdo.proofs.Logs.{after_unsent, after_sent, due_wanted, due_unwanted}
use Rattle.co_pdo.proofs.tpdo.Tpdo.happens.Goals as goal
use Rattle.co_pdo.proofs.tpdo.Tpdo.happens.Goals.{then-count, else-count}

-- one occasion of a TPDO: what counted it, and whether it wants to go
module _ (contents : Contents) (t mid : Tpdo) (o : Occasion) (c wanted : Bool) (log : Log)
    (counting : c ≡ counts (settings_of contents t.number) o t) (state : mid ≡ counted o c t) (due : wanted ≡ wants o c t)
    (given : IsAfter t log) (current : IsCurrent (settings_of contents t.number) log) where
  -- counted by what the dictionary says of it
  state_with : mid ≡ counted o (counts (settings_of contents t.number) o t) t
  state_with = state ∙ ap (λ b. counted o b t) counting

  due_with : wanted ≡ wants o (counts (settings_of contents t.number) o t) t
  due_with = due ∙ ap (λ b. wants o b t) counting

  if_wanted : (active : Bool) → wanted ≡ true → active ≡ is_active contents t.number → active ≡ is_due (settings_of contents t.number) log o
  if_wanted active h is = is ∙ due_wanted t log (settings_of contents t.number) o wanted given current due_with h

  if_unwanted : wanted ≡ false → false ≡ is_due (settings_of contents t.number) log o
  if_unwanted h = due_unwanted t log (settings_of contents t.number) o wanted given current due_with h

  after_none : IsAfter mid (Happened o (settings_of contents t.number) false ∷ log)
  after_none = after_unsent t mid log (settings_of contents t.number) o state_with given current

  after_one : (new : Tpdo) → new ≡ marked mid → IsAfter new (Happened o (settings_of contents t.number) true ∷ log)
  after_one new e = after_sent t mid new log (settings_of contents t.number) o state_with e given current

pub returns-then-due-clause-due : goal.returns-then-due-clause-due
returns-then-due-clause-due g c = λ places log h f. elim c.if-count.branch [
  | then-count w ↦
      w.due-is ∙ if_wanted (g.S.ObjectStore.contents c.args.store.now) _ _ c.args.occasion _ _ log (c.counts-counts.ensures places) c.count.ensures.state c.count.ensures.due h f _ w.if-count.true (w.is_active-due.ensures _ c.requires places)
  | else-count w ↦ w.due-is ∙ w.if-count.false ∙ if_unwanted (g.S.ObjectStore.contents c.args.store.now) _ _ c.args.occasion _ _ log (c.counts-counts.ensures places) c.count.ensures.state c.count.ensures.due h f w.if-count.false
]

pub returns-then-due-clause-after : goal.returns-then-due-clause-after
returns-then-due-clause-after g c = λ places log h f. rw c.if-due.true (after_one (g.S.ObjectStore.contents c.args.store.now) _ _ c.args.occasion _ _ log (c.counts-counts.ensures places) c.count.ensures.state c.count.ensures.due h f _ c.mark_sent.ensures)

pub returns-else-due-clause-due : goal.returns-else-due-clause-due
returns-else-due-clause-due g c = λ places log h f. elim c.if-count.branch [
  | then-count w ↦
      w.due-is ∙ if_wanted (g.S.ObjectStore.contents c.args.store.now) _ _ c.args.occasion _ _ log (c.counts-counts.ensures places) c.count.ensures.state c.count.ensures.due h f _ w.if-count.true (w.is_active-due.ensures _ c.requires places)
  | else-count w ↦ w.due-is ∙ w.if-count.false ∙ if_unwanted (g.S.ObjectStore.contents c.args.store.now) _ _ c.args.occasion _ _ log (c.counts-counts.ensures places) c.count.ensures.state c.count.ensures.due h f w.if-count.false
]

pub returns-else-due-clause-after : goal.returns-else-due-clause-after
returns-else-due-clause-after g c = λ places log h f. rw c.if-due.false (after_none (g.S.ObjectStore.contents c.args.store.now) _ _ c.args.occasion _ _ log (c.counts-counts.ensures places) c.count.ensures.state c.count.ensures.due h f)
