use Rattle.std.proofs.Common.{sym, ◌∙◌}
use Rattle.co_pdo.specs.Tpdos.{settings_of}
use Rattle.co_pdo.proofs.Idles.{not_active}
use Rattle.co_pdo.proofs.tpdo.Tpdo.idle.Goals as goal

pub returns-then-not-active : goal.returns-then-not-active
returns-then-not-active g c = λ places log n h f le.
    not_active n log (settings_of (g.S.ObjectStore.contents c.args.store.now) c.args.self.now.number)
    (sym (c.is_active-active.ensures _ c.requires places) ∙ c.if-not-active.true)

pub returns : goal.returns
returns g c = λ places log n h f le.
    c.ticks_left.ensures log n (settings_of (g.S.ObjectStore.contents c.args.store.now) c.args.self.now.number) h f le
