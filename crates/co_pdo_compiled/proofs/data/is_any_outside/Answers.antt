use Rattle.std.proofs.Common.{sym, ◌∙◌}
use Rattle.co_pdo_compiled.proofs.Limits.{are_bytes, none_outside}
use Rattle.co_pdo_compiled.proofs.data.is_any_outside.Goals as goal

-- no entry has limits
pub returns-else-is_limited : goal.returns-else-is_limited
returns-else-is_limited g c =
    c.if-is_limited.false
    ∙ sym (none_outside (g.S.ObjectStore.description c.args.store.now) c.args.compiled.now c.args.bytes.now c.requires.has
    (sym c.is_limited.ensures ∙ c.if-is_limited.false) (are_bytes c.args.bytes.now c.type_inv.bytes) c.requires.enough)
