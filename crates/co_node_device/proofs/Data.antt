-- What data are that took effect, by equals.
use Rattle.std.proofs.Common.{◌≡◌, ap, ◌∙◌}
use Rattle.std.specs.Prelude.{Option}
use Rattle.co_dict.specs.Rows.{Contents}
use Rattle.co_dict.specs.Stores.{Description}
use Rattle.co_pdo.specs.declared.data.PdoFault.{PdoFault}

pub by_all : {A : Type 0} (f : Description → Option PdoFault → Contents → A) {d e : Description} {o p : Option PdoFault} {c n : Contents}
    → d ≡ e → o ≡ p → c ≡ n → f d o c ≡ f e p n
by_all f {d} {e} {o} {p} {c} {n} same fault contents =
    ap (λ x. f x o c) same ∙ ap (λ x. f e x c) fault ∙ ap (λ x. f e p x) contents
