use Rattle.std.proofs.Common.{◌≡◌, ◌<◌, Bool, true, sym, ap, ◌∙◌, arith}
use Rattle.std.specs.Prelude.{◌&&◌, nat_lt}
use Rattle.std.proofs.lemmas.Bool.Decides.{nat_tests}
use Rattle.co_pdo.specs.Mappings.{has_pdo}
use Rattle.co_node_device.proofs.device.Device.compiled.Goals as goal

both : (a b : Bool) → a ≡ true → b ≡ true → a && b ≡ true
both a b on also = ap (λ c. c && b) on ∙ also

pub returns-in-Some-clause-there : goal.returns-in-Some-clause-there
returns-in-Some-clause-there g c = λ k inputs ns.
    let there : has_pdo c.args.side (g.S.ObjectStore.description c.args.self.now.store).rows c.in-Some.k ≡ true = sym c.has_pdo.ensures ∙ c.if-has_pdo.true in
    let has : has_pdo c.args.side (g.S.ObjectStore.description c.args.self.now.store).rows c.args.number ≡ true =
    ap (λ n. has_pdo c.args.side (g.S.ObjectStore.description c.args.self.now.store).rows n) (sym c.in-Some.ensures.0) ∙ there in
    let small : c.args.number < 512 = c.in-Some.ensures.1 in
    let test : nat_lt c.args.number 512 ≡ true = grind (arith, nat_tests) in
    c.compiled.ensures.there _ _ ns.mappings there
    ∙ sym (both _ _ test (ap (λ d. has_pdo c.args.side d.rows c.args.number) (sym ns.description) ∙ has))
