-- The indices of the rows are those of the keys.
use Rattle.std.proofs.Common.{rules, ◌≡◌, ℕ, sym, ap, ◌∙◌, map}
use Rattle.std.proofs.lemmas.Simd.{map-map}
use Rattle.std.specs.Prelude.{find, option_map}
use Rattle.co_value.specs.declared.key.Key.{Key}
use Rattle.co_dict_build.specs.declared.build_fault.BuildFault.TheVariants.{PdoPair}
use Rattle.co_dict_build.specs.BuildFaults.{is_unpaired, unpaired}
use Rattle.co_dict_build.proofs.build.pair_fault.Goals as goal

pub returns : goal.returns
returns g c =
    let d = g.S.ObjectStore.description c.args.store.now in
    let fault : c.map.result ≡ option_map (λ (index : ℕ). PdoPair index) c.unpaired.result = search rules in
    let same : c.unpaired.result ≡ unpaired d =
    c.unpaired.ensures ∙ ap (find (is_unpaired d.rows)) (sym (map-map (λ (key : Key). key.index) (λ row. row.key) c.args.rows.now) ∙ ap (map (λ (key : Key). key.index)) (sym c.requires)) in
    fault ∙ ap (option_map (λ (index : ℕ). PdoPair index)) same
