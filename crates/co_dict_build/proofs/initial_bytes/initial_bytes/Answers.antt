-- The bytes of a number are those of its type.
use Rattle.std.specs.Int.{w128}
use Rattle.std.proofs.Common.{rules, ◌≡◌, List, ℕ, IfOk, sym, ap, ◌∙◌, subst}
use Rattle.std.proofs.lemmas.Int.{to_z-of_z}
use Rattle.co_value.specs.Numbers.{bytes_of}
use Rattle.co_sheet.specs.SheetViews.{row_view}
use Rattle.co_dict_build.specs.InitialBytes.{initial_of}
use Rattle.co_dict_build.proofs.InitialLemmas.{initial_at-numeric}
use Rattle.co_dict_build.proofs.initial_bytes.initial_bytes.Goals as goal

pub returns-in-Ok-clause-value : goal.returns-in-Ok-clause-value
returns-in-Ok-clause-value c =
    let same : initial_of c.args.node_id (row_view c.args.row.now) ≡ c.deref.result.now = initial_at-numeric c.args.node_id (row_view c.args.row.now) c.args.row.now.data_type _ c.in-Ok.ensures.number.width
    ∙ ap (bytes_of c.args.row.now.data_type) (sym c.initial_number.ensures) ∙ ap (bytes_of c.args.row.now.data_type) (sym (to_z-of_z w128 c.initial_number.result (search rules))) ∙ sym c.in-Ok.ensures.bytes ∙ sym c.deref.ensures.0 in
    subst (λ (xs : List ℕ). IfOk c.from_slice.result (λ bytes. bytes.items ≡ xs)) (sym same) c.from_slice.ensures.items
