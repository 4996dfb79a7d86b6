use Rattle.std.proofs.Common.{◌≡◌, ℕ, List, [], ◌++◌, ◌∙◌, sym, ap, subst, not, ◌&&◌, cond, length, rules}
use Rattle.std.specs.Ordering.{nat_cmp, is_lt}
use Rattle.std.proofs.lemmas.Fn.{always_returns_same}
use Rattle.std.proofs.lemmas.List.Sorted.{IsNonDecreasingBy-from_sort_by_key}
use Rattle.co_sheet_text_warnings.specs.declared.warning.Warning.{Warning}
use Rattle.co_sheet_text_warnings.specs.declared.warning.WarningKind.TheVariants.{SubNumber}
use Rattle.co_sheet_text_warnings.specs.ReadTexts.{read_text}
use Rattle.co_sheet_warnings.specs.Warnings.{all_warnings, warnings_of, IsByLine}
use Rattle.co_sheet_warnings.proofs.ByLineLemmas.{ties-same, filter-alike, within}
use Rattle.co_sheet_warnings.proofs.find.find_warnings.Goals as goal

pub returns : goal.returns
returns c =
    let text = c.args.text.now in
    let all = all_warnings c.args.all (read_text text c.args.node) in
    let old = c.add_warnings_of.new.warnings.items in
    let new = c.sort_by_key.new.self.items in
    let line : Warning → ℕ = λ w. w.line in
    let stable = c.in-Ok-sort_by_key.ensures.stable line (always_returns_same _ _ _ (λ a r f' k. search rules)) in
    let found : old ≡ warnings_of text c.args.node c.args.all =
    c.in-Ok.ensures ∙ ap (λ (ws : List Warning). ws ++ all) c.new-warnings.ensures.items ∙ ap (λ b. cond b [] all) (sym (within 1048576 (length text) c.requires.size)) in
    subst (λ (ws : List Warning). IsByLine ws new) found record {
      rises = IsNonDecreasingBy-from_sort_by_key line new c.in-Ok-sort_by_key.ensures.sorted (λ a r f' k. search rules);
      same = λ n.
          let at : Warning = record { kind = SubNumber; line = n } in
          sym (filter-alike (λ w. not (is_lt (nat_cmp n w.line)) && not (is_lt (nat_cmp w.line n))) (λ w. Rattle.std.proofs.Common.eqb w.line n) (λ w. ties-same n w.line) new)
          ∙ stable at
          ∙ filter-alike (λ w. not (is_lt (nat_cmp n w.line)) && not (is_lt (nat_cmp w.line n))) (λ w. Rattle.std.proofs.Common.eqb w.line n) (λ w. ties-same n w.line) old;
    }
