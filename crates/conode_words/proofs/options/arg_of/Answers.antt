use Rattle.std.proofs.Common.{◌≡◌, ◌∙◌, Option, Some, None, IsSomeAnd, ap}
use Rattle.clap.specs.Lexer.{usize_max}
use Rattle.clap.specs.Words.{Rule, rule_of}
use Rattle.clap.specs.declared.builder.range.ValueRange.{ValueRange}
use Rattle.conode_words.specs.Tables.{rule_of_kind}
use Rattle.conode_words.proofs.options.arg_of.Goals as goal

abbrev one_or_more : ValueRange
one_or_more = record { start_inclusive = 1; end_inclusive = usize_max }

-- a range that is there is the one that it has to be
some_range : (given : Option ValueRange) (range : ValueRange) → IsSomeAnd given (λ r. r ≡ range) → given ≡ Some range
some_range None range h = absurd h
some_range (Some r) range h = ap Some h

abbrev in_range : Rule → Option ValueRange → Rule
in_range rule range = record rule { range = range }

pub returns-in-ManyWanted-clause-rule : goal.returns-in-ManyWanted-clause-rule
unfolding rule_of_kind
returns-in-ManyWanted-clause-rule c =
    let range = some_range c.num_args.result.num_vals one_or_more c.num_args.ensures.1 in
    rw c.in-ManyWanted.is
    (ap rule_of c.num_args.ensures.0 ∙ ap (in_range (rule_of c.wanted-in-ManyWanted.result)) range ∙ ap (λ (r : Rule). in_range r (Some one_or_more)) c.wanted-in-ManyWanted.ensures.rule)
