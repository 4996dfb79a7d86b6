use Rattle.std.proofs.Common.{◌≡◌, ◌∙◌, Bool, Option, Some, ap}
use Rattle.clap.specs.Words.{Rule, rule_of}
use Rattle.clap.specs.declared.builder.arg.Arg.{Arg}
use Rattle.clap.specs.declared.builder.value_parser.ValueParser.{ValueParser}
use Rattle.clap.specs.declared.builder.value_parser.ValueParser.TheVariants.{Unsigned}
use Rattle.conode_words.proofs.options.numbered.Goals as goal

abbrev parsed : Rule → Option ValueParser → Rule
parsed rule parser = record rule { parser = parser }

abbrev is_global : Arg → Bool
is_global a = a.global

pub returns-clause-rule : goal.returns-clause-rule
returns-clause-rule c =
    let given = c.value_parser.ensures.given in
    let parser : c.value_parser.result.value_parser ≡ Some (Unsigned c.args.low c.args.high) = given.1 ∙ ap Some (given.2 ∙ c.unsigned.ensures) in
    ap rule_of c.value_parser.ensures.others ∙ ap (parsed (rule_of c.valued.result)) parser ∙ ap (λ (r : Rule). parsed r (Some (Unsigned c.args.low c.args.high))) c.valued.ensures.rule

pub returns-clause-local : goal.returns-clause-local
returns-clause-local c = ap is_global c.value_parser.ensures.others ∙ c.valued.ensures.local
