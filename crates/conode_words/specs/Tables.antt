-- Commands built from tables of their words and options.
use Rattle.std.specs.Prelude.{List, ◌∷◌, []}
use Rattle.std.specs.List.{fold}
use Rattle.clap.specs.Words.{App, Rule, Text, new_app, with_rule, with_subcommand}
use Rattle.conode_words.specs.Commands.{flag, lettered, many_wanted, numbered, repeated, valued, wanted, worded}
use Rattle.conode_words.specs.declared.options.Kind.{Kind}
use Rattle.conode_words.specs.declared.options.Kind.TheVariants as kind
use Rattle.conode_words.specs.declared.options.Subcommand.{Subcommand}
use Rattle.conode_words.specs.declared.options.Word.{Word}

-- the rule of a word or an option of this kind
unfoldable pub rule_of_kind : Text → Kind → Rule
rule_of_kind name kind.Wanted = wanted name
rule_of_kind name kind.ManyWanted = many_wanted name
rule_of_kind name kind.Flag = flag name
rule_of_kind name (kind.Valued value) = valued name
rule_of_kind name (kind.Repeated value) = repeated name
rule_of_kind name (kind.Worded value default) = worded name default.now
rule_of_kind name (kind.Lettered letter value default) = lettered name letter default.now
rule_of_kind name (kind.Numbered low high) = numbered name low high []
rule_of_kind name (kind.NumberedOr high default) = numbered name 0 high (default.now ∷ [])

abbrev pub rule_by : Word → Rule
rule_by word = rule_of_kind word.0.now word.1

-- a command with these words and options
abbrev pub with_words : App → List Word → App
with_words app words = fold (λ a word. with_rule a (rule_by word)) app words

abbrev pub app_by : Subcommand → App
app_by row = with_words (new_app row.texts.now.name.now) row.words.now

-- a command with these subcommands
abbrev pub with_commands : App → List Subcommand → App
with_commands app rows = fold (λ a row. with_subcommand a (app_by row).top) app rows
