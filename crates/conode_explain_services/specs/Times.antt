-- TIME (CiA 301, 7.2.6).
use Rattle.std.specs.Prelude.{ℕ, List, ◌++◌, codes}
use Rattle.conode_explain_values.specs.declared.value_type.ValueType.TheVariants.{TimeOfDay}
use Rattle.conode_explain_values.specs.Values.{value_text}

-- six bytes, a TIME_OF_DAY: the date and the time
unfoldable pub time_words : List ℕ → List ℕ
time_words bytes = codes "TIME " ++ value_text TimeOfDay 48 bytes
