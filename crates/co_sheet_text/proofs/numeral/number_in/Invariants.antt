use Rattle.std.proofs.Common.{◌≡◌, ◌<◌, ◌^◌, drop}
use Rattle.co_sheet_text.proofs.NumeralLemmas.{read_after}
use Rattle.co_sheet_text.proofs.numeral.number_in.Given as goal

-- what is left, after the number so far, gives what the text does
abbrev pub invariant-loop-byte : goal.invariant-loop-byte
invariant-loop-byte l = record { small : l.number < 2 ^ 64; same : read_after l.base l.number (drop l.byte-index l.text) ≡ read_after l.base 0 l.text }
