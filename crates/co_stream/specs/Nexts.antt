-- What a call of `next` returns, and what it does to the line reader.
use Rattle.std.specs.Prelude.{◌≡◌, ◌≢◌, ℕ, ◌<◌, ◌≤◌, List, [], true, false, Option, Some, None, Result, IfOk, IfErr, IfSome, IfNone}
use Rattle.std.specs.Io.KnownBytes.{IsAtEnd}
use Rattle.co_stream.specs.declared.fault.LineFault.{LineFault}
use Rattle.co_stream.specs.declared.fault.LineFault.TheVariants.{Read, TooLong, NeverEnds}
use Rattle.co_stream.specs.Lines.{GivesLine, IsTooLong}
use Rattle.co_stream.specs.Readings.{Gave, LosesPartOfLine, Reading, to_come, most_bytes}
use denote.Ref.{Bor}

-- nothing was read yet
abbrev pub new_reader : Reading
new_reader = record { rest = []; ended = false; fault = None; asks = 16777216; failed = false }

-- `P` holds of all bytes that the reader may have had before and after; `before` and `after` are
-- its bytes, where they are known
abbrev pub OfAny : Reading → Reading → Option (List ℕ) → Option (List ℕ) → (Option (List ℕ) → Option (List ℕ) → Type 0) → Type 0
OfAny old new before after P = Gave old.ended new.ended before after P

pub record IsNext (old new : Reading) (before after : Option (List ℕ)) (result : Result (Option (Bor (List ℕ))) LineFault) : Type 0 where
  -- the line, with all that follows it still to come
  pub line : IfOk result (λ next. IfSome next (λ line. OfAny old new before after (λ had has. GivesLine (to_come old had) (to_come new has) line.now)))
  -- no line is left, and the reader is at its end
  pub end : IfOk result (λ next. IfNone next (OfAny old new before after (λ had has. IsAtEnd (to_come old had) × IsAtEnd (to_come new has))))
  -- the next line is too long
  pub too_long : IfErr result (λ fault. fault ≡ TooLong → old.fault ≡ None → OfAny old new before after (λ had has. IfSome (to_come old had) IsTooLong))
  -- after any other fault: no line ended in what the reader gave
  pub within : IfErr result (λ fault. fault ≢ TooLong → old.fault ≡ None → OfAny old new before after (λ had has. LosesPartOfLine (to_come old had) has))
  -- each further call gives the fault again
  pub fault : IfErr result (λ fault. new.fault ≡ Some fault)
  pub no_fault : IfOk result (λ _. new.fault ≡ None)
  pub asked : new.asks ≤ old.asks
  -- a line uses up at least one of the bytes that may still come
  pub fewer : IfOk result (λ next. IfSome next (λ _. most_bytes new.asks new.rest < most_bytes old.asks old.rest))
  -- the reader failed, or was asked as often as allowed
  pub read : IfErr result (λ fault. fault ≡ Read → old.fault ≡ None → new.failed ≡ true)
  pub never_ends : IfErr result (λ fault. fault ≡ NeverEnds → old.fault ≡ None → new.asks ≡ 0)
