-- What a writer holds where a command stopped and said why.
use Rattle.std.proofs.Common.{◌≡◌, ℕ, List, [], ◌∷◌, Option, Some, None, IfSome, Result, Err, inl, inr, sym, ap, subst, ◌∙◌}
use Rattle.std.specs.Prelude.{◌≢◌, ◌⊎◌, take}
use Rattle.std.specs.List.{flat_map}
use Rattle.std.specs.Io.KnownBytes.{Appends, Keeps}
use Rattle.std.proofs.KnownBytes.{Appends-kept}
use Rattle.conode_io.specs.declared.ending.Ending.{Ending}
use Rattle.conode_io.specs.declared.ending.Ending.TheVariants.{Said, Unsaid}
use Rattle.conode_io.specs.declared.fault.CmdFault.{CmdFault}
use Rattle.conode_io.specs.declared.fault.CmdFault.TheVariants.{Write, BadLine, Memory}
use Rattle.conode_io.specs.Endings.{stopped_line, SomeStopped, WritesStopped}
use Rattle.conode_io.specs.Written.{WritesLines, WritesSome}
use Rattle.conode_io.proofs.WriteLemmas.{line_alone, lines_after}

-- ---- which fault it was

pub bad_line_is_other : (number : ℕ) → BadLine number ≢ Write
bad_line_is_other number is = absurd cc

pub memory_is_other : Memory ≢ Write
memory_is_other is = absurd cc

-- a command that says why says its own fault
pub said_own : (ending : Ending) (fault said : CmdFault) → (ending ≡ Said fault) ⊎ (ending ≡ Unsaid fault) → ending ≡ Said said → fault ≡ said
said_own ending fault said (inl own) is = cc
said_own ending fault said (inr own) is = absurd cc

-- a fault other than of the writer was there before the flush
pub outcome_was : (outcome : Result (Unit {0}) CmdFault) (fault said : CmdFault) → (outcome ≡ Err fault) ⊎ (fault ≡ Write) → fault ≡ said → said ≢ Write → outcome ≡ Err said
outcome_was outcome fault said (inl is) same other = is ∙ ap (λ (f : CmdFault). Err f) same
outcome_was outcome fault said (inr is) same other = absurd (other (sym same ∙ is))

-- ---- its line

pub said_on_out : (ending : Ending) (fault said : CmdFault) (kept new : Option (List ℕ)) → (ending ≡ Said fault) ⊎ (ending ≡ Unsaid fault) → (fault ≢ Write → ending ≡ Said fault → Appends kept new (stopped_line fault)) → said ≢ Write → ending ≡ Said said → Appends kept new (stopped_line said)
said_on_out ending fault said kept new ends on_out other is =
    let same = said_own ending fault said ends is in
    subst (λ (f : CmdFault). Appends kept new (stopped_line f)) same (on_out (λ write. other (sym same ∙ write)) (is ∙ ap Said (sym same)))

pub said_on_err : (ending : Ending) (fault : CmdFault) (kept new : Option (List ℕ)) → (ending ≡ Said fault) ⊎ (ending ≡ Unsaid fault) → (fault ≡ Write → ending ≡ Said fault → Appends kept new (stopped_line fault)) → ending ≡ Said Write → WritesLines kept new (stopped_line Write ∷ [])
said_on_err ending fault kept new ends on_err is =
    let same = said_own ending fault Write ends is in
    line_alone kept new (stopped_line Write)
    (subst (λ (f : CmdFault). Appends kept new (stopped_line f)) same (on_err same (is ∙ ap Said (sym same))))

-- ---- its line after others

pub stopped_after : (old mid kept new : Option (List ℕ)) (lines : List (List ℕ)) (fault : CmdFault) → WritesLines old mid lines → Keeps mid kept → Appends kept new (stopped_line fault) → WritesStopped old new lines fault
stopped_after old mid kept new lines fault first flushed last =
    lines_after old kept new lines (stopped_line fault ∷ []) (Appends-kept old mid kept (flat_map (λ line. line) lines) first flushed) (line_alone kept new (stopped_line fault) last)

pub some_stopped : (old mid kept new : Option (List ℕ)) (lines : List (List ℕ)) (fault : CmdFault) → WritesSome old mid lines → Keeps mid kept → Appends kept new (stopped_line fault) → SomeStopped old new lines fault
some_stopped old mid kept new lines fault some flushed last =
    (some.0, some.1, stopped_after old mid kept new (take some.0 lines) fault some.2 flushed last)

-- of a text, where it is known
module _ (lines : List ℕ → List (List ℕ)) (old mid kept new : Option (List ℕ)) (fault : CmdFault) (flushed : Keeps mid kept) (last : Appends kept new (stopped_line fault)) where
  pub text_stopped : (known : Option (List ℕ)) → IfSome known (λ text. WritesLines old mid (lines text)) → IfSome known (λ text. WritesStopped old new (lines text) fault)
  text_stopped None first = tt
  text_stopped (Some text) first = stopped_after old mid kept new (lines text) fault first flushed last
