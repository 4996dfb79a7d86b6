-- Messages, evaluated.
use Rattle.std.proofs.Common.{◌≡◌, [], ◌∷◌, ◌++◌, refl}
use Rattle.std.specs.Prelude.{codes}
use Rattle.std.specs.Fmt.{digits}
use Rattle.co_sheet_rows.specs.declared.fault.FaultKind.TheVariants.{Memory}
use Rattle.conode_io.specs.declared.fault.CmdFault.TheVariants.{BadLine, NeverEnds}
use Rattle.conode_io.specs.declared.message.Message.TheVariants.{Stopped, Fault}
use Rattle.conode_io.specs.Messages.{message_line}

bad_line : message_line (Stopped (BadLine 12)) ≡ codes "stopped: BadLine 12" ++ 10 ∷ []
unfolding digits
bad_line = refl

never_ends : message_line (Stopped NeverEnds) ≡ codes "stopped: NeverEnds" ++ 10 ∷ []
never_ends = refl

no_memory : message_line (Fault (record { kind = Memory; line = 0 })) ≡ codes "fault 20 Memory line 0" ++ 10 ∷ []
unfolding digits
no_memory = refl
