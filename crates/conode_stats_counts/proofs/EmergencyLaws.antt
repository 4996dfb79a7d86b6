-- One frame more, as EMCY messages are counted, is one frame more by definition.
use Rattle.std.proofs.Common.{ℕ, List, [], ◌∷◌, ◌≡◌, refl}
use Rattle.conode_record.specs.declared.line.Record.{Record}
use Rattle.conode_stats_counts.specs.declared.failure.FailureRow.{FailureRow}
use Rattle.conode_stats_counts.specs.Emergencies.{Emergent, emergencies_of, emergency_of, emergent_of, emergent_with}
use Rattle.conode_stats_counts.specs.Groups.{grouped, keys_of, left_out}
use Rattle.conode_stats_counts.proofs.Failed as failed

pub none : emergent_of [] ≡ record { rows = []; left_out = 0 }
unfolding emergent_of emergencies_of grouped keys_of left_out
none = refl

same_emergent : (r r' : List FailureRow) (n n' : ℕ) → r ≡ r' → n ≡ n'
    → ◌≡◌ {A = Emergent} (record { rows = r; left_out = n }) (record { rows = r'; left_out = n' })
same_emergent r r' n n' e f = cc

pub one_more : (frames : List Record) (frame : Record) → emergent_with (emergent_of frames) frame ≡ emergent_of (frame ∷ frames)
unfolding emergent_with emergent_of emergencies_of
one_more frames frame =
    same_emergent _ _ _ _ (failed.rows_more (emergencies_of frames) (emergency_of frame)) (failed.others_more (emergencies_of frames) (emergency_of frame))
