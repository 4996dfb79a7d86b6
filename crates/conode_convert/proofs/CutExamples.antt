-- Which last line may be cut off.
use Rattle.std.proofs.Common.{◌≡◌, Bool, true, false, [], ◌∷◌, Option, Some, None, Ok, Err, refl}
use Rattle.std.specs.Prelude.{codes, map, replicate}
use Rattle.conode_record.specs.declared.bad_line.BadLine.TheVariants as bad
use Rattle.conode_record.specs.declared.content.Content.{Content}
use Rattle.conode_record.specs.declared.content.Content.TheVariants.{Data, Remote, Fd}
use Rattle.conode_record.specs.declared.content.Direction.{Direction}
use Rattle.conode_record.specs.declared.content.Direction.TheVariants.{Received}
use Rattle.conode_record.specs.declared.fields.Identifier.TheVariants.{Base}
use Rattle.conode_record.specs.declared.line.Record.{Record}
use Rattle.conode_record.specs.declared.line.RecordLine.TheVariants.{Skipped, Frame}
use Rattle.conode_convert.specs.CutOff.{may_be_cut}

abbrev frame : Option Direction → Content → Record
frame direction content = record { micros = 5; interface = codes "can0"; id = Base 0x185; content = content; direction = direction }

abbrev is_cut : Content → Bool
is_cut content = may_be_cut (Ok (Frame (frame None content)))

contents : map is_cut (Data [] ∷ Data (replicate 7 0) ∷ Data (replicate 8 0) ∷ Remote 0 ∷ Fd 0 (replicate 63 0) ∷ Fd 0 (replicate 64 0) ∷ [])
    ≡ true ∷ true ∷ false ∷ false ∷ true ∷ false ∷ []
contents = refl

-- a direction comes after the data; a comment, and a bad line
other_lines : may_be_cut (Ok (Frame (frame (Some Received) (Data [])))) ∷ may_be_cut (Ok Skipped) ∷ may_be_cut (Err bad.Data) ∷ []
    ≡ false ∷ false ∷ false ∷ []
other_lines = refl
