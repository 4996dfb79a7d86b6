use Rattle.std.proofs.Common.{ℕ, List, ap, ◌∙◌}
use Rattle.co_frame.specs.FrameContent.{FrameContent}
use Rattle.co_dict.specs.CobIds.{identifier_of}
use Rattle.co_dict.specs.declared.side.Side.TheVariants.{Tpdo}
use Rattle.co_node_device.proofs.tpdos.tpdo_frame.Goals as goal

-- a frame by its bytes
abbrev framed : ℕ → List ℕ → FrameContent
framed id bytes = record { id = id; bytes = bytes }

pub returns : goal.returns
returns g c = λ history stands table.
    c.packed.ensures
    ∙ ap (λ id. framed id c.image-image.result) (c.identifier.ensures.value ∙ ap identifier_of (c.cob_id.ensures history stands))
    ∙ ap (framed _) (c.image-image.ensures Tpdo table)
