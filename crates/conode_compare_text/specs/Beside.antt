-- What the line of a difference says that the difference doesn't have.
use Rattle.std.specs.Prelude.{pos, false, length}
use Rattle.co_frame.specs.FrameContent.{FrameContent}
use Rattle.co_value.specs.declared.data_type.DataType.TheVariants.{Unsigned32}
use Rattle.conode_explain_values.specs.declared.value_type.ValueType.TheVariants.{Plain}
use Rattle.conode_compare_transfers.specs.Breaches.{byte_at, key_in}
use Rattle.conode_compare_rules.specs.declared.kind.FrameKind.{FrameKind}
use Rattle.conode_compare_rules.specs.declared.kind.FrameKind.TheVariants.{Sdo}
use Rattle.conode_compare_text.specs.declared.details.Came.{Came}
use Rattle.conode_compare_text.specs.declared.details.Details.{Details}
use Rattle.conode_compare_text.specs.declared.details.Passed.{Passed}

-- ---- the frame

abbrev pub nothing_came : Came
nothing_came = record { length = 0; command = 0; key = record { index = 0; sub = 0 } }

abbrev pub came_of : FrameContent → Came
came_of frame = record { length = length frame.bytes; command = byte_at frame 0; key = key_in frame }

-- of the SDO channel; another one says nothing
abbrev pub came_at : FrameKind → Came
came_at (Sdo side frame) = came_of frame
came_at kind = nothing_came

-- ---- nothing

abbrev pub nothing_passed : Passed
nothing_passed = record { number = pos 0; limit = pos 0 }

abbrev pub no_details : Details
no_details = record { value_type = Plain Unsigned32; came = nothing_came; writes = false; passed = nothing_passed }
