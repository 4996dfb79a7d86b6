-- What `compare` finds of the values and the access of entries, by the end of a transfer on a device's default SDO channel.
use Rattle.std.specs.Prelude.{List, [], ◌∷◌, ◌++◌, Option, Some}
use Rattle.conode_compare_values.specs.declared.mismatch.Mismatch.TheVariants.{Written, AboveLimit, BelowLimit, BeyondRoom, ConstText, ReadRefused, ReadServed, ValueConst, ValueLength}
use Rattle.conode_compare_nmt.specs.declared.finding.Finding.{Finding}
use Rattle.conode_compare_nmt.specs.declared.finding.Finding.TheVariants.{Value}
use Rattle.conode_compare_rules.specs.declared.kind.FrameKind.{FrameKind}
use Rattle.conode_compare_rules.specs.declared.kind.FrameKind.TheVariants.{Sdo}
use Rattle.conode_compare_rules.specs.declared.verdict.Findings.{Findings}

-- these of what is found at frames of the channel
abbrev pub on_channel : (Option Finding → List Finding) → FrameKind → Findings → List Finding
on_channel only (Sdo side frame) found = only found.frame
on_channel only kind found = []

-- ---- downloads

-- `access-write`
abbrev pub of_writes : Option Finding → List Finding
of_writes (Some (Value (Written key))) = Value (Written key) ∷ []
of_writes finding = []

abbrev pub write_differences : FrameKind → Findings → List Finding
write_differences = on_channel of_writes

-- `access-limits` of numbers
abbrev pub of_limits : Option Finding → List Finding
of_limits (Some (Value (AboveLimit key))) = Value (AboveLimit key) ∷ []
of_limits (Some (Value (BelowLimit key))) = Value (BelowLimit key) ∷ []
of_limits finding = []

abbrev pub limit_differences : FrameKind → Findings → List Finding
limit_differences = on_channel of_limits

-- `access-limits` of strings and DOMAINs
abbrev pub of_rooms : Option Finding → List Finding
of_rooms (Some (Value (BeyondRoom key came room))) = Value (BeyondRoom key came room) ∷ []
of_rooms finding = []

abbrev pub room_differences : FrameKind → Findings → List Finding
room_differences = on_channel of_rooms

-- ---- uploads

-- `value-length`
abbrev pub of_lengths : Option Finding → List Finding
of_lengths (Some (Value (ValueLength key came width))) = Value (ValueLength key came width) ∷ []
of_lengths finding = []

abbrev pub length_differences : FrameKind → Findings → List Finding
length_differences = on_channel of_lengths

-- `value-const`, of numbers and of texts
abbrev pub of_constants : Option Finding → List Finding
of_constants (Some (Value (ValueConst key shown held))) = Value (ValueConst key shown held) ∷ []
of_constants (Some (Value (ConstText key))) = Value (ConstText key) ∷ []
of_constants finding = []

abbrev pub constant_differences : FrameKind → Findings → List Finding
constant_differences = on_channel of_constants

-- ---- refusals

-- `access-read`, of an entry that is readable
abbrev pub of_refusals : Option Finding → List Finding
of_refusals (Some (Value (ReadRefused key code))) = Value (ReadRefused key code) ∷ []
of_refusals finding = []

abbrev pub refusal_differences : FrameKind → Findings → List Finding
refusal_differences = on_channel of_refusals

-- and of one that is write only
abbrev pub of_served : Option Finding → List Finding
of_served (Some (Value (ReadServed key))) = Value (ReadServed key) ∷ []
of_served finding = []

abbrev pub served_differences : FrameKind → Findings → List Finding
served_differences = on_channel of_served

-- both
abbrev pub of_reads : Option Finding → List Finding
of_reads finding = of_refusals finding ++ of_served finding

abbrev pub read_differences : FrameKind → Findings → List Finding
read_differences = on_channel of_reads
