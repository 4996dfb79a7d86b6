-- The device of the worked chain, its inputs and its frames.
use Rattle.std.specs.Prelude.{ℕ, List, [], ◌∷◌, None, false, pos}
use Rattle.co_value.specs.declared.data_type.DataType.{DataType}
use Rattle.co_value.specs.declared.data_type.DataType.TheVariants.{Unsigned8, Unsigned16, Unsigned32}
use Rattle.co_node.specs.FrameContent.{FrameContent}
use Rattle.co_profile.specs.declared.access.Access.{Access}
use Rattle.co_profile.specs.declared.access.Access.TheVariants.{Ro, Rw}
use Rattle.co_sheet.specs.Content.{Row}
use Rattle.co_sheet.specs.Limits.{Default, absent, number}
use Rattle.co_node.specs.BuiltDictionaries.{Plan}
use Rattle.co_node.specs.Inputs.{Framed, Inputs}
use Rattle.co_node.specs.Moments.{Constants}
use Rattle.co_node.specs.Nodes.{built_constants}

-- an entry, with the line of the sheet at which its section begins
abbrev row : ℕ → ℕ → DataType → Access → Default → ℕ → Row
row index sub t access default line = record {
  key = record { index = index; sub = sub };
  data_type = t;
  access = access;
  low = None;
  high = None;
  default = default;
  mappable = false;
  name = None;
  line = line;
}

-- the plan by the sheet, node-ID 5 and the limits
abbrev pub plan : Plan
plan = record {
  node = 5;
  limits = record { strings = 16; domains = 889; own = [] };
  rows = row 0x1000 0 Unsigned32 Ro (number (pos 0x191)) 6
      ∷ row 0x1001 0 Unsigned8 Ro absent 10
      ∷ row 0x1017 0 Unsigned16 Rw (number (pos 2)) 25
      ∷ row 0x1018 0 Unsigned8 Ro (number (pos 1)) 15
      ∷ row 0x1018 1 Unsigned32 Ro absent 19
      ∷ [];
  dummies = false ∷ false ∷ false ∷ false ∷ false ∷ false ∷ [];
}

-- what never changes of the device, with an SDO timeout of 1000 ms
unfoldable pub constants : Constants
constants = built_constants plan 1000

-- NMT service start remote node (CiA 301, 7.2.8.3.1)
abbrev pub start : FrameContent
start = record { id = 0; bytes = 1 ∷ 5 ∷ [] }

-- the request that initiates the upload of 1000:00 (CiA 301, 7.2.4.3.6)
abbrev pub request : FrameContent
request = record { id = 0x605; bytes = 0x40 ∷ 0 ∷ 0x10 ∷ 0 ∷ 0 ∷ 0 ∷ 0 ∷ 0 ∷ [] }

-- both, newest first
abbrev pub asked : Inputs
asked = Framed request ∷ Framed start ∷ []

-- its response: expedited, four bytes
abbrev pub responses : List FrameContent
responses = record { id = 0x585; bytes = 0x43 ∷ 0 ∷ 0x10 ∷ 0 ∷ 0x91 ∷ 1 ∷ 0 ∷ 0 ∷ [] } ∷ []

-- the heartbeat in operational
abbrev pub heartbeats : List FrameContent
heartbeats = record { id = 0x705; bytes = 5 ∷ [] } ∷ []
