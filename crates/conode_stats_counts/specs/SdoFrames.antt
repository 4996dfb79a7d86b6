-- SDO frames on the default channel of a node (CiA 301, 7.2.4.3), by the pre-defined connection set.
use Rattle.std.specs.Prelude.{ℕ, ◌==◌, if◌then◌else◌, List, [], ◌∷◌}
use Rattle.conode_stats_counts.specs.declared.sdo_frame.SdoFrame.TheVariants.{Request, Abort, Response}
use Rattle.conode_stats_counts.specs.declared.sign.Sign.{Sign}
use Rattle.conode_stats_counts.specs.declared.sign.Sign.TheVariants.{Exchanges, Other}

-- a frame of the client: an abort, cs = 4, or a request
abbrev pub request_in : ℕ → List ℕ → Sign
request_in node (command ∷ b ∷ c ∷ d ∷ e ∷ f ∷ g ∷ h ∷ []) =
    if command == 0x80 then Exchanges node Abort else Exchanges node Request
request_in node _ = Other

-- a frame of the server
abbrev pub response_in : ℕ → List ℕ → Sign
response_in node (command ∷ b ∷ c ∷ d ∷ e ∷ f ∷ g ∷ h ∷ []) = Exchanges node Response
response_in node _ = Other
