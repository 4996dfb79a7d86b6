-- The node and the service of a frame, by its identifier: the pre-defined connection set (CiA 301,
-- 7.3.3).
use Rattle.std.specs.Prelude.{ℕ, ◌-◌, ◌%◌, ◌==◌, List, [], ◌∷◌, find, Option, option_map}
use Rattle.conode_decode.specs.declared.service.Service.{Service}
use Rattle.conode_decode.specs.declared.service.Service.TheVariants.{Emergency, Tpdo, Rpdo, SdoAnswer, SdoRequest, ErrorControl}

-- the node-ID: the lower seven bits
abbrev pub node_of : ℕ → ℕ
node_of id = id % 128

-- the identifier without its node-ID
abbrev pub base_of : ℕ → ℕ
base_of id = id - id % 128

-- the services that have an identifier for each node
abbrev pub services : List (ℕ × Service)
services =
    (0x080, Emergency) ∷ (0x180, Tpdo 1) ∷ (0x200, Rpdo 1) ∷ (0x280, Tpdo 2) ∷ (0x300, Rpdo 2) ∷ (0x380, Tpdo 3)
    ∷ (0x400, Rpdo 3) ∷ (0x480, Tpdo 4) ∷ (0x500, Rpdo 4) ∷ (0x580, SdoAnswer) ∷ (0x600, SdoRequest)
    ∷ (0x700, ErrorControl) ∷ []

-- the service of an identifier without its node-ID
abbrev pub service_at : ℕ → Option Service
service_at base = option_map (λ row. row.1) (find (λ row. row.0 == base) services)
