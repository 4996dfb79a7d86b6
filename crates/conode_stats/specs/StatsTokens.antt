-- The statistics as one JSON document (RFC 8259). Times are in microseconds.
use Rattle.std.specs.Prelude.{ℕ, List, [], ◌∷◌, ◌++◌, codes, pos, Option, Some, None}
use Rattle.std.specs.List.{flat_map}
use Rattle.json.specs.Token.{Token, begin_object, end_object}
use Rattle.conode_json.specs.Members.{number_member, text_member}
use Rattle.conode_stats_counts.specs.declared.load.Load.{Load}
use Rattle.conode_stats_counts.specs.declared.row.Row.{Row}
use Rattle.conode_stats_counts.specs.declared.tally.Tally.{Tally}
use Rattle.conode_stats_text.specs.Figures.{gap_of}
use Rattle.conode_stats_text.specs.StatsLines.{id_text}

abbrev pub number_of : List ℕ → ℕ → List Token
number_of name number = number_member name (pos number)

-- a number, if there is one
abbrev pub number_in : List ℕ → Option ℕ → List Token
number_in name None = []
number_in name (Some number) = number_of name number

-- members one after another
abbrev pub joined : List (List Token) → List Token
joined members = flat_map (λ tokens. tokens) members

unfoldable pub tally_members : Tally → List Token
tally_members tally =
    joined (number_of (codes "frames") tally.frames ∷ number_of (codes "first") tally.first
    ∷ number_of (codes "last") tally.last ∷ number_of (codes "stepsBack") tally.steps_back
    ∷ number_of (codes "gaps") tally.gaps ∷ number_of (codes "sumOfGaps") tally.total
    ∷ number_in (codes "smallestGap") (gap_of tally tally.smallest)
    ∷ number_in (codes "greatestGap") (gap_of tally tally.greatest) ∷ [])

-- the beginning of an object: a text, and further members
abbrev pub object_of : List ℕ → List ℕ → List Token → List Token
object_of name text members = (begin_object ∷ []) ++ text_member name text ++ members

-- an identifier
unfoldable pub row_tokens : Row → List Token
row_tokens row =
    object_of (codes "id") (id_text row.can_id) (tally_members row.tally) ++ end_object ∷ []

-- the bits of frames, and of the busiest second
unfoldable pub load_members : Load → List Token
load_members load =
    joined (number_of (codes "bits") load.bits ∷ number_of (codes "worstCaseBits") load.most
    ∷ number_of (codes "framesWithoutBits") load.unknown
    ∷ number_of (codes "busiestSecond") load.busiest.second ∷ number_of (codes "busiestSecondBits") load.busiest.bits
    ∷ number_of (codes "busiestSecondWorstCaseBits") load.busiest.most ∷ [])
