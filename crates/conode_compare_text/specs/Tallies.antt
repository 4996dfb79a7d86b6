-- How many frames of the device have which verdict.
use Rattle.std.specs.Prelude.{ℕ, ◌+◌, ◌-◌, ◌^◌, ◌==◌, if◌then◌else◌, min, List, [], ◌∷◌, ◌++◌, codes, decimal, Option, Some, None}
use Rattle.conode_text.specs.Filled.{filled}
use Rattle.conode_compare_rules.specs.declared.kind.FrameKind.{FrameKind}
use Rattle.conode_compare_rules.specs.declared.kind.FrameKind.TheVariants.{Control, OddControl, Emergency, OddEmergency, Sdo, Process}
use Rattle.conode_compare_rules.specs.declared.verdict.Verdict.{Verdict}
use Rattle.conode_compare_rules.specs.declared.verdict.Verdict.TheVariants.{Prescribed, Different}
use Rattle.conode_compare_rules.specs.declared.verdict.Verdict.TheVariants as verdict
use Rattle.conode_compare_text.specs.declared.tally.Tally.{Tally}
use Rattle.conode_compare_text.specs.declared.tally.Unjudged.{Unjudged}

abbrev pub none_unjudged : Unjudged
none_unjudged = record { heartbeats = 0; emergencies = 0; answers = 0; tpdos = 0 }

abbrev pub no_frames : Tally
no_frames = record { prescribed = 0; different = 0; unjudged = 0; services = none_unjudged }

-- one more, up to 2^64 - 1
abbrev pub one_more : ℕ → ℕ
one_more count = min (count + 1) (2 ^ 64 - 1)

-- one more that is unjudged, by what it is: error control, EMCY, an answer of the default SDO channel, a TPDO. No other frame
-- has a verdict, nor is a client's frame of that channel unjudged.
abbrev pub unjudged_with : Unjudged → FrameKind → Unjudged
unjudged_with services (Control byte) = record services { heartbeats = one_more services.heartbeats }
unjudged_with services (OddControl length) = record services { heartbeats = one_more services.heartbeats }
unjudged_with services (Emergency code register) = record services { emergencies = one_more services.emergencies }
unjudged_with services (OddEmergency length) = record services { emergencies = one_more services.emergencies }
unjudged_with services (Sdo side frame) = record services { answers = one_more services.answers }
unjudged_with services (Process id length) = record services { tpdos = one_more services.tpdos }
unjudged_with services kind = services

abbrev pub with_verdict : Tally → FrameKind → Verdict → Tally
with_verdict tally kind Prescribed = record tally { prescribed = one_more tally.prescribed }
with_verdict tally kind Different = record tally { different = one_more tally.different }
with_verdict tally kind verdict.Unjudged = record tally { unjudged = one_more tally.unjudged; services = unjudged_with tally.services kind }

-- only a frame of the device has a verdict
abbrev pub tally_with : Tally → FrameKind → Option Verdict → Tally
tally_with tally kind None = tally
tally_with tally kind (Some verdict) = with_verdict tally kind verdict

-- how many there are, in words
abbrev pub tally_words : ℕ → List ℕ
tally_words prescribed =
    if prescribed == 1 then codes "node %: % frame as prescribed, % with a difference, % unjudged"
    else codes "node %: % frames as prescribed, % with a difference, % unjudged"

unfoldable pub tally_text : ℕ → Tally → List ℕ
tally_text node tally =
    filled (tally_words tally.prescribed)
    (decimal node ∷ decimal tally.prescribed ∷ decimal tally.different ∷ decimal tally.unjudged ∷ [])

-- the line that ends a comparison
unfoldable pub summary : ℕ → Tally → List ℕ
summary node tally = tally_text node tally ++ 10 ∷ []

-- the line before it, where frames are unjudged: of which services they are
unfoldable pub unjudged_line : Unjudged → List ℕ
unjudged_line services =
    filled (codes "unjudged: heartbeats %, EMCY %, SDO answers %, TPDOs %\n")
    (decimal services.heartbeats ∷ decimal services.emergencies ∷ decimal services.answers ∷ decimal services.tpdos ∷ [])
