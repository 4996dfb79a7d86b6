-- No heartbeat of a device is late by the facts of the data sheet that it is built of: 1017:00 is constant there, and isn't written; or
-- nothing is known of it before a boot-up.
use Rattle.std.proofs.Common.{◌≡◌, ℕ, ◌+◌, Bool, true, false, List, [], None, refl}
use Rattle.std.specs.List.{All}
use Rattle.co_profile.specs.Keys.{producer_key}
use Rattle.co_dict.specs.Rows.{number_at}
use Rattle.co_dict_build.specs.Built.{Plan}
use Rattle.co_node.specs.Built.{IsBuilt}
use Rattle.co_node_model.specs.Moments.{Constants}
use Rattle.co_sheet.specs.Content.{Row}
use Rattle.co_sheet.specs.SheetLaws.{IsSheetRow}
use Rattle.conode_compare_nmt.specs.declared.limits.Subject.{Subject}
use Rattle.conode_compare_nmt.specs.EntriesInForce.{facts_of, is_constant, with_master}
use Rattle.conode_compare_laws.specs.AnswerSenders.{HaveBytes}
use Rattle.conode_compare_laws.specs.Differences.{differences_in, late_differences}
use Rattle.conode_compare_laws.specs.Identifiers.{AreElsewhere}
use Rattle.conode_compare_laws.specs.Periods.{AllKeepPeriod, AllWriteSeen, KnowsPeriod}
use Rattle.conode_compare_laws.specs.Recordings.{AreTimed, Stamped, recording}

-- the recording has none where its stamps and its frames are such
abbrev NoneLate : Constants → Subject → List Row → List Stamped → Type 0
NoneLate k subject rows inputs =
    AreTimed inputs → HaveBytes inputs → AreElsewhere (0x700 + k.description.node) inputs → AreElsewhere (0x580 + k.description.node) inputs → differences_in late_differences subject rows (recording k inputs) ≡ []

abbrev OfConstant : Type 0
OfConstant =
    (plan : Plan) (k : Constants) (subject : Subject) (rows : List Row) (period : ℕ) (inputs : List Stamped) → IsBuilt plan k → All IsSheetRow plan.rows → subject.node ≡ k.description.node → number_at k.start producer_key ≡ period
    → AllKeepPeriod period k [] inputs → KnowsPeriod period subject → NoneLate k subject rows inputs

abbrev OfWritten : Type 0
OfWritten =
    (plan : Plan) (k : Constants) (subject : Subject) (rows : List Row) (inputs : List Stamped) → IsBuilt plan k → All IsSheetRow plan.rows → subject.node ≡ k.description.node → AllWriteSeen subject.facts.clients producer_key k [] inputs
    → KnowsPeriod (number_at k.start producer_key) subject → subject.facts.before.period ≡ None → NoneLate k subject rows inputs

abbrev Keeps : Type 0
Keeps = (plan : Plan) (k : Constants) (inputs : List Stamped) → IsBuilt plan k → is_constant plan.rows producer_key ≡ true → AllKeepPeriod (number_at k.start producer_key) k [] inputs

abbrev Knows : Type 0
Knows = (plan : Plan) (k : Constants) (subject : Subject) (configured : Bool) (master : Bool) → IsBuilt plan k → All IsSheetRow plan.rows → subject.facts ≡ with_master master (facts_of plan.rows plan.node configured) → KnowsPeriod (number_at k.start producer_key) subject

abbrev Unknown : Type 0
Unknown = (plan : Plan) (subject : Subject) (configured : Bool) (master : Bool) → subject.facts ≡ with_master master (facts_of plan.rows plan.node configured) → is_constant plan.rows producer_key ≡ false → subject.facts.before.period ≡ None

pub by_sheet : OfConstant → OfWritten → Keeps → Knows → Unknown → (plan : Plan) (k : Constants) (subject : Subject) (rows : List Row) (configured : Bool) (master : Bool) (inputs : List Stamped) → IsBuilt plan k → All IsSheetRow plan.rows → subject.node ≡ k.description.node
    → subject.facts ≡ with_master master (facts_of plan.rows plan.node configured) → AllWriteSeen subject.facts.clients producer_key k [] inputs → NoneLate k subject rows inputs
by_sheet constant written keeps knows unknown plan k subject rows configured master inputs built lawful is facts by = at (is_constant plan.rows producer_key) refl
  where
    at : (b : Bool) → is_constant plan.rows producer_key ≡ b → NoneLate k subject rows inputs
    at true on = constant plan k subject rows (number_at k.start producer_key) inputs built lawful is refl (keeps plan k inputs built on) (knows plan k subject configured master built lawful facts)
    at false off = written plan k subject rows inputs built lawful is by (knows plan k subject configured master built lawful facts) (unknown plan subject configured master facts off)
