-- A TPDO of type n = 2 to 240 of a device comes after as many SYNCs that compare has counted, or compare has begun to count anew.
use Rattle.std.proofs.Common.{◌≡◌, ℕ, ◌+◌, ◌<◌, ◌≤◌, Bool, true, false, List, [], ◌∷◌, ◌++◌, length, map, Option, Some, None, refl, ap, sym, ◌∙◌, subst, arith, inl, inr}
use Rattle.std.specs.Prelude.{if◌then◌else◌, ◌==◌, ◌&&◌, ◌||◌, nat_le, nat_lt, is_some, option_map, IfSome}
use Rattle.std.proofs.lemmas.Bool.{or_parts}
use Rattle.std.proofs.lemmas.Bool.Decides.{nat_tests}
use Rattle.co_frame.specs.FrameContent.{FrameContent}
use Rattle.co_sheet.specs.Content.{Row}
use Rattle.co_pdo.specs.declared.tpdo.Occasion.{Occasion}
use Rattle.co_pdo.specs.Schedules.{History as Schedule, is_among, is_tpdo_due}
use Rattle.co_node_model.specs.declared.turn.Turn.{Turn}
use Rattle.co_node_model.specs.Device.{moment, moments, prescribed}
use Rattle.co_node_model.specs.Inputs.{Inputs, InputView}
use Rattle.co_node_model.specs.Moments.{Constants, Moment}
use Rattle.co_node_model.specs.Nmt.{is_reset}
use Rattle.co_node_model.specs.Tpdos.{schedule_log, tpdo_frame, turn_at}
use Rattle.conode_compare_pdos.specs.declared.cycle.Cycle.{Cycle}
use Rattle.conode_compare_pdos.specs.declared.deviation.Deviation.{Deviation}
use Rattle.conode_compare_pdos.specs.declared.deviation.Deviation.TheVariants.{FewSyncs, Inhibit, Length, NotOperational, Timer, WithoutSync}
use Rattle.conode_compare_pdos.specs.declared.deviation.Moment.{Moment as Judged}
use Rattle.conode_compare_pdos.specs.declared.pdos.Pdos.{Pdos}
use Rattle.conode_compare_pdos.specs.declared.tpdo.Tpdo.{Tpdo}
use Rattle.conode_compare_pdos.specs.Cycles.{cycle_synced, is_cyclic, is_early, most_counted, new_cycle, syncs_since}
use Rattle.conode_compare_pdos.specs.Deviations.{cycle_deviation, deviation_at, few_syncs_of, is_apart, is_certain}
use Rattle.conode_compare_pdos.specs.Followed.{framed, synced}
use Rattle.conode_compare_pdos.specs.Tpdos.{after_frame as after_tpdo, after_sync, anew, is_id}
use Rattle.conode_compare_nmt.specs.declared.limits.Subject.{Subject}
use Rattle.conode_compare_rules.specs.declared.progress.Progress.{Progress}
use Rattle.conode_compare_rules.specs.FrameKinds.{length_of}
use Rattle.conode_compare_rules.specs.Processes.{moment_at}
use Rattle.conode_compare_laws.specs.Differences.{differences_in}
use Rattle.conode_compare_laws.specs.Identifiers.{AllSendAside, AreElsewhere}
use Rattle.conode_compare_laws.specs.NamedTpdos.{AreNoSdoSyncs, NameNoTpdos, NamesNoTpdo}
use Rattle.conode_compare_laws.specs.Recordings.{Stamped, frame_of, recording}
use Rattle.conode_compare_laws.specs.TpdoDifferences.{is_pdo_sync, tpdo_differences}
use Rattle.conode_compare_laws.specs.TpdoFrames.{AllSendBesideTpdos, AreNoTpdos, is_followed}
use Rattle.conode_compare_laws.specs.TpdoParameters.{AllKeepTpdos, AreTpdosOf, IsTpdoOf, KeepsTpdos}
use Rattle.conode_compare_laws.proofs.Heard.{of_device}
use Rattle.conode_compare_laws.proofs.NamedKeys.{first_of, last_of}
use Rattle.conode_compare_laws.proofs.Runs.{AllRun, joined}
use Rattle.conode_compare_laws.proofs.TpdoCounts.{Counts, kind_of, most_of, next_counts, reset_none, waiting, waiting_less}
use Rattle.conode_compare_laws.proofs.TpdoDue.{IsAt, due_all, due_distinct}
use Rattle.conode_compare_laws.proofs.TpdoInputs.{all_clear, names_later, of_device_too, of_recording}
use Rattle.conode_compare_laws.proofs.TpdoKinds.{deviation_none, length_none, state_none, sync_none, untimed}
use Rattle.conode_compare_laws.proofs.TpdoKindParts.{neither}
use Rattle.conode_compare_laws.proofs.TpdoNames.{AllNameNone}
use Rattle.conode_compare_laws.proofs.TpdoOthers.{Holds, IsKept, IsOf, Knows, is_of, knows_commanded, knows_framed, knows_interrupted, knows_sheet, knows_unknown, other_id}
use Rattle.conode_compare_laws.proofs.TpdoParts.{Step, Walk, Walked, besides, besides_run, tpdo_ids, walks, weaken}
use Rattle.conode_compare_laws.proofs.TpdoSyncFrames.{IsMet, Syncs, all_met, came_either, syncs_later}
use Rattle.conode_compare_laws.proofs.TpdoSyncs.{AreSynced, IsSynced, all_synced, among_first, is_without_sync, no_without_sync, unsent}
use Rattle.conode_compare_laws.proofs.TpdoTurns.{is_sync_turn}

-- ---- the difference

abbrev pub is_few_syncs : Deviation → Bool
is_few_syncs (FewSyncs syncs n) = true
is_few_syncs other = false

-- ---- what compare has counted

-- so many SYNCs came since the one that the newest frame answered, if they are counted
abbrev AtLeast : ℕ → Option Cycle → Type 0
AtLeast least cycle = IfSome cycle (λ c. least ≤ syncs_since c)

none_least : (a : ℕ) → 0 ≤ a
none_least a = omega arith

same_least : (a : ℕ) → a ≤ a
same_least a = omega arith

trans_least : (a b c : ℕ) → a ≤ b → b ≤ c → a ≤ c
trans_least a b c p q = omega arith

capped : (after spare : ℕ) → after ≤ 480 → after ≤ spare + 480
capped after spare few = omega arith

none_above : (a : ℕ) → a + 0 ≤ a + 1
none_above a = omega arith

no_more : (a b : ℕ) → a ≤ b + 0 → a ≤ b
no_more a b h = omega arith

one_above : (a : ℕ) → a ≤ a + 1
one_above a = omega arith

one_later : (before after spare syncs : ℕ) → after ≤ before + 1 → before ≤ spare + syncs → after ≤ spare + (syncs + 1)
one_later before after spare syncs more h = omega arith

at_least_none : (cycle : Option Cycle) → AtLeast 0 cycle
at_least_none None = tt
at_least_none (Some c) = none_least (syncs_since c)

at_least_less : (less least : ℕ) (cycle : Option Cycle) → less ≤ least → AtLeast least cycle → AtLeast less cycle
at_least_less less least None fewer h = tt
at_least_less less least (Some c) fewer h = trans_least less least (syncs_since c) fewer h

at_least_anew : (least : ℕ) (cycle : Option Cycle) → least ≤ most_counted → AtLeast least (anew cycle)
at_least_anew least None few = tt
at_least_anew least (Some c) few = few

at_least_synced : (before after length : ℕ) (cycle : Option Cycle) → after ≤ before + 1 → after ≤ most_counted → AtLeast before cycle → AtLeast after (option_map (cycle_synced length) cycle)
at_least_synced before after length None more few h = tt
at_least_synced before after length (Some c) more few h = by (length == 0) (nat_le most_counted c.syncs)
  where
    by : (a b : Bool) → after ≤ syncs_since (if a then record c { syncs = if b then most_counted else c.syncs + 1 } else new_cycle)
    by true true = capped after c.spare few
    by true false = one_later before after c.spare c.syncs more h
    by false b = few

-- of a TPDO of type n, where n is 2 to 240 and the identifier of SYNC is known
abbrev HasCounted : ℕ → ℕ → Option ℕ → Tpdo → Type 0
HasCounted n least sync pdo = is_some sync ≡ true → is_cyclic n ≡ true → AtLeast least pdo.cycle

record HaveCounted (facts : Pdos) (k : Constants) (least : ℕ → ℕ) (pdos : Pdos) : Type 0 where
  knows : Knows facts pdos
  first : HasCounted (kind_of k 0) (least 0) pdos.sync pdos.first
  second : HasCounted (kind_of k 1) (least 1) pdos.sync pdos.second
  third : HasCounted (kind_of k 2) (least 2) pdos.sync pdos.third
  fourth : HasCounted (kind_of k 3) (least 3) pdos.sync pdos.fourth

-- as few as are counted at most
abbrev AreFew : Constants → (ℕ → ℕ) → Type 0
AreFew k least = (number : ℕ) → is_cyclic (kind_of k number) ≡ true → least number ≤ most_counted

-- ---- other frames

still_counted : (n least : ℕ) (sync : Option ℕ) (moment : Judged) (id length : ℕ) (pdo : Tpdo) → is_id pdo.parameters.id id ≡ false → HasCounted n least sync pdo → HasCounted n least sync (after_tpdo moment id length pdo)
still_counted n least sync moment id length pdo off h = subst (HasCounted n least sync) (sym (unsent moment id length pdo off)) h

synced_counted : (n before after length : ℕ) (sync : Option ℕ) (pdo : Tpdo) → (is_cyclic n ≡ true → after ≤ before + 1) → (is_cyclic n ≡ true → after ≤ most_counted) → HasCounted n before sync pdo → HasCounted n after sync (after_sync length pdo)
synced_counted n before after length sync pdo more few h = λ has cyclic. at_least_synced before after length pdo.cycle (more cyclic) (few cyclic) (h has cyclic)

knows_synced : (facts pdos : Pdos) (length : ℕ) → Knows facts pdos → Knows facts (synced pdos length)
knows_synced facts pdos length h = record { sync = h.sync; first = h.first; second = h.second; third = h.third; fourth = h.fourth }

-- at a SYNC: one more each
all_synced_counted : (facts : Pdos) (k : Constants) (before after : ℕ → ℕ) (pdos : Pdos) (length : ℕ) → ((number : ℕ) → number < 512 → is_cyclic (kind_of k number) ≡ true → after number ≤ before number + 1) → AreFew k after
    → HaveCounted facts k before pdos → HaveCounted facts k after (synced pdos length)
all_synced_counted facts k before after pdos length more few h = record {
  knows = knows_synced facts pdos length h.knows;
  first = synced_counted (kind_of k 0) (before 0) (after 0) length pdos.sync pdos.first (more 0 (omega arith)) (few 0) h.first;
  second = synced_counted (kind_of k 1) (before 1) (after 1) length pdos.sync pdos.second (more 1 (omega arith)) (few 1) h.second;
  third = synced_counted (kind_of k 2) (before 2) (after 2) length pdos.sync pdos.third (more 2 (omega arith)) (few 2) h.third;
  fourth = synced_counted (kind_of k 3) (before 3) (after 3) length pdos.sync pdos.fourth (more 3 (omega arith)) (few 3) h.fourth;
}

-- less is asked
lower : (n before after : ℕ) (sync : Option ℕ) (pdo : Tpdo) → (is_cyclic n ≡ true → after ≤ before) → HasCounted n before sync pdo → HasCounted n after sync pdo
lower n before after sync pdo fewer h = λ has cyclic. at_least_less after before pdo.cycle (fewer cyclic) (h has cyclic)

all_lower : (facts : Pdos) (k : Constants) (before after : ℕ → ℕ) (pdos : Pdos) → ((number : ℕ) → number < 512 → is_cyclic (kind_of k number) ≡ true → after number ≤ before number) → HaveCounted facts k before pdos → HaveCounted facts k after pdos
all_lower facts k before after pdos fewer h = record {
  knows = h.knows;
  first = lower (kind_of k 0) (before 0) (after 0) pdos.sync pdos.first (fewer 0 (omega arith)) h.first;
  second = lower (kind_of k 1) (before 1) (after 1) pdos.sync pdos.second (fewer 1 (omega arith)) h.second;
  third = lower (kind_of k 2) (before 2) (after 2) pdos.sync pdos.third (fewer 2 (omega arith)) h.third;
  fourth = lower (kind_of k 3) (before 3) (after 3) pdos.sync pdos.fourth (fewer 3 (omega arith)) h.fourth;
}

-- a SYNC, or a frame after which each of the four is as it should be
framed_counted : (facts : Pdos) (k : Constants) (least : ℕ → ℕ) (pdos : Pdos) (moment : Judged) (id length : ℕ) → Knows facts pdos → HaveCounted facts k least (synced pdos length) → HasCounted (kind_of k 0) (least 0) pdos.sync (after_tpdo moment id length pdos.first)
    → HasCounted (kind_of k 1) (least 1) pdos.sync (after_tpdo moment id length pdos.second) → HasCounted (kind_of k 2) (least 2) pdos.sync (after_tpdo moment id length pdos.third) → HasCounted (kind_of k 3) (least 3) pdos.sync (after_tpdo moment id length pdos.fourth)
    → HaveCounted facts k least (framed pdos moment id length)
unfolding framed
framed_counted facts k least pdos moment id length knows after_syncs a b c d = by (is_id pdos.sync id) (knows_framed facts pdos moment id length knows)
  where
    after_frames : Pdos
    after_frames = record pdos { first = after_tpdo moment id length pdos.first; second = after_tpdo moment id length pdos.second; third = after_tpdo moment id length pdos.third; fourth = after_tpdo moment id length pdos.fourth }

    by : (here : Bool) → Knows facts (if here then synced pdos length else after_frames) → HaveCounted facts k least (if here then synced pdos length else after_frames)
    by true known = after_syncs
    by false known = record { knows = known; first = a; second = b; third = c; fourth = d }

by_sync : (facts : Pdos) (k : Constants) (least : ℕ → ℕ) (pdos : Pdos) (length : ℕ) → AreFew k least → HaveCounted facts k least pdos → HaveCounted facts k least (synced pdos length)
by_sync facts k least pdos length few h = all_synced_counted facts k least least pdos length (λ number less cyclic. one_above (least number)) few h

other_counted : (facts : Pdos) (k : Constants) (least : ℕ → ℕ) (pdos : Pdos) (moment : Judged) (id length : ℕ) → AreFew k least → is_followed facts id ≡ false → HaveCounted facts k least pdos → HaveCounted facts k least (framed pdos moment id length)
other_counted facts k least pdos moment id length few off h =
    let a = or_parts (is_id facts.first.parameters.id id) _ off in
    let b = or_parts (is_id facts.second.parameters.id id) _ a.1 in
    let c = or_parts (is_id facts.third.parameters.id id) _ b.1 in
    framed_counted facts k least pdos moment id length h.knows (by_sync facts k least pdos length few h)
    (still_counted (kind_of k 0) (least 0) pdos.sync moment id length pdos.first (other_id facts.first pdos.first id h.knows.first a.0) h.first)
    (still_counted (kind_of k 1) (least 1) pdos.sync moment id length pdos.second (other_id facts.second pdos.second id h.knows.second b.0) h.second)
    (still_counted (kind_of k 2) (least 2) pdos.sync moment id length pdos.third (other_id facts.third pdos.third id h.knows.third c.0) h.third)
    (still_counted (kind_of k 3) (least 3) pdos.sync moment id length pdos.fourth (other_id facts.fourth pdos.fourth id h.knows.fourth c.1) h.fourth)

counted_kept : (facts : Pdos) (k : Constants) (least : ℕ → ℕ) → AreFew k least → IsKept facts (HaveCounted facts k least)
counted_kept facts k least few = record {
  knows = λ pdos h. h.knows;
  unknown = record { knows = knows_unknown facts; first = λ has cyclic. tt; second = λ has cyclic. tt; third = λ has cyclic. tt; fourth = λ has cyclic. tt };
  command = λ pdos h. record {
    knows = knows_commanded facts pdos h.knows;
    first = λ has cyclic. at_least_anew (least 0) pdos.first.cycle (few 0 cyclic);
    second = λ has cyclic. at_least_anew (least 1) pdos.second.cycle (few 1 cyclic);
    third = λ has cyclic. at_least_anew (least 2) pdos.third.cycle (few 2 cyclic);
    fourth = λ has cyclic. at_least_anew (least 3) pdos.fourth.cycle (few 3 cyclic);
  };
  gap = λ pdos h. record {
    knows = knows_interrupted facts pdos h.knows;
    first = λ has cyclic. at_least_anew (least 0) pdos.first.cycle (few 0 cyclic);
    second = λ has cyclic. at_least_anew (least 1) pdos.second.cycle (few 1 cyclic);
    third = λ has cyclic. at_least_anew (least 2) pdos.third.cycle (few 2 cyclic);
    fourth = λ has cyclic. at_least_anew (least 3) pdos.fourth.cycle (few 3 cyclic);
  };
  other = λ pdos moment id length off h. other_counted facts k least pdos moment id length few off h;
}

-- where none was counted by the device there is nothing to it
none_counted : (facts : Pdos) (k : Constants) (least : ℕ → ℕ) (pdos : Pdos) → ((number : ℕ) → least number ≡ 0) → Knows facts pdos → HaveCounted facts k least pdos
none_counted facts k least pdos none knows = record {
  knows = knows;
  first = λ has cyclic. subst (λ l. AtLeast l pdos.first.cycle) (sym (none 0)) (at_least_none pdos.first.cycle);
  second = λ has cyclic. subst (λ l. AtLeast l pdos.second.cycle) (sym (none 1)) (at_least_none pdos.second.cycle);
  third = λ has cyclic. subst (λ l. AtLeast l pdos.third.cycle) (sym (none 2)) (at_least_none pdos.third.cycle);
  fourth = λ has cyclic. subst (λ l. AtLeast l pdos.fourth.cycle) (sym (none 3)) (at_least_none pdos.fourth.cycle);
}

-- nor where the identifier of SYNC isn't known
unknown_counted : (facts : Pdos) (k : Constants) (least : ℕ → ℕ) (pdos : Pdos) → pdos.sync ≡ None → Knows facts pdos → HaveCounted facts k least pdos
unknown_counted facts k least pdos none knows =
    let never : (is_some pdos.sync ≡ true) → ⊥ = λ on. absurd (let off : is_some pdos.sync ≡ false = ap is_some none in cc) in
    record {
      knows = knows;
      first = λ has cyclic. absurd (never has);
      second = λ has cyclic. absurd (never has);
      third = λ has cyclic. absurd (never has);
      fourth = λ has cyclic. absurd (never has);
    }

-- ---- the TPDOs of an input

-- before these are sent: n of each that is among them, and of the others as many as were counted since the last one, with this input
abbrev before_due : Constants → (ℕ → ℕ) → List ℕ → ℕ → ℕ
before_due k rest due number = if is_among number due then kind_of k number else rest number

-- as many as that at most
abbrev AreRests : Constants → (ℕ → ℕ) → Type 0
AreRests k rest = (number : ℕ) → is_cyclic (kind_of k number) ≡ true → rest number ≤ kind_of k number

under_most : (a : ℕ) → a ≤ 240 → a ≤ most_counted
under_most a less = omega arith

few_before : (k : Constants) (rest : ℕ → ℕ) (due : List ℕ) → AreRests k rest → AreFew k (before_due k rest due)
few_before k rest due rests number cyclic = by (is_among number due)
  where
    by : (b : Bool) → (if b then kind_of k number else rest number) ≤ most_counted
    by true = under_most (kind_of k number) (most_of (kind_of k number) cyclic)
    by false = under_most (rest number) (trans_least (rest number) (kind_of k number) 240 (rests number cyclic) (most_of (kind_of k number) cyclic))

-- one of them less
less_later : (k : Constants) (rest : ℕ → ℕ) (n : ℕ) (later : List ℕ) → AreRests k rest → (number : ℕ) → is_cyclic (kind_of k number) ≡ true → before_due k rest later number ≤ before_due k rest (n ∷ later) number
less_later k rest n later rests number cyclic = by (n == number) (is_among number later)
  where
    by : (a b : Bool) → (if b then kind_of k number else rest number) ≤ (if a || b then kind_of k number else rest number)
    by true true = same_least (kind_of k number)
    by true false = rests number cyclic
    by false true = same_least (kind_of k number)
    by false false = same_least (rest number)

-- a TPDO that is sent
record AreOwn (facts : Pdos) (turns : Bool) (k : Constants) (rest : ℕ → ℕ) (n id : ℕ) : Type 0 where
  known : AreSynced facts turns n id
  sent : is_cyclic (kind_of k n) ≡ true → rest n ≡ 0

not_early : (n since : ℕ) → n ≤ since → nat_lt since n ≡ false
not_early n since enough = grind (arith, nat_tests)

few_fine : (kind : ℕ) (known : Option ℕ) (cycle : Option Cycle) → IfSome known (λ n. kind ≡ n) → (is_cyclic kind ≡ true → AtLeast kind cycle) → is_of is_few_syncs (few_syncs_of known cycle) ≡ false
few_fine kind None cycle same h = refl
few_fine kind (Some n) None same h = refl
few_fine kind (Some n) (Some c) same h = by (is_cyclic n) (is_early n c) refl (λ cyclic. not_early n (syncs_since c) (subst (λ i. i ≤ syncs_since c) same (h (ap is_cyclic same ∙ cyclic))))
  where
    by : (a b : Bool) → is_cyclic n ≡ a → (is_cyclic n ≡ true → b ≡ false) → is_of is_few_syncs (if a && b then Some (FewSyncs c.syncs n) else None) ≡ false
    by true true cyclic early = absurd (let no : true ≡ false = early cyclic in cc)
    by true false cyclic early = refl
    by false b cyclic early = refl

cycle_fine : (kind : ℕ) (moment : Judged) (sync : Option ℕ) (pdo : Tpdo) → IfSome pdo.parameters.kind (λ n. kind ≡ n) → HasCounted kind kind sync pdo → is_of is_few_syncs (cycle_deviation moment (is_some sync) pdo) ≡ false
cycle_fine kind moment None pdo same h = refl
cycle_fine kind moment (Some id) pdo same h = by (is_certain moment pdo.changed && is_apart moment pdo.sent)
  where
    by : (b : Bool) → is_of is_few_syncs (if b then few_syncs_of pdo.parameters.kind pdo.cycle else None) ≡ false
    by true = few_fine kind pdo.parameters.kind pdo.cycle same (h refl)
    by false = refl

one_fine : (k : Constants) (rest : ℕ → ℕ) (moment : Judged) (turns : Bool) (sync : Option ℕ) (sheet pdo : Tpdo) (number n id length : ℕ) (later : List ℕ) → IsTpdoOf k number sheet → IsOf sheet pdo → IsSynced turns number sheet n id
    → HasCounted (kind_of k number) (before_due k rest (n ∷ later) number) sync pdo → is_id pdo.parameters.id id ≡ true → is_of is_few_syncs (deviation_at moment (is_some sync) pdo length) ≡ false
one_fine k rest moment turns sync sheet pdo number n id length later of (inl unknown) ok h on = absurd (let off : is_id pdo.parameters.id id ≡ false = ap (λ parameters. is_id parameters.id id) unknown in cc)
one_fine k rest moment turns sync sheet pdo number n id length later of (inr same) ok h on =
    let mine : n ≡ number = (ok (sym (ap (λ parameters. is_id parameters.id id) same) ∙ on)).0 in
    let all : before_due k rest (n ∷ later) number ≡ kind_of k number = ap (λ b. if b then kind_of k number else rest number) (among_first n number later mine) in
    deviation_none is_few_syncs moment (is_some sync) pdo length (state_none is_few_syncs moment refl) (length_none is_few_syncs pdo.parameters.length pdo.odd length (λ l m. refl)) (sync_none is_few_syncs (is_some sync) pdo refl)
    (cycle_fine (kind_of k number) moment sync pdo (subst (λ parameters. IfSome parameters.kind (λ kind. kind_of k number ≡ kind)) (sym same) of.kind) (subst (λ l. HasCounted (kind_of k number) l sync pdo) all h))
    (untimed is_few_syncs moment pdo (λ passed i. refl) (λ passed i. refl))

-- after it the count begins anew
sent_counted : (k : Constants) (rest : ℕ → ℕ) (moment : Judged) (turns : Bool) (sync : Option ℕ) (sheet pdo : Tpdo) (number n id length : ℕ) (later : List ℕ) → AreRests k rest → is_among n later ≡ false → IsOf sheet pdo → IsSynced turns number sheet n id
    → (is_cyclic (kind_of k n) ≡ true → rest n ≡ 0) → HasCounted (kind_of k number) (before_due k rest (n ∷ later) number) sync pdo → HasCounted (kind_of k number) (before_due k rest later number) sync (after_tpdo moment id length pdo)
sent_counted k rest moment turns sync sheet pdo number n id length later rests once of ok sent h = by (is_id pdo.parameters.id id) refl of
  where
    by : (b : Bool) → is_id pdo.parameters.id id ≡ b → IsOf sheet pdo → HasCounted (kind_of k number) (before_due k rest later number) sync (after_tpdo moment id length pdo)
    by false off known =
        still_counted (kind_of k number) (before_due k rest later number) sync moment id length pdo off
        (lower (kind_of k number) (before_due k rest (n ∷ later) number) (before_due k rest later number) sync pdo (less_later k rest n later rests number) h)
    by true on (inl unknown) = absurd (let off : is_id pdo.parameters.id id ≡ false = ap (λ parameters. is_id parameters.id id) unknown in cc)
    by true on (inr same) =
        let mine : n ≡ number = (ok (sym (ap (λ parameters. is_id parameters.id id) same) ∙ on)).0 in
        let apart : is_among number later ≡ false = subst (λ i. is_among i later ≡ false) mine once in
        let none : is_cyclic (kind_of k number) ≡ true → rest number ≡ 0 = subst (λ i. is_cyclic (kind_of k i) ≡ true → rest i ≡ 0) mine sent in
        λ has cyclic. subst (λ l. AtLeast l (after_tpdo moment id length pdo).cycle) (sym (ap (λ b. if b then kind_of k number else rest number) apart ∙ none cyclic)) (at_least_none (after_tpdo moment id length pdo).cycle)

count_step : (k : Constants) (rest : ℕ → ℕ) (subject : Subject) (turns : Bool) (p : Progress) (micros n id length : ℕ) (later : List ℕ) → AreTpdosOf k subject.facts.pdos → AreRests k rest → AreOwn subject.facts.pdos turns k rest n id
    → is_among n later ≡ false → HaveCounted subject.facts.pdos k (before_due k rest (n ∷ later)) p.pdos → Step is_few_syncs (HaveCounted subject.facts.pdos k (before_due k rest later)) subject p micros id length
count_step k rest subject turns p micros n id length later of rests ok once h =
    let facts : Pdos = subject.facts.pdos in
    let moment : Judged = moment_at subject p micros in
    let sync : Option ℕ = p.pdos.sync in
    let fewer : HaveCounted facts k (before_due k rest later) p.pdos = all_lower facts k (before_due k rest (n ∷ later)) (before_due k rest later) p.pdos (λ number less. less_later k rest n later rests number) h in
    record {
      fine = record {
        first = one_fine k rest moment turns sync facts.first p.pdos.first 0 n id length later of.first h.knows.first ok.known.first h.first;
        second = one_fine k rest moment turns sync facts.second p.pdos.second 1 n id length later of.second h.knows.second ok.known.second h.second;
        third = one_fine k rest moment turns sync facts.third p.pdos.third 2 n id length later of.third h.knows.third ok.known.third h.third;
        fourth = one_fine k rest moment turns sync facts.fourth p.pdos.fourth 3 n id length later of.fourth h.knows.fourth ok.known.fourth h.fourth;
      };
      kept = λ other. framed_counted facts k (before_due k rest later) p.pdos moment id length h.knows (by_sync facts k (before_due k rest later) p.pdos length (few_before k rest later rests) fewer)
          (sent_counted k rest moment turns sync facts.first p.pdos.first 0 n id length later rests once h.knows.first ok.known.first ok.sent h.first)
          (sent_counted k rest moment turns sync facts.second p.pdos.second 1 n id length later rests once h.knows.second ok.known.second ok.sent h.second)
          (sent_counted k rest moment turns sync facts.third p.pdos.third 2 n id length later rests once h.knows.third ok.known.third ok.sent h.third)
          (sent_counted k rest moment turns sync facts.fourth p.pdos.fourth 3 n id length later rests once h.knows.fourth ok.known.fourth ok.sent h.fourth);
      unseen = λ emergency. fewer;
    }

count_walk : (k : Constants) (rest : ℕ → ℕ) (subject : Subject) (micros : ℕ) (turns : Bool) (frame : ℕ → FrameContent) → AreTpdosOf k subject.facts.pdos → AreRests k rest
    → Walk is_few_syncs (λ n. AreOwn subject.facts.pdos turns k rest n (frame n).id) (λ due. HaveCounted subject.facts.pdos k (before_due k rest due)) (λ p. Unit {0}) subject micros frame
count_walk k rest subject micros turns frame of rests = record {
  kept = λ due. counted_kept subject.facts.pdos k (before_due k rest due) (few_before k rest due rests);
  begins = λ p h. tt;
  goes_on = λ p n id h. tt;
  step = λ n later p new ok once none h. count_step k rest subject turns p micros n (frame n).id (length_of (frame n)) later of rests ok once h;
}

-- ---- an input

-- as many as the device has counted before it
abbrev Between : Constants → Pdos → Inputs → Pdos → Type 0
Between k facts before = HaveCounted facts k (λ number. waiting k number before)

module _ (k : Constants) (facts : Pdos) (before : Inputs) (input : InputView) (keeps : KeepsTpdos k (moment k (moments k before) input)) where
  abbrev now : Moment
  now = moment k (moments k before) input

  abbrev turn_now : Turn
  turn_now = turn_at now (moments k before)

  abbrev rest_now : ℕ → ℕ
  rest_now number = waiting k number (input ∷ before)

  rests_now : AreRests k rest_now
  rests_now number cyclic = waiting_less k number (input ∷ before) cyclic

  -- at a SYNC one more, of which a TPDO that is due makes n
  one_counted : (number : ℕ) → number < 512 → is_cyclic (kind_of k number) ≡ true → before_due k rest_now now.due number ≤ waiting k number before + 1
  one_counted number less cyclic = by (is_among number now.due) refl
    where
      step : Counts (kind_of k number) number turn_now now.due (waiting k number before) (rest_now number)
      step = next_counts k number before input less cyclic keeps

      gained : (b : Bool) → rest_now number ≤ waiting k number before + (if b then 1 else 0) → rest_now number ≤ waiting k number before + 1
      gained true h = h
      gained false h = trans_least (rest_now number) (waiting k number before + 0) (waiting k number before + 1) h (none_above (waiting k number before))

      by : (b : Bool) → is_among number now.due ≡ b → (if b then kind_of k number else rest_now number) ≤ waiting k number before + 1
      by true is = (step.sent is).1
      by false off = gained (is_sync_turn turn_now) step.most

  sync_counts : Syncs facts (Between k facts before) (HaveCounted facts k (before_due k rest_now now.due))
  sync_counts = record {
    after = counted_kept facts k (before_due k rest_now now.due) (few_before k rest_now now.due rests_now);
    unknown = λ pdos none h. unknown_counted facts k (before_due k rest_now now.due) pdos none h.knows;
    comes = λ pdos length h. all_synced_counted facts k (λ number. waiting k number before) (before_due k rest_now now.due) pdos length one_counted (few_before k rest_now now.due rests_now) h;
  }

  -- else none of these is due
  none_more : is_sync_turn turn_now ≡ false → (number : ℕ) → number < 512 → is_cyclic (kind_of k number) ≡ true → before_due k rest_now now.due number ≤ waiting k number before
  none_more off number less cyclic = by (is_among number now.due) refl
    where
      step : Counts (kind_of k number) number turn_now now.due (waiting k number before) (rest_now number)
      step = next_counts k number before input less cyclic keeps

      by : (b : Bool) → is_among number now.due ≡ b → (if b then kind_of k number else rest_now number) ≤ waiting k number before
      by true is = absurd (let on : is_sync_turn turn_now ≡ true = (step.sent is).0 in cc)
      by false apart = no_more (rest_now number) (waiting k number before) (subst (λ b. rest_now number ≤ waiting k number before + (if b then 1 else 0)) off step.most)

  quiet_counts : is_sync_turn turn_now ≡ false → (pdos : Pdos) → Between k facts before pdos → HaveCounted facts k (before_due k rest_now now.due) pdos
  quiet_counts off pdos h = all_lower facts k (λ number. waiting k number before) (before_due k rest_now now.due) pdos (none_more off) h

  begins_counts : is_reset now.mark ≡ true → HaveCounted facts k (before_due k rest_now now.due) facts
  begins_counts reset = none_counted facts k (before_due k rest_now now.due) facts (λ number. reset_none k number before input reset) (knows_sheet facts)

  own : (schedule : Schedule) (o : Occasion) (n : ℕ) → AreTpdosOf k facts → n < 512 → IsAt now.contents turn_now o → is_tpdo_due now.contents schedule o n ≡ true → is_among n now.due ≡ true → AreOwn facts (is_sync_turn turn_now) k rest_now n (tpdo_frame k.description now.contents n).id
  own schedule o n of less at due among = record {
    known = all_synced k now facts turn_now schedule o n of keeps less at due;
    sent = λ cyclic. ((next_counts k n before input less cyclic keeps).sent among).2;
  }

input_runs : (k : Constants) (subject : Subject) (rows : List Row) (before : Inputs) (last : ℕ) (s : Stamped) (p : Progress) → AreTpdosOf k subject.facts.pdos → IsMet subject.facts.pdos k before s → Holds (Between k subject.facts.pdos before) p
    → AllRun (tpdo_differences is_few_syncs) (of_device k subject) rows s.micros p (frame_of s.input ++ prescribed k before s.input) (Holds (Between k subject.facts.pdos (s.input ∷ before)))
input_runs k subject rows before last s p of met h =
    let subj : Subject = of_device k subject in
    let n : ℕ = k.description.node in
    let facts : Pdos = subject.facts.pdos in
    let m : Moment = moment k (moments k before) s.input in
    let t : Turn = turn_at m (moments k before) in
    let turns : Bool = is_sync_turn t in
    let schedule : Schedule = schedule_log k (moments k before) in
    let frame : ℕ → FrameContent = tpdo_frame k.description m.contents in
    let came : List FrameContent = frame_of s.input in
    let more : List FrameContent = besides k m in
    let N : FrameContent → Type 0 = NamesNoTpdo n in
    let sent : AllNameNone n (more ++ map frame m.due) = last_of N came (prescribed k before s.input) met.clear.sdo in
    let rest : ℕ → ℕ = λ number. waiting k number (s.input ∷ before) in
    let rests : AreRests k rest = λ number cyclic. waiting_less k number (s.input ∷ before) cyclic in
    let J : List ℕ → Pdos → Type 0 = λ due. HaveCounted facts k (before_due k rest due) in
    let after : Progress → Type 0 = Holds (Between k facts (s.input ∷ before)) in
    joined (tpdo_differences is_few_syncs) subj rows s.micros came (more ++ map frame m.due) p (Holds (J m.due)) after
    (came_either is_few_syncs (Between k facts before) (J m.due) k subject rows before s p turns refl (counted_kept facts k (λ number. waiting k number before) (few_before k (λ number. waiting k number before) [] (λ number cyclic. waiting_less k number before cyclic)))
    (λ on. sync_counts k facts before s.input met.keeps) (λ off. quiet_counts k facts before s.input met.keeps off) of met (first_of N came (prescribed k before s.input) met.clear.sdo) h)
    (λ q g.
    joined (tpdo_differences is_few_syncs) subj rows s.micros more (map frame m.due) q (Holds (J m.due)) after
    (besides_run is_few_syncs (J m.due) k subject rows s.micros before s.input q (counted_kept facts k (before_due k rest m.due) (few_before k rest m.due rests)) (begins_counts k facts before s.input met.keeps) met.clear.aside met.clear.beside
    (first_of N more (map frame m.due) sent) g)
    (λ r f. weaken (tpdo_differences is_few_syncs) subj rows s.micros (map frame m.due) r (Walked (J []) (λ x. Unit {0})) after (λ x e. record { fresh = e.holds.fresh; kept = e.holds.kept; opened = e.holds.opened })
    (walks is_few_syncs (λ i. AreOwn facts turns k rest i (frame i).id) J (λ x. Unit {0}) subj rows s.micros frame m.due r (count_walk k rest subj s.micros turns frame of rests)
    (tpdo_ids n frame m.due met.clear.aside.tpdos (last_of N more (map frame m.due) sent))
    (due_all (λ i. AreOwn facts turns k rest i (frame i).id) k.description t m.contents schedule (λ i o less at due among. own k facts before s.input met.keeps schedule o i of less at due among))
    (due_distinct k.description t m.contents schedule) f tt)))

-- ---- all inputs

pub no_few_syncs : (k : Constants) (subject : Subject) (rows : List Row) (inputs : List Stamped) → subject.node ≡ k.description.node → AreTpdosOf k subject.facts.pdos → AllKeepTpdos k [] inputs
    → AreElsewhere (0x700 + k.description.node) inputs → AreElsewhere (0x80 + k.description.node) inputs → AreNoTpdos subject.facts.pdos inputs → AllSendAside k [] inputs → AllSendBesideTpdos subject.facts.pdos k [] inputs
    → NameNoTpdos k.description.node (recording k inputs) → AreNoSdoSyncs subject.facts.pdos k.description.node (recording k inputs)
    → differences_in (tpdo_differences is_few_syncs) subject rows (recording k inputs) ≡ []
no_few_syncs k subject rows inputs is of keeps control emergency foreign aside beside none apart =
    let facts : Pdos = subject.facts.pdos in
    of_device_too is_few_syncs k subject rows inputs is
    (of_recording is_few_syncs k subject rows (λ b l s. IsMet facts k b s) (λ b l. Between k facts b) (λ before last s p met h. input_runs k subject rows before last s p of met h) inputs
    (λ micros. none_counted facts k (λ number. waiting k number []) facts (λ number. refl) (knows_sheet facts))
    (λ last. all_met facts k inputs [] last (all_clear facts k inputs [] last control foreign aside beside (names_later k inputs none)) emergency (syncs_later facts k inputs apart) keeps refl))

-- ---- both kinds of `pdo-sync`

either_sync : (deviation : Deviation) → is_without_sync deviation ≡ false → is_few_syncs deviation ≡ false → is_pdo_sync deviation ≡ false
either_sync (Length length mapped) without few = refl
either_sync NotOperational without few = refl
either_sync WithoutSync without few = without
either_sync (FewSyncs syncs n) without few = few
either_sync (Inhibit passed inhibit) without few = refl
either_sync (Timer passed timer) without few = refl

pub no_pdo_sync : (k : Constants) (subject : Subject) (rows : List Row) (inputs : List Stamped) → subject.node ≡ k.description.node → AreTpdosOf k subject.facts.pdos → AllKeepTpdos k [] inputs
    → AreElsewhere (0x700 + k.description.node) inputs → AreElsewhere (0x80 + k.description.node) inputs → AreNoTpdos subject.facts.pdos inputs → AllSendAside k [] inputs → AllSendBesideTpdos subject.facts.pdos k [] inputs
    → NameNoTpdos k.description.node (recording k inputs) → AreNoSdoSyncs subject.facts.pdos k.description.node (recording k inputs)
    → differences_in (tpdo_differences is_pdo_sync) subject rows (recording k inputs) ≡ []
no_pdo_sync k subject rows inputs is of keeps control emergency foreign aside beside none apart =
    neither is_pdo_sync is_without_sync is_few_syncs either_sync subject rows (recording k inputs)
    (no_without_sync k subject rows inputs is of keeps control emergency foreign aside beside none apart)
    (no_few_syncs k subject rows inputs is of keeps control emergency foreign aside beside none apart)
