-- A synchronous TPDO of a device comes after a SYNC that compare has seen.
use Rattle.std.proofs.Common.{◌≡◌, ℕ, ◌+◌, ◌<◌, ◌≤◌, Bool, true, false, List, [], ◌∷◌, ◌++◌, length, map, Option, Some, None, refl, ap, sym, ◌∙◌, subst, arith, ◌⊎◌, inl, inr}
use Rattle.std.specs.Prelude.{if◌then◌else◌, ◌==◌, ◌&&◌, ◌||◌, nat_le, is_some, IfSome}
use Rattle.std.proofs.lemmas.Bool.{and_parts, eq-eqb, or_parts, or_right}
use Rattle.std.proofs.lemmas.Bool.Decides.{nat_tests}
use Rattle.co_frame.specs.FrameContent.{FrameContent}
use Rattle.co_dict.specs.CobIds.{identifier_of}
use Rattle.co_dict.specs.Rows.{Contents, number_at}
use Rattle.co_profile.specs.TransmissionTypes as types
use Rattle.co_sheet.specs.Content.{Row}
use Rattle.co_pdo.specs.declared.tpdo.Occasion.{Occasion}
use Rattle.co_pdo.specs.declared.tpdo.Occasion.TheVariants as occasion
use Rattle.co_pdo.specs.declared.settings.Settings.{Settings}
use Rattle.co_pdo.specs.Due.{event_waits, is_due, is_due_by_event, is_inhibit_over}
use Rattle.co_pdo.specs.Log as tpdo_log
use Rattle.co_pdo.specs.Schedules.{History as Schedule, is_among, is_tpdo_due, log_of}
use Rattle.co_pdo.specs.Tpdos.{settings_of, tpdo_key}
use Rattle.co_node_model.specs.declared.turn.Turn.{Turn}
use Rattle.co_node_model.specs.declared.turn.Turn.TheVariants as turn
use Rattle.co_node_model.specs.Device.{moment, moments, prescribed}
use Rattle.co_node_model.specs.Inputs.{Inputs, InputView}
use Rattle.co_node_model.specs.Marks.{marked_sync}
use Rattle.co_node_model.specs.Moments.{Constants, Moment}
use Rattle.co_node_model.specs.Nmt.{is_reset}
use Rattle.co_node_model.specs.Tpdos.{schedule_log, tpdo_frame, turn_at}
use Rattle.conode_compare_pdos.specs.declared.deviation.Deviation.{Deviation}
use Rattle.conode_compare_pdos.specs.declared.deviation.Deviation.TheVariants.{WithoutSync}
use Rattle.conode_compare_pdos.specs.declared.deviation.Moment.{Moment as Judged}
use Rattle.conode_compare_pdos.specs.declared.pdos.Pdos.{Pdos}
use Rattle.conode_compare_pdos.specs.declared.tpdo.Tpdo.{Tpdo}
use Rattle.conode_compare_pdos.specs.Deviations.{deviation_at, is_synchronous, sync_deviation}
use Rattle.conode_compare_pdos.specs.Followed.{framed}
use Rattle.conode_compare_pdos.specs.Tpdos.{after_frame as after_tpdo, after_sync, is_id, most_syncs}
use Rattle.conode_compare_nmt.specs.declared.limits.Subject.{Subject}
use Rattle.conode_compare_rules.specs.declared.progress.Progress.{Progress}
use Rattle.conode_compare_rules.specs.FrameKinds.{length_of}
use Rattle.conode_compare_rules.specs.Processes.{moment_at}
use Rattle.conode_compare_laws.specs.Differences.{differences_in}
use Rattle.conode_compare_laws.specs.Identifiers.{AllSendAside, AreElsewhere}
use Rattle.conode_compare_laws.specs.NamedTpdos.{AreNoSdoSyncs, NameNoTpdos, NamesNoTpdo}
use Rattle.conode_compare_laws.specs.Recordings.{Stamped, frame_of, recording}
use Rattle.conode_compare_laws.specs.TpdoDifferences.{tpdo_differences}
use Rattle.conode_compare_laws.specs.TpdoFrames.{AllSendBesideTpdos, AreNoTpdos, is_followed}
use Rattle.conode_compare_laws.specs.TpdoParameters.{AllKeepTpdos, AreTpdosOf, IsTpdoOf, KeepsTpdos}
use Rattle.conode_compare_laws.proofs.Heard.{of_device}
use Rattle.conode_compare_laws.proofs.NamedKeys.{first_of, last_of}
use Rattle.conode_compare_laws.proofs.Runs.{AllRun, joined}
use Rattle.conode_compare_laws.proofs.TpdoDue.{IsAt, active, active_kept, alone, due_all, due_distinct, tpdo_number}
use Rattle.conode_compare_laws.proofs.TpdoInputs.{all_clear, names_later, of_device_too, of_recording}
use Rattle.conode_compare_laws.proofs.TpdoKinds.{deviation_none, few_none, length_none, state_none, untimed}
use Rattle.conode_compare_laws.proofs.TpdoNames.{AllNameNone}
use Rattle.conode_compare_laws.proofs.TpdoOthers.{
  AreFine,
  Holds,
  IsKept,
  IsOf,
  Knows,
  is_of,
  knows_commanded,
  knows_framed,
  knows_interrupted,
  knows_kept,
  knows_sheet,
  knows_unknown,
  other_id,
}
use Rattle.conode_compare_laws.proofs.TpdoParts.{Step, Walk, Walked, besides, besides_run, tpdo_ids, walks, weaken}
use Rattle.conode_compare_laws.proofs.TpdoSyncFrames.{IsMet, Syncs, all_met, came_either, syncs_later}
use Rattle.conode_compare_laws.proofs.TpdoTurns.{is_sync_turn, no_reset, no_sync_turn}

-- ---- the difference

abbrev pub is_without_sync : Deviation → Bool
is_without_sync WithoutSync = true
is_without_sync other = false

-- ---- what compare has of the SYNCs before TPDOs are sent

-- after a SYNC, if its identifier is known, a TPDO that is to be sent may answer one
abbrev HasSync : Bool → Option ℕ → ℕ → List ℕ → Tpdo → Type 0
HasSync synced sync number due pdo = synced ≡ true → is_some sync ≡ true → is_among number due ≡ true → 1 ≤ pdo.syncs

record HaveSync (facts : Pdos) (synced : Bool) (due : List ℕ) (pdos : Pdos) : Type 0 where
  knows : Knows facts pdos
  first : HasSync synced pdos.sync 0 due pdos.first
  second : HasSync synced pdos.sync 1 due pdos.second
  third : HasSync synced pdos.sync 2 due pdos.third
  fourth : HasSync synced pdos.sync 3 due pdos.fourth

counted : (length : ℕ) (pdo : Tpdo) → 1 ≤ (after_sync length pdo).syncs
counted length pdo = by (nat_le most_syncs pdo.syncs)
  where
    by : (b : Bool) → 1 ≤ (if b then most_syncs else pdo.syncs + 1)
    by true = omega arith
    by false = omega arith

-- a frame of a TPDO isn't one of another
pub unsent : (moment : Judged) (id length : ℕ) (pdo : Tpdo) → is_id pdo.parameters.id id ≡ false → after_tpdo moment id length pdo ≡ pdo
unsent moment id length pdo off = rw off refl

still_has : (synced : Bool) (sync : Option ℕ) (number : ℕ) (due : List ℕ) (moment : Judged) (id length : ℕ) (pdo : Tpdo) → is_id pdo.parameters.id id ≡ false → HasSync synced sync number due pdo → HasSync synced sync number due (after_tpdo moment id length pdo)
still_has synced sync number due moment id length pdo off h = subst (HasSync synced sync number due) (sym (unsent moment id length pdo off)) h

-- whatever comes, if it is none of these TPDOs
framed_has : (facts : Pdos) (synced : Bool) (due : List ℕ) (pdos : Pdos) (moment : Judged) (id length : ℕ) → Knows facts (framed pdos moment id length) → HasSync synced pdos.sync 0 due (after_tpdo moment id length pdos.first)
    → HasSync synced pdos.sync 1 due (after_tpdo moment id length pdos.second) → HasSync synced pdos.sync 2 due (after_tpdo moment id length pdos.third) → HasSync synced pdos.sync 3 due (after_tpdo moment id length pdos.fourth)
    → HaveSync facts synced due (framed pdos moment id length)
unfolding framed
framed_has facts synced due pdos moment id length knows a b c d = by (is_id pdos.sync id) knows
  where
    after_syncs : Pdos
    after_syncs = record pdos { first = after_sync length pdos.first; second = after_sync length pdos.second; third = after_sync length pdos.third; fourth = after_sync length pdos.fourth }

    after_frames : Pdos
    after_frames = record pdos { first = after_tpdo moment id length pdos.first; second = after_tpdo moment id length pdos.second; third = after_tpdo moment id length pdos.third; fourth = after_tpdo moment id length pdos.fourth }

    by : (here : Bool) → Knows facts (if here then after_syncs else after_frames) → HaveSync facts synced due (if here then after_syncs else after_frames)
    by true k = record {
      knows = k;
      first = λ on has is. counted length pdos.first;
      second = λ on has is. counted length pdos.second;
      third = λ on has is. counted length pdos.third;
      fourth = λ on has is. counted length pdos.fourth;
    }
    by false k = record { knows = k; first = a; second = b; third = c; fourth = d }

other_has : (facts : Pdos) (synced : Bool) (due : List ℕ) (pdos : Pdos) (moment : Judged) (id length : ℕ) → is_followed facts id ≡ false → HaveSync facts synced due pdos → HaveSync facts synced due (framed pdos moment id length)
other_has facts synced due pdos moment id length off h =
    let a = or_parts (is_id facts.first.parameters.id id) _ off in
    let b = or_parts (is_id facts.second.parameters.id id) _ a.1 in
    let c = or_parts (is_id facts.third.parameters.id id) _ b.1 in
    framed_has facts synced due pdos moment id length (knows_framed facts pdos moment id length h.knows)
    (still_has synced pdos.sync 0 due moment id length pdos.first (other_id facts.first pdos.first id h.knows.first a.0) h.first)
    (still_has synced pdos.sync 1 due moment id length pdos.second (other_id facts.second pdos.second id h.knows.second b.0) h.second)
    (still_has synced pdos.sync 2 due moment id length pdos.third (other_id facts.third pdos.third id h.knows.third c.0) h.third)
    (still_has synced pdos.sync 3 due moment id length pdos.fourth (other_id facts.fourth pdos.fourth id h.knows.fourth c.1) h.fourth)

sync_kept : (facts : Pdos) (synced : Bool) (due : List ℕ) → IsKept facts (HaveSync facts synced due)
sync_kept facts synced due = record {
  knows = λ pdos h. h.knows;
  unknown = record {
    knows = knows_unknown facts;
    first = λ on has is. omega arith;
    second = λ on has is. omega arith;
    third = λ on has is. omega arith;
    fourth = λ on has is. omega arith;
  };
  command = λ pdos h. record { knows = knows_commanded facts pdos h.knows; first = h.first; second = h.second; third = h.third; fourth = h.fourth };
  gap = λ pdos h. record {
    knows = knows_interrupted facts pdos h.knows;
    first = λ on has is. omega arith;
    second = λ on has is. omega arith;
    third = λ on has is. omega arith;
    fourth = λ on has is. omega arith;
  };
  other = λ pdos moment id length off h. other_has facts synced due pdos moment id length off h;
}

-- without a SYNC there is nothing to it
none_synced : (facts : Pdos) (due : List ℕ) (pdos : Pdos) → Knows facts pdos → HaveSync facts false due pdos
none_synced facts due pdos knows = record {
  knows = knows;
  first = λ on has is. absurd (cc);
  second = λ on has is. absurd (cc);
  third = λ on has is. absurd (cc);
  fourth = λ on has is. absurd (cc);
}

-- nor where its identifier isn't known
unknown_synced : (facts : Pdos) (due : List ℕ) (pdos : Pdos) → pdos.sync ≡ None → Knows facts pdos → HaveSync facts true due pdos
unknown_synced facts due pdos none knows =
    let never : (is_some pdos.sync ≡ true) → ⊥ = λ on. absurd (let off : is_some pdos.sync ≡ false = ap is_some none in cc) in
    record {
      knows = knows;
      first = λ on has is. absurd (never has);
      second = λ on has is. absurd (never has);
      third = λ on has is. absurd (never has);
      fourth = λ on has is. absurd (never has);
    }

-- ---- one TPDO

-- a TPDO with the identifier of one that is followed is that one; and a SYNC came, or it isn't synchronous
abbrev pub IsSynced : Bool → ℕ → Tpdo → ℕ → ℕ → Type 0
IsSynced synced number sheet n id = is_id sheet.parameters.id id ≡ true → (n ≡ number) × ((synced ≡ true) ⊎ (is_synchronous sheet.parameters.kind ≡ false))

pub record AreSynced (facts : Pdos) (synced : Bool) (n id : ℕ) : Type 0 where
  pub first : IsSynced synced 0 facts.first n id
  pub second : IsSynced synced 1 facts.second n id
  pub third : IsSynced synced 2 facts.third n id
  pub fourth : IsSynced synced 3 facts.fourth n id

not_zero : (n : ℕ) → 1 ≤ n → (n == 0) ≡ false
not_zero n some = grind (arith, nat_tests)

kind_none : (has_sync : Bool) (pdo : Tpdo) → is_synchronous pdo.parameters.kind ≡ false → is_of is_without_sync (sync_deviation has_sync pdo) ≡ false
kind_none has_sync pdo off = by has_sync (is_synchronous pdo.parameters.kind) off
  where
    by : (a b : Bool) → b ≡ false → is_of is_without_sync (if a && (b && (pdo.syncs == 0)) then Some WithoutSync else None) ≡ false
    by true true h = absurd (cc)
    by true false h = refl
    by false b h = refl

some_none : (sync : Option ℕ) (pdo : Tpdo) → (is_some sync ≡ true → 1 ≤ pdo.syncs) → is_of is_without_sync (sync_deviation (is_some sync) pdo) ≡ false
some_none None pdo h = refl
some_none (Some id) pdo h = by (is_synchronous pdo.parameters.kind) (pdo.syncs == 0) (not_zero pdo.syncs (h refl))
  where
    by : (a b : Bool) → b ≡ false → is_of is_without_sync (if true && (a && b) then Some WithoutSync else None) ≡ false
    by true true h = absurd (cc)
    by true false h = refl
    by false b h = refl

pub among_first : (n number : ℕ) (later : List ℕ) → n ≡ number → is_among number (n ∷ later) ≡ true
among_first n number later same = ap (λ b. b || is_among number later) (eq-eqb n number same)

pub among_later : (n number : ℕ) (later : List ℕ) → is_among number later ≡ true → is_among number (n ∷ later) ≡ true
among_later n number later h = or_right (n == number) (is_among number later) h

sync_fine : (synced : Bool) (sync : Option ℕ) (sheet pdo : Tpdo) (number n id : ℕ) (later : List ℕ) → IsOf sheet pdo → IsSynced synced number sheet n id → HasSync synced sync number (n ∷ later) pdo → is_id pdo.parameters.id id ≡ true
    → is_of is_without_sync (sync_deviation (is_some sync) pdo) ≡ false
sync_fine synced sync sheet pdo number n id later (inl unknown) ok has on = absurd (let off : is_id pdo.parameters.id id ≡ false = ap (λ parameters. is_id parameters.id id) unknown in cc)
sync_fine synced sync sheet pdo number n id later (inr same) ok has on =
    let mine : (n ≡ number) × ((synced ≡ true) ⊎ (is_synchronous sheet.parameters.kind ≡ false)) = ok (sym (ap (λ parameters. is_id parameters.id id) same) ∙ on) in
    elim mine.1 [
      | inl came ↦ some_none sync pdo (λ known. has came known (among_first n number later mine.0))
      | inr off ↦ kind_none (is_some sync) pdo (ap (λ parameters. is_synchronous parameters.kind) same ∙ off)
    ]

fine : (moment : Judged) (synced : Bool) (sync : Option ℕ) (sheet pdo : Tpdo) (number n id length : ℕ) (later : List ℕ) → IsOf sheet pdo → IsSynced synced number sheet n id → HasSync synced sync number (n ∷ later) pdo
    → is_id pdo.parameters.id id ≡ true → is_of is_without_sync (deviation_at moment (is_some sync) pdo length) ≡ false
fine moment synced sync sheet pdo number n id length later of ok has on =
    deviation_none is_without_sync moment (is_some sync) pdo length (state_none is_without_sync moment refl) (length_none is_without_sync pdo.parameters.length pdo.odd length (λ l m. refl))
    (sync_fine synced sync sheet pdo number n id later of ok has on) (few_none is_without_sync moment (is_some sync) pdo (λ s n. refl)) (untimed is_without_sync moment pdo (λ passed n. refl) (λ passed n. refl))

all_are_fine : (facts : Pdos) (moment : Judged) (synced : Bool) (n id length : ℕ) (later : List ℕ) (pdos : Pdos) → AreSynced facts synced n id → HaveSync facts synced (n ∷ later) pdos → AreFine is_without_sync moment pdos id length
all_are_fine facts moment synced n id length later pdos ok h = record {
  first = fine moment synced pdos.sync facts.first pdos.first 0 n id length later h.knows.first ok.first h.first;
  second = fine moment synced pdos.sync facts.second pdos.second 1 n id length later h.knows.second ok.second h.second;
  third = fine moment synced pdos.sync facts.third pdos.third 2 n id length later h.knows.third ok.third h.third;
  fourth = fine moment synced pdos.sync facts.fourth pdos.fourth 3 n id length later h.knows.fourth ok.fourth h.fourth;
}

-- after it those that are still to come may answer one
later_has : (synced : Bool) (sync : Option ℕ) (number n : ℕ) (later : List ℕ) (pdo : Tpdo) → HasSync synced sync number (n ∷ later) pdo → HasSync synced sync number later pdo
later_has synced sync number n later pdo h = λ on has is. h on has (among_later n number later is)

sent_has : (synced : Bool) (sync : Option ℕ) (moment : Judged) (sheet pdo : Tpdo) (number n id length : ℕ) (later : List ℕ) → is_among n later ≡ false → IsOf sheet pdo → IsSynced synced number sheet n id
    → HasSync synced sync number (n ∷ later) pdo → HasSync synced sync number later (after_tpdo moment id length pdo)
sent_has synced sync moment sheet pdo number n id length later once of ok h = by (is_id pdo.parameters.id id) refl of
  where
    by : (b : Bool) → is_id pdo.parameters.id id ≡ b → IsOf sheet pdo → HasSync synced sync number later (after_tpdo moment id length pdo)
    by false off known = still_has synced sync number later moment id length pdo off (later_has synced sync number n later pdo h)
    by true on (inl unknown) = absurd (let off : is_id pdo.parameters.id id ≡ false = ap (λ parameters. is_id parameters.id id) unknown in cc)
    by true on (inr same) =
        let mine : (n ≡ number) × ((synced ≡ true) ⊎ (is_synchronous sheet.parameters.kind ≡ false)) = ok (sym (ap (λ parameters. is_id parameters.id id) same) ∙ on) in
        λ came has is. absurd (let no : is_among number later ≡ false = subst (λ i. is_among i later ≡ false) mine.0 once in cc)

sync_step : (subject : Subject) (synced : Bool) (p : Progress) (micros n id length : ℕ) (later : List ℕ) → AreSynced subject.facts.pdos synced n id → is_among n later ≡ false → HaveSync subject.facts.pdos synced (n ∷ later) p.pdos
    → Step is_without_sync (HaveSync subject.facts.pdos synced later) subject p micros id length
sync_step subject synced p micros n id length later ok once h =
    let facts : Pdos = subject.facts.pdos in
    let moment : Judged = moment_at subject p micros in
    record {
      fine = all_are_fine facts moment synced n id length later p.pdos ok h;
      kept = λ other. framed_has facts synced later p.pdos moment id length (knows_framed facts p.pdos moment id length h.knows)
          (sent_has synced p.pdos.sync moment facts.first p.pdos.first 0 n id length later once h.knows.first ok.first h.first)
          (sent_has synced p.pdos.sync moment facts.second p.pdos.second 1 n id length later once h.knows.second ok.second h.second)
          (sent_has synced p.pdos.sync moment facts.third p.pdos.third 2 n id length later once h.knows.third ok.third h.third)
          (sent_has synced p.pdos.sync moment facts.fourth p.pdos.fourth 3 n id length later once h.knows.fourth ok.fourth h.fourth);
      unseen = λ emergency. record {
        knows = h.knows;
        first = later_has synced p.pdos.sync 0 n later p.pdos.first h.first;
        second = later_has synced p.pdos.sync 1 n later p.pdos.second h.second;
        third = later_has synced p.pdos.sync 2 n later p.pdos.third h.third;
        fourth = later_has synced p.pdos.sync 3 n later p.pdos.fourth h.fourth;
      };
    }

sync_walk : (subject : Subject) (micros : ℕ) (synced : Bool) (frame : ℕ → FrameContent)
    → Walk is_without_sync (λ n. AreSynced subject.facts.pdos synced n (frame n).id) (HaveSync subject.facts.pdos synced) (λ p. Unit {0}) subject micros frame
sync_walk subject micros synced frame = record {
  kept = λ due. sync_kept subject.facts.pdos synced due;
  begins = λ p h. tt;
  goes_on = λ p n id h. tt;
  step = λ n later p new ok once none h. sync_step subject synced p micros n (frame n).id (length_of (frame n)) later ok once h;
}

-- ---- what a device sends

-- at a SYNC every TPDO may be sent, else those alone that are event-driven
by_event : (s : Settings) (log : tpdo_log.Log) → is_due_by_event s log ≡ true → types.is_event_driven s.transmission_type.0 ≡ true
by_event s log h = (and_parts (types.is_event_driven s.transmission_type.0) (event_waits log && is_inhibit_over s.inhibit_time log) h).0

abbrev pub is_sync_occasion : Occasion → Bool
is_sync_occasion (occasion.Sync overflow counter) = true
is_sync_occasion other = false

pub due_event : (s : Settings) (log : tpdo_log.Log) (o : Occasion) → is_due s log o ≡ true → is_sync_occasion o ≡ false → types.is_event_driven s.transmission_type.0 ≡ true
due_event s log (occasion.Sync overflow counter) due off = absurd (cc)
due_event s log occasion.Event due off =
    let later : tpdo_log.Log = tpdo_log.Happened occasion.Event s false ∷ log in
    by_event s later (and_parts s.is_active (is_due_by_event s later) due).1
due_event s log occasion.Tick due off =
    let later : tpdo_log.Log = tpdo_log.Happened occasion.Tick s false ∷ log in
    by_event s later (and_parts s.is_active (is_due_by_event s later) due).1

at_sync : (c : Contents) (t : Turn) (o : Occasion) → IsAt c t o → (is_sync_turn t ≡ true) ⊎ (is_sync_occasion o ≡ false)
at_sync c turn.Quiet o at = absurd at
at_sync c turn.StartAll o at = absurd at
at_sync c (turn.Start n part) o at = absurd at
at_sync c (turn.Sync counter) o at = inl refl
at_sync c (turn.Asked asked) o at = inr (ap is_sync_occasion at)
at_sync c turn.Tick o at = inr (ap is_sync_occasion at)

pub no_count : (kind : ℕ) → types.is_event_driven kind ≡ true → nat_le kind 240 ≡ false
no_count kind on = grind (arith, nat_tests)

known_kind : (known : Option ℕ) (kind : ℕ) → IfSome known (λ n. kind ≡ n) → types.is_event_driven kind ≡ true → is_synchronous known ≡ false
known_kind None kind same on = refl
known_kind (Some n) kind same on = ap (λ i. nat_le i 240) (sym same) ∙ no_count kind on

one_synced : (k : Constants) (m : Moment) (t : Turn) (schedule : Schedule) (o : Occasion) (number : ℕ) (sheet : Tpdo) (n : ℕ) → IsTpdoOf k number sheet → KeepsTpdos k m → n < 512 → IsAt m.contents t o → is_tpdo_due m.contents schedule o n ≡ true
    → IsSynced (is_sync_turn t) number sheet n (tpdo_frame k.description m.contents n).id
one_synced k m t schedule o number sheet n of keeps less at due here =
    let id : identifier_of (number_at m.contents (tpdo_key n 1)) ≡ identifier_of (number_at k.start (tpdo_key n 1)) = ap identifier_of (tpdo_number k m n 1 keeps less) in
    let same : n ≡ number = alone k.start number sheet n of.alone less (sym (active_kept k m n keeps less) ∙ active m.contents schedule o n due) (sym (ap (λ i. is_id sheet.parameters.id i) id) ∙ here) in
    let kind : number_at m.contents (tpdo_key n 2) ≡ number_at k.start (tpdo_key number 2) = tpdo_number k m n 2 keeps less ∙ ap (λ i. number_at k.start (tpdo_key i 2)) same in (
      same,
      elim (at_sync m.contents t o at) [
        | inl on ↦ inl on
        | inr off ↦ inr (known_kind sheet.parameters.kind (number_at k.start (tpdo_key number 2)) of.kind
            (ap types.is_event_driven (sym kind) ∙ due_event (settings_of m.contents n) (log_of n schedule) o due off))
      ],
    )

pub all_synced : (k : Constants) (m : Moment) (facts : Pdos) (t : Turn) (schedule : Schedule) (o : Occasion) (n : ℕ) → AreTpdosOf k facts → KeepsTpdos k m → n < 512 → IsAt m.contents t o → is_tpdo_due m.contents schedule o n ≡ true
    → AreSynced facts (is_sync_turn t) n (tpdo_frame k.description m.contents n).id
all_synced k m facts t schedule o n of keeps less at due = record {
  first = one_synced k m t schedule o 0 facts.first n of.first keeps less at due;
  second = one_synced k m t schedule o 1 facts.second n of.second keeps less at due;
  third = one_synced k m t schedule o 2 facts.third n of.third keeps less at due;
  fourth = one_synced k m t schedule o 3 facts.fourth n of.fourth keeps less at due;
}

-- ---- a SYNC comes

-- each TPDO may answer it
sync_syncs : (facts : Pdos) (due : List ℕ) → Syncs facts (Knows facts) (HaveSync facts true due)
sync_syncs facts due = record {
  after = sync_kept facts true due;
  unknown = λ pdos none knows. unknown_synced facts due pdos none knows;
  comes = λ pdos length knows. record {
    knows = record { sync = knows.sync; first = knows.first; second = knows.second; third = knows.third; fourth = knows.fourth };
    first = λ on has is. counted length pdos.first;
    second = λ on has is. counted length pdos.second;
    third = λ on has is. counted length pdos.third;
    fourth = λ on has is. counted length pdos.fourth;
  };
}

-- at a SYNC no boot-up comes
begins_either : (k : Constants) (facts : Pdos) (before : Inputs) (input : InputView) (synced : Bool) → is_sync_turn (turn_at (moment k (moments k before) input) (moments k before)) ≡ synced
    → is_reset (moment k (moments k before) input).mark ≡ true → HaveSync facts synced (moment k (moments k before) input).due facts
begins_either k facts before input false is reset = none_synced facts (moment k (moments k before) input).due facts (knows_sheet facts)
begins_either k facts before input true is reset =
    let m : Moment = moment k (moments k before) input in
    by (is_some (marked_sync m.mark)) refl
  where
    by : (b : Bool) → is_some (marked_sync (moment k (moments k before) input).mark) ≡ b → HaveSync facts true (moment k (moments k before) input).due facts
    by true on = absurd (let no : is_reset (moment k (moments k before) input).mark ≡ false = no_reset (moment k (moments k before) input).mark on in cc)
    by false off = absurd (let no : is_sync_turn (turn_at (moment k (moments k before) input) (moments k before)) ≡ false = no_sync_turn (moment k (moments k before) input) (moments k before) off in cc)

input_runs : (k : Constants) (subject : Subject) (rows : List Row) (before : Inputs) (last : ℕ) (s : Stamped) (p : Progress) → AreTpdosOf k subject.facts.pdos → IsMet subject.facts.pdos k before s
    → Holds (Knows subject.facts.pdos) p → AllRun (tpdo_differences is_without_sync) (of_device k subject) rows s.micros p (frame_of s.input ++ prescribed k before s.input) (Holds (Knows subject.facts.pdos))
input_runs k subject rows before last s p of met h =
    let subj : Subject = of_device k subject in
    let n : ℕ = k.description.node in
    let facts : Pdos = subject.facts.pdos in
    let m : Moment = moment k (moments k before) s.input in
    let t : Turn = turn_at m (moments k before) in
    let synced : Bool = is_sync_turn t in
    let schedule : Schedule = schedule_log k (moments k before) in
    let frame : ℕ → FrameContent = tpdo_frame k.description m.contents in
    let came : List FrameContent = frame_of s.input in
    let more : List FrameContent = besides k m in
    let N : FrameContent → Type 0 = NamesNoTpdo n in
    let sent : AllNameNone n (more ++ map frame m.due) = last_of N came (prescribed k before s.input) met.clear.sdo in
    let ready : Progress → Type 0 = Holds (HaveSync facts synced m.due) in
    let after : Progress → Type 0 = Holds (Knows facts) in
    joined (tpdo_differences is_without_sync) subj rows s.micros came (more ++ map frame m.due) p ready after
    (came_either is_without_sync (Knows facts) (HaveSync facts synced m.due) k subject rows before s p synced refl (knows_kept facts) (λ on. subst (λ b. Syncs facts (Knows facts) (HaveSync facts b m.due)) (sym on) (sync_syncs facts m.due))
    (λ off pdos knows. subst (λ b. HaveSync facts b m.due pdos) (sym off) (none_synced facts m.due pdos knows)) of met (first_of N came (prescribed k before s.input) met.clear.sdo) h)
    (λ q g.
    joined (tpdo_differences is_without_sync) subj rows s.micros more (map frame m.due) q ready after
    (besides_run is_without_sync (HaveSync facts synced m.due) k subject rows s.micros before s.input q (sync_kept facts synced m.due) (begins_either k facts before s.input synced refl) met.clear.aside met.clear.beside
    (first_of N more (map frame m.due) sent) g)
    (λ r f. weaken (tpdo_differences is_without_sync) subj rows s.micros (map frame m.due) r (Walked (HaveSync facts synced []) (λ x. Unit {0})) after
    (λ x e. record { fresh = e.holds.fresh; kept = e.holds.kept.knows; opened = e.holds.opened })
    (walks is_without_sync (λ i. AreSynced facts synced i (frame i).id) (HaveSync facts synced) (λ x. Unit {0}) subj rows s.micros frame m.due r (sync_walk subj s.micros synced frame)
    (tpdo_ids n frame m.due met.clear.aside.tpdos (last_of N more (map frame m.due) sent))
    (due_all (λ i. AreSynced facts synced i (frame i).id) k.description t m.contents schedule (λ i o less at due sent. all_synced k m facts t schedule o i of met.keeps less at due))
    (due_distinct k.description t m.contents schedule) f tt)))

-- ---- all inputs

pub no_without_sync : (k : Constants) (subject : Subject) (rows : List Row) (inputs : List Stamped) → subject.node ≡ k.description.node → AreTpdosOf k subject.facts.pdos → AllKeepTpdos k [] inputs
    → AreElsewhere (0x700 + k.description.node) inputs → AreElsewhere (0x80 + k.description.node) inputs → AreNoTpdos subject.facts.pdos inputs → AllSendAside k [] inputs → AllSendBesideTpdos subject.facts.pdos k [] inputs
    → NameNoTpdos k.description.node (recording k inputs) → AreNoSdoSyncs subject.facts.pdos k.description.node (recording k inputs)
    → differences_in (tpdo_differences is_without_sync) subject rows (recording k inputs) ≡ []
no_without_sync k subject rows inputs is of keeps control emergency foreign aside beside none apart =
    let facts : Pdos = subject.facts.pdos in
    of_device_too is_without_sync k subject rows inputs is
    (of_recording is_without_sync k subject rows (λ b l s. IsMet facts k b s) (λ b l. Knows facts) (λ before last s p met h. input_runs k subject rows before last s p of met h) inputs (λ micros. knows_sheet facts)
    (λ last. all_met facts k inputs [] last (all_clear facts k inputs [] last control foreign aside beside (names_later k inputs none)) emergency (syncs_later facts k inputs apart) keeps refl))
