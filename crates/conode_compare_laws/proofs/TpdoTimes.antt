-- The newest frame of each TPDO that compare has, beside how long ago the device sent it: what a law says of both.
use Rattle.std.proofs.Common.{◌≡◌, ℕ, ◌<◌, ◌≤◌, Bool, true, false, List, ◌∷◌, Option, Some, None, refl, ap, sym, ◌∙◌, subst, arith, ◌⊎◌, inl, inr}
use Rattle.std.specs.Prelude.{if◌then◌else◌, ◌==◌, ◌||◌, is_some, IfSome}
use Rattle.std.proofs.lemmas.Bool.{eq-eqb, eqb-true, or_parts}
use Rattle.co_frame.specs.FrameContent.{FrameContent}
use Rattle.co_pdo.specs.Schedules.{is_among}
use Rattle.co_node_model.specs.Moments.{Constants}
use Rattle.conode_compare_pdos.specs.declared.deviation.Deviation.{Deviation}
use Rattle.conode_compare_pdos.specs.declared.deviation.Moment.{Moment as Judged}
use Rattle.conode_compare_pdos.specs.declared.pdos.Pdos.{Pdos}
use Rattle.conode_compare_pdos.specs.declared.tpdo.Sent.{Sent}
use Rattle.conode_compare_pdos.specs.declared.tpdo.Tpdo.{Tpdo}
use Rattle.conode_compare_pdos.specs.Deviations.{deviation_at}
use Rattle.conode_compare_pdos.specs.Followed.{commanded, framed, unknown_pdos}
use Rattle.conode_compare_pdos.specs.Tpdos.{after_frame as after_tpdo, after_sync, is_id}
use Rattle.conode_compare_nmt.specs.declared.limits.Subject.{Subject}
use Rattle.conode_compare_rules.specs.declared.progress.Progress.{Progress}
use Rattle.conode_compare_rules.specs.FrameKinds.{length_of}
use Rattle.conode_compare_rules.specs.Processes.{moment_at}
use Rattle.conode_compare_laws.specs.TpdoFrames.{is_followed}
use Rattle.conode_compare_laws.specs.TpdoParameters.{AreTpdosOf}
use Rattle.conode_compare_laws.proofs.TpdoLogs.{and_sent}
use Rattle.conode_compare_laws.proofs.TpdoOthers.{IsKept, IsNewest, IsOf, Knows, is_of, knows_commanded, knows_framed, knows_interrupted, knows_sheet, knows_unknown, other_id}
use Rattle.conode_compare_laws.proofs.TpdoParts.{Step, is_unwatched}

-- it is seen: it comes on the identifier that compare has for it, which isn't that of EMCY or SDO
abbrev pub IsSeen : ℕ → ℕ → Tpdo → Type 0
IsSeen node id pdo = (is_id pdo.parameters.id id ≡ true) × (is_unwatched node id ≡ false)

-- what holds of its newest frame
abbrev pub IsTimed : (ℕ → Sent → List ℕ → Type 0) → ℕ → ℕ → ℕ → List ℕ → Tpdo → Type 0
IsTimed R node micros id ages pdo = IfSome pdo.sent (λ s. R micros s ages × IsSeen node id pdo)

pub record AreTimed (R : ℕ → Sent → List ℕ → Type 0) (node : ℕ) (ids : ℕ → ℕ) (facts : Pdos) (micros : ℕ) (ages : ℕ → List ℕ) (pdos : Pdos) : Type 0 where
  pub knows : Knows facts pdos
  pub first : IsTimed R node micros (ids 0) (ages 0) pdos.first
  pub second : IsTimed R node micros (ids 1) (ages 1) pdos.second
  pub third : IsTimed R node micros (ids 2) (ages 2) pdos.third
  pub fourth : IsTimed R node micros (ids 3) (ages 3) pdos.fourth

-- ---- frames that are none of them

timed_if : (R : ℕ → Sent → List ℕ → Type 0) (node micros id : ℕ) (ages : List ℕ) (moment : Judged) (other length : ℕ) (pdo : Tpdo) → is_id pdo.parameters.id other ≡ false → IsTimed R node micros id ages pdo → IsTimed R node micros id ages (after_tpdo moment other length pdo)
timed_if R node micros id ages moment other length pdo off h = rw off h

framed_timed : (R : ℕ → Sent → List ℕ → Type 0) (node : ℕ) (ids : ℕ → ℕ) (facts : Pdos) (micros : ℕ) (ages : ℕ → List ℕ) (pdos : Pdos) (moment : Judged) (id length : ℕ) → Knows facts pdos
    → (is_id pdos.sync id ≡ true → AreTimed R node ids facts micros ages pdos) → (is_id pdos.sync id ≡ false → IsTimed R node micros (ids 0) (ages 0) (after_tpdo moment id length pdos.first))
    → (is_id pdos.sync id ≡ false → IsTimed R node micros (ids 1) (ages 1) (after_tpdo moment id length pdos.second)) → (is_id pdos.sync id ≡ false → IsTimed R node micros (ids 2) (ages 2) (after_tpdo moment id length pdos.third))
    → (is_id pdos.sync id ≡ false → IsTimed R node micros (ids 3) (ages 3) (after_tpdo moment id length pdos.fourth)) → AreTimed R node ids facts micros ages (framed pdos moment id length)
unfolding framed
framed_timed R node ids facts micros ages pdos moment id length knows same a b c d = by (is_id pdos.sync id) (knows_framed facts pdos moment id length knows) same a b c d
  where
    after_syncs : Pdos
    after_syncs = record pdos { first = after_sync length pdos.first; second = after_sync length pdos.second; third = after_sync length pdos.third; fourth = after_sync length pdos.fourth }

    after_frames : Pdos
    after_frames = record pdos { first = after_tpdo moment id length pdos.first; second = after_tpdo moment id length pdos.second; third = after_tpdo moment id length pdos.third; fourth = after_tpdo moment id length pdos.fourth }

    by : (here : Bool) → Knows facts (if here then after_syncs else after_frames) → (here ≡ true → AreTimed R node ids facts micros ages pdos) → (here ≡ false → IsTimed R node micros (ids 0) (ages 0) (after_tpdo moment id length pdos.first))
        → (here ≡ false → IsTimed R node micros (ids 1) (ages 1) (after_tpdo moment id length pdos.second)) → (here ≡ false → IsTimed R node micros (ids 2) (ages 2) (after_tpdo moment id length pdos.third))
        → (here ≡ false → IsTimed R node micros (ids 3) (ages 3) (after_tpdo moment id length pdos.fourth)) → AreTimed R node ids facts micros ages (if here then after_syncs else after_frames)
    by true k h p q r s = record { knows = k; first = (h refl).first; second = (h refl).second; third = (h refl).third; fourth = (h refl).fourth }
    by false k h p q r s = record { knows = k; first = p refl; second = q refl; third = r refl; fourth = s refl }

-- the four aren't on an identifier that none of them has by the data sheet
record AreOff (pdos : Pdos) (id : ℕ) : Type 0 where
  first : is_id pdos.first.parameters.id id ≡ false
  second : is_id pdos.second.parameters.id id ≡ false
  third : is_id pdos.third.parameters.id id ≡ false
  fourth : is_id pdos.fourth.parameters.id id ≡ false

all_off : (facts pdos : Pdos) (id : ℕ) → Knows facts pdos → is_followed facts id ≡ false → AreOff pdos id
all_off facts pdos id knows off =
    let a = or_parts (is_id facts.first.parameters.id id) _ off in
    let b = or_parts (is_id facts.second.parameters.id id) _ a.1 in
    let c = or_parts (is_id facts.third.parameters.id id) _ b.1 in
    record {
      first = other_id facts.first pdos.first id knows.first a.0;
      second = other_id facts.second pdos.second id knows.second b.0;
      third = other_id facts.third pdos.third id knows.third c.0;
      fourth = other_id facts.fourth pdos.fourth id knows.fourth c.1;
    }

other_timed : (R : ℕ → Sent → List ℕ → Type 0) (node : ℕ) (ids : ℕ → ℕ) (facts : Pdos) (micros : ℕ) (ages : ℕ → List ℕ) (pdos : Pdos) (moment : Judged) (id length : ℕ) → is_followed facts id ≡ false → AreTimed R node ids facts micros ages pdos
    → AreTimed R node ids facts micros ages (framed pdos moment id length)
other_timed R node ids facts micros ages pdos moment id length off h =
    let o : AreOff pdos id = all_off facts pdos id h.knows off in
    framed_timed R node ids facts micros ages pdos moment id length h.knows (λ on. h)
    (λ apart. timed_if R node micros (ids 0) (ages 0) moment id length pdos.first o.first h.first)
    (λ apart. timed_if R node micros (ids 1) (ages 1) moment id length pdos.second o.second h.second)
    (λ apart. timed_if R node micros (ids 2) (ages 2) moment id length pdos.third o.third h.third)
    (λ apart. timed_if R node micros (ids 3) (ages 3) moment id length pdos.fourth o.fourth h.fourth)

pub timed_kept : (R : ℕ → Sent → List ℕ → Type 0) (node : ℕ) (ids : ℕ → ℕ) (facts : Pdos) (micros : ℕ) (ages : ℕ → List ℕ) → IsKept facts (AreTimed R node ids facts micros ages)
timed_kept R node ids facts micros ages = record {
  knows = λ pdos h. h.knows;
  unknown = record { knows = knows_unknown facts; first = tt; second = tt; third = tt; fourth = tt };
  command = λ pdos h. record { knows = knows_commanded facts pdos h.knows; first = tt; second = tt; third = tt; fourth = tt };
  gap = λ pdos h. record { knows = knows_interrupted facts pdos h.knows; first = tt; second = tt; third = tt; fourth = tt };
  other = λ pdos moment id length off h. other_timed R node ids facts micros ages pdos moment id length off h;
}

-- ---- what is said of them changes

sent_changed : (sent : Option Sent) (A B : Sent → Type 0) (C : Type 0) → ((s : Sent) → A s → B s) → IfSome sent (λ s. A s × C) → IfSome sent (λ s. B s × C)
sent_changed None A B C f h = tt
sent_changed (Some s) A B C f h = (f s h.0, h.1)

pub changed_below : (R S : ℕ → Sent → List ℕ → Type 0) (node : ℕ) (ids : ℕ → ℕ) (facts : Pdos) (last micros : ℕ) (before after : ℕ → List ℕ) (pdos : Pdos)
    → ((number : ℕ) → number < 512 → (s : Sent) → R last s (before number) → S micros s (after number)) → AreTimed R node ids facts last before pdos → AreTimed S node ids facts micros after pdos
changed_below R S node ids facts last micros before after pdos f h = record {
  knows = h.knows;
  first = sent_changed pdos.first.sent (λ s. R last s (before 0)) (λ s. S micros s (after 0)) (IsSeen node (ids 0) pdos.first) (f 0 (omega arith)) h.first;
  second = sent_changed pdos.second.sent (λ s. R last s (before 1)) (λ s. S micros s (after 1)) (IsSeen node (ids 1) pdos.second) (f 1 (omega arith)) h.second;
  third = sent_changed pdos.third.sent (λ s. R last s (before 2)) (λ s. S micros s (after 2)) (IsSeen node (ids 2) pdos.third) (f 2 (omega arith)) h.third;
  fourth = sent_changed pdos.fourth.sent (λ s. R last s (before 3)) (λ s. S micros s (after 3)) (IsSeen node (ids 3) pdos.fourth) (f 3 (omega arith)) h.fourth;
}

pub changed : (R S : ℕ → Sent → List ℕ → Type 0) (node : ℕ) (ids : ℕ → ℕ) (facts : Pdos) (last micros : ℕ) (before after : ℕ → List ℕ) (pdos : Pdos) → ((number : ℕ) (s : Sent) → R last s (before number) → S micros s (after number))
    → AreTimed R node ids facts last before pdos → AreTimed S node ids facts micros after pdos
changed R S node ids facts last micros before after pdos f h = changed_below R S node ids facts last micros before after pdos (λ number less. f number) h

unsent_timed : (R : ℕ → Sent → List ℕ → Type 0) (node micros id : ℕ) (ages : List ℕ) (pdo : Tpdo) → pdo.sent ≡ None → IsTimed R node micros id ages pdo
unsent_timed R node micros id ages pdo none = subst (λ o. IfSome o (λ s. R micros s ages × IsSeen node id pdo)) (sym none) tt

-- nothing was sent: so as the device boots up
pub begins_timed : (R : ℕ → Sent → List ℕ → Type 0) (node : ℕ) (ids : ℕ → ℕ) (k : Constants) (facts : Pdos) (micros : ℕ) (ages : ℕ → List ℕ) → AreTpdosOf k facts → AreTimed R node ids facts micros ages facts
begins_timed R node ids k facts micros ages of = record {
  knows = knows_sheet facts;
  first = unsent_timed R node micros (ids 0) (ages 0) facts.first of.first.unsent;
  second = unsent_timed R node micros (ids 1) (ages 1) facts.second of.second.unsent;
  third = unsent_timed R node micros (ids 2) (ages 2) facts.third of.third.unsent;
  fourth = unsent_timed R node micros (ids 3) (ages 3) facts.fourth of.fourth.unsent;
}

-- and after an NMT command
pub commanded_timed : (R : ℕ → Sent → List ℕ → Type 0) (node : ℕ) (ids : ℕ → ℕ) (facts : Pdos) (micros : ℕ) (ages : ℕ → List ℕ) (pdos : Pdos) → Knows facts pdos → AreTimed R node ids facts micros ages (commanded pdos)
commanded_timed R node ids facts micros ages pdos knows = record { knows = knows_commanded facts pdos knows; first = tt; second = tt; third = tt; fourth = tt }

pub unknown_timed : (R : ℕ → Sent → List ℕ → Type 0) (node : ℕ) (ids : ℕ → ℕ) (facts : Pdos) (micros : ℕ) (ages : ℕ → List ℕ) → AreTimed R node ids facts micros ages unknown_pdos
unknown_timed R node ids facts micros ages = record { knows = knows_unknown facts; first = tt; second = tt; third = tt; fourth = tt }

-- ---- the TPDOs of an input

-- how long ago a TPDO was sent, before these are: those that were sent at this input just now
abbrev pub ages_before : List ℕ → (ℕ → List ℕ) → List ℕ → ℕ → List ℕ
ages_before all old due number = if is_among number due then old number else and_sent (is_among number all) (old number)

pub at_first : (all : List ℕ) (old : ℕ → List ℕ) (number : ℕ) → ages_before all old all number ≡ old number
at_first all old number = by (is_among number all)
  where
    by : (b : Bool) → (if b then old number else and_sent b (old number)) ≡ old number
    by true = refl
    by false = refl

module _ (is : Deviation → Bool) (R : ℕ → Sent → List ℕ → Type 0) (subject : Subject) (micros : ℕ) (frame : ℕ → FrameContent) (ids : ℕ → ℕ) (all : List ℕ) (old : ℕ → List ℕ) where
  abbrev pub node : ℕ
  node = subject.node

  -- with the time of the one before it is as it should be
  abbrev pub IsJudged : Tpdo → ℕ → ℕ → Type 0
  IsJudged sheet number n = (p : Progress) (has_sync : Bool) (pdo : Tpdo) → IsNewest micros p → pdo.parameters ≡ sheet.parameters → n ≡ number → IfSome pdo.sent (λ s. R micros s (old number))
      → is_of is (deviation_at (moment_at subject p micros) has_sync pdo (length_of (frame n))) ≡ false

  -- what is asked of a TPDO that is sent, for one that is followed
  pub record IsOwn (sheet : Tpdo) (number n : ℕ) : Type 0 where
    pub own : is_id sheet.parameters.id (frame n).id ≡ true → n ≡ number
    pub judged : IsJudged sheet number n

  pub record AreOwn (facts : Pdos) (n : ℕ) : Type 0 where
    pub id : (frame n).id ≡ ids n
    pub sent : is_among n all ≡ true
    pub first : IsOwn facts.first 0 n
    pub second : IsOwn facts.second 1 n
    pub third : IsOwn facts.third 2 n
    pub fourth : IsOwn facts.fourth 3 n

  abbrev pub ages : List ℕ → ℕ → List ℕ
  ages due number = ages_before all old due number

  still_first : (n number : ℕ) (later : List ℕ) → n ≡ number → ages (n ∷ later) number ≡ old number
  still_first n number later same = ap (λ b. if b || is_among number later then old number else and_sent (is_among number all) (old number)) (eq-eqb n number same)

  now_sent : (n number : ℕ) (later : List ℕ) → n ≡ number → is_among n later ≡ false → is_among n all ≡ true → ages later number ≡ 0 ∷ old number
  now_sent n number later same once sent =
      ap (λ b. if b then old number else and_sent (is_among number all) (old number)) (ap (λ i. is_among i later) (sym same) ∙ once)
      ∙ ap (λ b. and_sent b (old number)) (ap (λ i. is_among i all) (sym same) ∙ sent)

  as_before : (n number : ℕ) (later : List ℕ) → (n == number) ≡ false → ages (n ∷ later) number ≡ ages later number
  as_before n number later off = ap (λ b. if b || is_among number later then old number else and_sent (is_among number all) (old number)) off

  -- a frame that isn't seen
  abbrev IsHidden : Tpdo → ℕ → Type 0
  IsHidden pdo n = (is_id pdo.parameters.id (ids n) ≡ false) ⊎ (is_unwatched node (ids n) ≡ true)

  never_seen : (pdo : Tpdo) (n number : ℕ) → n ≡ number → IsHidden pdo n → IsSeen node (ids number) pdo → ⊥
  never_seen pdo n number same (inl off) seen = absurd (let on : is_id pdo.parameters.id (ids n) ≡ true = ap (λ i. is_id pdo.parameters.id (ids i)) same ∙ seen.0 in cc)
  never_seen pdo n number same (inr on) seen = absurd (let off : is_unwatched node (ids n) ≡ false = ap (λ i. is_unwatched node (ids i)) same ∙ seen.1 in cc)

  unseen_timed : (n number : ℕ) (later : List ℕ) (pdo : Tpdo) → IsHidden pdo n → IsTimed R node micros (ids number) (ages (n ∷ later) number) pdo → IsTimed R node micros (ids number) (ages later number) pdo
  unseen_timed n number later pdo off h = by (n == number) refl
    where
      none : (o : Option Sent) → n ≡ number → IfSome o (λ s. R micros s (ages (n ∷ later) number) × IsSeen node (ids number) pdo) → IfSome o (λ s. R micros s (ages later number) × IsSeen node (ids number) pdo)
      none None same g = tt
      none (Some s) same g = absurd (never_seen pdo n number same off g.1)

      by : (b : Bool) → (n == number) ≡ b → IsTimed R node micros (ids number) (ages later number) pdo
      by true on = none pdo.sent (eqb-true n number on) h
      by false apart = subst (λ a. IsTimed R node micros (ids number) a pdo) (as_before n number later apart) h

  of_own : (sheet pdo : Tpdo) (id : ℕ) → IsOf sheet pdo → is_id pdo.parameters.id id ≡ true → (pdo.parameters ≡ sheet.parameters) × (is_id sheet.parameters.id id ≡ true)
  of_own sheet pdo id (inl unknown) on = absurd (let off : is_id pdo.parameters.id id ≡ false = ap (λ parameters. is_id parameters.id id) unknown in cc)
  of_own sheet pdo id (inr same) on = (same, sym (ap (λ parameters. is_id parameters.id id) same) ∙ on)

  without_id : (s : Option Sent) (Says : Sent → Type 0) (B : Type 0) → IfSome s (λ x. Says x × B) → IfSome s Says
  without_id None Says B h = tt
  without_id (Some s) Says B h = h.0

  one_fine : (p : Progress) (has_sync : Bool) (sheet pdo : Tpdo) (number n : ℕ) (later : List ℕ) → IsNewest micros p → IsOwn sheet number n → IsOf sheet pdo → IsTimed R node micros (ids number) (ages (n ∷ later) number) pdo
      → is_id pdo.parameters.id (frame n).id ≡ true → is_of is (deviation_at (moment_at subject p micros) has_sync pdo (length_of (frame n))) ≡ false
  one_fine p has_sync sheet pdo number n later new ok of h on =
      let mine : (pdo.parameters ≡ sheet.parameters) × (is_id sheet.parameters.id (frame n).id ≡ true) = of_own sheet pdo (frame n).id of on in
      let same : n ≡ number = ok.own mine.1 in
      ok.judged p has_sync pdo new mine.0 same
      (subst (λ a. IfSome pdo.sent (λ s. R micros s a)) (still_first n number later same) (without_id pdo.sent (λ s. R micros s (ages (n ∷ later) number)) (IsSeen node (ids number) pdo) h))

  -- after a frame that is
  abbrev pub IsJustNow : Type 0
  IsJustNow = (free : ℕ) (a : List ℕ) → free ≤ micros → R micros (record { free = free; micros = micros }) (0 ∷ a)

  sent_timed : IsJustNow → (p : Progress) (sheet pdo : Tpdo) (number n : ℕ) (later : List ℕ) → is_unwatched node (frame n).id ≡ false → IsNewest micros p → IsOwn sheet number n → (frame n).id ≡ ids n → is_among n later ≡ false → is_among n all ≡ true → IsOf sheet pdo
      → IsTimed R node micros (ids number) (ages (n ∷ later) number) pdo → IsTimed R node micros (ids number) (ages later number) (after_tpdo (moment_at subject p micros) (frame n).id (length_of (frame n)) pdo)
  unfolding moment_at
  sent_timed just_now p sheet pdo number n later other new ok id once sent of h = by (is_id pdo.parameters.id (frame n).id) refl
    where
      by : (b : Bool) → is_id pdo.parameters.id (frame n).id ≡ b → IsTimed R node micros (ids number) (ages later number) (after_tpdo (moment_at subject p micros) (frame n).id (length_of (frame n)) pdo)
      by true on =
          let same : n ≡ number = ok.own (of_own sheet pdo (frame n).id of on).1 in
          let now : ages later number ≡ 0 ∷ old number = now_sent n number later same once sent in
          let here : is_id pdo.parameters.id (ids number) ≡ true = ap (λ i. is_id pdo.parameters.id i) (ap ids (sym same) ∙ sym id) ∙ on in
          let apart : is_unwatched node (ids number) ≡ false = ap (λ i. is_unwatched node i) (ap ids (sym same) ∙ sym id) ∙ other in
          rw on (subst (λ a. R micros (record { free = p.free; micros = micros }) a) (sym now) (just_now p.free (old number) new.free), (here, apart))
      by false off =
          rw off (unseen_timed n number later pdo (inl (ap (λ i. is_id pdo.parameters.id i) (sym id) ∙ off)) h)

  -- with the identifier of SYNC it is none of the four
  on_sync : (facts pdos : Pdos) (id : ℕ) → Knows facts pdos → IfSome facts.sync (λ sync. is_followed facts sync ≡ false) → is_id pdos.sync id ≡ true → is_followed facts id ≡ false
  on_sync facts pdos id knows apart on = by facts.sync knows.sync apart
    where
      by : (known : Option ℕ) → (pdos.sync ≡ None) ⊎ (pdos.sync ≡ known) → IfSome known (λ sync. is_followed facts sync ≡ false) → is_followed facts id ≡ false
      by known (inl none) h = absurd (let off : is_id pdos.sync id ≡ false = ap (λ o. is_id o id) none in cc)
      by None (inr none) h = absurd (let off : is_id pdos.sync id ≡ false = ap (λ o. is_id o id) none in cc)
      by (Some sync) (inr is) h =
          let here : sync ≡ id = eqb-true sync id (sym (ap (λ o. is_id o id) is) ∙ on) in
          ap (is_followed facts) (sym here) ∙ h

  all_hidden : (facts pdos : Pdos) (n : ℕ) (later : List ℕ) → ((pdo : Tpdo) → IsHidden pdo n) → AreTimed R node ids facts micros (ages (n ∷ later)) pdos → AreTimed R node ids facts micros (ages later) pdos
  all_hidden facts pdos n later off h = record {
    knows = h.knows;
    first = unseen_timed n 0 later pdos.first (off pdos.first) h.first;
    second = unseen_timed n 1 later pdos.second (off pdos.second) h.second;
    third = unseen_timed n 2 later pdos.third (off pdos.third) h.third;
    fourth = unseen_timed n 3 later pdos.fourth (off pdos.fourth) h.fourth;
  }

  all_unseen : (facts pdos : Pdos) (n : ℕ) (later : List ℕ) → AreOff pdos (ids n) → AreTimed R node ids facts micros (ages (n ∷ later)) pdos → AreTimed R node ids facts micros (ages later) pdos
  all_unseen facts pdos n later off h = record {
    knows = h.knows;
    first = unseen_timed n 0 later pdos.first (inl off.first) h.first;
    second = unseen_timed n 1 later pdos.second (inl off.second) h.second;
    third = unseen_timed n 2 later pdos.third (inl off.third) h.third;
    fourth = unseen_timed n 3 later pdos.fourth (inl off.fourth) h.fourth;
  }

  pub time_step : IsJustNow → (p : Progress) (n : ℕ) (later : List ℕ) → IfSome subject.facts.pdos.sync (λ sync. is_followed subject.facts.pdos sync ≡ false) → IsNewest micros p → AreOwn subject.facts.pdos n → is_among n later ≡ false
      → AreTimed R node ids subject.facts.pdos micros (ages (n ∷ later)) p.pdos
      → Step is (AreTimed R node ids subject.facts.pdos micros (ages later)) subject p micros (frame n).id (length_of (frame n))
  time_step just_now p n later apart new ok once h =
      let facts : Pdos = subject.facts.pdos in
      let pdos : Pdos = p.pdos in
      record {
        fine = record {
          first = one_fine p (is_some pdos.sync) facts.first pdos.first 0 n later new ok.first h.knows.first h.first;
          second = one_fine p (is_some pdos.sync) facts.second pdos.second 1 n later new ok.second h.knows.second h.second;
          third = one_fine p (is_some pdos.sync) facts.third pdos.third 2 n later new ok.third h.knows.third h.third;
          fourth = one_fine p (is_some pdos.sync) facts.fourth pdos.fourth 3 n later new ok.fourth h.knows.fourth h.fourth;
        };
        kept = λ other. framed_timed R node ids facts micros (ages later) pdos (moment_at subject p micros) (frame n).id (length_of (frame n)) h.knows
            (λ on. all_unseen facts pdos n later (subst (AreOff pdos) ok.id (all_off facts pdos (frame n).id h.knows (on_sync facts pdos (frame n).id h.knows apart on))) h)
            (λ off. sent_timed just_now p facts.first pdos.first 0 n later other new ok.first ok.id once ok.sent h.knows.first h.first)
            (λ off. sent_timed just_now p facts.second pdos.second 1 n later other new ok.second ok.id once ok.sent h.knows.second h.second)
            (λ off. sent_timed just_now p facts.third pdos.third 2 n later other new ok.third ok.id once ok.sent h.knows.third h.third)
            (λ off. sent_timed just_now p facts.fourth pdos.fourth 3 n later other new ok.fourth ok.id once ok.sent h.knows.fourth h.fourth);
        unseen = λ on. all_hidden facts pdos n later (λ pdo. inr (ap (λ i. is_unwatched node i) (sym ok.id) ∙ on)) h;
      }
