-- What the transfers that end at the frames of a recording show of an entry, as compare takes it: nothing, or this number.
use Rattle.std.proofs.Common.{◌≡◌, ℕ, true, List, [], ◌∷◌, ◌++◌, Option, Some, None, sym, ◌∙◌}
use Rattle.std.specs.Prelude.{IfSome}
use Rattle.std.proofs.lemmas.Bool.{false≢true}
use Rattle.co_value.specs.declared.key.Key.{Key}
use Rattle.co_value.specs.Keys.{same_key}
use Rattle.co_frame.specs.FrameContent.{FrameContent}
use Rattle.co_frame.specs.SdoFields.{key_in}
use Rattle.co_sheet.specs.Content.{Row}
use Rattle.conode_explain_transfers.specs.declared.ended.Ended.{Ended}
use Rattle.conode_explain_transfers.specs.Followed.{followed}
use Rattle.conode_compare_nmt.specs.declared.finding.Finding.{Finding}
use Rattle.conode_compare_rules.specs.declared.kind.FrameKind.{FrameKind}
use Rattle.conode_compare_rules.specs.declared.kind.FrameKind.TheVariants.{Sdo}
use Rattle.conode_compare_nmt.specs.declared.limits.Subject.{Subject}
use Rattle.conode_compare_rules.specs.declared.progress.Progress.{Progress}
use Rattle.conode_compare_rules.specs.declared.verdict.Findings.{Findings}
use Rattle.conode_compare_nmt.specs.EntriesInForce.{done_word}
use Rattle.conode_compare_rules.specs.FrameKinds.{data_kind}
use Rattle.conode_compare_rules.specs.Gaps.{begun}
use Rattle.conode_compare_rules.specs.Progresses.{progress_with}
use Rattle.conode_compare_laws.specs.Differences.{kind_in}
use Rattle.conode_compare_laws.specs.Identifiers.{IsUnnamed}
use Rattle.conode_compare_laws.specs.Recordings.{Recorded, stamped}
use Rattle.conode_compare_laws.proofs.NamedKeys.{Differs, IsOpenOn, Names, NamesAs, begun_open, differs, followed_such, names_as, stays_open}
use Rattle.conode_compare_laws.proofs.Runs.{AllRun}

-- a transfer that ended
abbrev pub Shown : Key → ℕ → Ended → Type 0
Shown key word e = same_key e.key key ≡ true → IfSome (done_word e.protocol e.ending e.first.items) (λ n. n ≡ word)

-- at a frame, where the recording is begun
abbrev pub ShowsAt : Key → ℕ → Progress → ℕ → FrameKind → Type 0
ShowsAt key word p micros (Sdo side frame) = IfSome (followed p.dialogue.channel micros side frame.bytes).says.ended (Shown key word)
ShowsAt key word p micros _ = Unit {0}

-- at each of these frames, and what holds after the last one
abbrev pub AllShow : Key → ℕ → Subject → ℕ → Progress → List FrameContent → (Progress → Type 0) → Type 0
AllShow key word subject micros p [] after = after p
AllShow key word subject micros p (frame ∷ later) after =
    ShowsAt key word (begun subject p micros) micros (data_kind subject.node frame)
    × AllShow key word subject micros (progress_with subject p micros (data_kind subject.node frame)) later after

-- at each frame of a recording
abbrev pub ShowsFrom : Key → ℕ → Subject → Progress → List Recorded → Type 0
ShowsFrom key word subject p [] = Unit {0}
ShowsFrom key word subject p (r ∷ later) =
    ShowsAt key word (begun subject p r.micros) r.micros (kind_in subject r) × ShowsFrom key word subject (progress_with subject p r.micros (kind_in subject r)) later

module _ (key : Key) (word : ℕ) (subject : Subject) (micros : ℕ) where
  pub parts : (xs ys : List FrameContent) (p : Progress) (after : Progress → Type 0) → AllShow key word subject micros p (xs ++ ys) after → AllShow key word subject micros p xs (λ q. AllShow key word subject micros q ys after)
  parts [] ys p after h = h
  parts (x ∷ xs) ys p after h = (h.0, parts xs ys (progress_with subject p micros (data_kind subject.node x)) after h.1)

  pub joined_shows : (xs ys : List FrameContent) (p : Progress) (between after : Progress → Type 0) → AllShow key word subject micros p xs between
      → ((q : Progress) → between q → AllShow key word subject micros q ys after) → AllShow key word subject micros p (xs ++ ys) after
  joined_shows [] ys p between after h f = f p h
  joined_shows (x ∷ xs) ys p between after h f = (h.0, joined_shows xs ys (progress_with subject p micros (data_kind subject.node x)) between after h.1 f)

  pub mapped_shows : (xs : List FrameContent) (p : Progress) (x y : Progress → Type 0) → ((q : Progress) → x q → y q) → AllShow key word subject micros p xs x → AllShow key word subject micros p xs y
  mapped_shows [] p x y f h = f p h
  mapped_shows (frame ∷ later) p x y f h = (h.0, mapped_shows later (progress_with subject p micros (data_kind subject.node frame)) x y f h.1)

  -- beside another number
  pub both_shows : (other : ℕ) (xs : List FrameContent) (p : Progress) (x y : Progress → Type 0) → AllShow key word subject micros p xs x → AllShow key other subject micros p xs y → AllShow key word subject micros p xs (λ q. x q × y q)
  both_shows other [] p x y h g = (h, g)
  both_shows other (frame ∷ later) p x y h g = (h.0, both_shows other later (progress_with subject p micros (data_kind subject.node frame)) x y h.1 g.1)

  -- what holds after the last one, for another number
  pub ends_as : (other : ℕ) (xs : List FrameContent) (p : Progress) (x y : Progress → Type 0) → AllShow key word subject micros p xs x → AllShow key other subject micros p xs y → AllShow key word subject micros p xs y
  ends_as other [] p x y h g = g
  ends_as other (frame ∷ later) p x y h g = (h.0, ends_as other later (progress_with subject p micros (data_kind subject.node frame)) x y h.1 g.1)

  -- frames at one time, before those that follow them
  pub at_once : (frames : List FrameContent) (rest : List Recorded) (p : Progress) → ShowsFrom key word subject p (stamped micros frames ++ rest) → AllShow key word subject micros p frames (λ q. ShowsFrom key word subject q rest)
  at_once [] rest p h = h
  at_once (frame ∷ later) rest p h = (h.0, at_once later rest (progress_with subject p micros (data_kind subject.node frame)) h.1)

  pub then_shows : (frames : List FrameContent) (rest : List Recorded) (p : Progress) (after : Progress → Type 0) → AllShow key word subject micros p frames after
      → ((q : Progress) → after q → ShowsFrom key word subject q rest) → ShowsFrom key word subject p (stamped micros frames ++ rest)
  then_shows [] rest p after h f = f p h
  then_shows (frame ∷ later) rest p after h f = (h.0, then_shows later rest (progress_with subject p micros (data_kind subject.node frame)) after h.1 f)

  -- beside what is found
  pub both : (these : FrameKind → Findings → List Finding) (rows : List Row) (frames : List FrameContent) (p : Progress) (known after : Progress → Type 0) → AllRun these subject rows micros p frames known
      → AllShow key word subject micros p frames after → AllRun these subject rows micros p frames (λ q. known q × after q)
  both these rows [] p known after h g = (h, g)
  both these rows (frame ∷ later) p known after h g = (h.0, both these rows later (progress_with subject p micros (data_kind subject.node frame)) known after h.1 g.1)

-- ---- where no client names the entry

unnamed_ended : (key : Key) (word : ℕ) (o : Option Ended) → IfSome o (λ e. Differs key e.key) → IfSome o (Shown key word)
unnamed_ended key word None h = tt
unnamed_ended key word (Some e) h = λ same. absurd (false≢true (sym h ∙ same))

unnamed_at : (key : Key) (word : ℕ) (p : Progress) (micros : ℕ) (kind : FrameKind) → NamesAs (Differs key) kind → IsOpenOn (Differs key) p → ShowsAt key word p micros kind
unnamed_at key word p micros (Sdo side frame) n h =
    unnamed_ended key word (followed p.dialogue.channel micros side frame.bytes).says.ended (followed_such (Differs key) p.dialogue.channel micros side frame.bytes n h).ended
unnamed_at key word p micros _ n h = tt

pub unnamed_shows : (key : Key) (word : ℕ) (subject : Subject) (recorded : List Recorded) (p : Progress) → IsUnnamed key subject.node recorded → IsOpenOn (Differs key) p → ShowsFrom key word subject p recorded
unnamed_shows key word subject [] p unnamed h = tt
unnamed_shows key word subject (r ∷ later) p unnamed h =
    let names : Names (Differs key) subject.node r.frame = λ id eight. differs key (key_in r.frame.bytes) (unnamed.0 id eight) in (
      unnamed_at key word (begun subject p r.micros) r.micros (kind_in subject r) (names_as (Differs key) subject.node r.frame names) (begun_open (Differs key) subject p r.micros h),
      unnamed_shows key word subject later (progress_with subject p r.micros (kind_in subject r)) unnamed.1 (stays_open (Differs key) subject p r.micros r.frame names h),
    )
