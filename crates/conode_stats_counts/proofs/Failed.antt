-- One frame more, as SDO transfers are counted, is one frame more by definition.
use Rattle.std.proofs.Common.{ℕ, ◌+◌, List, [], ◌∷◌, ◌≡◌, ◌∙◌, Option, Some, None, length, refl, ap, arith}
use Rattle.std.specs.Prelude.{◌==◌}
use Rattle.std.specs.Bool.{Decides}
use Rattle.std.proofs.lemmas.Bool.Decides.{Decides-and, Decides-eqb, Decides-like}
use Rattle.conode_explain_transfers.specs.declared.track.Track.{Track}
use Rattle.conode_record.specs.declared.line.Record.{Record}
use Rattle.conode_stats_counts.specs.declared.failure.Cause.{Cause}
use Rattle.conode_stats_counts.specs.declared.failure.Failure.{Failure}
use Rattle.conode_stats_counts.specs.declared.failure.FailureRow.{FailureRow}
use Rattle.conode_stats_counts.specs.declared.failure.Reason.{Reason}
use Rattle.conode_stats_counts.specs.declared.failure.Reason.TheVariants.{Code, NoCode, OtherSize, WrongCrc}
use Rattle.conode_stats_counts.specs.Failures.{Transferred, cause_of, channels_of, failure_added, failure_of, failure_row, failure_rows, failures_left_out, failures_of, failures_with, first_failure, is_failure, more_left_out, most_failures, rows_with, same_cause, same_reason, telling_of, transfers_of, transfers_with}
use Rattle.conode_stats_counts.specs.Gaps.{counted}
use Rattle.conode_stats_counts.specs.Groups.{grouped, keys_of, left_out, left_out_by}
use Rattle.conode_stats_counts.proofs.Grouped as group
use Rattle.conode_stats_counts.proofs.Tallied.{counted_more, counted_next, some_counted}

pub none : transfers_of [] ≡ record { channels = []; rows = []; left_out = 0 }
unfolding transfers_of channels_of failure_rows failures_left_out failures_of grouped keys_of left_out
none = refl

-- ---- a test of causes

reason_decides : (a b : Reason) → Decides (same_reason a b) (a ≡ b)
reason_decides (Code a) (Code b) = Decides-like (a == b) (λ e. ap (λ (x : ℕ). Code x) e) (λ e. cc) (Decides-eqb a b)
reason_decides NoCode NoCode = (λ _. refl, λ _. refl)
reason_decides OtherSize OtherSize = (λ _. refl, λ _. refl)
reason_decides WrongCrc WrongCrc = (λ _. refl, λ _. refl)
reason_decides (Code a) NoCode = (λ e. cc, λ e. cc)
reason_decides (Code a) OtherSize = (λ e. cc, λ e. cc)
reason_decides (Code a) WrongCrc = (λ e. cc, λ e. cc)
reason_decides NoCode (Code b) = (λ e. cc, λ e. cc)
reason_decides NoCode OtherSize = (λ e. cc, λ e. cc)
reason_decides NoCode WrongCrc = (λ e. cc, λ e. cc)
reason_decides OtherSize (Code b) = (λ e. cc, λ e. cc)
reason_decides OtherSize NoCode = (λ e. cc, λ e. cc)
reason_decides OtherSize WrongCrc = (λ e. cc, λ e. cc)
reason_decides WrongCrc (Code b) = (λ e. cc, λ e. cc)
reason_decides WrongCrc NoCode = (λ e. cc, λ e. cc)
reason_decides WrongCrc OtherSize = (λ e. cc, λ e. cc)

same_parts : (n m : ℕ) (c d : Reason) → n ≡ m → c ≡ d → ◌≡◌ {A = Cause} (record { node = n; reason = c }) (record { node = m; reason = d })
same_parts n m c d e f = cc

cause_decides : (a b : Cause) → Decides (same_cause a b) (a ≡ b)
cause_decides a b =
    Decides-like (same_cause a b) (λ h. same_parts a.node b.node a.reason b.reason h.0 h.1) (λ e. (ap (λ (c : Cause). c.node) e, ap (λ (c : Cause). c.reason) e))
    (Decides-and (a.node == b.node) (same_reason a.reason b.reason) (Decides-eqb a.node b.node) (reason_decides a.reason b.reason))

-- ---- rows

same_row : (cause : Cause) (n m first last : ℕ) → n ≡ m
    → ◌≡◌ {A = FailureRow} (record { cause = cause; count = n; first = first; last = last }) (record { cause = cause; count = m; first = first; last = last })
same_row cause n m first last e = cc

row_adds : (cause : Cause) (failures : List Failure) (failure : Failure) → failure_added failure.micros (failure_row cause failures) ≡ failure_row cause (failure ∷ failures)
unfolding first_failure
row_adds cause [] failure = refl
row_adds cause (before ∷ older) failure =
    rw (some_counted (length older)) (same_row cause _ _ _ failure.micros (counted_next (length (before ∷ older))))

module _ (failures : List Failure) where
  abbrev pub rows : List Failure → List FailureRow
  rows failures = grouped same_cause cause_of most_failures failure_row failures

  abbrev pub others : List Failure → ℕ
  others failures = left_out same_cause cause_of most_failures failures

  pub rows_more : (failure : Option Failure) → rows_with failure (rows failures) ≡ rows (failures_with failure failures)
  rows_more None = refl
  rows_more (Some failure) =
      group.one_more same_cause cause_decides most_failures cause_of failure_row is_failure (λ x k fs. refl) (λ row f. failure_added f.micros row) row_adds failure failures

  pub others_more : (failure : Option Failure)
      → counted (counted (others failures) + more_left_out failure (rows failures)) ≡ counted (others (failures_with failure failures))
  unfolding left_out
  others_more None = counted_more (others failures) 0 ∙ ap counted (let e : 0 + others failures ≡ others failures = omega arith in e)
  others_more (Some failure) =
      let new = group.none_more same_cause cause_decides most_failures cause_of failure_row is_failure (λ x k fs. refl) (λ row f. failure_added f.micros row) row_adds failure failures in
      ap (λ (k : ℕ). counted (counted (others failures) + k)) new
      ∙ counted_more (others failures) (left_out_by same_cause most_failures (keys_of same_cause cause_of most_failures failures) (cause_of failure))

same_transfers : (channels : List Track) (r r' : List FailureRow) (n n' : ℕ) → r ≡ r' → n ≡ n'
    → ◌≡◌ {A = Transferred} (record { channels = channels; rows = r; left_out = n }) (record { channels = channels; rows = r'; left_out = n' })
same_transfers channels r r' n n' e f = cc

pub one_more : (frames : List Record) (frame : Record) → transfers_with (transfers_of frames) frame ≡ transfers_of (frame ∷ frames)
unfolding transfers_with transfers_of channels_of failure_rows failures_left_out failures_of
one_more frames frame =
    let failure = failure_of (telling_of (channels_of frames) frame).told in
    same_transfers (telling_of (channels_of frames) frame).tracks _ _ _ _ (rows_more (failures_of frames) failure) (others_more (failures_of frames) failure)
