-- The statistics in JSON, evaluated.
use Rattle.std.proofs.Common.{ℕ, [], ◌∷◌, ◌++◌, ◌≡◌, Some, None, refl}
use Rattle.std.specs.Prelude.{codes}
use Rattle.std.specs.Fmt.{digits}
use Rattle.json.specs.Token.{begin_object, end_object, key, number, string}
use Rattle.conode_json.specs.Members.{number_member, object_begin, text_member}
use Rattle.co_text.specs.Printed.{digits_text}
use Rattle.conode_explain_transfers.specs.declared.ended.Ended.{Ended}
use Rattle.conode_stats_counts.specs.declared.failure.FailureRow.{FailureRow}
use Rattle.conode_stats_counts.specs.declared.failure.Reason.{Reason}
use Rattle.conode_stats_counts.specs.declared.failure.Reason.TheVariants.{Code, NoCode, OtherSize, WrongCrc}
use Rattle.conode_stats_counts.specs.Buses.{BusCounts}
use Rattle.conode_stats_text.specs.declared.finding.Kind.TheVariants.{Failures, Emergencies}
use Rattle.conode_stats_text.specs.declared.pace.Pace.TheVariants.{Written}
use Rattle.conode_stats_text.specs.declared.silence.Silence.{Silence}
use Rattle.conode_stats_text.specs.Paces.{median}
use Rattle.conode_stats_text.specs.Silences.{pdo_silence, silence_of}
use Rattle.conode_stats_text.proofs.NodeExamples.{ended_at, heartbeats, no_heartbeats, node, server}
use Rattle.conode_stats.specs.FailureTokens.{counted_tokens, failure_tokens, key_members, open_tokens, open_tokens_in}
use Rattle.conode_stats.specs.NodeTokens.{node_end, node_front, node_tokens, tokens_if, tokens_in, wait_members}

-- ---- nodes

-- a node with two restarts, and five different times
front : node_front 6 (node 2)
    ≡ begin_object ∷ key (codes "node") ∷ number (codes "6") ∷ key (codes "bootUps") ∷ number (codes "3")
    ∷ key (codes "restartsWithoutCommand") ∷ number (codes "2") ∷ key (codes "lastRestart") ∷ number (codes "1130000")
    ∷ key (codes "state") ∷ string (codes "stopped") ∷ key (codes "last") ∷ number (codes "40000000")
    ∷ key (codes "times") ∷ begin_object ∷ key (codes "bootUp") ∷ number (codes "1999") ∷ key (codes "preOperational") ∷ number (codes "2000000")
    ∷ key (codes "operational") ∷ number (codes "30000000") ∷ key (codes "stopped") ∷ number (codes "400")
    ∷ key (codes "unknown") ∷ number (codes "5000") ∷ end_object ∷ []
unfolding node_front object_begin number_member text_member digits
front = refl

-- without a restart there is no stamp of the last one, and without a frame no state
front_without : node_front 7 (server None)
    ≡ begin_object ∷ key (codes "node") ∷ number (codes "7") ∷ key (codes "bootUps") ∷ number (codes "3")
    ∷ key (codes "restartsWithoutCommand") ∷ number (codes "0")
    ∷ key (codes "times") ∷ begin_object ∷ key (codes "bootUp") ∷ number (codes "1999") ∷ key (codes "preOperational") ∷ number (codes "2000000")
    ∷ key (codes "operational") ∷ number (codes "30000000") ∷ key (codes "stopped") ∷ number (codes "400")
    ∷ key (codes "unknown") ∷ number (codes "5000") ∷ end_object ∷ []
unfolding node_front object_begin number_member digits
front_without = refl

all_waits : wait_members heartbeats
    ≡ key (codes "heartbeatTime") ∷ number (codes "100") ∷ key (codes "lateHeartbeats") ∷ number (codes "2")
    ∷ key (codes "longestLateGap") ∷ number (codes "151000") ∷ key (codes "longestGap") ∷ number (codes "800000")
    ∷ key (codes "medianGap") ∷ number (codes "210000") ∷ []
unfolding wait_members number_member median digits
all_waits = refl

-- what isn't there isn't written
of_no_heartbeats : wait_members no_heartbeats ≡ key (codes "lateHeartbeats") ∷ number (codes "0") ∷ []
unfolding wait_members number_member median digits
of_no_heartbeats = refl

-- silent by its heartbeats
abbrev silence : Silence
silence = record { since = 40000000; pace = Written 100 }

all_wrong : node_end None heartbeats (Some silence) (Some 1200)
    ≡ key (codes "lostGap") ∷ number (codes "800000") ∷ key (codes "silentSince") ∷ number (codes "40000000")
    ∷ key (codes "longestAnswer") ∷ number (codes "1200") ∷ end_object ∷ []
unfolding node_end number_member median digits
all_wrong = refl

-- by a sheet's 600 ms no wait is too long
none_wrong : node_end (Some 600) heartbeats None None ≡ end_object ∷ []
unfolding node_end median
none_wrong = refl

module _ (bus : BusCounts) where
  abbrev ended : ℕ → BusCounts
  ended end = record bus { all = ended_at end; rows = [] }

  object : tokens_in (ended 41000000) None 6 (node 2)
      ≡ node_front 6 (node 2) ++ wait_members heartbeats ++ node_end None heartbeats (Some silence) (Some 1200)
  unfolding node_tokens silence_of
  object = refl

  -- 150 ms after the last heartbeat, by the recording, it isn't silent
  not_silent : tokens_in (ended 40150000) None 6 (node 2)
      ≡ node_front 6 (node 2) ++ wait_members heartbeats ++ node_end None heartbeats None (Some 1200)
  unfolding node_tokens silence_of
  not_silent = refl

  no_object : tokens_in (ended 41000000) None 6 (server None) ≡ []
  unfolding silence_of pdo_silence median
  no_object = refl

-- one that has no line on the page, and is silent by its PDOs
silent_object : tokens_if None 6 (server None) (Some silence)
    ≡ node_front 6 (server None) ++ wait_members no_heartbeats ++ node_end None no_heartbeats (Some silence) None
unfolding node_tokens
silent_object = refl

-- ---- SDO transfers and EMCY messages

abbrev row : Reason → FailureRow
row reason = record { cause = record { node = 5; reason = reason }; count = 12; first = 1000250; last = 3001000 }

aborted_object : failure_tokens Failures (row (Code 0x06020000))
    ≡ begin_object ∷ key (codes "node") ∷ number (codes "5") ∷ key (codes "abortCode") ∷ string (codes "06020000")
    ∷ key (codes "count") ∷ number (codes "12") ∷ key (codes "first") ∷ number (codes "1000250") ∷ key (codes "last") ∷ number (codes "3001000") ∷ end_object ∷ []
unfolding failure_tokens counted_tokens number_member text_member digits_text digits
aborted_object = refl

unanswered_object : failure_tokens Failures (row NoCode)
    ≡ begin_object ∷ key (codes "node") ∷ number (codes "5")
    ∷ key (codes "count") ∷ number (codes "12") ∷ key (codes "first") ∷ number (codes "1000250") ∷ key (codes "last") ∷ number (codes "3001000") ∷ end_object ∷ []
unfolding failure_tokens counted_tokens number_member digits
unanswered_object = refl

other_size_object : failure_tokens Failures (row OtherSize)
    ≡ begin_object ∷ key (codes "node") ∷ number (codes "5") ∷ key (codes "result") ∷ string (codes "sizeDiffers")
    ∷ key (codes "count") ∷ number (codes "12") ∷ key (codes "first") ∷ number (codes "1000250") ∷ key (codes "last") ∷ number (codes "3001000") ∷ end_object ∷ []
unfolding failure_tokens counted_tokens number_member text_member digits
other_size_object = refl

wrong_crc_object : failure_tokens Failures (row WrongCrc)
    ≡ begin_object ∷ key (codes "node") ∷ number (codes "5") ∷ key (codes "result") ∷ string (codes "crcDiffers")
    ∷ key (codes "count") ∷ number (codes "12") ∷ key (codes "first") ∷ number (codes "1000250") ∷ key (codes "last") ∷ number (codes "3001000") ∷ end_object ∷ []
unfolding failure_tokens counted_tokens number_member text_member digits
wrong_crc_object = refl

emergency_object : failure_tokens Emergencies (row (Code 0x8110))
    ≡ begin_object ∷ key (codes "node") ∷ number (codes "5") ∷ key (codes "errorCode") ∷ string (codes "8110")
    ∷ key (codes "count") ∷ number (codes "12") ∷ key (codes "first") ∷ number (codes "1000250") ∷ key (codes "last") ∷ number (codes "3001000") ∷ end_object ∷ []
unfolding failure_tokens counted_tokens number_member text_member digits_text digits
emergency_object = refl

-- ---- a transfer of 1018:01 that is open, its last frame at 2 s

module _ (transfer : Ended) where
  abbrev waiting : Ended
  waiting = record transfer { key = record { index = 0x1018; sub = 1 }; newest = 2000000 }

  no_waiting_object : open_tokens_in 7 (ended_at 3000000) (Some waiting) ≡ []
  no_waiting_object = refl

  waiting_object : open_tokens_in 7 (ended_at 3000001) (Some waiting)
      ≡ begin_object ∷ key (codes "node") ∷ number (codes "7") ∷ key (codes "index") ∷ number (codes "4120")
      ∷ key (codes "subIndex") ∷ number (codes "1") ∷ key (codes "since") ∷ number (codes "2000000") ∷ end_object ∷ []
  unfolding open_tokens key_members number_member digits
  waiting_object = refl
