-- SDO transfers that failed, or are open, and EMCY messages, in JSON. Stamps are in microseconds.
use Rattle.std.specs.Prelude.{ℕ, ◌%◌, if◌then◌else◌, List, [], ◌∷◌, ◌++◌, codes, Option, Some, None}
use Rattle.json.specs.Token.{Token, begin_object, end_object}
use Rattle.conode_json.specs.Members.{text_member}
use Rattle.co_text.specs.Printed.{digits_text}
use Rattle.co_value.specs.declared.key.Key.{Key}
use Rattle.conode_explain_transfers.specs.declared.ended.Ended.{Ended}
use Rattle.conode_stats_counts.specs.declared.failure.FailureRow.{FailureRow}
use Rattle.conode_stats_counts.specs.declared.failure.Reason.{Reason}
use Rattle.conode_stats_counts.specs.declared.failure.Reason.TheVariants.{Code, NoCode, OtherSize, WrongCrc}
use Rattle.conode_stats_counts.specs.declared.tally.Tally.{Tally}
use Rattle.conode_stats_text.specs.declared.finding.Kind.{Kind}
use Rattle.conode_stats_text.specs.declared.finding.Kind.TheVariants.{Emergencies}
use Rattle.conode_stats_text.specs.FailureLines.{is_waiting}
use Rattle.conode_stats.specs.StatsTokens.{number_of}

-- how often something of a node came, with the members of its reason, and the stamps of the first and
-- the last
unfoldable pub counted_tokens : FailureRow → List Token → List Token
counted_tokens row reason =
    (begin_object ∷ []) ++ number_of (codes "node") row.cause.node ++ reason
    ++ number_of (codes "count") row.count ++ number_of (codes "first") row.first ++ number_of (codes "last") row.last
    ++ end_object ∷ []

-- the code of an abort, or of an EMCY message
abbrev pub code_name : Kind → List ℕ
code_name Emergencies = codes "errorCode"
code_name _ = codes "abortCode"

abbrev pub code_digits : Kind → ℕ → List ℕ
code_digits Emergencies code = digits_text 16 4 (code % 65536)
code_digits _ code = digits_text 16 8 code

-- of a confirmed transfer the result, as in the documents of `explain`
abbrev pub reason_members : Kind → Reason → List Token
reason_members kind (Code code) = text_member (code_name kind) (code_digits kind code)
reason_members kind NoCode = []
reason_members kind OtherSize = text_member (codes "result") (codes "sizeDiffers")
reason_members kind WrongCrc = text_member (codes "result") (codes "crcDiffers")

-- a row of a kind
unfoldable pub failure_tokens : Kind → FailureRow → List Token
failure_tokens kind row = counted_tokens row (reason_members kind row.cause.reason)

unfoldable pub key_members : Key → List Token
key_members key = number_of (codes "index") key.index ++ number_of (codes "subIndex") key.sub

-- a transfer that is open at the end
unfoldable pub open_tokens : ℕ → Ended → List Token
open_tokens node transfer =
    (begin_object ∷ []) ++ number_of (codes "node") node ++ key_members transfer.key
    ++ number_of (codes "since") transfer.newest ++ end_object ∷ []

-- nothing of one with a frame in the last second
abbrev pub open_tokens_in : ℕ → Tally → Option Ended → List Token
open_tokens_in node all None = []
open_tokens_in node all (Some transfer) = if is_waiting all transfer then open_tokens node transfer else []
