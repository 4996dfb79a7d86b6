-- What `compare` finds of the answers on a device's default SDO channel (CiA 301, 7.2.4.3).
use Rattle.std.specs.Prelude.{List, [], ◌∷◌, ◌++◌, Option, Some}
use Rattle.std.specs.Option.{option_to_list}
use Rattle.conode_compare_nmt.specs.declared.finding.Finding.{Finding}
use Rattle.conode_compare_transfers.specs.declared.breach.Breach.TheVariants.{Toggle, Form, AbortKey, Size, Crc, Early}
use Rattle.conode_compare_nmt.specs.declared.finding.Finding.TheVariants.{NoAnswer, Unasked, AnswerKey, AnswerForm, AnswerStopped, Transfer}
use Rattle.conode_compare_rules.specs.declared.kind.FrameKind.{FrameKind}
use Rattle.conode_compare_rules.specs.declared.kind.FrameKind.TheVariants.{Sdo}
use Rattle.conode_compare_rules.specs.declared.verdict.Findings.{Findings}

-- of what is found at a frame of the channel: `no-answer`, `second-sender` of answers, `answer-key`,
-- `answer-form` of the answer to an initiate request, `answer-state`
abbrev pub of_answers : Option Finding → List Finding
of_answers (Some (NoAnswer key waited)) = NoAnswer key waited ∷ []
of_answers (Some Unasked) = Unasked ∷ []
of_answers (Some (AnswerKey key)) = AnswerKey key ∷ []
of_answers (Some (AnswerForm key)) = AnswerForm key ∷ []
of_answers (Some (AnswerStopped key)) = AnswerStopped key ∷ []
of_answers finding = []

-- these, and `no-answer` at a heartbeat
abbrev pub answer_differences : FrameKind → Findings → List Finding
answer_differences (Sdo side frame) found = option_to_list found.answer ++ of_answers found.frame
answer_differences kind found = option_to_list found.answer

-- ---- within a transfer

-- `answer-toggle`, `answer-form` of later answers, `abort-key`, `answer-crc`
abbrev pub of_transfers : Option Finding → List Finding
of_transfers (Some (Transfer (Toggle key))) = Transfer (Toggle key) ∷ []
of_transfers (Some (Transfer (Form key))) = Transfer (Form key) ∷ []
of_transfers (Some (Transfer (AbortKey key))) = Transfer (AbortKey key) ∷ []
of_transfers (Some (Transfer (Crc key came computed))) = Transfer (Crc key came computed) ∷ []
of_transfers finding = []

abbrev pub transfer_differences : FrameKind → Findings → List Finding
transfer_differences (Sdo side frame) found = of_transfers found.frame
transfer_differences kind found = []

-- ---- of its data

-- `answer-size`, `answer-crc`
abbrev pub of_data : Option Finding → List Finding
of_data (Some (Transfer (Size key indicated came))) = Transfer (Size key indicated came) ∷ []
of_data (Some (Transfer (Crc key came computed))) = Transfer (Crc key came computed) ∷ []
of_data finding = []

abbrev pub data_differences : FrameKind → Findings → List Finding
data_differences (Sdo side frame) found = of_data found.frame
data_differences kind found = []

-- ---- of its toggle bits

-- `answer-toggle`
abbrev pub of_toggles : Option Finding → List Finding
of_toggles (Some (Transfer (Toggle key))) = Transfer (Toggle key) ∷ []
of_toggles finding = []

abbrev pub toggle_differences : FrameKind → Findings → List Finding
toggle_differences (Sdo side frame) found = of_toggles found.frame
toggle_differences kind found = []

-- ---- of its timeout

-- `abort-early`
abbrev pub of_timeouts : Option Finding → List Finding
of_timeouts (Some (Transfer (Early key waited time))) = Transfer (Early key waited time) ∷ []
of_timeouts finding = []

abbrev pub timeout_differences : FrameKind → Findings → List Finding
timeout_differences (Sdo side frame) found = of_timeouts found.frame
timeout_differences kind found = []
