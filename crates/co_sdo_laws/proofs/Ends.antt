-- The two ends of a transfer, the client and the channel, as one notion: what an end knows, and
-- what it makes of a frame that comes.
use Rattle.std.proofs.Common.{◌≡◌, ℕ, true, List, ◌∷◌, length, map, Option, Some, None, ap, ◌∙◌}
use Rattle.co_value.specs.declared.key.Key.{Key}
use Rattle.co_sdo_client.specs.Calls.{Message, message_bytes, Answers, with_answer}
use Rattle.co_sdo_client.specs.Stages.{stage_since, held_since}
use Rattle.co_sdo_client.specs.Verdicts.{Verdict, GoesOn, answer_verdict}
use Rattle.co_sdo_client.specs.Outcomes.{state_by}
use Rattle.co_dict.specs.Rows.{Contents}
use Rattle.co_dict.specs.Stores.{IsDictionary}
use Rattle.co_sdo.specs.Log.{Answer, answer_bytes, Exchanged, Log}
use Rattle.co_sdo.specs.Opened.{OpenTransfer}
use Rattle.co_sdo.specs.Replies.{aborted, reply_to}
use Rattle.co_sdo.specs.Completed.{set_by, contents_with}
use Rattle.co_sdo.proofs.Initiations.{exchange}
use Rattle.co_sdo_laws.specs.World.{Setup}
use Rattle.co_sdo_laws.proofs.Channel.{Steps, IsServing, moved, is_served}
use Rattle.co_sdo_laws.proofs.Failures.{has_failed}
use Rattle.co_sdo_laws.proofs.Permits.{lawful_of}

pub record End : Type 1 where
  pub Knows : Type 0
  -- it takes a frame, sends these, and this holds of what it knows then
  pub Takes : Knows → List ℕ → List (List ℕ) → (Knows → Type 0) → Type 0
  -- it gives the transfer up
  pub GivesUp : Knows → List ℕ → Type 0

-- ---- a client that waits knows the answers that it has taken

abbrev pub verdict_of : Setup → Option Answers → List ℕ → Verdict
verdict_of s known frame = answer_verdict s.call (stage_since s.call known) (held_since s.call known) frame

pub record ClientTakes (s : Setup) (known : Option Answers) (frame : List ℕ) (out : List (List ℕ)) (Next : Option Answers → Type 0) : Type 0 where
  pub messages : List Message
  pub is : verdict_of s known frame ≡ GoesOn messages
  pub sends : map message_bytes messages ≡ out
  pub next : Next (Some (with_answer frame known))

abbrev pub client : Setup → End
client s = record {
  Knows = Option Answers;
  Takes = ClientTakes s;
  GivesUp = λ known frame. has_failed (state_by (verdict_of s known frame)) ≡ true;
}

-- ---- a channel knows its past and the contents

abbrev pub after_request : Setup → Log × Contents → List ℕ → Log × Contents
after_request s x frame = (
  Exchanged (exchange frame x.1 (reply_to s.description x.1 x.0 frame)) ∷ x.0,
  contents_with x.1 (set_by s.description x.1 x.0 frame),
)

pub record ChannelTakes (s : Setup) (x : Log × Contents) (frame : List ℕ) (out : List (List ℕ)) (Next : Log × Contents → Type 0) : Type 0 where
  pub sends : map answer_bytes (reply_to s.description x.1 x.0 frame) ≡ out
  pub next : Next (after_request s x frame)

pub record ChannelGivesUp (s : Setup) (x : Log × Contents) (frame : List ℕ) : Type 0 where
  pub key : Key
  pub code : ℕ
  pub is : reply_to s.description x.1 x.0 frame ≡ aborted key code

abbrev pub channel : Setup → End
channel s = record {
  Knows = Log × Contents;
  Takes = ChannelTakes s;
  GivesUp = ChannelGivesUp s;
}

-- this is open, or nothing, and these are the contents
abbrev pub Serving : Setup → Contents → Option OpenTransfer → Log × Contents → Type 0
Serving s left current x = IsServing s (λ contents. contents ≡ left) current x.0 x.1

-- by what a request makes of what is open
pub channel_takes : (s : Setup) → IsDictionary s.description s.contents → (x : Log × Contents) (current : Option OpenTransfer) (frame : List ℕ)
    (answers : List Answer) (out : List (List ℕ)) (opened next : Option OpenTransfer) (after left : Contents)
    → Serving s s.contents current x → length frame ≡ 8 → map answer_bytes answers ≡ out → opened ≡ next → after ≡ left
    → Steps s.description x.1 current frame answers opened after → ChannelTakes s x frame out (Serving s left next)
channel_takes s lawful x current frame answers out opened next after left h long e f g step =
    let made = is_served s x.0 x.1 current frame answers opened after h.serves (lawful_of s lawful x.1 h.lawful) long step in
    record {
      sends = ap (map answer_bytes) made.replies ∙ e;
      next = record { serves = moved _ _ _ _ f made.serves; lawful = made.sets ∙ g };
    }

pub channel_refuses : (s : Setup) → IsDictionary s.description s.contents → (x : Log × Contents) (current : Option OpenTransfer) (frame : List ℕ)
    (key : Key) (code : ℕ) → Serving s s.contents current x → length frame ≡ 8
    → Steps s.description x.1 current frame (aborted key code) None x.1 → ChannelGivesUp s x frame
channel_refuses s lawful x current frame key code h long step =
    record { key = key; code = code; is = (is_served s x.0 x.1 current frame _ _ _ h.serves (lawful_of s lawful x.1 h.lawful) long step).replies }
