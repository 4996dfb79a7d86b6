-- Where compare knows nothing of 1017:00, it knows nothing after frames that show nothing of it; nor after a request to write it, or a frame
-- of the client of another SDO channel.
use Rattle.std.proofs.Common.{◌≡◌, ◌≢◌, ℕ, ◌+◌, Bool, true, false, List, [], ◌∷◌, length, Option, Some, None, refl, sym, ◌∙◌, ◌⊎◌, inl, inr, subst}
use Rattle.std.specs.Prelude.{◌==◌, ◌||◌, if◌then◌else◌, IfSome}
use Rattle.std.proofs.lemmas.Bool.{eqb-false, eqb-true, false≢true, or_parts}
use Rattle.co_value.specs.declared.key.Key.{Key}
use Rattle.co_value.specs.Keys.{same_key}
use Rattle.co_frame.specs.FrameContent.{FrameContent}
use Rattle.co_frame.specs.Heartbeats.{heartbeat_bytes, state_byte}
use Rattle.co_frame.specs.SdoFields.{key_in, specifier, subcommand, has_bit}
use Rattle.co_frame.specs.SdoParts.{code_in, segment_in}
use Rattle.co_frame.specs.SdoRequests.{block_download_in, block_upload_in, download_in, request_in, request_row_in}
use Rattle.co_frame.specs.declared.heartbeat.Heartbeat.{Heartbeat}
use Rattle.co_frame.specs.declared.nmt.NmtService.{NmtService}
use Rattle.co_frame.specs.declared.nmt.NmtService.TheVariants.{Start, Stop, EnterPreOperational, ResetNode, ResetCommunication}
use Rattle.co_frame.specs.declared.sdo_request.SdoRequest.{SdoRequest}
use Rattle.co_frame.specs.declared.sdo_request.SdoRequest.TheVariants.{Abort as ClientAbort, BlockDownloadInitiate, DownloadExpedited, DownloadInitiate, DownloadSegment, Upload as UploadInitiate, UploadSegment}
use Rattle.co_profile.specs.Keys.{producer_key}
use Rattle.co_node_model.specs.Heartbeats.{life_frames}
use Rattle.conode_explain_laws.proofs.Begins.{HasKey, both, has_key}
use Rattle.conode_explain_transfers.specs.declared.ended.Ended.{Ended}
use Rattle.conode_explain_transfers.specs.declared.kinds.Side.{Side}
use Rattle.conode_explain_transfers.specs.declared.kinds.Side.TheVariants.{Client, Server}
use Rattle.conode_compare_transfers.specs.Breaches as breaches
use Rattle.conode_compare_transfers.specs.Dialogues.{asks_to_write, exchange_in}
use Rattle.conode_compare_nmt.specs.declared.clients.OtherClients.{OtherClients}
use Rattle.conode_compare_rules.specs.declared.kind.FrameKind.{FrameKind}
use Rattle.conode_compare_rules.specs.declared.kind.FrameKind.TheVariants.{Command, CommandToAll, LongCommand, Control, Emergency as Emcy, OddEmergency, Other, Process, Sdo}
use Rattle.conode_compare_nmt.specs.declared.limits.Subject.{Subject}
use Rattle.conode_compare_rules.specs.declared.progress.Progress.{Progress}
use Rattle.conode_compare_nmt.specs.EntriesInForce.{asked_to_write, overwritten, shown_period}
use Rattle.conode_compare_rules.specs.FrameKinds.{command_kind, control_kind, data_kind, emergency_kind, length_of}
use Rattle.conode_compare_rules.specs.NmtFrames as nmt_frames
use Rattle.conode_compare_rules.specs.Gaps.{begins_anew, begun, with_gap}
use Rattle.conode_compare_rules.specs.NmtFrames.{after_command}
use Rattle.conode_compare_rules.specs.EmergencyRules.{after_emergency}
use Rattle.conode_compare_rules.specs.Channels.{after_sdo, answer_noted, channel_heard, exchange_at, exchange_noted, hides_end, late_noted}
use Rattle.conode_compare_rules.specs.Processes.{after_process, is_of_client}
use Rattle.conode_compare_rules.specs.Progresses.{after_frame, progress_with}
use Rattle.conode_compare_laws.specs.AnswerSenders.{IsOther}
use Rattle.conode_compare_laws.specs.Identifiers.{AreWithout}
use Rattle.conode_compare_laws.specs.OtherWriters.{IsTold}
use Rattle.conode_compare_laws.specs.ShownWords.{is_expedited_download}
use Rattle.conode_compare_laws.proofs.AnswerExchange.{request_kind}
use Rattle.conode_compare_laws.proofs.Beats.{client_such, is_other, noted_shows, other_kind, right_shown, sdo_such}
use Rattle.conode_compare_laws.proofs.ExpeditedAnswers.{is_long_download}
use Rattle.conode_compare_laws.proofs.Frames.{life_kind}
use Rattle.conode_compare_laws.proofs.Heartbeats.{IsUnknown}
use Rattle.conode_compare_laws.proofs.NamedKeys.{beside_such}
use Rattle.conode_compare_laws.proofs.ShowsWord.{AllShow, Shown, ShowsAt}
use Rattle.conode_compare_laws.proofs.TpdoNames.{key_is}

-- ---- a request to write

abbrev asks_to_download : Option SdoRequest → Bool
asks_to_download (Some (DownloadExpedited key value)) = true
asks_to_download (Some (DownloadInitiate key size)) = true
asks_to_download (Some (BlockDownloadInitiate key size)) = true
asks_to_download _ = false

-- it has one of their two command specifiers, 1 and 6
writes_row : (bytes : List ℕ) → asks_to_download (request_row_in bytes) ≡ true → ((specifier bytes == 1) || (specifier bytes == 6)) ≡ true
unfolding request_row_in
writes_row bytes h = by (specifier bytes == 0) (specifier bytes == 1) (specifier bytes == 2) (specifier bytes == 3) (specifier bytes == 4) (specifier bytes == 5) (specifier bytes == 6) h
  where
    no_upload : asks_to_download (Some (block_upload_in bytes)) ≡ false
    no_upload =
        let P : SdoRequest → Type 0 = λ r. asks_to_download (Some r) ≡ false in
        both P (subcommand bytes == 0) _ _ refl (both P (subcommand bytes == 1) _ _ refl (both P (subcommand bytes == 2) _ _ refl refl))

    by : (a b c d e f g : Bool)
        → asks_to_download (if a then Some (DownloadSegment (has_bit 4 bytes) (segment_in bytes) (has_bit 0 bytes))
        else (if b then Some (download_in bytes)
        else (if c then Some (UploadInitiate (key_in bytes))
        else (if d then Some (UploadSegment (has_bit 4 bytes))
        else (if e then Some (ClientAbort (key_in bytes) (code_in bytes))
        else (if f then Some (block_upload_in bytes)
        else (if g then Some (block_download_in bytes)
        else None))))))) ≡ true
        → (b || g) ≡ true
    by true b c d e f g h = absurd (false≢true h)
    by false true c d e f g h = refl
    by false false true d e f g h = absurd (false≢true h)
    by false false false true e f g h = absurd (false≢true h)
    by false false false false true f g h = absurd (false≢true h)
    by false false false false false true g h = absurd (false≢true (sym no_upload ∙ h))
    by false false false false false false true h = refl
    by false false false false false false false h = absurd (false≢true h)

-- a frame asks to write 1017:00
pub record AsksPeriod (frame : FrameContent) : Type 0 where
  pub writes : asks_to_write frame ≡ true
  pub key : same_key (breaches.key_in frame) producer_key ≡ true

whole_frame : (eight : Bool) (r : Option SdoRequest) → asks_to_download (if eight then r else None) ≡ true → (eight ≡ true) × (asks_to_download r ≡ true)
whole_frame true r h = (refl, h)
whole_frame false r h = absurd (false≢true h)

named_by : (bytes : List ℕ) (r : Option SdoRequest) → IfSome r (HasKey bytes) → (is_expedited_download producer_key r ≡ true) ⊎ (is_long_download producer_key r ≡ true) → (asks_to_download r ≡ true) × (same_key (key_in bytes) producer_key ≡ true)
named_by bytes (Some (DownloadExpedited named value)) k (inl own) = (refl, subst (λ (x : Key). same_key x producer_key ≡ true) k own)
named_by bytes (Some (DownloadInitiate named size)) k (inr own) = (refl, subst (λ (x : Key). same_key x producer_key ≡ true) k own)
named_by bytes (Some (BlockDownloadInitiate named size)) k (inr own) = (refl, subst (λ (x : Key). same_key x producer_key ≡ true) k own)
named_by bytes _ k (inl own) = absurd (false≢true own)
named_by bytes _ k (inr own) = absurd (false≢true own)

pub asks_period : (frame : FrameContent) → (is_expedited_download producer_key (request_in frame.bytes) ≡ true) ⊎ (is_long_download producer_key (request_in frame.bytes) ≡ true) → AsksPeriod frame
asks_period frame own =
    let n = named_by frame.bytes (request_in frame.bytes) (has_key frame.bytes) own in
    let w = whole_frame (length frame.bytes == 8) (request_row_in frame.bytes) n.0 in
    record {
      writes = writes_row frame.bytes w.1;
      key = subst (λ (x : Key). same_key x producer_key ≡ true) (key_is frame (eqb-true (length frame.bytes) 8 w.0)) n.1;
    }

-- nothing is known of it after such a frame
asked_sdo : (subject : Subject) (p : Progress) (micros : ℕ) (frame : FrameContent) → AsksPeriod frame → IsUnknown (after_sdo subject p micros Client frame)
unfolding channel_heard exchange_noted asked_to_write
asked_sdo subject p micros frame asks = rw (asks.writes, asks.key) tt

pub asked_unknown : (subject : Subject) (p : Progress) (micros : ℕ) (frame : FrameContent) → frame.id ≡ 0x600 + subject.node → AsksPeriod frame → IsUnknown (progress_with subject p micros (data_kind subject.node frame))
unfolding progress_with
asked_unknown subject p micros frame id asks =
    subst (λ kind. IsUnknown (after_frame subject (begun subject p micros) micros kind)) (sym (request_kind subject.node frame id)) (asked_sdo subject (begun subject p micros) micros frame asks)

-- ---- a frame of the client of another SDO channel

-- such an identifier is one of neither the default channel's frames
pub told_other : (node : ℕ) (clients : OtherClients) (id : ℕ) → IsTold node clients id → IsOther node id
told_other node clients id told =
    let parts = or_parts (id == 0x80 + node) ((id == 0x580 + node) || ((id == 0x600 + node) || (id == 0x700 + node))) told.device in
    let next = or_parts (id == 0x580 + node) ((id == 0x600 + node) || (id == 0x700 + node)) parts.1 in
    (eqb-false id (0x580 + node) next.0, eqb-false id (0x600 + node) (or_parts (id == 0x600 + node) (id == 0x700 + node) next.1).0)

told_kind : (node : ℕ) (clients : OtherClients) (frame : FrameContent) → IsTold node clients frame.id → data_kind node frame ≡ Process frame.id (length_of frame)
told_kind node clients frame told = by (frame.id == 0) (frame.id == 0x80 + node) (frame.id == 0x580 + node) (frame.id == 0x600 + node) (frame.id == 0x700 + node) told.command told.device
  where
    by : (a b c d e : Bool) → a ≡ false → (b || (c || (d || e))) ≡ false
        → (if a then command_kind node frame
        else (if b then emergency_kind frame
        else (if c then Sdo Server frame
        else (if d then Sdo Client frame
        else (if e then control_kind frame else Process frame.id (length_of frame)))))) ≡ Process frame.id (length_of frame)
    by true b c d e p q = absurd (false≢true (sym p))
    by false true c d e p q = absurd (false≢true (sym q))
    by false false true d e p q = absurd (false≢true (sym q))
    by false false false true e p q = absurd (false≢true (sym q))
    by false false false false true p q = absurd (false≢true (sym q))
    by false false false false false p q = refl

told_process : (subject : Subject) (p : Progress) (micros id length : ℕ) → is_of_client subject id ≡ true → IsUnknown (after_process subject p micros id length)
unfolding after_process overwritten
told_process subject p micros id length on = rw on tt

-- nothing is known of it after such a frame either
pub told_unknown : (subject : Subject) (p : Progress) (micros : ℕ) (frame : FrameContent) → IsTold subject.node subject.facts.clients frame.id → IsUnknown (progress_with subject p micros (data_kind subject.node frame))
unfolding progress_with
told_unknown subject p micros frame told =
    subst (λ kind. IsUnknown (after_frame subject (begun subject p micros) micros kind)) (sym (told_kind subject.node subject.facts.clients frame told)) (told_process subject (begun subject p micros) micros frame.id (length_of frame) told.client)

-- ---- a frame that shows nothing

two_words : (w v : ℕ) → w ≢ v → (o : Option ℕ) → IfSome o (λ n. n ≡ w) → IfSome o (λ n. n ≡ v) → IfSome o (λ n. ⊥)
two_words w v differ None a b = tt
two_words w v differ (Some n) a b = differ (sym a ∙ b)

-- a transfer that shows two numbers shows none
module _ (w v : ℕ) (differ : w ≢ v) where
  none_shown : (o : Option Ended) → IfSome o (Shown producer_key w) → IfSome o (Shown producer_key v) → IfSome o (λ e. IfSome (shown_period e) (λ n. ⊥))
  none_shown None a b = tt
  none_shown (Some e) a b = two_words w v differ (shown_period e) (right_shown w (Some e) a) (right_shown v (Some e) b)

  sdo_unknown : (subject : Subject) (p : Progress) (micros : ℕ) (side : Side) (frame : FrameContent) → ShowsAt producer_key w p micros (Sdo side frame) → ShowsAt producer_key v p micros (Sdo side frame) → IsUnknown p
      → IsUnknown (after_sdo subject p micros side frame)
  unfolding exchange_at exchange_in
  sdo_unknown subject p micros side frame a b h =
      let ended : Option Ended = (exchange_at subject p micros side frame).heard.ended in
      sdo_such (λ n. ⊥) subject p micros side frame (beside_such (λ e. IfSome (shown_period e) (λ n. ⊥)) (hides_end subject p micros ended) ended (none_shown ended a b)) h

  command_unknown : (p : Progress) (micros : ℕ) (service : NmtService) (own : Bool) → IsUnknown p → IsUnknown (after_command p service own micros)
  unfolding after_command with_gap
  command_unknown p micros Start own h = h
  command_unknown p micros Stop own h = h
  command_unknown p micros EnterPreOperational own h = h
  command_unknown p micros ResetNode own h = h
  command_unknown p micros ResetCommunication own h = h

  noted_unknown : (subject : Subject) (p : Progress) (micros : ℕ) → IsUnknown p → IsUnknown (answer_noted subject p micros)
  unfolding late_noted
  noted_unknown subject p micros h = h

  other_unknown : (subject : Subject) (p : Progress) (micros : ℕ) (kind : FrameKind) → is_other kind ≡ true → ShowsAt producer_key w p micros kind → ShowsAt producer_key v p micros kind → IsUnknown p
      → IsUnknown (after_frame subject p micros kind)
  unfolding after_emergency after_process
  other_unknown subject p micros (Command service) is a b h = command_unknown p micros service false h
  other_unknown subject p micros (CommandToAll service) is a b h = command_unknown p micros service subject.facts.starts_itself h
  other_unknown subject p micros (LongCommand service) is a b h = command_unknown p micros service true h
  other_unknown subject p micros (Emcy code register) is a b h = h
  other_unknown subject p micros (OddEmergency length) is a b h = h
  other_unknown subject p micros (Process id length) is a b h = client_such (λ n. ⊥) p.entries (is_of_client subject id) h
  other_unknown subject p micros Other is a b h = h
  other_unknown subject p micros (Sdo Server frame) is a b h =
      sdo_unknown subject (answer_noted subject p micros) micros Server frame (noted_shows subject p micros frame w a) (noted_shows subject p micros frame v b) (noted_unknown subject p micros h)
  other_unknown subject p micros (Sdo Client frame) is a b h = sdo_unknown subject p micros Client frame a b h
  other_unknown subject p micros _ is a b h = absurd (false≢true is)

  -- ---- one after another, where nothing is known before a boot-up

  module _ (subject : Subject) (micros : ℕ) (before : subject.facts.before.period ≡ None) where
    begun_unknown : (p : Progress) → IsUnknown p → IsUnknown (begun subject p micros)
    unfolding begun
    begun_unknown p h = by (begins_anew subject.limits p micros) _ _ (subst (λ o. IfSome o (λ n. ⊥)) (sym before) tt) h
      where
        by : (b : Bool) (x y : Progress) → IsUnknown x → IsUnknown y → IsUnknown (if b then x else y)
        by true x y g h = g
        by false x y g h = h

    one_unknown : (p : Progress) (frame : FrameContent) → frame.id ≢ 0x700 + subject.node → ShowsAt producer_key w (begun subject p micros) micros (data_kind subject.node frame)
        → ShowsAt producer_key v (begun subject p micros) micros (data_kind subject.node frame) → IsUnknown p → IsUnknown (progress_with subject p micros (data_kind subject.node frame))
    unfolding progress_with
    one_unknown p frame other a b h = other_unknown subject (begun subject p micros) micros (data_kind subject.node frame) (other_kind subject.node frame other) a b (begun_unknown p h)

    pub others_unknown : (frames : List FrameContent) (p : Progress) (x y : Progress → Type 0) → AreWithout (0x700 + subject.node) frames → IsUnknown p → AllShow producer_key w subject micros p frames x → AllShow producer_key v subject micros p frames y
        → AllShow producer_key w subject micros p frames (λ q. x q × (y q × IsUnknown q))
    others_unknown [] p x y without h a b = (a, (b, h))
    others_unknown (frame ∷ later) p x y without h a b =
        (a.0, others_unknown later (progress_with subject p micros (data_kind subject.node frame)) x y without.1 (one_unknown p frame without.0 a.0 b.0 h) a.1 b.1)

    beat_unknown : (p : Progress) (byte : ℕ) → (byte == 0) ≡ false → IsUnknown p → IsUnknown (after_frame subject p micros (Control byte))
    unfolding nmt_frames.after_control
    beat_unknown p byte other h = rw other h

    life_unknown : (p : Progress) (life : Heartbeat) → (state_byte life == 0) ≡ false → IsUnknown p
        → IsUnknown (progress_with subject p micros (data_kind subject.node (record { id = 0x700 + subject.node; bytes = heartbeat_bytes life })))
    unfolding progress_with
    life_unknown p life other h =
        subst (λ kind. IsUnknown (after_frame subject (begun subject p micros) micros kind)) (sym (life_kind subject.node life)) (beat_unknown (begun subject p micros) (state_byte life) other (begun_unknown p h))

    -- a heartbeat, or none
    pub beats_unknown : (life : Option Heartbeat) (p : Progress) (x y : Progress → Type 0) → IfSome life (λ one. (state_byte one == 0) ≡ false) → IsUnknown p → AllShow producer_key w subject micros p (life_frames subject.node life) x
        → AllShow producer_key v subject micros p (life_frames subject.node life) y → AllShow producer_key w subject micros p (life_frames subject.node life) (λ q. x q × (y q × IsUnknown q))
    beats_unknown None p x y beats h a b = (a, (b, h))
    beats_unknown (Some life) p x y beats h a b = (a.0, (a.1, (b.1, life_unknown p life beats h)))
