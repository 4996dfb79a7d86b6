-- What compare has of the channel after a frame, whatever transfers there are: the initiate request that is not answered, what leaves a
-- doubt, and that a sub-block may be open.
use Rattle.std.proofs.Common.{◌≡◌, ℕ, Bool, true, false, Option, Some, None, refl, sym, ap, ◌∙◌, ◌⊎◌, inl, inr, subst}
use Rattle.std.specs.Prelude.{◌||◌, if◌then◌else◌, is_some, IfSome}
use Rattle.std.specs.Option.{option_map_or}
use Rattle.std.proofs.lemmas.Bool.{false≢true}
use Rattle.co_frame.specs.FrameContent.{FrameContent}
use Rattle.co_frame.specs.SdoRequests.{request_in}
use Rattle.conode_explain_transfers.specs.declared.kinds.Side.TheVariants.{Client, Server}
use Rattle.conode_explain_transfers.specs.declared.kinds.What.TheVariants as what
use Rattle.conode_explain_transfers.specs.declared.transfer.Transfer.{Transfer}
use Rattle.conode_explain_transfers.specs.Endings.{ended}
use Rattle.conode_explain_transfers.specs.Followed.{Followed, Following, left_ending}
use Rattle.conode_explain_laws.proofs.Readings.{Reading, Begin, follows_by, reading_of, begun_after}
use Rattle.conode_explain_laws.proofs.Views.{is_begin}
use Rattle.conode_compare_transfers.specs.declared.dialogue.Asked.{Asked}
use Rattle.conode_compare_transfers.specs.declared.dialogue.Dialogue.{Dialogue}
use Rattle.conode_compare_rules.specs.Channels.{left_open}
use Rattle.conode_compare_transfers.specs.Dialogues.{asked_after, dialogue_heard, doubts_request, exchange_in, is_certain, is_in_doubt, leaves_request_open, owes, owes_nothing}
use Rattle.conode_compare_laws.proofs.AnswerTurns.{is_turned}
use Rattle.conode_compare_laws.proofs.AnswerFollowed.{Leaves, asks_in, block_ends, not_aborted_left, reads, what_is}
use Rattle.conode_compare_laws.proofs.AnswerDialogues.{asked_is, channel_is, doubt_stays, doubted_by, doubted_is, none_asked}
use Rattle.conode_compare_laws.proofs.BlockTurns.{Lasts, Live}
use Rattle.conode_compare_laws.proofs.BlockFollowed.{GoesOn, GoesOpen, LastsOn, client_open, goes_on, server_goes, server_lasts}
use Rattle.conode_compare_laws.proofs.BlockCovers.{Covers, IsDown}

-- ---- a frame of the server

pub record ServerHeard (d : Dialogue) : Type 0 where
  pub live : IfSome d.channel.transfer Live
  pub asked : d.asked ≡ None

pub server_heard : (answer started : ℕ) (d : Dialogue) (micros : ℕ) (frame : FrameContent) → IfSome d.channel.transfer Live → ServerHeard (dialogue_heard answer started d micros Server frame)
server_heard answer started d micros frame s =
    let g : GoesOn d.channel.transfer (reads d.channel micros Server frame.bytes) = server_goes d.channel micros frame.bytes s in
    record {
      live = subst (λ (f : Following). IfSome f.transfer Live) (sym (channel_is answer started d micros Server frame)) g.live;
      asked = asked_is answer started d micros Server frame ∙ none_asked (reads d.channel micros Server frame.bytes).says.what micros frame g.what;
    }

-- what it is, where a transfer is open
pub server_turned : (answer started : ℕ) (d : Dialogue) (micros : ℕ) (frame : FrameContent) → IfSome d.channel.transfer Live → is_some d.channel.transfer ≡ true
    → is_turned (exchange_in answer started d micros Server frame).heard.what ≡ true
unfolding exchange_in
server_turned answer started d micros frame s live =
    ap is_turned (what_is d.channel micros Server frame.bytes) ∙ (server_goes d.channel micros frame.bytes s).turned live

-- ---- while segments are sent: none is asked for, and the transfer lasts or there is a doubt

-- a transfer in blocks is open, or nothing is certain at this time
pub record Sends (micros : ℕ) (d : Dialogue) : Type 0 where
  pub live : IfSome d.channel.transfer Live
  pub asked : d.asked ≡ None
  pub lasts : (d.doubted ≡ Some micros) ⊎ ((is_some d.channel.transfer ≡ true) × IfSome d.channel.transfer Lasts)

lasting : (d : Dialogue) (micros : ℕ) (frame : FrameContent) (t : Transfer) → d.channel.transfer ≡ Some t → Lasts t → LastsOn (reads d.channel micros Server frame.bytes) frame
lasting d micros frame t is l =
    subst (λ o. LastsOn (reads (record { heard = d.channel.heard; transfer = o }) micros Server frame.bytes) frame) (sym is) (server_lasts d.channel.heard t micros frame l)

none_owed : (answer started : ℕ) (d : Dialogue) → d.asked ≡ None → owes answer started d ≡ false
none_owed answer started d none = ap (λ (o : Option Asked). option_map_or (λ a. is_certain answer started d.slow d.doubted a.micros) o false) none

open_after : (answer started : ℕ) (d : Dialogue) (micros : ℕ) (frame : FrameContent) → d.asked ≡ None → LastsOn (reads d.channel micros Server frame.bytes) frame
    → ((dialogue_heard answer started d micros Server frame).doubted ≡ Some micros)
    ⊎ ((is_some (dialogue_heard answer started d micros Server frame).channel.transfer ≡ true) × IfSome (dialogue_heard answer started d micros Server frame).channel.transfer Lasts)
open_after answer started d micros frame none l = elim l.lasts [
  | inl doubt ↦ inl (doubted_by answer started d micros Server frame (ap (λ b. leaves_request_open b (owes_nothing d.newest) Server d.doubted (reads d.channel micros Server frame.bytes).says frame) (none_owed answer started d none) ∙ doubt (owes_nothing d.newest) d.doubted))
  | inr live ↦ inr (
    ap (λ (f : Following). is_some f.transfer) (channel_is answer started d micros Server frame) ∙ live,
    subst (λ (f : Following). IfSome f.transfer Lasts) (sym (channel_is answer started d micros Server frame)) l.blocks,
  )
]

pub sends_on : (answer started : ℕ) (d : Dialogue) (micros : ℕ) (frame : FrameContent) → Sends micros d → Sends micros (dialogue_heard answer started d micros Server frame)
sends_on answer started d micros frame h =
    let s : ServerHeard (dialogue_heard answer started d micros Server frame) = server_heard answer started d micros frame h.live in
    record {
      live = s.live;
      asked = s.asked;
      lasts = elim h.lasts [
        | inl doubt ↦ inl (doubted_is answer started d micros Server frame ∙ doubt_stays (leaves_request_open (owes answer started d) (owes_nothing d.newest) Server d.doubted (reads d.channel micros Server frame.bytes).says frame || is_in_doubt (doubts_request answer d micros frame) (reads d.channel micros Server frame.bytes).says.what) micros d.doubted doubt)
        | inr live ↦ by d.channel.transfer refl live.0 live.1
      ];
    }
  where
    by : (o : Option Transfer) → d.channel.transfer ≡ o → is_some o ≡ true → IfSome o Lasts
        → ((dialogue_heard answer started d micros Server frame).doubted ≡ Some micros)
        ⊎ ((is_some (dialogue_heard answer started d micros Server frame).channel.transfer ≡ true) × IfSome (dialogue_heard answer started d micros Server frame).channel.transfer Lasts)
    by None is some l = absurd (false≢true some)
    by (Some t) is some l = open_after answer started d micros frame h.asked (lasting d micros frame t is l)

-- ---- a frame of the client that begins nothing

pub record LaterHeard (blocks : Bool) (micros : ℕ) (d : Dialogue) : Type 0 where
  pub live : IfSome d.channel.transfer Live
  pub asked : d.asked ≡ None
  pub still_open : (d.doubted ≡ Some micros) ⊎ (is_some d.channel.transfer ≡ true)
  pub lasting : blocks ≡ true → (d.doubted ≡ Some micros) ⊎ IfSome d.channel.transfer Lasts

-- one that the device may not have taken
pub later_open : (blocks : Bool) (micros : ℕ) (misses : Bool) (d : Dialogue) → LaterHeard blocks micros d → LaterHeard blocks micros (left_open Client misses d)
later_open blocks micros misses d h = record { live = h.live; asked = h.asked; still_open = h.still_open; lasting = h.lasting }

pub later_heard : (answer started : ℕ) (d : Dialogue) (micros : ℕ) (frame : FrameContent) → IfSome d.channel.transfer Live → is_begin (reading_of d.channel.transfer Client micros frame.bytes) ≡ false
    → LaterHeard (asks_in (request_in frame.bytes)) micros (dialogue_heard answer started d micros Client frame)
later_heard answer started d micros frame s n =
    let f : Followed = reads d.channel micros Client frame.bytes in
    let g : GoesOn d.channel.transfer f = goes_on d.channel.heard d.channel.transfer (reading_of d.channel.transfer Client micros frame.bytes) micros Client frame.bytes s n in
    let o : GoesOpen (asks_in (request_in frame.bytes)) f frame = client_open d.channel.heard d.channel.transfer micros frame s n in
    let channel : (dialogue_heard answer started d micros Client frame).channel ≡ f.next = channel_is answer started d micros Client frame in
    let doubts : Leaves Client f frame → (dialogue_heard answer started d micros Client frame).doubted ≡ Some micros = λ h. doubted_by answer started d micros Client frame (h (owes answer started d) (owes_nothing d.newest) d.doubted) in
    record {
      live = subst (λ (x : Following). IfSome x.transfer Live) (sym channel) g.live;
      asked = asked_is answer started d micros Client frame ∙ none_asked f.says.what micros frame g.what;
      still_open = elim o.live [ inl doubt ↦ inl (doubts doubt) | inr live ↦ inr (ap (λ (x : Following). is_some x.transfer) channel ∙ live) ];
      lasting = λ b. elim (o.lasting b) [ inl doubt ↦ inl (doubts doubt) | inr lasts ↦ inr (subst (λ (x : Following). IfSome x.transfer Lasts) (sym channel) lasts) ];
    }

-- ---- an initiate request

pub record InitiateHeard (t : Transfer) (micros : ℕ) (d : Dialogue) : Type 0 where
  pub transfer : d.channel.transfer ≡ Some t
  pub live : Live t
  pub request : Asked
  pub asked : d.asked ≡ Some request
  pub at_once : request.micros ≡ micros

-- one that the device may not have taken
pub initiate_open : (t : Transfer) (micros : ℕ) (misses : Bool) (d : Dialogue) → InitiateHeard t micros d → InitiateHeard t micros (left_open Client misses d)
initiate_open t micros misses d h = record { transfer = h.transfer; live = h.live; request = h.request; asked = h.asked; at_once = h.at_once }

pub initiate_heard : (answer started : ℕ) (d : Dialogue) (micros : ℕ) (frame : FrameContent) (t : Transfer) → reading_of d.channel.transfer Client micros frame.bytes ≡ Begin t
    → Live (begun_after d.channel.transfer frame.bytes t) → InitiateHeard (begun_after d.channel.transfer frame.bytes t) micros (dialogue_heard answer started d micros Client frame)
initiate_heard answer started d micros frame t reading live =
    let same : reads d.channel micros Client frame.bytes ≡ follows_by d.channel.heard d.channel.transfer (Begin t) micros Client frame.bytes =
    ap (λ x. follows_by d.channel.heard d.channel.transfer x micros Client frame.bytes) reading in
    record {
      transfer = ap (λ (f : Following). f.transfer) (channel_is answer started d micros Client frame ∙ ap (λ (x : Followed). x.next) same);
      live = live;
      request = _;
      asked = asked_is answer started d micros Client frame ∙ ap (λ (x : Followed). asked_after x.says.what micros frame) same;
      at_once = refl;
    }

-- where a sub-block may be open, it leaves a doubt; so it does where it leaves a block download
pub doubted_begin : (answer started : ℕ) (d : Dialogue) (micros : ℕ) (frame : FrameContent) → is_begin (reading_of d.channel.transfer Client micros frame.bytes) ≡ true → Covers d
    → (dialogue_heard answer started d micros Client frame).doubted ≡ Some micros
doubted_begin answer started d micros frame b c = by (reading_of d.channel.transfer Client micros frame.bytes) refl b
  where
    kept : (leaves : Bool) → d.sub_block ≡ true → (leaves || is_in_doubt (doubts_request answer d micros frame) what.Initiate) ≡ true
    kept true on = refl
    kept false on = rw on refl

    begun : (t : Transfer) → reading_of d.channel.transfer Client micros frame.bytes ≡ Begin t → (d.sub_block ≡ true) ⊎ IsDown d.channel.transfer → (dialogue_heard answer started d micros Client frame).doubted ≡ Some micros
    begun t is (inl on) =
        doubted_is answer started d micros Client frame
        ∙ ap (λ (x : Followed). if leaves_request_open (owes answer started d) (owes_nothing d.newest) Client d.doubted x.says frame || is_in_doubt (doubts_request answer d micros frame) x.says.what then Some micros else d.doubted)
        (ap (λ r. follows_by d.channel.heard d.channel.transfer r micros Client frame.bytes) is)
        ∙ ap (λ b. if b then Some micros else d.doubted) (kept _ on)
    begun t is (inr down) = left d.channel.transfer refl down
      where
        left : (current : Option Transfer) → d.channel.transfer ≡ current → IsDown current → (dialogue_heard answer started d micros Client frame).doubted ≡ Some micros
        left None e down = absurd down
        left (Some old) e down =
            doubted_by answer started d micros Client frame
            (ap (λ (x : Followed). leaves_request_open (owes answer started d) (owes_nothing d.newest) Client d.doubted x.says frame)
            (ap (λ r. follows_by d.channel.heard d.channel.transfer r micros Client frame.bytes) is ∙ ap (λ o. follows_by d.channel.heard o (Begin t) micros Client frame.bytes) e)
            ∙ block_ends (owes answer started d) (owes_nothing d.newest) d.doubted (ended old micros (left_ending old frame.bytes)) frame down.block (not_aborted_left old frame.bytes))

    by : (reading : Reading) → reading_of d.channel.transfer Client micros frame.bytes ≡ reading → is_begin reading ≡ true → (dialogue_heard answer started d micros Client frame).doubted ≡ Some micros
    by (Begin t) is b = begun t is c.covered
    by _ is b = absurd (false≢true b)
