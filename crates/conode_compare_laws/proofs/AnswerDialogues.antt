-- What compare has of the channel after a frame: the initiate request that is not answered, and what leaves a doubt.
use Rattle.std.proofs.Common.{◌≡◌, ℕ, Bool, true, false, not, Option, Some, None, refl, sym, ap, ◌∙◌, ◌⊎◌, inl, inr, subst}
use Rattle.std.specs.Prelude.{◌&&◌, ◌||◌, if◌then◌else◌, is_some, IfSome}
use Rattle.std.specs.Option.{option_map_or}
use Rattle.std.proofs.lemmas.Bool.{false≢true}
use Rattle.co_frame.specs.FrameContent.{FrameContent}
use Rattle.co_frame.specs.SdoRequests.{request_in}
use Rattle.co_frame.specs.declared.sdo_request.SdoRequest.{SdoRequest}
use Rattle.co_sdo.specs.OpenTransfers.{is_initiate as initiates}
use Rattle.conode_explain_transfers.specs.declared.kinds.Side.{Side}
use Rattle.conode_explain_transfers.specs.declared.kinds.Side.TheVariants.{Client, Server}
use Rattle.conode_explain_transfers.specs.declared.kinds.What.{What}
use Rattle.conode_explain_transfers.specs.declared.kinds.What.TheVariants as what
use Rattle.conode_explain_transfers.specs.declared.transfer.Transfer.{Transfer}
use Rattle.conode_explain_transfers.specs.Followed.{Followed, Following, followed}
use Rattle.conode_explain_laws.proofs.Readings.{Begin, begun_with, follows_by, request_reading, begun_after}
use Rattle.conode_compare_transfers.specs.declared.dialogue.Asked.{Asked}
use Rattle.conode_compare_transfers.specs.declared.dialogue.Dialogue.{Dialogue}
use Rattle.conode_compare_transfers.specs.declared.left.Left.{Left}
use Rattle.conode_compare_rules.specs.Channels.{left_open}
use Rattle.conode_compare_transfers.specs.Dialogues.{asked_after, dialogue_heard, doubts_request, exchange_in, is_awaited, is_certain, is_initiate, is_of_earlier, is_in_doubt, leaves_request_open, owes, owes_nothing}
use Rattle.conode_compare_transfers.specs.Times.{is_past}
use Rattle.conode_compare_laws.proofs.AnswerTurns.{Sound}
use Rattle.conode_compare_laws.proofs.AnswerFollowed.{GoesOn, GoesOpen, Leaves, client_open, client_reading, goes_on, leaves_is, next_is, no_begin, reads, server_goes, what_is}
use Rattle.conode_compare_laws.proofs.AnswerFound.{never_past}

module _ (answer started : ℕ) (d : Dialogue) (micros : ℕ) (side : Side) (frame : FrameContent) where
  -- by what explain says of the frame
  pub channel_is : (dialogue_heard answer started d micros side frame).channel ≡ (reads d.channel micros side frame.bytes).next
  unfolding dialogue_heard
  channel_is = next_is d.channel micros side frame.bytes

  pub asked_is : (dialogue_heard answer started d micros side frame).asked ≡ asked_after (reads d.channel micros side frame.bytes).says.what micros frame
  unfolding dialogue_heard
  asked_is = ap (λ w. asked_after w micros frame) (what_is d.channel micros side frame.bytes)

  pub doubted_is : (dialogue_heard answer started d micros side frame).doubted
      ≡ (if leaves_request_open (owes answer started d) (owes_nothing d.newest) side d.doubted (reads d.channel micros side frame.bytes).says frame || is_in_doubt (doubts_request answer d micros frame) (reads d.channel micros side frame.bytes).says.what then Some micros else d.doubted)
  unfolding dialogue_heard
  doubted_is =
      ap (λ b. if b || is_in_doubt (doubts_request answer d micros frame) (followed d.channel micros side frame.bytes).says.what then Some micros else d.doubted) (leaves_is (owes answer started d) (owes_nothing d.newest) d.doubted d.channel micros side frame)
      ∙ ap (λ w. if leaves_request_open (owes answer started d) (owes_nothing d.newest) side d.doubted (reads d.channel micros side frame.bytes).says frame || is_in_doubt (doubts_request answer d micros frame) w then Some micros else d.doubted) (what_is d.channel micros side frame.bytes)

  -- a request is left open
  pub doubted_by : leaves_request_open (owes answer started d) (owes_nothing d.newest) side d.doubted (reads d.channel micros side frame.bytes).says frame ≡ true → (dialogue_heard answer started d micros side frame).doubted ≡ Some micros
  doubted_by leaves = doubted_is ∙ ap (λ b. if b || is_in_doubt (doubts_request answer d micros frame) (reads d.channel micros side frame.bytes).says.what then Some micros else d.doubted) leaves

pub none_asked : (w : What) (micros : ℕ) (frame : FrameContent) → is_initiate w ≡ false → asked_after w micros frame ≡ None
none_asked what.Initiate micros frame h = absurd (false≢true (sym h))
none_asked _ micros frame h = refl

pub doubt_stays : (b : Bool) (micros : ℕ) (doubted : Option ℕ) → doubted ≡ Some micros → (if b then Some micros else doubted) ≡ Some micros
doubt_stays true micros doubted h = refl
doubt_stays false micros doubted h = h

-- ---- a frame of the server

pub record ServerHeard (current : Option Transfer) (d : Dialogue) : Type 0 where
  pub sound : IfSome d.channel.transfer Sound
  pub asked : d.asked ≡ None

pub server_heard : (answer started : ℕ) (d : Dialogue) (micros : ℕ) (frame : FrameContent) → IfSome d.channel.transfer Sound → ServerHeard d.channel.transfer (dialogue_heard answer started d micros Server frame)
server_heard answer started d micros frame s =
    let g : GoesOn d.channel.transfer (reads d.channel micros Server frame.bytes) = server_goes d.channel micros frame.bytes s in
    record {
      sound = subst (λ (f : Following). IfSome f.transfer Sound) (sym (channel_is answer started d micros Server frame)) g.sound;
      asked = asked_is answer started d micros Server frame ∙ none_asked (reads d.channel micros Server frame.bytes).says.what micros frame g.what;
    }

pub what_heard : (answer started : ℕ) (d : Dialogue) (micros : ℕ) (frame : FrameContent) → (exchange_in answer started d micros Server frame).heard.what ≡ (reads d.channel micros Server frame.bytes).says.what
unfolding exchange_in
what_heard answer started d micros frame = what_is d.channel micros Server frame.bytes

pub asked_before : (answer started : ℕ) (d : Dialogue) (micros : ℕ) (frame : FrameContent) → (exchange_in answer started d micros Server frame).asked ≡ d.asked
unfolding exchange_in
asked_before answer started d micros frame = refl

-- ---- in doubt

never_certain : (answer started : ℕ) (slow : Left) (doubted : Option ℕ) (micros : ℕ) → doubted ≡ Some micros → is_certain answer started slow doubted micros ≡ false
unfolding is_certain
never_certain answer started slow doubted micros is =
    by (not (is_awaited slow micros)) (is_past started answer micros) (option_map_or (λ d. is_past d answer micros) doubted true)
    (ap (λ o. option_map_or (λ d. is_past d answer micros) o true) is ∙ never_past micros answer)
  where
    by : (a b c : Bool) → c ≡ false → (a && (b && c)) ≡ false
    by true true c h = h
    by true false c h = refl
    by false b c h = refl

pub in_doubt : (answer started : ℕ) (d : Dialogue) (micros : ℕ) (frame : FrameContent) → d.doubted ≡ Some micros → (exchange_in answer started d micros Server frame).certain ≡ false
unfolding exchange_in
in_doubt answer started d micros frame is =
    ap (λ b. b && not (is_of_earlier answer d micros Server (followed d.channel micros Server frame.bytes).says frame)) (never_certain answer started d.slow d.doubted micros is)

-- ---- a frame of the client that begins nothing

pub record LaterHeard (micros : ℕ) (d : Dialogue) : Type 0 where
  pub sound : IfSome d.channel.transfer Sound
  pub asked : d.asked ≡ None
  pub live : (d.doubted ≡ Some micros) ⊎ (is_some d.channel.transfer ≡ true)

pub client_is : (d : Dialogue) (micros : ℕ) (frame : FrameContent) → IfSome d.channel.transfer Sound
    → reads d.channel micros Client frame.bytes ≡ follows_by d.channel.heard d.channel.transfer (request_reading (request_in frame.bytes) micros frame.bytes) micros Client frame.bytes
client_is d micros frame s = ap (λ r. follows_by d.channel.heard d.channel.transfer r micros Client frame.bytes) (client_reading d.channel.transfer micros frame.bytes s)

pub later_heard : (answer started : ℕ) (d : Dialogue) (micros : ℕ) (frame : FrameContent) → IfSome d.channel.transfer Sound → initiates (request_in frame.bytes) ≡ false
    → LaterHeard micros (dialogue_heard answer started d micros Client frame)
later_heard answer started d micros frame s n =
    let r : Option SdoRequest = request_in frame.bytes in
    let f : Followed = follows_by d.channel.heard d.channel.transfer (request_reading r micros frame.bytes) micros Client frame.bytes in
    let same : reads d.channel micros Client frame.bytes ≡ f = client_is d micros frame s in
    let g : GoesOn d.channel.transfer f = goes_on d.channel.heard d.channel.transfer (request_reading r micros frame.bytes) micros Client frame.bytes s (no_begin r micros frame.bytes n) in
    let o : GoesOpen f frame = client_open d.channel.heard d.channel.transfer r micros frame s n in
    let channel : (dialogue_heard answer started d micros Client frame).channel ≡ f.next = channel_is answer started d micros Client frame ∙ ap (λ (x : Followed). x.next) same in
    let doubts : Leaves Client f frame → (dialogue_heard answer started d micros Client frame).doubted ≡ Some micros =
    λ h. doubted_by answer started d micros Client frame (ap (λ (x : Followed). leaves_request_open (owes answer started d) (owes_nothing d.newest) Client d.doubted x.says frame) same ∙ h (owes answer started d) (owes_nothing d.newest) d.doubted) in
    record {
      sound = subst (λ (x : Following). IfSome x.transfer Sound) (sym channel) g.sound;
      asked = asked_is answer started d micros Client frame ∙ ap (λ (x : Followed). asked_after x.says.what micros frame) same ∙ none_asked f.says.what micros frame g.what;
      live = elim o [ inl doubt ↦ inl (doubts doubt) | inr live ↦ inr (ap (λ (x : Following). is_some x.transfer) channel ∙ live) ];
    }

-- ---- an initiate request

pub record InitiateHeard (t : Transfer) (micros : ℕ) (d : Dialogue) : Type 0 where
  pub transfer : d.channel.transfer ≡ Some t
  pub sound : Sound t
  pub request : Asked
  pub asked : d.asked ≡ Some request
  pub at_once : request.micros ≡ micros

-- one that the device may not have taken
pub initiate_open : (t : Transfer) (micros : ℕ) (misses : Bool) (d : Dialogue) → InitiateHeard t micros d → InitiateHeard t micros (left_open Client misses d)
initiate_open t micros misses d h = record { transfer = h.transfer; sound = h.sound; request = h.request; asked = h.asked; at_once = h.at_once }

pub initiate_heard : (answer started : ℕ) (d : Dialogue) (micros : ℕ) (frame : FrameContent) (r : SdoRequest) (t : Transfer) → IfSome d.channel.transfer Sound → request_in frame.bytes ≡ Some r
    → begun_with r micros frame.bytes ≡ Some t → request_reading (Some r) micros frame.bytes ≡ Begin t → Sound (begun_after d.channel.transfer frame.bytes t)
    → InitiateHeard (begun_after d.channel.transfer frame.bytes t) micros (dialogue_heard answer started d micros Client frame)
initiate_heard answer started d micros frame r t s is begun reading sound =
    let same : reads d.channel micros Client frame.bytes ≡ follows_by d.channel.heard d.channel.transfer (Begin t) micros Client frame.bytes =
    client_is d micros frame s ∙ ap (λ o. follows_by d.channel.heard d.channel.transfer (request_reading o micros frame.bytes) micros Client frame.bytes) is
    ∙ ap (λ x. follows_by d.channel.heard d.channel.transfer x micros Client frame.bytes) reading in
    record {
      transfer = ap (λ (f : Following). f.transfer) (channel_is answer started d micros Client frame ∙ ap (λ (x : Followed). x.next) same);
      sound = sound;
      request = _;
      asked = asked_is answer started d micros Client frame ∙ ap (λ (x : Followed). asked_after x.says.what micros frame) same;
      at_once = refl;
    }
