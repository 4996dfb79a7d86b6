-- What a frame, a tick and a look at one channel come to, by the place that a search found.
use Rattle.std.proofs.Common.{◌≡◌, ℕ, ◌<◌, ◌≤◌, Bool, true, false, cond, eqb, List, [], ◌∷◌, ◌++◌, length, get_or, set, refl, sym, ap, ◌∙◌, subst, arith, append-nil, Some, None, Option}
use Rattle.std.specs.Prelude.{position, option_map, ◌&&◌}
use Rattle.std.specs.Option.{option_map_or}
use Rattle.std.proofs.lemmas.Bool.Decides.{nat_tests}
use Rattle.co_value.specs.declared.key.Key.{Key}
use Rattle.co_frame.specs.FrameContent.{FrameContent}
use Rattle.co_dict.specs.Rows.{Contents}
use Rattle.co_dict.specs.Stores.{Description}
use Rattle.co_sdo.specs.Log.{Log, Exchanged, TimedOut, is_request_on, frames_on}
use Rattle.co_sdo.specs.Completed.{contents_with, key_set, set_by}
use Rattle.co_sdo.specs.Opened.{held_bytes, is_time_over}
use Rattle.co_sdo.specs.Replies.{reply_to, time_out_reply}
use Rattle.co_sdo.specs.Standing.{Stands, is_expired, reply_on, set_on, log_on}
use Rattle.co_sdo.specs.declared.channels.NumberedChannel.{NumberedChannel}
use Rattle.co_sdo.specs.Channels.{ChannelSettings, AreInOrder}
use Rattle.co_sdo.specs.Banks.{BankStands, settings_of, all_settings}
use Rattle.co_sdo.specs.Events.{ChannelEvent, exchange_at, exchange_of, exchange_on, frames_at, held_on, logs_after, number_for, number_in, receiver, set_at, set_of, time_out_of, time_out_on}
use Rattle.co_sdo.proofs.Places.{changed_at, expired_at, found, found_none, passes, stands_at, within}

eqb_same : (n : ℕ) → eqb n n ≡ true
eqb_same n = grind (arith, nat_tests)

module _ (d : Description) (channels : List ChannelSettings) (value bank : List NumberedChannel) (same : bank ≡ value) (logs : ℕ → Log) (all : BankStands d channels value logs) where
  -- an event of the one at a place: its log grew, the others stay
  event_at : (e : ChannelEvent) (i : ℕ) (c new : NumberedChannel) → AreInOrder (all_settings bank) → i < length bank → c ≡ get_or bank i c → settings_of new ≡ settings_of c → e.channel.number ≡ c.number
      → Stands d new.channel (e.event ∷ logs c.number) → BankStands d channels (set bank i new) (logs_after (Some e) logs)
  event_at e i c new order lt is kept number stands =
      changed_at d channels value bank same logs all (logs_after (Some e) logs) i c new order lt is kept
      (λ n other. rw number (ap (λ b. cond b (e.event ∷ logs n) (logs n)) other))
      (rw number (rw (eqb_same c.number) stands))

  -- ---- a frame

  module _ (id : ℕ) where
    pub receiver_found : (i : ℕ) (c : NumberedChannel) → position (λ e. eqb e.channel.request id) bank ≡ Some i → c ≡ get_or bank i c → receiver channels id ≡ Some (settings_of c)
    receiver_found i c at is = found d channels value bank same logs all (λ s. eqb s.request id) (λ e. eqb e.channel.request id) (λ j e lt. refl) i c at is

    pub receiver_none : position (λ e. eqb e.channel.request id) bank ≡ None → receiver channels id ≡ None
    receiver_none at = found_none d channels value bank same logs all (λ s. eqb s.request id) (λ e. eqb e.channel.request id) (λ j e lt. refl) at

    pub number_found : (i : ℕ) (c : NumberedChannel) → position (λ e. eqb e.channel.request id) bank ≡ Some i → c ≡ get_or bank i c → Some c.number ≡ number_for channels id
    number_found i c at is = sym (ap (option_map (λ (s : ChannelSettings). s.number)) (receiver_found i c at is))

    pub number_none : position (λ e. eqb e.channel.request id) bank ≡ None → None ≡ number_for channels id
    number_none at = sym (ap (option_map (λ (s : ChannelSettings). s.number)) (receiver_none at))

  module _ (k : Contents) (frame : FrameContent) where
    -- the channel that a frame has the identifier of
    module _ (i : ℕ) (c : NumberedChannel) (at : position (λ e. eqb e.channel.request frame.id) bank ≡ Some i) (is : c ≡ get_or bank i c) where
      here : i < length bank
      here = within (λ e. eqb e.channel.request frame.id) bank i c at

      stands : Stands d c.channel (logs c.number)
      stands = stands_at d channels value bank same logs all i c here is

      is_request : is_request_on c.channel.request frame ≡ eqb (length frame.bytes) 8
      is_request =
          let hears : eqb c.channel.request frame.id ≡ true = passes (λ e. eqb e.channel.request frame.id) bank i c at is in
          let heard : eqb frame.id c.channel.request ≡ true = grind (arith, nat_tests) in
          ap (λ b. b && eqb (length frame.bytes) 8) heard

      exchange_is : exchange_of channels d k logs frame ≡ exchange_at (Some (settings_of c)) d k logs frame
      exchange_is = ap (λ o. exchange_at o d k logs frame) (receiver_found frame.id i c at is)

      frames_is : frames_on c.channel.answer (reply_on c.channel.request d k (logs c.number) frame) ≡ frames_at (exchange_of channels d k logs frame)
      frames_is = ap (λ b. frames_on c.channel.answer (cond b (reply_to d k (logs c.number) frame.bytes) [])) is_request ∙ by_test (eqb (length frame.bytes) 8) ∙ ap frames_at (sym exchange_is)
        where
          by_test : (b : Bool) → frames_on c.channel.answer (cond b (reply_to d k (logs c.number) frame.bytes) []) ≡ frames_at (cond b (Some (exchange_on (settings_of c) d k (logs c.number) frame.bytes)) None)
          by_test true = refl
          by_test false = refl

      pub responses_found : (before after : List FrameContent) → ((log : Log) → Stands d c.channel log → after ≡ before ++ frames_on c.channel.answer (reply_on c.channel.request d k log frame))
          → after ≡ before ++ frames_at (exchange_of channels d k logs frame)
      responses_found before after sent = sent (logs c.number) stands ∙ ap (λ frames. before ++ frames) frames_is

      set_is : set_on c.channel.request d k (logs c.number) frame ≡ set_of channels d k logs frame
      set_is = ap (λ b. cond b (set_by d k (logs c.number) frame.bytes) None) is_request ∙ by_test (eqb (length frame.bytes) 8) ∙ ap (λ o. set_at o d k logs frame) (sym exchange_is)
        where
          by_test : (b : Bool) → cond b (set_by d k (logs c.number) frame.bytes) None ≡ set_at (cond b (Some (exchange_on (settings_of c) d k (logs c.number) frame.bytes)) None) d k logs frame
          by_test true = refl
          by_test false = refl

      pub key_found : (key : Option Key) → ((log : Log) → Stands d c.channel log → key ≡ key_set (set_on c.channel.request d k log frame)) → key ≡ key_set (set_of channels d k logs frame)
      key_found key given = given (logs c.number) stands ∙ ap key_set set_is

      pub contents_found : (after : Contents) → ((log : Log) → Stands d c.channel log → after ≡ contents_with k (set_on c.channel.request d k log frame)) → after ≡ contents_with k (set_of channels d k logs frame)
      contents_found after given = given (logs c.number) stands ∙ ap (contents_with k) set_is

      pub stands_found : (new : NumberedChannel) → AreInOrder (all_settings bank) → settings_of new ≡ settings_of c → ((log : Log) → Stands d c.channel log → Stands d new.channel (log_on c.channel.request d k log frame))
          → BankStands d channels (set bank i new) (logs_after (exchange_of channels d k logs frame) logs)
      stands_found new order kept step =
          subst (λ o. BankStands d channels (set bank i new) (logs_after o logs)) (sym exchange_is)
          (by_test (eqb (length frame.bytes) 8) (subst (λ b. Stands d new.channel (cond b (Exchanged (record { request = frame.bytes; contents = k; answers = reply_to d k (logs c.number) frame.bytes }) ∷ logs c.number) (logs c.number))) is_request (step (logs c.number) stands)))
        where
          exchange : ChannelEvent
          exchange = exchange_on (settings_of c) d k (logs c.number) frame.bytes

          by_test : (b : Bool) → Stands d new.channel (cond b (Exchanged (record { request = frame.bytes; contents = k; answers = reply_to d k (logs c.number) frame.bytes }) ∷ logs c.number) (logs c.number))
              → BankStands d channels (set bank i new) (logs_after (cond b (Some (exchange_on (settings_of c) d k (logs c.number) frame.bytes)) None) logs)
          by_test true s = event_at (exchange_on (settings_of c) d k (logs c.number) frame.bytes) i c new order here is kept refl s
          by_test false s = changed_at d channels value bank same logs all logs i c new order here is kept (λ n other. refl) s

    -- a frame for none of them
    module _ (at : position (λ e. eqb e.channel.request frame.id) bank ≡ None) where
      nothing : exchange_of channels d k logs frame ≡ None
      nothing = ap (λ o. exchange_at o d k logs frame) (receiver_none frame.id at)

      pub responses_none : (before : List FrameContent) → before ≡ before ++ frames_at (exchange_of channels d k logs frame)
      responses_none before = sym (append-nil before) ∙ ap (λ o. before ++ frames_at o) (sym nothing)

      set_none : set_of channels d k logs frame ≡ None
      set_none = ap (λ o. set_at o d k logs frame) nothing

      pub key_none : None ≡ key_set (set_of channels d k logs frame)
      key_none = ap key_set (sym set_none)

      pub contents_none : k ≡ contents_with k (set_of channels d k logs frame)
      contents_none = ap (contents_with k) (sym set_none)

      pub stands_none : BankStands d channels value (logs_after (exchange_of channels d k logs frame) logs)
      stands_none = subst (λ o. BankStands d channels value (logs_after o logs)) (sym nothing) all

  -- ---- the time of a transfer

  module _ (i : ℕ) (c : NumberedChannel) (at : position (λ e. is_expired e.channel) bank ≡ Some i) (is : c ≡ get_or bank i c) where
    within_time : i < length bank
    within_time = within (λ e. is_expired e.channel) bank i c at

    waits : Stands d c.channel (logs c.number)
    waits = stands_at d channels value bank same logs all i c within_time is

    time_out_is : time_out_of channels logs ≡ Some (time_out_on (settings_of c) (logs c.number))
    time_out_is =
        ap (option_map (λ (s : ChannelSettings). time_out_on s (logs s.number)))
        (found d channels value bank same logs all (λ s. is_time_over s.time (logs s.number)) (λ e. is_expired e.channel) (expired_at d channels value bank same logs all) i c at is)

    pub which_found : Some c.number ≡ number_in (time_out_of channels logs)
    which_found = ap number_in (sym time_out_is)

    pub abort_found : (before after : List FrameContent) → ((log : Log) → Stands d c.channel log → after ≡ before ++ frames_on c.channel.answer (time_out_reply log)) → after ≡ before ++ frames_at (time_out_of channels logs)
    abort_found before after sent = sent (logs c.number) waits ∙ ap (λ o. before ++ frames_at o) (sym time_out_is)

    pub gave_up_found : (new : NumberedChannel) → AreInOrder (all_settings bank) → settings_of new ≡ settings_of c → ((log : Log) → Stands d c.channel log → Stands d new.channel (TimedOut (time_out_reply log) ∷ log))
        → BankStands d channels (set bank i new) (logs_after (time_out_of channels logs) logs)
    gave_up_found new order kept step =
        subst (λ o. BankStands d channels (set bank i new) (logs_after o logs)) (sym time_out_is)
        (event_at (time_out_on (settings_of c) (logs c.number)) i c new order within_time is kept refl (step (logs c.number) waits))

  module _ (at : position (λ e. is_expired e.channel) bank ≡ None) where
    no_time_out : time_out_of channels logs ≡ None
    no_time_out =
        ap (option_map (λ (s : ChannelSettings). time_out_on s (logs s.number)))
        (found_none d channels value bank same logs all (λ s. is_time_over s.time (logs s.number)) (λ e. is_expired e.channel) (expired_at d channels value bank same logs all) at)

    pub which_none : None ≡ number_in (time_out_of channels logs)
    which_none = ap number_in (sym no_time_out)

    pub abort_none : (before : List FrameContent) → before ≡ before ++ frames_at (time_out_of channels logs)
    abort_none before = sym (append-nil before) ∙ ap (λ o. before ++ frames_at o) (sym no_time_out)

    pub gave_up_none : BankStands d channels value (logs_after (time_out_of channels logs) logs)
    gave_up_none = subst (λ o. BankStands d channels value (logs_after o logs)) (sym no_time_out) all

  -- ---- the bytes that are held

  module _ (n : ℕ) where
    module _ (i : ℕ) (c : NumberedChannel) (at : position (λ e. eqb e.number n) bank ≡ Some i) (is : c ≡ get_or bank i c) where
      holds : Stands d c.channel (logs c.number)
      holds = stands_at d channels value bank same logs all i c (within (λ e. eqb e.number n) bank i c at) is

      pub held_found : (bytes : ℕ) → ((log : Log) → Stands d c.channel log → bytes ≡ held_bytes log) → bytes ≡ held_on channels logs n
      held_found bytes given =
          given (logs c.number) holds
          ∙ sym (ap (λ o. option_map_or (λ (s : ChannelSettings). held_bytes (logs s.number)) o 0) (found d channels value bank same logs all (λ s. eqb s.number n) (λ e. eqb e.number n) (λ j e lt. refl) i c at is))

      pub room_found : (bound : Log → ℕ) (bytes : ℕ) → ((log : Log) → Stands d c.channel log → bytes ≤ bound log) → bytes ≤ bound (logs n)
      room_found bound bytes given =
          let e : eqb c.number n ≡ true = passes (λ e. eqb e.number n) bank i c at is in
          let number : c.number ≡ n = grind (arith, nat_tests) in
          subst (λ (m : ℕ). bytes ≤ bound (logs m)) number (given (logs c.number) holds)

    pub held_none : position (λ e. eqb e.number n) bank ≡ None → 0 ≡ held_on channels logs n
    held_none at =
        sym (ap (λ o. option_map_or (λ (s : ChannelSettings). held_bytes (logs s.number)) o 0) (found_none d channels value bank same logs all (λ s. eqb s.number n) (λ e. eqb e.number n) (λ j e lt. refl) at))
