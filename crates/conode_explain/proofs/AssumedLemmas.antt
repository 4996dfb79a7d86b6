-- What a PDO of the pre-defined connection set says, of which no more is known; and SYNC.
use Rattle.std.proofs.Common.{◌≡◌, ℕ, ◌-◌, ◌*◌, ◌/◌, ◌%◌, ◌<◌, ◌≤◌, Bool, true, false, List, [], ◌∷◌, ◌++◌, None, ltb, eqb, length, refl, sym, ap, ◌∙◌, append_assoc, arith}
use Rattle.std.specs.Prelude.{◌&&◌, codes, decimal, not}
use Rattle.std.specs.Fmt.{digits}
use Rattle.std.specs.Option.{option_map_or}
use Rattle.std.proofs.lemmas.Bool.{and_parts, eqb-true, le-ltb, ltb-true, not-true}
use Rattle.std.proofs.lemmas.Bool.Decides.{nat_tests}
use Rattle.std.proofs.lemmas.List.{append-nil}
use Rattle.co_text.proofs.Tests.{by_test}
use Rattle.co_sheet_changes.specs.Names.{Names}
use Rattle.conode_decode.specs.Services.{service_at}
use Rattle.conode_decode.specs.Texts.{of_node, pdo_text, service_text, sync_text, text_of_frame, unknown_text}
use Rattle.co_frame.specs.FrameContent.{FrameContent}
use Rattle.conode_explain_cob_ids.specs.declared.claim.Claim.{Claim}
use Rattle.conode_explain_cob_ids.specs.Buses.{Bus, names_at}
use Rattle.conode_explain_services.specs.declared.last.Last.{Last}
use Rattle.conode_explain_services.specs.Lengths.{fixed_at}
use Rattle.conode_explain_services.specs.Reserved.{is_reserved}
use Rattle.conode_explain_services.specs.Services.{service_words, state_words}
use Rattle.conode_explain.specs.AbortWords.{abort_words}
use Rattle.conode_explain.specs.FrameWords.{assumed_front, assumed_mark, assumed_words, decoded_words, frame_words, is_bare_sync, is_default_pdo, is_of_drive, other_words, plain_words, served_words, sync_words}
use Rattle.conode_explain.specs.OwnWords.{own_words, service_to_all, sized_in}
use Rattle.conode_explain.specs.Transfers.{transfer_in, transfer_words}

-- it is between these numbers, and of a node
above : (id : ℕ) → is_default_pdo id ≡ true → 0x180 < id
above id is = ltb-true 0x180 id (and_parts (ltb 0x180 id) (ltb id 0x580) (and_parts (ltb 0x180 id && ltb id 0x580) (not (eqb (id % 0x80) 0)) is).0).0

below : (id : ℕ) → is_default_pdo id ≡ true → id < 0x580
below id is = ltb-true id 0x580 (and_parts (ltb 0x180 id) (ltb id 0x580) (and_parts (ltb 0x180 id && ltb id 0x580) (not (eqb (id % 0x80) 0)) is).0).1

of_node_there : (id : ℕ) → is_default_pdo id ≡ true → eqb (id % 128) 0 ≡ false
of_node_there id is = not-true (eqb (id % 128) 0) (and_parts (ltb 0x180 id && ltb id 0x580) (not (eqb (id % 0x80) 0)) is).1

module _ (id : ℕ) (bytes : List ℕ) (low : 0x180 < id) (high : id < 0x580) where
  -- it is no transfer
  no_transfer : transfer_in (record { id = id; bytes = bytes }) ≡ None
  unfolding transfer_in
  no_transfer = rw (le-ltb 0x600 id (omega (arith, high)), le-ltb 0x580 id (omega (arith, high))) refl

  -- nor has it a size, and it is no command
  no_own : (names : Names) → own_words names (record { id = id; bytes = bytes }) ≡ None
  unfolding own_words sized_in service_to_all
  no_own names =
      let command : eqb id 0 ≡ false = grind (arith, nat_tests, low) in
      rw (le-ltb 0x600 id (omega (arith, high)), le-ltb 0x580 id (omega (arith, high)), command) refl

  -- it has no service of those that have words of their own
  no_service : (drive : Bool) (last : Last) → service_words drive last (record { id = id; bytes = bytes }) ≡ None
  unfolding service_words fixed_at
  no_service drive last =
      let emergency : (ltb 0x080 id && ltb id 0x100) ≡ false = grind (arith, nat_tests, low) in
      let control : (ltb 0x700 id && ltb id 0x780) ≡ false = grind (arith, nat_tests, high) in
      let time : eqb id 0x100 ≡ false = grind (arith, nat_tests, low) in
      let request : eqb id 0x7E5 ≡ false = grind (arith, nat_tests, high) in
      let answer : eqb id 0x7E4 ≡ false = grind (arith, nat_tests, high) in
      let free : is_reserved id ≡ false = grind (arith, nat_tests, low, high) in
      let command : eqb id 0 ≡ false = grind (arith, nat_tests, low) in
      let sync : eqb id 0x080 ≡ false = grind (arith, nat_tests, low) in
      let of_client : (ltb 0x600 id && ltb id 0x680) ≡ false = grind (arith, nat_tests, high) in
      let of_server : (ltb 0x580 id && ltb id 0x600) ≡ false = grind (arith, nat_tests, high) in
      rw (emergency, control, time, free, request, answer, command, sync, of_client, of_server) refl

  no_abort : abort_words (record { id = id; bytes = bytes }) ≡ []
  unfolding abort_words
  no_abort = rw (le-ltb 0x580 id (omega (arith, high)), le-ltb 0x600 id (omega (arith, high))) refl

  no_state : (last : Last) → state_words last (record { id = id; bytes = bytes }) ≡ []
  unfolding state_words
  no_state last =
      let command : eqb id 0 ≡ false = grind (arith, nat_tests, low) in
      let control : (ltb 0x700 id && ltb id 0x780) ≡ false = grind (arith, nat_tests, high) in
      let sync : eqb id 0x080 ≡ false = grind (arith, nat_tests, low) in
      rw (command, control, sync) refl

  -- its text is that of its service
  by_service : (names : Names) → eqb (id % 128) 0 ≡ false
      → text_of_frame names (record { id = id; bytes = bytes })
      ≡ option_map_or (service_text names (id % 128) bytes) (service_at (id - id % 128)) unknown_text
  unfolding text_of_frame
  by_service names node =
      let command : eqb id 0 ≡ false = grind (arith, nat_tests, low) in
      let sync : eqb id 0x080 ≡ false = grind (arith, nat_tests, low) in
      rw (command, sync, node) refl

-- which is a PDO's
by_step : (names : Names) (node step : ℕ) (bytes : List ℕ) → 3 ≤ step → step ≤ 10
    → codes "~" ++ option_map_or (service_text names node bytes) (service_at (128 * step)) unknown_text ≡ assumed_front step ++ decimal node
unfolding pdo_text of_node digits
by_step names node step bytes low high =
    by_test (eqb step 3) (λ t. let is : step ≡ 3 = eqb-true step 3 t in rw is refl)
    (λ a. by_test (eqb step 4) (λ t. let is : step ≡ 4 = eqb-true step 4 t in rw is refl)
    (λ b. by_test (eqb step 5) (λ t. let is : step ≡ 5 = eqb-true step 5 t in rw is refl)
    (λ c. by_test (eqb step 6) (λ t. let is : step ≡ 6 = eqb-true step 6 t in rw is refl)
    (λ d. by_test (eqb step 7) (λ t. let is : step ≡ 7 = eqb-true step 7 t in rw is refl)
    (λ e. by_test (eqb step 8) (λ t. let is : step ≡ 8 = eqb-true step 8 t in rw is refl)
    (λ f. by_test (eqb step 9) (λ t. let is : step ≡ 9 = eqb-true step 9 t in rw is refl)
    (λ g. let is : step ≡ 10 = grind (arith, nat_tests, a, b, c, d, e, f, g) in rw is refl)))))))

decoded : (names : Names) (named : Bool) (last : Last) (id : ℕ) (bytes : List ℕ) → is_default_pdo id ≡ true
    → assumed_mark named id ++ decoded_words names last (record { id = id; bytes = bytes }) ≡ assumed_words id
unfolding assumed_words
decoded names named last id bytes is =
    let over = above id is in
    let under = below id is in
    let low : 3 ≤ id / 128 = omega (arith, over) in
    let high : id / 128 ≤ 10 = omega (arith, under) in
    let base : id - id % 128 ≡ 128 * (id / 128) = omega arith in
    let frame : FrameContent = record { id = id; bytes = bytes } in
    let mark : assumed_mark named id ≡ codes "~" = rw is refl in
    let rest : abort_words frame ++ state_words last frame ≡ [] =
    ap (λ (words : List ℕ). words ++ state_words last frame) (no_abort id bytes over under) ∙ no_state id bytes over under last in
    let text : text_of_frame names frame ++ (abort_words frame ++ state_words last frame) ≡ option_map_or (service_text names (id % 128) bytes) (service_at (128 * (id / 128))) unknown_text =
    ap (λ (words : List ℕ). text_of_frame names frame ++ words) rest
    ∙ append-nil (text_of_frame names frame)
    ∙ by_service id bytes over under names (of_node_there id is)
    ∙ ap (λ (n : ℕ). option_map_or (service_text names (id % 128) bytes) (service_at n) unknown_text) base in
    ap (λ (words : List ℕ). words ++ decoded_words names last frame) mark
    ∙ ap (λ (words : List ℕ). codes "~" ++ words) (append_assoc (text_of_frame names frame) (abort_words frame) (state_words last frame) ∙ text)
    ∙ by_step names (id % 128) (id / 128) bytes low high

plain : (names : Names) (named : Bool) (last : Last) (id : ℕ) (bytes : List ℕ) → is_default_pdo id ≡ true
    → assumed_mark named id ++ plain_words names last (record { id = id; bytes = bytes }) ≡ assumed_words id
plain names named last id bytes is = rw (no_own id bytes (above id is) (below id is) names) (decoded names named last id bytes is)

pub assumed : (bus : Bus) (named : Bool) (last : Last) (id : ℕ) (bytes : List ℕ) → is_default_pdo id ≡ true
    → assumed_words id ≡ frame_words bus [] named last (record { id = id; bytes = bytes })
unfolding frame_words transfer_words other_words served_words
assumed bus named last id bytes is =
    rw (no_transfer id bytes (above id is) (below id is), no_service id bytes (above id is) (below id is) (is_of_drive bus (record { id = id; bytes = bytes })) last) (sym (plain (names_at bus (id % 128)) named last id bytes is))

no_bytes : (bytes : List ℕ) → eqb (length bytes) 0 ≡ true → bytes ≡ []
no_bytes [] none = refl
no_bytes (byte ∷ bytes) none = absurd (omega (arith, eqb-true (length (byte ∷ bytes)) 0 none))

at_sync : (bus : Bus) (named : Bool) (last : Last) → sync_words named ≡ frame_words bus [] named last (record { id = 0x080; bytes = [] })
unfolding frame_words transfer_words transfer_in other_words served_words service_words fixed_at own_words sized_in service_to_all text_of_frame sync_text abort_words state_words
at_sync bus true last = refl
at_sync bus false last = refl

-- SYNC has no words of its own, and says no more
pub bare_sync : (bus : Bus) (named : Bool) (last : Last) (id : ℕ) (bytes : List ℕ) → is_bare_sync id bytes ≡ true
    → sync_words named ≡ frame_words bus [] named last (record { id = id; bytes = bytes })
bare_sync bus named last id bytes is =
    let parts = and_parts (eqb id 0x080) (eqb (length bytes) 0) is in
    rw (eqb-true id 0x080 parts.0, no_bytes bytes parts.1) (at_sync bus named last)

pub none_there : (claims : List Claim) → length claims < 1 → claims ≡ []
none_there [] few = refl
none_there (claim ∷ claims) few = absurd (omega (arith, few))
