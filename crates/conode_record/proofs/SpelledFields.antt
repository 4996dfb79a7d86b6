-- The fields of a frame line: what reading finds at the front is spelled there, and what is spelled there it finds.
use Rattle.std.proofs.Common.{◌≡◌, ℕ, zero, suc, ◌+◌, ◌-◌, ◌*◌, ◌<◌, ◌≤◌, true, false, cond, ◌&&◌, List, [], ◌∷◌, ◌++◌, length, take, drop, get_or, Option, Some, None, eqb, leb, ltb, refl, sym, ap, subst, lit<, ◌∙◌, arith, append_assoc}
use Rattle.std.proofs.lemmas.Bool.{eqb-true, and_parts}
use Rattle.std.proofs.lemmas.Bool.Decides.{nat_tests}
use Rattle.std.proofs.lemmas.Option.{option_and_then_some}
use Rattle.std.proofs.lemmas.List.{take-append-drop}
use Rattle.std.proofs.lemmas.List.Folds.{length-prefix_len}
use Rattle.std.specs.List.{prefix_len, list_all}
use Rattle.std.specs.Option.{option_map}
use Rattle.conode_record.specs.declared.fields.Identifier.{Identifier}
use Rattle.conode_record.specs.declared.fields.Identifier.TheVariants.{Base, Extended, Error}
use Rattle.co_text.specs.Texts.{is_blank, is_hex_digit}
use Rattle.co_text.proofs.Tests.{by_test, guarded}
use Rattle.conode_trace.specs.FrameLines.{past_byte, number_at, is_name_byte}
use Rattle.conode_trace.specs.Grammar.{IsRun}
use Rattle.conode_trace.proofs.GrammarRuns.{list_all-prefix, prefix_len-run, take-run, drop-run, front_run}
use Rattle.conode_trace.proofs.GrammarFields.{byte_passed, number_is, number_passed}
use Rattle.conode_record.specs.Fields.{stamp_at, past_blanks, name_at, interface_at, hex_value, hex_number, eight_digits, identifier_at}
use Rattle.conode_record.specs.Grammar.{SpellsStamp, AreBlanks, SpellsIdentifier}

-- ---- the stamp

pub stamp_is : (micros : ℕ) (text rest : List ℕ) → SpellsStamp micros text → stamp_at (text ++ rest) ≡ Some (micros, rest)
unfolding stamp_at
stamp_is micros text rest h =
    let whole : text ++ rest ≡ 40 ∷ (h.seconds ++ 46 ∷ (h.fraction ++ 41 ∷ rest)) = rw h.joined (simp append_assoc) in
    let seconds = number_is 1 12 h.seconds (46 ∷ (h.fraction ++ 41 ∷ rest)) h.seconds_run refl in
    let fraction = number_is 6 6 h.fraction (41 ∷ rest) h.fraction_run refl in
    ap stamp_at whole ∙ rw (seconds, fraction, h.time) refl

pub stamp_spelled : (text : List ℕ) (x : ℕ × List ℕ) → stamp_at text ≡ Some x → (stamp : List ℕ) × SpellsStamp x.0 stamp × (text ≡ stamp ++ x.1)
unfolding stamp_at
stamp_spelled text x e =
    option_and_then_some _ (past_byte 40 text) x e (λ opened e0 f0.
    option_and_then_some _ (number_at 1 12 opened) x f0 (λ seconds e1 f1.
    option_and_then_some _ (past_byte 46 seconds.1) x f1 (λ point e2 f2.
    option_and_then_some _ (number_at 6 6 point) x f2 (λ fraction e3 f3.
    option_and_then_some _ (past_byte 41 fraction.1) x f3 (λ rest e4 f4.
    let s = number_passed 1 12 opened seconds e1 in
    let m = number_passed 6 6 point fraction e3 in
    let open_at = byte_passed 40 text opened e0 in
    let point_at = byte_passed 46 seconds.1 point e2 in
    let close_at = byte_passed 41 fraction.1 rest e4 in
    let found : (1000000 * seconds.0 + fraction.0, rest) ≡ x = cc in
    let whole : text ≡ 40 ∷ (s.0 ++ 46 ∷ (m.0 ++ 41 ∷ rest)) = cc in
    let joined : (40 ∷ (s.0 ++ 46 ∷ (m.0 ++ 41 ∷ []))) ++ rest ≡ 40 ∷ (s.0 ++ 46 ∷ (m.0 ++ 41 ∷ rest)) = simp append_assoc in (
      40 ∷ (s.0 ++ 46 ∷ (m.0 ++ 41 ∷ [])),
      record { seconds = s.0; fraction = m.0; seconds_run = s.1; fraction_run = m.1; time = rw (s.2, m.2) (sym (ap (λ (p : ℕ × List ℕ). p.0) found)); joined = refl },
      whole ∙ sym joined ∙ ap (λ (p : ℕ × List ℕ). (40 ∷ (s.0 ++ 46 ∷ (m.0 ++ 41 ∷ []))) ++ p.1) found,
    ))))))

-- ---- the interface between blanks

pub blanks_are : (blanks rest : List ℕ) → AreBlanks blanks → prefix_len is_blank rest ≡ 0 → past_blanks (blanks ++ rest) ≡ Some rest
blanks_are blanks rest h e =
    let some : eqb (length blanks) 0 ≡ false = grind (arith, nat_tests, h.some) in
    rw (prefix_len-run is_blank blanks rest h.all e, some, drop-run blanks rest) refl

pub blanks_passed : (text rest : List ℕ) → past_blanks text ≡ Some rest → (blanks : List ℕ) × AreBlanks blanks × (text ≡ blanks ++ rest)
blanks_passed text rest e =
    let n = prefix_len is_blank text in
    by_test (eqb n 0)
    (λ none. let no : None ≡ Some rest = rw none at e in absurd cc)
    (λ some.
    let left : Some (drop n text) ≡ Some rest = rw some at e in
    let same : drop n text ≡ rest = cc in
    let long = length-prefix_len is_blank text in
    (take n text, record { all = list_all-prefix is_blank text; some = rw long (grind (arith, nat_tests, some)) }, sym (take-append-drop n text) ∙ ap (λ (ys : List ℕ). take n text ++ ys) same))

pub name_is : (name rest : List ℕ) → IsRun is_name_byte 1 15 name → prefix_len is_name_byte rest ≡ 0 → name_at (name ++ rest) ≡ Some (name, rest)
name_is name rest h e =
    let some : ltb 0 (length name) ≡ true = grind (arith, nat_tests, h.enough) in
    let few : leb (length name) 15 ≡ true = grind (arith, nat_tests, h.few) in
    rw (prefix_len-run is_name_byte name rest h.all e, some, few, take-run name rest, drop-run name rest) refl

pub name_passed : (text : List ℕ) (x : List ℕ × List ℕ) → name_at text ≡ Some x → IsRun is_name_byte 1 15 x.0 × (text ≡ x.0 ++ x.1)
name_passed text x e =
    let n = prefix_len is_name_byte text in
    let g = guarded (ltb 0 n && leb n 15) (take n text, drop n text) x e in
    let some : (leb 1 n && leb n 15) ≡ true = g.0 in
    let run = front_run is_name_byte 1 15 text some in
    subst (λ (p : List ℕ × List ℕ). IsRun is_name_byte 1 15 p.0 × (text ≡ p.0 ++ p.1)) g.1 (run, sym (take-append-drop n text))

after_blanks : (name rest : List ℕ) → IsRun is_name_byte 1 15 name → prefix_len is_blank (name ++ rest) ≡ 0
after_blanks [] rest h = absurd (omega (arith, h.enough))
after_blanks (x ∷ xs) rest h =
    let named = (and_parts (is_name_byte x) (list_all is_name_byte xs) h.all).0 in
    by_test (is_blank x) (λ e. let no : false ≡ true = rw e at named in cc) (λ e. rw e refl)

after_name : (blanks rest : List ℕ) → AreBlanks blanks → prefix_len is_name_byte (blanks ++ rest) ≡ 0
after_name [] rest h = absurd (omega (arith, h.some))
after_name (x ∷ xs) rest h = rw (and_parts (is_blank x) (list_all is_blank xs) h.all).0 refl

pub interface_is : (first name second rest : List ℕ) → AreBlanks first → IsRun is_name_byte 1 15 name → AreBlanks second → prefix_len is_blank rest ≡ 0
    → interface_at (first ++ (name ++ (second ++ rest))) ≡ Some (name, rest)
unfolding interface_at
interface_is first name second rest f n s e =
    rw (blanks_are first (name ++ (second ++ rest)) f (after_blanks name (second ++ rest) n), name_is name (second ++ rest) n (after_name second rest s), blanks_are second rest s e) refl

pub interface_spelled : (text : List ℕ) (x : List ℕ × List ℕ) → interface_at text ≡ Some x
    → (first second : List ℕ) × AreBlanks first × IsRun is_name_byte 1 15 x.0 × AreBlanks second × (text ≡ first ++ (x.0 ++ (second ++ x.1)))
unfolding interface_at
interface_spelled text x e =
    option_and_then_some _ (past_blanks text) x e (λ name e0 f0.
    option_and_then_some _ (name_at name) x f0 (λ found e1 f1.
    option_and_then_some _ (past_blanks found.1) x f1 (λ rest e2 f2.
    let a = blanks_passed text name e0 in
    let b = name_passed name found e1 in
    let c = blanks_passed found.1 rest e2 in
    let same : (found.0, rest) ≡ x = cc in
    let whole : text ≡ a.0 ++ (found.0 ++ (c.0 ++ rest)) = a.2 ∙ ap (λ (ys : List ℕ). a.0 ++ ys) (b.1 ∙ ap (λ (ys : List ℕ). found.0 ++ ys) c.2) in
    subst (λ (p : List ℕ × List ℕ). (first second : List ℕ) × AreBlanks first × IsRun is_name_byte 1 15 p.0 × AreBlanks second × (text ≡ first ++ (p.0 ++ (second ++ p.1)))) same
    (a.0, c.0, a.1, b.0, c.1, whole))))

-- ---- the identifier

not_sign : (byte : ℕ) → is_hex_digit byte ≡ true → eqb byte 35 ≡ false
not_sign byte h = by_test (eqb byte 35) (λ e. let same = eqb-true byte 35 e in let no_digit : false ≡ true = rw same at h in cc) (λ e. e)

-- the digits of a number
pub number_digits : (digits : List ℕ) (number : ℕ) → hex_number digits ≡ Some number → list_all is_hex_digit digits ≡ true
number_digits digits number e = (guarded (list_all is_hex_digit digits) (hex_value digits) number e).0

base_is : (id a b c : ℕ) (rest : List ℕ) → hex_number (a ∷ b ∷ c ∷ []) ≡ Some id → id < 2048 → identifier_at (a ∷ b ∷ c ∷ 35 ∷ rest) ≡ Some (Base id, rest)
unfolding identifier_at
base_is id a b c rest h low =
    let small : leb id 2047 ≡ true = grind (arith, nat_tests) in
    rw (h, small) refl

-- what eight digits and the number sign after them are
long_is : (number a b c d e f g h : ℕ) (id : Identifier) (rest : List ℕ) → hex_number (a ∷ b ∷ c ∷ d ∷ e ∷ f ∷ g ∷ h ∷ []) ≡ Some number → eight_digits number ≡ Some id → is_hex_digit d ≡ true
    → identifier_at (a ∷ b ∷ c ∷ d ∷ e ∷ f ∷ g ∷ h ∷ 35 ∷ rest) ≡ Some (id, rest)
unfolding identifier_at
long_is number a b c d e f g h id rest value is fourth = rw (not_sign d fourth, value, is) refl

extended_eight : (id : ℕ) → id < 0x20000000 → eight_digits id ≡ Some (Extended id)
extended_eight id low = let small : ltb id 0x20000000 ≡ true = grind (arith, nat_tests) in rw small refl

error_eight : (class : ℕ) → class < 0x20000000 → eight_digits (class + 0x20000000) ≡ Some (Error class)
error_eight class low =
    let big : ltb (class + 0x20000000) 0x20000000 ≡ false = grind (arith, nat_tests) in
    let small : ltb (class + 0x20000000) 0x40000000 ≡ true = grind (arith, nat_tests) in
    let same : class + 0x20000000 - 0x20000000 ≡ class = omega arith in
    rw (big, small, same) refl

fourth_digit : (a b c d : ℕ) (rest : List ℕ) → list_all is_hex_digit (a ∷ b ∷ c ∷ d ∷ rest) ≡ true → is_hex_digit d ≡ true
fourth_digit a b c d rest all =
    let first = and_parts (is_hex_digit a) (list_all is_hex_digit (b ∷ c ∷ d ∷ rest)) all in
    let second = and_parts (is_hex_digit b) (list_all is_hex_digit (c ∷ d ∷ rest)) first.1 in
    let third = and_parts (is_hex_digit c) (list_all is_hex_digit (d ∷ rest)) second.1 in
    (and_parts (is_hex_digit d) (list_all is_hex_digit rest) third.1).0

-- any text of eight digits
eight_are : (number : ℕ) (id : Identifier) (text rest : List ℕ) → length text ≡ 8 → hex_number text ≡ Some number → eight_digits number ≡ Some id → identifier_at (text ++ 35 ∷ rest) ≡ Some (id, rest)
eight_are number id [] rest l v e = absurd (omega (arith, l))
eight_are number id (a ∷ []) rest l v e = absurd (omega (arith, l))
eight_are number id (a ∷ b ∷ []) rest l v e = absurd (omega (arith, l))
eight_are number id (a ∷ b ∷ c ∷ []) rest l v e = absurd (omega (arith, l))
eight_are number id (a ∷ b ∷ c ∷ d ∷ []) rest l v e = absurd (omega (arith, l))
eight_are number id (a ∷ b ∷ c ∷ d ∷ f ∷ []) rest l v e = absurd (omega (arith, l))
eight_are number id (a ∷ b ∷ c ∷ d ∷ f ∷ g ∷ []) rest l v e = absurd (omega (arith, l))
eight_are number id (a ∷ b ∷ c ∷ d ∷ f ∷ g ∷ h ∷ []) rest l v e = absurd (omega (arith, l))
eight_are number id (a ∷ b ∷ c ∷ d ∷ f ∷ g ∷ h ∷ i ∷ []) rest l v e =
    long_is number a b c d f g h i id rest v e (fourth_digit a b c d (f ∷ g ∷ h ∷ i ∷ []) (number_digits (a ∷ b ∷ c ∷ d ∷ f ∷ g ∷ h ∷ i ∷ []) number v))
eight_are number id (a ∷ b ∷ c ∷ d ∷ f ∷ g ∷ h ∷ i ∷ j ∷ more) rest l v e = absurd (omega (arith, l))

three_are : (id : ℕ) (text rest : List ℕ) → length text ≡ 3 → hex_number text ≡ Some id → id < 2048 → identifier_at (text ++ 35 ∷ rest) ≡ Some (Base id, rest)
three_are id [] rest l v low = absurd (omega (arith, l))
three_are id (a ∷ []) rest l v low = absurd (omega (arith, l))
three_are id (a ∷ b ∷ []) rest l v low = absurd (omega (arith, l))
three_are id (a ∷ b ∷ c ∷ []) rest l v low = base_is id a b c rest v low
three_are id (a ∷ b ∷ c ∷ d ∷ more) rest l v low = absurd (omega (arith, l))

pub identifier_is : (id : Identifier) (text rest : List ℕ) → SpellsIdentifier id text → identifier_at (text ++ 35 ∷ rest) ≡ Some (id, rest)
identifier_is (Base id) text rest h = three_are id text rest h.0 h.1 h.2
identifier_is (Extended id) text rest h = eight_are id (Extended id) text rest h.0 h.1 (extended_eight id h.2)
identifier_is (Error class) text rest h = eight_are (class + 0x20000000) (Error class) text rest h.0 h.1 (error_eight class h.2)

-- a text reaches as far as a byte of it that is not 0
split_at : (place wanted : ℕ) (text : List ℕ) → 0 < wanted → get_or text place 0 ≡ wanted → (text ≡ take place text ++ wanted ∷ drop (suc place) text) × (length (take place text) ≡ place)
split_at zero wanted [] some e = absurd (omega arith)
split_at zero wanted (byte ∷ text) some e = (ap (λ (b : ℕ). b ∷ text) e, refl)
split_at (suc place) wanted [] some e = absurd (omega arith)
split_at (suc place) wanted (byte ∷ text) some e =
    let more = split_at place wanted text some e in
    let longer = more.1 in
    (ap (λ (ys : List ℕ). byte ∷ ys) more.0, omega arith)

-- an identifier that was found, and the rest
abbrev IsFound : List ℕ → Identifier × List ℕ → Type 0
IsFound text x = (id_text : List ℕ) × SpellsIdentifier x.0 id_text × (text ≡ id_text ++ 35 ∷ x.1)

base_spelled : (text : List ℕ) (x : Identifier × List ℕ) → eqb (get_or text 3 0) 35 ≡ true → identifier_at text ≡ Some x → IsFound text x
unfolding identifier_at
base_spelled text x sign e =
    let cut = split_at 3 35 text (lit< tt) (eqb-true (get_or text 3 0) 35 sign) in
    option_and_then_some (λ (id : ℕ). cond (leb id 2047) (Some (Base id, drop 4 text)) None) (hex_number (take 3 text)) x (rw sign at e) (λ id digits found.
    let g = guarded (leb id 2047) (Base id, drop 4 text) x found in
    let low : id < 2048 = grind (arith, nat_tests, g.0) in
    let result : IsFound text (Base id, drop 4 text) = (take 3 text, (cut.1, digits, low), cut.0) in
    subst (λ (y : Identifier × List ℕ). IsFound text y) g.1 result)

-- what eight digits are, they spell
eight_spelled : (number : ℕ) (id : Identifier) (text : List ℕ) → length text ≡ 8 → hex_number text ≡ Some number → eight_digits number ≡ Some id → SpellsIdentifier id text
eight_spelled number id text long digits e = by_test (ltb number 0x20000000)
    (λ small.
    let same : Some (Extended number) ≡ Some id = rw small at e in
    let is : Extended number ≡ id = cc in
    let low : number < 0x20000000 = grind (arith, nat_tests, small) in
    let spelled : SpellsIdentifier (Extended number) text = (long, digits, low) in
    subst (λ (i : Identifier). SpellsIdentifier i text) is spelled)
    (λ big.
    let g = guarded (ltb number 0x40000000) (Error (number - 0x20000000)) id (rw big at e) in
    let above : 0x20000000 ≤ number = grind (arith, nat_tests, big) in
    let low : number - 0x20000000 < 0x20000000 = grind (arith, nat_tests, g.0, above) in
    let sum : number ≡ number - 0x20000000 + 0x20000000 = omega arith in
    let spelled : SpellsIdentifier (Error (number - 0x20000000)) text = (long, digits ∙ ap Some sum, low) in
    subst (λ (i : Identifier). SpellsIdentifier i text) g.1 spelled)

mapped : {A B : Type 0} (f : A → B) (o : Option A) (y : B) → option_map f o ≡ Some y → (x : A) × (o ≡ Some x) × (f x ≡ y)
mapped f None y e = cc
mapped f (Some x) y e = (x, refl, cc)

extended_spelled : (text : List ℕ) (x : Identifier × List ℕ) → eqb (get_or text 3 0) 35 ≡ false → eqb (get_or text 8 0) 35 ≡ true → identifier_at text ≡ Some x → IsFound text x
unfolding identifier_at
extended_spelled text x other sign e =
    let cut = split_at 8 35 text (lit< tt) (eqb-true (get_or text 8 0) 35 sign) in
    option_and_then_some (λ (number : ℕ). option_map (λ (id : Identifier). (id, drop 9 text)) (eight_digits number)) (hex_number (take 8 text)) x (rw (other, sign) at e) (λ number digits found.
    let m = mapped (λ (id : Identifier). (id, drop 9 text)) (eight_digits number) x found in
    let result : IsFound text (m.0, drop 9 text) = (take 8 text, eight_spelled number m.0 (take 8 text) cut.1 digits m.1, cut.0) in
    subst (λ (y : Identifier × List ℕ). IsFound text y) m.2 result)

no_sign : (text : List ℕ) (x : Identifier × List ℕ) → eqb (get_or text 3 0) 35 ≡ false → eqb (get_or text 8 0) 35 ≡ false → identifier_at text ≡ Some x → IsFound text x
unfolding identifier_at
no_sign text x other neither e = let no : None ≡ Some x = rw (other, neither) at e in absurd cc

pub identifier_spelled : (text : List ℕ) (x : Identifier × List ℕ) → identifier_at text ≡ Some x → (id_text : List ℕ) × SpellsIdentifier x.0 id_text × (text ≡ id_text ++ 35 ∷ x.1)
identifier_spelled text x e =
    by_test (eqb (get_or text 3 0) 35) (λ sign. base_spelled text x sign e)
    (λ other. by_test (eqb (get_or text 8 0) 35) (λ sign. extended_spelled text x other sign e) (λ neither. no_sign text x other neither e))

-- an identifier begins with no blank
pub before_id : (id : Identifier) (text rest : List ℕ) → SpellsIdentifier id text → prefix_len is_blank (text ++ rest) ≡ 0
before_id id text rest h = no_blank id text rest h where
  blank_digit : (byte : ℕ) → is_blank byte ≡ true → is_hex_digit byte ≡ true → ⊥
  blank_digit byte e d = by_test (eqb byte 32) (λ space. let no : false ≡ true = rw (eqb-true byte 32 space) at d in cc) (λ other. let tab : eqb byte 9 ≡ true = rw other at e in let no : false ≡ true = rw (eqb-true byte 9 tab) at d in cc)

  first : (text rest : List ℕ) → 0 < length text → list_all is_hex_digit text ≡ true → prefix_len is_blank (text ++ rest) ≡ 0
  first [] rest some all = absurd (omega (arith, some))
  first (x ∷ xs) rest some all = by_test (is_blank x) (λ e. absurd (blank_digit x e (and_parts (is_hex_digit x) (list_all is_hex_digit xs) all).0)) (λ e. rw e refl)

  no_blank : (id : Identifier) (text rest : List ℕ) → SpellsIdentifier id text → prefix_len is_blank (text ++ rest) ≡ 0
  no_blank (Base id) text rest h = first text rest (omega (arith, h.0)) (number_digits text id h.1)
  no_blank (Extended id) text rest h = first text rest (omega (arith, h.0)) (number_digits text id h.1)
  no_blank (Error class) text rest h = first text rest (omega (arith, h.0)) (number_digits text (class + 0x20000000) h.1)
