-- The fields of a frame line: what reading finds at the front is spelled there, and what is spelled there it finds.
use Rattle.std.proofs.Common.{◌≡◌, ℕ, zero, suc, ◌+◌, ◌*◌, ◌/◌, ◌<◌, true, false, cond, ◌&&◌, List, [], ◌∷◌, ◌++◌, length, take, drop, get_or, Some, None, eqb, leb, refl, sym, ap, subst, lit<, ◌∙◌, arith, append_assoc}
use Rattle.std.proofs.lemmas.Bool.{eqb-true}
use Rattle.std.proofs.lemmas.Bool.Decides.{nat_tests}
use Rattle.std.proofs.lemmas.Option.{option_and_then_some}
use Rattle.std.proofs.lemmas.List.{take-append-drop}
use Rattle.std.specs.List.{prefix_len, list_all}
use Rattle.conode_trace.specs.declared.frame_fields.Identifier.{Identifier}
use Rattle.conode_trace.specs.declared.frame_fields.Identifier.TheVariants.{Base, Extended}
use Rattle.co_text.specs.Texts.{is_digit, is_hex_digit, decimal_value}
use Rattle.conode_trace.specs.FrameLines.{past_byte, number_at, stamp_at, three_digits, identifier_at}
use Rattle.conode_trace.specs.Grammar.{IsRun, SpellsStamp, SpellsIdentifier}
use Rattle.std.proofs.lemmas.Bool.{and_parts}
use Rattle.co_text.proofs.Tests.{by_test, guarded}
use Rattle.conode_trace.proofs.GrammarRuns.{prefix_len-run, take-run, drop-run, front_run}

-- ---- one byte

pub byte_passed : (wanted : ℕ) (text rest : List ℕ) → past_byte wanted text ≡ Some rest → text ≡ wanted ∷ rest
byte_passed wanted [] rest e = cc
byte_passed wanted (byte ∷ text) rest e =
    let g = guarded (eqb byte wanted) text rest e in
    let same = eqb-true byte wanted g.0 in
    let others : text ≡ rest = g.1 in
    cc

-- ---- a number

pub number_is : (least most : ℕ) (digits rest : List ℕ) → IsRun is_digit least most digits → prefix_len is_digit rest ≡ 0 → number_at least most (digits ++ rest) ≡ Some (decimal_value digits, rest)
number_is least most digits rest h e =
    let enough : leb least (length digits) ≡ true = grind (arith, nat_tests, h.enough) in
    let few : leb (length digits) most ≡ true = grind (arith, nat_tests, h.few) in
    rw (prefix_len-run is_digit digits rest h.all e, enough, few, take-run digits rest, drop-run digits rest) refl

pub number_passed : (least most : ℕ) (text : List ℕ) (x : ℕ × List ℕ) → number_at least most text ≡ Some x → (digits : List ℕ) × IsRun is_digit least most digits × (decimal_value digits ≡ x.0) × (text ≡ digits ++ x.1)
number_passed least most text x e =
    let n = prefix_len is_digit text in
    let g = guarded (leb least n && leb n most) (decimal_value (take n text), drop n text) x e in
    (take n text, front_run is_digit least most text g.0, ap (λ (p : ℕ × List ℕ). p.0) g.1, sym (take-append-drop n text) ∙ ap (λ (p : ℕ × List ℕ). take n text ++ p.1) g.1)

-- ---- the stamp

pub stamp_is : (ms : ℕ) (text rest : List ℕ) → SpellsStamp ms text → stamp_at (text ++ rest) ≡ Some (ms, rest)
unfolding stamp_at
stamp_is ms text rest h =
    let whole : text ++ rest ≡ 40 ∷ (h.seconds ++ 46 ∷ (h.micros ++ 41 ∷ rest)) = rw h.joined (simp append_assoc) in
    let seconds = number_is 1 12 h.seconds (46 ∷ (h.micros ++ 41 ∷ rest)) h.seconds_run refl in
    let micros = number_is 6 6 h.micros (41 ∷ rest) h.micros_run refl in
    ap stamp_at whole ∙ rw (seconds, micros, h.time) refl

pub stamp_spelled : (text : List ℕ) (x : ℕ × List ℕ) → stamp_at text ≡ Some x → (stamp : List ℕ) × SpellsStamp x.0 stamp × (text ≡ stamp ++ x.1)
unfolding stamp_at
stamp_spelled text x e =
    option_and_then_some _ (past_byte 40 text) x e (λ opened e0 f0.
    option_and_then_some _ (number_at 1 12 opened) x f0 (λ seconds e1 f1.
    option_and_then_some _ (past_byte 46 seconds.1) x f1 (λ point e2 f2.
    option_and_then_some _ (number_at 6 6 point) x f2 (λ micros e3 f3.
    option_and_then_some _ (past_byte 41 micros.1) x f3 (λ rest e4 f4.
    let s = number_passed 1 12 opened seconds e1 in
    let m = number_passed 6 6 point micros e3 in
    let open_at = byte_passed 40 text opened e0 in
    let point_at = byte_passed 46 seconds.1 point e2 in
    let close_at = byte_passed 41 micros.1 rest e4 in
    let found : (1000 * seconds.0 + micros.0 / 1000, rest) ≡ x = cc in
    let whole : text ≡ 40 ∷ (s.0 ++ 46 ∷ (m.0 ++ 41 ∷ rest)) = cc in
    let joined : (40 ∷ (s.0 ++ 46 ∷ (m.0 ++ 41 ∷ []))) ++ rest ≡ 40 ∷ (s.0 ++ 46 ∷ (m.0 ++ 41 ∷ rest)) = simp append_assoc in (
      40 ∷ (s.0 ++ 46 ∷ (m.0 ++ 41 ∷ [])),
      record { seconds = s.0; micros = m.0; seconds_run = s.1; micros_run = m.1; time = rw (s.2, m.2) (sym (ap (λ (p : ℕ × List ℕ). p.0) found)); joined = refl },
      whole ∙ sym joined ∙ ap (λ (p : ℕ × List ℕ). (40 ∷ (s.0 ++ 46 ∷ (m.0 ++ 41 ∷ []))) ++ p.1) found,
    ))))))

-- ---- the identifier

not_sign : (byte : ℕ) → is_hex_digit byte ≡ true → eqb byte 35 ≡ false
not_sign byte h = by_test (eqb byte 35) (λ e. let same = eqb-true byte 35 e in let no_digit : false ≡ true = rw same at h in cc) (λ e. e)

-- three digits that are a number below 2048, and the number sign after them
base_is : (id a b c : ℕ) (rest : List ℕ) → three_digits (a ∷ b ∷ c ∷ []) ≡ Some id → id < 2048 → identifier_at (a ∷ b ∷ c ∷ 35 ∷ rest) ≡ Some (Base id, rest)
unfolding identifier_at
base_is id a b c rest h low =
    let small : leb id 2047 ≡ true = grind (arith, nat_tests) in
    rw (h, small) refl

-- eight digits, and the number sign after them
extended_is : (a b c d e f g h : ℕ) (rest : List ℕ) → list_all is_hex_digit (a ∷ b ∷ c ∷ d ∷ e ∷ f ∷ g ∷ h ∷ []) ≡ true → is_hex_digit d ≡ true → identifier_at (a ∷ b ∷ c ∷ d ∷ e ∷ f ∷ g ∷ h ∷ 35 ∷ rest) ≡ Some (Extended, rest)
unfolding identifier_at
extended_is a b c d e f g h rest all fourth = rw (not_sign d fourth, all) refl

fourth_digit : (a b c d : ℕ) (rest : List ℕ) → list_all is_hex_digit (a ∷ b ∷ c ∷ d ∷ rest) ≡ true → is_hex_digit d ≡ true
fourth_digit a b c d rest all =
    let first = and_parts (is_hex_digit a) (list_all is_hex_digit (b ∷ c ∷ d ∷ rest)) all in
    let second = and_parts (is_hex_digit b) (list_all is_hex_digit (c ∷ d ∷ rest)) first.1 in
    let third = and_parts (is_hex_digit c) (list_all is_hex_digit (d ∷ rest)) second.1 in
    (and_parts (is_hex_digit d) (list_all is_hex_digit rest) third.1).0

pub identifier_is : (id : Identifier) (text rest : List ℕ) → SpellsIdentifier id text → identifier_at (text ++ 35 ∷ rest) ≡ Some (id, rest)
identifier_is (Base id) [] rest h = absurd (omega (arith, h.0))
identifier_is (Base id) (a ∷ []) rest h = absurd (omega (arith, h.0))
identifier_is (Base id) (a ∷ b ∷ []) rest h = absurd (omega (arith, h.0))
identifier_is (Base id) (a ∷ b ∷ c ∷ []) rest h = base_is id a b c rest h.1 h.2
identifier_is (Base id) (a ∷ b ∷ c ∷ d ∷ more) rest h = absurd (omega (arith, h.0))
identifier_is Extended [] rest h = absurd (omega (arith, h.enough))
identifier_is Extended (a ∷ []) rest h = absurd (omega (arith, h.enough))
identifier_is Extended (a ∷ b ∷ []) rest h = absurd (omega (arith, h.enough))
identifier_is Extended (a ∷ b ∷ c ∷ []) rest h = absurd (omega (arith, h.enough))
identifier_is Extended (a ∷ b ∷ c ∷ d ∷ []) rest h = absurd (omega (arith, h.enough))
identifier_is Extended (a ∷ b ∷ c ∷ d ∷ e ∷ []) rest h = absurd (omega (arith, h.enough))
identifier_is Extended (a ∷ b ∷ c ∷ d ∷ e ∷ f ∷ []) rest h = absurd (omega (arith, h.enough))
identifier_is Extended (a ∷ b ∷ c ∷ d ∷ e ∷ f ∷ g ∷ []) rest h = absurd (omega (arith, h.enough))
identifier_is Extended (a ∷ b ∷ c ∷ d ∷ e ∷ f ∷ g ∷ i ∷ []) rest h = extended_is a b c d e f g i rest h.all (fourth_digit a b c d (e ∷ f ∷ g ∷ i ∷ []) h.all)
identifier_is Extended (a ∷ b ∷ c ∷ d ∷ e ∷ f ∷ g ∷ i ∷ j ∷ more) rest h = absurd (omega (arith, h.few))

-- a text reaches as far as a byte of it that is not 0
split_at : (place wanted : ℕ) (text : List ℕ) → 0 < wanted → get_or text place 0 ≡ wanted → (text ≡ take place text ++ wanted ∷ drop (suc place) text) × (length (take place text) ≡ place)
split_at zero wanted [] some e = absurd (omega arith)
split_at zero wanted (byte ∷ text) some e = (ap (λ (b : ℕ). b ∷ text) e, refl)
split_at (suc place) wanted [] some e = absurd (omega arith)
split_at (suc place) wanted (byte ∷ text) some e =
    let more = split_at place wanted text some e in
    let longer = more.1 in
    (ap (λ (ys : List ℕ). byte ∷ ys) more.0, omega arith)

-- an identifier that was found, and the rest
abbrev IsFound : List ℕ → Identifier × List ℕ → Type 0
IsFound text x = (id_text : List ℕ) × SpellsIdentifier x.0 id_text × (text ≡ id_text ++ 35 ∷ x.1)

base_spelled : (text : List ℕ) (x : Identifier × List ℕ) → eqb (get_or text 3 0) 35 ≡ true → identifier_at text ≡ Some x → IsFound text x
unfolding identifier_at
base_spelled [] x sign e = cc
base_spelled (a ∷ []) x sign e = cc
base_spelled (a ∷ b ∷ []) x sign e = cc
base_spelled (a ∷ b ∷ c ∷ []) x sign e = cc
base_spelled (a ∷ b ∷ c ∷ d ∷ rest) x sign e =
    let same = eqb-true d 35 sign in
    option_and_then_some (λ (id : ℕ). cond (leb id 2047) (Some (Base id, rest)) None) (three_digits (a ∷ b ∷ c ∷ d ∷ rest)) x (rw sign at e) (λ id digits found.
    let g = guarded (leb id 2047) (Base id, rest) x found in
    let low : id < 2048 = grind (arith, nat_tests, g.0) in
    let result : IsFound (a ∷ b ∷ c ∷ d ∷ rest) (Base id, rest) = (a ∷ b ∷ c ∷ [], (refl, digits, low), ap (λ (byte : ℕ). a ∷ b ∷ c ∷ byte ∷ rest) same) in
    subst (λ (y : Identifier × List ℕ). IsFound (a ∷ b ∷ c ∷ d ∷ rest) y) g.1 result)

extended_spelled : (text : List ℕ) (x : Identifier × List ℕ) → eqb (get_or text 3 0) 35 ≡ false → identifier_at text ≡ Some x → IsFound text x
unfolding identifier_at
extended_spelled text x other e =
    let test = eqb (get_or text 8 0) 35 && list_all is_hex_digit (take 8 text) in
    let g = guarded test (Extended, drop 9 text) x (rw other at e) in
    let parts = and_parts (eqb (get_or text 8 0) 35) (list_all is_hex_digit (take 8 text)) g.0 in
    let cut = split_at 8 35 text (lit< tt) (eqb-true (get_or text 8 0) 35 parts.0) in
    let long = cut.1 in
    let result : IsFound text (Extended, drop 9 text) = (take 8 text, record { all = parts.1; enough = omega arith; few = omega arith }, cut.0) in
    subst (λ (y : Identifier × List ℕ). IsFound text y) g.1 result

pub identifier_spelled : (text : List ℕ) (x : Identifier × List ℕ) → identifier_at text ≡ Some x → (id_text : List ℕ) × SpellsIdentifier x.0 id_text × (text ≡ id_text ++ 35 ∷ x.1)
identifier_spelled text x e =
    by_test (eqb (get_or text 3 0) 35) (λ sign. base_spelled text x sign e) (λ other. extended_spelled text x other e)
