-- What an event line spells is what its words are read as, and the other way round.
use Rattle.std.proofs.Common.{◌≡◌, ℕ, ◌+◌, ◌*◌, ◌<◌, Bool, true, false, inl, inr, List, [], ◌∷◌, ◌++◌, length, Option, Some, None, eqb, ltb, leb, cond, codes, refl, sym, ap, subst, ◌∙◌, arith, append-nil}
use Rattle.std.specs.Prelude.{◌==◌, ◌&&◌, ◌||◌, bytes_eq}
use Rattle.std.specs.List.{list_all, list_any, onto_first}
use Rattle.std.specs.Option.{option_map}
use Rattle.std.proofs.lemmas.Bool.{and_parts, eqb-true, lt-ltb, ltb-true}
use Rattle.std.proofs.lemmas.Bool.Decides.{nat_tests}
use Rattle.std.proofs.lemmas.List.Folds.{list_any-append}
use Rattle.std.proofs.lemmas.Option.{option_and_then_some}
use Rattle.std.proofs.lemmas.Slice.Eq.{bytes_eq-Decides}
use Rattle.co_value.specs.declared.key.Key.{Key}
use Rattle.co_value.specs.KeyTexts.{key_in}
use Rattle.co_text.specs.HexPairs.{byte_in, bytes_in, hex_in, pairs_at, pairs_in, word_in}
use Rattle.co_text.specs.Texts.{◌>>=◌, decimal_in, decimal_value, hex_pair, is_digit}
use Rattle.co_text.proofs.Tests.{by_test, guarded}
use Rattle.conode_trace.specs.declared.event_line.EventLine.{EventLine}
use Rattle.conode_trace.specs.declared.event_line.EventLine.TheVariants.{Ticks, App}
use Rattle.co_frame.specs.declared.app_event.AppEvent.TheVariants as app
use Rattle.conode_trace.specs.Events.{words, event_of_one, event_of_two, event_of_three, event_in}
use Rattle.conode_trace.specs.Grammar.{SpellsEvent, SpellsHex, SpellsKey, SpellsNumber, SpellsPairs, SpellsWord}
use Rattle.conode_trace.proofs.GrammarBodies.{pairs_are, pairs_spelled}

-- a value that is made of another
mapped : {A B P : Type 0} (f : A → B) (o : Option A) (b : B) → option_map f o ≡ Some b → ((a : A) → o ≡ Some a → f a ≡ b → P) → P
mapped f None b e k = absurd cc
mapped f (Some a) b e k = k a refl cc

-- ---- a text without a space is one word

abbrev has_space : List ℕ → Bool
has_space text = list_any (λ byte. byte == 32) text

either : (a b : Bool) → (a || b) ≡ false → (a ≡ false) × (b ≡ false)
either false b h = (refl, h)
either true b h = cc

one_more : (x : ℕ) (xs : List ℕ) (parts all : List (List ℕ)) → eqb x 32 ≡ false → all ≡ xs ∷ parts → cond (eqb x 32) ([] ∷ all) (onto_first x all) ≡ (x ∷ xs) ∷ parts
one_more x xs parts all h e = rw (h, e) refl

words_one : (text : List ℕ) → has_space text ≡ false → words text ≡ text ∷ []
words_one [] h = refl
words_one (x ∷ xs) h = let both = either (eqb x 32) (has_space xs) h in one_more x xs [] (words xs) both.0 (words_one xs both.1)

words_cut : (text rest : List ℕ) → has_space text ≡ false → words (text ++ 32 ∷ rest) ≡ text ∷ words rest
words_cut [] rest h = refl
words_cut (x ∷ xs) rest h = let both = either (eqb x 32) (has_space xs) h in one_more x xs (words rest) (words (xs ++ 32 ∷ rest)) both.0 (words_cut xs rest both.1)

no_space : (x : ℕ) (xs : List ℕ) → eqb x 32 ≡ false → has_space xs ≡ false → has_space (x ∷ xs) ≡ false
no_space x xs h k = rw (h, k) refl

pair_high : (high low byte : ℕ) → hex_pair high low ≡ Some byte → eqb high 32 ≡ false
pair_high high low byte h = by_test (eqb high 32) (λ e. let no : None ≡ Some byte = rw (eqb-true high 32 e) at h in absurd cc) (λ e. e)

high_found : {A : Type 0} (o : Option A) (byte : ℕ) → (o >>= λ a. None) ≡ Some byte → ⊥
high_found None byte h = cc
high_found (Some a) byte h = cc

pair_low : (high low byte : ℕ) → hex_pair high low ≡ Some byte → eqb low 32 ≡ false
pair_low high low byte h = by_test (eqb low 32) (λ e. absurd (high_found _ byte (rw (eqb-true low 32 e) at h))) (λ e. e)

pairs_no_space : (bytes text : List ℕ) → SpellsPairs bytes text → has_space text ≡ false
pairs_no_space [] [] h = refl
pairs_no_space [] (digit ∷ digits) h = absurd h
pairs_no_space (byte ∷ bytes) [] h = absurd h
pairs_no_space (byte ∷ bytes) (high ∷ []) h = absurd h
pairs_no_space (byte ∷ bytes) (high ∷ low ∷ digits) h =
    no_space high (low ∷ digits) (pair_high high low byte h.0) (no_space low digits (pair_low high low byte h.0) (pairs_no_space bytes digits h.1))

digits_no_space : (text : List ℕ) → list_all is_digit text ≡ true → has_space text ≡ false
digits_no_space [] h = refl
digits_no_space (x ∷ xs) h =
    let both = and_parts (is_digit x) (list_all is_digit xs) h in
    no_space x xs (by_test (eqb x 32) (λ e. let no : false ≡ true = rw (eqb-true x 32 e) at both.0 in absurd cc) (λ e. e)) (digits_no_space xs both.1)

key_no_space : (key : Key) (text : List ℕ) → SpellsKey key text → has_space text ≡ false
key_no_space key text h =
    let (high, low, pairs, e) = h.index_spelled in
    let index = pairs_no_space (high ∷ low ∷ []) h.index_text pairs in
    let sub = pairs_no_space (key.sub ∷ []) h.sub_text h.sub_spelled in
    ap has_space h.joined ∙ list_any-append (λ byte. byte == 32) h.index_text (58 ∷ h.sub_text) ∙ (rw (index, sub) refl)

hex_no_space : (bytes text : List ℕ) → SpellsHex bytes text → has_space text ≡ false
hex_no_space bytes text (inl (none, e)) = ap has_space e
hex_no_space bytes text (inr (some, pairs)) = pairs_no_space bytes text pairs

-- ---- a word that is spelled is read

number_is : (least most number : ℕ) (text : List ℕ) → SpellsNumber least most number text → decimal_in least most text ≡ Some number
number_is least most number text h =
    let some : ltb 0 (length text) ≡ true = lt-ltb 0 (length text) h.some in
    let low : leb least (decimal_value text) ≡ true = grind (arith, nat_tests, h.low, h.value) in
    let high : leb (decimal_value text) most ≡ true = grind (arith, nat_tests, h.high, h.value) in
    rw (some, h.digits, low, high, ← h.value) refl

byte_is : (byte : ℕ) (text : List ℕ) → SpellsPairs (byte ∷ []) text → byte_in text ≡ Some byte
byte_is byte [] h = absurd h
byte_is byte (a ∷ []) h = absurd h
byte_is byte (a ∷ b ∷ []) h = h.0
byte_is byte (a ∷ b ∷ c ∷ more) h = absurd h.1

two_bytes : (a b c d high low number : ℕ) → hex_pair a b ≡ Some high → hex_pair c d ≡ Some low → number ≡ 256 * high + low → word_in (a ∷ b ∷ c ∷ d ∷ []) ≡ Some number
two_bytes a b c d high low number p q e = rw (p, q, e) refl

word_is : (number : ℕ) (text : List ℕ) → SpellsWord number text → word_in text ≡ Some number
word_is number [] (high, low, h, e) = absurd h
word_is number (a ∷ []) (high, low, h, e) = absurd h
word_is number (a ∷ b ∷ []) (high, low, h, e) = absurd h.1
word_is number (a ∷ b ∷ c ∷ []) (high, low, h, e) = absurd h.1
word_is number (a ∷ b ∷ c ∷ d ∷ []) (high, low, h, e) = two_bytes a b c d high low number h.0 h.1.0 e
word_is number (a ∷ b ∷ c ∷ d ∷ x ∷ more) (high, low, h, e) = absurd h.1.1

key_of : (a b c d e f : ℕ) (key : Key) → word_in (a ∷ b ∷ c ∷ d ∷ []) ≡ Some key.index → byte_in (e ∷ f ∷ []) ≡ Some key.sub → key_in (a ∷ b ∷ c ∷ d ∷ 58 ∷ e ∷ f ∷ []) ≡ Some key
unfolding key_in
key_of a b c d e f key p q = rw (p, q) refl

key_parts : (key : Key) (index sub : List ℕ) → SpellsWord key.index index → SpellsPairs (key.sub ∷ []) sub → key_in (index ++ 58 ∷ sub) ≡ Some key
key_parts key [] sub (high, low, h, e) s = absurd h
key_parts key (a ∷ []) sub (high, low, h, e) s = absurd h
key_parts key (a ∷ b ∷ []) sub (high, low, h, e) s = absurd h.1
key_parts key (a ∷ b ∷ c ∷ []) sub (high, low, h, e) s = absurd h.1
key_parts key (a ∷ b ∷ c ∷ d ∷ x ∷ more) sub (high, low, h, e) s = absurd h.1.1
key_parts key (a ∷ b ∷ c ∷ d ∷ []) [] w s = absurd s
key_parts key (a ∷ b ∷ c ∷ d ∷ []) (e ∷ []) w s = absurd s
key_parts key (a ∷ b ∷ c ∷ d ∷ []) (e ∷ f ∷ []) w s = key_of a b c d e f key (word_is key.index (a ∷ b ∷ c ∷ d ∷ []) w) s.0
key_parts key (a ∷ b ∷ c ∷ d ∷ []) (e ∷ f ∷ x ∷ more) w s = absurd s.1

key_is : (key : Key) (text : List ℕ) → SpellsKey key text → key_in text ≡ Some key
key_is key text h = ap key_in h.joined ∙ key_parts key h.index_text h.sub_text h.index_spelled h.sub_spelled

pairs_in_is : (bytes text : List ℕ) → SpellsPairs bytes text → pairs_in text ≡ Some bytes
unfolding pairs_in
pairs_in_is bytes text h =
    let found : pairs_at text ≡ (bytes, []) = ap pairs_at (sym (append-nil text)) ∙ pairs_are bytes text [] h refl in
    rw found refl

no_hyphen : (bytes text : List ℕ) → 0 < length text → SpellsPairs bytes text → bytes_eq text (codes "-") ≡ false
no_hyphen bytes [] some h = absurd (omega (arith, some))
no_hyphen [] (a ∷ more) some h = absurd h
no_hyphen (byte ∷ bytes) (a ∷ []) some h = absurd h
no_hyphen (byte ∷ bytes) (a ∷ b ∷ more) some h = by_test (eqb a 45) (λ e. rw e refl) (λ e. rw e refl)

hex_is : (bytes text : List ℕ) → SpellsHex bytes text → hex_in text ≡ Some bytes
unfolding hex_in
hex_is bytes text (inl (none, e)) = rw (e, none) refl
hex_is bytes text (inr (some, pairs)) =
    let filled : eqb (length text) 0 ≡ false = grind (arith, nat_tests, some) in
    rw (filled, no_hyphen bytes text some pairs) (pairs_in_is bytes text pairs)

bytes_are : (count : ℕ) (bytes text : List ℕ) → SpellsPairs bytes text → length bytes ≡ count → bytes_in count text ≡ Some bytes
bytes_are count bytes text h e =
    let same : eqb (length bytes) count ≡ true = grind (arith, nat_tests, e) in
    rw (pairs_in_is bytes text h, same) refl

-- ---- an event that is spelled is read

pub event_is : (event : EventLine) (line : List ℕ) → SpellsEvent event line → event_in (words line) ≡ Some event
unfolding event_of_one event_of_two event_of_three
event_is (Ticks count) line (number, h, e) =
    ap (λ (l : List ℕ). event_in (words l)) e ∙ rw (words_one number (digits_no_space number h.digits), number_is 1 86400000 count number h) refl
event_is (App (app.Event k)) line (number, h, e) =
    ap (λ (l : List ℕ). event_in (words l)) e ∙ rw (words_one number (digits_no_space number h.digits), number_is 0 65535 k number h) refl
event_is (App (app.Changed key)) line (word, h, e) =
    ap (λ (l : List ℕ). event_in (words l)) e ∙ rw (words_one word (key_no_space key word h), key_is key word h) refl
event_is (App (app.Clear bits)) line (word, h, e) =
    ap (λ (l : List ℕ). event_in (words l)) e ∙ rw (words_one word (pairs_no_space (bits ∷ []) word h), byte_is bits word h) refl
event_is (App (app.Write key bytes)) line (key_word, hex, k, h, e) =
    ap (λ (l : List ℕ). event_in (words l)) e ∙ rw (words_cut key_word hex (key_no_space key key_word k), words_one hex (hex_no_space bytes hex h), key_is key key_word k, hex_is bytes hex h) refl
event_is (App (app.Raise code bits extra)) line (c, b, x, (high, low, pairs, is), b_pairs, x_pairs, five, e) =
    let w = word_is code c (high, low, pairs, is) in
    ap (λ (l : List ℕ). event_in (words l)) e
    ∙ rw (words_cut c (b ++ 32 ∷ x) (pairs_no_space (high ∷ low ∷ []) c pairs), words_cut b x (pairs_no_space (bits ∷ []) b b_pairs), words_one x (pairs_no_space extra x x_pairs), w, byte_is bits b b_pairs, bytes_are 5 extra x x_pairs five) refl

-- ---- the words of a line, joined, are the line

unwords : List (List ℕ) → List ℕ
unwords [] = []
unwords (word ∷ []) = word
unwords (word ∷ next ∷ more) = word ++ 32 ∷ unwords (next ∷ more)

after_space : (parts : List (List ℕ)) (text : List ℕ) → 0 < length parts → unwords parts ≡ text → unwords ([] ∷ parts) ≡ 32 ∷ text
unfolding unwords
after_space [] text some e = absurd (omega (arith, some))
after_space (part ∷ parts) text some e = ap (λ (t : List ℕ). 32 ∷ t) e

onto_word : (x : ℕ) (parts : List (List ℕ)) (text : List ℕ) → 0 < length parts → unwords parts ≡ text → unwords (onto_first x parts) ≡ x ∷ text
unfolding unwords
onto_word x [] text some e = absurd (omega (arith, some))
onto_word x (part ∷ []) text some e = ap (λ (t : List ℕ). x ∷ t) e
onto_word x (part ∷ next ∷ more) text some e = ap (λ (t : List ℕ). x ∷ t) e

some_onto : (x : ℕ) (parts : List (List ℕ)) → 0 < length (onto_first x parts)
some_onto x [] = omega arith
some_onto x (part ∷ parts) = omega arith

some_words : (text : List ℕ) → 0 < length (words text)
some_words [] = omega arith
some_words (x ∷ xs) = by_test (eqb x 32) (λ e. rw e (omega arith)) (λ e. rw e (some_onto x (words xs)))

joined : (text : List ℕ) → unwords (words text) ≡ text
unfolding unwords
joined [] = refl
joined (x ∷ xs) = by_test (eqb x 32)
    (λ e. rw e (after_space (words xs) xs (some_words xs) (joined xs) ∙ ap (λ (y : ℕ). y ∷ xs) (sym (eqb-true x 32 e))))
    (λ e. rw e (onto_word x (words xs) xs (some_words xs) (joined xs)))

-- ---- a word that is read is spelled

number_spelled : (least most number : ℕ) (text : List ℕ) → decimal_in least most text ≡ Some number → SpellsNumber least most number text
number_spelled least most number text e =
    let g = guarded (((ltb 0 (length text) && list_all is_digit text) && leb least (decimal_value text)) && leb (decimal_value text) most) (decimal_value text) number e in
    let one = and_parts ((ltb 0 (length text) && list_all is_digit text) && leb least (decimal_value text)) (leb (decimal_value text) most) g.0 in
    let two = and_parts (ltb 0 (length text) && list_all is_digit text) (leb least (decimal_value text)) one.0 in
    let three = and_parts (ltb 0 (length text)) (list_all is_digit text) two.0 in
    record {
      digits = three.1;
      some = ltb-true 0 (length text) three.0;
      value = sym g.1;
      low = grind (arith, nat_tests, two.1, g.1);
      high = grind (arith, nat_tests, one.1, g.1);
    }

byte_spelled : (byte : ℕ) (text : List ℕ) → byte_in text ≡ Some byte → SpellsPairs (byte ∷ []) text
byte_spelled byte [] e = cc
byte_spelled byte (a ∷ []) e = cc
byte_spelled byte (a ∷ b ∷ []) e = (e, tt)
byte_spelled byte (a ∷ b ∷ c ∷ more) e = cc

word_spelled : (number : ℕ) (text : List ℕ) → word_in text ≡ Some number → SpellsWord number text
word_spelled number [] e = cc
word_spelled number (a ∷ []) e = cc
word_spelled number (a ∷ b ∷ []) e = cc
word_spelled number (a ∷ b ∷ c ∷ []) e = cc
word_spelled number (a ∷ b ∷ c ∷ d ∷ []) e =
    option_and_then_some _ (hex_pair a b) number e (λ high e0 f0.
    option_and_then_some _ (hex_pair c d) number f0 (λ low e1 f1.
    let same : 256 * high + low ≡ number = cc in
    (high, low, (e0, (e1, tt)), sym same)))
word_spelled number (a ∷ b ∷ c ∷ d ∷ x ∷ more) e = cc

key_spelled : (key : Key) (text : List ℕ) → key_in text ≡ Some key → SpellsKey key text
unfolding key_in
key_spelled key (a ∷ b ∷ c ∷ d ∷ colon ∷ e ∷ f ∷ []) h = by_test (eqb colon 58)
    (λ is.
    option_and_then_some _ (word_in (a ∷ b ∷ c ∷ d ∷ [])) key (rw is at h) (λ index e0 f0.
    option_and_then_some _ (byte_in (e ∷ f ∷ [])) key f0 (λ sub e1 f1.
    let same : record { index = index; sub = sub } ≡ key = cc in
    subst (λ (k : Key). SpellsKey k (a ∷ b ∷ c ∷ d ∷ colon ∷ e ∷ f ∷ [])) same (record {
      index_text = a ∷ b ∷ c ∷ d ∷ [];
      sub_text = e ∷ f ∷ [];
      index_spelled = word_spelled index (a ∷ b ∷ c ∷ d ∷ []) e0;
      sub_spelled = byte_spelled sub (e ∷ f ∷ []) e1;
      joined = ap (λ (y : ℕ). a ∷ b ∷ c ∷ d ∷ y ∷ e ∷ f ∷ []) (eqb-true colon 58 is);
    }))))
    (λ no. let none : None ≡ Some key = rw no at h in absurd cc)
key_spelled key [] h = cc
key_spelled key (a ∷ []) h = cc
key_spelled key (a ∷ b ∷ []) h = cc
key_spelled key (a ∷ b ∷ c ∷ []) h = cc
key_spelled key (a ∷ b ∷ c ∷ d ∷ []) h = cc
key_spelled key (a ∷ b ∷ c ∷ d ∷ colon ∷ []) h = cc
key_spelled key (a ∷ b ∷ c ∷ d ∷ colon ∷ e ∷ []) h = cc
key_spelled key (a ∷ b ∷ c ∷ d ∷ colon ∷ e ∷ f ∷ x ∷ more) h = cc

nothing_left : (rest : List ℕ) → eqb (length rest) 0 ≡ true → rest ≡ []
nothing_left [] e = refl
nothing_left (x ∷ xs) e = absurd (let no : length (x ∷ xs) ≡ 0 = eqb-true (length (x ∷ xs)) 0 e in omega (arith, no))

pairs_in_spelled : (bytes text : List ℕ) → pairs_in text ≡ Some bytes → SpellsPairs bytes text
unfolding pairs_in
pairs_in_spelled bytes text e =
    let g = guarded (eqb (length (pairs_at text).1) 0) (pairs_at text).0 bytes e in
    let (digits, pairs, whole) = pairs_spelled text in
    let same : text ≡ digits = whole ∙ ap (λ (r : List ℕ). digits ++ r) (nothing_left (pairs_at text).1 g.0) ∙ append-nil digits in
    subst (λ (b : List ℕ). SpellsPairs b text) g.1 (subst (SpellsPairs (pairs_at text).0) (sym same) pairs)

hex_spelled : (bytes text : List ℕ) → hex_in text ≡ Some bytes → SpellsHex bytes text
unfolding hex_in
hex_spelled bytes text e = by_test (eqb (length text) 0)
    (λ empty. let none : None ≡ Some bytes = rw empty at e in absurd cc)
    (λ some. by_test (bytes_eq text (codes "-"))
    (λ hyphen.
    let is : Some [] ≡ Some bytes = rw (some, hyphen) at e in
    let same : [] ≡ bytes = cc in
    inl (sym same, (bytes_eq-Decides text (codes "-")).0 hyphen))
    (λ pairs. inr (grind (arith, nat_tests, some), pairs_in_spelled bytes text (rw (some, pairs) at e))))

bytes_spelled : (count : ℕ) (bytes text : List ℕ) → bytes_in count text ≡ Some bytes → SpellsPairs bytes text × (length bytes ≡ count)
bytes_spelled count bytes text e =
    option_and_then_some _ (pairs_in text) bytes e (λ found e0 f0.
    let g = guarded (eqb (length found) count) found bytes f0 in
    let same : pairs_in text ≡ Some bytes = e0 ∙ ap (λ (b : List ℕ). Some b) g.1 in
    (pairs_in_spelled bytes text same, ap length (sym g.1) ∙ eqb-true (length found) count g.0))

-- ---- an event that is read is spelled

-- a name, a space and what follows
named : (name known after line : List ℕ) → bytes_eq name known ≡ true → line ≡ name ++ 32 ∷ after → line ≡ known ++ 32 ∷ after
named name known after line same is = is ∙ ap (λ (n : List ℕ). n ++ 32 ∷ after) ((bytes_eq-Decides name known).0 same)

one_spelled : (name word line : List ℕ) (event : EventLine) → line ≡ name ++ 32 ∷ word → event_of_one name word ≡ Some event → SpellsEvent event line
unfolding event_of_one
one_spelled name word line event is h =
    by_test (bytes_eq name (codes "!tick")) (λ y. mapped Ticks (decimal_in 1 86400000 word) event (rw y at h) (λ count e same.
    subst (λ (v : EventLine). SpellsEvent v line) same (word, number_spelled 1 86400000 count word e, named name (codes "!tick") word line y is))) (λ n0.
    by_test (bytes_eq name (codes "!event")) (λ y. mapped (λ k. App (app.Event k)) (decimal_in 0 65535 word) event (rw (n0, y) at h) (λ k e same.
    subst (λ (v : EventLine). SpellsEvent v line) same (word, number_spelled 0 65535 k word e, named name (codes "!event") word line y is))) (λ n1.
    by_test (bytes_eq name (codes "!changed")) (λ y. mapped (λ key. App (app.Changed key)) (key_in word) event (rw (n0, n1, y) at h) (λ key e same.
    subst (λ (v : EventLine). SpellsEvent v line) same (word, key_spelled key word e, named name (codes "!changed") word line y is))) (λ n2.
    by_test (bytes_eq name (codes "!clear")) (λ y. mapped (λ bits. App (app.Clear bits)) (byte_in word) event (rw (n0, n1, n2, y) at h) (λ bits e same.
    subst (λ (v : EventLine). SpellsEvent v line) same (word, byte_spelled bits word e, named name (codes "!clear") word line y is))) (λ n3.
    let none : None ≡ Some event = rw (n0, n1, n2, n3) at h in absurd cc))))

two_spelled : (name first second line : List ℕ) (event : EventLine) → line ≡ name ++ 32 ∷ (first ++ 32 ∷ second) → event_of_two name first second ≡ Some event → SpellsEvent event line
unfolding event_of_two
two_spelled name first second line event is h =
    by_test (bytes_eq name (codes "!write"))
    (λ y.
    option_and_then_some _ (key_in first) event (rw y at h) (λ key e0 f0.
    option_and_then_some _ (hex_in second) event f0 (λ bytes e1 f1.
    let same : App (app.Write key bytes) ≡ event = cc in
    subst (λ (v : EventLine). SpellsEvent v line) same (first, second, key_spelled key first e0, hex_spelled bytes second e1, named name (codes "!write") (first ++ 32 ∷ second) line y is))))
    (λ no. let none : None ≡ Some event = rw no at h in absurd cc)

three_spelled : (name first second third line : List ℕ) (event : EventLine) → line ≡ name ++ 32 ∷ (first ++ 32 ∷ (second ++ 32 ∷ third)) → event_of_three name first second third ≡ Some event → SpellsEvent event line
unfolding event_of_three
three_spelled name first second third line event is h =
    by_test (bytes_eq name (codes "!raise"))
    (λ y.
    option_and_then_some _ (word_in first) event (rw y at h) (λ code e0 f0.
    option_and_then_some _ (byte_in second) event f0 (λ bits e1 f1.
    option_and_then_some _ (bytes_in 5 third) event f1 (λ extra e2 f2.
    let same : App (app.Raise code bits extra) ≡ event = cc in
    let five = bytes_spelled 5 extra third e2 in
    subst (λ (v : EventLine). SpellsEvent v line) same (first, second, third, word_spelled code first e0, byte_spelled bits second e1, five.0, five.1, named name (codes "!raise") (first ++ 32 ∷ (second ++ 32 ∷ third)) line y is)))))
    (λ no. let none : None ≡ Some event = rw no at h in absurd cc)

parts_spelled : (parts : List (List ℕ)) (line : List ℕ) (event : EventLine) → line ≡ unwords parts → event_in parts ≡ Some event → SpellsEvent event line
unfolding unwords
parts_spelled [] line event is h = absurd cc
parts_spelled (name ∷ []) line event is h = absurd cc
parts_spelled (name ∷ a ∷ []) line event is h = one_spelled name a line event is h
parts_spelled (name ∷ a ∷ b ∷ []) line event is h = two_spelled name a b line event is h
parts_spelled (name ∷ a ∷ b ∷ c ∷ []) line event is h = three_spelled name a b c line event is h
parts_spelled (name ∷ a ∷ b ∷ c ∷ d ∷ more) line event is h = absurd cc

pub event_spelled : (event : EventLine) (line : List ℕ) → event_in (words line) ≡ Some event → SpellsEvent event line
event_spelled event line h = parts_spelled (words line) line event (sym (joined line)) h
