-- What is appended in parts is appended as a whole.
use Rattle.std.proofs.Common.{◌≡◌, ◌∙◌, ℕ, ◌+◌, ◌<◌, List, [], ◌∷◌, ◌++◌, length, take, get_or, Option, Some, None, Result, Ok, Err, refl, ap, sym, append_assoc, append-nil}
use Rattle.std.specs.Prelude.{if◌then◌else◌, option_map}
use Rattle.std.specs.List.{flat_map}
use Rattle.std.specs.Result.{IfOk, OnOk, is_ok}
use Rattle.std.proofs.lemmas.List.{take_more}
use Rattle.std.proofs.lemmas.Grind.{flat_map-append}
use Rattle.conode_text.specs.Appended.{Appended}

-- ---- one part

-- where all goes well a text is there, and what is appended comes after it
pub kept : {X A E : Type 0} (r : Result A E) (old now part : List X) → OnOk r (now ≡ old ++ part)
    → Appended (Some old) part (if is_ok r then Some now else None)
kept (Ok x) old now part h = record { whole = λ all e. ap Some (sym h) ∙ e }
kept (Err x) old now part h = record { whole = λ all e. cc }

-- once memory ran out nothing is said
pub never_whole : {X : Type 0} (before : Option (List X)) (part : List X) → Appended before part None
never_whole before part = record { whole = λ all e. cc }

-- no part
pub nothing : {X : Type 0} (text : Option (List X)) → Appended text [] text
nothing None = record { whole = λ all e. e }
nothing (Some text) = record { whole = λ all e. ap Some (append-nil text) ∙ e }

-- ---- one part after another

module _ {X : Type 0} where
  joined : (t u : Option (List X)) (a b all : List X) → ((some : List X) → u ≡ Some some → option_map (λ text. text ++ a) t ≡ Some some)
      → option_map (λ text. text ++ b) u ≡ Some all → option_map (λ text. text ++ (a ++ b)) t ≡ Some all
  joined t None a b all f e = cc
  joined None (Some some) a b all f e = let g : None ≡ Some some = f some refl in cc
  joined (Some text) (Some some) a b all f e =
      let g : Some (text ++ a) ≡ Some some = f some refl in
      let h : text ++ a ≡ some = cc in
      ap Some (sym (append_assoc text a b) ∙ ap (λ xs. xs ++ b) h) ∙ e

  pub both : {t u v : Option (List X)} {a b : List X} → Appended t a u → Appended u b v → Appended t (a ++ b) v
  both {t = t} {u = u} {a = a} {b = b} f g = record { whole = λ all e. joined t u a b all f.whole (g.whole all e) }

-- ---- in a loop

pub one_more : {X A : Type 0} (part : A → List X) (xs : List A) (i : ℕ) (d : A) {t u v : Option (List X)} → i < length xs
    → Appended t (flat_map part (take i xs)) u → Appended u (part (get_or xs i d)) v → Appended t (flat_map part (take (i + 1) xs)) v
one_more part xs i d h f g =
    rw (ap (flat_map part) (take_more xs i d h) ∙ flat_map-append part (take i xs) (get_or xs i d ∷ []) ∙ ap (λ ts. flat_map part (take i xs) ++ ts) (append-nil (part (get_or xs i d))))
    (both f g)

-- ---- the end

module _ {X : Type 0} (part all : List X) where
  from_nothing : (begin end : Option (List X)) → begin ≡ Some [] → Appended begin part end → end ≡ Some all → all ≡ part
  from_nothing begin end e f g =
      let h : option_map (λ text. text ++ part) begin ≡ Some all = f.whole all g in
      let i : option_map (λ text. text ++ part) begin ≡ Some part = ap (option_map (λ text. text ++ part)) e in
      cc

-- what is handed over of a text that began with nothing is what was appended
pub ended : {X A E : Type 0} (r : Result A E) (text_of : A → List X) {part : List X} {begin end : Option (List X)} → begin ≡ Some [] → Appended begin part end
    → IfOk r (λ text. end ≡ Some (text_of text)) → IfOk r (λ text. text_of text ≡ part)
ended (Ok text) text_of {part = part} {begin = begin} {end = end} e f g = from_nothing part (text_of text) begin end e f g
ended (Err fault) text_of e f g = tt
