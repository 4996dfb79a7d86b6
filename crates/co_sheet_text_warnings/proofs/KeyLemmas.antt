-- Keys, line by line.
use denote.Ref.{Bor}
use Rattle.std.proofs.Common.{◌≡◌, ℕ, ◌+◌, ◌<◌, ◌≤◌, suc, List, ◌++◌, sym, ap, ◌∙◌, map, length, get_or, drop, drop-cons, add-one, append_assoc}
use Rattle.std.specs.Prelude.{filter}
use Rattle.std.proofs.lemmas.List.{append-nil, drop_all}
use Rattle.std.proofs.lemmas.List.Elements.{filter-append}
use Rattle.co_sheet_text.specs.Sections.{LineForm}
use Rattle.co_sheet_text_warnings.specs.declared.keys.Topic.{Topic}
use Rattle.co_sheet_text_warnings.specs.Keys.{WrittenKey, form_of_bytes, key_on, keys_from, topic_after}
use Rattle.co_sheet_text_warnings.specs.KnownKeys.{is_telling}
use Rattle.co_sheet_text_warnings.specs.Lines.{numbered}

-- those that a warning can be about, of lines from this number on
abbrev telling_from : Topic → ℕ → List (Bor (List ℕ)) → List WrittenKey
telling_from topic number lines = filter is_telling (keys_from topic (numbered number (map (λ line. line.now) lines)))

-- one line more
pub keys-turn : (lines : List (Bor (List ℕ))) (i : ℕ) (d : Bor (List ℕ)) (topic next : Topic) (number : ℕ) (form : LineForm) (before after all : List WrittenKey) → i < length lines
    → form ≡ form_of_bytes (get_or lines i d).now → after ≡ before ++ filter is_telling (key_on topic number form) → next ≡ topic_after topic form
    → before ++ filter is_telling (keys_from topic (numbered number (map (λ line. line.now) (drop i lines)))) ≡ all
    → after ++ filter is_telling (keys_from next (numbered (number + 1) (map (λ line. line.now) (drop (i + 1) lines)))) ≡ all
keys-turn lines i d topic next number form before after all inside read added is invariant =
    let rest : Topic → List WrittenKey = λ t. telling_from t (number + 1) (drop (suc i) lines) in
    let first : LineForm → List WrittenKey = λ f. filter is_telling (key_on topic number f) in
    rw (add-one i)
    (ap (λ l. l ++ rest next) added
    ∙ ap (λ t. (before ++ first form) ++ rest t) is
    ∙ append_assoc before (first form) (rest (topic_after topic form))
    ∙ ap (λ (f : LineForm). before ++ (first f ++ rest (topic_after topic f))) read
    ∙ ap (λ l. before ++ l) (sym (filter-append is_telling (key_on topic number (form_of_bytes (get_or lines i d).now))
    (keys_from (topic_after topic (form_of_bytes (get_or lines i d).now)) (numbered (number + 1) (map (λ line. line.now) (drop (suc i) lines))))))
    ∙ ap (λ ls. before ++ telling_from topic number ls) (sym (drop-cons lines i d inside))
    ∙ invariant)

pub keys-end : (lines : List (Bor (List ℕ))) (i : ℕ) (topic : Topic) (number : ℕ) (before all : List WrittenKey) → length lines ≤ i
    → before ++ filter is_telling (keys_from topic (numbered number (map (λ line. line.now) (drop i lines)))) ≡ all → before ≡ all
keys-end lines i topic number before all past invariant =
    sym (append-nil before) ∙ sym (ap (λ ls. before ++ telling_from topic number ls) (drop_all i lines past)) ∙ invariant
