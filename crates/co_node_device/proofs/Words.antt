-- The words of 1016h, and the call of the consumers of heartbeats.
use Rattle.std.proofs.Common.{◌≡◌, ℕ, ◌+◌, ◌-◌, ◌≤◌, true, false, List, [], ◌∷◌, ◌++◌, sym, ap, ◌∙◌, arith}
use Rattle.std.specs.Prelude.{map}
use Rattle.std.specs.List.{range_with_len}
use Rattle.std.proofs.lemmas.List.FromFn.{map-range_with_len_more}
use Rattle.co_dict.specs.Rows.{Contents, number_at}
use Rattle.co_dict.specs.ConsumerHeartbeats.{consumer_key}
use Rattle.co_node_parts.specs.declared.heartbeat_consumers.ConsumersEvent.{ConsumersEvent}
use Rattle.co_node_parts.specs.ConsumerTables.{Noted, AllBegun}
use Rattle.co_node_model.specs.declared.mark.Mark.{Mark}
use Rattle.co_node_model.specs.Nmt.{is_reset}
use Rattle.co_node_model.specs.Heartbeats.{consumer_words, consumers_event, consumers_call}

-- one more of a range
pub words_more : (f : ℕ → ℕ) (sub word : ℕ) (before after : List ℕ) → 1 ≤ sub → before ≡ map f (range_with_len 1 (sub - 1)) → word ≡ f sub → after ≡ before ++ word ∷ []
    → after ≡ map f (range_with_len 1 (sub + 1 - 1))
words_more f sub word before after le b w a =
    let next : sub + 1 - 1 ≡ (sub - 1) + 1 = omega arith in
    a ∙ ap (λ (xs : List ℕ). xs ++ word ∷ []) b ∙ ap (λ (n : ℕ). map f (range_with_len 1 (sub - 1)) ++ n ∷ []) w
    ∙ sym (map-range_with_len_more f 1 (sub - 1) sub (omega arith)) ∙ ap (λ (n : ℕ). map f (range_with_len 1 n)) (sym next)

-- all of them
pub words_all : (contents : Contents) (n : ℕ) (words : List ℕ) → n ≡ 127 → words ≡ map (λ sub. number_at contents (consumer_key sub)) (range_with_len 1 n) → words ≡ consumer_words contents
unfolding consumer_words
words_all contents n words e h = h ∙ ap (λ (k : ℕ). map (λ sub. number_at contents (consumer_key sub)) (range_with_len 1 k)) e

-- at a reset all begin
pub call_at_reset : (mark : Mark) (contents : Contents) (words : List ℕ) → is_reset mark ≡ true → words ≡ consumer_words contents → AllBegun words ≡ consumers_call mark contents
call_at_reset mark contents words reset e = rw reset (ap AllBegun e)

-- otherwise an event is noted
pub call_else : (mark : Mark) (contents : Contents) (event : ConsumersEvent) → is_reset mark ≡ false → event ≡ consumers_event mark contents → Noted event ≡ consumers_call mark contents
call_else mark contents event reset e = rw reset (ap Noted e)
