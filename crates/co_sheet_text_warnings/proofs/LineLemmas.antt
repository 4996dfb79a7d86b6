-- Lines that aren't UTF-8; and long lines, line by line.
use denote.Ref.{Bor}
use Rattle.std.proofs.Common.{◌≡◌, ℕ, ◌+◌, ◌<◌, ◌≤◌, suc, Bool, true, false, List, ◌++◌, refl, sym, ap, ◌∙◌, map, length, get_or, drop, drop-cons, add-one, append_assoc}
use Rattle.std.specs.Prelude.{option_to_list}
use Rattle.std.specs.Str.{IsUtf8, is_utf8}
use Rattle.std.proofs.lemmas.Str.{IsUtf8-from_is_utf8}
use Rattle.std.proofs.lemmas.List.{append-nil, drop_all, map-append}
use Rattle.co_sheet_text.specs.Text.{Line}
use Rattle.co_sheet_text_warnings.specs.declared.warning.Warning.{Warning}
use Rattle.co_sheet_text_warnings.specs.declared.warning.WarningKind.{WarningKind}
use Rattle.co_sheet_text_warnings.specs.Lines.{long_line, long_lines, numbered}
use Rattle.co_sheet_text_warnings.specs.Places.{warning_at, warnings_at}
use Rattle.co_sheet_text_warnings.proofs.PieceLemmas.{piece-first}

pub not_utf8 : (text : List ℕ) → ¬ (IsUtf8 text) → is_utf8 text ≡ false
not_utf8 text h = by_test (is_utf8 text) refl
  where
    by_test : (b : Bool) → is_utf8 text ≡ b → is_utf8 text ≡ false
    by_test true e = absurd (h (IsUtf8-from_is_utf8 text e))
    by_test false e = e

abbrev long_from : WarningKind → ℕ → List (Bor (List ℕ)) → List Warning
long_from kind number lines = warnings_at kind (long_lines (numbered number (map (λ line. line.now) lines)))

-- one line more
pub long-turn : (kind : WarningKind) (lines : List (Bor (List ℕ))) (i : ℕ) (d : Bor (List ℕ)) (number : ℕ) (before after all : List Warning) → i < length lines
    → after ≡ before ++ warnings_at kind (option_to_list (long_line (record { number = number; bytes = (get_or lines i d).now })))
    → before ++ warnings_at kind (long_lines (numbered number (map (λ line. line.now) (drop i lines)))) ≡ all
    → after ++ warnings_at kind (long_lines (numbered (number + 1) (map (λ line. line.now) (drop (i + 1) lines)))) ≡ all
long-turn kind lines i d number before after all inside added invariant =
    let line : Line = record { number = number; bytes = (get_or lines i d).now } in
    let here = option_to_list (long_line line) in
    let others = numbered (number + 1) (map (λ (l : Bor (List ℕ)). l.now) (drop (suc i) lines)) in
    rw (add-one i)
    (ap (λ l. l ++ long_from kind (number + 1) (drop (suc i) lines)) added
    ∙ append_assoc before (warnings_at kind here) (warnings_at kind (long_lines others))
    ∙ ap (λ l. before ++ l) (sym (map-append (warning_at kind) here (long_lines others)))
    ∙ ap (λ l. before ++ warnings_at kind l) (sym (piece-first long_line line others))
    ∙ ap (λ ls. before ++ long_from kind number ls) (sym (drop-cons lines i d inside))
    ∙ invariant)

pub long-end : (kind : WarningKind) (lines : List (Bor (List ℕ))) (i : ℕ) (number : ℕ) (before all : List Warning) → length lines ≤ i
    → before ++ warnings_at kind (long_lines (numbered number (map (λ line. line.now) (drop i lines)))) ≡ all → before ≡ all
long-end kind lines i number before all past invariant =
    sym (append-nil before) ∙ sym (ap (λ ls. before ++ long_from kind number ls) (drop_all i lines past)) ∙ invariant
