-- How far a recording is compared.
use Rattle.std.proofs.Common.{◌≡◌, ℕ, ◌+◌, ◌<◌, ◌≤◌, Bool, false, true, ◌⊎◌, inl, inr, List, [], ◌∷◌, ◌++◌, length, Option, None, Some, IfSome, ltb, refl, sym, ap, ap₂, subst, ◌∙◌, arith, append_assoc, append-nil}
use Rattle.std.specs.Prelude.{◌||◌, ◌==◌}
use Rattle.std.specs.List.{flat_map, before_first, after_first}
use Rattle.std.specs.Io.KnownBytes.{Keeps, IsAtEnd}
use Rattle.std.specs.Str.Lines.{lines}
use Rattle.std.proofs.KnownBytes.{Appends-nil, Appends-kept}
use Rattle.std.proofs.lemmas.Bool.Decides.{nat_tests}
use Rattle.co_stream.specs.declared.bounded_lines.Found.TheVariants.{Line, Last, TooLong}
use Rattle.co_stream.specs.Founds.{is_closed, ClosesAlike, Finds}
use Rattle.co_stream.specs.Held.{Held, nothing_held, to_come}
use Rattle.co_stream.specs.Lines.{has_line_feed, GivesLine}
use Rattle.co_stream.proofs.LineLemmas.{cut_at_feed, lines-feed, lines-last}
use Rattle.co_text.proofs.Tests.{by_test}
use Rattle.co_stream.specs.Readings.{Gave}
use Rattle.co_stream.proofs.Readers.{gave_nothing, gave_so, gave_then, of_given, of_known}
use Rattle.conode_explain.specs.LogLines.{line_at}
use Rattle.conode_io.specs.Written.{WritesLines}
use Rattle.conode_io.proofs.WriteLemmas.{lines_after}
use Rattle.conode_io.specs.TraceTexts.{GaveText}
use Rattle.conode_logs.specs.declared.log.Form.{Form}
use Rattle.conode_logs.specs.declared.log.Log.{Log}
use Rattle.conode_logs.specs.Logs.{says}
use Rattle.conode_compare.specs.declared.comparing.Comparing.{Comparing}
use Rattle.conode_compare.specs.Compared.{Comparison, SoFar, at_first, compared, compared_from, comparing_after, line_lines, line_noted, line_with, long_noted, said_lines, said_with, so_far_after}
use Rattle.conode_compare_report.specs.Views.{Kept}
use Rattle.conode_compare.specs.Taking.{Compares, Gives, Takes}

-- a text that has no line is empty
no_lines_in : (text : List ℕ) → lines text ≡ [] → text ≡ []
no_lines_in [] none = refl
no_lines_in (byte ∷ bytes) none = by_test (has_line_feed (byte ∷ bytes))
    (λ some. let cut = cut_at_feed (byte ∷ bytes) (before_first (λ b. b == 10) (byte ∷ bytes)) (after_first (λ b. b == 10) (byte ∷ bytes)) some refl refl in
    let first = ap lines cut.0 ∙ lines-feed (before_first (λ b. b == 10) (byte ∷ bytes)) (after_first (λ b. b == 10) (byte ∷ bytes)) cut.1 in absurd cc)
    (λ fails. let first = lines-last (byte ∷ bytes) fails (omega arith) in absurd cc)

neither : (a b : Bool) → (a || b) ≡ false → (a ≡ false) × (b ≡ false)
neither false b h = (refl, h)
neither true b h = cc

open_end : (byte : ℕ) (bytes : List ℕ) → has_line_feed (byte ∷ bytes) ≡ false → is_closed (byte ∷ bytes) ≡ false
open_end byte [] none = (neither (byte == 10) false none).0
open_end byte (next ∷ more) none = open_end next more (neither (byte == 10) (has_line_feed (next ∷ more)) none).1

few_bytes : (count : ℕ) → count ≤ 512 → ltb 512 count ≡ false
few_bytes count few = grind (arith, nat_tests)

many_bytes : (count : ℕ) → 512 < count → ltb 512 count ≡ true
many_bytes count many = grind (arith, nat_tests)

module _ (c : Comparison) where
  -- ---- lines

  one_line : (closed : Bool) (number : ℕ) (so_far : SoFar) (line : List ℕ) (more : List (List ℕ)) → (more ≡ [] → closed ≡ true)
      → compared_from c closed number so_far (line ∷ more) ≡ line_lines c number so_far line ++ compared_from c closed (number + 1) (line_with c so_far line) more
  unfolding compared_from
  one_line closed number so_far line [] counts = rw (counts refl) (sym (append-nil (line_lines c number so_far line)))
  one_line closed number so_far line (next ∷ more) counts = refl

  one_after : (closed : Bool) (so_far : SoFar) (line : List ℕ) (more : List (List ℕ)) → (more ≡ [] → closed ≡ true)
      → so_far_after c closed so_far (line ∷ more) ≡ so_far_after c closed (line_with c so_far line) more
  unfolding so_far_after
  one_after closed so_far line [] counts = rw (counts refl) refl
  one_after closed so_far line (next ∷ more) counts = refl

  no_lines : (closed : Bool) (number : ℕ) (so_far : SoFar) → compared_from c closed number so_far [] ≡ []
  unfolding compared_from
  no_lines closed number so_far = refl

  nothing_after : (closed : Bool) (so_far : SoFar) → so_far_after c closed so_far [] ≡ so_far
  unfolding so_far_after
  nothing_after closed so_far = refl

  cut_off : (number : ℕ) (so_far : SoFar) (line : List ℕ) → length line ≤ 512 → compared_from c false number so_far (line ∷ []) ≡ []
  unfolding compared_from
  cut_off number so_far line few = rw (few_bytes (length line) few) refl

  cut_off_after : (so_far : SoFar) (line : List ℕ) → length line ≤ 512 → so_far_after c false so_far (line ∷ []) ≡ so_far
  unfolding so_far_after
  cut_off_after so_far line few = rw (few_bytes (length line) few) refl

  -- a line that is too long
  abbrev with_long : SoFar → SoFar
  with_long so_far = record so_far { comparing = long_noted so_far.comparing }

  short_lines : (number : ℕ) (so_far : SoFar) (line : List ℕ) → length line ≤ 512
      → line_lines c number so_far line ≡ said_lines c number (line_noted so_far.comparing line) (line_at so_far.log line)
  short_lines number so_far line few = rw (few_bytes (length line) few) refl

  short_with : (so_far : SoFar) (line : List ℕ) → length line ≤ 512
      → line_with c so_far line ≡ record { log = (says so_far.log line).0; comparing = said_with c (line_noted so_far.comparing line) line (line_at so_far.log line) }
  short_with so_far line few = rw (few_bytes (length line) few) refl

  long_lines : (number : ℕ) (so_far : SoFar) (line : List ℕ) → 512 < length line → line_lines c number so_far line ≡ []
  long_lines number so_far line many = rw (many_bytes (length line) many) refl

  long_with : (so_far : SoFar) (line : List ℕ) → 512 < length line → line_with c so_far line ≡ with_long so_far
  long_with so_far line many = rw (many_bytes (length line) many) refl

  -- at the end
  long_last : (closed : Bool) (number : ℕ) (so_far : SoFar) (line : List ℕ) → 512 < length line → compared_from c closed number so_far (line ∷ []) ≡ []
  unfolding compared_from
  long_last true number so_far line many = long_lines number so_far line many
  long_last false number so_far line many = rw (many_bytes (length line) many) refl

  long_after : (closed : Bool) (so_far : SoFar) (line : List ℕ) → 512 < length line → so_far_after c closed so_far (line ∷ []) ≡ with_long so_far
  unfolding so_far_after
  long_after true so_far line many = long_with so_far line many
  long_after false so_far line many = rw (many_bytes (length line) many) refl

  -- ---- what bytes give

  gives_none : (known : Option (List ℕ)) (number : ℕ) (so_far : SoFar) → Gives c known known number number so_far so_far []
  gives_none None number so_far = tt
  gives_none (Some text) number so_far = (refl, refl)

  gives_then : (a b d : Option (List ℕ)) (number next left : ℕ) (first mid last : SoFar) (written more : List (List ℕ))
      → Gives c a b number next first mid written → Gives c b d next left mid last more → Gives c a d number left first last (written ++ more)
  gives_then None b d number next left first mid last written more h k = tt
  gives_then (Some xs) None d number next left first mid last written more h k = absurd h
  gives_then (Some xs) (Some ys) None number next left first mid last written more h k = absurd k
  gives_then (Some xs) (Some ys) (Some zs) number next left first mid last written more h k = (
    h.0 ∙ ap (λ (all : List (List ℕ)). written ++ all) k.0 ∙ sym (append_assoc written more (compared_from c (is_closed zs) left last (lines zs))),
    h.1 ∙ k.1,
  )

  module _ (number : ℕ) (so_far : SoFar) (line : List ℕ) where
    -- a line with its line feed
    gives_one : (old new : Option (List ℕ)) → GivesLine old new line → ClosesAlike old new
        → Gives c old new number (number + 1) so_far (line_with c so_far line) (line_lines c number so_far line)
    gives_one None new gives alike = tt
    gives_one (Some xs) None gives alike = absurd gives
    gives_one (Some xs) (Some ys) gives alike = (
      ap₂ (λ (closed : Bool) (ls : List (List ℕ)). compared_from c closed number so_far ls) alike gives
          ∙ one_line (is_closed ys) number so_far line (lines ys) (λ none. ap is_closed (no_lines_in ys none)),
      ap₂ (λ (closed : Bool) (ls : List (List ℕ)). so_far_after c closed so_far ls) alike gives
          ∙ one_after (is_closed ys) so_far line (lines ys) (λ none. ap is_closed (no_lines_in ys none)),
    )

    -- one of at most 512 bytes
    gives_short : (old new : Option (List ℕ)) → GivesLine old new line → length line ≤ 512 → ClosesAlike old new
        → Gives c old new number (number + 1) so_far (record { log = (says so_far.log line).0; comparing = said_with c (line_noted so_far.comparing line) line (line_at so_far.log line) }) (said_lines c number (line_noted so_far.comparing line) (line_at so_far.log line))
    gives_short old new gives few alike =
        subst (λ (ls : List (List ℕ)). Gives c old new number (number + 1) so_far (record { log = (says so_far.log line).0; comparing = said_with c (line_noted so_far.comparing line) line (line_at so_far.log line) }) ls) (short_lines number so_far line few)
        (subst (λ (s : SoFar). Gives c old new number (number + 1) so_far s (line_lines c number so_far line)) (short_with so_far line few) (gives_one old new gives alike))

    -- the last one, without it
    gives_last : (old new : Option (List ℕ)) → GivesLine old new line → length line ≤ 512 → IfSome old (λ bytes. has_line_feed bytes ≡ false) → Gives c old new number (number + 1) so_far so_far []
    gives_last None new gives few none = tt
    gives_last (Some xs) None gives few none = absurd gives
    gives_last (Some []) (Some ys) gives few none = absurd cc
    gives_last (Some (byte ∷ bytes)) (Some ys) gives few none =
        let last : lines (byte ∷ bytes) ≡ (byte ∷ bytes) ∷ [] = lines-last (byte ∷ bytes) none (omega arith) in
        let left : lines ys ≡ [] = cc in
        let here : lines (byte ∷ bytes) ≡ line ∷ [] = gives ∙ ap (λ (more : List (List ℕ)). line ∷ more) left in (
          ap₂ (λ (closed : Bool) (ls : List (List ℕ)). compared_from c closed number so_far ls) (open_end byte bytes none) here ∙ cut_off number so_far line few
              ∙ sym (no_lines (is_closed ys) (number + 1) so_far) ∙ ap (compared_from c (is_closed ys) (number + 1) so_far) (sym left),
          ap₂ (λ (closed : Bool) (ls : List (List ℕ)). so_far_after c closed so_far ls) (open_end byte bytes none) here ∙ cut_off_after so_far line few
              ∙ sym (nothing_after (is_closed ys) so_far) ∙ ap (so_far_after c (is_closed ys) so_far) (sym left),
        )

    -- one that is too long
    gives_long : (old new : Option (List ℕ)) → GivesLine old new line → 512 < length line → IsAtEnd new ⊎ ClosesAlike old new → Gives c old new number (number + 1) so_far (with_long so_far) []
    gives_long None new gives many ends = tt
    gives_long (Some xs) None gives many ends = absurd gives
    gives_long (Some xs) (Some ys) gives many (inl empty) =
        let here : lines xs ≡ line ∷ [] = gives ∙ ap (λ (left : List ℕ). line ∷ lines left) empty in (
          ap (compared_from c (is_closed xs) number so_far) here ∙ long_last (is_closed xs) number so_far line many
              ∙ sym (no_lines (is_closed ys) (number + 1) (with_long so_far)) ∙ ap (λ (left : List ℕ). compared_from c (is_closed ys) (number + 1) (with_long so_far) (lines left)) (sym empty),
          ap (so_far_after c (is_closed xs) so_far) here ∙ long_after (is_closed xs) so_far line many
              ∙ sym (nothing_after (is_closed ys) (with_long so_far)) ∙ ap (λ (left : List ℕ). so_far_after c (is_closed ys) (with_long so_far) (lines left)) (sym empty),
        )
    gives_long (Some xs) (Some ys) gives many (inr alike) =
        subst (λ (ls : List (List ℕ)). Gives c (Some xs) (Some ys) number (number + 1) so_far (with_long so_far) ls) (long_lines number so_far line many)
        (subst (λ (s : SoFar). Gives c (Some xs) (Some ys) number (number + 1) so_far s (line_lines c number so_far line)) (long_with so_far line many) (gives_one (Some xs) (Some ys) gives alike))

  -- the end
  gives_all : (known rest : Option (List ℕ)) (form : Form) (report : Option Kept) (number : ℕ) (so_far : SoFar) (written : List (List ℕ))
      → Gives c known rest 1 number (at_first c form report) so_far written → IsAtEnd rest
      → IfSome known (λ text. (compared c form report text ≡ written) × (comparing_after c form report text ≡ so_far.comparing))
  gives_all None rest form report number so_far written h end = tt
  gives_all (Some text) None form report number so_far written h end = absurd h
  gives_all (Some text) (Some rest) form report number so_far written h end = (
    h.0 ∙ ap (λ (bytes : List ℕ). written ++ compared_from c (is_closed bytes) number so_far (lines bytes)) end
        ∙ ap (λ (ls : List (List ℕ)). written ++ ls) (no_lines true number so_far) ∙ append-nil written,
    ap (λ (s : SoFar). s.comparing) (h.1 ∙ ap (λ (bytes : List ℕ). so_far_after c (is_closed bytes) so_far (lines bytes)) end ∙ nothing_after true so_far),
  )

  -- ---- lines taken

  pub takes_none : (held : Held) (known : Option (List ℕ)) (number : ℕ) (so_far : SoFar) (has : Option (List ℕ))
      → Takes c held held known known number number so_far so_far has has
  takes_none held known number so_far has = record {
    written = [];
    appended = Appends-nil has;
    gives = gave_nothing held.ended known known _ refl (λ bytes. gives_none (to_come held bytes) number so_far);
  }

  -- what is found next
  module _ (held holds : Held) (before after : Option (List ℕ)) (number : ℕ) (log : Log) (first : Comparing) (old new : Option (List ℕ)) where
    module _ (line : List ℕ) (then : Log) (next : Comparing) (left : then ≡ (says log line).0) (is : next ≡ said_with c (line_noted first line) line (line_at log line))
        (written : WritesLines old new (said_lines c number (line_noted first line) (line_at log line))) where
      so : Takes c held holds before after number (number + 1) (record { log = log; comparing = first }) (record { log = (says log line).0; comparing = said_with c (line_noted first line) line (line_at log line) }) old new
          → Takes c held holds before after number (number + 1) (record { log = log; comparing = first }) (record { log = then; comparing = next }) old new
      so h =
          subst (λ (n : Comparing). Takes c held holds before after number (number + 1) (record { log = log; comparing = first }) (record { log = then; comparing = n }) old new) (sym is)
          (subst (λ (l : Log). Takes c held holds before after number (number + 1) (record { log = log; comparing = first }) (record { log = l; comparing = said_with c (line_noted first line) line (line_at log line) }) old new) (sym left) h)

      pub takes_line : Gave held.ended holds.ended before after (λ had has. Finds (to_come held had) (to_come holds has) line Line)
          → Takes c held holds before after number (number + 1) (record { log = log; comparing = first }) (record { log = then; comparing = next }) old new
      takes_line found = so (record {
        written = said_lines c number (line_noted first line) (line_at log line);
        appended = written;
        gives = gave_so held.ended holds.ended before after _ _ found
            (λ had has f. gives_short number (record { log = log; comparing = first }) line (to_come held had) (to_come holds has) f.0 f.1 f.2);
      })

    pub takes_last : (line : List ℕ) → Gave held.ended holds.ended before after (λ had has. Finds (to_come held had) (to_come holds has) line Last)
        → old ≡ new → Takes c held holds before after number (number + 1) (record { log = log; comparing = first }) (record { log = log; comparing = first }) old new
    takes_last line found same = record {
      written = [];
      appended = subst (λ (held : Option (List ℕ)). WritesLines old held []) same (Appends-nil old);
      gives = gave_so held.ended holds.ended before after _ _ found
          (λ had has f. gives_last number (record { log = log; comparing = first }) line (to_come held had) (to_come holds has) f.0 f.1 f.2);
    }

    pub takes_long : (line : List ℕ) → Gave held.ended holds.ended before after (λ had has. Finds (to_come held had) (to_come holds has) line TooLong)
        → old ≡ new → Takes c held holds before after number (number + 1) (record { log = log; comparing = first }) (record { log = log; comparing = long_noted first }) old new
    takes_long line found same = record {
      written = [];
      appended = subst (λ (held : Option (List ℕ)). WritesLines old held []) same (Appends-nil old);
      gives = gave_so held.ended holds.ended before after _ _ found
          (λ had has f. gives_long number (record { log = log; comparing = first }) f.0 (to_come held had) (to_come holds has) f.1 f.2 f.3);
    }

  module _ (held mid : Held) (before between : Option (List ℕ)) (number next : ℕ) (first last : SoFar) (old has : Option (List ℕ))
      (h : Takes c held mid before between number next first last old has) where
    -- a flush
    pub takes_flushed : (new : Option (List ℕ)) → Keeps has new → Takes c held mid before between number next first last old new
    takes_flushed new kept = record {
      written = h.written;
      appended = Appends-kept old has new (flat_map (λ line. line) h.written) h.appended kept;
      gives = h.gives;
    }

    -- more lines
    pub takes_more : (holds : Held) (after : Option (List ℕ)) (left : ℕ) (so_far : SoFar) (new : Option (List ℕ))
        → Takes c mid holds between after next left last so_far has new
        → Takes c held holds before after number left first so_far old new
    takes_more holds after left so_far new k = record {
      written = h.written ++ k.written;
      appended = lines_after old has new h.written k.written h.appended k.appended;
      gives = gave_then held.ended mid.ended holds.ended before between after _ _ _ h.gives k.gives
          (λ had middle has p q. gives_then (to_come held had) (to_come mid middle) (to_come holds has) number next left first last so_far h.written k.written p q);
    }

-- ---- the whole

all_to_come : (known : Option (List ℕ)) → to_come nothing_held known ≡ known
all_to_come None = refl
all_to_come (Some bytes) = refl

compares_if : (c : Comparison) (form : Form) (report : Option Kept) (written : List (List ℕ)) (comparing : Comparing) (old new known : Option (List ℕ)) → WritesLines old new written
    → IfSome known (λ text. (compared c form report text ≡ written) × (comparing_after c form report text ≡ comparing)) → IfSome known (Compares c form report old new comparing)
compares_if c form report written comparing old new None appended h = tt
compares_if c form report written comparing old new (Some text) appended h = (subst (WritesLines old new) (sym h.0) appended, sym h.1)

module _ (c : Comparison) (form : Form) (report : Option Kept) (mid holds : Held) (before between after : Option (List ℕ)) (number : ℕ) (so_far : SoFar) (old new : Option (List ℕ))
    (h : Takes c nothing_held mid before between 1 number (at_first c form report) so_far old new)
    (end : Gave mid.ended holds.ended between after (λ had has. IsAtEnd (to_come mid had))) where
  all : Gave false holds.ended before after (λ had has. IfSome had (Compares c form report old new so_far.comparing))
  all = gave_then false mid.ended holds.ended before between after _ _ _ h.gives end
      (λ had middle left p q. compares_if c form report h.written so_far.comparing old new had h.appended
      (subst (λ (known : Option (List ℕ)). IfSome known (λ text. (compared c form report text ≡ h.written) × (comparing_after c form report text ≡ so_far.comparing))) (all_to_come had)
      (gives_all c (to_come nothing_held had) (to_come mid middle) form report number so_far h.written p q)))

  pub compared_known : IfSome before (Compares c form report old new so_far.comparing)
  compared_known = of_known false holds.ended before after _ all

  pub compared_any : GaveText before after (Compares c form report old new so_far.comparing)
  compared_any = (all.bytes, all.taken, of_given false holds.ended before after _ all)
