-- What a reader gave and still gives, line by line.
use Rattle.std.proofs.Common.{◌≡◌, ℕ, ◌<◌, Bool, true, false, List, [], ◌∷◌, ◌++◌, length, None, Some, IfSome, refl, sym, ap, subst, ◌∙◌, arith, append_assoc, append-nil}
use Rattle.std.specs.Prelude.{Option}
use Rattle.std.specs.Io.KnownBytes.{Consumes, Keeps, IsAtEnd}
use Rattle.std.specs.Str.Lines.{strip_carriage_return, lines}
use Rattle.std.proofs.KnownBytes.{Consumes-trans, Consumes-kept}
use Rattle.co_stream.specs.Lines.{has_line_feed, IsTooLong, GivesLine, BeginsTooLong}
use Rattle.co_stream.specs.Readings.{known_bytes, LosesPartOfLine}
use Rattle.co_stream.proofs.LineLemmas.{lines-feed, lines-last, too_long, no_feed-append}

-- some of what a reader gave is taken
pub known-taken : (ended : Bool) (piece front rest : List ℕ) (remaining : Option (List ℕ)) → piece ≡ front ++ rest → Consumes (known_bytes ended piece remaining) (known_bytes ended rest remaining) front
known-taken true piece front rest remaining e = e
known-taken false piece front rest None e = tt
known-taken false piece front rest (Some xs) e = ap (λ l. l ++ xs) e ∙ append_assoc front rest xs

-- another piece came
pub known-refilled : (piece : List ℕ) (before after : Option (List ℕ)) → Consumes before after piece → Keeps (known_bytes false [] before) (known_bytes false piece after)
known-refilled piece None after e = tt
known-refilled piece (Some xs) None e = absurd e
known-refilled piece (Some xs) (Some ys) e = sym e

-- the end came
pub known-ended : (piece : List ℕ) (before after : Option (List ℕ)) → Consumes before after piece → IsAtEnd after → Keeps (known_bytes false [] before) (known_bytes true piece after)
known-ended piece None after e end = tt
known-ended piece (Some xs) None e end = absurd e
known-ended piece (Some xs) (Some ys) e end = sym (e ∙ ap (λ l. piece ++ l) end ∙ append-nil piece)

given : (old new : Option (List ℕ)) (line : List ℕ) → has_line_feed line ≡ false → Consumes old new (line ++ 10 ∷ []) → GivesLine old new (strip_carriage_return line)
given None new line h e = tt
given (Some xs) None line h e = absurd e
given (Some xs) (Some ys) line h e = ap lines (e ∙ append_assoc line (10 ∷ []) ys) ∙ lines-feed line ys h

-- the piece ends the line that has begun
pub line_ended : (old : Option (List ℕ)) (ended : Bool) (part piece front rest : List ℕ) (remaining : Option (List ℕ)) → Consumes old (known_bytes ended piece remaining) part
    → has_line_feed part ≡ false → piece ≡ front ++ 10 ∷ rest → has_line_feed front ≡ false
    → GivesLine old (known_bytes ended rest remaining) (strip_carriage_return (part ++ front))
line_ended old ended part piece front rest remaining came h e k =
    let all = Consumes-trans _ _ _ part (front ++ 10 ∷ []) came (known-taken ended piece (front ++ 10 ∷ []) rest remaining (e ∙ sym (append_assoc front (10 ∷ []) rest))) in
    given old _ (part ++ front) (no_feed-append part front h k) (subst (Consumes old _) (sym (append_assoc part front (10 ∷ []))) all)

-- the last line has no line feed
pub last_given : (old : Option (List ℕ)) (part : List ℕ) → Consumes old (Some []) part → has_line_feed part ≡ false → 0 < length part → GivesLine old (Some []) part
last_given None part came h some = tt
last_given (Some xs) part came h some = ap lines (came ∙ append-nil part) ∙ lines-last part h some

pub nothing_came : (old : Option (List ℕ)) → Consumes old (Some []) [] → IsAtEnd old
nothing_came None came = tt
nothing_came (Some xs) came = came

pub last_too_long : (old : Option (List ℕ)) (part : List ℕ) → Consumes old (Some []) part → has_line_feed part ≡ false → 512 < length part → IfSome old IsTooLong
last_too_long None part came h long = tt
last_too_long (Some xs) part came h long = (part, [], ap lines (came ∙ append-nil part) ∙ lines-last part h (omega arith), long)

begun : (old new : Option (List ℕ)) (raw : List ℕ) → Consumes old new raw → has_line_feed raw ≡ false → 512 < length (strip_carriage_return raw) → IfSome old IsTooLong
begun None new raw came h long = tt
begun (Some xs) None raw came h long = absurd came
begun (Some xs) (Some ys) raw came h long = too_long raw ys xs came h long

-- a piece makes the line that has begun too long
pub piece_too_long : (old : Option (List ℕ)) (ended : Bool) (part piece : List ℕ) (remaining : Option (List ℕ)) → Consumes old (known_bytes ended piece remaining) part
    → has_line_feed part ≡ false → BeginsTooLong part piece → IfSome old IsTooLong
piece_too_long old ended part piece remaining came h long =
    let (front, after, e, k, more) = long in
    begun old _ (part ++ front) (Consumes-trans _ _ _ part front came (known-taken ended piece front after remaining e)) (no_feed-append part front h k) more

-- ---- a piece without a line feed, and then no other one

whole_taken : (piece : List ℕ) (before after : Option (List ℕ)) → Keeps before after → Consumes (known_bytes false piece before) after piece
whole_taken piece None after kept = tt
whole_taken piece (Some xs) None kept = absurd kept
whole_taken piece (Some xs) (Some ys) kept = ap (λ l. piece ++ l) (sym kept)

-- the reader failed
pub part_lost : (old : Option (List ℕ)) (ended : Bool) (part piece : List ℕ) (before after : Option (List ℕ)) → Consumes old (known_bytes ended piece before) part
    → has_line_feed part ≡ false → has_line_feed piece ≡ false → ended ≡ false → Keeps before after → LosesPartOfLine old after
part_lost old true part piece before after came h k e kept = cc
part_lost old false part piece before after came h k e kept =
    (part ++ piece, Consumes-trans _ _ _ part piece came (whole_taken piece before after kept), no_feed-append part piece h k)

-- the reader came to its end
all_came : (old : Option (List ℕ)) (ended last_ended : Bool) (part piece last : List ℕ) (before after : Option (List ℕ)) → Consumes old (known_bytes ended piece before) part
    → Keeps (known_bytes ended [] before) (known_bytes last_ended last after) → last_ended ≡ true → last ≡ [] → Consumes old (Some []) (part ++ piece)
all_came old ended false part piece last before after came kept e f = cc
all_came old ended true part piece last before after came kept e f =
    let taken = known-taken ended piece piece [] before (sym (append-nil piece)) in
    let end : Keeps (known_bytes ended [] before) (Some []) = subst (λ l. Keeps (known_bytes ended [] before) (Some l)) f kept in
    Consumes-kept _ _ _ (part ++ piece) (Consumes-trans _ _ _ part piece came taken) end

pub last_line : (old : Option (List ℕ)) (ended last_ended : Bool) (part piece last text : List ℕ) (before after : Option (List ℕ)) → Consumes old (known_bytes ended piece before) part
    → has_line_feed part ≡ false → has_line_feed piece ≡ false → Keeps (known_bytes ended [] before) (known_bytes last_ended last after) → last_ended ≡ true → last ≡ []
    → text ≡ part ++ piece → 0 < length text → GivesLine old (known_bytes last_ended last after) text
last_line old ended false part piece last text before after came h k kept e f is some = cc
last_line old ended true part piece last text before after came h k kept e f is some =
    let came_all = all_came old ended true part piece last before after came kept refl f in
    let none : has_line_feed text ≡ false = ap has_line_feed is ∙ no_feed-append part piece h k in
    subst (λ l. GivesLine old (Some l) text) (sym f) (last_given old text (subst (Consumes old (Some [])) (sym is) came_all) none some)

pub last_line_too_long : (old : Option (List ℕ)) (ended last_ended : Bool) (part piece last text : List ℕ) (before after : Option (List ℕ)) → Consumes old (known_bytes ended piece before) part
    → has_line_feed part ≡ false → has_line_feed piece ≡ false → Keeps (known_bytes ended [] before) (known_bytes last_ended last after) → last_ended ≡ true → last ≡ []
    → text ≡ part ++ piece → 512 < length text → IfSome old IsTooLong
last_line_too_long old ended last_ended part piece last text before after came h k kept e f is long =
    let came_all = all_came old ended last_ended part piece last before after came kept e f in
    let none : has_line_feed text ≡ false = ap has_line_feed is ∙ no_feed-append part piece h k in
    last_too_long old text (subst (Consumes old (Some [])) (sym is) came_all) none long

pub no_line : (old : Option (List ℕ)) (ended last_ended : Bool) (part piece last : List ℕ) (before after : Option (List ℕ)) → Consumes old (known_bytes ended piece before) part
    → Keeps (known_bytes ended [] before) (known_bytes last_ended last after) → last_ended ≡ true → last ≡ [] → part ++ piece ≡ [] → IsAtEnd old
no_line old ended last_ended part piece last before after came kept e f none =
    nothing_came old (subst (Consumes old (Some [])) none (all_came old ended last_ended part piece last before after came kept e f))

-- a piece without a line feed goes to the line, and another one comes
pub more_came : (old : Option (List ℕ)) (ended next_ended : Bool) (part piece next : List ℕ) (before after : Option (List ℕ)) → Consumes old (known_bytes ended piece before) part
    → Keeps (known_bytes ended [] before) (known_bytes next_ended next after) → Consumes old (known_bytes next_ended next after) (part ++ piece)
more_came old ended next_ended part piece next before after came kept =
    Consumes-kept _ _ _ (part ++ piece) (Consumes-trans _ _ _ part piece came (known-taken ended piece piece [] before (sym (append-nil piece)))) kept

-- no byte is to come after the end
pub past_end : (ended : Bool) (piece : List ℕ) (after : Option (List ℕ)) → ended ≡ true → piece ≡ [] → IsAtEnd (known_bytes ended piece after)
past_end true piece after e none = none
past_end false piece after e none = cc
