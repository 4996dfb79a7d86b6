-- What a text has of a reader's bytes.
use Rattle.std.proofs.Common.{◌≡◌, ℕ, ◌≤◌, List, ◌++◌, length, take, None, Some, IfSome, sym, ap, ◌∙◌, append-nil, take_all}
use Rattle.std.specs.Prelude.{Option}
use Rattle.std.specs.Io.KnownBytes.{Consumes, IsAtEnd}
use Rattle.std.proofs.Math.Seq.{take-append_seam}
use Rattle.co_stream.specs.Texts.{BeginsWith}

pub front_of : (old new : Option (List ℕ)) (text : List ℕ) → Consumes old new text → IfSome old (λ bytes. BeginsWith bytes text)
front_of None new text came = tt
front_of (Some xs) None text came = absurd came
front_of (Some xs) (Some ys) text came = (ys, came)

-- the reader came to its end
pub whole_text : (old new : Option (List ℕ)) (text : List ℕ) (size : ℕ) → Consumes old new text → IsAtEnd new → length text ≤ size → IfSome old (λ bytes. text ≡ take size bytes)
whole_text None new text size came end fits = tt
whole_text (Some xs) None text size came end fits = absurd came
whole_text (Some xs) (Some ys) text size came end fits = sym (ap (take size) (came ∙ ap (λ l. text ++ l) end ∙ append-nil text) ∙ take_all size text fits)

-- there are as many bytes as are wanted
pub first_bytes : (old new : Option (List ℕ)) (text : List ℕ) (size : ℕ) → Consumes old new text → length text ≡ size → IfSome old (λ bytes. text ≡ take size bytes)
first_bytes None new text size came full = tt
first_bytes (Some xs) None text size came full = absurd came
first_bytes (Some xs) (Some ys) text size came full = sym (ap (take size) came ∙ ap (λ n. take n (text ++ ys)) (sym full) ∙ take-append_seam text ys)
