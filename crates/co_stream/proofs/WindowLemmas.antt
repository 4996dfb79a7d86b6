-- What is taken of a window, and what is left.
use Rattle.std.proofs.Common.{◌≡◌, ℕ, ◌+◌, ◌-◌, ◌≤◌, List, ◌++◌, length, take, drop, sym, ap, ◌∙◌, arith, length-append, zero-add}
use Rattle.std.specs.List.{copy_within}
use lib.Seq.{paste}
use borrow.Rule.Slice.PartMut.{put_mid, post_of}
use Rattle.std.proofs.Math.Seq.{take-append-add}
use Rattle.std.proofs.lemmas.List.Edits.{take-paste}
use Rattle.std.proofs.lemmas.List.{length-take-le, drop-take, take-append-le, length-take, length-drop, take-take}

-- the bytes from the start on, of which the first are a line
pub line_taken : (bytes : List ℕ) (start end len : ℕ) (front after : List ℕ) → drop start (take end bytes) ≡ front ++ after → start ≤ end → len ≤ length front
    → drop start (take (start + len) bytes) ≡ take len front
line_taken bytes start end len front after e le few =
    let m = end - start in
    let sum : start + m ≡ end = omega arith in
    let size : length front ≤ m = omega (arith, ap length e, length-append front after, length-drop start (take end bytes), length-take end bytes) in
    drop-take start len bytes
    ∙ sym (take-take len m (drop start bytes) (omega (arith, few, size)))
    ∙ ap (take len) (sym (drop-take start m bytes) ∙ ap (λ k. drop start (take k bytes)) sum ∙ e)
    ∙ take-append-le len front after few

-- what was held is at the front
pub moved : (bytes : List ℕ) (start end held : ℕ) → start ≤ end → end ≤ length bytes → held ≡ end - start → take held (copy_within bytes start end 0) ≡ drop start (take end bytes)
moved bytes start end held le within is =
    let sum : start + held ≡ end = omega arith in
    let pasted = ap (λ n. take n (paste bytes 0 (drop start bytes) held)) (sym (zero-add held)) ∙ take-paste bytes 0 (drop start bytes) held (omega arith) (omega (arith, length-drop start bytes)) in
    ap (λ k. take held (copy_within bytes start end 0)) is
    ∙ ap (λ n. take held (paste bytes 0 (drop start bytes) n)) (sym is)
    ∙ pasted
    ∙ sym (drop-take start held bytes)
    ∙ ap (λ k. drop start (take k bytes)) sum

-- what came follows what was held
pub taken_more : (held count k : ℕ) (xs ys : List ℕ) → held ≤ length xs → count ≤ length ys → take (held + count) (put_mid held k xs ys) ≡ take held xs ++ take count ys
taken_more held count k xs ys within few =
    ap (λ (n : ℕ). take (n + count) (put_mid held k xs ys)) (sym (length-take-le held xs within))
    ∙ take-append-add (take held xs) (ys ++ post_of held k xs) count
    ∙ ap (λ (l : List ℕ). take held xs ++ l) (take-append-le count ys (post_of held k xs) few)
