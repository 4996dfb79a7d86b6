-- Some of the lines of frames.
use Rattle.std.proofs.Common.{◌≡◌, ℕ, ◌+◌, List, [], ◌∷◌, ◌++◌, length, take, Option, refl, sym, subst, ap, arith, length-append}
use Rattle.std.proofs.KnownBytes.{Appends-nil}
use Rattle.std.proofs.lemmas.List.{take-append-le}
use Rattle.std.proofs.Math.Seq.{take-append-add}
use Rattle.co_frame.specs.FrameContent.{FrameContent}
use Rattle.conode_trace.specs.Printed.{frame_line}
use Rattle.conode_io.specs.Written.{WritesLines, WritesSome}
use Rattle.conode_io.proofs.WriteLemmas.{lines_after}
use Rattle.conode_device.specs.Printed.{WritesFirst, frame_lines}

pub lines_joined : (a b : List FrameContent) → frame_lines (a ++ b) ≡ frame_lines a ++ frame_lines b
lines_joined [] b = refl
lines_joined (x ∷ a) b = ap (λ (ls : List (List ℕ)). frame_line 0 x ∷ ls) (lines_joined a b)

pub first_none : (held : Option (List ℕ)) (lines : List (List ℕ)) → WritesFirst held held lines
first_none held lines = (0, omega arith, Appends-nil held)

pub first_of_some : (old new : Option (List ℕ)) (lines : List (List ℕ)) → WritesSome old new lines → WritesFirst old new lines
first_of_some old new lines some = (some.0, omega (arith, some.1), some.2)

pub first_of_more : (old new : Option (List ℕ)) (lines more : List (List ℕ)) → WritesFirst old new lines → WritesFirst old new (lines ++ more)
first_of_more old new lines more first = (
  first.0,
  omega (arith, first.1, length-append lines more),
  subst (WritesLines old new) (sym (take-append-le first.0 lines more first.1)) first.2,
)

pub first_after : (old mid new : Option (List ℕ)) (lines more : List (List ℕ)) → WritesLines old mid lines → WritesFirst mid new more → WritesFirst old new (lines ++ more)
first_after old mid new lines more before rest = (
  length lines + rest.0,
  omega (arith, rest.1, length-append lines more),
  subst (WritesLines old new) (sym (take-append-add lines more rest.0)) (lines_after old mid new lines (take rest.0 more) before rest.2),
)

take_whole : (lines : List (List ℕ)) → take (length lines) lines ≡ lines
take_whole [] = refl
take_whole (line ∷ lines) = ap (λ (ls : List (List ℕ)). line ∷ ls) (take_whole lines)

pub first_all : (old new : Option (List ℕ)) (lines : List (List ℕ)) → WritesLines old new lines → WritesFirst old new lines
first_all old new lines all = (length lines, omega arith, subst (WritesLines old new) (sym (take_whole lines)) all)

pub some_of_first : (old new : Option (List ℕ)) (lines : List (List ℕ)) (last : List ℕ) → WritesFirst old new lines → WritesSome old new (lines ++ last ∷ [])
some_of_first old new lines last first = (
  first.0,
  omega (arith, first.1, length-append lines (last ∷ [])),
  subst (WritesLines old new) (sym (take-append-le first.0 lines (last ∷ []) first.1)) first.2,
)
