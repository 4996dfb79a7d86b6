-- The digits of a REAL are read as its bits.
use Rattle.std.proofs.Common.{◌≡◌, ℕ, zero, suc, ◌+◌, ◌==◌, Bool, true, false, true≢false, List, refl, sym, ap, arith, Option, Some, None}
use Rattle.std.specs.Prelude.{IfSome, if◌then◌else◌, ◌&&◌, nat_lt, ◌^◌}
use Rattle.std.specs.Option.{option_map_or, option_or}
use Rattle.std.specs.Float.Ieee.{Format, ones}
use Rattle.conode_explain_values.specs.declared.scaled.Scaled.{Scaled}
use Rattle.conode_explain_values.specs.Reals.{exponent_of, is_negative, is_read_as, read_bits, real_text, rounded, rounded_text, scaled, significand_of, text_at, text_from, text_if_read}

abbrev IsRead : Format → ℕ → List ℕ → Type 0
IsRead f bits text = read_bits f text ≡ Some bits

held : (o : Option ℕ) (n : ℕ) → option_map_or (λ b. b == n) o false ≡ true → o ≡ Some n
held None n h = absurd (true≢false (sym h))
held (Some b) n h = ap Some (grind (arith, h))

if_read : (f : Format) (bits : ℕ) (text : List ℕ) (is : Bool) → is_read_as f bits text ≡ is →
    IfSome (if is then Some text else None) (IsRead f bits)
if_read f bits text true h = held (read_bits f text) bits h
if_read f bits text false h = tt

if_tried : (f : Format) (bits : ℕ) (text : List ℕ) (is : Bool) →
    IfSome (if is then text_if_read f bits text else None) (IsRead f bits)
if_tried f bits text true = if_read f bits text (is_read_as f bits text) refl
if_tried f bits text false = tt

first_of : (P : List ℕ → Type 0) (a b : Option (List ℕ)) → IfSome a P → IfSome b P → IfSome (option_or a b) P
first_of P None b of_a of_b = of_b
first_of P (Some x) b of_a of_b = of_a

at_place : (f : Format) (bits : ℕ) (d : Scaled) (places : ℕ) → IfSome (text_at f bits d places) (IsRead f bits)
at_place f bits d places =
    let number = rounded places d.digits in
    if_tried f bits (rounded_text (is_negative f bits) number (d.tens + places)) (nat_lt 0 number && nat_lt number (10 ^ 18))

from_place : (f : Format) (bits : ℕ) (d : Scaled) (places : ℕ) → IfSome (text_from f bits d places) (IsRead f bits)
unfolding text_from
from_place f bits d zero = tt
from_place f bits d (suc places) =
    first_of (IsRead f bits) (text_at f bits d places) (text_from f bits d places) (at_place f bits d places) (from_place f bits d places)

pub digits-read : (f : Format) (bits : ℕ) → (exponent_of f bits == ones f) ≡ false → (significand_of f bits == 0) ≡ false →
    IfSome (real_text f bits) (IsRead f bits)
digits-read f bits finite some = rw (finite, some) (from_place f bits (scaled f bits) 39)
