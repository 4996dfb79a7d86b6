-- The text of a key is read back.
use Rattle.std.proofs.Common.{◌≡◌, ◌+◌, ◌*◌, ◌/◌, ◌%◌, ◌<◌, Some, refl, arith}
use Rattle.co_text.specs.Printed.{digits_text}
use Rattle.co_text.proofs.PrintedDigits.{pair_read}
use Rattle.co_value.specs.declared.key.Key.{Key}
use Rattle.co_value.specs.KeyTexts.{key_text, key_in}

pub key_read : (key : Key) → key.index < 65536 → key.sub < 256 → key_in (key_text key) ≡ Some key
unfolding key_in digits_text
key_read key index sub =
    let whole : 256 * (key.index / 16 / 16 % 256) + key.index % 256 ≡ key.index = omega arith in
    let byte : key.sub % 256 ≡ key.sub = omega arith in
    rw (pair_read (key.index / 16 / 16), pair_read key.index, pair_read key.sub, whole, byte) refl
