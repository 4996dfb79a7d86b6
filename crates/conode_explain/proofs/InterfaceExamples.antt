-- Which lines have their interface, evaluated: of text those of a recording of several, of JSON all.
use Rattle.std.proofs.Common.{◌≡◌, true, false, refl}
use Rattle.std.specs.Prelude.{codes}
use Rattle.conode_explain_text.specs.SoFar.{nothing_seen, seen_with, shows_interface}
use Rattle.conode_explain.specs.declared.progress.LineFormat.TheVariants.{Text, Json}
use Rattle.conode_explain.specs.Explained.{seen_for}

first_of_text : shows_interface (seen_for Text nothing_seen) (codes "can0") ≡ false
first_of_text = refl

first_object : shows_interface (seen_for Json nothing_seen) (codes "can0") ≡ true
first_object = refl

text_on_the_same : shows_interface (seen_for Text (seen_with nothing_seen 5 (codes "can0"))) (codes "can0") ≡ false
text_on_the_same = refl

object_on_the_same : shows_interface (seen_for Json (seen_with nothing_seen 5 (codes "can0"))) (codes "can0") ≡ true
object_on_the_same = refl

text_on_another : shows_interface (seen_for Text (seen_with nothing_seen 5 (codes "can0"))) (codes "can1") ≡ true
text_on_another = refl
