-- Words with texts in them, evaluated.
use Rattle.std.proofs.Common.{◌≡◌, [], ◌∷◌, refl}
use Rattle.std.specs.Prelude.{codes}
use Rattle.conode_text.specs.Filled.{filled}

-- a place at the front, one at the end, and two side by side
in_places : filled (codes "% of %%") (codes "3" ∷ codes "7" ∷ codes "s" ∷ []) ≡ codes "3 of 7s"
unfolding filled
in_places = refl

-- without a place words are as they are, whatever the texts
without_place : filled (codes "none") (codes "3" ∷ []) ≡ codes "none"
unfolding filled
without_place = refl

-- more places than texts: nothing comes there; more texts than places: the rest isn't written
too_few : filled (codes "a % b %.") (codes "3" ∷ []) ≡ codes "a 3 b ."
unfolding filled
too_few = refl

too_many : filled (codes "a %") (codes "3" ∷ codes "7" ∷ []) ≡ codes "a 3"
unfolding filled
too_many = refl

-- a percent sign in a text is no place
in_text : filled (codes "% %") (codes "5%" ∷ codes "x" ∷ []) ≡ codes "5% x"
unfolding filled
in_text = refl

-- a long line is computed as fast as a short one
long_line : filled (codes "recording.log:%: heartbeat-late: % ms since the last one, 1017:00 has % ms") (codes "12" ∷ codes "1020.001" ∷ codes "1000" ∷ [])
    ≡ codes "recording.log:12: heartbeat-late: 1020.001 ms since the last one, 1017:00 has 1000 ms"
unfolding filled
long_line = refl
