-- Ticks one after another, at which nothing happens.
use Rattle.std.specs.Prelude.{◌≡◌, ℕ, zero, suc, ◌<◌, ◌≤◌, [], ◌∷◌}
use Rattle.co_node_model.specs.Inputs.{Inputs, Ticked}
use Rattle.co_node_model.specs.Moments.{Constants}
use Rattle.co_node_model.specs.Device.{contents_of, held_of, prescribed, state_of}

-- the inputs with `n` more ticks, newest first
abbrev pub after_ticks : ℕ → Inputs → Inputs
after_ticks zero before = before
after_ticks (suc n) before = Ticked ∷ after_ticks n before

-- at none of the next `count` ticks a frame is sent; after each of them the contents, the NMT state
-- and the bytes held for SDO transfers are as before
pub record IsQuietFor (k : Constants) (before : Inputs) (count : ℕ) : Type 0 where
  pub frames : (n : ℕ) → n < count → prescribed k (after_ticks n before) Ticked ≡ []
  pub entries : (n : ℕ) → n ≤ count → contents_of k (after_ticks n before) ≡ contents_of k before
  pub state : (n : ℕ) → n ≤ count → state_of k (after_ticks n before) ≡ state_of k before
  pub held : (n : ℕ) → n ≤ count → (channel : ℕ) → held_of k (after_ticks n before) channel ≡ held_of k before channel
