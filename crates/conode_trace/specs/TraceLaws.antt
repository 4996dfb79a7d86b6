-- Laws of traces, for callers that read one line by line.
use Rattle.std.specs.Prelude.{◌≡◌, ℕ, zero, suc, ◌+◌, List, [], ◌∷◌, Option, Some, None}
use Rattle.std.specs.Option.{option_map_or}
use Rattle.std.specs.List.{flat_map}
use Rattle.std.proofs.Common.{refl, ◌∙◌}
use Rattle.std.proofs.lemmas.List.{append-nil}
use Rattle.std.proofs.lemmas.Grind.{flat_map-append}
use Rattle.conode_trace.specs.declared.timed_line.TimedLine.{TimedLine}
use Rattle.conode_trace.specs.Traces.{Input, tick, TimedInput, own_input, ticks_after, inputs_of}

-- what is made of the own input of a line, if it has one
abbrev pub made_of_own : {A : Type 0} → (TimedInput → List A) → TimedLine → List A
made_of_own f t = option_map_or (λ input. f (record { line = t.number; ms = t.ms; input = input })) (own_input t.said) []

-- where nothing is made of a tick ..
module _ {A : Type 0} (f : TimedInput → List A) (nothing : (line ms : ℕ) → f (record { line = line; ms = ms; input = tick }) ≡ []) where
  -- .. nothing is made of ticks,
  pub flat_map-ticks_after : (line ms count : ℕ) → flat_map f (ticks_after line ms count) ≡ []
  unfolding ticks_after
  flat_map-ticks_after line ms zero = refl
  flat_map-ticks_after line ms (suc count) = rw (nothing line (ms + 1)) (flat_map-ticks_after line (ms + 1) count)

  own_alone : (line ms : ℕ) (own : Option Input) → flat_map f (option_map_or (λ input. record { line = line; ms = ms; input = input } ∷ []) own []) ≡ option_map_or (λ input. f (record { line = line; ms = ms; input = input })) own []
  own_alone line ms None = refl
  own_alone line ms (Some input) = append-nil (f (record { line = line; ms = ms; input = input }))

  -- .. and what is made of a line is made of its own input
  pub flat_map-inputs_of : (t : TimedLine) → flat_map f (inputs_of t) ≡ made_of_own f t
  flat_map-inputs_of t =
      flat_map-append f (ticks_after t.number t.before t.ticks) (option_map_or (λ input. record { line = t.number; ms = t.ms; input = input } ∷ []) (own_input t.said) [])
      ∙ rw (flat_map-ticks_after t.number t.before t.ticks) (own_alone t.number t.ms (own_input t.said))
