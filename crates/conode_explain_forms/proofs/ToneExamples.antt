-- The colours of lines, evaluated on both sides of each edge.
use Rattle.std.proofs.Common.{◌≡◌, ℕ, Bool, true, false, List, [], ◌∷◌, ◌++◌, refl, map}
use Rattle.std.specs.Prelude.{codes}
use Rattle.conode_explain_filter.specs.declared.kind.Kind.TheVariants.{Sdo, Pdo, Emergency, Nmt, Heartbeat, Sync, Other}
use Rattle.conode_record.specs.declared.fields.Identifier.TheVariants.{Base, Extended, Error}
use Rattle.conode_explain_transfers.specs.declared.ended.Ending.TheVariants.{Done, Unanswered, Repeated, Interrupted, Unfinished, Irregular}
use Rattle.conode_explain_forms.specs.declared.tones.Tone.TheVariants.{Plain, Bad, Odd, Good, Notable}
use Rattle.conode_explain_forms.specs.Tones.{data_tone, ending_tone, or_odd, service_tone, toned}

-- the code alone says whether an error is gone, of an emergency that is whole
emergencies : map (data_tone false Emergency) ((0 ∷ 0 ∷ 1 ∷ 0 ∷ 0 ∷ 0 ∷ 0 ∷ 0 ∷ []) ∷ (1 ∷ 0 ∷ 0 ∷ 0 ∷ 0 ∷ 0 ∷ 0 ∷ 0 ∷ []) ∷ (0 ∷ 1 ∷ 0 ∷ 0 ∷ 0 ∷ 0 ∷ 0 ∷ 0 ∷ []) ∷ (0 ∷ 0 ∷ 0 ∷ 0 ∷ 0 ∷ 0 ∷ 0 ∷ []) ∷ [] ∷ []) ≡ Good ∷ Bad ∷ Bad ∷ Bad ∷ Bad ∷ []
unfolding data_tone
emergencies = refl

abbrev first : ℕ → List ℕ
first byte = byte ∷ 0 ∷ 0 ∷ 0 ∷ 0 ∷ 0 ∷ 0 ∷ 0 ∷ []

aborts : map (data_tone false Sdo) (first 0x7F ∷ first 0x80 ∷ first 0x81 ∷ first 0x9F ∷ first 0xA0 ∷ (0x80 ∷ 0 ∷ 0 ∷ 0 ∷ 0 ∷ 0 ∷ 0 ∷ []) ∷ []) ≡ Plain ∷ Bad ∷ Bad ∷ Bad ∷ Plain ∷ Plain ∷ []
unfolding data_tone
aborts = refl

last_segment : data_tone true Sdo (first 0x81) ≡ Plain
unfolding data_tone
last_segment = refl

error_control : map (data_tone false Heartbeat) ((0 ∷ []) ∷ (5 ∷ []) ∷ [] ∷ (0 ∷ 0 ∷ []) ∷ []) ≡ Notable ∷ Plain ∷ Plain ∷ Plain ∷ []
unfolding data_tone
error_control = refl

others : map (λ kind. data_tone false kind (0x80 ∷ [])) (Nmt ∷ Pdo ∷ Sync ∷ Other ∷ []) ≡ Notable ∷ Plain ∷ Plain ∷ Plain ∷ []
unfolding data_tone
others = refl

error_frame : map (λ id. service_tone false id Other []) (Base 5 ∷ Extended 5 ∷ Error 4 ∷ []) ≡ Plain ∷ Plain ∷ Bad ∷ []
unfolding data_tone
error_frame = refl

odd_alone : map (or_odd true) (Plain ∷ Bad ∷ Good ∷ Notable ∷ []) ≡ Odd ∷ Bad ∷ Good ∷ Notable ∷ []
odd_alone = refl

ends : map ending_tone (Done false ∷ Unfinished ∷ Unanswered ∷ Repeated ∷ Interrupted ∷ Irregular ∷ []) ≡ Good ∷ Odd ∷ Bad ∷ Bad ∷ Bad ∷ Bad ∷ []
ends = refl

in_red : toned true Bad (codes "ab\n") ≡ 27 ∷ codes "[31mab" ++ 27 ∷ codes "[0m\n"
unfolding toned
in_red = refl

plain_line : toned true Plain (codes "ab\n") ≡ codes "ab\n"
unfolding toned
plain_line = refl

not_asked_for : toned false Bad (codes "ab\n") ≡ codes "ab\n"
unfolding toned
not_asked_for = refl
