-- Values of the communication profile that don't work together, on both sides of each edge.
use Rattle.std.proofs.Common.{◌≡◌, ℕ, List, [], ◌∷◌, ◌++◌, None, true, false, refl, codes, map}
use Rattle.co_sheet_text_warnings.specs.declared.warning.WarningKind.TheVariants.{InhibitTime, OwnHeartbeat, HeartbeatTwice}
use Rattle.co_sheet_warnings.specs.Communication.{is_synchronous, node_of_word, is_used_word}
use Rattle.co_sheet_warnings.specs.Warnings.{few_places, places_in, places_of}
use Rattle.co_sheet_text_warnings.specs.InText.{place_in_text}
use Rattle.co_sheet_warnings.proofs.ExampleTexts.{places, places_at}

-- ---- InhibitTime

abbrev tpdo : List ℕ → List ℕ → List (List ℕ)
tpdo transmission time =
    codes "[18FFsub3]" ∷ time ∷ codes "[18FFsub2]" ∷ transmission ∷ codes "[1800sub2]" ∷ codes "DefaultValue=254" ∷ []

synchronous : places InhibitTime (tpdo (codes "DefaultValue=240") (codes "DefaultValue=1")) ≡ 2 ∷ []
unfolding places_of few_places place_in_text places_in
synchronous = refl

asynchronous : places InhibitTime (tpdo (codes "DefaultValue=241") (codes "DefaultValue=1")) ≡ []
unfolding places_of few_places place_in_text places_in
asynchronous = refl

no_time : places InhibitTime (tpdo (codes "DefaultValue=1") (codes "DefaultValue=0")) ≡ []
unfolding places_of few_places place_in_text places_in
no_time = refl

no_transmission : places InhibitTime (tpdo (codes "LowLimit=1") (codes "DefaultValue=100")) ≡ []
unfolding places_of few_places place_in_text places_in
no_transmission = refl

configured_time : places InhibitTime (tpdo (codes "ParameterValue=0") (codes "ParameterValue=100")) ≡ 2 ∷ []
unfolding places_of few_places place_in_text places_in
configured_time = refl

of_tpdos : places InhibitTime (codes "[17FFsub2]" ∷ codes "DefaultValue=1" ∷ codes "[17FFsub3]" ∷ codes "DefaultValue=1" ∷ codes "[19FFsub2]" ∷ codes "DefaultValue=1" ∷ codes "[19FFsub3]" ∷ codes "DefaultValue=1" ∷ codes "[19FFsub5]" ∷ codes "DefaultValue=1" ∷ []) ≡ 8 ∷ []
unfolding places_of few_places place_in_text places_in
of_tpdos = refl

first_and_past : places InhibitTime (codes "[1800sub2]" ∷ codes "DefaultValue=1" ∷ codes "[1800sub3]" ∷ codes "DefaultValue=1" ∷ codes "[1A00sub2]" ∷ codes "DefaultValue=1" ∷ codes "[1A00sub3]" ∷ codes "DefaultValue=1" ∷ []) ≡ 4 ∷ []
unfolding places_of few_places place_in_text places_in
first_and_past = refl

-- a TPDO with bit 31 in its COB-ID isn't used, also where that is a sum; of another TPDO it is nothing
disabled : map (λ lines. places InhibitTime (tpdo (codes "DefaultValue=1") (codes "DefaultValue=1") ++ lines))
    ((codes "[18FFsub1]" ∷ codes "DefaultValue=0x80000185" ∷ []) ∷ (codes "[18FFsub1]" ∷ codes "DefaultValue=$NODEID+0x80000180" ∷ []) ∷ (codes "[18FFsub1]" ∷ codes "DefaultValue=0x80000185" ∷ codes "ParameterValue=0x185" ∷ [])
    ∷ (codes "[18FFsub1]" ∷ codes "DefaultValue=0x7FFFFFFF" ∷ []) ∷ (codes "[18FFsub1]" ∷ codes "DefaultValue=0x80000000" ∷ []) ∷ (codes "[18FEsub1]" ∷ codes "DefaultValue=0x80000185" ∷ []) ∷ [])
    ≡ [] ∷ [] ∷ (2 ∷ []) ∷ (2 ∷ []) ∷ [] ∷ (2 ∷ []) ∷ []
unfolding places_of few_places place_in_text places_in
disabled = refl

types : map is_synchronous (0 ∷ 1 ∷ 240 ∷ 241 ∷ 251 ∷ 252 ∷ 253 ∷ 254 ∷ []) ≡ true ∷ true ∷ true ∷ false ∷ false ∷ true ∷ false ∷ false ∷ []
types = refl

-- ---- OwnHeartbeat, HeartbeatTwice

words_of_nodes : map node_of_word (0x0000FFFF ∷ 0x00010000 ∷ 0x007F000A ∷ 0x0085000A ∷ 0x0105000A ∷ []) ≡ 0 ∷ 1 ∷ 127 ∷ 133 ∷ 5 ∷ []
words_of_nodes = refl

-- without a time, and with node-ID 0 or above 127, it isn't used
used : map is_used_word (0x00050000 ∷ 0x00050001 ∷ 0x0005FFFF ∷ 0x00000001 ∷ 0x00010001 ∷ 0x007F0001 ∷ 0x00800001 ∷ []) ≡ false ∷ true ∷ true ∷ false ∷ true ∷ true ∷ false ∷ []
used = refl

abbrev consumer : List ℕ → List ℕ → List (List ℕ)
consumer first second =
    codes "[1016sub2]" ∷ second ∷ codes "[1016sub1]" ∷ first ∷ codes "[1016sub0]" ∷ codes "DefaultValue=0x50001" ∷ []

own : places_at 5 OwnHeartbeat (consumer (codes "DefaultValue=0x50064") (codes "DefaultValue=0x60064")) ≡ 4 ∷ []
unfolding places_of few_places place_in_text places_in
own = refl

own_not_used : places_at 5 OwnHeartbeat (consumer (codes "DefaultValue=0x50000") (codes "DefaultValue=x")) ≡ []
unfolding places_of few_places place_in_text places_in
own_not_used = refl

no_node : places OwnHeartbeat (consumer (codes "DefaultValue=0x50064") (codes "DefaultValue=0x60064")) ≡ []
unfolding places_of few_places place_in_text places_in
no_node = refl

twice : places (HeartbeatTwice None) (consumer (codes "DefaultValue=0x50064") (codes "DefaultValue=0x50065")) ≡ 2 ∷ []
unfolding places_of few_places place_in_text places_in
twice = refl

two_nodes : places (HeartbeatTwice None) (consumer (codes "DefaultValue=0x50064") (codes "DefaultValue=0x60064")) ≡ []
unfolding places_of few_places place_in_text places_in
two_nodes = refl

first_not_used : places (HeartbeatTwice None) (consumer (codes "DefaultValue=0x50000") (codes "DefaultValue=0x50064")) ≡ []
unfolding places_of few_places place_in_text places_in
first_not_used = refl

second_not_used : places (HeartbeatTwice None) (consumer (codes "DefaultValue=0x50064") (codes "DefaultValue=0x50000")) ≡ []
unfolding places_of few_places place_in_text places_in
second_not_used = refl

-- node 0 is none
of_no_node : places (HeartbeatTwice None) (consumer (codes "DefaultValue=0x64") (codes "DefaultValue=0x64")) ≡ []
unfolding places_of few_places place_in_text places_in
of_no_node = refl

-- a sum with `$NODEID` is a word for a node-ID alone
own_sum : places_at 5 OwnHeartbeat (consumer (codes "DefaultValue=0x60064") (codes "DefaultValue=$NODEID+0x5005F")) ≡ 2 ∷ []
unfolding places_of few_places place_in_text places_in
own_sum = refl

sum_twice : places_at 5 (HeartbeatTwice None) (consumer (codes "DefaultValue=0x60064") (codes "DefaultValue=$NODEID+0x6005F")) ≡ 2 ∷ []
unfolding places_of few_places place_in_text places_in
sum_twice = refl

first_sum : places_at 5 (HeartbeatTwice None) (consumer (codes "DefaultValue=0x60064+$NODEID") (codes "DefaultValue=0x60064")) ≡ 2 ∷ []
unfolding places_of few_places place_in_text places_in
first_sum = refl

-- 0x6FFFF and 5 are of node 7
sum_of_other : places_at 5 (HeartbeatTwice None) (consumer (codes "DefaultValue=0x60064") (codes "DefaultValue=$NODEID+0x6FFFF")) ≡ []
unfolding places_of few_places place_in_text places_in
sum_of_other = refl

sum_without_node : places (HeartbeatTwice None) (consumer (codes "DefaultValue=$NODEID+0x60064") (codes "DefaultValue=$NODEID+0x60064")) ≡ []
unfolding places_of few_places place_in_text places_in
sum_without_node = refl

-- a word of more than 32 bits is none
long_word : places (HeartbeatTwice None) (consumer (codes "DefaultValue=0x50064") (codes "DefaultValue=0x100050064")) ≡ []
unfolding places_of few_places place_in_text places_in
long_word = refl
