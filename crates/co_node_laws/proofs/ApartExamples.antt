-- Worked examples, computed from the definitions: SYNC and EMCY apart from the default SDO channel or not, of a small device
-- with node-ID 5.
use Rattle.std.proofs.Common.{◌≡◌, ℕ, true, false, [], ◌∷◌, refl, arith}
use Rattle.co_profile.specs.declared.access.Access.TheVariants.{Rw}
use Rattle.co_dict.specs.Rows.{Contents}
use Rattle.co_node_model.proofs.ExampleNode.{device, device_with, u32}
use Rattle.co_node_laws.specs.Apart.{AreApart, BeginsApart, is_emergency_id}

-- its entries, with these words of SYNC and EMCY
abbrev words : ℕ → ℕ → Contents
words sync emergency = (device_with (u32 Rw 0x1005 0 sync ∷ u32 Rw 0x1014 0 emergency ∷ [])).start

begins_apart : BeginsApart device
begins_apart = record {
  first_node = omega arith;
  last_node = omega arith;
  start = record { sync = refl; emergency = refl };
  initial = record { sync = refl; emergency = refl };
}

-- ---- identifiers

before_both : AreApart 5 (words 0x604 0x584)
before_both = record { sync = refl; emergency = refl }

after_both : AreApart 5 (words 0x606 0x586)
after_both = record { sync = refl; emergency = refl }

-- SYNC on the identifier of the responses, EMCY on that of the requests: neither comes between
other_way_round : AreApart 5 (words 0x585 0x605)
other_way_round = record { sync = refl; emergency = refl }

sync_on_requests : AreApart 5 (words 0x605 0x85) → ⊥
sync_on_requests apart = let on : true ≡ false = apart.sync in absurd (cc)

emergency_on_responses : AreApart 5 (words 0x80 0x585) → ⊥
emergency_on_responses apart = let on : true ≡ false = apart.emergency in absurd (cc)

-- ---- words

-- bit 30 of a SYNC word: the device produces SYNC, and the identifier counts all the same
producer_on_requests : AreApart 5 (words 0x4000_0605 0x85) → ⊥
producer_on_requests apart = let on : true ≡ false = apart.sync in absurd (cc)

-- bit 31 of an emergency's word: none is sent
sent : is_emergency_id (words 0x80 0x585) 0x585 ≡ true
sent = refl

not_sent : is_emergency_id (words 0x80 0x8000_0585) 0x585 ≡ false
not_sent = refl

-- words of 0 have no identifier
neither_word : AreApart 5 (words 0 0)
neither_word = record { sync = refl; emergency = refl }
