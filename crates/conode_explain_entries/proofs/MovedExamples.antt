-- Which identifiers a node's COB-ID was moved away from, evaluated on both sides of each edge.
use Rattle.std.proofs.Common.{◌≡◌, ℕ, List, [], ◌∷◌, Some, None, refl, map}
use Rattle.std.specs.Prelude.{Option, codes}
use Rattle.std.specs.Fmt.{digits}
use Rattle.conode_text.specs.Filled.{filled}
use Rattle.conode_explain_entries.specs.declared.entries.ShownPdo.{ShownPdo}
use Rattle.conode_explain_entries.specs.declared.moved.MovedId.{MovedId}
use Rattle.conode_explain_entries.specs.declared.state.PdoState.{PdoState}
use Rattle.conode_explain_entries.specs.declared.state.PdoValues.{PdoValues}
use Rattle.conode_explain_entries.specs.declared.state.Value.{Value}
use Rattle.conode_explain_entries.specs.declared.state.Value.TheVariants.{Assumed, Seen, Saved, Unknown}
use Rattle.conode_explain_entries.specs.Histories.{nothing_shown}
use Rattle.conode_explain_entries.specs.MovedIds.{index_for, moved_in, moved_words}

-- what a node on can0 has: a PDO with this COB-ID, and 1014h with it
abbrev values : Value → PdoValues
values value = record { cob_id = value; mapping = value ∷ [] }

abbrev shown : ℕ → ℕ → Value → ShownPdo
shown node index value =
    record { index = index; node = node; interface = record { items = codes "can0" }; state = record nothing_shown { now = values value } }

abbrev moved : ℕ → ℕ → Option MovedId
moved node index = Some (record { node = node; index = index })

-- each identifier of node 5 whose entry has 3FFh, and those beside them: NMT, SYNC, TIME, SDO, error control
abbrev of_node : Value → List ShownPdo
of_node value = map (λ index. shown 5 index value) (0x1014 ∷ 0x1800 ∷ 0x1801 ∷ 0x1802 ∷ 0x1803 ∷ 0x1804 ∷ 0x1400 ∷ 0x1401 ∷ 0x1402 ∷ 0x1403 ∷ 0x1404 ∷ 0x1005 ∷ 0x1012 ∷ [])

each_code : map (λ id. moved_in (of_node (Seen 0x3FF)) (codes "can0") id) (0x005 ∷ 0x080 ∷ 0x085 ∷ 0x100 ∷ 0x105 ∷ 0x185 ∷ 0x205 ∷ 0x285 ∷ 0x305 ∷ 0x385 ∷ 0x405 ∷ 0x485 ∷ 0x505 ∷ 0x585 ∷ 0x605 ∷ 0x685 ∷ 0x705 ∷ [])
    ≡ None ∷ None ∷ moved 5 0x1014 ∷ None ∷ None ∷ moved 5 0x1800 ∷ moved 5 0x1400 ∷ moved 5 0x1801 ∷ moved 5 0x1401 ∷ moved 5 0x1802
    ∷ moved 5 0x1402 ∷ moved 5 0x1803 ∷ moved 5 0x1403 ∷ None ∷ None ∷ None ∷ None ∷ []
unfolding moved_in index_for
each_code = refl

-- its own identifier with bits 31, 30 and 29, another one, and its own: of a PDO and of emergencies
by_word : map (λ word. moved_in (of_node (Seen word)) (codes "can0") 0x185) (0x00000185 ∷ 0x40000185 ∷ 0x20000185 ∷ 0x80000185 ∷ 0xC0000185 ∷ 0x00000186 ∷ 0x00000085 ∷ 0x00000000 ∷ [])
    ≡ None ∷ None ∷ moved 5 0x1800 ∷ moved 5 0x1800 ∷ moved 5 0x1800 ∷ moved 5 0x1800 ∷ moved 5 0x1800 ∷ moved 5 0x1800 ∷ []
unfolding moved_in index_for
by_word = refl

of_emergencies : map (λ word. moved_in (of_node (Seen word)) (codes "can0") 0x085) (0x00000085 ∷ 0x40000085 ∷ 0x20000085 ∷ 0x80000085 ∷ 0x00000086 ∷ [])
    ≡ None ∷ None ∷ moved 5 0x1014 ∷ moved 5 0x1014 ∷ moved 5 0x1014 ∷ []
unfolding moved_in index_for
of_emergencies = refl

-- a number that came back with a boot-up counts; where nothing was shown, or the number isn't known, nothing is said
by_value : map (λ value. moved_in (of_node value) (codes "can0") 0x185) (Seen 0x190 ∷ Saved 0x190 ∷ Saved 0x185 ∷ Assumed ∷ Unknown ∷ [])
    ≡ moved 5 0x1800 ∷ moved 5 0x1800 ∷ None ∷ None ∷ None ∷ []
unfolding moved_in index_for
by_value = refl

emergencies_by_value : map (λ value. moved_in (of_node value) (codes "can0") 0x085) (Seen 0x190 ∷ Saved 0x190 ∷ Saved 0x085 ∷ Assumed ∷ Unknown ∷ [])
    ≡ moved 5 0x1014 ∷ moved 5 0x1014 ∷ None ∷ None ∷ None ∷ []
unfolding moved_in index_for
emergencies_by_value = refl

-- of another node, on another interface, and where nothing was shown
beside : map (λ id. moved_in (of_node (Seen 0x190)) (codes "can0") id) (0x184 ∷ 0x186 ∷ 0x180 ∷ 0x084 ∷ 0x086 ∷ []) ≡ None ∷ None ∷ None ∷ None ∷ None ∷ []
unfolding moved_in index_for
beside = refl

on_another : moved_in (of_node (Seen 0x190)) (codes "can1") 0x185 ≡ None
unfolding moved_in index_for
on_another = refl

nothing : moved_in [] (codes "can0") 0x185 ≡ None
unfolding moved_in index_for
nothing = refl

-- what is said of them
words : map (λ index. moved_words (record { node = 5; index = index })) (0x1014 ∷ 0x1400 ∷ 0x1403 ∷ 0x1800 ∷ 0x1803 ∷ [])
    ≡ codes "not EMCY node 5 (by its COB-ID)" ∷ codes "not RPDO1 node 5 (by its COB-ID)" ∷ codes "not RPDO4 node 5 (by its COB-ID)"
    ∷ codes "not TPDO1 node 5 (by its COB-ID)" ∷ codes "not TPDO4 node 5 (by its COB-ID)" ∷ []
unfolding moved_words filled digits
words = refl
