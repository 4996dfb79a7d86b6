-- Whose a frame is, as what it is read, and which frames have a mark, evaluated on both sides of each edge.
use Rattle.std.proofs.Common.{◌≡◌, ℕ, true, false, List, [], ◌∷◌, Some, None, refl, map}
use Rattle.std.specs.Prelude.{codes}
use Rattle.conode_record.specs.declared.content.Content.TheVariants.{Data, Fd, Remote}
use Rattle.conode_record.specs.declared.fields.Identifier.TheVariants.{Base, Extended}
use Rattle.conode_record.specs.declared.line.Record.{Record}
use Rattle.conode_explain_entries.specs.declared.entries.ShownPdo.{ShownPdo}
use Rattle.conode_explain_entries.specs.declared.further.Place.{Place}
use Rattle.conode_explain_entries.specs.declared.moved.MovedId.{MovedId}
use Rattle.conode_explain_entries.specs.declared.state.Value.TheVariants.{Seen}
use Rattle.conode_explain_entries.specs.Histories.{nothing_shown}
use Rattle.conode_explain_entries.specs.MovedIds.{index_for, moved_in, moved_words}
use Rattle.conode_explain_filter.specs.declared.kind.Kind.TheVariants as kinds
use Rattle.conode_explain_filter.specs.declared.subject.Subject.{Subject}
use Rattle.conode_explain_filter.specs.Subjects.{subject_at, subject_of}
use Rattle.conode_explain_cob_ids.specs.declared.claim.Claim.{Claim}
use Rattle.conode_explain_cob_ids.specs.declared.service_ids.NamedService.{NamedService}
use Rattle.conode_explain_cob_ids.specs.declared.service_ids.NamedService.TheVariants.{Sync, Time, Emergency}
use Rattle.conode_explain_cob_ids.specs.Buses.{Bus}
use Rattle.conode_explain_cob_ids.specs.ServiceIds.{service_by_shown, service_with}
use Rattle.conode_explain_transfers.specs.declared.kinds.Side.TheVariants.{Server}
use Rattle.conode_explain.specs.declared.whose.Whose.TheVariants.{Channel, Moved, Service, Unnamed}
use Rattle.conode_explain.specs.Explained.{words_at}
use Rattle.conode_explain.specs.Filtered.{subject_by}
use Rattle.conode_explain.specs.FrameWords.{assumed_mark}
use Rattle.conode_explain.specs.Whose.{default_id, read_by, whose_of}

ids : map default_id (Sync ∷ Time ∷ Emergency 1 ∷ Emergency 127 ∷ []) ≡ 0x080 ∷ 0x100 ∷ 0x081 ∷ 0x0FF ∷ []
ids = refl

abbrev place : Place
place = record { node = 5; ids = record { request = 0x680; answer = 0x681 }; side = Server }

read_as_these : map (λ whose. read_by whose (Base 0x681)) (Channel place ∷ Service (Emergency 5) ∷ Unnamed ∷ []) ≡ Base 0x585 ∷ Base 0x085 ∷ Base 0x681 ∷ []
read_as_these = refl

-- a PDO comes before a service, and a channel before both
abbrev frame : Record
frame = record { micros = 5; interface = codes "can0"; id = Base 0x085; content = Data []; direction = None }

abbrev bus : Bus
bus = record { sheets = []; entries = []; interface = codes "can0" }

abbrev claim : Claim
claim = record { node = 6; index = 0x1800 }

of_a_pdo : whose_of bus None (claim ∷ []) frame ≡ Unnamed
unfolding whose_of
of_a_pdo = refl

of_a_channel : whose_of bus (Some place) (claim ∷ []) frame ≡ Channel place
unfolding whose_of
of_a_channel = refl

-- ---- identifiers that a node's COB-ID was moved away from

abbrev shown : ℕ → ℕ → ShownPdo
shown index word = record {
  index = index;
  node = 5;
  interface = record { items = codes "can0" };
  state = record nothing_shown { now = record { cob_id = Seen word; mapping = Seen word ∷ [] } };
}

-- TPDO1 of node 5 has 190h, its emergencies have 1C5h
abbrev moved_bus : Bus
moved_bus = record { sheets = []; entries = shown 0x1800 0x190 ∷ shown 0x1014 0x1C5 ∷ []; interface = codes "can0" }

abbrev moved : ℕ → MovedId
moved index = record { node = 5; index = index }

by_recording : map (λ id. whose_of moved_bus None [] (record frame { id = Base id })) (0x085 ∷ 0x1C5 ∷ 0x185 ∷ 0x205 ∷ 0x186 ∷ [])
    ≡ Moved (moved 0x1014) ∷ Service (Emergency 5) ∷ Moved (moved 0x1800) ∷ Unnamed ∷ Unnamed ∷ []
unfolding whose_of service_with service_by_shown moved_in index_for
by_recording = refl

-- a PDO that has the identifier comes before, and so does a channel
moved_to_another : whose_of moved_bus None (claim ∷ []) (record frame { id = Base 0x185 }) ≡ Unnamed
unfolding whose_of
moved_to_another = refl

-- of other frames nothing is said
not_data : map (λ has. whose_of moved_bus None [] (record frame { id = Base 0x185; content = has })) (Remote 8 ∷ Fd 0 [] ∷ []) ≡ Unnamed ∷ Unnamed ∷ []
unfolding whose_of
not_data = refl

of_29_bits : whose_of moved_bus None [] (record frame { id = Extended 0x185 }) ≡ Unnamed
unfolding whose_of
of_29_bits = refl

-- such a frame says only that, and nothing of its node
says_that : words_at moved_bus [] (Moved (moved 0x1800)) [] (record frame { id = Base 0x185 }) None ≡ moved_words (moved 0x1800)
unfolding words_at
says_that = refl

read_as_none : read_by (Moved (moved 0x1014)) (Base 0x085) ≡ Extended 0
read_as_none = refl

of_no_node : subject_by (Moved (moved 0x1800)) [] (record frame { id = Base 0x185 }) ≡ record { id = record { wide = false; number = 0x185 }; kind = kinds.Other; node = None }
unfolding subject_by subject_of subject_at
of_no_node = refl

-- ---- kinds and nodes

abbrev subject : NamedService → Subject
subject service = subject_by (Service service) [] (record frame { id = Base 0x1C5 })

of_services : map subject (Sync ∷ Time ∷ Emergency 5 ∷ [])
    ≡ record { id = record { wide = false; number = 0x1C5 }; kind = kinds.Sync; node = None }
    ∷ record { id = record { wide = false; number = 0x1C5 }; kind = kinds.Other; node = None }
    ∷ record { id = record { wide = false; number = 0x1C5 }; kind = kinds.Emergency; node = Some 5 } ∷ []
unfolding subject_by subject_of subject_at
of_services = refl

-- ---- marks

abbrev edges : List ℕ
edges = 0x07F ∷ 0x080 ∷ 0x100 ∷ 0x101 ∷ 0x180 ∷ 0x181 ∷ 0x200 ∷ 0x57F ∷ 0x580 ∷ 0x581 ∷ []

unnamed_marks : map (assumed_mark false) edges ≡ [] ∷ codes "~" ∷ codes "~" ∷ [] ∷ [] ∷ codes "~" ∷ [] ∷ codes "~" ∷ [] ∷ [] ∷ []
unnamed_marks = refl

-- of a service that a COB-ID names there is none
named_marks : map (assumed_mark true) edges ≡ [] ∷ [] ∷ [] ∷ [] ∷ [] ∷ codes "~" ∷ [] ∷ codes "~" ∷ [] ∷ [] ∷ []
named_marks = refl
