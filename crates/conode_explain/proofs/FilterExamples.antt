-- Which frames pass a filter by a node, evaluated on both sides of each edge.
use Rattle.std.proofs.Common.{◌≡◌, ℕ, true, false, List, [], ◌∷◌, Option, Some, None, refl}
use Rattle.std.specs.Prelude.{codes}
use Rattle.conode_record.specs.declared.content.Content.{Content}
use Rattle.conode_record.specs.declared.content.Content.TheVariants.{Data, Remote, Fd}
use Rattle.conode_record.specs.declared.fields.Identifier.TheVariants.{Base}
use Rattle.conode_record.specs.declared.line.Record.{Record}
use Rattle.conode_explain_entries.specs.declared.further.Place.{Place}
use Rattle.conode_explain_filter.specs.declared.condition.Condition.TheVariants.{Node, OfKind}
use Rattle.conode_explain_filter.specs.declared.filter.Filter.{Filter}
use Rattle.conode_explain_filter.specs.declared.kind.Kind.TheVariants as kinds
use Rattle.conode_explain_filter.specs.Filters.{passes}
use Rattle.conode_explain_filter.specs.Subjects.{subject_at, subject_of}
use Rattle.conode_explain_cob_ids.specs.declared.claim.Claim.{Claim}
use Rattle.conode_explain_cob_ids.specs.declared.service_ids.NamedService.TheVariants.{Emergency}
use Rattle.conode_explain_text.specs.declared.so_far.Times.{Times}
use Rattle.conode_explain_transfers.specs.declared.kinds.Side.TheVariants.{Server}
use Rattle.conode_explain.specs.declared.whose.Whose.TheVariants.{Channel, Service, Unnamed}
use Rattle.conode_explain.specs.Filtered.{passes_either, subject_by}

abbrev times : Times
times = record { first = 0; before = 0; now = 5 }

abbrev frame : ℕ → Content → Record
frame id content = record { micros = 5; interface = codes "can0"; id = Base id; content = content; direction = None }

-- sent by node 5, received by nodes 8 and 9
abbrev claims : List Claim
claims = record { node = 5; index = 0x1800 } ∷ record { node = 8; index = 0x1400 } ∷ record { node = 9; index = 0x1401 } ∷ []

abbrev place : Place
place = record { node = 7; ids = record { request = 0x680; answer = 0x681 }; side = Server }

-- ---- the node of a PDO: that of the only sender, else that of the only receiver
abbrev sent : ℕ → Claim
sent node = record { node = node; index = 0x1800 }

abbrev received : ℕ → Claim
received node = record { node = node; index = 0x15FF }

abbrev node_by : List Claim → Option ℕ
node_by claims = (subject_by Unnamed claims (frame 0x185 (Data []))).node

of_its_sender : node_by claims ≡ Some 5
unfolding subject_by subject_of subject_at
of_its_sender = refl

of_its_receiver : node_by (received 8 ∷ received 8 ∷ []) ≡ Some 8
unfolding subject_by subject_of subject_at
of_its_receiver = refl

of_two_receivers : node_by (received 8 ∷ received 9 ∷ []) ≡ None
unfolding subject_by subject_of subject_at
of_two_receivers = refl

of_two_senders : node_by (sent 5 ∷ sent 5 ∷ sent 6 ∷ received 5 ∷ []) ≡ None
unfolding subject_by subject_of subject_at
of_two_senders = refl

of_no_pdo : node_by [] ≡ Some 5
unfolding subject_by subject_of subject_at
of_no_pdo = refl

-- a filter without times and identifiers
module _ (filter : Filter) (ids : filter.id.items ≡ []) (from : filter.from.items ≡ []) (to : filter.to.items ≡ []) where
  sender : filter.of.items ≡ Node 5 ∷ [] → filter.kind.items ≡ []
      → passes_either filter times Unnamed claims (frame 0x185 (Data [])) ≡ true
  unfolding passes subject_by subject_of subject_at
  sender of kind = rw (of, kind, ids, from, to) refl

  first_receiver : filter.of.items ≡ Node 8 ∷ [] → filter.kind.items ≡ []
      → passes_either filter times Unnamed claims (frame 0x185 (Data [])) ≡ true
  unfolding passes subject_by subject_of subject_at
  first_receiver of kind = rw (of, kind, ids, from, to) refl

  second_receiver : filter.of.items ≡ Node 9 ∷ [] → filter.kind.items ≡ []
      → passes_either filter times Unnamed claims (frame 0x185 (Data [])) ≡ true
  unfolding passes subject_by subject_of subject_at
  second_receiver of kind = rw (of, kind, ids, from, to) refl

  another_node : filter.of.items ≡ Node 6 ∷ [] → filter.kind.items ≡ []
      → passes_either filter times Unnamed claims (frame 0x185 (Data [])) ≡ false
  unfolding passes subject_by subject_of subject_at
  another_node of kind = rw of refl

  one_of_two_nodes : filter.of.items ≡ Node 6 ∷ Node 9 ∷ [] → filter.kind.items ≡ []
      → passes_either filter times Unnamed claims (frame 0x185 (Data [])) ≡ true
  unfolding passes subject_by subject_of subject_at
  one_of_two_nodes of kind = rw (of, kind, ids, from, to) refl

  -- also where no sender is known
  second_receiver_alone : filter.of.items ≡ Node 9 ∷ [] → filter.kind.items ≡ OfKind kinds.Pdo ∷ []
      → passes_either filter times Unnamed (received 8 ∷ received 9 ∷ []) (frame 0x185 (Data [])) ≡ true
  unfolding passes subject_by subject_of subject_at
  second_receiver_alone of kind = rw (of, kind, ids, from, to) refl

  asked_remotely : filter.of.items ≡ Node 8 ∷ [] → filter.kind.items ≡ []
      → passes_either filter times Unnamed claims (frame 0x185 (Remote 1)) ≡ true
  unfolding passes subject_by subject_of subject_at
  asked_remotely of kind = rw (of, kind, ids, from, to) refl

  -- a CAN FD frame is no PDO
  sender_fd : filter.of.items ≡ Node 5 ∷ [] → filter.kind.items ≡ []
      → passes_either filter times Unnamed claims (frame 0x185 (Fd 0 [])) ≡ false
  unfolding passes subject_by subject_of subject_at
  sender_fd of kind = rw of refl

  receiver_fd : filter.of.items ≡ Node 8 ∷ [] → filter.kind.items ≡ []
      → passes_either filter times Unnamed claims (frame 0x185 (Fd 0 [])) ≡ false
  unfolding passes subject_by subject_of subject_at
  receiver_fd of kind = rw of refl

  -- one word of each option
  of_both : filter.of.items ≡ Node 8 ∷ [] → filter.kind.items ≡ OfKind kinds.Pdo ∷ []
      → passes_either filter times Unnamed claims (frame 0x185 (Data [])) ≡ true
  unfolding passes subject_by subject_of subject_at
  of_both of kind = rw (of, kind, ids, from, to) refl

  of_one : filter.of.items ≡ Node 8 ∷ [] → filter.kind.items ≡ OfKind kinds.Heartbeat ∷ []
      → passes_either filter times Unnamed claims (frame 0x185 (Data [])) ≡ false
  unfolding passes subject_by subject_of subject_at
  of_one of kind = rw (of, kind, ids) refl

  -- no PDO of a sheet: of the node of its identifier, of a channel's server, of a service's node
  by_identifier : filter.of.items ≡ Node 5 ∷ [] → filter.kind.items ≡ []
      → passes_either filter times Unnamed [] (frame 0x185 (Data [])) ≡ true
  unfolding passes subject_by subject_of subject_at
  by_identifier of kind = rw (of, kind, ids, from, to) refl

  not_by_identifier : filter.of.items ≡ Node 8 ∷ [] → filter.kind.items ≡ []
      → passes_either filter times Unnamed [] (frame 0x185 (Data [])) ≡ false
  unfolding passes subject_by subject_of subject_at
  not_by_identifier of kind = rw of refl

  by_channel : filter.of.items ≡ Node 7 ∷ [] → filter.kind.items ≡ []
      → passes_either filter times (Channel place) [] (frame 0x681 (Data [])) ≡ true
  unfolding passes subject_by subject_of subject_at
  by_channel of kind = rw (of, kind, ids, from, to) refl

  not_by_channel : filter.of.items ≡ Node 1 ∷ [] → filter.kind.items ≡ []
      → passes_either filter times (Channel place) [] (frame 0x681 (Data [])) ≡ false
  unfolding passes subject_by subject_of subject_at
  not_by_channel of kind = rw of refl

  by_service : filter.of.items ≡ Node 6 ∷ [] → filter.kind.items ≡ []
      → passes_either filter times (Service (Emergency 6)) [] (frame 0x1C5 (Data [])) ≡ true
  unfolding passes subject_by subject_of subject_at
  by_service of kind = rw (of, kind, ids, from, to) refl

  not_by_service : filter.of.items ≡ Node 69 ∷ [] → filter.kind.items ≡ []
      → passes_either filter times (Service (Emergency 6)) [] (frame 0x1C5 (Data [])) ≡ false
  unfolding passes subject_by subject_of subject_at
  not_by_service of kind = rw of refl
