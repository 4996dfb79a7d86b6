-- Which frames count as the last ones of a node, evaluated on both sides of each edge.
use Rattle.std.proofs.Common.{◌≡◌, ℕ, List, [], ◌∷◌, Some, None, refl}
use Rattle.std.specs.Prelude.{codes}
use Rattle.conode_record.specs.declared.content.Content.{Content}
use Rattle.conode_record.specs.declared.content.Content.TheVariants.{Data, Remote, Fd}
use Rattle.conode_record.specs.declared.fields.Identifier.{Identifier}
use Rattle.conode_record.specs.declared.fields.Identifier.TheVariants.{Base, Extended, Error}
use Rattle.conode_record.specs.declared.line.Record.{Record}
use Rattle.conode_explain_services.specs.declared.guarding.Guarding.TheVariants.{NotSeen, Requested}
use Rattle.conode_explain_services.specs.declared.nmt_state.KnownState.TheVariants.{Unknown}
use Rattle.conode_explain_services.specs.Nodes.{last_in as last_of_node, last_of, new_node, nodes_after, nodes_asked, noted}
use Rattle.conode_explain.specs.Nodes.{nodes_with}

abbrev frame : Identifier → Content → Record
frame id content = record { micros = 5; interface = codes "can0"; id = id; content = content; direction = None }

abbrev emergency : List ℕ
emergency = 0x10 ∷ 0x81 ∷ 0x11 ∷ 0 ∷ 0 ∷ 0 ∷ 0 ∷ 0 ∷ []

register_kept : nodes_with [] (Base 0x085) (frame (Base 0x085) (Data emergency)) ≡ new_node (codes "can0") 5 (record { register = Some 0x11; guarding = NotSeen; state = Unknown }) ∷ []
unfolding nodes_with nodes_after noted last_of last_of_node
register_kept = refl

request_kept : nodes_with [] (Base 0x705) (frame (Base 0x705) (Remote 1)) ≡ new_node (codes "can0") 5 (record { register = None; guarding = Requested None; state = Unknown }) ∷ []
unfolding nodes_with nodes_asked noted last_of last_of_node
request_kept = refl

-- with an identifier of 29 bits, as an error frame, and as a CAN FD frame
others_pass : nodes_with [] (Extended 0x085) (frame (Extended 0x085) (Data emergency)) ≡ []
unfolding nodes_with
others_pass = refl

error_passes : nodes_with [] (Error 0x085) (frame (Error 0x085) (Data emergency)) ≡ []
unfolding nodes_with
error_passes = refl

fd_passes : nodes_with [] (Base 0x085) (frame (Base 0x085) (Fd 0 emergency)) ≡ []
unfolding nodes_with
fd_passes = refl

-- of a service that has another identifier
read_as_another : nodes_with [] (Base 0x085) (frame (Base 0x1C5) (Data emergency)) ≡ new_node (codes "can0") 5 (record { register = Some 0x11; guarding = NotSeen; state = Unknown }) ∷ []
unfolding nodes_with nodes_after noted last_of last_of_node
read_as_another = refl
