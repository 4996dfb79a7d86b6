-- A frame whose identifier no COB-ID names is nobody's but that of the pre-defined connection set.
use Rattle.std.proofs.Common.{◌≡◌, ℕ, List, [], refl}
use Rattle.std.specs.Prelude.{None}
use Rattle.conode_record.specs.declared.content.Content.{Content}
use Rattle.conode_record.specs.declared.content.Content.TheVariants.{Data, Remote, Fd}
use Rattle.conode_record.specs.declared.fields.Identifier.{Identifier}
use Rattle.conode_record.specs.declared.fields.Identifier.TheVariants.{Base}
use Rattle.conode_record.specs.declared.line.Record.{Record}
use Rattle.conode_explain_entries.specs.MovedIds.{moved_in}
use Rattle.conode_explain_forms.specs.Places.{read_as}
use Rattle.conode_explain_cob_ids.specs.declared.claim.Claim.{Claim}
use Rattle.conode_explain_cob_ids.specs.Buses.{Bus}
use Rattle.conode_explain_cob_ids.specs.Claims.{claims_with}
use Rattle.conode_explain_cob_ids.specs.ServiceIds.{service_with}
use Rattle.conode_explain.specs.declared.whose.Whose.TheVariants.{Unnamed}
use Rattle.conode_explain.specs.Explained.{claims_at}
use Rattle.conode_explain.specs.Whose.{whose_in, whose_of}

pub no_claims : (bus : Bus) (id : Identifier) (number : ℕ) → id ≡ Base number → claims_with bus number ≡ [] → claims_at bus (read_as None id) ≡ []
no_claims bus id number is none = rw is none

by_content : (bus : Bus) (id : ℕ) (has : Content) → service_with bus id ≡ None → moved_in bus.entries bus.interface id ≡ None → whose_in bus (Base id) has ≡ Unnamed
by_content bus id (Data bytes) service moved = rw (service, moved) refl
by_content bus id (Remote count) service moved = refl
by_content bus id (Fd flags bytes) service moved = refl

pub nobody : (bus : Bus) (claims : List Claim) (frame : Record) (id : ℕ) → frame.id ≡ Base id → claims ≡ [] → service_with bus id ≡ None → moved_in bus.entries bus.interface id ≡ None
    → whose_of bus None claims frame ≡ Unnamed
unfolding whose_of
nobody bus claims frame id is none service moved = rw (is, none) (by_content bus id frame.content service moved)
