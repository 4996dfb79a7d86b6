-- What a command for this node, or none, isn't to the services, and a write of an entry, or of none.
use Rattle.std.proofs.Common.{◌≡◌, false, Option, Some, None, refl}
use Rattle.co_value.specs.declared.key.Key.{Key}
use Rattle.co_frame.specs.declared.nmt.NmtService.{NmtService}
use Rattle.co_node_model.specs.Marks.{command_mark, marked_command, marked_event, marked_key, marked_rpdo, marked_sync, marked_tick, written_mark}

-- ---- a command

pub command_key : (service : Option NmtService) → marked_key (command_mark service) ≡ None
command_key None = refl
command_key (Some service) = refl

pub command_sync : (service : Option NmtService) → marked_sync (command_mark service) ≡ None
command_sync None = refl
command_sync (Some service) = refl

pub command_rpdo : (service : Option NmtService) → marked_rpdo (command_mark service) ≡ None
command_rpdo None = refl
command_rpdo (Some service) = refl

pub command_tick : (service : Option NmtService) → marked_tick (command_mark service) ≡ false
command_tick None = refl
command_tick (Some service) = refl

pub command_event : (service : Option NmtService) → marked_event (command_mark service) ≡ None
command_event None = refl
command_event (Some service) = refl

-- ---- a write

pub written_key : (key : Option Key) → marked_key (written_mark key) ≡ key
written_key None = refl
written_key (Some key) = refl

pub written_command : (key : Option Key) → marked_command (written_mark key) ≡ None
written_command None = refl
written_command (Some key) = refl

pub written_sync : (key : Option Key) → marked_sync (written_mark key) ≡ None
written_sync None = refl
written_sync (Some key) = refl

pub written_rpdo : (key : Option Key) → marked_rpdo (written_mark key) ≡ None
written_rpdo None = refl
written_rpdo (Some key) = refl

pub written_tick : (key : Option Key) → marked_tick (written_mark key) ≡ false
written_tick None = refl
written_tick (Some key) = refl

pub written_event : (key : Option Key) → marked_event (written_mark key) ≡ None
written_event None = refl
written_event (Some key) = refl
