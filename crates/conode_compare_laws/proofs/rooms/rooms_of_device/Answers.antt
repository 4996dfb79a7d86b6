use Rattle.conode_compare_laws.proofs.RoomsOfDevices.{room_is}
use Rattle.conode_compare_laws.proofs.rooms.rooms_of_device.Goals as goal

pub returns : goal.returns
returns c = room_is
