-- What is asked of the rooms that `compare` is given.
use Rattle.std.specs.Prelude.{◌≡◌, ◌≤◌, [], IfSome}
use Rattle.co_dict_build.specs.Capacities.{Limits}
use Rattle.conode_compare_values.specs.declared.rooms.Rooms.{Rooms}

-- they are those that a device is built with, and no entry has one of its own
pub record AreRoomsOf (limits : Limits) (rooms : Rooms) : Type 0 where
  pub own : limits.own ≡ []
  pub strings : IfSome rooms.strings (λ bytes. bytes ≡ limits.strings)
  pub domains : IfSome rooms.domains (λ bytes. bytes ≡ limits.domains)

-- each has four bytes at least, as many as an expedited download has without a size
pub record AreAmple (rooms : Rooms) : Type 0 where
  pub strings : IfSome rooms.strings (λ bytes. 4 ≤ bytes)
  pub domains : IfSome rooms.domains (λ bytes. 4 ≤ bytes)
