-- An event of a device's application, and the bytes of its write.
use Rattle.co_frame.specs.declared.app_event.AppEvent.{AppEvent}
use Rattle.co_frame.specs.declared.app_event.AppEvent.TheVariants.{Write, Event, Changed, Raise, Clear}

-- the same event, with a function of the bytes of a write
abbrev pub map_bytes : {B C : Type 0} → (B → C) → AppEvent B → AppEvent C
map_bytes f (Write key bytes) = Write key (f bytes)
map_bytes f (Event number) = Event number
map_bytes f (Changed key) = Changed key
map_bytes f (Raise code bits extra) = Raise code bits extra
map_bytes f (Clear bits) = Clear bits
