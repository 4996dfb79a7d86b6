-- What one SYNC, event or tick does to the countdowns, without the log.
use Rattle.std.specs.Prelude.{◌-◌, ◌==◌, ◌&&◌, ◌||◌, Bool, true, false, not, nat_le, if◌then◌else◌}
use Rattle.co_pdo.specs.declared.settings.Settings.{Settings}
use Rattle.co_pdo.specs.declared.tpdo.Occasion.{Occasion}
use Rattle.co_pdo.specs.declared.tpdo.Occasion.TheVariants.{Sync, Event, Tick}
use Rattle.co_pdo.specs.declared.tpdo.Tpdo.{Tpdo}
use Rattle.co_profile.specs.TransmissionTypes.{is_synchronous, is_event_driven}
use Rattle.co_pdo.specs.Due.{begins_count}

-- the occasion is a SYNC that counts: the count has begun, or begins with it
abbrev pub counts : Settings → Occasion → Tpdo → Bool
counts s (Sync overflow counter) t = t.has_begun || begins_count s.start_value overflow counter
counts s Event t = false
counts s Tick t = false

-- the occasion is a SYNC, and the transmission type is not synchronous: nothing is counted
abbrev pub passes_over : Occasion → Tpdo → Bool
passes_over (Sync overflow counter) t = not (is_synchronous t.transmission_type.0)
passes_over Event t = false
passes_over Tick t = false

-- the countdowns after an occasion at which the TPDO is not sent, by whether it counts
abbrev pub counted : Occasion → Bool → Tpdo → Tpdo
counted (Sync overflow counter) c t = record t { has_begun = c; syncs_left = if c then (if nat_le t.syncs_left 1 then t.transmission_type.0 else t.syncs_left - 1) else t.syncs_left; event_since_sync = false }
counted Event c t = record t { event_since_sync = true; event_waits = true }
counted Tick c t = record t { event_waits = t.event_waits || t.timer_left == 1; inhibit_left = t.inhibit_left - 1; timer_left = t.timer_left - 1 }

-- the countdowns make the TPDO due; by whether it counts
abbrev pub wants : Occasion → Bool → Tpdo → Bool
wants (Sync overflow counter) c t = if t.transmission_type.0 == 0 then t.event_since_sync else (c && (nat_le t.syncs_left 1 && is_synchronous t.transmission_type.0))
wants Event c t = is_event_driven t.transmission_type.0 && (true && t.inhibit_left == 0)
wants Tick c t = is_event_driven t.transmission_type.0 && ((t.event_waits || t.timer_left == 1) && t.inhibit_left - 1 == 0)

-- the countdowns after an occasion, by the settings of the TPDO
abbrev pub counted_with : Settings → Occasion → Tpdo → Tpdo
counted_with s o t = counted o (counts s o t) t

-- whether the countdowns make the TPDO due, by its settings
abbrev pub wants_with : Settings → Occasion → Tpdo → Bool
wants_with s o t = wants o (counts s o t) t

-- the countdowns after the TPDO is sent
abbrev pub marked : Tpdo → Tpdo
marked t = record t { event_waits = false; inhibit_left = t.inhibit; timer_left = t.timer }
