-- What the turns of a schedule that write nothing do to its condition.
use Rattle.std.proofs.Common.{◌≡◌, ℕ, Bool, true, false, List, ◌∷◌, Option, Some, None, refl}
use Rattle.co_frame.specs.FrameContent.{FrameContent}
use Rattle.co_dict.specs.Rows.{Contents}
use Rattle.co_dict.specs.Stores.{Description}
use Rattle.co_pdo.specs.declared.settings.Settings.{Settings}
use Rattle.co_pdo.specs.declared.tpdo.Occasion.{Occasion}
use Rattle.co_pdo.specs.Log.{Log, Happened}
use Rattle.co_pdo.specs.Tpdos.{settings_of}
use Rattle.co_pdo.specs.Countdowns.{IsCurrent}
use Rattle.co_pdo.specs.Schedules.{History, log_of, is_among, with_all_started, with_sync, with_events, with_tick, AllCurrent}
use Rattle.co_node_model.specs.declared.mark.Asked.{Asked}
use Rattle.co_node_model.specs.declared.mark.Mark.{Mark}
use Rattle.co_node_model.specs.Tpdos.{numbers_asked, turn_by_asked, turn_with, with_turn}
use Rattle.co_node_model.specs.Marks.{marked_event, marked_sync, marked_tick}

happened : (s t : Settings) (log : Log) (o : Occasion) (sent : Bool) → IsCurrent s log → IsCurrent s (Happened o t sent ∷ log)
happened s t log o sent h = record { started = h.started; timer = h.timer }

synced : (c : Contents) (history : History) (counter : Option ℕ) (sent : List ℕ) → AllCurrent c history → AllCurrent c (with_sync counter c sent history)
synced c history counter sent all = λ k less. happened _ _ _ _ _ (all k less)

ticked : (c : Contents) (history : History) (sent : List ℕ) → AllCurrent c history → AllCurrent c (with_tick c sent history)
ticked c history sent all = λ k less. happened _ _ _ _ _ (all k less)

events_by : (c : Contents) (history : History) (numbers : List ℕ) (k : ℕ) (sent : List ℕ) (here : Bool) → is_among k numbers ≡ here → IsCurrent (settings_of c k) (log_of k history) → IsCurrent (settings_of c k) (log_of k (with_events numbers c sent history))
events_by c history numbers k sent true is h = rw is (happened _ _ _ _ _ h)
events_by c history numbers k sent false is h = rw is h

events : (c : Contents) (history : History) (numbers sent : List ℕ) → AllCurrent c history → AllCurrent c (with_events numbers c sent history)
events c history numbers sent all = λ k less. events_by c history numbers k sent (is_among k numbers) refl (all k less)

pub current_started : (c : Contents) (history : History) → AllCurrent c (with_all_started c history)
current_started c history = λ k less. record { started = λ on. (refl, refl); timer = refl }

by_asked : (d : Description) (c : Contents) (due : List ℕ) (history : History) (asked : Option Asked) → AllCurrent c history → AllCurrent c (with_turn d (turn_by_asked asked) c due history)
by_asked d c due history None all = all
by_asked d c due history (Some asked) all = events c history (numbers_asked d c asked) due all

by_happening : (d : Description) (c : Contents) (due : List ℕ) (history : History) (mark : Mark) (tick : Bool) (sync : Option FrameContent) → marked_tick mark ≡ tick → marked_sync mark ≡ sync → AllCurrent c history → AllCurrent c (with_turn d (turn_with None mark) c due history)
by_happening d c due history mark true sync ticks syncs all = rw ticks (ticked c history due all)
by_happening d c due history mark false None ticks syncs all = rw (ticks, syncs) (by_asked d c due history (marked_event mark) all)
by_happening d c due history mark false (Some frame) ticks syncs all = rw (ticks, syncs) (synced c history _ due all)

pub current_happened : (d : Description) (c : Contents) (due : List ℕ) (history : History) (mark : Mark) → AllCurrent c history → AllCurrent c (with_turn d (turn_with None mark) c due history)
current_happened d c due history mark all = by_happening d c due history mark (marked_tick mark) (marked_sync mark) refl refl all
