-- One frame more, as it is counted, is one frame more by definition.
use Rattle.std.proofs.Common.{ℕ, List, ◌∷◌, ◌≡◌, ◌∙◌, ◌+◌, refl, ap}
use Rattle.std.specs.Str.{bytes_eq}
use Rattle.std.proofs.lemmas.Bool.Decides.{Decides-eqb}
use Rattle.std.proofs.lemmas.Slice.Eq.{bytes_eq-Decides}
use Rattle.conode_record.specs.declared.line.Record.{Record}
use Rattle.conode_stats_counts.specs.declared.load.Load.{Load}
use Rattle.conode_stats_counts.specs.declared.node.Node.{Node}
use Rattle.conode_stats_counts.specs.declared.row.Row.{Row}
use Rattle.conode_stats_counts.specs.declared.tally.Tally.{Tally}
use Rattle.conode_stats_counts.specs.Buses.{BusCounts, Counted, bus_name, bus_of, bus_with, counts_of, counts_with, id_of, is_bus, is_row, most_buses, most_rows, row_of, row_with, same_id, stamps_of}
use Rattle.conode_stats_counts.specs.Emergencies.{Emergent}
use Rattle.conode_stats_counts.specs.Failures.{Transferred, transfers_of}
use Rattle.conode_stats_counts.specs.Gaps.{counted}
use Rattle.conode_stats_counts.specs.Groups.{keys_of, left_out, left_out_by}
use Rattle.conode_stats_counts.proofs.EmergencyLaws as emergency
use Rattle.conode_stats_counts.proofs.Failed as transfer
use Rattle.conode_stats_counts.proofs.Grouped as group
use Rattle.conode_stats_counts.proofs.Loaded as load
use Rattle.conode_stats_counts.proofs.Noded as node
use Rattle.conode_stats_counts.proofs.Tallied as tally

row_adds : (id : ℕ) (frames : List Record) (frame : Record) → row_with frame.micros (row_of id frames) ≡ row_of id (frame ∷ frames)
row_adds id frames frame =
    let row : Tally → Row = λ t. record { can_id = id; tally = t } in ap row (tally.one_more (stamps_of frames) frame.micros)

same_bus : (interface : List ℕ) (a a' : Tally) (l l' : Load) (m m' : List Node) (t t' : Transferred) (u u' : Emergent) (r r' : List Row) (n n' : ℕ) → a ≡ a' → l ≡ l' → m ≡ m' → t ≡ t' → u ≡ u' → r ≡ r' → n ≡ n'
    → ◌≡◌ {A = BusCounts}
    (record { interface = interface; all = a; load = l; nodes = m; transfers = t; emergencies = u; rows = r; left_out = n })
    (record { interface = interface; all = a'; load = l'; nodes = m'; transfers = t'; emergencies = u'; rows = r'; left_out = n' })
same_bus interface a a' l l' m m' t t' u u' r r' n n' e f k s v g h = cc

-- a frame of a bus
pub bus_more : (name : List ℕ) (frames : List Record) (frame : Record) → bus_with (bus_of name frames) frame ≡ bus_of name (frame ∷ frames)
unfolding bus_with bus_of transfers_of left_out
bus_more name frames frame =
    let all = tally.one_more (stamps_of frames) frame.micros in
    let bits = load.one_more frames frame in
    let shown = node.one_more frames frame in
    let failed = transfer.one_more frames frame in
    let alarms = emergency.one_more frames frame in
    let rows = group.one_more same_id Decides-eqb most_rows id_of row_of is_row (λ x k fs. refl) (λ row f. row_with f.micros row) row_adds frame frames in
    let none = group.none_more same_id Decides-eqb most_rows id_of row_of is_row (λ x k fs. refl) (λ row f. row_with f.micros row) row_adds frame frames in
    same_bus name _ _ _ _ _ _ _ _ _ _ _ _ _ _ all bits shown failed alarms rows
    (ap (λ (k : ℕ). counted (counted (left_out same_id id_of most_rows frames) + k)) none
    ∙ tally.counted_more (left_out same_id id_of most_rows frames) (left_out_by same_id most_rows (keys_of same_id id_of most_rows frames) (id_of frame)))

same_counts : (b b' : List BusCounts) (n n' : ℕ) → b ≡ b' → n ≡ n'
    → ◌≡◌ {A = Counted} (record { buses = b; left_out = n }) (record { buses = b'; left_out = n' })
same_counts b b' n n' e f = cc

-- a frame of a recording
pub counts_more : (frames : List Record) (frame : Record) → counts_with (counts_of frames) frame ≡ counts_of (frame ∷ frames)
unfolding counts_with counts_of bus_of left_out
counts_more frames frame =
    let buses = group.one_more bytes_eq bytes_eq-Decides most_buses bus_name bus_of is_bus (λ x k fs. refl) bus_with bus_more frame frames in
    let none = group.none_more bytes_eq bytes_eq-Decides most_buses bus_name bus_of is_bus (λ x k fs. refl) bus_with bus_more frame frames in
    same_counts _ _ _ _ buses
    (ap (λ (k : ℕ). counted (counted (left_out bytes_eq bus_name most_buses frames) + k)) none
    ∙ tally.counted_more (left_out bytes_eq bus_name most_buses frames) (left_out_by bytes_eq most_buses (keys_of bytes_eq bus_name most_buses frames) (bus_name frame)))

pub one_more : (old new : Counted) (frame : Record) → new ≡ counts_with old frame
    → (frames : List Record) → old ≡ counts_of frames → new ≡ counts_of (frame ∷ frames)
one_more old new frame is frames was = is ∙ ap (λ (c : Counted). counts_with c frame) was ∙ counts_more frames frame
