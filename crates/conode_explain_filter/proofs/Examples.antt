-- Words of filters and frames, on both sides of each edge.
use Rattle.std.proofs.Common.{◌≡◌, ℕ, true, false, [], ◌∷◌, Some, None, Ok, Err, refl, map}
use Rattle.std.specs.Prelude.{Option, codes}
use Rattle.conode_record.specs.declared.content.Content.TheVariants.{Data, Remote, Fd}
use Rattle.conode_record.specs.declared.fields.Identifier.TheVariants.{Base, Extended, Error}
use Rattle.conode_explain_text.specs.declared.so_far.Times.{Times}
use Rattle.conode_explain_filter.specs.declared.condition.Condition.TheVariants.{Node, Ids, OfKind, From, Until}
use Rattle.conode_explain_filter.specs.declared.condition.Written.{Written}
use Rattle.conode_explain_filter.specs.declared.kind.Kind.TheVariants.{Sdo, Pdo, Emergency, Nmt, Heartbeat, Sync, Other}
use Rattle.conode_explain_filter.specs.declared.moment.Moment.TheVariants.{SinceFirst, Recorded}
use Rattle.conode_explain_filter.specs.declared.option.FilterOption.TheVariants as option
use Rattle.conode_explain_filter.specs.declared.subject.Subject.{Subject}
use Rattle.conode_explain_filter.specs.Conditions.{condition_in, conditions_in, conditions_of, holds, id_condition, range_of, words_in, written_in}
use Rattle.conode_explain_filter.specs.Kinds.{kind_at}
use Rattle.conode_explain_filter.specs.Moments.{fraction_in, is_from, is_until, micros_in}
use Rattle.conode_explain_filter.specs.Subjects.{nmt_node, subject_at, subject_of}

abbrev id : ℕ → Written
id number = record { wide = false; number = number }

abbrev wide : ℕ → Written
wide number = record { wide = true; number = number }

-- ---- words

nodes : conditions_in option.Of (codes "5,8,127") ≡ Ok (Node 5 ∷ Node 8 ∷ Node 127 ∷ [])
unfolding conditions_of condition_in words_in
nodes = refl

no_node : conditions_in option.Of (codes "1,0,200") ≡ Err (codes "0")
unfolding conditions_of condition_in words_in
no_node = refl

above : conditions_in option.Of (codes "128") ≡ Err (codes "128")
unfolding conditions_of condition_in words_in
above = refl

nothing : conditions_in option.Of (codes "5,") ≡ Err []
unfolding conditions_of condition_in words_in
nothing = refl

ids : conditions_in option.Id (codes "180-1fF,705,80") ≡ Ok (Ids (id 0x180) (id 0x1FF) ∷ Ids (id 0x705) (id 0x705) ∷ Ids (id 0x080) (id 0x080) ∷ [])
unfolding conditions_of condition_in words_in id_condition range_of written_in
ids = refl

most : conditions_in option.Id (codes "7FF,00000000-3FFFFFFF") ≡ Ok (Ids (id 0x7FF) (id 0x7FF) ∷ Ids (wide 0) (wide 0x3FFFFFFF) ∷ [])
unfolding conditions_of condition_in words_in id_condition range_of written_in
most = refl

above_11 : id_condition (codes "800") ≡ None
unfolding id_condition range_of written_in
above_11 = refl

above_30 : id_condition (codes "40000000") ≡ None
unfolding id_condition range_of written_in
above_30 = refl

four_digits : id_condition (codes "0185") ≡ None
unfolding id_condition range_of written_in
four_digits = refl

no_digit : id_condition (codes "18x") ≡ None
unfolding id_condition range_of written_in
no_digit = refl

backwards : id_condition (codes "186-185") ≡ None
unfolding id_condition range_of written_in
backwards = refl

two_forms : id_condition (codes "185-00000186") ≡ None
unfolding id_condition range_of written_in
two_forms = refl

open_range : id_condition (codes "185-") ≡ None
unfolding id_condition range_of written_in
open_range = refl

kinds : conditions_in option.Kind (codes "sdo,pdo,emcy,nmt,heartbeat,sync,other")
    ≡ Ok (OfKind Sdo ∷ OfKind Pdo ∷ OfKind Emergency ∷ OfKind Nmt ∷ OfKind Heartbeat ∷ OfKind Sync ∷ OfKind Other ∷ [])
unfolding conditions_of condition_in words_in
kinds = refl

no_kind : conditions_in option.Kind (codes "sdo,SDO") ≡ Err (codes "SDO")
unfolding conditions_of condition_in words_in
no_kind = refl

-- ---- times

from_first : condition_in option.From (codes "12.5") ≡ Some (From (SinceFirst 12500000))
unfolding condition_in micros_in fraction_in
from_first = refl

until_stamp : condition_in option.To (codes "@1700000000.000250") ≡ Some (Until (Recorded 1700000000000250))
unfolding condition_in micros_in fraction_in
until_stamp = refl

whole : micros_in (codes "3") ≡ Some 3000000
unfolding micros_in
whole = refl

each_digit : (fraction_in (codes "1") ≡ Some 100000) × (fraction_in (codes "01") ≡ Some 10000) × (fraction_in (codes "001") ≡ Some 1000)
    × (fraction_in (codes "0001") ≡ Some 100) × (fraction_in (codes "00001") ≡ Some 10) × (fraction_in (codes "000001") ≡ Some 1)
    × (fraction_in (codes "0000001") ≡ None) × (fraction_in [] ≡ None)
unfolding fraction_in
each_digit = (refl, refl, refl, refl, refl, refl, refl, refl)

no_time : conditions_in option.From (codes "1,2") ≡ Err (codes "1,2")
unfolding conditions_of condition_in words_in micros_in
no_time = refl

abbrev at : ℕ → Times
at now = record { first = 1000; before = 1000; now = now }

times : (is_from (at 1499) (SinceFirst 500) ≡ false) × (is_from (at 1500) (SinceFirst 500) ≡ true)
    × (is_until (at 1500) (SinceFirst 500) ≡ true) × (is_until (at 1501) (SinceFirst 500) ≡ false)
    × (is_from (at 499) (Recorded 500) ≡ false) × (is_from (at 500) (Recorded 500) ≡ true)
    × (is_until (at 500) (Recorded 500) ≡ true) × (is_until (at 501) (Recorded 500) ≡ false)
times = (refl, refl, refl, refl, refl, refl, refl, refl)

-- ---- frames

each_kind : (kind_at 0 ≡ Nmt) × (kind_at 1 ≡ Other) × (kind_at 0x080 ≡ Sync) × (kind_at 0x081 ≡ Emergency) × (kind_at 0x0FF ≡ Emergency)
    × (kind_at 0x100 ≡ Other) × (kind_at 0x180 ≡ Other) × (kind_at 0x181 ≡ Pdo) × (kind_at 0x200 ≡ Other) × (kind_at 0x57F ≡ Pdo)
    × (kind_at 0x580 ≡ Other) × (kind_at 0x581 ≡ Sdo) × (kind_at 0x5FF ≡ Sdo) × (kind_at 0x600 ≡ Other) × (kind_at 0x601 ≡ Sdo)
    × (kind_at 0x67F ≡ Sdo) × (kind_at 0x680 ≡ Other) × (kind_at 0x700 ≡ Other) × (kind_at 0x701 ≡ Heartbeat)
    × (kind_at 0x77F ≡ Heartbeat) × (kind_at 0x780 ≡ Other) × (kind_at 0x7E5 ≡ Other)
each_kind = (refl, refl, refl, refl, refl, refl, refl, refl, refl, refl, refl, refl, refl, refl, refl, refl, refl, refl, refl, refl, refl, refl)

emergency : subject_of None (Base 0x085) (Data []) ≡ record { id = id 0x085; kind = Emergency; node = Some 5 }
unfolding subject_of subject_at
emergency = refl

sync : subject_of None (Base 0x080) (Data []) ≡ record { id = id 0x080; kind = Sync; node = None }
unfolding subject_of subject_at
sync = refl

time_stamp : subject_of None (Base 0x100) (Data []) ≡ record { id = id 0x100; kind = Other; node = None }
unfolding subject_of subject_at
time_stamp = refl

command : subject_of None (Base 0) (Data (1 ∷ 5 ∷ [])) ≡ record { id = id 0; kind = Nmt; node = Some 5 }
unfolding subject_of subject_at
command = refl

-- one byte, and two to eight; all nodes, the last node-ID, and no node-ID
nodes_of_commands : map (λ bytes. nmt_node (Data bytes))
    ((1 ∷ []) ∷ (1 ∷ 5 ∷ []) ∷ (1 ∷ 5 ∷ 128 ∷ []) ∷ (130 ∷ 5 ∷ 0 ∷ 0 ∷ 0 ∷ 0 ∷ 0 ∷ 0 ∷ []) ∷ (1 ∷ 0 ∷ []) ∷ (1 ∷ 127 ∷ []) ∷ (1 ∷ 128 ∷ []) ∷ [])
    ≡ None ∷ Some 5 ∷ Some 5 ∷ Some 5 ∷ Some 0 ∷ Some 127 ∷ None ∷ []
nodes_of_commands = refl

guarding : subject_of None (Base 0x705) (Remote 1) ≡ record { id = id 0x705; kind = Heartbeat; node = Some 5 }
unfolding subject_of subject_at
guarding = refl

of_a_sheet : subject_of (Some 8) (Base 0x6FF) (Data []) ≡ record { id = id 0x6FF; kind = Pdo; node = Some 8 }
unfolding subject_of subject_at
of_a_sheet = refl

fd : subject_of (Some 8) (Base 0x185) (Fd 0 []) ≡ record { id = id 0x185; kind = Other; node = None }
unfolding subject_of subject_at
fd = refl

extended : subject_of None (Extended 5) (Data []) ≡ record { id = wide 5; kind = Other; node = None }
unfolding subject_of subject_at
extended = refl

error_frame : subject_of None (Error 4) (Data []) ≡ record { id = wide 0x20000004; kind = Other; node = None }
unfolding subject_of subject_at
error_frame = refl

abbrev heartbeat : Option ℕ → Subject
heartbeat node = record { id = id 0x705; kind = Heartbeat; node = node }

conditions : (holds (heartbeat (Some 5)) (at 0) (Node 5) ≡ true) × (holds (heartbeat (Some 5)) (at 0) (Node 6) ≡ false)
    × (holds (heartbeat (Some 0)) (at 0) (Node 6) ≡ true) × (holds (heartbeat None) (at 0) (Node 6) ≡ false)
    × (holds (heartbeat None) (at 0) (Ids (id 0x704) (id 0x705)) ≡ true) × (holds (heartbeat None) (at 0) (Ids (id 0x705) (id 0x706)) ≡ true)
    × (holds (heartbeat None) (at 0) (Ids (id 0x706) (id 0x707)) ≡ false) × (holds (heartbeat None) (at 0) (Ids (id 0x703) (id 0x704)) ≡ false)
    × (holds (heartbeat None) (at 0) (Ids (wide 0x705) (wide 0x705)) ≡ false)
    × (holds (heartbeat None) (at 0) (OfKind Heartbeat) ≡ true) × (holds (heartbeat None) (at 0) (OfKind Sync) ≡ false)
conditions = (refl, refl, refl, refl, refl, refl, refl, refl, refl, refl, refl)
