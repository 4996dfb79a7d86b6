-- Kinds of frames (CiA 301, 7.3.3, pre-defined connection set).
use Rattle.std.specs.Prelude.{ℕ, ◌%◌, ◌==◌, nat_le, Bool, true, false, not, ◌&&◌, ◌||◌, if◌then◌else◌, List, [], ◌∷◌, codes, find, Option, option_map}
use Rattle.std.specs.Str.{bytes_eq}
use Rattle.conode_explain_filter.specs.declared.kind.Kind.{Kind}
use Rattle.conode_explain_filter.specs.declared.kind.Kind.TheVariants.{Sdo, Pdo, Emergency, Nmt, Heartbeat, Sync, Other}

-- identifiers from one to another
abbrev within : ℕ → ℕ → ℕ → Bool
within first last id = nat_le first id && nat_le id last

-- the kind of an identifier of 11 bits
abbrev pub kind_at : ℕ → Kind
kind_at id =
    if id == 0 then Nmt
    else (if id == 0x080 then Sync
    else (if within 0x081 0x0FF id then Emergency
    else (if within 0x181 0x57F id && not (id % 128 == 0) then Pdo
    else (if within 0x581 0x5FF id || within 0x601 0x67F id then Sdo
    else (if within 0x701 0x77F id then Heartbeat else Other)))))

-- the words for them
abbrev pub kinds : List (List ℕ × Kind)
kinds =
    (codes "sdo", Sdo) ∷ (codes "pdo", Pdo) ∷ (codes "emcy", Emergency) ∷ (codes "nmt", Nmt)
    ∷ (codes "heartbeat", Heartbeat) ∷ (codes "sync", Sync) ∷ (codes "other", Other) ∷ []

abbrev pub kind_in : List ℕ → Option Kind
kind_in word = option_map (λ row. row.1) (find (λ row. bytes_eq word row.0) kinds)

abbrev pub same_kind : Kind → Kind → Bool
same_kind Sdo Sdo = true
same_kind Pdo Pdo = true
same_kind Emergency Emergency = true
same_kind Nmt Nmt = true
same_kind Heartbeat Heartbeat = true
same_kind Sync Sync = true
same_kind Other Other = true
same_kind _ _ = false
