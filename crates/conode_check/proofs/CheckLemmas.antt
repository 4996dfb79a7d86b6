-- What is written of a text that was read as a sheet.
use Rattle.std.proofs.Common.{◌≡◌, ◌∙◌, ℕ, List, [], ◌∷◌, ◌++◌, map, Option, Some, None, Result, Ok, Err, inl, inr, refl, sym, ap, subst, append_assoc}
use Rattle.std.specs.Prelude.{◌⊎◌, ◌≢◌, Bool, true, false, take, is_none, IfErr, IfOk, OnOk}
use Rattle.std.specs.List.{flat_map}
use Rattle.std.specs.Option.{option_map_or}
use Rattle.std.specs.Io.KnownBytes.{Appends, Keeps}
use Rattle.std.proofs.KnownBytes.{Appends-kept}
use Rattle.std.proofs.lemmas.Grind.{flat_map-append}
use Rattle.std.proofs.lemmas.List.Folds.{flat_map-map}
use Rattle.conode_io.specs.declared.fault.CmdFault.{CmdFault}
use Rattle.conode_io.specs.declared.fault.CmdFault.TheVariants.{Memory, Write}
use Rattle.conode_io.specs.declared.ending.Ending.{Ending}
use Rattle.conode_io.specs.declared.ending.Ending.TheVariants.{Said, Unsaid}
use Rattle.conode_io.specs.Written.{WritesFront, WritesFrontOrLines, WritesLines, WritesSome}
use Rattle.conode_io.proofs.WriteLemmas.{line_alone, lines_after, no_lines}
use Rattle.conode_check.specs.CheckEndings.{IsCheckEnding, SomeThenMemory, checked_status, memory_line}
use Rattle.co_sheet.specs.Content.{IsSheet, SheetContent}
use Rattle.co_sheet.specs.Accepted.{first_fault}
use Rattle.co_sheet_rows.specs.declared.fault.SheetFault.{SheetFault}
use Rattle.co_sheet_rows.specs.declared.note.Note.{Note}
use Rattle.co_dict_build.specs.declared.build_fault.BuildFault.{BuildFault}
use Rattle.co_dict_build.specs.Capacities.{Limits}
use Rattle.conode_check.specs.SheetTexts.{build_lines, checked_fault, checked_lines, fault_line, is_good, joined, node_lines, note_line, own_node, sheet_lines, summary_line, text_sheet}

-- the lines of a sheet, part by part
pub sheet_joined : (sheet : SheetContent) (own : Option ℕ) (fault : Option BuildFault) (notes : List Note) (old a b c d : List ℕ) → a ≡ old ++ summary_line sheet → notes ≡ sheet.notes
    → b ≡ a ++ flat_map note_line notes → c ≡ b ++ joined (node_lines own) → d ≡ c ++ joined (build_lines fault) → d ≡ old ++ joined (sheet_lines sheet own fault)
sheet_joined sheet own fault notes old a b c d e1 e2 e3 e4 e5 =
    rw (e5, e4, e3, e2, e1) (simp (flat_map-append, flat_map-map, append_assoc) refl)

none_of : (held : Option (List ℕ)) (sheet : SheetContent) (given : Option ℕ) (limits : Limits) (fault : Option SheetFault)
    → WritesSome held held (option_map_or (λ f. fault_line f ∷ []) fault (sheet_lines sheet (own_node given sheet) (checked_fault given limits sheet)))
none_of held sheet given limits (Some fault) = no_lines held (fault_line fault) []
none_of held sheet given limits None = no_lines held (summary_line sheet) (map note_line sheet.notes ++ (node_lines (own_node given sheet) ++ build_lines (checked_fault given limits sheet)))

-- before anything is written, some of the lines of a text are: none
pub none_written : (held : Option (List ℕ)) (text : List ℕ) (node : Option ℕ) (limits : Limits) → WritesSome held held (checked_lines text node limits)
none_written held text node limits = none_of held (text_sheet text) node limits (first_fault text)

-- what is written of a sheet that a text was read as is what is written of the text
pub accepted_text : (text : List ℕ) (sheet : SheetContent) (node : Option ℕ) (limits : Limits) → IsSheet text sheet
    → sheet_lines sheet (own_node node sheet) (checked_fault node limits sheet) ≡ checked_lines text node limits
accepted_text text sheet id limits read = rw (read.accepted, read.content) refl

-- such a text is good where there is no build fault
pub accepted_good : (text : List ℕ) (sheet : SheetContent) (node : Option ℕ) (limits : Limits) → IsSheet text sheet
    → is_none (checked_fault node limits sheet) ≡ is_good text node limits
accepted_good text sheet id limits read = rw (read.accepted, read.content) refl

-- that memory ran out follows what was written
pub some_then_memory : (old mid kept new : Option (List ℕ)) (lines : List (List ℕ)) → WritesSome old mid lines → Keeps mid kept → Appends kept new memory_line → SomeThenMemory old new lines
some_then_memory old mid kept new lines some flushed last = (
  some.0,
  some.1,
  lines_after old kept new (take some.0 lines) (memory_line ∷ []) (Appends-kept old mid kept (flat_map (λ line. line) (take some.0 lines)) some.2 flushed) (line_alone kept new memory_line last),
)

-- the writer failed, while the lines were written or as the last of them was to go out
module _ (old mid new : Option (List ℕ)) (kept : Keeps mid new) (lines : List (List ℕ)) where
  pub writer_failed : (outcome : Result Bool CmdFault) (fault : CmdFault) → (outcome ≡ Err Write → WritesFront old mid lines) → OnOk outcome (WritesLines old mid lines)
      → IfErr outcome (λ own. ◌≡◌ {A = Result Bool CmdFault} (Err fault) (Err own)) → fault ≡ Write → WritesFrontOrLines old new lines
  writer_failed (Ok done) fault front whole own is = inr (Appends-kept old mid new (flat_map (λ line. line) lines) whole kept)
  writer_failed (Err e) fault front whole own is =
      let same : e ≡ Write = cc in
      let (part, is_front, written) = front (ap (λ (f : CmdFault). Err f) same) in
      inl (part, is_front, Appends-kept old mid new part written kept)

-- ---- which fault it was

-- a fault other than of the writer was there before the flush
pub outcome_was : (outcome : Result Bool CmdFault) (fault said : CmdFault) → (outcome ≡ Err fault) ⊎ (fault ≡ Write) → fault ≡ said → said ≢ Write → outcome ≡ Err said
outcome_was outcome fault said (inl is) same other = is ∙ ap (λ (f : CmdFault). Err f) same
outcome_was outcome fault said (inr is) same other = absurd (other (sym same ∙ is))

-- no fault but these two comes
pub fault_was : (outcome : Result Bool CmdFault) (fault : CmdFault) → (outcome ≡ Err fault) ⊎ (fault ≡ Write) → IfErr outcome (λ f. (f ≡ Write) ⊎ (f ≡ Memory)) → (fault ≡ Write) ⊎ (fault ≡ Memory)
fault_was outcome fault (inr is) among = inl is
fault_was outcome fault (inl is) among = subst (λ (r : Result Bool CmdFault). IfErr r (λ f. (f ≡ Write) ⊎ (f ≡ Memory))) is among

pub check_ending : (ending : Ending) (fault : CmdFault) → (ending ≡ Said fault) ⊎ (ending ≡ Unsaid fault) → (fault ≡ Write) ⊎ (fault ≡ Memory) → IsCheckEnding ending
check_ending ending fault (inl is) (inl write) = inr (inl (is ∙ ap Said write))
check_ending ending fault (inr is) (inl write) = inr (inr (is ∙ ap Unsaid write))
check_ending ending fault (inl is) (inr memory) = inl (inl (is ∙ ap Said memory))
check_ending ending fault (inr is) (inr memory) = inl (inr (is ∙ ap Unsaid memory))

-- the status is 0 only where the text is good, and all is written of it
pub good_only : {P : Type 0} (outcome : Result Bool Ending) (good : Bool) (status : ℕ) → status ≡ checked_status outcome → status ≡ 0
    → IfOk outcome (λ found. found ≡ good) → OnOk outcome P → (good ≡ true) × P
good_only (Ok true) good status is zero found written = (sym found, written)
good_only (Ok false) good status is zero found written = let one : 0 ≡ 1 = sym zero ∙ is in cc
good_only (Err ending) good status is zero found written = let one : 0 ≡ 1 = sym zero ∙ is in cc
