-- `held_mut` lends the device, and the seal follows it.
use mathlib.Core.Path.{◌≡◌, refl, sym, ap, ◌∙◌}
use Prim.Native.Nat.{ℕ}
use mathlib.Core.List.{List, [], ◌∷◌}
use seplogic.Ra.Ura.{Ura}
use base.Fraction.{full_share}
use mir.Syntax.{named}
use mir.Val.{Val, vptr, vstruct, vcons, vnil}
use mir.Raw.{raw as bare}
use base.Logic.{ent, sep, id⊢, never, fst∗}
use base.Fml.{GName, Fml, ftrue, flft, fsep}
use types.Logic.{Logic, sem}
use contract.Monad.{fact}
use contract.Running.{tables}
use types.Kit.{‵, raw, ◌⊛◌, some, later, at_ret, ◌$◌, ◌∵◌, !, qed, by, move, keep, use1, split, join, pick, await, rewrite, fsplit, fsplit3, fjoin, fpack, feq_i, group, suffices, frame, done}
use types.Part.{whole, sub, look_in}
use types.Run.{stop, fld, load, of_opd, addr, first, blocks, exec, returns, enter}
use types.ByLocal.{alloc_all, pass_all, free_all, look_at, get, through, sets, sets_last, env}
use denote.Exit.{no}
use denote.Follow.{follows, Part, lends_Part}
use denote.Laws.{shows}
use denote.Memory.{cell_at, lone, part_at, part_of, mem}
use denote.RattleType.{RattleType, Valss}
use denote.RawPtr.{Ptr, RawPtr, block_ptr, null_ptr, ptr_val, in_a_block}
use denote.Ref.{MutRef, mut_vals, mut_Tells}
use denote.Signature.{mut_ref_to, plain}
use denote.Steps.{heard, nothing, opens, peeks}
use denote.Struct.Struct.{within}
use denote.Struct.Owning.{shape}
use denote.Triple.Walked.{says, Stays, stay_dropped, walk_of, ends_at, Goes-spent_ref}
use Rattle.std.specs.Prelude.{Some, None, Option}
use Rattle.std.proofs.raw_atomic.Walks.{proved}
use Rattle.std_alloc.proofs.VecSteps.Shapes.{after}
use Rattle.std_alloc.specs.Box.Ownership.{box_owns}
use Rattle.std_heap.specs.contracts.GlobalAllocator.TheImpl.{ghosts}
use Rattle.bafokun.specs.Seals.{seal_owns}
use Rattle.bafokun.specs.Lent.{with_held}
use Rattle.bafokun.specs.contracts.held.Held as Held
use Rattle.bafokun.specs.contracts.seal.Seal as Seal
use Rattle.bafokun.proofs.seal.Seal.TheLaws.{lowers}
use Rattle.bafokun.specs.contracts.seal.Seal.held_mut as F
use Rattle.bafokun.specs.contracts.seal.Seal.held_mut.Key.{name as #self}
use Rattle.bafokun.proofs.seal.Seal.held_mut.Statement as stated
use Rattle.bafokun.proofs.seal.Seal.held_mut.Code as code

abbrev S : RattleType
S = Seal.the_row

abbrev T : RattleType
T = Held.the_row

abbrev X : Type 0
X = T.Denot

abbrev stayed : Stays (F.ended).signature.params (F.ended).kept
stayed = (stay_dropped (mut_ref_to (0 ∷ []) tt (plain (λ _. S))) no, tt)

record Known (o : Option X) : Type 0 where
  it : X
  is : o ≡ Some it

some_of : (o : Option X) → (o ≡ None → ⊥) → Known o
some_of None full = absurd (full refl)
some_of (Some v) full = record { it = v; is = refl }

module _ {M : Type 1} {𝓤 : Ura M} (𝓛 : Logic 𝓤) (h : S.Denot) (rb ro b o : ℕ) where
  abbrev word : Val
  word = vstruct (vcons (vptr b o) vnil)

  -- all of the seal but the device
  abbrev Rest : Fml
  Rest = fsep (ghosts.dealloc_token h.alloc (bare (lone T.mir)) (block_ptr b o)) (cell_at full_share S.mir (word ∷ []) rb ro)

  back : h.at ≡ block_ptr b o → (w : X) → ent 𝓤 (sep 𝓤 (sem 𝓛 ((mem T).own_at w b o)) (sem 𝓛 Rest)) (sem 𝓛 ((mem S).own_at (with_held h w) rb ro))
  unfolding part_of
  back e w =
      qed 𝓛 (‵ (part_at T full_share w b o) ∷ ‵ Rest ∷ []) ∵ move ! (1 ∷ []) $ fsplit ! $ move ! (2 ∷ 0 ∷ []) $ fjoin ! $
      use1 𝓛 (‵ (seal_owns h.alloc (block_ptr b o) (Some w))) (id⊢ 𝓤 _) $
      rewrite ! 0 (λ (p : Ptr). ‵ (seal_owns h.alloc p (Some w))) (sym e) refl $
      nothing ! $ feq_i ! (List Val) (vptr b o ∷ []) (ptr_val h.at ∷ []) (ap (λ (p : Ptr). ptr_val p ∷ []) (sym e)) $ fjoin ! $
      feq_i ! (List Val) (word ∷ []) (word ∷ []) refl $ fjoin ! $
      fpack ! (Valss (RawPtr ∷ [])) (within (shape Seal.the_type) (h.at, tt) (word ∷ [])) (vptr b o ∷ [], tt) $ fjoin ! $
      use1 𝓛 (‵ (S.own_val (with_held h w) (word ∷ []))) (id⊢ 𝓤 _) $ move ! (1 ∷ 0 ∷ []) $ fjoin ! $
      fpack ! (List Val) (λ us. fsep (cell_at full_share S.mir us rb ro) (S.own_val (with_held h w) us)) (word ∷ []) $ done !

pub held_mut_spec : {M : Type 1} → stated.statement M
held_mut_spec 𝓤 𝓛 𝓜 𝓡 wired =
    let c = F.clauses 𝓛 𝓜.mem 𝓡.returns in let W = walk_of 𝓛 F.ended stayed c in let 𝓣 = tables 𝓤 𝓛.H 𝓜 𝓡 𝓡.env in
    proved 𝓛 F.ended stayed c 𝓜 𝓡 (Goes-spent_ref 𝓛 1 (0 ∷ []) tt (plain (λ _. S)), tt)
    #self code.function (code.unfolded 𝓤 𝓛.H 𝓜 𝓡 wired)
    (λ κs. (mut_vals, tt)) (λ κs. (mut_Tells (named 0) κs.0 S, tt)) (λ κs qs bounds a n are.
    let κ = κs.0 in let q = qs.0 in let rb = a.0.ref_ptr.0 in let ro = a.0.ref_ptr.1 in let γ = a.0.ghost_name in let h = a.0.now in let vs = mut_vals a.0 in
    let y : W.Ghost = ((κs, qs, bounds, a, (vs, tt)), n) in
    qed 𝓛 (((‵ (flft κ q) ⊛ ‵ ftrue) ⊛ ‵ ((MutRef (named 0) κ S).own_val a.0 vs) ⊛ ‵ ftrue) ∷ raw (fact 𝓤 (h.value ≡ None → ⊥)) ∷ []) ∵
    move ! (1 ∷ []) $ heard ! (h.value ≡ None → ⊥) (λ full. let known = some_of h.value full in
    split ! $ split ! $ move ! (2 ∷ []) $ split ! $ keep ! (0 ∷ 2 ∷ []) $
    enter ! _ _ _ _ _ $ alloc_all ! (λ l. pass_all ! refl ((tt, tt), tt) $
    fsplit3 ! $ move ! (1 ∷ 2 ∷ 3 ∷ []) $ opens ! tt S rb ro (λ us.
    move ! (1 ∷ []) $ peeks ! S _ (shows 𝓛 S) h us (λ is. fsplit ! $ move ! (1 ∷ []) $
    rewrite ! 0 (λ (m : Option X). ‵ (seal_owns h.alloc h.at m)) known.is refl $
    in_a_block ! h.at (λ p. box_owns (ghosts.dealloc_token h.alloc) T p known.it) (fst∗ 𝓤 (never 𝓤) (sem 𝓛 (ghosts.dealloc_token h.alloc (bare (lone T.mir)) null_ptr))) (λ b o e. fsplit ! $
    let at = lowers.val_is h us is ∙ ap (λ (p : Ptr). lowers.lowered (record h { at = p }) ∷ []) e in
    rewrite ! 3 (λ (ws : List Val). ‵ (cell_at full_share S.mir ws rb ro)) at refl $
    -- [the device; the right to free it; the seal's fields; its cell; the open borrow, in three entries]
    first ! $ blocks ! $
    sets ! (of_opd ! (load ! (through ! refl (fld ! refl (stop !))) (look_in ! 3 (sub ! 0 refl (whole !))))) refl (tt, tt) $
    sets ! (of_opd ! (get ! refl)) refl (tt, tt) $
    sets_last ! (addr ! (through ! refl (stop !))) refl (tt, tt) $
    exec ! 𝓣.C 𝓣.Λ (env code.Mir.locals l) (after 1 (code.function).body) (at_ret _ (W.post y)) $
    sets ! (of_opd ! (get ! refl)) refl (tt, tt) $
    move ! (1 ∷ 3 ∷ []) $ fjoin ! $ move ! (3 ∷ 4 ∷ 5 ∷ 1 ∷ 0 ∷ []) $ group ! 5 $
    use1 𝓛 (later (some (λ (γ' : GName). raw (Part 𝓛 S T (with_held h) (named 0) κ q rb ro b o γ (sem 𝓛 (Rest 𝓛 h rb ro b o)) (back 𝓛 h rb ro b o e) known.it γ'))))
    (lends_Part 𝓛 S T (with_held h) (named 0) κ q rb ro b o γ (sem 𝓛 (Rest 𝓛 h rb ro b o)) (back 𝓛 h rb ro b o e) (S.coded.code h) (S.coded.code h) known.it) $ await ! tt $ pick ! (λ γ'.
    returns ! (look_at ! 0 refl) $ free_all ! refl $ keep ! (0 ∷ []) $
    by ! (qed 𝓛 (‵ ((MutRef (named 0) κ T).own_val (record { ref_ptr = (b, o); ghost_name = γ'; now = known.it }) (vptr b o ∷ [])) ∷ ‵ (flft κ q) ∷ ‵ (follows S T γ γ' (with_held h)) ∷ []) ∵
    suffices ! _ (ends_at 𝓛 F.ended stayed c y (vptr b o) (record { ref_ptr = (b, o); ghost_name = γ'; now = known.it }) (tt, tt) (tt, tt)) $
    nothing ! $ nothing ! $ fjoin ! $ join ! $ nothing ! $ move ! (2 ∷ 0 ∷ []) $ join ! $ join ! $ frame ! $ says ! known.is $ done !))))))))
