-- `put` stores the pointer of the parts, and the handle owns what they owned.
use Rattle.std.proofs.Common.{List, [], ◌∷◌, ◌++◌, refl, ◌∙◌}
use mathlib.Core.Bool.{true}
use lib.Dec.{T, lit<}
use mir.Syntax.{ty_ptr, named}
use mir.Val.{Val, vunit, vstruct, vcons, vnil, of_list, has_ty, WT}
use base.Fml.{ftrue, fsep, flft}
use base.Fraction.{full_share}
use contract.Running.{tables}
use types.Kit.{‵, ◌⊛◌, ◌$◌, ◌∵◌, !, qed, done, move, keep, split, join, fsplit, fsplit3, fjoin, feq_i, fpack, rewrite, suffices, frame, group}
use types.Run.{enter, of_opd, unit_lit, stop, fld, assigns, returns}
use types.ByLocal.{alloc_all, pass_all, free_all, look_at, get, get_in, through, sets}
use types.Part.{whole, sub, store_in}
use denote.Exit.{yes}
use denote.Laws.{Is, Tells, shows}
use denote.Memory.{cell_at}
use denote.Param.{layout}
use denote.Builtin.{RawPtr}
use denote.RattleType.{RattleType, Valss}
use denote.RawPtr.{Ptr, block_ptr, null_ptr, ptr_val}
use denote.Ref.{MutRef, mut_vals, mut_Tells}
use denote.Signature.{plain}
use denote.Steps.{nothing, opens, closes, peeks}
use denote.Struct.Struct.{within}
use denote.Struct.Owning.{shape}
use denote.Triple.Walked.{Stays, walk_of, stay_dropped, Goes-dropped, stay_ref, Goes-ref, ends_at}
use Rattle.std.proofs.mem.Facts.{says_two}
use Rattle.std.proofs.raw_atomic.Walks.{proved}
use Rattle.std.proofs.Handle.{heap_val, heap_Tells}
use Rattle.std.specs.contracts.alloc.Global as heap
use Rattle.std.specs.contracts.impls.GlobalAllocator.TheImpl.{ghosts}
use Rattle.mm_c.specs.contracts.blocks.Blocks as manager
use Rattle.mm_c.specs.contracts.parts.Parts as parts
use Rattle.mm_c.specs.contracts.block_handle.BlockHandle as handle
use Rattle.mm_c.proofs.block_handle.BlockHandle.TheLaws.{lowers}
use Rattle.mm_c.specs.contracts.block_handle.BlockHandle.put as f
use Rattle.mm_c.proofs.block_handle.BlockHandle.put.Statement.{statement}
use Rattle.mm_c.proofs.block_handle.BlockHandle.put.Code as code

abbrev R : RattleType
R = handle.the_row

abbrev P : RattleType
P = parts.the_row manager.the_row heap.the_row ghosts

abbrev word : Ptr → Val
word p = vstruct (vcons (ptr_val p) (vcons heap_val vnil))

told : Tells P (Is P) (λ d. word d.ptr ∷ [])
told d vs is = is.0.1.0 ∙ (λ j. vstruct (of_list ((is.0.1.1.0) j ++ ((heap_Tells d.alloc (is.0.0.1.0) (is.0.1.1.1.0)) j ++ []))) ∷ [])

Ptr-Good : (p : Ptr) → T (has_ty ty_ptr (ptr_val p)) × WT (ptr_val p)
Ptr-Good (block_ptr b o) = (tt, tt)
Ptr-Good null_ptr = (tt, record { fits = lit< tt })

good : (p : Ptr) → T (has_ty (layout P) (word p)) × WT (word p)
good (block_ptr b o) = (tt, (tt, (((tt, tt), tt), tt)))
good null_ptr = (tt, (record { fits = lit< tt }, (((tt, tt), tt), tt)))

abbrev stayed : Stays f.ended.signature.params f.ended.kept
stayed = (stay_ref (0 ∷ []) tt (plain (λ _. R)), (stay_dropped (plain (λ _. P)) yes, tt))

pub put_spec : {M : Type 1} → statement M
put_spec 𝓤 𝓛 𝓜 𝓡 wired =
    let c = f.clauses 𝓛 𝓜.mem 𝓡.returns in let W = walk_of 𝓛 f.ended stayed c in let 𝓣 = tables 𝓤 𝓛.H 𝓜 𝓡 𝓡.env in
    proved 𝓛 f.ended stayed c 𝓜 𝓡 (Goes-ref 𝓛 1 0 tt (plain (λ _. R)), (Goes-dropped 𝓛 1 (plain (λ _. P)) yes (λ κs x w. refl), tt))
    f.Key.name code.function (code.unfolded 𝓤 𝓛.H 𝓜 𝓡 wired)
    (λ κs. (mut_vals, ((λ d. word d.ptr ∷ []), tt))) (λ κs. (mut_Tells (named 0) κs.0 R, (told, tt))) (λ κs qs bounds a g are.
    let b = a.0.ref_ptr.0 in let o = a.0.ref_ptr.1 in let h = a.0.now in let vs = mut_vals a.0 in let d = a.1.0 in let p : Ptr = d.ptr in
    let y : W.Ghost = ((κs, qs, bounds, a, (vs, (word p ∷ [], tt))), g) in
    let fresh : R.Denot = record { ptr = p; heap = d.alloc; live = true; value = d.value } in let ws : Val = vstruct (vcons (ptr_val p) vnil) in
    qed 𝓛 (((‵ (flft κs.0 qs.0) ⊛ ‵ ftrue) ⊛ ‵ (fsep ((MutRef (named 0) κs.0 R).own_val a.0 vs) (fsep (P.own_val d (word p ∷ [])) ftrue))) ∷ ‵ ftrue ∷ []) ∵
    split ! $ split ! $ move ! (2 ∷ []) $ fsplit ! $ move ! (1 ∷ []) $ fsplit ! $ move ! (2 ∷ 3 ∷ 0 ∷ []) $ keep ! (0 ∷ 1 ∷ 2 ∷ []) $
    enter ! _ _ _ _ _ $ alloc_all ! (λ l. pass_all ! refl ((tt, tt), (good p, tt)) $
    fsplit3 ! $ move ! (1 ∷ 2 ∷ 3 ∷ []) $ opens ! tt R b o (λ us.
    move ! (1 ∷ []) $ peeks ! R _ (shows 𝓛 R) h us (λ is. fsplit ! $
    rewrite ! 2 (λ (vs' : List Val). ‵ (cell_at full_share R.mir vs' b o)) (lowers.val_is h us is) refl $
    -- [what the fields own; what the handle owned; the struct's cell; the open borrow, in three entries; self's first part; the parts]
    sets ! (of_opd ! (get_in ! (fld ! refl (stop !)) (sub ! 0 refl (whole !)))) refl (Ptr-Good p) $
    sets ! (of_opd ! (get ! refl)) refl (Ptr-Good p) $
    assigns ! (of_opd ! (get ! refl)) (through ! refl (fld ! refl (stop !))) (store_in ! 2 (sub ! 0 refl (whole !)) (Ptr-Good p)) $
    sets ! (of_opd ! (unit_lit !)) refl (tt, tt) $
    move ! (7 ∷ []) $ fsplit ! $ move ! (1 ∷ []) $
    nothing ! $ feq_i ! (List Val) (ptr_val p ∷ []) (ptr_val p ∷ []) refl $ fjoin ! $ feq_i ! (List Val) (ws ∷ []) (ws ∷ []) refl $ fjoin ! $
    fpack ! (Valss (RawPtr ∷ [])) (within (shape handle.the_type) (p, tt) (ws ∷ [])) (ptr_val p ∷ [], tt) $ fjoin ! $
    -- [the handle's own; the parts' fields; ..; the cell at 4]
    move ! (4 ∷ 0 ∷ 5 ∷ 6 ∷ 7 ∷ []) $ closes ! tt R fresh (ws ∷ []) b o $ returns ! (look_at ! 0 refl) $ free_all ! refl $ keep ! (6 ∷ 0 ∷ 1 ∷ 2 ∷ []) $
    suffices ! _ (ends_at 𝓛 f.ended stayed c y vunit tt (fresh, (tt, tt)) (tt, (tt, tt))) $ says_two ! (refl, refl) $
    group ! 3 $ nothing ! $ nothing ! $ join ! $ move ! (1 ∷ 0 ∷ []) $ join ! $ nothing ! $ move ! (2 ∷ 0 ∷ []) $ join ! $ frame ! $ frame ! $ feq_i ! _ (vunit ∷ []) _ refl $ done !))))
