-- `take` hands on what the handle points to, and leaves it nothing.
use Rattle.std.proofs.Common.{◌≡◌, List, [], ◌∷◌, refl, sym, ap, ◌∙◌}
use mathlib.Core.Bool.{Bool, true, false}
use mir.Syntax.{named}
use mir.Val.{Val, vptr, vstruct, vcons, vnil, has_ty, WT}
use lib.Dec.{T}
use denote.Param.{layout}
use denote.Builtin.{RawPtr}
use denote.RattleType.{Valss}
use denote.Struct.Struct.{within}
use denote.Struct.Owning.{shape}
use Rattle.std.proofs.mem.Facts.{says_two}
use mir.Raw.{raw as bare}
use base.Logic.{never, fst∗}
use base.Fml.{ftrue, fsep, flft}
use base.Fraction.{full_share}
use types.Logic.{sem}
use contract.Monad.{fact}
use contract.Running.{tables}
use types.Kit.{‵, raw, ◌⊛◌, ◌$◌, ◌∵◌, !, qed, done, move, keep, split, join, fsplit, fsplit3, fjoin, feq_i, fpack, rewrite, suffices, frame, group}
use types.Run.{enter, of_opd, load, stop, fld, no_more, and_then, returns}
use types.ByLocal.{alloc_all, pass_all, free_all, look_at, get, through, sets}
use types.Part.{agg, whole, sub, look_in}
use denote.Exit.{yes}
use denote.Laws.{shows}
use denote.Memory.{cell_at, lone}
use denote.RawPtr.{Ptr, block_ptr, null_ptr, in_a_block}
use denote.Ref.{MutRef, mut_vals, mut_Tells}
use denote.Signature.{plain}
use denote.Steps.{nothing, heard, opens, closes, peeks}
use denote.Triple.Walked.{Stays, walk_of, stay_dropped, Goes-dropped, stay_ref, Goes-ref, ends_at}
use Rattle.std.proofs.raw_atomic.Walks.{proved}
use Rattle.std.proofs.Handle.{heap_val, heap_Tells}
use Rattle.std.specs.Box.Ownership.{box_owns}
use Rattle.std.specs.contracts.alloc.Global as heap
use Rattle.std.specs.contracts.impls.GlobalAllocator.TheImpl.{ghosts}
use Rattle.mm_c.specs.contracts.blocks.Blocks as manager
use Rattle.mm_c.specs.BlockOwned.{handle_owns}
use Rattle.mm_c.specs.contracts.parts.Parts as parts
use Rattle.mm_c.specs.contracts.block_handle.BlockHandle.{the_row as R}
use Rattle.mm_c.proofs.block_handle.BlockHandle.TheLaws.{lowers}
use Rattle.mm_c.specs.contracts.block_handle.BlockHandle.take as f
use Rattle.mm_c.proofs.block_handle.BlockHandle.take.Statement.{statement}
use Rattle.mm_c.proofs.block_handle.BlockHandle.take.Code as code

abbrev stayed : Stays f.ended.signature.params f.ended.kept
stayed = (stay_ref (0 ∷ []) tt (plain (λ _. R)), (stay_dropped (plain (λ _. heap.the_row)) yes, tt))

heap_good : T (has_ty (layout heap.the_row) heap_val) × WT heap_val
heap_good = (tt, ((tt, tt), tt))

pub take_spec : {M : Type 1} → statement M
take_spec 𝓤 𝓛 𝓜 𝓡 wired =
    let c = f.clauses 𝓛 𝓜.mem 𝓡.returns in let W = walk_of 𝓛 f.ended stayed c in let 𝓣 = tables 𝓤 𝓛.H 𝓜 𝓡 𝓡.env in
    proved 𝓛 f.ended stayed c 𝓜 𝓡 (Goes-ref 𝓛 1 0 tt (plain (λ _. R)), (Goes-dropped 𝓛 1 (plain (λ _. heap.the_row)) yes (λ κs x w. refl), tt))
    f.Key.name code.function (code.unfolded 𝓤 𝓛.H 𝓜 𝓡 wired)
    (λ κs. (mut_vals, ((λ _. heap_val ∷ []), tt))) (λ κs. (mut_Tells (named 0) κs.0 R, (heap_Tells, tt))) (λ κs qs bounds a g are.
    let b = a.0.ref_ptr.0 in let o = a.0.ref_ptr.1 in let h = a.0.now in let vs = mut_vals a.0 in let al = a.1.0 in
    let y : W.Ghost = ((κs, qs, bounds, a, (vs, (heap_val ∷ [], tt))), g) in
    qed 𝓛 (((‵ (flft κs.0 qs.0) ⊛ ‵ ftrue) ⊛ ‵ (fsep ((MutRef (named 0) κs.0 R).own_val a.0 vs) (fsep ((heap.the_row).own_val al (heap_val ∷ [])) ftrue))) ∷ raw (fact 𝓤 (h.live ≡ true)) ∷ []) ∵
    move ! (1 ∷ []) $ heard ! _ (λ is_live. split ! $ split ! $ move ! (2 ∷ []) $ fsplit ! $ move ! (1 ∷ []) $ fsplit ! $ move ! (2 ∷ 3 ∷ 0 ∷ []) $ keep ! (0 ∷ 1 ∷ 2 ∷ []) $
    enter ! _ _ _ _ _ $ alloc_all ! (λ l. pass_all ! refl ((tt, tt), (heap_good, tt)) $
    fsplit3 ! $ move ! (1 ∷ 2 ∷ 3 ∷ []) $ opens ! tt R b o (λ us.
    move ! (1 ∷ []) $ peeks ! R _ (shows 𝓛 R) h us (λ is. fsplit ! $ move ! (1 ∷ []) $
    rewrite ! 0 (λ (t : Bool). ‵ (handle_owns t h.heap h.ptr h.value)) is_live refl $
    in_a_block ! h.ptr (λ p. box_owns (ghosts.dealloc_token h.heap) manager.the_row p h.value) (fst∗ 𝓤 (never 𝓤) (sem 𝓛 (ghosts.dealloc_token h.heap (bare (lone (manager.the_row).mir)) null_ptr))) (λ b' o' e.
    let word = lowers.val_is h us is ∙ ap (λ (p : Ptr). lowers.lowered (record h { ptr = p }) ∷ []) e in
    let Cell = λ (ws : List Val). ‵ (cell_at full_share R.mir ws b o) in
    let w : Val = vstruct (vcons (vptr b' o') (vcons heap_val vnil)) in
    rewrite ! 2 Cell word refl $
    -- [the box; what the fields own; the struct's cell; the open borrow, in three entries; self's first part; the heap's handle]
    sets ! (of_opd ! (load ! (through ! refl (fld ! refl (stop !))) (look_in ! 2 (sub ! 0 refl (whole !))))) refl (tt, tt) $
    sets ! (of_opd ! (get ! refl)) refl (tt, tt) $
    sets ! (agg ! (and_then ! (get ! refl) (and_then ! (get ! refl) (no_more !)))) refl (tt, (tt, (heap_good.1, tt))) $
    rewrite ! 2 Cell (sym word) refl $ move ! (1 ∷ []) $ nothing ! $ move ! (1 ∷ 0 ∷ []) $ fjoin ! $ move ! (2 ∷ 0 ∷ 3 ∷ 4 ∷ 5 ∷ []) $
    closes ! tt R (record h { live = false }) us b o $ returns ! (look_at ! 0 refl) $ free_all ! refl $
    -- [two parts of self; the token; the box; self's first part; the heap's handle]
    move ! (3 ∷ 5 ∷ []) $ nothing ! $ move ! (2 ∷ 0 ∷ []) $ fjoin ! $ feq_i ! (List Val) (vptr b' o' ∷ []) (vptr b' o' ∷ []) refl $ fjoin ! $ feq_i ! (List Val) (w ∷ []) (w ∷ []) refl $ fjoin ! $
    fpack ! (Valss (RawPtr ∷ heap.the_row ∷ [])) (within (shape (parts.the_type manager.the_row heap.the_row ghosts)) (block_ptr b' o', (al, tt)) (w ∷ [])) (vptr b' o' ∷ [], (heap_val ∷ [], tt)) $ fjoin ! $
    move ! (4 ∷ 1 ∷ 2 ∷ []) $
    suffices ! _ (ends_at 𝓛 f.ended stayed c y w (record { ptr = block_ptr b' o'; alloc = al; value = h.value }) (record h { live = false }, (tt, tt)) (tt, (tt, tt))) $ says_two ! (refl, refl) $
    group ! 3 $ nothing ! $ nothing ! $ join ! $ move ! (1 ∷ 0 ∷ []) $ join ! $ nothing ! $ move ! (3 ∷ 0 ∷ []) $ join ! $ frame ! $ frame ! $ done !))))))
