-- The stores after entries that carry a buffer into TT or out of it, free it, or reap a ghost.
use Rattle.std.proofs.Common.{◌≡◌, ℕ, false, List, [], ◌∷◌, ◌++◌, Option, Some, None, refl, sym, ◌∙◌, ap, subst, ⊎_elim, length}
use Rattle.std.specs.Prelude.{slice_get, slice_set, option_map, ◌==◌, if◌then◌else◌}
use Rattle.ttm_base.specs.declared.Actor.{Actor}
use Rattle.ttm_base.specs.declared.Mem.{Mem}
use Rattle.ttm_base.specs.declared.Mem.TheVariants.{System, Tt, Vram}
use Rattle.ttm_base.specs.declared.BufId.{BufId}
use Rattle.ttm_base.specs.declared.JobId.{JobId}
use Rattle.ttm_base.specs.declared.Loc.{Loc}
use Rattle.ttm_base.specs.Pages.{PageBytes}
use Rattle.aperture_table.specs.Translation.{frame_at}
use Rattle.copy_packet.specs.declared.stores.Stores.{Stores}
use Rattle.journal_model.specs.declared.script.Script.{Script}
use Rattle.journal_model.specs.declared.entry.Kind.TheVariants as kind
use Rattle.journal_model.specs.declared.entry.Left.{Left}
use Rattle.journal_model.specs.declared.entry.Left.TheVariants as left
use Rattle.journal_model.specs.declared.state.Buffer.{Buffer}
use Rattle.journal_model.specs.declared.state.Core.{Core}
use Rattle.journal_model.specs.declared.state.Ghost.{Ghost}
use Rattle.journal_model.specs.declared.state.State.{State}
use Rattle.journal_model.specs.rules.State.{buffer, live_in, changed, target_spans}
use Rattle.journal_model.specs.rules.Places.{pages_of, aperture}
use Rattle.journal_model.specs.rules.Holds.{spans_in}
use Rattle.journal_model.specs.rules.Apply.{applied}
use Rattle.journal_model.specs.rules.ApplyCommands.{ghost_of_freed}
use Rattle.journal_model.specs.rules.ApplyPages.{bound, unbound}
use Rattle.journal_model.specs.rules.ApplyMoves.{moved, table_left, frames_left, ghost_of_moved}
use Rattle.laws.proofs.law_owners.Law.{AreHeldOnce}
use Rattle.laws.specs.law_holders.Maps.{GhostMaps}
use Rattle.room_representation.specs.Pages.{AreStores}
use Rattle.room_representation.specs.lemma_bytes.Mapped.{HasStores, HasStoresAfter, mapped_to, cleared, IsFull}
use Rattle.room_representation.proofs.lemma_bytes.Bytes.{stores_within, same_aperture, remapped}
use Rattle.room_representation.proofs.lemma_bytes.Mappings.{length-mapped_to, length-cleared}
use Rattle.room_representation.proofs.lemma_bytes.Holders.{is_in_tt}
use Rattle.room_representation.proofs.lemma_bytes.Apertures.{same_ghosts, more_ghosts, either_ghost, left_same, gone_cleared, come_mapped, reaped_cleared}

some_mem : (y z : Buffer) (m : Mem) → Some y ≡ Some z → y.mem ≡ m → z.mem ≡ m
some_mem y z m e h = let same : y ≡ z = cc in sym (ap (λ (x : Buffer). x.mem) same) ∙ h

system_tt : System ≡ Tt → ⊥
system_tt e = cc

vram_tt : Vram ≡ Tt → ⊥
vram_tt e = cc

module _ (script : Script) (s : State) (bytes : PageBytes) (st : Stores) (t : HasStores script s bytes st) (who : Actor) (before : AreHeldOnce script s.core) where
  -- what lists of pages make of the aperture
  cleared_stores : (ps : List ℕ) (k : Core) (list : List (Option ℕ)) → list ≡ cleared st.aper ps → ((p : ℕ) → frame_at (cleared st.aper ps) p ≡ aperture k p) → AreStores script.sizes (aperture k) bytes (record st { aper = list })
  cleared_stores ps k list is maps =
      remapped script.sizes (aperture s.core) (aperture k) bytes st list t (ap length is ∙ length-cleared ps st.aper) (λ p. ap (λ l. frame_at l p) is ∙ maps p)

  mapped_stores : (ps : List ℕ) (table : List Loc) (k : Core) (list : List (Option ℕ)) → list ≡ mapped_to st.aper ps table → ((p : ℕ) → frame_at (mapped_to st.aper ps table) p ≡ aperture k p)
      → AreStores script.sizes (aperture k) bytes (record st { aper = list })
  mapped_stores ps table k list is maps =
      remapped script.sizes (aperture s.core) (aperture k) bytes st list t (ap length is ∙ length-mapped_to ps table st.aper) (λ p. ap (λ l. frame_at l p) is ∙ maps p)

  module _ (b : BufId) (live : live_in s.core.buffers b ≡ Some (buffer s b)) where
    set_now : (f : Buffer → Buffer) → changed f s.core.buffers b ≡ slice_set s.core.buffers b.0 (Some (f (buffer s b)))
    set_now f = ap (λ (o : Option Buffer). slice_set s.core.buffers b.0 (option_map f o)) live

    -- a buffer comes from SYSTEM: the pages of its target are mapped to its frames
    pub bind_stores : (list : List (Option ℕ)) → AreHeldOnce script (applied script s who (kind.Bind b)).core → ((buffer s b).mem ≡ Tt → ⊥) → IsFull (buffer s b).table
        → list ≡ mapped_to st.aper (pages_of (target_spans Tt (buffer s b))) (buffer s b).table → HasStoresAfter script s bytes who (kind.Bind b) (record st { aper = list })
    bind_stores list after was full is =
        let d = (applied script s who (kind.Bind b)).core in
        stores_within script.sizes (aperture d) bytes (record st { aper = list })
        (mapped_stores (pages_of (target_spans Tt (buffer s b))) (buffer s b).table d list is
        (come_mapped script s.core d before after b (buffer s b) (Some (bound (buffer s b))) live (set_now bound) (bound (buffer s b)) refl refl was full
        (same_ghosts s.core d refl) (same_ghosts d s.core refl) st.aper t.aper_size t.mapped))

    -- a buffer goes to SYSTEM: its pages of TT are cleared
    pub unbind_stores : (list : List (Option ℕ)) → AreHeldOnce script (applied script s who (kind.Unbind b)).core
        → list ≡ cleared st.aper (pages_of (spans_in Tt (buffer s b))) → HasStoresAfter script s bytes who (kind.Unbind b) (record st { aper = list })
    unbind_stores list after is =
        let d = (applied script s who (kind.Unbind b)).core in
        stores_within script.sizes (aperture d) bytes (record st { aper = list })
        (cleared_stores (pages_of (spans_in Tt (buffer s b))) d list is
        (gone_cleared script s.core d before after b (buffer s b) (Some (unbound (buffer s b))) live (set_now unbound) refl
        (λ y e m. system_tt (sym (some_mem (unbound (buffer s b)) y System e refl) ∙ m)) st.aper t.aper_size t.mapped))

    dead_out : (y : Buffer) → ◌≡◌ {A = Option Buffer} None (Some y) → y.mem ≡ Tt → ⊥
    dead_out y e m = cc

    -- an idle buffer is freed: its pages of TT are cleared
    pub free_stores : (list : List (Option ℕ)) → AreHeldOnce script (applied script s who (kind.Free b 0)).core
        → list ≡ cleared st.aper (pages_of (spans_in Tt (buffer s b))) → HasStoresAfter script s bytes who (kind.Free b 0) (record st { aper = list })
    free_stores list after is =
        let d = (applied script s who (kind.Free b 0)).core in
        stores_within script.sizes (aperture d) bytes (record st { aper = list })
        (cleared_stores (pages_of (spans_in Tt (buffer s b))) d list is
        (gone_cleared script s.core d before after b (buffer s b) None live refl refl dead_out st.aper t.aper_size t.mapped))

    module _ (full : (buffer s b).mem ≡ Tt → IsFull (buffer s b).table) where
      -- a buffer is freed and leaves a ghost, which keeps its pages mapped
      pub free_left_stores : (g : ℕ) → (g == 0) ≡ false → AreHeldOnce script (applied script s who (kind.Free b g)).core → HasStoresAfter script s bytes who (kind.Free b g) st
      free_left_stores g some after =
          let d = (applied script s who (kind.Free b g)).core in
          let ghost = ghost_of_freed s.core (buffer s b) g in
          let gs : d.ghosts ≡ s.core.ghosts ++ ghost ∷ [] = ap (λ q. if q then s.core.ghosts else s.core.ghosts ++ ghost ∷ []) some in
          stores_within script.sizes (aperture d) bytes st
          (same_aperture script.sizes (aperture s.core) (aperture d) bytes st t
          (left_same script s.core d before after b (buffer s b) None live refl ghost gs dead_out refl (λ e. refl) full))

      -- a buffer moves out of TT, or from VRAM to VRAM, and leaves a ghost, which keeps its pages mapped
      pub move_out_stores : (mem : Mem) (n g : ℕ) → (mem ≡ Tt → ⊥) → AreHeldOnce script (applied script s who (kind.Move b mem n (left.Ghost g))).core → HasStoresAfter script s bytes who (kind.Move b mem n (left.Ghost g)) st
      move_out_stores mem n g out after =
          let d = (applied script s who (kind.Move b mem n (left.Ghost g))).core in
          let job : JobId = record { ctx = 0; num = n } in
          let y = moved mem job (buffer s b) in
          stores_within script.sizes (aperture d) bytes st
          (same_aperture script.sizes (aperture s.core) (aperture d) bytes st t
          (left_same script s.core d before after b (buffer s b) (Some y) live (set_now (moved mem job)) (ghost_of_moved (buffer s b) job g) refl
          (λ z e m. out (sym (some_mem y z mem e refl) ∙ m)) refl (λ e. ap (λ m. frames_left m (buffer s b)) e) full))

    -- a move into TT, by its new core
    module _ (n : ℕ) (d : Core) (after : AreHeldOnce script d) (vram : (buffer s b).mem ≡ Vram) (full : IsFull (buffer s b).table) (bs : d.buffers ≡ changed (moved Tt (record { ctx = 0; num = n })) s.core.buffers b)
        (ghosts_to : (p f : ℕ) → GhostMaps s.core p f → GhostMaps d p f) (ghosts_from : (p f : ℕ) → GhostMaps d p f → GhostMaps s.core p f) where
      table_is : table_left (buffer s b).mem (buffer s b).table ≡ (buffer s b).table
      table_is = ap (λ m. table_left m (buffer s b).table) vram

      come_in : (p : ℕ) → frame_at (mapped_to st.aper (pages_of (target_spans Tt (buffer s b))) (buffer s b).table) p ≡ aperture d p
      come_in p =
          let y = moved Tt (record { ctx = 0; num = n }) (buffer s b) in
          ap (λ table. frame_at (mapped_to st.aper (pages_of (target_spans Tt (buffer s b))) table) p) (sym table_is)
          ∙ come_mapped script s.core d before after b (buffer s b) (Some y) live (bs ∙ set_now (moved Tt (record { ctx = 0; num = n }))) y refl refl (λ e. vram_tt (sym vram ∙ e)) (subst IsFull (sym table_is) full)
          ghosts_to ghosts_from st.aper t.aper_size t.mapped p

    -- a ghost of a buffer in VRAM maps nothing
    ghost_in_vram : (d : Core) (g : Ghost) → d.ghosts ≡ s.core.ghosts ++ g ∷ [] → g.tt ≡ spans_in Tt (buffer s b) → (buffer s b).mem ≡ Vram → (p f : ℕ) → GhostMaps d p f → GhostMaps s.core p f
    ghost_in_vram d g gs tt_is vram p f m =
        ⊎_elim (λ k. k)
        (λ e.
        absurd (vram_tt (sym vram ∙ is_in_tt (buffer s b) m.at p (ap (λ ss. slice_get (pages_of ss) m.at) (sym tt_is ∙ ap (λ (h : Ghost). h.tt) (sym e)) ∙ m.here))))
        (either_ghost s.core d g gs p f m)

    ghosts_then : (n : ℕ) (l : Left) → (buffer s b).mem ≡ Vram → (p f : ℕ) → GhostMaps s.core p f → GhostMaps (applied script s who (kind.Move b Tt n l)).core p f
    ghosts_then n left.Now vram p f m = same_ghosts s.core (applied script s who (kind.Move b Tt n left.Now)).core refl p f m
    ghosts_then n (left.Ghost g) vram p f m = more_ghosts s.core (applied script s who (kind.Move b Tt n (left.Ghost g))).core (ghost_of_moved (buffer s b) (record { ctx = 0; num = n }) g) refl p f m

    ghosts_before : (n : ℕ) (l : Left) → (buffer s b).mem ≡ Vram → (p f : ℕ) → GhostMaps (applied script s who (kind.Move b Tt n l)).core p f → GhostMaps s.core p f
    ghosts_before n left.Now vram p f m = same_ghosts (applied script s who (kind.Move b Tt n left.Now)).core s.core refl p f m
    ghosts_before n (left.Ghost g) vram p f m =
        ghost_in_vram (applied script s who (kind.Move b Tt n (left.Ghost g))).core (ghost_of_moved (buffer s b) (record { ctx = 0; num = n }) g) refl refl vram p f m

    -- a buffer moves from VRAM into TT, with a ghost or without: the pages of its target are mapped to its frames
    pub move_in_stores : (n : ℕ) (l : Left) (list : List (Option ℕ)) → AreHeldOnce script (applied script s who (kind.Move b Tt n l)).core → (buffer s b).mem ≡ Vram → IsFull (buffer s b).table
        → list ≡ mapped_to st.aper (pages_of (target_spans Tt (buffer s b))) (buffer s b).table → HasStoresAfter script s bytes who (kind.Move b Tt n l) (record st { aper = list })
    move_in_stores n l list after vram full is =
        let d = (applied script s who (kind.Move b Tt n l)).core in
        stores_within script.sizes (aperture d) bytes (record st { aper = list })
        (mapped_stores (pages_of (target_spans Tt (buffer s b))) (buffer s b).table d list is
        (come_in n d after vram full refl (ghosts_then n l vram) (ghosts_before n l vram)))

  -- a ghost is reaped: its pages of TT are cleared
  pub reap_stores : (n i : ℕ) (g : Ghost) (list : List (Option ℕ)) → AreHeldOnce script (applied script s who (kind.Reap n)).core → slice_get s.core.ghosts i ≡ Some g → g.num ≡ n
      → ((j : ℕ) (h : Ghost) → slice_get s.core.ghosts j ≡ Some h → h.num ≡ n → j ≡ i) → list ≡ cleared st.aper (pages_of g.tt) → HasStoresAfter script s bytes who (kind.Reap n) (record st { aper = list })
  reap_stores n i g list after at num only is =
      let d = (applied script s who (kind.Reap n)).core in
      stores_within script.sizes (aperture d) bytes (record st { aper = list })
      (cleared_stores (pages_of g.tt) d list is (reaped_cleared script s.core d before after n i g at num only refl refl st.aper t.aper_size t.mapped))
