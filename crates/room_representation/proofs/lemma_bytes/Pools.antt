-- The pool after each kind of entry that gives a frame to a table, or takes one out of it.
use Rattle.std.proofs.Common.{◌≡◌, ℕ, zero, suc, ◌+◌, Bool, true, false, List, [], ◌∷◌, ◌++◌, Option, Some, None, refl, sym, subst, ◌∙◌, ap, arith}
use Rattle.std.proofs.lemmas.Bool.{eq-eqb, ne_eqb}
use Rattle.std.specs.Prelude.{◌==◌, nat_eq, not, filter, filter_map, slice_get, slice_set, if◌then◌else◌}
use Rattle.ttm_base.specs.declared.BufId.{BufId}
use Rattle.ttm_base.specs.declared.JobId.{JobId}
use Rattle.ttm_base.specs.declared.Loc.{Loc}
use Rattle.ttm_base.specs.declared.Loc.TheVariants as loc
use Rattle.ttm_base.specs.declared.Mem.{Mem}
use Rattle.ttm_base.specs.declared.Mem.TheVariants.{System, Tt, Vram}
use Rattle.journal_model.specs.declared.entry.Left.TheVariants as left
use Rattle.journal_model.specs.declared.script.Script.{Script}
use Rattle.journal_model.specs.declared.state.Buffer.{Buffer}
use Rattle.journal_model.specs.declared.state.Ghost.{Ghost}
use Rattle.journal_model.specs.declared.state.State.{State}
use Rattle.journal_model.specs.rules.State.{buffer, changed, with_buffers}
use Rattle.journal_model.specs.rules.Holds.{held_frames}
use Rattle.journal_model.specs.rules.Places.{frame_of, frames_of}
use Rattle.journal_model.specs.rules.ApplyPages.{after_populate, after_swap_in, after_swap_out, after_depopulate, with_loc, without_frames}
use Rattle.journal_model.specs.rules.ApplyMoves.{frames_left, table_left, ghost_of_moved, moved, after_move_job}
use Rattle.journal_model.specs.rules.ApplyCommands.{after_free, ghost_of_freed}
use Rattle.journal_model.specs.rules.ApplyJobs.{after_reap}
use Rattle.laws.proofs.law_owners.Counts.{one, times, summed, summed-append}
use Rattle.laws.proofs.law_owners.Weights.{frames, of_ghost, times-held}
use Rattle.laws.proofs.law_owners.Keeps.{in_loc}
use Rattle.laws.specs.law_owners.OneOwner.{AreOwned}
use Rattle.laws.specs.lemma_bytes_told.Told.{IsThere}
use Rattle.room_representation.specs.Pages.{ArePooled}
use Rattle.room_representation.specs.lemma_bytes.GivenBack.{given, given_back, taken}
use Rattle.room_representation.proofs.lemma_bytes.Marks.{marks_same, marks_more, marks_less, marks_without, owned_once}
use Rattle.room_representation.proofs.lemma_bytes.Held.{frames_changed, frames_gone, table_set, emptied_frames, zeros_hold_none}

-- ---- what is held now, and was held before

module _ (size : ℕ) (old new : List ℕ) (pool : List Bool) (representation : ArePooled size old pool) where
  -- the same frames are held
  pub pooled_same : ((n : ℕ) → times n new ≡ times n old) → ArePooled size new pool
  pooled_same h = record { held_are = representation.held_are ∙ sym (marks_same old new size h) }

  -- one frame more is held
  pub pooled_more : (f : ℕ) → ((n : ℕ) → times n new ≡ times n old + one (nat_eq n f)) → ArePooled size new (taken pool f)
  pooled_more f h = record { held_are = ap (λ p. taken p f) representation.held_are ∙ sym (marks_more old new size f h) }

  -- one frame less is held
  pub pooled_less : (f : ℕ) → AreOwned size old → ((n : ℕ) → times n old ≡ times n new + one (nat_eq n f)) → ArePooled size new (given pool f)
  pooled_less f owned h = record { held_are = ap (λ p. given p f) representation.held_are ∙ sym (marks_less old new size f h (owned_once size old owned f)) }

  -- these frames are held no more
  pub pooled_without : (fs : List ℕ) → AreOwned size old → ((n : ℕ) → times n old ≡ times n new + times n fs) → ArePooled size new (given_back pool fs)
  pooled_without fs owned h = record { held_are = ap (λ p. given_back p fs) representation.held_are ∙ sym (marks_without old new size fs h (owned_once size old owned)) }

-- ---- one page of a table

module _ (script : Script) (s : State) (b : BufId) (live : IsThere s b) (pool : List Bool) (representation : ArePooled script.sizes.frames (held_frames s.core) pool) where
  abbrev x : Buffer
  x = buffer s b

  page_changed : (page n : ℕ) (old l : Loc) → slice_get x.table page ≡ Some old →
      times n (held_frames (with_buffers (changed (with_loc page l) s.core.buffers b) s.core)) + in_loc frame_of n old ≡ times n (held_frames s.core) + in_loc frame_of n l
  page_changed page n old l at =
      let all = frames_changed s.core b x live (with_loc page l) n in
      let one = table_set frame_of n x.table page old l at in
      omega (arith, all, one)

  -- a page with nothing in it gets a frame
  pub populate_pooled : (page f : ℕ) → slice_get x.table page ≡ Some loc.Zero → ArePooled script.sizes.frames (held_frames (after_populate s b page f).core) (taken pool f)
  populate_pooled page f at =
      pooled_more script.sizes.frames (held_frames s.core) (held_frames (after_populate s b page f).core) pool representation f
      (λ n. let all = page_changed page n loc.Zero (loc.Frame f) at in omega (arith, all))

  -- a page gets a frame in the place of its slot
  pub swap_in_pooled : (page k f : ℕ) → slice_get x.table page ≡ Some (loc.Slot k) → ArePooled script.sizes.frames (held_frames (after_swap_in s b page f).core) (taken pool f)
  swap_in_pooled page k f at =
      pooled_more script.sizes.frames (held_frames s.core) (held_frames (after_swap_in s b page f).core) pool representation f
      (λ n. let all = page_changed page n (loc.Slot k) (loc.Frame f) at in omega (arith, all))

  -- a page gets a slot in the place of its frame
  pub swap_out_pooled : (page f k : ℕ) → AreOwned script.sizes.frames (held_frames s.core) → slice_get x.table page ≡ Some (loc.Frame f) →
      ArePooled script.sizes.frames (held_frames (after_swap_out s b page k).core) (given pool f)
  swap_out_pooled page f k owned at =
      pooled_less script.sizes.frames (held_frames s.core) (held_frames (after_swap_out s b page k).core) pool representation f owned
      (λ n. let all = page_changed page n (loc.Frame f) (loc.Slot k) at in omega (arith, all))

  -- ---- all pages of a table

  -- all frames of a buffer are given back
  pub depopulate_pooled : AreOwned script.sizes.frames (held_frames s.core) → ArePooled script.sizes.frames (held_frames (after_depopulate s b).core) (given_back pool (frames_of x))
  depopulate_pooled owned =
      pooled_without script.sizes.frames (held_frames s.core) (held_frames (after_depopulate s b).core) pool representation (frames_of x) owned
      (λ n.
      let all = frames_changed s.core b x live without_frames n in
      let none = ap (times n) (emptied_frames x.table) in
      omega (arith, all, none))

  -- a freed buffer without a ghost gives its frames back
  pub free_pooled : (t : ℕ) → AreOwned script.sizes.frames (held_frames s.core) → ArePooled script.sizes.frames (held_frames (after_free s t b 0).core) (given_back pool (frames_of x))
  free_pooled t owned =
      pooled_without script.sizes.frames (held_frames s.core) (held_frames (after_free s t b 0).core) pool representation (frames_of x) owned
      (λ n. let all = frames_gone s.core b x live n in omega (arith, all))

  ghost_more : (buffers : List (Option Buffer)) (g : Ghost) (n : ℕ) →
      times n (held_frames (record s.core { buffers = buffers; ghosts = s.core.ghosts ++ g ∷ [] })) ≡ times n (held_frames (with_buffers buffers s.core)) + times n g.frames
  ghost_more buffers g n =
      let parts = summed-append (of_ghost frames n) s.core.ghosts (g ∷ []) in
      let new = times-held frames n (record s.core { buffers = buffers; ghosts = s.core.ghosts ++ g ∷ [] }) in
      let old = times-held frames n (with_buffers buffers s.core) in
      omega (arith, parts, new, old)

  -- a freed buffer's ghost keeps them
  pub free_to_ghost_pooled : (t g : ℕ) → (g == 0) ≡ false → ArePooled script.sizes.frames (held_frames (after_free s t b g).core) pool
  free_to_ghost_pooled t g some =
      subst (λ q. ArePooled script.sizes.frames (held_frames (record s.core { buffers = slice_set s.core.buffers b.0 None; ghosts = if q then s.core.ghosts else s.core.ghosts ++ ghost_of_freed s.core x g ∷ [] })) pool) (sym some)
      (pooled_same script.sizes.frames (held_frames s.core) (held_frames (record s.core { buffers = slice_set s.core.buffers b.0 None; ghosts = s.core.ghosts ++ ghost_of_freed s.core x g ∷ [] })) pool representation
      (λ n.
      let all = frames_gone s.core b x live n in
      let more = ghost_more (slice_set s.core.buffers b.0 None) (ghost_of_freed s.core x g) n in
      omega (arith, all, more)))

  -- ---- moves

  -- what a moved buffer leaves, and what stays in its table
  left_or_kept : (mem : Mem) (n : ℕ) → times n (filter_map frame_of (table_left mem x.table)) + times n (frames_left mem x) ≡ times n (frames_of x)
  left_or_kept Tt n = let none = ap (times n) (zeros_hold_none frame_of refl x.table) in omega (arith, none)
  left_or_kept Vram n = omega arith
  left_or_kept System n = omega arith

  -- a move leaves frames to its ghost, out of TT
  pub move_to_ghost_pooled : (mem : Mem) (job : JobId) (g : ℕ) → ArePooled script.sizes.frames (held_frames (after_move_job script s b mem job (left.Ghost g)).core) pool
  move_to_ghost_pooled mem job g =
      pooled_same script.sizes.frames (held_frames s.core) (held_frames (after_move_job script s b mem job (left.Ghost g)).core) pool representation
      (λ n.
      let all = frames_changed s.core b x live (moved mem job) n in
      let more = ghost_more (changed (moved mem job) s.core.buffers b) (ghost_of_moved x job g) n in
      let parts = left_or_kept x.mem n in
      omega (arith, all, more, parts))

  -- a move whose pages are free at once gives them back, out of TT
  pub move_now_pooled : (mem : Mem) (job : JobId) → AreOwned script.sizes.frames (held_frames s.core) →
      ArePooled script.sizes.frames (held_frames (after_move_job script s b mem job left.Now).core) (given_back pool (frames_left x.mem x))
  move_now_pooled mem job owned =
      pooled_without script.sizes.frames (held_frames s.core) (held_frames (after_move_job script s b mem job left.Now).core) pool representation (frames_left x.mem x) owned
      (λ n.
      let all = frames_changed s.core b x live (moved mem job) n in
      let parts = left_or_kept x.mem n in
      omega (arith, all, parts))

-- ---- ghosts

one_gone : (m : Ghost → ℕ) (num : ℕ) (ghosts : List Ghost) (i : ℕ) (g : Ghost) → slice_get ghosts i ≡ Some g → g.num ≡ num →
    ((k : ℕ) (h : Ghost) → slice_get ghosts k ≡ Some h → h.num ≡ num → k ≡ i) → summed m ghosts ≡ summed m (filter (λ h. not (h.num == num)) ghosts) + m g
one_gone m num [] i g at is only = cc
one_gone m num (h ∷ ghosts) zero g at is only =
    let same : h ≡ g = cc in
    let here : (h.num == num) ≡ true = eq-eqb h.num num (ap (λ (y : Ghost). y.num) same ∙ is) in
    let rest : filter (λ h. not (h.num == num)) ghosts ≡ ghosts = all_stay ghosts (λ k y e f. (let no = only (suc k) y e f in absurd (omega (arith, no)))) in
    let kept : filter (λ h. not (h.num == num)) (h ∷ ghosts) ≡ ghosts = ap (λ q. if not q then h ∷ filter (λ h. not (h.num == num)) ghosts else filter (λ h. not (h.num == num)) ghosts) here ∙ rest in
    let sums = ap (summed m) kept in
    let it = ap m same in
    omega (arith, sums, it)
  where
    all_stay : (ghosts : List Ghost) → ((k : ℕ) (h : Ghost) → slice_get ghosts k ≡ Some h → h.num ≡ num → ⊥) → filter (λ h. not (h.num == num)) ghosts ≡ ghosts
    all_stay [] none = refl
    all_stay (h ∷ ghosts) none =
        ap (λ q. if not q then h ∷ filter (λ h. not (h.num == num)) ghosts else filter (λ h. not (h.num == num)) ghosts) (ne_eqb h.num num (λ e. none 0 h refl e))
        ∙ ap (λ gs. h ∷ gs) (all_stay ghosts (λ k y e f. none (suc k) y e f))
one_gone m num (h ∷ ghosts) (suc i) g at is only =
    let other : (h.num == num) ≡ false = ne_eqb h.num num (λ e. (let no = only 0 h refl e in absurd (omega (arith, no)))) in
    let rest = one_gone m num ghosts i g at is (λ k y e f. (let r = only (suc k) y e f in omega (arith, r))) in
    let kept = ap (λ q. summed m (if not q then h ∷ filter (λ h. not (h.num == num)) ghosts else filter (λ h. not (h.num == num)) ghosts)) other in
    omega (arith, rest, kept)

-- a ghost that is reaped gives its frames back
pub reap_pooled : (script : Script) (s : State) (pool : List Bool) → ArePooled script.sizes.frames (held_frames s.core) pool → AreOwned script.sizes.frames (held_frames s.core) → (num i : ℕ) (g : Ghost) →
    slice_get s.core.ghosts i ≡ Some g → g.num ≡ num → ((k : ℕ) (h : Ghost) → slice_get s.core.ghosts k ≡ Some h → h.num ≡ num → k ≡ i) →
    ArePooled script.sizes.frames (held_frames (after_reap s num).core) (given_back pool g.frames)
reap_pooled script s pool representation owned num i g at is only =
    pooled_without script.sizes.frames (held_frames s.core) (held_frames (after_reap s num).core) pool representation g.frames owned
    (λ n.
    let all = one_gone (of_ghost frames n) num s.core.ghosts i g at is only in
    let new = times-held frames n (after_reap s num).core in
    let old = times-held frames n s.core in
    omega (arith, all, new, old))
