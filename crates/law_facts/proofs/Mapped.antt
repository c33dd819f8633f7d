-- A mapped page of TT stays mapped to its frame, after each entry that doesn't take it.
use Rattle.std.proofs.Common.{◌≡◌, ℕ, zero, suc, Bool, true, false, List, [], ◌∷◌, ◌++◌, length, Option, Some, None, refl, sym, subst, ◌∙◌, ap, inl, inr, ⊎_elim}
use Rattle.std.specs.Prelude.{slice_get, slice_set, option_map, option_and_then, unwrap_or, filter, fold, not, nat_eq, ◌==◌, if◌then◌else◌}
use Rattle.std.proofs.lemmas.Bool.{or_cases}
use Rattle.ttm_base.specs.declared.Mem.{Mem}
use Rattle.ttm_base.specs.declared.Mem.TheVariants.{System, Tt, Vram}
use Rattle.ttm_base.specs.declared.BufId.{BufId}
use Rattle.ttm_base.specs.declared.JobId.{JobId}
use Rattle.ttm_base.specs.declared.Op.{Op}
use Rattle.ttm_base.specs.declared.Loc.TheVariants as loc
use Rattle.ttm_base.specs.declared.Actor.TheVariants as actor
use Rattle.ttm_base.specs.Reach.{same_mem}
use Rattle.journal_model.specs.declared.script.Script.{Script}
use Rattle.journal_model.specs.declared.entry.Kind.{Kind}
use Rattle.journal_model.specs.declared.entry.Kind.TheVariants as kind
use Rattle.journal_model.specs.declared.state.State.{State}
use Rattle.journal_model.specs.declared.state.Core.{Core}
use Rattle.journal_model.specs.declared.state.Buffer.{Buffer}
use Rattle.journal_model.specs.declared.state.Ghost.{Ghost}
use Rattle.journal_model.specs.rules.State.{live_in, buffer, buffer_in, changed, new_buffer}
use Rattle.journal_model.specs.rules.Commands.{command_at_work}
use Rattle.journal_model.specs.rules.Places.{pages_of, frames_of}
use Rattle.journal_model.specs.rules.Holds.{spans_in, has_number}
use Rattle.journal_model.specs.rules.Waits.{use_of, jobs_before_target}
use Rattle.journal_model.specs.statements.Spares.{tt_of_ghosts, pages_taken}
use Rattle.journal_model.specs.rules.PageSteps.{page_to_fill, first_frame_page, next_job, next_ghost}
use Rattle.journal_model.specs.rules.Apply.{applied}
use Rattle.journal_model.specs.rules.ApplyCommands.{named_in, ghost_of_freed}
use Rattle.journal_model.specs.rules.ApplyPages.{with_fence, with_kernel_fences, with_spans, with_loc, without_frames, bound}
use Rattle.journal_model.specs.rules.ApplyMoves.{moved, frames_left, ghost_of_moved}
use Rattle.journal_model.specs.rules.ApplyVictims.{leaves_tt}
use Rattle.journal_model.specs.rules.ApplyJobs.{ops_of, with_use}
use Rattle.laws.specs.law_holders.Maps.{BufferMaps, GhostMaps, Maps}
use Rattle.laws.specs.lemma_bytes_told.Told.{Told, still, makes, frees, leaves, takes, untakes, populates, swaps_in, depopulates, binds, unbinds, moves_up, moves_across, moves_down, evicts, catches, swaps_out, arms, reads, writes, results}
use Rattle.laws.proofs.law_state.Lists.{set_at}
use Rattle.laws.proofs.lemma_bytes_model.Actions.{or_first, or_second}
use Rattle.laws.proofs.lemma_bytes_view.MoreJobs.{get_last, get_front}
use Rattle.laws.proofs.lemma_bytes_view.Tables.{has_at, AllFrames, frame_at}
use Rattle.laws.proofs.lemma_bytes_told.Shapes.{HaveShapes, still_core}
use Rattle.laws.proofs.lemma_bytes_told.Numbers.{not_zero}
use Rattle.laws.proofs.law_spares.Keeps.{get_filtered}

-- ---- numbers in lists

pub has_left : (xs ys : List ℕ) (n : ℕ) → has_number xs n ≡ true → has_number (xs ++ ys) n ≡ true
has_left [] ys n h = cc
has_left (x ∷ xs) ys n h =
    ⊎_elim (λ e. or_first (nat_eq n x) (has_number (xs ++ ys) n) e) (λ e. or_second (nat_eq n x) (has_number (xs ++ ys) n) (has_left xs ys n e)) (or_cases (nat_eq n x) (has_number xs n) h)

has_right : (xs ys : List ℕ) (n : ℕ) → has_number ys n ≡ true → has_number (xs ++ ys) n ≡ true
has_right [] ys n h = h
has_right (x ∷ xs) ys n h = or_second (nat_eq n x) (has_number (xs ++ ys) n) (has_right xs ys n h)

-- a page of a ghost of this number
of_ghosts : (g : ℕ) (ghosts : List Ghost) (place : ℕ) (h : Ghost) (page : ℕ) → slice_get ghosts place ≡ Some h → (h.num == g) ≡ true → has_number (pages_of h.tt) page ≡ true → has_number (tt_of_ghosts g ghosts) page ≡ true
of_ghosts g [] place h page e n p = cc
of_ghosts g (x ∷ ghosts) zero h page e n p =
    let same : x ≡ h = cc in
    has_left (if x.num == g then pages_of x.tt else []) (tt_of_ghosts g ghosts) page
    (subst (λ (y : Ghost). has_number (if y.num == g then pages_of y.tt else []) page ≡ true) (sym same)
    (subst (λ q. has_number (if q then pages_of h.tt else []) page ≡ true) (sym n) p))
of_ghosts g (x ∷ ghosts) (suc place) h page e n p = has_right (if x.num == g then pages_of x.tt else []) (tt_of_ghosts g ghosts) page (of_ghosts g ghosts place h page e n p)

-- ---- buffers and ghosts of another core

module _ (p q : ℕ) where
  -- the same buffers and ghosts
  pub alike : (c d : Core) → d.buffers ≡ c.buffers → d.ghosts ≡ c.ghosts → Maps c p q → Maps d p q
  alike c d bs gs (inl w) = inl (record { b = w.b; buffer = w.buffer; live = ap (λ xs. live_in xs w.b) bs ∙ w.live; mem = w.mem; at = w.at; here = w.here; there = w.there })
  alike c d bs gs (inr w) = inr (record { place = w.place; ghost = w.ghost; is = ap (λ xs. slice_get xs w.place) gs ∙ w.is; at = w.at; here = w.here; there = w.there })

  -- ghosts that are there still
  more_ghosts : (c d : Core) → ((i : ℕ) (g : Ghost) → slice_get c.ghosts i ≡ Some g → slice_get d.ghosts i ≡ Some g) → GhostMaps c p q → Maps d p q
  more_ghosts c d keep w = inr (record { place = w.place; ghost = w.ghost; is = keep w.place w.ghost w.is; at = w.at; here = w.here; there = w.there })

  -- a buffer was set: another one stays
  another : (c d : Core) (b : BufId) (o : Option Buffer) → d.buffers ≡ slice_set c.buffers b.0 o → (w : BufferMaps c p q) →
      (b.0 ≡ w.b.0 → live_in d.buffers w.b ≡ o → Maps d p q) → Maps d p q
  another c d b o e w same =
      ⊎_elim
      (λ g. inl (record { b = w.b; buffer = w.buffer; live = ap (λ xs. live_in xs w.b) e ∙ ap (option_and_then (λ x. x)) g ∙ w.live; mem = w.mem; at = w.at; here = w.here; there = w.there }))
      (λ g. same g.0 (ap (λ xs. live_in xs w.b) e ∙ ap (option_and_then (λ x. x)) g.1))
      (set_at c.buffers b.0 w.b.0 o)

  -- the buffer that was set, as it was
  was_there : (c : Core) (b : BufId) (w : BufferMaps c p q) → b.0 ≡ w.b.0 → live_in c.buffers b ≡ Some w.buffer
  was_there c b w e = ap (λ i. option_and_then (λ x. x) (slice_get c.buffers i)) e ∙ w.live

  buffer_is : (c : Core) (b : BufId) (w : BufferMaps c p q) → b.0 ≡ w.b.0 → buffer_in c b ≡ w.buffer
  buffer_is c b w e = ap (λ o. unwrap_or o (new_buffer 0)) (was_there c b w e)

  -- a change that leaves memory type, spans and table alone
  pub kept_by : (f : Buffer → Buffer) → ((x : Buffer) → (f x).mem ≡ x.mem) → ((x : Buffer) → (f x).spans ≡ x.spans) → ((x : Buffer) → (f x).table ≡ x.table) →
      (c d : Core) (b : BufId) → d.buffers ≡ changed f c.buffers b → d.ghosts ≡ c.ghosts → Maps c p q → Maps d p q
  kept_by f m s t c d b bs gs (inr w) = more_ghosts c d (λ i g e. ap (λ xs. slice_get xs i) gs ∙ e) w
  kept_by f m s t c d b bs gs (inl w) =
      another c d b (option_map f (live_in c.buffers b)) bs w
      (λ e l.
      inl (record {
        b = w.b;
        buffer = f w.buffer;
        live = l ∙ ap (option_map f) (was_there c b w e);
        mem = m w.buffer ∙ w.mem;
        at = w.at;
        here = ap (λ ss. slice_get (pages_of ss) w.at) (s w.buffer) ∙ w.here;
        there = ap (λ ls. slice_get ls w.at) (t w.buffer) ∙ w.there;
      }))

  -- a change of a buffer out of TT
  out_of_tt : (f : Buffer → Buffer) (c d : Core) (b : BufId) → ((buffer_in c b).mem ≡ Tt → ⊥) → d.buffers ≡ changed f c.buffers b →
      ((i : ℕ) (g : Ghost) → slice_get c.ghosts i ≡ Some g → slice_get d.ghosts i ≡ Some g) → Maps c p q → Maps d p q
  out_of_tt f c d b out bs gs (inr w) = more_ghosts c d gs w
  out_of_tt f c d b out bs gs (inl w) =
      another c d b (option_map f (live_in c.buffers b)) bs w (λ e l. absurd (out (ap (λ (x : Buffer). x.mem) (buffer_is c b w e) ∙ w.mem)))

  -- a buffer in TT whose pages were taken
  its_page : (c : Core) (b : BufId) (w : BufferMaps c p q) → b.0 ≡ w.b.0 → has_number (pages_of (spans_in Tt (buffer_in c b))) p ≡ true
  its_page c b w e =
      subst (λ (x : Buffer). has_number (pages_of (spans_in Tt x)) p ≡ true) (sym (buffer_is c b w e))
      (by w.buffer.mem w.mem (has_at (pages_of w.buffer.spans) w.at p w.here))
    where
      by : (m : Mem) → m ≡ Tt → has_number (pages_of w.buffer.spans) p ≡ true → has_number (pages_of (if same_mem m Tt then w.buffer.spans else [])) p ≡ true
      by Tt r h = h
      by Vram r h = cc
      by System r h = cc

  -- a buffer whose pages a ghost has now
  to_ghost : (c d : Core) (b : BufId) (w : BufferMaps c p q) → b.0 ≡ w.b.0 → (full : AllFrames w.buffer.table) → (g : Ghost) → g.tt ≡ spans_in Tt (buffer_in c b) → (((buffer_in c b).mem ≡ Tt) → g.frames ≡ frames_of (buffer_in c b)) →
      d.ghosts ≡ c.ghosts ++ g ∷ [] → Maps d p q
  to_ghost c d b w e full g tt_is frames gs =
      let is = buffer_is c b w e in
      let m : (buffer_in c b).mem ≡ Tt = ap (λ (x : Buffer). x.mem) is ∙ w.mem in
      inr (record {
        place = length c.ghosts;
        ghost = g;
        is = ap (λ xs. slice_get xs (length c.ghosts)) gs ∙ get_last c.ghosts g;
        at = w.at;
        here = ap (λ ss. slice_get (pages_of ss) w.at) (tt_is ∙ in_tt (buffer_in c b).mem m ∙ ap (λ (x : Buffer). x.spans) is) ∙ w.here;
        there = ap (λ fs. slice_get fs w.at) (frames m ∙ ap frames_of is) ∙ frame_at w.buffer.table full w.at q w.there;
      })
    where
      in_tt : (l : Mem) → l ≡ Tt → (if same_mem l Tt then (buffer_in c b).spans else []) ≡ (buffer_in c b).spans
      in_tt Tt r = refl
      in_tt Vram r = cc
      in_tt System r = cc

  -- fences of a job
  uses : (job : JobId) (ops : List Op) (bs : List BufId) (c d : Core) → d.buffers ≡ fold (with_use job ops) c.buffers bs → d.ghosts ≡ c.ghosts → Maps c p q → Maps d p q
  uses job ops [] c d e gs m = alike c d e gs m
  uses job ops (b ∷ bs) c d e gs m =
      uses job ops bs (record c { buffers = with_use job ops c.buffers b }) d e gs
      (kept_by (with_fence job (use_of ops b)) (λ x. refl) (λ x. refl) (λ x. refl) c (record c { buffers = with_use job ops c.buffers b }) b refl refl m)

-- ---- changes of buffers

kernel_mem : (jobs : List JobId) (x : Buffer) → (with_kernel_fences jobs x).mem ≡ x.mem
kernel_mem [] x = refl
kernel_mem (j ∷ jobs) x = kernel_mem jobs _

kernel_spans : (jobs : List JobId) (x : Buffer) → (with_kernel_fences jobs x).spans ≡ x.spans
kernel_spans [] x = refl
kernel_spans (j ∷ jobs) x = kernel_spans jobs _

kernel_table : (jobs : List JobId) (x : Buffer) → (with_kernel_fences jobs x).table ≡ x.table
kernel_table [] x = refl
kernel_table (j ∷ jobs) x = kernel_table jobs _

caught_mem : (m : Mem) (x : Buffer) → (leaves_tt m x).mem ≡ x.mem
caught_mem Tt x = refl
caught_mem Vram x = refl
caught_mem System x = refl

caught_spans : (m : Mem) (x : Buffer) → (leaves_tt m x).spans ≡ x.spans
caught_spans Tt x = refl
caught_spans Vram x = refl
caught_spans System x = refl

caught_table : (m : Mem) (x : Buffer) → (leaves_tt m x).table ≡ x.table
caught_table Tt x = refl
caught_table Vram x = refl
caught_table System x = refl

not_tt : (m l : Mem) → m ≡ l → same_mem l Tt ≡ false → m ≡ Tt → ⊥
not_tt m Tt e f g = cc
not_tt m Vram e f g = let z : Vram ≡ Tt = sym e ∙ g in cc
not_tt m System e f g = let z : System ≡ Tt = sym e ∙ g in cc

-- ---- each kind

module _ (script : Script) (s : State) (t : ℕ) (shapes : HaveShapes s.core.buffers) (p q : ℕ) where
  -- the state after the entry
  abbrev behind : Kind → Core
  behind k = (applied script s (actor.Thread t) k).core

  -- a buffer in TT has all frames
  full : (w : BufferMaps s.core p q) → AllFrames w.buffer.table
  full w = (shapes w.b w.buffer w.live).full w.mem

  gone_to : (b : BufId) (l : Mem) (job : JobId) (g : ℕ) (k : Kind) → ((i : ℕ) (h : Ghost) → slice_get s.core.ghosts i ≡ Some h → slice_get (behind k).ghosts i ≡ Some h) →
      (behind k).buffers ≡ changed (moved l job) s.core.buffers b → (behind k).ghosts ≡ s.core.ghosts ++ ghost_of_moved (buffer s b) job g ∷ [] → (buffer s b).mem ≡ Tt → Maps s.core p q → Maps (behind k) p q
  gone_to b l job g k keep bs gs m (inr w) = more_ghosts p q s.core (behind k) keep w
  gone_to b l job g k keep bs gs m (inl w) =
      another p q s.core (behind k) b (option_map (moved l job) (live_in s.core.buffers b)) bs w
      (λ e n. to_ghost p q s.core (behind k) b w e (full w) (ghost_of_moved (buffer s b) job g) refl (λ r. in_tt (buffer s b).mem r) gs)
    where
      in_tt : (m : Mem) → m ≡ Tt → frames_left m (buffer s b) ≡ frames_of (buffer s b)
      in_tt Tt r = refl
      in_tt Vram r = cc
      in_tt System r = cc

  pub maps_keep : (k : Kind) → Told script s t k → (has_number (pages_taken s.core k) p ≡ true → ⊥) → Maps s.core p q → Maps (applied script s (actor.Thread t) k).core p q
  maps_keep k (still e) n m = subst (λ (c : Core). Maps c p q) (sym (still_core script s t k e)) m
  maps_keep k (makes {b} dead) n (inr w) = more_ghosts p q s.core (behind k) (λ i g e. e) w
  maps_keep k (makes {b} dead) n (inl w) =
      another p q s.core (behind k) b _ refl w (λ e l. absurd (no (sym (was_there p q s.core b w e) ∙ dead)))
    where
      no : ◌≡◌ {A = Option Buffer} (Some w.buffer) None → ⊥
      no z = cc
  maps_keep k (frees {b} there quiet) n (inr w) = more_ghosts p q s.core (behind k) (λ i g e. e) w
  maps_keep k (frees {b} there quiet) n (inl w) = another p q s.core (behind k) b None refl w (λ e l. absurd (n (its_page p q s.core b w e)))
  maps_keep k (leaves {b} there) n m = by m
    where
      ghosts_are : (behind (kind.Free b (next_ghost s))).ghosts ≡ s.core.ghosts ++ ghost_of_freed s.core (buffer s b) (next_ghost s) ∷ []
      ghosts_are = ap (λ z. if z then s.core.ghosts else s.core.ghosts ++ ghost_of_freed s.core (buffer s b) (next_ghost s) ∷ []) (not_zero s.last_ghost)

      by : Maps s.core p q → Maps (behind (kind.Free b (next_ghost s))) p q
      by (inr w) = more_ghosts p q s.core (behind (kind.Free b (next_ghost s))) (λ i g e. ap (λ xs. slice_get xs i) ghosts_are ∙ get_front s.core.ghosts (ghost_of_freed s.core (buffer s b) (next_ghost s) ∷ []) i g e) w
      by (inl w) =
          another p q s.core (behind (kind.Free b (next_ghost s))) b None refl w
          (λ e l. to_ghost p q s.core (behind (kind.Free b (next_ghost s))) b w e (full w) (ghost_of_freed s.core (buffer s b) (next_ghost s)) refl (λ r. refl) ghosts_are)
  maps_keep k (takes {b} {mem} {spans} place there e ch free) n m =
      kept_by p q (λ x. with_kernel_fences (jobs_before_target s.core mem) (with_spans mem (Some spans) x))
      (λ x. kernel_mem (jobs_before_target s.core mem) (with_spans mem (Some spans) x)) (λ x. kernel_spans (jobs_before_target s.core mem) (with_spans mem (Some spans) x)) (λ x. kernel_table (jobs_before_target s.core mem) (with_spans mem (Some spans) x))
      s.core (behind k) b refl refl m
  maps_keep k (untakes {b} {mem} there) n m = kept_by p q (with_spans mem None) (λ x. refl) (λ x. refl) (λ x. refl) s.core (behind k) b refl refl m
  maps_keep k (populates {b} {f} there free l some out) n m = out_of_tt p q (with_loc (page_to_fill (buffer s b)) (loc.Frame f)) s.core (behind k) b out refl (λ i g e. e) m
  maps_keep k (swaps_in {b} {k = slot} {f} there free l some out) n m = out_of_tt p q (with_loc (page_to_fill (buffer s b)) (loc.Frame f)) s.core (behind k) b out refl (λ i g e. e) m
  maps_keep k (depopulates {b} there e) n m = out_of_tt p q without_frames s.core (behind k) b (not_tt (buffer s b).mem Vram e refl) refl (λ i g r. r) m
  maps_keep k (binds {b} there e t' f) n m = out_of_tt p q bound s.core (behind k) b (not_tt (buffer s b).mem System e refl) refl (λ i g r. r) m
  maps_keep k (unbinds {b} there quiet e) n (inr w) = more_ghosts p q s.core (behind k) (λ i g r. r) w
  maps_keep k (unbinds {b} there quiet e) n (inl w) = another p q s.core (behind k) b _ refl w (λ r l. absurd (n (its_page p q s.core b w r)))
  maps_keep k (moves_up {b} there e t') n m =
      gone_to b Vram (record { ctx = 0; num = next_job s 0 }) (next_ghost s) k
      (λ i g r. get_front s.core.ghosts (ghost_of_moved (buffer s b) (record { ctx = 0; num = next_job s 0 }) (next_ghost s) ∷ []) i g r) refl refl e m
  maps_keep k (moves_across {b} there e t') n m =
      out_of_tt p q (moved Vram (record { ctx = 0; num = next_job s 0 })) s.core (behind k) b (not_tt (buffer s b).mem Vram e refl) refl
      (λ i g r. get_front s.core.ghosts (ghost_of_moved (buffer s b) (record { ctx = 0; num = next_job s 0 }) (next_ghost s) ∷ []) i g r) m
  maps_keep k (moves_down {b} there e t' f) n m =
      out_of_tt p q (moved Tt (record { ctx = 0; num = next_job s 0 })) s.core (behind k) b (not_tt (buffer s b).mem Vram e refl) refl
      (λ i g r. get_front s.core.ghosts (ghost_of_moved (buffer s b) (record { ctx = 0; num = next_job s 0 }) (next_ghost s) ∷ []) i g r) m
  maps_keep k (evicts {b} there e t' f) n m =
      out_of_tt p q (moved Tt (record { ctx = 0; num = next_job s 0 })) s.core (behind k) b (not_tt (buffer s b).mem Vram e refl) refl (λ i g r. r) m
  maps_keep k (catches {b} {w}) n m = kept_by p q (λ x. leaves_tt x.mem x) (λ x. caught_mem x.mem x) (λ x. caught_spans x.mem x) (λ x. caught_table x.mem x) s.core (behind k) b refl refl m
  maps_keep k (swaps_out {b} {k = slot} there e quiet f free) n m = out_of_tt p q (with_loc (first_frame_page (buffer s b)) (loc.Slot slot)) s.core (behind k) b (not_tt (buffer s b).mem System e refl) refl (λ i g r. r) m
  maps_keep k (arms {engine} ops at live ready) n m =
      uses p q (record { ctx = engine; num = next_job s engine }) (ops_of (command_at_work script s t)) (named_in (command_at_work script s t)) s.core (behind k) refl refl m
  maps_keep k (reads b off len at none) n m = alike p q s.core (behind k) refl refl m
  maps_keep k (writes b off bytes at there ready quiet) n m = alike p q s.core (behind k) refl refl m
  maps_keep k (results cmd at w nr r) n m = alike p q s.core (behind k) refl refl m

-- a ghost goes: those of other numbers stay
pub maps_reaped : (c : Core) (g p q : ℕ) → (has_number (tt_of_ghosts g c.ghosts) p ≡ true → ⊥) → Maps c p q → Maps (record c { ghosts = filter (λ h. not (h.num == g)) c.ghosts }) p q
maps_reaped c g p q n (inl w) = inl (record { b = w.b; buffer = w.buffer; live = w.live; mem = w.mem; at = w.at; here = w.here; there = w.there })
maps_reaped c g p q n (inr w) = by (w.ghost.num == g) refl
  where
    by : (z : Bool) → (w.ghost.num == g) ≡ z → Maps (record c { ghosts = filter (λ h. not (h.num == g)) c.ghosts }) p q
    by true e = absurd (n (of_ghosts g c.ghosts w.place w.ghost p w.is e (has_at (pages_of w.ghost.tt) w.at p w.here)))
    by false e =
        let r = get_filtered (λ h. not (h.num == g)) c.ghosts w.place w.ghost w.is (ap not e) in
        inr (record { place = r.0; ghost = w.ghost; is = r.1; at = w.at; here = w.here; there = w.there })
