-- No buffer on a list of SYSTEM or TT stands in VRAM.
use Rattle.std.proofs.Common.{◌≡◌, ℕ, ◌<◌, ◌≤◌, ◌+◌, ◌*◌, zero, suc, Bool, true, false, List, [], ◌∷◌, ◌++◌, length, Option, Some, None, refl, sym, ◌∙◌, ap, subst, arith, ◌⊎◌, inl, inr, ⊎_elim}
use Rattle.std.specs.Prelude.{slice_get, slice_set, map, filter, flat_map, fold, take, drop, insert, cond, not, unwrap_or, option_map, option_and_then, ◌==◌, ◌&&◌, ◌||◌, if◌then◌else◌}
use Rattle.std.proofs.lemmas.Bool.{or_cases, or_left, or_right}
use Rattle.std.proofs.lemmas.List.Folds.{list_any-append}
use Rattle.ttm_base.specs.Reach.{mem_number}
use Rattle.ttm_base.specs.declared.Mem.{Mem}
use Rattle.ttm_base.specs.declared.Mem.TheVariants.{System, Tt, Vram}
use Rattle.ttm_base.specs.declared.BufId.{BufId}
use Rattle.ttm_base.specs.declared.JobId.{JobId}
use Rattle.ttm_base.specs.declared.Op.{Op}
use Rattle.ttm_base.specs.declared.Loc.TheVariants as loc
use Rattle.ttm_base.specs.declared.Usage.TheVariants as usage
use Rattle.ttm_base.specs.declared.Actor.{Actor}
use Rattle.ttm_base.specs.declared.Actor.TheVariants as actor
use Rattle.journal_model.specs.declared.script.Script.{Script}
use Rattle.journal_model.specs.declared.state.State.{State}
use Rattle.journal_model.specs.declared.state.Buffer.{Buffer}
use Rattle.journal_model.specs.declared.state.Reservation.{Reservation}
use Rattle.journal_model.specs.declared.entry.Kind.{Kind}
use Rattle.journal_model.specs.declared.entry.Kind.TheVariants as kind
use Rattle.journal_model.specs.rules.State.{new_buffer, buffer, reservation, reservation_in, no_reservation, live_in, changed, same_buffer, has_buffer, without_buffer, course}
use Rattle.journal_model.specs.rules.Commands.{decl, command_at_work}
use Rattle.journal_model.specs.rules.Lists.{in_order, list_number, behind_last, placed_in, is_mate, taken_off, put_on, listed_as, touched, is_member, members_last}
use Rattle.journal_model.specs.rules.Dry.{has_frame, is_loose}
use Rattle.journal_model.specs.rules.Waits.{use_of, jobs_before_target}
use Rattle.journal_model.specs.rules.Legal.{first_state}
use Rattle.journal_model.specs.rules.Apply.{applied}
use Rattle.journal_model.specs.rules.ApplyCommands.{named_in, held_as_named}
use Rattle.journal_model.specs.rules.ApplyJobs.{ops_of, with_use}
use Rattle.journal_model.specs.rules.ApplyPages.{with_fence, with_spans, with_loc, without_frames, with_kernel_fences, bound, unbound}
use Rattle.journal_model.specs.rules.ApplyMoves.{moved}
use Rattle.journal_model.specs.rules.ApplyVictims.{leaves_tt}
use Rattle.laws.proofs.law_state.Lists.{set_at, get_mapped, live_changed}
use Rattle.laws.proofs.law_sound.Along.{OfWorker, packet, done, reap}
use Rattle.laws.proofs.law_sound.Bufs.{same_is, has_found, has_without, without_gone, clash}
use Rattle.laws.proofs.law_sound.Reservations.{live_set}
use Rattle.laws.proofs.lemma_end_searches.VictimsKeep.{SwapsBelow}

-- by the place of the list among the twelve
abbrev pub Low : (BufId → Mem) → List (List BufId) → Type 0
Low f lists = (i : ℕ) (l : List BufId) → i < 8 → slice_get lists i ≡ Some l → (b : BufId) → has_buffer l b ≡ true → f b ≡ Vram → ⊥

-- where a buffer of a list stands
abbrev pub mem_in : List (Option Buffer) → BufId → Mem
mem_in buffers b = (unwrap_or (live_in buffers b) (new_buffer 0)).mem

-- of a state
abbrev pub Listed : State → Type 0
Listed s = Low (mem_in s.core.buffers) s.lists

-- ---- lists

-- one that the list had, or the new one
placed_had : (mate : BufId → Bool) (b : BufId) (l : List BufId) (d : BufId) → has_buffer (placed_in mate b l) d ≡ true → (has_buffer l d ≡ true) ⊎ (d ≡ b)
placed_had mate b l d h = at (unwrap_or (behind_last mate l) (length l)) h
  where
    take_had : (n : ℕ) (xs : List BufId) → has_buffer (take n xs) d ≡ true → has_buffer xs d ≡ true
    take_had zero xs h = cc
    take_had (suc n) [] h = h
    take_had (suc n) (x ∷ xs) h = ⊎_elim (λ k. or_left (same_buffer d x) (has_buffer xs d) k) (λ k. or_right (same_buffer d x) (has_buffer xs d) (take_had n xs k)) (or_cases (same_buffer d x) (has_buffer (take n xs) d) h)

    drop_had : (n : ℕ) (xs : List BufId) → has_buffer (drop n xs) d ≡ true → has_buffer xs d ≡ true
    drop_had zero xs h = h
    drop_had (suc n) [] h = h
    drop_had (suc n) (x ∷ xs) h = or_right (same_buffer d x) (has_buffer xs d) (drop_had n xs h)

    at : (n : ℕ) → has_buffer (insert l n b) d ≡ true → (has_buffer l d ≡ true) ⊎ (d ≡ b)
    at n h =
        ⊎_elim
        (λ k. inl (take_had n l k))
        (λ k. ⊎_elim (λ q. inr (same_is d b q)) (λ q. inl (drop_had n l q)) (or_cases (same_buffer d b) (has_buffer (drop n l) d) k))
        (or_cases (has_buffer (take n l) d) (has_buffer (b ∷ drop n l) d) (sym (list_any-append (same_buffer d) (take n l) (b ∷ drop n l)) ∙ h))

filter_had : (p : BufId → Bool) (l : List BufId) (d : BufId) → has_buffer (filter p l) d ≡ true → has_buffer l d ≡ true
filter_had p [] d h = h
filter_had p (x ∷ l) d h = by (p x) h (λ k. filter_had p l d k)
  where
    by : (q : Bool) → has_buffer (cond q (x ∷ filter p l) (filter p l)) d ≡ true → (has_buffer (filter p l) d ≡ true → has_buffer l d ≡ true) → (same_buffer d x || has_buffer l d) ≡ true
    by true k rest = ⊎_elim (λ q. or_left (same_buffer d x) (has_buffer l d) q) (λ q. or_right (same_buffer d x) (has_buffer l d) (rest q)) (or_cases (same_buffer d x) (has_buffer (filter p l) d) k)
    by false k rest = or_right (same_buffer d x) (has_buffer l d) (rest k)

-- what was known but of one buffer
abbrev pub LowBut : BufId → (BufId → Mem) → List (List BufId) → Type 0
LowBut b f lists = (i : ℕ) (l : List BufId) → i < 8 → slice_get lists i ≡ Some l → (d : BufId) → (d ≡ b → ⊥) → has_buffer l d ≡ true → f d ≡ Vram → ⊥

module _ (b : BufId) (f : BufId → Mem) (lists : List (List BufId)) (low : LowBut b f lists) where
  off_low : Low f (taken_off lists b)
  off_low i l n h d k m =
      let r = get_mapped (λ x. without_buffer x b) lists l i h in
      let was : has_buffer (without_buffer r.0 b) d ≡ true = subst (λ z. has_buffer z d ≡ true) r.2 k in
      low i r.0 n r.1 d (λ q. clash (sym (subst (λ z. has_buffer (without_buffer r.0 b) z ≡ true) q was) ∙ without_gone r.0 b)) (has_without r.0 b d was) m

  on_low : (script : Script) (mem : Mem) → f b ≡ mem → Low f (put_on script (taken_off lists b) b mem)
  on_low script mem is i l n h d k m = by (set_at (taken_off lists b) (list_number mem (decl script b).prio) i (placed_in (is_mate script b) b (unwrap_or (slice_get (taken_off lists b) (list_number mem (decl script b).prio)) [])))
    where
      one : (x y : List BufId) → Some x ≡ Some y → x ≡ y
      one x y e = cc

      old : (o : Option (List BufId)) → slice_get (taken_off lists b) i ≡ o → has_buffer (unwrap_or o []) d ≡ true → ⊥
      old None e q = clash (sym q)
      old (Some x) e q = off_low i x n e d q m

      number : (y : Mem) → y ≡ Vram → list_number y (decl script b).prio ≡ i → ⊥
      number System e q = cc
      number Tt e q = cc
      number Vram e q = absurd (omega (arith, n, q))

      new : list_number mem (decl script b).prio ≡ i → slice_get (put_on script (taken_off lists b) b mem) i ≡ Some (placed_in (is_mate script b) b (unwrap_or (slice_get (taken_off lists b) (list_number mem (decl script b).prio)) [])) → ⊥
      new at e =
          let it = one _ l (sym e ∙ h) in
          ⊎_elim
          (λ q. old (slice_get (taken_off lists b) i) refl (subst (λ z. has_buffer (unwrap_or (slice_get (taken_off lists b) z) []) d ≡ true) at q))
          (λ q. number mem (sym is ∙ (ap f (sym q) ∙ m)) at)
          (placed_had (is_mate script b) b (unwrap_or (slice_get (taken_off lists b) (list_number mem (decl script b).prio)) []) d (subst (λ z. has_buffer z d ≡ true) (sym it) k))

      by : (slice_get (put_on script (taken_off lists b) b mem) i ≡ slice_get (taken_off lists b) i) ⊎ ((list_number mem (decl script b).prio ≡ i) × (slice_get (put_on script (taken_off lists b) b mem) i ≡ Some (placed_in (is_mate script b) b (unwrap_or (slice_get (taken_off lists b) (list_number mem (decl script b).prio)) [])))) → ⊥
      by (inl e) = off_low i l n (sym e ∙ h) d k m
      by (inr e) = new e.0 e.1

  pub listed_low : (script : Script) (g : Reservation) (o : Option Buffer) → ((x : Buffer) → o ≡ Some x → f b ≡ x.mem) → Low f (listed_as script lists b g o)
  listed_low script g None is = off_low
  listed_low script g (Some x) is = by (g.pins == 0)
    where
      by : (q : Bool) → Low f (if q then put_on script (taken_off lists b) b x.mem else taken_off lists b)
      by true = on_low script x.mem (is x refl)
      by false = off_low

-- a touched buffer stands on its own list
pub touched_low : (script : Script) (buffers : List (Option Buffer)) (reservations : List Reservation) (lists : List (List BufId)) (b : BufId) → LowBut b (mem_in buffers) lists → Low (mem_in buffers) (touched script buffers reservations lists b)
touched_low script buffers reservations lists b low = listed_low b (mem_in buffers) lists low script (reservation_in reservations b) (live_in buffers b) (λ x e. ap (λ o. (unwrap_or o (new_buffer 0)).mem) e)

all_touched : (script : Script) (buffers : List (Option Buffer)) (reservations : List Reservation) (bs : List BufId) (lists : List (List BufId)) → Low (mem_in buffers) lists → Low (mem_in buffers) (fold (touched script buffers reservations) lists bs)
all_touched script buffers reservations [] lists low = low
all_touched script buffers reservations (b ∷ bs) lists low = all_touched script buffers reservations bs (touched script buffers reservations lists b) (touched_low script buffers reservations lists b (λ i l n h d q k m. low i l n h d k m))

bulk_low : (member : BufId → Bool) (f : BufId → Mem) (lists : List (List BufId)) → Low f lists → Low f (map (members_last member) lists)
bulk_low member f lists low i l n h d k m =
    let r = get_mapped (members_last member) lists l i h in
    let was : has_buffer (members_last member r.0) d ≡ true = subst (λ z. has_buffer z d ≡ true) r.2 k in
    low i r.0 n r.1 d
    (⊎_elim (λ q. filter_had (λ b. not (member b)) r.0 d q) (λ q. filter_had member r.0 d q)
    (or_cases (has_buffer (filter (λ b. not (member b)) r.0) d) (has_buffer (filter member r.0) d) (sym (list_any-append (same_buffer d) (filter (λ b. not (member b)) r.0) (filter member r.0)) ∙ was))) m

-- ---- where buffers stand

-- one that changed and stands where it did
mem_kept : (f : Buffer → Buffer) → ((x : Buffer) → (f x).mem ≡ x.mem) → (xs : List (Option Buffer)) (b d : BufId) → mem_in (changed f xs b) d ≡ mem_in xs d
mem_kept f same xs b d =
    ⊎_elim (λ e. ap (λ o. (unwrap_or o (new_buffer 0)).mem) e) (λ e. ap (λ o. (unwrap_or o (new_buffer 0)).mem) e ∙ by (live_in xs d)) (live_changed f xs b d)
  where
    by : (o : Option Buffer) → (unwrap_or (option_map f o) (new_buffer 0)).mem ≡ (unwrap_or o (new_buffer 0)).mem
    by None = refl
    by (Some x) = same x

mem_other : (xs : List (Option Buffer)) (b d : BufId) (o : Option Buffer) → (d ≡ b → ⊥) → mem_in (slice_set xs b.0 o) d ≡ mem_in xs d
mem_other xs b d o n = ap (λ p. (unwrap_or p (new_buffer 0)).mem) (live_set xs b d o n)

mem_used : (job : JobId) (ops : List Op) (bs : List BufId) (xs : List (Option Buffer)) (d : BufId) → mem_in (fold (with_use job ops) xs bs) d ≡ mem_in xs d
mem_used job ops [] xs d = refl
mem_used job ops (b ∷ bs) xs d = mem_used job ops bs (with_use job ops xs b) d ∙ mem_kept (with_fence job (use_of ops b)) (λ x. refl) xs b d

fenced_mem : (jobs : List JobId) (mem : Mem) (x : Buffer) → (with_kernel_fences jobs x).mem ≡ x.mem
fenced_mem [] mem x = refl
fenced_mem (j ∷ jobs) mem x = fenced_mem jobs mem (with_fence j usage.Kernel x)

leaves_mem : (m : Mem) (x : Buffer) → (leaves_tt m x).mem ≡ x.mem
leaves_mem System x = refl
leaves_mem Tt x = refl
leaves_mem Vram x = refl

low_same : (f g : BufId → Mem) (lists : List (List BufId)) → ((d : BufId) → g d ≡ f d) → Low f lists → Low g lists
low_same f g lists same low i l n h d k m = low i l n h d k (sym (same d) ∙ m)

-- one buffer changed, and is put on its list
relisted_low : (script : Script) (f : Buffer → Buffer) (xs : List (Option Buffer)) (reservations : List Reservation) (lists : List (List BufId)) (b : BufId) → Low (mem_in xs) lists → Low (mem_in (changed f xs b)) (touched script (changed f xs b) reservations lists b)
relisted_low script f xs reservations lists b low = touched_low script (changed f xs b) reservations lists b (λ i l n h d q k m. low i l n h d k (sym (mem_other xs b d (option_map f (live_in xs b)) q) ∙ m))

-- a buffer set again, or gone
set_here : (xs : List (Option Buffer)) (b : BufId) (o : Option Buffer) → (live_in (slice_set xs b.0 o) b ≡ o) ⊎ (live_in (slice_set xs b.0 o) b ≡ None)
set_here xs b o = by xs b.0
  where
    by : (ys : List (Option Buffer)) (i : ℕ) → (option_and_then (λ x. x) (slice_get (slice_set ys i o) i) ≡ o) ⊎ (option_and_then (λ x. x) (slice_get (slice_set ys i o) i) ≡ None)
    by [] i = inr refl
    by (y ∷ ys) zero = inl refl
    by (y ∷ ys) (suc i) = by ys i

new_mem : (xs : List (Option Buffer)) (b : BufId) (n : ℕ) → mem_in (slice_set xs b.0 (Some (new_buffer n))) b ≡ System
new_mem xs b n = ⊎_elim (λ e. ap (λ o. (unwrap_or o (new_buffer 0)).mem) e) (λ e. ap (λ o. (unwrap_or o (new_buffer 0)).mem) e) (set_here xs b (Some (new_buffer n)))

-- ---- each entry

pub listed_keeps : (script : Script) (s : State) (t : ℕ) (k : Kind) → Listed s → Listed (applied script s (actor.Thread t) k)
listed_keeps script s t (kind.New b) low =
    let x = new_buffer (decl script b).pages in
    listed_low b (mem_in (slice_set s.core.buffers b.0 (Some (new_buffer (decl script b).pages)))) s.lists
    (λ i l n h d q k m. low i l n h d k (sym (mem_other s.core.buffers b d (Some (new_buffer (decl script b).pages)) q) ∙ m)) script no_reservation (Some (new_buffer (decl script b).pages))
    (λ y e. new_mem s.core.buffers b (decl script b).pages ∙ sym (system y e))
  where
    system : (y : Buffer) → Some (new_buffer (decl script b).pages) ≡ Some y → y.mem ≡ System
    system y e = let it : new_buffer (decl script b).pages ≡ y = cc in ap (λ z. z.mem) (sym it)
listed_keeps script s t (kind.Free b g) low =
    off_low b (mem_in (slice_set s.core.buffers b.0 None)) s.lists (λ i l n h d q k m. low i l n h d k (sym (mem_other s.core.buffers b d None q) ∙ m))
listed_keeps script s t (kind.Take b mem spans) low =
    low_same (mem_in s.core.buffers) _ s.lists (mem_kept (λ x. with_kernel_fences (jobs_before_target s.core mem) (with_spans mem (Some spans) x)) (λ x. fenced_mem (jobs_before_target s.core mem) mem (with_spans mem (Some spans) x)) s.core.buffers b) low
listed_keeps script s t (kind.Untake b mem) low = low_same (mem_in s.core.buffers) _ s.lists (mem_kept (with_spans mem None) (λ x. refl) s.core.buffers b) low
listed_keeps script s t (kind.Populate b page frame) low = low_same (mem_in s.core.buffers) _ s.lists (mem_kept (with_loc page (loc.Frame frame)) (λ x. refl) s.core.buffers b) low
listed_keeps script s t (kind.SwapIn b page slot frame) low = low_same (mem_in s.core.buffers) _ s.lists (mem_kept (with_loc page (loc.Frame frame)) (λ x. refl) s.core.buffers b) low
listed_keeps script s t (kind.Depopulate b) low = low_same (mem_in s.core.buffers) _ s.lists (mem_kept without_frames (λ x. refl) s.core.buffers b) low
listed_keeps script s t (kind.Bind b) low = relisted_low script bound s.core.buffers s.reservations s.lists b low
listed_keeps script s t (kind.Unbind b) low = relisted_low script unbound s.core.buffers s.reservations s.lists b low
listed_keeps script s t (kind.Move b mem n l) low = relisted_low script (moved mem (record { ctx = 0; num = n })) s.core.buffers s.reservations s.lists b low
listed_keeps script s t (kind.Catch b w) low = low_same (mem_in s.core.buffers) _ s.lists (mem_kept (λ x. leaves_tt x.mem x) (λ x. leaves_mem x.mem x) s.core.buffers b) low
listed_keeps script s t (kind.Loose b) low = touched_low script s.core.buffers _ s.lists b (λ i l n h d q k m. low i l n h d k m)
listed_keeps script s t (kind.SwapOut b page slot) low = low_same (mem_in s.core.buffers) _ s.lists (mem_kept (with_loc page (loc.Slot slot)) (λ x. refl) s.core.buffers b) low
listed_keeps script s t (kind.Arm engine n) low = low_same (mem_in s.core.buffers) _ s.lists (mem_used (record { ctx = engine; num = n }) (ops_of (command_at_work script s t)) (named_in (command_at_work script s t)) s.core.buffers) low
listed_keeps script s t (kind.Bulk group) low = bulk_low (is_member script group) (mem_in s.core.buffers) s.lists low
listed_keeps script s t (kind.Result r) low = all_touched script s.core.buffers _ (held_as_named (course s t) (command_at_work script s t)) s.lists low
listed_keeps script s t k low = low

pub listed_stays : (script : Script) (s : State) (who : Actor) (k : Kind) → OfWorker k → Listed s → Listed (applied script s who k)
listed_stays script s who k packet low = low
listed_stays script s who k done low = low
listed_stays script s who k reap low = low

-- ---- what is caught for swap

in_flat : (ls : List (List BufId)) (b : BufId) → has_buffer (flat_map (λ l. l) ls) b ≡ true → (i : ℕ) × (l : List BufId) × (slice_get ls i ≡ Some l) × (has_buffer l b ≡ true)
in_flat [] b h = cc
in_flat (l ∷ ls) b h =
    ⊎_elim
    (λ k. (0, l, refl, k))
    (λ k. let r = in_flat ls b k in (suc r.0, r.1, r.2, r.3))
    (or_cases (has_buffer l b) (has_buffer (flat_map (λ x. x) ls) b) (sym (list_any-append (same_buffer b) l (flat_map (λ x. x) ls)) ∙ h))

get_taken : (ls : List (List BufId)) (n i : ℕ) (l : List BufId) → slice_get (take n ls) i ≡ Some l → (slice_get ls i ≡ Some l) × (i < n)
get_taken ls zero i l h = cc
get_taken [] (suc n) i l h = cc
get_taken (x ∷ ls) (suc n) zero l h = (h, omega arith)
get_taken (x ∷ ls) (suc n) (suc i) l h = let r = get_taken ls n i l h in let less = r.1 in (r.0, omega (arith, less))

get_dropped : (ls : List (List BufId)) (n i : ℕ) → slice_get (drop n ls) i ≡ slice_get ls (n + i)
get_dropped ls zero i = let e : i ≡ 0 + i = omega arith in ap (slice_get ls) e
get_dropped [] (suc n) i = refl
get_dropped (x ∷ ls) (suc n) i = let e : suc (n + i) ≡ suc n + i = omega arith in get_dropped ls n i ∙ ap (slice_get (x ∷ ls)) e

pub swaps_below : (s : State) → Listed s → SwapsBelow s
swaps_below s low b found m =
    ⊎_elim (λ k. at System (omega arith) k) (λ k. at Tt (omega arith) k)
    (or_cases (has_buffer (in_order s System) b) (has_buffer (in_order s Tt) b)
    (sym (list_any-append (same_buffer b) (in_order s System) (in_order s Tt)) ∙ has_found (λ d. is_loose (reservation s d) && has_frame (buffer s d)) (in_order s System ++ in_order s Tt) b found))
  where
    at : (mem : Mem) → 4 * mem_number mem + 4 ≤ 8 → has_buffer (in_order s mem) b ≡ true → ⊥
    at mem n k =
        let r = in_flat (take 4 (drop (4 * mem_number mem) s.lists)) b k in
        let q = get_taken (drop (4 * mem_number mem) s.lists) 4 r.0 r.1 r.2 in
        let less = q.1 in
        low (4 * mem_number mem + r.0) r.1 (omega (arith, n, less)) (sym (get_dropped s.lists (4 * mem_number mem) r.0) ∙ q.0) b r.3 m

pub listed_first : (script : Script) → Listed (first_state script)
listed_first script i l n h b k m = clash_mem (sym (ap (λ o. (unwrap_or o (new_buffer 0)).mem) (dead script.buffers b.0)) ∙ m)
  where
    clash_mem : System ≡ Vram → ⊥
    clash_mem e = cc

    dead : {X : Type 0} (xs : List X) (j : ℕ) → ◌≡◌ {A = Option Buffer} (option_and_then (λ x. x) (slice_get (map (λ d. None) xs) j)) None
    dead [] j = refl
    dead (x ∷ xs) zero = refl
    dead (x ∷ xs) (suc j) = dead xs j
