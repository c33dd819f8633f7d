-- A buffer in TT has a frame for each page.
use Rattle.std.proofs.Common.{◌≡◌, ℕ, zero, suc, true, false, List, [], ◌∷◌, Option, Some, None, refl, sym, ◌∙◌, ap, subst, ⊎_elim}
use Rattle.std.specs.Prelude.{slice_set, fold, not, unwrap_or, option_map, option_and_then, ◌&&◌}
use Rattle.std.specs.List.{list_all}
use Rattle.std.proofs.lemmas.Bool.{and_parts, and_from, not-false, or_left}
use Rattle.ttm_base.specs.ListWords.{last_of}
use Rattle.ttm_base.specs.Reach.{same_mem}
use Rattle.ttm_base.specs.declared.Mem.{Mem}
use Rattle.ttm_base.specs.declared.Mem.TheVariants.{System, Tt, Vram}
use Rattle.ttm_base.specs.declared.BufId.{BufId}
use Rattle.ttm_base.specs.declared.Deny.{Deny}
use Rattle.ttm_base.specs.declared.JobId.{JobId}
use Rattle.ttm_base.specs.declared.Loc.{Loc}
use Rattle.ttm_base.specs.declared.Loc.TheVariants as loc
use Rattle.ttm_base.specs.declared.Op.{Op}
use Rattle.ttm_base.specs.declared.Span.{Span}
use Rattle.journal_model.specs.declared.script.Script.{Script}
use Rattle.journal_model.specs.declared.script.Command.{Command}
use Rattle.journal_model.specs.declared.script.Command.TheVariants as command
use Rattle.journal_model.specs.declared.entry.Kind.{Kind}
use Rattle.journal_model.specs.declared.entry.Why.{Why}
use Rattle.journal_model.specs.declared.entry.Why.TheVariants as why
use Rattle.journal_model.specs.declared.state.State.{State}
use Rattle.journal_model.specs.declared.state.Buffer.{Buffer}
use Rattle.journal_model.specs.declared.state.Victim.{Victim}
use Rattle.journal_model.specs.declared.state.Task.{Task}
use Rattle.journal_model.specs.rules.State.{new_buffer, buffer, course, changed, live_in, has_target, same_buffer}
use Rattle.journal_model.specs.rules.Commands.{decl, command_at_work}
use Rattle.journal_model.specs.rules.Places.{is_frame}
use Rattle.journal_model.specs.rules.Ready.{has_all_frames, has_some_target, is_ready, is_filled, meets, first_unready}
use Rattle.journal_model.specs.rules.PageSteps.{why_caught}
use Rattle.journal_model.specs.rules.Search.{PlaceSearch}
use Rattle.journal_model.specs.rules.Waits.{use_of}
use Rattle.journal_model.specs.rules.ApplyCommands.{named_in}
use Rattle.journal_model.specs.rules.ApplyJobs.{ops_of, with_use}
use Rattle.journal_model.specs.rules.ApplyPages.{with_fence, with_loc, without_frames, bound, unbound}
use Rattle.journal_model.specs.rules.ApplyMoves.{table_left, moved}
use Rattle.journal_model.specs.rules.ApplyVictims.{leaves_tt}
use Rattle.journal_model.specs.rules.Legal.{first_state}
use Rattle.laws.proofs.law_state.Lists.{set_at}
use Rattle.laws.specs.law_sound.Sound.{OnItsWay, in_vram, to_tt, out_of_vram, in_tt, in_system}
use Rattle.laws.proofs.law_sound.Turns.{Turn, bind, victim_move, move_up, move_across, move_down, victim_empty, act}
use Rattle.laws.proofs.law_sound.Gifts.{Gives, SearchOutcome, Filled, makes, seeks, binds, unbinds, moves, fills, empties, depopulates, untakes, arms, frees, swaps, finds, evicts, dries, fresh, again, back, evicts_for_swap, nothing}
use Rattle.laws.proofs.law_sound.Bufs.{same_self, none_found, clash}
use Rattle.laws.proofs.lemma_end_measure.Parts.{after}
use Rattle.laws.proofs.lemma_end_ways.Takes.{taken, taken_body}
use Rattle.laws.proofs.lemma_end_searches.Victims.{Caught, found_last}
use Rattle.laws.proofs.lemma_end_ways.Spanless.{first_live}
use Rattle.laws.proofs.lemma_end_ways.Targets.{LastWay}

-- in TT each page has a frame
abbrev pub IsFull : Buffer → Type 0
IsFull x = x.mem ≡ Tt → has_all_frames x ≡ true

abbrev pub AreFull : List (Option Buffer) → Type 0
AreFull buffers = (b : BufId) (x : Buffer) → live_in buffers b ≡ Some x → IsFull x

changed_full : (f : Buffer → Buffer) (buffers : List (Option Buffer)) (b : BufId) → ((x : Buffer) → live_in buffers b ≡ Some x → IsFull x → IsFull (f x)) → AreFull buffers → AreFull (changed f buffers b)
changed_full f buffers b keep h d y e =
    ⊎_elim
    (λ q. h d y (sym (ap (option_and_then (λ x. x)) q) ∙ e))
    (λ q. by (live_in buffers b) refl (sym (ap (option_and_then (λ x. x)) q.1) ∙ e))
    (set_at buffers b.0 d.0 (option_map f (live_in buffers b)))
  where
    by : (o : Option Buffer) → live_in buffers b ≡ o → option_map f o ≡ Some y → IsFull y
    by None q g = cc
    by (Some x) q g = let same : f x ≡ y = cc in subst IsFull same (keep x q (h b x q))

set_full : (buffers : List (Option Buffer)) (b : BufId) (o : Option Buffer) → ((x : Buffer) → o ≡ Some x → IsFull x) → AreFull buffers → AreFull (slice_set buffers b.0 o)
set_full buffers b o new h d y e =
    ⊎_elim
    (λ q. h d y (sym (ap (option_and_then (λ x. x)) q) ∙ e))
    (λ q. new y (sym (ap (option_and_then (λ x. x)) q.1) ∙ e))
    (set_at buffers b.0 d.0 o)

used_full : (job : JobId) (ops : List Op) (bs : List BufId) (buffers : List (Option Buffer)) → AreFull buffers → AreFull (fold (with_use job ops) buffers bs)
used_full job ops [] buffers h = h
used_full job ops (b ∷ bs) buffers h = used_full job ops bs (with_use job ops buffers b) (changed_full (with_fence job (use_of ops b)) buffers b (λ x e full m. full m) h)

system_tt : System ≡ Tt → ⊥
system_tt e = cc

vram_tt : Vram ≡ Tt → ⊥
vram_tt e = cc

frame_set : (table : List Loc) (page f : ℕ) → list_all is_frame table ≡ true → list_all is_frame (slice_set table page (loc.Frame f)) ≡ true
frame_set [] page f h = refl
frame_set (l ∷ table) zero f h = (and_parts (is_frame l) (list_all is_frame table) h).1
frame_set (l ∷ table) (suc page) f h = let p = and_parts (is_frame l) (list_all is_frame table) h in and_from (is_frame l) (list_all is_frame (slice_set table page (loc.Frame f))) p.0 (frame_set table page f p.1)

leaves_full : (m : Mem) (x : Buffer) → IsFull x → IsFull (leaves_tt m x)
leaves_full System x full = full
leaves_full Tt x full = full
leaves_full Vram x full = full

-- a victim that is emptied to swap isn't in TT
emptied_elsewhere : (x : Buffer) (w : Why) (fail : Option Deny) → OnItsWay x w fail → w ≡ why.Swap → has_target System x ≡ false → x.mem ≡ Tt → ⊥
emptied_elsewhere x w fail (in_vram m ts) e n q = vram_tt (sym m ∙ q)
emptied_elsewhere x w fail (to_tt m ts) e n q = vram_tt (sym m ∙ q)
emptied_elsewhere x w fail (out_of_vram m ts) e n q = cc
emptied_elsewhere x w fail (in_tt d m ts) e n q = clash (sym ts.0 ∙ n)
emptied_elsewhere x w fail (in_system d m ts) e n q = system_tt (sym m ∙ q)

system_is : (m : Mem) → same_mem m System ≡ true → m ≡ System
system_is System h = refl
system_is Tt h = cc
system_is Vram h = cc

module _ (script : Script) (s : State) (t : ℕ) (cmd : Command) (few : Caught (course s t).caught) (way : LastWay s (course s t)) (h : AreFull s.core.buffers) where
  -- what is known of the buffer is known of what is live
  at_live : (P : Buffer → Type 0) (b : BufId) (x : Buffer) → live_in s.core.buffers b ≡ Some x → P (buffer s b) → P x
  at_live P b x e p = subst P (ap (λ o. unwrap_or o (new_buffer 0)) e) p

  swapped : (v : Victim) → last_of (course s t).caught ≡ Some v → why_caught (course s t) v.b ≡ Some why.Swap → v.why ≡ why.Swap
  swapped v last w = one v.why why.Swap (sym (ap (option_map (λ v. v.why)) (found_last (course s t).caught v few last)) ∙ w)
    where
      one : (x y : Why) → Some x ≡ Some y → x ≡ y
      one x y e = cc

  -- the buffer of a swap out is in SYSTEM
  out_of_system : (b : BufId) → cmd ≡ command.SwapOut b → first_unready script s cmd ≡ None → (buffer s b).mem ≡ Tt → ⊥
  out_of_system b e u m =
      let ready : is_ready script s (command.SwapOut b) b ≡ true =
      not-false (is_ready script s (command.SwapOut b) b)
      (none_found (λ d. not (is_ready script s (command.SwapOut b) d)) (b ∷ []) b (sym (ap (first_unready script s) e) ∙ u) (or_left (same_buffer b b) false (same_self b))) in
      let placed = and_parts (not (has_some_target (buffer s b)) && meets script (command.SwapOut b) b (buffer s b)) (is_filled (command.SwapOut b) (buffer s b)) ready in
      let meet = and_parts (not (has_some_target (buffer s b))) (meets script (command.SwapOut b) b (buffer s b)) placed.0 in
      system_tt (sym (system_is (buffer s b).mem meet.1) ∙ m)

  paged : (b : BufId) (page f : ℕ) → AreFull (changed (with_loc page (loc.Frame f)) s.core.buffers b)
  paged b page f = changed_full (with_loc page (loc.Frame f)) s.core.buffers b (λ x e full m. frame_set x.table page f (full m)) h

  caught : (b : BufId) → AreFull (changed (λ x. leaves_tt x.mem x) s.core.buffers b)
  caught b = changed_full (λ x. leaves_tt x.mem x) s.core.buffers b (λ x e full. leaves_full x.mem x full) h

  taken_full : (mem : Mem) (b : BufId) (spans : List Span) → AreFull (changed (taken s mem spans) s.core.buffers b)
  taken_full mem b spans =
      changed_full (taken s mem spans) s.core.buffers b
      (λ x e full m. let body = taken_body s mem spans x in ap (list_all is_frame) body.table ∙ full (sym body.mem ∙ m)) h

  sought_full : (b : BufId) (q : PlaceSearch) (k : Kind) → SearchOutcome script s (course s t) b q k → AreFull (after script s t k).core.buffers
  sought_full b q k (finds place {mem} {spans} w m e) = taken_full mem b spans
  sought_full b q k (evicts place {v} {w} a n e f) = caught v
  sought_full b q k (dries place a n) = h

  filled_full : (b : BufId) (k : Kind) → Filled script s b k → AreFull (after script s t k).core.buffers
  filled_full b k (fresh {frame} f l) = paged b _ frame
  filled_full b k (again {f} {frame} e l) = paged b _ frame
  filled_full b k (back {slot} {frame} f l) = paged b _ frame
  filled_full b k (evicts_for_swap {slot} {v} f e) = caught v
  filled_full b k (nothing f) = h

  -- down to TT only with all frames
  down_full : (b : BufId) (job : JobId) → (buffer s b).mem ≡ Vram → has_all_frames (buffer s b) ≡ true → AreFull (changed (moved Tt job) s.core.buffers b)
  down_full b job m r =
      changed_full (moved Tt job) s.core.buffers b
      (λ x e full n.
      ap (λ l. list_all is_frame (table_left l x.table)) (at_live (λ y. y.mem ≡ Vram) b x e m) ∙ at_live (λ y. has_all_frames y ≡ true) b x e r)
      h

  up_full : (b : BufId) (job : JobId) → AreFull (changed (moved Vram job) s.core.buffers b)
  up_full b job = changed_full (moved Vram job) s.core.buffers b (λ x e full m. absurd (vram_tt m)) h

  pub full_keeps : (x : Task) (k : Kind) → Turn script s (course s t) cmd x → Gives script s (course s t) cmd x k → AreFull (after script s t k).core.buffers
  full_keeps x k turn (makes {b} e l) = set_full s.core.buffers b (Some (new_buffer (decl script b).pages)) (λ y q. let same : new_buffer (decl script b).pages ≡ y = cc in subst IsFull same (λ m. absurd (system_tt m))) h
  full_keeps x k turn (seeks {b} sought) = sought_full b _ k sought
  full_keeps x k turn (fills {b} filled) = filled_full b k filled
  full_keeps x k (bind {b} on q r) binds =
      changed_full bound s.core.buffers b (λ y e full m. at_live (λ z. has_all_frames z ≡ true) b y e r) h
  full_keeps x k turn (unbinds {b} i) = changed_full unbound s.core.buffers b (λ y e full m. absurd (system_tt m)) h
  full_keeps x k (victim_move v on i f q r) moves = down_full v.b _ i.mem r
  full_keeps x k (move_up {b} on q) moves = up_full b _
  full_keeps x k (move_across {b} on q) moves = up_full b _
  full_keeps x k (move_down {b} on v q r) moves = down_full b _ on.stands r
  full_keeps x k (victim_empty v on q e) (empties {b} {slot} w f g) =
      changed_full (with_loc _ (loc.Slot slot)) s.core.buffers v.b
      (λ y p full m. absurd (emptied_elsewhere y v.why v.fail (at_live (λ z. OnItsWay z v.why v.fail) v.b y p (way v on.last)) (swapped v on.last w) (at_live (λ z. has_target System z ≡ false) v.b y p q) m)) h
  full_keeps x k turn (depopulates {b} m f) =
      changed_full without_frames s.core.buffers b (λ y e full q. absurd (vram_tt (sym (at_live (λ z. z.mem ≡ Vram) b y e m) ∙ q))) h
  full_keeps x k turn (untakes {b} n) = changed_full _ s.core.buffers b (λ y e full m. full m) h
  full_keeps x k turn (arms {engine} ops e) = used_full _ (ops_of (command_at_work script s t)) (named_in (command_at_work script s t)) s.core.buffers h
  full_keeps x k turn (frees {b} e q) = set_full s.core.buffers b None (λ y q. cc) h
  full_keeps x k (act on a f u) (swaps {b} {slot} e q r) =
      changed_full (with_loc _ (loc.Slot slot)) s.core.buffers b (λ y p full m. absurd (out_of_system b e u (ap (λ z. z.mem) (ap (λ o. unwrap_or o (new_buffer 0)) p) ∙ m))) h
  full_keeps x k turn gives = h

pub full_first : (script : Script) → AreFull (first_state script).core.buffers
full_first script b x e = absurd (some_not x (sym (first_live script b) ∙ e))
  where
    some_not : (x : Buffer) → None ≡ Some x → ⊥
    some_not x e = cc
