-- What each legal entry keeps of the spans of buffers and ghosts: each has a page.
use Rattle.std.proofs.Common.{◌≡◌, ℕ, ◌+◌, ◌<◌, ◌≤◌, zero, suc, Bool, true, false, List, [], ◌∷◌, ◌++◌, Option, Some, None, refl, sym, subst, ◌∙◌, ap, arith, ⊎_elim}
use Rattle.std.specs.Prelude.{slice_get, slice_set, map, filter, fold, option_map, option_and_then, unwrap_or, not, ◌==◌, if◌then◌else◌}
use Rattle.ttm_base.specs.declared.Mem.{Mem}
use Rattle.ttm_base.specs.declared.Mem.TheVariants.{System, Tt, Vram}
use Rattle.ttm_base.specs.declared.BufId.{BufId}
use Rattle.ttm_base.specs.declared.JobId.{JobId}
use Rattle.ttm_base.specs.declared.Span.{Span}
use Rattle.ttm_base.specs.declared.Op.{Op}
use Rattle.ttm_base.specs.declared.Usage.TheVariants as usage
use Rattle.ttm_base.specs.declared.Actor.{Actor}
use Rattle.ttm_base.specs.declared.Actor.TheVariants as actor
use Rattle.ttm_base.specs.Reach.{same_mem}
use Rattle.journal_model.specs.declared.script.Script.{Script}
use Rattle.journal_model.specs.declared.state.State.{State}
use Rattle.journal_model.specs.declared.state.Core.{Core}
use Rattle.journal_model.specs.declared.state.Buffer.{Buffer}
use Rattle.journal_model.specs.declared.state.Ghost.{Ghost}
use Rattle.journal_model.specs.declared.entry.Kind.{Kind}
use Rattle.journal_model.specs.rules.State.{buffer, live_in, changed, new_buffer, target_of, target_spans}
use Rattle.journal_model.specs.rules.Commands.{decl, command_at_work}
use Rattle.journal_model.specs.rules.Holds.{spans_in}
use Rattle.journal_model.specs.rules.Waits.{jobs_before_target}
use Rattle.journal_model.specs.rules.Apply.{applied}
use Rattle.journal_model.specs.rules.ApplyCommands.{named_in, ghost_of_freed}
use Rattle.journal_model.specs.rules.ApplyPages.{with_fence, with_kernel_fences, with_spans, bound, unbound}
use Rattle.journal_model.specs.rules.ApplyMoves.{ghost_of_moved}
use Rattle.journal_model.specs.rules.ApplyVictims.{leaves_tt}
use Rattle.journal_model.specs.rules.ApplyJobs.{with_use, ops_of}
use Rattle.laws.proofs.law_state.Lists.{set_at, get_pushed}
use Rattle.laws.proofs.law_sound.Along.{OfWorker, packet, done, reap}
use Rattle.laws.specs.lemma_bytes_told.Told.{Told, still, makes, frees, leaves, takes, untakes, populates, swaps_in, depopulates, binds, unbinds, moves_up, moves_across, moves_down, evicts, catches, swaps_out, arms, reads, writes, results}
use Rattle.laws.proofs.lemma_bytes_told.Shapes.{still_core}
use Rattle.laws.proofs.lemma_bytes_told.Numbers.{not_zero}
use Rattle.laws.specs.law_transparent.OwnPages.{HaveAPage}
use Rattle.laws.proofs.law_transparent.Chosen.{no_spans, choice_spans}

-- the spans of a buffer, and of its targets
pub record Proper (x : Buffer) : Type 0 where
  pub own : HaveAPage x.spans
  pub targets : (l : Mem) → HaveAPage (target_spans l x)

abbrev pub AreProper : List (Option Buffer) → Type 0
AreProper buffers = (b : BufId) (x : Buffer) → live_in buffers b ≡ Some x → Proper x

-- of ghosts
pub record ProperGhost (g : Ghost) : Type 0 where
  pub in_vram : HaveAPage g.vram
  pub in_tt : HaveAPage g.tt
  pub drawn : 1 ≤ g.num

abbrev pub AreProperGhosts : List Ghost → Type 0
AreProperGhosts ghosts = (i : ℕ) (g : Ghost) → slice_get ghosts i ≡ Some g → ProperGhost g

pub record ProperCore (c : Core) : Type 0 where
  pub buffers : AreProper c.buffers
  pub ghosts : AreProperGhosts c.ghosts

-- ---- lists of buffers

changed_proper : (f : Buffer → Buffer) (buffers : List (Option Buffer)) (b : BufId) → ((x : Buffer) → Proper x → Proper (f x)) → AreProper buffers → AreProper (changed f buffers b)
changed_proper f buffers b keep h d y e =
    ⊎_elim
    (λ q. h d y (sym (ap (option_and_then (λ x. x)) q) ∙ e))
    (λ q. by (live_in buffers b) refl (sym (ap (option_and_then (λ x. x)) q.1) ∙ e))
    (set_at buffers b.0 d.0 (option_map f (live_in buffers b)))
  where
    by : (o : Option Buffer) → live_in buffers b ≡ o → option_map f o ≡ Some y → Proper y
    by None q g = cc
    by (Some x) q g = let same : f x ≡ y = cc in subst Proper same (keep x (h b x q))

set_proper : (buffers : List (Option Buffer)) (b : BufId) (o : Option Buffer) → ((x : Buffer) → o ≡ Some x → Proper x) → AreProper buffers → AreProper (slice_set buffers b.0 o)
set_proper buffers b o new h d y e =
    ⊎_elim
    (λ q. h d y (sym (ap (option_and_then (λ x. x)) q) ∙ e))
    (λ q. new y (sym (ap (option_and_then (λ x. x)) q.1) ∙ e))
    (set_at buffers b.0 d.0 o)

-- ---- changes of a buffer

fresh_proper : (n : ℕ) → Proper (new_buffer n)
fresh_proper n = record { own = no_spans; targets = λ l. none l }
  where
    none : (l : Mem) → HaveAPage (target_spans l (new_buffer n))
    none System = no_spans
    none Tt = no_spans
    none Vram = no_spans

-- it depends on spans and targets alone
same_proper : (x y : Buffer) → y.spans ≡ x.spans → y.targets ≡ x.targets → Proper x → Proper y
same_proper x y s t h = record { own = subst HaveAPage (sym s) h.own; targets = λ l. subst (λ z. HaveAPage (unwrap_or (target_of l z) [])) (sym t) (h.targets l) }

kernel_fenced : (jobs : List JobId) (x : Buffer) → Proper x → Proper (with_kernel_fences jobs x)
kernel_fenced [] x h = h
kernel_fenced (j ∷ jobs) x h = kernel_fenced jobs (with_fence j usage.Kernel x) (same_proper x (with_fence j usage.Kernel x) refl refl h)

-- another target, or none
retargeted : (m : Mem) (o : Option (List Span)) (x : Buffer) → HaveAPage (unwrap_or o []) → Proper x → Proper (with_spans m o x)
retargeted System o x new h = record { own = h.own; targets = λ l. on l }
  where
    on : (l : Mem) → HaveAPage (target_spans l (with_spans System o x))
    on System = new
    on Tt = h.targets Tt
    on Vram = h.targets Vram
retargeted Tt o x new h = record { own = h.own; targets = λ l. on l }
  where
    on : (l : Mem) → HaveAPage (target_spans l (with_spans Tt o x))
    on System = h.targets System
    on Tt = new
    on Vram = h.targets Vram
retargeted Vram o x new h = record { own = h.own; targets = λ l. on l }
  where
    on : (l : Mem) → HaveAPage (target_spans l (with_spans Vram o x))
    on System = h.targets System
    on Tt = h.targets Tt
    on Vram = new

-- the spans of a target become those of the buffer, or it has none
relocated : (m : Mem) (x y : Buffer) → HaveAPage y.spans → y.targets ≡ (with_spans m None x).targets → Proper x → Proper y
relocated m x y own t h = same_targets (retargeted m None x no_spans h)
  where
    same_targets : Proper (with_spans m None x) → Proper y
    same_targets k = record { own = own; targets = λ l. subst (λ z. HaveAPage (unwrap_or (target_of l z) [])) (sym t) (k.targets l) }

caught_proper : (l : Mem) (x : Buffer) → Proper x → Proper (leaves_tt l x)
caught_proper Tt x h = retargeted System (Some []) x no_spans h
caught_proper Vram x h = h
caught_proper System x h = h

uses_proper : (job : JobId) (ops : List Op) (bs : List BufId) (buffers : List (Option Buffer)) → AreProper buffers → AreProper (fold (with_use job ops) buffers bs)
uses_proper job ops [] buffers h = h
uses_proper job ops (b ∷ bs) buffers h = uses_proper job ops bs (with_use job ops buffers b) (changed_proper _ buffers b (λ x k. same_proper x _ refl refl k) h)

-- ---- ghosts

spans_proper : (m : Mem) (x : Buffer) → Proper x → HaveAPage (spans_in m x)
spans_proper m x h = by (same_mem x.mem m)
  where
    by : (q : Bool) → HaveAPage (if q then x.spans else [])
    by true = h.own
    by false = no_spans

pushed_proper : (gs : List Ghost) (g : Ghost) → ProperGhost g → AreProperGhosts gs → AreProperGhosts (gs ++ g ∷ [])
pushed_proper gs g new h i k e = ⊎_elim (λ r. h i k r) (λ r. subst ProperGhost (sym r.1) new) (get_pushed gs g k i e)

moved_proper : (x : Buffer) (job : JobId) (n : ℕ) → Proper x → ProperGhost (ghost_of_moved x job (n + 1))
moved_proper x job n h = record { in_vram = spans_proper Vram x h; in_tt = spans_proper Tt x h; drawn = omega arith }

freed_proper : (c : Core) (x : Buffer) (n : ℕ) → Proper x → ProperGhost (ghost_of_freed c x (n + 1))
freed_proper c x n h = record { in_vram = spans_proper Vram x h; in_tt = spans_proper Tt x h; drawn = omega arith }

get_filtered : (p : Ghost → Bool) (gs : List Ghost) (i : ℕ) (h : Ghost) → slice_get (filter p gs) i ≡ Some h → (j : ℕ) × (slice_get gs j ≡ Some h)
get_filtered p [] i h e = cc
get_filtered p (g ∷ gs) i h e = by (p g) (λ k. get_filtered p gs k h) i e
  where
    by : (q : Bool) → ((k : ℕ) → slice_get (filter p gs) k ≡ Some h → (j : ℕ) × (slice_get gs j ≡ Some h)) → (i : ℕ) → slice_get (if q then g ∷ filter p gs else filter p gs) i ≡ Some h → (j : ℕ) × (slice_get (g ∷ gs) j ≡ Some h)
    by true rest zero f = (0, f)
    by true rest (suc i) f = let r = rest i f in (suc r.0, r.1)
    by false rest i f = let r = rest i f in (suc r.0, r.1)

chosen_ghosts : (q : Bool) (gs hs : List Ghost) → q ≡ false → AreProperGhosts hs → AreProperGhosts (if q then gs else hs)
chosen_ghosts true gs hs e h = cc
chosen_ghosts false gs hs e h = h

-- ---- each entry

-- a known buffer
known_proper : (s : State) (b : BufId) → AreProper s.core.buffers → live_in s.core.buffers b ≡ Some (buffer s b) → Proper (buffer s b)
known_proper s b h e = h b (buffer s b) e

pub proper_keeps : (script : Script) (s : State) (t : ℕ) (k : Kind) → ((b : BufId) (x : Buffer) → live_in s.core.buffers b ≡ Some x → 0 < (decl script b).pages) → Told script s t k → ProperCore s.core → ProperCore (applied script s (actor.Thread t) k).core
proper_keeps script s t k pages (still q) h = subst ProperCore (sym (still_core script s t k q)) h
proper_keeps script s t k pages (makes {b} dead) h =
    record { buffers = set_proper s.core.buffers b (Some (new_buffer (decl script b).pages)) (λ x e. let same : new_buffer (decl script b).pages ≡ x = cc in subst Proper same (fresh_proper (decl script b).pages)) h.buffers; ghosts = h.ghosts }
proper_keeps script s t k pages (frees {b} there quiet) h = record { buffers = set_proper s.core.buffers b None (λ x e. cc) h.buffers; ghosts = h.ghosts }
proper_keeps script s t k pages (leaves {b} there) h =
    record {
      buffers = set_proper s.core.buffers b None (λ x e. cc) h.buffers;
      ghosts = chosen_ghosts ((s.last_ghost + 1) == 0) s.core.ghosts _ (not_zero s.last_ghost) (pushed_proper s.core.ghosts _ (freed_proper s.core (buffer s b) s.last_ghost (known_proper s b h.buffers there)) h.ghosts);
    }
proper_keeps script s t k pages (takes {b} {mem} {spans} place there m c free) h =
    record {
      buffers = changed_proper _ s.core.buffers b
          (λ x k. kernel_fenced (jobs_before_target s.core mem) (with_spans mem (Some spans) x) (retargeted mem (Some spans) x (choice_spans script s.core b place spans (pages b (buffer s b) there) c) k)) h.buffers;
      ghosts = h.ghosts;
    }
proper_keeps script s t k pages (untakes {b} {mem} there) h = record { buffers = changed_proper _ s.core.buffers b (λ x k. retargeted mem None x no_spans k) h.buffers; ghosts = h.ghosts }
proper_keeps script s t k pages (populates {b} {f} there free l some tt_not) h = record { buffers = changed_proper _ s.core.buffers b (λ x k. same_proper x _ refl refl k) h.buffers; ghosts = h.ghosts }
proper_keeps script s t k pages (swaps_in {b} {k = slot} {f} there free l some tt_not) h = record { buffers = changed_proper _ s.core.buffers b (λ x k. same_proper x _ refl refl k) h.buffers; ghosts = h.ghosts }
proper_keeps script s t k pages (depopulates {b} there m) h = record { buffers = changed_proper _ s.core.buffers b (λ x k. same_proper x _ refl refl k) h.buffers; ghosts = h.ghosts }
proper_keeps script s t k pages (binds {b} there m t' f) h = record { buffers = changed_proper _ s.core.buffers b (λ x k. relocated Tt x (bound x) (k.targets Tt) refl k) h.buffers; ghosts = h.ghosts }
proper_keeps script s t k pages (unbinds {b} there quiet m) h = record { buffers = changed_proper _ s.core.buffers b (λ x k. relocated System x (unbound x) no_spans refl k) h.buffers; ghosts = h.ghosts }
proper_keeps script s t k pages (moves_up {b} there m t') h =
    record { buffers = changed_proper _ s.core.buffers b (λ x k. relocated Vram x _ (k.targets Vram) refl k) h.buffers; ghosts = pushed_proper s.core.ghosts _ (moved_proper (buffer s b) _ s.last_ghost (known_proper s b h.buffers there)) h.ghosts }
proper_keeps script s t k pages (moves_across {b} there m t') h =
    record { buffers = changed_proper _ s.core.buffers b (λ x k. relocated Vram x _ (k.targets Vram) refl k) h.buffers; ghosts = pushed_proper s.core.ghosts _ (moved_proper (buffer s b) _ s.last_ghost (known_proper s b h.buffers there)) h.ghosts }
proper_keeps script s t k pages (moves_down {b} there m t' f) h =
    record { buffers = changed_proper _ s.core.buffers b (λ x k. relocated Tt x _ (k.targets Tt) refl k) h.buffers; ghosts = pushed_proper s.core.ghosts _ (moved_proper (buffer s b) _ s.last_ghost (known_proper s b h.buffers there)) h.ghosts }
proper_keeps script s t k pages (evicts {b} there m t' f) h = record { buffers = changed_proper _ s.core.buffers b (λ x k. relocated Tt x _ (k.targets Tt) refl k) h.buffers; ghosts = h.ghosts }
proper_keeps script s t k pages (catches {b} {w}) h = record { buffers = changed_proper _ s.core.buffers b (λ x k. caught_proper x.mem x k) h.buffers; ghosts = h.ghosts }
proper_keeps script s t k pages (swaps_out {b} {k = slot} there m quiet f free) h = record { buffers = changed_proper _ s.core.buffers b (λ x k. same_proper x _ refl refl k) h.buffers; ghosts = h.ghosts }
proper_keeps script s t k pages (arms {engine} ops at live ready) h =
    record { buffers = uses_proper _ (ops_of (command_at_work script s t)) (named_in (command_at_work script s t)) s.core.buffers h.buffers; ghosts = h.ghosts }
proper_keeps script s t k pages (reads b off len at none) h = h
proper_keeps script s t k pages (writes b off bytes at there ready quiet) h = h
proper_keeps script s t k pages (results cmd at w q r) h = h

pub proper_stays : (script : Script) (s : State) (who : Actor) (k : Kind) → OfWorker k → ProperCore s.core → ProperCore (applied script s who k).core
proper_stays script s who k packet h = record { buffers = h.buffers; ghosts = h.ghosts }
proper_stays script s who k done h = record { buffers = h.buffers; ghosts = h.ghosts }
proper_stays script s who k (reap {g}) h = record { buffers = h.buffers; ghosts = λ i x e. let r = get_filtered (λ x. not (x.num == g)) s.core.ghosts i x e in h.ghosts r.0 x r.1 }

pub first_proper : {X : Type 0} (xs : List X) → AreProper (map (λ x. None) xs)
first_proper xs b y e = absurd (none xs b.0 e)
  where
    none : {X : Type 0} (xs : List X) (i : ℕ) → ◌≡◌ {A = Option Buffer} (option_and_then (λ x. x) (slice_get (map (λ x. None) xs) i)) (Some y) → ⊥
    none [] i e = cc
    none (x ∷ xs) zero e = cc
    none (x ∷ xs) (suc i) e = none xs i e
