-- Each entry of a legal journal: a manager of VRAM or TT that keeps what the state tells does so after the calls for the entry.
use Rattle.std.proofs.Common.{◌≡◌, ℕ, ◌≤◌, Bool, true, false, List, [], Some, None, Ok, IsTrue, length, refl, sym, ◌∙◌, ap}
use Rattle.std.specs.Prelude.{◌==◌, find, slice_get, if◌then◌else◌}
use Rattle.ttm_base.specs.declared.Mem.{Mem}
use Rattle.ttm_base.specs.declared.Mem.TheVariants.{System, Tt, Vram}
use Rattle.ttm_base.specs.declared.Span.{Span}
use Rattle.ttm_base.specs.declared.BufId.{BufId}
use Rattle.ttm_base.specs.declared.Owner.TheVariants as owner
use Rattle.ttm_base.specs.declared.Actor.{Actor}
use Rattle.ttm_base.specs.declared.Actor.TheVariants as actor
use Rattle.ttm_base.specs.Reach.{same_mem}
use Rattle.resource_core.specs.Resources.{Resources, holds}
use Rattle.journal_model.specs.declared.script.Script.{Script}
use Rattle.journal_model.specs.declared.entry.Entry.{Entry}
use Rattle.journal_model.specs.declared.entry.Kind.{Kind}
use Rattle.journal_model.specs.declared.entry.Kind.TheVariants as kind
use Rattle.journal_model.specs.declared.entry.Left.{Left}
use Rattle.journal_model.specs.declared.entry.Left.TheVariants as left
use Rattle.journal_model.specs.declared.state.State.{State}
use Rattle.journal_model.specs.declared.state.Ghost.{Ghost}
use Rattle.journal_model.specs.rules.State.{live_in, buffer, target_spans}
use Rattle.journal_model.specs.rules.Holds.{size_of}
use Rattle.journal_model.specs.rules.Next.{next}
use Rattle.journal_model.specs.rules.PageSteps.{next_ghost}
use Rattle.journal_model.specs.rules.Apply.{applied}
use Rattle.journal_model.specs.rules.ApplyPages.{after_unbind}
use Rattle.journal_model.specs.scripts.ScriptRules.{is_script}
use Rattle.journal_model.specs.rules.Legal.{IsLegal, state_of}
use Rattle.laws.proofs.law_sound.Along.{OfWorker, packet, done, reap}
use Rattle.laws.specs.lemma_bytes_told.Told.{is_still, IsThere, Told, still, makes, frees, leaves, takes, untakes, populates, swaps_in, depopulates, binds, unbinds, moves_up, moves_across, moves_down, evicts, catches, swaps_out, arms, reads, writes, results}
use Rattle.room_representation.specs.lemma_spans.Owned.{FirstOfNumber, HoldsAsIn}
use Rattle.room_representation.specs.lemma_spans.Calls.{given, left_by, behind}
use Rattle.room_representation.proofs.lemma_spans.Still.{populate_spans, swap_in_spans, swap_out_spans, depopulate_spans, catch_spans, arm_spans, new_spans}
use Rattle.room_representation.proofs.lemma_spans.Targets.{take_spans, untake_spans}
use Rattle.room_representation.proofs.lemma_spans.Carried.{HasNew, reap_spans, bind_spans, unbind_spans, unbind_apart, move_spans, left_free, free_spans}
use Rattle.room_representation.proofs.lemma_spans.Facts.{no_target, no_target_at_all, spans_elsewhere, new_number}
use Rattle.room_representation.proofs.lemma_spans.Holders.{live_fresh, ghost_fresh}
use Rattle.room_representation.proofs.lemma_spans.Legal.{take_sought, free_untargeted}
use Rattle.room_representation.proofs.lemma_spans.Taken.{take_may_hold}

-- ---- what an entry tells of its buffer, as far as spans depend on it

abbrev IsNext : State → Left → Type 0
IsNext s left.Now = Unit {0}
IsNext s (left.Ghost g) = g ≡ next_ghost s

abbrev Tells : State → Kind → Type 0
Tells s (kind.New b) = live_in s.core.buffers b ≡ None
Tells s (kind.Free b g) = IsThere s b × ((g == 0) ≡ false → g ≡ next_ghost s)
Tells s (kind.Take b mem spans) = IsThere s b
Tells s (kind.Untake b mem) = IsThere s b
Tells s (kind.Bind b) = IsThere s b × ((buffer s b).mem ≡ System)
Tells s (kind.Unbind b) = IsThere s b × ((buffer s b).mem ≡ Vram → ⊥)
Tells s (kind.Move b mem n l) = IsThere s b × IsNext s l
Tells s _ = Unit {0}

still_tells : (s : State) (k : Kind) → is_still k ≡ true → Tells s k
still_tells s (kind.New b) q = cc
still_tells s (kind.Free b g) q = cc
still_tells s (kind.Take b mem spans) q = cc
still_tells s (kind.Untake b mem) q = cc
still_tells s (kind.Bind b) q = cc
still_tells s (kind.Unbind b) q = cc
still_tells s (kind.Move b mem n l) q = cc
still_tells s k q = tt

tells_of : (script : Script) (s : State) (t : ℕ) (k : Kind) → Told script s t k → Tells s k
tells_of script s t k (still q) = still_tells s k q
tells_of script s t k (makes dead) = dead
tells_of script s t k (frees there quiet) = (there, λ e. (let z : true ≡ false = e in cc))
tells_of script s t k (leaves there) = (there, λ e. refl)
tells_of script s t k (takes place there m c v) = there
tells_of script s t k (untakes there) = there
tells_of script s t k (populates there f l some n) = tt
tells_of script s t k (swaps_in there f l some n) = tt
tells_of script s t k (depopulates there m) = tt
tells_of script s t k (binds there m w f) = (there, m)
tells_of script s t k (unbinds there quiet m) = (there, m)
tells_of script s t k (moves_up there m w) = (there, refl)
tells_of script s t k (moves_across there m w) = (there, refl)
tells_of script s t k (moves_down there m w f) = (there, refl)
tells_of script s t k (evicts there m w f) = (there, tt)
tells_of script s t k catches = tt
tells_of script s t k (swaps_out there m quiet f free) = tt
tells_of script s t k (arms ops at live ready) = tt
tells_of script s t k (reads b off len at none) = tt
tells_of script s t k (writes b off bytes at there ready quiet) = tt
tells_of script s t k (results cmd at w q r) = tt

one_mem : (mine mem : Mem) → same_mem mem mine ≡ true → mem ≡ mine
one_mem System System h = refl
one_mem Tt Tt h = refl
one_mem Vram Vram h = refl
one_mem System Tt h = cc
one_mem System Vram h = cc
one_mem Tt System h = cc
one_mem Tt Vram h = cc
one_mem Vram System h = cc
one_mem Vram Tt h = cc

-- a buffer that isn't in VRAM has spans in TT at most
tt_alone : (mine l : Mem) → (mine ≡ System → ⊥) → (l ≡ Vram → ⊥) → same_mem Tt mine ≡ false → l ≡ mine → ⊥
tt_alone System l out n h e = out refl
tt_alone Tt l out n h e = cc
tt_alone Vram l out n h e = n e

-- ---- each entry

module _ (script : Script) (journal : List Entry) (fits : IsTrue (is_script script)) (legal : IsLegal script journal) where
  abbrev s : State
  s = state_of script journal

  abbrev gs : List Ghost
  gs = s.core.ghosts

  module _ (mine : Mem) (out : mine ≡ System → ⊥) (once : FirstOfNumber gs) (below : (i : ℕ) (g : Ghost) → slice_get gs i ≡ Some g → g.num ≤ s.last_ghost)
      (r : Resources) (representation : HoldsAsIn (size_of script mine) mine s r) where
    abbrev size : ℕ
    size = size_of script mine

    next_is_new : (g : ℕ) → g ≡ next_ghost s → find (λ h. h.num == g) gs ≡ None
    next_is_new g e = ap (λ n. find (λ (h : Ghost). h.num == n) gs) e ∙ new_number gs s.last_ghost below

    left_new : (b : BufId) (there : IsThere s b) (l : Left) → IsNext s l → HasNew size mine out s r representation b there l
    left_new b there left.Now x = tt
    left_new b there (left.Ghost g) x = next_is_new g x

    -- ---- after the calls

    -- an entry of a thread, of which is known what it tells
    pub thread_spans : (t : ℕ) (k : Kind) → next script s (actor.Thread t) ≡ Ok k → Told script s t k → HoldsAsIn size mine (applied script s (actor.Thread t) k) (behind mine k r)
    thread_spans t k h told = by k h (tells_of script s t k told)
      where
        unbound : (b : BufId) → IsThere s b → ((buffer s b).mem ≡ Vram → ⊥) → (q : Bool) → same_mem Tt mine ≡ q → HoldsAsIn size mine (after_unbind script s b) (if q then given (owner.Live b) r else r)
        unbound b there n true e = unbind_spans size mine out s r representation b there script
        unbound b there n false e = unbind_apart size mine out s r representation b there script (spans_elsewhere mine (buffer s b) (tt_alone mine (buffer s b).mem out n e))

        untargeted : (b : BufId) (mem : Mem) (spans : List Span) → next script s (actor.Thread t) ≡ Ok (kind.Take b mem spans) → same_mem mem mine ≡ true → target_spans mine (buffer s b) ≡ []
        untargeted b mem spans h e =
            let here : next script s (actor.Thread t) ≡ Ok (kind.Take b mine spans) = h ∙ ap (λ m. Ok (kind.Take b m spans)) (one_mem mine mem e) in
            no_target mine (buffer s b) ((take_sought script journal t fits legal b mine spans here).untargeted out)

        some : (b : BufId) (mem : Mem) (spans : List Span) → next script s (actor.Thread t) ≡ Ok (kind.Take b mem spans) → IsThere s b → same_mem mem mine ≡ true → 1 ≤ length spans
        some b mem spans h there e =
            let here : next script s (actor.Thread t) ≡ Ok (kind.Take b mine spans) = h ∙ ap (λ m. Ok (kind.Take b m spans)) (one_mem mine mem e) in
            (take_may_hold script journal t fits legal b mine spans r out here there once representation).some

        by : (k : Kind) → next script s (actor.Thread t) ≡ Ok k → Tells s k → HoldsAsIn size mine (applied script s (actor.Thread t) k) (behind mine k r)
        by (kind.New b) h dead = new_spans size mine s r representation script t b dead
        by (kind.Free b g) h x =
            free_spans size mine out s r representation b x.0 t g (no_target_at_all mine (buffer s b) (free_untargeted script journal t fits legal b g h)) (λ e. next_is_new g (x.1 e))
        by (kind.Take b mem spans) h there = take_spans size mine mem s b r representation t spans there (untargeted b mem spans h) (some b mem spans h there)
        by (kind.Untake b mem) h there = untake_spans size mine mem s b r representation there
        by (kind.Bind b) h x = bind_spans size mine out s r representation b x.0 script (spans_elsewhere mine (buffer s b) (λ e. out (sym e ∙ x.1)))
        by (kind.Unbind b) h x = unbound b x.0 x.1 (same_mem Tt mine) refl
        by (kind.Move b mem n l) h x = move_spans size mine out s r representation b x.0 script mem (record { ctx = 0; num = n }) l (left_new b x.0 l x.1)
        by (kind.Populate b page frame) h x = populate_spans size mine s r representation b page frame
        by (kind.SwapIn b page slot frame) h x = swap_in_spans size mine s r representation b page frame
        by (kind.SwapOut b page slot) h x = swap_out_spans size mine s r representation b page slot
        by (kind.Depopulate b) h x = depopulate_spans size mine s r representation b
        by (kind.Catch b w) h x = catch_spans size mine s r representation t b w out
        by (kind.Arm engine n) h x = arm_spans size mine s r representation script t engine n
        by (kind.Reap g) h x = reap_spans size mine out s r representation g
        by k h x = representation

    -- an entry of an engine, or of the reaper
    pub worker_spans : (who : Actor) (k : Kind) → OfWorker k → HoldsAsIn size mine (applied script s who k) (behind mine k r)
    worker_spans who k packet = representation
    worker_spans who k done = representation
    worker_spans who k (reap {g}) = reap_spans size mine out s r representation g

    -- ---- where a call asks for a fresh owner

    -- the next ghost holds nothing yet
    pub next_ghost_fresh : holds (owner.Ghost (next_ghost s)) r.held ≡ false
    next_ghost_fresh = ghost_fresh size mine s r representation (next_ghost s) (next_is_new (next_ghost s) refl)

    -- a buffer that is bound held nothing of VRAM or TT
    pub bind_fresh : (t : ℕ) (b : BufId) → Told script s t (kind.Bind b) → holds (owner.Live b) r.held ≡ false
    bind_fresh t b told =
        let x = tells_of script s t (kind.Bind b) told in live_fresh size mine s r representation b x.0 (spans_elsewhere mine (buffer s b) (λ e. out (sym e ∙ x.1)))

    -- a buffer that is moved holds nothing once it has left its spans
    pub move_fresh : (t : ℕ) (b : BufId) (mem : Mem) (n : ℕ) (l : Left) → Told script s t (kind.Move b mem n l) → holds (owner.Live b) (left_by b l r).held ≡ false
    move_fresh t b mem n l told = let x = tells_of script s t (kind.Move b mem n l) told in left_free size mine out s r representation b x.0 l (left_new b x.0 l x.1)
