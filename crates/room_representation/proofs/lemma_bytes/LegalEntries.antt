-- The pool and the swap store after one more legal entry.
use Rattle.std.proofs.Common.{◌≡◌, ℕ, ◌*◌, Bool, List, [], ◌∷◌, ◌++◌, length, Option, Some, Ok, IsTrue, refl, sym, subst, ◌∙◌, ap}
use Rattle.std.proofs.lemmas.Option.{slice_get_within}
use Rattle.ttm_base.specs.declared.Actor.{Actor}
use Rattle.ttm_base.specs.declared.Actor.TheVariants as actor
use Rattle.ttm_base.specs.declared.Loc.{Loc}
use Rattle.ttm_base.specs.declared.Loc.TheVariants as loc
use Rattle.ttm_base.specs.Pages.{PageBytes}
use Rattle.journal_model.specs.declared.entry.Entry.{Entry}
use Rattle.journal_model.specs.declared.entry.Kind.{Kind}
use Rattle.journal_model.specs.declared.entry.Kind.TheVariants as kind
use Rattle.journal_model.specs.declared.script.Script.{Script}
use Rattle.journal_model.specs.declared.state.State.{State}
use Rattle.journal_model.specs.rules.Apply.{applied}
use Rattle.journal_model.specs.rules.Holds.{held_frames, held_slots}
use Rattle.journal_model.specs.rules.Legal.{World, first_world, world_after, world_of, state_of, stores_of, IsLegal, IsLegalNext}
use Rattle.journal_model.specs.rules.Next.{next}
use Rattle.journal_model.specs.scripts.ScriptRules.{is_script}
use Rattle.journal_model.specs.rules.Stores.{showing, stores_after, within}
use Rattle.swap_store.specs.Slots.{SwapSlots}
use Rattle.laws.proofs.law_state.Shown.{legal_step}
use Rattle.laws.proofs.law_owners.Law.{owner_law}
use Rattle.laws.proofs.law_transparent.PagesLaw.{ghosts_law}
use Rattle.laws.proofs.law_transparent.Carried.{clear_law, told_law}
use Rattle.laws.proofs.law_transparent.Law.{world_push}
use Rattle.room_representation.specs.Pages.{ArePooled, AreSlots}
use Rattle.room_representation.specs.lemma_bytes.After.{pool_after, slots_after, HaveNoSlotsInTt, IsSwappedOut, Tells}
use Rattle.room_representation.proofs.lemma_bytes.Telling.{thread_tells, engine_tells, reaper_tells}
use Rattle.room_representation.proofs.lemma_bytes.Behind.{pool_behind, slots_behind}

-- ---- what is shown changes nothing

shown_pool : (script : Script) (stores : PageBytes) (s : State) (who : Actor) (k : Kind) (pool : List Bool) → pool_after s (showing script stores s who k) pool ≡ pool_after s k pool
shown_pool script stores s who (kind.Packet n i piece) pool = refl
shown_pool script stores s who (kind.Result r) pool = refl
shown_pool script stores s who k pool = refl

shown_slots : (script : Script) (stores : PageBytes) (s : State) (who : Actor) (k : Kind) (copy : List ℕ) (swap : SwapSlots) → slots_after s (showing script stores s who k) copy swap ≡ slots_after s k copy swap
shown_slots script stores s who (kind.Packet n i piece) copy swap = refl
shown_slots script stores s who (kind.Result r) copy swap = refl
shown_slots script stores s who k copy swap = refl

shown_bytes : (script : Script) (stores : PageBytes) (s : State) (who : Actor) (k : Kind) → stores_after script s who (showing script stores s who k) stores ≡ stores_after script s who k stores
shown_bytes script stores s who (kind.Packet n i piece) = refl
shown_bytes script stores s who (kind.Result r) = refl
shown_bytes script stores s who k = refl

shown_out : (script : Script) (stores : PageBytes) (s : State) (who : Actor) (k : Kind) (bytes : PageBytes) (copy : List ℕ) → IsSwappedOut s (showing script stores s who k) bytes copy → IsSwappedOut s k bytes copy
shown_out script stores s who (kind.SwapOut b page j) bytes copy h = h
shown_out script stores s who k bytes copy h = tt

module _ (script : Script) (fits : IsTrue (is_script script)) (journal : List Entry) (legal : IsLegal script journal) where
  abbrev s : State
  s = state_of script journal

  -- the table of a buffer in TT has no slot
  pub no_slots_in_tt : HaveNoSlotsInTt s.core
  no_slots_in_tt b x live in_tt i k at =
      let full = ((clear_law script fits journal legal).shapes b x live).full in_tt i (slice_get_within x.table i (loc.Slot k) at) in
      let both : ◌≡◌ {A = Option Loc} (Some (loc.Slot k)) (Some (loc.Frame full.0)) = sym at ∙ full.1 in
      cc

  -- each actor's entry tells what pool and swap store depend on
  pub next_tells : (who : Actor) (k : Kind) → next script s who ≡ Ok k → Tells script s who k
  next_tells (actor.Thread t) k h = thread_tells script s t k no_slots_in_tt (told_law script journal t k fits legal h)
  next_tells (actor.Engine e) k h = engine_tells script s e k h
  next_tells actor.Reaper k h = reaper_tells script s k (ghosts_law script journal fits legal).distinct h

  module _ (e : Entry) (more : IsLegalNext script (world_of script journal) e) where
    abbrev state_after : State
    state_after = state_of script (journal ++ e ∷ [])

    state_is : (k : Kind) → (world_after script (world_of script journal) e).state ≡ applied script s e.who k → state_after ≡ applied script s e.who k
    state_is k h = ap (λ (w : World). w.state) (world_push script (first_world script) journal e) ∙ h

    -- the pool
    pub pool_next : (pool : List Bool) → ArePooled script.sizes.frames (held_frames s.core) pool → ArePooled script.sizes.frames (held_frames state_after.core) (pool_after s e.kind pool)
    pool_next pool representation =
        let step = legal_step script (world_of script journal) e more in
        let is : e.kind ≡ showing script (stores_of script journal) s e.who step.kind = ap (λ (f : Entry). f.kind) step.entry in
        let same : pool_after s e.kind pool ≡ pool_after s step.kind pool = ap (λ k. pool_after s k pool) is ∙ shown_pool script (stores_of script journal) s e.who step.kind pool in
        subst (λ (z : State). ArePooled script.sizes.frames (held_frames z.core) (pool_after s e.kind pool)) (sym (state_is step.kind step.state))
        (subst (ArePooled script.sizes.frames (held_frames (applied script s e.who step.kind).core)) (sym same)
        (pool_behind script s e.who (owner_law script journal fits legal) step.kind pool (next_tells e.who step.kind step.step) representation))

    -- the swap store, and the bytes of its slots
    pub slots_next : (swap : SwapSlots) (copy : List ℕ) → length swap.bytes ≡ 4096 * length swap.held → IsSwappedOut s e.kind (stores_of script journal) copy →
        AreSlots script.sizes.swap (held_slots s.core) (stores_of script journal) swap → AreSlots script.sizes.swap (held_slots state_after.core) (stores_of script (journal ++ e ∷ [])) (slots_after s e.kind copy swap)
    slots_next swap copy long out representation =
        let step = legal_step script (world_of script journal) e more in
        let bytes = stores_of script journal in
        let is : e.kind ≡ showing script bytes s e.who step.kind = ap (λ (f : Entry). f.kind) step.entry in
        let same : slots_after s e.kind copy swap ≡ slots_after s step.kind copy swap = ap (λ k. slots_after s k copy swap) is ∙ shown_slots script bytes s e.who step.kind copy swap in
        let left : stores_after script s e.who e.kind bytes ≡ stores_after script s e.who step.kind bytes = ap (λ k. stores_after script s e.who k bytes) is ∙ shown_bytes script bytes s e.who step.kind in
        let all : stores_of script (journal ++ e ∷ []) ≡ within script.sizes (stores_after script s e.who step.kind bytes) =
        ap (λ (w : World). w.stores) (world_push script (first_world script) journal e) ∙ ap (within script.sizes) left in
        let copied : IsSwappedOut s step.kind bytes copy = shown_out script bytes s e.who step.kind bytes copy (subst (λ k. IsSwappedOut s k bytes copy) is out) in
        subst (λ (z : State). AreSlots script.sizes.swap (held_slots z.core) (stores_of script (journal ++ e ∷ [])) (slots_after s e.kind copy swap)) (sym (state_is step.kind step.state))
        (subst (λ a. AreSlots script.sizes.swap (held_slots (applied script s e.who step.kind).core) a (slots_after s e.kind copy swap)) (sym all)
        (subst (AreSlots script.sizes.swap (held_slots (applied script s e.who step.kind).core) (within script.sizes (stores_after script s e.who step.kind bytes))) (sym same)
        (slots_behind script s e.who (owner_law script journal fits legal) step.kind bytes swap copy no_slots_in_tt long (next_tells e.who step.kind step.step) copied representation)))
