-- The job that a query names is the one that the state waits for.
use Rattle.std.proofs.Common.{◌≡◌, ℕ, zero, suc, ◌<◌, List, [], ◌∷◌, Option, Some, length, refl, sym, ◌∙◌, ap}
use Rattle.std.specs.Prelude.{option_and_then, option_map, slice_get, unwrap_or}
use Rattle.ttm_base.specs.declared.BufId.{BufId}
use Rattle.ttm_base.specs.declared.Usage.{Usage}
use Rattle.ttm_base.specs.declared.Usage.TheVariants.{Kernel, Write, Read}
use Rattle.fence_core.specs.Fences.{needed}
use Rattle.bo_table.specs.declared.bo.Bo.{Bo}
use Rattle.bo_table.specs.Seen.{IsBo}
use Rattle.journal_model.specs.declared.script.Script.{Script}
use Rattle.journal_model.specs.declared.entry.Entry.{Entry}
use Rattle.journal_model.specs.declared.state.Ghost as state
use Rattle.journal_model.specs.declared.state.Job.{Job}
use Rattle.journal_model.specs.rules.State.{buffer}
use Rattle.journal_model.specs.rules.Waits.{waited_for}
use Rattle.journal_model.specs.rules.Legal.{state_of}
use Rattle.room_representation.specs.declared.parts.Parts.{Parts}
use Rattle.room_representation.specs.declared.parts.Ghost.{Ghost}
use Rattle.room_representation.specs.Fences.{fences_of, set_at}
use Rattle.room_representation.specs.Ghosts.{AreGhosts}
use Rattle.room_representation.specs.Held.{AreHeld}
use Rattle.room_representation.proofs.lemma_jobs.Needs.{set_is, write_waits, read_waits, ghost_waits}
use Rattle.room_representation.proofs.lemma_jobs.Sets.{set_length, waits_length}
use Rattle.room_queries.specs.Uses.{covering, jobs_before}
use Rattle.room_queries.proofs.Known.{get_below, rows, declared_known}

-- the set of a ghost has a place for each context
ghost_length : (jobs : List Job) (last : List ℕ) (gs : List state.Ghost) (rs : List Ghost) → AreGhosts jobs last gs rs → (i : ℕ) (r : Ghost) → slice_get rs i ≡ Some r → length r.jobs ≡ length last
ghost_length jobs last [] [] h i r e = cc
ghost_length jobs last [] (x ∷ rs) h i r e = absurd h
ghost_length jobs last (g ∷ gs) [] h i r e = absurd h
ghost_length jobs last (g ∷ gs) (x ∷ rs) h zero r e = let same : x ≡ r = cc in ap (λ (y : Ghost). length y.jobs) (sym same) ∙ waits_length jobs last g.jobs x.jobs h.0.waits
ghost_length jobs last (g ∷ gs) (x ∷ rs) h (suc i) r e = ghost_length jobs last gs rs h.1 i r e

-- both lists of ghosts have the same first number
first_number : (jobs : List Job) (last : List ℕ) (gs : List state.Ghost) (rs : List Ghost) → AreGhosts jobs last gs rs → option_map (λ (r : Ghost). r.num) (slice_get rs 0) ≡ option_map (λ (g : state.Ghost). g.num) (slice_get gs 0)
first_number jobs last [] [] h = refl
first_number jobs last [] (x ∷ rs) h = absurd h
first_number jobs last (g ∷ gs) [] h = absurd h
first_number jobs last (g ∷ gs) (x ∷ rs) h = ap Some h.0.num

module _ (script : Script) (journal : List Entry) (p : Parts) (held : AreHeld script journal p) where
  module _ (b : BufId) (declared : b.0 < length script.buffers) (bo : Bo) (is : IsBo p.bos b bo) where
    lent_set : set_at p.bos.fences b ≡ bo.resv.fences
    lent_set = ap (λ o. unwrap_or o []) is.fences

    -- the set of a lent buffer has a place for each context
    pub lent_length : length bo.resv.fences ≡ length p.timeline
    lent_length =
        let at = get_below (state_of script journal).core.buffers b.0 (declared_known script journal p held b declared) in
        ap length (sym lent_set ∙ set_is (state_of script journal).last_jobs (state_of script journal).core.buffers p.bos.fences held.represents.bos.fences_are b at.0 at.1)
        ∙ set_length (length (state_of script journal).last_jobs) (fences_of at.0) ∙ sym held.represents.timeline.contexts

    -- what it asks for, by use
    pub lent_need : (how : Usage) → needed (covering how) p.timeline bo.resv.fences ≡ waited_for (state_of script journal).core (jobs_before how (buffer (state_of script journal) b))
    lent_need how = ap (needed (covering how) p.timeline) (sym lent_set) ∙ by how
      where
        write : needed Read p.timeline (set_at p.bos.fences b) ≡ waited_for (state_of script journal).core (jobs_before Write (buffer (state_of script journal) b))
        write =
            let at = get_below (state_of script journal).core.buffers b.0 (declared_known script journal p held b declared) in
            write_waits (state_of script journal).core (state_of script journal).last_jobs p.timeline (rows script journal p held) held.represents.timeline p.bos.fences held.represents.bos.fences_are b at.0 at.1

        by : (u : Usage) → needed (covering u) p.timeline (set_at p.bos.fences b) ≡ waited_for (state_of script journal).core (jobs_before u (buffer (state_of script journal) b))
        by Kernel = write
        by Write = write
        by Read =
            let at = get_below (state_of script journal).core.buffers b.0 (declared_known script journal p held b declared) in
            read_waits (state_of script journal).core (state_of script journal).last_jobs p.timeline (rows script journal p held) held.represents.timeline p.bos.fences held.represents.bos.fences_are b at.0 at.1

  -- the set of a ghost has a place for each context
  pub ghost_known : (i : ℕ) (r : Ghost) → slice_get p.ghosts i ≡ Some r → length r.jobs ≡ length p.timeline
  ghost_known i r e = ghost_length (state_of script journal).core.jobs (state_of script journal).last_jobs (state_of script journal).core.ghosts p.ghosts held.represents.ghosts i r e ∙ sym held.represents.timeline.contexts

  -- a ghost waits for what the state's does
  pub ghost_needs : (i : ℕ) (o : Option Ghost) → slice_get p.ghosts i ≡ o →
      option_and_then (λ (r : Ghost). needed Read p.timeline r.jobs) o ≡ option_and_then (λ (g : state.Ghost). waited_for (state_of script journal).core g.jobs) (slice_get (state_of script journal).core.ghosts i)
  ghost_needs i o e =
      ap (option_and_then (λ (r : Ghost). needed Read p.timeline r.jobs)) (sym e)
      ∙ ghost_waits (state_of script journal).core.jobs (state_of script journal).last_jobs p.timeline (rows script journal p held) held.represents.timeline (state_of script journal).core.ghosts p.ghosts held.represents.ghosts i

  -- the first ghost is the state's
  pub ghost_first : (o : Option Ghost) → slice_get p.ghosts 0 ≡ o → option_map (λ (r : Ghost). r.num) o ≡ option_map (λ (g : state.Ghost). g.num) (slice_get (state_of script journal).core.ghosts 0)
  ghost_first o e = ap (option_map (λ (r : Ghost). r.num)) (sym e) ∙ first_number (state_of script journal).core.jobs (state_of script journal).last_jobs (state_of script journal).core.ghosts p.ghosts held.represents.ghosts
