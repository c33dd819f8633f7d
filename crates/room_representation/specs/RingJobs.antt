-- The jobs that aren't done, context by context (drm_sched's rings).
use Rattle.std.specs.Prelude.{◌≡◌, ℕ, ◌<◌, List, [], ◌∷◌, length}
use Rattle.copy_engine.specs.Pushes.{Pushed, ring_of}
use Rattle.journal_model.specs.declared.state.Job.{Job}
use Rattle.laws.specs.law_jobs.JobLines.{unfinished_of}
use Rattle.room_representation.specs.Fences.{WaitsFor}

-- the job `p` of a ring is the job `j` of the state
pub record IsPushed (jobs : List Job) (last : List ℕ) (j : Job) (p : Pushed) : Type 0 where
  pub job : p.job ≡ j.id
  pub packets : p.packets ≡ j.packets
  pub ran : p.ran ≡ j.ran
  pub waits : WaitsFor jobs last j.waits p.waits

-- the jobs of a ring are those of the list, one by one in their order
abbrev pub IsRing : List Job → List ℕ → List Job → List Pushed → Type 0
IsRing jobs last [] [] = Unit {0}
IsRing jobs last [] (p ∷ ps) = ⊥
IsRing jobs last (j ∷ js) [] = ⊥
IsRing jobs last (j ∷ js) (p ∷ ps) = IsPushed jobs last j p × IsRing jobs last js ps

-- each ring has the jobs of its context that aren't done, the head first
pub record AreRings (jobs : List Job) (last : List ℕ) (rings : List (List Pushed)) : Type 0 where
  pub contexts : length rings ≡ length last
  pub each : (ctx : ℕ) → ctx < length last → IsRing jobs last (unfinished_of ctx jobs) (ring_of rings ctx)
