-- What moved and freed buffers left behind (ghost objects).
use Rattle.std.specs.Prelude.{◌≡◌, ℕ, List, [], ◌∷◌}
use Rattle.journal_model.specs.declared.state.Job.{Job}
use Rattle.journal_model.specs.declared.state.Ghost as state
use Rattle.room_representation.specs.declared.parts.Ghost.{Ghost}
use Rattle.room_representation.specs.Fences.{WaitsFor}

-- the ghost `r` is the ghost `g` of the state, with its jobs as a set
pub record IsGhost (jobs : List Job) (last : List ℕ) (g : state.Ghost) (r : Ghost) : Type 0 where
  pub num : r.num ≡ g.num
  pub vram : r.vram ≡ g.vram
  pub tt : r.tt ≡ g.tt
  pub frames : r.frames ≡ g.frames
  pub waits : WaitsFor jobs last g.jobs r.jobs

-- the ghosts are those of the state, one by one in their order
abbrev pub AreGhosts : List Job → List ℕ → List state.Ghost → List Ghost → Type 0
AreGhosts jobs last [] [] = Unit {0}
AreGhosts jobs last [] (r ∷ rs) = ⊥
AreGhosts jobs last (g ∷ gs) [] = ⊥
AreGhosts jobs last (g ∷ gs) (r ∷ rs) = IsGhost jobs last g r × AreGhosts jobs last gs rs
