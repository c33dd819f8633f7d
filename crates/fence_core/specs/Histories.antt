-- A set of latest jobs stands for every job that was added to it: it names the same job to wait for.
use Rattle.std.specs.Prelude.{ℕ, ◌<◌, Bool, true, false, not, ◌&&◌, ◌||◌, ◌==◌, nat_lt, List, [], ◌∷◌, Option, Some, None, if◌then◌else◌, filter, map, replicate}
use Rattle.ttm_base.specs.declared.Fence.{Fence}
use Rattle.ttm_base.specs.declared.JobId.{JobId}
use Rattle.ttm_base.specs.declared.Usage.{Usage}
use Rattle.ttm_base.specs.declared.Usage.TheVariants.{Kernel, Write, Read}
use Rattle.fence_core.specs.declared.timeline.Progress.{Progress}
use Rattle.fence_core.specs.declared.fence_set.Latest.{Latest}
use Rattle.fence_core.specs.Timelines.{is_signalled}
use Rattle.fence_core.specs.Fences.{nothing_kept, added}

-- a set after each of these fences was added
abbrev pub after_adds : List Latest → List Fence → List Latest
after_adds set [] = set
after_adds set (f ∷ fences) = after_adds (added set f.job f.usage) fences

-- what a set that was empty keeps of these fences
abbrev pub set_of : ℕ → List Fence → List Latest
set_of contexts fences = after_adds (replicate contexts nothing_kept) fences

-- each of these fences has one of the contexts that there are
abbrev pub AreKnown : ℕ → List Fence → Type 0
AreKnown contexts [] = Unit {0}
AreKnown contexts (f ∷ fences) = (f.job.ctx < contexts) × AreKnown contexts fences

-- whether the second usage is the first or a lower one
abbrev pub covers : Usage → Usage → Bool
covers Kernel Kernel = true
covers Kernel Write = false
covers Kernel Read = false
covers Write Kernel = true
covers Write Write = true
covers Write Read = false
covers Read how = true

-- whether the fence has that usage or a lower one
abbrev pub is_covered : Usage → Fence → Bool
is_covered how f = covers how f.usage

-- whether the fence has that usage or a lower one, and its job isn't signalled
abbrev pub is_waited_for : Usage → List Progress → Fence → Bool
is_waited_for how timeline f = is_covered how f && not (is_signalled timeline f.job)

-- the jobs of that usage and the lower ones that aren't signalled
abbrev pub waiting : Usage → List Progress → List Fence → List JobId
waiting how timeline fences = map (λ f. f.job) (filter (is_waited_for how timeline) fences)
