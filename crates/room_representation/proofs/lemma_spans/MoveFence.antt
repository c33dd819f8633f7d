-- The move job of a manager: it stays behind the calls for an entry, and an eviction sets it (man->move).
use Rattle.std.proofs.Common.{◌≡◌, ℕ, Bool, true, false, List, Option, refl, ◌∙◌}
use Rattle.std.specs.Prelude.{◌==◌, if◌then◌else◌}
use Rattle.ttm_base.specs.declared.Mem.{Mem}
use Rattle.ttm_base.specs.declared.Mem.TheVariants.{Tt}
use Rattle.ttm_base.specs.declared.Actor.{Actor}
use Rattle.ttm_base.specs.declared.JobId.{JobId}
use Rattle.ttm_base.specs.declared.Owner.{Owner}
use Rattle.ttm_base.specs.declared.Owner.TheVariants as owner
use Rattle.ttm_base.specs.declared.BufId.{BufId}
use Rattle.ttm_base.specs.declared.Span.{Span}
use Rattle.ttm_base.specs.Reach.{same_mem}
use Rattle.resource_core.specs.Resources.{Resources, holds, renamed, without_owner}
use Rattle.journal_model.specs.declared.script.Script.{Script}
use Rattle.journal_model.specs.declared.entry.Kind.{Kind}
use Rattle.journal_model.specs.declared.entry.Kind.TheVariants as kind
use Rattle.journal_model.specs.declared.entry.Left.{Left}
use Rattle.journal_model.specs.declared.entry.Left.TheVariants as left
use Rattle.journal_model.specs.declared.state.State.{State}
use Rattle.journal_model.specs.rules.Apply.{applied}
use Rattle.room_representation.specs.lemma_spans.Owned.{HoldsAs}
use Rattle.room_representation.specs.lemma_spans.Calls.{held_by, given, passed_on, taken, untaken, arrived, left_by, carried, freed, unbound_in, behind, fence_behind}

given_fence : (o : Owner) (r : Resources) → (given o r).move_fence ≡ r.move_fence
given_fence o r = by (holds o r.held)
  where
    by : (q : Bool) → (if q then record r { held = without_owner o r.held } else r).move_fence ≡ r.move_fence
    by true = refl
    by false = refl

passed_fence : (from to : Owner) (r : Resources) → (passed_on from to r).move_fence ≡ r.move_fence
passed_fence from to r = by (holds from r.held)
  where
    by : (q : Bool) → (if q then record r { held = renamed from to r.held } else r).move_fence ≡ r.move_fence
    by true = refl
    by false = refl

pub taken_fence : (mine mem : Mem) (b : BufId) (spans : List Span) (r : Resources) → (taken mine mem b spans r).move_fence ≡ r.move_fence
taken_fence mine mem b spans r = by (same_mem mem mine)
  where
    by : (q : Bool) → (if q then held_by (owner.Target b) spans r else r).move_fence ≡ r.move_fence
    by true = refl
    by false = refl

pub untaken_fence : (mine mem : Mem) (b : BufId) (r : Resources) → (untaken mine mem b r).move_fence ≡ r.move_fence
untaken_fence mine mem b r = by (same_mem mem mine)
  where
    by : (q : Bool) → (if q then given (owner.Target b) r else r).move_fence ≡ r.move_fence
    by true = given_fence (owner.Target b) r
    by false = refl

arrived_fence : (mine mem : Mem) (b : BufId) (r : Resources) → (arrived mine mem b r).move_fence ≡ r.move_fence
arrived_fence mine mem b r = by (same_mem mem mine)
  where
    by : (q : Bool) → (if q then passed_on (owner.Target b) (owner.Live b) r else r).move_fence ≡ r.move_fence
    by true = passed_fence (owner.Target b) (owner.Live b) r
    by false = refl

left_fence : (b : BufId) (l : Left) (r : Resources) → (left_by b l r).move_fence ≡ r.move_fence
left_fence b left.Now r = given_fence (owner.Live b) r
left_fence b (left.Ghost g) r = passed_fence (owner.Live b) (owner.Ghost g) r

carried_fence : (mine mem : Mem) (b : BufId) (l : Left) (r : Resources) → (carried mine mem b l r).move_fence ≡ r.move_fence
carried_fence mine mem b l r = arrived_fence mine mem b (left_by b l r) ∙ left_fence b l r

freed_fence : (b : BufId) (g : ℕ) (r : Resources) → (freed b g r).move_fence ≡ r.move_fence
freed_fence b g r = by (g == 0)
  where
    by : (q : Bool) → (if q then given (owner.Live b) r else passed_on (owner.Live b) (owner.Ghost g) r).move_fence ≡ r.move_fence
    by true = given_fence (owner.Live b) r
    by false = passed_fence (owner.Live b) (owner.Ghost g) r

unbound_fence : (mine : Mem) (b : BufId) (r : Resources) → (unbound_in mine b r).move_fence ≡ r.move_fence
unbound_fence mine b r = by (same_mem Tt mine)
  where
    by : (q : Bool) → (if q then given (owner.Live b) r else r).move_fence ≡ r.move_fence
    by true = given_fence (owner.Live b) r
    by false = refl

-- the calls for an entry keep the move job
pub behind_fence : (mine : Mem) (k : Kind) (r : Resources) → (behind mine k r).move_fence ≡ r.move_fence
behind_fence mine (kind.Take b mem spans) r = taken_fence mine mem b spans r
behind_fence mine (kind.Untake b mem) r = untaken_fence mine mem b r
behind_fence mine (kind.Bind b) r = arrived_fence mine Tt b r
behind_fence mine (kind.Unbind b) r = unbound_fence mine b r
behind_fence mine (kind.Move b mem n l) r = carried_fence mine mem b l r
behind_fence mine (kind.Free b g) r = freed_fence b g r
behind_fence mine (kind.Reap g) r = given_fence (owner.Ghost g) r
behind_fence mine k r = refl

-- a manager that is given a move job keeps its holdings
pub fence_representation : (size : ℕ) (f : Owner → List Span) (r : Resources) (job : Option JobId) → HoldsAs size f r → HoldsAs size f (record r { move_fence = job })
fence_representation size f r job representation = record { size_is = representation.size_is; owners = representation.owners; each = representation.each }

-- the state's move job is another after an eviction alone
pub fence_is : (script : Script) (s : State) (who : Actor) (k : Kind) → (applied script s who k).core.move_fence ≡ fence_behind k s.core.move_fence
fence_is script s who (kind.Move b mem n left.Now) = refl
fence_is script s who (kind.Move b mem n (left.Ghost g)) = refl
fence_is script s who k = refl
