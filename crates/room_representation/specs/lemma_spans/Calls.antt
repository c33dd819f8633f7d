-- What the calls for an entry leave of a manager.
use Rattle.std.specs.Prelude.{ℕ, ◌==◌, List, [], ◌∷◌, ◌++◌, Option, Some, if◌then◌else◌}
use Rattle.ttm_base.specs.declared.Mem.{Mem}
use Rattle.ttm_base.specs.declared.Mem.TheVariants.{Tt}
use Rattle.ttm_base.specs.declared.Span.{Span}
use Rattle.ttm_base.specs.declared.BufId.{BufId}
use Rattle.ttm_base.specs.declared.JobId.{JobId}
use Rattle.ttm_base.specs.declared.Owner.{Owner}
use Rattle.ttm_base.specs.declared.Owner.TheVariants as owner
use Rattle.ttm_base.specs.Reach.{same_mem}
use Rattle.resource_core.specs.Resources.{Resources, holds, renamed, without_owner}
use Rattle.journal_model.specs.declared.entry.Kind.{Kind}
use Rattle.journal_model.specs.declared.entry.Kind.TheVariants as kind
use Rattle.journal_model.specs.declared.entry.Left.{Left}
use Rattle.journal_model.specs.declared.entry.Left.TheVariants as left

-- ---- one call (`hold`; `give` and `pass`, where the owner holds something)

-- the resources, where the owner holds the spans, too
abbrev pub held_by : Owner → List Span → Resources → Resources
held_by o spans r = record r { held = r.held ++ record { owner = o; spans = spans } ∷ [] }

-- the resources, where the owner holds nothing
abbrev pub given : Owner → Resources → Resources
given o r = if holds o r.held then record r { held = without_owner o r.held } else r

-- the resources, where `to` has what `from` held
abbrev pub passed_on : Owner → Owner → Resources → Resources
passed_on from to r = if holds from r.held then record r { held = renamed from to r.held } else r

-- ---- the calls for an entry, in the manager of one memory type

-- the resources of `mine` once the target of buffer `b` gets spans of `mem`
abbrev pub taken : Mem → Mem → BufId → List Span → Resources → Resources
taken mine mem b spans r = if same_mem mem mine then held_by (owner.Target b) spans r else r

-- the resources of `mine` once the target of buffer `b` in `mem` gives its spans back
abbrev pub untaken : Mem → Mem → BufId → Resources → Resources
untaken mine mem b r = if same_mem mem mine then given (owner.Target b) r else r

-- the resources of `mine` once buffer `b` has the spans of its target in `mem`
abbrev pub arrived : Mem → Mem → BufId → Resources → Resources
arrived mine mem b r = if same_mem mem mine then passed_on (owner.Target b) (owner.Live b) r else r

-- the resources once buffer `b` leaves its spans free, or to a ghost
abbrev pub left_by : BufId → Left → Resources → Resources
left_by b left.Now r = given (owner.Live b) r
left_by b (left.Ghost g) r = passed_on (owner.Live b) (owner.Ghost g) r

-- the resources of `mine` once buffer `b` leaves its spans, and has those of its target in `mem`
abbrev pub carried : Mem → Mem → BufId → Left → Resources → Resources
carried mine mem b l r = arrived mine mem b (left_by b l r)

-- the resources once the freed buffer `b` leaves its spans free, or to ghost `g`, whose number isn't 0
abbrev pub freed : BufId → ℕ → Resources → Resources
freed b g r = if g == 0 then given (owner.Live b) r else passed_on (owner.Live b) (owner.Ghost g) r

-- the resources of `mine` once buffer `b`, which goes to SYSTEM, gives back what it has of TT
abbrev pub unbound_in : Mem → BufId → Resources → Resources
unbound_in mine b r = if same_mem Tt mine then given (owner.Live b) r else r

-- ---- by kind of entry

-- the resources that the calls for an entry leave
abbrev pub behind : Mem → Kind → Resources → Resources
behind mine (kind.Take b mem spans) r = taken mine mem b spans r
behind mine (kind.Untake b mem) r = untaken mine mem b r
behind mine (kind.Bind b) r = arrived mine Tt b r
behind mine (kind.Unbind b) r = unbound_in mine b r
behind mine (kind.Move b mem n l) r = carried mine mem b l r
behind mine (kind.Free b g) r = freed b g r
behind mine (kind.Reap g) r = given (owner.Ghost g) r
behind mine _ r = r

-- the move job after an entry: that of the last move of a victim
abbrev pub fence_behind : Kind → Option JobId → Option JobId
fence_behind (kind.Move b mem n left.Now) old = Some (record { ctx = 0; num = n })
fence_behind _ old = old
