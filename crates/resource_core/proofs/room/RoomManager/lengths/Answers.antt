use Rattle.std.proofs.Common.{◌<◌, ◌^◌, ap, sym, subst, ◌∙◌, arith}
use Rattle.resource_core.specs.declared.holding.OwnerKind.TheVariants as kind
use Rattle.resource_core.specs.Resources.{Resources, is_free, count_free, pages_by}
use Rattle.resource_core.proofs.CountLaws.{free_count, kinds_and_free, kind_fits}
use Rattle.resource_core.proofs.room.RoomManager.lengths.Goals as goal

pub pages_by-live-requires : goal.pages_by-live-requires
pages_by-live-requires g c = subst (λ hs. pages_by kind.Live hs < 2 ^ 32) (sym c.items-held.ensures) (kind_fits _ _ _ _ c.self.invariant.0 kind.Live g.met.M.SpanManager.most_fits)

pub pages_by-targets-requires : goal.pages_by-targets-requires
pages_by-targets-requires g c = subst (λ hs. pages_by kind.Target hs < 2 ^ 32) (sym c.items-held.ensures) (kind_fits _ _ _ _ c.self.invariant.0 kind.Target g.met.M.SpanManager.most_fits)

pub pages_by-ghosts-requires : goal.pages_by-ghosts-requires
pages_by-ghosts-requires g c = subst (λ hs. pages_by kind.Ghost hs < 2 ^ 32) (sym c.items-held.ensures) (kind_fits _ _ _ _ c.self.invariant.0 kind.Ghost g.met.M.SpanManager.most_fits)

pub returns-clause-free : goal.returns-clause-free
returns-clause-free g c = free_count _ _ _ _ _ c.self.invariant.0 c.free_pages-free.ensures ∙ ap (λ (r : Resources). count_free (is_free r.held) r.size) c.self.view_is

pub returns-clause-sum : goal.returns-clause-sum
returns-clause-sum g c =
    let k = kinds_and_free _ _ _ _ c.self.invariant.0 c.free_pages-free.result c.free_pages-free.ensures in
    let l = c.pages_by-live.ensures ∙ ap (pages_by kind.Live) c.items-held.ensures in
    let t = c.pages_by-targets.ensures ∙ ap (pages_by kind.Target) c.items-held.ensures in
    let u = c.pages_by-ghosts.ensures ∙ ap (pages_by kind.Ghost) c.items-held.ensures in
    let s = ap (λ (r : Resources). r.size) c.self.view_is in
    omega (arith, k, l, t, u, s)
