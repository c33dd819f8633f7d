use Rattle.std.proofs.Common.{◌<◌, ◌≤◌, All, count_by, subst}
use Rattle.ttm_base.specs.declared.Span.{Span}
use Rattle.ttm_base.specs.Holes.{has_page}
use Rattle.resource_core.specs.Resources.{Resources, all_spans, AreDistinct, HaveSpans}
use Rattle.resource_core.proofs.CountLaws.{page_once, spans_some, spans_within}
use Rattle.resource_core.proofs.room.RoomManager.laws.Goals as goal

pub returns-clause-once : goal.returns-clause-once
returns-clause-once g c = λ page. subst (λ (r : Resources). count_by (has_page page) (all_spans r.held) ≤ 1) c.self.view_is (page_once _ _ _ _ c.self.invariant.0 page)

pub returns-clause-some : goal.returns-clause-some
returns-clause-some g c = subst (λ (r : Resources). All (λ (s : Span). s.start < s.end) (all_spans r.held)) c.self.view_is (spans_some _ _ _ _ c.self.invariant.0)

pub returns-clause-within : goal.returns-clause-within
returns-clause-within g c = subst (λ (r : Resources). All (λ (s : Span). s.end ≤ r.size) (all_spans r.held)) c.self.view_is (spans_within _ _ _ _ c.self.invariant.0)

pub returns-clause-owners : goal.returns-clause-owners
returns-clause-owners g c = subst (λ (r : Resources). AreDistinct r.held) c.self.view_is c.self.invariant.0.owners

pub returns-clause-spans : goal.returns-clause-spans
returns-clause-spans g c = subst (λ (r : Resources). HaveSpans r.held) c.self.view_is c.self.invariant.0.some
