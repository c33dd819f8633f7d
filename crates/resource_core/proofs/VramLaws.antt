-- What a room of either kind gives, by what it is seen as.
use Rattle.std.proofs.Common.{◌≡◌, ℕ, List, Some, None, Err, Result, sym, subst, ◌∙◌}
use Rattle.std.specs.Prelude.{IfOk}
use Rattle.ttm_base.specs.declared.Span.{Span}
use Rattle.ttm_base.specs.declared.Place.{Place}
use Rattle.resource_core.specs.declared.manager.TakeFault.{TakeFault}
use Rattle.resource_core.specs.declared.manager.TakeFault.TheVariants.{NoRoom}
use Rattle.resource_core.specs.Resources.{is_free}
use Rattle.resource_core.specs.Vram.{Vram, spans_of_kind}

module _ (v now : Vram) (r result : Result (List Span) TakeFault) (pages align : ℕ) (place : Place) (seen : v ≡ now) (same : result ≡ r) where
  pub gives : IfOk r (λ spans. spans_of_kind v.kind (is_free v.resources.held) v.resources.size pages align place ≡ Some spans)
      → IfOk result (λ spans. spans_of_kind now.kind (is_free now.resources.held) now.resources.size pages align place ≡ Some spans)
  gives h =
      subst (λ (v : Vram). IfOk result (λ spans. spans_of_kind v.kind (is_free v.resources.held) v.resources.size pages align place ≡ Some spans)) seen
      (subst (λ r. IfOk r (λ spans. spans_of_kind v.kind (is_free v.resources.held) v.resources.size pages align place ≡ Some spans)) (sym same) h)

  pub has_none : (r ≡ Err NoRoom → spans_of_kind v.kind (is_free v.resources.held) v.resources.size pages align place ≡ None)
      → result ≡ Err NoRoom → spans_of_kind now.kind (is_free now.resources.held) now.resources.size pages align place ≡ None
  has_none h e = subst (λ (v : Vram). spans_of_kind v.kind (is_free v.resources.held) v.resources.size pages align place ≡ None) seen (h (sym same ∙ e))
