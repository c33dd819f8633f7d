-- What a search finds, as a span.
use Rattle.std.proofs.Common.{◌≡◌, Bor, Option, Some, None, ap}
use Rattle.std.specs.Prelude.{option_map, MatchOption, IsSomeAnd}
use Rattle.ttm_base.specs.declared.Span.{Span}

-- where a closure gives what a reference holds, so does `map`
pub mapped : {P : Bor Span → Span → Type 0} (o : Option (Bor Span)) (r : Option Span) → ((x : Bor Span) (y : Span) → P x y → y ≡ x.now) → MatchOption o (r ≡ None) (λ x. IsSomeAnd r (P x)) → r ≡ option_map (λ (h : Bor Span). h.now) o
mapped None r f m = m
mapped (Some x) None f m = absurd m
mapped (Some x) (Some y) f m = ap (λ z. Some z) (f x y m)
