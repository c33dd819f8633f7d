-- What the test of two spans says.
use Rattle.std.proofs.Common.{◌≡◌, ℕ, true, ap, ◌∙◌, arith}
use Rattle.std.specs.Prelude.{◌==◌, ◌&&◌}
use Rattle.std.specs.Bool.{Decides}
use Rattle.std.proofs.lemmas.Bool.Decides.{nat_tests}
use Rattle.ttm_base.specs.declared.Span.{Span}

same_ends : (a b : Span) → ((a.start == b.start) && (a.end == b.end)) ≡ true → a ≡ b
same_ends a b h =
    let starts : a.start ≡ b.start = grind (arith, nat_tests) in
    let ends : a.end ≡ b.end = grind (arith, nat_tests) in
    ap (λ (n : ℕ). let s : Span = record { start = n; end = a.end } in s) starts ∙ ap (λ (n : ℕ). let s : Span = record { start = b.start; end = n } in s) ends

ends_same : (a b : Span) → a ≡ b → ((a.start == b.start) && (a.end == b.end)) ≡ true
ends_same a b h =
    let starts : a.start ≡ b.start = ap (λ (s : Span). s.start) h in
    let ends : a.end ≡ b.end = ap (λ (s : Span). s.end) h in
    grind (arith, nat_tests)

-- it is true where they are one
pub span_decides : (a b : Span) → Decides ((a.start == b.start) && (a.end == b.end)) (a ≡ b)
span_decides a b = (same_ends a b, ends_same a b)
