-- The blocks inside a range.
use Rattle.std.proofs.Common.{◌≡◌, ℕ, ◌+◌, ◌-◌, ◌*◌, ◌/◌, ◌^◌, ◌≤◌, true, false, ap, sym, ◌∙◌, subst, arith, leb, mul-div_cancel}
use Rattle.std.proofs.lemmas.Bool.{and_parts, and_from, leb-true, le-leb}
use Rattle.ttm_base.specs.declared.Span.{Span}
use Rattle.ttm_base.specs.Reach.{is_inside}
use Rattle.block_tree.specs.declared.request.Request.{Request}
use Rattle.block_tree.specs.Searching.{numbered, IsIn, IsAhead, IsFit}
use Rattle.block_tree.proofs.Numbers.{some_pages, small_pow, less_number, block_pages, block_end, in_block, as_smaller}

pub inside_parts : (s b : Span) → is_inside s b ≡ true → (s.start ≤ b.start) × (b.end ≤ s.end)
inside_parts s b h = let p = and_parts (leb s.start b.start) (leb b.end s.end) h in (leb-true s.start b.start p.0, leb-true b.end s.end p.1)

pub inside_from : (s b : Span) → s.start ≤ b.start → b.end ≤ s.end → is_inside s b ≡ true
inside_from s b l u = and_from (leb s.start b.start) (leb b.end s.end) (le-leb s.start b.start l) (le-leb b.end s.end u)

all_fit : (r : Request) (o q : ℕ) → r.range.start ≤ q * 2 ^ o → q * 2 ^ o + 2 ^ o ≤ r.range.end → r.order ≤ o → (i : ℕ) → IsIn o q r.order i → is_inside r.range (numbered r.order i) ≡ true
all_fit r o q l u k i e =
    let b = block_pages (i * 2 ^ r.order) o q e in
    let z = block_end i r.order o q k e in
    inside_from r.range (numbered r.order i) (omega (arith, b.0)) (omega (arith, z))

-- the blocks of a block inside the range
pub fit_lowest : (r : Request) (o q : ℕ) → r.order ≤ o → r.range.start ≤ q * 2 ^ o → q * 2 ^ o + 2 ^ o ≤ r.range.end → r.topdown ≡ false → IsFit r o q (q * 2 ^ (o - r.order))
fit_lowest r o q k l u d =
    let i : ℕ = q * 2 ^ (o - r.order) in
    let s : q * 2 ^ o ≡ i * 2 ^ r.order = as_smaller q o r.order k in
    let within : IsIn o q r.order i = ap (λ n. n / 2 ^ o) (sym s) ∙ mul-div_cancel q (some_pages o) in
    record {
      within = within;
      inside = all_fit r o q l u k i within;
      first = λ m e t. subst (λ t. IsAhead t i m) (sym d) (less_number i m r.order (let b = (block_pages (m * 2 ^ r.order) o q e).0 in omega (arith, b, s)));
    }

pub fit_highest : (r : Request) (o q i : ℕ) → r.order ≤ o → r.range.start ≤ q * 2 ^ o → q * 2 ^ o + 2 ^ o ≤ r.range.end → r.topdown ≡ true → i + 1 ≡ (q + 1) * 2 ^ (o - r.order) → IsFit r o q i
fit_highest r o q i k l u d h =
    let s : (q + 1) * 2 ^ o ≡ (i + 1) * 2 ^ r.order = as_smaller (q + 1) o r.order k ∙ ap (λ n. n * 2 ^ r.order) (sym h) in
    let p = some_pages r.order in
    let n : 2 ^ r.order ≤ 2 ^ o = small_pow r.order o k in
    let within : IsIn o q r.order i = in_block (i * 2 ^ r.order) o q (omega (arith, s, n)) (omega (arith, s, p)) in
    record {
      within = within;
      inside = all_fit r o q l u k i within;
      first = λ m e t. let b = block_end m r.order o q k e in let f : m + 1 ≤ i + 1 = less_number (m + 1) (i + 1) r.order (omega (arith, b, s)) in subst (λ t. IsAhead t i m) (sym d) (let g : m ≤ i = omega (arith, f) in g);
    }
