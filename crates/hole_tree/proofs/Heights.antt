-- A balanced tree is low.
use Rattle.std.proofs.Common.{◌≡◌, ℕ, suc, ◌+◌, ◌*◌, ◌^◌, ◌≤◌, max, ◌∷◌, ◌++◌, length, ap, ◌⊎◌, inl, inr, arith, length-append, add-one}
use Rattle.std.proofs.Math.Nat.{mul-add, add-mul, pow-suc, mul-le-mul_left, mul_comm}
use Rattle.std.proofs.lemmas.Bool.{cases_lt}
use Rattle.ttm_base.specs.declared.Span.{Span}
use Rattle.hole_tree.specs.Shape.{Shape, IsLow}
use Rattle.hole_tree.specs.Leaning.{Leans}
use Rattle.hole_tree.specs.Trees.{DifferBy}
use Rattle.hole_tree.specs.declared.lean.Lean.{Lean}
use Rattle.hole_tree.specs.declared.lean.Lean.TheVariants.{Left, Even, Right}

expand : (a b : ℕ) → (a + b) * (a + b) ≡ a * a + (a * b + (a * b + b * b))
expand a b =
    let e : (a + b) * (a + b) ≡ (a + b) * a + (a + b) * b = mul-add (a + b) a b in
    let f : (a + b) * a ≡ a * a + b * a = add-mul a b a in
    let g : (a + b) * b ≡ a * b + b * b = add-mul a b b in
    let c : b * a ≡ a * b = mul_comm b a in
    omega arith

double : (h : ℕ) → 2 ^ (h + 1) ≡ 2 ^ h + 2 ^ h
double h =
    let e : 2 ^ suc h ≡ 2 ^ h * 2 = pow-suc 2 h in
    let f : 2 ^ (h + 1) ≡ 2 ^ suc h = ap (λ n. 2 ^ n) (add-one h) in
    omega arith

-- the product of both sides is at least the smaller square
product : (a b : ℕ) → (a * a ≤ a * b) ⊎ (b * b ≤ a * b)
product a b = elim (cases_lt a b) [
  | inl p ↦ inl (let q : a ≤ b = omega arith in mul-le-mul_left a q)
  | inr p ↦ inr (let q : b * b ≤ b * a = mul-le-mul_left b p in let c : b * a ≡ a * b = mul_comm b a in omega arith)
]

same_levels : (a b h : ℕ) → 2 ^ h ≤ a * a → 2 ^ h ≤ b * b → 2 ^ (h + 1) ≤ (a + b) * (a + b)
same_levels a b h p q = omega (arith, double h, expand a b)

one_higher : (a b h : ℕ) → 2 ^ (h + 1) ≤ a * a → 2 ^ h ≤ b * b → 2 ^ ((h + 1) + 1) ≤ (a + b) * (a + b)
one_higher a b h p q = elim (product a b) [
  | inl r ↦ omega (arith, double h, double (h + 1), expand a b)
  | inr r ↦ omega (arith, double h, double (h + 1), expand a b)
]

swapped : (a b : ℕ) → (a + b) * (a + b) ≡ (b + a) * (b + a)
swapped a b = let e : a + b ≡ b + a = omega arith in ap (λ n. n * n) e

squares : (a b l r h : ℕ) → 2 ^ l ≤ a * a → 2 ^ r ≤ b * b → DifferBy 1 l r → h ≡ max l r + 1 → 2 ^ h ≤ (a + b) * (a + b)
squares a b l r h p q d e = elim (cases_lt l r) [
  | inl s ↦
      let f : r ≡ l + 1 = omega (arith, d.left, d.right) in
      let g : h ≡ (l + 1) + 1 = omega arith in
      let k : 2 ^ h ≤ (b + a) * (b + a) = rw g (one_higher b a l (rw f at q) p) in
      omega (arith, swapped a b)
  | inr s ↦ elim (cases_lt r l) [
    | inl t ↦
        let f : l ≡ r + 1 = omega (arith, d.left, d.right) in
        let g : h ≡ (r + 1) + 1 = omega arith in
        rw g (one_higher a b r (rw f at p) q)
    | inr t ↦
        let f : r ≡ l = omega arith in
        let g : h ≡ l + 1 = omega arith in
        rw g (same_levels a b l p (rw f at q))
  ]
]

-- a node whose sides are low and balanced is low
pub low_node : (l r : Shape) (k : Span) (h : ℕ) → IsLow l → IsLow r → DifferBy 1 l.height r.height → h ≡ max l.height r.height + 1 → IsLow (record { spans = l.spans ++ k ∷ r.spans; height = h })
low_node l r k h p q d e =
    let n : length (l.spans ++ k ∷ r.spans) ≡ length l.spans + length r.spans + 1 = omega (arith, length-append l.spans (k ∷ r.spans)) in
    let m : length (l.spans ++ k ∷ r.spans) + 1 ≡ (length l.spans + 1) + (length r.spans + 1) = omega arith in
    record {
      fewer = omega (arith, p.fewer, q.fewer, d.left, d.right);
      square = rw m (squares (length l.spans + 1) (length r.spans + 1) l.height r.height h p.square q.square d e);
    }

pub differ : (d : Lean) (l r : ℕ) → Leans d l r → DifferBy 1 l r
differ Left l r h = record { left = omega arith; right = omega arith }
differ Even l r h = record { left = omega arith; right = omega arith }
differ Right l r h = record { left = omega arith; right = omega arith }

-- sides that have the same levels more lean alike
pub leans_up : (d : Lean) (l r a : ℕ) → Leans d l r → Leans d (l + a) (r + a)
leans_up Left l r a h = omega arith
leans_up Even l r a h = omega arith
leans_up Right l r a h = omega arith
