-- A chain of links meets nothing twice, and a walk along it gives it back.
use Rattle.std.proofs.Common.{◌≡◌, ◌≢◌, ℕ, zero, suc, ◌<◌, ◌≤◌, true, false, eqb, List, [], ◌∷◌, length, map, refl, sym, ap, subst, ◌∙◌, arith}
use Rattle.std.specs.List.{IsDistinct, list_any, AllByRecursion}
use Rattle.std.proofs.lemmas.Bool.Decides.{nat_tests}
use Rattle.std.proofs.lemmas.List.{length-map}
use Rattle.std.proofs.lemmas.Map.Steps.{length-le_from_distinct_below}
use Rattle.ttm_base.specs.declared.BufId.{BufId}
use Rattle.lru_bulk.specs.declared.nodes.Spot.{Spot}
use Rattle.lru_bulk.specs.declared.nodes.Spot.TheVariants.{End, Of}
use Rattle.lru_bulk.specs.Rings.{Each, Path}
use Rattle.lru_bulk.specs.Sound.{walk}
use Rattle.lru_bulk.proofs.Paths.{NotIn, Distinct}

module _ {S : Type 0} (n p : S → S) where
  same_length : (a : S) (c d : List S) (z : S) → Path n p a c z → Path n p a d z → NotIn z c → NotIn z d → length c ≡ length d
  same_length a [] [] z h k hn kn = refl
  same_length a [] (m ∷ d) z h k hn kn = absurd (kn.0 (sym k.0 ∙ h.0))
  same_length a (m ∷ c) [] z h k hn kn = absurd (hn.0 (sym h.0 ∙ k.0))
  same_length a (m ∷ c) (o ∷ d) z h k hn kn =
      let one : o ≡ m = sym k.0 ∙ h.0 in
      ap suc (same_length m c d z h.2 (subst (λ s. Path n p s d z) one k.2) hn.1 kn.1)

  later : (k : S) (full : List S) (z m : S) (c : List S) → Path n p k full z → NotIn z full → Path n p m c z → NotIn z c → length c ≤ length full → NotIn k c
  later k full z m [] h hn w wn le = tt
  later k full z m (o ∷ c) h hn w wn le = (
    λ same.
        let long : length full ≡ length c = same_length k full c z h (subst (λ s. Path n p s c z) same w.2) hn wn.1 in
        omega arith,
    later k full z o c h hn w.2 wn.1 (omega arith),
  )

  pub path_distinct : (a : S) (c : List S) (z : S) → Path n p a c z → NotIn z c → Distinct c
  path_distinct a [] z h hn = tt
  path_distinct a (k ∷ c) z h hn = (later k c z k c h.2 hn.1 h.2 hn.1 (omega arith), path_distinct k c z h.2 hn.1)

pub of_not_end : (i : ℕ) (l : List BufId) → NotIn (End i) (map Of l)
of_not_end i [] = tt
of_not_end i (b ∷ l) = ((λ e. cc), of_not_end i l)

-- the buffers of a ring are different
pub ring_distinct : (n p : Spot → Spot) (i : ℕ) (l : List BufId) → Path n p (End i) (map Of l) (End i) → Distinct (End i ∷ map Of l)
ring_distinct n p i l h = (of_not_end i l, path_distinct n p (End i) (map Of l) (End i) h (of_not_end i l))

at_end : (next : Spot → Spot) (k i : ℕ) → walk next k (End i) ≡ []
at_end next zero i = refl
at_end next (suc k) i = refl

-- a walk with room enough
pub walk_path : (n p : Spot → Spot) (k : ℕ) (a : Spot) (l : List BufId) (i : ℕ) → Path n p a (map Of l) (End i) → length l ≤ k → walk n k (n a) ≡ l
walk_path n p k a [] i h le = ap (walk n k) h.0 ∙ at_end n k i
walk_path n p zero a (b ∷ l) i h le = absurd (omega arith)
walk_path n p (suc k) a (b ∷ l) i h le = ap (walk n (suc k)) h.0 ∙ ap (λ (m : List BufId). b ∷ m) (walk_path n p k (Of b) l i h.2 (omega arith))

-- the numbers of different buffers are different
number_not_in : (b : BufId) (l : List BufId) → NotIn (Of b) (map Of l) → AllByRecursion (λ y. eqb b.0 y ≡ false) (map (λ c. c.0) l)
number_not_in b [] h = tt
number_not_in b (c ∷ l) h =
    let ne : b.0 ≢ c.0 = λ e. h.0 (ap (λ m. Of (record { 0 = m })) (sym e)) in
    (grind (arith, nat_tests), number_not_in b l h.1)

numbers_distinct : (l : List BufId) → Distinct (map Of l) → IsDistinct eqb (map (λ c. c.0) l)
unfolding IsDistinct
numbers_distinct [] h = tt
numbers_distinct (b ∷ l) h = (number_not_in b l h.0, numbers_distinct l h.1)

numbers_below : (l : List BufId) (n q : ℕ) → Each (λ b. b.0 < n) l → list_any (eqb q) (map (λ c. c.0) l) ≡ true → q < n
numbers_below [] n q h found = absurd (cc)
numbers_below (b ∷ l) n q h found =
    let rest : list_any (eqb q) (map (λ c. c.0) l) ≡ true → q < n = numbers_below l n q h.1 in
    let here : b.0 < n = h.0 in
    grind (arith, nat_tests)

-- there are no more of them than numbers
pub length_below : (l : List BufId) (n : ℕ) → Distinct (map Of l) → Each (λ b. b.0 < n) l → length l ≤ n
length_below l n d h =
    let e = length-map l (λ (b : BufId). b.0) in
    let le = length-le_from_distinct_below (map (λ c. c.0) l) n (numbers_distinct l d) (λ q found. numbers_below l n q h found) in
    omega arith
