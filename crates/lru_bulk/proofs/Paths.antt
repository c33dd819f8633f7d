-- Chains of links, cut, joined and led elsewhere.
use Rattle.std.proofs.Common.{◌≡◌, ◌≢◌, List, [], ◌∷◌, ◌++◌, sym, ap, subst, ◌∙◌}
use Rattle.lru_bulk.specs.Rings.{Each, Path}

-- what holds of all, or follows at each element
pub each_of_all : {X : Type 0} (P : X → Type 0) → ((x : X) → P x) → (l : List X) → Each P l
each_of_all P f [] = tt
each_of_all P f (x ∷ l) = (f x, each_of_all P f l)

pub each_map : {X : Type 0} (P Q : X → Type 0) → ((x : X) → P x → Q x) → (l : List X) → Each P l → Each Q l
each_map P Q f [] h = tt
each_map P Q f (x ∷ l) h = (f x h.0, each_map P Q f l h.1)

pub each_two : {X : Type 0} (P Q R : X → Type 0) → ((x : X) → P x → Q x → R x) → (l : List X) → Each P l → Each Q l → Each R l
each_two P Q R f [] h k = tt
each_two P Q R f (x ∷ l) h k = (f x h.0 k.0, each_two P Q R f l h.1 k.1)

pub each_append : {X : Type 0} (P : X → Type 0) (l m : List X) → Each P l → Each P m → Each P (l ++ m)
each_append P [] m h k = k
each_append P (x ∷ l) m h k = (h.0, each_append P l m h.1 k)

pub each_left : {X : Type 0} (P : X → Type 0) (l m : List X) → Each P (l ++ m) → Each P l
each_left P [] m h = tt
each_left P (x ∷ l) m h = (h.0, each_left P l m h.1)

pub each_right : {X : Type 0} (P : X → Type 0) (l m : List X) → Each P (l ++ m) → Each P m
each_right P [] m h = h
each_right P (x ∷ l) m h = each_right P l m h.1

module _ {S : Type 0} where
  -- s is none of them, all are different, and none of the first is one of the second
  abbrev pub NotIn : S → List S → Type 0
  NotIn s l = Each (λ t. t ≢ s) l

  abbrev pub Distinct : List S → Type 0
  Distinct [] = Unit {0}
  Distinct (x ∷ xs) = NotIn x xs × Distinct xs

  abbrev pub Apart : List S → List S → Type 0
  Apart l m = Each (λ s. NotIn s m) l

  pub distinct_left : (l m : List S) → Distinct (l ++ m) → Distinct l
  distinct_left [] m h = tt
  distinct_left (x ∷ l) m h = (each_left (λ t. t ≢ x) l m h.0, distinct_left l m h.1)

  pub distinct_right : (l m : List S) → Distinct (l ++ m) → Distinct m
  distinct_right [] m h = h
  distinct_right (x ∷ l) m h = distinct_right l m h.1

  pub distinct_apart : (l m : List S) → Distinct (l ++ m) → Apart l m
  distinct_apart [] m h = tt
  distinct_apart (x ∷ l) m h = (each_right (λ t. t ≢ x) l m h.0, distinct_apart l m h.1)

  module _ (n p : S → S) where
    pub path_split : (a : S) (x : List S) (k : S) (y : List S) (z : S) → Path n p a (x ++ k ∷ y) z → Path n p a x k × Path n p k y z
    path_split a [] k y z h = ((h.0, h.1), h.2)
    path_split a (m ∷ x) k y z h = let r = path_split m x k y z h.2 in ((h.0, h.1, r.0), r.1)

    pub path_join : (a : S) (x : List S) (k : S) (y : List S) (z : S) → Path n p a x k → Path n p k y z → Path n p a (x ++ k ∷ y) z
    path_join a [] k y z h r = (h.0, h.1, r)
    path_join a (m ∷ x) k y z h r = (h.0, h.1, path_join m x k y z h.2 r)

    -- what holds of all but the target holds of the one before the target
    pub at_source : (P : S → Type 0) (a : S) (x : List S) (k : S) → Path n p a x k → Each P (a ∷ x) → P (p k)
    at_source P a [] k h e = subst P (sym h.1) e.0
    at_source P a (m ∷ x) k h e = at_source P m x k h.2 e.1

    -- the one before the target leads to the target
    pub source_leads : (a : S) (x : List S) (k : S) → Path n p a x k → n (p k) ≡ k
    source_leads a [] k h = ap n h.1 ∙ h.0
    source_leads a (m ∷ x) k h = source_leads m x k h.2

    -- the same elements, led to another target
    pub retarget : (n' p' : S → S) (a k v : S) (x : List S) → Distinct (a ∷ x) → Path n p a x k → n' (p k) ≡ v → p' v ≡ p k
        → Each (λ s. s ≢ p k → n' s ≡ n s) (a ∷ x) → Each (λ s. p' s ≡ p s) x → Path n' p' a x v
    retarget n' p' a k v [] d h e1 e2 f g = (ap n' (sym h.1) ∙ e1, e2 ∙ h.1)
    retarget n' p' a k v (m ∷ x) d h e1 e2 f g =
        let apart : p k ≢ a = at_source (λ s. s ≢ a) m x k h.2 d.0 in (
          f.0 (λ e. apart (sym e)) ∙ h.0,
          g.0 ∙ h.1,
          retarget n' p' m k v x d.1 h.2 e1 e2 f.1 g.1,
        )

    -- links that no element uses may change
    pub frame : (n' p' : S → S) (a : S) (x : List S) (z : S) → Path n p a x z → Each (λ s. n' s ≡ n s) (a ∷ x) → Each (λ s. p' s ≡ p s) (x ++ z ∷ []) → Path n' p' a x z
    frame n' p' a [] z h f g = (f.0 ∙ h.0, g.0 ∙ h.1)
    frame n' p' a (m ∷ x) z h f g = (f.0 ∙ h.0, g.0 ∙ h.1, frame n' p' m x z h.2 f.1 g.1)
