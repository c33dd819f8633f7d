-- What is said of parts that are all there, and that parts which are there make a whole.
use Rattle.std.proofs.Common.{◌≡◌, Bool, true, false, cond, [], ◌∷◌, Option, Some, None, refl, ap, subst, ◌∙◌}
use Rattle.std.specs.Prelude.{option_map}
use Rattle.journal_model.specs.scripts.Words.{Text}
use Rattle.entry_reader.specs.EntryReading.{with_two, with_three, with_four}

-- what holds of the value, if there is one
abbrev pub Told : {X : Type 0} → Option X → (X → Type 0) → Type 0
Told None P = Unit {0}
Told (Some x) P = P x

pub told_at : {X : Type 0} (o : Option X) (x : X) (P : X → Type 0) → Told o P → o ≡ Some x → P x
told_at None x P h e = cc
told_at (Some y) x P h e = let same : y ≡ x = cc in subst P same h

pub told_by : {X : Type 0} (o : Option X) (P : X → Type 0) → ((x : X) → o ≡ Some x → P x) → Told o P
told_by None P h = tt
told_by (Some x) P h = h x refl

pub told_if : {X : Type 0} (b : Bool) (o rest : Option X) (P : X → Type 0) → (b ≡ true → Told o P) → Told rest P → Told (cond b o rest) P
told_if true o rest P h k = h refl
told_if false o rest P h k = k

-- ---- what is told of a whole

pub one_told : {A B : Type 0} (f : A → B) (a : Option A) (P : B → Type 0) → ((x : A) → a ≡ Some x → P (f x)) → Told (option_map f a) P
one_told f None P h = tt
one_told f (Some x) P h = h x refl

pub two_told : {A B C : Type 0} (f : A → B → C) (a : Option A) (b : Option B) (P : C → Type 0)
    → ((x : A) (y : B) → a ≡ Some x → b ≡ Some y → P (f x y)) → Told (with_two f a b) P
two_told f None b P h = tt
two_told f (Some x) None P h = tt
two_told f (Some x) (Some y) P h = h x y refl refl

pub three_told : {A B C D : Type 0} (f : A → B → C → D) (a : Option A) (b : Option B) (c : Option C) (P : D → Type 0)
    → ((x : A) (y : B) (z : C) → a ≡ Some x → b ≡ Some y → c ≡ Some z → P (f x y z)) → Told (with_three f a b c) P
three_told f None b c P h = tt
three_told f (Some x) b c P h = two_told (f x) b c P (λ y z q r. h x y z refl q r)

pub four_told : {A B C D E : Type 0} (f : A → B → C → D → E) (a : Option A) (b : Option B) (c : Option C) (d : Option D) (P : E → Type 0)
    → ((x : A) (y : B) (z : C) (w : D) → a ≡ Some x → b ≡ Some y → c ≡ Some z → d ≡ Some w → P (f x y z w)) → Told (with_four f a b c d) P
four_told f None b c d P h = tt
four_told f (Some x) b c d P h = three_told (f x) b c d P (λ y z w q r s. h x y z w refl q r s)

-- ---- a whole of parts

pub one_made : {A B : Type 0} (f : A → B) (a : Option A) (x : A) → a ≡ Some x → option_map f a ≡ Some (f x)
one_made f a x p = ap (option_map f) p

pub two_made : {A B C : Type 0} (f : A → B → C) (a : Option A) (b : Option B) (x : A) (y : B) → a ≡ Some x → b ≡ Some y → with_two f a b ≡ Some (f x y)
two_made f a b x y p q = ap (λ o. with_two f o b) p ∙ ap (λ o. option_map (f x) o) q

pub three_made : {A B C D : Type 0} (f : A → B → C → D) (a : Option A) (b : Option B) (c : Option C) (x : A) (y : B) (z : C)
    → a ≡ Some x → b ≡ Some y → c ≡ Some z → with_three f a b c ≡ Some (f x y z)
three_made f a b c x y z p q r = ap (λ o. with_three f o b c) p ∙ two_made (f x) b c y z q r

pub four_made : {A B C D E : Type 0} (f : A → B → C → D → E) (a : Option A) (b : Option B) (c : Option C) (d : Option D) (x : A) (y : B) (z : C) (w : D)
    → a ≡ Some x → b ≡ Some y → c ≡ Some z → d ≡ Some w → with_four f a b c d ≡ Some (f x y z w)
four_made f a b c d x y z w p q r s = ap (λ o. with_four f o b c d) p ∙ three_made (f x) b c d y z w q r s

-- ---- lists of words

pub two_words : {v v' a a' : Text} → v ≡ v' → a ≡ a' → v ∷ a ∷ [] ≡ v' ∷ a' ∷ []
two_words {v} {v'} {a} {a'} p q = ap (λ x. x ∷ a ∷ []) p ∙ ap (λ x. v' ∷ x ∷ []) q

pub three_words : {v v' a a' b b' : Text} → v ≡ v' → a ≡ a' → b ≡ b' → v ∷ a ∷ b ∷ [] ≡ v' ∷ a' ∷ b' ∷ []
three_words {v} {v'} {a} {a'} {b} {b'} p q r = ap (λ x. x ∷ a ∷ b ∷ []) p ∙ ap (λ ws. v' ∷ ws) (two_words q r)

pub four_words : {v v' a a' b b' c c' : Text} → v ≡ v' → a ≡ a' → b ≡ b' → c ≡ c' → v ∷ a ∷ b ∷ c ∷ [] ≡ v' ∷ a' ∷ b' ∷ c' ∷ []
four_words {v} {v'} {a} {a'} {b} {b'} {c} {c'} p q r s = ap (λ x. x ∷ a ∷ b ∷ c ∷ []) p ∙ ap (λ ws. v' ∷ ws) (three_words q r s)

pub five_words : {v v' a a' b b' c c' d d' : Text} → v ≡ v' → a ≡ a' → b ≡ b' → c ≡ c' → d ≡ d' → v ∷ a ∷ b ∷ c ∷ d ∷ [] ≡ v' ∷ a' ∷ b' ∷ c' ∷ d' ∷ []
five_words {v} {v'} {a} {a'} {b} {b'} {c} {c'} {d} {d'} p q r s t = ap (λ x. x ∷ a ∷ b ∷ c ∷ d ∷ []) p ∙ ap (λ ws. v' ∷ ws) (four_words q r s t)
