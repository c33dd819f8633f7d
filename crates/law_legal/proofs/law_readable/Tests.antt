-- Tests on numbers and lists.
use Rattle.std.proofs.Common.{◌≡◌, ℕ, ◌<◌, ◌≤◌, ◌^◌, zero, suc, Bool, true, false, List, [], ◌∷◌, ◌++◌, length, Some, None, refl, arith}
use Rattle.std.specs.Prelude.{slice_get, slice_set, map, position, cond, unwrap_or, nat_lt, ◌&&◌}
use Rattle.std.specs.List.{list_all, position_or_len}
use Rattle.std.proofs.lemmas.Bool.{lt-ltb, ltb-true, and_parts}
use Rattle.std.proofs.lemmas.Bool.Decides.{nat_tests}
use Rattle.journal_model.specs.scripts.CommandRules.{is_byte}
use Rattle.journal_model.specs.scripts.Readable.{is_u32, is_u64}

pub u32 : (n : ℕ) → n < 2 ^ 32 → is_u32 n ≡ true
u32 n h = lt-ltb n (2 ^ 32) h

pub u64 : (n : ℕ) → n < 2 ^ 64 → is_u64 n ≡ true
u64 n h = lt-ltb n (2 ^ 64) h

pub byte : (n : ℕ) → n < 256 → is_byte n ≡ true
byte n h = grind (arith, nat_tests)

pub below_256 : (n : ℕ) → is_byte n ≡ true → n < 256
below_256 n h = grind (arith, nat_tests)

pub joint : (a b : Bool) → a ≡ true → b ≡ true → (a && b) ≡ true
joint true true p q = refl
joint true false p q = cc
joint false b p q = cc

-- ---- lists

pub all_appended : {X : Type 0} (p : X → Bool) (xs ys : List X) → list_all p xs ≡ true → list_all p ys ≡ true → list_all p (xs ++ ys) ≡ true
all_appended p [] ys h k = k
all_appended p (x ∷ xs) ys h k = let f = and_parts (p x) (list_all p xs) h in joint (p x) (list_all p (xs ++ ys)) f.0 (all_appended p xs ys f.1 k)

pub all_mapped : {X Y : Type 0} (p : Y → Bool) (f : X → Y) → ((x : X) → p (f x) ≡ true) → (xs : List X) → list_all p (map f xs) ≡ true
all_mapped p f h [] = refl
all_mapped p f h (x ∷ xs) = joint (p (f x)) (list_all p (map f xs)) (h x) (all_mapped p f h xs)

pub all_set : {X : Type 0} (p : X → Bool) (xs : List X) (i : ℕ) (x : X) → p x ≡ true → list_all p xs ≡ true → list_all p (slice_set xs i x) ≡ true
all_set p [] i x h k = refl
all_set p (y ∷ xs) zero x h k = joint (p x) (list_all p xs) h (and_parts (p y) (list_all p xs) k).1
all_set p (y ∷ xs) (suc i) x h k = let f = and_parts (p y) (list_all p xs) k in joint (p y) (list_all p (slice_set xs i x)) f.0 (all_set p xs i x h f.1)

pub all_got : {X : Type 0} (p : X → Bool) (xs : List X) (i : ℕ) (y : X) → p y ≡ true → list_all p xs ≡ true → p (unwrap_or (slice_get xs i) y) ≡ true
all_got p [] i y h k = h
all_got p (x ∷ xs) zero y h k = (and_parts (p x) (list_all p xs) k).0
all_got p (x ∷ xs) (suc i) y h k = all_got p xs i y h (and_parts (p x) (list_all p xs) k).1

-- the place of an element isn't above the length
pub position_most : {X : Type 0} (p : X → Bool) (xs : List X) → unwrap_or (position p xs) 0 ≤ length xs
position_most p xs = by (nat_lt (position_or_len p xs) (length xs)) refl
  where
    by : (q : Bool) → nat_lt (position_or_len p xs) (length xs) ≡ q → unwrap_or (cond q (Some (position_or_len p xs)) None) 0 ≤ length xs
    by true e = let l = ltb-true (position_or_len p xs) (length xs) e in omega (arith, l)
    by false e = omega arith
