-- Tests and what they say.
use Rattle.std.proofs.Common.{◌≡◌, ℕ, ◌<◌, ◌≤◌, Bool, true, false, refl, arith}
use Rattle.std.specs.Prelude.{◌&&◌, ◌||◌, not, nat_le, nat_lt}
use Rattle.std.proofs.lemmas.Bool.Decides.{nat_tests}

-- a test that fails
pub not_true : (b : Bool) → not b ≡ true → b ≡ false
not_true true h = absurd cc
not_true false h = refl

-- neither of two
pub either : (a b : Bool) → (a || b) ≡ false → (a ≡ false) × (b ≡ false)
either true b h = absurd cc
either false true h = absurd cc
either false false h = (refl, refl)

-- two that fail
pub neither : (a b : Bool) → a ≡ false → b ≡ false → (a || b) ≡ false
neither false false p q = refl
neither true b p q = absurd cc
neither false true p q = absurd cc

-- each of two
pub both : (a b : Bool) → (a && b) ≡ true → (a ≡ true) × (b ≡ true)
both true true h = (refl, refl)
both true false h = absurd cc
both false b h = absurd cc

-- two that hold
pub joint : (a b : Bool) → a ≡ true → b ≡ true → (a && b) ≡ true
joint true true p q = refl
joint true false p q = absurd cc
joint false b p q = absurd cc

-- a test that holds, and another
pub and_true : (a : Bool) → a ≡ true → (a && true) ≡ true
and_true true h = refl
and_true false h = absurd cc

-- the second of two
pub second : (a b : Bool) → (a && b) ≡ true → b ≡ true
second true b h = h
second false b h = absurd cc

-- a test has one answer
pub differ : true ≡ false → ⊥
differ h = absurd cc

-- three that hold
pub three : (a b c : Bool) → a ≡ true → b ≡ true → c ≡ true → (a && b && c) ≡ true
three true true true p q r = refl
three false b c p q r = absurd cc
three true false c p q r = absurd cc
three true true false p q r = absurd cc

-- each of three
pub three_facts : (a b c : Bool) → (a && b && c) ≡ true → (a ≡ true) × (b ≡ true) × (c ≡ true)
three_facts true true true h = (refl, refl, refl)
three_facts false b c h = absurd cc
three_facts true false c h = absurd cc
three_facts true true false h = absurd cc

-- three that fail
pub three_false : (a b c : Bool) → a ≡ false → b ≡ false → c ≡ false → (a || b || c) ≡ false
three_false false false false p q r = refl
three_false true b c p q r = absurd cc
three_false false true c p q r = absurd cc
three_false false false true p q r = absurd cc

-- four that hold
pub four : (a b c d : Bool) → a ≡ true → b ≡ true → c ≡ true → d ≡ true → (a && b && c && d) ≡ true
four true true true true p q r s = refl
four false b c d p q r s = absurd cc
four true false c d p q r s = absurd cc
four true true false d p q r s = absurd cc
four true true true false p q r s = absurd cc

-- each of four
pub four_facts : (a b c d : Bool) → (a && b && c && d) ≡ true → (a ≡ true) × (b ≡ true) × (c ≡ true) × (d ≡ true)
four_facts true true true true h = (refl, refl, refl, refl)
four_facts false b c d h = absurd cc
four_facts true false c d h = absurd cc
four_facts true true false d h = absurd cc
four_facts true true true false h = absurd cc

-- a comparison and what it says
pub le_is : (n m : ℕ) → nat_le n m ≡ true → n ≤ m
le_is n m h = grind (arith, nat_tests, h)

-- and the other way round
pub is_le : (n m : ℕ) → n ≤ m → nat_le n m ≡ true
is_le n m h = grind (arith, nat_tests)

-- a strict comparison
pub lt_is : (n m : ℕ) → n < m → nat_lt n m ≡ true
lt_is n m h = grind (arith, nat_tests)

-- and the other way round
pub true_lt : (n m : ℕ) → nat_lt n m ≡ true → n < m
true_lt n m h = grind (arith, nat_tests, h)

-- a strict comparison that fails
pub not_less : (n m : ℕ) → nat_lt n m ≡ false → m ≤ n
not_less n m h = grind (arith, nat_tests, h)

-- the limit of what is shown
pub at_most : (n : ℕ) → nat_le n 256 ≡ true → nat_lt 256 n ≡ false
at_most n h = grind (arith, nat_tests, h)

-- the limit of all operations
pub not_long : (n : ℕ) → n ≤ 67108864 → nat_lt 67108864 n ≡ false
not_long n h = grind (arith, nat_tests)

-- a test has one answer
pub apart : false ≡ true → ⊥
apart h = absurd cc
