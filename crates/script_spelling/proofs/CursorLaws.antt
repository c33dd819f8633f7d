-- Marks that stand in order are gone through place by place.
use Rattle.std.proofs.Common.{◌≡◌, ℕ, zero, suc, ◌+◌, ◌≤◌, ◌<◌, Bool, true, false, List, [], ◌∷◌, ◌++◌, length, map, take, drop, refl, ap, sym, ◌∙◌, add-one, arith, inl, inr, ◌⊎◌}
use Rattle.std.specs.Prelude.{◌&&◌, ◌||◌, ◌==◌, nat_lt, nat_le, filter, zip}
use Rattle.std.specs.List.{list_all}
use Rattle.std.proofs.lemmas.Bool.{cases_Bool, and_parts}
use Rattle.std.proofs.lemmas.Bool.Decides.{nat_tests}
use Rattle.journal_model.specs.declared.script.Script.{Script}
use Rattle.journal_model.specs.declared.script.Mark.{Mark}
use Rattle.journal_model.specs.declared.script.Command.{Command}
use Rattle.journal_model.specs.scripts.MarkRules.{is_above, are_in_order, is_in_thread}
use Rattle.script_spelling.specs.Cursors.{is_at, is_from, marks_from, front_at}

-- each stands at a place or farther on
abbrev AreFrom : ℕ → ℕ → List Mark → Type 0
AreFrom t n [] = Unit {0}
AreFrom t n (m ∷ ms) = (is_from t n m ≡ true) × AreFrom t n ms

-- what stands below a mark stands at its place or farther on
below : (t n : ℕ) (m k : Mark) → is_from t n m ≡ true → is_above m k ≡ true → is_from t n k ≡ true
below t n m k h a = grind (arith, nat_tests, h, a)

order_parts : (m k : Mark) (ms : List Mark) → are_in_order (m ∷ k ∷ ms) ≡ true → (is_above m k ≡ true) × (are_in_order (k ∷ ms) ≡ true)
order_parts m k ms h = and_parts (is_above m k) (are_in_order (k ∷ ms)) h

all_from : (t n : ℕ) (m : Mark) (ms : List Mark) → is_from t n m ≡ true → are_in_order (m ∷ ms) ≡ true → AreFrom t n ms
all_from t n m [] h o = tt
all_from t n m (k ∷ ms) h o =
    let p = order_parts m k ms o in
    let here = below t n m k h p.0 in
    (here, all_from t n k ms here p.1)

tail_order : (m : Mark) (ms : List Mark) → are_in_order (m ∷ ms) ≡ true → are_in_order ms ≡ true
tail_order m [] h = refl
tail_order m (k ∷ ms) h = (order_parts m k ms h).1

-- past a place
past_from : (t n : ℕ) (m : Mark) → is_from t (n + 1) m ≡ true → is_from t n m ≡ true
past_from t n m h = grind (arith, nat_tests, h)

past_not_at : (t n : ℕ) (m : Mark) → is_from t (n + 1) m ≡ true → is_at t n m ≡ false
past_not_at t n m h = grind (arith, nat_tests, h)

at_from : (t n : ℕ) (m : Mark) → is_at t n m ≡ true → is_from t n m ≡ true
at_from t n m h = grind (arith, nat_tests, h)

at_not_past : (t n : ℕ) (m : Mark) → is_at t n m ≡ true → is_from t (n + 1) m ≡ false
at_not_past t n m h = grind (arith, nat_tests, h)

not_from_not_past : (t n : ℕ) (m : Mark) → is_from t n m ≡ false → is_from t (n + 1) m ≡ false
not_from_not_past t n m h = grind (arith, nat_tests, h)

not_from_not_at : (t n : ℕ) (m : Mark) → is_from t n m ≡ false → is_at t n m ≡ false
not_from_not_at t n m h = grind (arith, nat_tests, h)

from_not_at_past : (t n : ℕ) (m : Mark) → is_from t n m ≡ true → is_at t n m ≡ false → is_from t (n + 1) m ≡ true
from_not_at_past t n m h k = grind (arith, nat_tests, h, k)

-- where all are past a place, none stands there, and none is left out
none_at : (t n : ℕ) (ms : List Mark) → AreFrom t (n + 1) ms → filter (is_at t n) ms ≡ []
none_at t n [] a = refl
none_at t n (m ∷ ms) a = rw (past_not_at t n m a.0) (none_at t n ms a.1)

all_past : (t n : ℕ) (ms : List Mark) → AreFrom t (n + 1) ms → marks_from ms t n ≡ marks_from ms t (n + 1)
all_past t n [] a = refl
all_past t n (m ∷ ms) a = rw (past_from t n m a.0, a.0) (ap (λ xs. m ∷ xs) (all_past t n ms a.1))

-- the marks at the front are those at the place, and what follows them is past it
record IsSplit (t n : ℕ) (ms : List Mark) : Type 0 where
  here : take (front_at t n (marks_from ms t n)) (marks_from ms t n) ≡ filter (is_at t n) ms
  behind : drop (front_at t n (marks_from ms t n)) (marks_from ms t n) ≡ marks_from ms t (n + 1)

split : (t n : ℕ) (ms : List Mark) → are_in_order ms ≡ true → IsSplit t n ms
split t n [] o = record { here = refl; behind = refl }
split t n (m ∷ ms) o =
    let rest = split t n ms (tail_order m ms o) in
    elim (cases_Bool (is_from t n m)) [
      | inr f ↦
          let g = not_from_not_past t n m f in
          let k = not_from_not_at t n m f in
          record { here = rw (f, k) rest.here; behind = rw (f, g) rest.behind }
      | inl h ↦ elim (cases_Bool (is_at t n m)) [
        | inl k ↦
            let g = at_not_past t n m k in
            record { here = rw (h, k, add-one) (ap (λ xs. m ∷ xs) rest.here); behind = rw (h, k, g, add-one) rest.behind }
        | inr k ↦
            let g = from_not_at_past t n m h k in
            let past = all_from t (n + 1) m ms g o in
            record { here = rw (h, k) (sym (none_at t n ms past)); behind = rw (h, k, g) (ap (λ xs. m ∷ xs) (all_past t n ms past)) }
      ]
    ]

at_is : (t n : ℕ) (ms : List Mark) → filter (is_at t n) ms ≡ filter (λ m. m.after == n) (filter (λ m. m.thread == t) ms)
at_is t n [] = refl
at_is t n (m ∷ ms) = elim (cases_Bool (m.thread == t)) [
  | inr f ↦ let no : is_at t n m ≡ false = rw f refl in rw (no, f) (at_is t n ms)
  | inl h ↦ elim (cases_Bool (m.after == n)) [
    | inl k ↦ let yes : is_at t n m ≡ true = rw (h, k) refl in rw (yes, h, k) (ap (λ xs. m ∷ xs) (at_is t n ms))
    | inr k ↦ let no : is_at t n m ≡ false = rw (h, k) refl in rw (no, h, k) (at_is t n ms)
  ]
]

pub here_is : (t n : ℕ) (ms rest here : List Mark) → are_in_order ms ≡ true → rest ≡ marks_from ms t n → here ≡ take (front_at t n rest) rest →
    here ≡ filter (λ m. m.after == n) (filter (λ m. m.thread == t) ms)
here_is t n ms rest here o e h = h ∙ ap (λ (r : List Mark). take (front_at t n r) r) e ∙ (split t n ms o).here ∙ at_is t n ms

pub behind_is : (t n : ℕ) (ms rest behind : List Mark) → are_in_order ms ≡ true → rest ≡ marks_from ms t n → behind ≡ drop (front_at t n rest) rest → behind ≡ marks_from ms t (n + 1)
behind_is t n ms rest behind o e h = h ∙ ap (λ (r : List Mark). drop (front_at t n r) r) e ∙ (split t n ms o).behind

pub front_within : (t n : ℕ) (ms : List Mark) → front_at t n ms ≤ length ms
front_within t n [] = omega arith
front_within t n (m ∷ ms) =
    let rest = front_within t n ms in
    elim (cases_Bool (is_at t n m)) [
      | inl h ↦ let e : front_at t n (m ∷ ms) ≡ front_at t n ms + 1 = rw h refl in omega (arith, e, rest)
      | inr f ↦ let e : front_at t n (m ∷ ms) ≡ 0 = rw f refl in omega (arith, e)
    ]
