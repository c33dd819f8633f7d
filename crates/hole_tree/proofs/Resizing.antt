-- A hole whose ends move, in its place.
use Rattle.std.proofs.Common.{◌≡◌, ℕ, ◌+◌, ◌≤◌, ◌<◌, max, true, List, [], ◌∷◌, ◌++◌, Some, length, refl, ap, sym, ◌∙◌, inl, inr, ltb, arith}
use Rattle.std.specs.List.{find, list_all}
use Rattle.std.proofs.lemmas.Bool.{cases_Bool, and_parts, or_cases, ltb-true, lt-ltb, le-ltb, eqb-true, eq-eqb, ne_eqb}
use Rattle.ttm_base.specs.declared.Span.{Span}
use Rattle.ttm_base.specs.Reach.{length_of}
use Rattle.hole_tree.specs.declared.order.Order.TheVariants.{ByStart}
use Rattle.hole_tree.specs.HoleSet.{is_apart, starts_at, with_hole, without}
use Rattle.hole_tree.specs.Rising.{IsRising, IsPast}
use Rattle.hole_tree.specs.Longest.{longest}
use Rattle.hole_tree.specs.Shape.{Shape, IsLow}
use Rattle.hole_tree.specs.Trees.{IsNode, IsSound}
use Rattle.hole_tree.specs.declared.tree.Node.{Node}
use Rattle.hole_tree.specs.Sorting.{replaced}
use Rattle.hole_tree.proofs.Rises.{past_middle, rising_root, left_past}
use Rattle.hole_tree.proofs.Sides.{node_count, node_rising, node_rising_left, node_rising_right}
use Rattle.hole_tree.proofs.SortedByLength.{past_found, find_start, start_sorted}
use Rattle.hole_tree.proofs.Sorts.{goes_left, goes_right}

pub length-replaced : (start : ℕ) (to : Span) (ys : List Span) → length (replaced start to ys) ≡ length ys
length-replaced start to [] = refl
length-replaced start to (y ∷ ys) = omega (arith, length-replaced start to ys)

replaced_append : (start : ℕ) (to : Span) (l m : List Span) → replaced start to (l ++ m) ≡ replaced start to l ++ replaced start to m
replaced_append start to [] m = refl
replaced_append start to (y ∷ l) m = rw (replaced_append start to l m)

replaced_past : (start page : ℕ) (to : Span) (ys : List Span) → start ≤ page → IsPast page ys → replaced start to ys ≡ ys
replaced_past start page to [] p h = refl
replaced_past start page to (y ∷ ys) p h =
    let q : page < y.start = h.0 in
    let f = ne_eqb y.start start (λ e. omega arith) in
    rw f (ap (λ w. y ∷ w) (replaced_past start page to ys p h.1))

replaced_front : (start : ℕ) (to : Span) (l : List Span) (k : Span) (r : List Span) → k.start ≤ start → IsRising (l ++ k ∷ r) → replaced start to l ≡ l
replaced_front start to [] k r p h = refl
replaced_front start to (y ∷ l) k r p h =
    let q : y.end < k.start = past_middle y.end l k r h.1 in
    let w : y.start ≤ y.end = h.0 in
    let f = ne_eqb y.start start (λ e. omega arith) in
    rw f (ap (λ w. y ∷ w) (replaced_front start to l k r p h.2))

pub replaced_left : (start : ℕ) (to : Span) (l : List Span) (k : Span) (r : List Span) → start < k.start → IsRising (l ++ k ∷ r) → replaced start to (l ++ k ∷ r) ≡ replaced start to l ++ k ∷ r
replaced_left start to l k r p h =
    let root = rising_root l k r h in
    let w : k.start ≤ k.end = root.0 in
    let f = ne_eqb k.start start (λ e. omega arith) in
    let rest : replaced start to (k ∷ r) ≡ k ∷ r = rw f (ap (λ w. k ∷ w) (replaced_past start k.end to r (omega arith) root.1)) in
    replaced_append start to l (k ∷ r) ∙ ap (λ w. replaced start to l ++ w) rest

pub replaced_right : (start : ℕ) (to : Span) (l : List Span) (k : Span) (r : List Span) → k.start < start → IsRising (l ++ k ∷ r) → replaced start to (l ++ k ∷ r) ≡ l ++ k ∷ replaced start to r
replaced_right start to l k r p h =
    let f = ne_eqb k.start start (λ e. omega arith) in
    let rest : replaced start to (k ∷ r) ≡ k ∷ replaced start to r = rw f refl in
    replaced_append start to l (k ∷ r) ∙ ap (λ w. w ++ replaced start to (k ∷ r)) (replaced_front start to l k r (omega arith) h) ∙ ap (λ w. l ++ w) rest

pub replaced_here : (start : ℕ) (to : Span) (l : List Span) (k : Span) (r : List Span) → k.start ≡ start → IsRising (l ++ k ∷ r) → replaced start to (l ++ k ∷ r) ≡ l ++ to ∷ r
replaced_here start to l k r p h =
    let root = rising_root l k r h in
    let w : k.start ≤ k.end = root.0 in
    let f = eq-eqb k.start start p in
    let rest : replaced start to (k ∷ r) ≡ to ∷ r = rw f (ap (λ w. to ∷ w) (replaced_past start k.end to r (omega arith) root.1)) in
    replaced_append start to l (k ∷ r) ∙ ap (λ w. w ++ replaced start to (k ∷ r)) (replaced_front start to l k r (omega arith) h) ∙ ap (λ w. l ++ w) rest

-- ---- the hole is on a side

pub held_left : (x : Span) (l : List Span) (k : Span) (r : List Span) → x.start < k.start → IsRising (l ++ k ∷ r) → find (starts_at x.start) (l ++ k ∷ r) ≡ Some x → find (starts_at x.start) l ≡ Some x
held_left x l k r p h e =
    let b : Span = record { start = x.start; end = x.start } in
    let goes = goes_left ByStart b l k r (lt-ltb x.start k.start p) (start_sorted (l ++ k ∷ r) h) in
    sym (find_start x.start l) ∙ sym goes.found ∙ find_start x.start (l ++ k ∷ r) ∙ e

pub held_right : (x : Span) (l : List Span) (k : Span) (r : List Span) → k.start < x.start → IsRising (l ++ k ∷ r) → find (starts_at x.start) (l ++ k ∷ r) ≡ Some x → find (starts_at x.start) r ≡ Some x
held_right x l k r p h e =
    let b : Span = record { start = x.start; end = x.start } in
    let goes = goes_right ByStart b l k r (lt-ltb k.start x.start p) (start_sorted (l ++ k ∷ r) h) in
    sym (find_start x.start r) ∙ sym goes.found ∙ find_start x.start (l ++ k ∷ r) ∙ e

-- ---- the longest hole

longest_replaced : (from to : Span) (ys : List Span) → IsRising ys → find (starts_at from.start) ys ≡ Some from → max (longest ys) (length_of to) ≡ max (length_of from) (longest (replaced from.start to ys))
longest_replaced from to [] h e = absurd cc
longest_replaced from to (y ∷ ys) h e = elim (cases_Bool (starts_at from.start y)) [
  | inl t ↦
      let same : Some y ≡ Some from = rw t at e in
      let z : y ≡ from = cc in
      let w : y.start ≤ y.end = h.0 in
      let begins : y.start ≡ from.start = eqb-true y.start from.start t in
      let rest : longest (replaced from.start to ys) ≡ longest ys = ap longest (replaced_past from.start y.end to ys (omega arith) h.1) in
      let own : length_of y ≡ length_of from = ap length_of z in
      rw t (omega arith)
  | inr n ↦ let found = rw n at e in rw n (omega (arith, longest_replaced from to ys h.2 found))
]

-- it stays where neither hole is as long
pub longest_kept : (longer : ℕ) (from to : Span) (ys : List Span) → IsRising ys → find (starts_at from.start) ys ≡ Some from → length_of from ≤ longer → length_of to ≤ longer → longer < longest ys → longest ys ≡ longest (replaced from.start to ys)
longest_kept longer from to ys h e a b c = omega (arith, longest_replaced from to ys h e)

-- ---- a node that has the hole on a side

-- on the left one
pub record IsLeft {S : Type 0} (s : Shape) (n : Node S) (x : Span) : Type 0 where
  pub spans : (to : Span) → replaced x.start to s.spans ≡ replaced x.start to n.left.spans ++ n.hole ∷ n.right.spans
  pub height : s.height ≡ max n.left.height n.right.height + 1
  pub fewer : length n.left.spans < length s.spans
  pub rising : IsRising n.left.spans
  pub found : find (starts_at x.start) n.left.spans ≡ Some x

pub is_left : {S : Type 0} {s : Shape} {n : Node S} {x : Span} → IsNode s n.left n.hole n.right → x.start < n.hole.start → IsRising s.spans → find (starts_at x.start) s.spans ≡ Some x → IsLeft s n x
is_left {S} {s} {n} {x} node p h e =
    let rising = node_rising node h in
    record {
      spans = λ to. ap (λ ys. replaced x.start to ys) node.spans ∙ replaced_left x.start to n.left.spans n.hole n.right.spans p rising;
      height = node.height;
      fewer = omega (arith, node_count node);
      rising = node_rising_left node h;
      found = held_left x n.left.spans n.hole n.right.spans p rising (sym (ap (find (starts_at x.start)) node.spans) ∙ e);
    }

-- on the right one
pub record IsRight {S : Type 0} (s : Shape) (n : Node S) (x : Span) : Type 0 where
  pub spans : (to : Span) → replaced x.start to s.spans ≡ n.left.spans ++ n.hole ∷ replaced x.start to n.right.spans
  pub height : s.height ≡ max n.left.height n.right.height + 1
  pub fewer : length n.right.spans < length s.spans
  pub rising : IsRising n.right.spans
  pub found : find (starts_at x.start) n.right.spans ≡ Some x

pub is_right : {S : Type 0} {s : Shape} {n : Node S} {x : Span} → IsNode s n.left n.hole n.right → n.hole.start < x.start → IsRising s.spans → find (starts_at x.start) s.spans ≡ Some x → IsRight s n x
is_right {S} {s} {n} {x} node p h e =
    let rising = node_rising node h in
    record {
      spans = λ to. ap (λ ys. replaced x.start to ys) node.spans ∙ replaced_right x.start to n.left.spans n.hole n.right.spans p rising;
      height = node.height;
      fewer = omega (arith, node_count node);
      rising = node_rising_right node h;
      found = held_right x n.left.spans n.hole n.right.spans p rising (sym (ap (find (starts_at x.start)) node.spans) ∙ e);
    }

-- ---- it is as if the hole went and came

with_front : (x : Span) (page : ℕ) (ys : List Span) → x.start ≤ page → IsPast page ys → with_hole x ys ≡ x ∷ ys
with_front x page [] p h = refl
with_front x page (y ∷ ys) p h = let q : page < y.start = h.0 in rw (lt-ltb x.start y.start (omega arith)) refl

-- a hole apart from y, that reaches up to one above y, begins above y
reaches_past : (from to y : Span) → y.start ≤ y.end → y.end < from.start → from.start ≤ to.end → is_apart to y ≡ true → y.start ≤ to.start
reaches_past from to y w p e a = elim (or_cases (ltb to.end y.start) (ltb y.end to.start) a) [
  | inl b ↦ let c : to.end < y.start = ltb-true to.end y.start b in absurd (omega arith)
  | inr b ↦ let c : y.end < to.start = ltb-true y.end to.start b in omega arith
]

pub resized : (from to : Span) (ys : List Span) → IsRising ys → find (starts_at from.start) ys ≡ Some from → to.start ≤ from.end → from.start ≤ to.end → list_all (is_apart to) (without from.start ys) ≡ true → replaced from.start to ys ≡ with_hole to (without from.start ys)
resized from to [] h f s e a = absurd cc
resized from to (y ∷ ys) h f s e a =
    let w : y.start ≤ y.end = h.0 in
    elim (cases_Bool (starts_at from.start y)) [
      | inl t ↦
          let same : Some y ≡ Some from = rw t at f in
          let z : y ≡ from = cc in
          let begins : y.start ≡ from.start = eqb-true y.start from.start t in
          let ends : y.end ≡ from.end = ap (λ (k : Span). k.end) z in
          let gone : without from.start ys ≡ ys = left_past from.start y.end ys (omega arith) h.1 in
          rw (t, gone) (ap (λ w. to ∷ w) (replaced_past from.start y.end to ys (omega arith) h.1) ∙ sym (with_front to y.end ys (omega arith) h.1))
      | inr n ↦
          let found = rw n at f in
          let above : y.end < from.start = past_found from.start y.end ys from h.1 found in
          let parts = and_parts (is_apart to y) (list_all (is_apart to) (without from.start ys)) (rw n at a) in
          let below : y.start ≤ to.start = reaches_past from to y w above e parts.0 in
          rw (n, le-ltb to.start y.start below) (ap (λ w. y ∷ w) (resized from to ys h.2 found s e parts.1))
    ]

-- ---- a tree of as many holes

low_same : {s t : Shape} → IsLow s → t.height ≡ s.height → length t.spans ≡ length s.spans → IsLow t
low_same {s} {t} l h n = record { fewer = omega (arith, l.fewer); square = rw (h, n) l.square }

-- a node with such a side is sound
pub sound_left : {S : Type 0} {keeps : ℕ → S} {n m : Node S} → IsSound keeps n → m.left.height ≡ n.left.height → length m.left.spans ≡ length n.left.spans → m.right ≡ n.right → m.lean ≡ n.lean → m.of_left ≡ keeps (longest m.left.spans) → m.of_right ≡ n.of_right → IsSound keeps m
sound_left {S} {keeps} {n} {m} i h c r k a b =
    let right : m.right.height ≡ n.right.height = ap (λ t. t.height) r in
    record {
      lean = rw (k, h, right) i.lean;
      sides = record {
        left = low_same i.sides.left h c;
        right = rw r i.sides.right;
        of_left = a;
        of_right = b ∙ i.sides.of_right ∙ sym (ap (λ t. keeps (longest t.spans)) r);
      };
    }

pub sound_right : {S : Type 0} {keeps : ℕ → S} {n m : Node S} → IsSound keeps n → m.left ≡ n.left → m.right.height ≡ n.right.height → length m.right.spans ≡ length n.right.spans → m.lean ≡ n.lean → m.of_left ≡ n.of_left → m.of_right ≡ keeps (longest m.right.spans) → IsSound keeps m
sound_right {S} {keeps} {n} {m} i l h c k a b =
    let left : m.left.height ≡ n.left.height = ap (λ t. t.height) l in
    record {
      lean = rw (k, left, h) i.lean;
      sides = record {
        left = rw l i.sides.left;
        right = low_same i.sides.right h c;
        of_left = a ∙ i.sides.of_left ∙ sym (ap (λ t. keeps (longest t.spans)) l);
        of_right = b;
      };
    }
