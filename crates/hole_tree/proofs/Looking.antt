-- One step of a search, at a node n that a tree s has as its root.
use Rattle.std.proofs.Common.{◌≡◌, ℕ, ◌+◌, ◌-◌, ◌≤◌, ◌<◌, max, Bool, true, false, List, ◌∷◌, ◌++◌, Option, Some, None, refl, ap, sym, ◌∙◌, subst, arith, length, length-append}
use Rattle.std.specs.Option.{is_some}
use Rattle.std.specs.Prelude.{option_map}
use Rattle.std.specs.List.{find}
use Rattle.std.proofs.lemmas.Bool.{both_ways, le-leb, lt-leb}
use Rattle.ttm_base.specs.declared.Span.{Span}
use Rattle.ttm_base.specs.declared.Mode.{Mode}
use Rattle.hole_tree.specs.declared.request.Request.{Request}
use Rattle.hole_tree.specs.declared.tree.Node.{Node}
use Rattle.hole_tree.specs.Longest.{longest}
use Rattle.hole_tree.specs.Shape.{Shape}
use Rattle.hole_tree.specs.Trees.{shape_of_node}
use Rattle.hole_tree.specs.Rising.{IsRising}
use Rattle.hole_tree.specs.Fitting.{fits, is_long, find_last, reaches_left, reaches_right}
use Rattle.hole_tree.proofs.Rises.{rising_left, rising_right}
use Rattle.hole_tree.proofs.Searching.{left_none, right_none, left_none_last, right_none_last, long_find, long_find_last, none_long, none_long_last, first_left, first_root, first_right, last_left, last_root, last_right}

at_rising : {S : Type 0} (s : Shape) (n : Node S) → s ≡ shape_of_node n → IsRising s.spans → IsRising (n.left.spans ++ n.hole ∷ n.right.spans)
at_rising s n e h = let P : Shape → Type 0 = λ t. IsRising t.spans in subst P e h

pub rising_below : {S : Type 0} (s : Shape) (n : Node S) → s ≡ shape_of_node n → IsRising s.spans → IsRising n.left.spans
rising_below s n e h = rising_left n.left.spans (n.hole ∷ n.right.spans) (at_rising s n e h)

pub rising_above : {S : Type 0} (s : Shape) (n : Node S) → s ≡ shape_of_node n → IsRising s.spans → IsRising n.right.spans
rising_above s n e h = rising_right n.left.spans n.hole n.right.spans (at_rising s n e h)

pub shorter_below : {S : Type 0} (s : Shape) (n : Node S) → s ≡ shape_of_node n → length n.left.spans < length s.spans
shorter_below s n e = let c : length s.spans ≡ length (n.left.spans ++ n.hole ∷ n.right.spans) = ap (λ t. length t.spans) e in omega (arith, length-append n.left.spans (n.hole ∷ n.right.spans))

pub shorter_above : {S : Type 0} (s : Shape) (n : Node S) → s ≡ shape_of_node n → length n.right.spans < length s.spans
shorter_above s n e = let c : length s.spans ≡ length (n.left.spans ++ n.hole ∷ n.right.spans) = ap (λ t. length t.spans) e in omega (arith, length-append n.left.spans (n.hole ∷ n.right.spans))

-- ---- a side that a request doesn't reach

pub unreached_below : (m : Mode) (q : Request) {S : Type 0} (s : Shape) (n : Node S) → s ≡ shape_of_node n → (k : ℕ) → k ≡ longest n.left.spans → IsRising s.spans → reaches_left q k n.hole ≡ false → find (fits m q) n.left.spans ≡ None
unreached_below m q s n e k d h w = left_none m q n.left.spans n.hole n.right.spans (at_rising s n e h) (ap (λ x. reaches_left q x n.hole) (sym d) ∙ w)

pub unreached_above : (m : Mode) (q : Request) {S : Type 0} (s : Shape) (n : Node S) → s ≡ shape_of_node n → (k : ℕ) → k ≡ longest n.right.spans → IsRising s.spans → reaches_right q k n.hole ≡ false → find (fits m q) n.right.spans ≡ None
unreached_above m q s n e k d h w = right_none m q n.left.spans n.hole n.right.spans (at_rising s n e h) (ap (λ x. reaches_right q x n.hole) (sym d) ∙ w)

pub unreached_below_last : (m : Mode) (q : Request) {S : Type 0} (s : Shape) (n : Node S) → s ≡ shape_of_node n → (k : ℕ) → k ≡ longest n.left.spans → IsRising s.spans → reaches_left q k n.hole ≡ false → find_last (fits m q) n.left.spans ≡ None
unreached_below_last m q s n e k d h w = left_none_last m q n.left.spans n.hole n.right.spans (at_rising s n e h) (ap (λ x. reaches_left q x n.hole) (sym d) ∙ w)

pub unreached_above_last : (m : Mode) (q : Request) {S : Type 0} (s : Shape) (n : Node S) → s ≡ shape_of_node n → (k : ℕ) → k ≡ longest n.right.spans → IsRising s.spans → reaches_right q k n.hole ≡ false → find_last (fits m q) n.right.spans ≡ None
unreached_above_last m q s n e k d h w = right_none_last m q n.left.spans n.hole n.right.spans (at_rising s n e h) (ap (λ x. reaches_right q x n.hole) (sym d) ∙ w)

-- ---- what the whole tree has

some_left : (test : Span → Bool) (l : List Span) (k : Span) (r : List Span) (o : Option Span) → find test l ≡ o → is_some o ≡ true → find test l ≡ find test (l ++ k ∷ r)
some_left test l k r None e h = absurd (both_ways false refl h)
some_left test l k r (Some x) e h = e ∙ sym (first_left test l k r x e)

some_right : (test : Span → Bool) (l : List Span) (k : Span) (r : List Span) (o : Option Span) → find_last test r ≡ o → is_some o ≡ true → find_last test r ≡ find_last test (l ++ k ∷ r)
some_right test l k r None e h = absurd (both_ways false refl h)
some_right test l k r (Some x) e h = e ∙ sym (last_right test l k r x e)

-- a search of a side that found nothing
pub none_of : {A : Type 0} (f : A → Span) (o : Option A) (p : Option Span) → option_map f o ≡ p → is_some o ≡ false → p ≡ None
none_of f None p e h = sym e
none_of f (Some x) p e h = absurd (both_ways true h refl)

-- and one that found a hole
some_of : {A : Type 0} (f : A → Span) (o : Option A) → is_some o ≡ true → is_some (option_map f o) ≡ true
some_of f None h = absurd (both_ways false refl h)
some_of f (Some x) h = refl

pub first_below : {A : Type 0} (f : A → Span) (test : Span → Bool) {S : Type 0} (s : Shape) (n : Node S) (o : Option A) → s ≡ shape_of_node n → option_map f o ≡ find test n.left.spans → is_some o ≡ true → option_map f o ≡ find test s.spans
first_below f test s n o e m h = m ∙ some_left test n.left.spans n.hole n.right.spans _ (sym m) (some_of f o h) ∙ sym (ap (λ t. find test t.spans) e)

pub first_here : (test : Span → Bool) {S : Type 0} (s : Shape) (n : Node S) → s ≡ shape_of_node n → find test n.left.spans ≡ None → test n.hole ≡ true → Some n.hole ≡ find test s.spans
first_here test s n e f t = sym (ap (λ u. find test u.spans) e ∙ first_root test n.left.spans n.hole n.right.spans f t)

pub first_above : (test : Span → Bool) {S : Type 0} (s : Shape) (n : Node S) → s ≡ shape_of_node n → find test n.left.spans ≡ None → test n.hole ≡ false → find test n.right.spans ≡ find test s.spans
first_above test s n e f t = sym (ap (λ u. find test u.spans) e ∙ first_right test n.left.spans n.hole n.right.spans f t)

pub last_above : {A : Type 0} (f : A → Span) (test : Span → Bool) {S : Type 0} (s : Shape) (n : Node S) (o : Option A) → s ≡ shape_of_node n → option_map f o ≡ find_last test n.right.spans → is_some o ≡ true → option_map f o ≡ find_last test s.spans
last_above f test s n o e m h = m ∙ some_right test n.left.spans n.hole n.right.spans _ (sym m) (some_of f o h) ∙ sym (ap (λ t. find_last test t.spans) e)

pub last_here : (test : Span → Bool) {S : Type 0} (s : Shape) (n : Node S) → s ≡ shape_of_node n → find_last test n.right.spans ≡ None → test n.hole ≡ true → Some n.hole ≡ find_last test s.spans
last_here test s n e f t = sym (ap (λ u. find_last test u.spans) e ∙ last_root test n.left.spans n.hole n.right.spans f t)

pub last_below : (test : Span → Bool) {S : Type 0} (s : Shape) (n : Node S) → s ≡ shape_of_node n → find_last test n.right.spans ≡ None → test n.hole ≡ false → find_last test n.left.spans ≡ find_last test s.spans
last_below test s n e f t = sym (ap (λ u. find_last test u.spans) e ∙ last_left test n.left.spans n.hole n.right.spans f t)

-- ---- the first and the last that are long enough

pub long_below : (pages : ℕ) {S : Type 0} (s : Shape) (n : Node S) → s ≡ shape_of_node n → (k : ℕ) → k ≡ longest n.left.spans → 1 ≤ pages → pages ≤ k → find (is_long pages) n.left.spans ≡ find (is_long pages) s.spans
long_below pages s n e k d p h =
    let a : 0 < pages = omega arith in
    let b : pages ≤ longest n.left.spans = omega arith in
    some_left (is_long pages) n.left.spans n.hole n.right.spans _ refl (long_find pages n.left.spans a b) ∙ sym (ap (λ t. find (is_long pages) t.spans) e)

pub long_here : (pages : ℕ) {S : Type 0} (s : Shape) (n : Node S) → s ≡ shape_of_node n → (k : ℕ) → k ≡ longest n.left.spans → k < pages → pages ≤ n.hole.end - n.hole.start → Some n.hole ≡ find (is_long pages) s.spans
long_here pages s n e k d h j =
    let a : longest n.left.spans < pages = omega arith in
    sym (ap (λ t. find (is_long pages) t.spans) e ∙ first_root (is_long pages) n.left.spans n.hole n.right.spans (none_long pages n.left.spans a) (le-leb _ _ j))

pub long_above : (pages : ℕ) {S : Type 0} (s : Shape) (n : Node S) → s ≡ shape_of_node n → (k : ℕ) → k ≡ longest n.left.spans → k < pages → n.hole.end - n.hole.start < pages → find (is_long pages) n.right.spans ≡ find (is_long pages) s.spans
long_above pages s n e k d h j =
    let a : longest n.left.spans < pages = omega arith in
    sym (ap (λ t. find (is_long pages) t.spans) e ∙ first_right (is_long pages) n.left.spans n.hole n.right.spans (none_long pages n.left.spans a) (lt-leb _ _ j))

pub long_above_last : (pages : ℕ) {S : Type 0} (s : Shape) (n : Node S) → s ≡ shape_of_node n → (k : ℕ) → k ≡ longest n.right.spans → 1 ≤ pages → pages ≤ k → find_last (is_long pages) n.right.spans ≡ find_last (is_long pages) s.spans
long_above_last pages s n e k d p h =
    let a : 0 < pages = omega arith in
    let b : pages ≤ longest n.right.spans = omega arith in
    some_right (is_long pages) n.left.spans n.hole n.right.spans _ refl (long_find_last pages n.right.spans a b) ∙ sym (ap (λ t. find_last (is_long pages) t.spans) e)

pub long_here_last : (pages : ℕ) {S : Type 0} (s : Shape) (n : Node S) → s ≡ shape_of_node n → (k : ℕ) → k ≡ longest n.right.spans → k < pages → pages ≤ n.hole.end - n.hole.start → Some n.hole ≡ find_last (is_long pages) s.spans
long_here_last pages s n e k d h j =
    let a : longest n.right.spans < pages = omega arith in
    sym (ap (λ t. find_last (is_long pages) t.spans) e ∙ last_root (is_long pages) n.left.spans n.hole n.right.spans (none_long_last pages n.right.spans a) (le-leb _ _ j))

pub long_below_last : (pages : ℕ) {S : Type 0} (s : Shape) (n : Node S) → s ≡ shape_of_node n → (k : ℕ) → k ≡ longest n.right.spans → k < pages → n.hole.end - n.hole.start < pages → find_last (is_long pages) n.left.spans ≡ find_last (is_long pages) s.spans
long_below_last pages s n e k d h j =
    let a : longest n.right.spans < pages = omega arith in
    sym (ap (λ t. find_last (is_long pages) t.spans) e ∙ last_left (is_long pages) n.left.spans n.hole n.right.spans (none_long_last pages n.right.spans a) (lt-leb _ _ j))

-- ---- steps

pub record Levels {S : Type 0} (s : Shape) (n : Node S) : Type 0 where
  pub below : n.left.height + 1 ≤ s.height
  pub above : n.right.height + 1 ≤ s.height

pub levels : {S : Type 0} (s : Shape) (n : Node S) → s ≡ shape_of_node n → Levels s n
levels s n e =
    let h : s.height ≡ max n.left.height n.right.height + 1 = ap (λ t. t.height) e in
    record { below = omega arith; above = omega arith }
