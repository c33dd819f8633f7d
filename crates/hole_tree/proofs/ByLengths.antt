-- Searches of holes by length: at a hole that is too short those before it are skipped.
use Rattle.std.proofs.Common.{◌≡◌, ℕ, ◌≤◌, ◌<◌, Bool, true, false, List, [], ◌∷◌, ◌++◌, Option, Some, None, refl, ap, sym, ◌∙◌, subst, arith, length, length-append}
use Rattle.std.specs.Option.{is_some, option_or}
use Rattle.std.specs.Prelude.{option_map}
use Rattle.std.specs.List.{find}
use Rattle.std.proofs.lemmas.Bool.{le-leb, lt-leb, both_ways, false_from_ne_true}
use Rattle.std.proofs.lemmas.Bool.Decides.{nat_tests}
use Rattle.std.proofs.lemmas.List.Folds.{find-append}
use Rattle.ttm_base.specs.declared.Span.{Span}
use Rattle.ttm_base.specs.declared.Mode.{Mode}
use Rattle.ttm_base.specs.Reach.{length_of}
use Rattle.hole_tree.specs.declared.order.Order.TheVariants as order
use Rattle.hole_tree.specs.declared.tree.Node.{Node}
use Rattle.hole_tree.specs.declared.request.Request.{Request}
use Rattle.hole_tree.specs.Fitting.{fits, is_long}
use Rattle.hole_tree.specs.Trees.{shape_of_node}
use Rattle.hole_tree.specs.Shape.{Shape}
use Rattle.hole_tree.specs.Sorting.{before, IsSorted}
use Rattle.hole_tree.proofs.Searching.{fit_numbers, first_left, first_root, first_right}
use Rattle.hole_tree.proofs.Sorts.{before_middle, sorted_left, sorted_right}

not_longer : (x y : Span) → before order.ByLength x y ≡ true → length_of x ≤ length_of y
not_longer x y e = grind (arith, nat_tests)

skipped : (pages : ℕ) (test : Span → Bool) → ((h : Span) → length_of h < pages → test h ≡ false) → (l : List Span) (k : Span) (r : List Span) → IsSorted order.ByLength (l ++ k ∷ r) → length_of k < pages → find test (l ++ k ∷ r) ≡ find test r
skipped pages test f [] k r s p = rw (f k p)
skipped pages test f (y ∷ l) k r s p =
    let e : before order.ByLength y k ≡ true = before_middle order.ByLength y l k r s.0 in
    let q : length_of y ≤ length_of k = not_longer y k e in
    rw (f y (omega arith)) (skipped pages test f l k r s.1 p)

at_sorted : {S : Type 0} (s : Shape) (n : Node S) → s ≡ shape_of_node n → IsSorted order.ByLength s.spans → IsSorted order.ByLength (n.left.spans ++ n.hole ∷ n.right.spans)
at_sorted s n e h = let P : Shape → Type 0 = λ t. IsSorted order.ByLength t.spans in subst P e h

pub sorted_below : {S : Type 0} (s : Shape) (n : Node S) → s ≡ shape_of_node n → IsSorted order.ByLength s.spans → IsSorted order.ByLength n.left.spans
sorted_below s n e h = sorted_left order.ByLength n.left.spans (n.hole ∷ n.right.spans) (at_sorted s n e h)

pub sorted_above : {S : Type 0} (s : Shape) (n : Node S) → s ≡ shape_of_node n → IsSorted order.ByLength s.spans → IsSorted order.ByLength n.right.spans
sorted_above s n e h = sorted_right order.ByLength n.left.spans n.hole n.right.spans (at_sorted s n e h)

-- ---- the first that is long enough

pub long_past : (pages : ℕ) {S : Type 0} (s : Shape) (n : Node S) → s ≡ shape_of_node n → IsSorted order.ByLength s.spans → length_of n.hole < pages → find (is_long pages) s.spans ≡ find (is_long pages) n.right.spans
long_past pages s n e h p = ap (λ t. find (is_long pages) t.spans) e ∙ skipped pages (is_long pages) (λ x q. lt-leb _ _ q) n.left.spans n.hole n.right.spans (at_sorted s n e h) p

pub long_up_to : (pages : ℕ) {S : Type 0} (s : Shape) (n : Node S) → s ≡ shape_of_node n → pages ≤ length_of n.hole → find (is_long pages) s.spans ≡ option_or (find (is_long pages) n.left.spans) (Some n.hole)
long_up_to pages s n e p =
    let t : is_long pages n.hole ≡ true = le-leb _ _ p in
    ap (λ t. find (is_long pages) t.spans) e ∙ find-append (is_long pages) n.left.spans (n.hole ∷ n.right.spans) ∙ rw t

pub or_some : (o : Option Span) (x : Span) (p : Option Span) → option_or (option_or o (Some x)) p ≡ option_or o (Some x)
or_some None x p = refl
or_some (Some y) x p = refl

pub or_none : (o : Option Span) → option_or o None ≡ o
or_none None = refl
or_none (Some x) = refl

-- ---- the first that fits

pub fit_past : (m : Mode) (q : Request) {S : Type 0} (s : Shape) (n : Node S) → s ≡ shape_of_node n → IsSorted order.ByLength s.spans → length_of n.hole < q.pages → find (fits m q) s.spans ≡ find (fits m q) n.right.spans
fit_past m q s n e h p =
    ap (λ t. find (fits m q) t.spans) e
    ∙ skipped q.pages (fits m q) (λ x k. false_from_ne_true _ (λ f. let z = fit_numbers m q x f in absurd (omega (arith, z.length)))) n.left.spans n.hole n.right.spans (at_sorted s n e h) p

none_of : (o : Option Span) → is_some o ≡ false → o ≡ None
none_of None e = refl
none_of (Some x) e = absurd (both_ways true e refl)

pub entry_below : (test : Span → Bool) {S : Type 0} (s : Shape) (n : Node S) (o : Option Span) → s ≡ shape_of_node n → o ≡ find test n.left.spans → is_some o ≡ true → o ≡ find test s.spans
entry_below test s n None e f h = absurd (both_ways false refl h)
entry_below test s n (Some x) e f h = sym (ap (λ t. find test t.spans) e ∙ first_left test n.left.spans n.hole n.right.spans x (sym f))

pub entry_here : (test : Span → Bool) {S : Type 0} (s : Shape) (n : Node S) (o : Option Span) → s ≡ shape_of_node n → o ≡ find test n.left.spans → is_some o ≡ false → test n.hole ≡ true → Some n.hole ≡ find test s.spans
entry_here test s n o e f h t = sym (ap (λ u. find test u.spans) e ∙ first_root test n.left.spans n.hole n.right.spans (sym f ∙ none_of o h) t)

pub entry_above : (test : Span → Bool) {S : Type 0} (s : Shape) (n : Node S) (o : Option Span) → s ≡ shape_of_node n → o ≡ find test n.left.spans → is_some o ≡ false → test n.hole ≡ false → find test n.right.spans ≡ find test s.spans
entry_above test s n o e f h t = sym (ap (λ u. find test u.spans) e ∙ first_right test n.left.spans n.hole n.right.spans (sym f ∙ none_of o h) t)

pub is_some-map : {A B : Type 0} (f : A → B) (o : Option A) → is_some (option_map f o) ≡ is_some o
is_some-map f None = refl
is_some-map f (Some x) = refl
