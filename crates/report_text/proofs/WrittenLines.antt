-- What was written of lines.
use Rattle.std.proofs.Common.{◌≡◌, ℕ, zero, suc, ◌+◌, List, [], ◌∷◌, ◌++◌, ◌<◌, ◌≤◌, length, take, drop, get_or, Option, Some, Result, ap, refl, ◌∙◌, sym, length-append, append_assoc, append-nil, arith}
use Rattle.std.specs.Prelude.{IsErr, slice_get, flat_map}
use Rattle.std.specs.List.{enumerate_from}
use Rattle.std.proofs.lemmas.List.{take_all}
use Rattle.std.proofs.lemmas.Option.{slice_get_read}
use Rattle.std.specs.Io.KnownBytes.{append_known}
use Rattle.journal_model.specs.scripts.Words.{Text, line, spaced}
use Rattle.io_edge.specs.Written.{AppendsFront, Writes}
use Rattle.io_edge.proofs.Told.{append_known-twice, front_is_nothing, front_of_first, front_of_next, writes_refused}

-- a line has its line feed
pub line_has_some : (ws : List Text) → 0 < length (line ws)
line_has_some ws = let e = length-append (spaced ws) (10 ∷ []) in omega (arith, e)

-- a line that was not made was not written
pub line_is_not_made : {T E : Type 0} (r : Result T E) (told : Option (List ℕ)) (ws : List Text) → IsErr r → Writes r told told (line ws)
line_is_not_made r told ws h = writes_refused r told told (line ws) h (front_is_nothing told (line ws) (line_has_some ws))

-- ---- a text for each item of a list

-- one item more
pub flat_map_next : {X : Type 0} (f : X → Text) (xs : List X) (i : ℕ) (x : X) → slice_get xs i ≡ Some x → flat_map f (take (suc i) xs) ≡ flat_map f (take i xs) ++ f x
flat_map_next f [] i x h = cc
flat_map_next f (y ∷ xs) zero x h = let e : y ≡ x = cc in ap (λ z. f z ++ []) e ∙ append-nil (f x)
flat_map_next f (y ∷ xs) (suc i) x h = ap (λ t. f y ++ t) (flat_map_next f xs i x h) ∙ sym (append_assoc (f y) (flat_map f (take i xs)) (f x))

-- those before an item, its own, and those after it
pub flat_map_around : {X : Type 0} (f : X → Text) (xs : List X) (i : ℕ) (x : X) → slice_get xs i ≡ Some x
    → flat_map f xs ≡ (flat_map f (take i xs) ++ f x) ++ flat_map f (drop (suc i) xs)
flat_map_around f [] i x h = cc
flat_map_around f (y ∷ xs) zero x h = let e : y ≡ x = cc in ap (λ z. f z ++ flat_map f xs) e
flat_map_around f (y ∷ xs) (suc i) x h =
    ap (λ t. f y ++ t) (flat_map_around f xs i x h)
    ∙ sym (append_assoc (f y) (flat_map f (take i xs) ++ f x) (flat_map f (drop (suc i) xs)))
    ∙ ap (λ t. t ++ flat_map f (drop (suc i) xs)) (sym (append_assoc (f y) (flat_map f (take i xs)) (f x)))

-- the items so far were written, and now the next
pub loop_goes_on : {X : Type 0} (f : X → Text) (xs : List X) (i : ℕ) (x : X) (old mid new : Option (List ℕ)) → slice_get xs i ≡ Some x
    → mid ≡ append_known old (flat_map f (take i xs)) → new ≡ append_known mid (f x) → new ≡ append_known old (flat_map f (take (i + 1) xs))
loop_goes_on f xs i x old mid new h before now =
    let e : i + 1 ≡ suc i = omega arith in
    now ∙ ap (λ t. append_known t (f x)) before ∙ append_known-twice old (flat_map f (take i xs)) (f x)
    ∙ ap (append_known old) (sym (flat_map_next f xs i x h)) ∙ ap (λ n. append_known old (flat_map f (take n xs))) (sym e)

-- the items so far were written, and a front of the next
pub loop_stops : {X T E : Type 0} (f : X → Text) (xs : List X) (i : ℕ) (x : X) (r : Result T E) (old mid new : Option (List ℕ)) → slice_get xs i ≡ Some x → IsErr r
    → mid ≡ append_known old (flat_map f (take i xs)) → AppendsFront mid new (f x) → Writes r old new (flat_map f xs)
loop_stops f xs i x r old mid new h failed before now =
    rw (flat_map_around f xs i x h) (writes_refused r old new _ failed
    (front_of_first (flat_map f (drop (suc i) xs)) (front_of_next (flat_map f (take i xs)) before now)))

-- a numbered item
pub numbered_at : {X : Type 0} (n : ℕ) (xs : List X) (i : ℕ) (x : X) → slice_get xs i ≡ Some x → slice_get (enumerate_from n xs) i ≡ Some (n + i, x)
numbered_at n [] i x h = cc
numbered_at n (y ∷ xs) zero x h = let e : y ≡ x = cc in let f : n ≡ n + 0 = omega arith in ap (λ z. Some (n, z)) e ∙ ap (λ m. Some (m, x)) f
numbered_at n (y ∷ xs) (suc i) x h =
    let e : (n + 1) + i ≡ n + suc i = omega arith in numbered_at (n + 1) xs i x h ∙ ap (λ m. Some (m, x)) e

-- the item that was read, with its number
pub read_numbered : {X : Type 0} (xs : List X) (i : ℕ) (x : X) → i < length xs → x ≡ get_or xs i x → slice_get (enumerate_from 1 xs) i ≡ Some (i + 1, x)
read_numbered xs i x h read =
    let e : 1 + i ≡ i + 1 = omega arith in
    numbered_at 1 xs i x (slice_get_read xs (length xs) i x refl h read) ∙ ap (λ n. Some (n, x)) e

-- all items were written
pub loop_ends : {X : Type 0} (f : X → Text) (xs : List X) (i : ℕ) (old new : Option (List ℕ)) → length xs ≤ i → new ≡ append_known old (flat_map f (take i xs))
    → new ≡ append_known old (flat_map f xs)
loop_ends f xs i old new h e = e ∙ ap (λ ys. append_known old (flat_map f ys)) (take_all i xs h)
