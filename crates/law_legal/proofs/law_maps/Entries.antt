-- What a change of all areas does to one entry.
use Rattle.std.proofs.Common.{◌≡◌, ℕ, zero, suc, Bool, true, false, List, [], ◌∷◌, Option, Some, None, ◌==◌, if◌then◌else◌, refl, sym, ◌∙◌, ap, arith}
use Rattle.std.specs.Prelude.{find, map, option_and_then, slice_get, slice_set, unwrap_or}
use Rattle.std.proofs.lemmas.Grind.{common_steps}
use Rattle.std.proofs.lemmas.Bool.Decides.{nat_tests}
use Rattle.ttm_base.specs.declared.BufId.{BufId}
use Rattle.ttm_base.specs.declared.PagePlace.{PagePlace}
use Rattle.journal_model.specs.rules.State.{same_buffer}
use Rattle.cpu_maps.specs.declared.area.Area.{Area}
use Rattle.cpu_maps.specs.Areas.{entry_in, entry_of, is_of, with_entry, emptied, without_page, without_buffer, unmapped}

-- the first of a list that passes, of both lists at their heads
at_head : (i : ℕ) (g : Option PagePlace → Option PagePlace) (p q : Bool) (a b : Area) (xs ys : List Area) (t : ℕ) (c : BufId) →
    q ≡ p → (p ≡ true → entry_of i b ≡ g (entry_of i a)) → option_and_then (entry_of i) (find (is_of t c) ys) ≡ g (option_and_then (entry_of i) (find (is_of t c) xs)) →
    option_and_then (entry_of i) (if q then Some b else find (is_of t c) ys) ≡ g (option_and_then (entry_of i) (if p then Some a else find (is_of t c) xs))
at_head i g true true a b xs ys t c e here rest = here refl
at_head i g false false a b xs ys t c e here rest = rest
at_head i g true false a b xs ys t c e here rest = cc
at_head i g false true a b xs ys t c e here rest = cc

-- a change that leaves threads and buffers
pub entry_mapped : (f : Area → Area) (g : Option PagePlace → Option PagePlace) (t : ℕ) (c : BufId) (i : ℕ) →
    g None ≡ None → ((a : Area) → is_of t c (f a) ≡ is_of t c a) → ((a : Area) → is_of t c a ≡ true → entry_of i (f a) ≡ g (entry_of i a)) →
    (areas : List Area) → entry_in (map f areas) t c i ≡ g (entry_in areas t c i)
entry_mapped f g t c i none kept does [] = sym none
entry_mapped f g t c i none kept does (a ∷ areas) =
    at_head i g (is_of t c a) (is_of t c (f a)) a (f a) areas (map f areas) t c (kept a) (does a) (entry_mapped f g t c i none kept does areas)

abbrev nothing : Option PagePlace → Option PagePlace
nothing entry = None

-- nothing stands in an emptied list
none_at : (es : List (Option PagePlace)) (i : ℕ) → unwrap_or (slice_get (map nothing es) i) None ≡ None
none_at [] i = refl
none_at (e ∷ es) zero = refl
none_at (e ∷ es) (suc i) = none_at es i

-- one entry was taken out
taken_at : (es : List (Option PagePlace)) (page i : ℕ) →
    unwrap_or (slice_get (slice_set es page None) i) None ≡ (if page == i then None else unwrap_or (slice_get es i) None)
taken_at [] page i = grind (arith, common_steps)
taken_at (e ∷ es) zero zero = refl
taken_at (e ∷ es) zero (suc i) = grind (arith, nat_tests, common_steps)
taken_at (e ∷ es) (suc page) zero = grind (arith, nat_tests, common_steps)
taken_at (e ∷ es) (suc page) (suc i) = let rest = taken_at es page i in grind (arith, nat_tests, common_steps)

-- the area is of the buffer
its_buffer : (t : ℕ) (c b : BufId) (a : Area) → is_of t c a ≡ true → same_buffer a.b b ≡ same_buffer c b
its_buffer t c b a h = let e : a.b.0 ≡ c.0 = grind (arith, nat_tests, h) in ap (λ n. n == b.0) e

pub emptied_is_of : (t : ℕ) (c : BufId) (x : Bool) (a : Area) → is_of t c (if x then emptied a else a) ≡ is_of t c a
emptied_is_of t c true a = refl
emptied_is_of t c false a = refl

pub emptied_entry : (i : ℕ) (x : Bool) (a : Area) → entry_of i (if x then emptied a else a) ≡ (if x then None else entry_of i a)
emptied_entry i true a = none_at a.entries i
emptied_entry i false a = refl

pub set_is_of : (t : ℕ) (c : BufId) (page : ℕ) (x : Bool) (a : Area) → is_of t c (if x then with_entry page None a else a) ≡ is_of t c a
set_is_of t c page true a = refl
set_is_of t c page false a = refl

pub same_either : {X : Type 0} (x : Bool) (y : X) → y ≡ (if x then y else y)
same_either true y = refl
same_either false y = refl

set_entry : (i page : ℕ) (x : Bool) (a : Area) →
    entry_of i (if x then with_entry page None a else a) ≡ (if page == i then (if x then None else entry_of i a) else entry_of i a)
set_entry i page true a = taken_at a.entries page i
set_entry i page false a = same_either (page == i) (entry_of i a)

-- a buffer left
pub entry_without_buffer : (b : BufId) (t : ℕ) (c : BufId) (i : ℕ) (areas : List Area) →
    entry_in (map (without_buffer b) areas) t c i ≡ (if same_buffer c b then None else entry_in areas t c i)
entry_without_buffer b t c i areas =
    entry_mapped (without_buffer b) (λ old. if same_buffer c b then None else old) t c i (sym (same_either (same_buffer c b) None))
    (λ a. emptied_is_of t c (same_buffer a.b b) a)
    (λ a h. emptied_entry i (same_buffer a.b b) a ∙ ap (λ x. if x then None else entry_of i a) (its_buffer t c b a h))
    areas

-- a page left
pub entry_without_page : (b : BufId) (page t : ℕ) (c : BufId) (i : ℕ) (areas : List Area) →
    entry_in (map (without_page b page) areas) t c i ≡ (if page == i then (if same_buffer c b then None else entry_in areas t c i) else entry_in areas t c i)
entry_without_page b page t c i areas =
    entry_mapped (without_page b page) (λ old. if page == i then (if same_buffer c b then None else old) else old) t c i
    (ap (λ y. if page == i then y else None) (sym (same_either (same_buffer c b) None)) ∙ sym (same_either (page == i) None))
    (λ a. set_is_of t c page (same_buffer a.b b) a)
    (λ a h. set_entry i page (same_buffer a.b b) a ∙ ap (λ x. if page == i then (if x then None else entry_of i a) else entry_of i a) (its_buffer t c b a h))
    areas

-- a thread's mapping was unmapped
pub entry_unmapped : (t : ℕ) (b : BufId) (i : ℕ) (areas : List Area) → entry_in (map (unmapped t b) areas) t b i ≡ None
entry_unmapped t b i areas =
    entry_mapped (unmapped t b) nothing t b i refl (λ a. emptied_is_of t b (is_of t b a) a)
    (λ a h. emptied_entry i (is_of t b a) a ∙ ap (λ x. if x then None else entry_of i a) h)
    areas
