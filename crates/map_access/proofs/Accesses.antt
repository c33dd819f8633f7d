-- Marks above a command, and the mapping through which a command goes.
use Rattle.std.proofs.Common.{◌≡◌, ℕ, zero, suc, ◌+◌, Bool, true, false, cond, List, [], ◌∷◌, ◌++◌, drop, Option, Some, None, ap, refl, sym, ◌∙◌, arith}
use Rattle.std.specs.Prelude.{◌==◌, ◌&&◌, ◌||◌, filter, find, map, nat_le, option_map, slice_get}
use Rattle.std.specs.List.{list_any}
use Rattle.journal_model.specs.declared.script.Mark.{Mark}
use Rattle.journal_model.specs.declared.script.MarkKind.{MarkKind}
use Rattle.journal_model.specs.declared.script.MarkKind.TheVariants as mark
use Rattle.journal_model.specs.marks.Marks.{is_mapped}
use Rattle.journal_model.specs.marks.Mapped.{Mapping, has_ended, mapping_of, mappings_in}
use Rattle.map_access.specs.Accesses.{has_ended_by, is_way_of}

-- the items from one on
pub drop_at : {X : Type 0} (xs : List X) (i : ℕ) (x : X) → slice_get xs i ≡ Some x → drop i xs ≡ x ∷ drop (i + 1) xs
drop_at [] i x h = cc
drop_at (y ∷ xs) zero x h = let e : y ≡ x = cc in ap (λ z. z ∷ xs) e
drop_at (y ∷ xs) (suc i) x h =
    let n : suc (i + 1) ≡ suc i + 1 = omega arith in
    drop_at xs i x h ∙ ap (λ m. x ∷ drop m (y ∷ xs)) n

-- ---- a mark makes the command a peek or poke

any_step : (a b : Bool) (m : Mark) (rest : List Mark) (n : ℕ) → (m.after == n) ≡ b →
    ((a && b && is_mapped m.kind) || list_any is_mapped (map (λ k. k.kind) (filter (λ k. k.after == n) rest)))
    ≡ list_any is_mapped (map (λ k. k.kind) (filter (λ k. k.after == n) (cond a (m ∷ rest) rest)))
any_step false b m rest n e = refl
any_step true true m rest n e =
    ap (λ (c : Bool). list_any is_mapped (map (λ k. k.kind) (cond c (m ∷ filter (λ k. k.after == n) rest) (filter (λ k. k.after == n) rest)))) (sym e)
any_step true false m rest n e =
    ap (λ (c : Bool). list_any is_mapped (map (λ k. k.kind) (cond c (m ∷ filter (λ k. k.after == n) rest) (filter (λ k. k.after == n) rest)))) (sym e)

pub any_way : (thread n : ℕ) (marks : List Mark) → list_any (is_way_of thread n) marks
    ≡ list_any is_mapped (map (λ k. k.kind) (filter (λ k. k.after == n) (filter (λ k. k.thread == thread) marks)))
any_way thread n [] = refl
any_way thread n (m ∷ ms) =
    ap (λ (t : Bool). is_way_of thread n m || t) (any_way thread n ms)
    ∙ any_step (m.thread == thread) (m.after == n) m (filter (λ k. k.thread == thread) ms) n refl

-- ---- mappings

ended_by : (o : Option ℕ) (n : ℕ) → has_ended_by o n ≡ elim o as (λ _. Bool) [ None ↦ false | Some e ↦ nat_le e n ]
ended_by None n = refl
ended_by (Some e) n = refl

pub ended_is : (m : Mapping) (n : ℕ) → has_ended_by m.upto n ≡ has_ended m n
ended_is m n = ended_by m.upto n

found : (p : Mapping → Bool) (r : Mapping) (rest : List Mapping) → (p r || false) ≡ true → option_map (λ m. m.from) (find p (r ∷ rest)) ≡ Some r.from
found p r rest h = by_test (p r) h
  where
    by_test : (b : Bool) → (b || false) ≡ true → option_map (λ m. m.from) (cond b (Some r) (find p rest)) ≡ Some r.from
    by_test true e = refl
    by_test false e = cc

not_found : (p : Mapping → Bool) (r : Mapping) (rest : List Mapping) → (p r || false) ≡ false → find p (r ∷ rest) ≡ find p rest
not_found p r rest h = by_test (p r) h
  where
    by_test : (b : Bool) → (b || false) ≡ false → cond b (Some r) (find p rest) ≡ find p rest
    by_test true e = cc
    by_test false e = refl

pub here : (p : Mapping → Bool) (m : Mark) (behind : List Mark) (k : MarkKind) (rest : List Mapping) → list_any p (mapping_of m behind k) ≡ true
    → option_map (λ m. m.from) (find p (mapping_of m behind k ++ rest)) ≡ Some m.after
here p m behind (mark.Map b) rest h = found p _ rest h
here p m behind (mark.Unmap b) rest h = cc
here p m behind mark.Mapped rest h = cc
here p m behind (mark.Vmap va n b off) rest h = cc
here p m behind (mark.Vunmap va n) rest h = cc
here p m behind (mark.Vsubmit ops) rest h = cc

pub beyond : (p : Mapping → Bool) (m : Mark) (behind : List Mark) (k : MarkKind) (rest : List Mapping) → list_any p (mapping_of m behind k) ≡ false
    → find p (mapping_of m behind k ++ rest) ≡ find p rest
beyond p m behind (mark.Map b) rest h = not_found p _ rest h
beyond p m behind (mark.Unmap b) rest h = refl
beyond p m behind mark.Mapped rest h = refl
beyond p m behind (mark.Vmap va n b off) rest h = refl
beyond p m behind (mark.Vunmap va n) rest h = refl
beyond p m behind (mark.Vsubmit ops) rest h = refl

-- the mapping of a mark is the first that will do
pub found_here : (p : Mapping → Bool) (marks : List Mark) (i : ℕ) (m : Mark) → slice_get marks i ≡ Some m
    → find p (mappings_in marks) ≡ find p (mappings_in (drop i marks)) → list_any p (mapping_of m (drop (i + 1) marks) m.kind) ≡ true
    → option_map (λ r. r.from) (find p (mappings_in marks)) ≡ Some m.after
found_here p marks i m at so_far will =
    ap (option_map (λ r. r.from)) (so_far ∙ ap (λ ms. find p (mappings_in ms)) (drop_at marks i m at))
    ∙ here p m (drop (i + 1) marks) m.kind (mappings_in (drop (i + 1) marks)) will

-- it won't do
pub found_beyond : (p : Mapping → Bool) (marks : List Mark) (i : ℕ) (m : Mark) → slice_get marks i ≡ Some m
    → find p (mappings_in marks) ≡ find p (mappings_in (drop i marks)) → list_any p (mapping_of m (drop (i + 1) marks) m.kind) ≡ false
    → find p (mappings_in marks) ≡ find p (mappings_in (drop (i + 1) marks))
found_beyond p marks i m at so_far will_not =
    so_far ∙ ap (λ ms. find p (mappings_in ms)) (drop_at marks i m at) ∙ beyond p m (drop (i + 1) marks) m.kind (mappings_in (drop (i + 1) marks)) will_not

-- what is found will do
pub found_does : {X : Type 0} (p : X → Bool) (xs : List X) (x : X) → find p xs ≡ Some x → p x ≡ true
found_does p [] x h = cc
found_does p (y ∷ ys) x h = by_test (p y) refl (found_does p ys x) h
  where
    by_test : (b : Bool) → p y ≡ b → (find p ys ≡ Some x → p x ≡ true) → cond b (Some y) (find p ys) ≡ Some x → p x ≡ true
    by_test true e rest g = let same : y ≡ x = cc in ap p (sym same) ∙ e
    by_test false e rest g = rest g
