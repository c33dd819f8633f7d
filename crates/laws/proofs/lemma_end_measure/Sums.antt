-- Sums of which one part changes.
use Rattle.std.proofs.Common.{◌≡◌, ℕ, ◌<◌, ◌≤◌, ◌+◌, ◌*◌, zero, suc, List, [], ◌∷◌, ◌++◌, length, length-append, Option, Some, None, refl, sym, ◌∙◌, ap, arith, ⊎_elim}
use Rattle.std.specs.Prelude.{slice_get, slice_set, sum_by, map, fold, unwrap_or, drop, replicate, option_map, option_and_then}
use Rattle.std.proofs.lemmas.Bool.{cases_eq}
use Rattle.std.proofs.lemmas.List.Sums.{sum_by-cons}
use Rattle.ttm_base.specs.ListWords.{count_from}
use Rattle.ttm_base.specs.declared.BufId.{BufId}
use Rattle.ttm_base.specs.declared.JobId.{JobId}
use Rattle.ttm_base.specs.declared.Op.{Op}
use Rattle.ttm_base.specs.declared.Loc.TheVariants as loc
use Rattle.ttm_base.specs.Cutting.{PageMap, pieces_of, packet_of, packets_of}
use Rattle.journal_model.specs.declared.script.Script.{Script}
use Rattle.journal_model.specs.declared.script.Decl.{Decl}
use Rattle.journal_model.specs.declared.state.Buffer.{Buffer}
use Rattle.journal_model.specs.rules.Commands.{decl, undeclared}
use Rattle.journal_model.specs.rules.Waits.{use_of}
use Rattle.journal_model.specs.rules.ApplyPages.{with_fence}
use Rattle.journal_model.specs.rules.ApplyJobs.{with_use}
use Rattle.laws.proofs.law_sound.Measure.{all_pages, page_left, left_of_buffer}
use Rattle.laws.proofs.lemma_end_measure.Slots.{OneFewer, Fewer, same_one, same_all, through_all}

-- ---- over numbers

sum_after : (f g : ℕ → ℕ) (t m start : ℕ) → t < start → ((u : ℕ) → (u ≡ t → ⊥) → f u ≤ g u) → sum_by f (count_from 1 m start) ≤ sum_by g (count_from 1 m start)
sum_after f g t zero start l others = omega arith
sum_after f g t (suc m) start l others =
    let a : f start ≤ g start = others start (λ e. absurd (omega arith)) in
    let b : sum_by f (count_from 1 m (1 + start)) ≤ sum_by g (count_from 1 m (1 + start)) = sum_after f g t m (1 + start) (omega arith) others in
    omega (arith, a, b, sum_by-cons f start (count_from 1 m (1 + start)), sum_by-cons g start (count_from 1 m (1 + start)))

-- only one number's part rises
pub sum_one : (f g : ℕ → ℕ) (t n from : ℕ) → from ≤ t → t < from + n → ((u : ℕ) → (u ≡ t → ⊥) → f u ≤ g u) → sum_by f (count_from 1 n from) + g t ≤ sum_by g (count_from 1 n from) + f t
sum_one f g t zero from low high others = absurd (omega arith)
sum_one f g t (suc n) from low high others =
    ⊎_elim
    (λ here.
    let a : f from ≡ f t = ap f here in
    let b : g from ≡ g t = ap g here in
    let rest = sum_after f g t n (1 + from) (omega arith) others in
    omega (arith, a, b, rest, sum_by-cons f from (count_from 1 n (1 + from)), sum_by-cons g from (count_from 1 n (1 + from))))
    (λ there.
    let it : f from ≤ g from = others from there in
    let ne : from ≡ t → ⊥ = there in
    let rest = sum_one f g t n (1 + from) (grind arith) (omega arith) others in
    omega (arith, it, rest, sum_by-cons f from (count_from 1 n (1 + from)), sum_by-cons g from (count_from 1 n (1 + from))))
    (cases_eq from t)

-- ---- over buffers

-- one set: the sum rises by its part at most
pub sum_set_most : {X : Type 0} (f : X → ℕ) (xs : List X) (i : ℕ) (y : X) → sum_by f (slice_set xs i y) ≤ sum_by f xs + f y
sum_set_most f [] i y = omega arith
sum_set_most f (x ∷ xs) zero y = omega (arith, sum_by-cons f x xs, sum_by-cons f y xs)
sum_set_most f (x ∷ xs) (suc i) y = let rest = sum_set_most f xs i y in omega (arith, rest, sum_by-cons f x xs, sum_by-cons f x (slice_set xs i y))

pub sum_kept : (g : Option Buffer → Option Buffer) → ((o : Option Buffer) → left_of_buffer (g o) ≡ left_of_buffer o) → (xs : List (Option Buffer)) (i : ℕ) →
    sum_by left_of_buffer (slice_set xs i (g (option_and_then (λ x. x) (slice_get xs i)))) ≡ sum_by left_of_buffer xs
sum_kept g same [] i = refl
sum_kept g same (x ∷ xs) zero = let here = same x in omega (arith, here, sum_by-cons left_of_buffer x xs, sum_by-cons left_of_buffer (g x) xs)
sum_kept g same (x ∷ xs) (suc i) =
    let rest = sum_kept g same xs i in
    omega (arith, rest, sum_by-cons left_of_buffer x xs, sum_by-cons left_of_buffer x (slice_set xs i (g (option_and_then (λ x. x) (slice_get xs i)))))

pub fewer_kept : (g : Option Buffer → Option Buffer) → ((o : Option Buffer) → OneFewer o (g o)) → (xs : List (Option Buffer)) (i : ℕ) → Fewer xs (slice_set xs i (g (option_and_then (λ x. x) (slice_get xs i))))
fewer_kept g less [] i = tt
fewer_kept g less (x ∷ xs) zero = (less x, same_all xs)
fewer_kept g less (x ∷ xs) (suc i) = (same_one x, fewer_kept g less xs i)

-- a job joins the fences alone
pub uses_left : (job : JobId) (ops : List Op) (xs : List (Option Buffer)) (bs : List BufId) → sum_by left_of_buffer (fold (with_use job ops) xs bs) ≡ sum_by left_of_buffer xs
uses_left job ops xs [] = refl
uses_left job ops xs (b ∷ bs) = uses_left job ops (with_use job ops xs b) bs ∙ sum_kept (option_map (with_fence job (use_of ops b))) same xs b.0
  where
    same : (o : Option Buffer) → left_of_buffer (option_map (with_fence job (use_of ops b)) o) ≡ left_of_buffer o
    same None = refl
    same (Some x) = refl

pub uses_fewer : (job : JobId) (ops : List Op) (xs : List (Option Buffer)) (bs : List BufId) → Fewer xs (fold (with_use job ops) xs bs)
uses_fewer job ops xs [] = same_all xs
uses_fewer job ops xs (b ∷ bs) =
    through_all xs (with_use job ops xs b) (fold (with_use job ops) (with_use job ops xs b) bs) (fewer_kept (option_map (with_fence job (use_of ops b))) less xs b.0) (uses_fewer job ops (with_use job ops xs b) bs)
  where
    less : (o : Option Buffer) → OneFewer o (option_map (with_fence job (use_of ops b)) o)
    less None = tt
    less (Some x) = λ n h. h

-- a new buffer's pages
pub pages_of_new : (n : ℕ) → sum_by page_left (replicate n loc.Zero) ≡ 67108865 * n
pages_of_new zero = refl
pages_of_new (suc n) = let rest = pages_of_new n in let sum = sum_by-cons page_left loc.Zero (replicate n loc.Zero) in omega (arith, rest, sum)

part_of : (xs : List Decl) (i : ℕ) (d : Decl) → slice_get xs i ≡ Some d → d.pages ≤ sum_by (λ x. x.pages) xs
part_of [] i d e = cc
part_of (x ∷ xs) zero d e = let it : x ≡ d = cc in let same : x.pages ≡ d.pages = ap (λ y. y.pages) it in omega (arith, same, sum_by-cons (λ x. x.pages) x xs)
part_of (x ∷ xs) (suc i) d e = let rest = part_of xs i d e in omega (arith, rest, sum_by-cons (λ x. x.pages) x xs)

-- a buffer's pages are among all
pub decl_most : (script : Script) (b : BufId) → (decl script b).pages ≤ all_pages script
decl_most script b = by (slice_get script.buffers b.0) refl
  where
    by : (o : Option Decl) → slice_get script.buffers b.0 ≡ o → (unwrap_or o undeclared).pages ≤ all_pages script
    by None e = omega arith
    by (Some d) e = part_of script.buffers b.0 d e

-- ---- over commands

-- the command at a place, and those after it
pub drop_at : {X : Type 0} (w : X → ℕ) (xs : List X) (i : ℕ) → elim (slice_get xs i) [ None ↦ 0 | Some x ↦ w x + sum_by w (drop (i + 1) xs) ] ≡ sum_by w (drop i xs)
drop_at w [] zero = refl
drop_at w [] (suc i) = refl
drop_at w (x ∷ xs) zero = sym (sum_by-cons w x xs)
drop_at w (x ∷ xs) (suc i) =
    let on : suc i + 1 ≡ suc (i + 1) = omega arith in
    ap (λ n. elim (slice_get xs i) [ None ↦ 0 | Some y ↦ w y + sum_by w (drop n (x ∷ xs)) ]) on ∙ drop_at w xs i

length-map : {X Y : Type 0} (f : X → Y) (xs : List X) → length (map f xs) ≡ length xs
length-map f [] = refl
length-map f (x ∷ xs) = ap suc (length-map f xs)

pub length-packets : (pages : PageMap) (ops : List Op) → length (packets_of pages ops) ≡ sum_by (λ o. length (pieces_of o)) ops
length-packets pages [] = refl
length-packets pages (o ∷ ops) =
    let here = length-map (packet_of pages o) (pieces_of o) in
    let both = length-append (map (packet_of pages o) (pieces_of o)) (packets_of pages ops) in
    let rest = length-packets pages ops in
    let sum = sum_by-cons (λ o. length (pieces_of o)) o ops in
    omega (arith, here, both, rest, sum)

pub sum_pushed : {X : Type 0} (f : X → ℕ) (xs : List X) (y : X) → sum_by f (xs ++ y ∷ []) ≡ sum_by f xs + f y
sum_pushed f [] y = omega (arith, sum_by-cons f y [])
sum_pushed f (x ∷ xs) y = let rest = sum_pushed f xs y in omega (arith, rest, sum_by-cons f x xs, sum_by-cons f x (xs ++ y ∷ []))
