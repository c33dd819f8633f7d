-- Texts of threads, one after the other.
use Rattle.std.proofs.Common.{◌≡◌, ℕ, zero, suc, ◌+◌, ◌<◌, ◌≤◌, List, [], ◌∷◌, ◌++◌, length, take, Some, ap, refl, sym, ◌∙◌, append_assoc, append-nil, arith}
use Rattle.std.specs.Prelude.{flat_map, slice_get}
use Rattle.std.proofs.lemmas.List.{take_all}
use Rattle.ttm_base.specs.ListWords.{count_from}
use Rattle.journal_model.specs.declared.script.Script.{Script}
use Rattle.journal_model.specs.statements.Complete.{thread_numbers}
use Rattle.journal_model.specs.scripts.Words.{Text}

-- a number of the count
counted : (n start i : ℕ) → i < n → slice_get (count_from 1 n start) i ≡ Some (i + start)
counted zero start i h = absurd (omega arith)
counted (suc n) start zero h = let e : start ≡ 0 + start = omega arith in ap Some e
counted (suc n) start (suc i) h = let e : i + (1 + start) ≡ suc i + start = omega arith in counted n (1 + start) i (omega arith) ∙ ap Some e

length-count_from : (n start : ℕ) → length (count_from 1 n start) ≡ n
length-count_from zero start = refl
length-count_from (suc n) start = ap suc (length-count_from n (1 + start))

-- one item more
flat_map_next : {X : Type 0} (f : X → Text) (xs : List X) (i : ℕ) (x : X) → slice_get xs i ≡ Some x → flat_map f (take (suc i) xs) ≡ flat_map f (take i xs) ++ f x
flat_map_next f [] i x h = cc
flat_map_next f (y ∷ xs) zero x h = let e : y ≡ x = cc in ap (λ z. f z ++ []) e ∙ append-nil (f x)
flat_map_next f (y ∷ xs) (suc i) x h = ap (λ t. f y ++ t) (flat_map_next f xs i x h) ∙ sym (append_assoc (f y) (flat_map f (take i xs)) (f x))

-- one thread more
pub thread_on : (script : Script) (f : ℕ → Text) (i : ℕ) (old before now : Text) → i < length script.threads → before ≡ old ++ flat_map f (take i (thread_numbers script))
    → now ≡ before ++ f (i + 1) → now ≡ old ++ flat_map f (take (i + 1) (thread_numbers script))
thread_on script f i old before now h told put =
    let next : suc i ≡ i + 1 = omega arith in
    put ∙ ap (λ t. t ++ f (i + 1)) told ∙ append_assoc old (flat_map f (take i (thread_numbers script))) (f (i + 1))
    ∙ ap (λ t. old ++ t) (sym (flat_map_next f (thread_numbers script) i (i + 1) (counted (length script.threads) 1 i h)))
    ∙ ap (λ n. old ++ flat_map f (take n (thread_numbers script))) next

-- all threads
pub threads_done : (script : Script) (f : ℕ → Text) (i : ℕ) (old before : Text) → length script.threads ≤ i → before ≡ old ++ flat_map f (take i (thread_numbers script))
    → before ≡ old ++ flat_map f (thread_numbers script)
threads_done script f i old before h told =
    let len = length-count_from (length script.threads) 1 in
    told ∙ ap (λ ts. old ++ flat_map f ts) (take_all i (thread_numbers script) (omega (arith, len, h)))
