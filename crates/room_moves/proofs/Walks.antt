-- Walks over the pages of two places, side by side.
use Rattle.std.proofs.Common.{◌≡◌, ℕ, ◌+◌, zero, suc, List, [], ◌∷◌, ◌++◌, drop, refl, sym, ◌∙◌, ap, ap₂, arith}
use Rattle.std.specs.Prelude.{map, slice_get, unwrap_or}
use Rattle.ttm_base.specs.declared.Mem.{Mem}
use Rattle.ttm_base.specs.declared.Mem.TheVariants.{System, Tt, Vram}
use Rattle.ttm_base.specs.declared.Span.{Span}
use Rattle.ttm_base.specs.declared.Packet.{Packet}
use Rattle.ttm_base.specs.ListWords.{count_from}
use Rattle.place_list.specs.SpanPages.{pages_of}
use Rattle.journal_model.specs.rules.ApplyMoves.{copy_of_page}
use Rattle.journal_model.specs.rules.Places.{name_in_spans}
use Rattle.room_moves.specs.Copies.{copies, named}

-- the first that is left is the next
left_first : (xs : List ℕ) (i : ℕ) → slice_get (drop i xs) 0 ≡ slice_get xs i
left_first [] zero = refl
left_first [] (suc i) = refl
left_first (x ∷ xs) zero = refl
left_first (x ∷ xs) (suc i) = left_first xs i

-- one more is passed
pub passed_more : {X : Type 0} (xs : List X) (i : ℕ) → drop 1 (drop i xs) ≡ drop (i + 1) xs
passed_more [] zero = refl
passed_more [] (suc i) = let e : suc i + 1 ≡ suc (i + 1) = omega arith in sym (ap (λ n. drop n []) e)
passed_more (x ∷ xs) zero = refl
passed_more (x ∷ xs) (suc i) = let e : suc i + 1 ≡ suc (i + 1) = omega arith in passed_more xs i ∙ sym (ap (λ n. drop n (x ∷ xs)) e)

-- how packets name the next page
pub next_named : (mem : Mem) (spans : List Span) (i : ℕ) → named mem (unwrap_or (slice_get (drop i (pages_of spans)) 0) 0) ≡ name_in_spans mem spans i
next_named Vram spans i = ap (λ o. named Vram (unwrap_or o 0)) (left_first (pages_of spans) i)
next_named Tt spans i = ap (λ o. named Tt (unwrap_or o 0)) (left_first (pages_of spans) i)
next_named System spans i = refl

-- one more number
map_more : (f : ℕ → Packet) (n start : ℕ) → map f (count_from 1 n start) ++ f (start + n) ∷ [] ≡ map f (count_from 1 (suc n) start)
map_more f zero start = let e : start + 0 ≡ start = omega arith in ap (λ m. f m ∷ []) e
map_more f (suc n) start =
    let e : start + suc n ≡ 1 + start + n = omega arith in
    ap (λ l. f start ∷ l) (ap (λ m. map f (count_from 1 n (1 + start)) ++ f m ∷ []) e ∙ map_more f n (1 + start))

-- one more page is copied
copies_more : (n : ℕ) (to : Mem) (targets : List Span) (from : Mem) (sources : List Span) →
    copies n to targets from sources ++ copy_of_page (name_in_spans to targets n) (name_in_spans from sources n) ∷ [] ≡ copies (n + 1) to targets from sources
copies_more n to targets from sources =
    let e : n + 1 ≡ suc n = omega arith in
    let z : n ≡ 0 + n = omega arith in
    ap (λ m. copies n to targets from sources ++ copy_of_page (name_in_spans to targets m) (name_in_spans from sources m) ∷ []) z
    ∙ map_more (λ i. copy_of_page (name_in_spans to targets i) (name_in_spans from sources i)) n 0
    ∙ sym (ap (λ m. copies m to targets from sources) e)

-- so where its packet was pushed
pub pushed_more : (n : ℕ) (to : Mem) (targets : List Span) (from : Mem) (sources : List Span) (packets pushed : List Packet) (packet : Packet) → packets ≡ copies n to targets from sources →
    packet ≡ copy_of_page (name_in_spans to targets n) (name_in_spans from sources n) → pushed ≡ packets ++ packet ∷ [] → pushed ≡ copies (n + 1) to targets from sources
pushed_more n to targets from sources packets pushed packet old is e = e ∙ ap₂ (λ l p. l ++ p ∷ []) old is ∙ copies_more n to targets from sources
