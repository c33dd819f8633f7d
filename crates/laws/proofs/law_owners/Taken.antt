-- What is taken was free, so nothing is held twice.
use Rattle.std.proofs.Common.{◌≡◌, ℕ, ◌+◌, ◌<◌, zero, suc, Bool, true, false, List, [], ◌∷◌, Option, Some, None, refl, subst, ap, arith}
use Rattle.std.specs.Prelude.{not, nat_eq, ◌||◌, find, option_map, if◌then◌else◌}
use Rattle.std.specs.List.{list_any}
use Rattle.std.proofs.lemmas.Bool.{not-true}
use Rattle.ttm_base.specs.declared.Mem.{Mem}
use Rattle.ttm_base.specs.declared.Mem.TheVariants.{System, Tt, Vram}
use Rattle.ttm_base.specs.declared.BufId.{BufId}
use Rattle.ttm_base.specs.declared.Mode.TheVariants.{Best, High}
use Rattle.ttm_base.specs.declared.Span.{Span}
use Rattle.ttm_base.specs.declared.Place.{Place}
use Rattle.ttm_base.specs.ListWords.{count_from}
use Rattle.ttm_base.specs.Holes.{has_page, holes}
use Rattle.ttm_base.specs.RangeChoice.{range_choice}
use Rattle.journal_model.specs.declared.script.Script.{Script}
use Rattle.journal_model.specs.declared.state.Core.{Core}
use Rattle.journal_model.specs.rules.Commands.{decl}
use Rattle.journal_model.specs.rules.Holds.{size_of, is_free_page, held_spans, has_number, lowest_free}
use Rattle.journal_model.specs.rules.Choice.{choice, choice_in, range_at, blocks_at, reach_of}
use Rattle.laws.proofs.law_state.Rules.{Rules}
use Rattle.laws.proofs.law_owners.Counts.{one, times, stands, stands-none}
use Rattle.laws.proofs.law_owners.Choices.{range_is_clear}
use Rattle.laws.proofs.law_owners.Blocks.{AreClear, clear_alone, buddy_is_clear}

-- ---- the choice of a place

range_given : (script : Script) (c : Core) (b : BufId) (place : Place) (spans : List Span) → range_at script c b place ≡ Some spans → AreClear (is_free_page place.mem c) (size_of script place.mem) spans
range_given script c b place spans e =
    by (range_choice (if place.topdown then High else Best) (holes (is_free_page place.mem c) (size_of script place.mem)) (decl script b).pages (decl script b).align (reach_of script place)) refl e
  where
    by : (o : Option Span) → range_choice (if place.topdown then High else Best) (holes (is_free_page place.mem c) (size_of script place.mem)) (decl script b).pages (decl script b).align (reach_of script place) ≡ o
        → option_map (λ span. span ∷ []) o ≡ Some spans → AreClear (is_free_page place.mem c) (size_of script place.mem) spans
    by None q g = cc
    by (Some span) q g =
        let same : span ∷ [] ≡ spans = cc in
        subst (AreClear (is_free_page place.mem c) (size_of script place.mem)) same
        (clear_alone (is_free_page place.mem c) (size_of script place.mem) span
        (range_is_clear (is_free_page place.mem c) (size_of script place.mem) (if place.topdown then High else Best) (decl script b).pages (decl script b).align (reach_of script place) span q))

given_in : (script : Script) (c : Core) (b : BufId) (place : Place) (mem : Mem) (spans : List Span) → choice_in mem script c b place ≡ Some spans → AreClear (is_free_page place.mem c) (size_of script place.mem) spans
given_in script c b place System spans e = let same : [] ≡ spans = cc in subst (AreClear (is_free_page place.mem c) (size_of script place.mem)) same (λ n. omega arith)
given_in script c b place Tt spans e = range_given script c b place spans e
given_in script c b place Vram spans e = by script.sizes.buddy e
  where
    by : (q : Bool) → (elim q as (λ q. Option (List Span)) [ true ↦ blocks_at script c b place | false ↦ range_at script c b place ]) ≡ Some spans → AreClear (is_free_page place.mem c) (size_of script place.mem) spans
    by true g = buddy_is_clear (is_free_page place.mem c) (size_of script place.mem) (reach_of script place) place.topdown place.contig (decl script b).pages spans g
    by false g = range_given script c b place spans g

-- the pages of a choice are free, below the size, and none stands twice
pub choice_is_clear : (script : Script) → Rules script → (c : Core) (b : BufId) (place : Place) (spans : List Span) → choice script c b place ≡ Some spans → AreClear (is_free_page place.mem c) (size_of script place.mem) spans
choice_is_clear script r c b place spans e = given_in script c b place place.mem spans e

-- a free page isn't held
pub free_stands_none : (mem : Mem) (c : Core) (n : ℕ) → is_free_page mem c n ≡ true → stands n (held_spans mem c) ≡ 0
free_stands_none mem c n h = stands-none n (held_spans mem c) (not-true (list_any (has_page n) (held_spans mem c)) h)

-- ---- the lowest free number

find_in : (p : ℕ → Bool) (len start x : ℕ) → find p (count_from 1 len start) ≡ Some x → (p x ≡ true) × (x < start + len)
find_in p zero start x e = cc
find_in p (suc len) start x e = by (p start) refl (find_in p len (1 + start) x) e
  where
    by : (q : Bool) → p start ≡ q → (find p (count_from 1 len (1 + start)) ≡ Some x → (p x ≡ true) × (x < (1 + start) + len)) →
        (if q then Some start else find p (count_from 1 len (1 + start))) ≡ Some x → (p x ≡ true) × (x < start + suc len)
    by true t rest g = let same : start ≡ x = cc in (subst (λ y. p y ≡ true) same t, omega (arith, same))
    by false t rest g = let k = rest g in (k.0, let l = k.1 in omega (arith, l))

pub has_none : (n : ℕ) (ns : List ℕ) → has_number ns n ≡ false → times n ns ≡ 0
has_none n [] h = refl
has_none n (m ∷ ms) h =
    let parts = either (nat_eq n m) (has_number ms n) h in
    let here : one (nat_eq n m) ≡ 0 = ap one parts.0 in
    let rest = has_none n ms parts.1 in
    omega (arith, here, rest)
  where
    either : (a b : Bool) → (a || b) ≡ false → (a ≡ false) × (b ≡ false)
    either false false h = (refl, refl)
    either false true h = cc
    either true b h = cc

pub lowest_is_free : (held : List ℕ) (size x : ℕ) → lowest_free held size ≡ Some x → (times x held ≡ 0) × (x < size)
lowest_is_free held size x e =
    let k = find_in (λ n. not (has_number held n)) size 0 x e in
    let l = k.1 in
    (has_none x held (not-true (has_number held x) k.0), omega (arith, l))
