-- Runs of mapped pages, and operations in them.
use Rattle.std.proofs.Common.{◌≡◌, ℕ, zero, suc, ◌+◌, ◌-◌, ◌*◌, ◌/◌, ◌<◌, ◌≤◌, min, true, List, [], ◌∷◌, Option, Some, None, refl, ap, arith, inl, inr, length, subst}
use Rattle.std.specs.Prelude.{map, nat_lt, option_map, IsSome}
use Rattle.std.specs.List.{AllByRecursion}
use Rattle.std.proofs.lemmas.Bool.{cases_Bool, ltb-true, ltb-false}
use Rattle.std.proofs.lemmas.Bool.Decides.{nat_tests}
use Rattle.ttm_base.specs.declared.Op.{Op}
use Rattle.ttm_base.specs.declared.Span.{Span}
use Rattle.ttm_base.specs.Holes.{has_page}
use Rattle.journal_model.specs.declared.space.VOp.{VOp}
use Rattle.journal_model.specs.marks.Spaces.{Region, Space, regions_space}
use Rattle.journal_model.specs.marks.ByName.{spot_at, first_address, second_address, vop_len, op_by_name, ops_from, op_in_names}
use Rattle.law_legal.proofs.law_spaces.Found.{cases_option, spot_has_room}
use Rattle.gpu_spaces.specs.declared.mappings.Rest.{Rest}
use Rattle.gpu_spaces.specs.Kept.{region_at}
use Rattle.gpu_spaces.specs.Meaning.{IsMappedRange, IsMappedSpan}
use Rattle.gpu_spaces.proofs.Meant.{no_spot}

-- ---- runs

-- an entry's pages are mapped
abbrev pub IsMappedEntry : List Region → ℕ × Rest → Type 0
IsMappedEntry rs e = IsMappedSpan (regions_space rs) (record { start = e.0; end = e.1.end })

here : (e : ℕ × Rest) (rs : List Region) → IsMappedEntry (region_at e ∷ rs) e
here e rs = λ page low high.
    let has : has_page page (region_at e).span ≡ true = grind (arith, nat_tests) in
    rw has refl

behind : (r : Region) (rs : List Region) (e : ℕ × Rest) → IsMappedEntry rs e → IsMappedEntry (r ∷ rs) e
behind r rs e h = λ page low high. elim (cases_Bool (has_page page r.span)) [
  | inl t ↦ rw t refl
  | inr f ↦ rw f (h page low high)
]

all_behind : (r : Region) (rs : List Region) (es : List (ℕ × Rest)) → AllByRecursion (IsMappedEntry rs) es → AllByRecursion (IsMappedEntry (r ∷ rs)) es
all_behind r rs [] h = tt
all_behind r rs (e ∷ es) h = (behind r rs e h.0, all_behind r rs es h.1)

-- each entry's pages are mapped
pub entries_are_mapped : (es : List (ℕ × Rest)) → AllByRecursion (IsMappedEntry (map region_at es)) es
entries_are_mapped [] = tt
entries_are_mapped (e ∷ es) = (here e (map region_at es), all_behind (region_at e) (map region_at es) es (entries_are_mapped es))

-- a run with a span that begins in it or at its end
pub run_goes_on : (space : Space) (run s : Span) → IsMappedSpan space run → IsMappedSpan space s → s.start ≤ run.end → IsMappedSpan space (record { start = run.start; end = s.end })
run_goes_on space run s h k l = λ page low high. elim (cases_Bool (nat_lt page run.end)) [
  | inl t ↦ h page low (ltb-true page run.end t)
  | inr f ↦ let up : run.end ≤ page = ltb-false page run.end f in k page (omega (arith, l, up)) high
]

-- the pages of a range in a run are mapped
pub range_in_run : (space : Space) (run : Span) (addr len : ℕ) → IsMappedSpan space run → run.start ≤ addr / 4096 → addr + len ≤ 4096 * run.end → IsMappedRange space addr len
range_in_run space run addr len h low high = λ i l. h ((addr + i) / 4096) (omega (arith, low)) (omega (arith, l, high))

-- ---- operations

some_mapped : {A B : Type 0} (f : A → B) (o : Option A) → IsSome o → IsSome (option_map f o)
some_mapped f None h = absurd (cc)
some_mapped f (Some x) h = refl

no_spot_there : (rs : List Region) (addr len i : ℕ) → IsMappedRange (regions_space rs) addr len → i < len → spot_at rs (addr + i) ≡ None → ⊥
no_spot_there rs addr len i h l e =
    let none = no_spot rs (addr + i) e in
    let some = h i l in
    let some' = rw none at some in
    absurd (cc)

ops_are_there : (rs : List Region) (v : VOp) (all at len fuel : ℕ) → IsMappedRange (regions_space rs) (first_address v) all → IsMappedRange (regions_space rs) (second_address v) all →
    at + len ≤ all → len ≤ fuel → IsSome (ops_from rs v at len fuel)
ops_are_there rs v all at zero fuel h k w l = refl
ops_are_there rs v all at (suc len) zero h k w l = absurd (omega (arith, l))
ops_are_there rs v all at (suc len) (suc fuel) h k w l = elim (cases_option (spot_at rs (first_address v + at))) [
  | inl e ↦ absurd (no_spot_there rs (first_address v) all at h (omega (arith, w)) e)
  | inr (d, e) ↦ elim (cases_option (spot_at rs (second_address v + at))) [
    | inl f ↦ absurd (no_spot_there rs (second_address v) all at k (omega (arith, w)) f)
    | inr (s, f) ↦
        let some = spot_has_room rs (first_address v + at) d e in
        let more = spot_has_room rs (second_address v + at) s f in
        let n : ℕ = min (suc len) (min d.room s.room) in
        let rest = ops_are_there rs v all (at + n) (suc len - n) fuel h k (omega (arith, w)) (omega (arith, l, some, more)) in
        rw (e, f, ops_from) (some_mapped (λ ops. op_by_name v d s n ∷ ops) (ops_from rs v (at + n) (suc len - n) fuel) rest)
  ]
]

-- an operation whose pages are mapped is cut into operations by name
pub mapped_op_is_there : (rs : List Region) (v : VOp) (first second len : ℕ) → first ≡ first_address v → second ≡ second_address v → len ≡ vop_len v →
    IsMappedRange (regions_space rs) first len → IsMappedRange (regions_space rs) second len → IsSome (op_in_names rs v)
mapped_op_is_there rs v first second len e f g h k =
    let whole : (x : ℕ) → IsMappedRange (regions_space rs) x len → IsMappedRange (regions_space rs) x (vop_len v) = λ x m. subst (IsMappedRange (regions_space rs) x) g m in
    let h' : IsMappedRange (regions_space rs) (first_address v) (vop_len v) = whole (first_address v) (subst (λ x. IsMappedRange (regions_space rs) x len) e h) in
    let k' : IsMappedRange (regions_space rs) (second_address v) (vop_len v) = whole (second_address v) (subst (λ x. IsMappedRange (regions_space rs) x len) f k) in
    ops_are_there rs v (vop_len v) 0 (vop_len v) (vop_len v) h' k' (omega arith) (omega arith)

-- most operations stay as many, with those of one more
pub most_stay : (before most : ℕ) (o : Option (List Op)) → before ≡ most → IsSome o → Some most ≡ option_map (λ ops. min (before + length ops) most) o
most_stay before most None e h = absurd (cc)
most_stay before most (Some ops) e h = let same : most ≡ min (before + length ops) most = omega (arith, e) in ap Some same
