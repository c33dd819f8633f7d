-- The buffers of a range of addresses are those of the mappings that meet its pages.
use Rattle.std.proofs.Common.{◌≡◌, ℕ, ◌<◌, ◌≤◌, min, max, true, false, ◌+◌, ◌*◌, ◌/◌, List, [], ◌∷◌, refl, ap, sym, ◌∙◌, arith, inl, inr}
use Rattle.std.specs.Prelude.{map, filter, ◌||◌, ◌==◌, if◌then◌else◌}
use Rattle.std.specs.List.{list_any}
use Rattle.std.proofs.lemmas.Bool.{cases_Bool, ltb-true, ltb-false, lt-ltb, le-ltb, eqb-true, eqb-false, eq-eqb, ne_eqb}
use Rattle.std.proofs.lemmas.Simd.{map-map}
use Rattle.ttm_base.specs.declared.BufId.{BufId}
use Rattle.ttm_base.specs.declared.Span.{Span}
use Rattle.journal_model.specs.rules.State.{has_buffer}
use Rattle.journal_model.specs.marks.Spaces.{Region, does_meet}
use Rattle.journal_model.specs.marks.ByName.{has_byte_of}
use Rattle.law_legal.specs.law_spaces.Rising.{IsRising}
use Rattle.gpu_spaces.specs.declared.mappings.Rest.{Rest}
use Rattle.gpu_spaces.specs.Kept.{region_at}
use Rattle.gpu_spaces.specs.Sets.{IsSetOf}
use Rattle.gpu_spaces.specs.buffer_set.Members.{is_member}
use Rattle.gpu_spaces.proofs.Meeting.{is_within}

pub buffers_met : (range : Span) (first : ℕ) (es its : List (ℕ × Rest)) → its ≡ filter (is_within first range) es → filter (does_meet range) (map region_at es) ≡ map region_at (filter (is_within first range) es) →
    map (λ (e : ℕ × Rest). e.1.b) its ≡ map (λ (r : Region). r.b) (filter (does_meet range) (map region_at es))
buffers_met range first es its e h =
    ap (map (λ (x : ℕ × Rest). x.1.b)) e
    ∙ sym (map-map (λ (r : Region). r.b) region_at (filter (is_within first range) es))
    ∙ ap (map (λ (r : Region). r.b)) (sym h)

-- the pages of a range of addresses
abbrev pub pages : ℕ → ℕ → Span
pages addr len = record { start = addr / 4096; end = (addr + len + 4095) / 4096 }

pub some_pages : (addr len : ℕ) → 0 < len → addr / 4096 < (addr + len + 4095) / 4096
some_pages addr len some = omega (arith, some)

-- a mapping has a byte of the range exactly where it has a page of it
same_test : (addr len : ℕ) (r : Region) → 0 < len → r.span.start < r.span.end → does_meet (pages addr len) r ≡ has_byte_of addr len r
same_test addr len r some w = elim (cases_Bool (has_byte_of addr len r)) [
  | inl t ↦
      let l = ltb-true (max addr (4096 * r.span.start)) (min (addr + len) (4096 * r.span.end)) t in
      let k : max r.span.start (addr / 4096) < min r.span.end ((addr + len + 4095) / 4096) = omega (arith, some, w, l) in
      lt-ltb (max r.span.start (addr / 4096)) (min r.span.end ((addr + len + 4095) / 4096)) k ∙ sym t
  | inr f ↦
      let l = ltb-false (max addr (4096 * r.span.start)) (min (addr + len) (4096 * r.span.end)) f in
      let k : min r.span.end ((addr + len + 4095) / 4096) ≤ max r.span.start (addr / 4096) = omega (arith, some, w, l) in
      le-ltb (max r.span.start (addr / 4096)) (min r.span.end ((addr + len + 4095) / 4096)) k ∙ sym f
]

pub same_filter : (addr len : ℕ) (rs : List Region) → 0 < len → IsRising rs → filter (does_meet (pages addr len)) rs ≡ filter (has_byte_of addr len) rs
same_filter addr len [] some r = refl
same_filter addr len (x ∷ rs) some r =
    let same : does_meet (pages addr len) x ≡ has_byte_of addr len x = same_test addr len x some r.0 in
    let rest = same_filter addr len rs some r.2 in
    elim (cases_Bool (has_byte_of addr len x)) [
      | inl t ↦ rw (same ∙ t, t) (ap (λ xs. x ∷ xs) rest)
      | inr f ↦ rw (same ∙ f, f) rest
    ]

pub none_between : (addr : ℕ) (rs : List Region) → filter (has_byte_of addr 0) rs ≡ []
none_between addr [] = refl
none_between addr (x ∷ rs) =
    let no : has_byte_of addr 0 x ≡ false = le-ltb (max addr (4096 * x.span.start)) (min (addr + 0) (4096 * x.span.end)) (omega arith) in
    rw no (none_between addr rs)

-- ---- sets

-- a number that is put in, and what is left of the list
pub put_in : (set new : List ℕ) (x b : BufId) (rest : List BufId) → is_member new b.0 ≡ (if x.0 == b.0 then true else is_member set b.0) → (is_member new b.0 || has_buffer rest b) ≡ (is_member set b.0 || has_buffer (x ∷ rest) b)
put_in set new x b rest h = elim (cases_Bool (x.0 == b.0)) [
  | inl t ↦
      let e : (b.0 == x.0) ≡ true = eq-eqb b.0 x.0 (sym (eqb-true x.0 b.0 t)) in
      elim (cases_Bool (is_member set b.0)) [ inl k ↦ rw (h, t, k) refl | inr k ↦ rw (h, t, k, e) refl ]
  | inr f ↦
      let apart : x.0 ≡ b.0 → ⊥ = eqb-false x.0 b.0 f in
      let e : (b.0 == x.0) ≡ false = ne_eqb b.0 x.0 (λ k. apart (sym k)) in
      rw (h, f, e) refl
]

-- a set and its list answer the same of other lists
pub same_any : (set : List ℕ) (bs cs : List BufId) → IsSetOf set bs → list_any (λ (b : BufId). is_member set b.0) cs ≡ list_any (has_buffer bs) cs
same_any set bs [] h = refl
same_any set bs (c ∷ cs) h = rw (h c) (ap (λ x. has_buffer bs c || x) (same_any set bs cs h))
