-- A thread_mappings after a mark is the same in the code and in the definitions.
use Rattle.std.proofs.Common.{◌≡◌, ℕ, Bool, true, false, List, [], ◌∷◌, refl, ap, sym, ◌∙◌, inl, inr}
use Rattle.std.specs.Prelude.{◌||◌, ◌==◌, if◌then◌else◌}
use Rattle.std.proofs.lemmas.Bool.{cases_Bool, eqb-true, eqb-false, eq-eqb, ne_eqb}
use Rattle.ttm_base.specs.declared.BufId.{BufId}
use Rattle.journal_model.specs.declared.script.MarkKind.TheVariants as mark
use Rattle.journal_model.specs.marks.Spaces.{regions_after}
use Rattle.journal_model.specs.scripts.MarkRules.{ThreadMappings, empty_thread_mappings, thread_mappings_after}
use Rattle.script_rules.specs.script_mappings.ThreadMappingLists.{Seen, IsThreadMappings}
use Rattle.journal_model.specs.rules.State.{has_buffer, without_buffer}
use Rattle.gpu_spaces.specs.Sets.{IsSetOf}
use Rattle.gpu_spaces.specs.buffer_set.Members.{is_member}

turned : (x y : ℕ) (q : Bool) → (x == y) ≡ q → (y == x) ≡ q
turned x y true h = eq-eqb y x (sym (eqb-true x y h))
turned x y false h = let apart : x ≡ y → ⊥ = eqb-false x y h in ne_eqb y x (λ k. apart (sym k))

-- one more buffer
pub one_mapped : (set new : List ℕ) (b : BufId) (bs : List BufId) → ((n : ℕ) → is_member new n ≡ (if b.0 == n then true else is_member set n)) → IsSetOf set bs → IsSetOf new (b ∷ bs)
one_mapped set new b bs h s = λ c. elim (cases_Bool (b.0 == c.0)) [
  | inl t ↦ rw (h c.0, t, turned b.0 c.0 true t) refl
  | inr f ↦ rw (h c.0, f, turned b.0 c.0 false f) (s c)
]

left_out : (bs : List BufId) (b c : BufId) → (b.0 == c.0) ≡ true → has_buffer (without_buffer bs b) c ≡ false
left_out [] b c t = refl
left_out (x ∷ bs) b c t = elim (cases_Bool (b.0 == x.0)) [
  | inl k ↦ rw k (left_out bs b c t)
  | inr f ↦
      let same : b.0 ≡ c.0 = eqb-true b.0 c.0 t in
      let apart : (c.0 == x.0) ≡ false = ap (λ n. n == x.0) (sym same) ∙ f in
      rw (f, apart) (left_out bs b c t)
]

left_in : (bs : List BufId) (b c : BufId) → (b.0 == c.0) ≡ false → has_buffer (without_buffer bs b) c ≡ has_buffer bs c
left_in [] b c f = refl
left_in (x ∷ bs) b c f = elim (cases_Bool (b.0 == x.0)) [
  | inl k ↦
      let same : b.0 ≡ x.0 = eqb-true b.0 x.0 k in
      let apart : (c.0 == x.0) ≡ false = ap (λ n. c.0 == n) (sym same) ∙ turned b.0 c.0 false f in
      rw (k, apart) (left_in bs b c f)
  | inr g ↦ rw g (ap (λ q. (c.0 == x.0) || q) (left_in bs b c f))
]

-- one buffer less
pub one_unmapped : (set new : List ℕ) (b : BufId) (bs : List BufId) → ((n : ℕ) → is_member new n ≡ (if b.0 == n then false else is_member set n)) → IsSetOf set bs → IsSetOf new (without_buffer bs b)
one_unmapped set new b bs h s = λ c. elim (cases_Bool (b.0 == c.0)) [
  | inl t ↦ rw (h c.0, t) (sym (left_out bs b c t))
  | inr f ↦ rw (h c.0, f) (s c ∙ sym (left_in bs b c f))
]

-- ---- thread_mappings_lists after marks

pub at_first : (seen : Seen) → seen.mapped ≡ [] → seen.regions ≡ [] → IsThreadMappings seen empty_thread_mappings
at_first seen m r = record { mapped = λ b. ap (λ ms. is_member ms b.0) m; regions = r }

pub map_on : (old new : Seen) (b : BufId) → ((n : ℕ) → is_member new.mapped n ≡ (if b.0 == n then true else is_member old.mapped n)) → new.regions ≡ old.regions →
    (d : ThreadMappings) → IsThreadMappings old d → IsThreadMappings new (thread_mappings_after d (mark.Map b))
map_on old new b h r d k = record { mapped = one_mapped old.mapped new.mapped b d.mapped h k.mapped; regions = r ∙ k.regions }

pub unmap_on : (old new : Seen) (b : BufId) → ((n : ℕ) → is_member new.mapped n ≡ (if b.0 == n then false else is_member old.mapped n)) → new.regions ≡ old.regions →
    (d : ThreadMappings) → IsThreadMappings old d → IsThreadMappings new (thread_mappings_after d (mark.Unmap b))
unmap_on old new b h r d k = record { mapped = one_unmapped old.mapped new.mapped b d.mapped h k.mapped; regions = r ∙ k.regions }

pub vmap_on : (old new : Seen) (va n : ℕ) (b : BufId) (off : ℕ) → new.mapped ≡ old.mapped → new.regions ≡ regions_after old.regions (mark.Vmap va n b off) →
    (d : ThreadMappings) → IsThreadMappings old d → IsThreadMappings new (thread_mappings_after d (mark.Vmap va n b off))
vmap_on old new va n b off m r d k = record { mapped = λ c. ap (λ ms. is_member ms c.0) m ∙ k.mapped c; regions = r ∙ ap (λ rs. regions_after rs (mark.Vmap va n b off)) k.regions }

pub vunmap_on : (old new : Seen) (va n : ℕ) → new.mapped ≡ old.mapped → new.regions ≡ regions_after old.regions (mark.Vunmap va n) →
    (d : ThreadMappings) → IsThreadMappings old d → IsThreadMappings new (thread_mappings_after d (mark.Vunmap va n))
vunmap_on old new va n m r d k = record { mapped = λ c. ap (λ ms. is_member ms c.0) m ∙ k.mapped c; regions = r ∙ ap (λ rs. regions_after rs (mark.Vunmap va n)) k.regions }
