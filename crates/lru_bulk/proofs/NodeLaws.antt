-- The nodes after one is put in, changed or taken away.
use Rattle.std.proofs.Common.{◌≡◌, ◌≢◌, ℕ, zero, suc, ◌<◌, List, [], ◌∷◌, length, get_or, set, map, Option, Some, None, IsSome, refl, sym, ap, ◌∙◌, subst, inl, inr, arith, replicate}
use Rattle.std.proofs.lemmas.Bool.{cases_eq}
use Rattle.std.proofs.lemmas.List.{ext_get_or, length-map, length-set, get_or-set_same, get_or-set_other, get_or_past}
use Rattle.slab.specs.Slab.{Slab, get, Updates}
use Rattle.lru_bulk.specs.Nodes.{under, nodes_of, IsKeyed}

within : (keys : List (Option ℕ)) (i key : ℕ) → get_or keys i None ≡ Some key → i < length keys
within keys i key found = grind (arith, get_or_past)

module _ {T : Type 0} where
  pub nodes_at : (slab : Slab T) (keys : List (Option ℕ)) (i : ℕ) → get_or (nodes_of slab keys) i None ≡ under slab (get_or keys i None)
  nodes_at slab [] i = refl
  nodes_at slab (k ∷ keys) zero = refl
  nodes_at slab (k ∷ keys) (suc i) = nodes_at slab keys i

  pub none_keyed : (f : Option ℕ → Option T) (n : ℕ) → f None ≡ None → map f (replicate n None) ≡ replicate n None
  none_keyed f zero h = refl
  none_keyed f (suc n) h = rw (h, none_keyed f n h) refl

  nodes_set : (slab slab' : Slab T) (keys keys' : List (Option ℕ)) (i : ℕ) (slot : Option T) → length keys' ≡ length keys → i < length keys
      → under slab' (get_or keys' i None) ≡ slot → ((j : ℕ) → j ≢ i → under slab' (get_or keys' j None) ≡ under slab (get_or keys j None))
      → nodes_of slab' keys' ≡ set (nodes_of slab keys) i slot
  nodes_set slab slab' keys keys' i slot len lt here others =
      let len' = length-map keys' (under slab') in
      let len0 = length-map keys (under slab) in
      ext_get_or None (nodes_of slab' keys') (set (nodes_of slab keys) i slot)
      (len' ∙ len ∙ sym len0 ∙ sym (length-set (nodes_of slab keys) i slot))
      (λ k h. elim (cases_eq k i) [
        | inl same ↦
            let in' : i < length (nodes_of slab keys) = subst (λ m. i < m) (sym len0) lt in
            nodes_at slab' keys' k ∙ ap (λ j. under slab' (get_or keys' j None)) same ∙ here
            ∙ sym (ap (λ j. get_or (set (nodes_of slab keys) i slot) j None) same ∙ get_or-set_same (nodes_of slab keys) i slot None in')
        | inr other ↦ nodes_at slab' keys' k ∙ others k other ∙ sym (get_or-set_other (nodes_of slab keys) i k slot None other ∙ nodes_at slab keys k)
      ])

  -- another value under a key leaves what other keys have
  under_other : (slab slab' : Slab T) (key : ℕ) (slot : Option T) (o : Option ℕ) → Updates slab slab' key slot → ((k : ℕ) → o ≡ Some k → k ≢ key) → under slab' o ≡ under slab o
  under_other slab slab' key slot None u ne = refl
  under_other slab slab' key slot (Some k) u ne = u.others k (ne k refl)

  filled_not_vacant : (slab : Slab T) (k key : ℕ) → IsSome (get slab k) → get slab key ≡ None → k ≢ key
  filled_not_vacant slab k key some none same = let e : get slab k ≡ None = ap (get slab) same ∙ none in grind arith

  pub nodes_put : (slab slab' : Slab T) (keys : List (Option ℕ)) (i key : ℕ) (value : T) → IsKeyed slab keys → i < length keys
      → get slab key ≡ None → Updates slab slab' key (Some value) → nodes_of slab' (set keys i (Some key)) ≡ set (nodes_of slab keys) i (Some value)
  nodes_put slab slab' keys i key value keyed lt vacant u =
      nodes_set slab slab' keys (set keys i (Some key)) i (Some value) (length-set keys i (Some key)) lt
      (ap (under slab') (get_or-set_same keys i (Some key) None lt) ∙ u.changed)
      (λ j ne. ap (under slab') (get_or-set_other keys i j (Some key) None ne)
      ∙ under_other slab slab' key (Some value) (get_or keys j None) u (λ k found. filled_not_vacant slab k key (keyed.filled j k found) vacant))

  pub nodes_take : (slab slab' : Slab T) (keys : List (Option ℕ)) (i key : ℕ) → IsKeyed slab keys → get_or keys i None ≡ Some key
      → Updates slab slab' key None → nodes_of slab' (set keys i None) ≡ set (nodes_of slab keys) i None
  nodes_take slab slab' keys i key keyed found u =
      nodes_set slab slab' keys (set keys i None) i None (length-set keys i None) (within keys i key found)
      (ap (under slab') (get_or-set_same keys i None None (within keys i key found)))
      (λ j ne. ap (under slab') (get_or-set_other keys i j None None ne)
      ∙ under_other slab slab' key None (get_or keys j None) u (λ k there same. ne (keyed.apart j i key (there ∙ ap (λ m. Some m) same) found)))

  pub nodes_change : (slab slab' : Slab T) (keys : List (Option ℕ)) (i key : ℕ) (value : T) → IsKeyed slab keys → get_or keys i None ≡ Some key
      → Updates slab slab' key (Some value) → nodes_of slab' keys ≡ set (nodes_of slab keys) i (Some value)
  nodes_change slab slab' keys i key value keyed found u =
      nodes_set slab slab' keys keys i (Some value) refl (within keys i key found)
      (ap (under slab') found ∙ u.changed)
      (λ j ne. under_other slab slab' key (Some value) (get_or keys j None) u (λ k there same. ne (keyed.apart j i key (there ∙ ap (λ m. Some m) same) found)))

  -- each key still has a value of its own
  pub keyed_put : (slab slab' : Slab T) (keys : List (Option ℕ)) (i key : ℕ) (value : T) → IsKeyed slab keys → i < length keys
      → get slab key ≡ None → Updates slab slab' key (Some value) → IsKeyed slab' (set keys i (Some key))
  keyed_put slab slab' keys i key value keyed lt vacant u = record {
    filled = λ j k found. elim (cases_eq j i) [
      | inl same ↦
          let e : Some key ≡ Some k = sym (get_or-set_same keys i (Some key) None lt) ∙ ap (λ m. get_or (set keys i (Some key)) m None) (sym same) ∙ found in
          let f : key ≡ k = cc in
          subst (λ m. IsSome (get slab' m)) f (subst IsSome (sym u.changed) refl)
      | inr ne ↦
          let old : get_or keys j None ≡ Some k = sym (get_or-set_other keys i j (Some key) None ne) ∙ found in
          let here = keyed.filled j k old in
          subst IsSome (sym (u.others k (filled_not_vacant slab k key here vacant))) here
    ];
    apart = λ a b k fa fb. elim (cases_eq a i) [
      | inl sa ↦ elim (cases_eq b i) [
        | inl sb ↦ sa ∙ sym sb
        | inr nb ↦ absurd (clash a b k sa nb fa fb)
      ]
      | inr na ↦ elim (cases_eq b i) [
        | inl sb ↦ absurd (clash b a k sb na fb fa)
        | inr nb ↦ keyed.apart a b k (sym (get_or-set_other keys i a (Some key) None na) ∙ fa) (sym (get_or-set_other keys i b (Some key) None nb) ∙ fb)
      ]
    ];
  }
    where
      clash : (a b k : ℕ) → a ≡ i → b ≢ i → get_or (set keys i (Some key)) a None ≡ Some k → get_or (set keys i (Some key)) b None ≡ Some k → ⊥
      clash a b k sa nb fa fb =
          let e : Some key ≡ Some k = sym (get_or-set_same keys i (Some key) None lt) ∙ ap (λ m. get_or (set keys i (Some key)) m None) (sym sa) ∙ fa in
          let f : key ≡ k = cc in
          let old : get_or keys b None ≡ Some k = sym (get_or-set_other keys i b (Some key) None nb) ∙ fb in
          filled_not_vacant slab k key (keyed.filled b k old) vacant (sym f)

  pub keyed_take : (slab slab' : Slab T) (keys : List (Option ℕ)) (i key : ℕ) → IsKeyed slab keys → get_or keys i None ≡ Some key
      → Updates slab slab' key None → IsKeyed slab' (set keys i None)
  keyed_take slab slab' keys i key keyed found u = record {
    filled = λ j k there.
        let ne = other j k there in
        let old = before j k ne there in
        subst IsSome (sym (u.others k (λ same. ne (keyed.apart j i key (old ∙ ap (λ m. Some m) same) found)))) (keyed.filled j k old);
    apart = λ a b k fa fb. keyed.apart a b k (before a k (other a k fa) fa) (before b k (other b k fb) fb);
  }
    where
      other : (j k : ℕ) → get_or (set keys i None) j None ≡ Some k → j ≢ i
      other j k there same =
          let e : None ≡ Some k = sym (get_or-set_same keys i None None (within keys i key found)) ∙ ap (λ m. get_or (set keys i None) m None) (sym same) ∙ there in
          cc

      before : (j k : ℕ) → j ≢ i → get_or (set keys i None) j None ≡ Some k → get_or keys j None ≡ Some k
      before j k ne there = sym (get_or-set_other keys i j None None ne) ∙ there

  pub keyed_change : (slab slab' : Slab T) (keys : List (Option ℕ)) (i key : ℕ) (value : T) → IsKeyed slab keys → get_or keys i None ≡ Some key
      → Updates slab slab' key (Some value) → IsKeyed slab' keys
  keyed_change slab slab' keys i key value keyed found u = record {
    filled = λ j k there. elim (cases_eq k key) [
      | inl same ↦ subst (λ m. IsSome (get slab' m)) (sym same) (subst IsSome (sym u.changed) refl)
      | inr ne ↦ subst IsSome (sym (u.others k ne)) (keyed.filled j k there)
    ];
    apart = keyed.apart;
  }
