-- What stands on one list stands on no other, and a change of one list leaves the others.
use Rattle.std.proofs.Common.{◌≡◌, ◌≢◌, ℕ, zero, suc, ◌<◌, List, [], ◌∷◌, length, get_or, set, map, Option, Some, None, refl, sym, ap, subst, ◌∙◌, inl, inr, arith}
use Rattle.std.proofs.lemmas.Bool.{cases_eq}
use Rattle.std.proofs.lemmas.List.{ext_get_or, length-map, length-set, get_or-set_same, get_or-set_other, get_or_past, get_or-map}
use Rattle.ttm_base.specs.declared.BufId.{BufId}
use Rattle.lru_bulk.specs.declared.nodes.Listing.{Listing}
use Rattle.lru_bulk.specs.declared.nodes.Spot.{Spot}
use Rattle.lru_bulk.specs.declared.nodes.Spot.TheVariants.{End, Of}
use Rattle.lru_bulk.specs.declared.nodes.Node.{Node}
use Rattle.lru_bulk.specs.declared.rings.Rings.{Rings}
use Rattle.lru_bulk.specs.Rings.{Each, Path}
use Rattle.lru_bulk.specs.Lists.{list_at, listing_in, number_of}
use Rattle.lru_bulk.specs.Sound.{next_at, prev_at, listings_of, chain_of, lists_of, IsAt, IsSound, IsWhole}
use Rattle.lru_bulk.proofs.Paths.{each_map, each_append, frame}
use Rattle.lru_bulk.proofs.Walks.{ring_distinct, walk_path, length_below}
use Rattle.lru_bulk.proofs.ListingLaws.{listing_in_node}

-- the spot is the end of list i, or of a buffer on it
abbrev pub AtSpot : List (Option Listing) → Option BufId → ℕ → Spot → Type 0
AtSpot listings out i (End j) = j ≡ i
AtSpot listings out i (Of b) = IsAt listings out i b

each_of : (P : Spot → Type 0) (l : List BufId) → Each (λ b. P (Of b)) l → Each P (map Of l)
each_of P [] h = tt
each_of P (b ∷ l) h = (h.0, each_of P l h.1)

pub ring_at : (listings : List (Option Listing)) (out : Option BufId) (i : ℕ) (l : List BufId) → Each (IsAt listings out i) l → Each (AtSpot listings out i) (End i ∷ map Of l)
ring_at listings out i l h = (refl, each_of (AtSpot listings out i) l h)

same_number : (listings : List (Option Listing)) (out : Option BufId) (i j : ℕ) (a b : BufId) → a ≡ b → IsAt listings out i a → IsAt listings out j b → i ≡ j
same_number listings out i j a b e h k =
    let f : Some h.listing ≡ Some k.listing = sym h.listed ∙ ap (listing_in listings) e ∙ k.listed in
    let g : h.listing ≡ k.listing = cc in
    sym h.number ∙ ap number_of g ∙ k.number

pub spots_apart : (listings : List (Option Listing)) (out : Option BufId) (i j : ℕ) (s t : Spot) → i ≢ j → AtSpot listings out i s → AtSpot listings out j t → s ≢ t
spots_apart listings out i j (End a) (End b) ne h k e = let f : a ≡ b = cc in ne (sym h ∙ f ∙ k)
spots_apart listings out i j (End a) (Of b) ne h k e = cc
spots_apart listings out i j (Of a) (End b) ne h k e = cc
spots_apart listings out i j (Of a) (Of b) ne h k e = let f : a ≡ b = cc in ne (same_number listings out i j a b f h k)

pub out_apart : (listings : List (Option Listing)) (b : BufId) (i : ℕ) (s : Spot) → AtSpot listings (Some b) i s → s ≢ Of b
out_apart listings b i (End j) h e = cc
out_apart listings b i (Of c) h e = let f : c ≡ b = cc in h.there (ap (λ (x : BufId). Some x) f)

-- a ring none of whose links changed
pub other_ring : (n p n' p' : Spot → Spot) (listings : List (Option Listing)) (out : Option BufId) (i : ℕ) (l : List BufId) → Each (IsAt listings out i) l
    → ((s : Spot) → AtSpot listings out i s → n' s ≡ n s) → ((s : Spot) → AtSpot listings out i s → p' s ≡ p s) → Path n p (End i) (map Of l) (End i) → Path n' p' (End i) (map Of l) (End i)
other_ring n p n' p' listings out i l h f g w =
    let at = ring_at listings out i l h in
    frame n p n' p' (End i) (map Of l) (End i) w
    (each_map (AtSpot listings out i) (λ s. n' s ≡ n s) f (End i ∷ map Of l) at)
    (each_append (λ s. p' s ≡ p s) (map Of l) (End i ∷ []) (each_map (AtSpot listings out i) (λ s. p' s ≡ p s) g (map Of l) at.1) (g (End i) refl, tt))

-- one list in the place of another
pub list_same : (lists : List (List BufId)) (i : ℕ) (l : List BufId) → i < length lists → list_at (set lists i l) i ≡ l
list_same lists i l h = get_or-set_same lists i l [] h

pub list_other : (lists : List (List BufId)) (i j : ℕ) (l : List BufId) → j ≢ i → list_at (set lists i l) j ≡ list_at lists j
list_other lists i j l ne = get_or-set_other lists i j l [] ne

-- a change of one list alone
pub map_one : (f : List BufId → List BufId) (lists : List (List BufId)) (i : ℕ) (l : List BufId) → i < length lists → f (list_at lists i) ≡ l
    → ((j : ℕ) → j < length lists → j ≢ i → f (list_at lists j) ≡ list_at lists j) → map f lists ≡ set lists i l
map_one f lists i l lt here others =
    let len = length-map lists f in
    ext_get_or [] (map f lists) (set lists i l) (len ∙ sym (length-set lists i l))
    (λ k h.
    let k_in : k < length lists = subst (λ m. k < m) len h in
    elim (cases_eq k i) [
      | inl same ↦ get_or-map f lists k [] [] k_in ∙ ap (λ m. f (list_at lists m)) same ∙ here ∙ sym (ap (λ m. list_at (set lists i l) m) same ∙ list_same lists i l lt)
      | inr ne ↦ get_or-map f lists k [] [] k_in ∙ others k k_in ne ∙ sym (list_other lists i k l ne)
    ])

-- a listed buffer has a number below that of the nodes
listed_below : (nodes : List (Option Node)) (b : BufId) (x : Listing) → get_or (map listing_in_node nodes) b.0 None ≡ Some x → b.0 < length nodes
listed_below nodes b x h =
    let len = length-map nodes listing_in_node in
    let below : b.0 < length (map listing_in_node nodes) = grind (arith, get_or_past) in
    omega arith

pub chain_is : (r : Rings) (out : Option BufId) (lists : List (List BufId)) (i : ℕ) → i < 12 → IsSound r out lists → chain_of r i ≡ list_at lists i
unfolding chain_of
chain_is r out lists i lt h =
    let d = ring_distinct (next_at r) (prev_at r) i (list_at lists i) (h.rings i lt) in
    let below = each_map (IsAt (listings_of r) out i) (λ b. b.0 < length r.nodes) (λ b at. listed_below r.nodes b at.listing at.listed) (list_at lists i) (h.homes i lt) in
    walk_path (next_at r) (prev_at r) (length r.nodes) (End i) (list_at lists i) i (h.rings i lt) (length_below (list_at lists i) (length r.nodes) d.1 below)

abbrev twelve : List ℕ
twelve = 0 ∷ 1 ∷ 2 ∷ 3 ∷ 4 ∷ 5 ∷ 6 ∷ 7 ∷ 8 ∷ 9 ∷ 10 ∷ 11 ∷ []

twelve_at : (k : ℕ) → k < 12 → get_or twelve k 0 ≡ k
twelve_at zero h = refl
twelve_at (suc zero) h = refl
twelve_at (suc (suc zero)) h = refl
twelve_at (suc (suc (suc zero))) h = refl
twelve_at (suc (suc (suc (suc zero)))) h = refl
twelve_at (suc (suc (suc (suc (suc zero))))) h = refl
twelve_at (suc (suc (suc (suc (suc (suc zero)))))) h = refl
twelve_at (suc (suc (suc (suc (suc (suc (suc zero))))))) h = refl
twelve_at (suc (suc (suc (suc (suc (suc (suc (suc zero)))))))) h = refl
twelve_at (suc (suc (suc (suc (suc (suc (suc (suc (suc zero))))))))) h = refl
twelve_at (suc (suc (suc (suc (suc (suc (suc (suc (suc (suc zero)))))))))) h = refl
twelve_at (suc (suc (suc (suc (suc (suc (suc (suc (suc (suc (suc zero))))))))))) h = refl
twelve_at (suc (suc (suc (suc (suc (suc (suc (suc (suc (suc (suc (suc k)))))))))))) h = absurd (omega arith)

mapped_twelve : (f : ℕ → List BufId) (lists : List (List BufId)) → length lists ≡ 12 → ((i : ℕ) → i < 12 → f i ≡ list_at lists i) → map f twelve ≡ lists
mapped_twelve f lists count same =
    ext_get_or [] (map f twelve) lists (sym count)
    (λ k h. get_or-map f twelve k 0 [] h ∙ ap f (twelve_at k h) ∙ same k h)

-- the lists that the links lead through are those
pub lists_are : (r : Rings) (out : Option BufId) (lists : List (List BufId)) → IsSound r out lists → lists_of r ≡ lists
unfolding lists_of
lists_are r out lists h = mapped_twelve (chain_of r) lists h.count (λ i lt. chain_is r out lists i lt h)

pub whole : (r : Rings) (out : Option BufId) (lists : List (List BufId)) → IsSound r out lists → IsWhole r out
whole r out lists h = subst (IsSound r out) (sym (lists_are r out lists h)) h
