-- Positions in tables and spans: which frame, page or slot stands where.
use Rattle.std.proofs.Common.{◌≡◌, ℕ, ◌<◌, ◌≤◌, zero, suc, Bool, true, false, List, [], ◌∷◌, length, Some, None, refl, sym, ap, arith}
use Rattle.std.specs.Prelude.{slice_get, map, filter_map, nat_eq, unwrap_or, ◌||◌}
use Rattle.std.specs.List.{list_all}
use Rattle.std.proofs.lemmas.Bool.{eqb-true, eq-eqb}
use Rattle.ttm_base.specs.declared.Loc.{Loc}
use Rattle.ttm_base.specs.declared.Loc.TheVariants as loc
use Rattle.journal_model.specs.rules.Places.{frame_of, is_frame}
use Rattle.journal_model.specs.rules.Holds.{has_number}
use Rattle.laws.proofs.lemma_bytes_model.Actions.{or_first, or_second}

pub get_at : {X : Type 0} (xs : List X) (i : ℕ) → i < length xs → (x : X) × (slice_get xs i ≡ Some x)
get_at [] i h = absurd (omega (arith, h))
get_at (x ∷ xs) zero h = (x, refl)
get_at (x ∷ xs) (suc i) h = get_at xs i (omega (arith, h))

pub get_past : {X : Type 0} (xs : List X) (i : ℕ) → length xs ≤ i → slice_get xs i ≡ None
get_past [] i h = refl
get_past (x ∷ xs) zero h = absurd (omega (arith, h))
get_past (x ∷ xs) (suc i) h = get_past xs i (omega (arith, h))

pub get_within : {X : Type 0} (xs : List X) (i : ℕ) (x : X) → slice_get xs i ≡ Some x → i < length xs
get_within [] i x e = cc
get_within (y ∷ ys) zero x e = omega arith
get_within (y ∷ ys) (suc i) x e = let l = get_within ys i x e in omega (arith, l)

-- ---- numbers

pub has_at : (ns : List ℕ) (k n : ℕ) → slice_get ns k ≡ Some n → has_number ns n ≡ true
has_at [] k n e = cc
has_at (m ∷ ms) zero n e = let same : n ≡ m = cc in or_first (nat_eq n m) (has_number ms n) (eq-eqb n m same)
has_at (m ∷ ms) (suc k) n e = or_second (nat_eq n m) (has_number ms n) (has_at ms k n e)

pub at_has : (ns : List ℕ) (n : ℕ) → has_number ns n ≡ true → (k : ℕ) × (slice_get ns k ≡ Some n)
at_has [] n h = cc
at_has (m ∷ ms) n h = by (nat_eq n m) refl (at_has ms n) h
  where
    by : (q : Bool) → nat_eq n m ≡ q → (has_number ms n ≡ true → (k : ℕ) × (slice_get ms k ≡ Some n)) → (q || has_number ms n) ≡ true → (k : ℕ) × (slice_get (m ∷ ms) k ≡ Some n)
    by true e rest g = (zero, ap Some (sym (eqb-true n m e)))
    by false e rest g = let r = rest g in (suc r.0, r.1)

-- ---- tables full of frames

abbrev pub AllFrames : List Loc → Type 0
AllFrames table = (k : ℕ) → k < length table → (f : ℕ) × (slice_get table k ≡ Some (loc.Frame f))

pub frame_at : (table : List Loc) → AllFrames table → (k f : ℕ) → slice_get table k ≡ Some (loc.Frame f) → slice_get (filter_map frame_of table) k ≡ Some f
frame_at [] all k f e = cc
frame_at (loc.Frame m ∷ table) all zero f e = let same : loc.Frame m ≡ loc.Frame f = cc in let one : m ≡ f = cc in ap Some one
frame_at (loc.Frame m ∷ table) all (suc k) f e = frame_at table (λ j l. all (suc j) (omega (arith, l))) k f e
frame_at (loc.Slot m ∷ table) all k f e = absurd (no (all 0 (omega arith)))
  where
    no : (f : ℕ) × (◌≡◌ {A = _} (Some (loc.Slot m)) (Some (loc.Frame f))) → ⊥
    no z = let q : loc.Slot m ≡ loc.Frame z.0 = (let w = z.1 in cc) in cc
frame_at (loc.Zero ∷ table) all k f e = absurd (no (all 0 (omega arith)))
  where
    no : (f : ℕ) × (◌≡◌ {A = _} (Some loc.Zero) (Some (loc.Frame f))) → ⊥
    no z = let q : loc.Zero ≡ loc.Frame z.0 = (let w = z.1 in cc) in cc

-- a frame of the table stands somewhere in it
pub frame_stands : (table : List Loc) (f : ℕ) → has_number (filter_map frame_of table) f ≡ true → (k : ℕ) × (slice_get table k ≡ Some (loc.Frame f))
frame_stands [] f h = cc
frame_stands (loc.Zero ∷ table) f h = let r = frame_stands table f h in (suc r.0, r.1)
frame_stands (loc.Slot m ∷ table) f h = let r = frame_stands table f h in (suc r.0, r.1)
frame_stands (loc.Frame m ∷ table) f h = by (nat_eq f m) refl (frame_stands table f) h
  where
    by : (q : Bool) → nat_eq f m ≡ q → (has_number (filter_map frame_of table) f ≡ true → (k : ℕ) × (slice_get table k ≡ Some (loc.Frame f))) →
        (q || has_number (filter_map frame_of table) f) ≡ true → (k : ℕ) × (slice_get (loc.Frame m ∷ table) k ≡ Some (loc.Frame f))
    by true e rest g = (zero, ap (λ n. Some (loc.Frame n)) (sym (eqb-true f m e)))
    by false e rest g = let r = rest g in (suc r.0, r.1)

pub frame_listed : (table : List Loc) (k f : ℕ) → slice_get table k ≡ Some (loc.Frame f) → has_number (filter_map frame_of table) f ≡ true
frame_listed [] k f e = cc
frame_listed (l ∷ table) zero f e = first l (let same : l ≡ loc.Frame f = cc in same)
  where
    first : (l : Loc) → l ≡ loc.Frame f → has_number (filter_map frame_of (l ∷ table)) f ≡ true
    first (loc.Frame m) q = let one : f ≡ m = cc in or_first (nat_eq f m) (has_number (filter_map frame_of table) f) (eq-eqb f m one)
    first (loc.Slot m) q = cc
    first loc.Zero q = cc
frame_listed (loc.Frame m ∷ table) (suc k) f e = or_second (nat_eq f m) (has_number (filter_map frame_of table) f) (frame_listed table k f e)
frame_listed (loc.Slot m ∷ table) (suc k) f e = frame_listed table k f e
frame_listed (loc.Zero ∷ table) (suc k) f e = frame_listed table k f e

-- the test says so
pub full_is : (table : List Loc) → list_all is_frame table ≡ true → AllFrames table
full_is [] h k l = absurd (omega (arith, l))
full_is (loc.Frame f ∷ table) h zero l = (f, refl)
full_is (loc.Frame f ∷ table) h (suc k) l = full_is table h k (omega (arith, l))
full_is (loc.Slot m ∷ table) h k l = cc
full_is (loc.Zero ∷ table) h k l = cc

-- no frame is left where the buffer left TT
pub zero_loc : (table : List Loc) (k : ℕ) → unwrap_or (slice_get (map (λ l. loc.Zero) table) k) loc.Zero ≡ loc.Zero
zero_loc [] k = refl
zero_loc (l ∷ table) zero = refl
zero_loc (l ∷ table) (suc k) = zero_loc table k
