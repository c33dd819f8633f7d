-- Numbers that are given back one by one.
use Rattle.std.specs.Prelude.{◌≡◌, ℕ, Bool, true, List, Option, Some, filter_map, slice_get, take}
use Rattle.ttm_base.specs.declared.Loc.{Loc}
use Rattle.room_representation.specs.lemma_bytes.GivenBack.{given_back}

-- each number is held when it is given back, after those before it
abbrev pub AreHeldInTurn : List Bool → List ℕ → Type 0
AreHeldInTurn pool ks = (i k : ℕ) → slice_get ks i ≡ Some k → slice_get (given_back pool (take i ks)) k ≡ Some true

-- what each page of a table has, its frame or its slot, is held when it is given back, after those before it
abbrev pub AreHeldAlong : (Loc → Option ℕ) → List Bool → List Loc → Type 0
AreHeldAlong see pool places = (i : ℕ) (l : Loc) (k : ℕ) → slice_get places i ≡ Some l → see l ≡ Some k → slice_get (given_back pool (filter_map see (take i places))) k ≡ Some true
