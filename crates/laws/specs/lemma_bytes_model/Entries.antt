-- What each entry changes of what the law sees.
use Rattle.std.specs.Prelude.{◌≡◌, ℕ, suc, ◌<◌, Bool, true, false, cond, not, ◌&&◌, ◌||◌, ◌⊎◌, eqb, List, [], ◌∷◌, Some}
use Rattle.laws.specs.lemma_bytes_model.Memory.{Page, Bytes, Nowhere, Slot, Own, Stores, same_page, Packet, Write, Show, shown, Step, run, run_all, touched}
use Rattle.laws.specs.lemma_bytes_model.View.{Free, at_job, Owner, Idle, Live, Kept, Target, Ghost, Fences, View, is_fence}

-- f, and true at n if w is
abbrev pub also : ℕ → Bool → (ℕ → Bool) → ℕ → Bool
also n w f j = f j || (eqb n j && w)

-- A piece of an op within one page of each buffer. Page i of b becomes a function of itself and of page k
-- of c, or something of page i of b is shown.
pub data Piece : Type 0 where
  Change : ℕ → ℕ → ℕ → ℕ → (Bytes → Bytes → Bytes) → Piece
  Probe : ℕ → ℕ → (Bytes → List ℕ) → Piece

-- the packet of a piece, where the pages stand at these places
abbrev pub aimed : (ℕ → ℕ → Page) → Piece → Packet
aimed place (Change b i c k f) = Write (place b i) (place c k) f
aimed place (Probe b i g) = Show (place b i) g

-- the pieces on the memory where each page has its own place for good
abbrev pub plain_after : List Piece → Stores → Stores
plain_after [] s = s
plain_after (p ∷ ps) s = plain_after ps (run (aimed Own p) s)

-- the packets of the pieces, with what the plain memory shows for each
abbrev pub steps : (ℕ → ℕ → Page) → List Piece → Stores → List Step
steps place [] s = []
steps place (p ∷ ps) s =
    record { packet = aimed place p; due = shown (aimed Own p) s } ∷ steps place ps (run (aimed Own p) s)

-- page i of b stands at a page that engines reach
pub record Stands (place : ℕ → ℕ → Page) (b i : ℕ) : Type 0 where
  pub somewhere : place b i ≡ Nowhere → ⊥
  pub reached : (n : ℕ) → place b i ≡ Slot n → ⊥

-- the pieces are of used buffers, change only changed ones, and their pages stand
abbrev pub AllNamed : (ℕ → ℕ → Page) → (ℕ → Bool) → (ℕ → Bool) → List Piece → Type 0
AllNamed place used changed [] = Unit {0}
AllNamed place used changed (Change b i c k f ∷ ps) =
    (changed b ≡ true) × (used c ≡ true) × Stands place b i × Stands place c k × AllNamed place used changed ps
AllNamed place used changed (Probe b i g ∷ ps) = (used b ≡ true) × Stands place b i × AllNamed place used changed ps

-- a new job, the jobs that it waits for or follows, and the buffers that it joins
abbrev pub joined : ℕ → (ℕ → Bool) → (ℕ → Bool) → (ℕ → Bool) → Fences → Fences
joined n waits changed used f = record {
  prior = λ j i. f.prior j i || (eqb n j && waits i);
  strong = λ b. also n (changed b) (f.strong b);
  shared = λ b. also n (used b && not (changed b)) (f.shared b);
  ghost = f.ghost;
  mover = f.mover;
}

abbrev pub armed : List Piece → (ℕ → Bool) → (ℕ → Bool) → (ℕ → Bool) → View → View
armed ps waits changed used v = record v {
  count = suc v.count;
  left = at_job v.count (steps v.place ps v.plain) v.left;
  fences = joined v.count waits changed used v.fences;
  plain = plain_after ps v.plain;
}

-- what must hold for a job to be emitted
pub record ArmLegal (v : View) (ps : List Piece) (waits changed used : ℕ → Bool) : Type 0 where
  pub named : AllNamed v.place used changed ps
  pub emitted : (j : ℕ) → waits j ≡ true → j < v.count
  pub all : (b j : ℕ) → changed b ≡ true → is_fence v.fences b false j ≡ true → (waits j ≡ true) ⊎ (v.done j ≡ true)
  pub writers : (b j : ℕ) → used b ≡ true → is_fence v.fences b true j ≡ true → (waits j ≡ true) ⊎ (v.done j ≡ true)

-- the CPU writes at once, where all jobs of the buffer are done
abbrev pub cpu_wrote : List Piece → View → View
cpu_wrote ps v = record v { stores = run_all (steps v.place ps v.plain) v.stores; plain = plain_after ps v.plain }

-- page i of b is at y, and its bytes came there at once; where it stood is idle
abbrev pub relocated : ℕ → ℕ → Page → View → View
relocated b i y v = record v {
  stores = run (Write y (v.place b i) (λ old new. new)) v.stores;
  place = λ c k. cond (same_page (Own b i) (Own c k)) y (v.place c k);
  owner = λ x. cond (same_page y x) (Live b i) (cond (same_page (v.place b i) x) Idle (v.owner x));
}

-- an idle page becomes zeros
abbrev pub cleared : Page → View → View
cleared y v = record v { stores = run (Write y Nowhere (λ old new. new)) v.stores }

-- pages get other owners, and jobs are to be waited for at other places
abbrev pub retitled : Fences → (Page → Owner) → View → View
retitled f owner v = record v { fences = f; owner = owner }

-- the jobs where takes is join b as KERNEL jobs
abbrev pub taking : ℕ → (ℕ → Bool) → Fences → Fences
taking b takes f = record f { strong = λ c j. f.strong c j || (eqb b c && takes j) }

abbrev pub is_own : ℕ → Page → Bool
is_own b (Own c k) = eqb b c
is_own b _ = false

-- b is dead; its pages have these owners. The ghost n, where there is one, has these jobs
abbrev pub freed : ℕ → (Page → Owner) → ℕ → (ℕ → Bool) → Bytes → View → View
freed b owner n jobs zeros v = record v {
  owner = owner;
  place = λ c k. cond (eqb b c) Nowhere (v.place c k);
  fences = record v.fences { ghost = λ m j. v.fences.ghost m j || (eqb n m && jobs j) };
  plain = λ x. cond (is_own b x) zeros (v.plain x);
}

-- what becomes of a page where b dies: it was kept for b, or b's and goes to the ghost n, or b's and untouched, or
-- of a target that was left to b, or it stays
abbrev pub Fate : View → ℕ → ℕ → Page → Owner → Type 0
Fate v b n x o =
    ((k : ℕ) × (v.owner x ≡ Kept b k))
    ⊎ ((k : ℕ) × (v.owner x ≡ Live b k) × (o ≡ Ghost n))
    ⊎ ((k : ℕ) × (v.owner x ≡ Live b k) × ((i : ℕ) → touched (v.left i) x ≡ false))
    ⊎ ((k : ℕ) × (v.owner x ≡ Target b k) × (o ≡ Free))
    ⊎ (o ≡ v.owner x)

abbrev pub has : ℕ → List ℕ → Bool
has k [] = false
has k (m ∷ ks) = eqb m k || has k ks

-- one packet for each page, a copy from its old to its new place
abbrev pub copies : (Bytes → Bytes → Bytes) → (ℕ → Page) → (ℕ → Page) → List ℕ → List Step
copies f to from [] = []
copies f to from (k ∷ ks) = record { packet = Write (to k) (from k) f; due = [] } ∷ copies f to from ks

-- the pages ks of b go to new places by a new job, which waits for the jobs of b
abbrev pub moved : (Bytes → Bytes → Bytes) → ℕ → (ℕ → Page) → List ℕ → Fences → (Page → Owner) → View → View
moved copy b to ks f owner v = record v {
  count = suc v.count;
  left = at_job v.count (copies copy to (v.place b) ks) v.left;
  fences = f;
  owner = owner;
  place = λ c k. cond (eqb b c && has k ks) (to k) (v.place c k);
}

-- the fences after a move, whose old pages go to the ghost n
abbrev pub moved_to_ghost : ℕ → ℕ → ℕ → (ℕ → Bool) → Fences → Fences
moved_to_ghost job b n waits f = record {
  prior = λ j i. f.prior j i || (eqb job j && waits i);
  strong = λ c. also job (eqb b c) (f.strong c);
  shared = f.shared;
  ghost = λ m. also job (eqb n m) (f.ghost m);
  mover = f.mover;
}

-- the fences after a move that is the move job of VRAM from now on
abbrev pub moved_now : ℕ → ℕ → (ℕ → Bool) → Fences → Fences
moved_now job b waits f = record {
  prior = λ j i. f.prior j i || (eqb job j && waits i);
  strong = λ c. also job (eqb b c) (f.strong c);
  shared = f.shared;
  ghost = f.ghost;
  mover = Some job;
}

-- what a move needs, and what becomes of the pages
pub record MoveLegal (v : View) (copy : Bytes → Bytes → Bytes) (b : ℕ) (to : ℕ → Page) (ks : List ℕ) (waits : ℕ → Bool) (gone : Owner) (owner : Page → Owner) : Type 0 where
  -- a copy brings the whole page, as far as it is one
  pub brings : (k : ℕ) (old : Bytes) → has k ks ≡ true → copy old (v.plain (Own b k)) ≡ v.plain (Own b k)
  pub emitted : (j : ℕ) → waits j ≡ true → j < v.count
  pub waited : (j : ℕ) → is_fence v.fences b false j ≡ true → (waits j ≡ true) ⊎ (v.done j ≡ true)
  pub stands : (k : ℕ) → has k ks ≡ true → v.owner (v.place b k) ≡ Live b k
  pub reached : (k n : ℕ) → has k ks ≡ true → v.place b k ≡ Slot n → ⊥
  pub whole : (k : ℕ) → has k ks ≡ false → v.place b k ≡ Nowhere
  pub ready : (k : ℕ) → has k ks ≡ true → (v.owner (to k) ≡ Target b k) ⊎ (v.owner (to k) ≡ Kept b k)
  pub reaches : (k n : ℕ) → has k ks ≡ true → to k ≡ Slot n → ⊥
  pub somewhere : (k : ℕ) → has k ks ≡ true → to k ≡ Nowhere → ⊥
  pub arrive : (k : ℕ) → has k ks ≡ true → owner (to k) ≡ Live b k
  pub leave : (k : ℕ) → has k ks ≡ true → owner (v.place b k) ≡ gone
  pub stay : (x : Page) → ((k : ℕ) → has k ks ≡ true → to k ≡ x → ⊥) → ((k : ℕ) → has k ks ≡ true → v.place b k ≡ x → ⊥) → owner x ≡ v.owner x
