-- What the law sees of a state: the jobs with their packets that haven't run, which jobs wait for which, the owner of each page, and the
-- bytes. Jobs are numbered in the order of their emission.
use Rattle.std.specs.Prelude.{◌≡◌, ℕ, zero, suc, ◌<◌, ◌≤◌, Bool, true, false, cond, not, ◌&&◌, ◌||◌, ◌⊎◌, eqb, List, [], Option, Some}
use Rattle.laws.specs.lemma_bytes_model.Memory.{Page, Bytes, Nowhere, Slot, Own, Stores, Step, run, run_all, touched, written, AllShow}

-- f but a at k
abbrev pub at_job {ℓ} : {A : Type ℓ} → ℕ → A → (ℕ → A) → ℕ → A
at_job k a f j = cond (eqb k j) a (f j)

-- the stores after the packets that are left of the first n jobs, in the order of emission
abbrev pub rest : (ℕ → List Step) → ℕ → Stores → Stores
rest left zero s = s
rest left (suc n) s = run_all (left n) (rest left n s)

-- In which hold a page stands: a free frame or slot, or Nowhere; a free page of VRAM; page k of buffer b;
-- the frame in the table of a buffer in VRAM; page k of the target in VRAM of b; a ghost. No job touches an
-- idle page or a kept one.
pub data Owner : Type 0 where
  Idle : Owner
  Free : Owner
  Live : ℕ → ℕ → Owner
  Kept : ℕ → ℕ → Owner
  Target : ℕ → ℕ → Owner
  Ghost : ℕ → Owner

-- the jobs that are to be waited for
pub record Fences : Type 0 where
  -- the first job waits for the second, or follows it in its context
  pub prior : ℕ → ℕ → Bool
  -- by buffer: its KERNEL and WRITE jobs, and its READ jobs
  pub strong : ℕ → ℕ → Bool
  pub shared : ℕ → ℕ → Bool
  -- by ghost: its jobs
  pub ghost : ℕ → ℕ → Bool
  -- the move job of VRAM
  pub mover : Option ℕ

pub record View : Type 0 where
  pub count : ℕ
  pub left : ℕ → List Step
  pub begun : ℕ → Bool
  pub done : ℕ → Bool
  pub fences : Fences
  pub place : ℕ → ℕ → Page
  pub owner : Page → Owner
  pub stores : Stores
  -- the bytes that each page of each buffer would have at its place for good
  pub plain : Stores

-- once the first job is done, the second is
pub data Covers (prior : ℕ → ℕ → Bool) : ℕ → ℕ → Type 0 where
  self : {j : ℕ} → Covers prior j j
  behind : {j k i : ℕ} → prior j k ≡ true → Covers prior k i → Covers prior j i

-- the job comes after the other
abbrev pub After : (ℕ → ℕ → Bool) → ℕ → ℕ → Type 0
After prior j i = (k : ℕ) × (prior j k ≡ true) × Covers prior k i

-- job j of buffer b, and not a READ job where it has to be one that writes
abbrev pub is_fence : Fences → ℕ → Bool → ℕ → Bool
is_fence g b writes j = g.strong b j || (not writes && g.shared b j)

-- A job that touches a page of this owner, and may write it, is covered by a job of the owner.
abbrev pub Guarded : Fences → Owner → ℕ → Bool → Type 0
Guarded g Idle i w = ⊥
Guarded g Free i w = (m : ℕ) × (g.mover ≡ Some m) × Covers g.prior m i
Guarded g (Live b k) i w = (j : ℕ) × (is_fence g b w j ≡ true) × Covers g.prior j i
Guarded g (Kept b k) i w = ⊥
Guarded g (Target b k) i w =
    ((j : ℕ) × (g.strong b j ≡ true) × Covers g.prior j i) × ((m : ℕ) × (g.mover ≡ Some m) × Covers g.prior m i)
Guarded g (Ghost n) i w = (j : ℕ) × (g.ghost n j ≡ true) × Covers g.prior j i

-- the zero bytes of a page, whatever their number is
pub record Good (zeros : Bytes) (v : View) : Type 0 where
  -- jobs
  pub fresh : (j : ℕ) → v.count ≤ j → v.left j ≡ []
  pub unbegun : (j : ℕ) → v.begun j ≡ true → j < v.count
  pub earlier : (j i : ℕ) → v.fences.prior j i ≡ true → i < v.count
  pub order : (j i : ℕ) → v.begun j ≡ true → v.fences.prior j i ≡ true → v.done i ≡ true
  pub begins : (j : ℕ) → v.done j ≡ true → v.begun j ≡ true
  pub ends : (j : ℕ) → v.done j ≡ true → v.left j ≡ []
  pub writer : (i j : ℕ) (x : Page) → i < j → touched (v.left i) x ≡ true → written (v.left j) x ≡ true → After v.fences.prior j i
  pub reader : (i j : ℕ) (x : Page) → i < j → written (v.left i) x ≡ true → touched (v.left j) x ≡ true → After v.fences.prior j i
  -- pages
  pub guard : (i : ℕ) (x : Page) → touched (v.left i) x ≡ true → Guarded v.fences (v.owner x) i (written (v.left i) x)
  pub slots : (i n : ℕ) → touched (v.left i) (Slot n) ≡ false
  pub nowhere : v.owner Nowhere ≡ Idle
  pub placed : (b i : ℕ) → (v.place b i ≡ Nowhere) ⊎ (v.owner (v.place b i) ≡ Live b i)
  -- bytes
  pub zero : v.stores Nowhere ≡ zeros
  pub value : (b i : ℕ) → rest v.left v.count v.stores (v.place b i) ≡ v.plain (Own b i)
  pub show : (j : ℕ) → AllShow (v.left j) (rest v.left j v.stores)

-- the next packet of job j has run, and xs are left of the job
abbrev pub packet_ran : ℕ → Step → List Step → View → View
packet_ran j x xs v =
    record v { left = at_job j xs v.left; begun = at_job j true v.begun; stores = run x.packet v.stores }

abbrev pub job_done : ℕ → View → View
job_done j v = record v { done = at_job j true v.done }
