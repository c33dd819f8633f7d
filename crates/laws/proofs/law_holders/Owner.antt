-- The owner of each page, found in the lists of the state.
use Rattle.std.proofs.Common.{◌≡◌, ℕ, ◌+◌, ◌<◌, ◌≤◌, zero, suc, true, false, List, [], ◌∷◌, length, Option, Some, None, refl, sym, subst, ◌∙◌, ap, arith, ◌⊎◌, inl, inr, ⊎_elim}
use Rattle.std.specs.Prelude.{slice_get, unwrap_or, option_and_then}
use Rattle.std.proofs.lemmas.Bool.{cases_lt, cases_Bool, true≢false}
use Rattle.ttm_base.specs.declared.Mem.{Mem}
use Rattle.ttm_base.specs.declared.Mem.TheVariants as mem
use Rattle.ttm_base.specs.declared.Loc.TheVariants as loc
use Rattle.journal_model.specs.declared.state.Core.{Core}
use Rattle.journal_model.specs.declared.state.Buffer.{Buffer}
use Rattle.journal_model.specs.declared.state.Ghost as ghosts
use Rattle.journal_model.specs.rules.State.{new_buffer, target_spans}
use Rattle.journal_model.specs.rules.Places.{pages_of, page_in, page_in_vram, page_in_table, loc_of}
use Rattle.laws.specs.lemma_bytes_model.Memory.{Page, Nowhere, Vram, Frame, Slot, Own, same_page}
use Rattle.laws.specs.lemma_bytes_model.View.{Owner, Idle, Free, Live, Kept, Target, Ghost}
use Rattle.laws.proofs.lemma_bytes_model.Actions.{same_page-refl, same_page-true}
use Rattle.laws.specs.law_holders.Holding.{seen, live_at, kept_in, target_at, in_ghost, buffer_at, Holds, HeldOnce}
pub use Rattle.laws.specs.law_holders.Holding.{unheld}

-- ---- a search

below : (n : ℕ) (h : ℕ → Page) (x : Page) → ((k : ℕ) × (h k ≡ x)) ⊎ ((k : ℕ) → k < n → h k ≡ x → ⊥)
below zero h x = inr (λ k l e. absurd (omega (arith, l)))
below (suc n) h x =
    ⊎_elim (λ z. inl z)
    (λ none.
    ⊎_elim (λ e. inl (n, same_page-true (h n) x e))
    (λ e.
    inr
    (λ k l q.
    ⊎_elim (λ less. none k less q)
    (λ more. let same : k ≡ n = omega (arith, l, more) in true≢false (sym (subst (λ y. same_page y x ≡ true) (ap h same) (subst (λ y. same_page (h k) y ≡ true) q (same_page-refl (h k)))) ∙ e))
    (cases_lt k n)))
    (cases_Bool (same_page (h n) x)))
    (below n h x)

get_beyond : {X : Type 0} (xs : List X) (i : ℕ) → length xs ≤ i → slice_get xs i ≡ None
get_beyond [] i h = refl
get_beyond (x ∷ xs) zero h = absurd (omega (arith, h))
get_beyond (x ∷ xs) (suc i) h = get_beyond xs i (omega (arith, h))

table_beyond : (y : Buffer) (k : ℕ) → length y.table ≤ k → seen (page_in_table (loc_of y k)) ≡ Nowhere
table_beyond y k h = ap (λ o. seen (page_in_table (unwrap_or o loc.Zero))) (get_beyond y.table k h)

pub live_beyond : (y : Buffer) (k : ℕ) → length y.table + length (pages_of y.spans) ≤ k → live_at y k ≡ Nowhere
live_beyond y k h = by y.mem
  where
    by : (m : Mem) → seen (page_in m y k) ≡ Nowhere
    by mem.Vram = ap (λ o. seen (page_in_vram o)) (get_beyond (pages_of y.spans) k (omega (arith, h)))
    by mem.Tt = table_beyond y k (omega (arith, h))
    by mem.System = table_beyond y k (omega (arith, h))

kept_beyond : (y : Buffer) (k : ℕ) → length y.table ≤ k → kept_in y.mem y k ≡ Nowhere
kept_beyond y k h = by y.mem
  where
    by : (m : Mem) → kept_in m y k ≡ Nowhere
    by mem.Vram = table_beyond y k h
    by mem.Tt = refl
    by mem.System = refl

target_beyond : (y : Buffer) (k : ℕ) → length (pages_of (target_spans mem.Vram y)) ≤ k → target_at y k ≡ Nowhere
target_beyond y k h = ap (λ o. seen (page_in_vram o)) (get_beyond (pages_of (target_spans mem.Vram y)) k h)

-- a search in all of a function that is Nowhere from a number on
all_of : (n : ℕ) (h : ℕ → Page) → ((k : ℕ) → n ≤ k → h k ≡ Nowhere) → (x : Page) → (x ≡ Nowhere → ⊥) → ((k : ℕ) × (h k ≡ x)) ⊎ ((k : ℕ) → h k ≡ x → ⊥)
all_of n h beyond x ne =
    ⊎_elim (λ z. inl z)
    (λ none. inr (λ k e. ⊎_elim (λ l. none k l e) (λ l. ne (sym e ∙ beyond k l)) (cases_lt k n)))
    (below n h x)

-- ---- in the lists of a state

abbrev pub Found : Core → Page → Type 0
Found c x = (o : Owner) × Holds c x o

abbrev pub HasNone : Core → Page → ℕ → Type 0
HasNone c x b = ((k : ℕ) → live_at (buffer_at c b) k ≡ x → ⊥) × ((k : ℕ) → kept_in (buffer_at c b).mem (buffer_at c b) k ≡ x → ⊥) × ((k : ℕ) → target_at (buffer_at c b) k ≡ x → ⊥)

in_buffer : (c : Core) (x : Page) → (x ≡ Nowhere → ⊥) → (b : ℕ) → Found c x ⊎ HasNone c x b
in_buffer c x ne b =
    ⊎_elim (λ z. inl (Live b z.0, z.1))
    (λ a.
    ⊎_elim (λ z. inl (Kept b z.0, z.1))
    (λ k.
    ⊎_elim (λ z. inl (Target b z.0, z.1)) (λ t. inr (a, k, t))
    (all_of (length (pages_of (target_spans mem.Vram (buffer_at c b)))) (target_at (buffer_at c b)) (target_beyond (buffer_at c b)) x ne))
    (all_of (length (buffer_at c b).table) (kept_in (buffer_at c b).mem (buffer_at c b)) (kept_beyond (buffer_at c b)) x ne))
    (all_of (length (buffer_at c b).table + length (pages_of (buffer_at c b).spans)) (live_at (buffer_at c b)) (live_beyond (buffer_at c b)) x ne)

in_buffers : (c : Core) (x : Page) → (x ≡ Nowhere → ⊥) → (n : ℕ) → Found c x ⊎ ((b : ℕ) → b < n → HasNone c x b)
in_buffers c x ne zero = inr (λ b l. absurd (omega (arith, l)))
in_buffers c x ne (suc n) =
    ⊎_elim (λ z. inl z)
    (λ none.
    ⊎_elim (λ z. inl z)
    (λ here. inr (λ b l. ⊎_elim (λ less. none b less) (λ more. subst (HasNone c x) (let same : n ≡ b = omega (arith, l, more) in same) here) (cases_lt b n)))
    (in_buffer c x ne n))
    (in_buffers c x ne n)

among_ghosts : (x : Page) (gs : List ghosts.Ghost) → ((i : ℕ) × (g : ghosts.Ghost) × (slice_get gs i ≡ Some g) × (in_ghost x g ≡ true)) ⊎ ((i : ℕ) (g : ghosts.Ghost) → slice_get gs i ≡ Some g → in_ghost x g ≡ true → ⊥)
among_ghosts x [] = inr (λ i g e h. cc)
among_ghosts x (g ∷ gs) =
    ⊎_elim (λ h. inl (0, g, refl, h))
    (λ h.
    ⊎_elim (λ z. inl (suc z.0, z.1, z.2, z.3)) (λ none. inr (rest h none)) (among_ghosts x gs))
    (cases_Bool (in_ghost x g))
  where
    rest : in_ghost x g ≡ false → ((i : ℕ) (y : ghosts.Ghost) → slice_get gs i ≡ Some y → in_ghost x y ≡ true → ⊥) → (i : ℕ) (y : ghosts.Ghost) → slice_get (g ∷ gs) i ≡ Some y → in_ghost x y ≡ true → ⊥
    rest h none zero y e k = let same : g ≡ y = cc in true≢false (sym (subst (λ z. in_ghost x z ≡ true) (sym same) k) ∙ h)
    rest h none (suc i) y e k = none i y e k

-- a dead buffer has no page
dead_none : (c : Core) (x : Page) → (x ≡ Nowhere → ⊥) → (b : ℕ) → length c.buffers ≤ b → HasNone c x b
dead_none c x ne b h =
    subst (λ y. ((k : ℕ) → live_at y k ≡ x → ⊥) × ((k : ℕ) → kept_in y.mem y k ≡ x → ⊥) × ((k : ℕ) → target_at y k ≡ x → ⊥)) (sym dead)
    (λ k e. ne (sym e ∙ live_beyond (new_buffer 0) k (omega arith)), λ k e. ne (sym e), λ k e. ne (sym e ∙ target_beyond (new_buffer 0) k (omega arith)))
  where
    dead : buffer_at c b ≡ new_buffer 0
    dead = ap (λ (o : Option (Option Buffer)). unwrap_or (option_and_then (λ y. y) o) (new_buffer 0)) (get_beyond c.buffers b h)

pub decide : (c : Core) (x : Page) → (x ≡ Nowhere → ⊥) → Found c x ⊎ ((o : Owner) → Holds c x o → ⊥)
decide c x ne =
    ⊎_elim (λ z. inl z)
    (λ none.
    ⊎_elim (λ z. inl (Ghost z.1.num, (z.0, z.1, z.2, refl, z.3)))
    (λ ghostless. inr (no (λ b. ⊎_elim (λ l. none b l) (λ l. dead_none c x ne b l) (cases_lt b (length c.buffers))) ghostless))
    (among_ghosts x c.ghosts))
    (in_buffers c x ne (length c.buffers))
  where
    no : ((b : ℕ) → HasNone c x b) → ((i : ℕ) (g : ghosts.Ghost) → slice_get c.ghosts i ≡ Some g → in_ghost x g ≡ true → ⊥) → (o : Owner) → Holds c x o → ⊥
    no none ghostless Idle h = h
    no none ghostless Free h = h
    no none ghostless (Live b k) h = (none b).0 k h
    no none ghostless (Kept b k) h = (none b).1 k h
    no none ghostless (Target b k) h = (none b).2 k h
    no none ghostless (Ghost n) h = ghostless h.0 h.1 h.2 h.4

-- ---- the owner

abbrev pub chosen_owner : (c : Core) (x : Page) → Found c x ⊎ ((o : Owner) → Holds c x o → ⊥) → Owner
chosen_owner c x (inl z) = z.0
chosen_owner c x (inr n) = unheld x

pub vram_is : (n : ℕ) → Vram n ≡ Nowhere → ⊥
vram_is n e = cc

pub frame_is : (f : ℕ) → Frame f ≡ Nowhere → ⊥
frame_is f e = cc

pub slot_is : (k : ℕ) → Slot k ≡ Nowhere → ⊥
slot_is k e = cc

pub own_is : (b i : ℕ) → Own b i ≡ Nowhere → ⊥
own_is b i e = cc

-- a page is nowhere, or it isn't
pub by_place : (P : Page → Type 0) → P Nowhere → ((x : Page) → (x ≡ Nowhere → ⊥) → P x) → (x : Page) → P x
by_place P none some Nowhere = none
by_place P none some (Vram n) = some (Vram n) (vram_is n)
by_place P none some (Frame f) = some (Frame f) (frame_is f)
by_place P none some (Slot k) = some (Slot k) (slot_is k)
by_place P none some (Own b i) = some (Own b i) (own_is b i)

-- a page that nobody holds is no buffer's
pub unheld-live : (x : Page) (b k : ℕ) → unheld x ≡ Live b k → ⊥
unheld-live Nowhere b k e = cc
unheld-live (Vram n) b k e = cc
unheld-live (Frame f) b k e = cc
unheld-live (Slot j) b k e = cc
unheld-live (Own d i) b k e = cc

pub unheld-target : (x : Page) (b k : ℕ) → unheld x ≡ Target b k → ⊥
unheld-target Nowhere b k e = cc
unheld-target (Vram n) b k e = cc
unheld-target (Frame f) b k e = cc
unheld-target (Slot j) b k e = cc
unheld-target (Own d i) b k e = cc

pub idle-live : (b k : ℕ) → Idle ≡ Live b k → ⊥
idle-live b k e = cc

pub idle-target : (b k : ℕ) → Idle ≡ Target b k → ⊥
idle-target b k e = cc

pub live-target : (b i d k : ℕ) → Live b i ≡ Target d k → ⊥
live-target b i d k e = cc

pub kept-target : (b i d k : ℕ) → Kept b i ≡ Target d k → ⊥
kept-target b i d k e = cc

abbrev pub owner_of : Core → Page → Owner
owner_of c Nowhere = Idle
owner_of c (Vram n) = chosen_owner c (Vram n) (decide c (Vram n) (vram_is n))
owner_of c (Frame f) = chosen_owner c (Frame f) (decide c (Frame f) (frame_is f))
owner_of c (Slot k) = chosen_owner c (Slot k) (decide c (Slot k) (slot_is k))
owner_of c (Own b i) = chosen_owner c (Own b i) (decide c (Own b i) (own_is b i))

-- it holds the page, or nobody does
pub record Owning (c : Core) (x : Page) (o : Owner) : Type 0 where
  pub fact : Holds c x o ⊎ (((p : Owner) → Holds c x p → ⊥) × (o ≡ unheld x))

chosen_owning : (c : Core) (x : Page) (z : Found c x ⊎ ((o : Owner) → Holds c x o → ⊥)) → Owning c x (chosen_owner c x z)
chosen_owning c x (inl z) = record { fact = inl z.1 }
chosen_owning c x (inr n) = record { fact = inr (n, refl) }

pub owning : (c : Core) (x : Page) → (x ≡ Nowhere → ⊥) → Owning c x (owner_of c x)
owning c Nowhere ne = absurd (ne refl)
owning c (Vram n) ne = chosen_owning c (Vram n) (decide c (Vram n) (vram_is n))
owning c (Frame f) ne = chosen_owning c (Frame f) (decide c (Frame f) (frame_is f))
owning c (Slot k) ne = chosen_owning c (Slot k) (decide c (Slot k) (slot_is k))
owning c (Own b i) ne = chosen_owning c (Own b i) (decide c (Own b i) (own_is b i))

-- who holds the page is its owner
pub owner_is : (c : Core) → HeldOnce c → (x : Page) (o : Owner) → (x ≡ Nowhere → ⊥) → Holds c x o → owner_of c x ≡ o
owner_is c once x o ne h = ⊎_elim (λ k. once x (owner_of c x) o ne k h) (λ n. absurd (n.0 o h)) (owning c x ne).fact

-- an owner other than none holds the page
pub owner_holds : (c : Core) (x : Page) (o : Owner) → (x ≡ Nowhere → ⊥) → owner_of c x ≡ o → (o ≡ unheld x → ⊥) → Holds c x o
owner_holds c x o ne e some = ⊎_elim (λ k. subst (Holds c x) e k) (λ n. absurd (some (sym e ∙ n.1))) (owning c x ne).fact

-- where nobody holds the page
pub owner_none : (c : Core) (x : Page) → (x ≡ Nowhere → ⊥) → ((o : Owner) → Holds c x o → ⊥) → owner_of c x ≡ unheld x
owner_none c x ne none = ⊎_elim (λ k. absurd (none (owner_of c x) k)) (λ n. n.1) (owning c x ne).fact

-- two states where the same hold a page have one owner of it
pub owner_same : (c d : Core) → HeldOnce d → (x : Page) → (x ≡ Nowhere → ⊥) → ((o : Owner) → Holds c x o → Holds d x o) → ((o : Owner) → Holds d x o → Holds c x o) → owner_of d x ≡ owner_of c x
owner_same c d once x ne there back =
    ⊎_elim
    (λ k. owner_is d once x (owner_of c x) ne (there (owner_of c x) k))
    (λ n. owner_none d x ne (λ o h. n.0 o (back o h)) ∙ sym n.1)
    (owning c x ne).fact
