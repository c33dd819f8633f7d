-- Where each page, frame and slot is held once at most, a page has one owner.
use Rattle.std.proofs.Common.{◌≡◌, ℕ, ◌+◌, ◌≤◌, Bool, true, false, List, [], Option, Some, None, refl, sym, subst, ◌∙◌, ap, ap₂, arith, ◌⊎◌, inl, inr, ⊎_elim}
use Rattle.std.specs.Prelude.{slice_get, nat_lt, unwrap_or, if◌then◌else◌}
use Rattle.std.proofs.lemmas.Bool.{cases_eq}
use Rattle.ttm_base.specs.declared.Mem.{Mem}
use Rattle.ttm_base.specs.declared.Mem.TheVariants as mem
use Rattle.ttm_base.specs.declared.Loc.{Loc}
use Rattle.ttm_base.specs.declared.Loc.TheVariants as loc
use Rattle.ttm_base.specs.declared.Span.{Span}
use Rattle.ttm_base.specs.Reach.{same_mem}
use Rattle.journal_model.specs.declared.script.Script.{Script}
use Rattle.journal_model.specs.declared.state.Core.{Core}
use Rattle.journal_model.specs.declared.state.Buffer.{Buffer}
use Rattle.journal_model.specs.declared.state.Ghost as ghosts
use Rattle.journal_model.specs.rules.State.{live_in, new_buffer, target_spans}
use Rattle.journal_model.specs.rules.Places.{pages_of, frame_of, slot_of, loc_of, page_in, page_in_vram, page_in_table}
use Rattle.journal_model.specs.rules.Holds.{spans_in}
use Rattle.laws.specs.lemma_bytes_model.Memory.{Page, Nowhere, Vram, Frame, Slot, Own}
use Rattle.laws.specs.lemma_bytes_model.View.{Owner, Idle, Free, Live, Kept, Target, Ghost}
use Rattle.laws.proofs.law_owners.Counts.{one, times, stands, summed, weigh}
use Rattle.laws.proofs.law_owners.Weights.{Room, vram_pages, frames, slots, room_size, of_buffer, of_ghost, weight}
use Rattle.laws.proofs.law_owners.Keeps.{new_weighs_none}
use Rattle.laws.proofs.law_owners.Law.{AreHeldOnce}
use Rattle.laws.specs.law_holders.Holding.{seen, live_at, kept_in, target_at, in_ghost, buffer_at, Holds, HeldOnce}
use Rattle.laws.proofs.law_holders.Positions.{times_at, same_at, times_in_table, same_in_table, has_times, in_sum, two_in_sum, in_list, two_in_list}

-- the room of a page, and its number there
abbrev pub room_of : Page → Room
room_of (Vram n) = vram_pages
room_of (Frame f) = frames
room_of _ = slots

abbrev pub number_of : Page → ℕ
number_of (Vram n) = n
number_of (Frame f) = f
number_of (Slot k) = k
number_of _ = 0

-- ---- what a place says

pub in_vram_is : (o : Option ℕ) (x : Page) → seen (page_in_vram o) ≡ x → (x ≡ Nowhere → ⊥) → (n : ℕ) × (o ≡ Some n) × (x ≡ Vram n)
in_vram_is None x e ne = absurd (ne (sym e))
in_vram_is (Some n) x e ne = (n, refl, sym e)

-- a location with a number
pub data Located : Loc → Page → Type 0 where
  in_frame : {f : ℕ} → Located (loc.Frame f) (Frame f)
  in_slot : {k : ℕ} → Located (loc.Slot k) (Slot k)

pub in_table_is : (l : Loc) (x : Page) → seen (page_in_table l) ≡ x → (x ≡ Nowhere → ⊥) → Located l x
in_table_is loc.Zero x e ne = absurd (ne (sym e))
in_table_is (loc.Frame f) x e ne = subst (Located (loc.Frame f)) e in_frame
in_table_is (loc.Slot k) x e ne = subst (Located (loc.Slot k)) e in_slot

got : (table : List Loc) (k : ℕ) → (o : Option Loc) → slice_get table k ≡ o → (x : Page) → Located (unwrap_or o loc.Zero) x → slice_get table k ≡ Some (unwrap_or o loc.Zero)
got table k (Some l) e x h = e
got table k None e x h = absurd (no h)
  where
    no : Located loc.Zero x → ⊥
    no h = elim h [ ]

-- where page k of a buffer stands
pub record LiveVram (y : Buffer) (k n : ℕ) : Type 0 where
  pub mem : y.mem ≡ mem.Vram
  pub at : slice_get (pages_of y.spans) k ≡ Some n

pub record LiveTable (y : Buffer) (k : ℕ) (x : Page) : Type 0 where
  pub mem : y.mem ≡ mem.Vram → ⊥
  pub loc : Loc
  pub at : slice_get y.table k ≡ Some loc
  pub is : Located loc x

pub live_is : (y : Buffer) (k : ℕ) (x : Page) → live_at y k ≡ x → (x ≡ Nowhere → ⊥) → ((n : ℕ) × (x ≡ Vram n) × LiveVram y k n) ⊎ LiveTable y k x
live_is y k x e ne = by y.mem refl e
  where
    in_table : (y.mem ≡ mem.Vram → ⊥) → seen (page_in_table (loc_of y k)) ≡ x → LiveTable y k x
    in_table m f = let l = in_table_is (loc_of y k) x f ne in record { mem = m; loc = loc_of y k; at = got y.table k (slice_get y.table k) refl x l; is = l }

    by : (m : Mem) → y.mem ≡ m → seen (page_in m y k) ≡ x → ((n : ℕ) × (x ≡ Vram n) × LiveVram y k n) ⊎ LiveTable y k x
    by mem.Vram m f = let z = in_vram_is (slice_get (pages_of y.spans) k) x f ne in inl (z.0, z.2, record { mem = m; at = z.1 })
    by mem.Tt m f = inr (in_table (λ q. let r : mem.Tt ≡ mem.Vram = sym m ∙ q in cc) f)
    by mem.System m f = inr (in_table (λ q. let r : mem.System ≡ mem.Vram = sym m ∙ q in cc) f)

pub record KeptTable (y : Buffer) (k : ℕ) (x : Page) : Type 0 where
  pub mem : y.mem ≡ mem.Vram
  pub loc : Loc
  pub at : slice_get y.table k ≡ Some loc
  pub is : Located loc x

pub kept_is : (y : Buffer) (k : ℕ) (x : Page) → kept_in y.mem y k ≡ x → (x ≡ Nowhere → ⊥) → KeptTable y k x
kept_is y k x e ne = by y.mem refl e
  where
    by : (m : Mem) → y.mem ≡ m → kept_in m y k ≡ x → KeptTable y k x
    by mem.Vram m f = let l = in_table_is (loc_of y k) x f ne in record { mem = m; loc = loc_of y k; at = got y.table k (slice_get y.table k) refl x l; is = l }
    by mem.Tt m f = absurd (ne (sym f))
    by mem.System m f = absurd (ne (sym f))

-- ---- what it weighs

pub in_vram : (y : Buffer) → y.mem ≡ mem.Vram → spans_in mem.Vram y ≡ y.spans
in_vram y e = by y.mem e
  where
    by : (m : Mem) → m ≡ mem.Vram → (if same_mem m mem.Vram then y.spans else []) ≡ y.spans
    by mem.Vram e = refl
    by mem.Tt e = cc
    by mem.System e = cc

spans_weigh : (y : Buffer) (n k : ℕ) → LiveVram y k n → 1 ≤ stands n (spans_in mem.Vram y)
spans_weigh y n k h = subst (λ (ss : List Span). 1 ≤ stands n ss) (sym (in_vram y h.mem)) (times_at n (pages_of y.spans) k h.at)

table_weighs : (y : Buffer) (k : ℕ) (x : Page) (l : Loc) → slice_get y.table k ≡ Some l → Located l x → 1 ≤ of_buffer (room_of x) (number_of x) y
table_weighs y k x l at (in_frame {f = f}) = times_in_table frame_of f y.table k (loc.Frame f) at refl
table_weighs y k x l at (in_slot {k = m}) = times_in_table slot_of m y.table k (loc.Slot m) at refl

-- the spot of an owner: a buffer, or a ghost by its position
pub data Spot : Type 0 where
  at_buffer : ℕ → Spot
  at_ghost : ℕ → Spot

abbrev pub spot_of : (c : Core) (x : Page) (o : Owner) → Holds c x o → Spot
spot_of c x Idle h = at_buffer 0
spot_of c x Free h = at_buffer 0
spot_of c x (Live b k) h = at_buffer b
spot_of c x (Kept b k) h = at_buffer b
spot_of c x (Target b k) h = at_buffer b
spot_of c x (Ghost n) h = at_ghost h.0

-- what a spot weighs
abbrev pub spot_weight : Core → Page → Spot → ℕ
spot_weight c x (at_buffer b) = of_buffer (room_of x) (number_of x) (buffer_at c b)
spot_weight c x (at_ghost i) = weigh (of_ghost (room_of x) (number_of x)) (slice_get c.ghosts i)

live_weighs : (y : Buffer) (k : ℕ) (x : Page) → live_at y k ≡ x → (x ≡ Nowhere → ⊥) → 1 ≤ of_buffer (room_of x) (number_of x) y
live_weighs y k x e ne =
    ⊎_elim
    (λ z. subst (λ q. 1 ≤ of_buffer (room_of q) (number_of q) y) (sym z.1) (let w = spans_weigh y z.0 k z.2 in omega (arith, w)))
    (λ z. table_weighs y k x z.loc z.at z.is)
    (live_is y k x e ne)

target_weighs : (y : Buffer) (k : ℕ) (x : Page) → target_at y k ≡ x → (x ≡ Nowhere → ⊥) → 1 ≤ of_buffer (room_of x) (number_of x) y
target_weighs y k x e ne =
    let z = in_vram_is (slice_get (pages_of (target_spans mem.Vram y)) k) x e ne in
    subst (λ q. 1 ≤ of_buffer (room_of q) (number_of q) y) (sym z.2) (let w = times_at z.0 (pages_of (target_spans mem.Vram y)) k z.1 in omega (arith, w))

ghost_weighs : (g : ghosts.Ghost) (x : Page) → in_ghost x g ≡ true → 1 ≤ of_ghost (room_of x) (number_of x) g
ghost_weighs g (Vram n) h = has_times n (pages_of g.vram) h
ghost_weighs g (Frame f) h = has_times f g.frames h
ghost_weighs g (Slot k) h = cc
ghost_weighs g Nowhere h = cc
ghost_weighs g (Own b i) h = cc

pub hold_weighs : (c : Core) (x : Page) (o : Owner) (h : Holds c x o) → (x ≡ Nowhere → ⊥) → 1 ≤ spot_weight c x (spot_of c x o h)
hold_weighs c x Idle h ne = absurd h
hold_weighs c x Free h ne = absurd h
hold_weighs c x (Live b k) h ne = live_weighs (buffer_at c b) k x h ne
hold_weighs c x (Kept b k) h ne = let z = kept_is (buffer_at c b) k x h ne in table_weighs (buffer_at c b) k x z.loc z.at z.is
hold_weighs c x (Target b k) h ne = target_weighs (buffer_at c b) k x h ne
hold_weighs c x (Ghost n) h ne = subst (λ o. 1 ≤ weigh (of_ghost (room_of x) (number_of x)) o) (sym h.2) (ghost_weighs h.1 x h.4)

-- ---- one spot

buffer_weight : (c : Core) (m : Buffer → ℕ) (b : ℕ) → m (new_buffer 0) ≡ 0 → weigh m (live_in c.buffers (record { 0 = b })) ≡ m (buffer_at c b)
buffer_weight c m b none = by (live_in c.buffers (record { 0 = b }))
  where
    by : (o : Option Buffer) → weigh m o ≡ m (unwrap_or o (new_buffer 0))
    by None = sym none
    by (Some x) = refl

module _ (script : Script) (c : Core) (once : AreHeldOnce script c) (x : Page) where
  few : weight (room_of x) (number_of x) c ≤ 1
  few = by (weight (room_of x) (number_of x) c) (nat_lt (number_of x) (room_size script (room_of x))) (once (room_of x) (number_of x))
    where
      by : (w : ℕ) (q : Bool) → w ≤ one q → w ≤ 1
      by w true h = h
      by w false h = omega (arith, h)

  buffers_few : summed (weigh (of_buffer (room_of x) (number_of x))) c.buffers + summed (of_ghost (room_of x) (number_of x)) c.ghosts ≤ 1
  buffers_few = few

  pub of_one : (b : ℕ) → of_buffer (room_of x) (number_of x) (buffer_at c b) ≤ summed (weigh (of_buffer (room_of x) (number_of x))) c.buffers
  of_one b = let e = buffer_weight c (of_buffer (room_of x) (number_of x)) b (new_weighs_none (room_of x) (number_of x) 0) in let s = in_sum (of_buffer (room_of x) (number_of x)) c.buffers b in omega (arith, e, s)

  of_two : (b d : ℕ) → (b ≡ d → ⊥) → of_buffer (room_of x) (number_of x) (buffer_at c b) + of_buffer (room_of x) (number_of x) (buffer_at c d) ≤ summed (weigh (of_buffer (room_of x) (number_of x))) c.buffers
  of_two b d ne =
      let e = buffer_weight c (of_buffer (room_of x) (number_of x)) b (new_weighs_none (room_of x) (number_of x) 0) in
      let f = buffer_weight c (of_buffer (room_of x) (number_of x)) d (new_weighs_none (room_of x) (number_of x) 0) in
      let s = two_in_sum (of_buffer (room_of x) (number_of x)) c.buffers b d ne in
      omega (arith, e, f, s)

  pub of_ghost_one : (i : ℕ) → weigh (of_ghost (room_of x) (number_of x)) (slice_get c.ghosts i) ≤ summed (of_ghost (room_of x) (number_of x)) c.ghosts
  of_ghost_one i = by (slice_get c.ghosts i) refl
    where
      by : (o : Option ghosts.Ghost) → slice_get c.ghosts i ≡ o → weigh (of_ghost (room_of x) (number_of x)) o ≤ summed (of_ghost (room_of x) (number_of x)) c.ghosts
      by None e = omega arith
      by (Some g) e = in_list (of_ghost (room_of x) (number_of x)) c.ghosts i g e

  of_ghost_two : (i j : ℕ) → (i ≡ j → ⊥) → weigh (of_ghost (room_of x) (number_of x)) (slice_get c.ghosts i) + weigh (of_ghost (room_of x) (number_of x)) (slice_get c.ghosts j) ≤ summed (of_ghost (room_of x) (number_of x)) c.ghosts
  of_ghost_two i j ne = by (slice_get c.ghosts i) (slice_get c.ghosts j) refl refl (of_ghost_one i) (of_ghost_one j)
    where
      by : (o p : Option ghosts.Ghost) → slice_get c.ghosts i ≡ o → slice_get c.ghosts j ≡ p →
          weigh (of_ghost (room_of x) (number_of x)) (slice_get c.ghosts i) ≤ summed (of_ghost (room_of x) (number_of x)) c.ghosts →
          weigh (of_ghost (room_of x) (number_of x)) (slice_get c.ghosts j) ≤ summed (of_ghost (room_of x) (number_of x)) c.ghosts →
          weigh (of_ghost (room_of x) (number_of x)) o + weigh (of_ghost (room_of x) (number_of x)) p ≤ summed (of_ghost (room_of x) (number_of x)) c.ghosts
      by (Some g) (Some h) e f a b = two_in_list (of_ghost (room_of x) (number_of x)) c.ghosts i j g h ne e f
      by None p e f a b = let z : weigh (of_ghost (room_of x) (number_of x)) (slice_get c.ghosts j) ≡ weigh (of_ghost (room_of x) (number_of x)) p = ap (weigh (of_ghost (room_of x) (number_of x))) f in omega (arith, b, z)
      by (Some g) None e f a b = let z : weigh (of_ghost (room_of x) (number_of x)) (slice_get c.ghosts i) ≡ of_ghost (room_of x) (number_of x) g = ap (weigh (of_ghost (room_of x) (number_of x))) e in omega (arith, a, z)

  -- two spots with the page are one
  pub one_spot : (p q : Spot) → 1 ≤ spot_weight c x p → 1 ≤ spot_weight c x q → p ≡ q
  one_spot (at_buffer b) (at_buffer d) h k =
      ⊎_elim (λ e. ap at_buffer e) (λ ne. let s = of_two b d ne in let l = buffers_few in absurd (omega (arith, h, k, s, l))) (cases_eq b d)
  one_spot (at_buffer b) (at_ghost i) h k = let s = of_one b in let g = of_ghost_one i in let l = buffers_few in absurd (omega (arith, h, k, s, g, l))
  one_spot (at_ghost i) (at_buffer b) h k = let s = of_one b in let g = of_ghost_one i in let l = buffers_few in absurd (omega (arith, h, k, s, g, l))
  one_spot (at_ghost i) (at_ghost j) h k =
      ⊎_elim (λ e. ap at_ghost e) (λ ne. let s = of_ghost_two i j ne in let l = buffers_few in absurd (omega (arith, h, k, s, l))) (cases_eq i j)

  -- a buffer holds it once
  pub in_buffer_few : (b : ℕ) → of_buffer (room_of x) (number_of x) (buffer_at c b) ≤ 1
  in_buffer_few b = let s = of_one b in let l = buffers_few in omega (arith, s, l)

-- ---- one place in a buffer

tables_same : (y : Buffer) (x : Page) (j k : ℕ) (a b : Loc) → of_buffer (room_of x) (number_of x) y ≤ 1 → slice_get y.table j ≡ Some a → Located a x → slice_get y.table k ≡ Some b → Located b x → j ≡ k
tables_same y x j k a b few e (in_frame {f = f}) g i = same_in_table frame_of f y.table j k (loc.Frame f) b few e refl g (frame_is b i)
  where
    frame_is : (l : Loc) → Located l (Frame f) → frame_of l ≡ Some f
    frame_is l (in_frame) = refl
tables_same y x j k a b few e (in_slot {k = m}) g i = same_in_table slot_of m y.table j k (loc.Slot m) b few e refl g (slot_is b i)
  where
    slot_is : (l : Loc) → Located l (Slot m) → slot_of l ≡ Some m
    slot_is l (in_slot) = refl

not_in_vram : (l : Loc) (x : Page) (n : ℕ) → Located l x → x ≡ Vram n → ⊥
not_in_vram l x n (in_frame) e = cc
not_in_vram l x n (in_slot) e = cc

lives_same : (y : Buffer) (x : Page) (j k : ℕ) → of_buffer (room_of x) (number_of x) y ≤ 1 → (x ≡ Nowhere → ⊥) → live_at y j ≡ x → live_at y k ≡ x → j ≡ k
lives_same y x j k few ne e f =
    ⊎_elim
    (λ z.
    ⊎_elim
    (λ w.
    let same : z.0 ≡ w.0 = num (sym z.1 ∙ w.1) in
    same_at z.0 (pages_of y.spans) j k (spans_few z.0 (subst (λ q. of_buffer (room_of q) (number_of q) y ≤ 1) z.1 few) z.2.mem) z.2.at (subst (λ n. slice_get (pages_of y.spans) k ≡ Some n) (sym same) w.2.at))
    (λ w. absurd (w.mem z.2.mem))
    (live_is y k x f ne))
    (λ z.
    ⊎_elim
    (λ w. absurd (z.mem w.2.mem))
    (λ w. tables_same y x j k z.loc w.loc few z.at z.is w.at w.is)
    (live_is y k x f ne))
    (live_is y j x e ne)
  where
    num : {m n : ℕ} → Vram m ≡ Vram n → m ≡ n
    num e = cc

    spans_few : (n : ℕ) → of_buffer vram_pages n y ≤ 1 → y.mem ≡ mem.Vram → times n (pages_of y.spans) ≤ 1
    spans_few n h m = let e : stands n (spans_in mem.Vram y) ≡ stands n y.spans = ap (stands n) (in_vram y m) in omega (arith, h, e)

targets_same : (y : Buffer) (x : Page) (j k : ℕ) → of_buffer (room_of x) (number_of x) y ≤ 1 → (x ≡ Nowhere → ⊥) → target_at y j ≡ x → target_at y k ≡ x → j ≡ k
targets_same y x j k few ne e f =
    let z = in_vram_is (slice_get (pages_of (target_spans mem.Vram y)) j) x e ne in
    let w = in_vram_is (slice_get (pages_of (target_spans mem.Vram y)) k) x f ne in
    let same : z.0 ≡ w.0 = num (sym z.2 ∙ w.2) in
    let l : of_buffer vram_pages z.0 y ≤ 1 = subst (λ q. of_buffer (room_of q) (number_of q) y ≤ 1) z.2 few in
    same_at z.0 (pages_of (target_spans mem.Vram y)) j k (omega (arith, l)) z.1 (subst (λ n. slice_get (pages_of (target_spans mem.Vram y)) k ≡ Some n) (sym same) w.1)
  where
    num : {m n : ℕ} → Vram m ≡ Vram n → m ≡ n
    num e = cc

live_no_target : (y : Buffer) (x : Page) (j k : ℕ) → of_buffer (room_of x) (number_of x) y ≤ 1 → (x ≡ Nowhere → ⊥) → live_at y j ≡ x → target_at y k ≡ x → ⊥
live_no_target y x j k few ne e f =
    let w = in_vram_is (slice_get (pages_of (target_spans mem.Vram y)) k) x f ne in
    ⊎_elim
    (λ z.
    let same : z.0 ≡ w.0 = num (sym z.1 ∙ w.2) in
    let l : of_buffer vram_pages w.0 y ≤ 1 = subst (λ q. of_buffer (room_of q) (number_of q) y ≤ 1) w.2 few in
    let a : 1 ≤ stands w.0 (spans_in mem.Vram y) = subst (λ n. 1 ≤ stands n (spans_in mem.Vram y)) same (spans_weigh y z.0 j z.2) in
    let b = times_at w.0 (pages_of (target_spans mem.Vram y)) k w.1 in
    omega (arith, l, a, b))
    (λ z. not_in_vram z.loc x w.0 z.is w.2)
    (live_is y j x e ne)
  where
    num : {m n : ℕ} → Vram m ≡ Vram n → m ≡ n
    num e = cc

live_not_kept : (y : Buffer) (x : Page) (j k : ℕ) → (x ≡ Nowhere → ⊥) → live_at y j ≡ x → kept_in y.mem y k ≡ x → ⊥
live_not_kept y x j k ne e f =
    let w = kept_is y k x f ne in
    ⊎_elim (λ z. not_in_vram w.loc x z.0 w.is z.1) (λ z. z.mem w.mem) (live_is y j x e ne)

kept_no_target : (y : Buffer) (x : Page) (j k : ℕ) → (x ≡ Nowhere → ⊥) → kept_in y.mem y j ≡ x → target_at y k ≡ x → ⊥
kept_no_target y x j k ne e f =
    let z = kept_is y j x e ne in
    let w = in_vram_is (slice_get (pages_of (target_spans mem.Vram y)) k) x f ne in
    not_in_vram z.loc x w.0 z.is w.2

kepts_same : (y : Buffer) (x : Page) (j k : ℕ) → of_buffer (room_of x) (number_of x) y ≤ 1 → (x ≡ Nowhere → ⊥) → kept_in y.mem y j ≡ x → kept_in y.mem y k ≡ x → j ≡ k
kepts_same y x j k few ne e f = let z = kept_is y j x e ne in let w = kept_is y k x f ne in tables_same y x j k z.loc w.loc few z.at z.is w.at w.is

-- ---- one owner

spot_buffer : {b d : ℕ} → at_buffer b ≡ at_buffer d → b ≡ d
spot_buffer e = cc

spot_ghost : {i j : ℕ} → at_ghost i ≡ at_ghost j → i ≡ j
spot_ghost e = cc

pub held_once : (script : Script) (c : Core) → AreHeldOnce script c → HeldOnce c
held_once script c once x o p ne h k =
    by o p h k (one_spot script c once x (spot_of c x o h) (spot_of c x p k) (hold_weighs c x o h ne) (hold_weighs c x p k ne))
  where
    few : (b : ℕ) → of_buffer (room_of x) (number_of x) (buffer_at c b) ≤ 1
    few b = in_buffer_few script c once x b

    by : (o p : Owner) (h : Holds c x o) (k : Holds c x p) → spot_of c x o h ≡ spot_of c x p k → o ≡ p
    by Idle p h k e = absurd h
    by Free p h k e = absurd h
    by (Live b j) Idle h k e = absurd k
    by (Live b j) Free h k e = absurd k
    by (Live b j) (Live d m) h k e = let q = spot_buffer e in ap₂ Live q (lives_same (buffer_at c d) x j m (few d) ne (subst (λ a. live_at (buffer_at c a) j ≡ x) q h) k)
    by (Live b j) (Kept d m) h k e = let q = spot_buffer e in absurd (live_not_kept (buffer_at c d) x j m ne (subst (λ a. live_at (buffer_at c a) j ≡ x) q h) k)
    by (Live b j) (Target d m) h k e = let q = spot_buffer e in absurd (live_no_target (buffer_at c d) x j m (few d) ne (subst (λ a. live_at (buffer_at c a) j ≡ x) q h) k)
    by (Live b j) (Ghost n) h k e = cc
    by (Kept b j) Idle h k e = absurd k
    by (Kept b j) Free h k e = absurd k
    by (Kept b j) (Live d m) h k e = let q = spot_buffer e in absurd (live_not_kept (buffer_at c d) x m j ne k (subst (λ a. kept_in (buffer_at c a).mem (buffer_at c a) j ≡ x) q h))
    by (Kept b j) (Kept d m) h k e = let q = spot_buffer e in ap₂ Kept q (kepts_same (buffer_at c d) x j m (few d) ne (subst (λ a. kept_in (buffer_at c a).mem (buffer_at c a) j ≡ x) q h) k)
    by (Kept b j) (Target d m) h k e = let q = spot_buffer e in absurd (kept_no_target (buffer_at c d) x j m ne (subst (λ a. kept_in (buffer_at c a).mem (buffer_at c a) j ≡ x) q h) k)
    by (Kept b j) (Ghost n) h k e = cc
    by (Target b j) Idle h k e = absurd k
    by (Target b j) Free h k e = absurd k
    by (Target b j) (Live d m) h k e = let q = spot_buffer e in absurd (live_no_target (buffer_at c d) x m j (few d) ne k (subst (λ a. target_at (buffer_at c a) j ≡ x) q h))
    by (Target b j) (Kept d m) h k e = let q = spot_buffer e in absurd (kept_no_target (buffer_at c d) x m j ne k (subst (λ a. target_at (buffer_at c a) j ≡ x) q h))
    by (Target b j) (Target d m) h k e = let q = spot_buffer e in ap₂ Target q (targets_same (buffer_at c d) x j m (few d) ne (subst (λ a. target_at (buffer_at c a) j ≡ x) q h) k)
    by (Target b j) (Ghost n) h k e = cc
    by (Ghost n) Idle h k e = absurd k
    by (Ghost n) Free h k e = absurd k
    by (Ghost n) (Live b j) h k e = cc
    by (Ghost n) (Kept b j) h k e = cc
    by (Ghost n) (Target b j) h k e = cc
    by (Ghost n) (Ghost m) h k e =
        let q = spot_ghost e in
        let same : Some h.1 ≡ Some k.1 = sym h.2 ∙ ap (slice_get c.ghosts) q ∙ k.2 in
        let g : h.1 ≡ k.1 = cc in
        ap Ghost (sym h.3 ∙ ap (λ (y : ghosts.Ghost). y.num) g ∙ k.3)
