-- One buffer or ghost more is counted.
use Rattle.std.proofs.Common.{◌≡◌, ℕ, ◌+◌, ◌<◌, List, length, take, Option, Some, None, refl, sym, ◌∙◌, ap, arith, min}
use Rattle.std.specs.Prelude.{slice_get, sum_by}
use Rattle.ttm_base.specs.declared.Mem.TheVariants.{Tt, Vram}
use Rattle.ttm_base.specs.declared.Span.{Span}
use Rattle.journal_model.specs.declared.state.Buffer.{Buffer}
use Rattle.journal_model.specs.declared.state.Ghost.{Ghost}
use Rattle.page_accounts.specs.Counting.{most, more, with_buffer, with_ghost, with_where_live}
use Rattle.page_accounts.specs.Amounts.{Holding, Pages, Targets, Frames, Slots, amount, amount_where_live, amount_left, amount_of_ghost, counted}
use Rattle.page_accounts.proofs.Sums.{summed_more}

-- a saturated count goes on as the count does
more_counted : (a b : ℕ) → more (min a most) b ≡ min (a + b) most
more_counted a b = omega arith

-- equal counts
pub same_counts : (f f' g g' : Holding → ℕ) → ((what : Holding) → f what ≡ f' what) → ((what : Holding) → g what ≡ g' what) → counted f g ≡ counted f' g'
same_counts f f' g g' e h =
    let a1 = e (Pages Vram) in
    let a2 = e (Targets Vram) in
    let a3 = e (Pages Tt) in
    let a4 = e (Targets Tt) in
    let a5 = e Frames in
    let a6 = e Slots in
    let b1 = h (Pages Vram) in
    let b2 = h (Pages Tt) in
    let b3 = h Frames in
    cc

-- one buffer more
buffer_more : (f g : Holding → ℕ) (x : Buffer) → with_buffer (counted f g) x ≡ counted (λ what. f what + amount what x) g
buffer_more f g x =
    let a1 = more_counted (f (Pages Vram)) (amount (Pages Vram) x) in
    let a2 = more_counted (f (Targets Vram)) (amount (Targets Vram) x) in
    let a3 = more_counted (f (Pages Tt)) (amount (Pages Tt) x) in
    let a4 = more_counted (f (Targets Tt)) (amount (Targets Tt) x) in
    let a5 = more_counted (f Frames) (amount Frames x) in
    let a6 = more_counted (f Slots) (amount Slots x) in
    cc

-- one ghost more
ghost_more : (f g : Holding → ℕ) (vram tt : List Span) (frames : ℕ) → with_ghost (counted f g) vram tt frames ≡ counted f (λ what. g what + amount_left what vram tt frames)
ghost_more f g vram tt frames =
    let a1 = more_counted (g (Pages Vram)) (amount_left (Pages Vram) vram tt frames) in
    let a2 = more_counted (g (Pages Tt)) (amount_left (Pages Tt) vram tt frames) in
    let a3 = more_counted (g Frames) (amount_left Frames vram tt frames) in
    cc

-- ---- along the buffers

-- what the first of the buffers hold
abbrev pub held_by : List (Option Buffer) → ℕ → Holding → ℕ
held_by buffers i what = sum_by (amount_where_live what) (take i buffers)

live_counted : (buffers : List (Option Buffer)) (i : ℕ) (x : Buffer) (g : Holding → ℕ) → slice_get buffers i ≡ Some (Some x) → with_buffer (counted (held_by buffers i) g) x ≡ counted (held_by buffers (i + 1)) g
live_counted buffers i x g h =
    buffer_more (held_by buffers i) g x
    ∙ same_counts _ _ g g (λ (what : Holding). sym (summed_more (amount_where_live what) buffers i (Some x) h)) (λ (what : Holding). refl)

dead_counted : (buffers : List (Option Buffer)) (i : ℕ) (g : Holding → ℕ) → slice_get buffers i ≡ Some None → counted (held_by buffers i) g ≡ counted (held_by buffers (i + 1)) g
dead_counted buffers i g h =
    same_counts _ _ g g
    (λ (what : Holding). let e = summed_more (amount_where_live what) buffers i None h in let n : sum_by (amount_where_live what) (take i buffers) ≡ sum_by (amount_where_live what) (take (i + 1) buffers) = omega (arith, e) in n)
    (λ (what : Holding). refl)

pub buffer_counted : (buffers : List (Option Buffer)) (i : ℕ) (o : Option Buffer) (g : Holding → ℕ) → slice_get buffers i ≡ Some o → with_where_live (counted (held_by buffers i) g) o ≡ counted (held_by buffers (i + 1)) g
buffer_counted buffers i None g h = dead_counted buffers i g h
buffer_counted buffers i (Some x) g h = live_counted buffers i x g h

-- ---- along ghosts, seen by their pages and frames

abbrev pub left_by : {G : Type 0} → (G → List Span) → (G → List Span) → (G → ℕ) → List G → ℕ → Holding → ℕ
left_by vram tt frames gs j what = sum_by (λ r. amount_left what (vram r) (tt r) (frames r)) (take j gs)

pub ghost_counted : {G : Type 0} (vram tt : G → List Span) (frames : G → ℕ) (gs : List G) (j : ℕ) (r : G) (f : Holding → ℕ) → slice_get gs j ≡ Some r
    → with_ghost (counted f (left_by vram tt frames gs j)) (vram r) (tt r) (frames r) ≡ counted f (left_by vram tt frames gs (j + 1))
ghost_counted vram tt frames gs j r f h =
    ghost_more f (left_by vram tt frames gs j) (vram r) (tt r) (frames r)
    ∙ same_counts f f _ _ (λ (what : Holding). refl) (λ (what : Holding). sym (summed_more (λ r. amount_left what (vram r) (tt r) (frames r)) gs j r h))
