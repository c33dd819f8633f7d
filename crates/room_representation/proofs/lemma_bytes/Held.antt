-- How often frames and slots are held where one buffer changes, goes or is made, and what tables hold.
use Rattle.std.proofs.Common.{◌≡◌, ℕ, zero, suc, ◌+◌, List, [], ◌∷◌, ◌++◌, Option, Some, None, refl, ◌∙◌, ap, arith}
use Rattle.std.specs.Prelude.{filter_map, flat_map, map, option_and_then, option_map, slice_get, slice_set}
use Rattle.std.specs.List.{cons_option, enumerate_from}
use Rattle.ttm_base.specs.declared.BufId.{BufId}
use Rattle.ttm_base.specs.declared.Loc.{Loc}
use Rattle.ttm_base.specs.declared.Loc.TheVariants as loc
use Rattle.journal_model.specs.declared.state.Buffer.{Buffer}
use Rattle.journal_model.specs.declared.state.Core.{Core}
use Rattle.journal_model.specs.rules.State.{changed, live_in, with_buffers}
use Rattle.journal_model.specs.rules.Holds.{held_frames, held_slots, live_entry}
use Rattle.journal_model.specs.rules.Places.{frame_of, frames_of, slot_of, slots_of}
use Rattle.journal_model.specs.rules.ApplyPages.{without_frame}
use Rattle.laws.proofs.law_owners.Counts.{times, summed, weigh}
use Rattle.laws.proofs.law_owners.Weights.{Room, frames, slots, of_buffer, weight, times-held}
use Rattle.laws.proofs.law_owners.Keeps.{in_loc, times-cons}

-- what stands at a place of buffers, if it is live
abbrev pub there : List (Option Buffer) → ℕ → Option Buffer
there xs i = option_and_then (λ x. x) (slice_get xs i)

-- ---- one buffer among all

changed_sum : (m : Buffer → ℕ) (g : Buffer → Buffer) (xs : List (Option Buffer)) (i : ℕ)
    → summed (weigh m) (slice_set xs i (option_map g (there xs i))) + weigh m (there xs i) ≡ summed (weigh m) xs + weigh m (option_map g (there xs i))
changed_sum m g [] i = refl
changed_sum m g (x ∷ xs) zero = omega arith
changed_sum m g (x ∷ xs) (suc i) = let rest = changed_sum m g xs i in omega (arith, rest)

light_sum : (m : Buffer → ℕ) (xs : List (Option Buffer)) (i : ℕ) (o : Option Buffer) → weigh m o ≡ 0 → summed (weigh m) (slice_set xs i o) + weigh m (there xs i) ≡ summed (weigh m) xs
light_sum m [] i o h = refl
light_sum m (x ∷ xs) zero o h = omega (arith, h)
light_sum m (x ∷ xs) (suc i) o h = let rest = light_sum m xs i o h in omega (arith, rest)

module _ (c : Core) (b : BufId) (x : Buffer) (live : live_in c.buffers b ≡ Some x) where
  -- a change of a live buffer
  changed_weight : (r : Room) (g : Buffer → Buffer) (n : ℕ) → weight r n (with_buffers (changed g c.buffers b) c) + of_buffer r n x ≡ weight r n c + of_buffer r n (g x)
  changed_weight r g n =
      let sums = changed_sum (of_buffer r n) g c.buffers b.0 in
      let old : weigh (of_buffer r n) (live_in c.buffers b) ≡ of_buffer r n x = ap (weigh (of_buffer r n)) live in
      let new : weigh (of_buffer r n) (option_map g (live_in c.buffers b)) ≡ of_buffer r n (g x) = ap (λ o. weigh (of_buffer r n) (option_map g o)) live in
      omega (arith, sums, old, new)

  -- the frames that its table had are held no more, and those that it has now are
  pub frames_changed : (g : Buffer → Buffer) (n : ℕ) → times n (held_frames (with_buffers (changed g c.buffers b) c)) + times n (frames_of x) ≡ times n (held_frames c) + times n (frames_of (g x))
  frames_changed g n =
      let all = changed_weight frames g n in
      let new = times-held frames n (with_buffers (changed g c.buffers b) c) in
      let old = times-held frames n c in
      omega (arith, all, new, old)

  -- and so are the slots
  pub slots_changed : (g : Buffer → Buffer) (n : ℕ) → times n (held_slots (with_buffers (changed g c.buffers b) c)) + times n (slots_of x) ≡ times n (held_slots c) + times n (slots_of (g x))
  slots_changed g n =
      let all = changed_weight slots g n in
      let new = times-held slots n (with_buffers (changed g c.buffers b) c) in
      let old = times-held slots n c in
      omega (arith, all, new, old)

  -- a live buffer that goes, or gives way to one with nothing in its table
  light_weight : (r : Room) (o : Option Buffer) (n : ℕ) → weigh (of_buffer r n) o ≡ 0 → weight r n (with_buffers (slice_set c.buffers b.0 o) c) + of_buffer r n x ≡ weight r n c
  light_weight r o n h =
      let sums = light_sum (of_buffer r n) c.buffers b.0 o h in
      let old : weigh (of_buffer r n) (live_in c.buffers b) ≡ of_buffer r n x = ap (weigh (of_buffer r n)) live in
      omega (arith, sums, old)

  -- the frames of a buffer that is gone are held no more
  pub frames_gone : (n : ℕ) → times n (held_frames (with_buffers (slice_set c.buffers b.0 None) c)) + times n (frames_of x) ≡ times n (held_frames c)
  frames_gone n =
      let all = light_weight frames None n refl in
      let new = times-held frames n (with_buffers (slice_set c.buffers b.0 None) c) in
      let old = times-held frames n c in
      omega (arith, all, new, old)

  -- nor are its slots
  pub slots_gone : (n : ℕ) → times n (held_slots (with_buffers (slice_set c.buffers b.0 None) c)) + times n (slots_of x) ≡ times n (held_slots c)
  slots_gone n =
      let all = light_weight slots None n refl in
      let new = times-held slots n (with_buffers (slice_set c.buffers b.0 None) c) in
      let old = times-held slots n c in
      omega (arith, all, new, old)

-- ---- changes that leave tables as they are

-- what is seen of each live buffer, one after another
abbrev pub of_live : {Y : Type 0} → (Buffer → List Y) → ℕ → List (Option Buffer) → List Y
of_live see k xs = flat_map (λ e. see e.1) (filter_map live_entry (enumerate_from k xs))

-- what is seen of buffers stays where the one that changes is seen as before
pub live_same : {Y : Type 0} (see : Buffer → List Y) (g : Buffer → Buffer) → ((x : Buffer) → see (g x) ≡ see x) → (k : ℕ) (xs : List (Option Buffer)) (i : ℕ) →
    of_live see k (slice_set xs i (option_map g (there xs i))) ≡ of_live see k xs
live_same see g h k [] i = refl
live_same see g h k (None ∷ xs) zero = refl
live_same see g h k (Some x ∷ xs) zero = ap (λ ys. ys ++ of_live see (k + 1) xs) (h x)
live_same see g h k (None ∷ xs) (suc i) = live_same see g h (k + 1) xs i
live_same see g h k (Some x ∷ xs) (suc i) = ap (λ ys. see x ++ ys) (live_same see g h (k + 1) xs i)

-- a new buffer has nothing in its table
pub live_made : {Y : Type 0} (see : Buffer → List Y) (x : Buffer) → see x ≡ [] → (k : ℕ) (xs : List (Option Buffer)) (i : ℕ) → there xs i ≡ None →
    of_live see k (slice_set xs i (Some x)) ≡ of_live see k xs
live_made see x h k [] i e = refl
live_made see x h k (None ∷ xs) zero e = ap (λ ys. ys ++ of_live see (k + 1) xs) h
live_made see x h k (Some y ∷ xs) zero e = cc
live_made see x h k (None ∷ xs) (suc i) e = live_made see x h (k + 1) xs i e
live_made see x h k (Some y ∷ xs) (suc i) e = ap (λ ys. see y ++ ys) (live_made see x h (k + 1) xs i e)

module _ (g : Buffer → Buffer) (keeps : (x : Buffer) → (g x).table ≡ x.table) where
  -- the frames in tables and ghosts are the same
  pub frames_kept : (c : Core) (b : BufId) → held_frames (with_buffers (changed g c.buffers b) c) ≡ held_frames c
  frames_kept c b = ap (λ ns. ns ++ flat_map (λ g. g.frames) c.ghosts) (live_same frames_of g (λ x. ap (filter_map frame_of) (keeps x)) 0 c.buffers b.0)

  -- and the slots are
  pub slots_kept : (c : Core) (b : BufId) → held_slots (with_buffers (changed g c.buffers b) c) ≡ held_slots c
  slots_kept c b = live_same slots_of g (λ x. ap (filter_map slot_of) (keeps x)) 0 c.buffers b.0

-- ---- tables

-- one place of a table
pub table_set : (f : Loc → Option ℕ) (n : ℕ) (table : List Loc) (i : ℕ) (old l : Loc) → slice_get table i ≡ Some old →
    times n (filter_map f (slice_set table i l)) + in_loc f n old ≡ times n (filter_map f table) + in_loc f n l
table_set f n [] i old l e = cc
table_set f n (x ∷ table) zero old l e =
    let new = times-cons f n l table in
    let was = times-cons f n x table in
    let same : x ≡ old = cc in
    let one : in_loc f n x ≡ in_loc f n old = ap (in_loc f n) same in
    omega (arith, new, was, one)
table_set f n (x ∷ table) (suc i) old l e =
    let rest = table_set f n table i old l e in
    let new = times-cons f n x (slice_set table i l) in
    let was = times-cons f n x table in
    omega (arith, rest, new, was)

-- no frame is left in a table that gave its frames back
pub emptied_frames : (table : List Loc) → filter_map frame_of (map without_frame table) ≡ []
emptied_frames [] = refl
emptied_frames (loc.Frame f ∷ table) = emptied_frames table
emptied_frames (loc.Slot k ∷ table) = emptied_frames table
emptied_frames (loc.Zero ∷ table) = emptied_frames table

-- each slot is
pub emptied_slots : (table : List Loc) → filter_map slot_of (map without_frame table) ≡ filter_map slot_of table
emptied_slots [] = refl
emptied_slots (loc.Frame f ∷ table) = emptied_slots table
emptied_slots (loc.Slot k ∷ table) = ap (λ ks. k ∷ ks) (emptied_slots table)
emptied_slots (loc.Zero ∷ table) = emptied_slots table

-- nothing is left in a table of zeros
pub zeros_hold_none : (f : Loc → Option ℕ) → f loc.Zero ≡ None → (table : List Loc) → filter_map f (map (λ l. loc.Zero) table) ≡ []
zeros_hold_none f h [] = refl
zeros_hold_none f h (l ∷ table) = ap (λ o. cons_option o (filter_map f (map (λ l. loc.Zero) table))) h ∙ zeros_hold_none f h table

-- a table without a slot
pub no_slots : (table : List Loc) → ((i k : ℕ) → slice_get table i ≡ Some (loc.Slot k) → ⊥) → filter_map slot_of table ≡ []
no_slots [] h = refl
no_slots (loc.Frame f ∷ table) h = no_slots table (λ i k e. h (suc i) k e)
no_slots (loc.Slot k ∷ table) h = absurd (h 0 k refl)
no_slots (loc.Zero ∷ table) h = no_slots table (λ i k e. h (suc i) k e)
