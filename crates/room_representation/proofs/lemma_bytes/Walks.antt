-- Loops that give frames or slots back, along a list of them or along a page table: each is held when its turn comes.
use Rattle.std.proofs.Common.{◌≡◌, ℕ, zero, suc, ◌+◌, ◌≤◌, Bool, true, List, [], ◌∷◌, ◌++◌, length, take, Option, Some, None, refl, sym, ◌∙◌, ap, arith}
use Rattle.std.specs.Prelude.{nat_eq, filter_map, slice_get}
use Rattle.std.specs.List.{cons_option}
use Rattle.std.proofs.lemmas.Bool.{eq-eqb}
use Rattle.ttm_base.specs.declared.BufId.{BufId}
use Rattle.ttm_base.specs.declared.Loc.{Loc}
use Rattle.journal_model.specs.declared.state.Buffer.{Buffer}
use Rattle.journal_model.specs.declared.state.Core.{Core}
use Rattle.journal_model.specs.declared.state.Ghost.{Ghost}
use Rattle.journal_model.specs.rules.State.{live_in}
use Rattle.journal_model.specs.rules.Holds.{held_frames, held_slots}
use Rattle.journal_model.specs.rules.Places.{frames_of, slots_of}
use Rattle.laws.proofs.law_owners.Counts.{one, times, summed, weigh}
use Rattle.laws.proofs.law_owners.Weights.{frames, of_ghost, times-held}
use Rattle.laws.proofs.law_owners.Keeps.{in_loc, times-cons}
use Rattle.laws.specs.law_owners.OneOwner.{AreOwned}
use Rattle.room_representation.specs.Pages.{marks}
use Rattle.room_representation.specs.lemma_bytes.GivenBack.{given, given_back}
use Rattle.room_representation.proofs.lemma_bytes.Marks.{held_behind, held_still}
use Rattle.room_representation.proofs.lemma_bytes.Held.{frames_gone, slots_gone}

-- ---- all of a buffer's or a ghost's are held

-- the frames of a live buffer are held
pub frames_within : (c : Core) (b : BufId) (x : Buffer) → live_in c.buffers b ≡ Some x → (n : ℕ) → times n (frames_of x) ≤ times n (held_frames c)
frames_within c b x live n = let all = frames_gone c b x live n in omega (arith, all)

-- its slots are
pub slots_within : (c : Core) (b : BufId) (x : Buffer) → live_in c.buffers b ≡ Some x → (n : ℕ) → times n (slots_of x) ≤ times n (held_slots c)
slots_within c b x live n = let all = slots_gone c b x live n in omega (arith, all)

one_of : (m : Ghost → ℕ) (ghosts : List Ghost) (i : ℕ) (g : Ghost) → slice_get ghosts i ≡ Some g → m g ≤ summed m ghosts
one_of m [] i g at = cc
one_of m (h ∷ ghosts) zero g at = let same : h ≡ g = cc in let it = ap m same in omega (arith, it)
one_of m (h ∷ ghosts) (suc i) g at = let rest = one_of m ghosts i g at in omega (arith, rest)

-- the frames of a ghost are
pub ghost_within : (c : Core) (i : ℕ) (g : Ghost) → slice_get c.ghosts i ≡ Some g → (n : ℕ) → times n g.frames ≤ times n (held_frames c)
ghost_within c i g at n =
    let part = one_of (of_ghost frames n) c.ghosts i g at in
    let all = times-held frames n c in
    omega (arith, part, all)

-- ---- along a list

-- after those in front of it, a number of the list is held still
pub list_held_still : (size : ℕ) (held : List ℕ) (pool : List Bool) → pool ≡ marks held size → AreOwned size held → (ks : List ℕ) → ((n : ℕ) → times n ks ≤ times n held) →
    (i k : ℕ) → slice_get ks i ≡ Some k → slice_get (given_back pool (take i ks)) k ≡ Some true
list_held_still size held pool is owned ks within i k at =
    ap (λ p. slice_get (given_back p (take i ks)) k) is ∙ held_still held ks size i k owned within at

-- ---- along a table

module _ (see : Loc → Option ℕ) where
  seen_more : (table : List Loc) (i : ℕ) (l : Loc) → slice_get table i ≡ Some l → filter_map see (take (suc i) table) ≡ filter_map see (take i table) ++ cons_option (see l) []
  seen_more [] i l at = cc
  seen_more (x ∷ table) zero l at = let same : x ≡ l = cc in ap (λ y. cons_option (see y) []) same
  seen_more (x ∷ table) (suc i) l at = by (see x) (seen_more table i l at)
    where
      by : (o : Option ℕ) → filter_map see (take (suc i) table) ≡ filter_map see (take i table) ++ cons_option (see l) []
          → cons_option o (filter_map see (take (suc i) table)) ≡ cons_option o (filter_map see (take i table)) ++ cons_option (see l) []
      by None rest = rest
      by (Some k) rest = ap (λ ks. k ∷ ks) rest

  -- a page that has none leaves all as it is
  pub passed : (table : List Loc) (i : ℕ) (l : Loc) → slice_get table i ≡ Some l → see l ≡ None → filter_map see (take (suc i) table) ≡ filter_map see (take i table)
  passed table i l at h = seen_more table i l at ∙ ap (λ o. filter_map see (take i table) ++ cons_option o []) h ∙ bare (filter_map see (take i table))
    where
      bare : (ks : List ℕ) → ks ++ [] ≡ ks
      bare [] = refl
      bare (k ∷ ks) = ap (λ js. k ∷ js) (bare ks)

  -- a page that has one gives it back
  pub table_given : (pool : List Bool) (table : List Loc) (i : ℕ) (l : Loc) (k : ℕ) → slice_get table i ≡ Some l → see l ≡ Some k →
      given (given_back pool (filter_map see (take i table))) k ≡ given_back pool (filter_map see (take (suc i) table))
  table_given pool table i l k at h =
      sym (last pool (filter_map see (take i table)))
      ∙ ap (λ o. given_back pool (filter_map see (take i table) ++ cons_option o [])) (sym h)
      ∙ ap (given_back pool) (sym (seen_more table i l at))
    where
      last : (p : List Bool) (ks : List ℕ) → given_back p (ks ++ k ∷ []) ≡ given (given_back p ks) k
      last p [] = refl
      last p (j ∷ ks) = last (given p j) ks

  times_seen : (table : List Loc) (i : ℕ) (l : Loc) (k : ℕ) → slice_get table i ≡ Some l → see l ≡ Some k → times k (filter_map see (take i table)) + 1 ≤ times k (filter_map see table)
  times_seen [] i l k at h = cc
  times_seen (x ∷ table) zero l k at h =
      let same : x ≡ l = cc in
      let all = times-cons see k x table in
      let here : in_loc see k x ≡ 1 = ap (in_loc see k) same ∙ ap (weigh (λ m. one (nat_eq k m))) h ∙ ap one (eq-eqb k k refl) in
      omega (arith, all, here)
  times_seen (x ∷ table) (suc i) l k at h =
      let rest = times_seen table i l k at h in
      let all = times-cons see k x table in
      let front = times-cons see k x (take i table) in
      omega (arith, rest, all, front)

  -- after those in front of it, what a page has is held still
  pub table_held_still : (size : ℕ) (held : List ℕ) (pool : List Bool) → pool ≡ marks held size → AreOwned size held → (table : List Loc) → ((n : ℕ) → times n (filter_map see table) ≤ times n held) →
      (i : ℕ) (l : Loc) (k : ℕ) → slice_get table i ≡ Some l → see l ≡ Some k → slice_get (given_back pool (filter_map see (take i table))) k ≡ Some true
  table_held_still size held pool is owned table within i l k at h =
      let front = times_seen table i l k at h in
      let all = within k in
      ap (λ p. slice_get (given_back p (filter_map see (take i table))) k) is
      ∙ held_behind held (filter_map see (take i table)) size k owned (omega (arith, front, all))

  -- what a page has is held
  pub page_held : (size : ℕ) (held : List ℕ) (pool : List Bool) → pool ≡ marks held size → AreOwned size held → (table : List Loc) → ((n : ℕ) → times n (filter_map see table) ≤ times n held) →
      (i : ℕ) (l : Loc) (k : ℕ) → slice_get table i ≡ Some l → see l ≡ Some k → slice_get pool k ≡ Some true
  page_held size held pool is owned table within i l k at h =
      let front = times_seen table i l k at h in
      let all = within k in
      ap (λ p. slice_get p k) is ∙ held_behind held [] size k owned (let one : 0 + 1 ≤ times k held = omega (arith, front, all) in one)

  -- at the end all of the table were given back
  pub table_done : (table : List Loc) (i : ℕ) → length table ≤ i → filter_map see (take i table) ≡ filter_map see table
  table_done [] zero h = refl
  table_done [] (suc i) h = refl
  table_done (x ∷ table) zero h = absurd (omega (arith, h))
  table_done (x ∷ table) (suc i) h = ap (cons_option (see x)) (table_done table i (omega (arith, h)))
