-- What is free once whole page tables come, go or move.
use Rattle.std.proofs.Common.{◌≡◌, ℕ, zero, suc, ◌+◌, Bool, true, false, cond, List, [], ◌∷◌, ◌++◌, Option, Some, None, set, refl, sym, ◌∙◌, ap, subst, arith}
use Rattle.std.specs.Prelude.{◌||◌, ◌==◌, not, filter, filter_map, flat_map, map, nat_eq, nat_lt, slice_get, slice_set, option_and_then, option_map, unwrap_or, if◌then◌else◌}
use Rattle.std.proofs.Math.ListN.{length-set}
use Rattle.std.proofs.lemmas.Grind.{common_steps}
use Rattle.std.proofs.lemmas.Bool.Decides.{nat_tests}
use Rattle.std.proofs.lemmas.Bool.{cases_eq}
use Rattle.std.proofs.lemmas.List.{get_or-set_same, get_or-set_other}
use Rattle.ttm_base.specs.declared.BufId.{BufId}
use Rattle.ttm_base.specs.declared.JobId.{JobId}
use Rattle.ttm_base.specs.declared.Loc.{Loc}
use Rattle.ttm_base.specs.declared.Loc.TheVariants as loc
use Rattle.ttm_base.specs.declared.Mem.{Mem}
use Rattle.ttm_base.specs.declared.Mem.TheVariants.{System, Tt, Vram}
use Rattle.journal_model.specs.declared.script.Script.{Script}
use Rattle.journal_model.specs.declared.state.Core.{Core}
use Rattle.journal_model.specs.declared.state.State.{State}
use Rattle.journal_model.specs.declared.state.Buffer.{Buffer}
use Rattle.journal_model.specs.declared.state.Ghost.{Ghost}
use Rattle.journal_model.specs.declared.entry.Left.{Left}
use Rattle.journal_model.specs.declared.entry.Left.TheVariants as left
use Rattle.journal_model.specs.rules.State.{live_in, buffer_in, new_buffer}
use Rattle.journal_model.specs.rules.Places.{frame_of, slot_of, frames_of, slots_of}
use Rattle.journal_model.specs.rules.Holds.{has_number, held_frames, held_slots}
use Rattle.journal_model.specs.rules.Commands.{decl}
use Rattle.journal_model.specs.rules.ApplyPages.{after_depopulate, without_frame, without_frames}
use Rattle.journal_model.specs.rules.ApplyCommands.{after_free, after_new, ghost_of_freed}
use Rattle.journal_model.specs.rules.ApplyMoves.{moved, table_left, frames_left, ghost_of_moved, core_after_move}
use Rattle.journal_model.specs.rules.ApplyJobs.{after_reap}
use Rattle.journal_model.specs.statements.Account.{are_distinct}
use Rattle.laws.specs.law_owners.OneOwner.{HaveOneOwner}
use Rattle.laws.proofs.law_owners.Counts.{one, times, summed, weigh, summed-append, times-flat_map}
use Rattle.laws.proofs.law_owners.Weights.{Room, frames, slots, of_buffer, of_ghost, in_buffers, in_ghosts, weight}
use Rattle.laws.proofs.law_owners.Keeps.{new_weighs_none}
use Rattle.rules_holds.specs.declared.free_sets.FreeSets.{FreeSets}
use Rattle.rules_holds.specs.Free.{AreUnheld, AreFree}
use Rattle.rules_holds.specs.Marked.{AreMarked}
use Rattle.report_check.proofs.TradeLaws.{Traded, has_times, times_once, unheld_is, live_slot, counted}

-- ---- marks of the numbers that are given back

-- one number
pub given_one : (free : List Bool) (n : ℕ) → AreMarked free (n ∷ []) (set free n true)
given_one free n = record {
  len = length-set free n true;
  marked = λ k l. grind (arith, common_steps, nat_tests, get_or-set_same, get_or-set_other, cases_eq k n);
}

-- the free numbers once some are given back
or_cond : (a b : Bool) → (a || b) ≡ cond b true a
or_cond true true = refl
or_cond true false = refl
or_cond false true = refl
or_cond false false = refl

unheld_given : (size : ℕ) (old gone new : List ℕ) (free given : List Bool) → are_distinct old ≡ true → ((n : ℕ) → Traded (times n old) (times n gone) 0 (times n new))
    → AreUnheld size old free → AreMarked free gone given → AreUnheld size new given
unheld_given size old gone new free given distinct traded u m = record {
  len = m.len ∙ u.len;
  unheld = λ n within.
      let len = u.len in
      m.marked n (omega (arith, within, len))
      ∙ ap (λ b. b || has_number gone n) (u.unheld n within ∙ ap not (has_times old n))
      ∙ ap (λ b. not (nat_lt 0 (times n old)) || b) (has_times gone n)
      ∙ or_cond (not (nat_lt 0 (times n old))) (nat_lt 0 (times n gone))
      ∙ unheld_is (times n old) (times n new) (times n gone) 0 (times_once old distinct n) (traded n)
      ∙ sym (ap not (has_times new n));
}

-- the same of frames and slots: these frames and slots are given back, and no others
pub record Gives (c d : Core) (frames_gone slots_gone : List ℕ) : Type 0 where
  pub of_frames : (n : ℕ) → Traded (weight frames n c) (times n frames_gone) 0 (weight frames n d)
  pub of_slots : (n : ℕ) → Traded (weight slots n c) (times n slots_gone) 0 (weight slots n d)

pub free_given : (script : Script) (c d : Core) (frames_gone slots_gone : List ℕ) (free given : FreeSets) → HaveOneOwner script c → Gives c d frames_gone slots_gone
    → AreMarked free.frames frames_gone given.frames → AreMarked free.slots slots_gone given.slots → AreFree script c free → AreFree script d given
free_given script c d frames_gone slots_gone free given owner gives fm sm are = record {
  frames =
      unheld_given script.sizes.frames (held_frames c) frames_gone (held_frames d) free.frames given.frames owner.frames.distinct
      (λ n. counted frames n c d (times n frames_gone) 0 (gives.of_frames n)) are.frames fm;
  slots =
      unheld_given script.sizes.swap (held_slots c) slots_gone (held_slots d) free.slots given.slots owner.slots.distinct
      (λ n. counted slots n c d (times n slots_gone) 0 (gives.of_slots n)) are.slots sm;
}

-- ---- one buffer's slot set

-- what the others hold
record Others (w : Buffer → ℕ) (buffers : List (Option Buffer)) (i : ℕ) (x : Buffer) (o : Option Buffer) : Type 0 where
  pub rest : ℕ
  pub before : summed (weigh w) buffers ≡ rest + w x
  pub after : summed (weigh w) (slice_set buffers i o) ≡ rest + weigh w o

others : (w : Buffer → ℕ) (buffers : List (Option Buffer)) (i : ℕ) (x : Buffer) (o : Option Buffer) → slice_get buffers i ≡ Some (Some x) → Others w buffers i x o
others w [] i x o there = cc
others w (slot ∷ buffers) zero x o there =
    let it : slot ≡ Some x = cc in
    subst (λ s. Others w (s ∷ buffers) zero x o) (sym it) (record { rest = summed (weigh w) buffers; before = omega arith; after = omega arith })
others w (slot ∷ buffers) (suc i) x o there =
    let t = others w buffers i x o there in
    let before = t.before in
    let after = t.after in
    record { rest = weigh w slot + t.rest; before = omega (arith, before); after = omega (arith, after) }

-- the buffer keeps some of its numbers, ghosts get others, and the rest are given back
slot_gives : (w : Buffer → ℕ) (buffers : List (Option Buffer)) (i : ℕ) (x : Buffer) (o : Option Buffer) (ghosts ghosts' more gone : ℕ) → slice_get buffers i ≡ Some (Some x)
    → ghosts' ≡ ghosts + more → w x ≡ (weigh w o + more) + gone → Traded (summed (weigh w) buffers + ghosts) gone 0 (summed (weigh w) (slice_set buffers i o) + ghosts')
slot_gives w buffers i x o ghosts ghosts' more gone there g e =
    let t = others w buffers i x o there in
    let before = t.before in
    let after = t.after in
    record { rest = (t.rest + weigh w o) + ghosts'; before = omega (arith, before, e, g); after = omega (arith, after) }

-- one more ghost
ghost_more : (r : Room) (n : ℕ) (ghosts : List Ghost) (g : Ghost) → in_ghosts r n (ghosts ++ g ∷ []) ≡ in_ghosts r n ghosts + of_ghost r n g
ghost_more r n ghosts g = let both = summed-append (of_ghost r n) ghosts (g ∷ []) in omega (arith, both)

same_ghosts : (m : ℕ) → m ≡ m + 0
same_ghosts m = omega arith

no_frames_zero : (n : ℕ) (table : List Loc) → times n (filter_map frame_of (map (λ l. loc.Zero) table)) ≡ 0
no_frames_zero n [] = refl
no_frames_zero n (l ∷ table) = no_frames_zero n table

no_slots_zero : (n : ℕ) (table : List Loc) → times n (filter_map slot_of (map (λ l. loc.Zero) table)) ≡ 0
no_slots_zero n [] = refl
no_slots_zero n (l ∷ table) = no_slots_zero n table

-- ---- a buffer gives back its frames

none_left : (n : ℕ) (table : List Loc) → times n (filter_map frame_of (map without_frame table)) ≡ 0
none_left n [] = refl
none_left n (loc.Frame f ∷ table) = none_left n table
none_left n (loc.Slot k ∷ table) = none_left n table
none_left n (loc.Zero ∷ table) = none_left n table

slots_left : (n : ℕ) (table : List Loc) → times n (filter_map slot_of (map without_frame table)) ≡ times n (filter_map slot_of table)
slots_left n [] = refl
slots_left n (loc.Frame f ∷ table) = slots_left n table
slots_left n (loc.Slot k ∷ table) = ap (λ m. one (nat_eq n k) + m) (slots_left n table)
slots_left n (loc.Zero ∷ table) = slots_left n table

module _ (s : State) (b : BufId) (x : Buffer) (live : live_in s.core.buffers b ≡ Some x) where
  there : slice_get s.core.buffers b.0 ≡ Some (Some x)
  there = live_slot (slice_get s.core.buffers b.0) x live

  known : buffer_in s.core b ≡ x
  known = ap (λ o. unwrap_or o (new_buffer 0)) live

  set_as : (f : Buffer → Buffer) → slice_set s.core.buffers b.0 (Some (f x)) ≡ slice_set s.core.buffers b.0 (option_map f (live_in s.core.buffers b))
  set_as f = ap (λ o. slice_set s.core.buffers b.0 (option_map f o)) (sym live)

  pub depopulate_gives : Gives s.core (after_depopulate s b).core (frames_of x) []
  depopulate_gives = record {
    of_frames = λ n.
        let none = none_left n x.table in
        subst (λ buffers. Traded (weight frames n s.core) (times n (frames_of x)) 0 (in_buffers frames n buffers + in_ghosts frames n s.core.ghosts)) (set_as without_frames)
        (slot_gives (of_buffer frames n) s.core.buffers b.0 x (Some (without_frames x)) (in_ghosts frames n s.core.ghosts) (in_ghosts frames n s.core.ghosts) 0 (times n (frames_of x)) there
        (same_ghosts (in_ghosts frames n s.core.ghosts)) (omega (arith, none)));
    of_slots = λ n.
        let same = slots_left n x.table in
        subst (λ buffers. Traded (weight slots n s.core) 0 0 (in_buffers slots n buffers + in_ghosts slots n s.core.ghosts)) (set_as without_frames)
        (slot_gives (of_buffer slots n) s.core.buffers b.0 x (Some (without_frames x)) (in_ghosts slots n s.core.ghosts) (in_ghosts slots n s.core.ghosts) 0 0 there
        (same_ghosts (in_ghosts slots n s.core.ghosts)) (omega (arith, same)));
  }

  -- ---- a buffer is freed: its numbers are given back, or its frames stay with a ghost

  freed_ghosts : (r : Room) (n g : ℕ) (k : Buffer → Ghost) (q : Bool) → q ≡ false → in_ghosts r n (if q then s.core.ghosts else s.core.ghosts ++ k (buffer_in s.core b) ∷ []) ≡ in_ghosts r n s.core.ghosts + of_ghost r n (k x)
  freed_ghosts r n g k true h = cc
  freed_ghosts r n g k false h = ap (λ y. in_ghosts r n (s.core.ghosts ++ k y ∷ [])) known ∙ ghost_more r n s.core.ghosts (k x)

  none_more : (r : Room) (n : ℕ) (more : List Ghost) (q : Bool) → q ≡ true → in_ghosts r n (if q then s.core.ghosts else more) ≡ in_ghosts r n s.core.ghosts + 0
  none_more r n more true h = same_ghosts (in_ghosts r n s.core.ghosts)
  none_more r n more false h = cc

  pub free_gives : (t g : ℕ) → (g == 0) ≡ true → Gives s.core (after_free s t b g).core (frames_of x) (slots_of x)
  free_gives t g h = record {
    of_frames = λ n.
        slot_gives (of_buffer frames n) s.core.buffers b.0 x None (in_ghosts frames n s.core.ghosts) (in_ghosts frames n (after_free s t b g).core.ghosts) 0 (times n (frames_of x)) there
        (none_more frames n _ (g == 0) h) (omega arith);
    of_slots = λ n.
        slot_gives (of_buffer slots n) s.core.buffers b.0 x None (in_ghosts slots n s.core.ghosts) (in_ghosts slots n (after_free s t b g).core.ghosts) 0 (times n (slots_of x)) there
        (none_more slots n _ (g == 0) h) (omega arith);
  }

  pub free_leaves : (t g : ℕ) → (g == 0) ≡ false → Gives s.core (after_free s t b g).core [] (slots_of x)
  free_leaves t g h = record {
    of_frames = λ n.
        slot_gives (of_buffer frames n) s.core.buffers b.0 x None (in_ghosts frames n s.core.ghosts) (in_ghosts frames n (after_free s t b g).core.ghosts) (times n (frames_of x)) 0 there
        (freed_ghosts frames n g (λ y. ghost_of_freed s.core y g) (g == 0) h) (omega arith);
    of_slots = λ n.
        slot_gives (of_buffer slots n) s.core.buffers b.0 x None (in_ghosts slots n s.core.ghosts) (in_ghosts slots n (after_free s t b g).core.ghosts) 0 (times n (slots_of x)) there
        (freed_ghosts slots n g (λ y. ghost_of_freed s.core y g) (g == 0) h) (omega arith);
  }

  -- ---- a buffer moves: out of TT its slots are given back, and its frames too or they stay with a ghost

  module _ (mem : Mem) (job : JobId) where
    abbrev pub after : Left → Core
    after l = core_after_move s.core b mem job l

    -- by what the buffer and the ghosts hold then
    move_gives : (r : Room) (n : ℕ) (l : Left) (more gone : ℕ) → in_ghosts r n (after l).ghosts ≡ in_ghosts r n s.core.ghosts + more → of_buffer r n x ≡ (of_buffer r n (moved mem job x) + more) + gone
        → Traded (weight r n s.core) gone 0 (weight r n (after l))
    move_gives r n l more gone g e =
        subst (λ buffers. Traded (weight r n s.core) gone 0 (in_buffers r n buffers + in_ghosts r n (after l).ghosts)) (set_as (moved mem job))
        (slot_gives (of_buffer r n) s.core.buffers b.0 x (Some (moved mem job x)) (in_ghosts r n s.core.ghosts) (in_ghosts r n (after l).ghosts) more gone there g e)

    ghosts_with : (r : Room) (n g : ℕ) → in_ghosts r n (after (left.Ghost g)).ghosts ≡ in_ghosts r n s.core.ghosts + of_ghost r n (ghost_of_moved x job g)
    ghosts_with r n g = ap (λ y. in_ghosts r n (s.core.ghosts ++ ghost_of_moved y job g ∷ [])) known ∙ ghost_more r n s.core.ghosts (ghost_of_moved x job g)

    pub move_now_gives : x.mem ≡ Tt → Gives s.core (after left.Now) (frames_of x) (slots_of x)
    move_now_gives m = record {
      of_frames = λ n.
          let none : times n (filter_map frame_of (table_left x.mem x.table)) ≡ 0 = ap (λ y. times n (filter_map frame_of (table_left y x.table))) m ∙ no_frames_zero n x.table in
          move_gives frames n left.Now 0 (times n (frames_of x)) (same_ghosts (in_ghosts frames n s.core.ghosts)) (omega (arith, none));
      of_slots = λ n.
          let none : times n (filter_map slot_of (table_left x.mem x.table)) ≡ 0 = ap (λ y. times n (filter_map slot_of (table_left y x.table))) m ∙ no_slots_zero n x.table in
          move_gives slots n left.Now 0 (times n (slots_of x)) (same_ghosts (in_ghosts slots n s.core.ghosts)) (omega (arith, none));
    }

    pub move_leaves : (g : ℕ) → x.mem ≡ Tt → Gives s.core (after (left.Ghost g)) [] (slots_of x)
    move_leaves g m = record {
      of_frames = λ n.
          let none : times n (filter_map frame_of (table_left x.mem x.table)) ≡ 0 = ap (λ y. times n (filter_map frame_of (table_left y x.table))) m ∙ no_frames_zero n x.table in
          let left_is : times n (frames_left x.mem x) ≡ times n (frames_of x) = ap (λ y. times n (frames_left y x)) m in
          move_gives frames n (left.Ghost g) (times n (frames_left x.mem x)) 0 (ghosts_with frames n g) (omega (arith, none, left_is));
      of_slots = λ n.
          let none : times n (filter_map slot_of (table_left x.mem x.table)) ≡ 0 = ap (λ y. times n (filter_map slot_of (table_left y x.table))) m ∙ no_slots_zero n x.table in
          move_gives slots n (left.Ghost g) 0 (times n (slots_of x)) (ghosts_with slots n g) (omega (arith, none));
    }

    -- from elsewhere the page table goes along
    table_stays : (m : Mem) → (m ≡ Tt → ⊥) → (table_left m x.table ≡ x.table) × (frames_left m x ≡ [])
    table_stays Tt h = absurd (h refl)
    table_stays Vram h = (refl, refl)
    table_stays System h = (refl, refl)

    pub move_keeps : (l : Left) → (x.mem ≡ Tt → ⊥) → Gives s.core (after l) [] []
    move_keeps left.Now h = record {
      of_frames = λ n.
          let same : times n (filter_map frame_of (table_left x.mem x.table)) ≡ times n (frames_of x) = ap (λ t. times n (filter_map frame_of t)) (table_stays x.mem h).0 in
          move_gives frames n left.Now 0 0 (same_ghosts (in_ghosts frames n s.core.ghosts)) (omega (arith, same));
      of_slots = λ n.
          let same : times n (filter_map slot_of (table_left x.mem x.table)) ≡ times n (slots_of x) = ap (λ t. times n (filter_map slot_of t)) (table_stays x.mem h).0 in
          move_gives slots n left.Now 0 0 (same_ghosts (in_ghosts slots n s.core.ghosts)) (omega (arith, same));
    }
    move_keeps (left.Ghost g) h = record {
      of_frames = λ n.
          let same : times n (filter_map frame_of (table_left x.mem x.table)) ≡ times n (frames_of x) = ap (λ t. times n (filter_map frame_of t)) (table_stays x.mem h).0 in
          let none : times n (frames_left x.mem x) ≡ 0 = ap (times n) (table_stays x.mem h).1 in
          move_gives frames n (left.Ghost g) (times n (frames_left x.mem x)) 0 (ghosts_with frames n g) (omega (arith, same, none));
      of_slots = λ n.
          let same : times n (filter_map slot_of (table_left x.mem x.table)) ≡ times n (slots_of x) = ap (λ t. times n (filter_map slot_of t)) (table_stays x.mem h).0 in
          move_gives slots n (left.Ghost g) 0 0 (ghosts_with slots n g) (omega (arith, same));
    }

-- ---- ghosts go

parts : (f : Ghost → ℕ) (p : Ghost → Bool) (ghosts : List Ghost) → summed f ghosts ≡ summed f (filter (λ g. not (p g)) ghosts) + summed f (filter p ghosts)
parts f p [] = refl
parts f p (g ∷ ghosts) = by (p g) (parts f p ghosts)
  where
    by : (q : Bool) → summed f ghosts ≡ summed f (filter (λ h. not (p h)) ghosts) + summed f (filter p ghosts) →
        f g + summed f ghosts ≡ summed f (if not q then g ∷ filter (λ h. not (p h)) ghosts else filter (λ h. not (p h)) ghosts) + summed f (if q then g ∷ filter p ghosts else filter p ghosts)
    by true rest = omega (arith, rest)
    by false rest = omega (arith, rest)

no_ghost_slots : (n : ℕ) (ghosts : List Ghost) → in_ghosts slots n ghosts ≡ 0
no_ghost_slots n [] = refl
no_ghost_slots n (g ∷ ghosts) = let rest = no_ghost_slots n ghosts in omega (arith, rest)

pub reap_gives : (s : State) (g : ℕ) → Gives s.core (after_reap s g).core (flat_map (λ h. h.frames) (filter (λ h. h.num == g) s.core.ghosts)) []
reap_gives s g = record {
  of_frames = λ n.
      let gone = filter (λ h. h.num == g) s.core.ghosts in
      let both = parts (of_ghost frames n) (λ h. h.num == g) s.core.ghosts in
      let count : times n (flat_map (λ h. h.frames) gone) ≡ in_ghosts frames n gone = times-flat_map n (λ h. h.frames) gone in
      record { rest = weight frames n (after_reap s g).core; before = omega (arith, both, count); after = omega arith };
  of_slots = λ n.
      let old = no_ghost_slots n s.core.ghosts in
      let new = no_ghost_slots n (after_reap s g).core.ghosts in
      record { rest = weight slots n s.core; before = omega arith; after = omega (arith, old, new) };
}

-- ---- a buffer is made

new_same : (w : Buffer → ℕ) (fresh : Buffer) → w fresh ≡ 0 → (buffers : List (Option Buffer)) (i : ℕ) → option_and_then (λ x. x) (slice_get buffers i) ≡ None
    → summed (weigh w) (slice_set buffers i (Some fresh)) ≡ summed (weigh w) buffers
new_same w fresh none [] i h = refl
new_same w fresh none (None ∷ buffers) zero h = ap (λ m. m + summed (weigh w) buffers) none
new_same w fresh none (Some x ∷ buffers) zero h = cc
new_same w fresh none (slot ∷ buffers) (suc i) h = ap (λ m. weigh w slot + m) (new_same w fresh none buffers i h)

pub new_gives : (script : Script) (s : State) (t : ℕ) (b : BufId) → live_in s.core.buffers b ≡ None → Gives s.core (after_new script s t b).core [] []
new_gives script s t b dead = record {
  of_frames = λ n.
      let same = new_same (of_buffer frames n) (new_buffer (decl script b).pages) (new_weighs_none frames n (decl script b).pages) s.core.buffers b.0 dead in
      record { rest = weight frames n s.core; before = omega arith; after = omega (arith, same) };
  of_slots = λ n.
      let same = new_same (of_buffer slots n) (new_buffer (decl script b).pages) (new_weighs_none slots n (decl script b).pages) s.core.buffers b.0 dead in
      record { rest = weight slots n s.core; before = omega arith; after = omega (arith, same) };
}
