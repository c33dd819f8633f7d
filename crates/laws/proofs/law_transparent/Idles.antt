-- What is free is held by nobody, and bytes beyond the pages that there are don't matter.
use Rattle.std.proofs.Common.{◌≡◌, ℕ, ◌+◌, ◌≤◌, Bool, true, false, List, Some, refl, sym, ◌∙◌, arith, subst}
use Rattle.std.specs.Prelude.{slice_get, nat_lt, ◌&&◌}
use Rattle.std.proofs.lemmas.Bool.{lt-ltb}
use Rattle.ttm_base.specs.declared.Mem.TheVariants as mem
use Rattle.ttm_base.specs.declared.BufId.{BufId}
use Rattle.ttm_base.specs.declared.Span.{Span}
use Rattle.ttm_base.specs.declared.Place.{Place}
use Rattle.ttm_base.specs.Pages as pages
use Rattle.journal_model.specs.declared.script.Script.{Script}
use Rattle.journal_model.specs.declared.state.Core.{Core}
use Rattle.journal_model.specs.rules.Places.{pages_of}
use Rattle.journal_model.specs.rules.Holds.{size_of, is_free_page, held_frames, held_slots, free_frame, free_slot}
use Rattle.journal_model.specs.rules.Choice.{choice}
use Rattle.journal_model.specs.rules.Stores.{is_there, within}
use Rattle.journal_model.specs.rules.PlainMemory.{Memory, OwedProbes}
use Rattle.laws.proofs.law_state.Rules.{Rules}
use Rattle.laws.proofs.law_owners.Counts.{one, stands}
use Rattle.laws.proofs.law_owners.Weights.{weight, vram_pages, frames, slots, in_buffers, in_ghosts, times-held}
use Rattle.laws.proofs.law_owners.Taken.{choice_is_clear, free_stands_none, lowest_is_free}
use Rattle.laws.proofs.law_owners.Law.{AreHeldOnce}
use Rattle.laws.specs.lemma_bytes_model.Memory.{Page, Nowhere, Vram, Frame, Slot}
use Rattle.laws.specs.lemma_bytes_model.View.{Owner, Idle}
use Rattle.laws.specs.law_holders.Holding.{Holds}
use Rattle.laws.proofs.law_holders.Positions.{times_at}
use Rattle.laws.proofs.law_holders.HeldOnce.{room_of, number_of, Spot, at_buffer, at_ghost, spot_of, spot_weight, hold_weighs, of_one, of_ghost_one}
use Rattle.laws.proofs.law_holders.Owner.{owner_of, owner_none}
use Rattle.laws.proofs.lemma_bytes_view.World.{bare}
use Rattle.laws.proofs.lemma_bytes_view.PacketStep.{within_same, within_cut}
use Rattle.laws.proofs.lemma_bytes_view.Viewed.{Viewed}

-- ---- what weighs nothing is held by nobody

module _ (script : Script) (c : Core) (held : AreHeldOnce script c) (x : Page) (none : weight (room_of x) (number_of x) c ≡ 0) where
  light : in_buffers (room_of x) (number_of x) c.buffers + in_ghosts (room_of x) (number_of x) c.ghosts ≡ 0
  light = none

  no_spot : (q : Spot) → 1 ≤ spot_weight c x q → ⊥
  no_spot (at_buffer b) h = let a = of_one script c held x b in let l = light in omega (arith, h, a, l)
  no_spot (at_ghost i) h = let a = of_ghost_one script c held x i in let l = light in omega (arith, h, a, l)

  pub none_holds : (x ≡ Nowhere → ⊥) → (o : Owner) → Holds c x o → ⊥
  none_holds ne o h = no_spot (spot_of c x o h) (hold_weighs c x o h ne)

module _ (script : Script) (c : Core) (held : AreHeldOnce script c) where
  pub frame_idle : (f : ℕ) → free_frame script c ≡ Some f → owner_of (bare c) (Frame f) ≡ Idle
  frame_idle f e =
      let r = lowest_is_free (held_frames c) script.sizes.frames f e in
      owner_none (bare c) (Frame f) (λ q. cc) (none_holds script (bare c) held (Frame f) (sym (times-held frames f c) ∙ r.0) (λ q. cc))

  pub frame_there : (f : ℕ) → free_frame script c ≡ Some f → is_there script.sizes (pages.frame f) ≡ true
  frame_there f e = lt-ltb f script.sizes.frames (lowest_is_free (held_frames c) script.sizes.frames f e).1

  pub slot_idle : (k : ℕ) → free_slot script c ≡ Some k → owner_of (bare c) (Slot k) ≡ Idle
  slot_idle k e =
      let r = lowest_is_free (held_slots c) script.sizes.swap k e in
      owner_none (bare c) (Slot k) (λ q. cc) (none_holds script (bare c) held (Slot k) (sym (times-held slots k c) ∙ r.0) (λ q. cc))

  pub slot_there : (k : ℕ) → free_slot script c ≡ Some k → is_there script.sizes (pages.slot k) ≡ true
  slot_there k e = lt-ltb k script.sizes.swap (lowest_is_free (held_slots c) script.sizes.swap k e).1

  -- a choice in VRAM
  pub choice_free : Rules script → (b : BufId) (place : Place) (spans : List Span) → place.mem ≡ mem.Vram → choice script c b place ≡ Some spans →
      (k n : ℕ) → slice_get (pages_of spans) k ≡ Some n → (o : Owner) → Holds (bare c) (Vram n) o → ⊥
  choice_free r b place spans m e k n at =
      let clear = choice_is_clear script r c b place spans e n in
      let some = times_at n (pages_of spans) k at in
      let free = both (nat_lt n (size_of script place.mem)) (is_free_page place.mem c n) (stands n spans) some clear in
      let free' : is_free_page mem.Vram c n ≡ true = subst (λ l. is_free_page l c n ≡ true) m free in
      none_holds script (bare c) held (Vram n) (sym (times-held vram_pages n c) ∙ free_stands_none mem.Vram c n free') (λ q. cc)
    where
      both : (p q : Bool) (w : ℕ) → 1 ≤ w → w ≤ one (p && q) → q ≡ true
      both true true w a b = refl
      both true false w a b = absurd (omega (arith, a, b))
      both false q w a b = absurd (omega (arith, a, b))

-- ---- bytes where there are pages

pub viewed_within : (script : Script) (c : Core) (owed_probes : OwedProbes) (m : Memory) (bytes : pages.PageBytes) → Viewed script c owed_probes m bytes → Viewed script c owed_probes m (within script.sizes bytes)
viewed_within script c owed_probes m bytes u =
    let s = u.seen in
    record {
      view = u.view;
      good = u.good;
      seen = record {
        count = s.count;
        left = s.left;
        begun = s.begun;
        done = s.done;
        prior = s.prior;
        strong = s.strong;
        shared = s.shared;
        ghost = s.ghost;
        mover = s.mover;
        place = s.place;
        owner = s.owner;
        there = s.there;
        stores = λ p o. s.stores p o ∙ within_same script.sizes u.view.stores bytes s.stores s.cut p o;
        cut = within_cut script.sizes bytes;
        plain = s.plain;
      };
    }
