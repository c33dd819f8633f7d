-- Without a victim for swap, no buffer that is neither pinned nor held has a frame.
use Rattle.std.proofs.Common.{◌≡◌, ℕ, ◌<◌, ◌+◌, zero, suc, Bool, true, false, List, [], ◌∷◌, ◌++◌, Option, Some, None, refl, sym, ◌∙◌, ap, ap₂, subst, arith}
use Rattle.std.specs.Prelude.{slice_get, filter_map, flat_map, take, drop, not, is_none, unwrap_or, option_and_then, ◌==◌, ◌*◌, ◌&&◌, ◌||◌}
use Rattle.std.specs.List.{list_all, enumerate_from}
use Rattle.std.proofs.lemmas.Bool.{both_ways, and_parts, or_left, or_right, eqb-true, eq-eqb}
use Rattle.std.proofs.lemmas.List.Folds.{list_any-append}
use Rattle.ttm_base.specs.declared.Mem.{Mem}
use Rattle.ttm_base.specs.declared.Mem.TheVariants.{System, Tt, Vram}
use Rattle.ttm_base.specs.declared.BufId.{BufId}
use Rattle.ttm_base.specs.declared.Stamp.{Stamp}
use Rattle.ttm_base.specs.Reach.{mem_number}
use Rattle.journal_model.specs.declared.script.Script.{Script}
use Rattle.journal_model.specs.declared.state.State.{State}
use Rattle.journal_model.specs.declared.state.Buffer.{Buffer}
use Rattle.journal_model.specs.rules.State.{new_buffer, buffer, reservation, live_in, same_buffer, has_buffer, has_target}
use Rattle.journal_model.specs.rules.Commands.{decl}
use Rattle.journal_model.specs.rules.Lists.{list_number, in_order}
use Rattle.journal_model.specs.rules.Holds.{live_entry}
use Rattle.journal_model.specs.rules.Dry.{is_loose, has_frame, swap_victim}
use Rattle.journal_model.specs.rules.Ready.{has_some_target}
use Rattle.laws.proofs.law_state.Rules.{Rules}
use Rattle.laws.proofs.law_sound.Bufs.{none_found}
use Rattle.laws.proofs.law_lists.OneList.{list_of, is_number}
use Rattle.laws.proofs.law_lists.TwelveLists.{get_below, number_below}
use Rattle.laws.proofs.law_lists.Keeps.{AreListed}
use Rattle.laws.proofs.lemma_causes_trail.Framed.{Framed, AreFramed}
use Rattle.laws.proofs.law_causes.Reasons.{NoneGives}

-- ---- parts of lists

in_flat : (ls : List (List BufId)) (i : ℕ) (l : List BufId) (b : BufId) → slice_get ls i ≡ Some l → has_buffer l b ≡ true → has_buffer (flat_map (λ x. x) ls) b ≡ true
in_flat [] i l b h k = cc
in_flat (x ∷ ls) zero l b h k =
    let it : x ≡ l = cc in
    list_any-append (same_buffer b) x (flat_map (λ y. y) ls) ∙ or_left (has_buffer x b) (has_buffer (flat_map (λ y. y) ls) b) (subst (λ z. has_buffer z b ≡ true) (sym it) k)
in_flat (x ∷ ls) (suc i) l b h k = list_any-append (same_buffer b) x (flat_map (λ y. y) ls) ∙ or_right (has_buffer x b) (has_buffer (flat_map (λ y. y) ls) b) (in_flat ls i l b h k)

get_taken : {X : Type 0} (ls : List X) (n i : ℕ) → i < n → slice_get (take n ls) i ≡ slice_get ls i
get_taken ls zero i h = absurd (omega (arith, h))
get_taken [] (suc n) i h = refl
get_taken (x ∷ ls) (suc n) zero h = refl
get_taken (x ∷ ls) (suc n) (suc i) h = get_taken ls n i (omega (arith, h))

get_dropped : {X : Type 0} (ls : List X) (n i : ℕ) → slice_get (drop n ls) i ≡ slice_get ls (n + i)
get_dropped ls zero i = let e : i ≡ 0 + i = omega arith in ap (slice_get ls) e
get_dropped [] (suc n) i = refl
get_dropped (x ∷ ls) (suc n) i = let e : suc (n + i) ≡ suc n + i = omega arith in get_dropped ls n i ∙ ap (slice_get (x ∷ ls)) e

-- what stands on one of the four lists of a memory type is found in their order
in_its_order : (s : State) (mem : Mem) (prio : ℕ) (l : List BufId) (b : BufId) → prio < 4 → slice_get s.lists (4 * mem_number mem + prio) ≡ Some l → has_buffer l b ≡ true → has_buffer (in_order s mem) b ≡ true
in_its_order s mem prio l b low h k =
    in_flat (take 4 (drop (4 * mem_number mem) s.lists)) prio l b (get_taken (drop (4 * mem_number mem) s.lists) 4 prio low ∙ (get_dropped s.lists (4 * mem_number mem) prio ∙ h)) k

-- each live buffer passes
all_live : (p : BufId × Buffer → Bool) (xs : List (Option Buffer)) (n : ℕ) → ((i : ℕ) (x : Buffer) → slice_get xs i ≡ Some (Some x) → p (record { 0 = n + i }, x) ≡ true) → list_all p (filter_map live_entry (enumerate_from n xs)) ≡ true
all_live p [] n h = refl
all_live p (None ∷ xs) n h = all_live p xs (n + 1) (λ i x e. let same : n + 1 + i ≡ n + suc i = omega arith in subst (λ m. p (record { 0 = m }, x) ≡ true) (sym same) (h (suc i) x e))
all_live p (Some y ∷ xs) n h =
    let first : n + 0 ≡ n = omega arith in
    ap₂ (λ a b. a && b) (subst (λ m. p (record { 0 = m }, y) ≡ true) first (h 0 y refl))
    (all_live p xs (n + 1) (λ i x e. let same : n + 1 + i ≡ n + suc i = omega arith in subst (λ m. p (record { 0 = m }, x) ≡ true) (sym same) (h (suc i) x e)))

module _ (script : Script) (r : Rules script) (s : State) (lists : AreListed script s) (framed : AreFramed s.core.buffers) (targets : (b : BufId) → has_some_target (buffer s b) ≡ true → (reservation s b).holder ≡ None → ⊥) where
  prio_low : (b : BufId) → (decl script b).prio < 4
  prio_low b = let n = number_below script r b Vram in by (decl script b).prio n
    where
      by : (p : ℕ) → list_number Vram p < 12 → p < 4
      by p h = omega (arith, h)

  on_own : (b : BufId) (x : Buffer) → live_in s.core.buffers b ≡ Some x → (reservation s b).pins ≡ 0 → has_buffer (in_order s x.mem) b ≡ true
  on_own b x live loose =
      let many = lists.twelve in
      let low = number_below script r b x.mem in
      let l = get_below s.lists (list_number x.mem (decl script b).prio) (omega (arith, many, low)) in
      in_its_order s x.mem (decl script b).prio l.0 b (prio_low b) l.1
      ((lists.each (list_number x.mem (decl script b).prio) l.0 l.1).has b ∙ (ap (is_number (list_number x.mem (decl script b).prio)) (ap (list_of script b (reservation s b).pins) live) ∙ own (reservation s b).pins loose))
    where
      own : (pins : ℕ) → pins ≡ 0 → is_number (list_number x.mem (decl script b).prio) (list_of script b pins (Some x)) ≡ true
      own pins e = ap (λ p. is_number (list_number x.mem (decl script b).prio) (list_of script b p (Some x))) e ∙ eq-eqb (list_number x.mem (decl script b).prio) (list_number x.mem (decl script b).prio) refl

  no_holder : (o : Option Stamp) → is_none o ≡ true → o ≡ None
  no_holder None h = refl
  no_holder (Some st) h = cc

  module _ (none : swap_victim s ≡ None) where
    -- it would be found
    unfound : (b : BufId) (x : Buffer) → live_in s.core.buffers b ≡ Some x → has_frame x ≡ true → is_loose (reservation s b) ≡ true → has_buffer (in_order s System ++ in_order s Tt) b ≡ true → ⊥
    unfound b x live f l on =
        both_ways (is_loose (reservation s b) && has_frame (buffer s b)) (none_found (λ d. is_loose (reservation s d) && has_frame (buffer s d)) (in_order s System ++ in_order s Tt) b none on)
        (ap₂ (λ p q. p && q) l (ap (λ o. has_frame (unwrap_or o (new_buffer 0))) live ∙ f))

    gives_none : (b : BufId) (x : Buffer) → live_in s.core.buffers b ≡ Some x → has_frame x ≡ true → is_loose (reservation s b) ≡ true → ⊥
    gives_none b x live f l = by x.mem refl (on_own b x live (eqb-true (reservation s b).pins 0 parts.0))
      where
        parts : (((reservation s b).pins == 0) ≡ true) × (is_none (reservation s b).holder ≡ true)
        parts = and_parts ((reservation s b).pins == 0) (is_none (reservation s b).holder) l

        here : buffer s b ≡ x
        here = ap (λ o. unwrap_or o (new_buffer 0)) live

        in_vram : x.mem ≡ Vram → has_target Tt x ≡ true
        in_vram m = subst Framed live (framed b) m f

        by : (mem : Mem) → x.mem ≡ mem → has_buffer (in_order s x.mem) b ≡ true → ⊥
        by System m on = unfound b x live f l (list_any-append (same_buffer b) (in_order s System) (in_order s Tt) ∙ or_left (has_buffer (in_order s System) b) (has_buffer (in_order s Tt) b) (subst (λ z. has_buffer (in_order s z) b ≡ true) m on))
        by Tt m on = unfound b x live f l (list_any-append (same_buffer b) (in_order s System) (in_order s Tt) ∙ or_right (has_buffer (in_order s System) b) (has_buffer (in_order s Tt) b) (subst (λ z. has_buffer (in_order s z) b ≡ true) m on))
        by Vram m on =
            targets b
            (subst (λ z. has_some_target z ≡ true) (sym here) (or_left (has_target System x || has_target Tt x) (has_target Vram x) (or_right (has_target System x) (has_target Tt x) (in_vram m))))
            (no_holder (reservation s b).holder parts.1)

  pub none_gives : NoneGives s
  none_gives none =
      all_live (λ e. not (has_frame e.1) || not (is_loose (reservation s e.0))) s.core.buffers 0
      (λ i x e. by none (record { 0 = 0 + i }) x (let same : i ≡ 0 + i = omega arith in subst (λ n. live_in s.core.buffers (record { 0 = n }) ≡ Some x) same (live_of i x e)) (has_frame x) refl (is_loose (reservation s (record { 0 = 0 + i }))) refl)
    where
      live_of : (i : ℕ) (x : Buffer) → slice_get s.core.buffers i ≡ Some (Some x) → live_in s.core.buffers (record { 0 = i }) ≡ Some x
      live_of i x e = ap (λ o. option_and_then (λ y. y) o) e

      by : swap_victim s ≡ None → (b : BufId) (x : Buffer) → live_in s.core.buffers b ≡ Some x → (f : Bool) → has_frame x ≡ f → (l : Bool) → is_loose (reservation s b) ≡ l → (not f || not l) ≡ true
      by none b x live false f l g = refl
      by none b x live true f false g = refl
      by none b x live true f true g = absurd (gives_none none b x live f g)
