-- What one of the twelve lists has, by where each buffer belongs: taken off, placed, moved in bulk.
use Rattle.std.proofs.Common.{◌≡◌, ℕ, Bool, true, false, List, [], Option, Some, None, refl, sym, ◌∙◌, ap, subst, ⊎_elim}
use Rattle.std.specs.Prelude.{not, ◌||◌, ◌==◌, if◌then◌else◌}
use Rattle.std.proofs.lemmas.Bool.{ne_eqb, eq-eqb, or_left}
use Rattle.ttm_base.specs.declared.BufId.{BufId}
use Rattle.journal_model.specs.declared.script.Script.{Script}
use Rattle.journal_model.specs.declared.state.Buffer.{Buffer}
use Rattle.journal_model.specs.declared.state.Reservation.{Reservation}
use Rattle.journal_model.specs.rules.State.{same_buffer, has_buffer, without_buffer, live_in, reservation_in}
use Rattle.journal_model.specs.rules.Commands.{decl}
use Rattle.journal_model.specs.rules.Lists.{list_number, is_mate, placed_in, is_member, members_last}
use Rattle.laws.proofs.law_sound.Bufs.{same_self, same_or_other, other_is, has_without, without_gone, without_kept, clash}
use Rattle.laws.specs.law_lists.GoodLists.{stand_once}
use Rattle.laws.proofs.law_lists.Bunches.{bunched, bunched_filter, once_filter, any_placed, once_placed, bunched_placed, bulk_has, bulk_once, bulk_bunched}

-- the number of the list where a buffer belongs, if it belongs on one
abbrev pub list_of : Script → BufId → ℕ → Option Buffer → Option ℕ
list_of script b pins None = None
list_of script b pins (Some x) = if pins == 0 then Some (list_number x.mem (decl script b).prio) else None

-- by pins and places
abbrev pub list_in : Script → List Reservation → List (Option Buffer) → BufId → Option ℕ
list_in script reservations buffers b = list_of script b (reservation_in reservations b).pins (live_in buffers b)

-- the number is that of the list
abbrev pub is_number : ℕ → Option ℕ → Bool
is_number i None = false
is_number i (Some n) = n == i

-- the list of a number has what belongs there, each once, and groups side by side
pub record Stands (script : Script) (f : BufId → Option ℕ) (i : ℕ) (l : List BufId) : Type 0 where
  pub has : (d : BufId) → has_buffer l d ≡ is_number i (f d)
  pub once : stand_once l ≡ true
  pub groups : (g : ℕ) → bunched (is_member script g) l ≡ true

both_ways : (a b : Bool) → (a ≡ true → b ≡ true) → (b ≡ true → a ≡ true) → a ≡ b
both_ways true true f g = refl
both_ways true false f g = absurd (clash (sym (f refl)))
both_ways false true f g = absurd (clash (sym (g refl)))
both_ways false false f g = refl

without_same : (l : List BufId) (b d : BufId) → (d ≡ b → ⊥) → has_buffer (without_buffer l b) d ≡ has_buffer l d
without_same l b d n = both_ways (has_buffer (without_buffer l b) d) (has_buffer l d) (has_without l b d) (without_kept l b d n)

is_own : (n : ℕ) → is_number n (Some n) ≡ true
is_own n = eq-eqb n n refl

pub stands_same : (script : Script) (f g : BufId → Option ℕ) (i : ℕ) (l : List BufId) → ((d : BufId) → g d ≡ f d) → Stands script f i l → Stands script g i l
stands_same script f g i l same s = record { has = λ d. s.has d ∙ ap (is_number i) (sym (same d)); once = s.once; groups = s.groups }

pub nothing_stands : (script : Script) (f : BufId → Option ℕ) (i : ℕ) → ((d : BufId) → f d ≡ None) → Stands script f i []
nothing_stands script f i none = record { has = λ d. ap (is_number i) (sym (none d)); once = refl; groups = λ g. refl }

-- a buffer that now belongs elsewhere, or on no list
module _ (script : Script) (f g : BufId → Option ℕ) (b : BufId) (others : (d : BufId) → (d ≡ b → ⊥) → g d ≡ f d) (i : ℕ) (l : List BufId) (s : Stands script f i l) where
  pub stands_without : g b ≡ None → Stands script g i (without_buffer l b)
  stands_without none =
      record {
        has = λ d.
            ⊎_elim
            (λ e. subst (λ z. has_buffer (without_buffer l b) z ≡ is_number i (g z)) (sym e) (without_gone l b ∙ ap (is_number i) (sym none)))
            (λ n. without_same l b d n ∙ (s.has d ∙ ap (is_number i) (sym (others d n))))
            (same_or_other d b);
        once = once_filter (λ c. not (same_buffer b c)) l s.once;
        groups = λ k. bunched_filter (is_member script k) (λ c. not (same_buffer b c)) l (s.groups k);
      }

  pub stands_placed : f b ≡ None → g b ≡ Some i → Stands script g i (placed_in (is_mate script b) b l)
  stands_placed none here =
      record {
        has = λ d.
            any_placed (same_buffer d) (is_mate script b) b l
            ∙ ⊎_elim
            (λ e. subst (λ z. (same_buffer z b || has_buffer l z) ≡ is_number i (g z)) (sym e) (or_left (same_buffer b b) (has_buffer l b) (same_self b) ∙ sym (ap (is_number i) here ∙ is_own i)))
            (λ n. ap (λ q. q || has_buffer l d) (other_is d b n) ∙ (s.has d ∙ ap (is_number i) (sym (others d n))))
            (same_or_other d b);
        once = once_placed (is_mate script b) b l s.once (s.has b ∙ ap (is_number i) none);
        groups = λ k. bunched_placed script b l k (s.groups k);
      }

  pub stands_kept : (n : ℕ) → f b ≡ None → g b ≡ Some n → (i ≡ n → ⊥) → Stands script g i l
  stands_kept n none there apart =
      record {
        has = λ d.
            ⊎_elim
            (λ e. subst (λ z. has_buffer l z ≡ is_number i (g z)) (sym e) (s.has b ∙ (ap (is_number i) none ∙ sym (ap (is_number i) there ∙ ne_eqb n i (λ q. apart (sym q))))))
            (λ n. s.has d ∙ ap (is_number i) (sym (others d n)))
            (same_or_other d b);
        once = s.once;
        groups = s.groups;
      }

pub stands_bulk : (script : Script) (f : BufId → Option ℕ) (group i : ℕ) (l : List BufId) → Stands script f i l → Stands script f i (members_last (is_member script group) l)
stands_bulk script f group i l s =
    record { has = λ d. bulk_has script group l d ∙ s.has d; once = bulk_once script group l s.once; groups = λ g. bulk_bunched script group l g (s.groups g) }
