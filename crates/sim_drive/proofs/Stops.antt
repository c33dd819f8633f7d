-- The turns of a run, and where it stops: a turn tells that all is over, or no actor has an entry.
use Rattle.std.proofs.Common.{◌≡◌, ℕ, zero, suc, ◌+◌, ◌<◌, ◌≤◌, Bool, true, false, List, [], ◌∷◌, Option, Some, None, IsTrue, length, get_or, refl, sym, ◌∙◌, ap, subst, arith, inl}
use Rattle.std.specs.Prelude.{is_some, slice_get}
use Rattle.std.proofs.lemmas.Option.{slice_get-get_or}
use Rattle.ttm_base.specs.declared.Actor.{Actor}
use Rattle.ttm_base.specs.declared.Turn.{Turn}
use Rattle.ttm_base.specs.declared.Turn.TheVariants as turn
use Rattle.journal_model.specs.declared.script.Script.{Script}
use Rattle.journal_model.specs.scripts.ScriptRules.{is_script}
use Rattle.journal_model.specs.statements.Complete.{is_complete}
use Rattle.journal_model.specs.statements.Scheduled.{scheduled, scheduled_actors}
use Rattle.laws.proofs.law_sound.Bufs.{found_passes}
use Rattle.laws.proofs.law_sound.Orders.{order_law, until_the_end}
use Rattle.laws.proofs.law_state.Counted.{over_law}
use Rattle.laws.proofs.law_state.Turns.{scheduled_legal}
use Rattle.device_core.specs.Kept.{Kept, after_found, after_turn, answer_of, entry_of, goes_on, next_actor, order_of, turn_of}
use Rattle.sim_drive.specs.Ends.{EndsAfter, NotBefore}
use Rattle.sim_drive.proofs.Earlier.{not_before_more}
use Rattle.sim_drive.proofs.TurnLaws.{at, behind_schedule, in_schedule}

-- ---- in the schedule

module _ (k : Kept) (who : Actor) (t : Turn) (told : t ≡ turn_of k who) where
  -- a turn tells that all is over where it is
  pub told_not_over : (t ≡ turn.Over → ⊥) → is_complete k.script k.journal ≡ false
  told_not_over is = by (is_complete k.script k.journal) told
    where
      by : (b : Bool) → t ≡ elim b [ true ↦ turn.Over | false ↦ answer_of k (entry_of k who) ] → b ≡ false
      by true h = absurd (is h)
      by false h = refl

-- the device after a turn that doesn't tell so
pub scheduled_turn : (script : Script) (n i : ℕ) (items : List Actor) (d : Actor) (k new : Kept) (t : Turn)
    → k ≡ record { script = script; journal = scheduled script n } → NotBefore script n
    → items ≡ scheduled_actors script → n ≡ i → i < length items
    → t ≡ turn_of k (get_or items i d) → (t ≡ turn.Over → ⊥) → new ≡ after_turn k (get_or items i d)
    → (new ≡ record { script = script; journal = scheduled script (n + 1) }) × NotBefore script (n + 1)
scheduled_turn script n i items d k new t stands before all same within told goes made =
    let who = get_or items i d in
    let turn_is : slice_get (scheduled_actors script) n ≡ Some who =
    subst (λ (xs : List Actor). slice_get xs n ≡ Some who) all (ap (slice_get items) same ∙ slice_get-get_or items i d within) in
    let here = told_not_over (at script n) who t (told ∙ ap (λ (k : Kept). turn_of k who) stands) goes in
    (made ∙ (ap (λ (k : Kept). after_turn k who) stands ∙ in_schedule script n who turn_is here), not_before_more script n before here)

-- ---- after it

-- the schedule has no turn from its length on
pub past : {X : Type 0} (xs : List X) (i : ℕ) → length xs ≤ i → slice_get xs i ≡ None
past [] i h = refl
past (x ∷ xs) zero h = absurd (omega arith)
past (x ∷ xs) (suc i) h = past xs i (omega arith)

module _ (script : Script) (n : ℕ) (fits : IsTrue (is_script script)) where
  -- where no actor has an entry, all is over
  pub nobody_left : next_actor (at script n) ≡ None → is_complete script (scheduled script n) ≡ true
  nobody_left none = by (is_complete script (scheduled script n)) refl
    where
      by : (b : Bool) → is_complete script (scheduled script n) ≡ b → is_complete script (scheduled script n) ≡ true
      by true e = e
      by false e =
          let legal = scheduled_legal script n in
          let f = order_law script (scheduled script n) fits legal (over_law script (scheduled script n) legal ∙ e) in
          absurd (let it : Some f.who ≡ None = sym f.found ∙ none in cc)

  -- where one has, it isn't
  pub somebody_left : (who : Actor) → next_actor (at script n) ≡ Some who → is_complete script (scheduled script n) ≡ false
  somebody_left who found =
      (until_the_end script (scheduled script n) fits (scheduled_legal script n)).1 (who, found_passes (goes_on (at script n)) (order_of (at script n)) who found)

  module _ (k : Kept) (stands : k ≡ record { script = script; journal = scheduled script n }) (before : NotBefore script n) where
    -- the device after a turn of the actor that is found
    pub free_turn : (new : Kept) (found : Option Actor) → length (scheduled_actors script) ≤ n → found ≡ next_actor k → is_some found ≡ true → new ≡ after_found k (next_actor k)
        → (new ≡ record { script = script; journal = scheduled script (n + 1) }) × NotBefore script (n + 1)
    free_turn new None behind told some made = cc
    free_turn new (Some who) behind told some made =
        let here = somebody_left who (sym (told ∙ ap next_actor stands)) in (
          made ∙ (ap (λ (k : Kept). after_found k (next_actor k)) stands ∙ behind_schedule script n (next_actor (at script n)) refl (past (scheduled_actors script) n behind)),
          not_before_more script n before here,
        )

    -- a run ends where none is found
    pub run_ends : (allowed : ℕ) (found : Option Actor) → n ≤ allowed → found ≡ next_actor k → is_some found ≡ false → EndsAfter script allowed n
    run_ends allowed None few told none = record { not_before = before; within = few; ends = inl (nobody_left (sym (told ∙ ap next_actor stands))) }
    run_ends allowed (Some who) few told none = cc
