-- What owners hold in a state where one buffer is another, or where a ghost came or went.
use Rattle.std.proofs.Common.{◌≡◌, ℕ, zero, suc, Bool, true, false, List, [], ◌∷◌, ◌++◌, Option, Some, None, refl, sym, ◌∙◌, ap}
use Rattle.std.specs.Prelude.{◌==◌, not, nat_eq, find, filter, option_map, option_and_then, slice_get, slice_set, unwrap_or, if◌then◌else◌}
use Rattle.std.proofs.lemmas.Bool.{eqb-true, eqb-false, both_ways}
use Rattle.ttm_base.specs.declared.Mem.{Mem}
use Rattle.ttm_base.specs.declared.Span.{Span}
use Rattle.ttm_base.specs.declared.BufId.{BufId}
use Rattle.ttm_base.specs.declared.Owner.{Owner}
use Rattle.ttm_base.specs.declared.Owner.TheVariants as owner
use Rattle.resource_core.specs.Resources.{same_owner}
use Rattle.resource_core.proofs.OwnerLaws.{owner_is}
use Rattle.journal_model.specs.declared.state.Buffer.{Buffer}
use Rattle.journal_model.specs.declared.state.Ghost.{Ghost}
use Rattle.journal_model.specs.rules.State.{live_in, changed, target_spans}
use Rattle.journal_model.specs.rules.Holds.{spans_in, ghost_spans}
use Rattle.room_representation.specs.lemma_spans.Owned.{owned, with_owner}

-- ---- spans by owner

-- an owner that has what it had
pub same_again : (f : Owner → List Span) (o p : Owner) → with_owner f o (f o) p ≡ f p
same_again f o p = by (same_owner o p) refl
  where
    by : (q : Bool) → same_owner o p ≡ q → (if q then f o else f p) ≡ f p
    by true e = ap f (owner_is o p e)
    by false e = refl

-- ---- one place of a list

set_other : (bs : List (Option Buffer)) (i j : ℕ) (o : Option Buffer) → (i ≡ j → ⊥) → slice_get (slice_set bs i o) j ≡ slice_get bs j
set_other [] i j o h = refl
set_other (y ∷ bs) zero zero o h = absurd (h refl)
set_other (y ∷ bs) zero (suc j) o h = refl
set_other (y ∷ bs) (suc i) zero o h = refl
set_other (y ∷ bs) (suc i) (suc j) o h = set_other bs i j o (λ e. h (ap suc e))

-- the buffer in a place of the list
abbrev live_at : List (Option Buffer) → ℕ → Option Buffer
live_at bs i = option_and_then (λ x. x) (slice_get bs i)

changed_at : (f : Buffer → Buffer) (bs : List (Option Buffer)) (i : ℕ) → live_at (slice_set bs i (option_map f (live_at bs i))) i ≡ option_map f (live_at bs i)
changed_at f [] i = refl
changed_at f (o ∷ bs) zero = refl
changed_at f (o ∷ bs) (suc i) = changed_at f bs i

killed_at : (bs : List (Option Buffer)) (i : ℕ) → live_at (slice_set bs i None) i ≡ None
killed_at [] i = refl
killed_at (o ∷ bs) zero = refl
killed_at (o ∷ bs) (suc i) = killed_at bs i

-- ---- a buffer by its number

-- what is told of the spans of a buffer, none where it is dead
abbrev pub told : (Buffer → List Span) → List (Option Buffer) → BufId → List Span
told g bs b = unwrap_or (option_map g (live_in bs b)) []

-- of another buffer the same is told
pub told_other : (g : Buffer → List Span) (bs : List (Option Buffer)) (b d : BufId) (o : Option Buffer) → nat_eq b.0 d.0 ≡ false → told g (slice_set bs b.0 o) d ≡ told g bs d
told_other g bs b d o e = ap (λ y. unwrap_or (option_map g (option_and_then (λ x. x) y)) []) (set_other bs b.0 d.0 o (eqb-false b.0 d.0 e))

-- of a live buffer that was changed
pub told_changed : (g : Buffer → List Span) (f : Buffer → Buffer) (bs : List (Option Buffer)) (b : BufId) (x : Buffer) → live_in bs b ≡ Some x → told g (changed f bs b) b ≡ g (f x)
told_changed g f bs b x live = ap (λ o. unwrap_or (option_map g o) []) (changed_at f bs b.0) ∙ ap (λ o. unwrap_or (option_map g (option_map f o)) []) live

-- of one that was freed
pub told_killed : (g : Buffer → List Span) (bs : List (Option Buffer)) (b : BufId) → told g (slice_set bs b.0 None) b ≡ []
told_killed g bs b = ap (λ o. unwrap_or (option_map g o) []) (killed_at bs b.0)

-- of one that was made, and has no spans
pub told_made : (g : Buffer → List Span) (bs : List (Option Buffer)) (b : BufId) (x : Buffer) → g x ≡ [] → live_in bs b ≡ None → told g (slice_set bs b.0 (Some x)) b ≡ []
told_made g bs b x none dead = at bs b.0 dead
  where
    at : (bs : List (Option Buffer)) (i : ℕ) → live_at bs i ≡ None → unwrap_or (option_map g (live_at (slice_set bs i (Some x)) i)) [] ≡ []
    at [] i e = refl
    at (o ∷ bs) zero e = none
    at (o ∷ bs) (suc i) e = at bs i e

-- where a change keeps it, the same is told
pub told_kept : (g : Buffer → List Span) (f : Buffer → Buffer) (bs : List (Option Buffer)) (b : BufId) → ((x : Buffer) → live_in bs b ≡ Some x → g (f x) ≡ g x) → told g (changed f bs b) b ≡ told g bs b
told_kept g f bs b same = ap (λ o. unwrap_or (option_map g o) []) (changed_at f bs b.0) ∙ by (live_in bs b) refl
  where
    by : (o : Option Buffer) → live_in bs b ≡ o → unwrap_or (option_map g (option_map f o)) [] ≡ unwrap_or (option_map g o) []
    by None e = refl
    by (Some x) e = same x e

-- ---- what each owner holds, where one buffer is another

module _ (mine : Mem) (gs : List Ghost) (bs : List (Option Buffer)) (b : BufId) (o : Option Buffer) where
  abbrev after : List (Option Buffer)
  after = slice_set bs b.0 o

  -- the buffer and its target hold these spans, and the others what they held
  pub set_owned : (l t : List Span) → owned mine after gs (owner.Live b) ≡ l → owned mine after gs (owner.Target b) ≡ t → (p : Owner) →
      owned mine after gs p ≡ with_owner (with_owner (owned mine bs gs) (owner.Live b) l) (owner.Target b) t p
  set_owned l t is waits (owner.Live d) = by (nat_eq b.0 d.0) refl
    where
      by : (q : Bool) → nat_eq b.0 d.0 ≡ q → owned mine after gs (owner.Live d) ≡ (if q then l else owned mine bs gs (owner.Live d))
      by true e = ap (λ n. unwrap_or (option_map (spans_in mine) (live_at after n)) []) (sym (eqb-true b.0 d.0 e)) ∙ is
      by false e = told_other (spans_in mine) bs b d o e
  set_owned l t is waits (owner.Target d) = by (nat_eq b.0 d.0) refl
    where
      by : (q : Bool) → nat_eq b.0 d.0 ≡ q → owned mine after gs (owner.Target d) ≡ (if q then t else owned mine bs gs (owner.Target d))
      by true e = ap (λ n. unwrap_or (option_map (target_spans mine) (live_at after n)) []) (sym (eqb-true b.0 d.0 e)) ∙ waits
      by false e = told_other (target_spans mine) bs b d o e
  set_owned l t is waits (owner.Ghost n) = refl

  -- the buffer holds what it held
  pub target_owned : (t : List Span) → owned mine after gs (owner.Live b) ≡ owned mine bs gs (owner.Live b) → owned mine after gs (owner.Target b) ≡ t → (p : Owner) →
      owned mine after gs p ≡ with_owner (owned mine bs gs) (owner.Target b) t p
  target_owned t is waits p =
      set_owned (owned mine bs gs (owner.Live b)) t is waits p ∙ ap (λ ss. if same_owner (owner.Target b) p then t else ss) (same_again (owned mine bs gs) (owner.Live b) p)

  -- its target holds what it held
  pub live_owned : (l : List Span) → owned mine after gs (owner.Live b) ≡ l → owned mine after gs (owner.Target b) ≡ owned mine bs gs (owner.Target b) → (p : Owner) →
      owned mine after gs p ≡ with_owner (owned mine bs gs) (owner.Live b) l p
  live_owned l is waits p =
      set_owned l (owned mine bs gs (owner.Target b)) is waits p ∙ same_again (with_owner (owned mine bs gs) (owner.Live b) l) (owner.Target b) p

  -- both do
  pub same_owned : owned mine after gs (owner.Live b) ≡ owned mine bs gs (owner.Live b) → owned mine after gs (owner.Target b) ≡ owned mine bs gs (owner.Target b) → (p : Owner) →
      owned mine after gs p ≡ owned mine bs gs p
  same_owned is waits p = live_owned (owned mine bs gs (owner.Live b)) is waits p ∙ same_again (owned mine bs gs) (owner.Live b) p

-- ---- ghosts by their numbers

-- the last of a list with a ghost more
pushed_at : (gs : List Ghost) (g : Ghost) (m : ℕ) → (nat_eq g.num m ≡ true → find (λ h. h.num == m) gs ≡ None) → find (λ h. h.num == m) (gs ++ g ∷ []) ≡ (if g.num == m then Some g else find (λ h. h.num == m) gs)
pushed_at [] g m new = refl
pushed_at (h ∷ gs) g m new = by (nat_eq h.num m) refl (nat_eq g.num m) refl (pushed_at gs g m (λ k. behind (nat_eq h.num m) (new k)))
  where
    behind : (q : Bool) → (if q then Some h else find (λ (y : Ghost). y.num == m) gs) ≡ None → find (λ (y : Ghost). y.num == m) gs ≡ None
    behind true e = cc
    behind false e = e

    by : (q : Bool) → nat_eq h.num m ≡ q → (w : Bool) → nat_eq g.num m ≡ w → find (λ (y : Ghost). y.num == m) (gs ++ g ∷ []) ≡ (if g.num == m then Some g else find (λ (y : Ghost). y.num == m) gs) →
        (if q then Some h else find (λ (y : Ghost). y.num == m) (gs ++ g ∷ [])) ≡ (if w then Some g else (if q then Some h else find (λ (y : Ghost). y.num == m) gs))
    by true e true k rest = let z : Some h ≡ None = sym (ap (λ q. if q then Some h else find (λ (y : Ghost). y.num == m) gs) e) ∙ new k in cc
    by true e false k rest = refl
    by false e w k rest = rest ∙ ap (λ q. if q then Some g else find (λ (y : Ghost). y.num == m) gs) k

-- those of other numbers are found as before
filtered_at : (gs : List Ghost) (n m : ℕ) → find (λ h. h.num == m) (filter (λ h. not (h.num == n)) gs) ≡ (if n == m then None else find (λ h. h.num == m) gs)
filtered_at [] n m = by (nat_eq n m)
  where
    by : (q : Bool) → ◌≡◌ {A = Option Ghost} None (if q then None else None)
    by true = refl
    by false = refl
filtered_at (h ∷ gs) n m = by (nat_eq h.num n) refl (nat_eq h.num m) refl (nat_eq n m) refl (filtered_at gs n m)
  where
    rest : List Ghost
    rest = filter (λ (y : Ghost). not (y.num == n)) gs

    by : (q : Bool) → nat_eq h.num n ≡ q → (w : Bool) → nat_eq h.num m ≡ w → (z : Bool) → nat_eq n m ≡ z →
        find (λ (y : Ghost). y.num == m) rest ≡ (if n == m then None else find (λ (y : Ghost). y.num == m) gs) →
        find (λ (y : Ghost). y.num == m) (if not q then h ∷ rest else rest) ≡ (if z then None else (if w then Some h else find (λ (y : Ghost). y.num == m) gs))
    by true e true f true k i = i ∙ ap (λ q. if q then None else find (λ (y : Ghost). y.num == m) gs) k
    by true e true f false k i = absurd (both_ways (nat_eq n m) k (ap (λ y. nat_eq y m) (sym (eqb-true h.num n e)) ∙ f))
    by true e false f true k i = i ∙ ap (λ q. if q then None else find (λ (y : Ghost). y.num == m) gs) k
    by true e false f false k i = i ∙ ap (λ q. if q then None else find (λ (y : Ghost). y.num == m) gs) k
    by false e true f true k i = absurd (both_ways (nat_eq h.num n) e (ap (nat_eq h.num) (eqb-true n m k) ∙ f))
    by false e true f false k i = ap (λ q. if q then Some h else find (λ (y : Ghost). y.num == m) rest) f
    by false e false f true k i = ap (λ q. if q then Some h else find (λ (y : Ghost). y.num == m) rest) f ∙ i ∙ ap (λ q. if q then None else find (λ (y : Ghost). y.num == m) gs) k
    by false e false f false k i = ap (λ q. if q then Some h else find (λ (y : Ghost). y.num == m) rest) f ∙ i ∙ ap (λ q. if q then None else find (λ (y : Ghost). y.num == m) gs) k

module _ (mine : Mem) (bs : List (Option Buffer)) (gs : List Ghost) where
  -- a new ghost holds its spans, and the others what they held
  pub pushed_owned : (g : Ghost) → find (λ h. h.num == g.num) gs ≡ None → (p : Owner) → owned mine bs (gs ++ g ∷ []) p ≡ with_owner (owned mine bs gs) (owner.Ghost g.num) (ghost_spans mine g) p
  pushed_owned g new (owner.Live d) = refl
  pushed_owned g new (owner.Target d) = refl
  pushed_owned g new (owner.Ghost m) =
      ap (λ o. unwrap_or (option_map (ghost_spans mine) o) []) (pushed_at gs g m (λ k. ap (λ n. find (λ (h : Ghost). h.num == n) gs) (sym (eqb-true g.num m k)) ∙ new)) ∙ by (nat_eq g.num m)
    where
      by : (q : Bool) → unwrap_or (option_map (ghost_spans mine) (if q then Some g else find (λ h. h.num == m) gs)) [] ≡ (if q then ghost_spans mine g else owned mine bs gs (owner.Ghost m))
      by true = refl
      by false = refl

  -- a ghost that is gone holds nothing, and the others what they held
  pub filtered_owned : (n : ℕ) (p : Owner) → owned mine bs (filter (λ h. not (h.num == n)) gs) p ≡ with_owner (owned mine bs gs) (owner.Ghost n) [] p
  filtered_owned n (owner.Live d) = refl
  filtered_owned n (owner.Target d) = refl
  filtered_owned n (owner.Ghost m) = ap (λ o. unwrap_or (option_map (ghost_spans mine) o) []) (filtered_at gs n m) ∙ by (nat_eq n m)
    where
      by : (q : Bool) → unwrap_or (option_map (ghost_spans mine) (if q then None else find (λ h. h.num == m) gs)) [] ≡ (if q then [] else owned mine bs gs (owner.Ghost m))
      by true = refl
      by false = refl
