-- The pages that a manager has free are those that nobody holds in the state.
use Rattle.std.proofs.Common.{◌≡◌, ℕ, zero, suc, ◌+◌, Bool, true, false, List, [], ◌∷◌, Option, Some, None, refl, sym, ◌∙◌, ap, ◌⊎◌, inl, inr}
use Rattle.std.specs.Prelude.{◌||◌, ◌==◌, not, find, map, filter_map, flat_map, option_map, option_and_then, is_some, slice_get, unwrap_or, if◌then◌else◌}
use Rattle.std.specs.List.{list_any, enumerate_from}
use Rattle.std.proofs.Math.Path.{fun_ext}
use Rattle.std.proofs.lemmas.Bool.{both_ways}
use Rattle.std.proofs.lemmas.List.Folds.{list_any-append}
use Rattle.ttm_base.specs.Holes.{has_page}
use Rattle.ttm_base.specs.declared.Mem.{Mem}
use Rattle.ttm_base.specs.declared.Span.{Span}
use Rattle.ttm_base.specs.declared.BufId.{BufId}
use Rattle.ttm_base.specs.declared.Owner.{Owner}
use Rattle.ttm_base.specs.declared.Owner.TheVariants as owner
use Rattle.resource_core.specs.Resources.{Resources, same_owner, holds, all_spans, is_free, kept_by, some_spans, AreDistinct}
use Rattle.resource_core.specs.declared.holding.Holding.{Holding}
use Rattle.resource_core.proofs.OwnerLaws.{owner_is, same_self}
use Rattle.resource_core.proofs.OwnedLaws.{kept_some}
use Rattle.journal_model.specs.declared.state.Core.{Core}
use Rattle.journal_model.specs.declared.state.Buffer.{Buffer}
use Rattle.journal_model.specs.declared.state.Ghost.{Ghost}
use Rattle.journal_model.specs.rules.State.{live_in, target_spans}
use Rattle.journal_model.specs.rules.Holds as state
use Rattle.journal_model.specs.rules.Holds.{Hold, held_spans, is_free_page, live_entry, live_buffers, buffer_holds, ghost_hold, spans_in, ghost_spans}
use Rattle.room_representation.specs.lemma_spans.Owned.{owned, FirstOfNumber, HoldsAsOwned}

-- ---- some of a list

-- some span has the page
abbrev has : ℕ → List Span → Bool
has page ss = list_any (has_page page) ss

either : (a b : Bool) → (a || b) ≡ true → (a ≡ true) ⊎ (b ≡ true)
either true b h = inl refl
either false b h = inr h

left_of : (a b : Bool) → a ≡ true → (a || b) ≡ true
left_of true b h = refl
left_of false b h = cc

right_of : (a b : Bool) → b ≡ true → (a || b) ≡ true
right_of true b h = refl
right_of false b h = h

any_flat : {X Y : Type 0} (p : Y → Bool) (f : X → List Y) (xs : List X) → list_any p (flat_map f xs) ≡ list_any (λ x. list_any p (f x)) xs
any_flat p f [] = refl
any_flat p f (x ∷ xs) = list_any-append p (f x) (flat_map f xs) ∙ ap (λ b. list_any p (f x) || b) (any_flat p f xs)

any_map : {X Y : Type 0} (p : Y → Bool) (f : X → Y) (xs : List X) → list_any p (map f xs) ≡ list_any (λ x. p (f x)) xs
any_map p f [] = refl
any_map p f (x ∷ xs) = ap (λ b. p (f x) || b) (any_map p f xs)

record Found {X : Type 0} (p : X → Bool) (xs : List X) : Type 0 where
  at : ℕ
  item : X
  here : slice_get xs at ≡ Some item
  passes : p item ≡ true

some_found : {X : Type 0} (p : X → Bool) (xs : List X) → list_any p xs ≡ true → Found p xs
some_found p [] h = cc
some_found p (x ∷ xs) h = by (some_found p xs) (either (p x) (list_any p xs) h)
  where
    by : (list_any p xs ≡ true → Found p xs) → (p x ≡ true) ⊎ (list_any p xs ≡ true) → Found p (x ∷ xs)
    by f (inl e) = record { at = zero; item = x; here = refl; passes = e }
    by f (inr e) = let r = f e in record { at = suc r.at; item = r.item; here = r.here; passes = r.passes }

found_some : {X : Type 0} (p : X → Bool) (xs : List X) (i : ℕ) (x : X) → slice_get xs i ≡ Some x → p x ≡ true → list_any p xs ≡ true
found_some p [] i x h e = cc
found_some p (y ∷ xs) zero x h e = let same : y ≡ x = cc in left_of (p y) (list_any p xs) (ap p same ∙ e)
found_some p (y ∷ xs) (suc i) x h e = right_of (p y) (list_any p xs) (found_some p xs i x h e)

find_some : {X : Type 0} (q p : X → Bool) (xs : List X) (x : X) → find q xs ≡ Some x → p x ≡ true → list_any p xs ≡ true
find_some q p [] x h e = cc
find_some q p (y ∷ xs) x h e = by (λ f. find_some q p xs x f e) (q y) h
  where
    by : (find q xs ≡ Some x → list_any p xs ≡ true) → (b : Bool) → (if b then Some y else find q xs) ≡ Some x → (p y || list_any p xs) ≡ true
    by ih true h = (let same : y ≡ x = cc in left_of (p y) (list_any p xs) (ap p same ∙ e))
    by ih false h = right_of (p y) (list_any p xs) (ih h)

-- ---- the manager

-- an owner keeps a span with the page
record Kept (page : ℕ) (held : List Holding) : Type 0 where
  who : Owner
  spans : List Span
  kept : kept_by who held ≡ Some spans
  here : has page spans ≡ true

some_kept : (page : ℕ) (held : List Holding) → AreDistinct held → has page (all_spans held) ≡ true → Kept page held
some_kept page [] d h = cc
some_kept page (g ∷ held) d h = by (some_kept page held d.1) (either (has page g.spans) (has page (all_spans held)) (sym (list_any-append (has_page page) g.spans (all_spans held)) ∙ h))
  where
    own : kept_by g.owner (g ∷ held) ≡ Some g.spans
    own = ap (λ q. if q then Some g.spans else kept_by g.owner held) (same_self g.owner)

    other : (k : Kept page held) → (b : Bool) → same_owner k.who g.owner ≡ b → (if b then Some g.spans else kept_by k.who held) ≡ Some k.spans
    other k true p =
        absurd (both_ways (holds k.who held) (ap (λ o. holds o held) (owner_is k.who g.owner p) ∙ d.0) (kept_some k.who held ∙ ap is_some k.kept))
    other k false p = k.kept

    by : (has page (all_spans held) ≡ true → Kept page held) → (has page g.spans ≡ true) ⊎ (has page (all_spans held) ≡ true) → Kept page (g ∷ held)
    by f (inl e) = record { who = g.owner; spans = g.spans; kept = own; here = e }
    by f (inr e) = let k = f e in record { who = k.who; spans = k.spans; kept = other k (same_owner k.who g.owner) refl; here = k.here }

kept_has : (page : ℕ) (o : Owner) (ss : List Span) (held : List Holding) → kept_by o held ≡ Some ss → has page ss ≡ true → has page (all_spans held) ≡ true
kept_has page o ss [] e h = cc
kept_has page o ss (g ∷ held) e h = list_any-append (has_page page) g.spans (all_spans held) ∙ by (λ f. kept_has page o ss held f h) (same_owner o g.owner) e
  where
    by : (kept_by o held ≡ Some ss → has page (all_spans held) ≡ true) → (b : Bool) → (if b then Some g.spans else kept_by o held) ≡ Some ss → (has page g.spans || has page (all_spans held)) ≡ true
    by ih true q = (let e : g.spans ≡ ss = cc in left_of (has page g.spans) (has page (all_spans held)) (ap (has page) e ∙ h))
    by ih false q = right_of (has page g.spans) (has page (all_spans held)) (ih q)

-- ---- the state

abbrev if_live : (Buffer → Bool) → Option Buffer → Bool
if_live q None = false
if_live q (Some x) = q x

any_live : (q : Buffer → Bool) (n : ℕ) (bs : List (Option Buffer)) → list_any (λ (e : BufId × Buffer). q e.1) (filter_map live_entry (enumerate_from n bs)) ≡ list_any (if_live q) bs
any_live q n [] = refl
any_live q n (None ∷ bs) = any_live q (n + 1) bs
any_live q n (Some x ∷ bs) = ap (λ b. q x || b) (any_live q (n + 1) bs)

spans_are : (ss ts : List Span) → some_spans ss ≡ Some ts → ss ≡ ts
spans_are [] ts h = cc
spans_are (s ∷ ss) ts h = cc

some_are : (page : ℕ) (ss : List Span) → has page ss ≡ true → some_spans ss ≡ Some ss
some_are page [] h = cc
some_are page (s ∷ ss) h = refl

live_place : (bs : List (Option Buffer)) (b : BufId) (x : Buffer) → live_in bs b ≡ Some x → slice_get bs b.0 ≡ Some (Some x)
live_place bs b x h = by (slice_get bs b.0) h
  where
    by : (o : Option (Option Buffer)) → option_and_then (λ (y : Option Buffer). y) o ≡ Some x → o ≡ Some (Some x)
    by None h = cc
    by (Some o) h = ap Some h

module _ (mem : Mem) (c : Core) (page : ℕ) where
  abbrev of_buffer : Buffer → Bool
  of_buffer x = has page (spans_in mem x) || (has page (target_spans mem x) || false)

  abbrev of_ghost : Ghost → Bool
  of_ghost g = has page (ghost_spans mem g)

  held_any : has page (held_spans mem c) ≡ (list_any (if_live of_buffer) c.buffers || list_any of_ghost c.ghosts)
  held_any =
      any_flat (has_page page) (λ (h : Hold). h.spans) (state.holds mem c)
      ∙ list_any-append (λ (h : Hold). has page h.spans) (flat_map (buffer_holds mem) (live_buffers c)) (map (ghost_hold mem) c.ghosts)
      ∙ ap (λ b. b || list_any (λ (h : Hold). has page h.spans) (map (ghost_hold mem) c.ghosts)) (any_flat (λ (h : Hold). has page h.spans) (buffer_holds mem) (live_buffers c) ∙ any_live of_buffer 0 c.buffers)
      ∙ ap (λ b. list_any (if_live of_buffer) c.buffers || b) (any_map (λ (h : Hold). has page h.spans) (ghost_hold mem) c.ghosts)

  -- what an owner holds is held
  owned_held : (o : Owner) → has page (owned mem c.buffers c.ghosts o) ≡ true → has page (held_spans mem c) ≡ true
  owned_held (owner.Live b) h = held_any ∙ left_of (list_any (if_live of_buffer) c.buffers) (list_any of_ghost c.ghosts) (by (live_in c.buffers b) refl h)
    where
      by : (o : Option Buffer) → live_in c.buffers b ≡ o → has page (unwrap_or (option_map (spans_in mem) o) []) ≡ true → list_any (if_live of_buffer) c.buffers ≡ true
      by None e h = cc
      by (Some x) e h = found_some (if_live of_buffer) c.buffers b.0 (Some x) (live_place c.buffers b x e) (left_of (has page (spans_in mem x)) (has page (target_spans mem x) || false) h)
  owned_held (owner.Target b) h = held_any ∙ left_of (list_any (if_live of_buffer) c.buffers) (list_any of_ghost c.ghosts) (by (live_in c.buffers b) refl h)
    where
      by : (o : Option Buffer) → live_in c.buffers b ≡ o → has page (unwrap_or (option_map (target_spans mem) o) []) ≡ true → list_any (if_live of_buffer) c.buffers ≡ true
      by None e h = cc
      by (Some x) e h =
          found_some (if_live of_buffer) c.buffers b.0 (Some x) (live_place c.buffers b x e)
          (right_of (has page (spans_in mem x)) (has page (target_spans mem x) || false) (left_of (has page (target_spans mem x)) false h))
  owned_held (owner.Ghost n) h = held_any ∙ right_of (list_any (if_live of_buffer) c.buffers) (list_any of_ghost c.ghosts) (by (find (λ g. g.num == n) c.ghosts) refl h)
    where
      by : (o : Option Ghost) → find (λ g. g.num == n) c.ghosts ≡ o → has page (unwrap_or (option_map (ghost_spans mem) o) []) ≡ true → list_any of_ghost c.ghosts ≡ true
      by None e h = cc
      by (Some g) e h = find_some (λ g. g.num == n) of_ghost c.ghosts g e h

  -- an owner with a span that has the page
  record OfOne : Type 0 where
    who : Owner
    here : has page (owned mem c.buffers c.ghosts who) ≡ true

  held_owned : FirstOfNumber c.ghosts → has page (held_spans mem c) ≡ true → OfOne
  held_owned once h = by (either (list_any (if_live of_buffer) c.buffers) (list_any of_ghost c.ghosts) (sym held_any ∙ h))
    where
      no_more : (a : Bool) → (a || false) ≡ true → a ≡ true
      no_more true q = refl
      no_more false q = q

      of_live : (i : ℕ) (x : Buffer) → slice_get c.buffers i ≡ Some (Some x) → (has page (spans_in mem x) ≡ true) ⊎ ((has page (target_spans mem x) || false) ≡ true) → OfOne
      of_live i x at (inl f) =
          record { who = owner.Live (record { 0 = i }); here = ap (λ o. has page (unwrap_or (option_map (spans_in mem) (option_and_then (λ (y : Option Buffer). y) o)) [])) at ∙ f }
      of_live i x at (inr f) =
          record {
            who = owner.Target (record { 0 = i });
            here = ap (λ o. has page (unwrap_or (option_map (target_spans mem) (option_and_then (λ (y : Option Buffer). y) o)) [])) at ∙ no_more (has page (target_spans mem x)) f;
          }

      of_some : (i : ℕ) (o : Option Buffer) → slice_get c.buffers i ≡ Some o → if_live of_buffer o ≡ true → OfOne
      of_some i None at e = cc
      of_some i (Some x) at e = of_live i x at (either (has page (spans_in mem x)) (has page (target_spans mem x) || false) e)

      by : (list_any (if_live of_buffer) c.buffers ≡ true) ⊎ (list_any of_ghost c.ghosts ≡ true) → OfOne
      by (inl e) = let r = some_found (if_live of_buffer) c.buffers e in of_some r.at r.item r.here r.passes
      by (inr e) =
          let r = some_found of_ghost c.ghosts e in
          record { who = owner.Ghost r.item.num; here = ap (λ o. has page (unwrap_or (option_map (ghost_spans mem) o) [])) (once r.at r.item r.here) ∙ r.passes }

  same_bool : (a b : Bool) → (a ≡ true → b ≡ true) → (b ≡ true → a ≡ true) → a ≡ b
  same_bool true b f g = sym (f refl)
  same_bool false true f g = g refl
  same_bool false false f g = refl

  -- a page is free in the manager where nobody holds it in the state
  pub page_free : (size : ℕ) (r : Resources) → HoldsAsOwned size mem c.buffers c.ghosts r → FirstOfNumber c.ghosts → is_free r.held page ≡ is_free_page mem c page
  page_free size r representation once =
      ap not (same_bool (has page (all_spans r.held)) (has page (held_spans mem c))
      (λ e. (let k = some_kept page r.held representation.owners e in owned_held k.who (ap (has page) (spans_are (owned mem c.buffers c.ghosts k.who) k.spans (sym (representation.each k.who) ∙ k.kept)) ∙ k.here)))
      (λ e. (let o = held_owned once e in
      kept_has page o.who (owned mem c.buffers c.ghosts o.who) r.held (representation.each o.who ∙ some_are page (owned mem c.buffers c.ghosts o.who) o.here) o.here)))

-- the manager's free pages are those that nobody holds in the state
pub free_same : (mem : Mem) (c : Core) (size : ℕ) (r : Resources) → HoldsAsOwned size mem c.buffers c.ghosts r → FirstOfNumber c.ghosts → is_free r.held ≡ is_free_page mem c
free_same mem c size r representation once = fun_ext (λ page. page_free mem c page size r representation once)
