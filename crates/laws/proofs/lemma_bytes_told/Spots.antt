-- The first page of a table that passes a test: the page to fill, and the one to swap out.
use Rattle.std.proofs.Common.{◌≡◌, ℕ, ◌+◌, ◌<◌, suc, Bool, true, false, cond, List, [], ◌∷◌, length, Some, None, refl, sym, subst, ◌∙◌, ap, arith}
use Rattle.std.specs.Prelude.{slice_get, unwrap_or, not, ◌&&◌, ◌||◌, position}
use Rattle.std.specs.List.{list_any, list_all, position_or_len}
use Rattle.std.proofs.lemmas.Bool.{lt-ltb}
use Rattle.ttm_base.specs.declared.Loc.{Loc}
use Rattle.ttm_base.specs.declared.Loc.TheVariants as loc
use Rattle.journal_model.specs.declared.state.Buffer.{Buffer}
use Rattle.journal_model.specs.rules.Places.{is_frame, loc_of}
use Rattle.journal_model.specs.rules.Dry.{has_frame}
use Rattle.journal_model.specs.rules.Ready.{has_all_frames}
use Rattle.journal_model.specs.rules.PageSteps.{page_to_fill, first_frame_page}

-- an element that passes, at its place
pub record Passes {X : Type 0} (p : X → Bool) (xs : List X) (i : ℕ) : Type 0 where
  pub item : X
  pub at : slice_get xs i ≡ Some item
  pub inside : i < length xs
  pub so : p item ≡ true

first_at : {X : Type 0} (p : X → Bool) (xs : List X) → list_any p xs ≡ true → Passes p xs (position_or_len p xs)
first_at p [] h = cc
first_at p (y ∷ ys) h = by (p y) refl h (first_at p ys)
  where
    further : (n : ℕ) → Passes p ys n → Passes p (y ∷ ys) (1 + n)
    further n r = let l = r.inside in subst (Passes p (y ∷ ys)) (let z : suc n ≡ 1 + n = omega arith in z) (record { item = r.item; at = r.at; inside = omega (arith, l); so = r.so })

    by : (q : Bool) → p y ≡ q → (q || list_any p ys) ≡ true → (list_any p ys ≡ true → Passes p ys (position_or_len p ys)) → Passes p (y ∷ ys) (cond (not q) (1 + position_or_len p ys) 0)
    by true e g rest = record { item = y; at = refl; inside = omega arith; so = e }
    by false e g rest = further (position_or_len p ys) (rest g)

pub spot_at : {X : Type 0} (p : X → Bool) (xs : List X) → list_any p xs ≡ true → Passes p xs (unwrap_or (position p xs) 0)
spot_at p xs h =
    let r = first_at p xs h in
    subst (λ q. Passes p xs (unwrap_or (cond q (Some (position_or_len p xs)) None) 0)) (sym (lt-ltb (position_or_len p xs) (length xs) r.inside)) r

some_not : (table : List Loc) → list_all is_frame table ≡ false → list_any (λ l. not (is_frame l)) table ≡ true
some_not [] h = cc
some_not (l ∷ table) h = by (is_frame l) h (some_not table)
  where
    by : (q : Bool) → (q && list_all is_frame table) ≡ false → (list_all is_frame table ≡ false → list_any (λ l. not (is_frame l)) table ≡ true) → (not q || list_any (λ l. not (is_frame l)) table) ≡ true
    by true g rest = rest g
    by false g rest = refl

pub fill_spot : (x : Buffer) → has_all_frames x ≡ false → Passes (λ l. not (is_frame l)) x.table (page_to_fill x)
fill_spot x h = spot_at (λ l. not (is_frame l)) x.table (some_not x.table h)

pub frame_spot : (x : Buffer) → has_frame x ≡ true → Passes is_frame x.table (first_frame_page x)
frame_spot x h = spot_at is_frame x.table h

-- the page to fill has no frame yet
pub unfilled : (x : Buffer) (n : ℕ) → has_all_frames x ≡ false → loc_of x (page_to_fill x) ≡ loc.Frame n → ⊥
unfilled x n h e =
    let r = fill_spot x h in
    let l : r.item ≡ loc.Frame n = sym (ap (λ o. unwrap_or o loc.Zero) r.at) ∙ e in
    no r.item l r.so
  where
    no : (l : Loc) → l ≡ loc.Frame n → not (is_frame l) ≡ true → ⊥
    no l e s = let z : not (is_frame (loc.Frame n)) ≡ true = subst (λ l. not (is_frame l) ≡ true) e s in cc
