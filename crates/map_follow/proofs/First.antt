-- The areas of a script follow a journal without an entry.
use Rattle.std.proofs.Common.{◌≡◌, ℕ, zero, suc, Bool, true, false, cond, List, [], ◌∷◌, ◌++◌, Option, Some, None, ap, refl, sym, ◌∙◌, ◌⊎◌, inl, inr, length, if◌then◌else◌}
use Rattle.std.specs.Prelude.{◌==◌, ◌&&◌, ◌||◌, find, fold, option_and_then, option_map, replicate, slice_get, unwrap_or}
use Rattle.std.specs.List.{list_any}
use Rattle.std.proofs.lemmas.Bool.{eq-eqb, eqb-true}
use Rattle.ttm_base.specs.declared.BufId.{BufId}
use Rattle.ttm_base.specs.declared.PagePlace.{PagePlace}
use Rattle.ttm_base.specs.Pages.{Page}
use Rattle.journal_model.specs.declared.script.Script.{Script}
use Rattle.journal_model.specs.declared.script.Mark.{Mark}
use Rattle.journal_model.specs.declared.script.MarkKind.{MarkKind}
use Rattle.journal_model.specs.declared.script.MarkKind.TheVariants as mark
use Rattle.journal_model.specs.rules.Commands.{decl}
use Rattle.journal_model.specs.marks.Mapped.{Mapping, count_answers, has_ended, mapped_entry}
use Rattle.journal_model.specs.rules.State.{same_buffer}
use Rattle.cpu_maps.specs.declared.area.Area.{Area}
use Rattle.cpu_maps.specs.Areas.{areas_of, empty_area, entry_in, entry_of, is_of, with_area, with_mark}
use Rattle.law_legal.specs.law_maps.Following.{page_there}
use Rattle.laws.proofs.law_sound.Bufs.{same_is, same_self}
use Rattle.map_follow.specs.Follows.{Follows, maps_for, room_of, standing}

-- ---- lists

abbrev no_place : Option PagePlace
no_place = None

none_in : (n i : ℕ) → unwrap_or (slice_get (replicate n no_place) i) no_place ≡ no_place
none_in zero i = refl
none_in (suc n) zero = refl
none_in (suc n) (suc i) = none_in n i

length-replicated : {X : Type 0} (n : ℕ) (x : X) → length (replicate n x) ≡ n
length-replicated zero x = refl
length-replicated (suc n) x = ap suc (length-replicated n x)

module _ (t : ℕ) (b : BufId) where
  -- what is found first, with one more area after
  found_more : (areas : List Area) (a : Area) → find (is_of t b) (areas ++ a ∷ []) ≡ elim (find (is_of t b) areas) as (λ _. Option Area) [ Some x ↦ Some x | None ↦ cond (is_of t b a) (Some a) None ]
  found_more [] a = refl
  found_more (x ∷ areas) a = by (is_of t b x) (found_more areas a)
    where
      by : (q : Bool) → find (is_of t b) (areas ++ a ∷ []) ≡ elim (find (is_of t b) areas) as (λ _. Option Area) [ Some x ↦ Some x | None ↦ cond (is_of t b a) (Some a) None ] →
          cond q (Some x) (find (is_of t b) (areas ++ a ∷ [])) ≡ elim (cond q (Some x) (find (is_of t b) areas)) as (λ _. Option Area) [ Some x ↦ Some x | None ↦ cond (is_of t b a) (Some a) None ]
      by true rest = refl
      by false rest = rest

  -- ---- no entry

  empty_entry : (i u : ℕ) (c : BufId) (pages : ℕ) (o : Option Area) → option_and_then (entry_of i) o ≡ None →
      option_and_then (entry_of i) (elim o as (λ _. Option Area) [ Some x ↦ Some x | None ↦ cond (is_of t b (empty_area u c pages)) (Some (empty_area u c pages)) None ]) ≡ None
  empty_entry i u c pages (Some x) h = h
  empty_entry i u c pages None h = by (is_of t b (empty_area u c pages))
    where
      by : (q : Bool) → option_and_then (entry_of i) (cond q (Some (empty_area u c pages)) None) ≡ None
      by true = none_in pages i
      by false = refl

  none_added : (i u : ℕ) (c : BufId) (pages : ℕ) (areas : List Area) → entry_in areas t b i ≡ None → entry_in (with_area u c pages areas) t b i ≡ None
  none_added i u c pages areas h = by (list_any (is_of u c) areas)
    where
      by : (q : Bool) → entry_in (if q then areas else areas ++ empty_area u c pages ∷ []) t b i ≡ None
      by true = h
      by false = ap (option_and_then (entry_of i)) (found_more areas (empty_area u c pages)) ∙ empty_entry i u c pages (find (is_of t b) areas) h

  none_of : (script : Script) (i : ℕ) (marks : List Mark) (areas : List Area) → entry_in areas t b i ≡ None → entry_in (fold (with_mark script) areas marks) t b i ≡ None
  none_of script i [] areas h = h
  none_of script i (m ∷ marks) areas h = none_of script i marks (with_mark script areas m) (by m.kind)
    where
      by : (k : MarkKind) → entry_in (elim k as (λ _. List Area) [ mark.Map c ↦ with_area m.thread c (decl script c).pages areas | _ ↦ areas ]) t b i ≡ None
      by (mark.Map c) = none_added i m.thread c (decl script c).pages areas h
      by (mark.Unmap c) = h
      by mark.Mapped = h
      by (mark.Vmap va n c off) = h
      by (mark.Vunmap va n) = h
      by (mark.Vsubmit ops) = h

  -- ---- room

  -- room for these pages, or none yet
  abbrev pub MayHave : ℕ → List Area → Type 0
  MayHave pages areas = (room_of t b areas ≡ None) ⊎ (room_of t b areas ≡ Some pages)

  room_kept : (a : Area) (pages : ℕ) (areas : List Area) → room_of t b areas ≡ Some pages → room_of t b (areas ++ a ∷ []) ≡ Some pages
  room_kept a pages areas h = ap (option_map (λ (x : Area). length x.entries)) (found_more areas a) ∙ by (find (is_of t b) areas) h
    where
      by : (o : Option Area) → option_map (λ (x : Area). length x.entries) o ≡ Some pages →
          option_map (λ (x : Area). length x.entries) (elim o as (λ _. Option Area) [ Some x ↦ Some x | None ↦ cond (is_of t b a) (Some a) None ]) ≡ Some pages
      by (Some x) h = h
      by None h = cc

  room_new : (a : Area) (areas : List Area) → room_of t b areas ≡ None → room_of t b (areas ++ a ∷ []) ≡ option_map (λ (x : Area). length x.entries) (cond (is_of t b a) (Some a) None)
  room_new a areas h = ap (option_map (λ (x : Area). length x.entries)) (found_more areas a) ∙ by (find (is_of t b) areas) h
    where
      by : (o : Option Area) → option_map (λ (x : Area). length x.entries) o ≡ None →
          option_map (λ (x : Area). length x.entries) (elim o as (λ _. Option Area) [ Some x ↦ Some x | None ↦ cond (is_of t b a) (Some a) None ]) ≡ option_map (λ (x : Area). length x.entries) (cond (is_of t b a) (Some a) None)
      by (Some x) h = cc
      by None h = refl

  own_area : (pages : ℕ) → is_of t b (empty_area t b pages) ≡ true
  own_area pages = ap (λ (q : Bool). q && same_buffer b b) (eq-eqb t t refl) ∙ same_self b

  -- an area is there where one was found
  none_there : (areas : List Area) → list_any (is_of t b) areas ≡ true → room_of t b areas ≡ None → ⊥
  none_there [] h e = cc
  none_there (x ∷ areas) h e = by (is_of t b x) h e (none_there areas)
    where
      by : (q : Bool) → (q || list_any (is_of t b) areas) ≡ true → option_map (λ (x : Area). length x.entries) (cond q (Some x) (find (is_of t b) areas)) ≡ None →
          (list_any (is_of t b) areas ≡ true → room_of t b areas ≡ None → ⊥) → ⊥
      by true h e rest = cc
      by false h e rest = rest h e

  own_room : (pages : ℕ) (areas : List Area) → MayHave pages areas → room_of t b (with_area t b pages areas) ≡ Some pages
  own_room pages areas may = by (list_any (is_of t b) areas) refl may
    where
      by : (q : Bool) → list_any (is_of t b) areas ≡ q → MayHave pages areas → room_of t b (if q then areas else areas ++ empty_area t b pages ∷ []) ≡ Some pages
      by true e (inl none) = absurd (none_there areas e none)
      by true e (inr some) = some
      by false e (inr some) = room_kept (empty_area t b pages) pages areas some
      by false e (inl none) =
          room_new (empty_area t b pages) areas none
          ∙ ap (λ (q : Bool). option_map (λ (x : Area). length x.entries) (cond q (Some (empty_area t b pages)) None)) (own_area pages)
          ∙ ap Some (length-replicated pages no_place)

  module _ (script : Script) where
    abbrev pub pages : ℕ
    pages = (decl script b).pages

    may_keep : (u : ℕ) (c : BufId) (areas : List Area) → MayHave pages areas → MayHave pages (with_area u c (decl script c).pages areas)
    may_keep u c areas may = by (is_of t b (empty_area u c (decl script c).pages)) refl (list_any (is_of u c) areas) may
      where
        by : (p : Bool) → is_of t b (empty_area u c (decl script c).pages) ≡ p → (q : Bool) → MayHave pages areas →
            MayHave pages (if q then areas else areas ++ empty_area u c (decl script c).pages ∷ [])
        by p e true may = may
        by p e false (inr some) = inr (room_kept (empty_area u c (decl script c).pages) pages areas some)
        by false e false (inl none) =
            inl (room_new (empty_area u c (decl script c).pages) areas none ∙ ap (λ (q : Bool). option_map (λ (x : Area). length x.entries) (cond q (Some (empty_area u c (decl script c).pages)) None)) e)
        by true e false (inl none) =
            inr (room_new (empty_area u c (decl script c).pages) areas none
            ∙ ap (λ (q : Bool). option_map (λ (x : Area). length x.entries) (cond q (Some (empty_area u c (decl script c).pages)) None)) e
            ∙ ap Some (length-replicated (decl script c).pages no_place)
            ∙ ap (λ d. Some (decl script d).pages) (its_buffer (u == t) (same_buffer c b) e (same_is c b)))
          where
            its_buffer : (x y : Bool) → (x && y) ≡ true → (y ≡ true → c ≡ b) → c ≡ b
            its_buffer true true h f = f refl
            its_buffer true false h f = cc
            its_buffer false y h f = cc

    kept_by : (k : MarkKind) (u : ℕ) (areas : List Area) → MayHave pages areas → MayHave pages (elim k as (λ _. List Area) [ mark.Map c ↦ with_area u c (decl script c).pages areas | _ ↦ areas ])
    kept_by (mark.Map c) u areas may = may_keep u c areas may
    kept_by (mark.Unmap c) u areas may = may
    kept_by mark.Mapped u areas may = may
    kept_by (mark.Vmap va n c off) u areas may = may
    kept_by (mark.Vunmap va n) u areas may = may
    kept_by (mark.Vsubmit ops) u areas may = may

    some_kept : (k : MarkKind) (u : ℕ) (areas : List Area) → room_of t b areas ≡ Some pages → room_of t b (elim k as (λ _. List Area) [ mark.Map c ↦ with_area u c (decl script c).pages areas | _ ↦ areas ]) ≡ Some pages
    some_kept (mark.Map c) u areas h = by (list_any (is_of u c) areas)
      where
        by : (q : Bool) → room_of t b (if q then areas else areas ++ empty_area u c (decl script c).pages ∷ []) ≡ Some pages
        by true = h
        by false = room_kept (empty_area u c (decl script c).pages) pages areas h
    some_kept (mark.Unmap c) u areas h = h
    some_kept mark.Mapped u areas h = h
    some_kept (mark.Vmap va n c off) u areas h = h
    some_kept (mark.Vunmap va n) u areas h = h
    some_kept (mark.Vsubmit ops) u areas h = h

    -- the line's own buffer has room
    made_by : (k : MarkKind) (u : ℕ) (areas : List Area) → ((u == t) && elim k as (λ _. Bool) [ mark.Map c ↦ same_buffer b c | _ ↦ false ]) ≡ true → MayHave pages areas →
        room_of t b (elim k as (λ _. List Area) [ mark.Map c ↦ with_area u c (decl script c).pages areas | _ ↦ areas ]) ≡ Some pages
    made_by (mark.Map c) u areas h may =
        ap (λ v. room_of t b (with_area v c (decl script c).pages areas)) (own.0) ∙ ap (λ d. room_of t b (with_area t d (decl script d).pages areas)) (sym own.1) ∙ own_room pages areas may
      where
        both : (x y : Bool) → (x && y) ≡ true → (x ≡ true) × (y ≡ true)
        both true true g = (refl, refl)
        both true false g = cc
        both false y g = cc

        own : (u ≡ t) × (b ≡ c)
        own = let p = both (u == t) (same_buffer b c) h in (eqb-true u t p.0, same_is b c p.1)
    made_by (mark.Unmap c) u areas h may = absurd (no (u == t) h)
      where
        no : (x : Bool) → (x && false) ≡ true → ⊥
        no true g = cc
        no false g = cc
    made_by mark.Mapped u areas h may = absurd (no (u == t) h)
      where
        no : (x : Bool) → (x && false) ≡ true → ⊥
        no true g = cc
        no false g = cc
    made_by (mark.Vmap va n c off) u areas h may = absurd (no (u == t) h)
      where
        no : (x : Bool) → (x && false) ≡ true → ⊥
        no true g = cc
        no false g = cc
    made_by (mark.Vunmap va n) u areas h may = absurd (no (u == t) h)
      where
        no : (x : Bool) → (x && false) ≡ true → ⊥
        no true g = cc
        no false g = cc
    made_by (mark.Vsubmit ops) u areas h may = absurd (no (u == t) h)
      where
        no : (x : Bool) → (x && false) ≡ true → ⊥
        no true g = cc
        no false g = cc

    room_stays : (marks : List Mark) (areas : List Area) → room_of t b areas ≡ Some pages → room_of t b (fold (with_mark script) areas marks) ≡ Some pages
    room_stays [] areas h = h
    room_stays (m ∷ marks) areas h = room_stays marks (with_mark script areas m) (some_kept m.kind m.thread areas h)

    room_comes : (marks : List Mark) (areas : List Area) → list_any (maps_for t b) marks ≡ true → MayHave pages areas → room_of t b (fold (with_mark script) areas marks) ≡ Some pages
    room_comes [] areas h may = cc
    room_comes (m ∷ marks) areas h may = by (maps_for t b m) refl h (λ g. room_comes marks (with_mark script areas m) g (kept_by m.kind m.thread areas may))
      where
        by : (q : Bool) → maps_for t b m ≡ q → (q || list_any (maps_for t b) marks) ≡ true →
            (list_any (maps_for t b) marks ≡ true → room_of t b (fold (with_mark script) (with_mark script areas m) marks) ≡ Some pages) → room_of t b (fold (with_mark script) (with_mark script areas m) marks) ≡ Some pages
        by true e g rest = room_stays marks (with_mark script areas m) (made_by m.kind m.thread areas e may)
        by false e g rest = rest g

abbrev no_page : Option Page
no_page = None

nothing_known : (script : Script) (t : ℕ) (b : BufId) (i : ℕ) (o : Option Mapping) → option_and_then (λ m. mapped_entry script [] m i) o ≡ None
nothing_known script t b i None = refl
nothing_known script t b i (Some m) = by (has_ended m (count_answers m.thread []))
  where
    by : (q : Bool) → (if q then no_page else no_page) ≡ no_page
    by true = refl
    by false = refl

pub follows_first : (script : Script) → Follows script [] (areas_of script)
follows_first script = record {
  know = λ t b i. ap (option_map page_there) (none_of t b script i script.marks [] refl) ∙ sym (nothing_known script t b i (standing script t (count_answers t []) b));
  room = λ t b h. room_comes t b script script.marks [] h (inl refl);
  unborn = λ m i h. refl;
}
