-- What the calls of an answer do to one entry, and that there is room as before.
use Rattle.std.proofs.Common.{◌≡◌, ℕ, zero, suc, ◌+◌, ◌<◌, ◌≤◌, Bool, true, false, cond, List, [], ◌∷◌, Option, Some, None, ap, refl, sym, ◌∙◌, ◌⊎◌, inl, inr, ⊎_elim, length, if◌then◌else◌, arith}
use Rattle.std.specs.Prelude.{◌==◌, ◌&&◌, ◌||◌, find, fold, map, option_and_then, option_map, slice_get, slice_set, unwrap_or}
use Rattle.std.specs.List.{list_any}
use Rattle.std.proofs.lemmas.Bool.{cases_eq, eq-eqb, ne_eqb}
use Rattle.std.proofs.lemmas.Bool.Decides.{nat_tests}
use Rattle.ttm_base.specs.declared.BufId.{BufId}
use Rattle.ttm_base.specs.declared.PagePlace.{PagePlace}
use Rattle.ttm_base.specs.ListWords.{count_from}
use Rattle.journal_model.specs.declared.script.Mark.{Mark}
use Rattle.journal_model.specs.declared.script.MarkKind.{MarkKind}
use Rattle.journal_model.specs.declared.script.MarkKind.TheVariants as mark
use Rattle.journal_model.specs.rules.State.{same_buffer}
use Rattle.cpu_maps.specs.declared.area.Area.{Area}
use Rattle.cpu_maps.specs.Areas.{emptied, entry_in, entry_of, is_of, unmapped, with_entry, with_fault, without_buffer, without_page}
use Rattle.cpu_maps.proofs.Setting.{length_set}
use Rattle.law_legal.proofs.law_maps.Entries.{emptied_entry, emptied_is_of, entry_mapped}
use Rattle.map_follow.specs.Ends.{behind_line, with_end}
use Rattle.map_follow.specs.Follows.{room_of}
use Rattle.map_follow.specs.Founds.{with_page, with_pages}
use Rattle.map_follow.proofs.Standing.{ends}

-- ---- lists

set_here : {X : Type 0} (xs : List X) (i : ℕ) (y : X) → i < length xs → slice_get (slice_set xs i y) i ≡ Some y
set_here [] i y h = absurd (omega arith)
set_here (x ∷ xs) zero y h = refl
set_here (x ∷ xs) (suc i) y h = set_here xs i y (omega arith)

set_elsewhere : {X : Type 0} (xs : List X) (i j : ℕ) (y : X) → (i == j) ≡ false → slice_get (slice_set xs i y) j ≡ slice_get xs j
set_elsewhere [] i j y d = refl
set_elsewhere (x ∷ xs) zero zero y d = let yes : true ≡ false = sym (eq-eqb 0 0 refl) ∙ d in cc
set_elsewhere (x ∷ xs) zero (suc j) y d = refl
set_elsewhere (x ∷ xs) (suc i) zero y d = refl
set_elsewhere (x ∷ xs) (suc i) (suc j) y d =
    ⊎_elim
    (λ e. let same : suc i ≡ suc j = ap suc e in let yes : true ≡ false = sym (eq-eqb (suc i) (suc j) same) ∙ d in cc)
    (λ other. set_elsewhere xs i j y (ne_eqb i j other))
    (cases_eq i j)

length-mapped : {X Y : Type 0} (f : X → Y) (xs : List X) → length (map f xs) ≡ length xs
length-mapped f [] = refl
length-mapped f (x ∷ xs) = ap suc (length-mapped f xs)

-- ---- room

module _ (t : ℕ) (c : BufId) where
  room_mapped : (f : Area → Area) → ((a : Area) → is_of t c (f a) ≡ is_of t c a) → ((a : Area) → length (f a).entries ≡ length a.entries) →
      (areas : List Area) → room_of t c (map f areas) ≡ room_of t c areas
  room_mapped f kept len [] = refl
  room_mapped f kept len (a ∷ areas) = by (is_of t c a) (is_of t c (f a)) (kept a) (room_mapped f kept len areas)
    where
      by : (p q : Bool) → q ≡ p → room_of t c (map f areas) ≡ room_of t c areas →
          option_map (λ (x : Area). length x.entries) (cond q (Some (f a)) (find (is_of t c) (map f areas))) ≡ option_map (λ (x : Area). length x.entries) (cond p (Some a) (find (is_of t c) areas))
      by true true e rest = ap Some (len a)
      by false false e rest = rest
      by true false e rest = cc
      by false true e rest = cc

  emptied_len : (q : Bool) (a : Area) → length (if q then emptied a else a).entries ≡ length a.entries
  emptied_len true a = length-mapped (λ entry. None) a.entries
  emptied_len false a = refl

  set_len : (q : Bool) (page : ℕ) (entry : Option PagePlace) (a : Area) → length (if q then with_entry page entry a else a).entries ≡ length a.entries
  set_len true page entry a = length_set a.entries page entry
  set_len false page entry a = refl

  given_is_of : (q : Bool) (page : ℕ) (entry : Option PagePlace) (a : Area) → is_of t c (if q then with_entry page entry a else a) ≡ is_of t c a
  given_is_of true page entry a = refl
  given_is_of false page entry a = refl

  pub room_without_buffer : (b : BufId) (areas : List Area) → room_of t c (map (without_buffer b) areas) ≡ room_of t c areas
  room_without_buffer b areas = room_mapped (without_buffer b) (λ a. emptied_is_of t c (same_buffer a.b b) a) (λ a. emptied_len (same_buffer a.b b) a) areas

  pub room_without_page : (b : BufId) (page : ℕ) (areas : List Area) → room_of t c (map (without_page b page) areas) ≡ room_of t c areas
  room_without_page b page areas = room_mapped (without_page b page) (λ a. given_is_of (same_buffer a.b b) page None a) (λ a. set_len (same_buffer a.b b) page None a) areas

  room_unmapped : (u : ℕ) (b : BufId) (areas : List Area) → room_of t c (map (unmapped u b) areas) ≡ room_of t c areas
  room_unmapped u b areas = room_mapped (unmapped u b) (λ a. emptied_is_of t c (is_of u b a) a) (λ a. emptied_len (is_of u b a) a) areas

  room_faulted : (u : ℕ) (b : BufId) (page : ℕ) (place : PagePlace) (areas : List Area) → room_of t c (map (with_fault u b page place) areas) ≡ room_of t c areas
  room_faulted u b page place areas =
      room_mapped (with_fault u b page place) (λ a. given_is_of (is_of u b a) page (Some place) a) (λ a. set_len (is_of u b a) page (Some place) a) areas

  room_with_page : (u : ℕ) (b : BufId) (page : ℕ) (o : Option PagePlace) (areas : List Area) → room_of t c (with_page u b page o areas) ≡ room_of t c areas
  room_with_page u b page None areas = refl
  room_with_page u b page (Some place) areas = room_faulted u b page place areas

  pub room_with_pages : (u : ℕ) (b : BufId) (place : ℕ → Option PagePlace) (pages : List ℕ) (areas : List Area) → room_of t c (with_pages u b place areas pages) ≡ room_of t c areas
  room_with_pages u b place [] areas = refl
  room_with_pages u b place (page ∷ pages) areas =
      room_with_pages u b place pages (with_page u b page (place page) areas) ∙ room_with_page u b page (place page) areas

  room_behind_line : (u : ℕ) (k : MarkKind) (areas : List Area) → room_of t c (behind_line u k areas) ≡ room_of t c areas
  room_behind_line u (mark.Unmap b) areas = room_unmapped u b areas
  room_behind_line u (mark.Map b) areas = refl
  room_behind_line u mark.Mapped areas = refl
  room_behind_line u (mark.Vmap va n b off) areas = refl
  room_behind_line u (mark.Vunmap va n) areas = refl
  room_behind_line u (mark.Vsubmit ops) areas = refl

  room_with_end : (u n : ℕ) (areas : List Area) (m : Mark) → room_of t c (with_end u n areas m) ≡ room_of t c areas
  room_with_end u n areas m = by ((m.thread == u) && (m.after == n))
    where
      by : (q : Bool) → room_of t c (if q then behind_line u m.kind areas else areas) ≡ room_of t c areas
      by true = room_behind_line u m.kind areas
      by false = refl

  pub room_with_ends : (u n : ℕ) (marks : List Mark) (areas : List Area) → room_of t c (fold (with_end u n) areas marks) ≡ room_of t c areas
  room_with_ends u n [] areas = refl
  room_with_ends u n (m ∷ marks) areas = room_with_ends u n marks (with_end u n areas m) ∙ room_with_end u n areas m

-- ---- pages that are found

-- an area of one thread and buffer is of another thread and buffer where these are the same
its_other : (t u : ℕ) (b c : BufId) (a : Area) → is_of u c a ≡ true → is_of t b a ≡ ((u == t) && same_buffer c b)
its_other t u b c a h =
    let thread : a.thread ≡ u = grind (arith, nat_tests, h) in
    let number : a.b.0 ≡ c.0 = grind (arith, nat_tests, h) in
    ap (λ n. (n == t) && same_buffer a.b b) thread ∙ ap (λ n. (u == t) && (n == b.0)) number

fault_elsewhere : (t u : ℕ) (b c : BufId) (page i : ℕ) (place : PagePlace) → ((u == t) && same_buffer c b && (page == i)) ≡ false → (areas : List Area) →
    entry_in (map (with_fault t b page place) areas) u c i ≡ entry_in areas u c i
fault_elsewhere t u b c page i place other areas =
    entry_mapped (with_fault t b page place) (λ old. old) u c i refl (λ a. given_is_of u c (is_of t b a) page (Some place) a) (λ a h. by a (is_of t b a) (its_other t u b c a h)) areas
  where
    not_here : (q : Bool) → q ≡ true → (q && (page == i)) ≡ false → (page == i) ≡ false
    not_here true e h = h
    not_here false e h = cc

    by : (a : Area) (q : Bool) → q ≡ ((u == t) && same_buffer c b) → entry_of i (if q then with_entry page (Some place) a else a) ≡ entry_of i a
    by a false e = refl
    by a true e = ap (λ o. unwrap_or o None) (set_elsewhere a.entries page i (Some place) (not_here ((u == t) && same_buffer c b) (sym e) other))

fault_here : (t : ℕ) (b : BufId) (i pages : ℕ) (place : PagePlace) (areas : List Area) → room_of t b areas ≡ Some pages → i < pages →
    entry_in (map (with_fault t b i place) areas) t b i ≡ Some place
fault_here t b i pages place [] room low = cc
fault_here t b i pages place (a ∷ areas) room low = by (is_of t b a) refl room (λ g. fault_here t b i pages place areas g low)
  where
    by : (q : Bool) → is_of t b a ≡ q → option_map (λ (x : Area). length x.entries) (cond q (Some a) (find (is_of t b) areas)) ≡ Some pages →
        (room_of t b areas ≡ Some pages → entry_in (map (with_fault t b i place) areas) t b i ≡ Some place) →
        option_and_then (entry_of i) (cond (is_of t b (if is_of t b a then with_entry i (Some place) a else a)) (Some (if is_of t b a then with_entry i (Some place) a else a)) (find (is_of t b) (map (with_fault t b i place) areas))) ≡ Some place
    by true e g rest =
        let all : length a.entries ≡ pages = cc in
        ap (λ (q : Bool). option_and_then (entry_of i) (cond q (Some (if is_of t b a then with_entry i (Some place) a else a)) (find (is_of t b) (map (with_fault t b i place) areas)))) (given_is_of t b (is_of t b a) i (Some place) a ∙ e)
        ∙ ap (λ (q : Bool). entry_of i (if q then with_entry i (Some place) a else a)) e
        ∙ ap (λ o. unwrap_or o None) (set_here a.entries i (Some place) (omega (arith, all, low)))
    by false e g rest =
        ap (λ (q : Bool). option_and_then (entry_of i) (cond q (Some (if is_of t b a then with_entry i (Some place) a else a)) (find (is_of t b) (map (with_fault t b i place) areas)))) (given_is_of t b (is_of t b a) i (Some place) a ∙ e)
        ∙ rest g

-- another thread or buffer, or a page outside
abbrev pub IsAway : (q : Bool) (s k i : ℕ) → Type 0
IsAway q s k i = (q ≡ false) ⊎ ((i < s) ⊎ (s + k ≤ i))

module _ (t : ℕ) (b : BufId) (place : ℕ → Option PagePlace) where
  page_elsewhere : (u : ℕ) (c : BufId) (page i : ℕ) (o : Option PagePlace) (areas : List Area) → ((u == t) && same_buffer c b && (page == i)) ≡ false →
      entry_in (with_page t b page o areas) u c i ≡ entry_in areas u c i
  page_elsewhere u c page i None areas other = refl
  page_elsewhere u c page i (Some p) areas other = fault_elsewhere t u b c page i p other areas

  pub found_outside : (k s : ℕ) (areas : List Area) (u : ℕ) (c : BufId) (i : ℕ) → IsAway ((u == t) && same_buffer c b) s k i →
      entry_in (with_pages t b place areas (count_from 1 k s)) u c i ≡ entry_in areas u c i
  found_outside zero s areas u c i away = refl
  found_outside (suc k) s areas u c i away =
      found_outside k (1 + s) (with_page t b s (place s) areas) u c i (next away)
      ∙ page_elsewhere u c s i (place s) areas (now away)
    where
      next : IsAway ((u == t) && same_buffer c b) s (suc k) i → IsAway ((u == t) && same_buffer c b) (1 + s) k i
      next (inl e) = inl e
      next (inr (inl low)) = inr (inl (omega (arith, low)))
      next (inr (inr high)) = inr (inr (omega (arith, high)))

      other_page : (s ≡ i → ⊥) → (q : Bool) → (q && (s == i)) ≡ false
      other_page d q = by q (ne_eqb s i d)
        where
          by : (q : Bool) → (s == i) ≡ false → (q && (s == i)) ≡ false
          by true e = e
          by false e = refl

      now : IsAway ((u == t) && same_buffer c b) s (suc k) i → ((u == t) && same_buffer c b && (s == i)) ≡ false
      now (inl e) = ap (λ (q : Bool). q && (s == i)) e
      now (inr (inl low)) = other_page (λ e. omega (arith, low, e)) ((u == t) && same_buffer c b)
      now (inr (inr high)) = other_page (λ e. omega (arith, high, e)) ((u == t) && same_buffer c b)

  pub found_inside : (k s : ℕ) (areas : List Area) (pages i : ℕ) (p : PagePlace) → room_of t b areas ≡ Some pages → s ≤ i → i < s + k → i < pages → place i ≡ Some p →
      entry_in (with_pages t b place areas (count_from 1 k s)) t b i ≡ Some p
  found_inside zero s areas pages i p room low high fits at = absurd (omega (arith, low, high))
  found_inside (suc k) s areas pages i p room low high fits at =
      ⊎_elim
      (λ e.
      found_outside k (1 + s) (with_page t b s (place s) areas) t b i (inr (inl (omega (arith, e))))
      ∙ ap (λ n. entry_in (with_page t b n (place n) areas) t b i) e
      ∙ ap (λ o. entry_in (with_page t b i o areas) t b i) at
      ∙ fault_here t b i pages p areas room fits)
      (λ d.
      found_inside k (1 + s) (with_page t b s (place s) areas) pages i p (room_with_page t b t b s (place s) areas ∙ room) (grind (arith, low, d)) (omega (arith, high)) fits at)
      (cases_eq s i)

-- ---- mappings that end

abbrev no_place : Option PagePlace
no_place = None

unmapped_entry : (t u : ℕ) (b c : BufId) (i : ℕ) (areas : List Area) → entry_in (map (unmapped t b) areas) u c i ≡ (if (u == t) && same_buffer c b then None else entry_in areas u c i)
unmapped_entry t u b c i areas =
    entry_mapped (unmapped t b) (λ old. if (u == t) && same_buffer c b then None else old) u c i (none ((u == t) && same_buffer c b)) (λ a. emptied_is_of u c (is_of t b a) a)
    (λ a h. emptied_entry i (is_of t b a) a ∙ ap (λ (q : Bool). if q then None else entry_of i a) (its_other t u b c a h))
    areas
  where
    none : (q : Bool) → (if q then no_place else no_place) ≡ no_place
    none true = refl
    none false = refl

-- a line of the thread, or none
regroup : (x z u s : Bool) (e : Option PagePlace) → (if x && z then (if u && s then None else e) else e) ≡ (if u && (x && s && z) then None else e)
regroup true true true true e = refl
regroup true true true false e = refl
regroup true true false s e = refl
regroup true false true true e = refl
regroup true false true false e = refl
regroup true false false s e = refl
regroup false z true s e = refl
regroup false z false s e = refl

nothing_ends : (x z u : Bool) (e : Option PagePlace) → (if x && z then e else e) ≡ (if u && (x && false && z) then None else e)
nothing_ends true true true e = refl
nothing_ends true true false e = refl
nothing_ends true false true e = refl
nothing_ends true false false e = refl
nothing_ends false z true e = refl
nothing_ends false z false e = refl

through_if : (t : ℕ) (k : MarkKind) (areas : List Area) (u : ℕ) (c : BufId) (i : ℕ) (q : Bool) →
    entry_in (if q then behind_line t k areas else areas) u c i ≡ (if q then entry_in (behind_line t k areas) u c i else entry_in areas u c i)
through_if t k areas u c i true = refl
through_if t k areas u c i false = refl

module _ (t n u : ℕ) (c : BufId) (i : ℕ) where
  one_end : (x z : Bool) (k : MarkKind) (areas : List Area) →
      (if x && z then entry_in (behind_line t k areas) u c i else entry_in areas u c i)
      ≡ (if (u == t) && (x && elim k [ mark.Unmap d ↦ same_buffer c d | _ ↦ false ] && z) then None else entry_in areas u c i)
  one_end x z (mark.Unmap d) areas =
      ap (λ e. if x && z then e else entry_in areas u c i) (unmapped_entry t u d c i areas) ∙ regroup x z (u == t) (same_buffer c d) (entry_in areas u c i)
  one_end x z (mark.Map d) areas = nothing_ends x z (u == t) (entry_in areas u c i)
  one_end x z mark.Mapped areas = nothing_ends x z (u == t) (entry_in areas u c i)
  one_end x z (mark.Vmap va len d off) areas = nothing_ends x z (u == t) (entry_in areas u c i)
  one_end x z (mark.Vunmap va len) areas = nothing_ends x z (u == t) (entry_in areas u c i)
  one_end x z (mark.Vsubmit ops) areas = nothing_ends x z (u == t) (entry_in areas u c i)

  two_ends : (own p q : Bool) (e : Option PagePlace) → (if own && q then None else (if own && p then None else e)) ≡ (if own && (p || q) then None else e)
  two_ends true true true e = refl
  two_ends true true false e = refl
  two_ends true false true e = refl
  two_ends true false false e = refl
  two_ends false p q e = refl

  no_end : (own : Bool) (e : Option PagePlace) → e ≡ (if own && false then None else e)
  no_end true e = refl
  no_end false e = refl

  pub ended_entry : (marks : List Mark) (areas : List Area) → entry_in (fold (with_end t n) areas marks) u c i ≡ (if (u == t) && list_any (ends t n c) marks then None else entry_in areas u c i)
  ended_entry [] areas = no_end (u == t) (entry_in areas u c i)
  ended_entry (m ∷ marks) areas =
      ended_entry marks (with_end t n areas m)
      ∙ ap (λ e. if (u == t) && list_any (ends t n c) marks then None else e)
      (through_if t m.kind areas u c i ((m.thread == t) && (m.after == n)) ∙ one_end (m.thread == t) (m.after == n) m.kind areas)
      ∙ two_ends (u == t) (ends t n c m) (list_any (ends t n c) marks) (entry_in areas u c i)
