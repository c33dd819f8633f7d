-- Areas follow a journal by an answer of a thread.
use Rattle.std.proofs.Common.{◌≡◌, ℕ, ◌+◌, ◌-◌, ◌<◌, Bool, true, false, cond, List, [], ◌∷◌, ◌++◌, Option, Some, None, ap, refl, sym, ◌∙◌, subst, inl, inr, ⊎_elim, if◌then◌else◌, arith}
use Rattle.std.specs.Prelude.{◌==◌, ◌&&◌, fold, nat_le, nat_lt, not, option_map}
use Rattle.std.specs.List.{list_any}
use Rattle.std.proofs.lemmas.Bool.{and_parts, cases_lt, eq-eqb, eqb-true, leb-true, le-leb, lt-ltb, ltb-true, ne_eqb}
use Rattle.ttm_base.specs.declared.Actor.TheVariants as actor
use Rattle.ttm_base.specs.declared.BufId.{BufId}
use Rattle.ttm_base.specs.declared.PagePlace.{PagePlace}
use Rattle.ttm_base.specs.ListWords.{count_from}
use Rattle.ttm_base.specs.Pages.{Page}
use Rattle.journal_model.specs.declared.script.Script.{Script}
use Rattle.journal_model.specs.declared.entry.Kind.{Kind}
use Rattle.journal_model.specs.declared.entry.Kind.TheVariants as kind
use Rattle.journal_model.specs.declared.state.State.{State}
use Rattle.journal_model.specs.rules.Commands.{decl}
use Rattle.journal_model.specs.statements.Complete.{is_answer, is_by_thread}
use Rattle.journal_model.specs.rules.Legal.{Made}
use Rattle.journal_model.specs.marks.Mapped.{Access, Mapping, answered_before, count_answers, entry_after, has_ended, is_through, mappings_in, meets_page, peek_or_poke}
use Rattle.journal_model.specs.scripts.MarkRules.{are_in_order}
use Rattle.journal_model.specs.rules.Places.{page_at}
use Rattle.journal_model.specs.rules.State.{buffer, same_buffer}
use Rattle.cpu_maps.specs.declared.area.Area.{Area}
use Rattle.cpu_maps.specs.Areas.{entry_in}
use Rattle.laws.proofs.law_sound.Bufs.{same_is}
use Rattle.law_legal.specs.law_maps.Following.{page_there}
use Rattle.map_access.specs.Accesses.{access_in, mapped_from, paged}
use Rattle.map_access.proofs.Counts.{count_next}
use Rattle.map_access.proofs.Pages.{meets_is}
use Rattle.map_follow.specs.Ends.{with_end}
use Rattle.map_follow.specs.Follows.{Follows, entry_along, known, room_of, standing}
use Rattle.map_follow.specs.Founds.{found_in, with_found_at}
use Rattle.map_follow.proofs.Areas.{IsAway, ended_entry, found_inside, found_outside, room_with_ends, room_with_pages}
use Rattle.map_follow.proofs.Standing.{Through, begins_now, begins_there, ends, found_passes, has_its_line, stands, stands_still, through_is}
use Rattle.map_follow.proofs.Step.{is_known, late_none, named_entry, quiet_knows, tally, unborn_next, was_none, was_some}

-- an access of an entry found its page: there it stands, and there is such a page
pub record IsFound (script : Script) (before : State) (place : BufId → ℕ → Option PagePlace) (a : Access) (i : ℕ) : Type 0 where
  pub named : PagePlace
  pub at : place a.b i ≡ Some named
  pub there : page_there named ≡ page_at (buffer before a.b) i
  pub fits : i < (decl script a.b).pages

abbrev pub AreFound : Script → State → (BufId → ℕ → Option PagePlace) → Option Access → Type 0
AreFound script before place o = (a : Access) → o ≡ Some a → (i : ℕ) → meets_page a i ≡ true → IsFound script before place a i

module _ (script : Script) (t n : ℕ) (place : BufId → ℕ → Option PagePlace) (areas : List Area) where
  abbrev after_access : Option Access → List Area
  after_access o = with_found_at place (found_in script t n o) areas

  -- ---- entries of other threads and buffers

  abbrev by_from : Access → Option ℕ → List Area
  by_from a o = with_found_at place (option_map (λ from. record { thread = t; pages = paged a }) o) areas

  elsewhere : (u : ℕ) (c : BufId) (i : ℕ) (a : Access) (o : Option ℕ) → ((u == t) && same_buffer c a.b) ≡ false → entry_in (by_from a o) u c i ≡ entry_in areas u c i
  elsewhere u c i a None other = refl
  elsewhere u c i a (Some from) other = found_outside t a.b (place a.b) ((paged a).end - (paged a).first) (paged a).first areas u c i (inl other)

  pub other_thread : (u : ℕ) (c : BufId) (i : ℕ) (o : Option Access) → (u == t) ≡ false → entry_in (after_access o) u c i ≡ entry_in areas u c i
  other_thread u c i None other = refl
  other_thread u c i (Some a) other = elsewhere u c i a (mapped_from script t n a.b) (ap (λ (q : Bool). q && same_buffer c a.b) other)

  -- through no mapping
  pub unmapped_buffer : (c : BufId) (i : ℕ) (o : Option Access) → standing script t n c ≡ None → entry_in (after_access o) t c i ≡ entry_in areas t c i
  unmapped_buffer c i None none = refl
  unmapped_buffer c i (Some a) none = by (same_buffer c a.b) refl
    where
      both : (p q : Bool) → q ≡ false → (p && q) ≡ false
      both true q h = h
      both false q h = refl

      by : (q : Bool) → same_buffer c a.b ≡ q → entry_in (after_access (Some a)) t c i ≡ entry_in areas t c i
      by false e = elsewhere t c i a (mapped_from script t n a.b) (both (t == t) (same_buffer c a.b) e)
      by true e =
          ap (λ o. entry_in (by_from a o) t c i)
          (ap (λ b. option_map (λ (m : Mapping). m.from) (standing script t n b)) (sym (same_is c a.b e)) ∙ ap (option_map (λ (m : Mapping). m.from)) none)

  -- ---- entries of the mapping that stands

  module _ (before : State) (c : BufId) (i : ℕ) (m : Mapping) (at : standing script t n c ≡ Some m) (room : room_of t c areas ≡ Some (decl script c).pages) where
    abbrev old : Option Page
    old = named_entry areas t c i

    th : Through t n c m
    th = through_is t n c m (found_passes (stands t n c) (mappings_in script.marks) m at)

    -- the access goes through the mapping where it is of its buffer
    through_own : (a : Access) → is_through m t n a ≡ same_buffer c a.b
    through_own a =
        ap (λ (q : Bool). q && same_buffer m.b a.b && nat_le m.from n && not (has_ended m n)) (eq-eqb m.thread t th.own)
        ∙ ap (λ (q : Bool). true && same_buffer m.b a.b && q && not (has_ended m n)) (le-leb m.from n th.begun)
        ∙ ap (λ (q : Bool). true && same_buffer m.b a.b && true && not q) th.on
        ∙ ap (λ d. true && same_buffer d a.b && true && true) th.same
        ∙ plain (same_buffer c a.b)
      where
        plain : (q : Bool) → (true && q && true && true) ≡ q
        plain true = refl
        plain false = refl

    from_is : (a : Access) → c ≡ a.b → mapped_from script t n a.b ≡ Some m.from
    from_is a same = ap (λ b. option_map (λ (m : Mapping). m.from) (standing script t n b)) (sym same) ∙ ap (option_map (λ (m : Mapping). m.from)) at

    -- a page that the access met, and one that it didn't
    met : (a : Access) → c ≡ a.b → IsFound script before place a i → meets_page a i ≡ true → named_entry (after_access (Some a)) t c i ≡ Some (page_at (buffer before m.b) i)
    met a same found meets =
        let within = and_parts (nat_le (paged a).first i) (nat_lt i (paged a).end) (sym (meets_is a i) ∙ meets) in
        let low = leb-true (paged a).first i within.0 in
        let high = ltb-true i (paged a).end within.1 in
        let fits = found.fits in
        let there : room_of t a.b areas ≡ Some (decl script a.b).pages = subst (λ b. room_of t b areas ≡ Some (decl script b).pages) same room in
        ap (λ o. named_entry (by_from a o) t c i) (from_is a same)
        ∙ ap (λ b. named_entry (by_from a (Some m.from)) t b i) same
        ∙ ap (option_map page_there)
        (found_inside t a.b (place a.b) ((paged a).end - (paged a).first) (paged a).first areas (decl script a.b).pages i found.named there low (omega (arith, low, high)) fits found.at)
        ∙ ap Some (found.there ∙ ap (λ b. page_at (buffer before b) i) (sym same ∙ sym th.same))

    unmet : (a : Access) → c ≡ a.b → meets_page a i ≡ false → named_entry (after_access (Some a)) t c i ≡ old
    unmet a same meets =
        ap (λ o. named_entry (by_from a o) t c i) (from_is a same)
        ∙ ap (option_map page_there) (found_outside t a.b (place a.b) ((paged a).end - (paged a).first) (paged a).first areas t c i (away (sym (meets_is a i) ∙ meets)))
      where
        away : (nat_le (paged a).first i && nat_lt i (paged a).end) ≡ false → IsAway ((t == t) && same_buffer c a.b) (paged a).first ((paged a).end - (paged a).first) i
        away h =
            ⊎_elim
            (λ less. inr (inl less))
            (λ low.
            ⊎_elim
            (λ less.
            let yes : true ≡ false = sym (ap (λ (q : Bool). q && nat_lt i (paged a).end) (le-leb (paged a).first i low) ∙ lt-ltb i (paged a).end less) ∙ h in
            cc)
            (λ high. inr (inr (omega (arith, low, high))))
            (cases_lt i (paged a).end))
            (cases_lt i (paged a).first)

    pub value_of : (o : Option Access) → AreFound script before place o → named_entry (after_access o) t c i
        ≡ elim o as (λ _. Option Page) [ None ↦ old | Some a ↦ if is_through m t n a && meets_page a i then Some (page_at (buffer before m.b) i) else old ]
    value_of None found = refl
    value_of (Some a) found = by (same_buffer c a.b) (meets_page a i) refl refl
      where
        both : (p q : Bool) → q ≡ false → (p && q) ≡ false
        both true q h = h
        both false q h = refl

        is : (p q : Bool) → same_buffer c a.b ≡ p → meets_page a i ≡ q → (is_through m t n a && meets_page a i) ≡ (p && q)
        is p q e d = ap (λ (x : Bool). x && meets_page a i) (through_own a ∙ e) ∙ ap (λ (x : Bool). p && x) d

        by : (p q : Bool) → same_buffer c a.b ≡ p → meets_page a i ≡ q → named_entry (after_access (Some a)) t c i ≡ (if is_through m t n a && meets_page a i then Some (page_at (buffer before m.b) i) else old)
        by true true e d =
            met a (same_is c a.b e) (found a refl i d) d ∙ ap (λ (x : Bool). if x then Some (page_at (buffer before m.b) i) else old) (sym (is true true e d))
        by true false e d = unmet a (same_is c a.b e) d ∙ ap (λ (x : Bool). if x then Some (page_at (buffer before m.b) i) else old) (sym (is true false e d))
        by false q e d =
            ap (option_map page_there) (elsewhere t c i a (mapped_from script t n a.b) (both (t == t) (same_buffer c a.b) e))
            ∙ ap (λ (x : Bool). if x then Some (page_at (buffer before m.b) i) else old) (sym (is false q e d))

-- ---- an answer

module _ (script : Script) (made : List Made) (before : State) (t : ℕ) (k : Kind) (areas : List Area) (f : Follows script made areas) (order : are_in_order script.marks ≡ true) where
  abbrev e : Made
  e = record { before = before; entry = record { who = actor.Thread t; kind = k } }

  abbrev n : ℕ
  n = count_answers t made

  abbrev o : Option Access
  o = access_in script t n e.entry

  module _ (place : BufId → ℕ → Option PagePlace) (counted : (u : ℕ) → answered_before e u ≡ count_answers u made) (answer : is_answer k ≡ true) (found : AreFound script before place o) where
    abbrev met_areas : List Area
    met_areas = with_found_at place (found_in script t n o) areas

    abbrev new : List Area
    new = fold (with_end t (n + 1)) met_areas script.marks

    own_count : count_answers t (made ++ e ∷ []) ≡ n + 1
    own_count =
        let next = count_next t made e in
        let one : cond ((t == t) && is_answer k) 1 0 ≡ 1 = ap (λ (q : Bool). tally (q && is_answer k)) (eq-eqb t t refl) ∙ ap tally answer in
        omega (arith, next, one)

    -- the answer of the thread, on a mapping of its own that goes on
    after_is : (k : Kind) → is_answer k ≡ true → (m : Mapping) (i : ℕ) (old value : Option Page) → m.thread ≡ t →
        ((o : Option Access) → access_in script t n (record { who = actor.Thread t; kind = k }) ≡ o
        → value ≡ elim o as (λ _. Option Page) [ None ↦ old | Some a ↦ if is_through m t n a && meets_page a i then Some (page_at (buffer before m.b) i) else old ]) →
        value ≡ entry_after script m i e k old
    after_is (kind.Result r) h m i old value own is =
        let at : answered_before e m.thread ≡ n = counted m.thread ∙ ap (λ u. count_answers u made) own in
        is (if t == t then peek_or_poke script t n else None) refl
        ∙ ap (λ x. elim (if t == x then peek_or_poke script x n else None) as (λ _. Option Page) [ None ↦ old | Some a ↦ if is_through m x n a && meets_page a i then Some (page_at (buffer before m.b) i) else old ]) (sym own)
        ∙ ap (λ x. elim (if t == m.thread then peek_or_poke script m.thread x else None) as (λ _. Option Page) [ None ↦ old | Some a ↦ if is_through m m.thread x a && meets_page a i then Some (page_at (buffer before m.b) i) else old ]) (sym at)
    after_is (kind.Refused d) h m i old value own is = is None refl
    after_is k h m i old value own is = cc

    others_know : (u : ℕ) (b : BufId) (i : ℕ) → (u == t) ≡ false → named_entry new u b i ≡ known script (made ++ e ∷ []) u b i
    others_know u b i other =
        quiet_knows script made e counted areas f u b i quiet new (λ m own same.
        ap (option_map page_there)
        (ended_entry t (n + 1) u b i script.marks met_areas
        ∙ ap (λ (q : Bool). if q && list_any (ends t (n + 1) b) script.marks then None else entry_in met_areas u b i) other
        ∙ other_thread script t n place areas u b i o other)
        ∙ sym (stays m own k answer))
      where
        turned : (t == u) ≡ false
        turned = ne_eqb t u (λ same. let yes : true ≡ false = sym (eq-eqb u t (sym same)) ∙ other in cc)

        quiet : (is_by_thread u e.entry.who && is_answer k) ≡ false
        quiet = ap (λ (q : Bool). q && is_answer k) turned

        stays : (m : Mapping) → m.thread ≡ u → (k : Kind) → is_answer k ≡ true → entry_after script m i e k (named_entry areas u b i) ≡ named_entry areas u b i
        stays m own (kind.Result r) h =
            ap (λ (q : Bool). elim (if q then peek_or_poke script m.thread (answered_before e m.thread) else None) as (λ _. Option Page) [
              | None ↦ named_entry areas u b i
              | Some a ↦ if is_through m m.thread (answered_before e m.thread) a && meets_page a i then Some (page_at (buffer before m.b) i) else named_entry areas u b i
            ]) (ap (λ x. t == x) own ∙ turned)
        stays m own (kind.Refused d) h = refl
        stays m own k h = cc

    module _ (b : BufId) (i : ℕ) where
      -- where lines end the mapping
      abbrev over : Bool
      over = list_any (ends t (n + 1) b) script.marks

      entry_is : (q : Bool) → over ≡ q → named_entry new t b i ≡ option_map page_there (if q then None else entry_in met_areas t b i)
      entry_is q h =
          ap (option_map page_there)
          (ended_entry t (n + 1) t b i script.marks met_areas
          ∙ ap (λ (x : Bool). if x && over then None else entry_in met_areas t b i) (eq-eqb t t refl)
          ∙ ap (λ (x : Bool). if x then None else entry_in met_areas t b i) h)

      -- a mapping that begins after the answer has no entry yet
      starts_none : (m : Mapping) → m.thread ≡ t → n < m.from → entry_after script m i e k (entry_along script m i made) ≡ None
      starts_none m own late =
          let before_it : count_answers m.thread made < m.from = subst (λ u. count_answers u made < m.from) (sym own) late in
          ap (entry_after script m i e k) (f.unborn m i before_it) ∙ late_none script made e counted m i k before_it

      own_of : (x : ℕ) (m : Mapping) → standing script t x b ≡ Some m → m.thread ≡ t
      own_of x m at = (through_is t x b m (found_passes (stands t x b) (mappings_in script.marks) m at)).own

      knows_ended : over ≡ true → named_entry new t b i ≡ known script (made ++ e ∷ []) t b i
      knows_ended h =
          is_known script made e counted t b i (named_entry new t b i) (standing script t (n + 1) b) (ap (λ x. standing script t x b) own_count)
          (λ none. entry_is true h)
          (λ m at.
          let begins = begins_there t (n + 1) b script.marks m order h at in
          entry_is true h ∙ sym (starts_none m (own_of (n + 1) m at) (omega (arith, begins))))

      knows_none : over ≡ false → standing script t n b ≡ None → named_entry new t b i ≡ known script (made ++ e ∷ []) t b i
      knows_none h none =
          let empty : named_entry new t b i ≡ None =
          entry_is false h ∙ ap (option_map page_there) (unmapped_buffer script t n place areas b i o none) ∙ was_none script made e counted areas f t b i none in
          is_known script made e counted t b i (named_entry new t b i) (standing script t (n + 1) b) (ap (λ x. standing script t x b) own_count)
          (λ at. empty)
          (λ m at. empty ∙ sym (starts_none m (own_of (n + 1) m at) (begins_now t n b script.marks m none at)))

      knows_some : over ≡ false → (m : Mapping) → standing script t n b ≡ Some m → named_entry new t b i ≡ known script (made ++ e ∷ []) t b i
      knows_some h m at =
          let room = f.room t b (has_its_line t n b script.marks m at) in
          let own = own_of n m at in
          let still = stands_still t n b script.marks m order h at in
          is_known script made e counted t b i (named_entry new t b i) (Some m) (ap (λ x. standing script t x b) own_count ∙ still)
          (λ none. cc)
          (λ r same.
          let it : m ≡ r = cc in
          subst (λ (r : Mapping). named_entry new t b i ≡ entry_after script r i e k (entry_along script r i made)) it
          (entry_is false h
          ∙ after_is k answer m i (named_entry areas t b i) (named_entry met_areas t b i) own
          (λ x is. ap (λ y. named_entry (with_found_at place (found_in script t n y) areas) t b i) is
          ∙ value_of script t n place areas before b i m at room x (subst (AreFound script before place) is found))
          ∙ ap (entry_after script m i e k) (was_some script made e counted areas f t b i m at)))

      own_knows : named_entry new t b i ≡ known script (made ++ e ∷ []) t b i
      own_knows = by over (standing script t n b) refl refl
        where
          by : (q : Bool) (x : Option Mapping) → over ≡ q → standing script t n b ≡ x → named_entry new t b i ≡ known script (made ++ e ∷ []) t b i
          by true x h at = knows_ended h
          by false None h at = knows_none h at
          by false (Some m) h at = knows_some h m at

    room_met : (u : ℕ) (b : BufId) (x : Option Access) → room_of u b (with_found_at place (found_in script t n x) areas) ≡ room_of u b areas
    room_met u b None = refl
    room_met u b (Some a) = by (mapped_from script t n a.b)
      where
        by : (from : Option ℕ) → room_of u b (with_found_at place (option_map (λ from. record { thread = t; pages = paged a }) from) areas) ≡ room_of u b areas
        by None = refl
        by (Some from) = room_with_pages u b t a.b (place a.b) (count_from 1 ((paged a).end - (paged a).first) (paged a).first) areas

    pub follows_answer : Follows script (made ++ e ∷ []) new
    follows_answer = record {
      know = λ u b i. by u b i (u == t) refl;
      room = λ u b h. room_with_ends u b t (n + 1) script.marks met_areas ∙ room_met u b o ∙ f.room u b h;
      unborn = unborn_next script made e counted f.unborn;
    }
      where
        by : (u : ℕ) (b : BufId) (i : ℕ) (q : Bool) → (u == t) ≡ q → named_entry new u b i ≡ known script (made ++ e ∷ []) u b i
        by u b i false h = others_know u b i h
        by u b i true h = subst (λ x. named_entry new x b i ≡ known script (made ++ e ∷ []) x b i) (sym (eqb-true u t h)) (own_knows b i)
