-- The entries of a thread since a buffer's last target, as the journal grows.
use Rattle.std.proofs.Common.{◌≡◌, ℕ, ◌+◌, zero, suc, Bool, true, false, List, [], ◌∷◌, ◌++◌, Option, Some, None, refl, sym, ◌∙◌, ap, ap₂, subst, arith, append-nil, ◌⊎◌, ⊎_elim}
use Rattle.std.specs.Prelude.{filter, filter_map, find, cond, is_some, ◌||◌, ◌&&◌, if◌then◌else◌}
use Rattle.std.specs.List.{list_any, list_all, cons_option}
use Rattle.std.specs.Option.{option_or}
use Rattle.std.proofs.lemmas.Bool.{cases_Bool, or_parts, or_left, or_right}
use Rattle.std.proofs.lemmas.List.Folds.{find-append, list_any-append, list_all-append}
use Rattle.std.proofs.lemmas.List.Elements.{filter-append, filter_map-append}
use Rattle.ttm_base.specs.declared.BufId.{BufId}
use Rattle.ttm_base.specs.declared.FlaggedPlace.{FlaggedPlace}
use Rattle.ttm_base.specs.ListWords.{count_from}
use Rattle.ttm_base.specs.Placement.{forced_places}
use Rattle.journal_model.specs.declared.script.Script.{Script}
use Rattle.journal_model.specs.rules.Legal.{Made}
use Rattle.journal_model.specs.statements.Complete.{is_answer, is_by_thread}
use Rattle.journal_model.specs.statements.Causes.{since_last, in_command, is_take_of, dry_of, presses, is_at_work, places_sought, is_dry_place, was_dry, search_of, shows_pressure}
use Rattle.laws.proofs.lemma_causes_trail.Found.{no_first}

-- ---- one entry more

module _ {X : Type 0} (p : X → Bool) where
  any_new : (xs : List X) (x : X) → p x ≡ true → list_any p (xs ++ x ∷ []) ≡ true
  any_new xs x h = list_any-append p xs (x ∷ []) ∙ or_right (list_any p xs) (p x || false) (or_left (p x) false h)

  pub any_same : (xs : List X) (x : X) → p x ≡ false → list_any p (xs ++ x ∷ []) ≡ list_any p xs
  any_same xs x h = list_any-append p xs (x ∷ []) ∙ by (list_any p xs) (p x) h
    where
      by : (a b : Bool) → b ≡ false → (a || (b || false)) ≡ a
      by true b h = refl
      by false b h = ap (λ q. q || false) h

  pub any_more : (xs ys : List X) → list_any p xs ≡ true → list_any p (xs ++ ys) ≡ true
  any_more xs ys h = list_any-append p xs ys ∙ or_left (list_any p xs) (list_any p ys) h

  filter_new : (xs : List X) (x : X) → p x ≡ true → filter p (xs ++ x ∷ []) ≡ filter p xs ++ x ∷ []
  filter_new xs x h = filter-append p xs (x ∷ []) ∙ ap (λ q. filter p xs ++ cond q (x ∷ []) []) h

  filter_less : (xs : List X) (x : X) → p x ≡ false → filter p (xs ++ x ∷ []) ≡ filter p xs
  filter_less xs x h = filter-append p xs (x ∷ []) ∙ (ap (λ q. filter p xs ++ cond q (x ∷ []) []) h ∙ append-nil (filter p xs))

  none_of : (xs : List X) → list_any p xs ≡ false → find p xs ≡ None
  none_of [] h = refl
  none_of (x ∷ xs) h = let q = or_parts (p x) (list_any p xs) h in ap (λ b. cond b (Some x) (find p xs)) q.0 ∙ none_of xs q.1

  find_more : (xs ys : List X) (x : X) → find p xs ≡ Some x → find p (xs ++ ys) ≡ Some x
  find_more xs ys x h = find-append p xs ys ∙ ap (λ o. option_or o (find p ys)) h

  find_new : (xs : List X) (x : X) → list_any p xs ≡ false → p x ≡ true → find p (xs ++ x ∷ []) ≡ Some x
  find_new xs x h k = find-append p xs (x ∷ []) ∙ (ap (λ o. option_or o (find p (x ∷ []))) (none_of xs h) ∙ ap (λ b. cond b (Some x) None) k)

  behind_cut : (xs : List X) (x : X) → p x ≡ true → since_last p (xs ++ x ∷ []) ≡ []
  behind_cut [] x h = ap (λ q. if q then [] else x ∷ []) h
  behind_cut (y ∷ ys) x h =
      ap (λ q. if q then since_last p (ys ++ x ∷ []) else if p y then ys ++ x ∷ [] else y ∷ (ys ++ x ∷ [])) (any_new ys x h) ∙ behind_cut ys x h

  behind_kept : (xs : List X) (x : X) → p x ≡ false → since_last p (xs ++ x ∷ []) ≡ since_last p xs ++ x ∷ []
  behind_kept [] x h = ap (λ q. if q then [] else x ∷ []) h
  behind_kept (y ∷ ys) x h = by (list_any p ys) (list_any p (ys ++ x ∷ [])) (any_same ys x h) (p y) (behind_kept ys x h)
    where
      by : (a b : Bool) → b ≡ a → (r : Bool) → since_last p (ys ++ x ∷ []) ≡ since_last p ys ++ x ∷ [] →
          (if b then since_last p (ys ++ x ∷ []) else if r then ys ++ x ∷ [] else y ∷ (ys ++ x ∷ [])) ≡ (if a then since_last p ys else if r then ys else y ∷ ys) ++ x ∷ []
      by true true e r rest = rest
      by false false e true rest = refl
      by false false e false rest = refl
      by true false e r rest = cc
      by false true e r rest = cc

map_new : {X Y : Type 0} (f : X → Option Y) (xs : List X) (x : X) (y : Y) → f x ≡ Some y → filter_map f (xs ++ x ∷ []) ≡ filter_map f xs ++ y ∷ []
map_new f xs x y h = filter_map-append f xs (x ∷ []) ∙ ap (λ l. filter_map f xs ++ l) (ap (λ o. cons_option o []) h)

-- ---- a thread's window

abbrev takes : BufId → Made → Bool
takes b m = is_take_of b m.entry.kind

abbrev pub ends : BufId → Made → Bool
ends b m = is_answer m.entry.kind || takes b m

abbrev mine : ℕ → List Made → List Made
mine t j = filter (λ m. is_by_thread t m.entry.who) j

module _ (script : Script) (t : ℕ) (j : List Made) (m : Made) where
  -- the command's entries
  pub others_command : is_by_thread t m.entry.who ≡ false → in_command t (j ++ m ∷ []) ≡ in_command t j
  others_command h = ap (since_last (λ x. is_answer x.entry.kind)) (filter_less (λ x. is_by_thread t x.entry.who) j m h)

  pub cut_command : is_by_thread t m.entry.who ≡ true → is_answer m.entry.kind ≡ true → in_command t (j ++ m ∷ []) ≡ []
  cut_command h e =
      ap (since_last (λ x. is_answer x.entry.kind)) (filter_new (λ x. is_by_thread t x.entry.who) j m h)
      ∙ behind_cut (λ x. is_answer x.entry.kind) (mine t j) m e

  pub more_command : is_by_thread t m.entry.who ≡ true → is_answer m.entry.kind ≡ false → in_command t (j ++ m ∷ []) ≡ in_command t j ++ m ∷ []
  more_command h e =
      ap (since_last (λ x. is_answer x.entry.kind)) (filter_new (λ x. is_by_thread t x.entry.who) j m h)
      ∙ behind_kept (λ x. is_answer x.entry.kind) (mine t j) m e

  -- those of a search
  abbrev since_take : BufId → List Made → List Made
  since_take b l = filter (is_at_work script t b) (since_last (takes b) l)

  pub others_window : (b : BufId) → is_by_thread t m.entry.who ≡ false → search_of script t b (j ++ m ∷ []) ≡ search_of script t b j
  others_window b h = ap (since_take b) (others_command h)

  pub cut_window : (b : BufId) → is_by_thread t m.entry.who ≡ true → ends b m ≡ true → search_of script t b (j ++ m ∷ []) ≡ []
  cut_window b h e =
      ⊎_elim
      (λ a. ap (since_take b) (cut_command h a))
      (λ a. ap (since_take b) (more_command h a) ∙ ap (filter (is_at_work script t b)) (behind_cut (takes b) (in_command t j) m (ap (λ q. q || takes b m) (sym a) ∙ e)))
      (cases_Bool (is_answer m.entry.kind))

  grown : (b : BufId) → is_by_thread t m.entry.who ≡ true → ends b m ≡ false → search_of script t b (j ++ m ∷ []) ≡ filter (is_at_work script t b) (since_last (takes b) (in_command t j) ++ m ∷ [])
  grown b h e =
      let q = or_parts (is_answer m.entry.kind) (takes b m) e in
      ap (since_take b) (more_command h q.0) ∙ ap (filter (is_at_work script t b)) (behind_kept (takes b) (in_command t j) m q.1)

  pub same_window : (b : BufId) → is_by_thread t m.entry.who ≡ true → ends b m ≡ false → is_at_work script t b m ≡ false → search_of script t b (j ++ m ∷ []) ≡ search_of script t b j
  same_window b h e a = grown b h e ∙ filter_less (is_at_work script t b) (since_last (takes b) (in_command t j)) m a

  pub more_window : (b : BufId) → is_by_thread t m.entry.who ≡ true → ends b m ≡ false → is_at_work script t b m ≡ true → search_of script t b (j ++ m ∷ []) ≡ search_of script t b j ++ m ∷ []
  more_window b h e a = grown b h e ∙ filter_new (is_at_work script t b) (since_last (takes b) (in_command t j)) m a

-- ---- windows without pressure

abbrev pub Quiet : Script → ℕ → BufId → List Made → Type 0
Quiet script t b j = list_any (shows_pressure b) (search_of script t b j) ≡ false

module _ (script : Script) (t : ℕ) (j : List Made) (m : Made) (b : BufId) where
  pub quiet_others : is_by_thread t m.entry.who ≡ false → Quiet script t b j → Quiet script t b (j ++ m ∷ [])
  quiet_others h q = ap (list_any (shows_pressure b)) (others_window script t j m b h) ∙ q

  pub quiet_cut : is_by_thread t m.entry.who ≡ true → ends b m ≡ true → Quiet script t b (j ++ m ∷ [])
  quiet_cut h e = ap (list_any (shows_pressure b)) (cut_window script t j m b h e)

  pub quiet_elsewhere : is_by_thread t m.entry.who ≡ true → is_at_work script t b m ≡ false → Quiet script t b j → Quiet script t b (j ++ m ∷ [])
  quiet_elsewhere h a q =
      ⊎_elim (λ e. quiet_cut h e) (λ e. ap (list_any (shows_pressure b)) (same_window script t j m b h e a) ∙ q) (cases_Bool (ends b m))

  pub quiet_kept : is_by_thread t m.entry.who ≡ true → shows_pressure b m ≡ false → Quiet script t b j → Quiet script t b (j ++ m ∷ [])
  quiet_kept h n q = ⊎_elim (λ e. quiet_cut h e) (λ e. by e) (cases_Bool (ends b m))
    where
      by : ends b m ≡ false → Quiet script t b (j ++ m ∷ [])
      by e =
          ⊎_elim
          (λ a. ap (list_any (shows_pressure b)) (more_window script t j m b h e a) ∙ (any_same (shows_pressure b) (search_of script t b j) m n ∙ q))
          (λ a. ap (list_any (shows_pressure b)) (same_window script t j m b h e a) ∙ q)
          (cases_Bool (is_at_work script t b m))

-- ---- a search under pressure

-- from an entry on the search is under pressure: then no first place had a choice, and so many forced places went dry, in order
pub record Trail (script : Script) (t : ℕ) (b : BufId) (list : List FlaggedPlace) (n : ℕ) (window : List Made) : Type 0 where
  pub first : Made
  pub found : find (shows_pressure b) window ≡ Some first
  pub same : places_sought script first.before t b ≡ list
  pub free : no_first script first.before b list ≡ true
  pub numbers : filter_map (λ m. dry_of b m.entry.kind) window ≡ count_from 1 n 0
  pub drys : list_all (was_dry script t b (forced_places list)) window ≡ true

-- one number more
count_more : (n start : ℕ) → count_from 1 n start ++ (n + start) ∷ [] ≡ count_from 1 (suc n) start
count_more zero start = let e : 0 + start ≡ start = omega arith in ap (λ i. i ∷ []) e
count_more (suc n) start = let e : suc n + start ≡ n + (1 + start) = omega arith in ap (λ l. start ∷ l) (ap (λ i. count_from 1 n (1 + start) ++ i ∷ []) e ∙ count_more n (1 + start))

none_is : (o : Option ℕ) → is_some o ≡ false → o ≡ None
none_is None h = refl
none_is (Some z) h = cc

module _ (script : Script) (t : ℕ) (b : BufId) (list : List FlaggedPlace) where
  quiet_numbers : (xs : List Made) → list_any (shows_pressure b) xs ≡ false → filter_map (λ m. dry_of b m.entry.kind) xs ≡ []
  quiet_numbers [] h = refl
  quiet_numbers (x ∷ xs) h =
      let q = or_parts (shows_pressure b x) (list_any (shows_pressure b) xs) h in
      ap (λ o. cons_option o (filter_map (λ m. dry_of b m.entry.kind) xs)) (none_is (dry_of b x.entry.kind) (or_parts (is_some (dry_of b x.entry.kind)) (presses x.entry.kind) q.0).0) ∙ quiet_numbers xs q.1

  pub other_dry : (m : Made) → dry_of b m.entry.kind ≡ None → was_dry script t b (forced_places list) m ≡ true
  other_dry m e = ap (λ o. elim o [ None ↦ true | Some k ↦ is_dry_place script m.before t b (forced_places list) k ]) e

  quiet_drys : (xs : List Made) → list_any (shows_pressure b) xs ≡ false → list_all (was_dry script t b (forced_places list)) xs ≡ true
  quiet_drys [] h = refl
  quiet_drys (x ∷ xs) h =
      let q = or_parts (shows_pressure b x) (list_any (shows_pressure b) xs) h in
      let none = none_is (dry_of b x.entry.kind) (or_parts (is_some (dry_of b x.entry.kind)) (presses x.entry.kind) q.0).0 in
      ap₂ (λ a c. a && c) (other_dry x none) (quiet_drys xs q.1)

  all_new : (xs : List Made) (m : Made) → list_all (was_dry script t b (forced_places list)) xs ≡ true → was_dry script t b (forced_places list) m ≡ true →
      list_all (was_dry script t b (forced_places list)) (xs ++ m ∷ []) ≡ true
  all_new xs m h k = list_all-append (was_dry script t b (forced_places list)) xs (m ∷ []) ∙ ap₂ (λ a c. a && (c && true)) h k

  no_number : (xs : List Made) (m : Made) → dry_of b m.entry.kind ≡ None → filter_map (λ x. dry_of b x.entry.kind) (xs ++ m ∷ []) ≡ filter_map (λ x. dry_of b x.entry.kind) xs
  no_number xs m e = filter_map-append (λ x. dry_of b x.entry.kind) xs (m ∷ []) ∙ (ap (λ o. filter_map (λ x. dry_of b x.entry.kind) xs ++ cons_option o []) e ∙ append-nil (filter_map (λ x. dry_of b x.entry.kind) xs))

  -- the search comes under pressure by a victim
  pub trail_by_victim : (xs : List Made) (m : Made) → list_any (shows_pressure b) xs ≡ false → shows_pressure b m ≡ true → dry_of b m.entry.kind ≡ None → places_sought script m.before t b ≡ list → no_first script m.before b list ≡ true
      → Trail script t b list 0 (xs ++ m ∷ [])
  trail_by_victim xs m quiet h e same free =
      record {
        first = m;
        found = find_new (shows_pressure b) xs m quiet h;
        same = same;
        free = free;
        numbers = no_number xs m e ∙ quiet_numbers xs quiet;
        drys = all_new xs m (quiet_drys xs quiet) (other_dry m e);
      }

  -- or by a dry place
  pub trail_by_dry : (xs : List Made) (m : Made) → list_any (shows_pressure b) xs ≡ false → dry_of b m.entry.kind ≡ Some 0 → was_dry script t b (forced_places list) m ≡ true → places_sought script m.before t b ≡ list
      → no_first script m.before b list ≡ true → Trail script t b list 1 (xs ++ m ∷ [])
  trail_by_dry xs m quiet e d same free =
      record {
        first = m;
        found = find_new (shows_pressure b) xs m quiet (or_left (is_some (dry_of b m.entry.kind)) (presses m.entry.kind) (ap is_some e));
        same = same;
        free = free;
        numbers = map_new (λ x. dry_of b x.entry.kind) xs m 0 e ∙ ap (λ l. l ++ 0 ∷ []) (quiet_numbers xs quiet);
        drys = all_new xs m (quiet_drys xs quiet) d;
      }

  -- other entries
  pub trail_more : (n : ℕ) (xs : List Made) (m : Made) → dry_of b m.entry.kind ≡ None → Trail script t b list n xs → Trail script t b list n (xs ++ m ∷ [])
  trail_more n xs m e r =
      record {
        first = r.first;
        found = find_more (shows_pressure b) xs (m ∷ []) r.first r.found;
        same = r.same;
        free = r.free;
        numbers = no_number xs m e ∙ r.numbers;
        drys = all_new xs m r.drys (other_dry m e);
      }

  -- one more dry place
  pub trail_dry : (n : ℕ) (xs : List Made) (m : Made) → dry_of b m.entry.kind ≡ Some n → was_dry script t b (forced_places list) m ≡ true → Trail script t b list n xs → Trail script t b list (suc n) (xs ++ m ∷ [])
  trail_dry n xs m e d r =
      record {
        first = r.first;
        found = find_more (shows_pressure b) xs (m ∷ []) r.first r.found;
        same = r.same;
        free = r.free;
        numbers = map_new (λ x. dry_of b x.entry.kind) xs m n e ∙ (ap (λ l. l ++ n ∷ []) r.numbers ∙ (let z : n ≡ n + 0 = omega arith in ap (λ i. count_from 1 n 0 ++ i ∷ []) z ∙ count_more n 0));
        drys = all_new xs m r.drys d;
      }

-- an entry that neither ends the window nor is dry for the buffer
pub trail_goes_on : (script : Script) (t : ℕ) (b : BufId) (list : List FlaggedPlace) (n : ℕ) (j : List Made) (m : Made) → is_by_thread t m.entry.who ≡ true → ends b m ≡ false → dry_of b m.entry.kind ≡ None
    → Trail script t b list n (search_of script t b j) → Trail script t b list n (search_of script t b (j ++ m ∷ []))
trail_goes_on script t b list n j m h e d r =
    ⊎_elim
    (λ a. subst (Trail script t b list n) (sym (more_window script t j m b h e a)) (trail_more script t b list n (search_of script t b j) m d r))
    (λ a. subst (Trail script t b list n) (sym (same_window script t j m b h e a)) r)
    (cases_Bool (is_at_work script t b m))
