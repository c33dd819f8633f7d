-- The twelve lists, by where each buffer belongs: taken off, put on, touched, moved in bulk.
use Rattle.std.proofs.Common.{◌≡◌, ℕ, ◌<◌, ◌≤◌, zero, suc, Bool, true, false, List, [], ◌∷◌, length, Option, Some, None, refl, sym, ◌∙◌, ap, subst, arith, length-set, ◌⊎◌, inl, inr}
use Rattle.std.specs.Prelude.{slice_get, slice_set, map, fold, cond, unwrap_or, ◌==◌, if◌then◌else◌}
use Rattle.std.proofs.lemmas.Bool.{cases_eq, cond-true, cond-false, or_from}
use Rattle.std.proofs.lemmas.Bool.Decides.{nat_tests}
use Rattle.ttm_base.specs.declared.Mem.{Mem}
use Rattle.ttm_base.specs.declared.Mem.TheVariants.{System, Tt, Vram}
use Rattle.ttm_base.specs.declared.BufId.{BufId}
use Rattle.journal_model.specs.declared.script.Script.{Script}
use Rattle.journal_model.specs.declared.script.Decl.{Decl}
use Rattle.journal_model.specs.declared.state.Buffer.{Buffer}
use Rattle.journal_model.specs.declared.state.Reservation.{Reservation}
use Rattle.journal_model.specs.rules.State.{same_buffer, has_buffer, without_buffer, live_in, reservation_in}
use Rattle.journal_model.specs.rules.Commands.{decl, undeclared}
use Rattle.journal_model.specs.scripts.ScriptRules.{is_decl}
use Rattle.journal_model.specs.rules.Lists.{list_number, is_mate, placed_in, taken_off, put_on, listed_as, touched, is_member, members_last}
use Rattle.laws.proofs.law_state.Lists.{get_mapped}
use Rattle.laws.proofs.law_state.JobsKeep.{all_at}
use Rattle.laws.proofs.law_state.Rules.{Rules}
use Rattle.laws.proofs.law_sound.Bufs.{same_self, other_is}
use Rattle.laws.proofs.law_lists.OneList.{list_of, list_in, Stands, stands_same, stands_without, stands_placed, stands_kept, stands_bulk}

-- ---- elements of lists

pub set_here : {X : Type 0} (xs : List X) (i : ℕ) (v : X) → i < length xs → slice_get (slice_set xs i v) i ≡ Some v
set_here [] i v h = absurd (omega arith)
set_here (x ∷ xs) zero v h = refl
set_here (x ∷ xs) (suc i) v h = set_here xs i v (omega arith)

pub set_there : {X : Type 0} (xs : List X) (i j : ℕ) (v : X) → (i ≡ j → ⊥) → slice_get (slice_set xs i v) j ≡ slice_get xs j
set_there [] i j v n = refl
set_there (x ∷ xs) zero zero v n = absurd (n refl)
set_there (x ∷ xs) zero (suc j) v n = refl
set_there (x ∷ xs) (suc i) zero v n = refl
set_there (x ∷ xs) (suc i) (suc j) v n = set_there xs i j v (λ e. n (ap suc e))

pub get_below : {X : Type 0} (xs : List X) (i : ℕ) → i < length xs → (x : X) × (slice_get xs i ≡ Some x)
get_below [] i h = absurd (omega arith)
get_below (x ∷ xs) zero h = (x, refl)
get_below (x ∷ xs) (suc i) h = get_below xs i (omega arith)

pub one_some : {X : Type 0} (x y : X) → Some x ≡ Some y → x ≡ y
one_some x y e = cc

length-map : {X Y : Type 0} (f : X → Y) (xs : List X) → length (map f xs) ≡ length xs
length-map f [] = refl
length-map f (x ∷ xs) = ap suc (length-map f xs)

-- ---- list numbers

low_prio : (version : ℕ) (d : Decl) → is_decl version d ≡ true → d.prio ≤ 3
low_prio version d h = grind (arith, nat_tests)

declared_prio : (script : Script) → Rules script → (b : BufId) → (decl script b).prio ≤ 3
declared_prio script r b = by (slice_get script.buffers b.0) refl
  where
    by : (o : Option Decl) → slice_get script.buffers b.0 ≡ o → (unwrap_or o undeclared).prio ≤ 3
    by None e = omega arith
    by (Some d) e = low_prio script.version d (all_at (is_decl script.version) script.buffers b.0 d r.decls e)

number_low : (mem : Mem) (prio : ℕ) → prio ≤ 3 → list_number mem prio < 12
number_low System prio h = omega (arith, h)
number_low Tt prio h = omega (arith, h)
number_low Vram prio h = omega (arith, h)

pub number_below : (script : Script) → Rules script → (b : BufId) (mem : Mem) → list_number mem (decl script b).prio < 12
number_below script r b mem = number_low mem (decl script b).prio (declared_prio script r b)

-- ---- all lists

pub record Fit (script : Script) (f : BufId → Option ℕ) (lists : List (List BufId)) : Type 0 where
  pub twelve : length lists ≡ 12
  pub each : (i : ℕ) (l : List BufId) → slice_get lists i ≡ Some l → Stands script f i l

pub fit_same : (script : Script) (f g : BufId → Option ℕ) (lists : List (List BufId)) → ((d : BufId) → g d ≡ f d) → Fit script f lists → Fit script g lists
fit_same script f g lists same fit = record { twelve = fit.twelve; each = λ i l h. stands_same script f g i l same (fit.each i l h) }

pub fit_bulk : (script : Script) (f : BufId → Option ℕ) (group : ℕ) (lists : List (List BufId)) → Fit script f lists → Fit script f (map (members_last (is_member script group)) lists)
fit_bulk script f group lists fit =
    record {
      twelve = length-map (members_last (is_member script group)) lists ∙ fit.twelve;
      each = λ i l h.
          let r = get_mapped (members_last (is_member script group)) lists l i h in
          subst (Stands script f i) (sym r.2) (stands_bulk script f group i r.0 (fit.each i r.0 r.1));
    }

module _ (script : Script) (b : BufId) where
  pub fit_off : (f g : BufId → Option ℕ) (lists : List (List BufId)) → ((d : BufId) → (d ≡ b → ⊥) → g d ≡ f d) → g b ≡ None → Fit script f lists → Fit script g (taken_off lists b)
  fit_off f g lists others none fit =
      record {
        twelve = length-map (λ l. without_buffer l b) lists ∙ fit.twelve;
        each = λ i l h.
            let r = get_mapped (λ l. without_buffer l b) lists l i h in
            subst (Stands script g i) (sym r.2) (stands_without script f g b others i r.0 (fit.each i r.0 r.1) none);
      }

  fit_on : (f g : BufId → Option ℕ) (lists : List (List BufId)) (n : ℕ) → ((d : BufId) → (d ≡ b → ⊥) → g d ≡ f d) → f b ≡ None → g b ≡ Some n → n < 12 → Fit script f lists
      → Fit script g (slice_set lists n (placed_in (is_mate script b) b (unwrap_or (slice_get lists n) [])))
  fit_on f g lists n others none here low fit =
      record {
        twelve = length-set lists n _ ∙ fit.twelve;
        each = λ i l h. by i l h (cases_eq i n);
      }
    where
      placed_there : (o : Option (List BufId)) → slice_get lists n ≡ o → Stands script g n (placed_in (is_mate script b) b (unwrap_or o []))
      placed_there None e =
          let many = fit.twelve in
          let r = get_below lists n (omega (arith, low, many)) in
          absurd (let q : Some r.0 ≡ None = sym r.1 ∙ e in cc)
      placed_there (Some old) e = stands_placed script f g b others n old (fit.each n old e) none here

      at_n : (l : List BufId) → slice_get (slice_set lists n (placed_in (is_mate script b) b (unwrap_or (slice_get lists n) []))) n ≡ Some l → Stands script g n l
      at_n l h =
          let many = fit.twelve in
          subst (Stands script g n)
          (one_some (placed_in (is_mate script b) b (unwrap_or (slice_get lists n) [])) l (sym (set_here lists n (placed_in (is_mate script b) b (unwrap_or (slice_get lists n) [])) (omega (arith, low, many))) ∙ h))
          (placed_there (slice_get lists n) refl)

      by : (i : ℕ) (l : List BufId) → slice_get (slice_set lists n (placed_in (is_mate script b) b (unwrap_or (slice_get lists n) []))) i ≡ Some l → (i ≡ n) ⊎ (i ≡ n → ⊥) → Stands script g i l
      by i l h (inl e) = subst (λ j. Stands script g j l) (sym e) (at_n l (subst (λ j. slice_get (slice_set lists n (placed_in (is_mate script b) b (unwrap_or (slice_get lists n) []))) j ≡ Some l) e h))
      by i l h (inr d) =
          stands_kept script f g b others i l
          (fit.each i l (sym (set_there lists n i (placed_in (is_mate script b) b (unwrap_or (slice_get lists n) [])) (λ e. d (sym e))) ∙ h)) n none here d

  pub fit_listed : Rules script → (f g : BufId → Option ℕ) (lists : List (List BufId)) (reservation : Reservation) (o : Option Buffer) → ((d : BufId) → (d ≡ b → ⊥) → g d ≡ f d) → g b ≡ list_of script b reservation.pins o → Fit script f lists
      → Fit script g (listed_as script lists b reservation o)
  fit_listed r f g lists reservation None others here fit = fit_off f g lists others here fit
  fit_listed r f g lists reservation (Some x) others here fit = by (reservation.pins == 0) here
    where
      off : Fit script (λ d. cond (same_buffer d b) None (f d)) (taken_off lists b)
      off = fit_off f (λ d. cond (same_buffer d b) None (f d)) lists (λ d n. cond-false (same_buffer d b) None (f d) (other_is d b n)) (cond-true (same_buffer b b) None (f b) (same_self b)) fit

      by : (q : Bool) → g b ≡ (if q then Some (list_number x.mem (decl script b).prio) else None) → Fit script g (if q then put_on script (taken_off lists b) b x.mem else taken_off lists b)
      by true k =
          fit_on (λ d. cond (same_buffer d b) None (f d)) g (taken_off lists b) (list_number x.mem (decl script b).prio)
          (λ d n. others d n ∙ sym (cond-false (same_buffer d b) None (f d) (other_is d b n)))
          (cond-true (same_buffer b b) None (f b) (same_self b)) k (number_below script r b x.mem) off
      by false k = fit_off f g lists others k fit

-- ---- several touched

module _ (script : Script) (r : Rules script) (buffers : List (Option Buffer)) (reservations : List Reservation) where
  pub fit_touched : (f : BufId → Option ℕ) (lists : List (List BufId)) (b : BufId) → ((d : BufId) → (d ≡ b → ⊥) → list_in script reservations buffers d ≡ f d) → Fit script f lists
      → Fit script (list_in script reservations buffers) (touched script buffers reservations lists b)
  fit_touched f lists b others fit = fit_listed script b r f (list_in script reservations buffers) lists (reservation_in reservations b) (live_in buffers b) others refl fit

  pub fit_all_touched : (bs : List BufId) (f : BufId → Option ℕ) (lists : List (List BufId)) → ((d : BufId) → has_buffer bs d ≡ false → list_in script reservations buffers d ≡ f d) → Fit script f lists
      → Fit script (list_in script reservations buffers) (fold (touched script buffers reservations) lists bs)
  fit_all_touched [] f lists others fit = fit_same script f (list_in script reservations buffers) lists (λ d. others d refl) fit
  fit_all_touched (b ∷ bs) f lists others fit =
      fit_all_touched bs (λ d. cond (same_buffer d b) (list_in script reservations buffers d) (f d)) (touched script buffers reservations lists b)
      (λ d h. by d (same_buffer d b) refl h)
      (fit_listed script b r f (λ d. cond (same_buffer d b) (list_in script reservations buffers d) (f d)) lists (reservation_in reservations b) (live_in buffers b)
      (λ d n. cond-false (same_buffer d b) (list_in script reservations buffers d) (f d) (other_is d b n))
      (cond-true (same_buffer b b) (list_in script reservations buffers b) (f b) (same_self b)) fit)
    where
      by : (d : BufId) (q : Bool) → same_buffer d b ≡ q → has_buffer bs d ≡ false → list_in script reservations buffers d ≡ cond q (list_in script reservations buffers d) (f d)
      by d true e h = refl
      by d false e h = others d (or_from (same_buffer d b) (has_buffer bs d) e h)
