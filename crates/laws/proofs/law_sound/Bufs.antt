-- Lists of buffers and of victims, and which of them have a buffer.
use Rattle.std.proofs.Common.{◌≡◌, Bool, true, false, List, [], ◌∷◌, ◌++◌, Option, Some, None, refl, sym, ◌∙◌, ap, subst, arith, ◌⊎◌, inl, inr, ⊎_elim}
use Rattle.std.specs.Prelude.{not, ◌||◌, filter, map, find, option_to_list, cond, if◌then◌else◌}
use Rattle.std.proofs.lemmas.Bool.{cases_eq, cases_Bool, or_cases, or_left, or_right, not-true, false_from_ne_true}
use Rattle.std.proofs.lemmas.Bool.Decides.{nat_tests}
use Rattle.std.proofs.lemmas.List.Folds.{list_any-append}
use Rattle.ttm_base.specs.ListWords.{last_of, last_or}
use Rattle.ttm_base.specs.declared.BufId.{BufId}
use Rattle.ttm_base.specs.declared.Deny.{Deny}
use Rattle.journal_model.specs.declared.script.Command.{Command}
use Rattle.journal_model.specs.declared.state.Course.{Course}
use Rattle.journal_model.specs.declared.state.Victim.{Victim}
use Rattle.journal_model.specs.rules.State.{same_buffer, has_buffer, without_buffer}
use Rattle.journal_model.specs.rules.Commands.{named}
use Rattle.journal_model.specs.rules.Search.{is_caught}
use Rattle.journal_model.specs.rules.Tasks.{first_missing}
use Rattle.journal_model.specs.rules.ApplyVictims.{failed_if}

pub same_self : (b : BufId) → same_buffer b b ≡ true
same_self b = grind (arith, nat_tests)

pub same_is : (a b : BufId) → same_buffer a b ≡ true → a ≡ b
same_is a b h = let n : a.0 ≡ b.0 = grind (arith, nat_tests) in ap (λ i. record { 0 = i }) n

pub same_or_other : (a b : BufId) → (a ≡ b) ⊎ (a ≡ b → ⊥)
same_or_other a b = ⊎_elim (λ e. inl (ap (λ i. record { 0 = i }) e)) (λ d. inr (λ e. d (ap (λ x. x.0) e))) (cases_eq a.0 b.0)

pub other_is : (a b : BufId) → (a ≡ b → ⊥) → same_buffer a b ≡ false
other_is a b d = false_from_ne_true (same_buffer a b) (λ h. d (same_is a b h))

pub clash : true ≡ false → ⊥
clash h = cc

-- ---- one more

pub has_pushed : (bs : List BufId) (b d : BufId) → has_buffer (bs ++ b ∷ []) d ≡ true → (has_buffer bs d ≡ true) ⊎ (d ≡ b)
has_pushed bs b d h =
    ⊎_elim (λ k. inl k) (λ k. inr (⊎_elim (λ q. same_is d b q) (λ q. absurd (let z : false ≡ true = q in cc)) (or_cases (same_buffer d b) false k)))
    (or_cases (has_buffer bs d) (same_buffer d b || false) (sym (list_any-append (same_buffer d) bs (b ∷ [])) ∙ h))

pub has_more : (bs : List BufId) (b d : BufId) → has_buffer bs d ≡ true → has_buffer (bs ++ b ∷ []) d ≡ true
has_more bs b d h = list_any-append (same_buffer d) bs (b ∷ []) ∙ or_left (has_buffer bs d) (same_buffer d b || false) h

pub has_new : (bs : List BufId) (b : BufId) → has_buffer (bs ++ b ∷ []) b ≡ true
has_new bs b = list_any-append (same_buffer b) bs (b ∷ []) ∙ or_right (has_buffer bs b) (same_buffer b b || false) (or_left (same_buffer b b) false (same_self b))

pub has_found : (p : BufId → Bool) (bs : List BufId) (b : BufId) → find p bs ≡ Some b → has_buffer bs b ≡ true
has_found p [] b h = cc
has_found p (c ∷ bs) b h =
    ⊎_elim
    (λ q. let it : c ≡ b = grind arith in or_left (same_buffer b c) (has_buffer bs b) (subst (λ d. same_buffer b d ≡ true) (sym it) (same_self b)))
    (λ q. let later : find p bs ≡ Some b = grind arith in or_right (same_buffer b c) (has_buffer bs b) (has_found p bs b later))
    (cases_Bool (p c))

pub found_passes : {X : Type 0} (p : X → Bool) (xs : List X) (x : X) → find p xs ≡ Some x → p x ≡ true
found_passes p [] x e = cc
found_passes p (y ∷ xs) x e =
    ⊎_elim
    (λ h. let it : y ≡ x = grind arith in subst (λ z. p z ≡ true) it h)
    (λ h. let later : find p xs ≡ Some x = grind arith in found_passes p xs x later)
    (cases_Bool (p y))

pub none_found : (p : BufId → Bool) (bs : List BufId) (b : BufId) → find p bs ≡ None → has_buffer bs b ≡ true → p b ≡ false
none_found p [] b h q = cc
none_found p (c ∷ bs) b h q =
    let here : p c ≡ false = ⊎_elim (λ k. absurd (taken (p c) k h)) (λ k. k) (cases_Bool (p c)) in
    let later : find p bs ≡ None = grind arith in
    ⊎_elim (λ k. subst (λ d. p d ≡ false) (sym (same_is b c k)) here) (λ k. none_found p bs b later k) (or_cases (same_buffer b c) (has_buffer bs b) q)
  where
    taken : (t : Bool) → t ≡ true → cond t (Some c) (find p bs) ≡ None → ⊥
    taken true k h = cc
    taken false k h = cc

-- ---- fewer

pub has_without : (bs : List BufId) (b d : BufId) → has_buffer (without_buffer bs b) d ≡ true → has_buffer bs d ≡ true
has_without [] b d h = h
has_without (c ∷ bs) b d h = by (same_buffer b c) h (λ k. has_without bs b d k)
  where
    by : (q : Bool) → has_buffer (cond (not q) (c ∷ without_buffer bs b) (without_buffer bs b)) d ≡ true → (has_buffer (without_buffer bs b) d ≡ true → has_buffer bs d ≡ true) → (same_buffer d c || has_buffer bs d) ≡ true
    by true k rest = or_right (same_buffer d c) (has_buffer bs d) (rest k)
    by false k rest = ⊎_elim (λ q. or_left (same_buffer d c) (has_buffer bs d) q) (λ q. or_right (same_buffer d c) (has_buffer bs d) (rest q)) (or_cases (same_buffer d c) (has_buffer (without_buffer bs b) d) k)

pub without_gone : (bs : List BufId) (b : BufId) → has_buffer (without_buffer bs b) b ≡ false
without_gone [] b = refl
without_gone (c ∷ bs) b = by (same_buffer b c) refl (without_gone bs b)
  where
    by : (q : Bool) → same_buffer b c ≡ q → has_buffer (without_buffer bs b) b ≡ false → has_buffer (cond (not q) (c ∷ without_buffer bs b) (without_buffer bs b)) b ≡ false
    by true e rest = rest
    by false e rest = ap (λ q. q || has_buffer (without_buffer bs b) b) e ∙ rest

pub without_kept : (bs : List BufId) (b d : BufId) → (d ≡ b → ⊥) → has_buffer bs d ≡ true → has_buffer (without_buffer bs b) d ≡ true
without_kept [] b d other h = h
without_kept (c ∷ bs) b d other h = by (same_buffer b c) refl (λ k. without_kept bs b d other k)
  where
    by : (q : Bool) → same_buffer b c ≡ q → (has_buffer bs d ≡ true → has_buffer (without_buffer bs b) d ≡ true) → has_buffer (cond (not q) (c ∷ without_buffer bs b) (without_buffer bs b)) d ≡ true
    by true e rest = ⊎_elim (λ k. absurd (other (same_is d c k ∙ sym (same_is b c e)))) rest (or_cases (same_buffer d c) (has_buffer bs d) h)
    by false e rest = ⊎_elim (λ k. or_left (same_buffer d c) (has_buffer (without_buffer bs b) d) k) (λ k. or_right (same_buffer d c) (has_buffer (without_buffer bs b) d) (rest k)) (or_cases (same_buffer d c) (has_buffer bs d) h)

-- ---- victims

abbrev pub victims_of : List Victim → List BufId
victims_of vs = map (λ v. v.b) vs

abbrev pub let_go : BufId → List Victim → List Victim
let_go b vs = filter (λ v. not (same_buffer b v.b)) vs

pub names_let_go : (b : BufId) (vs : List Victim) → victims_of (let_go b vs) ≡ without_buffer (victims_of vs) b
names_let_go b [] = refl
names_let_go b (v ∷ vs) = by (same_buffer b v.b) (names_let_go b vs)
  where
    by : (q : Bool) → victims_of (let_go b vs) ≡ without_buffer (victims_of vs) b → victims_of (cond (not q) (v ∷ let_go b vs) (let_go b vs)) ≡ cond (not q) (v.b ∷ without_buffer (victims_of vs) b) (without_buffer (victims_of vs) b)
    by true e = e
    by false e = ap (λ bs. v.b ∷ bs) e

pub names_failed : (d : Deny) (b : BufId) (vs : List Victim) → victims_of (map (failed_if d b) vs) ≡ victims_of vs
names_failed d b [] = refl
names_failed d b (v ∷ vs) = by (same_buffer b v.b) (names_failed d b vs)
  where
    by : (q : Bool) → victims_of (map (failed_if d b) vs) ≡ victims_of vs → (if q then record v { fail = Some d } else v).b ∷ victims_of (map (failed_if d b) vs) ≡ v.b ∷ victims_of vs
    by true e = ap (λ bs. v.b ∷ bs) e
    by false e = ap (λ bs. v.b ∷ bs) e

pub names_pushed : (vs : List Victim) (v : Victim) → victims_of (vs ++ v ∷ []) ≡ victims_of vs ++ v.b ∷ []
names_pushed [] v = refl
names_pushed (w ∷ vs) v = ap (λ bs. w.b ∷ bs) (names_pushed vs v)

last_is_there : (v w : Victim) (vs : List Victim) → last_or w vs ≡ v → has_buffer (victims_of (w ∷ vs)) v.b ≡ true
last_is_there v w [] e = or_left (same_buffer v.b w.b) false (subst (λ u. same_buffer u.b w.b ≡ true) e (same_self w.b))
last_is_there v w (x ∷ vs) e = or_right (same_buffer v.b w.b) (has_buffer (victims_of (x ∷ vs)) v.b) (last_is_there v x vs e)

-- the last victim is caught
pub last_caught : (c : Course) (v : Victim) → last_of c.caught ≡ Some v → is_caught c v.b ≡ true
last_caught c v h = by c.caught h
  where
    by : (vs : List Victim) → last_of vs ≡ Some v → has_buffer (victims_of vs) v.b ≡ true
    by [] h = cc
    by (w ∷ vs) h = last_is_there v w vs (let it : last_or w vs ≡ v = cc in it)

pub none_last : (vs : List Victim) → last_of vs ≡ None → vs ≡ []
none_last [] h = refl
none_last (v ∷ vs) h = cc

pub none_caught : (c : Course) (b : BufId) → c.caught ≡ [] → is_caught c b ≡ true → ⊥
none_caught c b e h = clash (sym h ∙ ap (λ vs. has_buffer (victims_of vs) b) e)

-- ---- what is missing

-- what is wanted is named, or came first
pub missing_is_named : (c : Course) (cmd : Command) (b : BufId) → first_missing c cmd ≡ Some b → (c.first ≡ Some b → has_buffer (named cmd) b ≡ true) → has_buffer (named cmd) b ≡ true
missing_is_named c cmd b h first = by c.first refl (has_found (λ d. not (has_buffer c.held d)) (option_to_list c.first ++ named cmd) b h)
  where
    by : (o : Option BufId) → c.first ≡ o → has_buffer (option_to_list o ++ named cmd) b ≡ true → has_buffer (named cmd) b ≡ true
    by None e k = k
    by (Some d) e k = ⊎_elim (λ q. first (e ∙ ap Some (sym (same_is b d q)))) (λ q. q) (or_cases (same_buffer b d) (has_buffer (named cmd) b) k)

pub missing_not_held : (c : Course) (cmd : Command) (b : BufId) → first_missing c cmd ≡ Some b → has_buffer c.held b ≡ false
missing_not_held c cmd b h = not-true (has_buffer c.held b) (found_passes (λ d. not (has_buffer c.held d)) (option_to_list c.first ++ named cmd) b h)

pub none_missing : (c : Course) (cmd : Command) (b : BufId) → first_missing c cmd ≡ None → has_buffer (named cmd) b ≡ true → has_buffer c.held b ≡ true
none_missing c cmd b h k = flip (has_buffer c.held b) (none_found (λ d. not (has_buffer c.held d)) (option_to_list c.first ++ named cmd) b h (by c.first))
  where
    by : (o : Option BufId) → has_buffer (option_to_list o ++ named cmd) b ≡ true
    by None = k
    by (Some d) = or_right (same_buffer b d) (has_buffer (named cmd) b) k

    flip : (q : Bool) → not q ≡ false → q ≡ true
    flip true h = refl
    flip false h = cc
