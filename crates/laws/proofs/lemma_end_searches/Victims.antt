-- At most two victims are caught, and the first of two for VRAM.
use Rattle.std.proofs.Common.{◌≡◌, true, false, List, [], ◌∷◌, ◌++◌, Some, None, refl, sym, ◌∙◌, ap, subst, ⊎_elim}
use Rattle.std.specs.Prelude.{map, find, not, cond, is_some, ◌&&◌, ◌||◌, if◌then◌else◌}
use Rattle.std.specs.List.{list_any}
use Rattle.std.proofs.lemmas.Bool.{cases_Bool, both_ways, and_right}
use Rattle.ttm_base.specs.ListWords.{last_of, last_or}
use Rattle.ttm_base.specs.declared.BufId.{BufId}
use Rattle.ttm_base.specs.declared.Deny.{Deny}
use Rattle.journal_model.specs.declared.state.Victim.{Victim}
use Rattle.journal_model.specs.declared.entry.Why.TheVariants as why
use Rattle.journal_model.specs.rules.State.{same_buffer}
use Rattle.journal_model.specs.rules.ApplyVictims.{failed_if}
use Rattle.laws.proofs.law_sound.Measure.{has_failed}
use Rattle.laws.proofs.law_sound.Bufs.{same_self, same_is, let_go}

-- at most two, of different buffers, and the first of two for VRAM alone
pub data Caught : List Victim → Type 0 where
  nobody : Caught []
  single : {v : Victim} → Caught (v ∷ [])
  pair : {v w : Victim} → v.why ≡ why.Vram → (w.why ≡ why.Vram → ⊥) → same_buffer v.b w.b ≡ false → Caught (v ∷ w ∷ [])

-- the last victim of a list
abbrev pub Last : List Victim → Victim → Type 0
Last vs v = last_of vs ≡ Some v

pub last_is : (v w : Victim) → Last (v ∷ []) w → v ≡ w
last_is v w h = cc

pub last_of_two : (u v w : Victim) → Last (u ∷ v ∷ []) w → v ≡ w
last_of_two u v w h = cc

-- the last one for VRAM is alone
pub alone_for_vram : (vs : List Victim) (v : Victim) → Caught vs → Last vs v → v.why ≡ why.Vram → vs ≡ v ∷ []
alone_for_vram [] v nobody h w = cc
alone_for_vram (u ∷ []) v single h w = ap (λ x. x ∷ []) (last_is u v h)
alone_for_vram (u ∷ x ∷ []) v (pair e n d) h w = absurd (n (ap (λ y. y.why) (last_of_two u x v h) ∙ w))
alone_for_vram (u ∷ x ∷ y ∷ vs) v few h w = elim few [ ]

pub last_pushed : (vs : List Victim) (v : Victim) → last_of (vs ++ v ∷ []) ≡ Some v
last_pushed [] v = refl
last_pushed (w ∷ vs) v = ap Some (from w vs)
  where
    from : (w : Victim) (vs : List Victim) → last_or w (vs ++ v ∷ []) ≡ v
    from w [] = refl
    from w (x ∷ vs) = from x vs

-- the one that failed
pub failed_alone : (v : Victim) (d : Deny) → map (failed_if d v.b) (v ∷ []) ≡ record v { fail = Some d } ∷ []
failed_alone v d = ap (λ q. (if q then record v { fail = Some d } else v) ∷ []) (same_self v.b)

turned : (a b : BufId) → same_buffer b a ≡ false → same_buffer a b ≡ false
turned a b k = ⊎_elim (λ q. absurd (both_ways (same_buffer b a) k (subst (λ z. same_buffer z a ≡ true) (same_is a b q) (same_self a)))) (λ q. q) (cases_Bool (same_buffer a b))

-- of its buffer there is no other victim
pub found_last : (vs : List Victim) (v : Victim) → Caught vs → Last vs v → find (λ w. same_buffer v.b w.b) vs ≡ Some v
found_last [] v nobody h = cc
found_last (u ∷ []) v single h =
    let it = last_is u v h in
    let here : same_buffer v.b u.b ≡ true = subst (λ z. same_buffer v.b z.b ≡ true) (sym it) (same_self v.b) in
    ap (λ q. cond q (Some u) None) here ∙ ap Some it
found_last (u ∷ x ∷ []) v (pair e n p) h =
    let it = last_of_two u x v h in
    let there : same_buffer v.b u.b ≡ false = turned v.b u.b (subst (λ z. same_buffer u.b z.b ≡ false) it p) in
    let here : same_buffer v.b x.b ≡ true = subst (λ z. same_buffer v.b z.b ≡ true) (sym it) (same_self v.b) in
    ap (λ q. cond q (Some u) (cond (same_buffer v.b x.b) (Some x) None)) there ∙ (ap (λ q. cond q (Some x) None) here ∙ ap Some it)
found_last (u ∷ x ∷ y ∷ vs) v few h = elim few [ ]

-- letting go the last victim, which hasn't failed, brings no failed one out
pub still_failed : (vs : List Victim) (v : Victim) → Caught vs → Last vs v → v.fail ≡ None → (d : BufId) → list_any (has_failed d) (let_go v.b vs) ≡ list_any (has_failed d) vs
still_failed [] v nobody h f d = refl
still_failed (u ∷ []) v single h f d =
    let it = last_is u v h in
    let gone : same_buffer v.b u.b ≡ true = subst (λ z. same_buffer v.b z.b ≡ true) (sym it) (same_self v.b) in
    let fine : (same_buffer d u.b && is_some u.fail) ≡ false = and_right (same_buffer d u.b) (is_some u.fail) (ap is_some (ap (λ z. z.fail) it ∙ f)) in
    ap (λ q. list_any (has_failed d) (cond (not q) (u ∷ []) [])) gone ∙ sym (ap (λ q. q || false) fine)
still_failed (u ∷ x ∷ []) v (pair e n p) h f d =
    let it = last_of_two u x v h in
    let gone : same_buffer v.b x.b ≡ true = subst (λ z. same_buffer v.b z.b ≡ true) (sym it) (same_self v.b) in
    let stays : same_buffer v.b u.b ≡ false = turned v.b u.b (subst (λ z. same_buffer u.b z.b ≡ false) it p) in
    let fine : (same_buffer d x.b && is_some x.fail) ≡ false = and_right (same_buffer d x.b) (is_some x.fail) (ap is_some (ap (λ z. z.fail) it ∙ f)) in
    ap (λ q. list_any (has_failed d) (cond (not q) (u ∷ let_go v.b (x ∷ [])) (let_go v.b (x ∷ [])))) stays
    ∙ (ap (λ q. has_failed d u || list_any (has_failed d) (cond (not q) (x ∷ []) [])) gone
    ∙ sym (ap (λ q. has_failed d u || (q || false)) fine))
still_failed (u ∷ x ∷ y ∷ vs) v few h f d = elim few [ ]
