-- What is known of a course's victims: how many there are, where each stands on its way, and that none for VRAM was skipped.
use Rattle.std.proofs.Common.{◌≡◌, Bool, true, false, List, [], ◌∷◌, ◌++◌, Option, Some, None, refl, sym, ◌∙◌, ap, subst, ⊎_elim}
use Rattle.std.specs.Prelude.{not, cond, is_some}
use Rattle.std.proofs.lemmas.Bool.{cases_Bool, both_ways, or_left, or_right}
use Rattle.ttm_base.specs.declared.Mem.{Mem}
use Rattle.ttm_base.specs.declared.Mem.TheVariants.{System, Tt, Vram}
use Rattle.ttm_base.specs.declared.BufId.{BufId}
use Rattle.ttm_base.specs.declared.Deny.{Deny}
use Rattle.journal_model.specs.declared.state.State.{State}
use Rattle.journal_model.specs.declared.state.Course.{Course}
use Rattle.journal_model.specs.declared.state.Victim.{Victim}
use Rattle.journal_model.specs.declared.state.Buffer.{Buffer}
use Rattle.journal_model.specs.declared.entry.Why.{Why}
use Rattle.journal_model.specs.declared.entry.Why.TheVariants as why
use Rattle.journal_model.specs.rules.State.{buffer, same_buffer, has_buffer, has_target}
use Rattle.laws.specs.law_sound.Sound.{Targeted, OnItsWay, in_vram, to_tt, out_of_vram, in_tt, in_system}
use Rattle.laws.proofs.law_sound.Turns.{Emptied, for_tt, for_swap, left_vram}
use Rattle.laws.proofs.law_sound.Bufs.{same_self, same_is, victims_of, let_go}
use Rattle.laws.proofs.lemma_end_searches.Victims.{Caught, nobody, single, pair, Last, last_is, last_of_two}

-- each victim on its way
abbrev pub Ways : (BufId → Buffer) → List Victim → Type 0
Ways f [] = Unit {0}
Ways f (v ∷ vs) = OnItsWay (f v.b) v.why v.fail × Ways f vs

-- no victim for VRAM was skipped
abbrev pub Unskipped : List BufId → List Victim → Type 0
Unskipped skips [] = Unit {0}
Unskipped skips (v ∷ vs) = (v.why ≡ why.Vram → has_buffer skips v.b ≡ false) × Unskipped skips vs

-- of a course
pub record GoodVictims (s : State) (c : Course) : Type 0 where
  pub few : Caught c.caught
  pub ways : Ways (buffer s) c.caught
  pub unskipped : Unskipped c.skips c.caught

-- ---- of the last one

pub way_of_last : (f : BufId → Buffer) (vs : List Victim) (v : Victim) → Caught vs → Ways f vs → Last vs v → OnItsWay (f v.b) v.why v.fail
way_of_last f [] v nobody w h = cc
way_of_last f (u ∷ []) v single w h = subst (λ z. OnItsWay (f z.b) z.why z.fail) (last_is u v h) w.0
way_of_last f (u ∷ x ∷ []) v (pair e n d) w h = subst (λ z. OnItsWay (f z.b) z.why z.fail) (last_of_two u x v h) w.1.0
way_of_last f (u ∷ x ∷ y ∷ vs) v few w h = elim few [ ]

pub unskipped_last : (skips : List BufId) (vs : List Victim) (v : Victim) → Caught vs → Unskipped skips vs → Last vs v → v.why ≡ why.Vram → has_buffer skips v.b ≡ false
unskipped_last skips [] v nobody w h = cc
unskipped_last skips (u ∷ []) v single w h = subst (λ z. z.why ≡ why.Vram → has_buffer skips z.b ≡ false) (last_is u v h) w.0
unskipped_last skips (u ∷ x ∷ []) v (pair e n d) w h = subst (λ z. z.why ≡ why.Vram → has_buffer skips z.b ≡ false) (last_of_two u x v h) w.1.0
unskipped_last skips (u ∷ x ∷ y ∷ vs) v few w h = elim few [ ]

-- a victim that is emptied hasn't failed
pub emptied_fine : (x : Buffer) (v : Victim) → OnItsWay x v.why v.fail → Emptied v x → v.fail ≡ None
emptied_fine x v way e = by v.why refl v.fail way e
  where
    tt_no_vram : why.Tt ≡ why.Vram → ⊥
    tt_no_vram h = cc

    swap_no_vram : why.Swap ≡ why.Vram → ⊥
    swap_no_vram h = cc

    left : v.why ≡ why.Vram → x.mem ≡ Vram → Emptied v x → ⊥
    left w m (for_tt y) = tt_no_vram (sym y ∙ w)
    left w m (for_swap y) = swap_no_vram (sym y ∙ w)
    left w m (left_vram y n) = n m

    by : (w : Why) → v.why ≡ w → (o : Option Deny) → OnItsWay x w o → Emptied v x → o ≡ None
    by why.Vram is o (in_vram m t) y = absurd (left is m y)
    by why.Vram is o (to_tt m t) y = absurd (left is m y)
    by w is o (out_of_vram m t) y = refl
    by w is o (in_tt n m t) y = refl
    by w is o (in_system n m t) y = refl

-- a victim for swap without a target is in SYSTEM
pub swap_stands : (x : Buffer) (v : Victim) → OnItsWay x v.why v.fail → v.why ≡ why.Swap → has_target System x ≡ false → x.mem ≡ System
swap_stands x v way is bare = by v.why v.fail way is
  where
    vram_no_swap : why.Vram ≡ why.Swap → ⊥
    vram_no_swap h = cc

    by : (w : Why) (o : Option Deny) → OnItsWay x w o → w ≡ why.Swap → x.mem ≡ System
    by w o (in_vram m t) e = absurd (vram_no_swap e)
    by w o (to_tt m t) e = absurd (vram_no_swap e)
    by w o (out_of_vram m t) e = absurd (vram_no_swap e)
    by w o (in_tt n m t) e = absurd (both_ways (has_target System x) bare t.0)
    by w o (in_system n m t) e = m

-- ---- changes

-- where a buffer stands and what waits for it tells its way
pub way_alike : (x y : Buffer) (w : Why) (f : Option Deny) → y.mem ≡ x.mem → y.targets ≡ x.targets → OnItsWay x w f → OnItsWay y w f
way_alike x y w f m e way = by way
  where
    targets : (a b c : Bool) → Targeted x a b c → Targeted y a b c
    targets a b c t = (same System a t.0, same Tt b t.1, same Vram c t.2)
      where
        same : (mem : Mem) (q : Bool) → has_target mem x ≡ q → has_target mem y ≡ q
        same System q k = ap (λ z. is_some z.system) e ∙ k
        same Tt q k = ap (λ z. is_some z.tt) e ∙ k
        same Vram q k = ap (λ z. is_some z.vram) e ∙ k

    by : {z : Why} {g : Option Deny} → OnItsWay x z g → OnItsWay y z g
    by (in_vram n t) = in_vram (m ∙ n) (targets false false false t)
    by (to_tt n t) = to_tt (m ∙ n) (targets false true false t)
    by (out_of_vram n t) = out_of_vram (m ∙ n) (targets false false false t)
    by (in_tt k n t) = in_tt k (m ∙ n) (targets true false false t)
    by (in_system k n t) = in_system k (m ∙ n) (targets false false false t)

-- in VRAM a search may fail
pub way_failed : (x : Buffer) (w : Why) (f : Option Deny) (d : Deny) → x.mem ≡ Vram → w ≡ why.Vram → OnItsWay x w f → OnItsWay x w (Some d)
way_failed x w f d m is way = by way m is
  where
    tt_no_vram : Tt ≡ Vram → ⊥
    tt_no_vram h = cc

    by : {y : Why} {o : Option Deny} → OnItsWay x y o → x.mem ≡ Vram → y ≡ why.Vram → OnItsWay x y (Some d)
    by (in_vram n t) k e = in_vram n t
    by (to_tt n t) k e = to_tt n t
    by (out_of_vram n t) k e = absurd (tt_no_vram (sym n ∙ k))
    by (in_tt z n t) k e = absurd (z e)
    by (in_system z n t) k e = absurd (z e)

-- buffers that stay
pub ways_same : (f g : BufId → Buffer) (vs : List Victim) → ((d : BufId) → has_buffer (victims_of vs) d ≡ true → g d ≡ f d) → Ways f vs → Ways g vs
ways_same f g [] h w = tt
ways_same f g (v ∷ vs) h w = (
  subst (λ x. OnItsWay x v.why v.fail) (sym (h v.b (or_left (same_buffer v.b v.b) (has_buffer (victims_of vs) v.b) (same_self v.b)))) w.0,
  ways_same f g vs (λ d k. h d (or_right (same_buffer d v.b) (has_buffer (victims_of vs) d) k)) w.1,
)

pub turned : (a b : BufId) → same_buffer b a ≡ false → same_buffer a b ≡ false
turned a b k = ⊎_elim (λ q. absurd (both_ways (same_buffer b a) k (subst (λ z. same_buffer z a ≡ true) (same_is a b q) (same_self a)))) (λ q. q) (cases_Bool (same_buffer a b))

-- the last one's buffer changes
pub ways_last : (f g : BufId → Buffer) (vs : List Victim) (v : Victim) → Caught vs → Last vs v → ((d : BufId) → same_buffer v.b d ≡ false → g d ≡ f d) → OnItsWay (g v.b) v.why v.fail → Ways f vs → Ways g vs
ways_last f g [] v nobody h same now w = tt
ways_last f g (u ∷ []) v single h same now w = (subst (λ z. OnItsWay (g z.b) z.why z.fail) (sym (last_is u v h)) now, tt)
ways_last f g (u ∷ x ∷ []) v (pair e n d) h same now w =
    let it = last_of_two u x v h in (
      subst (λ y. OnItsWay y u.why u.fail) (sym (same u.b (turned v.b u.b (subst (λ z. same_buffer u.b z.b ≡ false) it d)))) w.0,
      (subst (λ z. OnItsWay (g z.b) z.why z.fail) (sym it) now, tt),
    )
ways_last f g (u ∷ x ∷ y ∷ vs) v few h same now w = elim few [ ]

-- ---- lists

-- without the last one
pub few_let_go : (vs : List Victim) (v : Victim) → Caught vs → Last vs v → Caught (let_go v.b vs)
few_let_go [] v nobody h = nobody
few_let_go (u ∷ []) v single h = by (not (same_buffer v.b u.b))
  where
    by : (q : Bool) → Caught (cond q (u ∷ []) [])
    by true = single
    by false = nobody
few_let_go (u ∷ x ∷ []) v (pair e n d) h = subst (λ q. Caught (cond (not (same_buffer v.b u.b)) (u ∷ cond (not q) (x ∷ []) []) (cond (not q) (x ∷ []) []))) (sym gone) (by (not (same_buffer v.b u.b)))
  where
    gone : same_buffer v.b x.b ≡ true
    gone = subst (λ z. same_buffer v.b z.b ≡ true) (sym (last_of_two u x v h)) (same_self v.b)

    by : (q : Bool) → Caught (cond q (u ∷ []) [])
    by true = single
    by false = nobody
few_let_go (u ∷ x ∷ y ∷ vs) v few h = elim few [ ]

pub ways_let_go : (f : BufId → Buffer) (b : BufId) (vs : List Victim) → Ways f vs → Ways f (let_go b vs)
ways_let_go f b [] w = tt
ways_let_go f b (v ∷ vs) w = by (not (same_buffer b v.b)) (ways_let_go f b vs w.1)
  where
    by : (q : Bool) → Ways f (let_go b vs) → Ways f (cond q (v ∷ let_go b vs) (let_go b vs))
    by true r = (w.0, r)
    by false r = r

pub unskipped_let_go : (skips : List BufId) (b : BufId) (vs : List Victim) → Unskipped skips vs → Unskipped skips (let_go b vs)
unskipped_let_go skips b [] w = tt
unskipped_let_go skips b (v ∷ vs) w = by (not (same_buffer b v.b)) (unskipped_let_go skips b vs w.1)
  where
    by : (q : Bool) → Unskipped skips (let_go b vs) → Unskipped skips (cond q (v ∷ let_go b vs) (let_go b vs))
    by true r = (w.0, r)
    by false r = r

pub ways_pushed : (f : BufId → Buffer) (vs : List Victim) (v : Victim) → Ways f vs → OnItsWay (f v.b) v.why v.fail → Ways f (vs ++ v ∷ [])
ways_pushed f [] v w h = (h, tt)
ways_pushed f (u ∷ vs) v w h = (w.0, ways_pushed f vs v w.1 h)

pub unskipped_pushed : (skips : List BufId) (vs : List Victim) (v : Victim) → Unskipped skips vs → (v.why ≡ why.Vram → has_buffer skips v.b ≡ false) → Unskipped skips (vs ++ v ∷ [])
unskipped_pushed skips [] v w h = (h, tt)
unskipped_pushed skips (u ∷ vs) v w h = (w.0, unskipped_pushed skips vs v w.1 h)

-- nobody is caught
pub none_good : (s : State) (c : Course) → c.caught ≡ [] → GoodVictims s c
none_good s c e = record { few = subst Caught (sym e) nobody; ways = subst (Ways (buffer s)) (sym e) tt; unskipped = subst (Unskipped c.skips) (sym e) tt }
