-- A buffer's holder tells which thread has it: classes of changes that keep this.
use Rattle.std.proofs.Common.{◌≡◌, ℕ, ◌<◌, ◌≤◌, Bool, true, false, length, Option, Some, None, sym, ◌∙◌, ap, subst, arith, ◌⊎◌, ⊎_elim}
use Rattle.std.proofs.lemmas.Bool.{cases_Bool, cases_eq}
use Rattle.ttm_base.specs.declared.BufId.{BufId}
use Rattle.ttm_base.specs.declared.Stamp.{Stamp}
use Rattle.journal_model.specs.declared.script.Script.{Script}
use Rattle.journal_model.specs.declared.state.State.{State}
use Rattle.journal_model.specs.rules.State.{course, reservation, is_live, has_buffer}
use Rattle.journal_model.specs.rules.Search.{is_caught}
use Rattle.laws.specs.law_sound.Sound.{Has, Steady, Owned}
use Rattle.laws.proofs.law_sound.Bufs.{same_or_other}

some_is : (o : Option Stamp) (st su : Stamp) → o ≡ Some st → o ≡ Some su → st ≡ su
some_is o st su e f = let it : Some st ≡ Some su = sym e ∙ f in cc

pub none_or : (o : Option Stamp) (st : Stamp) → o ≡ None → o ≡ Some st → ⊥
none_or o st e f = let it : None ≡ Some st = sym e ∙ f in cc

-- the lists stay as long
pub record SameLengths (s s' : State) : Type 0 where
  pub courses : length s'.courses ≡ length s.courses
  pub reservations : length s'.reservations ≡ length s.reservations
  pub buffers : length s'.core.buffers ≡ length s.core.buffers

-- the courses of the others
pub record OneCourse (s s' : State) (t : ℕ) : Type 0 where
  pub lengths : SameLengths s s'
  pub others : (u : ℕ) → (u ≡ t → ⊥) → course s' u ≡ course s u

module _ (script : Script) (s s' : State) (t : ℕ) (one : OneCourse s s' t) (o : Owned script s) where
  has_kept : (u : ℕ) (b : BufId) → (u ≡ t → ⊥) → Has s u b → Has s' u b
  has_kept u b d h = subst (λ c. (has_buffer c.held b ≡ true) ⊎ (is_caught c b ≡ true)) (sym (one.others u d)) h

  had : (u : ℕ) (b : BufId) → (u ≡ t → ⊥) → Has s' u b → Has s u b
  had u b d h = subst (λ c. (has_buffer c.held b ≡ true) ⊎ (is_caught c b ≡ true)) (one.others u d) h

  stamp_kept : (u : ℕ) (st : Stamp) → (u ≡ t → ⊥) → (course s u).stamp ≡ Some st → (course s' u).stamp ≡ Some st
  stamp_kept u st d e = ap (λ c. c.stamp) (one.others u d) ∙ e

  stamp_was : (u : ℕ) (st : Stamp) → (u ≡ t → ⊥) → (course s' u).stamp ≡ Some st → (course s u).stamp ≡ Some st
  stamp_was u st d e = sym (ap (λ c. c.stamp) (one.others u d)) ∙ e

  steady_on : Steady script t (course s' t) → (u : ℕ) → Steady script u (course s' u)
  steady_on mine u =
      ⊎_elim (λ e. subst (λ v. Steady script v (course s' v)) (sym e) mine) (λ d. subst (Steady script u) (sym (one.others u d)) (o.steady u)) (cases_eq u t)

  courses_on : length s'.courses ≡ length script.threads
  courses_on = one.lengths.courses ∙ o.courses

  reservations_on : length s'.reservations ≡ length s'.core.buffers
  reservations_on = one.lengths.reservations ∙ (o.reservations ∙ sym one.lengths.buffers)

  -- ---- a thread lets some buffers go

  pub record Lets (lost : BufId → Bool) : Type 0 where
    pub lost_had : (d : BufId) → lost d ≡ true → Has s t d
    pub gone : (d : BufId) → lost d ≡ true → (reservation s' d).holder ≡ None
    pub kept : (d : BufId) → lost d ≡ false → (reservation s' d).holder ≡ (reservation s d).holder
    pub live : (d : BufId) → lost d ≡ false → is_live s d ≡ true → is_live s' d ≡ true
    pub less : (d : BufId) → Has s' t d → Has s t d × (lost d ≡ false)
    pub more : (d : BufId) → Has s t d → lost d ≡ false → Has s' t d
    pub stamp_less : (st : Stamp) → (course s' t).stamp ≡ Some st → (course s t).stamp ≡ Some st
    pub stamp_more : (d : BufId) → Has s' t d → (course s' t).stamp ≡ (course s t).stamp
    pub last : s'.last_stamp ≡ s.last_stamp

  pub lets_keeps : (lost : BufId → Bool) → Lets lost → Steady script t (course s' t) → Owned script s'
  lets_keeps lost l mine =
      record {
        courses = courses_on;
        reservations = reservations_on;
        steady = steady_on mine;
        holder = holder;
        held = held;
        one = λ u v st e f. o.one u v st (back u st e) (back v st f);
        below = λ u st e. let b = o.below u st (back u st e) in let k = l.last in omega (arith, b, k);
      }
    where
      back : (u : ℕ) (st : Stamp) → (course s' u).stamp ≡ Some st → (course s u).stamp ≡ Some st
      back u st e = ⊎_elim (λ q. subst (λ v. (course s v).stamp ≡ Some st) (sym q) (l.stamp_less st (subst (λ v. (course s' v).stamp ≡ Some st) q e))) (λ d. stamp_was u st d e) (cases_eq u t)

      owner_on : (u : ℕ) (b : BufId) (st : Stamp) → lost b ≡ false → (course s u).stamp ≡ Some st → Has s u b → ((course s' u).stamp ≡ Some st) × Has s' u b
      owner_on u b st k e h =
          ⊎_elim
          (λ q.
          let now : Has s' t b = l.more b (subst (λ v. Has s v b) q h) k in
          (subst (λ v. (course s' v).stamp ≡ Some st) (sym q) (l.stamp_more b now ∙ subst (λ v. (course s v).stamp ≡ Some st) q e), subst (λ v. Has s' v b) (sym q) now))
          (λ d. (stamp_kept u st d e, has_kept u b d h))
          (cases_eq u t)

      holder : (b : BufId) (st : Stamp) → (reservation s' b).holder ≡ Some st → (u : ℕ) × ((course s' u).stamp ≡ Some st) × Has s' u b
      holder b st e =
          ⊎_elim
          (λ k. absurd (none_or (reservation s' b).holder st (l.gone b k) e))
          (λ k. let h = o.holder b st (sym (l.kept b k) ∙ e) in let p = owner_on h.0 b st k h.1 h.2 in (h.0, p.0, p.1))
          (cases_Bool (lost b))

      -- what another thread has wasn't let go
      not_lost : (u : ℕ) (b : BufId) → (u ≡ t → ⊥) → Has s u b → lost b ≡ false
      not_lost u b d h =
          ⊎_elim
          (λ k.
          let mine = o.held t b (l.lost_had b k) in
          let its = o.held u b h in
          let same : mine.0 ≡ its.0 = some_is (reservation s b).holder mine.0 its.0 mine.2 its.2 in
          absurd (d (o.one u t its.0 its.3 (mine.3 ∙ ap Some same))))
          (λ k. k)
          (cases_Bool (lost b))

      on : (u : ℕ) (b : BufId) → lost b ≡ false → Has s' u b → Has s u b → (st : Stamp) × (is_live s' b ≡ true) × ((reservation s' b).holder ≡ Some st) × ((course s' u).stamp ≡ Some st)
      on u b k now h =
          let w = o.held u b h in
          (w.0, l.live b k w.1, l.kept b k ∙ w.2, (owner_on u b w.0 k w.3 h).0)

      held : (u : ℕ) (b : BufId) → Has s' u b → (st : Stamp) × (is_live s' b ≡ true) × ((reservation s' b).holder ≡ Some st) × ((course s' u).stamp ≡ Some st)
      held u b now =
          ⊎_elim
          (λ q. let p = l.less b (subst (λ v. Has s' v b) q now) in on u b p.1 now (subst (λ v. Has s v b) (sym q) p.0))
          (λ d. let h = had u b d now in on u b (not_lost u b d h) now h)
          (cases_eq u t)

  -- ---- a thread gets a buffer

  pub record Gets (b : BufId) (st : Stamp) : Type 0 where
    pub stamp : (course s t).stamp ≡ Some st
    pub free : (reservation s b).holder ≡ None
    pub here : is_live s b ≡ true
    pub now : (reservation s' b).holder ≡ Some st
    pub kept : (d : BufId) → (d ≡ b → ⊥) → (reservation s' d).holder ≡ (reservation s d).holder
    pub live : (d : BufId) → is_live s' d ≡ is_live s d
    pub stamp_same : (course s' t).stamp ≡ (course s t).stamp
    pub gets : Has s' t b
    pub more : (d : BufId) → Has s t d → Has s' t d
    pub less : (d : BufId) → Has s' t d → Has s t d ⊎ (d ≡ b)
    pub last : s'.last_stamp ≡ s.last_stamp

  pub gets_keeps : (b : BufId) (st : Stamp) → Gets b st → Steady script t (course s' t) → Owned script s'
  gets_keeps b st g mine =
      record {
        courses = courses_on;
        reservations = reservations_on;
        steady = steady_on mine;
        holder = holder;
        held = held;
        one = λ u v st' e f. o.one u v st' (back u st' e) (back v st' f);
        below = λ u st' e. let w = o.below u st' (back u st' e) in let k = g.last in omega (arith, w, k);
      }
    where
      back : (u : ℕ) (st' : Stamp) → (course s' u).stamp ≡ Some st' → (course s u).stamp ≡ Some st'
      back u st' e =
          ⊎_elim (λ q. subst (λ v. (course s v).stamp ≡ Some st') (sym q) (sym g.stamp_same ∙ subst (λ v. (course s' v).stamp ≡ Some st') q e)) (λ d. stamp_was u st' d e) (cases_eq u t)

      forth : (u : ℕ) (st' : Stamp) → (course s u).stamp ≡ Some st' → (course s' u).stamp ≡ Some st'
      forth u st' e =
          ⊎_elim (λ q. subst (λ v. (course s' v).stamp ≡ Some st') (sym q) (g.stamp_same ∙ subst (λ v. (course s v).stamp ≡ Some st') q e)) (λ d. stamp_kept u st' d e) (cases_eq u t)

      has_on : (u : ℕ) (d : BufId) → Has s u d → Has s' u d
      has_on u d h = ⊎_elim (λ q. subst (λ v. Has s' v d) (sym q) (g.more d (subst (λ v. Has s v d) q h))) (λ e. has_kept u d e h) (cases_eq u t)

      holder : (d : BufId) (st' : Stamp) → (reservation s' d).holder ≡ Some st' → (u : ℕ) × ((course s' u).stamp ≡ Some st') × Has s' u d
      holder d st' e =
          ⊎_elim
          (λ q.
          let it : st ≡ st' = some_is (reservation s' b).holder st st' g.now (subst (λ z. (reservation s' z).holder ≡ Some st') q e) in
          (t, g.stamp_same ∙ (g.stamp ∙ ap Some it), subst (Has s' t) (sym q) g.gets))
          (λ n. let h = o.holder d st' (sym (g.kept d n) ∙ e) in (h.0, forth h.0 st' h.1, has_on h.0 d h.2))
          (same_or_other d b)

      -- what was had is another buffer
      old : (u : ℕ) (d : BufId) → Has s u d → (st' : Stamp) × (is_live s' d ≡ true) × ((reservation s' d).holder ≡ Some st') × ((course s' u).stamp ≡ Some st')
      old u d h =
          let w = o.held u d h in
          let n : d ≡ b → ⊥ = λ q. none_or (reservation s b).holder w.0 g.free (subst (λ z. (reservation s z).holder ≡ Some w.0) q w.2) in
          (w.0, g.live d ∙ w.1, g.kept d n ∙ w.2, forth u w.0 w.3)

      held : (u : ℕ) (d : BufId) → Has s' u d → (st' : Stamp) × (is_live s' d ≡ true) × ((reservation s' d).holder ≡ Some st') × ((course s' u).stamp ≡ Some st')
      held u d now =
          ⊎_elim
          (λ q.
          ⊎_elim
          (λ h. subst (λ v. (st' : Stamp) × (is_live s' d ≡ true) × ((reservation s' d).holder ≡ Some st') × ((course s' v).stamp ≡ Some st')) (sym q) (old t d h))
          (λ e. (
            st,
            g.live d ∙ subst (λ z. is_live s z ≡ true) (sym e) g.here,
            subst (λ z. (reservation s' z).holder ≡ Some st) (sym e) g.now,
            subst (λ v. (course s' v).stamp ≡ Some st) (sym q) (g.stamp_same ∙ g.stamp),
          ))
          (g.less d (subst (λ v. Has s' v d) q now)))
          (λ n. old u d (had u d n now))
          (cases_eq u t)

  -- ---- a thread without a stamp gets the next one

  pub record Draws (st : Stamp) : Type 0 where
    pub next : s.last_stamp < st.0
    pub empty : (d : BufId) → Has s t d → ⊥
    pub empty_now : (d : BufId) → Has s' t d → ⊥
    pub same : (d : BufId) → (reservation s' d).holder ≡ (reservation s d).holder
    pub live : (d : BufId) → is_live s' d ≡ is_live s d
    pub now : (course s' t).stamp ≡ Some st
    pub last : s'.last_stamp ≡ st.0

  pub draws_keeps : (st : Stamp) → Draws st → Steady script t (course s' t) → Owned script s'
  draws_keeps st w mine =
      record {
        courses = courses_on;
        reservations = reservations_on;
        steady = steady_on mine;
        holder = λ b st' e. let h = o.holder b st' (sym (w.same b) ∙ e) in let d = not_t h.0 b h.2 in (h.0, stamp_kept h.0 st' d h.1, has_kept h.0 b d h.2);
        held = λ u b h.
            let d = not_now u b h in
            let k = o.held u b (had u b d h) in
            (k.0, w.live b ∙ k.1, w.same b ∙ k.2, stamp_kept u k.0 d k.3);
        one = one_on;
        below = below_on;
      }
    where
      not_t : (u : ℕ) (b : BufId) → Has s u b → u ≡ t → ⊥
      not_t u b h e = w.empty b (subst (λ v. Has s v b) e h)

      not_now : (u : ℕ) (b : BufId) → Has s' u b → u ≡ t → ⊥
      not_now u b h e = w.empty_now b (subst (λ v. Has s' v b) e h)

      mine_is : (u : ℕ) (st' : Stamp) → u ≡ t → (course s' u).stamp ≡ Some st' → st' ≡ st
      mine_is u st' e f = some_is (course s' t).stamp st' st (subst (λ v. (course s' v).stamp ≡ Some st') e f) w.now

      too_high : (u : ℕ) → (u ≡ t → ⊥) → (course s' u).stamp ≡ Some st → ⊥
      too_high u d e = let l = o.below u st (stamp_was u st d e) in let n = w.next in omega (arith, l, n)

      one_on : (u v : ℕ) (st' : Stamp) → (course s' u).stamp ≡ Some st' → (course s' v).stamp ≡ Some st' → u ≡ v
      one_on u v st' e f =
          ⊎_elim
          (λ q.
          let it = mine_is u st' q e in
          ⊎_elim (λ r. q ∙ sym r) (λ d. absurd (too_high v d (f ∙ ap Some it))) (cases_eq v t))
          (λ d.
          ⊎_elim
          (λ r. absurd (too_high u d (e ∙ ap Some (mine_is v st' r f))))
          (λ k. o.one u v st' (stamp_was u st' d e) (stamp_was v st' k f))
          (cases_eq v t))
          (cases_eq u t)

      below_on : (u : ℕ) (st' : Stamp) → (course s' u).stamp ≡ Some st' → st'.0 ≤ s'.last_stamp
      below_on u st' e =
          ⊎_elim
          (λ q. let it : st'.0 ≡ st.0 = ap (λ z. z.0) (mine_is u st' q e) in let l = w.last in omega (arith, it, l))
          (λ d. let b = o.below u st' (stamp_was u st' d e) in let n = w.next in let l = w.last in omega (arith, b, n, l))
          (cases_eq u t)
