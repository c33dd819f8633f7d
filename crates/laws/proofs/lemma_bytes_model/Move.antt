-- A move: a job that copies each page of a buffer to its new place.
use Rattle.std.proofs.Common.{◌≡◌, ℕ, Bool, true, false, cond, not, ◌&&◌, ◌||◌, ◌⊎◌, eqb, List, [], ◌∷◌, refl, sym, ◌∙◌, ap, ap₂, subst, inl, inr, ⊎_elim, eqb-true, eq-eqb, Some}
use Rattle.laws.specs.lemma_bytes_model.Memory.{Page, Bytes, Nowhere, Slot, Own, Stores, same_page, Write, run, Step, run_all, touched, written, AllShow}
use Rattle.laws.specs.lemma_bytes_model.View.{rest, Owner, Idle, Free, Live, Kept, Target, Ghost, Fences, View, Covers, self, behind, is_fence, Guarded, Good}
use Rattle.laws.specs.lemma_bytes_model.Entries.{has, copies, moved, moved_to_ghost, moved_now, MoveLegal}
use Rattle.laws.proofs.lemma_bytes_model.Actions.{bool_cases, clash, same_page-refl, same_page-true, and_left, and_right, or_first, or_second, or_cases, acts_packet, acts_all}
use Rattle.laws.proofs.lemma_bytes_model.Engine.{not_done, covered, guarded_less}
use Rattle.laws.proofs.lemma_bytes_model.Emit.{guarded_more, covers_more, emit_keeps}

-- x is one of the pages h of ks, or none of them
pub among : (h : ℕ → Page) (ks : List ℕ) (x : Page) → ((k : ℕ) × (has k ks ≡ true) × (h k ≡ x)) ⊎ ((k : ℕ) → has k ks ≡ true → h k ≡ x → ⊥)
among h [] x = inr (λ k e q. clash e refl)
among h (m ∷ ks) x =
    ⊎_elim
    (λ e. inl (m, or_first (eqb m m) (has m ks) (eq-eqb m m refl), same_page-true (h m) x e))
    (λ e.
    ⊎_elim
    (λ z. inl (z.0, or_second (eqb m z.0) (has z.0 ks) z.1, z.2))
    (λ none.
    inr
    (λ k i q.
    ⊎_elim
    (λ f. clash (subst (λ y. same_page (h m) y ≡ true) (ap h (eqb-true m k f) ∙ q) (same_page-refl (h m))) e)
    (λ f. none k f q)
    (or_cases (eqb m k) (has k ks) i)))
    (among h ks x))
    (bool_cases (same_page (h m) x))

module _ (copy : Bytes → Bytes → Bytes) (to from : ℕ → Page) where
  pub copies_touched : (ks : List ℕ) (x : Page) → touched (copies copy to from ks) x ≡ true → (k : ℕ) × (has k ks ≡ true) × ((to k ≡ x) ⊎ (from k ≡ x))
  copies_touched [] x t = clash t refl
  copies_touched (m ∷ ks) x t =
      ⊎_elim
      (λ e. (
        m,
        or_first (eqb m m) (has m ks) (eq-eqb m m refl),
        ⊎_elim (λ h. inl (same_page-true (to m) x h)) (λ h. inr (same_page-true (from m) x h)) (or_cases (same_page (to m) x) (same_page (from m) x) e),
      ))
      (λ e. let z = copies_touched ks x e in (z.0, or_second (eqb m z.0) (has z.0 ks) z.1, z.2))
      (or_cases (same_page (to m) x || same_page (from m) x) (touched (copies copy to from ks) x) t)

  pub copies_written : (ks : List ℕ) (x : Page) → written (copies copy to from ks) x ≡ true → (k : ℕ) × (has k ks ≡ true) × (to k ≡ x)
  copies_written [] x t = clash t refl
  copies_written (m ∷ ks) x t =
      ⊎_elim
      (λ e. (m, or_first (eqb m m) (has m ks) (eq-eqb m m refl), same_page-true (to m) x e))
      (λ e. let z = copies_written ks x e in (z.0, or_second (eqb m z.0) (has z.0 ks) z.1, z.2))
      (or_cases (same_page (to m) x) (written (copies copy to from ks) x) t)

  pub copies_leave : (ks : List ℕ) (s : Stores) (x : Page) → ((k : ℕ) → has k ks ≡ true → to k ≡ x → ⊥) → run_all (copies copy to from ks) s x ≡ s x
  copies_leave ks s x none =
      let e : written (copies copy to from ks) x ≡ false =
      ⊎_elim (λ h. let z = copies_written ks x h in absurd (none z.0 z.1 z.2)) (λ h. h) (bool_cases (written (copies copy to from ks) x)) in
      (acts_all (copies copy to from ks)).other s x e

  pub copies_show : (ks : List ℕ) (s : Stores) → AllShow (copies copy to from ks) s
  copies_show [] s = tt
  copies_show (k ∷ ks) s = (refl, copies_show ks _)

  -- where the new places are apart from one another and from the old ones, each has a copy of its old one
  pub copies_bring : (ks : List ℕ) (s : Stores) →
      ((j k : ℕ) → has j ks ≡ true → has k ks ≡ true → to j ≡ to k → j ≡ k) →
      ((j k : ℕ) → has j ks ≡ true → has k ks ≡ true → to j ≡ from k → ⊥) →
      (k : ℕ) → has k ks ≡ true → (old : Bytes) × (run_all (copies copy to from ks) s (to k) ≡ copy old (s (from k)))
  copies_bring [] s distinct apart k h = clash h refl
  copies_bring (m ∷ ks) s distinct apart k h =
      let s' : Stores = run (Write (to m) (from m) copy) s in
      let in_tail : (j : ℕ) → has j ks ≡ true → has j (m ∷ ks) ≡ true = λ j e. or_second (eqb m j) (has j ks) e in
      let first : has m (m ∷ ks) ≡ true = or_first (eqb m m) (has m ks) (eq-eqb m m refl) in
      ⊎_elim
      (λ e.
      let z = copies_bring ks s' (λ j i p q. distinct j i (in_tail j p) (in_tail i q)) (λ j i p q. apart j i (in_tail j p) (in_tail i q)) k e in (
        z.0,
        z.1
            ∙ ap (copy z.0)
            ((acts_packet (Write (to m) (from m) copy)).other s (from k)
            (⊎_elim (λ z. absurd (apart m k first h (same_page-true (to m) (from k) z))) (λ z. z) (bool_cases (same_page (to m) (from k))))),
      ))
      (λ e. (
        s (to m),
        copies_leave ks s' (to k) (λ j i q. clash (subst (λ y. has y ks ≡ true) (distinct j k (in_tail j i) h q) i) e)
            ∙ (let mk : m ≡ k = ⊎_elim (λ z. eqb-true m k z) (λ z. clash z e) (or_cases (eqb m k) (has k ks) h) in
            ap (λ q. cond q (copy (s (to m)) (s (from m))) (s (to k))) (subst (λ y. same_page (to m) (to y) ≡ true) mk (same_page-refl (to m)))
            ∙ ap (λ y. copy (s (to m)) (s (from y))) mk),
      ))
      (bool_cases (has k ks))

module _ (zeros : Bytes) (v : View) (g : Good zeros v) (copy : Bytes → Bytes → Bytes) (b : ℕ) (to : ℕ → Page) (ks : List ℕ) (waits : ℕ → Bool) (gone : Owner) (owner : Page → Owner)
    (legal : MoveLegal v copy b to ks waits gone owner) (f : Fences)
    (prior : f.prior ≡ λ j i. v.fences.prior j i || (eqb v.count j && waits i))
    (strong : (j : ℕ) → v.fences.strong b j ≡ true → f.strong b j ≡ true) (joins : f.strong b v.count ≡ true)
    (old : (i : ℕ) (x : Page) → touched (v.left i) x ≡ true → Guarded f (v.owner x) i (written (v.left i) x))
    (ghosted : (i : ℕ) (w : Bool) → Covers f.prior v.count i → Guarded f gone i w) where
  xs : List Step
  xs = copies copy to (v.place b) ks

  more : (j i : ℕ) → v.fences.prior j i ≡ true → f.prior j i ≡ true
  more j i h = ap (λ p. p j i) prior ∙ or_first (v.fences.prior j i) (eqb v.count j && waits i) h

  newly : (i : ℕ) → waits i ≡ true → f.prior v.count i ≡ true
  newly i h =
      ap (λ p. p v.count i) prior
      ∙ or_second (v.fences.prior v.count i) (eqb v.count v.count && waits i) (ap₂ ◌&&◌ (eq-eqb v.count v.count refl) h)

  apart : (j k : ℕ) → has j ks ≡ true → has k ks ≡ true → to j ≡ v.place b k → ⊥
  apart j k hj hk e =
      ⊎_elim
      (λ o. let p : Target b j ≡ Live b k = sym o ∙ ap v.owner e ∙ legal.stands k hk in cc)
      (λ o. let p : Kept b j ≡ Live b k = sym o ∙ ap v.owner e ∙ legal.stands k hk in cc)
      (legal.ready j hj)

  distinct : (j k : ℕ) → has j ks ≡ true → has k ks ≡ true → to j ≡ to k → j ≡ k
  distinct j k hj hk e =
      ⊎_elim
      (λ o.
      ⊎_elim (λ q. let p : Target b j ≡ Target b k = sym o ∙ ap v.owner e ∙ q in cc) (λ q. let p : Target b j ≡ Kept b k = sym o ∙ ap v.owner e ∙ q in cc)
      (legal.ready k hk))
      (λ o.
      ⊎_elim (λ q. let p : Kept b j ≡ Target b k = sym o ∙ ap v.owner e ∙ q in cc) (λ q. let p : Kept b j ≡ Kept b k = sym o ∙ ap v.owner e ∙ q in cc)
      (legal.ready k hk))
      (legal.ready j hj)

  -- a job that touches an old or a new place is covered by a job that the move waits for
  waited : (i : ℕ) (x : Page) → touched (v.left i) x ≡ true → (k : ℕ) → has k ks ≡ true → (to k ≡ x) ⊎ (v.place b k ≡ x) →
      (j : ℕ) × (waits j ≡ true) × Covers v.fences.prior j i
  waited i x t k h =
      let w = written (v.left i) x in
      let by_job : (j : ℕ) → is_fence v.fences b false j ≡ true → Covers v.fences.prior j i → (m : ℕ) × (waits m ≡ true) × Covers v.fences.prior m i =
      λ j e c. ⊎_elim (λ q. (j, q, c)) (λ d. absurd (not_done zeros v g i x t (covered zeros v g c d))) (legal.waited j e) in
      ⊎_elim
      (λ e.
      ⊎_elim
      (λ o.
      let m : Guarded v.fences (Target b k) i w = subst (λ o. Guarded v.fences o i w) (sym (ap v.owner e) ∙ o) (g.guard i x t) in
      by_job m.0.0 (or_first (v.fences.strong b m.0.0) (v.fences.shared b m.0.0) m.0.1) m.0.2)
      (λ o. absurd (subst (λ o. Guarded v.fences o i w) (sym (ap v.owner e) ∙ o) (g.guard i x t)))
      (legal.ready k h))
      (λ e.
      let m : Guarded v.fences (Live b k) i false =
      guarded_less v.fences (Live b k) i w false (λ z. clash z refl)
      (subst (λ o. Guarded v.fences o i w) (sym (ap v.owner e) ∙ legal.stands k h) (g.guard i x t)) in
      by_job m.0 m.1 m.2)

  -- the same for the new job, at a page of the buffer
  strongly : (i k : ℕ) (w : Bool) → (j : ℕ) → f.strong b j ≡ true → Covers f.prior j i → Guarded f (Live b k) i w
  strongly i k w j s c = (j, or_first (f.strong b j) (not w && f.shared b j) s, c)

  guard_old : (i : ℕ) (x : Page) → touched (v.left i) x ≡ true → Guarded f (owner x) i (written (v.left i) x)
  guard_old i x t =
      let w = written (v.left i) x in
      ⊎_elim
      (λ z.
      let m = waited i x t z.0 z.1 (inl z.2) in
      subst (λ o. Guarded f o i w) (sym (legal.arrive z.0 z.1) ∙ ap owner z.2)
      (strongly i z.0 w v.count joins (behind (newly m.0 m.1) (covers_more more m.2))))
      (λ not_to.
      ⊎_elim
      (λ z.
      let m = waited i x t z.0 z.1 (inr z.2) in
      subst (λ o. Guarded f o i w) (sym (legal.leave z.0 z.1) ∙ ap owner z.2)
      (ghosted i w (behind (newly m.0 m.1) (covers_more more m.2))))
      (λ not_from. subst (λ o. Guarded f o i w) (sym (legal.stay x not_to not_from)) (old i x t))
      (among (v.place b) ks x))
      (among to ks x)

  guard_new : (x : Page) → touched (copies copy to (v.place b) ks) x ≡ true → Guarded f (owner x) v.count (written (copies copy to (v.place b) ks) x)
  guard_new x t =
      let w = written (copies copy to (v.place b) ks) x in
      let z = copies_touched copy to (v.place b) ks x t in
      ⊎_elim
      (λ e. subst (λ o. Guarded f o v.count w) (sym (legal.arrive z.0 z.1) ∙ ap owner e) (strongly v.count z.0 w v.count joins self))
      (λ e. subst (λ o. Guarded f o v.count w) (sym (legal.leave z.0 z.1) ∙ ap owner e) (ghosted v.count w self))
      z.2

  no_slot : (n : ℕ) → touched (copies copy to (v.place b) ks) (Slot n) ≡ false
  no_slot n =
      ⊎_elim
      (λ t.
      let z = copies_touched copy to (v.place b) ks (Slot n) t in
      absurd (⊎_elim (λ e. legal.reaches z.0 n z.1 e) (λ e. legal.reached z.0 n z.1 e) z.2))
      (λ h. h)
      (bool_cases (touched (copies copy to (v.place b) ks) (Slot n)))

  nowhere : owner Nowhere ≡ Idle
  nowhere =
      legal.stay Nowhere (λ k h e. legal.somewhere k h e)
      (λ k h e. let p : Idle ≡ Live b k = sym g.nowhere ∙ sym (ap v.owner e) ∙ legal.stands k h in cc)
      ∙ g.nowhere

  -- a page of another buffer is none of the old or new places
  others : (c k : ℕ) → eqb b c && has k ks ≡ false → v.owner (v.place c k) ≡ Live c k →
      ((j : ℕ) → has j ks ≡ true → to j ≡ v.place c k → ⊥) × ((j : ℕ) → has j ks ≡ true → v.place b j ≡ v.place c k → ⊥)
  others c k h o = (
    λ j i e.
        ⊎_elim
        (λ q. let p : Target b j ≡ Live c k = sym q ∙ ap v.owner e ∙ o in cc)
        (λ q. let p : Kept b j ≡ Live c k = sym q ∙ ap v.owner e ∙ o in cc)
        (legal.ready j i),
    λ j i e.
        let p : Live b j ≡ Live c k = sym (legal.stands j i) ∙ ap v.owner e ∙ o in
        let bc : b ≡ c = cc in
        let jk : j ≡ k = cc in
        clash (ap₂ ◌&&◌ (eq-eqb b c bc) (subst (λ m. has m ks ≡ true) jk i)) h,
  )

  placed : (c k : ℕ) → (cond (eqb b c && has k ks) (to k) (v.place c k) ≡ Nowhere) ⊎ (owner (cond (eqb b c && has k ks) (to k) (v.place c k)) ≡ Live c k)
  placed c k =
      let P : Bool → Type 0 = λ q. (cond q (to k) (v.place c k) ≡ Nowhere) ⊎ (owner (cond q (to k) (v.place c k)) ≡ Live c k) in
      ⊎_elim
      (λ h.
      subst P (sym h)
      (inr (legal.arrive k (and_right (eqb b c) (has k ks) h) ∙ ap (λ d. Live d k) (eqb-true b c (and_left (eqb b c) (has k ks) h)))))
      (λ h.
      subst P (sym h)
      (⊎_elim inl (λ o. let z = others c k h o in inr (legal.stay (v.place c k) z.0 z.1 ∙ o)) (g.placed c k)))
      (bool_cases (eqb b c && has k ks))

  value : (s : Stores) → ((c k : ℕ) → s (v.place c k) ≡ v.plain (Own c k)) → (c k : ℕ) →
      run_all (copies copy to (v.place b) ks) s (cond (eqb b c && has k ks) (to k) (v.place c k)) ≡ v.plain (Own c k)
  value s agrees c k =
      let P : Bool → Type 0 = λ q. run_all (copies copy to (v.place b) ks) s (cond q (to k) (v.place c k)) ≡ v.plain (Own c k) in
      ⊎_elim
      (λ h.
      subst P (sym h)
      (let i : has k ks ≡ true = and_right (eqb b c) (has k ks) h in
      let z = copies_bring copy to (v.place b) ks s distinct apart k i in
      z.1 ∙ ap (copy z.0) (agrees b k) ∙ legal.brings k z.0 i
      ∙ ap (λ d. v.plain (Own d k)) (eqb-true b c (and_left (eqb b c) (has k ks) h))))
      (λ h.
      subst P (sym h)
      (copies_leave copy to (v.place b) ks s (v.place c k)
      (⊎_elim
      (λ e j i q. legal.somewhere j i (q ∙ e))
      (λ o. (others c k h o).0)
      (g.placed c k))
      ∙ agrees c k))
      (bool_cases (eqb b c && has k ks))

  pub move_keeps : Good zeros (moved copy b to ks f owner v)
  move_keeps =
      emit_keeps zeros v g (copies copy to (v.place b) ks) waits legal.emitted f prior owner
      (λ c k. cond (eqb b c && has k ks) (to k) (v.place c k)) v.plain
      guard_old guard_new no_slot
      (λ i x t w. let z = copies_written copy to (v.place b) ks x w in waited i x t z.0 z.1 (inl z.2))
      (λ i x w t.
      let z = copies_touched copy to (v.place b) ks x t in
      waited i x ((acts_all (v.left i)).within x w) z.0 z.1 z.2)
      nowhere placed
      (value (rest v.left v.count v.stores) g.value)
      (copies_show copy to (v.place b) ks (rest v.left v.count v.stores))

module _ (zeros : Bytes) (v : View) (g : Good zeros v) (copy : Bytes → Bytes → Bytes) (b : ℕ) (to : ℕ → Page) (ks : List ℕ) (waits : ℕ → Bool) (owner : Page → Owner) where
  -- the old pages go to a ghost that has the new job
  pub move_to_ghost_keeps : (n : ℕ) → MoveLegal v copy b to ks waits (Ghost n) owner →
      Good zeros (moved copy b to ks (moved_to_ghost v.count b n waits v.fences) owner v)
  move_to_ghost_keeps n legal =
      let f : Fences = moved_to_ghost v.count b n waits v.fences in
      let at : eqb v.count v.count ≡ true = eq-eqb v.count v.count refl in
      move_keeps zeros v g copy b to ks waits (Ghost n) owner legal f refl
      (λ j h. or_first (v.fences.strong b j) (eqb v.count j && eqb b b) h)
      (or_second (v.fences.strong b v.count) (eqb v.count v.count && eqb b b) (ap₂ ◌&&◌ at (eq-eqb b b refl)))
      (λ i x t. guarded_more v.fences f
      (λ j i h. or_first (v.fences.prior j i) (eqb v.count j && waits i) h)
      (λ c j h. or_first (v.fences.strong c j) (eqb v.count j && eqb b c) h)
      (λ c j h. h)
      (λ m j h. or_first (v.fences.ghost m j) (eqb v.count j && eqb n m) h) refl (v.owner x) i (written (v.left i) x) (g.guard i x t))
      (λ i w c. (v.count, or_second (v.fences.ghost n v.count) (eqb v.count v.count && eqb n n) (ap₂ ◌&&◌ at (eq-eqb n n refl)), c))

  -- the old pages are free at once, and the new job is the move job of VRAM. It comes after the last one.
  pub move_now_keeps : ((m : ℕ) → v.fences.mover ≡ Some m → (waits m ≡ true) ⊎ (v.done m ≡ true)) → MoveLegal v copy b to ks waits Free owner →
      Good zeros (moved copy b to ks (moved_now v.count b waits v.fences) owner v)
  move_now_keeps last legal =
      move_keeps zeros v g copy b to ks waits Free owner legal (moved_now v.count b waits v.fences) refl
      (λ j h. or_first (v.fences.strong b j) (eqb v.count j && eqb b b) h)
      (or_second (v.fences.strong b v.count) (eqb v.count v.count && eqb b b) (ap₂ ◌&&◌ (eq-eqb v.count v.count refl) (eq-eqb b b refl)))
      (λ i x t. old i x t (v.owner x) (g.guard i x t))
      (λ i w c. (v.count, refl, c))
    where
      f : Fences
      f = moved_now v.count b waits v.fences

      -- the fences with the old move job
      f' : Fences
      f' = record (moved_now v.count b waits v.fences) { mover = v.fences.mover }

      widened : (i : ℕ) (o : Owner) (w : Bool) → Guarded v.fences o i w → Guarded (record (moved_now v.count b waits v.fences) { mover = v.fences.mover }) o i w
      widened i o w h =
          guarded_more v.fences (record (moved_now v.count b waits v.fences) { mover = v.fences.mover })
          (λ j i h. or_first (v.fences.prior j i) (eqb v.count j && waits i) h)
          (λ c j h. or_first (v.fences.strong c j) (eqb v.count j && eqb b c) h)
          (λ c j h. h) (λ m j h. h) refl o i w h

      by_new : (i : ℕ) (x : Page) → touched (v.left i) x ≡ true → (m : ℕ) → v.fences.mover ≡ Some m → Covers v.fences.prior m i →
          Covers (moved_now v.count b waits v.fences).prior v.count i
      by_new i x t m e c =
          ⊎_elim
          (λ q.
          behind
          (or_second (v.fences.prior v.count m) (eqb v.count v.count && waits m) (ap₂ ◌&&◌ (eq-eqb v.count v.count refl) q))
          (covers_more (λ j i h. or_first (v.fences.prior j i) (eqb v.count j && waits i) h) c))
          (λ d. absurd (not_done zeros v g i x t (covered zeros v g c d)))
          (last m e)

      old : (i : ℕ) (x : Page) → touched (v.left i) x ≡ true → (o : Owner) → Guarded v.fences o i (written (v.left i) x) →
          Guarded (moved_now v.count b waits v.fences) o i (written (v.left i) x)
      old i x t Idle h = h
      old i x t Free h = (v.count, refl, by_new i x t h.0 h.1 h.2)
      old i x t (Live c k) h = widened i (Live c k) (written (v.left i) x) h
      old i x t (Kept c k) h = h
      old i x t (Target c k) h = ((widened i (Target c k) (written (v.left i) x) h).0, (v.count, refl, by_new i x t h.1.0 h.1.1 h.1.2))
      old i x t (Ghost n) h = widened i (Ghost n) (written (v.left i) x) h

-- the owners after a move
module _ (owner : Page → Owner) (b : ℕ) (to from : ℕ → Page) (ks : List ℕ) (gone : Owner) where
  abbrev pub Found : (ℕ → Page) → Page → Type 0
  Found h x = ((k : ℕ) × (has k ks ≡ true) × (h k ≡ x)) ⊎ ((k : ℕ) → has k ks ≡ true → h k ≡ x → ⊥)

  abbrev pub chosen : (x : Page) → Found to x → Found from x → Owner
  chosen x (inl z) q = Live b z.0
  chosen x (inr n) (inl z) = gone
  chosen x (inr n) (inr m) = owner x

  abbrev pub moved_owner : Page → Owner
  moved_owner x = chosen x (among to ks x) (among from ks x)

  module _ (distinct : (j k : ℕ) → has j ks ≡ true → has k ks ≡ true → to j ≡ to k → j ≡ k)
      (apart : (j k : ℕ) → has j ks ≡ true → has k ks ≡ true → to j ≡ from k → ⊥) where
    pub arrives : (k : ℕ) → has k ks ≡ true → moved_owner (to k) ≡ Live b k
    arrives k h = at (among to ks (to k)) (among from ks (to k))
      where
        at : (p : Found to (to k)) (q : Found from (to k)) → chosen (to k) p q ≡ Live b k
        at (inl z) q = ap (Live b) (distinct z.0 k z.1 h z.2)
        at (inr n) q = absurd (n k h refl)

    pub leaves : (k : ℕ) → has k ks ≡ true → moved_owner (from k) ≡ gone
    leaves k h = at (among to ks (from k)) (among from ks (from k))
      where
        at : (p : Found to (from k)) (q : Found from (from k)) → chosen (from k) p q ≡ gone
        at (inl z) q = absurd (apart z.0 k z.1 h z.2)
        at (inr n) (inl z) = refl
        at (inr n) (inr m) = absurd (m k h refl)

    pub stays : (x : Page) → ((k : ℕ) → has k ks ≡ true → to k ≡ x → ⊥) → ((k : ℕ) → has k ks ≡ true → from k ≡ x → ⊥) → moved_owner x ≡ owner x
    stays x n m = at (among to ks x) (among from ks x)
      where
        at : (p : Found to x) (q : Found from x) → chosen x p q ≡ owner x
        at (inl z) q = absurd (n z.0 z.1 z.2)
        at (inr a) (inl z) = absurd (m z.0 z.1 z.2)
        at (inr a) (inr c) = refl
