-- Entries that change no bytes: pages get other owners.
use Rattle.std.proofs.Common.{◌≡◌, ℕ, ◌≢◌, Bool, true, false, cond, ◌&&◌, ◌||◌, ◌⊎◌, eqb, refl, sym, ◌∙◌, ap, ap₂, subst, inl, inr, ⊎_elim, eq-eqb, Some}
use Rattle.laws.specs.lemma_bytes_model.Memory.{Page, Bytes, Nowhere, Own, Stores, touched, written}
use Rattle.laws.specs.lemma_bytes_model.View.{rest, Owner, Idle, Free, Live, Kept, Target, Ghost, Fences, View, After, is_fence, Guarded, Good}
use Rattle.laws.specs.lemma_bytes_model.Entries.{retitled, taking, freed, is_own, Fate}
use Rattle.laws.proofs.lemma_bytes_model.Actions.{bool_cases, clash, or_first, or_second}
use Rattle.laws.proofs.lemma_bytes_model.Engine.{not_done, covered, guarded_less}
use Rattle.laws.proofs.lemma_bytes_model.Emit.{guarded_more}
use Rattle.laws.proofs.lemma_bytes_model.Cpu.{rest_unwritten, untouched_unwritten, idle_untouched}

module _ (zeros : Bytes) (v : View) (g : Good zeros v) where
  -- what an entry owes that emits no job and changes no store
  pub reown_keeps : (f : Fences) → v.fences.prior ≡ f.prior → (owner : Page → Owner) (place : ℕ → ℕ → Page) (plain : Stores) →
      ((i : ℕ) (x : Page) → touched (v.left i) x ≡ true → Guarded f (owner x) i (written (v.left i) x)) →
      (owner Nowhere ≡ Idle) →
      ((b i : ℕ) → (place b i ≡ Nowhere) ⊎ (owner (place b i) ≡ Live b i)) →
      ((b i : ℕ) → rest v.left v.count v.stores (place b i) ≡ plain (Own b i)) →
      Good zeros (record v { fences = f; owner = owner; place = place; plain = plain })
  reown_keeps f prior owner place plain guard nowhere placed value = record {
    fresh = g.fresh;
    unbegun = g.unbegun;
    earlier = λ j i h. g.earlier j i (ap (λ p. p j i) prior ∙ h);
    order = λ j i b h. g.order j i b (ap (λ p. p j i) prior ∙ h);
    begins = g.begins;
    ends = g.ends;
    writer = λ i j x lt t w. subst (λ p. After p j i) prior (g.writer i j x lt t w);
    reader = λ i j x lt w t. subst (λ p. After p j i) prior (g.reader i j x lt w t);
    guard = guard;
    slots = g.slots;
    nowhere = nowhere;
    placed = placed;
    zero = g.zero;
    value = value;
    show = g.show;
  }

  -- where no page of a buffer gets another owner
  pub retitle_keeps : (f : Fences) → v.fences.prior ≡ f.prior → (owner : Page → Owner) →
      ((o : Owner) (i : ℕ) (w : Bool) → Guarded v.fences o i w → Guarded f o i w) →
      ((x : Page) →
      (owner x ≡ v.owner x)
      ⊎ (((b k : ℕ) → v.owner x ≡ Live b k → ⊥) × ((i : ℕ) (w : Bool) → v.done i ≢ true → Guarded v.fences (v.owner x) i w → Guarded f (owner x) i w))) →
      (owner Nowhere ≡ Idle) → Good zeros (retitled f owner v)
  retitle_keeps f prior owner widen fate nowhere =
      reown_keeps f prior owner v.place v.plain
      (λ i x t.
      let w = written (v.left i) x in
      ⊎_elim
      (λ e. subst (λ o. Guarded f o i w) (sym e) (widen (v.owner x) i w (g.guard i x t)))
      (λ z. z.1 i w (not_done zeros v g i x t) (g.guard i x t))
      (fate x))
      nowhere
      (λ b k.
      ⊎_elim inl
      (λ o. ⊎_elim (λ e. inr (e ∙ o)) (λ z. absurd (z.0 b k o)) (fate (v.place b k)))
      (g.placed b k))
      g.value

  widen_taking : (b : ℕ) (takes : ℕ → Bool) (o : Owner) (i : ℕ) (w : Bool) → Guarded v.fences o i w → Guarded (taking b takes v.fences) o i w
  widen_taking b takes o i w h =
      guarded_more v.fences (taking b takes v.fences) (λ j i h. h) (λ c j h. or_first (v.fences.strong c j) (eqb b c && takes j) h) (λ c j h. h) (λ n j h. h) refl o i w h

  -- free pages of VRAM become the target of b, which the move job joins where it isn't done
  pub take_keeps : (b : ℕ) (takes : ℕ → Bool) (owner : Page → Owner) →
      ((m : ℕ) → v.fences.mover ≡ Some m → (takes m ≡ true) ⊎ (v.done m ≡ true)) →
      ((x : Page) → (owner x ≡ v.owner x) ⊎ ((k : ℕ) × (v.owner x ≡ Free) × (owner x ≡ Target b k))) →
      Good zeros (retitled (taking b takes v.fences) owner v)
  take_keeps b takes owner move fate =
      retitle_keeps (taking b takes v.fences) refl owner (widen_taking b takes)
      (λ x.
      ⊎_elim inl
      (λ z.
      inr (
        λ c l e. (let p : Free ≡ Live c l = sym z.1 ∙ e in cc),
        λ i w undone h.
            let m : Guarded v.fences Free i w = subst (λ o. Guarded v.fences o i w) z.1 h in
            let taker : takes m.0 ≡ true = ⊎_elim (λ e. e) (λ d. absurd (undone (covered zeros v g m.2 d))) (move m.0 m.1) in
            subst (λ o. Guarded (taking b takes v.fences) o i w) (sym z.2)
            ((m.0, or_second (v.fences.strong b m.0) (eqb b b && takes m.0) (ap₂ ◌&&◌ (eq-eqb b b refl) taker), m.2), (m.0, m.1, m.2)),
      ))
      (fate x))
      (⊎_elim (λ e. e ∙ g.nowhere) (λ z. let p : Idle ≡ Free = sym g.nowhere ∙ z.1 in cc) (fate Nowhere))

  -- pages of a target are free again
  pub untake_keeps : (owner : Page → Owner) →
      ((x : Page) → (owner x ≡ v.owner x) ⊎ ((b : ℕ) × (k : ℕ) × (v.owner x ≡ Target b k) × (owner x ≡ Free))) → Good zeros (retitled v.fences owner v)
  untake_keeps owner fate =
      retitle_keeps v.fences refl owner (λ o i w h. h)
      (λ x.
      ⊎_elim inl
      (λ z.
      inr (
        λ c l e. (let p : Target z.0 z.1 ≡ Live c l = sym z.2 ∙ e in cc),
        λ i w undone h.
            let m : Guarded v.fences (Target z.0 z.1) i w = subst (λ o. Guarded v.fences o i w) z.2 h in
            subst (λ o. Guarded v.fences o i w) (sym z.3) m.1,
      ))
      (fate x))
      (⊎_elim (λ e. e ∙ g.nowhere) (λ z. let p : Idle ≡ Target z.0 z.1 = sym g.nowhere ∙ z.2 in cc) (fate Nowhere))

  -- a ghost whose jobs are all done is gone, and its pages have other owners, no matter which
  pub reap_keeps : (n : ℕ) (ghost : ℕ → ℕ → Bool) (owner : Page → Owner) →
      ((j : ℕ) → v.fences.ghost n j ≡ true → v.done j ≡ true) →
      ((m j : ℕ) → (n ≡ m → ⊥) → v.fences.ghost m j ≡ true → ghost m j ≡ true) →
      ((x : Page) → ((owner x ≡ v.owner x) × (v.owner x ≡ Ghost n → ⊥)) ⊎ (v.owner x ≡ Ghost n)) →
      Good zeros (retitled (record v.fences { ghost = ghost }) owner v)
  reap_keeps n ghost owner all others fate =
      reown_keeps (record v.fences { ghost = ghost }) refl owner v.place v.plain
      (λ i x t.
      let w = written (v.left i) x in
      ⊎_elim
      (λ z. subst (λ o. Guarded (record v.fences { ghost = ghost }) o i w) (sym z.0) (still i w (v.owner x) z.1 (g.guard i x t)))
      (λ z.
      let m : Guarded v.fences (Ghost n) i w = subst (λ o. Guarded v.fences o i w) z (g.guard i x t) in
      absurd (not_done zeros v g i x t (covered zeros v g m.2 (all m.0 m.1))))
      (fate x))
      (⊎_elim (λ z. z.0 ∙ g.nowhere) (λ z. let p : Idle ≡ Ghost n = sym g.nowhere ∙ z in cc) (fate Nowhere))
      (λ b k.
      ⊎_elim inl
      (λ o. ⊎_elim (λ z. inr (z.0 ∙ o)) (λ z. let p : Ghost n ≡ Live b k = sym z ∙ o in cc) (fate (v.place b k)))
      (g.placed b k))
      g.value
    where
      still : (i : ℕ) (w : Bool) (o : Owner) → (o ≡ Ghost n → ⊥) → Guarded v.fences o i w → Guarded (record v.fences { ghost = ghost }) o i w
      still i w Idle ne h = h
      still i w Free ne h = h
      still i w (Live b k) ne h = h
      still i w (Kept b k) ne h = h
      still i w (Target b k) ne h = h
      still i w (Ghost m) ne h = (h.0, others m h.0 (λ q. ne (ap Ghost (sym q))) h.1, h.2)

  -- b dies, and a ghost has those of its jobs that aren't done
  pub free_keeps : (b n : ℕ) (jobs : ℕ → Bool) (owner : Page → Owner) →
      ((j : ℕ) → is_fence v.fences b false j ≡ true → (jobs j ≡ true) ⊎ (v.done j ≡ true)) →
      ((x : Page) → Fate v b n x (owner x)) → (owner Nowhere ≡ Idle) → Good zeros (freed b owner n jobs zeros v)
  free_keeps b n jobs owner waited fate nowhere =
      reown_keeps f refl owner (λ c k. cond (eqb b c) Nowhere (v.place c k)) (λ x. cond (is_own b x) zeros (v.plain x))
      (λ i x t.
      let w = written (v.left i) x in
      ⊎_elim
      (λ z. absurd (subst (λ o. Guarded v.fences o i w) z.1 (g.guard i x t)))
      (λ z.
      ⊎_elim
      (λ l.
      let m : Guarded v.fences (Live b l.0) i false =
      guarded_less v.fences (Live b l.0) i w false (λ z. clash z refl) (subst (λ o. Guarded v.fences o i w) l.1 (g.guard i x t)) in
      subst (λ o. Guarded f o i w) (sym l.2)
      (⊎_elim
      (λ q. (m.0, or_second (v.fences.ghost n m.0) (eqb n n && jobs m.0) (ap₂ ◌&&◌ (eq-eqb n n refl) q), m.2))
      (λ d. absurd (not_done zeros v g i x t (covered zeros v g m.2 d)))
      (waited m.0 m.1)))
      (λ z.
      ⊎_elim
      (λ l. clash t (l.2 i))
      (λ z.
      ⊎_elim
      (λ l.
      let m : Guarded v.fences (Target b l.0) i w = subst (λ o. Guarded v.fences o i w) l.1 (g.guard i x t) in
      subst (λ o. Guarded f o i w) (sym l.2) m.1)
      (λ e.
      subst (λ o. Guarded f o i w) (sym e)
      (guarded_more v.fences f (λ j i h. h) (λ c j h. h) (λ c j h. h) (λ m j h. or_first (v.fences.ghost m j) (eqb n m && jobs j) h) refl
      (v.owner x) i w (g.guard i x t)))
      z)
      z)
      z)
      (fate x))
      nowhere
      placed
      value
    where
      f : Fences
      f = record v.fences { ghost = λ m j. v.fences.ghost m j || (eqb n m && jobs j) }

      placed : (c k : ℕ) → (cond (eqb b c) Nowhere (v.place c k) ≡ Nowhere) ⊎ (owner (cond (eqb b c) Nowhere (v.place c k)) ≡ Live c k)
      placed c k =
          let P : Bool → Type 0 = λ q. (cond q Nowhere (v.place c k) ≡ Nowhere) ⊎ (owner (cond q Nowhere (v.place c k)) ≡ Live c k) in
          ⊎_elim
          (λ h. subst P (sym h) (inl refl))
          (λ h.
          let ne : b ≡ c → ⊥ = λ e. clash (eq-eqb b c e) h in
          subst P (sym h)
          (⊎_elim inl
          (λ o.
          ⊎_elim
          (λ z. let p : Live c k ≡ Kept b z.0 = sym o ∙ z.1 in cc)
          (λ z.
          ⊎_elim
          (λ l. let p : Live b l.0 ≡ Live c k = sym l.1 ∙ o in let q : b ≡ c = cc in absurd (ne q))
          (λ z.
          ⊎_elim
          (λ l. let p : Live b l.0 ≡ Live c k = sym l.1 ∙ o in let q : b ≡ c = cc in absurd (ne q))
          (λ z.
          ⊎_elim
          (λ l. let p : Target b l.0 ≡ Live c k = sym l.1 ∙ o in cc)
          (λ e. inr (e ∙ o))
          z)
          z)
          z)
          (fate (v.place c k)))
          (g.placed c k)))
          (bool_cases (eqb b c))

      value : (c k : ℕ) → rest v.left v.count v.stores (cond (eqb b c) Nowhere (v.place c k)) ≡ cond (eqb b c) zeros (v.plain (Own c k))
      value c k =
          let P : Bool → Type 0 = λ q. rest v.left v.count v.stores (cond q Nowhere (v.place c k)) ≡ cond q zeros (v.plain (Own c k)) in
          ⊎_elim
          (λ h.
          subst P (sym h)
          (rest_unwritten zeros v g Nowhere (λ i. untouched_unwritten zeros v g Nowhere i (idle_untouched zeros v g Nowhere g.nowhere i)) v.count
          ∙ g.zero))
          (λ h. subst P (sym h) (g.value c k))
          (bool_cases (eqb b c))
