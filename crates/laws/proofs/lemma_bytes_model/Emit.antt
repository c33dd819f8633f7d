-- A new job is emitted: what was known of the old ones stays, and what is asked of the new one.
use Rattle.std.proofs.Common.{◌≡◌, ℕ, suc, ◌<◌, ◌≤◌, Bool, true, false, not, ◌&&◌, ◌||◌, ◌⊎◌, eqb, List, [], refl, sym, ◌∙◌, ap, ap₂, subst, inl, inr, ⊎_elim, arith, eqb-true, eq-eqb}
use Rattle.std.proofs.lemmas.Bool.{cases_lt}
use Rattle.laws.specs.lemma_bytes_model.Memory.{Page, Bytes, Nowhere, Slot, Own, Stores, Step, run_all, touched, written, AllShow}
use Rattle.laws.specs.lemma_bytes_model.View.{at_job, rest, Owner, Idle, Free, Live, Kept, Target, Ghost, Fences, View, Covers, self, behind, After, Guarded, Good}
use Rattle.laws.proofs.lemma_bytes_model.Actions.{clash, and_left, and_right, or_first, or_second, or_cases}
use Rattle.laws.proofs.lemma_bytes_model.Rest.{at_same, at_other, at_each, rest_same}

pub covers_more : {prior prior' : ℕ → ℕ → Bool} → ((j i : ℕ) → prior j i ≡ true → prior' j i ≡ true) → {j i : ℕ} → Covers prior j i → Covers prior' j i
covers_more le self = self
covers_more le (behind {j = j} {k = k} p c) = behind (le j k p) (covers_more le c)

-- what holds of a page of an old job holds with more jobs
pub guarded_more : (f f' : Fences) →
    ((j i : ℕ) → f.prior j i ≡ true → f'.prior j i ≡ true) →
    ((b j : ℕ) → f.strong b j ≡ true → f'.strong b j ≡ true) →
    ((b j : ℕ) → f.shared b j ≡ true → f'.shared b j ≡ true) →
    ((n j : ℕ) → f.ghost n j ≡ true → f'.ghost n j ≡ true) →
    f.mover ≡ f'.mover → (o : Owner) (i : ℕ) (w : Bool) → Guarded f o i w → Guarded f' o i w
guarded_more f f' p s r h m Idle i w g = g
guarded_more f f' p s r h m Free i w g = (g.0, sym m ∙ g.1, covers_more p g.2)
guarded_more f f' p s r h m (Live b k) i w g = (
  g.0,
  ⊎_elim
      (λ e. or_first (f'.strong b g.0) (not w && f'.shared b g.0) (s b g.0 e))
      (λ e. or_second (f'.strong b g.0) (not w && f'.shared b g.0)
      (let l : not w ≡ true = and_left (not w) (f.shared b g.0) e in
      let q : f'.shared b g.0 ≡ true = r b g.0 (and_right (not w) (f.shared b g.0) e) in
      ap₂ ◌&&◌ l q))
      (or_cases (f.strong b g.0) (not w && f.shared b g.0) g.1),
  covers_more p g.2,
)
guarded_more f f' p s r h m (Kept b k) i w g = g
guarded_more f f' p s r h m (Target b k) i w g =
    ((g.0.0, s b g.0.0 g.0.1, covers_more p g.0.2), (g.1.0, sym m ∙ g.1.1, covers_more p g.1.2))
guarded_more f f' p s r h m (Ghost n) i w g = (g.0, h n g.0 g.1, covers_more p g.2)

module _ (zeros : Bytes) (v : View) (g : Good zeros v) (xs : List Step) (waits : ℕ → Bool)
    (emitted : (j : ℕ) → waits j ≡ true → j < v.count)
    (f : Fences) (prior : f.prior ≡ λ j i. v.fences.prior j i || (eqb v.count j && waits i))
    (owner : Page → Owner) (place : ℕ → ℕ → Page) (plain : Stores)
    (guard : (i : ℕ) (x : Page) → touched (v.left i) x ≡ true → Guarded f (owner x) i (written (v.left i) x))
    (guard_new : (x : Page) → touched xs x ≡ true → Guarded f (owner x) v.count (written xs x))
    (slots : (n : ℕ) → touched xs (Slot n) ≡ false)
    (writer : (i : ℕ) (x : Page) → touched (v.left i) x ≡ true → written xs x ≡ true → (k : ℕ) × (waits k ≡ true) × Covers v.fences.prior k i)
    (reader : (i : ℕ) (x : Page) → written (v.left i) x ≡ true → touched xs x ≡ true → (k : ℕ) × (waits k ≡ true) × Covers v.fences.prior k i)
    (nowhere : owner Nowhere ≡ Idle)
    (placed : (b i : ℕ) → (place b i ≡ Nowhere) ⊎ (owner (place b i) ≡ Live b i))
    (value : (b i : ℕ) → run_all xs (rest v.left v.count v.stores) (place b i) ≡ plain (Own b i))
    (show : AllShow xs (rest v.left v.count v.stores)) where
  more : (j i : ℕ) → v.fences.prior j i ≡ true → f.prior j i ≡ true
  more j i h = ap (λ p. p j i) prior ∙ or_first (v.fences.prior j i) (eqb v.count j && waits i) h

  newly : (i : ℕ) → waits i ≡ true → f.prior v.count i ≡ true
  newly i h =
      ap (λ p. p v.count i) prior
      ∙ or_second (v.fences.prior v.count i) (eqb v.count v.count && waits i) (ap₂ ◌&&◌ (eq-eqb v.count v.count refl) h)

  old_or_new : (j i : ℕ) → f.prior j i ≡ true → (v.fences.prior j i ≡ true) ⊎ ((v.count ≡ j) × (waits i ≡ true))
  old_or_new j i h =
      ⊎_elim (λ e. inl e)
      (λ e. inr (eqb-true v.count j (and_left (eqb v.count j) (waits i) e), and_right (eqb v.count j) (waits i) e))
      (or_cases (v.fences.prior j i) (eqb v.count j && waits i) (ap (λ p. p j i) (sym prior) ∙ h))

  after_more : (j i : ℕ) → After v.fences.prior j i → After f.prior j i
  after_more j i a = (a.0, more j a.0 a.1, covers_more more a.2)

  after_new : (i : ℕ) → (k : ℕ) × (waits k ≡ true) × Covers v.fences.prior k i → After f.prior v.count i
  after_new i a = (a.0, newly a.0 a.1, covers_more more a.2)

  rests : (n : ℕ) → n ≤ v.count → rest (at_job v.count xs v.left) n v.stores ≡ rest v.left n v.stores
  rests n h = rest_same (at_job v.count xs v.left) v.left n v.stores (λ i k. at_other v.count i xs v.left (λ e. absurd (omega arith)))

  all : rest (at_job v.count xs v.left) (suc v.count) v.stores ≡ run_all xs (rest v.left v.count v.stores)
  all = ap₂ run_all (at_same v.count v.count xs v.left refl) (rests v.count (omega arith))

  past : (j : ℕ) → v.count < j → (x : Page) → touched (v.left j) x ≡ false
  past j h x = ap (λ l. touched l x) (g.fresh j (omega arith))

  past_written : (j : ℕ) → v.count < j → (x : Page) → written (v.left j) x ≡ false
  past_written j h x = ap (λ l. written l x) (g.fresh j (omega arith))

  writers : (j i : ℕ) (x : Page) → i < j → touched (at_job v.count xs v.left i) x ≡ true → written (at_job v.count xs v.left j) x ≡ true → After f.prior j i
  writers =
      at_each (λ j l. (i : ℕ) (x : Page) → i < j → touched (at_job v.count xs v.left i) x ≡ true → written l x ≡ true → After f.prior j i)
      v.count xs v.left
      (λ i x lt t w. after_new i (writer i x (subst (λ l. touched l x ≡ true) (at_other v.count i xs v.left (λ e. absurd (omega arith))) t) w))
      (λ j ne i x lt t w.
      at_each (λ i l. i < j → touched l x ≡ true → After f.prior j i) v.count xs v.left
      (λ lt t. clash w (past_written j lt x))
      (λ i ne lt t. after_more j i (g.writer i j x lt t w)) i lt t)

  readers : (j i : ℕ) (x : Page) → i < j → written (at_job v.count xs v.left i) x ≡ true → touched (at_job v.count xs v.left j) x ≡ true → After f.prior j i
  readers =
      at_each (λ j l. (i : ℕ) (x : Page) → i < j → written (at_job v.count xs v.left i) x ≡ true → touched l x ≡ true → After f.prior j i)
      v.count xs v.left
      (λ i x lt w t. after_new i (reader i x (subst (λ l. written l x ≡ true) (at_other v.count i xs v.left (λ e. absurd (omega arith))) w) t))
      (λ j ne i x lt w t.
      at_each (λ i l. i < j → written l x ≡ true → After f.prior j i) v.count xs v.left
      (λ lt w. clash t (past j lt x))
      (λ i ne lt w. after_more j i (g.reader i j x lt w t)) i lt w)

  shows : (j : ℕ) → AllShow (at_job v.count xs v.left j) (rest (at_job v.count xs v.left) j v.stores)
  shows =
      at_each (λ j l. AllShow l (rest (at_job v.count xs v.left) j v.stores)) v.count xs v.left
      (subst (AllShow xs) (sym (rests v.count (omega arith))) show)
      (λ j ne.
      ⊎_elim
      (λ lt. subst (AllShow (v.left j)) (sym (rests j (omega arith))) (g.show j))
      (λ le.
      let e : v.left j ≡ [] = g.fresh j le in
      subst (λ l. AllShow l (rest (at_job v.count xs v.left) j v.stores)) (sym e) tt)
      (cases_lt j v.count))

  pub emit_keeps : Good zeros (record v {
    count = suc v.count;
    left = at_job v.count xs v.left;
    fences = f;
    owner = owner;
    place = place;
    plain = plain;
  })
  emit_keeps = record {
    fresh = at_each (λ i l. suc v.count ≤ i → l ≡ []) v.count xs v.left (λ h. absurd (omega arith)) (λ i ne h. g.fresh i (omega arith));
    unbegun = λ j h. let lt : j < v.count = g.unbegun j h in omega arith;
    earlier = λ j i h.
        ⊎_elim
        (λ e. let lt : i < v.count = g.earlier j i e in omega arith)
        (λ e. let lt : i < v.count = emitted i e.1 in omega arith)
        (old_or_new j i h);
    order = λ j i b h.
        ⊎_elim (λ e. g.order j i b e)
        (λ e. let lt : j < v.count = g.unbegun j b in let q : v.count ≡ j = e.0 in absurd (omega arith))
        (old_or_new j i h);
    begins = g.begins;
    ends = λ j d.
        let ne : v.count ≡ j → ⊥ = λ e. let lt : j < v.count = g.unbegun j (g.begins j d) in absurd (omega arith) in
        at_other v.count j xs v.left ne ∙ g.ends j d;
    writer = λ i j x lt t w. writers j i x lt t w;
    reader = λ i j x lt w t. readers j i x lt w t;
    guard = at_each (λ i l. (x : Page) → touched l x ≡ true → Guarded f (owner x) i (written l x)) v.count xs v.left
        guard_new (λ i ne x t. guard i x t);
    slots = at_each (λ i l. (n : ℕ) → touched l (Slot n) ≡ false) v.count xs v.left slots (λ i ne n. g.slots i n);
    nowhere = nowhere;
    placed = placed;
    zero = g.zero;
    value = λ b i. ap (λ s. s (place b i)) all ∙ value b i;
    show = shows;
  }
