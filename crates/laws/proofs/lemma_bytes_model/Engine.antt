-- An engine's two entries: the head's next packet runs, and a job with no packet left is done.
use Rattle.std.proofs.Common.{◌≡◌, ℕ, ◌<◌, ◌≤◌, Bool, true, false, not, ◌&&◌, ◌||◌, eqb, List, [], ◌∷◌, refl, sym, ◌∙◌, ap, subst, ⊎_elim, arith, eqb-true, eq-eqb}
use Rattle.std.proofs.lemmas.Bool.{cases_lt}
use Rattle.laws.specs.lemma_bytes_model.Memory.{Page, Bytes, Nowhere, Slot, run, shown, touches, writes, Step, touched, written, AllShow}
use Rattle.laws.specs.lemma_bytes_model.View.{at_job, rest, Owner, Idle, Free, Live, Kept, Target, Ghost, Fences, View, Covers, self, behind, After, Guarded, Good, packet_ran, job_done}
use Rattle.laws.proofs.lemma_bytes_model.Actions.{bool_cases, clash, Apart, acts_packet, acts_all, or_first, or_second, shown_same, all_show_same}
use Rattle.laws.proofs.lemma_bytes_model.Rest.{at_same, at_other, at_each, rest_leaves, rest_before, rest_beyond}

pub covered : (zeros : Bytes) (v : View) → Good zeros v → {j i : ℕ} → Covers v.fences.prior j i → v.done j ≡ true → v.done i ≡ true
covered zeros v g self h = h
covered zeros v g (behind {j = j} {k = k} p c) h = covered zeros v g c (g.order j k (g.begins j h) p)

-- a job that has a packet left isn't done
pub not_done : (zeros : Bytes) (v : View) → Good zeros v → (i : ℕ) (x : Page) → touched (v.left i) x ≡ true → v.done i ≡ true → ⊥
not_done zeros v g i x t d = clash t (ap (λ l. touched l x) (g.ends i d))

fence_weaker : (a b w : Bool) → a || (not true && b) ≡ true → a || (not w && b) ≡ true
fence_weaker a b w h = grind arith

pub guarded_weaker : (f : Fences) (o : Owner) (i : ℕ) (w : Bool) → Guarded f o i true → Guarded f o i w
guarded_weaker f Idle i w h = h
guarded_weaker f Free i w h = h
guarded_weaker f (Live b k) i w h = (h.0, fence_weaker (f.strong b h.0) (f.shared b h.0) w h.1, h.2)
guarded_weaker f (Kept b k) i w h = h
guarded_weaker f (Target b k) i w h = h
guarded_weaker f (Ghost n) i w h = h

-- where more may be written, more is guarded
pub guarded_less : (f : Fences) (o : Owner) (i : ℕ) (w w' : Bool) → (w' ≡ true → w ≡ true) → Guarded f o i w → Guarded f o i w'
guarded_less f o i true w' le h = guarded_weaker f o i w' h
guarded_less f o i false true le h = clash (le refl) refl
guarded_less f o i false false le h = h

module _ (zeros : Bytes) (v : View) (g : Good zeros v) (j : ℕ) (x : Step) (xs : List Step) (is : v.left j ≡ x ∷ xs)
    (ready : (i : ℕ) → v.fences.prior j i ≡ true → v.done i ≡ true) where
  within_touched : (q : Page) → touches x.packet q ≡ true → touched (v.left j) q ≡ true
  within_touched q h = ap (λ l. touched l q) is ∙ or_first (touches x.packet q) (touched xs q) h

  within_written : (q : Page) → writes x.packet q ≡ true → written (v.left j) q ≡ true
  within_written q h = ap (λ l. written l q) is ∙ or_first (writes x.packet q) (written xs q) h

  tail_touched : (q : Page) → touched xs q ≡ true → touched (v.left j) q ≡ true
  tail_touched q h = ap (λ l. touched l q) is ∙ or_second (touches x.packet q) (touched xs q) h

  tail_written : (q : Page) → written xs q ≡ true → written (v.left j) q ≡ true
  tail_written q h = ap (λ l. written l q) is ∙ or_second (writes x.packet q) (written xs q) h

  is_done : (i : ℕ) → After v.fences.prior j i → v.done i ≡ true
  is_done i a = covered zeros v g a.2 (ready a.0 a.1)

  -- a job whose waits are all done is in no conflict with an earlier one
  pub apart : (i : ℕ) → i < j → Apart (touches x.packet) (writes x.packet) (touched (v.left i)) (written (v.left i))
  apart i lt = record {
    left = λ q h.
        ⊎_elim
        (λ t. absurd (not_done zeros v g i q t (is_done i (g.writer i j q lt t (within_written q h)))))
        (λ e. e)
        (bool_cases (touched (v.left i) q));
    right = λ q h.
        ⊎_elim
        (λ t. absurd (not_done zeros v g i q ((acts_all (v.left i)).within q t) (is_done i (g.reader i j q lt t (within_touched q h)))))
        (λ e. e)
        (bool_cases (written (v.left i) q));
  }

  -- a probe shows now what it has to show
  pub shows_due : shown x.packet v.stores ≡ x.due
  shows_due =
      let at : AllShow (x ∷ xs) (rest v.left j v.stores) = subst (λ l. AllShow l (rest v.left j v.stores)) is (g.show j) in
      shown_same x.packet v.stores (rest v.left j v.stores)
      (λ q h. sym (rest_leaves (touches x.packet) (writes x.packet) (run x.packet) (acts_packet x.packet) v.left j v.stores apart q h))
      ∙ at.0

  left' : ℕ → List Step
  left' = at_job j xs v.left

  less_touched : (i : ℕ) (q : Page) → touched (at_job j xs v.left i) q ≡ true → touched (v.left i) q ≡ true
  less_touched =
      at_each (λ i l. (q : Page) → touched l q ≡ true → touched (v.left i) q ≡ true) j xs v.left tail_touched (λ i ne q h. h)

  less_written : (i : ℕ) (q : Page) → written (at_job j xs v.left i) q ≡ true → written (v.left i) q ≡ true
  less_written =
      at_each (λ i l. (q : Page) → written l q ≡ true → written (v.left i) q ≡ true) j xs v.left tail_written (λ i ne q h. h)

  running : j < v.count
  running =
      ⊎_elim (λ h. h)
      (λ h. let e : v.left j ≡ [] = g.fresh j h in let f : v.left j ≡ x ∷ xs = is in cc)
      (cases_lt j v.count)

  running_not_done : v.done j ≡ true → ⊥
  running_not_done h = let e : v.left j ≡ [] = g.ends j h in let f : v.left j ≡ x ∷ xs = is in cc

  no_slot : (i n : ℕ) → touched (at_job j xs v.left i) (Slot n) ≡ false
  no_slot i n =
      ⊎_elim (λ h. clash (less_touched i (Slot n) h) (g.slots i n)) (λ h. h)
      (bool_cases (touched (at_job j xs v.left i) (Slot n)))

  unwritten : (q : Page) → v.owner q ≡ Idle → writes x.packet q ≡ false
  unwritten q e =
      ⊎_elim
      (λ h.
      let t : touched (v.left j) q ≡ true = (acts_all (v.left j)).within q (within_written q h) in
      absurd (subst (λ o. Guarded v.fences o j (written (v.left j) q)) e (g.guard j q t)))
      (λ h. h)
      (bool_cases (writes x.packet q))

  show_all : (k : ℕ) → AllShow (at_job j xs v.left k) (rest (at_job j xs v.left) k (run x.packet v.stores))
  show_all k =
      ⊎_elim
      (λ lt.
      subst (λ l. AllShow l (rest (at_job j xs v.left) k (run x.packet v.stores))) (sym (at_other j k xs v.left (λ e. absurd (omega arith))))
      (subst (AllShow (v.left k)) (sym (rest_before v.left j x xs is v.stores apart k (omega arith)))
      (all_show_same (v.left k) (rest v.left k v.stores) (run x.packet (rest v.left k v.stores))
      (λ q t. sym ((acts_packet x.packet).other (rest v.left k v.stores) q (unwritten_by k lt q t)))
      (g.show k))))
      (λ le.
      ⊎_elim
      (λ e.
      let P : ℕ → Type 0 = λ m. AllShow (at_job j xs v.left m) (rest (at_job j xs v.left) m (run x.packet v.stores)) in
      subst P (eqb-true j k e)
      (subst (λ l. AllShow l (rest (at_job j xs v.left) j (run x.packet v.stores))) (sym (at_same j j xs v.left refl))
      (subst (AllShow xs) (sym (rest_before v.left j x xs is v.stores apart j (omega arith)))
      (subst (λ l. AllShow l (rest v.left j v.stores)) is (g.show j)).1)))
      (λ e.
      let ne : j ≡ k → ⊥ = λ q. clash (eq-eqb j k q) e in
      let lt : j < k = grind arith in
      subst (λ l. AllShow l (rest (at_job j xs v.left) k (run x.packet v.stores))) (sym (at_other j k xs v.left ne))
      (subst (AllShow (v.left k)) (sym (rest_beyond v.left j x xs is v.stores apart k lt)) (g.show k)))
      (bool_cases (eqb j k)))
      (cases_lt k j)
    where
      unwritten_by : (i : ℕ) → i < j → (q : Page) → touched (v.left i) q ≡ true → writes x.packet q ≡ false
      unwritten_by i lt q t =
          ⊎_elim (λ h. clash t ((apart i lt).left q h)) (λ h. h) (bool_cases (writes x.packet q))

  pub packet_keeps : Good zeros (packet_ran j x xs v)
  packet_keeps = record {
    fresh = at_each (λ i l. v.count ≤ i → l ≡ []) j xs v.left (λ h. absurd (let r : j < v.count = running in omega arith)) (λ i ne h. g.fresh i h);
    unbegun = at_each (λ i b. b ≡ true → i < v.count) j true v.begun (λ h. running) (λ i ne h. g.unbegun i h);
    earlier = g.earlier;
    order = at_each (λ i b. (k : ℕ) → b ≡ true → v.fences.prior i k ≡ true → v.done k ≡ true) j true v.begun
        (λ k h p. ready k p) (λ i ne k h p. g.order i k h p);
    begins = at_each (λ i b. v.done i ≡ true → b ≡ true) j true v.begun (λ h. refl) (λ i ne h. g.begins i h);
    ends = at_each (λ i l. v.done i ≡ true → l ≡ []) j xs v.left (λ h. absurd (running_not_done h)) (λ i ne h. g.ends i h);
    writer = λ i k q lt t w. g.writer i k q lt (less_touched i q t) (less_written k q w);
    reader = λ i k q lt w t. g.reader i k q lt (less_written i q w) (less_touched k q t);
    guard = λ i q t. guarded_less v.fences (v.owner q) i (written (v.left i) q) (written (at_job j xs v.left i) q) (less_written i q) (g.guard i q (less_touched i q t));
    slots = no_slot;
    nowhere = g.nowhere;
    placed = g.placed;
    zero = (acts_packet x.packet).other v.stores Nowhere (unwritten Nowhere g.nowhere) ∙ g.zero;
    value = λ b i. ap (λ s. s (v.place b i)) (rest_beyond v.left j x xs is v.stores apart v.count running) ∙ g.value b i;
    show = show_all;
  }

-- a job that has begun, with no packet left, is done
pub done_keeps : (zeros : Bytes) (v : View) → Good zeros v → (j : ℕ) → v.begun j ≡ true → v.left j ≡ [] → Good zeros (job_done j v)
done_keeps zeros v g j begun none = record {
  fresh = g.fresh;
  unbegun = g.unbegun;
  earlier = g.earlier;
  order = λ i k b p.
      at_each (λ m d. m ≡ k → d ≡ true) j true v.done (λ e. refl)
      (λ m ne e. subst (λ n. v.done n ≡ true) (sym e) (g.order i k b p)) k refl;
  begins = at_each (λ i d. d ≡ true → v.begun i ≡ true) j true v.done (λ h. begun) (λ i ne h. g.begins i h);
  ends = at_each (λ i d. d ≡ true → v.left i ≡ []) j true v.done (λ h. none) (λ i ne h. g.ends i h);
  writer = g.writer;
  reader = g.reader;
  guard = g.guard;
  slots = g.slots;
  nowhere = g.nowhere;
  placed = g.placed;
  zero = g.zero;
  value = g.value;
  show = g.show;
}
