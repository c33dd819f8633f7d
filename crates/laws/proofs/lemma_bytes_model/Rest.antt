-- The stores after all that is left, where packets run earlier than in the order of emission.
use Rattle.std.proofs.Common.{◌≡◌, ℕ, zero, suc, ◌<◌, ◌≤◌, Bool, true, cond, eqb, List, ◌∷◌, refl, sym, ◌∙◌, ap, ap₂, subst, ⊎_elim, arith, eqb-true, eq-eqb, not-suc-le-zero}
use Rattle.laws.specs.lemma_bytes_model.Memory.{Page, Stores, run, touches, writes, Step, run_all, touched, written}
use Rattle.laws.specs.lemma_bytes_model.View.{at_job, rest}
use Rattle.laws.proofs.lemma_bytes_model.Actions.{bool_cases, clash, Acts, Apart, commute, acts_packet, acts_all}

pub at_same {ℓ} : {A : Type ℓ} (k j : ℕ) (a : A) (f : ℕ → A) → k ≡ j → at_job k a f j ≡ a
at_same k j a f e = ap (λ b. cond b a (f j)) (eq-eqb k j e)

pub at_other {ℓ} : {A : Type ℓ} (k j : ℕ) (a : A) (f : ℕ → A) → (k ≡ j → ⊥) → at_job k a f j ≡ f j
at_other k j a f ne =
    ⊎_elim (λ h. absurd (ne (eqb-true k j h))) (λ h. ap (λ b. cond b a (f j)) h) (bool_cases (eqb k j))

-- what is known of a at k and of f elsewhere is known of f but for a at k
pub at_each : {A : Type 0} (P : ℕ → A → Type 0) (k : ℕ) (a : A) (f : ℕ → A) →
    P k a → ((j : ℕ) → (k ≡ j → ⊥) → P j (f j)) → (j : ℕ) → P j (at_job k a f j)
at_each P k a f here there j =
    ⊎_elim
    (λ h. subst (P j) (sym (at_same k j a f (eqb-true k j h))) (subst (λ i. P i a) (eqb-true k j h) here))
    (λ h. subst (P j) (sym (ap (λ b. cond b a (f j)) h)) (there j (λ e. clash (eq-eqb k j e) h)))
    (bool_cases (eqb k j))

pub rest_same : (f g : ℕ → List Step) (n : ℕ) (s : Stores) → ((i : ℕ) → i < n → f i ≡ g i) → rest f n s ≡ rest g n s
rest_same f g zero s same = refl
rest_same f g (suc n) s same =
    ap₂ run_all (same n (omega arith)) (rest_same f g n s (λ i h. same i (omega arith)))

-- An action that is apart from all that is left of the first n jobs may run before or after it.
module _ (t w : Page → Bool) (r : Stores → Stores) (acts : Acts t w r) (left : ℕ → List Step) where
  pub rest_after : (n : ℕ) (s : Stores) → ((i : ℕ) → i < n → Apart t w (touched (left i)) (written (left i))) →
      rest left n (r s) ≡ r (rest left n s)
  rest_after zero s apart = refl
  rest_after (suc n) s apart =
      ap (run_all (left n)) (rest_after n s (λ i h. apart i (omega arith)))
      ∙ sym (commute t w (touched (left n)) (written (left n)) r (run_all (left n)) acts (acts_all (left n)) (apart n (omega arith)) (rest left n s))

  -- and what it touches is then as it was
  pub rest_leaves : (n : ℕ) (s : Stores) → ((i : ℕ) → i < n → Apart t w (touched (left i)) (written (left i))) →
      (x : Page) → t x ≡ true → rest left n s x ≡ s x
  rest_leaves zero s apart x h = refl
  rest_leaves (suc n) s apart x h =
      (acts_all (left n)).other (rest left n s) x ((apart n (omega arith)).right x h)
      ∙ rest_leaves n s (λ i k. apart i (omega arith)) x h

-- The heart: the next packet of job j runs now, where it is apart from all that is left of earlier jobs.
module _ (left : ℕ → List Step) (j : ℕ) (x : Step) (xs : List Step) (is : left j ≡ x ∷ xs) (s : Stores)
    (apart : (i : ℕ) → i < j → Apart (touches x.packet) (writes x.packet) (touched (left i)) (written (left i))) where
  pub rest_before : (n : ℕ) → n ≤ j → rest (at_job j xs left) n (run x.packet s) ≡ run x.packet (rest left n s)
  rest_before n h =
      rest_same (at_job j xs left) left n (run x.packet s) (λ i k. at_other j i xs left (λ e. absurd (omega arith)))
      ∙ rest_after (touches x.packet) (writes x.packet) (run x.packet) (acts_packet x.packet) left n s (λ i k. apart i (omega arith))

  pub rest_beyond : (n : ℕ) → j < n → rest (at_job j xs left) n (run x.packet s) ≡ rest left n s
  rest_beyond zero h = absurd (not-suc-le-zero h)
  rest_beyond (suc n) h =
      ⊎_elim
      (λ e.
      let e' : j ≡ n = eqb-true j n e in
      subst (λ m. run_all (at_job j xs left m) (rest (at_job j xs left) m (run x.packet s)) ≡ run_all (left m) (rest left m s)) e'
      (ap₂ run_all (at_same j j xs left refl) (rest_before j (omega arith))
      ∙ ap (λ l. run_all l (rest left j s)) (sym is)))
      (λ e.
      let ne : j ≡ n → ⊥ = λ q. clash (eq-eqb j n q) e in
      let lt : j < n = grind arith in
      ap₂ run_all (at_other j n xs left ne) (rest_beyond n lt))
      (bool_cases (eqb j n))
