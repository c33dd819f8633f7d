-- Packets at the buffers' places do what the pieces do on the plain memory.
use Rattle.std.proofs.Common.{◌≡◌, ℕ, Bool, true, cond, ◌⊎◌, List, [], ◌∷◌, refl, sym, ◌∙◌, ap, ap₂, subst, ⊎_elim}
use Rattle.laws.specs.lemma_bytes_model.Memory.{Bytes, Nowhere, Own, Stores, same_page, run, run_all, AllShow}
use Rattle.laws.specs.lemma_bytes_model.View.{Idle, Live, View}
use Rattle.laws.specs.lemma_bytes_model.Entries.{Piece, Change, Probe, aimed, plain_after, steps, Stands, AllNamed}
use Rattle.laws.proofs.lemma_bytes_model.Actions.{bool_cases, clash, same_page-refl, same_page-true}

-- two pages of buffers stand at one page only where they are one
module _ (v : View) (nowhere : v.owner Nowhere ≡ Idle) (placed : (b i : ℕ) → (v.place b i ≡ Nowhere) ⊎ (v.owner (v.place b i) ≡ Live b i)) where
  pub owned : (b i : ℕ) → Stands v.place b i → v.owner (v.place b i) ≡ Live b i
  owned b i s = ⊎_elim (λ e. absurd (s.somewhere e)) (λ o. o) (placed b i)

  pub same_owner : (b i c k : ℕ) → v.owner (v.place b i) ≡ Live b i → v.place b i ≡ v.place c k → Own b i ≡ Own c k
  same_owner b i c k h e =
      ⊎_elim
      (λ z. let p : Idle ≡ Live b i = sym nowhere ∙ sym (ap v.owner z) ∙ sym (ap v.owner e) ∙ h in cc)
      (λ o. let p : Live b i ≡ Live c k = sym h ∙ ap v.owner e ∙ o in cc)
      (placed c k)

  pub same_place : (b i c k : ℕ) → v.owner (v.place b i) ≡ Live b i →
      same_page (v.place b i) (v.place c k) ≡ same_page (Own b i) (Own c k)
  same_place b i c k h =
      ⊎_elim
      (λ e.
      let o : Own b i ≡ Own c k = same_owner b i c k h (same_page-true (v.place b i) (v.place c k) e) in
      e ∙ sym (ap (same_page (Own b i)) (sym o) ∙ same_page-refl (Own b i)))
      (λ e.
      ⊎_elim
      (λ t.
      let o : Own b i ≡ Own c k = same_page-true (Own b i) (Own c k) t in
      let q : v.place b i ≡ v.place c k = cc in
      clash (subst (λ x. same_page (v.place b i) x ≡ true) q (same_page-refl (v.place b i))) e)
      (λ f. e ∙ sym f)
      (bool_cases (same_page (Own b i) (Own c k))))
      (bool_cases (same_page (v.place b i) (v.place c k)))

  -- the stores have at the places what the plain memory has
  abbrev pub Agrees : Stores → Stores → Type 0
  Agrees s plain = (b i : ℕ) → s (v.place b i) ≡ plain (Own b i)

  pub change_agrees : (s plain : Stores) (b i c k : ℕ) (f : Bytes → Bytes → Bytes) → v.owner (v.place b i) ≡ Live b i → Agrees s plain →
      Agrees (run (aimed v.place (Change b i c k f)) s) (run (aimed Own (Change b i c k f)) plain)
  change_agrees s plain b i c k f h agrees d m =
      ap₂ (λ q x. cond q x (s (v.place d m))) (same_place b i d m h) (ap₂ f (agrees b i) (agrees c k))
      ∙ ap (cond (same_page (Own b i) (Own d m)) (f (plain (Own b i)) (plain (Own c k)))) (agrees d m)

  pub steps_agree : (used changed : ℕ → Bool) (ps : List Piece) (s plain : Stores) → AllNamed v.place used changed ps → Agrees s plain →
      Agrees (run_all (steps v.place ps plain) s) (plain_after ps plain) × AllShow (steps v.place ps plain) s
  steps_agree used changed [] s plain n agrees = (agrees, tt)
  steps_agree used changed (Change b i c k f ∷ ps) s plain n agrees =
      let ih = steps_agree used changed ps (run (aimed v.place (Change b i c k f)) s) (run (aimed Own (Change b i c k f)) plain) n.4
      (change_agrees s plain b i c k f (owned b i n.2) agrees) in
      (ih.0, (refl, ih.1))
  steps_agree used changed (Probe b i g ∷ ps) s plain n agrees =
      let ih = steps_agree used changed ps s plain n.2 agrees in
      (ih.0, (ap g (agrees b i), ih.1))
