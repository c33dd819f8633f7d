-- A job of ops is emitted: its packets are the pieces of the ops at the present places of the buffers.
use Rattle.std.proofs.Common.{◌≡◌, ℕ, Bool, true, false, not, ◌&&◌, ◌||◌, ◌⊎◌, eqb, List, [], ◌∷◌, refl, sym, ◌∙◌, ap, ap₂, subst, ⊎_elim, eq-eqb}
use Rattle.laws.specs.lemma_bytes_model.Memory.{Page, Bytes, Nowhere, Slot, Own, Stores, same_page, run, Step, touched, written}
use Rattle.laws.specs.lemma_bytes_model.View.{rest, Idle, Live, Fences, View, Covers, self, Guarded, Good}
use Rattle.laws.specs.lemma_bytes_model.Entries.{Piece, Change, Probe, aimed, plain_after, steps, Stands, AllNamed, joined, armed, ArmLegal}
use Rattle.laws.proofs.lemma_bytes_model.Actions.{bool_cases, clash, same_page-true, or_first, or_second, or_cases, acts_all}
use Rattle.laws.proofs.lemma_bytes_model.Engine.{not_done, covered, guarded_less}
use Rattle.laws.proofs.lemma_bytes_model.Plain.{owned, steps_agree}
use Rattle.laws.proofs.lemma_bytes_model.Emit.{guarded_more, emit_keeps}

-- a page that some packet touches is that of a used buffer, and one that some packet writes of a changed one
pub record Stood (v : View) (these : ℕ → Bool) (x : Page) : Type 0 where
  pub buffer : ℕ
  pub page : ℕ
  pub these_has : these buffer ≡ true
  pub owned : v.owner x ≡ Live buffer page
  pub reached : (n : ℕ) → x ≡ Slot n → ⊥

module _ (v : View) (nowhere : v.owner Nowhere ≡ Idle) (placed : (b i : ℕ) → (v.place b i ≡ Nowhere) ⊎ (v.owner (v.place b i) ≡ Live b i)) where
  stood : (these : ℕ → Bool) (b i : ℕ) (x : Page) → these b ≡ true → Stands v.place b i → same_page (v.place b i) x ≡ true → Stood v these x
  stood these b i x h s e =
      let q : v.place b i ≡ x = same_page-true (v.place b i) x e in
      record { buffer = b; page = i; these_has = h; owned = ap v.owner (sym q) ∙ owned v nowhere placed b i s; reached = λ n z. s.reached n (q ∙ z) }

module _ (v : View) (nowhere : v.owner Nowhere ≡ Idle) (placed : (b i : ℕ) → (v.place b i ≡ Nowhere) ⊎ (v.owner (v.place b i) ≡ Live b i)) (used changed : ℕ → Bool) (within : (b : ℕ) → changed b ≡ true → used b ≡ true) where
  pub touched_stood : (ps : List Piece) (s : Stores) → AllNamed v.place used changed ps → (x : Page) → touched (steps v.place ps s) x ≡ true → Stood v used x
  touched_stood [] s n x t = clash t refl
  touched_stood (Change b i c k f ∷ ps) s n x t =
      ⊎_elim
      (λ e.
      ⊎_elim (λ h. stood v nowhere placed used b i x (within b n.0) n.2 h) (λ h. stood v nowhere placed used c k x n.1 n.3 h)
      (or_cases (same_page (v.place b i) x) (same_page (v.place c k) x) e))
      (λ e. touched_stood ps (run (aimed Own (Change b i c k f)) s) n.4 x e)
      (or_cases (same_page (v.place b i) x || same_page (v.place c k) x) (touched (steps v.place ps (run (aimed Own (Change b i c k f)) s)) x) t)
  touched_stood (Probe b i g ∷ ps) s n x t =
      ⊎_elim
      (λ e. stood v nowhere placed used b i x n.0 n.1 e)
      (λ e. touched_stood ps s n.2 x e)
      (or_cases (same_page (v.place b i) x) (touched (steps v.place ps s) x) t)

  pub written_stood : (ps : List Piece) (s : Stores) → AllNamed v.place used changed ps → (x : Page) → written (steps v.place ps s) x ≡ true → Stood v changed x
  written_stood [] s n x t = clash t refl
  written_stood (Change b i c k f ∷ ps) s n x t =
      ⊎_elim
      (λ e. stood v nowhere placed changed b i x n.0 n.2 e)
      (λ e. written_stood ps (run (aimed Own (Change b i c k f)) s) n.4 x e)
      (or_cases (same_page (v.place b i) x) (written (steps v.place ps (run (aimed Own (Change b i c k f)) s)) x) t)
  written_stood (Probe b i g ∷ ps) s n x t = written_stood ps s n.2 x t

module _ (zeros : Bytes) (v : View) (g : Good zeros v) (ps : List Piece) (waits changed used : ℕ → Bool)
    (within : (b : ℕ) → changed b ≡ true → used b ≡ true) (legal : ArmLegal v ps waits changed used) where
  xs : List Step
  xs = steps v.place ps v.plain

  f : Fences
  f = joined v.count waits changed used v.fences

  waited : (i : ℕ) (x : Page) → touched (v.left i) x ≡ true → (j : ℕ) → Covers v.fences.prior j i →
      (waits j ≡ true) ⊎ (v.done j ≡ true) → (k : ℕ) × (waits k ≡ true) × Covers v.fences.prior k i
  waited i x t j c = ⊎_elim (λ w. (j, w, c)) (λ d. absurd (not_done zeros v g i x t (covered zeros v g c d)))

  joined_at : (a b : Bool) → b ≡ true → a || (eqb v.count v.count && b) ≡ true
  joined_at a b h = or_second a (eqb v.count v.count && b) (ap₂ ◌&&◌ (eq-eqb v.count v.count refl) h)

  guard_new : (x : Page) → touched (steps v.place ps v.plain) x ≡ true →
      Guarded (joined v.count waits changed used v.fences) (v.owner x) v.count (written (steps v.place ps v.plain) x)
  guard_new x t =
      let d = joined v.count waits changed used v.fences in
      let w = written (steps v.place ps v.plain) x in
      ⊎_elim
      (λ h.
      let z : Stood v changed x = written_stood v g.nowhere g.placed used changed within ps v.plain legal.named x h in
      subst (λ o. Guarded d o v.count w) (sym z.owned) (
        v.count,
        or_first (d.strong z.buffer v.count) (not w && d.shared z.buffer v.count) (joined_at (v.fences.strong z.buffer v.count) (changed z.buffer) z.these_has),
        self,
      ))
      (λ h.
      let z : Stood v used x = touched_stood v g.nowhere g.placed used changed within ps v.plain legal.named x t in
      subst (λ o. Guarded d o v.count w) (sym z.owned)
      (subst (Guarded d (Live z.buffer z.page) v.count) (sym h) (
        v.count,
        ⊎_elim
            (λ c. or_first (d.strong z.buffer v.count) (d.shared z.buffer v.count) (joined_at (v.fences.strong z.buffer v.count) (changed z.buffer) c))
            (λ c.
            or_second (d.strong z.buffer v.count) (d.shared z.buffer v.count)
            (joined_at (v.fences.shared z.buffer v.count) (used z.buffer && not (changed z.buffer)) (ap₂ ◌&&◌ z.these_has (ap not c))))
            (bool_cases (changed z.buffer)),
        self,
      )))
      (bool_cases (written (steps v.place ps v.plain) x))

  no_slot : (n : ℕ) → touched (steps v.place ps v.plain) (Slot n) ≡ false
  no_slot n =
      ⊎_elim
      (λ h. absurd ((touched_stood v g.nowhere g.placed used changed within ps v.plain legal.named (Slot n) h).reached n refl))
      (λ h. h)
      (bool_cases (touched (steps v.place ps v.plain) (Slot n)))

  writer : (i : ℕ) (x : Page) → touched (v.left i) x ≡ true → written (steps v.place ps v.plain) x ≡ true → (k : ℕ) × (waits k ≡ true) × Covers v.fences.prior k i
  writer i x t h =
      let z : Stood v changed x = written_stood v g.nowhere g.placed used changed within ps v.plain legal.named x h in
      let l : Guarded v.fences (Live z.buffer z.page) i false =
      guarded_less v.fences (Live z.buffer z.page) i (written (v.left i) x) false (λ e. clash e refl)
      (subst (λ o. Guarded v.fences o i (written (v.left i) x)) z.owned (g.guard i x t)) in
      waited i x t l.0 l.2 (legal.all z.buffer l.0 z.these_has l.1)

  reader : (i : ℕ) (x : Page) → written (v.left i) x ≡ true → touched (steps v.place ps v.plain) x ≡ true → (k : ℕ) × (waits k ≡ true) × Covers v.fences.prior k i
  reader i x h t =
      let z : Stood v used x = touched_stood v g.nowhere g.placed used changed within ps v.plain legal.named x t in
      let u : touched (v.left i) x ≡ true = (acts_all (v.left i)).within x h in
      let l : Guarded v.fences (Live z.buffer z.page) i true =
      subst (Guarded v.fences (Live z.buffer z.page) i) h
      (subst (λ o. Guarded v.fences o i (written (v.left i) x)) z.owned (g.guard i x u)) in
      waited i x u l.0 l.2 (legal.writers z.buffer l.0 z.these_has l.1)

  pub arm_keeps : Good zeros (armed ps waits changed used v)
  arm_keeps =
      emit_keeps zeros v g (steps v.place ps v.plain) waits legal.emitted (joined v.count waits changed used v.fences) refl v.owner v.place (plain_after ps v.plain)
      (λ i x t. guarded_more v.fences (joined v.count waits changed used v.fences)
      (λ j i h. or_first (v.fences.prior j i) (eqb v.count j && waits i) h)
      (λ b j h. or_first (v.fences.strong b j) (eqb v.count j && changed b) h)
      (λ b j h. or_first (v.fences.shared b j) (eqb v.count j && (used b && not (changed b))) h)
      (λ n j h. h) refl (v.owner x) i (written (v.left i) x) (g.guard i x t))
      guard_new
      no_slot
      writer
      reader
      g.nowhere g.placed
      (steps_agree v g.nowhere g.placed used changed ps (rest v.left v.count v.stores) v.plain legal.named g.value).0
      (steps_agree v g.nowhere g.placed used changed ps (rest v.left v.count v.stores) v.plain legal.named g.value).1
