-- What happens at once: accesses by the CPU, fresh pages, swapping in and out.
use Rattle.std.proofs.Common.{◌≡◌, ℕ, zero, suc, Bool, true, false, cond, ◌⊎◌, List, refl, sym, ◌∙◌, ap, subst, inl, inr, ⊎_elim}
use Rattle.laws.specs.lemma_bytes_model.Memory.{Page, Bytes, Nowhere, Own, Stores, same_page, Packet, Write, run, touches, writes, Step, run_all, touched, written, AllShow}
use Rattle.laws.specs.lemma_bytes_model.View.{rest, Owner, Idle, Live, View, is_fence, Guarded, Good}
use Rattle.laws.specs.lemma_bytes_model.Entries.{Piece, steps, AllNamed, cpu_wrote, relocated, cleared}
use Rattle.laws.proofs.lemma_bytes_model.Actions.{bool_cases, clash, same_page-refl, same_page-true, or_cases, Acts, Apart, acts_packet, acts_all, all_show_same}
use Rattle.laws.proofs.lemma_bytes_model.Rest.{rest_after}
use Rattle.laws.proofs.lemma_bytes_model.Engine.{not_done, covered, guarded_less}
use Rattle.laws.proofs.lemma_bytes_model.Plain.{steps_agree, same_owner}
use Rattle.laws.proofs.lemma_bytes_model.Arm.{Stood, touched_stood, written_stood}

module _ (zeros : Bytes) (v : View) (g : Good zeros v) where
  pub idle_untouched : (x : Page) → v.owner x ≡ Idle → (i : ℕ) → touched (v.left i) x ≡ false
  idle_untouched x e i =
      ⊎_elim
      (λ t. absurd (subst (λ o. Guarded v.fences o i (written (v.left i) x)) e (g.guard i x t)))
      (λ h. h)
      (bool_cases (touched (v.left i) x))

  pub done_untouched : (b k : ℕ) (x : Page) → v.owner x ≡ Live b k → ((j : ℕ) → is_fence v.fences b false j ≡ true → v.done j ≡ true) →
      (i : ℕ) → touched (v.left i) x ≡ false
  done_untouched b k x e all i =
      ⊎_elim
      (λ t.
      let l : Guarded v.fences (Live b k) i false =
      guarded_less v.fences (Live b k) i (written (v.left i) x) false (λ z. clash z refl)
      (subst (λ o. Guarded v.fences o i (written (v.left i) x)) e (g.guard i x t)) in
      absurd (not_done zeros v g i x t (covered zeros v g l.2 (all l.0 l.1))))
      (λ h. h)
      (bool_cases (touched (v.left i) x))

  pub done_unwritten : (b k : ℕ) (x : Page) → v.owner x ≡ Live b k → ((j : ℕ) → is_fence v.fences b true j ≡ true → v.done j ≡ true) →
      (i : ℕ) → written (v.left i) x ≡ false
  done_unwritten b k x e all i =
      ⊎_elim
      (λ h.
      let t : touched (v.left i) x ≡ true = (acts_all (v.left i)).within x h in
      let l : Guarded v.fences (Live b k) i true =
      subst (Guarded v.fences (Live b k) i) h
      (subst (λ o. Guarded v.fences o i (written (v.left i) x)) e (g.guard i x t)) in
      absurd (not_done zeros v g i x t (covered zeros v g l.2 (all l.0 l.1))))
      (λ h. h)
      (bool_cases (written (v.left i) x))

  pub untouched_unwritten : (x : Page) (i : ℕ) → touched (v.left i) x ≡ false → written (v.left i) x ≡ false
  untouched_unwritten x i e =
      ⊎_elim (λ h. clash ((acts_all (v.left i)).within x h) e) (λ h. h) (bool_cases (written (v.left i) x))

  pub rest_unwritten : (x : Page) → ((i : ℕ) → written (v.left i) x ≡ false) → (n : ℕ) → rest v.left n v.stores x ≡ v.stores x
  rest_unwritten x none zero = refl
  rest_unwritten x none (suc n) =
      (acts_all (v.left n)).other (rest v.left n v.stores) x (none n) ∙ rest_unwritten x none n

  -- where the KERNEL and WRITE jobs of a buffer are done, its places have Plain's bytes now
  pub cpu_reads : (b k : ℕ) → ((j : ℕ) → is_fence v.fences b true j ≡ true → v.done j ≡ true) → v.stores (v.place b k) ≡ v.plain (Own b k)
  cpu_reads b k all =
      let none : (i : ℕ) → written (v.left i) (v.place b k) ≡ false = λ i.
      ⊎_elim
      (λ e. untouched_unwritten (v.place b k) i (idle_untouched (v.place b k) (ap v.owner e ∙ g.nowhere) i))
      (λ o. done_unwritten b k (v.place b k) o all i)
      (g.placed b k) in
      sym (rest_unwritten (v.place b k) none v.count) ∙ g.value b k

  module _ (t w : Page → Bool) (r : Stores → Stores) (acts : Acts t w r)
      (apart : (i : ℕ) → Apart t w (touched (v.left i)) (written (v.left i))) where
    pub at_once : (n : ℕ) → rest v.left n (r v.stores) ≡ r (rest v.left n v.stores)
    at_once n = rest_after t w r acts v.left n v.stores (λ i h. apart i)

    pub show_at_once : (j : ℕ) → AllShow (v.left j) (rest v.left j (r v.stores))
    show_at_once j =
        subst (AllShow (v.left j)) (sym (at_once j))
        (all_show_same (v.left j) (rest v.left j v.stores) (r (rest v.left j v.stores))
        (λ q h.
        let e : w q ≡ false = ⊎_elim (λ z. clash h ((apart j).left q z)) (λ z. z) (bool_cases (w q)) in
        sym (acts.other (rest v.left j v.stores) q e))
        (g.show j))

  module _ (ps : List Piece) (used : ℕ → Bool) (named : AllNamed v.place used used ps)
      (all : (b : ℕ) → used b ≡ true → (j : ℕ) → is_fence v.fences b false j ≡ true → v.done j ≡ true) where
    none : (x : Page) (i : ℕ) → Stood v used x → touched (v.left i) x ≡ false
    none x i z = done_untouched z.buffer z.page x z.owned (all z.buffer z.these_has) i

    apart : (i : ℕ) → Apart (touched (steps v.place ps v.plain)) (written (steps v.place ps v.plain)) (touched (v.left i)) (written (v.left i))
    apart i = record {
      left = λ x h. none x i (written_stood v g.nowhere g.placed used used (λ b e. e) ps v.plain named x h);
      right = λ x h. untouched_unwritten x i (none x i (touched_stood v g.nowhere g.placed used used (λ b e. e) ps v.plain named x h));
    }

    pub cpu_write_keeps : Good zeros (cpu_wrote ps v)
    cpu_write_keeps =
        let xs : List Step = steps v.place ps v.plain in
        record {
          fresh = g.fresh;
          unbegun = g.unbegun;
          earlier = g.earlier;
          order = g.order;
          begins = g.begins;
          ends = g.ends;
          writer = g.writer;
          reader = g.reader;
          guard = g.guard;
          slots = g.slots;
          nowhere = g.nowhere;
          placed = g.placed;
          zero =
              let e : written xs Nowhere ≡ false =
              ⊎_elim
              (λ h.
              let z : Stood v used Nowhere = written_stood v g.nowhere g.placed used used (λ b e. e) ps v.plain named Nowhere h in
              let q : Idle ≡ Live z.buffer z.page = sym g.nowhere ∙ z.owned in
              cc)
              (λ h. h)
              (bool_cases (written xs Nowhere)) in
              (acts_all xs).other v.stores Nowhere e ∙ g.zero;
          value = λ b i.
              ap (λ s. s (v.place b i)) (at_once (touched xs) (written xs) (run_all xs) (acts_all xs) apart v.count)
              ∙ (steps_agree v g.nowhere g.placed used used ps (rest v.left v.count v.stores) v.plain named g.value).0 b i;
          show = show_at_once (touched xs) (written xs) (run_all xs) (acts_all xs) apart;
        }

  module _ (y : Page) (idle : v.owner y ≡ Idle) (there : Nowhere ≡ y → ⊥) where
    pub lasts : (x : Page) → same_page y x ≡ false → (z : Page) (s : Stores) → run (Write y z (λ old new. new)) s x ≡ s x
    lasts x h z s = (acts_packet (Write y z (λ old new. new))).other s x h

    pub not_y : (x : Page) (o : Owner) → v.owner x ≡ o → (Idle ≡ o → ⊥) → same_page y x ≡ false
    not_y x o h ne =
        ⊎_elim (λ e. absurd (ne (sym idle ∙ ap v.owner (same_page-true y x e) ∙ h))) (λ e. e) (bool_cases (same_page y x))

    not_nowhere : same_page y Nowhere ≡ false
    not_nowhere = ⊎_elim (λ e. absurd (there (sym (same_page-true y Nowhere e)))) (λ e. e) (bool_cases (same_page y Nowhere))

    apart_copy : (z : Page) → ((i : ℕ) → written (v.left i) z ≡ false) → (i : ℕ) →
        Apart (touches (Write y z (λ old new. new))) (writes (Write y z (λ old new. new))) (touched (v.left i)) (written (v.left i))
    apart_copy z unwritten i = record {
      left = λ x h. subst (λ q. touched (v.left i) q ≡ false) (same_page-true y x h) (idle_untouched y idle i);
      right = λ x h.
          ⊎_elim
          (λ e. untouched_unwritten x i (subst (λ q. touched (v.left i) q ≡ false) (same_page-true y x e) (idle_untouched y idle i)))
          (λ e. subst (λ q. written (v.left i) q ≡ false) (same_page-true z x e) (unwritten i))
          (or_cases (same_page y x) (same_page z x) h);
    }

    place_not_y : (b i : ℕ) → same_page y (v.place b i) ≡ false
    place_not_y b i =
        ⊎_elim
        (λ e. subst (λ x. same_page y x ≡ false) (sym e) not_nowhere)
        (λ o. not_y (v.place b i) (Live b i) o (λ e. cc))
        (g.placed b i)

    pub clear_keeps : Good zeros (cleared y v)
    clear_keeps =
        let p : Packet = Write y Nowhere (λ old new. new) in
        let a : (i : ℕ) → Apart (touches p) (writes p) (touched (v.left i)) (written (v.left i)) =
        apart_copy Nowhere (λ i. untouched_unwritten Nowhere i (idle_untouched Nowhere g.nowhere i)) in
        record {
          fresh = g.fresh;
          unbegun = g.unbegun;
          earlier = g.earlier;
          order = g.order;
          begins = g.begins;
          ends = g.ends;
          writer = g.writer;
          reader = g.reader;
          guard = g.guard;
          slots = g.slots;
          nowhere = g.nowhere;
          placed = g.placed;
          zero = lasts Nowhere not_nowhere Nowhere v.stores ∙ g.zero;
          value = λ b i.
              ap (λ s. s (v.place b i)) (at_once (touches p) (writes p) (run p) (acts_packet p) a v.count)
              ∙ lasts (v.place b i) (place_not_y b i) Nowhere (rest v.left v.count v.stores) ∙ g.value b i;
          show = show_at_once (touches p) (writes p) (run p) (acts_packet p) a;
        }

    module _ (b i : ℕ) (untouched : (j : ℕ) → touched (v.left j) (v.place b i) ≡ false) where
      owner_else : (x : Page) → same_page y x ≡ false → same_page (v.place b i) x ≡ false → (relocated b i y v).owner x ≡ v.owner x
      owner_else x h h' =
          ap (λ q. cond q (Live b i) (cond (same_page (v.place b i) x) Idle (v.owner x))) h ∙ ap (λ q. cond q Idle (v.owner x)) h'

      owner_y : (relocated b i y v).owner y ≡ Live b i
      owner_y = ap (λ q. cond q (Live b i) (cond (same_page (v.place b i) y) Idle (v.owner y))) (same_page-refl y)

      guard_moved : (j : ℕ) (x : Page) → touched (v.left j) x ≡ true → Guarded v.fences ((relocated b i y v).owner x) j (written (v.left j) x)
      guard_moved j x t =
          let n : same_page y x ≡ false =
          ⊎_elim (λ e. clash t (subst (λ q. touched (v.left j) q ≡ false) (same_page-true y x e) (idle_untouched y idle j))) (λ e. e) (bool_cases (same_page y x)) in
          let m : same_page (v.place b i) x ≡ false =
          ⊎_elim (λ e. clash t (subst (λ q. touched (v.left j) q ≡ false) (same_page-true (v.place b i) x e) (untouched j))) (λ e. e)
          (bool_cases (same_page (v.place b i) x)) in
          subst (λ o. Guarded v.fences o j (written (v.left j) x)) (sym (owner_else x n m)) (g.guard j x t)

      nowhere_moved : (relocated b i y v).owner Nowhere ≡ Idle
      nowhere_moved =
          ap (λ q. cond q (Live b i) (cond (same_page (v.place b i) Nowhere) Idle (v.owner Nowhere))) not_nowhere
          ∙ ⊎_elim
          (λ e. ap (λ q. cond q Idle (v.owner Nowhere)) e)
          (λ e. ap (λ q. cond q Idle (v.owner Nowhere)) e ∙ g.nowhere)
          (bool_cases (same_page (v.place b i) Nowhere))

      place_moved : (c k : ℕ) → ((relocated b i y v).place c k ≡ Nowhere) ⊎ ((relocated b i y v).owner ((relocated b i y v).place c k) ≡ Live c k)
      place_moved c k =
          let P : Bool → Type 0 = λ q. (cond q y (v.place c k) ≡ Nowhere) ⊎ ((relocated b i y v).owner (cond q y (v.place c k)) ≡ Live c k) in
          ⊎_elim
          (λ h.
          let o : Own b i ≡ Own c k = same_page-true (Own b i) (Own c k) h in
          let l : Live b i ≡ Live c k = cc in
          subst P (sym h) (inr (owner_y ∙ l)))
          (λ h.
          subst P (sym h)
          (⊎_elim (λ e. inl e)
          (λ o.
          let m : same_page (v.place b i) (v.place c k) ≡ false =
          ⊎_elim
          (λ e.
          let q : Own c k ≡ Own b i = same_owner v g.nowhere g.placed c k b i o (sym (same_page-true (v.place b i) (v.place c k) e)) in
          clash (subst (λ z. same_page (Own b i) z ≡ true) (sym q) (same_page-refl (Own b i))) h)
          (λ e. e) (bool_cases (same_page (v.place b i) (v.place c k))) in
          inr (owner_else (v.place c k) (place_not_y c k) m ∙ o))
          (g.placed c k)))
          (bool_cases (same_page (Own b i) (Own c k)))

      value_moved : (s : Stores) → ((c k : ℕ) → s (v.place c k) ≡ v.plain (Own c k)) → (c k : ℕ) →
          run (Write y (v.place b i) (λ old new. new)) s ((relocated b i y v).place c k) ≡ v.plain (Own c k)
      value_moved s agrees c k =
          let r : Stores = run (Write y (v.place b i) (λ old new. new)) s in
          let P : Bool → Type 0 = λ q. r (cond q y (v.place c k)) ≡ v.plain (Own c k) in
          ⊎_elim
          (λ h.
          subst P (sym h)
          (ap (λ q. cond q (s (v.place b i)) (s y)) (same_page-refl y) ∙ agrees b i
          ∙ ap v.plain (same_page-true (Own b i) (Own c k) h)))
          (λ h. subst P (sym h) (lasts (v.place c k) (place_not_y c k) (v.place b i) s ∙ agrees c k))
          (bool_cases (same_page (Own b i) (Own c k)))

      pub relocate_keeps : Good zeros (relocated b i y v)
      relocate_keeps =
          let p : Packet = Write y (v.place b i) (λ old new. new) in
          let a : (j : ℕ) → Apart (touches p) (writes p) (touched (v.left j)) (written (v.left j)) =
          apart_copy (v.place b i) (λ j. untouched_unwritten (v.place b i) j (untouched j)) in
          record {
            fresh = g.fresh;
            unbegun = g.unbegun;
            earlier = g.earlier;
            order = g.order;
            begins = g.begins;
            ends = g.ends;
            writer = g.writer;
            reader = g.reader;
            guard = guard_moved;
            slots = g.slots;
            nowhere = nowhere_moved;
            placed = place_moved;
            zero = lasts Nowhere not_nowhere (v.place b i) v.stores ∙ g.zero;
            value = λ c k.
                ap (λ s. s ((relocated b i y v).place c k)) (at_once (touches p) (writes p) (run p) (acts_packet p) a v.count)
                ∙ value_moved (rest v.left v.count v.stores) g.value c k;
            show = show_at_once (touches p) (writes p) (run p) (acts_packet p) a;
          }
