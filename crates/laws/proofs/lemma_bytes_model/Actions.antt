-- What an action of packets leaves alone, and on what it depends. Two actions without conflict commute.
use mathlib.Core.Path.{fun_ext}
use Rattle.std.proofs.Common.{◌≡◌, Bool, true, false, cond, ◌&&◌, ◌||◌, ◌⊎◌, eqb, List, [], ◌∷◌, refl, sym, ◌∙◌, ap, ap₂, inl, inr, ⊎_elim, true≢false, arith, eqb-true, eq-eqb}
use Rattle.laws.specs.lemma_bytes_model.Memory.{Page, Nowhere, Vram, Frame, Slot, Own, same_page, Stores, Packet, Write, Show, run, shown, touches, writes, Step, run_all, touched, written, AllShow}

pub bool_cases : (b : Bool) → (b ≡ true) ⊎ (b ≡ false)
bool_cases true = inl refl
bool_cases false = inr refl

pub clash {ℓ} : {A : Type ℓ} {b : Bool} → b ≡ true → b ≡ false → A
clash e f = absurd (true≢false (sym e ∙ f))

pub and_left : (a b : Bool) → a && b ≡ true → a ≡ true
and_left true b e = refl
and_left false b e = e

pub and_right : (a b : Bool) → a && b ≡ true → b ≡ true
and_right true b e = e
and_right false b e = absurd (true≢false (sym e))

pub or_first : (a b : Bool) → a ≡ true → a || b ≡ true
or_first a b e = grind arith

pub or_second : (a b : Bool) → b ≡ true → a || b ≡ true
or_second a b e = grind arith

pub or_cases : (a b : Bool) → a || b ≡ true → (a ≡ true) ⊎ (b ≡ true)
or_cases a b e = grind arith

pub same_page-refl : (p : Page) → same_page p p ≡ true
same_page-refl Nowhere = refl
same_page-refl (Vram m) = eq-eqb m m refl
same_page-refl (Frame m) = eq-eqb m m refl
same_page-refl (Slot m) = eq-eqb m m refl
same_page-refl (Own b i) = ap₂ ◌&&◌ (eq-eqb b b refl) (eq-eqb i i refl)

pub same_page-true : (p q : Page) → same_page p q ≡ true → p ≡ q
same_page-true Nowhere Nowhere e = refl
same_page-true (Vram m) (Vram n) e = ap Vram (eqb-true m n e)
same_page-true (Frame m) (Frame n) e = ap Frame (eqb-true m n e)
same_page-true (Slot m) (Slot n) e = ap Slot (eqb-true m n e)
same_page-true (Own b i) (Own c j) e =
    ap₂ Own (eqb-true b c (and_left (eqb b c) (eqb i j) e)) (eqb-true i j (and_right (eqb b c) (eqb i j) e))
same_page-true _ _ e = absurd (true≢false (sym e))

-- An action: the pages that it touches, those that it writes, and what it does. It changes only what it
-- writes, and what it makes of a page depends on that page and on what it touches.
pub record Acts (t w : Page → Bool) (r : Stores → Stores) : Type 0 where
  pub within : (x : Page) → w x ≡ true → t x ≡ true
  pub other : (s : Stores) (x : Page) → w x ≡ false → r s x ≡ s x
  pub same : (s u : Stores) (x : Page) → ((q : Page) → t q ≡ true → s q ≡ u q) → s x ≡ u x → r s x ≡ r u x

-- no page is touched by both of which one writes it
pub record Apart (t w t' w' : Page → Bool) : Type 0 where
  pub left : (x : Page) → w x ≡ true → t' x ≡ false
  pub right : (x : Page) → t x ≡ true → w' x ≡ false

pub commute : (t w t' w' : Page → Bool) (r r' : Stores → Stores) →
    Acts t w r → Acts t' w' r' → Apart t w t' w' → (s : Stores) → r (r' s) ≡ r' (r s)
commute t w t' w' r r' a a' apart s = fun_ext at
  where
    untouched : (x : Page) → w x ≡ true → w' x ≡ false
    untouched x h = apart.right x (a.within x h)

    reads : (q : Page) → t q ≡ true → r' s q ≡ s q
    reads q h = a'.other s q (apart.right q h)

    reads' : (q : Page) → t' q ≡ true → r s q ≡ s q
    reads' q h =
        ⊎_elim (λ e. clash h (apart.left q e)) (λ e. a.other s q e) (bool_cases (w q))

    at : (x : Page) → r (r' s) x ≡ r' (r s) x
    at x =
        ⊎_elim
        (λ h. a.same (r' s) s x reads (a'.other s x (untouched x h)) ∙ sym (a'.other (r s) x (untouched x h)))
        (λ h. a.other (r' s) x h ∙ sym (a'.same (r s) s x reads' (a.other s x h)))
        (bool_cases (w x))

-- what an action makes of stores that agree on all that it touches agrees there
pub acts_packet : (p : Packet) → Acts (touches p) (writes p) (run p)
acts_packet (Write to from f) = record {
  within = λ x h. or_first (same_page to x) (same_page from x) h;
  other = λ s x h. ap (λ b. cond b (f (s to) (s from)) (s x)) h;
  same = λ s u x agree at.
      let first : s to ≡ u to = agree to (or_first (same_page to to) (same_page from to) (same_page-refl to)) in
      let second : s from ≡ u from = agree from (or_second (same_page to from) (same_page from from) (same_page-refl from)) in
      ap₂ (cond (same_page to x)) (ap₂ f first second) at;
}
acts_packet (Show from g) = record {
  within = λ x h. absurd (true≢false (sym h));
  other = λ s x h. refl;
  same = λ s u x agree at. at;
}

pub shown_same : (p : Packet) (s u : Stores) → ((q : Page) → touches p q ≡ true → s q ≡ u q) → shown p s ≡ shown p u
shown_same (Write to from f) s u agree = refl
shown_same (Show from g) s u agree = ap g (agree from (same_page-refl from))

pub acts_then : (t w t' w' : Page → Bool) (r r' : Stores → Stores) → Acts t w r → Acts t' w' r' →
    Acts (λ x. t x || t' x) (λ x. w x || w' x) (λ s. r' (r s))
acts_then t w t' w' r r' a a' = record {
  within = λ x h.
      ⊎_elim (λ e. or_first (t x) (t' x) (a.within x e)) (λ e. or_second (t x) (t' x) (a'.within x e)) (or_cases (w x) (w' x) h);
  other = λ s x h. a'.other (r s) x (grind arith) ∙ a.other s x (grind arith);
  same = λ s u x agree at.
      a'.same (r s) (r u) x
      (λ q h. a.same s u q (λ y k. agree y (or_first (t y) (t' y) k)) (agree q (or_second (t q) (t' q) h)))
      (a.same s u x (λ y k. agree y (or_first (t y) (t' y) k)) at);
}

pub acts_none : Acts (λ x. false) (λ x. false) (λ s. s)
acts_none = record { within = λ x h. h; other = λ s x h. refl; same = λ s u x agree at. at }

pub acts_all : (xs : List Step) → Acts (touched xs) (written xs) (run_all xs)
acts_all [] = acts_none
acts_all (x ∷ xs) =
    acts_then (touches x.packet) (writes x.packet) (touched xs) (written xs) (run x.packet) (run_all xs)
    (acts_packet x.packet) (acts_all xs)

pub all_show_same : (xs : List Step) (s u : Stores) → ((q : Page) → touched xs q ≡ true → s q ≡ u q) → AllShow xs s → AllShow xs u
all_show_same [] s u agree h = tt
all_show_same (x ∷ xs) s u agree h = (
  sym (shown_same x.packet s u (λ q k. agree q (or_first (touches x.packet q) (touched xs q) k))) ∙ h.0,
  all_show_same xs (run x.packet s) (run x.packet u)
      (λ q k. (acts_packet x.packet).same s u q (λ y l. agree y (or_first (touches x.packet y) (touched xs y) l)) (agree q (or_second (touches x.packet q) (touched xs q) k)))
      h.1,
)
