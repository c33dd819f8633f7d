-- The numbers that are free, and the lowest of them.
use Rattle.std.proofs.Common.{◌≡◌, ℕ, zero, suc, ◌+◌, ◌<◌, ◌≤◌, Bool, true, false, List, length, replicate, Some, None, refl, sym, ◌∙◌, arith}
use Rattle.std.specs.Prelude.{find, not}
use Rattle.std.proofs.lemmas.Grind.{common_steps}
use Rattle.std.proofs.lemmas.Bool.Decides.{nat_tests}
use Rattle.bit_set.specs.Marks.{has, IsFirstFrom}
use Rattle.ttm_base.specs.ListWords.{count_from}
use Rattle.journal_model.specs.rules.Holds.{has_number, lowest_free}
use Rattle.rules_state.proofs.FindLaws.{find_here, find_none_more}
use Rattle.rules_holds.specs.Free.{AreTurned, AreUnheld}
use Rattle.rules_holds.specs.Marked.{AreMarked}

-- those of all marks
pub unheld_of : (size : ℕ) (held : List ℕ) (marks free : List Bool) → AreMarked (replicate size false) held marks → AreTurned marks (length marks) free → AreUnheld size held free
unheld_of size held marks free m t =
    let len : length marks ≡ size = grind (arith, common_steps, m.len) in
    record {
      len = t.len ∙ len;
      unheld = λ n l.
          let turned = t.turned n (omega (arith, len, l)) in
          let marked = m.marked n (grind (arith, common_steps)) in
          grind (arith, common_steps, nat_tests, len, turned, marked);
    }

-- ---- the lowest

-- a search finds none where no number passes
none_below : (test : ℕ → Bool) (n : ℕ) → ((k : ℕ) → k < n → test k ≡ false) → find test (count_from 1 n 0) ≡ None
none_below test zero h = refl
none_below test (suc n) h =
    let none = find_none_more test n (none_below test n (λ k l. h k (omega arith))) (h n (omega arith)) in
    let e : n + 1 ≡ suc n = omega arith in
    rw e at none

-- a number that isn't free is held, and one that is free is not
is_held : (size : ℕ) (held : List ℕ) (free : List Bool) → AreUnheld size held free → (k : ℕ) (b : Bool) → k < size → has free k ≡ b → not (has_number held k) ≡ b
is_held size held free u k b l h = sym (u.unheld k l) ∙ h

pub lowest_is : (size : ℕ) (held : List ℕ) (free : List Bool) (m : ℕ) → AreUnheld size held free → IsFirstFrom free 0 m → Some m ≡ lowest_free held size
lowest_is size held free m u f =
    let len = u.len in
    let within = f.within in
    let there : m < size = omega (arith, len, within) in
    let none = none_below (λ n. not (has_number held n)) m (λ k l. is_held size held free u k false (omega (arith, l, there)) (f.before k (omega arith) l)) in
    sym (find_here (λ n. not (has_number held n)) m size none (is_held size held free u m true there f.is) there)

pub none_is : (size : ℕ) (held : List ℕ) (free : List Bool) → AreUnheld size held free → ((i : ℕ) → 0 ≤ i → has free i ≡ false) → None ≡ lowest_free held size
none_is size held free u h = sym (none_below (λ n. not (has_number held n)) size (λ k l. is_held size held free u k false l (h k (omega arith))))
