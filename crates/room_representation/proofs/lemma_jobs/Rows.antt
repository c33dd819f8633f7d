-- What the numbers of jobs tell: an unfinished job is of a context that there is.
use Rattle.std.proofs.Common.{◌≡◌, ℕ, zero, suc, ◌+◌, ◌-◌, ◌<◌, ◌≤◌, Bool, true, false, List, [], ◌∷◌, ◌++◌, Some, refl, sym, ◌∙◌, ap, arith, length}
use Rattle.std.specs.Prelude.{◌==◌, ◌&&◌, not, nat_lt, find, option_and_then, slice_get, slice_set, unwrap_or}
use Rattle.std.proofs.lemmas.Bool.Decides.{nat_tests}
use Rattle.ttm_base.specs.declared.JobId.{JobId}
use Rattle.ttm_base.specs.declared.Packet.{Packet}
use Rattle.journal_model.specs.declared.state.Core.{Core}
use Rattle.journal_model.specs.declared.state.Job.{Job}
use Rattle.journal_model.specs.rules.Stores.{job_packet, no_packet}
use Rattle.journal_model.specs.rules.Waits.{same_job}
use Rattle.laws.specs.law_state.GoodState.{last_number}
use Rattle.laws.specs.law_jobs.JobLines.{unfinished_of, numbers_of, done_of}
use Rattle.laws.proofs.law_jobs.Lists.{length-count}
use Rattle.room_representation.specs.Lines.{AreInLine}
use Rattle.room_representation.proofs.lemma_jobs.Lists.{filter_append, filtered_at, find_only, length_set}
use Rattle.room_representation.proofs.lemma_jobs.Heads.{IsHead}

none_beyond : (last : List ℕ) (ctx : ℕ) → length last ≤ ctx → last_number last ctx ≡ 0
none_beyond [] ctx h = refl
none_beyond (n ∷ last) zero h = absurd (omega (arith, h))
none_beyond (n ∷ last) (suc ctx) h = none_beyond last ctx (omega (arith, h))

some_known : (last : List ℕ) (jobs : List Job) → AreInLine last jobs → (ctx : ℕ) → 0 < length (numbers_of (unfinished_of ctx jobs)) → ctx < length last
some_known last jobs rows ctx h = by (nat_lt ctx (length last)) refl
  where
    less : (x y : ℕ) → nat_lt x y ≡ true → x < y
    less x y g = grind (arith, nat_tests)

    not_less : (x y : ℕ) → nat_lt x y ≡ false → y ≤ x
    not_less x y g = grind (arith, nat_tests)

    by : (b : Bool) → nat_lt ctx (length last) ≡ b → ctx < length last
    by true g = less ctx (length last) g
    by false g =
        let none = none_beyond last ctx (not_less ctx (length last) g) in
        let row = rows ctx in
        let many = ap length row.unfinished ∙ length-count (last_number last ctx - done_of ctx jobs) (done_of ctx jobs + 1) in
        absurd (omega (arith, none, many, h))

-- the head of a context is of one that there is
pub head_known : (last : List ℕ) (jobs : List Job) → AreInLine last jobs → (e n : ℕ) (j : Job) → IsHead jobs e n j → e < length last
head_known last jobs rows e n j head = some_known last jobs rows e (some (unfinished_of e jobs) head.first)
  where
    some : (js : List Job) → slice_get js 0 ≡ Some j → 0 < length (numbers_of js)
    some [] h = cc
    some (x ∷ js) h = omega arith

same_context : (i k : JobId) → same_job i k ≡ true → k.ctx ≡ i.ctx
same_context i k h = grind (arith, nat_tests)

same_number : (i k : JobId) → same_job i k ≡ true → k.num ≡ i.num
same_number i k h = grind (arith, nat_tests)

same_name : (i k : JobId) → k.ctx ≡ i.ctx → k.num ≡ i.num → same_job i k ≡ true
same_name i k h g = grind (arith, nat_tests)

-- the head is the job of its name
pub head_named : (last : List ℕ) (jobs : List Job) → AreInLine last jobs → (e n : ℕ) (j : Job) → IsHead jobs e n j → find (λ x. same_job (record { ctx = e; num = n }) x.id) jobs ≡ Some j
head_named last jobs rows e n j head =
    let at = filtered_at (λ x. (x.id.ctx == e) && not x.finished) jobs j head.first in
    find_only (λ x. same_job (record { ctx = e; num = n }) x.id) jobs at.0 j at.1 (same_name (record { ctx = e; num = n }) j.id (of at.2) head.num)
    (λ k y f g. only at.0 at.1 (of at.2) k y f g)
  where
    of : ((j.id.ctx == e) && not j.finished) ≡ true → j.id.ctx ≡ e
    of h = grind (arith, nat_tests)

    only : (i : ℕ) → slice_get jobs i ≡ Some j → j.id.ctx ≡ e → (k : ℕ) (y : Job) → slice_get jobs k ≡ Some y → same_job (record { ctx = e; num = n }) y.id ≡ true → k ≡ i
    only i h c k y f g = by (nat_lt k i) refl (nat_lt i k) refl
      where
        ctx : y.id.ctx ≡ e
        ctx = same_context (record { ctx = e; num = n }) y.id g

        alike : y.id.num ≡ j.id.num
        alike = same_number (record { ctx = e; num = n }) y.id g ∙ sym head.num

        less : (a b : ℕ) → nat_lt a b ≡ true → a < b
        less a b q = grind (arith, nat_tests)

        equal : (a b : ℕ) → nat_lt a b ≡ false → nat_lt b a ≡ false → a ≡ b
        equal a b q r = grind (arith, nat_tests)

        by : (a : Bool) → nat_lt k i ≡ a → (b : Bool) → nat_lt i k ≡ b → k ≡ i
        by true q b r = let row = rows e in let rise = row.rises k i y j (less k i q) f h ctx c in let same = alike in absurd (omega (arith, rise, same))
        by false q true r = let row = rows e in let rise = row.rises i k j y (less i k r) h f c ctx in let same = alike in absurd (omega (arith, rise, same))
        by false q false r = equal k i q r

-- so its packet is the one that the bytes are changed by
pub packet_named : (last : List ℕ) (c : Core) → AreInLine last c.jobs → (e n k : ℕ) (j : Job) → IsHead c.jobs e n j → (p : Packet) → slice_get j.packets k ≡ Some p → job_packet c (record { ctx = e; num = n }) k ≡ p
packet_named last c rows e n k j head p h =
    ap (λ o. unwrap_or (option_and_then (λ (x : Job). slice_get x.packets k) o) no_packet) (head_named last c.jobs rows e n j head) ∙ ap (λ o. unwrap_or o no_packet) h

-- so is a job that was emitted, by the numbers after it
pub emitted_known : (last : List ℕ) (jobs : List Job) (k : Job) → k.finished ≡ false → AreInLine (slice_set last k.id.ctx k.id.num) (jobs ++ k ∷ []) → k.id.ctx < length last
emitted_known last jobs k f rows =
    let l = length_set last k.id.ctx k.id.num in
    let w = some_known (slice_set last k.id.ctx k.id.num) (jobs ++ k ∷ []) rows k.id.ctx some in
    omega (arith, l, w)
  where
    is : ((k.id.ctx == k.id.ctx) && not k.finished) ≡ true
    is = grind (arith, nat_tests)

    more : (js : List Job) → 0 < length (numbers_of (js ++ k ∷ []))
    more [] = omega arith
    more (x ∷ js) = omega arith

    some : 0 < length (numbers_of (unfinished_of k.id.ctx (jobs ++ k ∷ [])))
    some = rw (filter_append (λ j. (j.id.ctx == k.id.ctx) && not j.finished) jobs (k ∷ []), is) (more (unfinished_of k.id.ctx jobs))
