-- What a set needs is what is named among all jobs that were added to it.
use Rattle.std.proofs.Common.{◌≡◌, ◌≢◌, ℕ, zero, suc, ◌+◌, ◌<◌, ◌≤◌, ◌↔◌, max, Bool, true, false, cond, not, ◌&&◌, List, [], ◌∷◌, Option, Some, None, length, get_or, set, replicate, eqb, refl, ap, ◌∙◌, sym, arith}
use Rattle.std.proofs.lemmas.Grind.{common_steps}
use Rattle.std.proofs.lemmas.Bool.{eqb-true, le-leb}
use Rattle.std.proofs.lemmas.List.{length-replicate}
use Rattle.std.proofs.lemmas.Bool.Decides.{nat_tests}
use Rattle.std.specs.Prelude.{find, filter, map, option_map, nat_le}
use Rattle.std.specs.List.{range_with_len}
use Rattle.ttm_base.specs.declared.JobId.{JobId}
use Rattle.ttm_base.specs.declared.Usage.{Usage}
use Rattle.ttm_base.specs.declared.Usage.TheVariants.{Kernel, Write, Read}
use Rattle.fence_core.specs.declared.timeline.Progress.{Progress}
use Rattle.fence_core.specs.declared.fence_set.Latest.{Latest}
use Rattle.fence_core.specs.Timelines.{progress_of, is_signalled}
use Rattle.fence_core.specs.Fences.{nothing_kept, kept_of, up_to, only, later, latest_num, latest_job, is_open, added, needed}
use Rattle.fence_core.specs.Histories.{after_adds, set_of, AreKnown, covers, is_waited_for, waiting}
use Rattle.ttm_base.specs.declared.Fence.{Fence}
use Rattle.ttm_base.specs.Fences.{named_first, named_job}

-- ---- the named one of several

-- one more is named with another
abbrev named_with : Option JobId → Option JobId → Option JobId
named_with None o = o
named_with (Some i) o = Some (named_first i o)

swap_named : (i j : JobId) → named_first i (Some j) ≡ named_first j (Some i)
swap_named i j = grind (arith, nat_tests)

regroup_three : (i j k : JobId) → named_first (named_first i (Some j)) (Some k) ≡ named_first i (Some (named_first j (Some k)))
regroup_three i j k = grind (arith, nat_tests)

regroup : (i j : JobId) (o : Option JobId) → named_first (named_first i (Some j)) o ≡ named_first i (Some (named_first j o))
regroup i j None = refl
regroup i j (Some k) = regroup_three i j k

-- ---- the first context whose latest job isn't done, by the numbers alone

abbrev job : ℕ → ℕ → JobId
job ctx num = record { ctx = ctx; num = num }

abbrev pick : (ℕ → ℕ) → (ℕ → ℕ) → ℕ → ℕ → Option JobId
pick num done ctx zero = None
pick num done ctx (suc n) = cond (nat_le (num ctx) (done ctx)) (pick num done (ctx + 1) n) (Some (job ctx (num ctx)))

pick_step : (b : Bool) (x : JobId) (rest : Option JobId) (i : JobId) (ctx : ℕ) → x.ctx ≡ ctx → ((j : JobId) → rest ≡ Some j → ctx + 1 ≤ j.ctx)
    → cond b rest (Some x) ≡ Some i → ctx ≤ i.ctx
pick_step true x rest i ctx e f h = omega (arith, f i h)
pick_step false x rest i ctx e f h =
    let same : x ≡ i = cc in
    let k : x.ctx ≡ i.ctx = ap (λ (y : JobId). y.ctx) same in
    omega arith

pick_above : (num done : ℕ → ℕ) (ctx n : ℕ) (i : JobId) → pick num done ctx n ≡ Some i → ctx ≤ i.ctx
pick_above num done ctx zero i h = cc
pick_above num done ctx (suc n) i h =
    pick_step (nat_le (num ctx) (done ctx)) (job ctx (num ctx)) (pick num done (ctx + 1) n) i ctx refl (pick_above num done (ctx + 1) n) h

pick_same : (num other done : ℕ → ℕ) (ctx n : ℕ) → ((k : ℕ) → ctx ≤ k → num k ≡ other k) → pick num done ctx n ≡ pick other done ctx n
pick_same num other done ctx zero f = refl
pick_same num other done ctx (suc n) f =
    let e : num ctx ≡ other ctx = f ctx (omega arith) in
    let rest : pick num done (ctx + 1) n ≡ pick other done (ctx + 1) n = pick_same num other done (ctx + 1) n (λ k h. f k (omega arith)) in
    rw (e, rest)

pick_none : (num done : ℕ → ℕ) (ctx n : ℕ) → ((k : ℕ) → num k ≡ 0) → pick num done ctx n ≡ None
pick_none num done ctx zero f = refl
pick_none num done ctx (suc n) f =
    let e : nat_le (num ctx) (done ctx) ≡ true = rw (f ctx) (le-leb 0 (done ctx) (omega arith)) in
    rw e (pick_none num done (ctx + 1) n f)

-- with one job more, which may be done
abbrev joined : Bool → JobId → Option JobId → Option JobId
joined true i o = o
joined false i o = Some (named_first i o)

last_here : (old num done ctx : ℕ) (rest : Option JobId) → ((j : JobId) → rest ≡ Some j → ctx + 1 ≤ j.ctx) → done < num → old ≤ done
    → Some (job ctx num) ≡ Some (named_first (job ctx num) rest)
last_here old num done ctx None f h k = refl
last_here old num done ctx (Some j) f h k =
    let above : ctx + 1 ≤ j.ctx = f j refl in
    grind (arith, nat_tests)

both_here : (old num ctx : ℕ) → Some (job ctx (max old num)) ≡ Some (named_first (job ctx num) (Some (job ctx old)))
both_here old num ctx = grind (arith, nat_tests)

here : (b d : Bool) (old num done ctx : ℕ) (rest : Option JobId) → ((j : JobId) → rest ≡ Some j → ctx + 1 ≤ j.ctx) → nat_le num done ≡ b → nat_le old done ≡ d
    → cond (nat_le (max old num) done) rest (Some (job ctx (max old num))) ≡ joined b (job ctx num) (cond d rest (Some (job ctx old)))
here true true old num done ctx rest f g h =
    let e : nat_le (max old num) done ≡ true = grind (arith, nat_tests) in
    rw e refl
here true false old num done ctx rest f g h =
    let e : nat_le (max old num) done ≡ false = grind (arith, nat_tests) in
    let k : max old num ≡ old = grind (arith, nat_tests) in
    rw e (rw k refl)
here false true old num done ctx rest f g h =
    let e : nat_le (max old num) done ≡ false = grind (arith, nat_tests) in
    let below : done < num = grind (arith, nat_tests) in
    let past : old ≤ done = grind (arith, nat_tests) in
    let k : max old num ≡ num = omega arith in
    rw e (rw k (last_here old num done ctx rest f below past))
here false false old num done ctx rest f g h =
    let e : nat_le (max old num) done ≡ false = grind (arith, nat_tests) in
    rw e (both_here old num ctx)

first_below : (num old ctx own : ℕ) → ctx < own → Some (job ctx old) ≡ Some (named_first (job own num) (Some (job ctx old)))
first_below num old ctx own h = grind (arith, nat_tests)

below : (b d : Bool) (num old ctx own : ℕ) (now rest : Option JobId) → ctx < own → now ≡ joined b (job own num) rest
    → cond d now (Some (job ctx old)) ≡ joined b (job own num) (cond d rest (Some (job ctx old)))
below true true num old ctx own now rest h e = e
below false true num old ctx own now rest h e = e
below true false num old ctx own now rest h e = refl
below false false num old ctx own now rest h e = first_below num old ctx own h

pick_joined_step : (num other done : ℕ → ℕ) (own x ctx n : ℕ) (b : Bool) → eqb ctx own ≡ b → ((k : ℕ) → k ≢ own → other k ≡ num k) → other own ≡ max (num own) x → ctx ≤ own
    → (ctx + 1 ≤ own → pick other done (ctx + 1) n ≡ joined (nat_le x (done own)) (job own x) (pick num done (ctx + 1) n))
    → pick other done ctx (suc n) ≡ joined (nat_le x (done own)) (job own x) (pick num done ctx (suc n))
pick_joined_step num other done own x ctx n true e f g h later =
    let s : ctx ≡ own = eqb-true ctx own e in
    let more : other ctx ≡ max (num ctx) x = cc in
    let rest : pick other done (ctx + 1) n ≡ pick num done (ctx + 1) n = pick_same other num done (ctx + 1) n (λ k l. f k (omega arith)) in
    rw (← s, more, rest) (here (nat_le x (done ctx)) (nat_le (num ctx) (done ctx)) (num ctx) x (done ctx) ctx (pick num done (ctx + 1) n) (pick_above num done (ctx + 1) n) refl refl)
pick_joined_step num other done own x ctx n false e f g h later =
    let apart : ctx ≢ own = grind (arith, nat_tests) in
    let same : other ctx ≡ num ctx = f ctx apart in
    rw same (below (nat_le x (done own)) (nat_le (num ctx) (done ctx)) x (num ctx) ctx own (pick other done (ctx + 1) n) (pick num done (ctx + 1) n) (omega arith) (later (omega arith)))

pick_joined : (num other done : ℕ → ℕ) (own x ctx n : ℕ) → ((k : ℕ) → k ≢ own → other k ≡ num k) → other own ≡ max (num own) x → ctx ≤ own → own < ctx + n
    → pick other done ctx n ≡ joined (nat_le x (done own)) (job own x) (pick num done ctx n)
pick_joined num other done own x ctx zero f g h k = absurd (omega arith)
pick_joined num other done own x ctx (suc n) f g h k =
    pick_joined_step num other done own x ctx n (eqb ctx own) refl f g h (λ l. pick_joined num other done own x (ctx + 1) n f g l (omega arith))

-- ---- a set by its numbers

abbrev num_of : Usage → List Latest → ℕ → ℕ
num_of how set ctx = latest_num (up_to how (kept_of set ctx))

abbrev done_of : List Progress → ℕ → ℕ
done_of timeline ctx = (progress_of timeline ctx).done

picked_step : (b : Bool) (f : ℕ → JobId) (ctx : ℕ) (found : Option ℕ) (rest : Option JobId) → option_map f found ≡ rest
    → option_map f (cond (not b) (Some ctx) found) ≡ cond b rest (Some (f ctx))
picked_step true f ctx found rest e = e
picked_step false f ctx found rest e = refl

picked_from : (how : Usage) (timeline : List Progress) (set : List Latest) (ctx n : ℕ)
    → option_map (latest_job how set) (find (is_open how timeline set) (range_with_len ctx n)) ≡ pick (num_of how set) (done_of timeline) ctx n
picked_from how timeline set ctx zero = refl
picked_from how timeline set ctx (suc n) =
    picked_step (nat_le (num_of how set ctx) (done_of timeline ctx)) (latest_job how set) ctx (find (is_open how timeline set) (range_with_len (ctx + 1) n))
    (pick (num_of how set) (done_of timeline) (ctx + 1) n) (picked_from how timeline set (ctx + 1) n)

picked : (how : Usage) (timeline : List Progress) (set : List Latest) → needed how timeline set ≡ pick (num_of how set) (done_of timeline) 0 (length set)
picked how timeline set = picked_from how timeline set 0 (length set)

-- the latest number where a job is added
num_covered : (how u : Usage) (old : Latest) (num : ℕ) → covers how u ≡ true → latest_num (up_to how (later old (only u num))) ≡ max (latest_num (up_to how old)) num
num_covered Kernel Kernel old num e = omega arith
num_covered Kernel Write old num e = cc
num_covered Kernel Read old num e = cc
num_covered Write Kernel old num e = omega arith
num_covered Write Write old num e = omega arith
num_covered Write Read old num e = cc
num_covered Read Kernel old num e = omega arith
num_covered Read Write old num e = omega arith
num_covered Read Read old num e = omega arith

num_not_covered : (how u : Usage) (old : Latest) (num : ℕ) → covers how u ≡ false → latest_num (up_to how (later old (only u num))) ≡ latest_num (up_to how old)
num_not_covered Kernel Kernel old num e = cc
num_not_covered Kernel Write old num e = omega arith
num_not_covered Kernel Read old num e = omega arith
num_not_covered Write Kernel old num e = cc
num_not_covered Write Write old num e = cc
num_not_covered Write Read old num e = omega arith
num_not_covered Read Kernel old num e = cc
num_not_covered Read Write old num e = cc
num_not_covered Read Read old num e = cc

kept_own : (kepts : List Latest) (ctx : ℕ) (kept : Latest) → ctx < length kepts → get_or (set kepts ctx kept) ctx nothing_kept ≡ kept
kept_own kepts ctx kept h = grind (arith, common_steps)

kept_other : (kepts : List Latest) (ctx k : ℕ) (kept : Latest) → k ≢ ctx → get_or (set kepts ctx kept) k nothing_kept ≡ get_or kepts k nothing_kept
kept_other kepts ctx k kept h = grind (arith, common_steps)

length-added : (set : List Latest) (i : JobId) (u : Usage) → length (added set i u) ≡ length set
length-added set i u = grind (arith, common_steps)

as_joined : (b : Bool) (i : JobId) (o : Option JobId) → joined b i o ≡ cond (true && not b) (Some (named_first i o)) o
as_joined true i o = refl
as_joined false i o = refl

same_num : (b : Bool) (now num : ℕ → ℕ) (own k : ℕ) → eqb k own ≡ b → now own ≡ num own → ((l : ℕ) → l ≢ own → now l ≡ num l) → now k ≡ num k
same_num true now num own k e g f =
    let s : k ≡ own = eqb-true k own e in
    cc
same_num false now num own k e g f =
    let apart : k ≢ own = grind (arith, nat_tests) in
    f k apart

added_needs : (b : Bool) (how : Usage) (timeline : List Progress) (set : List Latest) (i : JobId) (u : Usage) → covers how u ≡ b → i.ctx < length set
    → needed how timeline (added set i u) ≡ cond (b && not (is_signalled timeline i)) (Some (named_first i (needed how timeline set))) (needed how timeline set)
added_needs true how timeline set i u e h =
    let own : num_of how (added set i u) i.ctx ≡ max (num_of how set i.ctx) i.num =
    ap (λ (x : Latest). latest_num (up_to how x)) (kept_own set i.ctx (later (kept_of set i.ctx) (only u i.num)) h) ∙ num_covered how u (kept_of set i.ctx) i.num e in
    let others : (k : ℕ) → k ≢ i.ctx → num_of how (added set i u) k ≡ num_of how set k =
    λ k ne. ap (λ (x : Latest). latest_num (up_to how x)) (kept_other set i.ctx k (later (kept_of set i.ctx) (only u i.num)) ne) in
    picked how timeline (added set i u)
    ∙ ap (λ (n : ℕ). pick (num_of how (added set i u)) (done_of timeline) 0 n) (length-added set i u)
    ∙ pick_joined (num_of how set) (num_of how (added set i u)) (done_of timeline) i.ctx i.num 0 (length set) others own (omega arith) (omega arith)
    ∙ ap (joined (is_signalled timeline i) i) (sym (picked how timeline set))
    ∙ as_joined (is_signalled timeline i) i (needed how timeline set)
added_needs false how timeline set i u e h =
    let own : num_of how (added set i u) i.ctx ≡ num_of how set i.ctx =
    ap (λ (x : Latest). latest_num (up_to how x)) (kept_own set i.ctx (later (kept_of set i.ctx) (only u i.num)) h) ∙ num_not_covered how u (kept_of set i.ctx) i.num e in
    let others : (k : ℕ) → k ≢ i.ctx → num_of how (added set i u) k ≡ num_of how set k =
    λ k ne. ap (λ (x : Latest). latest_num (up_to how x)) (kept_other set i.ctx k (later (kept_of set i.ctx) (only u i.num)) ne) in
    picked how timeline (added set i u)
    ∙ ap (λ (n : ℕ). pick (num_of how (added set i u)) (done_of timeline) 0 n) (length-added set i u)
    ∙ pick_same (num_of how (added set i u)) (num_of how set) (done_of timeline) 0 (length set) (λ k l. same_num (eqb k i.ctx) (num_of how (added set i u)) (num_of how set) i.ctx k refl own others)
    ∙ sym (picked how timeline set)

-- ---- one fence after the other

named_with_none : (o : Option JobId) → o ≡ named_with o None
named_with_none None = refl
named_with_none (Some i) = refl

step_true : (f : Fence) (o : Option JobId) (fences : List Fence)
    → named_with (Some (named_first f.job o)) (named_job (map (λ (g : Fence). g.job) fences)) ≡ named_with o (Some (named_first f.job (named_job (map (λ (g : Fence). g.job) fences))))
step_true f None fences = refl
step_true f (Some i) fences =
    let rest = named_job (map (λ (g : Fence). g.job) fences) in
    ap (λ (j : JobId). Some (named_first j rest)) (swap_named f.job i) ∙ ap Some (regroup i f.job rest)

step : (b : Bool) (f : Fence) (o : Option JobId) (fences : List Fence)
    → named_with (cond b (Some (named_first f.job o)) o) (named_job (map (λ (g : Fence). g.job) fences))
    ≡ named_with o (named_job (map (λ (g : Fence). g.job) (cond b (f ∷ fences) fences)))
step true f o fences = step_true f o fences
step false f o fences = refl

after_needs : (how : Usage) (timeline : List Progress) (set : List Latest) (fences : List Fence) → AreKnown (length set) fences
    → needed how timeline (after_adds set fences) ≡ named_with (needed how timeline set) (named_job (waiting how timeline fences))
after_needs how timeline set [] h = named_with_none (needed how timeline set)
after_needs how timeline set (f ∷ fences) h =
    let known : AreKnown (length (added set f.job f.usage)) fences = rw (length-added set f.job f.usage) h.1 in
    after_needs how timeline (added set f.job f.usage) fences known
    ∙ ap (λ (o : Option JobId). named_with o (named_job (waiting how timeline fences))) (added_needs (covers how f.usage) how timeline set f.job f.usage refl h.0)
    ∙ step (is_waited_for how timeline f) f (needed how timeline set) (filter (is_waited_for how timeline) fences)

-- ---- from an empty set

kept_nothing : (contexts ctx : ℕ) → get_or (replicate contexts nothing_kept) ctx nothing_kept ≡ nothing_kept
kept_nothing zero ctx = refl
kept_nothing (suc n) zero = refl
kept_nothing (suc n) (suc ctx) = kept_nothing n ctx

num_of_nothing : (how : Usage) → latest_num (up_to how nothing_kept) ≡ 0
num_of_nothing Kernel = refl
num_of_nothing Write = refl
num_of_nothing Read = refl

nothing_needs : (how : Usage) (timeline : List Progress) (contexts : ℕ) → needed how timeline (replicate contexts nothing_kept) ≡ None
nothing_needs how timeline contexts =
    picked how timeline (replicate contexts nothing_kept)
    ∙ pick_none (num_of how (replicate contexts nothing_kept)) (done_of timeline) 0 (length (replicate contexts nothing_kept))
    (λ k. ap (λ (x : Latest). latest_num (up_to how x)) (kept_nothing contexts k) ∙ num_of_nothing how)

pub set_needs : (how : Usage) (timeline : List Progress) (contexts : ℕ) (fences : List Fence) → AreKnown contexts fences
    → needed how timeline (set_of contexts fences) ≡ named_job (waiting how timeline fences)
set_needs how timeline contexts fences h =
    let known : AreKnown (length (replicate contexts nothing_kept)) fences = rw (length-replicate contexts nothing_kept) h in
    after_needs how timeline (replicate contexts nothing_kept) fences known
    ∙ ap (λ (o : Option JobId). named_with o (named_job (waiting how timeline fences))) (nothing_needs how timeline contexts)

-- none is named only where there is none
pub named_none : (jobs : List JobId) → (named_job jobs ≡ None) ↔ (jobs ≡ [])
named_none [] = (λ h. refl, λ h. refl)
named_none (i ∷ jobs) = (λ h. cc, λ h. cc)
