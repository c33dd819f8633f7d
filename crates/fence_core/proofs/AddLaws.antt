-- What a set keeps after another set was added to it is what it keeps after each of that set's jobs was added.
use Rattle.std.proofs.Common.{◌≡◌, ℕ, zero, suc, ◌<◌, max, Bool, true, false, cond, List, [], ◌∷◌, ◌++◌, length, set as put, replicate, refl, ap, ◌∙◌, sym, arith}
use Rattle.std.proofs.lemmas.List.{length-replicate, length-set}
use Rattle.std.proofs.Math.Nat.{max-zero}
use Rattle.std.specs.Prelude.{filter}
use Rattle.ttm_base.specs.declared.JobId.{JobId}
use Rattle.ttm_base.specs.declared.Usage.{Usage}
use Rattle.ttm_base.specs.declared.Usage.TheVariants.{Kernel, Write, Read}
use Rattle.fence_core.specs.declared.fence_set.Latest.{Latest}
use Rattle.fence_core.specs.Fences.{nothing_kept, kept_of, up_to, only, later, added, all_added}
use Rattle.fence_core.specs.Histories.{after_adds, set_of, AreKnown, covers, is_covered}
use Rattle.ttm_base.specs.declared.Fence.{Fence}

-- ---- one context

later_three : (x y z : Latest) → later x (later y z) ≡ later (later x y) z
later_three x y z =
    let k : max x.kernel (max y.kernel z.kernel) ≡ max (max x.kernel y.kernel) z.kernel = omega arith in
    let w : max x.write (max y.write z.write) ≡ max (max x.write y.write) z.write = omega arith in
    let r : max x.read (max y.read z.read) ≡ max (max x.read y.read) z.read = omega arith in
    rw (k, w, r) refl

later_nothing : (how : Usage) (x : Latest) → later x (up_to how nothing_kept) ≡ x
later_nothing Kernel x = simp max-zero
later_nothing Write x = simp max-zero
later_nothing Read x = simp max-zero

up_to_covered : (how u : Usage) (x : Latest) (num : ℕ) → covers how u ≡ true → up_to how (later x (only u num)) ≡ later (up_to how x) (only u num)
up_to_covered Kernel Kernel x num e = refl
up_to_covered Kernel Write x num e = cc
up_to_covered Kernel Read x num e = cc
up_to_covered Write Kernel x num e = refl
up_to_covered Write Write x num e = refl
up_to_covered Write Read x num e = cc
up_to_covered Read Kernel x num e = refl
up_to_covered Read Write x num e = refl
up_to_covered Read Read x num e = refl

up_to_not_covered : (how u : Usage) (x : Latest) (num : ℕ) → covers how u ≡ false → up_to how (later x (only u num)) ≡ up_to how x
up_to_not_covered Kernel Kernel x num e = cc
up_to_not_covered Kernel Write x num e = simp max-zero
up_to_not_covered Kernel Read x num e = simp max-zero
up_to_not_covered Write Kernel x num e = cc
up_to_not_covered Write Write x num e = cc
up_to_not_covered Write Read x num e = simp max-zero
up_to_not_covered Read Kernel x num e = cc
up_to_not_covered Read Write x num e = cc
up_to_not_covered Read Read x num e = cc

-- ---- one job more in the other set

all_added_covered : (how u : Usage) (num : ℕ) (set others : List Latest) (ctx : ℕ) → covers how u ≡ true → ctx < length set → ctx < length others
    → all_added how set (put others ctx (later (kept_of others ctx) (only u num)))
    ≡ put (all_added how set others) ctx (later (kept_of (all_added how set others) ctx) (only u num))
all_added_covered how u num [] others ctx e h k = absurd (omega arith)
all_added_covered how u num (x ∷ set) [] ctx e h k = absurd (omega arith)
all_added_covered how u num (x ∷ set) (y ∷ others) zero e h k =
    ap (λ (z : Latest). z ∷ all_added how set others) (ap (later x) (up_to_covered how u y num e) ∙ later_three x (up_to how y) (only u num))
all_added_covered how u num (x ∷ set) (y ∷ others) (suc ctx) e h k =
    ap (λ (zs : List Latest). later x (up_to how y) ∷ zs) (all_added_covered how u num set others ctx e (omega arith) (omega arith))

all_added_not_covered : (how u : Usage) (num : ℕ) (set others : List Latest) (ctx : ℕ) → covers how u ≡ false
    → all_added how set (put others ctx (later (kept_of others ctx) (only u num))) ≡ all_added how set others
all_added_not_covered how u num [] others ctx e = refl
all_added_not_covered how u num (x ∷ set) [] ctx e = refl
all_added_not_covered how u num (x ∷ set) (y ∷ others) zero e =
    ap (λ (z : Latest). z ∷ all_added how set others) (ap (later x) (up_to_not_covered how u y num e))
all_added_not_covered how u num (x ∷ set) (y ∷ others) (suc ctx) e =
    ap (λ (zs : List Latest). later x (up_to how y) ∷ zs) (all_added_not_covered how u num set others ctx e)

all_added_nothing : (how : Usage) (set : List Latest) (contexts : ℕ) → length set ≡ contexts → all_added how set (replicate contexts nothing_kept) ≡ set
all_added_nothing how [] contexts e = refl
all_added_nothing how (x ∷ set) zero e = cc
all_added_nothing how (x ∷ set) (suc contexts) e =
    let rest : all_added how set (replicate contexts nothing_kept) ≡ set = all_added_nothing how set contexts (omega arith) in
    ap (λ (z : Latest). z ∷ all_added how set (replicate contexts nothing_kept)) (later_nothing how x) ∙ ap (λ (zs : List Latest). x ∷ zs) rest

length-added : (set : List Latest) (i : JobId) (u : Usage) → length (added set i u) ≡ length set
length-added set i u = length-set set i.ctx (later (kept_of set i.ctx) (only u i.num))

pub length-after : (set : List Latest) (fences : List Fence) → length (after_adds set fences) ≡ length set
length-after set [] = refl
length-after set (f ∷ fences) = length-after (added set f.job f.usage) fences ∙ length-added set f.job f.usage

-- ---- all jobs of the other set

all_after_step : (b : Bool) (how : Usage) (set others : List Latest) (f : Fence) (fences : List Fence) → covers how f.usage ≡ b → f.job.ctx < length set → f.job.ctx < length others
    → after_adds (all_added how set (added others f.job f.usage)) fences ≡ after_adds (all_added how set others) (cond b (f ∷ fences) fences)
all_after_step true how set others f fences e h k =
    ap (λ (zs : List Latest). after_adds zs fences) (all_added_covered how f.usage f.job.num set others f.job.ctx e h k)
all_after_step false how set others f fences e h k =
    ap (λ (zs : List Latest). after_adds zs fences) (all_added_not_covered how f.usage f.job.num set others f.job.ctx e)

all_after : (how : Usage) (set others : List Latest) (fences : List Fence) → length set ≡ length others → AreKnown (length set) fences
    → all_added how set (after_adds others fences) ≡ after_adds (all_added how set others) (filter (is_covered how) fences)
all_after how set others [] e h = refl
all_after how set others (f ∷ fences) e h =
    let same : length set ≡ length (added others f.job f.usage) = e ∙ sym (length-added others f.job f.usage) in
    all_after how set (added others f.job f.usage) fences same h.1
    ∙ all_after_step (covers how f.usage) how set others f (filter (is_covered how) fences) refl h.0 (let k : f.job.ctx < length set = h.0 in omega arith)

pub after_append : (set : List Latest) (fences others : List Fence) → after_adds set (fences ++ others) ≡ after_adds (after_adds set fences) others
after_append set [] others = refl
after_append set (f ∷ fences) others = after_append (added set f.job f.usage) fences others

pub set_of_both : (how : Usage) (contexts : ℕ) (fences others : List Fence) → AreKnown contexts others
    → all_added how (set_of contexts fences) (set_of contexts others) ≡ set_of contexts (fences ++ filter (is_covered how) others)
set_of_both how contexts fences others h =
    let empty : List Latest = replicate contexts nothing_kept in
    let one : length (set_of contexts fences) ≡ contexts = length-after empty fences ∙ length-replicate contexts nothing_kept in
    let same : length (set_of contexts fences) ≡ length empty = length-after empty fences in
    let known : AreKnown (length (set_of contexts fences)) others = rw one h in
    all_after how (set_of contexts fences) empty others same known
    ∙ ap (λ (zs : List Latest). after_adds zs (filter (is_covered how) others)) (all_added_nothing how (set_of contexts fences) contexts one)
    ∙ sym (after_append empty fences (filter (is_covered how) others))

pub set_of_more : (contexts : ℕ) (fences : List Fence) (f : Fence) → added (set_of contexts fences) f.job f.usage ≡ set_of contexts (fences ++ f ∷ [])
set_of_more contexts fences f = sym (after_append (replicate contexts nothing_kept) fences (f ∷ []))
