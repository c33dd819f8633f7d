-- While a job is unfinished some engine has an entry, and while there is a ghost beside finished jobs the reaper has one.
use Rattle.std.proofs.Common.{◌≡◌, Bool, true, false, List, [], ◌∷◌, Some, None, refl, sym, ◌∙◌, ap, arith, ◌⊎◌, inl, inr, ⊎_elim}
use Rattle.std.proofs.lemmas.Grind.{common_steps}
use Rattle.std.specs.Prelude.{◌==◌, ◌&&◌, not, find, filter, slice_get}
use Rattle.std.specs.List.{list_any, list_all}
use Rattle.ttm_base.specs.declared.JobId.{JobId}
use Rattle.ttm_base.specs.declared.Actor.TheVariants as actor
use Rattle.journal_model.specs.declared.script.Script.{Script}
use Rattle.journal_model.specs.declared.state.State.{State}
use Rattle.journal_model.specs.declared.state.Job.{Job}
use Rattle.journal_model.specs.declared.state.Ghost.{Ghost}
use Rattle.journal_model.specs.rules.Waits.{same_job, is_unfinished, unfinished, waited_for}
use Rattle.ttm_base.specs.Fences.{named_job}
use Rattle.journal_model.specs.rules.Next.{head_of}
use Rattle.journal_model.specs.statements.DeadEnd.{can_step}
use Rattle.laws.specs.law_sound.Sound.{WaitsGoBack}

bool_cases : (b : Bool) → (b ≡ true) ⊎ (b ≡ false)
bool_cases true = inl refl
bool_cases false = inr refl

abbrev pub open_job : Job → Bool
open_job j = not j.finished

abbrev names_open : JobId → Job → Bool
names_open i h = same_job i h.id && not h.finished

-- what names none of the jobs names none of the unfinished ones
names_less : (i : JobId) (js : List Job) → list_any (λ h. same_job i h.id) js ≡ false → list_any (names_open i) js ≡ false
names_less i [] e = refl
names_less i (h ∷ js) e =
    let here : same_job i h.id ≡ false = grind arith in
    let there : list_any (λ h. same_job i h.id) js ≡ false = grind arith in
    let rest : list_any (names_open i) js ≡ false = names_less i js there in
    grind arith

none_open : (is : List JobId) (test : JobId → Bool) → list_all (λ i. not (test i)) is ≡ true → filter test is ≡ []
none_open [] test e = refl
none_open (i ∷ is) test e =
    let here : test i ≡ false = grind arith in
    let there : list_all (λ i. not (test i)) is ≡ true = grind arith in
    let rest : filter test is ≡ [] = none_open is test there in
    grind arith

-- a weaker test passes too
all_weaker : (is : List JobId) (p q : JobId → Bool) → ((i : JobId) → p i ≡ false → q i ≡ false) → list_all (λ i. not (p i)) is ≡ true → list_all (λ i. not (q i)) is ≡ true
all_weaker [] p q h e = refl
all_weaker (i ∷ is) p q h e =
    let here : p i ≡ false = grind arith in
    let there : list_all (λ i. not (p i)) is ≡ true = grind arith in
    let k : q i ≡ false = h i here in
    let rest : list_all (λ i. not (q i)) is ≡ true = all_weaker is p q h there in
    grind arith

-- the first unfinished job waits for finished ones alone
first_waits_for_none : (js : List Job) (j : Job) → WaitsGoBack js → find open_job js ≡ Some j → filter (λ i. list_any (names_open i) js) j.waits ≡ []
first_waits_for_none [] j w e = cc
first_waits_for_none (h ∷ js) j w e =
    ⊎_elim
    (λ done.
    let later : find open_job js ≡ Some j = grind arith in
    let rest : filter (λ i. list_any (names_open i) js) j.waits ≡ [] = first_waits_for_none js j w.1 later in
    let same : (i : JobId) → list_any (names_open i) (h ∷ js) ≡ list_any (names_open i) js = λ i. grind arith in
    filter_same (λ i. list_any (names_open i) (h ∷ js)) (λ i. list_any (names_open i) js) j.waits same ∙ rest)
    (λ undone.
    let it : h ≡ j = grind arith in
    let none : list_all (λ i. not (list_any (λ k. same_job i k.id) (h ∷ js))) h.waits ≡ true = w.0 in
    ap (λ k. filter (λ i. list_any (names_open i) (h ∷ js)) k.waits) (sym it)
    ∙ none_open h.waits (λ i. list_any (names_open i) (h ∷ js))
    (all_weaker h.waits (λ i. list_any (λ k. same_job i k.id) (h ∷ js)) (λ i. list_any (names_open i) (h ∷ js)) (λ i. names_less i (h ∷ js)) none))
    (bool_cases h.finished)
  where
    filter_same : (p q : JobId → Bool) (is : List JobId) → ((i : JobId) → p i ≡ q i) → filter p is ≡ filter q is
    filter_same p q [] s = refl
    filter_same p q (i ∷ is) s =
        let e : p i ≡ q i = s i in
        let rest : filter p is ≡ filter q is = filter_same p q is s in
        grind arith

-- it heads its context
first_heads : (js : List Job) (j : Job) → find open_job js ≡ Some j → find (λ h. (h.id.ctx == j.id.ctx) && not h.finished) js ≡ Some j
first_heads [] j e = cc
first_heads (h ∷ js) j e =
    ⊎_elim
    (λ done. let later : find open_job js ≡ Some j = grind arith in let rest = first_heads js j later in grind arith)
    (λ undone. let it : h ≡ j = grind arith in grind arith)
    (bool_cases h.finished)

pub engine_goes_on : (script : Script) (s : State) (j : Job) → WaitsGoBack s.core.jobs → find open_job s.core.jobs ≡ Some j → can_step script s (actor.Engine j.id.ctx) ≡ true
engine_goes_on script s j w e =
    let head : head_of s j.id.ctx ≡ Some j = first_heads s.core.jobs j e in
    let none : unfinished s.core j.waits ≡ [] = first_waits_for_none s.core.jobs j w e in
    let idle : waited_for s.core j.waits ≡ None = ap named_job none in
    grind (arith, common_steps)

all_done : (js : List Job) (i : JobId) → list_all (λ j. j.finished) js ≡ true → list_any (names_open i) js ≡ false
all_done [] i e = refl
all_done (h ∷ js) i e =
    let there : list_all (λ j. j.finished) js ≡ true = grind arith in
    let here : h.finished ≡ true = grind arith in
    let rest : list_any (names_open i) js ≡ false = all_done js i there in
    grind arith

pub none_waited_for : (s : State) → list_all (λ j. j.finished) s.core.jobs ≡ true → (is : List JobId) → unfinished s.core is ≡ []
none_waited_for s e [] = refl
none_waited_for s e (i ∷ is) =
    let here : is_unfinished s.core i ≡ false = all_done s.core.jobs i e in
    let rest : unfinished s.core is ≡ [] = none_waited_for s e is in
    grind arith

pub reaper_goes_on : (script : Script) (s : State) (g : Ghost) → list_all (λ j. j.finished) s.core.jobs ≡ true → slice_get s.core.ghosts 0 ≡ Some g → can_step script s actor.Reaper ≡ true
reaper_goes_on script s g e h =
    let none : unfinished s.core g.jobs ≡ [] = none_waited_for s e g.jobs in
    let idle : waited_for s.core g.jobs ≡ None = ap named_job none in
    grind (arith, common_steps)
