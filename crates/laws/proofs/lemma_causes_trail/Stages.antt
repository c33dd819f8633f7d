-- How far a command's searches are, and how each entry of its thread carries this on.
use Rattle.std.proofs.Common.{◌≡◌, ℕ, Bool, true, false, List, [], ◌∷◌, length, Option, Some, None, refl, sym, ◌∙◌, ap, ap₂, subst}
use Rattle.std.specs.Prelude.{cond, filter, map, not, ◌||◌, ◌&&◌, if◌then◌else◌}
use Rattle.std.specs.List.{list_any, list_all}
use Rattle.std.proofs.lemmas.Bool.{and_parts}
use Rattle.std.proofs.lemmas.List.Folds.{list_all-append}
use Rattle.ttm_base.specs.ListWords.{last_of}
use Rattle.ttm_base.specs.Placement.{forced_places}
use Rattle.ttm_base.specs.declared.BufId.{BufId}
use Rattle.ttm_base.specs.declared.FlaggedPlace.{FlaggedPlace}
use Rattle.ttm_base.specs.declared.Deny.{Deny}
use Rattle.ttm_base.specs.declared.Deny.TheVariants as deny
use Rattle.journal_model.specs.declared.script.Script.{Script}
use Rattle.journal_model.specs.declared.script.Command.{Command}
use Rattle.journal_model.specs.declared.state.State.{State}
use Rattle.journal_model.specs.declared.state.Course.{Course}
use Rattle.journal_model.specs.declared.state.Victim.{Victim}
use Rattle.journal_model.specs.declared.state.SearchAim.{SearchAim}
use Rattle.journal_model.specs.declared.entry.Kind.{Kind}
use Rattle.journal_model.specs.declared.entry.Kind.TheVariants as kind
use Rattle.journal_model.specs.declared.entry.Shown.{Shown}
use Rattle.journal_model.specs.declared.entry.Why.{Why}
use Rattle.journal_model.specs.declared.entry.Why.TheVariants as why
use Rattle.journal_model.specs.declared.entry.DryWhy.{DryWhy}
use Rattle.journal_model.specs.rules.State.{course, same_buffer, has_buffer}
use Rattle.journal_model.specs.rules.Commands.{named, command_at_work}
use Rattle.journal_model.specs.rules.Search.{place_search_at_work, is_caught}
use Rattle.journal_model.specs.rules.ApplyPages.{search_over}
use Rattle.journal_model.specs.rules.ApplyVictims.{failed_if, with_fail, gone_dry, course_after_dry, with_victim}
use Rattle.journal_model.specs.rules.Legal.{Made}
use Rattle.journal_model.specs.statements.Complete.{is_answer}
use Rattle.journal_model.specs.statements.Causes.{in_command, is_no_pages_of, is_take_of, dry_of, presses, search_of}
use Rattle.laws.proofs.law_sound.Turns.{Works}
use Rattle.laws.proofs.law_sound.Steadies.{next_course}
use Rattle.laws.proofs.law_sound.Bufs.{same_is, other_is, victims_of, clash}
use Rattle.laws.proofs.lemma_end_measure.Frame.{touches}
use Rattle.laws.proofs.lemma_causes_trail.Found.{takes}
use Rattle.laws.proofs.lemma_causes_trail.Windows.{Quiet, Trail}
use Rattle.laws.proofs.lemma_causes_trail.Tasks.{places_of, Seeking, is_aside}

-- ---- what is known of a command's searches

abbrev pub is_for_swap : Victim → Bool
is_for_swap v = elim v.why [ why.Swap ↦ true | why.Tt ↦ false | why.Vram ↦ false ]

-- no search is under pressure: victims give frames alone
abbrev pub Calm : Course → Type 0
Calm c = (c.forced ≡ false) × (c.dry ≡ 0) × (c.fail ≡ None) × (list_all is_for_swap c.caught ≡ true)

-- the search of the buffer at work is under pressure
pub record Pressed (script : Script) (s : State) (j : List Made) (t : ℕ) (c : Course) (cmd : Command) : Type 0 where
  pub works : Works c cmd
  pub fine : c.fail ≡ None
  pub b : BufId
  pub aim : SearchAim
  pub seeking : Seeking script s cmd b aim
  pub trail : Trail script t b (places_of script cmd b aim) c.dry (search_of script t b j)
  pub quiet : (d : BufId) → (d ≡ b → ⊥) → Quiet script t d j

-- a search has failed
pub record Spent (script : Script) (j : List Made) (t : ℕ) (c : Course) (cmd : Command) : Type 0 where
  pub works : Works c cmd
  pub alone : c.caught ≡ []
  pub failed : c.fail ≡ Some deny.NoSpace
  pub b : BufId
  pub is_named : has_buffer (named cmd) b ≡ true
  pub list : List FlaggedPlace
  pub trail : Trail script t b list (length (forced_places list)) (search_of script t b j)

-- no frame was found
pub record Frameless (j : List Made) (t : ℕ) (c : Course) (cmd : Command) : Type 0 where
  pub works : Works c cmd
  pub alone : c.caught ≡ []
  pub failed : c.fail ≡ Some deny.NoPages
  pub said : list_any (λ m. is_no_pages_of (named cmd) m.entry.kind) (in_command t j) ≡ true

pub data Stage (script : Script) (s : State) (j : List Made) (t : ℕ) (c : Course) (cmd : Command) : Type 0 where
  calm : Calm c → ((d : BufId) → Quiet script t d j) → Stage script s j t c cmd
  pressed : Pressed script s j t c cmd → Stage script s j t c cmd
  spent : Spent script j t c cmd → Stage script s j t c cmd
  frameless : Frameless j t c cmd → Stage script s j t c cmd

-- ---- kinds

-- it catches nothing, fails nothing and answers nothing
abbrev pub is_plain : Kind → Bool
is_plain (kind.Catch b w) = false
is_plain (kind.Dry b k w) = false
is_plain (kind.NoPages b) = false
is_plain (kind.Result r) = false
is_plain (kind.Refused d) = false
is_plain _ = true

-- the sort of an entry, by what it means for searches
pub data Sort : Kind → Type 0 where
  plain : {k : Kind} → is_plain k ≡ true → is_answer k ≡ false → presses k ≡ false → ((b : BufId) → dry_of b k ≡ None) → Sort k
  caught : {v : BufId} {w : Why} → Sort (kind.Catch v w)
  dried : {b : BufId} {n : ℕ} {w : DryWhy} → Sort (kind.Dry b n w)
  lacking : {b : BufId} → Sort (kind.NoPages b)
  result : {r : Shown} → Sort (kind.Result r)
  denied : {d : Deny} → Sort (kind.Refused d)

pub sort_of : (k : Kind) → Sort k
sort_of (kind.Catch b w) = caught
sort_of (kind.Dry b k w) = dried
sort_of (kind.NoPages b) = lacking
sort_of (kind.Result r) = result
sort_of (kind.Refused d) = denied
sort_of _ = plain refl refl refl (λ b. refl)

-- what an entry shows doesn't matter for searches
pub record Alike (k' k : Kind) : Type 0 where
  pub answer : is_answer k' ≡ is_answer k
  pub takes : (b : BufId) → is_take_of b k' ≡ is_take_of b k
  pub dry : (b : BufId) → dry_of b k' ≡ dry_of b k
  pub presses : presses k' ≡ presses k
  pub lacks : (bs : List BufId) → is_no_pages_of bs k' ≡ is_no_pages_of bs k

-- ---- courses

pub none_caught_is : (c : Course) (b : BufId) → c.caught ≡ [] → is_caught c b ≡ false
none_caught_is c b e = ap (λ vs. has_buffer (victims_of vs) b) e

swaps_filtered : (p : Victim → Bool) (vs : List Victim) → list_all is_for_swap vs ≡ true → list_all is_for_swap (filter p vs) ≡ true
swaps_filtered p [] h = refl
swaps_filtered p (v ∷ vs) h = let q = and_parts (is_for_swap v) (list_all is_for_swap vs) h in by (p v) q.0 (swaps_filtered p vs q.1)
  where
    by : (q : Bool) → is_for_swap v ≡ true → list_all is_for_swap (filter p vs) ≡ true → list_all is_for_swap (cond q (v ∷ filter p vs) (filter p vs)) ≡ true
    by true h k = ap₂ (λ a b. a && b) h k
    by false h k = k

swaps_failed : (d : Deny) (b : BufId) (vs : List Victim) → list_all is_for_swap vs ≡ true → list_all is_for_swap (map (failed_if d b) vs) ≡ true
swaps_failed d b [] h = refl
swaps_failed d b (v ∷ vs) h = let q = and_parts (is_for_swap v) (list_all is_for_swap vs) h in by (same_buffer b v.b) q.0 (swaps_failed d b vs q.1)
  where
    by : (q : Bool) → is_for_swap v ≡ true → list_all is_for_swap (map (failed_if d b) vs) ≡ true → (is_for_swap (if q then record v { fail = Some d } else v) && list_all is_for_swap (map (failed_if d b) vs)) ≡ true
    by true h k = ap₂ (λ a b. a && b) h k
    by false h k = ap₂ (λ a b. a && b) h k

last_swaps : (vs : List Victim) (v : Victim) → list_all is_for_swap vs ≡ true → last_of vs ≡ Some v → is_for_swap v ≡ true
last_swaps [] v h l = cc
last_swaps (w ∷ []) v h l = let it : w ≡ v = cc in subst (λ z. is_for_swap z ≡ true) it (and_parts (is_for_swap w) true h).0
last_swaps (w ∷ x ∷ vs) v h l = last_swaps (x ∷ vs) v (and_parts (is_for_swap w) (list_all is_for_swap (x ∷ vs)) h).1 l

pub swaps_not_vram : (c : Course) (v : Victim) → Calm c → last_of c.caught ≡ Some v → v.why ≡ why.Vram → ⊥
swaps_not_vram c v k l e = clash (sym (last_swaps c.caught v k.3 l) ∙ ap (λ w. elim w [ why.Swap ↦ true | why.Tt ↦ false | why.Vram ↦ false ]) e)

-- the course after an entry without a victim or a failure
search_calm : (b : BufId) (c : Course) → Calm c → Calm (search_over b c)
search_calm b c h = by (is_caught c b)
  where
    by : (q : Bool) → Calm (if q then c else record c { forced = false; dry = 0 })
    by true = h
    by false = (refl, refl, h.2, h.3)

pub calm_plain : (script : Script) (s : State) (t : ℕ) (k : Kind) → is_plain k ≡ true → Calm (course s t) → Calm (next_course script s t k)
calm_plain script s t (kind.Take b mem spans) p h = search_calm b (course s t) h
calm_plain script s t (kind.Catch b w) p h = absurd (clash (sym p))
calm_plain script s t (kind.Loose b) p h = (h.0, h.1, h.2, swaps_filtered (λ v. not (same_buffer b v.b)) (course s t).caught h.3)
calm_plain script s t (kind.Skip b) p h = (h.0, h.1, h.2, swaps_filtered (λ v. not (same_buffer b v.b)) (course s t).caught h.3)
calm_plain script s t (kind.Dry b k w) p h = absurd (clash (sym p))
calm_plain script s t (kind.NoPages b) p h = absurd (clash (sym p))
calm_plain script s t (kind.Result r) p h = absurd (clash (sym p))
calm_plain script s t (kind.Refused d) p h = absurd (clash (sym p))
calm_plain script s t _ p h = h

-- one more victim for swap
pub calm_swap : (v : BufId) (c : Course) → Calm c → Calm (with_victim v why.Swap c)
calm_swap v c h = (
  ap (λ q. q || false) h.0,
  h.1,
  h.2,
  list_all-append is_for_swap c.caught (record { b = v; why = why.Swap; fail = None } ∷ []) ∙ ap (λ q. q && true) h.3,
)

-- a victim finds no frame
pub calm_fail : (b : BufId) (d : Deny) (c : Course) → is_caught c b ≡ true → Calm c → Calm (with_fail b d c)
calm_fail b d c e h = subst (λ q. Calm (if q then record c { caught = map (failed_if d b) c.caught } else record c { fail = Some d })) (sym e) (h.0, h.1, h.2, swaps_failed d b c.caught h.3)

-- an entry on a victim leaves the search alone
abbrev pub Keeps : Course → Course → Command → Type 0
Keeps c c' cmd = (Works c cmd → Works c' cmd) × (c'.dry ≡ c.dry) × (c'.fail ≡ c.fail)

fail_keeps : (b : BufId) (d : Deny) (c : Course) (cmd : Command) → is_caught c b ≡ true → Keeps c (with_fail b d c) cmd
fail_keeps b d c cmd e =
    subst (λ q. Keeps c (if q then record c { caught = map (failed_if d b) c.caught } else record c { fail = Some d }) cmd) (sym e)
    ((λ w. record { unmade = w.unmade; begun = w.begun; whole = w.whole }), refl, refl)

dry_keeps : (script : Script) (s : State) (b : BufId) (k : ℕ) (o : Option Command) (c : Course) (cmd : Command) → is_caught c b ≡ true → Keeps c (course_after_dry script s b k o c) cmd
dry_keeps script s b k None c cmd e = ((λ w. w), refl, refl)
dry_keeps script s b k (Some x) c cmd e =
    subst (λ q. Keeps c (if q then with_fail b deny.NoSpace c else gone_dry k (length (forced_places (place_search_at_work script s c x b).list)) c) cmd) (sym e) (fail_keeps b deny.NoSpace c cmd e)

module _ (script : Script) (s : State) (t : ℕ) (cmd : Command) (v : BufId) (mine : is_caught (course s t) v ≡ true) where
  also : (b : BufId) → same_buffer v b ≡ true → is_caught (course s t) b ≡ true
  also b h = subst (λ z. is_caught (course s t) z ≡ true) (same_is v b h) mine

  stays : Keeps (course s t) (course s t) cmd
  stays = ((λ w. w), refl, refl)

  no_aside : false ≡ true → (c' : Course) → Keeps (course s t) c' cmd
  no_aside h c' = absurd (clash (sym h))

  pub aside_course : (k : Kind) → is_aside v k ≡ true → Keeps (course s t) (next_course script s t k) cmd
  aside_course (kind.Take b mem spans) h = subst (λ q. Keeps (course s t) (if q then course s t else record (course s t) { forced = false; dry = 0 }) cmd) (sym (also b h)) stays
  aside_course (kind.Untake b mem) h = stays
  aside_course (kind.Populate b page f) h = stays
  aside_course (kind.SwapIn b page slot f) h = stays
  aside_course (kind.Depopulate b) h = stays
  aside_course (kind.Unbind b) h = stays
  aside_course (kind.Move b mem n l) h = stays
  aside_course (kind.Loose b) h = ((λ w. record { unmade = w.unmade; begun = w.begun; whole = w.whole }), refl, refl)
  aside_course (kind.Skip b) h = ((λ w. record { unmade = w.unmade; begun = w.begun; whole = w.whole }), refl, refl)
  aside_course (kind.Dry b k w) h = dry_keeps script s b k (command_at_work script s t) (course s t) cmd (also b h)
  aside_course (kind.SwapOut b page slot) h = stays
  aside_course (kind.NoPages b) h = fail_keeps b deny.NoPages (course s t) cmd (also b h)
  aside_course _ h = no_aside h _

  -- what it tells of another buffer: nothing
  module _ (d : BufId) (other : d ≡ v → ⊥) where
    differs : (b : BufId) → same_buffer v b ≡ true → same_buffer d b ≡ false
    differs b h = other_is d b (λ e. other (e ∙ sym (same_is v b h)))

    differs_back : (b : BufId) → same_buffer v b ≡ true → same_buffer b d ≡ false
    differs_back b h = other_is b d (λ e. other (sym e ∙ sym (same_is v b h)))

    abbrev Apart : Kind → Type 0
    Apart k = (is_answer k ≡ false) × (is_take_of d k ≡ false) × (dry_of d k ≡ None) × (touches script s t k d ≡ false)

    pub aside_apart : (k : Kind) → is_aside v k ≡ true → Apart k
    aside_apart (kind.Take b mem spans) h = (refl, differs b h, refl, differs_back b h)
    aside_apart (kind.Untake b mem) h = (refl, refl, refl, differs_back b h)
    aside_apart (kind.Populate b page f) h = (refl, refl, refl, differs_back b h)
    aside_apart (kind.SwapIn b page slot f) h = (refl, refl, refl, differs_back b h)
    aside_apart (kind.Depopulate b) h = (refl, refl, refl, differs_back b h)
    aside_apart (kind.Unbind b) h = (refl, refl, refl, differs_back b h)
    aside_apart (kind.Move b mem n l) h = (refl, refl, refl, differs_back b h)
    aside_apart (kind.Loose b) h = (refl, refl, refl, refl)
    aside_apart (kind.Skip b) h = (refl, refl, refl, refl)
    aside_apart (kind.Dry b k w) h = (refl, refl, ap (λ q. if q then Some k else None) (differs b h), refl)
    aside_apart (kind.SwapOut b page slot) h = (refl, refl, refl, differs_back b h)
    aside_apart (kind.NoPages b) h = (refl, refl, refl, refl)
    aside_apart _ h = absurd (clash (sym h))
