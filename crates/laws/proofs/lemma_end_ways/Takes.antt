-- A choice that is taken lowers the measure: the buffer is nearer to its place, or the victim on its way.
use Rattle.std.proofs.Common.{◌≡◌, ℕ, ◌≤◌, ◌+◌, ◌*◌, Bool, true, false, List, [], ◌∷◌, length, Option, Some, None, refl, ◌∙◌, ap, ap₂, subst, arith}
use Rattle.std.specs.Prelude.{slice_get, map, filter_map, count_by, sum_by, unwrap_or, is_some, option_map, not, ◌||◌, if◌then◌else◌}
use Rattle.std.proofs.lemmas.Bool.{or_left, or_right}
use Rattle.ttm_base.specs.declared.Mem.{Mem}
use Rattle.ttm_base.specs.declared.Mem.TheVariants.{System, Tt, Vram}
use Rattle.ttm_base.specs.declared.Span.{Span}
use Rattle.ttm_base.specs.declared.BufId.{BufId}
use Rattle.ttm_base.specs.declared.JobId.{JobId}
use Rattle.ttm_base.specs.declared.Place.{Place}
use Rattle.ttm_base.specs.declared.Usage.TheVariants as usage
use Rattle.ttm_base.specs.declared.Actor.TheVariants as actor
use Rattle.journal_model.specs.declared.script.Script.{Script}
use Rattle.journal_model.specs.declared.script.Command.{Command}
use Rattle.journal_model.specs.declared.state.State.{State}
use Rattle.journal_model.specs.declared.state.Course.{Course}
use Rattle.journal_model.specs.declared.state.Victim.{Victim}
use Rattle.journal_model.specs.declared.state.Buffer.{Buffer}
use Rattle.journal_model.specs.declared.state.SearchAim.TheVariants.{Hop}
use Rattle.journal_model.specs.declared.entry.Kind.TheVariants as kind
use Rattle.journal_model.specs.rules.State.{new_buffer, buffer, course, has_buffer, has_target, with_target, changed}
use Rattle.journal_model.specs.rules.Commands.{whole}
use Rattle.journal_model.specs.rules.Places.{is_frame, slot_of}
use Rattle.journal_model.specs.rules.Holds.{has_number}
use Rattle.journal_model.specs.rules.Waits.{jobs_before_target}
use Rattle.journal_model.specs.rules.Ready.{has_some_target, is_in_place}
use Rattle.ttm_base.specs.Placement.{forced_places}
use Rattle.journal_model.specs.rules.Search.{place_search, is_caught, through_tt}
use Rattle.journal_model.specs.rules.Apply.{applied}
use Rattle.journal_model.specs.rules.ApplyPages.{with_fence, with_spans, with_kernel_fences}
use Rattle.laws.proofs.law_sound.Measure.{carries_left, steps_left, slots_to_fill, named_left, not_skipped, victim_left, page_left, left_of_buffer, measure}
use Rattle.laws.proofs.law_sound.Along.{Stepped}
use Rattle.laws.proofs.law_sound.Turns.{InVram}
use Rattle.laws.proofs.law_sound.Gifts.{PlaceOf, first, forced}
use Rattle.laws.proofs.law_sound.Steadies.{next_course, own_course}
use Rattle.laws.proofs.lemma_end_measure.Frame.{left_of, untouched}
use Rattle.laws.proofs.lemma_end_measure.Working.{pick_most, carries_most}
use Rattle.laws.proofs.lemma_end_measure.Slots.{OneFewer, Fewer, no_debts}
use Rattle.laws.proofs.lemma_end_measure.Sums.{fewer_kept}
use Rattle.laws.proofs.lemma_end_measure.Giving.{changed_here}
use Rattle.laws.proofs.lemma_end_measure.Border.{Known}
use Rattle.laws.proofs.lemma_end_measure.Skipping.{wide_falls, search_was}
use Rattle.laws.proofs.lemma_end_measure.Parts.{locks_stay}
use Rattle.laws.proofs.lemma_end_ways.Exact.{changed_left, has_page, shares_fall}
use Rattle.laws.proofs.lemma_end_ways.Rows.{carry_of, far}
use Rattle.laws.proofs.lemma_end_ways.Pages.{fewer_to_fill}
use Rattle.laws.proofs.lemma_end_ways.Carries.{AtNamed, nearer_worth}
use Rattle.laws.proofs.lemma_end_ways.VictimSteps.{AtVictim, victim_cost, victim_falls, searching_cost}

-- ---- fences change neither place, nor table, nor targets

pub record SameBody (x y : Buffer) : Type 0 where
  pub mem : y.mem ≡ x.mem
  pub spans : y.spans ≡ x.spans
  pub table : y.table ≡ x.table
  pub targets : y.targets ≡ x.targets

pub fenced : (jobs : List JobId) (x : Buffer) → SameBody x (with_kernel_fences jobs x)
fenced [] x = record { mem = refl; spans = refl; table = refl; targets = refl }
fenced (j ∷ jobs) x = let r = fenced jobs (with_fence j usage.Kernel x) in record { mem = r.mem; spans = r.spans; table = r.table; targets = r.targets }

-- the buffer with one more target
abbrev pub taken : State → Mem → List Span → Buffer → Buffer
taken s mem spans x = with_kernel_fences (jobs_before_target s.core mem) (with_spans mem (Some spans) x)

pub taken_body : (s : State) (mem : Mem) (spans : List Span) (x : Buffer) → SameBody (with_spans mem (Some spans) x) (taken s mem spans x)
taken_body s mem spans x = fenced (jobs_before_target s.core mem) (with_spans mem (Some spans) x)

pub taken_fewer : (s : State) (mem : Mem) (spans : List Span) (xs : List (Option Buffer)) (b : BufId) → Fewer xs (changed (taken s mem spans) xs b)
taken_fewer s mem spans xs b = fewer_kept (option_map (taken s mem spans)) less xs b.0
  where
    less : (o : Option Buffer) → OneFewer o (option_map (taken s mem spans) o)
    less None = tt
    less (Some x) = λ n h. subst (λ l. has_number (filter_map slot_of l) n ≡ true) (taken_body s mem spans x).table h

taken_left : (s : State) (mem : Mem) (spans : List Span) (x : Buffer) → left_of_buffer (Some (taken s mem spans x)) ≡ left_of_buffer (Some x)
taken_left s mem spans x =
    ap₂ (λ m l. elim m [ System ↦ sum_by page_left l | Tt ↦ 71303168 * length l | Vram ↦ 75497472 * length l + count_by (λ p. not (is_frame p)) l ]) (taken_body s mem spans x).mem (taken_body s mem spans x).table

-- one target at least
pub some_taken : (s : State) (mem : Mem) (spans : List Span) (x : Buffer) → has_some_target (taken s mem spans x) ≡ true
some_taken s mem spans x =
    ap (λ z. (is_some z.system || is_some z.tt) || is_some z.vram) (taken_body s mem spans x).targets ∙ by mem
  where
    by : (m : Mem) → ((is_some (with_target m (Some spans) x.targets).system || is_some (with_target m (Some spans) x.targets).tt) || is_some (with_target m (Some spans) x.targets).vram) ≡ true
    by System = refl
    by Tt = or_left (is_some x.targets.system || true) (is_some x.targets.vram) (or_right (is_some x.targets.system) true refl)
    by Vram = or_right (is_some x.targets.system || is_some x.targets.tt) true refl

-- a choice for a hop is one in TT
pub hop_place : (script : Script) (cmd : Command) (c : Course) (b : BufId) (place : Place) → (is_caught c b ≡ false → c.dry ≡ 0) → PlaceOf (place_search script cmd c b Hop) place → place ≡ whole Tt
hop_place script cmd c b place fresh h = by (is_caught c b) refl h
  where
    by : (q : Bool) → is_caught c b ≡ q → PlaceOf (if q then record { list = through_tt; forced = false; dry = 0 } else record { list = through_tt; forced = c.forced; dry = c.dry }) place → place ≡ whole Tt
    by true e (first i f g) = absurd (let z : None ≡ Some place = g in cc)
    by true e (forced g) = g
    by false e (first i f g) = absurd (let z : None ≡ Some place = g in cc)
    by false e (forced g) = g ∙ ap (λ n. unwrap_or (slice_get (forced_places through_tt) n) (whole System)) (fresh e)

-- ---- a named buffer

module _ (script : Script) (s : State) (t : ℕ) (b : BufId) (mem : Mem) (spans : List Span) (known : Known script s) (st : Stepped script s t (kind.Take b mem spans)) (at : AtNamed script s t st.step.cmd b) where
  abbrev fresh_course : Course
  fresh_course = record (course s t) { forced = false; dry = 0 }

  is_fresh : next_course script s t (kind.Take b mem spans) ≡ record (course s t) { forced = false; dry = 0 }
  is_fresh = ap (λ vs. if has_buffer (map (λ v. v.b) vs) b then course s t else record (course s t) { forced = false; dry = 0 }) at.alone

  -- a step nearer pays for the dry places that are forgotten
  take_falls : steps_left script st.step.cmd b (taken s mem spans (buffer s b)) + 1 ≤ steps_left script st.step.cmd b (buffer s b)
      → measure script (applied script s (actor.Thread t) (kind.Take b mem spans)) + 1 ≤ measure script s
  take_falls steps =
      wide_falls script s t (kind.Take b mem spans) known st (taken_fewer s mem spans s.core.buffers b)
      (let none = no_debts script (applied script s (actor.Thread t) (kind.Take b mem spans)) t (ap (λ c. c.caught) (own_course script s t (kind.Take b mem spans) st.here ∙ is_fresh) ∙ at.alone) in omega (arith, none))
      (let body = taken_body s mem spans (buffer s b) in
      let worth = nearer_worth script st.step.cmd b (buffer s b) (taken s mem spans (buffer s b)) steps (ap length body.table) (fewer_to_fill st.step.cmd System (buffer s b) (taken s mem spans (buffer s b)) body.table) in
      let here : buffer (applied script s (actor.Thread t) (kind.Take b mem spans)) b ≡ taken s mem spans (buffer s b) = ap (λ o. unwrap_or o (new_buffer 0)) (changed_here (taken s mem spans) s.core.buffers b (buffer s b) at.live) in
      let named : named_left script (applied script s (actor.Thread t) (kind.Take b mem spans)) st.step.cmd b
      ≡ (5 + 6291456 * steps_left script st.step.cmd b (taken s mem spans (buffer s b))) * length (taken s mem spans (buffer s b)).table + 67108865 * slots_to_fill st.step.cmd (taken s mem spans (buffer s b)) =
      ap (λ y. (5 + 6291456 * steps_left script st.step.cmd b y) * length y.table + 67108865 * slots_to_fill st.step.cmd y) here in
      let shares =
      shares_fall script s (applied script s (actor.Thread t) (kind.Take b mem spans)) known st.step.cmd b (buffer s b) at.live
      (λ d h. ap (λ o. unwrap_or o (new_buffer 0)) (untouched script s t (kind.Take b mem spans) d h)) (course s t) fresh_course (6291456 * length (buffer s b).table)
      (λ e. let same : not_skipped fresh_course e ≡ not_skipped (course s t) e = refl in omega (arith, same)) at.member (omega (arith, worth, named)) in
      let now = ap (left_of script (applied script s (actor.Thread t) (kind.Take b mem spans)) t) is_fresh
      ∙ search_was script s t (kind.Take b mem spans) known st fresh_course (applied script s (actor.Thread t) (kind.Take b mem spans)) at.stamp refl at.works.unmade at.stamped at.works.whole at.fine in
      let was = search_was script s t (kind.Take b mem spans) known st (course s t) s at.stamp refl at.works.unmade at.stamped at.works.whole at.fine in
      let victims : sum_by (λ v. victim_left (buffer (applied script s (actor.Thread t) (kind.Take b mem spans)) v.b) v) (course s t).caught ≡ 0 = ap (λ vs. sum_by (λ v. victim_left (buffer (applied script s (actor.Thread t) (kind.Take b mem spans)) v.b) v) vs) at.alone in
      let sum = changed_left (taken s mem spans) s.core.buffers b (buffer s b) at.live in
      let left = taken_left s mem spans (buffer s b) in
      let page = has_page script s known b (buffer s b) at.live in
      omega (arith, shares, now, was, victims, sum, left, page))

  -- with a target it is nearer than without
  carries_now : steps_left script st.step.cmd b (taken s mem spans (buffer s b)) ≡ carries_left (taken s mem spans (buffer s b))
  carries_now = far script st.step.cmd b (taken s mem spans (buffer s b)) (some_taken s mem spans (buffer s b))

  pub asked_falls : is_in_place script st.step.cmd b (buffer s b) ≡ false → has_some_target (buffer s b) ≡ false
      → measure script (applied script s (actor.Thread t) (kind.Take b mem spans)) + 1 ≤ measure script s
  asked_falls misplaced none =
      take_falls
      (let was : steps_left script st.step.cmd b (buffer s b) ≡ 4 =
      ap (λ z. elim z [ true ↦ 0 | false ↦ elim (has_some_target (buffer s b)) [ true ↦ carries_left (buffer s b) | false ↦ 4 ] ]) misplaced
      ∙ ap (λ z. elim z [ true ↦ carries_left (buffer s b) | false ↦ 4 ]) none in
      let now = carries_now in
      let most = carries_most (taken s mem spans (buffer s b)) in
      omega (arith, was, now, most))

-- a hop: three carries are left
pub data Hops (x : Buffer) : Type 0 where
  up : x.mem ≡ System → has_target Tt x ≡ false → Hops x
  down : x.mem ≡ Vram → has_target Vram x ≡ false → has_target Tt x ≡ false → Hops x

hops_left : (x : Buffer) → Hops x → carries_left x ≡ 3
hops_left x (up m t) =
    ap (λ z. carry_of z (has_target System x) (has_target Tt x) (has_target Vram x)) m
    ∙ ap (λ z. carry_of System (has_target System x) z (has_target Vram x)) t
hops_left x (down m v t) =
    ap (λ z. carry_of z (has_target System x) (has_target Tt x) (has_target Vram x)) m
    ∙ (ap (λ z. carry_of Vram (has_target System x) (has_target Tt x) z) v
    ∙ ap (λ z. carry_of Vram (has_target System x) z false) t)

-- with a target in TT there are at most two
with_tt : (m : Mem) (a c : Bool) → carry_of m a true c ≤ 2
with_tt System a c = pick_most (c || a) 2 1 2 (omega arith) (omega arith)
with_tt Tt true c = omega arith
with_tt Tt false c = omega arith
with_tt Vram a true = omega arith
with_tt Vram a false = pick_most a 2 1 2 (omega arith) (omega arith)

pub hop_falls : (script : Script) (s : State) (t : ℕ) (b : BufId) (spans : List Span) → (known : Known script s) → (st : Stepped script s t (kind.Take b Tt spans)) → AtNamed script s t st.step.cmd b
    → has_some_target (buffer s b) ≡ true → Hops (buffer s b) → measure script (applied script s (actor.Thread t) (kind.Take b Tt spans)) + 1 ≤ measure script s
hop_falls script s t b spans known st at some hops =
    take_falls script s t b Tt spans known st at
    (let was = far script st.step.cmd b (buffer s b) some in
    let three = hops_left (buffer s b) hops in
    let now : steps_left script st.step.cmd b (taken s Tt spans (buffer s b)) ≡ carries_left (taken s Tt spans (buffer s b)) = far script st.step.cmd b (taken s Tt spans (buffer s b)) (some_taken s Tt spans (buffer s b)) in
    let low = with_tt (buffer s b).mem (has_target System (taken s Tt spans (buffer s b))) (has_target Vram (taken s Tt spans (buffer s b))) in
    let is : carries_left (taken s Tt spans (buffer s b)) ≡ carry_of (buffer s b).mem (has_target System (taken s Tt spans (buffer s b))) true (has_target Vram (taken s Tt spans (buffer s b))) = refl in
    omega (arith, was, three, now, low, is))

-- ---- a victim

pub victim_take_falls : (script : Script) (s : State) (t : ℕ) (v : Victim) (spans : List Span) → (known : Known script s) → (st : Stepped script s t (kind.Take v.b Tt spans)) → AtVictim script s t st.step.cmd v
    → InVram v (buffer s v.b) → v.fail ≡ None → has_target Tt (buffer s v.b) ≡ false → measure script (applied script s (actor.Thread t) (kind.Take v.b Tt spans)) + 1 ≤ measure script s
victim_take_falls script s t v spans known st at vram fine none =
    victim_falls script s t (kind.Take v.b Tt spans) known st v at (λ d h. untouched script s t (kind.Take v.b Tt spans) d h) own
    (locks_stay script s t (kind.Take v.b Tt spans) known st (course s t) own refl refl refl refl (λ d h e. e))
    (taken_fewer s Tt spans s.core.buffers v.b)
    (let here : buffer (applied script s (actor.Thread t) (kind.Take v.b Tt spans)) v.b ≡ with_spans Tt (Some spans) (buffer s v.b) = ap (λ o. unwrap_or o (new_buffer 0)) (changed_here (with_spans Tt (Some spans)) s.core.buffers v.b (buffer s v.b) at.live) in
    let now = ap (λ x. victim_cost script (applied script s (actor.Thread t) (kind.Take v.b Tt spans)) x v) here
    ∙ searching_cost script (applied script s (actor.Thread t) (kind.Take v.b Tt spans)) (with_spans Tt (Some spans) (buffer s v.b)) v true vram.why vram.mem fine refl in
    let was = searching_cost script s (buffer s v.b) v false vram.why vram.mem fine none in
    let sum = changed_left (with_spans Tt (Some spans)) s.core.buffers v.b (buffer s v.b) at.live in
    omega (arith, now, was, sum))
  where
    own : next_course script s t (kind.Take v.b Tt spans) ≡ course s t
    own = ap (λ q. if q then course s t else record (course s t) { forced = false; dry = 0 }) at.caught
