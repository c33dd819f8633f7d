-- An entry that changes no lock lowers the measure as soon as its own thread and the buffers cost less.
use Rattle.std.proofs.Common.{◌≡◌, ℕ, ◌≤◌, ◌+◌, ◌*◌, Bool, true, false, List, length, Option, Some, refl, sym, ◌∙◌, ap, subst, arith, ⊎_elim}
use Rattle.std.specs.Prelude.{slice_set, sum_by, unwrap_or, option_map, if◌then◌else◌}
use Rattle.std.specs.List.{enumerate_from}
use Rattle.std.proofs.lemmas.Bool.{cases_Bool}
use Rattle.ttm_base.specs.declared.BufId.{BufId}
use Rattle.ttm_base.specs.declared.Actor.TheVariants as actor
use Rattle.journal_model.specs.declared.script.Script.{Script}
use Rattle.journal_model.specs.declared.script.Decl.{Decl}
use Rattle.journal_model.specs.declared.script.Command.{Command}
use Rattle.journal_model.specs.declared.state.State.{State}
use Rattle.journal_model.specs.declared.state.Course.{Course}
use Rattle.journal_model.specs.declared.state.Buffer.{Buffer}
use Rattle.journal_model.specs.declared.entry.Kind.{Kind}
use Rattle.journal_model.specs.rules.State.{buffer, course, same_buffer, has_buffer, live_in, changed}
use Rattle.journal_model.specs.rules.Commands.{decl, undeclared, named}
use Rattle.journal_model.specs.rules.Apply.{applied}
use Rattle.laws.proofs.law_sound.Measure.{steps_left, slots_to_fill, not_skipped, if_named, named_left, search_share, slot_debts, left_of_buffer, locks_left, measure}
use Rattle.laws.proofs.law_sound.MeasureFalls.{sum_set, sum_most}
use Rattle.laws.specs.law_state.GoodState.{HasPages}
use Rattle.laws.proofs.law_state.Lists.{get_within}
use Rattle.laws.proofs.law_sound.Along.{Stepped}
use Rattle.laws.proofs.law_sound.Bufs.{same_is}
use Rattle.laws.proofs.law_sound.Steadies.{next_course}
use Rattle.laws.proofs.lemma_end_measure.Frame.{left_of}
use Rattle.laws.proofs.lemma_end_measure.Slots.{Fewer}
use Rattle.laws.proofs.lemma_end_measure.Giving.{enumerate_falls, live_at, get_below}
use Rattle.laws.proofs.lemma_end_measure.Border.{Known, shared}
use Rattle.laws.proofs.lemma_end_measure.Parts.{parts_fall}

module _ (script : Script) (s : State) (t : ℕ) (k : Kind) (known : Known script s) (st : Stepped script s t k) where
  -- what the own thread, its debts, the buffers, the jobs and the ghosts cost
  pub exact_falls : Fewer s.core.buffers (applied script s (actor.Thread t) k).core.buffers → locks_left script (applied script s (actor.Thread t) k) ≤ locks_left script s
      → left_of script (applied script s (actor.Thread t) k) t (next_course script s t k) + slot_debts script (applied script s (actor.Thread t) k) t + shared (applied script s (actor.Thread t) k) + 1
      ≤ left_of script s t (course s t) + slot_debts script s t + shared s
      → measure script (applied script s (actor.Thread t) k) + 1 ≤ measure script s
  exact_falls fewer locks less = parts_fall script s t k known st fewer (omega (arith, locks, less))

-- ---- one buffer changed

-- the buffers' parts: the changed one's alone is another
pub changed_left : (f : Buffer → Buffer) (xs : List (Option Buffer)) (b : BufId) (x : Buffer) → live_in xs b ≡ Some x →
    sum_by left_of_buffer (changed f xs b) + left_of_buffer (Some x) ≡ sum_by left_of_buffer xs + left_of_buffer (Some (f x))
changed_left f xs b x live =
    let set : sum_by left_of_buffer (changed f xs b) ≡ sum_by left_of_buffer (slice_set xs b.0 (Some (f x))) = ap (λ o. sum_by left_of_buffer (slice_set xs b.0 (option_map f o))) live in
    let sum = sum_set left_of_buffer xs b.0 (Some x) (Some (f x)) (live_at xs b x live) in
    omega (arith, set, sum)

-- a live buffer has a page
pub has_page : (script : Script) (s : State) → Known script s → (b : BufId) (x : Buffer) → live_in s.core.buffers b ≡ Some x → 1 ≤ length x.table
has_page script s known b x live =
    let inside = get_within s.core.buffers b.0 (Some x) (live_at s.core.buffers b x live) in
    let many = known.good.many in
    let d = get_below script.buffers b.0 (omega (arith, inside, many)) in
    let pages = known.pages b.0 d.0 d.1 in
    let is : (decl script b).pages ≡ d.0.pages = ap (λ o. (unwrap_or o undeclared).pages) d.1 in
    let table = tables in
    omega (arith, pages, is, table)
  where
    tables : length x.table ≡ (decl script b).pages
    tables = subst (HasPages script b) live (known.good.tables b)

module _ (script : Script) (s s' : State) (known : Known script s) (cmd : Command) (b : BufId) (x : Buffer) (live : live_in s.core.buffers b ≡ Some x)
    (others : (d : BufId) → same_buffer b d ≡ false → buffer s' d ≡ buffer s d) where
  -- the named buffer's part falls, and no more may be skipped than before
  pub shares_fall : (c c' : Course) (n : ℕ) → ((e : ℕ × Decl) → not_skipped c' e ≤ not_skipped c e) → has_buffer (named cmd) b ≡ true → named_left script s' cmd b + n ≤ named_left script s cmd b
      → sum_by (search_share script s' c' cmd) (enumerate_from 0 script.buffers) + n ≤ sum_by (search_share script s c cmd) (enumerate_from 0 script.buffers)
  shares_fall c c' n skips member less =
      let inside = get_within s.core.buffers b.0 (Some x) (live_at s.core.buffers b x live) in
      let many = known.good.many in
      let d = get_below script.buffers b.0 (omega (arith, inside, many)) in
      enumerate_falls (search_share script s' c' cmd) (search_share script s c cmd) n script.buffers 0 b.0 d.0 d.1 most
      (let zero_more : b.0 ≡ 0 + b.0 = omega arith in
      subst (λ m. search_share script s' c' cmd (m, d.0) + n ≤ search_share script s c cmd (m, d.0)) zero_more
      (let now : if_named cmd (named_left script s' cmd) (b.0, d.0) ≡ named_left script s' cmd b = ap (λ q. if q then named_left script s' cmd b else 0) member in
      let was : if_named cmd (named_left script s cmd) (b.0, d.0) ≡ named_left script s cmd b = ap (λ q. if q then named_left script s cmd b else 0) member in
      let skip = skips (b.0, d.0) in
      omega (arith, now, was, less, skip)))
    where
      cost : (e : ℕ × Decl) → named_left script s' cmd (record { 0 = e.0 }) ≤ named_left script s cmd (record { 0 = e.0 })
      cost e =
          ⊎_elim
          (λ q. subst (λ z. named_left script s' cmd z ≤ named_left script s cmd z) (same_is b (record { 0 = e.0 }) q) (omega (arith, less)))
          (λ q. let same = ap (λ y. (5 + 6291456 * steps_left script cmd (record { 0 = e.0 }) y) * length y.table + 67108865 * slots_to_fill cmd y) (others (record { 0 = e.0 }) q) in omega (arith, same))
          (cases_Bool (same_buffer b (record { 0 = e.0 })))

      by : (e : ℕ × Decl) (q : Bool) → (if q then named_left script s' cmd (record { 0 = e.0 }) else 0) ≤ (if q then named_left script s cmd (record { 0 = e.0 }) else 0)
      by e true = cost e
      by e false = omega arith

      most : (e : ℕ × Decl) → search_share script s' c' cmd e ≤ search_share script s c cmd e
      most e = let skip = skips e in let own = by e (has_buffer (named cmd) (record { 0 = e.0 })) in omega (arith, skip, own)

  -- a buffer that isn't named: all named ones cost what they did
  pub shares_same : (c : Course) → has_buffer (named cmd) b ≡ false → sum_by (search_share script s' c cmd) (enumerate_from 0 script.buffers) ≤ sum_by (search_share script s c cmd) (enumerate_from 0 script.buffers)
  shares_same c not_named = sum_most (search_share script s' c cmd) (search_share script s c cmd) (enumerate_from 0 script.buffers) most
    where
      by : (e : ℕ × Decl) (q : Bool) → has_buffer (named cmd) (record { 0 = e.0 }) ≡ q → (if q then named_left script s' cmd (record { 0 = e.0 }) else 0) ≤ (if q then named_left script s cmd (record { 0 = e.0 }) else 0)
      by e false h = omega arith
      by e true h =
          ⊎_elim
          (λ q. absurd (let z : true ≡ false = sym h ∙ subst (λ y. has_buffer (named cmd) y ≡ false) (same_is b (record { 0 = e.0 }) q) not_named in cc))
          (λ q. let same = ap (λ y. (5 + 6291456 * steps_left script cmd (record { 0 = e.0 }) y) * length y.table + 67108865 * slots_to_fill cmd y) (others (record { 0 = e.0 }) q) in omega (arith, same))
          (cases_Bool (same_buffer b (record { 0 = e.0 })))

      most : (e : ℕ × Decl) → search_share script s' c cmd e ≤ search_share script s c cmd e
      most e = let own = by e (has_buffer (named cmd) (record { 0 = e.0 })) refl in omega (arith, own)
