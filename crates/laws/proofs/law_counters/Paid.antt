-- Each ghost and each move has an entry of its own beside the one that draws its number: what made the buffer, or took its target.
use Rattle.std.proofs.Common.{◌≡◌, ℕ, ◌+◌, ◌*◌, ◌≤◌, zero, suc, Bool, true, false, List, [], ◌∷◌, Option, Some, None, refl, sym, subst, ap, arith, ⊎_elim}
use Rattle.std.specs.Prelude.{slice_get, slice_set, map, fold, replicate, option_map, option_and_then, unwrap_or, is_some, ◌==◌, if◌then◌else◌}
use Rattle.std.proofs.lemmas.Bool.Decides.{nat_tests}
use Rattle.ttm_base.specs.declared.Mem.{Mem}
use Rattle.ttm_base.specs.declared.Mem.TheVariants.{System, Tt, Vram}
use Rattle.ttm_base.specs.declared.BufId.{BufId}
use Rattle.ttm_base.specs.declared.JobId.{JobId}
use Rattle.ttm_base.specs.declared.Span.{Span}
use Rattle.ttm_base.specs.declared.Op.{Op}
use Rattle.ttm_base.specs.declared.Usage.TheVariants as usage
use Rattle.ttm_base.specs.declared.Actor.{Actor}
use Rattle.ttm_base.specs.declared.Actor.TheVariants as actor
use Rattle.journal_model.specs.declared.script.Script.{Script}
use Rattle.journal_model.specs.declared.script.Command.TheVariants as command
use Rattle.journal_model.specs.declared.state.State.{State}
use Rattle.journal_model.specs.declared.state.Core.{Core}
use Rattle.journal_model.specs.declared.state.Buffer.{Buffer}
use Rattle.journal_model.specs.declared.entry.Kind.{Kind}
use Rattle.journal_model.specs.declared.entry.Kind.TheVariants as kind
use Rattle.journal_model.specs.rules.State.{buffer, live_in, changed, new_buffer, has_target}
use Rattle.journal_model.specs.rules.Commands.{decl, command_at_work}
use Rattle.journal_model.specs.scripts.CommandRules.{is_command}
use Rattle.journal_model.specs.rules.Waits.{jobs_before_target, use_of}
use Rattle.journal_model.specs.rules.PageSteps.{next_job}
use Rattle.journal_model.specs.rules.Apply.{applied}
use Rattle.journal_model.specs.rules.ApplyCommands.{named_in}
use Rattle.journal_model.specs.rules.ApplyPages.{with_fence, with_kernel_fences, with_spans, bound, unbound}
use Rattle.journal_model.specs.rules.ApplyMoves.{moved}
use Rattle.journal_model.specs.rules.ApplyVictims.{leaves_tt}
use Rattle.journal_model.specs.rules.ApplyJobs.{with_use, ops_of}
use Rattle.journal_model.specs.rules.Legal.{first_state}
use Rattle.laws.specs.law_state.GoodState.{last_number}
use Rattle.laws.proofs.law_state.Lists.{set_at}
use Rattle.laws.proofs.law_state.Rules.{Rules, at_work_rules}
use Rattle.laws.proofs.law_owners.Counts.{one, summed, weigh, summed-set}
use Rattle.laws.proofs.law_owners.Weights.{changed_weight}
use Rattle.laws.proofs.law_sound.Along.{OfWorker, packet, done, reap}
use Rattle.laws.specs.lemma_bytes_told.Told.{is_still, Told, still, makes, frees, leaves, takes, untakes, populates, swaps_in, depopulates, binds, unbinds, moves_up, moves_across, moves_down, evicts, catches, swaps_out, arms, reads, writes, results}
use Rattle.laws.proofs.lemma_bytes_told.Shapes.{still_core, still_ghosts}
use Rattle.laws.proofs.lemma_bytes_told.Numbers.{not_zero}

-- ---- what live buffers are worth: that they were made, and their targets

abbrev pub worth : Buffer → ℕ
worth x = 1 + one (has_target System x) + one (has_target Tt x) + one (has_target Vram x)

abbrev pub worths : List (Option Buffer) → ℕ
worths buffers = summed (weigh worth) buffers

-- the number of entries pays for ghosts and moves twice, and for what is there
pub record Paid (n : ℕ) (s : State) : Type 0 where
  pub ghosts : 2 * s.last_ghost + worths s.core.buffers ≤ n
  pub moves : 2 * last_number s.last_jobs 0 + worths s.core.buffers ≤ n

one_most : (q : Bool) → one q ≤ 1
one_most true = omega arith
one_most false = omega arith

-- another target, or none
retargeted : (m : Mem) (o : Option (List Span)) (x : Buffer) → worth (with_spans m o x) ≤ worth x + one (is_some o)
retargeted System o x = omega arith
retargeted Tt o x = omega arith
retargeted Vram o x = omega arith

fenced : (jobs : List JobId) (x : Buffer) → worth (with_kernel_fences jobs x) ≡ worth x
fenced [] x = refl
fenced (j ∷ jobs) x = fenced jobs (with_fence j usage.Kernel x)

caught : (l : Mem) (x : Buffer) → worth (leaves_tt l x) ≤ worth x + 1
caught Tt x = retargeted System (Some []) x
caught Vram x = omega arith
caught System x = omega arith

carried_up : (job : JobId) (x : Buffer) → has_target Vram x ≡ true → worth (moved Vram job x) + 1 ≤ worth x
carried_up job x e = let was : one (has_target Vram x) ≡ 1 = ap one e in omega (arith, was)

carried_down : (job : JobId) (x : Buffer) → has_target Tt x ≡ true → worth (moved Tt job x) + 1 ≤ worth x
carried_down job x e = let was : one (has_target Tt x) ≡ 1 = ap one e in omega (arith, was)

-- ---- of all buffers

no_more : (f : Buffer → Buffer) (buffers : List (Option Buffer)) (b : BufId) → ((x : Buffer) → worth (f x) ≤ worth x) → worths (changed f buffers b) ≤ worths buffers
no_more f buffers b h = let w = changed_weight f worth buffers b 0 (λ x e. let l = h x in omega (arith, l)) in omega (arith, w)

one_more : (f : Buffer → Buffer) (buffers : List (Option Buffer)) (b : BufId) → ((x : Buffer) → worth (f x) ≤ worth x + 1) → worths (changed f buffers b) ≤ worths buffers + 1
one_more f buffers b h = changed_weight f worth buffers b 1 (λ x e. h x)

one_less : (f : Buffer → Buffer) (buffers : List (Option Buffer)) (b : BufId) (x : Buffer) → live_in buffers b ≡ Some x → worth (f x) + 1 ≤ worth x → worths (changed f buffers b) + 1 ≤ worths buffers
one_less f buffers b x e h =
    let set = summed-set worth buffers b.0 (option_map f (live_in buffers b)) in
    let old : weigh worth (option_and_then (λ x. x) (slice_get buffers b.0)) ≡ worth x = ap (weigh worth) e in
    let new : weigh worth (option_map f (live_in buffers b)) ≡ worth (f x) = ap (λ o. weigh worth (option_map f o)) e in
    omega (arith, set, old, new, h)

freed : (buffers : List (Option Buffer)) (b : BufId) (x : Buffer) → live_in buffers b ≡ Some x → worths (slice_set buffers b.0 None) + 1 ≤ worths buffers
freed buffers b x e =
    let set = summed-set worth buffers b.0 None in
    let old : weigh worth (option_and_then (λ x. x) (slice_get buffers b.0)) ≡ worth x = ap (weigh worth) e in
    omega (arith, set, old)

made : (buffers : List (Option Buffer)) (b : BufId) (n : ℕ) → worths (slice_set buffers b.0 (Some (new_buffer n))) ≤ worths buffers + 1
made buffers b n = let set = summed-set worth buffers b.0 (Some (new_buffer n)) in omega (arith, set)

used : (job : JobId) (ops : List Op) (bs : List BufId) (buffers : List (Option Buffer)) → worths (fold (with_use job ops) buffers bs) ≤ worths buffers
used job ops [] buffers = omega arith
used job ops (b ∷ bs) buffers = let rest = used job ops bs (with_use job ops buffers b) in let here = no_more (with_fence job (use_of ops b)) buffers b (λ x. omega arith) in omega (arith, rest, here)

-- ---- numbers of moves

moved_last : (last : List ℕ) → last_number (slice_set last 0 (last_number last 0 + 1)) 0 ≤ last_number last 0 + 1
moved_last last =
    ⊎_elim
    (λ e. let same : last_number (slice_set last 0 (last_number last 0 + 1)) 0 ≡ last_number last 0 = ap (λ o. unwrap_or o 0) e in omega (arith, same))
    (λ e. let new : last_number (slice_set last 0 (last_number last 0 + 1)) 0 ≡ last_number last 0 + 1 = ap (λ o. unwrap_or o 0) e.1 in omega (arith, new))
    (set_at last 0 0 (last_number last 0 + 1))

armed_last : (last : List ℕ) (engine n : ℕ) → 1 ≤ engine → last_number (slice_set last engine n) 0 ≡ last_number last 0
armed_last last engine n h = ⊎_elim (λ e. ap (λ o. unwrap_or o 0) e) (λ e. let z : engine ≡ 0 = e.0 in absurd (omega (arith, h, z))) (set_at last engine 0 n)

some_engine : (script : Script) (engine : ℕ) (ops : List Op) → is_command script (command.Submit engine ops) ≡ true → 1 ≤ engine
some_engine script engine ops h = grind (arith, nat_tests)

still_jobs : (script : Script) (s : State) (t : ℕ) (k : Kind) → is_still k ≡ true → (applied script s (actor.Thread t) k).last_jobs ≡ s.last_jobs
still_jobs script s t (kind.Ticket stamp) e = cc
still_jobs script s t k e = cc

-- ---- each entry

-- numbers stay, and what is there is worth one more at most
stays : (n g m w w' : ℕ) → w' ≤ w + 1 → 2 * g + w ≤ n → 2 * m + w ≤ n → (2 * g + w' ≤ n + 1) × (2 * m + w' ≤ n + 1)
stays n g m w w' h a b = (omega (arith, h, a), omega (arith, h, b))

left_number : (n last w w' : ℕ) (q : Bool) → q ≡ false → w' + 1 ≤ w → 2 * last + w ≤ n → 2 * (if q then last else last + 1) + w' ≤ n + 1
left_number n last w w' false e l h = omega (arith, l, h)
left_number n last w w' true e l h = cc

module _ (script : Script) (r : Rules script) (n : ℕ) (s : State) (t : ℕ) (p : Paid n s) where
  same : (new : Core) → worths new.buffers ≤ worths s.core.buffers + 1 → (2 * s.last_ghost + worths new.buffers ≤ n + 1) × (2 * last_number s.last_jobs 0 + worths new.buffers ≤ n + 1)
  same new h = stays n s.last_ghost (last_number s.last_jobs 0) (worths s.core.buffers) (worths new.buffers) h p.ghosts p.moves

  -- a target goes, and a ghost and a job come
  goes : (f : Buffer → Buffer) (b : BufId) → live_in s.core.buffers b ≡ Some (buffer s b) → worth (f (buffer s b)) + 1 ≤ worth (buffer s b) →
      (2 * (s.last_ghost + 1) + worths (changed f s.core.buffers b) ≤ n + 1) × (2 * last_number (slice_set s.last_jobs 0 (next_job s 0)) 0 + worths (changed f s.core.buffers b) ≤ n + 1)
  goes f b there h =
      let less = one_less f s.core.buffers b (buffer s b) there h in
      let ghosts = p.ghosts in
      let moves = p.moves in
      let next = moved_last s.last_jobs in
      (omega (arith, less, ghosts), omega (arith, less, moves, next))

  pub paid_keeps : (k : Kind) → Told script s t k → Paid (n + 1) (applied script s (actor.Thread t) k)
  paid_keeps k (still q) =
      let k' = still_core script s t k q in
      let g = still_ghosts script s t k q in
      let j = still_jobs script s t k q in
      let ghosts : 2 * s.last_ghost + worths s.core.buffers ≤ n + 1 = let h = p.ghosts in omega (arith, h) in
      let moves : 2 * last_number s.last_jobs 0 + worths s.core.buffers ≤ n + 1 = let h = p.moves in omega (arith, h) in
      record {
        ghosts = subst (λ (c : Core). 2 * (applied script s (actor.Thread t) k).last_ghost + worths c.buffers ≤ n + 1) (sym k') (subst (λ m. 2 * m + worths s.core.buffers ≤ n + 1) (sym g) ghosts);
        moves = subst (λ (c : Core). 2 * last_number (applied script s (actor.Thread t) k).last_jobs 0 + worths c.buffers ≤ n + 1) (sym k') (subst (λ m. 2 * last_number m 0 + worths s.core.buffers ≤ n + 1) (sym j) moves);
      }
  paid_keeps k (makes {b} dead) = let w = same (applied script s (actor.Thread t) (kind.New b)).core (made s.core.buffers b (decl script b).pages) in record { ghosts = w.0; moves = w.1 }
  paid_keeps k (frees {b} there quiet) = let w = same (applied script s (actor.Thread t) (kind.Free b 0)).core (let l = freed s.core.buffers b (buffer s b) there in omega (arith, l)) in record { ghosts = w.0; moves = w.1 }
  paid_keeps k (leaves {b} there) =
      let l = freed s.core.buffers b (buffer s b) there in
      let m = p.moves in
      record {
        ghosts = left_number n s.last_ghost (worths s.core.buffers) (worths (slice_set s.core.buffers b.0 None)) ((s.last_ghost + 1) == 0) (not_zero s.last_ghost) l p.ghosts;
        moves = omega (arith, l, m);
      }
  paid_keeps k (takes {b} {mem} {spans} place there m c free) =
      let w = same (applied script s (actor.Thread t) (kind.Take b mem spans)).core
      (one_more _ s.core.buffers b (λ x. let f = fenced (jobs_before_target s.core mem) (with_spans mem (Some spans) x) in let l = retargeted mem (Some spans) x in omega (arith, f, l))) in
      record { ghosts = w.0; moves = w.1 }
  paid_keeps k (untakes {b} {mem} there) =
      let w = same (applied script s (actor.Thread t) (kind.Untake b mem)).core (one_more _ s.core.buffers b (λ x. let l = retargeted mem None x in omega (arith, l))) in record { ghosts = w.0; moves = w.1 }
  paid_keeps k (populates {b} {f} there free l some tt_not) = let w = same (applied script s (actor.Thread t) (kind.Populate b _ f)).core (one_more _ s.core.buffers b (λ x. omega arith)) in record { ghosts = w.0; moves = w.1 }
  paid_keeps k (swaps_in {b} {k = slot} {f} there free l some tt_not) = let w = same (applied script s (actor.Thread t) (kind.SwapIn b _ slot f)).core (one_more _ s.core.buffers b (λ x. omega arith)) in record { ghosts = w.0; moves = w.1 }
  paid_keeps k (depopulates {b} there m) = let w = same (applied script s (actor.Thread t) (kind.Depopulate b)).core (one_more _ s.core.buffers b (λ x. omega arith)) in record { ghosts = w.0; moves = w.1 }
  paid_keeps k (binds {b} there m t' f) =
      let w = same (applied script s (actor.Thread t) (kind.Bind b)).core (one_more bound s.core.buffers b (λ x. let l = retargeted Tt None x in omega (arith, l))) in record { ghosts = w.0; moves = w.1 }
  paid_keeps k (unbinds {b} there quiet m) =
      let w = same (applied script s (actor.Thread t) (kind.Unbind b)).core (one_more unbound s.core.buffers b (λ x. let l = retargeted System None x in omega (arith, l))) in record { ghosts = w.0; moves = w.1 }
  paid_keeps k (moves_up {b} there m t') = let w = goes _ b there (carried_up (record { ctx = 0; num = next_job s 0 }) (buffer s b) t') in record { ghosts = w.0; moves = w.1 }
  paid_keeps k (moves_across {b} there m t') = let w = goes _ b there (carried_up (record { ctx = 0; num = next_job s 0 }) (buffer s b) t') in record { ghosts = w.0; moves = w.1 }
  paid_keeps k (moves_down {b} there m t' f) = let w = goes _ b there (carried_down (record { ctx = 0; num = next_job s 0 }) (buffer s b) t') in record { ghosts = w.0; moves = w.1 }
  paid_keeps k (evicts {b} there m t' f) =
      let w = goes _ b there (carried_down (record { ctx = 0; num = next_job s 0 }) (buffer s b) t') in let l = w.0 in record { ghosts = omega (arith, l); moves = w.1 }
  paid_keeps k (catches {b} {w}) = let w' = same (applied script s (actor.Thread t) (kind.Catch b w)).core (one_more _ s.core.buffers b (λ x. caught x.mem x)) in record { ghosts = w'.0; moves = w'.1 }
  paid_keeps k (swaps_out {b} {k = slot} there m quiet f free) = let w = same (applied script s (actor.Thread t) (kind.SwapOut b _ slot)).core (one_more _ s.core.buffers b (λ x. omega arith)) in record { ghosts = w.0; moves = w.1 }
  paid_keeps k (arms {engine} ops at live ready) =
      let u = used (record { ctx = engine; num = next_job s engine }) (ops_of (command_at_work script s t)) (named_in (command_at_work script s t)) s.core.buffers in
      let e = armed_last s.last_jobs engine (next_job s engine) (some_engine script engine ops (at_work_rules script r s t (command.Submit engine ops) at).command) in
      let ghosts = p.ghosts in
      let moves = p.moves in
      record { ghosts = omega (arith, u, ghosts); moves = omega (arith, u, e, moves) }
  paid_keeps k (reads b off len at none) = let g = p.ghosts in let m = p.moves in record { ghosts = omega (arith, g); moves = omega (arith, m) }
  paid_keeps k (writes b off bytes at there ready quiet) = let g = p.ghosts in let m = p.moves in record { ghosts = omega (arith, g); moves = omega (arith, m) }
  paid_keeps k (results cmd at w q h) = let g = p.ghosts in let m = p.moves in record { ghosts = omega (arith, g); moves = omega (arith, m) }

pub paid_stays : (script : Script) (n : ℕ) (s : State) (who : Actor) (k : Kind) → OfWorker k → Paid n s → Paid (n + 1) (applied script s who k)
paid_stays script n s who k packet p = let g = p.ghosts in let m = p.moves in record { ghosts = omega (arith, g); moves = omega (arith, m) }
paid_stays script n s who k done p = let g = p.ghosts in let m = p.moves in record { ghosts = omega (arith, g); moves = omega (arith, m) }
paid_stays script n s who k reap p = let g = p.ghosts in let m = p.moves in record { ghosts = omega (arith, g); moves = omega (arith, m) }

none_worth : {X : Type 0} (xs : List X) → worths (map (λ x. None) xs) ≡ 0
none_worth [] = refl
none_worth (x ∷ xs) = let rest = none_worth xs in omega (arith, rest)

first_number : (n : ℕ) → last_number (replicate n 0) 0 ≡ 0
first_number zero = refl
first_number (suc n) = refl

pub paid_first : (script : Script) → Paid 0 (first_state script)
paid_first script =
    let none = none_worth script.buffers in
    let zeros = first_number (script.sizes.engines + 1) in
    record { ghosts = omega (arith, none); moves = omega (arith, none, zeros) }
