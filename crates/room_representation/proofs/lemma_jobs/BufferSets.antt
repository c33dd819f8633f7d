-- Sets of jobs after entries of threads: of a job, of what a buffer leaves, and of buffers.
use Rattle.std.proofs.Common.{◌≡◌, ℕ, ◌+◌, ◌<◌, Bool, true, false, List, [], ◌∷◌, ◌++◌, Option, Some, None, refl, sym, ◌∙◌, ap, subst, length}
use Rattle.std.specs.Prelude.{flat_map, fold, is_some, option_to_list, replicate, slice_set, if◌then◌else◌}
use Rattle.std.specs.List.{list_all}
use Rattle.ttm_base.specs.declared.BufId.{BufId}
use Rattle.ttm_base.specs.declared.JobId.{JobId}
use Rattle.ttm_base.specs.declared.Mem.{Mem}
use Rattle.ttm_base.specs.declared.Mem.TheVariants.{Tt, Vram}
use Rattle.ttm_base.specs.declared.Op.{Op}
use Rattle.ttm_base.specs.declared.Span.{Span}
use Rattle.ttm_base.specs.declared.Usage.TheVariants.{Kernel, Read}
use Rattle.fence_core.specs.declared.fence_set.Latest.{Latest}
use Rattle.fence_core.specs.declared.timeline.Progress.{Progress}
use Rattle.fence_core.specs.Fences.{nothing_kept, added, all_added}
use Rattle.fence_core.specs.Timelines.{is_signalled}
use Rattle.journal_model.specs.declared.state.Buffer.{Buffer}
use Rattle.journal_model.specs.declared.state.Job.{Job}
use Rattle.journal_model.specs.declared.state.State.{State}
use Rattle.journal_model.specs.rules.ApplyCommands.{ghost_of_freed}
use Rattle.journal_model.specs.rules.ApplyJobs.{with_use}
use Rattle.journal_model.specs.rules.ApplyMoves.{moved, move_packets, frames_left, ghost_of_moved}
use Rattle.journal_model.specs.rules.ApplyPages.{with_spans, with_kernel_fences}
use Rattle.journal_model.specs.rules.Holds.{spans_in}
use Rattle.journal_model.specs.rules.Places.{frames_of}
use Rattle.journal_model.specs.rules.State.{buffer_in, changed, live_in}
use Rattle.journal_model.specs.rules.Waits.{unfinished, use_of, jobs_before_write, jobs_before_use}
use Rattle.laws.specs.law_state.GoodState.{last_number}
use Rattle.room_representation.specs.declared.parts.Ghost.{Ghost}
use Rattle.room_representation.specs.Fences.{WaitsFor, AreFences, set_at, with_use_in}
use Rattle.room_representation.specs.Ghosts.{IsGhost}
use Rattle.room_representation.specs.Lines.{IsTimeline, AreInLine}
use Rattle.room_representation.specs.MoveFences.{IsMoveFence}
use Rattle.room_representation.proofs.lemma_jobs.Lists.{is_there, length_set}
use Rattle.room_representation.proofs.lemma_jobs.Later.{fences_later}
use Rattle.room_representation.proofs.lemma_jobs.Needs.{move_waits}
use Rattle.room_representation.proofs.lemma_jobs.Sets.{armed_set, waits_none, waits_moved, waits_armed, fences_kept, fences_used, fences_armed}
use Rattle.room_representation.proofs.lemma_jobs.GhostSteps.{waits_for_job}
use Rattle.room_representation.proofs.lemma_jobs.Armed.{armed_job}
use Rattle.room_representation.proofs.lemma_jobs.Emitted.{later_more, emitted_now}

-- a set of no jobs, for all contexts
abbrev pub empty_set : State → List Latest
empty_set s = replicate (length s.last_jobs) nothing_kept

-- a move's job, of context 0
abbrev pub move_id : ℕ → JobId
move_id n = record { ctx = 0; num = n }

-- the job, with all that the buffer waits for and a copy of each page
abbrev pub move_job : State → BufId → Mem → ℕ → Job
move_job s b mem n = record { id = move_id n; waits = unfinished s.core (jobs_before_write (buffer_in s.core b)); packets = move_packets (buffer_in s.core b) mem; ran = 0; finished = false }

-- the sets after the move fence, if it isn't signalled, joined a buffer's
abbrev pub taken_sets : List (List Latest) → BufId → List Progress → Option JobId → List (List Latest)
taken_sets sets b timeline None = sets
taken_sets sets b timeline (Some i) = if is_signalled timeline i then sets else with_use_in i Kernel sets b

module _ (s : State) (sets : List (List Latest)) (f : AreFences s.last_jobs s.core.buffers sets) where
  -- ---- a job with operations

  -- an empty set, with what is waited for at each of its buffers
  pub armed_waits : (ops : List Op) (bs : List BufId) → list_all (λ b. is_some (live_in s.core.buffers b)) bs ≡ true → WaitsFor s.core.jobs s.last_jobs (flat_map (jobs_before_use s.core ops) bs) (armed_set ops sets (empty_set s) bs)
  armed_waits ops bs live = waits_armed s.core s.last_jobs sets f ops bs live [] (empty_set s) (waits_none s.core.jobs s.last_jobs)

  -- the sets of its buffers have it after it
  pub armed_fences : (job : JobId) (ops : List Op) (bs : List BufId) → list_all (λ b. is_some (live_in s.core.buffers b)) bs ≡ true → job.ctx < length s.last_jobs → job.num ≡ last_number s.last_jobs job.ctx + 1 →
      AreFences (slice_set s.last_jobs job.ctx job.num) (fold (with_use job ops) s.core.buffers bs) (fold (λ l b. with_use_in job (use_of ops b) l b) sets bs)
  armed_fences job ops bs live known num =
      let k = armed_job s job ops bs in
      fences_armed (slice_set s.last_jobs job.ctx job.num) job ops (emitted_now s.core.jobs s.last_jobs k known num refl) bs s.core.buffers live sets
      (fences_later s.core.jobs s.last_jobs (s.core.jobs ++ k ∷ []) (slice_set s.last_jobs job.ctx job.num) (later_more s.core.jobs s.last_jobs k known num refl) s.core.buffers sets f)

  module _ (b : BufId) (x : Buffer) (live : live_in s.core.buffers b ≡ Some x) where
    -- ---- a move, and what a buffer leaves

    -- an empty set, with all jobs of the buffer
    pub before_write : WaitsFor s.core.jobs s.last_jobs (unfinished s.core (jobs_before_write (buffer_in s.core b))) (all_added Read (empty_set s) (set_at sets b))
    before_write = waits_moved s.core s.last_jobs sets f [] (empty_set s) (waits_none s.core.jobs s.last_jobs) b (Some x) (is_there s.core.buffers b.0 x live)

    -- the ghost of a buffer that is freed has it
    pub freed_ghost : (g : ℕ) (r : Ghost) → r.num ≡ g → r.vram ≡ spans_in Vram (buffer_in s.core b) → r.tt ≡ spans_in Tt (buffer_in s.core b) → r.frames ≡ frames_of (buffer_in s.core b) →
        r.jobs ≡ all_added Read (empty_set s) (set_at sets b) → IsGhost s.core.jobs s.last_jobs (ghost_of_freed s.core (buffer_in s.core b) g) r
    freed_ghost g r num vram tt frames jobs =
        record {
          num = num;
          vram = vram;
          tt = tt;
          frames = frames;
          waits = subst (λ set. WaitsFor s.core.jobs s.last_jobs (unfinished s.core (jobs_before_write (buffer_in s.core b))) set) (sym jobs) before_write;
        }

    module _ (mem : Mem) (n : ℕ) (known : 0 < length s.last_jobs) (num : n ≡ last_number s.last_jobs 0 + 1) where
      abbrev jobs_then : List Job
      jobs_then = s.core.jobs ++ move_job s b mem n ∷ []

      abbrev last_then : List ℕ
      last_then = slice_set s.last_jobs 0 n

      -- the set of the moved buffer has it
      pub moved_fences : AreFences last_then (changed (moved mem (move_id n)) s.core.buffers b) (with_use_in (move_id n) Kernel sets b)
      moved_fences =
          fences_used last_then (moved mem (move_id n)) (move_id n) Kernel (λ y. refl) (emitted_now s.core.jobs s.last_jobs (move_job s b mem n) known num refl) s.core.buffers b x live sets
          (fences_later s.core.jobs s.last_jobs jobs_then last_then (later_more s.core.jobs s.last_jobs (move_job s b mem n) known num refl) s.core.buffers sets f)

      -- what it leaves waits for it alone
      pub moved_ghost : (g : ℕ) (r : Ghost) → r.num ≡ g → r.vram ≡ spans_in Vram (buffer_in s.core b) → r.tt ≡ spans_in Tt (buffer_in s.core b) → r.frames ≡ frames_left (buffer_in s.core b).mem (buffer_in s.core b) →
          r.jobs ≡ added (empty_set s) (move_id n) Kernel → IsGhost jobs_then last_then (ghost_of_moved (buffer_in s.core b) (move_id n) g) r
      moved_ghost g r num_is vram tt frames jobs =
          let same : added (replicate (length last_then) nothing_kept) (move_id n) Kernel ≡ r.jobs =
          ap (λ m. added (replicate m nothing_kept) (move_id n) Kernel) (length_set s.last_jobs 0 n) ∙ sym jobs in
          record {
            num = num_is;
            vram = vram;
            tt = tt;
            frames = frames;
            waits = subst (λ set. WaitsFor jobs_then last_then (move_id n ∷ []) set) same (waits_for_job jobs_then last_then (move_id n) Kernel (emitted_now s.core.jobs s.last_jobs (move_job s b mem n) known num refl));
          }

    -- ---- a target in VRAM

    -- it has the move fence
    pub taken_fences : (timeline : List Progress) → AreInLine s.last_jobs s.core.jobs → IsTimeline s.core.jobs s.last_jobs timeline → (kept : Option JobId) → IsMoveFence s.last_jobs s.core.move_fence kept → (spans : Option (List Span)) →
        AreFences s.last_jobs (changed (λ y. with_kernel_fences (unfinished s.core (option_to_list s.core.move_fence)) (with_spans Vram spans y)) s.core.buffers b) (taken_sets sets b timeline kept)
    taken_fences timeline rows h kept m spans =
        subst (λ o. AreFences s.last_jobs (changed (λ y. with_kernel_fences (unfinished s.core (option_to_list s.core.move_fence)) (with_spans Vram spans y)) s.core.buffers b) (taken_sets sets b timeline o)) (sym m.kept_is)
        (by s.core.move_fence refl)
      where
        with_jobs : (js : List JobId) (now : List (List Latest)) → AreFences s.last_jobs (changed (λ y. with_kernel_fences js (with_spans Vram spans y)) s.core.buffers b) now → unfinished s.core (option_to_list s.core.move_fence) ≡ js →
            AreFences s.last_jobs (changed (λ y. with_kernel_fences (unfinished s.core (option_to_list s.core.move_fence)) (with_spans Vram spans y)) s.core.buffers b) now
        with_jobs js now a e = subst (λ l. AreFences s.last_jobs (changed (λ y. with_kernel_fences l (with_spans Vram spans y)) s.core.buffers b) now) (sym e) a

        none : AreFences s.last_jobs (changed (λ y. with_kernel_fences [] (with_spans Vram spans y)) s.core.buffers b) sets
        none = fences_kept s.last_jobs (λ y. with_kernel_fences [] (with_spans Vram spans y)) (λ y. refl) s.core.buffers b sets f

        by_line : (i : JobId) → s.core.move_fence ≡ Some i → (q : Bool) → is_signalled timeline i ≡ q →
            AreFences s.last_jobs (changed (λ y. with_kernel_fences (unfinished s.core (option_to_list s.core.move_fence)) (with_spans Vram spans y)) s.core.buffers b) (if q then sets else with_use_in i Kernel sets b)
        by_line i e true g =
            with_jobs [] sets none
            (ap (λ o. unfinished s.core (option_to_list o)) e ∙ move_waits s.core.jobs s.last_jobs timeline rows h i (m.known i e) ∙ ap (λ q. if q then [] else i ∷ []) g)
        by_line i e false g =
            with_jobs (i ∷ []) (with_use_in i Kernel sets b)
            (fences_used s.last_jobs (λ y. with_kernel_fences (i ∷ []) (with_spans Vram spans y)) i Kernel (λ y. refl) (m.known i e) s.core.buffers b x live sets f)
            (ap (λ o. unfinished s.core (option_to_list o)) e ∙ move_waits s.core.jobs s.last_jobs timeline rows h i (m.known i e) ∙ ap (λ q. if q then [] else i ∷ []) g)

        by : (o : Option JobId) → s.core.move_fence ≡ o →
            AreFences s.last_jobs (changed (λ y. with_kernel_fences (unfinished s.core (option_to_list s.core.move_fence)) (with_spans Vram spans y)) s.core.buffers b) (taken_sets sets b timeline s.core.move_fence)
        by None e =
            subst (λ o. AreFences s.last_jobs (changed (λ y. with_kernel_fences (unfinished s.core (option_to_list s.core.move_fence)) (with_spans Vram spans y)) s.core.buffers b) (taken_sets sets b timeline o)) (sym e)
            (with_jobs [] sets none (ap (λ o. unfinished s.core (option_to_list o)) e))
        by (Some i) e =
            subst (λ o. AreFences s.last_jobs (changed (λ y. with_kernel_fences (unfinished s.core (option_to_list s.core.move_fence)) (with_spans Vram spans y)) s.core.buffers b) (taken_sets sets b timeline o)) (sym e)
            (by_line i e (is_signalled timeline i) refl)
