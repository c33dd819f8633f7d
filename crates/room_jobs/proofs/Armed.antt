-- All parts after a job of a thread's operations.
use Rattle.std.proofs.Common.{◌≡◌, ℕ, zero, suc, ◌+◌, ◌^◌, ◌<◌, ◌≤◌, Bool, true, false, List, [], ◌∷◌, ◌++◌, Option, Some, None, IsSome, Ok, length, replicate, refl, sym, ◌∙◌, ap, ap₂, subst, arith, All}
use Rattle.std.specs.Prelude.{◌||◌, flat_map, fold, is_some, option_map, slice_get, slice_index_or, slice_set}
use Rattle.std.specs.List.{list_all}
use Rattle.std.proofs.lemmas.Bool.Decides.{nat_tests}
use Rattle.ttm_base.specs.declared.Actor.TheVariants as actor
use Rattle.ttm_base.specs.declared.BufId.{BufId}
use Rattle.ttm_base.specs.declared.JobId.{JobId}
use Rattle.ttm_base.specs.declared.Op.{Op}
use Rattle.ttm_base.specs.declared.Packet.{Packet}
use Rattle.ttm_base.specs.Cutting.{packets_of}
use Rattle.fence_core.specs.declared.fence_set.Latest.{Latest}
use Rattle.fence_core.specs.declared.timeline.Progress.{Progress}
use Rattle.fence_core.specs.Fences.{nothing_kept}
use Rattle.fence_core.specs.Histories.{set_of}
use Rattle.fence_core.specs.Timelines.{progress_of, with_emitted}
use Rattle.copy_engine.specs.Pushes.{Pushed, with_pushed}
use Rattle.bo_table.specs.Seen.{Bos}
use Rattle.bo_table.proofs.TableLaws.{get_map}
use Rattle.journal_model.specs.declared.script.Script.{Script}
use Rattle.journal_model.specs.declared.script.Command.{Command}
use Rattle.journal_model.specs.declared.script.Command.TheVariants as command
use Rattle.journal_model.specs.declared.state.Buffer.{Buffer}
use Rattle.journal_model.specs.declared.state.Course.{Course}
use Rattle.journal_model.specs.declared.state.Job.{Job}
use Rattle.journal_model.specs.declared.state.State.{State}
use Rattle.journal_model.specs.declared.entry.Entry.{Entry}
use Rattle.journal_model.specs.declared.entry.Kind.TheVariants as kind
use Rattle.journal_model.specs.rules.State.{buffer, buffer_in, course, has_buffer, live_in, same_buffer, with_course}
use Rattle.journal_model.specs.rules.ApplyCommands.{has_made, named_in}
use Rattle.journal_model.specs.rules.ApplyJobs.{after_submit, ops_of, with_use}
use Rattle.journal_model.specs.rules.Commands.{command_at_work, named}
use Rattle.journal_model.specs.scripts.CommandRules.{is_command}
use Rattle.journal_model.specs.rules.Places.{packet_place}
use Rattle.journal_model.specs.rules.Waits.{jobs_before_use, use_of}
use Rattle.journal_model.specs.rules.Next.{next}
use Rattle.journal_model.specs.rules.Legal.{IsLegalNext, state_of, stores_of, world_of}
use Rattle.laws.specs.law_state.GoodState.{last_number}
use Rattle.laws.proofs.law_state.GoodStates.{good_law}
use Rattle.laws.proofs.law_state.JobsKeep.{few_packets}
use Rattle.laws.proofs.law_state.Rules.{OfThread, rules_of, at_work_rules}
use Rattle.laws.proofs.law_sound.Along.{sound_law}
use Rattle.laws.proofs.law_counters.Law.{counters_law}
use Rattle.laws.proofs.law_transparent.Carried.{told_law}
use Rattle.laws.specs.lemma_bytes_told.Told as told
use Rattle.laws.specs.lemma_bytes_told.Told.{IsThere, Told}
use Rattle.room_representation.specs.declared.parts.Parts.{Parts}
use Rattle.room_representation.specs.Fences.{AreFences, WaitsFor, fences_of, is_emitted, with_use_in}
use Rattle.room_representation.specs.Held.{AreHeld}
use Rattle.room_representation.specs.Represents.{Represents}
use Rattle.room_representation.proofs.lemma_jobs.Later.{IsLater, fences_later}
use Rattle.room_representation.proofs.lemma_jobs.Lists.{both}
use Rattle.room_representation.proofs.lemma_jobs.Sets.{fences_armed, set_length, waits_armed, waits_length, waits_none}
use Rattle.room_representation.proofs.lemma_jobs.Armed.{armed_job, armed_represented}
use Rattle.room_representation.proofs.lemma_jobs.Emitted.{emitted_now, later_more}
use Rattle.room_representation.proofs.lemma_jobs.LegalJobs.{arm_number}
use Rattle.room_representation.specs.steps.Courses.{course_at, course_in, with_course_by}
use Rattle.room_representation.proofs.steps.Lent.{lent_below}
use Rattle.room_representation.proofs.steps.Steps.{held_still, step_as, thread_there}
use Rattle.room_jobs.specs.Standing.{standing_names}
use Rattle.room_jobs.specs.Uses.{AreWide, HaveContext, with_uses, with_waits}
use Rattle.room_jobs.specs.Work.{work_of}
use Rattle.room_jobs.proofs.Names.{names_same}
use Rattle.room_jobs.proofs.Sets.{uses_are}

-- ---- what the entry tells

-- the command at work is a job's, and its buffers are live
pub record IsSubmit (script : Script) (s : State) (t engine : ℕ) : Type 0 where
  pub ops : List Op
  pub at : command_at_work script s t ≡ Some (command.Submit engine ops)
  pub live : (b : BufId) → has_buffer (named (command.Submit engine ops)) b ≡ true → IsThere s b

-- which a legal entry tells
submit_of : (script : Script) (s : State) (t engine n : ℕ) → Told script s t (kind.Arm engine n) → IsSubmit script s t engine
submit_of script s t engine n (told.still h) = cc
submit_of script s t engine _ (told.arms ops at live ready) = record { ops = ops; at = at; live = live }

-- ---- the buffers that it names

-- one of two that holds
or_more : (a b : Bool) → b ≡ true → (a || b) ≡ true
or_more true b h = refl
or_more false b h = h

-- the first of a list is in it
has_first : (b : BufId) (bs : List BufId) → has_buffer (b ∷ bs) b ≡ true
has_first b bs = by (has_buffer bs b)
  where
    by : (q : Bool) → (same_buffer b b || q) ≡ true
    by q = grind (arith, nat_tests)

-- so is what is in the rest
has_later : (b d : BufId) (bs : List BufId) → has_buffer bs d ≡ true → has_buffer (b ∷ bs) d ≡ true
has_later b d bs h = or_more (same_buffer d b) (has_buffer bs d) h

-- each of a list is in it
has_each : (bs : List BufId) (k : ℕ) (d : BufId) → k < length bs → has_buffer bs (slice_index_or bs k d) ≡ true
has_each [] k d l = absurd (omega (arith, l))
has_each (b ∷ bs) zero d l = has_first b bs
has_each (b ∷ bs) (suc k) d l = has_later b (slice_index_or bs k d) bs (has_each bs k d (omega (arith, l)))

-- what is known to be there is there
some_is : {X : Type 0} (o : Option X) (x : X) → o ≡ Some x → is_some o ≡ true
some_is o x e = ap is_some e

-- where each that is in it is live, all are
all_live : (buffers : List (Option Buffer)) (bs : List BufId) → ((b : BufId) → has_buffer bs b ≡ true → is_some (live_in buffers b) ≡ true) → list_all (λ b. is_some (live_in buffers b)) bs ≡ true
all_live buffers [] h = refl
all_live buffers (b ∷ bs) h =
    both (is_some (live_in buffers b)) (list_all (λ d. is_some (live_in buffers d)) bs) (h b (has_first b bs)) (all_live buffers bs (λ d e. h d (has_later b d bs e)))

-- an engine of the script
submit_engine : (script : Script) (engine : ℕ) (ops : List Op) → is_command script (command.Submit engine ops) ≡ true → engine ≤ script.sizes.engines
submit_engine script engine ops h = grind (arith, nat_tests)

-- ---- a job is emitted

module _ (script : Script) (journal : List Entry) (p : Parts) (entry : Entry) (t engine n : ℕ) (held : AreHeld script journal p) (is : entry ≡ record { who = actor.Thread t; kind = kind.Arm engine n }) (legal : IsLegalNext script (world_of script journal) entry) where
  abbrev s : State
  s = state_of script journal

  abbrev cmd : Option Command
  cmd = command_at_work script s t

  abbrev job : JobId
  job = record { ctx = engine; num = n }

  -- the entry is the step of its thread
  step : next script s (actor.Thread t) ≡ Ok (kind.Arm engine n)
  step = step_as script journal entry (record { who = actor.Thread t; kind = kind.Arm engine n }) is legal refl

  -- so it is of a job
  submit : IsSubmit script s t engine
  submit = submit_of script s t engine n (told_law script journal t (kind.Arm engine n) held.fits held.legal step)

  -- of which the grammar tells
  rules : OfThread script t (command.Submit engine submit.ops)
  rules = at_work_rules script (rules_of script held.fits) s t (command.Submit engine submit.ops) submit.at

  -- its engine is a context
  known : engine < length s.last_jobs
  known =
      let rooms = (good_law script held.fits journal held.legal).jobs.rooms in
      let within = submit_engine script engine submit.ops rules.command in
      omega (arith, rooms, within)

  -- its number is the next one
  number : n ≡ last_number s.last_jobs engine + 1
  number = arm_number script s (actor.Thread t) engine n step

  -- courses tell the command at work
  work_is : work_of script p.courses t ≡ cmd
  work_is = ap (λ cs. work_of script cs t) held.represents.courses

  -- each buffer that it names is live
  named_there : (b : BufId) → has_buffer (named_in cmd) b ≡ true → IsThere s b
  named_there b h = submit.live b (ap (λ o. has_buffer (named_in o) b) (sym submit.at) ∙ h)

  -- so all are
  named_live : list_all (λ b. is_some (live_in s.core.buffers b)) (named_in cmd) ≡ true
  named_live = all_live s.core.buffers (named_in cmd) (λ b h. some_is (live_in s.core.buffers b) (buffer s b) (named_there b h))

  -- the sets of jobs are those of the buffers
  sets : AreFences s.last_jobs s.core.buffers p.bos.fences
  sets = held.represents.bos.fences_are

  -- each for all contexts
  wide : AreWide (length s.last_jobs) p.bos.fences
  wide i set e = by (slice_get s.core.buffers i) (sym (get_map (λ o. set_of (length s.last_jobs) (fences_of o)) s.core.buffers i) ∙ sym (ap (λ l. slice_get l i) sets.sets_are) ∙ e)
    where
      by : (o : Option (Option Buffer)) → option_map (λ x. set_of (length s.last_jobs) (fences_of x)) o ≡ Some set → length set ≡ length s.last_jobs
      by None h = cc
      by (Some x) h = let same : set_of (length s.last_jobs) (fences_of x) ≡ set = cc in sym (ap length same) ∙ set_length (length s.last_jobs) (fences_of x)

  -- what the calls ask for
  pub arm_there : IsSome (course_at p.courses t)
  arm_there = thread_there script journal p held t (kind.Arm engine n) entry is legal refl

  pub arm_declared : (o : Option Command) (bs : List BufId) → o ≡ work_of script p.courses t → bs ≡ named_in o → All (λ b. b.0 < length p.bos.reservations) bs
  arm_declared o bs w e k d l =
      let same : bs ≡ named_in cmd = e ∙ ap named_in (w ∙ work_is) in
      let b = slice_index_or bs k d in
      lent_below script journal p held b (named_there b (ap (λ ds. has_buffer ds b) (sym same) ∙ has_each bs k d l))

  pub arm_wide : (contexts : ℕ) → contexts ≡ length p.timeline → AreWide contexts p.bos.fences
  arm_wide contexts c i set e = wide i set e ∙ sym (c ∙ held.represents.timeline.contexts)

  pub arm_ring : engine < length p.rings
  arm_ring = let same = held.represents.rings.contexts in let k = known in omega (arith, same, k)

  pub arm_num : 0 < n
  arm_num = let num = number in omega (arith, num)

  -- the jobs that it waits for
  waits : (o : Option Command) (ops : List Op) (bs : List BufId) (contexts : ℕ) (set : List Latest) → o ≡ work_of script p.courses t → ops ≡ ops_of o → bs ≡ named_in o → contexts ≡ length p.timeline →
      set ≡ with_waits ops p.bos.fences (replicate contexts nothing_kept) bs → WaitsFor s.core.jobs s.last_jobs (flat_map (jobs_before_use s.core (ops_of cmd)) (named_in cmd)) set
  waits o ops bs contexts set w oe be c e =
      let same : set ≡ with_waits (ops_of cmd) p.bos.fences (replicate (length s.last_jobs) nothing_kept) (named_in cmd) =
      e ∙ ap (λ k. with_waits ops p.bos.fences (replicate k nothing_kept) bs) (c ∙ held.represents.timeline.contexts)
      ∙ ap₂ (λ os ds. with_waits os p.bos.fences (replicate (length s.last_jobs) nothing_kept) ds) (oe ∙ ap ops_of (w ∙ work_is)) (be ∙ ap named_in (w ∙ work_is)) in
      subst (λ x. WaitsFor s.core.jobs s.last_jobs (flat_map (jobs_before_use s.core (ops_of cmd)) (named_in cmd)) x) (sym same)
      (waits_armed s.core s.last_jobs p.bos.fences sets (ops_of cmd) (named_in cmd) named_live [] (replicate (length s.last_jobs) nothing_kept) (waits_none s.core.jobs s.last_jobs))

  pub arm_waits : (o : Option Command) (ops : List Op) (bs : List BufId) (contexts : ℕ) (set : List Latest) → o ≡ work_of script p.courses t → ops ≡ ops_of o → bs ≡ named_in o → contexts ≡ length p.timeline →
      set ≡ with_waits ops p.bos.fences (replicate contexts nothing_kept) bs → length set ≡ length p.rings
  arm_waits o ops bs contexts set w oe be c e =
      waits_length s.core.jobs s.last_jobs (flat_map (jobs_before_use s.core (ops_of cmd)) (named_in cmd)) set (waits o ops bs contexts set w oe be c e) ∙ sym held.represents.rings.contexts

  -- its packets
  names : standing_names p.bos ≡ (λ b. packet_place (buffer_in s.core b))
  names = names_same s.core p.bos held.represents.bos.buffers_are (ap length held.represents.bos.reservations_are ∙ (sound_law script journal held.fits held.legal).owned.reservations)

  -- are those of the state
  packets_are : (o : Option Command) (ops : List Op) (packets : List Packet) → o ≡ work_of script p.courses t → ops ≡ ops_of o → packets ≡ packets_of (standing_names p.bos) ops →
      packets ≡ packets_of (λ b. packet_place (buffer_in s.core b)) (ops_of cmd)
  packets_are o ops packets w oe e = e ∙ ap₂ (λ names os. packets_of names os) names (oe ∙ ap ops_of (w ∙ work_is))

  pub arm_few : (o : Option Command) (ops : List Op) (packets : List Packet) → o ≡ work_of script p.courses t → ops ≡ ops_of o → packets ≡ packets_of (standing_names p.bos) ops → length packets < 2 ^ 32
  arm_few o ops packets w oe e =
      let same : packets ≡ packets_of (λ b. packet_place (buffer_in s.core b)) submit.ops = packets_are o ops packets w oe e ∙ ap (λ c. packets_of (λ b. packet_place (buffer_in s.core b)) (ops_of c)) submit.at in
      let long = ap length same in
      let few = few_packets (λ b. packet_place (buffer_in s.core b)) submit.ops in
      let most = rules.len in
      omega (arith, long, few, most)

  pub arm_known : engine < length p.timeline
  arm_known = let same = held.represents.timeline.contexts in let k = known in omega (arith, same, k)

  pub arm_emitted : (progress_of p.timeline engine).emitted < 2 ^ 63
  arm_emitted =
      subst (λ m. m < 2 ^ 63) (sym (ap (λ (x : Progress). x.emitted) (held.represents.timeline.each engine known))) ((counters_law script journal held.fits held.legal).jobs engine)

  pub arm_context : HaveContext engine p.bos.fences
  arm_context i set e = let l = wide i set e in let k = known in omega (arith, l, k)

  -- ---- after it

  abbrev more : Job
  more = armed_job s job (ops_of cmd) (named_in cmd)

  -- what the parts tell of jobs stays true
  later : IsLater s.core.jobs s.last_jobs (s.core.jobs ++ more ∷ []) (slice_set s.last_jobs engine n)
  later = later_more s.core.jobs s.last_jobs more known number refl

  -- the job is emitted from then on
  emitted : is_emitted (slice_set s.last_jobs engine n) job ≡ true
  emitted = emitted_now s.core.jobs s.last_jobs more known number refl

  -- the sets with the job
  sets_then : AreFences (slice_set s.last_jobs engine n) (fold (with_use job (ops_of cmd)) s.core.buffers (named_in cmd)) (fold (λ l b. with_use_in job (use_of (ops_of cmd) b) l b) p.bos.fences (named_in cmd))
  sets_then =
      fences_armed (slice_set s.last_jobs engine n) job (ops_of cmd) emitted (named_in cmd) s.core.buffers named_live p.bos.fences
      (fences_later s.core.jobs s.last_jobs (s.core.jobs ++ more ∷ []) (slice_set s.last_jobs engine n) later s.core.buffers p.bos.fences sets)

  -- all parts, by the words of the state
  represented : (set : List Latest) → WaitsFor s.core.jobs s.last_jobs (flat_map (jobs_before_use s.core (ops_of cmd)) (named_in cmd)) set → (bos : Bos) → bos ≡ with_uses job (ops_of cmd) p.bos (named_in cmd) →
      Represents script (after_submit s t job (ops_of cmd) (named_in cmd)) (stores_of script journal)
      (record p {
        bos = bos;
        timeline = with_emitted p.timeline engine;
        rings = with_pushed p.rings (record { job = job; waits = set; packets = packets_of (λ b. packet_place (buffer_in s.core b)) (ops_of cmd); ran = 0 });
        courses = with_course p.courses t (has_made (course s t));
      })
  represented set w bos e =
      let is : bos ≡ record p.bos { fences = fold (λ l b. with_use_in job (use_of (ops_of cmd) b) l b) p.bos.fences (named_in cmd) } = e ∙ uses_are job (ops_of cmd) (named_in cmd) p.bos in
      let fences : bos.fences ≡ fold (λ l b. with_use_in job (use_of (ops_of cmd) b) l b) p.bos.fences (named_in cmd) = ap (λ (x : Bos). x.fences) is in
      armed_represented script s (stores_of script journal) p held.represents t job (ops_of cmd) (named_in cmd) known number set w bos (is ∙ ap (λ fs. record p.bos { fences = fs }) (sym fences))
      (subst (λ fs. AreFences (slice_set s.last_jobs engine n) (fold (with_use job (ops_of cmd)) s.core.buffers (named_in cmd)) fs) (sym fences) sets_then)

  -- the parts tell the journal with the entry
  pub arm_held : (o : Option Command) (ops : List Op) (bs : List BufId) (contexts : ℕ) (set : List Latest) (packets : List Packet) (rings : List (List Pushed)) (timeline : List Progress) (bos : Bos) (courses : List Course) →
      o ≡ work_of script p.courses t → ops ≡ ops_of o → bs ≡ named_in o → contexts ≡ length p.timeline → set ≡ with_waits ops p.bos.fences (replicate contexts nothing_kept) bs → packets ≡ packets_of (standing_names p.bos) ops →
      rings ≡ with_pushed p.rings (record { job = job; waits = set; packets = packets; ran = 0 }) → timeline ≡ with_emitted p.timeline engine → bos ≡ with_uses job ops p.bos bs → courses ≡ with_course_by has_made p.courses t →
      AreHeld script (journal ++ entry ∷ []) (record p { bos = bos; timeline = timeline; rings = rings; courses = courses })
  arm_held o ops bs contexts set packets rings timeline bos courses w oe be c se pe re le ue ce =
      let uses : bos ≡ with_uses job (ops_of cmd) p.bos (named_in cmd) = ue ∙ ap₂ (λ os ds. with_uses job os p.bos ds) (oe ∙ ap ops_of (w ∙ work_is)) (be ∙ ap named_in (w ∙ work_is)) in
      let pushed : rings ≡ with_pushed p.rings (record { job = job; waits = set; packets = packets_of (λ b. packet_place (buffer_in s.core b)) (ops_of cmd); ran = 0 }) =
      re ∙ ap (λ ps. with_pushed p.rings (record { job = job; waits = set; packets = ps; ran = 0 })) (packets_are o ops packets w oe pe) in
      let made : courses ≡ with_course p.courses t (has_made (course s t)) = ce ∙ ap (λ cs. with_course p.courses t (has_made (course_in cs t))) held.represents.courses in
      held_still script journal p (record p { bos = bos; timeline = timeline; rings = rings; courses = courses }) entry (record { who = actor.Thread t; kind = kind.Arm engine n }) held is legal refl
      (subst (λ x. Represents script (after_submit s t job (ops_of cmd) (named_in cmd)) (stores_of script journal) (record p { bos = bos; timeline = timeline; rings = rings; courses = x })) (sym made)
      (subst (λ x. Represents script (after_submit s t job (ops_of cmd) (named_in cmd)) (stores_of script journal) (record p { bos = bos; timeline = timeline; rings = x; courses = with_course p.courses t (has_made (course s t)) })) (sym pushed)
      (subst (λ x. Represents script (after_submit s t job (ops_of cmd) (named_in cmd)) (stores_of script journal) (record p {
        bos = bos;
        timeline = x;
        courses = with_course p.courses t (has_made (course s t));
        rings = with_pushed p.rings (record { job = job; waits = set; packets = packets_of (λ b. packet_place (buffer_in s.core b)) (ops_of cmd); ran = 0 });
      })) (sym le)
      (represented set (waits o ops bs contexts set w oe be c se) bos uses))))
