-- All parts after a job of a thread.
use Rattle.std.proofs.Common.{◌≡◌, ℕ, ◌+◌, ◌<◌, false, List, [], ◌∷◌, ◌++◌, Option, refl, sym, ◌∙◌, ap, subst, length}
use Rattle.std.specs.Prelude.{◌==◌, find, flat_map, fold, map, option_map, slice_set, zip}
use Rattle.ttm_base.specs.declared.BufId.{BufId}
use Rattle.ttm_base.specs.declared.JobId.{JobId}
use Rattle.ttm_base.specs.declared.Op.{Op}
use Rattle.ttm_base.specs.Cutting.{packets_of}
use Rattle.ttm_base.specs.Pages.{PageBytes}
use Rattle.bo_table.specs.Seen.{Bos}
use Rattle.fence_core.specs.declared.fence_set.Latest.{Latest}
use Rattle.fence_core.specs.Timelines.{with_emitted}
use Rattle.copy_engine.specs.Pushes.{with_pushed}
use Rattle.journal_model.specs.declared.script.Script.{Script}
use Rattle.journal_model.specs.declared.state.Course.{Course}
use Rattle.journal_model.specs.declared.state.Ghost.{Ghost}
use Rattle.journal_model.specs.declared.state.Job.{Job}
use Rattle.journal_model.specs.declared.state.State.{State}
use Rattle.journal_model.specs.rules.ApplyCommands.{has_made}
use Rattle.journal_model.specs.rules.ApplyJobs.{after_submit, with_use}
use Rattle.journal_model.specs.rules.ApplyPages.{with_fence}
use Rattle.journal_model.specs.rules.Holds.{ghost_frames}
use Rattle.journal_model.specs.rules.Places.{pages_of, packet_place}
use Rattle.journal_model.specs.rules.State.{buffer_in, course, with_course}
use Rattle.journal_model.specs.rules.Waits.{jobs_before_use, use_of}
use Rattle.journal_model.specs.declared.state.Buffer.{Buffer}
use Rattle.journal_model.specs.declared.state.Reservation.{Reservation}
use Rattle.lru_bulk.specs.Lists.{Order}
use Rattle.room_representation.specs.lemma_lists.Listed.{AreListed}
use Rattle.room_representation.proofs.lemma_lists.KindLaws.{changed_unseen}
use Rattle.room_representation.proofs.lemma_spans.Still.{uses_representation}
use Rattle.ttm_base.specs.declared.Mem.TheVariants.{Tt, Vram}
use Rattle.laws.specs.law_state.GoodState.{last_number}
use Rattle.room_representation.specs.declared.parts.Parts.{Parts}
use Rattle.room_representation.specs.Fences.{WaitsFor, AreFences}
use Rattle.room_representation.specs.Pages.{ArePooled, AreSlots, AreStores}
use Rattle.room_representation.specs.Represents.{Represents}
use Rattle.room_representation.proofs.lemma_jobs.Later.{IsLater, ghosts_later, move_later}
use Rattle.room_representation.proofs.lemma_jobs.Told.{unfenced_armed}
use Rattle.room_representation.proofs.lemma_jobs.Emitted.{later_more, timeline_more, rings_more}
use Rattle.room_representation.proofs.lemma_jobs.Stays.{frames_armed, slots_armed, maps_armed}

-- the job of these operations
abbrev pub armed_job : State → JobId → List Op → List BufId → Job
armed_job s job ops bs =
    record { id = job; waits = flat_map (jobs_before_use s.core ops) bs; packets = packets_of (λ b. packet_place (buffer_in s.core b)) ops; ran = 0; finished = false }

-- the lists don't see it
lists_armed : (script : Script) (reservations : List Reservation) (lists : List (List BufId)) (o : Order) (job : JobId) (ops : List Op) (bs : List BufId) (buffers : List (Option Buffer)) →
    AreListed script buffers reservations lists o → AreListed script (fold (with_use job ops) buffers bs) reservations lists o
lists_armed script reservations lists o job ops [] buffers representation = representation
lists_armed script reservations lists o job ops (b ∷ bs) buffers representation =
    lists_armed script reservations lists o job ops bs (with_use job ops buffers b) (changed_unseen script (with_fence job (use_of ops b)) buffers reservations lists o b (λ x. refl) representation)

-- it is emitted with a set that waits for its list
pub armed_represented : (script : Script) (s : State) (bytes : PageBytes) (p : Parts) (t : Represents script s bytes p) (thread : ℕ) (job : JobId) (ops : List Op) (bs : List BufId) →
    job.ctx < length s.last_jobs → job.num ≡ last_number s.last_jobs job.ctx + 1 → (set : List Latest) → WaitsFor s.core.jobs s.last_jobs (flat_map (jobs_before_use s.core ops) bs) set →
    (bos : Bos) → bos ≡ record p.bos { fences = bos.fences } → AreFences (slice_set s.last_jobs job.ctx job.num) (fold (with_use job ops) s.core.buffers bs) bos.fences →
    Represents script (after_submit s thread job ops bs) bytes
    (record p {
      bos = bos;
      timeline = with_emitted p.timeline job.ctx;
      rings = with_pushed p.rings (record { job = job; waits = set; packets = packets_of (λ b. packet_place (buffer_in s.core b)) ops; ran = 0 });
      courses = with_course p.courses thread (has_made (course s thread));
    })
armed_represented script s bytes p t thread job ops bs known num set waits bos same fences =
    let k = armed_job s job ops bs in
    let frames = frames_armed job ops bs s.core.buffers in
    let slots = slots_armed job ops bs s.core.buffers in
    let maps = maps_armed job ops bs s.core.buffers in
    let later : IsLater s.core.jobs s.last_jobs (s.core.jobs ++ k ∷ []) (slice_set s.last_jobs job.ctx job.num) = later_more s.core.jobs s.last_jobs k known num refl in
    record {
      bos = record {
        buffers_are = ap (λ (x : Bos). x.buffers) same ∙ t.bos.buffers_are ∙ sym (unfenced_armed job ops bs s.core.buffers);
        reservations_are = ap (λ (x : Bos). x.reservations) same ∙ t.bos.reservations_are;
        fences_are = fences;
        pages_are = ap (λ (x : Bos). x.pages) same ∙ t.bos.pages_are;
      };
      timeline = timeline_more s.core.jobs s.last_jobs k known num refl p.timeline t.timeline;
      rings = rings_more s.core.jobs s.last_jobs k known num refl p.rings t.rings set waits;
      ghosts = ghosts_later s.core.jobs s.last_jobs (s.core.jobs ++ k ∷ []) (slice_set s.last_jobs job.ctx job.num) later s.core.ghosts p.ghosts t.ghosts;
      vram = record {
        rule = t.vram.rule;
        held_as = uses_representation script.sizes.vram Vram s.core.ghosts p.vram.resources job ops bs s.core.buffers t.vram.held_as;
        fence = move_later s.core.jobs s.last_jobs (s.core.jobs ++ k ∷ []) (slice_set s.last_jobs job.ctx job.num) later s.core.move_fence p.vram.resources.move_fence t.vram.fence;
      };
      tt = uses_representation script.sizes.tt Tt s.core.ghosts p.tt job ops bs s.core.buffers t.tt;
      pool = subst (λ held. ArePooled script.sizes.frames (held ++ ghost_frames s.core) p.pool) (sym frames) t.pool;
      swap = subst (λ held. AreSlots script.sizes.swap held bytes p.swap) (sym slots) t.swap;
      stores = subst (λ pages. AreStores script.sizes (λ page. option_map (λ e. e.1) (find (λ e. e.0 == page) (pages ++ flat_map (λ (g : Ghost). zip (pages_of g.tt) g.frames) s.core.ghosts))) bytes p.stores) (sym maps) t.stores;
      lists = lists_armed script s.reservations s.lists p.lru job ops bs s.core.buffers t.lists;
      courses = ap (λ (l : List Course). with_course l thread (has_made (course s thread))) t.courses;
      stamp = t.stamp;
      ghost = t.ghost;
      no_more = t.no_more;
    }
