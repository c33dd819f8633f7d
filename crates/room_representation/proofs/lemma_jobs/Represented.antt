-- All parts after the end of a job, and after a packet.
use Rattle.std.proofs.Common.{◌≡◌, ℕ, zero, suc, ◌<◌, List, [], ◌∷◌, Some, refl, sym, ◌∙◌, ap, subst, length}
use Rattle.std.specs.Prelude.{drop, slice_get}
use Rattle.ttm_base.specs.declared.Packet.{Packet}
use Rattle.ttm_base.specs.Packets.{after_packet, probe_piece}
use Rattle.ttm_base.specs.Pages.{PageBytes}
use Rattle.fence_core.specs.Timelines.{with_done}
use Rattle.copy_engine.specs.Packets.{HasRun, shown_by}
use Rattle.copy_engine.specs.Pushes.{next_of, with_ran, without_head}
use Rattle.copy_packet.specs.Runs.{CanRun}
use Rattle.copy_packet.specs.declared.stores.Stores.{Stores}
use Rattle.journal_model.specs.declared.script.Script.{Script}
use Rattle.journal_model.specs.declared.state.State.{State}
use Rattle.journal_model.specs.rules.ApplyJobs.{after_done, after_packet_run}
use Rattle.journal_model.specs.rules.Holds.{held_slots}
use Rattle.journal_model.specs.rules.Places.{aperture}
use Rattle.journal_model.specs.rules.Stores.{job_packet, within}
use Rattle.laws.specs.law_transparent.NamedPlaces.{NameWhatIsThere}
use Rattle.room_representation.specs.declared.parts.Parts.{Parts}
use Rattle.room_representation.specs.Lines.{AreInLine}
use Rattle.room_representation.specs.Represents.{Represents}
use Rattle.room_representation.proofs.lemma_jobs.Lists.{filtered_at}
use Rattle.room_representation.proofs.lemma_jobs.Later.{ghosts_later}
use Rattle.room_representation.proofs.lemma_jobs.Heads.{IsEnd, IsRun, ring_next}
use Rattle.room_representation.proofs.lemma_jobs.Rows.{head_known, packet_named}
use Rattle.room_representation.proofs.lemma_jobs.Packets.{can_run, shows_same, stores_run, slots_run, nothing_beyond}
use Rattle.room_representation.proofs.lemma_jobs.Changed.{after_run, ended, job_id, is_left_of, runs_keep, ends_keep, change_later, timeline_run, rings_run, timeline_end, rings_end}

get_drop : {X : Type 0} (xs : List X) (n : ℕ) → slice_get (drop n xs) 0 ≡ slice_get xs n
get_drop xs zero = refl
get_drop [] (suc n) = refl
get_drop (x ∷ xs) (suc n) = get_drop xs n

module _ (script : Script) (s : State) (bytes : PageBytes) (p : Parts) (t : Represents script s bytes p) (rows : AreInLine s.last_jobs s.core.jobs) (e n : ℕ) where
  -- a job that is done leaves its ring, and the timeline counts it
  pub done_represented : IsEnd s e n → Represents script (after_done s (job_id e n)) bytes (record p { rings = without_head p.rings e; timeline = with_done p.timeline e })
  done_represented end =
      let known : e < length s.last_jobs = head_known s.last_jobs s.core.jobs rows e n end.job end.head in
      record {
        bos = t.bos;
        timeline = timeline_end s.core.jobs s.last_jobs rows e n known end.job end.head p.timeline t.timeline;
        rings = rings_end s.core.jobs s.last_jobs rows e n known end.job end.head p.rings t.rings;
        ghosts = ghosts_later s.core.jobs s.last_jobs _ s.last_jobs (change_later ended ends_keep e n s.core.jobs s.last_jobs) s.core.ghosts p.ghosts t.ghosts;
        vram = t.vram;
        tt = t.tt;
        pool = t.pool;
        swap = t.swap;
        stores = t.stores;
        lists = t.lists;
        courses = t.courses;
        stamp = t.stamp;
        ghost = t.ghost;
        no_more = t.no_more;
      }

  module _ (k : ℕ) (run : IsRun s e n k) (q : Packet) (next : next_of p.rings e ≡ Some q) where
    known : e < length s.last_jobs
    known = head_known s.last_jobs s.core.jobs rows e n run.job run.head

    here : slice_get run.job.packets run.job.ran ≡ Some q
    here = sym (ring_next s.core.jobs s.last_jobs p.rings t.rings e n known run.job run.head) ∙ next

    -- the ring's next packet is the one that the bytes are changed by
    pub packet_is : job_packet s.core (job_id e n) k ≡ q
    packet_is = packet_named s.last_jobs s.core rows e n k run.job run.head q (ap (slice_get run.job.packets) run.ran ∙ here)

    -- it can run, as packets name what is there after each legal journal
    pub packet_runs : NameWhatIsThere script s.core → CanRun p.stores q
    packet_runs names =
        let at = filtered_at (is_left_of e) s.core.jobs run.job run.head.first in
        can_run script s.core bytes p.stores t.stores t.no_more q (names at.0 0 run.job q at.1 (get_drop run.job.packets run.job.ran ∙ here))

    -- it shows what its entry shows
    pub packet_shows : shown_by q p.stores ≡ probe_piece (aperture s.core) bytes (job_packet s.core (job_id e n) k)
    packet_shows = shows_same script s.core bytes p.stores t.stores t.no_more q ∙ ap (probe_piece (aperture s.core) bytes) (sym packet_is)

    -- once it has run, it is counted, and the stores have the bytes after its entry
    pub packet_represented : (new : Stores) → HasRun q p.stores new →
        Represents script (after_packet_run s (job_id e n)) (within script.sizes (after_packet (aperture s.core) bytes (job_packet s.core (job_id e n) k))) (record p { rings = with_ran p.rings e; stores = new })
    packet_represented new ran =
        subst (λ x. Represents script (after_packet_run s (job_id e n)) (within script.sizes (after_packet (aperture s.core) bytes x)) (record p { rings = with_ran p.rings e; stores = new })) (sym packet_is)
        (record {
          bos = t.bos;
          timeline = timeline_run s.core.jobs s.last_jobs rows e n known run.job run.head p.timeline t.timeline;
          rings = rings_run s.core.jobs s.last_jobs rows e n known run.job run.head p.rings t.rings;
          ghosts = ghosts_later s.core.jobs s.last_jobs _ s.last_jobs (change_later after_run runs_keep e n s.core.jobs s.last_jobs) s.core.ghosts p.ghosts t.ghosts;
          vram = t.vram;
          tt = t.tt;
          pool = t.pool;
          swap = slots_run script s.core bytes p.stores t.stores t.no_more q new ran (held_slots s.core) p.swap t.swap;
          stores = stores_run script s.core bytes p.stores t.stores t.no_more q new ran;
          lists = t.lists;
          courses = t.courses;
          stamp = t.stamp;
          ghost = t.ghost;
          no_more = nothing_beyond script.sizes (after_packet (aperture s.core) bytes q);
        })
