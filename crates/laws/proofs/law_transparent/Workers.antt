-- Packets, their ends, and reaped ghosts.
use Rattle.std.proofs.Common.{◌≡◌, ℕ, ◌+◌, suc, true, List, Option, Some, None, Ok, refl, sym, ◌∙◌}
use Rattle.std.specs.Prelude.{slice_get, drop, filter, not, nat_eq, is_none, ◌==◌, ◌&&◌}
use Rattle.std.proofs.lemmas.Bool.{and_parts, eqb-true}
use Rattle.ttm_base.specs.declared.JobId.{JobId}
use Rattle.ttm_base.specs.declared.Actor.TheVariants as actor
use Rattle.ttm_base.specs.Pages as pages
use Rattle.ttm_base.specs.Packets.{after_packet, probe_piece}
use Rattle.journal_model.specs.declared.script.Script.{Script}
use Rattle.journal_model.specs.declared.state.State.{State}
use Rattle.journal_model.specs.declared.state.Ghost.{Ghost}
use Rattle.journal_model.specs.declared.entry.Kind.TheVariants as kind
use Rattle.journal_model.specs.rules.Places.{aperture}
use Rattle.journal_model.specs.rules.Stores.{within, job_packet}
use Rattle.journal_model.specs.rules.PlainMemory.{Memory, OwedProbes}
use Rattle.journal_model.specs.rules.Waits.{waited_for}
use Rattle.journal_model.specs.rules.Next.{next}
use Rattle.journal_model.specs.rules.ApplyJobs.{changed_job}
use Rattle.laws.specs.law_state.GoodState.{GoodJobs}
use Rattle.laws.specs.law_step.Due.{is_over}
use Rattle.laws.proofs.law_owners.Law.{AreHeldOnce}
use Rattle.laws.specs.lemma_bytes_model.View.{packet_ran, job_done}
use Rattle.laws.specs.lemma_bytes_model.Entries.{retitled}
use Rattle.laws.proofs.law_holders.HeldOnce.{held_once}
use Rattle.laws.proofs.law_holders.Owner.{owner_of}
use Rattle.laws.specs.lemma_bytes_view.Seen.{meant, steps_from}
use Rattle.laws.proofs.lemma_bytes_view.World.{bare}
use Rattle.laws.proofs.lemma_bytes_view.PacketStep as packets
use Rattle.laws.proofs.lemma_bytes_view.DoneStep as ends
use Rattle.laws.proofs.lemma_bytes_view.Reaps.{Leaving, reap_good, reap_seen}
use Rattle.laws.proofs.lemma_bytes_view.Viewed.{Viewed}
use Rattle.laws.proofs.lemma_bytes_told.Numbers.{AreDistinct, first_only}

module _ (script : Script) (s : State) (owed_probes : OwedProbes) (m : Memory) (bytes : pages.PageBytes) (u : Viewed script s.core owed_probes m bytes) (jobs : GoodJobs script.sizes.engines s.last_jobs s.core.jobs) where
  pub packet_viewed : (e n k : ℕ) (piece : List ℕ) → next script s (actor.Engine e) ≡ Ok (kind.Packet n k piece) →
      Viewed script (record s.core { jobs = changed_job (λ j. record j { ran = j.ran + 1 }) (record { ctx = e; num = n }) s.core.jobs }) owed_probes m (within script.sizes (after_packet (aperture s.core) bytes (job_packet s.core (record { ctx = e; num = n }) k)))
  packet_viewed e n k piece h =
      let r = packets.running script s owed_probes m bytes u.view u.seen u.good script.sizes.engines s.last_jobs jobs e n k piece h in
      record {
        view = packet_ran r.at (record { packet = meant (aperture s.core) r.packet; due = owed_probes r.job.id r.job.ran }) (steps_from (aperture s.core) (owed_probes r.job.id) (suc r.job.ran) (drop (suc r.job.ran) r.job.packets)) u.view;
        good = packets.good_after script s owed_probes m bytes u.view u.seen u.good script.sizes.engines s.last_jobs jobs e n k r;
        seen = packets.seen_after script s owed_probes m bytes u.view u.seen u.good script.sizes.engines s.last_jobs jobs e n k r;
      }

  pub packet_shows : (e n k : ℕ) (piece : List ℕ) → next script s (actor.Engine e) ≡ Ok (kind.Packet n k piece) → probe_piece (aperture s.core) bytes (job_packet s.core (record { ctx = e; num = n }) k) ≡ owed_probes (record { ctx = e; num = n }) k
  packet_shows e n k piece h =
      let r = packets.running script s owed_probes m bytes u.view u.seen u.good script.sizes.engines s.last_jobs jobs e n k piece h in
      packets.shows script s owed_probes m bytes u.view u.seen u.good script.sizes.engines s.last_jobs jobs e n k r

  pub done_viewed : (e n : ℕ) → next script s (actor.Engine e) ≡ Ok (kind.Done n) → Viewed script (record s.core { jobs = changed_job (λ j. record j { finished = true }) (record { ctx = e; num = n }) s.core.jobs }) owed_probes m bytes
  done_viewed e n h =
      let r = ends.ending script s owed_probes m bytes u.view u.seen u.good script.sizes.engines s.last_jobs jobs e n h in
      record {
        view = job_done r.at u.view;
        good = ends.good_after script s owed_probes m bytes u.view u.seen u.good script.sizes.engines s.last_jobs jobs e n r;
        seen = ends.seen_after script s owed_probes m bytes u.view u.seen u.good script.sizes.engines s.last_jobs jobs e n r;
      }

-- the first ghost, whose jobs are done
leaving : (s : State) (g : ℕ) → AreDistinct s.core.ghosts → is_over s g (slice_get s.core.ghosts 0) ≡ true → Leaving s.core g
leaving s g d h = by (slice_get s.core.ghosts 0) refl h
  where
    none : (o : Option JobId) → is_none o ≡ true → o ≡ None
    none None e = refl
    none (Some i) e = cc

    by : (o : Option Ghost) → slice_get s.core.ghosts 0 ≡ o → is_over s g o ≡ true → Leaving s.core g
    by None e k = cc
    by (Some x) e k =
        let parts = and_parts (x.num == g) (is_none (waited_for s.core x.jobs)) k in
        let num : x.num ≡ g = eqb-true x.num g parts.0 in
        record {
          place = 0;
          ghost = x;
          is = e;
          number = num;
          only = λ i y f q. first_only s.core.ghosts x e d i y f (q ∙ sym num);
          waits = none (waited_for s.core x.jobs) parts.1;
        }

pub reap_viewed : (script : Script) (s : State) (owed_probes : OwedProbes) (m : Memory) (bytes : pages.PageBytes) → Viewed script s.core owed_probes m bytes → AreHeldOnce script s.core → (g : ℕ) → AreDistinct s.core.ghosts →
    is_over s g (slice_get s.core.ghosts 0) ≡ true → AreHeldOnce script (record s.core { ghosts = filter (λ h. not (h.num == g)) s.core.ghosts }) → Viewed script (record s.core { ghosts = filter (λ h. not (h.num == g)) s.core.ghosts }) owed_probes m bytes
reap_viewed script s owed_probes m bytes u held g d h once =
    let l = leaving s g d h in
    record {
      view = retitled (record u.view.fences { ghost = λ k j. u.view.fences.ghost k j && not (nat_eq g k) }) (owner_of (bare (record s.core { ghosts = filter (λ h. not (h.num == g)) s.core.ghosts }))) u.view;
      good = reap_good script s.core owed_probes m bytes u.view u.seen u.good g l (held_once script (bare s.core) held) once;
      seen = reap_seen script s.core owed_probes m bytes u.view u.seen u.good g l (held_once script (bare s.core) held) once;
    }
