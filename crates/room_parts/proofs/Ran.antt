-- All parts after entries of engines.
use Rattle.std.proofs.Common.{◌≡◌, ℕ, ◌<◌, List, [], ◌∷◌, ◌++◌, Option, Some, None, IsSome, length, refl, sym, subst}
use Rattle.ttm_base.specs.declared.Actor.TheVariants as actor
use Rattle.ttm_base.specs.declared.Packet.{Packet}
use Rattle.fence_core.specs.declared.timeline.Progress.{Progress}
use Rattle.fence_core.specs.Timelines.{progress_of, with_done}
use Rattle.copy_packet.specs.declared.stores.Stores.{Stores}
use Rattle.copy_packet.specs.Runs.{CanRun}
use Rattle.copy_engine.specs.Packets.{HasRun}
use Rattle.copy_engine.specs.Pushes as pushes
use Rattle.copy_engine.specs.Pushes.{Pushed, next_of, with_ran, without_head}
use Rattle.journal_model.specs.declared.script.Script.{Script}
use Rattle.journal_model.specs.declared.entry.Entry.{Entry}
use Rattle.journal_model.specs.declared.entry.Kind.TheVariants as kind
use Rattle.journal_model.specs.rules.ApplyJobs.{after_done}
use Rattle.journal_model.specs.rules.Legal.{IsLegalNext, state_of, stores_of, world_of, world_after}
use Rattle.laws.proofs.law_transparent.PacketPlacesLaw.{places_law}
use Rattle.room_representation.specs.declared.parts.Parts.{Parts}
use Rattle.room_representation.specs.Lines.{AreInLine}
use Rattle.room_representation.specs.Held.{AreHeld}
use Rattle.room_representation.specs.Represents.{Represents}
use Rattle.room_representation.proofs.lemma_jobs.Changed.{job_id, line_known, line_some}
use Rattle.room_representation.proofs.lemma_jobs.Heads as heads
use Rattle.room_representation.proofs.lemma_jobs.Heads.{IsEnd, IsRun, end_of, run_of}
use Rattle.room_representation.proofs.lemma_jobs.LegalJobs.{in_line, packet_shown}
use Rattle.room_representation.proofs.lemma_jobs.Rows.{head_known}
use Rattle.room_representation.proofs.lemma_jobs.Represented.{done_represented, packet_runs, packet_represented}
use Rattle.room_representation.proofs.steps.Steps.{held_after, held_still, step_as}

-- ---- a job is done

module _ (script : Script) (journal : List Entry) (p : Parts) (entry : Entry) (e n : ℕ) (held : AreHeld script journal p) (is : entry ≡ record { who = actor.Engine e; kind = kind.Done n }) (legal : IsLegalNext script (world_of script journal) entry) where
  done_rows : AreInLine (state_of script journal).last_jobs (state_of script journal).core.jobs
  done_rows = in_line script journal held.fits held.legal

  done_end : IsEnd (state_of script journal) e n
  done_end = end_of script (state_of script journal) e n (step_as script journal entry (record { who = actor.Engine e; kind = kind.Done n }) is legal refl)

  done_context : e < length (state_of script journal).last_jobs
  done_context = head_known (state_of script journal).last_jobs (state_of script journal).core.jobs done_rows e n done_end.job done_end.head

  -- what the calls ask for
  pub done_ring : e < length p.rings
  done_ring = heads.ring_known (state_of script journal).core.jobs (state_of script journal).last_jobs p.rings held.represents.rings e n done_context done_end.job done_end.head

  pub done_head : IsSome (pushes.head_of p.rings e)
  done_head = heads.ring_head (state_of script journal).core.jobs (state_of script journal).last_jobs p.rings held.represents.rings e n done_context done_end.job done_end.head

  pub done_over : next_of p.rings e ≡ None
  done_over = heads.ring_over (state_of script journal).core.jobs (state_of script journal).last_jobs p.rings held.represents.rings e n done_context done_end.job done_end.head done_end.over

  pub done_known : e < length p.timeline
  done_known = line_known (state_of script journal).core.jobs (state_of script journal).last_jobs done_rows e n done_context done_end.job done_end.head p.timeline held.represents.timeline

  pub done_some : (progress_of p.timeline e).done < (progress_of p.timeline e).emitted
  done_some = line_some (state_of script journal).core.jobs (state_of script journal).last_jobs done_rows e n done_context done_end.job done_end.head p.timeline held.represents.timeline

  pub done_held : (rings : List (List Pushed)) (timeline : List Progress) → rings ≡ without_head p.rings e → timeline ≡ with_done p.timeline e →
      AreHeld script (journal ++ entry ∷ []) (record p { rings = rings; timeline = timeline })
  done_held rings timeline r l =
      held_still script journal p (record p { rings = rings; timeline = timeline }) entry (record { who = actor.Engine e; kind = kind.Done n }) held is legal refl
      (subst (λ x. Represents script (after_done (state_of script journal) (job_id e n)) (stores_of script journal) (record p { rings = x; timeline = timeline })) (sym r)
      (subst (λ y. Represents script (after_done (state_of script journal) (job_id e n)) (stores_of script journal) (record p { rings = without_head p.rings e; timeline = y })) (sym l)
      (done_represented script (state_of script journal) (stores_of script journal) p held.represents done_rows e n done_end)))

-- ---- a packet has run

module _ (script : Script) (journal : List Entry) (p : Parts) (entry : Entry) (e n k : ℕ) (piece : List ℕ) (held : AreHeld script journal p) (is : entry ≡ record { who = actor.Engine e; kind = kind.Packet n k piece }) (legal : IsLegalNext script (world_of script journal) entry) where
  run_rows : AreInLine (state_of script journal).last_jobs (state_of script journal).core.jobs
  run_rows = in_line script journal held.fits held.legal

  run_is : IsRun (state_of script journal) e n k
  run_is = let shown = packet_shown script (world_of script journal) entry e n k piece is legal in run_of script (state_of script journal) e n k shown.plain shown.step

  run_context : e < length (state_of script journal).last_jobs
  run_context = head_known (state_of script journal).last_jobs (state_of script journal).core.jobs run_rows e n run_is.job run_is.head

  pub packet_ring : e < length p.rings
  packet_ring = heads.ring_known (state_of script journal).core.jobs (state_of script journal).last_jobs p.rings held.represents.rings e n run_context run_is.job run_is.head

  pub packet_left : IsSome (next_of p.rings e)
  packet_left = heads.ring_left (state_of script journal).core.jobs (state_of script journal).last_jobs p.rings held.represents.rings e n run_context run_is.job run_is.head run_is.left

  pub packet_can : (q : Packet) → next_of p.rings e ≡ Some q → CanRun p.stores q
  packet_can q next = packet_runs script (state_of script journal) (stores_of script journal) p held.represents run_rows e n k run_is q next (places_law script journal held.fits held.legal)

  some_is : {X : Type 0} (o : Option X) → IsSome o → (x : X) × (o ≡ Some x)
  some_is None h = cc
  some_is (Some x) h = (x, refl)

  pub packet_held : (rings : List (List Pushed)) (stores : Stores) → rings ≡ with_ran p.rings e → ((q : Packet) → next_of p.rings e ≡ Some q → HasRun q p.stores stores) →
      AreHeld script (journal ++ entry ∷ []) (record p { rings = rings; stores = stores })
  packet_held rings stores r ran =
      let w = world_of script journal in
      let next = some_is (next_of p.rings e) packet_left in
      held_after script journal p (record p { rings = rings; stores = stores }) entry held legal
      (subst (λ (y : Entry). Represents script (world_after script w y).state (world_after script w y).stores (record p { rings = rings; stores = stores })) (sym is)
      (subst (λ x. Represents script (world_after script w (record { who = actor.Engine e; kind = kind.Packet n k piece })).state (world_after script w (record { who = actor.Engine e; kind = kind.Packet n k piece })).stores (record p { rings = x; stores = stores })) (sym r)
      (packet_represented script (state_of script journal) w.stores p held.represents run_rows e n k run_is next.0 next.1 stores (ran next.0 next.1))))
