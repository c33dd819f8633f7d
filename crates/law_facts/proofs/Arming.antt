-- What a job with operations touches: places of its buffers, for whose jobs it waits.
use Rattle.std.proofs.Common.{◌≡◌, ℕ, ◌<◌, Bool, true, false, List, [], refl, sym, subst, ◌∙◌, ap, ◌⊎◌, inl, inr}
use Rattle.std.specs.Prelude.{slice_get, flat_map, unwrap_or, if◌then◌else◌}
use Rattle.std.specs.List.{list_any, list_all}
use Rattle.ttm_base.specs.declared.BufId.{BufId}
use Rattle.ttm_base.specs.declared.JobId.{JobId}
use Rattle.ttm_base.specs.declared.Op.{Op}
use Rattle.ttm_base.specs.Pages as pages
use Rattle.ttm_base.specs.Packets.{packet_touches, packet_writes}
use Rattle.ttm_base.specs.Cutting.{PageMap, packets_of}
use Rattle.journal_model.specs.declared.script.Script.{Script}
use Rattle.journal_model.specs.declared.state.Core.{Core}
use Rattle.journal_model.specs.declared.state.Job.{Job}
use Rattle.journal_model.specs.rules.State.{buffer_in, has_buffer}
use Rattle.journal_model.specs.rules.Commands.{decl, buffers_of_op, first_mentions}
use Rattle.journal_model.specs.scripts.CommandRules.{is_op}
use Rattle.journal_model.specs.rules.Places.{place_of, packet_place, aperture}
use Rattle.journal_model.specs.rules.Waits.{same_job, is_written, unfinished, jobs_before_read, jobs_before_write, jobs_before_use}
use Rattle.journal_model.specs.rules.PlainMemory.{Memory, OwedProbes, pieces_shown}
use Rattle.law_facts.specs.Facts.{touches, writes_to}
use Rattle.laws.specs.lemma_bytes_model.Memory.{Page, Nowhere, touched, written}
use Rattle.laws.specs.lemma_bytes_model.View.{View, Good, Idle, Live}
use Rattle.laws.specs.lemma_bytes_model.Entries.{steps, Stands, AllNamed}
use Rattle.laws.proofs.lemma_bytes_model.Arm.{Stood, touched_stood, written_stood}
use Rattle.laws.specs.law_holders.Holding.{seen, buffer_at, unheld}
use Rattle.laws.proofs.law_holders.Owner.{owner_holds}
use Rattle.laws.specs.lemma_bytes_view.Seen.{steps_from}
use Rattle.laws.proofs.lemma_bytes_model.Actions.{clash}
use Rattle.laws.proofs.lemma_bytes_view.World.{Seen, bare}
use Rattle.laws.proofs.lemma_bytes_view.PacketStep.{no_bytes}
use Rattle.laws.specs.law_pieces.Pieces.{paged, views_of}
use Rattle.laws.proofs.law_pieces.Pieces.{ops_steps, shown_from}
use Rattle.laws.proofs.lemma_bytes_view.Viewed.{Viewed}
use Rattle.laws.proofs.lemma_bytes_arm.Arms.{Reached}
use Rattle.laws.proofs.lemma_bytes_arm.Named.{AllOf, steps_placed, named_all, views_named, mentioned, written_mentioned}
use Rattle.laws.proofs.lemma_bytes_arm.Fences.{among_flat}
use Rattle.law_facts.proofs.Touches.{touched_so, written_so}
use Rattle.law_facts.proofs.Lasting.{any_dropped}
use Rattle.law_facts.proofs.Emits.{NewPage, stands, WaitsForAll, WaitsForChanges, seen_is}

module _ (script : Script) (c : Core) (owed_probes : OwedProbes) (m : Memory) (bytes : pages.PageBytes) (u : Viewed script c owed_probes m bytes) (ops : List Op) (ok : list_all (is_op script) ops ≡ true)
    (ready : (b : BufId) → has_buffer (first_mentions [] (flat_map buffers_of_op ops)) b ≡ true → (i : ℕ) → i < (decl script b).pages → Reached c b.0 i)
    (d : Core) (same : aperture d ≡ aperture c) (y : Job) (packets : y.packets ≡ packets_of (λ b. packet_place (buffer_in c b)) ops)
    (waits : y.waits ≡ flat_map (jobs_before_use c ops) (first_mentions [] (flat_map buffers_of_op ops))) where
  abbrev v : View
  v = u.view

  abbrev s : Seen script c owed_probes m bytes u.view
  s = u.seen

  abbrev g : Good no_bytes u.view
  g = u.good

  abbrev bs : List BufId
  bs = first_mentions [] (flat_map buffers_of_op ops)

  abbrev names : PageMap
  names = λ b. packet_place (buffer_in c b)

  abbrev changed : ℕ → Bool
  changed = λ b. is_written ops (record { 0 = b })

  abbrev used : ℕ → Bool
  used = λ b. has_buffer bs (record { 0 = b })

  within : (b : ℕ) → is_written ops (record { 0 = b }) ≡ true → has_buffer (first_mentions [] (flat_map buffers_of_op ops)) (record { 0 = b }) ≡ true
  within b h = mentioned (flat_map buffers_of_op ops) [] (record { 0 = b }) (written_mentioned ops (record { 0 = b }) h) refl

  is_used : (b : BufId) → has_buffer (flat_map buffers_of_op ops) b ≡ true → has_buffer bs b ≡ true
  is_used b h = mentioned (flat_map buffers_of_op ops) [] b h refl

  at_place : (b : BufId) → has_buffer bs b ≡ true → (i : ℕ) → i < (decl script b).pages → Stands v.place b.0 i
  at_place b h i l = let r = ready b h i l in record { somewhere = λ e. r.somewhere (sym (s.place b.0 i) ∙ e); reached = λ k e. r.unswapped k (sym (s.place b.0 i) ∙ e) }

  named : AllNamed v.place used changed (views_of ops)
  named =
      named_all v.place used changed (views_of ops)
      (views_named script (λ b i. (changed b ≡ true) × Stands v.place b i) (λ b i. (used b ≡ true) × Stands v.place b i) ops ok
      (λ b h i l. (h, at_place b (within b.0 h) i l))
      (λ b h i l. (is_used b h, at_place b (is_used b h) i l)))

  abbrev aimed_at : ℕ → ℕ → Page
  aimed_at = λ b i. seen (pages.translated (aperture c) (packet_place (buffer_in c (record { 0 = b })) i))

  placed_so : AllOf (λ b i. v.place b i ≡ aimed_at b i) (λ b i. v.place b i ≡ aimed_at b i) (views_of ops)
  placed_so =
      views_named script (λ b i. v.place b i ≡ aimed_at b i) (λ b i. v.place b i ≡ aimed_at b i) ops ok
      (λ b h i l. s.place b.0 i ∙ sym (ready b (within b.0 h) i l).names)
      (λ b h i l. s.place b.0 i ∙ sym (ready b (is_used b h) i l).names)

  abbrev due : ℕ → List ℕ
  due = λ k. unwrap_or (slice_get (pieces_shown m ops) k) []

  are_steps : steps_from (aperture c) due 0 (packets_of names ops) ≡ steps v.place (views_of ops) (paged m)
  are_steps =
      sym (shown_from (aperture c) (packets_of names ops) (pieces_shown m ops))
      ∙ sym (ops_steps (aperture c) names aimed_at (λ b i. refl) script ops m ok)
      ∙ sym (steps_placed v.place aimed_at (views_of ops) (paged m) placed_so)

  touched_step : (p : pages.Page) → touches d p y ≡ true → touched (steps v.place (views_of ops) (paged m)) (seen p) ≡ true
  touched_step p t =
      let all : list_any (packet_touches (aperture c) p) (packets_of names ops) ≡ true =
      subst (λ a. list_any (packet_touches a p) (packets_of names ops) ≡ true) same (subst (λ qs. list_any (packet_touches (aperture d) p) qs ≡ true) packets (any_dropped (packet_touches (aperture d) p) y.ran y.packets t)) in
      subst (λ xs. touched xs (seen p) ≡ true) are_steps (touched_so (aperture c) p due 0 (packets_of names ops) all)

  written_step : (p : pages.Page) → writes_to d p y ≡ true → written (steps v.place (views_of ops) (paged m)) (seen p) ≡ true
  written_step p t =
      let all : list_any (packet_writes (aperture c) p) (packets_of names ops) ≡ true =
      subst (λ a. list_any (packet_writes a p) (packets_of names ops) ≡ true) same (subst (λ qs. list_any (packet_writes (aperture d) p) qs ≡ true) packets (any_dropped (packet_writes (aperture d) p) y.ran y.packets t)) in
      subst (λ xs. written xs (seen p) ≡ true) are_steps (written_so (aperture c) p due 0 (packets_of names ops) all)

  -- ---- whom it waits for

  waits_use : (b : BufId) → has_buffer bs b ≡ true → (is : List JobId) → jobs_before_use c ops b ≡ is → (i : JobId) → list_any (same_job i) is ≡ true → list_any (same_job i) y.waits ≡ true
  waits_use b h is e i w =
      subst (λ js. list_any (same_job i) js ≡ true) (sym waits)
      (among_flat (same_job i) (jobs_before_use c ops) bs b h (subst (λ js. list_any (same_job i) js ≡ true) (sym e) w))

  abbrev before : BufId → Bool → List JobId
  before b q = unfinished c (if q then jobs_before_write (buffer_in c b) else jobs_before_read (buffer_in c b))

  pub arm_page : (p : pages.Page) → touches d p y ≡ true → NewPage c d y p
  arm_page p t =
      let z = touched_stood v g.nowhere g.placed used changed within (views_of ops) (paged m) named (seen p) (touched_step p t) in
      let b : BufId = record { 0 = z.buffer } in
      stands b z.page (at_live z)
      (by z (is_written ops b) refl)
    where
      some : (z : Stood v used (seen p)) → seen p ≡ Nowhere → ⊥
      some z e = let q : Idle ≡ Live z.buffer z.page = sym (ap v.owner e ∙ g.nowhere) ∙ z.owned in cc

      not_unheld : (p : pages.Page) (b k : ℕ) → Live b k ≡ unheld (seen p) → ⊥
      not_unheld pages.nowhere b k e = cc
      not_unheld (pages.vram i) b k e = cc
      not_unheld (pages.frame i) b k e = cc
      not_unheld (pages.slot i) b k e = cc

      at_live : (z : Stood v used (seen p)) → place_of c (record { 0 = z.buffer }) z.page ≡ p
      at_live z =
          seen_is (place_of c (record { 0 = z.buffer }) z.page) p
          (owner_holds (bare c) (seen p) (Live z.buffer z.page) (some z) (sym (s.owner (seen p)) ∙ z.owned) (not_unheld p z.buffer z.page))

      by : (z : Stood v used (seen p)) (q : Bool) → is_written ops (record { 0 = z.buffer }) ≡ q →
          WaitsForAll c y (record { 0 = z.buffer }) ⊎ ((writes_to d p y ≡ true → ⊥) × WaitsForChanges c y (record { 0 = z.buffer }))
      by z true e = inl (λ i w. waits_use (record { 0 = z.buffer }) z.these_has (unfinished c (jobs_before_write (buffer_at c z.buffer))) (ap (before (record { 0 = z.buffer })) e) i w)
      by z false e = inr (
        λ h.
            let w = written_stood v g.nowhere g.placed used changed within (views_of ops) (paged m) named (seen p) (written_step p h) in
            let two : Live w.buffer w.page ≡ Live z.buffer z.page = sym w.owned ∙ z.owned in
            let one : w.buffer ≡ z.buffer = cc in
            clash (ap (λ n. is_written ops (record { 0 = n })) (sym one) ∙ w.these_has) e,
        λ i w. waits_use (record { 0 = z.buffer }) z.these_has (unfinished c (jobs_before_read (buffer_at c z.buffer))) (ap (before (record { 0 = z.buffer })) e) i w,
      )
