-- What a legal journal tells of its state and of the entry after it, as far as the stores depend on it.
use Rattle.std.proofs.Common.{◌≡◌, ℕ, true, false, List, Option, Some, None, Ok, Err, IsTrue, refl, sym, ◌∙◌, ap}
use Rattle.std.specs.Prelude.{slice_get}
use Rattle.ttm_base.specs.declared.Actor.{Actor}
use Rattle.ttm_base.specs.declared.Actor.TheVariants as actor
use Rattle.ttm_base.specs.declared.BufId.{BufId}
use Rattle.ttm_base.specs.declared.JobId.{JobId}
use Rattle.ttm_base.specs.declared.Mem.TheVariants.{System, Tt, Vram}
use Rattle.ttm_base.specs.declared.Need.TheVariants as need
use Rattle.journal_model.specs.declared.script.Script.{Script}
use Rattle.journal_model.specs.declared.entry.Entry.{Entry}
use Rattle.journal_model.specs.declared.entry.Kind.{Kind}
use Rattle.journal_model.specs.declared.entry.Kind.TheVariants as kind
use Rattle.journal_model.specs.declared.state.Buffer.{Buffer}
use Rattle.journal_model.specs.declared.state.Ghost.{Ghost}
use Rattle.journal_model.specs.declared.state.State.{State}
use Rattle.journal_model.specs.rules.State.{buffer, live_in}
use Rattle.journal_model.specs.rules.Holds.{held_frames}
use Rattle.journal_model.specs.rules.Next.{next}
use Rattle.journal_model.specs.rules.PageSteps.{unless_waiting}
use Rattle.journal_model.specs.scripts.ScriptRules.{is_script}
use Rattle.journal_model.specs.rules.Search.{Step}
use Rattle.journal_model.specs.rules.Waits.{waited_for}
use Rattle.journal_model.specs.rules.Legal.{World, IsLegal, IsLegalNext, state_of, world_of}
use Rattle.laws.proofs.law_state.Shown.{shows, shown_plain, legal_step}
use Rattle.laws.proofs.law_owners.Taken.{lowest_is_free}
use Rattle.laws.proofs.law_transparent.PagesLaw.{ghosts_law}
use Rattle.laws.proofs.law_transparent.Carried.{clear_law, told_law}
use Rattle.laws.proofs.lemma_bytes_view.Tables.{full_is}
use Rattle.laws.specs.lemma_bytes_told.Told.{is_still, Told, still, makes, frees, leaves, takes, untakes, populates, swaps_in, depopulates, binds, unbinds, moves_up, moves_across, moves_down, evicts, catches, swaps_out, arms, reads, writes, results}
use Rattle.room_representation.specs.lemma_bytes.Mapped.{IsFull}
use Rattle.room_representation.specs.lemma_bytes.Telling.{Tells}

vram_out : (s : State) (b : BufId) → (buffer s b).mem ≡ Vram → (buffer s b).mem ≡ Tt → ⊥
vram_out s b m e = let z : Vram ≡ Tt = sym m ∙ e in cc

system_out : (s : State) (b : BufId) → (buffer s b).mem ≡ System → (buffer s b).mem ≡ Tt → ⊥
system_out s b m e = let z : System ≡ Tt = sym m ∙ e in cc

-- ---- by kind

module _ (script : Script) (s : State) (t : ℕ) where
  still_tells : (k : Kind) → is_still k ≡ true → Tells script s k
  still_tells (kind.Ticket stamp) h = tt
  still_tells (kind.Reserve b) h = tt
  still_tells (kind.Backoff b stamp) h = tt
  still_tells (kind.Loose b) h = tt
  still_tells (kind.Skip b) h = tt
  still_tells (kind.Dry b k w) h = tt
  still_tells (kind.NoPages b) h = tt
  still_tells (kind.Bulk group) h = tt
  still_tells (kind.Refused d) h = tt
  still_tells _ h = cc

  told_tells : (k : Kind) → Told script s t k → Tells script s k
  told_tells k (still q) = still_tells k q
  told_tells k (makes {b} dead) = dead
  told_tells k (frees {b} there quiet) = there
  told_tells k (leaves {b} there) = there
  told_tells k (takes {b} {mem} {spans} place there m c free) = tt
  told_tells k (untakes {b} {mem} there) = tt
  told_tells k (populates {b} {f} there free l some out) = record { outside = record { live = there; out = out }; frame = (lowest_is_free (held_frames s.core) script.sizes.frames f free).1 }
  told_tells k (swaps_in {b} {k = slot} {f} there free l some out) =
      record { gets = record { outside = record { live = there; out = out }; frame = (lowest_is_free (held_frames s.core) script.sizes.frames f free).1 }; at = l }
  told_tells k (depopulates {b} there m) = record { live = there; out = vram_out s b m }
  told_tells k (binds {b} there m t' f) = record { live = there; mem = m; full = full_is (buffer s b).table f }
  told_tells k (unbinds {b} there quiet m) = there
  told_tells k (moves_up {b} there m t') = there
  told_tells k (moves_across {b} there m t') = there
  told_tells k (moves_down {b} there m t' f) = record { live = there; mem = m; full = full_is (buffer s b).table f }
  told_tells k (evicts {b} there m t' f) = record { live = there; mem = m; full = full_is (buffer s b).table f }
  told_tells k (catches {b} {w}) = tt
  told_tells k (swaps_out {b} {k = slot} there m quiet f free) = record { live = there; out = system_out s b m }
  told_tells k (arms {engine} ops at live ready) = tt
  told_tells k (reads b off len at none) = tt
  told_tells k (writes b off bytes at there ready quiet) = tt
  told_tells k (results cmd at w q r) = tt

-- ---- a step of the actor

-- a legal entry that shows nothing is its actor's step
pub plain_step : (script : Script) (w : World) (who : Actor) (k : Kind) → shows k ≡ false → IsLegalNext script w (record { who = who; kind = k }) → next script w.state who ≡ Ok k
plain_step script w who k plain legal =
    let it : Entry = record { who = who; kind = k } in
    let st = legal_step script w it legal in
    let is = ap (λ (e : Entry). e.kind) st.entry in
    let same = is ∙ shown_plain script w.stores w.state who st.kind (sym (ap shows is) ∙ plain) in
    st.step ∙ ap Ok (sym same)

-- the ghost that goes is the first, and no other has its number
pub record IsReaped (s : State) (n : ℕ) : Type 0 where
  pub ghost : Ghost
  pub is : slice_get s.core.ghosts 0 ≡ Some ghost
  pub num : ghost.num ≡ n
  pub only : (j : ℕ) (h : Ghost) → slice_get s.core.ghosts j ≡ Some h → h.num ≡ n → j ≡ 0

module _ (script : Script) (journal : List Entry) (fits : IsTrue (is_script script)) (legal : IsLegal script journal) where
  -- a buffer in TT has all its frames
  pub full_in_tt : (b : BufId) (x : Buffer) → live_in (state_of script journal).core.buffers b ≡ Some x → x.mem ≡ Tt → IsFull x.table
  full_in_tt b x live e = ((clear_law script fits journal legal).shapes b x live).full e

  -- what a thread's next entry tells
  pub entry_tells : (t : ℕ) (k : Kind) → shows k ≡ false → IsLegalNext script (world_of script journal) (record { who = actor.Thread t; kind = k }) → Tells script (state_of script journal) k
  entry_tells t k plain next_is =
      told_tells script (state_of script journal) t k (told_law script journal t k fits legal (plain_step script (world_of script journal) (actor.Thread t) k plain next_is))

  -- what the reaper's next entry tells
  pub reap_tells : (n : ℕ) → IsLegalNext script (world_of script journal) (record { who = actor.Reaper; kind = kind.Reap n }) → IsReaped (state_of script journal) n
  reap_tells n next_is = by (slice_get (state_of script journal).core.ghosts 0) refl (plain_step script (world_of script journal) actor.Reaper (kind.Reap n) refl next_is)
    where
      named : (x : Ghost) (w : Option JobId) → unless_waiting w (kind.Reap x.num) ≡ Ok (kind.Reap n) → x.num ≡ n
      named x None h = cc
      named x (Some i) h = cc

      by : (o : Option Ghost) → slice_get (state_of script journal).core.ghosts 0 ≡ o →
          (elim o as (λ o. Step) [ None ↦ Err need.NoGhost | Some x ↦ unless_waiting (waited_for (state_of script journal).core x.jobs) (kind.Reap x.num) ]) ≡ Ok (kind.Reap n) → IsReaped (state_of script journal) n
      by None e h = cc
      by (Some x) e h =
          let num = named x (waited_for (state_of script journal).core x.jobs) h in
          record { ghost = x; is = e; num = num; only = λ j y at m. (ghosts_law script journal fits legal).distinct j 0 y x at e (m ∙ sym num) }
