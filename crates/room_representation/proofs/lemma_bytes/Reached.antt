-- The result of a write: its buffer is live and ready, so each page that it writes is in VRAM or in a frame.
use Rattle.std.proofs.Common.{◌≡◌, ℕ, ◌<◌, Bool, true, false, List, Some, Ok, IsTrue, refl, sym, ◌∙◌, ap, subst, length}
use Rattle.std.proofs.lemmas.Bool.{true≢false, false≢true}
use Rattle.ttm_base.specs.declared.Actor.{Actor}
use Rattle.ttm_base.specs.declared.Actor.TheVariants as actor
use Rattle.ttm_base.specs.declared.BufId.{BufId}
use Rattle.ttm_base.specs.declared.Mem.{Mem}
use Rattle.ttm_base.specs.declared.Mem.TheVariants.{System, Tt, Vram}
use Rattle.journal_model.specs.declared.script.Script.{Script}
use Rattle.journal_model.specs.declared.script.Command.{Command}
use Rattle.journal_model.specs.declared.script.Command.TheVariants as command
use Rattle.journal_model.specs.declared.entry.Entry.{Entry}
use Rattle.journal_model.specs.declared.entry.Kind.{Kind}
use Rattle.journal_model.specs.declared.entry.Kind.TheVariants as kind
use Rattle.journal_model.specs.declared.entry.Shown.{Shown}
use Rattle.journal_model.specs.declared.state.State.{State}
use Rattle.journal_model.specs.rules.State.{buffer, live_in}
use Rattle.journal_model.specs.rules.Commands.{command_at_work}
use Rattle.journal_model.specs.rules.Legal.{World, IsLegal, IsLegalNext, state_of, world_of}
use Rattle.journal_model.specs.rules.Next.{next}
use Rattle.journal_model.specs.rules.Places.{page_at}
use Rattle.journal_model.specs.rules.Ready.{is_ready}
use Rattle.journal_model.specs.scripts.ScriptRules.{is_script}
use Rattle.journal_model.specs.rules.Stores.{showing}
use Rattle.laws.proofs.law_state.Shown.{legal_step}
use Rattle.laws.proofs.law_transparent.Acts.{ready_filled}
use Rattle.laws.proofs.law_transparent.Carried.{clear_law, told_law}
use Rattle.laws.proofs.lemma_bytes_view.Tables.{full_is}
use Rattle.laws.specs.lemma_bytes_told.Told.{is_still, is_write, Told, still, makes, frees, leaves, takes, untakes, populates, swaps_in, depopulates, binds, unbinds, moves_up, moves_across, moves_down, evicts, catches, swaps_out, arms, reads, writes, results}
use Rattle.room_representation.specs.lemma_bytes.Mapped.{IsFull}
use Rattle.room_representation.proofs.lemma_bytes.Places.{IsReached, page_reached}

-- ---- what is told apart, and what is one alone

vram_not_system : Vram ≡ System → ⊥
vram_not_system e = cc

abbrev is_result : Kind → Bool
is_result (kind.Result r) = true
is_result k = false

not_result : (k : Kind) (r : Shown) → is_result k ≡ false → k ≡ kind.Result r → ⊥
not_result k r other e = false≢true (sym other ∙ ap is_result e)

read_not_write : (c b : BufId) (from len off : ℕ) (values : List ℕ) → Some (command.Read c from len) ≡ Some (command.Write b off values) → ⊥
read_not_write c b from len off values e = cc

one_command : (x y : Command) → Some x ≡ Some y → x ≡ y
one_command x y e = cc

one_written : (c b : BufId) (from off : ℕ) (bytes values : List ℕ) → command.Write c from bytes ≡ command.Write b off values → c ≡ b
one_written c b from off bytes values e = cc

-- ---- the command that the result answers

-- a live buffer that is ready for a command
pub record IsReadyFor (script : Script) (s : State) (cmd : Command) (b : BufId) : Type 0 where
  pub live : live_in s.core.buffers b ≡ Some (buffer s b)
  pub ready : is_ready script s cmd b ≡ true

module _ (script : Script) (s : State) (t : ℕ) (b : BufId) (off : ℕ) (values : List ℕ) (at_work : command_at_work script s t ≡ Some (command.Write b off values)) where
  of_write : (k : Kind) → Told script s t k → (r : Shown) → k ≡ kind.Result r → IsReadyFor script s (command.Write b off values) b
  of_write k (still q) r e = absurd (false≢true (subst (λ l. is_still l ≡ true) e q))
  of_write k (makes {b = c} dead) r e = absurd (not_result _ r refl e)
  of_write k (frees {b = c} there quiet) r e = absurd (not_result _ r refl e)
  of_write k (leaves {b = c} there) r e = absurd (not_result _ r refl e)
  of_write k (takes {b = c} {mem} {spans} place there m d free) r e = absurd (not_result _ r refl e)
  of_write k (untakes {b = c} {mem} there) r e = absurd (not_result _ r refl e)
  of_write k (populates {b = c} {f} there free l some out) r e = absurd (not_result _ r refl e)
  of_write k (swaps_in {b = c} {k = slot} {f} there free l some out) r e = absurd (not_result _ r refl e)
  of_write k (depopulates {b = c} there m) r e = absurd (not_result _ r refl e)
  of_write k (binds {b = c} there m t' f) r e = absurd (not_result _ r refl e)
  of_write k (unbinds {b = c} there quiet m) r e = absurd (not_result _ r refl e)
  of_write k (moves_up {b = c} there m t') r e = absurd (not_result _ r refl e)
  of_write k (moves_across {b = c} there m t') r e = absurd (not_result _ r refl e)
  of_write k (moves_down {b = c} there m t' f) r e = absurd (not_result _ r refl e)
  of_write k (evicts {b = c} there m t' f) r e = absurd (not_result _ r refl e)
  of_write k (catches {b = c} {w}) r e = absurd (not_result _ r refl e)
  of_write k (swaps_out {b = c} {k = slot} there m quiet f free) r e = absurd (not_result _ r refl e)
  of_write k (arms {engine} ops at live ready) r e = absurd (not_result _ r refl e)
  of_write k (reads c from len at none) r e = absurd (read_not_write c b from len off values (sym at ∙ at_work))
  of_write k (writes c from bytes at there ready quiet) r e =
      let same : command.Write c from bytes ≡ command.Write b off values = one_command (command.Write c from bytes) (command.Write b off values) (sym at ∙ at_work) in
      let one : c ≡ b = one_written c b from off bytes values same in
      subst (λ d. IsReadyFor script s (command.Write b off values) d) one (subst (λ (cmd : Command). IsReadyFor script s cmd c) same (record { live = there; ready = ready }))
  of_write k (results cmd at w q shows) r e =
      let same : cmd ≡ command.Write b off values = one_command cmd (command.Write b off values) (sym at ∙ at_work) in
      absurd (true≢false (sym (ap is_write same) ∙ w))

-- a legal result is a result in its thread's step
result_step : (script : Script) (w : World) (who : Actor) (r : Shown) → IsLegalNext script w (record { who = who; kind = kind.Result r }) → (x : Shown) × (next script w.state who ≡ Ok (kind.Result x))
result_step script w who r legal =
    let it : Entry = record { who = who; kind = kind.Result r } in
    let st = legal_step script w it legal in
    by st.kind st.step (ap (λ (e : Entry). e.kind) st.entry)
  where
    by : (l : Kind) → next script w.state who ≡ Ok l → kind.Result r ≡ showing script w.stores w.state who l → (x : Shown) × (next script w.state who ≡ Ok (kind.Result x))
    by (kind.Result x) h g = (x, h)
    by (kind.Packet n k piece) h g = absurd (not_result _ r refl (sym g))
    by l h g = absurd (not_result _ r refl (sym g))

module _ (script : Script) (journal : List Entry) (fits : IsTrue (is_script script)) (legal : IsLegal script journal) (thread : ℕ) (r : Shown) (b : BufId) (off : ℕ) (values : List ℕ)
    (legal_next : IsLegalNext script (world_of script journal) (record { who = actor.Thread thread; kind = kind.Result r }))
    (at_work : command_at_work script (state_of script journal) thread ≡ Some (command.Write b off values)) where
  -- the buffer of a write is ready for it
  pub write_ready : IsReadyFor script (state_of script journal) (command.Write b off values) b
  write_ready =
      let step = result_step script (world_of script journal) (actor.Thread thread) r legal_next in
      of_write script (state_of script journal) thread b off values at_work (kind.Result step.0) (told_law script journal thread (kind.Result step.0) fits legal step.1) step.0 refl

  -- each of its pages is in VRAM or in a frame
  pub write_reached : (i : ℕ) → i < length (buffer (state_of script journal) b).table → IsReached (page_at (buffer (state_of script journal) b) i)
  write_reached i l =
      let shape = (clear_law script fits journal legal).shapes b (buffer (state_of script journal) b) write_ready.live in
      page_reached (buffer (state_of script journal) b) i l (full (buffer (state_of script journal) b).mem refl)
      (λ e. shape.long (λ q. vram_not_system (sym e ∙ q)))
    where
      full : (m : Mem) → (buffer (state_of script journal) b).mem ≡ m → ((buffer (state_of script journal) b).mem ≡ Vram → ⊥) → IsFull (buffer (state_of script journal) b).table
      full Vram e ne = absurd (ne e)
      full Tt e ne = ((clear_law script fits journal legal).shapes b (buffer (state_of script journal) b) write_ready.live).full e
      full System e ne = full_is (buffer (state_of script journal) b).table (ready_filled script (state_of script journal) (command.Write b off values) b refl write_ready.ready e)
