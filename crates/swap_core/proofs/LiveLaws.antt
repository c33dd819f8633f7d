-- A buffer that the rooms lend is that of the state, and where none is lent the state has none.
use Rattle.std.proofs.lemmas.List.{length-map}
use Rattle.std.proofs.Common.{◌≡◌, ◌≤◌, Bool, true, false, List, Option, Some, None, length, refl, sym, ◌∙◌, ap, arith}
use Rattle.std.specs.Prelude.{option_map, option_and_then, slice_get, unwrap_or, if◌then◌else◌}
use Rattle.ttm_base.specs.declared.BufId.{BufId}
use Rattle.bo_table.specs.declared.bo.Bo.{Bo}
use Rattle.bo_table.specs.Seen.{IsBo, body_of}
use Rattle.bo_table.proofs.TableLaws.{get_map}
use Rattle.journal_model.specs.declared.script.Script.{Script}
use Rattle.journal_model.specs.declared.state.State.{State}
use Rattle.journal_model.specs.declared.state.Buffer.{Buffer}
use Rattle.journal_model.specs.declared.entry.Entry.{Entry}
use Rattle.journal_model.specs.rules.State.{buffer, reservation_in, new_buffer, no_reservation}
use Rattle.journal_model.specs.rules.Legal.{state_of}
use Rattle.room_queries.proofs.Known.{past_end}
use Rattle.laws.proofs.law_sound.Along.{sound_law}
use Rattle.room_representation.specs.steps.Lent.{as_buffer}
use Rattle.room_representation.specs.declared.parts.Parts.{Parts}
use Rattle.room_representation.specs.Bos.{unfenced}
use Rattle.room_representation.specs.Held.{AreHeld}
use Rattle.swap_core.specs.Lent.{IsAsIn}

-- the buffer of a place that may be empty
here : Option (Option Buffer) → Buffer
here o = unwrap_or (option_and_then (λ x. x) o) (new_buffer 0)

here_unfenced : (o : Option (Option Buffer)) → unfenced (here o) ≡ here (option_map (option_map unfenced) o)
unfolding here
here_unfenced None = refl
here_unfenced (Some None) = refl
here_unfenced (Some (Some x)) = refl

module _ (script : Script) (journal : List Entry) (p : Parts) (held : AreHeld script journal p) (b : BufId) where
  abbrev s : State
  s = state_of script journal

  in_table : unfenced (buffer s b) ≡ here (slice_get p.bos.buffers b.0)
  unfolding here
  in_table =
      here_unfenced (slice_get s.core.buffers b.0)
      ∙ ap here (sym (get_map (option_map unfenced) s.core.buffers b.0) ∙ ap (λ xs. slice_get xs b.0) (sym held.represents.bos.buffers_are))

  -- none beyond the table
  pub lent_beyond : length p.bos.reservations ≤ b.0 → unfenced (buffer s b) ≡ new_buffer 0
  unfolding here
  lent_beyond h =
      let reservations = (sound_law script journal held.fits held.legal).owned.reservations in
      let same = ap length held.represents.bos.reservations_are in
      let many : length p.bos.buffers ≡ length s.core.buffers = ap length held.represents.bos.buffers_are ∙ length-map s.core.buffers (option_map unfenced) in
      in_table ∙ ap here (past_end p.bos.buffers b.0 (omega (arith, h, reservations, same, many)))

  module _ (bo : Bo) (is : IsBo p.bos b bo) where
    lent_body : unfenced (buffer s b) ≡ here (Some (body_of bo))
    lent_body = in_table ∙ ap here is.body

    -- none where it is dead
    pub lent_dead : bo.alive ≡ false → unfenced (buffer s b) ≡ new_buffer 0
    unfolding here
    lent_dead h = lent_body ∙ ap (λ (q : Bool). here (Some (if q then Some (as_buffer bo) else None))) h

    -- the one of the state
    pub lent_alive : bo.alive ≡ true → IsAsIn s b bo
    unfolding here
    lent_alive h = record {
      stands = sym (lent_body ∙ ap (λ (q : Bool). here (Some (if q then Some (as_buffer bo) else None))) h);
      held = sym (ap (λ gs. reservation_in gs b) (sym held.represents.bos.reservations_are) ∙ ap (λ o. unwrap_or o no_reservation) is.reservation);
    }
