-- A live buffer that the table lends.
use Rattle.std.proofs.Common.{◌≡◌, ℕ, zero, suc, ◌<◌, Bool, true, false, List, [], ◌∷◌, Option, Some, None, length, refl, sym, ◌∙◌, ap, arith}
use Rattle.std.specs.Prelude.{is_some, map, option_map, option_and_then, slice_get, unwrap_or, if◌then◌else◌}
use Rattle.ttm_base.specs.declared.BufId.{BufId}
use Rattle.bo_table.specs.declared.bo.Bo.{Bo}
use Rattle.bo_table.specs.Seen.{IsBo, body_of}
use Rattle.bo_table.proofs.TableLaws.{get_map}
use Rattle.journal_model.specs.declared.script.Script.{Script}
use Rattle.journal_model.specs.declared.state.State.{State}
use Rattle.journal_model.specs.declared.state.Buffer.{Buffer}
use Rattle.journal_model.specs.declared.entry.Entry.{Entry}
use Rattle.journal_model.specs.rules.State.{buffer, is_live, live_in, new_buffer}
use Rattle.journal_model.specs.rules.Legal.{state_of}
use Rattle.laws.proofs.law_sound.Along.{sound_law}
use Rattle.laws.specs.lemma_bytes_told.Told.{IsThere}
use Rattle.room_representation.specs.declared.parts.Parts.{Parts}
use Rattle.room_representation.specs.Bos.{unfenced}
use Rattle.room_representation.specs.Held.{AreHeld}
use Rattle.room_representation.specs.steps.Lent.{as_buffer}

-- a live buffer stands at its number
pub stands_at : (bs : List (Option Buffer)) (b : BufId) (x : Buffer) → live_in bs b ≡ Some x → slice_get bs b.0 ≡ Some (Some x)
stands_at bs b x h = by (slice_get bs b.0) h
  where
    by : (o : Option (Option Buffer)) → option_and_then (λ y. y) o ≡ Some x → o ≡ Some (Some x)
    by None e = cc
    by (Some None) e = cc
    by (Some (Some y)) e = ap (λ z. Some z) e

-- what is at a number of a list is there
pub is_below : {X : Type 0} (xs : List X) (i : ℕ) (x : X) → slice_get xs i ≡ Some x → i < length xs
is_below [] i x e = cc
is_below (y ∷ xs) zero x e = omega arith
is_below (y ∷ xs) (suc i) x e = let r = is_below xs i x e in omega (arith, r)

-- what is live is there
pub is_there : (s : State) (b : BufId) → is_live s b ≡ true → IsThere s b
is_there s b h = by (live_in s.core.buffers b) h
  where
    by : (o : Option Buffer) → is_some o ≡ true → o ≡ Some (unwrap_or o (new_buffer 0))
    by None k = cc
    by (Some x) k = refl

-- a live buffer that is lent is the one in the table
pub body_is : (bo : Bo) (x : Buffer) → body_of bo ≡ Some x → as_buffer bo ≡ x
body_is bo x h = by bo.alive h
  where
    by : (q : Bool) → (if q then Some (as_buffer bo) else None) ≡ Some x → as_buffer bo ≡ x
    by true e = cc
    by false e = cc

module _ (script : Script) (journal : List Entry) (p : Parts) (held : AreHeld script journal p) (b : BufId) (live : IsThere (state_of script journal) b) where
  -- a live buffer can be lent
  pub lent_below : b.0 < length p.bos.reservations
  lent_below =
      let few = is_below (state_of script journal).core.buffers b.0 (Some (buffer (state_of script journal) b)) (stands_at (state_of script journal).core.buffers b (buffer (state_of script journal) b) live) in
      let reservations = (sound_law script journal held.fits held.legal).owned.reservations in
      let same = ap length held.represents.bos.reservations_are in
      omega (arith, few, reservations, same)

  -- as the state has it
  pub lent_is : (bo : Bo) → IsBo p.bos b bo → as_buffer bo ≡ unfenced (buffer (state_of script journal) b)
  lent_is bo is =
      let at : slice_get p.bos.buffers b.0 ≡ Some (Some (unfenced (buffer (state_of script journal) b))) =
      ap (λ xs. slice_get xs b.0) held.represents.bos.buffers_are ∙ get_map (option_map unfenced) (state_of script journal).core.buffers b.0 ∙ ap (option_map (option_map unfenced)) (stands_at (state_of script journal).core.buffers b (buffer (state_of script journal) b) live) in
      let both : Some (body_of bo) ≡ Some (Some (unfenced (buffer (state_of script journal) b))) = sym is.body ∙ at in
      let body : body_of bo ≡ Some (unfenced (buffer (state_of script journal) b)) = cc in
      body_is bo (unfenced (buffer (state_of script journal) b)) body

  -- with the table that it has there
  pub lent_table : (bo : Bo) → IsBo p.bos b bo → bo.table ≡ (buffer (state_of script journal) b).table
  lent_table bo is = ap (λ (x : Buffer). x.table) (lent_is bo is)
