-- A lent buffer stands where the state has it.
use Rattle.std.proofs.Common.{◌≡◌, ℕ, zero, suc, Bool, true, false, List, [], ◌∷◌, Option, Some, None, ap, refl, sym, ◌∙◌, if◌then◌else◌}
use Rattle.std.specs.Prelude.{map, option_and_then, option_map, slice_get}
use Rattle.ttm_base.specs.declared.BufId.{BufId}
use Rattle.bo_table.specs.declared.bo.Bo.{Bo}
use Rattle.bo_table.specs.Seen.{Bos, IsBo, body_of}
use Rattle.room_representation.specs.Bos.{AreBos, unfenced}
use Rattle.journal_model.specs.declared.script.Script.{Script}
use Rattle.journal_model.specs.declared.state.Buffer.{Buffer}
use Rattle.journal_model.specs.declared.state.Reservation.{Reservation}
use Rattle.journal_model.specs.rules.State.{live_in}
use Rattle.cpu_maps.specs.declared.area.Area.{Area}
use Rattle.map_follow.specs.declared.found.Found.{Found}
use Rattle.map_follow.specs.Founds.{with_found}

get_map : {X Y : Type 0} (f : X → Y) (xs : List X) (i : ℕ) → slice_get (map f xs) i ≡ option_map f (slice_get xs i)
get_map f [] i = refl
get_map f (x ∷ xs) zero = refl
get_map f (x ∷ xs) (suc i) = get_map f xs i

stands_at : (buffers : List (Option Buffer)) (b : BufId) (x : Buffer) → live_in buffers b ≡ Some x → slice_get buffers b.0 ≡ Some (Some x)
stands_at buffers b x h = by (slice_get buffers b.0) refl h
  where
    by : (o : Option (Option Buffer)) → slice_get buffers b.0 ≡ o → option_and_then (λ y. y) o ≡ Some x → slice_get buffers b.0 ≡ Some (Some x)
    by None e g = cc
    by (Some y) e g = e ∙ ap Some g

module _ (script : Script) (buffers : List (Option Buffer)) (reservations : List Reservation) (last : List ℕ) (t : Bos) (are : AreBos script buffers reservations last t)
    (b : BufId) (bo : Bo) (is : IsBo t b bo) (x : Buffer) (live : live_in buffers b ≡ Some x) where
  body : body_of bo ≡ Some (unfenced x)
  body =
      let at : slice_get t.buffers b.0 ≡ Some (Some (unfenced x)) =
      ap (λ xs. slice_get xs b.0) are.buffers_are ∙ get_map (option_map unfenced) buffers b.0 ∙ ap (option_map (option_map unfenced)) (stands_at buffers b x live) in
      let both : Some (body_of bo) ≡ Some (Some (unfenced x)) = sym is.body ∙ at in
      cc

  abbrev bare : Bo → Buffer
  bare bo = record { mem = bo.mem; spans = bo.spans; table = bo.table; targets = bo.targets; fences = [] }

  stands : bare bo ≡ unfenced x
  stands = by bo.alive body
    where
      by : (q : Bool) → (if q then Some (bare bo) else None) ≡ Some (unfenced x) → bare bo ≡ unfenced x
      by true e = cc
      by false e = cc

  pub found_same : (found : Found) (areas : List Area) → found.pages.b ≡ b →
      with_found found bo.mem bo.spans bo.table areas ≡ with_found found x.mem x.spans x.table areas
  found_same found areas same = ap (λ (y : Buffer). with_found found y.mem y.spans y.table areas) stands
