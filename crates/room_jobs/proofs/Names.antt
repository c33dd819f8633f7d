-- How packets name pages of a table's buffers is how they name those of the state's.
use Rattle.std.proofs.Common.{◌≡◌, ℕ, ◌≤◌, zero, suc, Bool, true, false, List, [], ◌∷◌, Option, Some, None, length, refl, sym, ◌∙◌, ap, arith}
use Rattle.std.specs.Prelude.{map, nat_lt, option_map, option_and_then, slice_get, unwrap_or, if◌then◌else◌}
use Rattle.std.proofs.lemmas.Bool.Decides.{nat_tests}
use Rattle.ttm_base.specs.declared.BufId.{BufId}
use Rattle.ttm_base.specs.declared.Mem.{Mem}
use Rattle.ttm_base.specs.declared.Mem.TheVariants.{System, Tt, Vram}
use Rattle.journal_model.specs.declared.state.Buffer.{Buffer}
use Rattle.journal_model.specs.declared.state.Core.{Core}
use Rattle.journal_model.specs.rules.State.{buffer_in, live_in, new_buffer}
use Rattle.journal_model.specs.rules.Places.{name_in, packet_place}
use Rattle.bo_table.specs.Seen.{Bos}
use Rattle.bo_table.proofs.TableLaws.{get_map}
use Rattle.room_representation.specs.Bos.{unfenced}
use Rattle.room_jobs.specs.Standing.{standing_names}

-- names don't depend on fences
unfenced_place : (m : Mem) (x : Buffer) (i : ℕ) → name_in m (unfenced x) i ≡ name_in m x i
unfenced_place Vram x i = refl
unfenced_place Tt x i = refl
unfenced_place System x i = refl

-- whatever stands at a number
place_at : (o : Option (Option Buffer)) (i : ℕ) → packet_place (unwrap_or (option_and_then (λ y. y) (option_map (option_map unfenced) o)) (new_buffer 0)) i ≡ packet_place (unwrap_or (option_and_then (λ y. y) o) (new_buffer 0)) i
place_at None i = refl
place_at (Some None) i = refl
place_at (Some (Some x)) i = unfenced_place x.mem x i

-- after its end a list has nothing
nothing_past : {X : Type 0} (xs : List X) (i : ℕ) → length xs ≤ i → slice_get xs i ≡ None
nothing_past [] i h = refl
nothing_past (x ∷ xs) zero h = absurd (omega (arith, h))
nothing_past (x ∷ xs) (suc i) h = nothing_past xs i (omega (arith, h))

-- what is not below is at least that
at_least : (i n : ℕ) → nat_lt i n ≡ false → n ≤ i
at_least i n h = grind (arith, nat_tests)

-- of a table that has the buffers of the state
pub names_same : (c : Core) (t : Bos) → t.buffers ≡ map (option_map unfenced) c.buffers → length t.reservations ≡ length c.buffers → standing_names t ≡ (λ b. packet_place (buffer_in c b))
names_same c t h g = λ k b i. at b i k
  where
    live : (b : BufId) (i : ℕ) → packet_place (unwrap_or (live_in t.buffers b) (new_buffer 0)) i ≡ packet_place (buffer_in c b) i
    live b i =
        ap (λ xs. packet_place (unwrap_or (live_in xs b) (new_buffer 0)) i) h
        ∙ ap (λ o. packet_place (unwrap_or (option_and_then (λ y. y) o) (new_buffer 0)) i) (get_map (option_map unfenced) c.buffers b.0) ∙ place_at (slice_get c.buffers b.0) i

    by : (b : BufId) (i : ℕ) (q : Bool) → nat_lt b.0 (length t.reservations) ≡ q → packet_place (unwrap_or (if q then live_in t.buffers b else None) (new_buffer 0)) i ≡ packet_place (buffer_in c b) i
    by b i true e = live b i
    by b i false e =
        let past : length c.buffers ≤ b.0 = (let l = at_least b.0 (length t.reservations) e in omega (arith, l, g)) in
        ap (λ (o : Option (Option Buffer)). packet_place (unwrap_or (option_and_then (λ y. y) o) (new_buffer 0)) i) (sym (nothing_past c.buffers b.0 past))

    at : (b : BufId) (i : ℕ) → standing_names t b i ≡ packet_place (buffer_in c b) i
    at b i = by b i (nat_lt b.0 (length t.reservations)) refl
