-- Buffers by number, as the state and the table of buffers tell them (ttm_buffer_object).
use Rattle.std.specs.Prelude.{◌≡◌, ℕ, List, [], Option, map, option_map}
use Rattle.bo_table.specs.Seen.{Bos}
use Rattle.journal_model.specs.declared.script.Script.{Script}
use Rattle.journal_model.specs.declared.state.Buffer.{Buffer}
use Rattle.journal_model.specs.declared.state.Reservation.{Reservation}
use Rattle.room_representation.specs.Fences.{AreFences}

-- the buffer without its fences, which stand apart
abbrev pub unfenced : Buffer → Buffer
unfenced x = record x { fences = [] }

-- the table has the buffers, their reservations, their fences as sets, and their declared numbers of pages
pub record AreBos (script : Script) (buffers : List (Option Buffer)) (reservations : List Reservation) (last : List ℕ) (t : Bos) : Type 0 where
  pub buffers_are : t.buffers ≡ map (option_map unfenced) buffers
  pub reservations_are : t.reservations ≡ reservations
  pub fences_are : AreFences last buffers t.fences
  pub pages_are : t.pages ≡ map (λ d. d.pages) script.buffers
