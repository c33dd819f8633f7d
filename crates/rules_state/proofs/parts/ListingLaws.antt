-- Where a buffer is listed is all that the lists depend on.
use Rattle.std.proofs.Common.{◌≡◌, ℕ, zero, suc, true, false, List, [], ◌∷◌, Some, None, Option, refl, ap, ◌∙◌}
use Rattle.std.specs.Prelude.{◌==◌, option_map, option_and_then, slice_get, slice_set, unwrap_or, if◌then◌else◌}
use Rattle.ttm_base.specs.declared.Mem.{Mem}
use Rattle.ttm_base.specs.declared.BufId.{BufId}
use Rattle.journal_model.specs.declared.script.Script.{Script}
use Rattle.journal_model.specs.declared.state.Buffer.{Buffer}
use Rattle.journal_model.specs.declared.state.Reservation.{Reservation}
use Rattle.ttm_base.specs.declared.Stamp.{Stamp}
use Rattle.journal_model.specs.rules.ApplyCommands.{with_holder}
use Rattle.journal_model.specs.rules.State.{live_in, changed, reservation_in, reservation_changed}
use Rattle.journal_model.specs.rules.Lists.{listed_as, put_on, taken_off, touched}
use Rattle.state_words.proofs.Pins.{pins-reservation_changed}
use Rattle.rules_state.specs.parts.Listing.{listed_mem, listed_in, relisted}

pub listed_as_in : (script : Script) (lists : List (List BufId)) (b : BufId) (g : Reservation) (x : Option Buffer) → listed_as script lists b g x ≡ listed_in script lists b (listed_mem g x)
listed_as_in script lists b g None = refl
listed_as_in script lists b g (Some x) =
    elim (g.pins == 0) as (λ t. (if t then put_on script (taken_off lists b) b x.mem else taken_off lists b) ≡ listed_in script lists b (if t then Some x.mem else None)) [
      | true ↦ refl
      | false ↦ refl
    ]

-- the same by index
live_at : (f : Buffer → Buffer) (buffers : List (Option Buffer)) (i : ℕ) → option_and_then (λ x. x) (slice_get (slice_set buffers i (option_map f (option_and_then (λ x. x) (slice_get buffers i)))) i) ≡ option_map f (option_and_then (λ x. x) (slice_get buffers i))
live_at f [] i = refl
live_at f (x ∷ xs) zero = refl
live_at f (x ∷ xs) (suc i) = live_at f xs i

-- a buffer that was changed is live where it was
pub live_in-changed : (f : Buffer → Buffer) (buffers : List (Option Buffer)) (b : BufId) → live_in (changed f buffers b) b ≡ option_map f (live_in buffers b)
live_in-changed f buffers b = live_at f buffers b.0

-- a buffer that went to a memory type
listed_mem-map : (f : Buffer → Buffer) (mem : Mem) → ((x : Buffer) → (f x).mem ≡ mem) → (g : Reservation) (x : Option Buffer) → listed_mem g (option_map f x) ≡ option_map (λ m. mem) (listed_mem g x)
listed_mem-map f mem moves g None = refl
listed_mem-map f mem moves g (Some x) =
    elim (g.pins == 0) as (λ t. (if t then Some (f x).mem else None) ≡ option_map (λ m. mem) (if t then Some x.mem else None)) [
      | true ↦ ap Some (moves x)
      | false ↦ refl
    ]

-- the lists after a buffer was changed that went to a memory type
pub touched-moved : (f : Buffer → Buffer) (mem : Mem) → ((x : Buffer) → (f x).mem ≡ mem) → (script : Script) (buffers : List (Option Buffer)) (reservations : List Reservation) (lists : List (List BufId)) (b : BufId) → touched script (changed f buffers b) reservations lists b ≡ relisted script buffers reservations lists b mem
touched-moved f mem moves script buffers reservations lists b =
    rw (live_in-changed f buffers b) (listed_as_in script lists b (reservation_in reservations b) (option_map f (live_in buffers b)) ∙ ap (listed_in script lists b) (listed_mem-map f mem moves (reservation_in reservations b) (live_in buffers b)))

-- pins alone decide whether a buffer is listed
listed_as-pins : (script : Script) (lists : List (List BufId)) (b : BufId) (g h : Reservation) → g.pins ≡ h.pins → (x : Option Buffer) → listed_as script lists b g x ≡ listed_as script lists b h x
listed_as-pins script lists b g h same None = refl
listed_as-pins script lists b g h same (Some x) = rw same

-- a buffer that was let go is listed as before
pub touched_released : (holder : Option Stamp) (script : Script) (buffers : List (Option Buffer)) (reservations : List Reservation) (lists : List (List BufId)) (b c : BufId) → touched script buffers (reservation_changed (with_holder holder) reservations b) lists c ≡ touched script buffers reservations lists c
touched_released holder script buffers reservations lists b c =
    listed_as-pins script lists c (reservation_in (reservation_changed (with_holder holder) reservations b) c) (reservation_in reservations c) (pins-reservation_changed holder reservations b c) (live_in buffers c)
