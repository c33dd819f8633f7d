-- What a table of buffers is seen as: buffers without their fences, reservations, the latest jobs of each buffer, and how many pages it has.
use Rattle.std.specs.Prelude.{◌≡◌, ℕ, List, [], Option, Some, None, map, option_map, length, replicate, slice_get, slice_set, unwrap_or, if◌then◌else◌}
use Rattle.ttm_base.specs.declared.BufId.{BufId}
use Rattle.ttm_base.specs.declared.JobId.{JobId}
use Rattle.ttm_base.specs.declared.Mem.{Mem}
use Rattle.ttm_base.specs.declared.Usage.{Usage}
use Rattle.fence_core.specs.declared.fence_set.Latest.{Latest}
use Rattle.fence_core.specs.Fences.{nothing_kept, added}
use Rattle.journal_model.specs.declared.script.Decl.{Decl}
use Rattle.journal_model.specs.declared.state.Buffer.{Buffer}
use Rattle.journal_model.specs.declared.state.Reservation.{Reservation}
use Rattle.journal_model.specs.rules.State.{no_reservation, new_buffer, changed, reservation_changed, target_spans, with_target}
use Rattle.journal_model.specs.rules.ApplyMoves.{table_left}
use Rattle.bo_table.specs.declared.bo.Bo.{Bo}

-- the buffers by declared number. Of all the fences of a buffer the latest job of each context and usage is kept. A dead buffer has its pages and
-- contexts, too
pub record Bos : Type 0 where
  pub buffers : List (Option Buffer)
  pub reservations : List Reservation
  pub fences : List (List Latest)
  pub pages : List ℕ

-- ---- one buffer

-- the buffer without its fences, if it is live
abbrev pub body_of : Bo → Option Buffer
body_of bo = if bo.alive then Some (record { mem = bo.mem; spans = bo.spans; table = bo.table; targets = bo.targets; fences = [] }) else None

abbrev pub reservation_of : Bo → Reservation
reservation_of bo = record { pins = bo.pins; holder = bo.resv.holder }

abbrev pub seen : List Bo → Bos
seen bos =
    record {
      buffers = map body_of bos;
      reservations = map reservation_of bos;
      fences = map (λ bo. bo.resv.fences) bos;
      pages = map (λ bo. length bo.table) bos;
    }

-- `bo` is buffer `b` of the table
pub record IsBo (t : Bos) (b : BufId) (bo : Bo) : Type 0 where
  pub body : slice_get t.buffers b.0 ≡ Some (body_of bo)
  pub reservation : slice_get t.reservations b.0 ≡ Some (reservation_of bo)
  pub fences : slice_get t.fences b.0 ≡ Some bo.resv.fences
  pub pages : slice_get t.pages b.0 ≡ Some (length bo.table)

-- the buffer is dead, with `count` pages, and with sets of jobs of `contexts` contexts
pub record IsDead (count contexts : ℕ) (bo : Bo) : Type 0 where
  pub body : body_of bo ≡ None
  pub reservation : reservation_of bo ≡ no_reservation
  pub fences : bo.resv.fences ≡ replicate contexts nothing_kept
  pub pages : length bo.table ≡ count

-- the buffer at its target in the memory type, as after a move but for the job
abbrev pub carried : Mem → Buffer → Buffer
carried mem x = record x { mem = mem; spans = target_spans mem x; targets = with_target mem None x.targets; table = table_left x.mem x.table }

-- the buffer is changed by `f`, where it is live, and all else stays
pub record IsChanged (f : Buffer → Buffer) (old new : Bo) : Type 0 where
  pub body : body_of new ≡ option_map f (body_of old)
  pub reservation : reservation_of new ≡ reservation_of old
  pub fences : new.resv.fences ≡ old.resv.fences
  pub pages : length new.table ≡ length old.table

-- the reservation is changed by `f`, and all else stays
pub record IsReservationChanged (f : Reservation → Reservation) (old new : Bo) : Type 0 where
  pub body : body_of new ≡ body_of old
  pub reservation : reservation_of new ≡ f (reservation_of old)
  pub fences : new.resv.fences ≡ old.resv.fences
  pub pages : length new.table ≡ length old.table

-- the buffer is made again, or dead, with nothing that holds or uses it
pub record IsReset (o : Option Buffer) (old new : Bo) : Type 0 where
  pub body : body_of new ≡ o
  pub reservation : reservation_of new ≡ no_reservation
  pub fences : new.resv.fences ≡ replicate (length old.resv.fences) nothing_kept
  pub pages : length new.table ≡ length old.table

-- one more job uses the buffer, and all else stays
pub record IsUsed (job : JobId) (how : Usage) (old new : Bo) : Type 0 where
  pub body : body_of new ≡ body_of old
  pub reservation : reservation_of new ≡ reservation_of old
  pub fences : new.resv.fences ≡ added old.resv.fences job how
  pub pages : length new.table ≡ length old.table

-- ---- tables

-- the table with all buffers dead
abbrev pub first_bos : List Decl → ℕ → Bos
first_bos decls contexts =
    record {
      buffers = map (λ d. None) decls;
      reservations = map (λ d. no_reservation) decls;
      fences = map (λ d. replicate contexts nothing_kept) decls;
      pages = map (λ d. d.pages) decls;
    }

-- the set without a job, for each context
abbrev pub without_jobs : List Latest → List Latest
without_jobs set = replicate (length set) nothing_kept

-- the jobs of a buffer
abbrev pub fences_at : List (List Latest) → BufId → List Latest
fences_at fences b = unwrap_or (slice_get fences b.0) []

-- the table with buffer `b` reset, its pages kept
abbrev pub with_reset : Option Buffer → Bos → BufId → Bos
with_reset o t b =
    record {
      buffers = slice_set t.buffers b.0 o;
      reservations = slice_set t.reservations b.0 no_reservation;
      fences = slice_set t.fences b.0 (without_jobs (fences_at t.fences b));
      pages = t.pages;
    }

-- the table with buffer `b` live in SYSTEM, with no page, pin, holder, target or job
abbrev pub with_made : Bos → BufId → Bos
with_made t b = with_reset (Some (new_buffer (unwrap_or (slice_get t.pages b.0) 0))) t b

-- the table with buffer `b` dead
abbrev pub with_killed : Bos → BufId → Bos
with_killed t b = with_reset None t b

-- the table with buffer `b` changed by `f`, if it is live
abbrev pub with_changed : (Buffer → Buffer) → Bos → BufId → Bos
with_changed f t b = record t { buffers = changed f t.buffers b }

-- the table with the reservation of buffer `b` changed by `f`
abbrev pub with_reservation : (Reservation → Reservation) → Bos → BufId → Bos
with_reservation f t b = record t { reservations = reservation_changed f t.reservations b }

-- the table with one more job that uses buffer `b`
abbrev pub with_use : JobId → Usage → Bos → BufId → Bos
with_use job how t b = record t { fences = slice_set t.fences b.0 (added (fences_at t.fences b) job how) }
