-- What is left of the job at the head of a context, and what it shows next.
use Rattle.std.specs.Prelude.{ℕ, List, [], Option, Some, None, length, nat_lt, if◌then◌else◌}
use Rattle.ttm_base.specs.Packets.{probe_piece}
use Rattle.journal_model.specs.declared.state.Job.{Job}
use Rattle.journal_model.specs.rules.Next.{head_of}
use Rattle.journal_model.specs.rules.Places.{aperture}
use Rattle.journal_model.specs.rules.Stores.{job_packet}
use Rattle.journal_model.specs.rules.Legal.{World}

-- the number of the packet that runs next, if one is left
abbrev pub number_left : Option Job → Option ℕ
number_left None = None
number_left (Some j) = if nat_lt j.ran (length j.packets) then Some j.ran else None

-- the bytes that packet `k` of job `num` of a context shows
abbrev pub piece_of : World → ℕ → ℕ → ℕ → List ℕ
piece_of w ctx num k = probe_piece (aperture w.state.core) w.stores (job_packet w.state.core (record { ctx = ctx; num = num }) k)

-- the bytes that the next packet of a job shows
abbrev pub piece_left : World → ℕ → Option Job → List ℕ
piece_left w ctx None = []
piece_left w ctx (Some j) = piece_of w ctx j.id.num j.ran

-- the bytes that the next packet of the job at the head of a context shows
abbrev pub head_piece : World → ℕ → List ℕ
head_piece w ctx = piece_left w ctx (head_of w.state ctx)
