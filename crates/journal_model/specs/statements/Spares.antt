-- What unfinished jobs name, and which pages of the aperture an entry takes away or gives.
use Rattle.std.specs.Prelude.{ℕ, Bool, List, [], ◌++◌, ◌==◌, ◌&&◌, not, flat_map, drop, if◌then◌else◌}
use Rattle.std.specs.List.{list_all, list_any}
use Rattle.ttm_base.specs.declared.Mem.TheVariants.{Tt}
use Rattle.journal_model.specs.Types.{Core, Ghost, Job, Kind, Packet}
use Rattle.journal_model.specs.declared.entry.Kind.TheVariants as kind
use Rattle.ttm_base.specs.Packets.{packet_names}
use Rattle.journal_model.specs.rules.State.{buffer_in}
use Rattle.journal_model.specs.rules.Places.{pages_of}
use Rattle.journal_model.specs.rules.Holds.{spans_in}
use Rattle.journal_model.specs.rules.State.{target_spans}

-- ---- packets that haven't run

-- the packets of a job that haven't run
abbrev pub remaining : Job → List Packet
remaining j = drop j.ran j.packets

-- ---- aperture pages that an entry takes away or gives

-- the TT pages of a ghost
abbrev pub tt_of_ghosts : ℕ → List Ghost → List ℕ
tt_of_ghosts g ghosts = flat_map (λ h. if h.num == g then pages_of h.tt else []) ghosts

-- the pages that an entry takes away: those of an Unbind, of a Free without a ghost, and of a Reap
abbrev pub pages_taken : Core → Kind → List ℕ
pages_taken c (kind.Unbind b) = pages_of (spans_in Tt (buffer_in c b))
pages_taken c (kind.Free b g) = if g == 0 then pages_of (spans_in Tt (buffer_in c b)) else []
pages_taken c (kind.Reap g) = tt_of_ghosts g c.ghosts
pages_taken c _ = []

-- the pages that an entry gives: those of a Bind, and of a Move into TT
abbrev pub pages_given : Core → Kind → List ℕ
pages_given c (kind.Bind b) = pages_of (target_spans Tt (buffer_in c b))
pages_given c (kind.Move b Tt n l) = pages_of (target_spans Tt (buffer_in c b))
pages_given c _ = []

-- the job isn't done, and one of its packets names the page of the aperture, be it a packet that has run or not
abbrev pub job_names : ℕ → Job → Bool
job_names page j = not j.finished && list_any (packet_names page) j.packets

-- no unfinished job names one of these pages of the aperture
abbrev pub are_unnamed : Core → List ℕ → Bool
are_unnamed c pages = list_all (λ page. not (list_any (job_names page) c.jobs)) pages

-- what the waits imply of each legal entry: no unfinished job names a page of the aperture that the entry takes away or gives
abbrev pub spares_jobs : Core → Kind → Bool
spares_jobs c k = are_unnamed c (pages_taken c k ++ pages_given c k)
