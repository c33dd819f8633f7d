-- What a moved buffer leaves behind, with its jobs as a set.
use Rattle.std.specs.Prelude.{ℕ, Option, Some, None, replicate}
use Rattle.ttm_base.specs.declared.JobId.{JobId}
use Rattle.ttm_base.specs.declared.Mem.TheVariants.{Tt, Vram}
use Rattle.ttm_base.specs.declared.Usage.TheVariants.{Kernel}
use Rattle.fence_core.specs.Fences.{added, nothing_kept}
use Rattle.journal_model.specs.declared.entry.Left.{Left}
use Rattle.journal_model.specs.declared.entry.Left.TheVariants as left
use Rattle.journal_model.specs.declared.state.Buffer.{Buffer}
use Rattle.journal_model.specs.rules.ApplyMoves.{frames_left}
use Rattle.journal_model.specs.rules.Holds.{spans_in}
use Rattle.room_representation.specs.declared.parts.Ghost.{Ghost}

-- the ghost that a buffer leaves, which waits for the move's job alone
abbrev pub ghost_of : ℕ → Buffer → JobId → ℕ → Ghost
ghost_of contexts x job num =
    record {
      num = num;
      vram = spans_in Vram x;
      tt = spans_in Tt x;
      frames = frames_left x.mem x;
      jobs = added (replicate contexts nothing_kept) job Kernel;
    }

-- the ghost that a moved buffer leaves, or none where its pages are free at once
abbrev pub left_by_move : ℕ → Buffer → JobId → Left → Option Ghost
left_by_move contexts x job left.Now = None
left_by_move contexts x job (left.Ghost g) = Some (ghost_of contexts x job g)
