-- The parts before the first entry.
use Rattle.std.specs.Prelude.{ℕ, ◌+◌, ◌*◌, false, [], None, length, map, replicate}
use Rattle.byte_store.specs.Parts.{filled}
use Rattle.copy_packet.specs.declared.stores.Stores.{Stores}
use Rattle.fence_core.specs.Timelines.{no_jobs}
use Rattle.lru_bulk.specs.Lists.{nothing_listed}
use Rattle.resource_core.specs.Resources.{Resources}
use Rattle.bo_table.specs.Seen.{first_bos}
use Rattle.journal_model.specs.declared.script.Script.{Script}
use Rattle.journal_model.specs.declared.script.Sizes.{Sizes}
use Rattle.journal_model.specs.rules.State.{new_course}
use Rattle.room_representation.specs.lemma_spans.Owned.{kind_of}
use Rattle.room_state.specs.declared.beginning.first.Buffers.{Buffers}
use Rattle.room_state.specs.declared.beginning.first.Memory.{Memory}
use Rattle.room_state.specs.declared.beginning.first.Work.{Work}

-- stores of zeros, where no page of TT is mapped
abbrev pub first_stores : Sizes → Stores
first_stores sizes =
    record { vram = filled (4096 * sizes.vram) 0; frames = filled (4096 * sizes.frames) 0; aper = replicate sizes.tt None }

-- the resources of `size` pages that no owner holds, without a move job
abbrev pub free_pages : ℕ → Resources
free_pages size = record { size = size; held = []; move_fence = None }

-- the memory where all pages, frames and slots are free
abbrev pub first_memory : Sizes → Memory
first_memory sizes =
    record {
      vram = record { kind = kind_of sizes.buddy; resources = free_pages sizes.vram };
      tt = free_pages sizes.tt;
      pool = replicate sizes.frames false;
      swap = record { held = replicate sizes.swap false; bytes = filled (4096 * sizes.swap) 0 };
      stores = first_stores sizes;
    }

-- the number of contexts: the move engine's, and one for each user engine
abbrev pub contexts_of : Sizes → ℕ
contexts_of sizes = sizes.engines + 1

-- the buffers, all dead, and their lists, all empty
abbrev pub first_buffers : Script → Buffers
first_buffers script = record { bos = first_bos script.buffers (contexts_of script.sizes); lru = nothing_listed (length script.buffers) 16 }

-- the work before the first entry: no job, and each thread at its first command
abbrev pub first_work : Script → Work
first_work script =
    record {
      timeline = replicate (contexts_of script.sizes) no_jobs;
      rings = replicate (contexts_of script.sizes) [];
      courses = map (λ commands. new_course 0) script.threads;
    }
