-- What the next entry needs of a script and a state, so that each number of an entry can be written.
use Rattle.std.specs.Prelude.{ℕ, ◌+◌, ◌<◌, ◌≤◌, ◌^◌, Bool, true, Option, Some, None, ◌&&◌, length, nat_le, nat_lt}
use Rattle.std.specs.List.{list_all}
use Rattle.ttm_base.specs.declared.BufId.{BufId}
use Rattle.journal_model.specs.declared.script.Script.{Script}
use Rattle.journal_model.specs.declared.state.State.{State}
use Rattle.journal_model.specs.declared.state.Buffer.{Buffer}
use Rattle.journal_model.specs.rules.State.{buffer}
use Rattle.journal_model.specs.rules.Commands.{decl}
use Rattle.journal_model.specs.rules.PageSteps.{next_job}

-- buffers have at most 65536 pages, page tables and lists are short, and no counter is at its end
pub record HasRoom (script : Script) (s : State) : Type 0 where
  pub pages : (b : BufId) → (decl script b).pages ≤ 65536
  pub threads : length script.threads < 2 ^ 32
  pub tables : (b : BufId) → length (buffer s b).table ≤ 2 ^ 32
  pub buffers : length s.core.buffers ≤ 2 ^ 32
  pub stamps : s.last_stamp + 1 < 2 ^ 64
  pub ghosts : s.last_ghost + 1 < 2 ^ 64
  pub jobs : (ctx : ℕ) → next_job s ctx < 2 ^ 64

-- the page table of a declared buffer is short
abbrev pub is_short : Option Buffer → Bool
is_short None = true
is_short (Some x) = nat_le (length x.table) (2 ^ 32)

-- the test whether a script and a state have room
abbrev pub tests_room : Script → State → Bool
tests_room script s =
    list_all (λ d. nat_le d.pages 65536) script.buffers && nat_lt (length script.threads) (2 ^ 32)
    && list_all is_short s.core.buffers && nat_le (length s.core.buffers) (2 ^ 32)
    && nat_lt (s.last_stamp + 1) (2 ^ 64) && nat_lt (s.last_ghost + 1) (2 ^ 64) && list_all (λ n. nat_lt (n + 1) (2 ^ 64)) s.last_jobs
