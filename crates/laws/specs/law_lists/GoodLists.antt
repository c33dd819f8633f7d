-- The buffers that stand on the twelve lists of eviction (ttm_resource_manager's lru lists, ttm_lru_bulk_move).
use Rattle.std.specs.Prelude.{◌≡◌, ℕ, Bool, true, false, List, [], ◌∷◌, ◌++◌, Some, ◌&&◌, not, length, slice_get}
use Rattle.std.specs.List.{list_any, list_all}
use Rattle.ttm_base.specs.declared.BufId.{BufId}
use Rattle.journal_model.specs.declared.script.Script.{Script}
use Rattle.journal_model.specs.declared.state.State.{State}
use Rattle.journal_model.specs.declared.state.Buffer.{Buffer}
use Rattle.journal_model.specs.rules.State.{reservation, live_in, has_buffer}
use Rattle.journal_model.specs.rules.Commands.{decl}
use Rattle.journal_model.specs.rules.Lists.{list_number, is_member}

-- the list of a number has the buffer
abbrev pub IsOn : State → ℕ → BufId → Type 0
IsOn s i b = (l : List BufId) × (slice_get s.lists i ≡ Some l) × (has_buffer l b ≡ true)

-- the buffer is live, has no pin, and the list is that of its memory type and priority
pub record BelongsOn (script : Script) (s : State) (i : ℕ) (b : BufId) : Type 0 where
  pub buffer : Buffer
  pub live : live_in s.core.buffers b ≡ Some buffer
  pub loose : (reservation s b).pins ≡ 0
  pub number : i ≡ list_number buffer.mem (decl script b).prio

-- no buffer stands on the list twice
abbrev pub stand_once : List BufId → Bool
stand_once [] = true
stand_once (b ∷ bs) = not (has_buffer bs b) && stand_once bs

-- the members stand side by side: others before them, none among them, others after
pub record SideBySide (member : BufId → Bool) (l : List BufId) : Type 0 where
  pub before : List BufId
  pub members : List BufId
  pub behind : List BufId
  pub parts : l ≡ before ++ members ++ behind
  pub none_before : list_any member before ≡ false
  pub all_among : list_all member members ≡ true
  pub none_behind : list_any member behind ≡ false

-- there are twelve lists; each live buffer without pins is on its own, no other buffer is on any and none twice, and the members of a group
-- stand side by side
pub record GoodLists (script : Script) (s : State) : Type 0 where
  pub twelve : length s.lists ≡ 12
  pub listed : (b : BufId) (x : Buffer) → live_in s.core.buffers b ≡ Some x → (reservation s b).pins ≡ 0 → IsOn s (list_number x.mem (decl script b).prio) b
  pub no_other : (i : ℕ) (b : BufId) → IsOn s i b → BelongsOn script s i b
  pub once : (i : ℕ) (l : List BufId) → slice_get s.lists i ≡ Some l → stand_once l ≡ true
  pub groups : (i : ℕ) (l : List BufId) (group : ℕ) → slice_get s.lists i ≡ Some l → SideBySide (is_member script group) l
