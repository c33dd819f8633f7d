-- When a named buffer is ready for its command: in its place, and filled (ttm_bo_validate, ttm_tt_populate).
use Rattle.std.specs.Prelude.{Bool, true, false, Option, ◌&&◌, ◌||◌, not, find}
use Rattle.std.specs.List.{list_all}
use Rattle.ttm_base.specs.declared.Mem.TheVariants.{System, Tt, Vram}
use Rattle.journal_model.specs.Types.{BufId, Buffer, Command, Script, State}
use Rattle.ttm_base.specs.Reach.{same_mem}
use Rattle.ttm_base.specs.Placement.{compatible}
use Rattle.journal_model.specs.declared.script.Command.TheVariants as command
use Rattle.journal_model.specs.rules.State.{buffer, has_target}
use Rattle.journal_model.specs.rules.Commands.{decl, named}
use Rattle.journal_model.specs.rules.Places.{is_frame}
use Rattle.journal_model.specs.rules.Holds.{size_of}

-- each page has a frame
abbrev pub has_all_frames : Buffer → Bool
has_all_frames x = list_all is_frame x.table

-- something waits for the buffer
abbrev pub has_some_target : Buffer → Bool
has_some_target x = has_target System x || has_target Tt x || has_target Vram x

-- the buffer stands where its declared placement lets it
abbrev pub is_well_placed : Script → BufId → Buffer → Bool
is_well_placed script b x = compatible x.mem x.spans (decl script b).placement (size_of script x.mem)

-- the buffer stands where the command wants it
abbrev pub meets : Script → Command → BufId → Buffer → Bool
meets script (command.Submit engine ops) b x = is_well_placed script b x
meets script (command.Find c) b x = is_well_placed script b x
meets script (command.Move c mem) b x = same_mem x.mem mem
meets script (command.SwapOut c) b x = same_mem x.mem System
meets script _ b x = true

-- no target, and it stands where the command wants it
abbrev pub is_in_place : Script → Command → BufId → Buffer → Bool
is_in_place script cmd b x = not (has_some_target x) && meets script cmd b x

-- the command reads or writes the buffer's bytes
abbrev pub uses_bytes : Command → Bool
uses_bytes (command.Submit engine ops) = true
uses_bytes (command.Write c off bytes) = true
uses_bytes (command.Read c off len) = true
uses_bytes _ = false

-- in SYSTEM, each page that the command may use has a frame
abbrev pub is_filled : Command → Buffer → Bool
is_filled cmd x = not (uses_bytes cmd) || not (same_mem x.mem System) || has_all_frames x

-- in place and filled
abbrev pub is_ready : Script → State → Command → BufId → Bool
is_ready script s cmd b = is_in_place script cmd b (buffer s b) && is_filled cmd (buffer s b)

-- the named buffer at work
abbrev pub first_unready : Script → State → Command → Option BufId
first_unready script s cmd = find (λ b. not (is_ready script s cmd b)) (named cmd)
