-- Which values have a spelling as a script.
use Rattle.std.specs.Prelude.{◌≡◌, ℕ, ◌≤◌, Bool, true, false, List, [], ◌∷◌, Option, Some, None, IsTrue, ◌==◌, ◌&&◌, ◌||◌, not, nat_lt, nat_le, sum_by, length, take, drop, if◌then◌else◌}
use Rattle.std.specs.List.{list_all, list_any}
use Rattle.journal_model.specs.Types.{Actor, Decl, FlaggedPlace, Mem, Place, Script}
use Rattle.journal_model.specs.Limits.{max_align, max_buffer_pages, max_buffers, max_engines, max_line_actors, max_memory_pages, max_op_bytes, max_places, max_priority, max_script_bytes, max_slots, max_threads}
use Rattle.ttm_base.specs.declared.Mem.TheVariants.{System, Tt, Vram}
use Rattle.ttm_base.specs.declared.Actor.TheVariants as actor
use Rattle.ttm_base.specs.ListWords.{same_numbers}
use Rattle.ttm_base.specs.Placement.{first_places, forced_places}
use Rattle.journal_model.specs.scripts.Words.{Text}
use Rattle.journal_model.specs.scripts.CommandRules.{is_between, is_command, command_len}
use Rattle.journal_model.specs.scripts.MarkRules.{have_marks}
use Rattle.journal_model.specs.scripts.Spelling.{spelling}

-- the sizes are within their limits
abbrev pub has_sizes : Script → Bool
has_sizes script =
    nat_le script.sizes.vram max_memory_pages && nat_le script.sizes.tt max_memory_pages && nat_le script.sizes.frames max_memory_pages
    && nat_le script.sizes.swap max_slots && nat_le script.sizes.engines max_engines

-- a lower-case letter
abbrev pub is_letter : ℕ → Bool
is_letter c = is_between 97 122 c

-- a lower-case letter or a digit
abbrev pub is_letter_or_digit : ℕ → Bool
is_letter_or_digit c = is_letter c || is_between 48 57 c

-- a lower-case letter, and at most seven letters or digits
abbrev pub is_name : Text → Bool
is_name [] = false
is_name (c ∷ cs) = is_letter c && list_all is_letter_or_digit cs && nat_le (length cs) 7

-- the texts are one
abbrev pub same_text : Text → Text → Bool
same_text = same_numbers

-- no two buffers have one name
abbrev pub has_distinct_names : List Decl → Bool
has_distinct_names [] = true
has_distinct_names (d ∷ ds) = not (list_any (λ e. same_text d.name e.name) ds) && has_distinct_names ds

-- a place without a range
abbrev pub is_whole_place : Place → Bool
is_whole_place p = (p.first == 0) && (p.last == 0)

-- a range that isn't empty
abbrev pub is_ranged_place : Place → Bool
is_ranged_place p = nat_le p.first max_memory_pages && nat_le p.last max_memory_pages && ((p.last == 0) || nat_lt p.first p.last)

-- in SYSTEM there is no range; flags may stand there and say nothing
abbrev pub is_place_of : Mem → Place → Bool
is_place_of System p = is_whole_place p
is_place_of Tt p = is_ranged_place p
is_place_of Vram p = is_ranged_place p

-- a place that can be written
abbrev pub is_place : Place → Bool
is_place p = is_place_of p.mem p

-- ---- lists of places

-- at most one of both flags
abbrev pub is_flagged : FlaggedPlace → Bool
is_flagged p = is_place p.place && not (p.desired && p.fallback)

-- desired places, and then fallback places
abbrev pub is_old_list : List FlaggedPlace → Bool
is_old_list list =
    list_all (λ p. p.desired) (take (length (first_places list)) list)
    && list_all (λ p. p.fallback) (drop (length (first_places list)) list)
    && is_between 1 4 (length (first_places list)) && is_between 1 4 (length (forced_places list))

-- one to eight places, of which one is tried under pressure
abbrev pub is_new_list : List FlaggedPlace → Bool
is_new_list list = is_between 1 max_places (length list) && nat_lt 0 (length (forced_places list))

-- by the script's version
abbrev pub is_place_list : ℕ → List FlaggedPlace → Bool
is_place_list version list = list_all is_flagged list && (if version == 1 then is_old_list list else is_new_list list)

-- no group, or one of sixteen
abbrev pub is_group : Option ℕ → Bool
is_group None = true
is_group (Some g) = nat_le g 15

-- a buffer line
abbrev pub is_decl : ℕ → Decl → Bool
is_decl version d =
    is_name d.name && is_between 1 max_buffer_pages d.pages && nat_le d.prio max_priority && is_group d.group && is_between 1 max_align d.align
    && is_place_list version d.placement.list

-- the script has the actor
abbrev pub is_actor : Script → Actor → Bool
is_actor script (actor.Thread t) = is_between 1 (length script.threads) t
is_actor script (actor.Engine e) = nat_le e script.sizes.engines
is_actor script actor.Reaper = true

-- a schedule line
abbrev pub is_turn_line : Script → List Actor → Bool
is_turn_line script actors = is_between 1 max_line_actors (length actors) && list_all (is_actor script) actors

-- ---- the script

-- the values that have a spelling
abbrev pub is_script : Script → Bool
is_script script =
    is_between 1 2 script.version && has_sizes script
    && nat_le (length script.buffers) max_buffers && list_all (is_decl script.version) script.buffers && has_distinct_names script.buffers
    && nat_le (length script.threads) max_threads && list_all (list_all (is_command script)) script.threads
    && nat_le (sum_by (sum_by command_len) script.threads) max_op_bytes
    && list_all (is_turn_line script) script.turns && have_marks script

-- the bytes are those of the script
pub record IsScript (bytes : Text) (script : Script) : Type 0 where
  pub spelled : bytes ≡ spelling script
  pub fits : IsTrue (is_script script)
  pub short : length bytes ≤ max_script_bytes
