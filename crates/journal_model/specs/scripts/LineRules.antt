-- The rules that a line may break, from the fifth on, each for itself, on a line whose words are read as far as they can be.
use Rattle.std.specs.Prelude.{ℕ, ◌+◌, ◌*◌, Bool, true, false, List, [], ◌++◌, Option, Some, None, is_none, length, flat_map, map, sum_by, unwrap_or, option_to_list, bytes_eq, ◌==◌, ◌||◌, not, nat_lt, nat_le, if◌then◌else◌}
use Rattle.std.specs.List.{list_any}
use Rattle.journal_model.specs.Types.{BufId, Op, Script}
use Rattle.journal_model.specs.Limits.{max_buffers, max_job_buffers, max_job_ops, max_op_bytes, max_places, max_shown_bytes, max_thread_lines, max_threads, page_bytes, space_pages}
use Rattle.journal_model.specs.declared.line.Progress.{Progress}
use Rattle.journal_model.specs.declared.line.Line.{Line}
use Rattle.journal_model.specs.declared.line.Line.TheVariants as line
use Rattle.journal_model.specs.declared.line.BufferHead.{BufferHead}
use Rattle.journal_model.specs.declared.line.PlaceWord.{PlaceWord}
use Rattle.journal_model.specs.declared.line.PlaceWord.TheVariants as place_word
use Rattle.journal_model.specs.declared.line.ActorWord.{ActorWord}
use Rattle.journal_model.specs.declared.line.ActorWord.TheVariants as actor_word
use Rattle.journal_model.specs.declared.line.EngineWord.{EngineWord}
use Rattle.journal_model.specs.declared.line.EngineWord.TheVariants as engine_word
use Rattle.journal_model.specs.declared.line.OpWord.{OpWord}
use Rattle.journal_model.specs.declared.line.OpWord.TheVariants as op_word
use Rattle.journal_model.specs.declared.line.VOpWord.{VOpWord}
use Rattle.journal_model.specs.declared.line.VOpWord.TheVariants as vop_word
use Rattle.journal_model.specs.declared.line.Access.TheVariants as access
use Rattle.journal_model.specs.declared.space.VOp.{VOp}
use Rattle.journal_model.specs.declared.space.VOp.TheVariants as vop
use Rattle.journal_model.specs.scripts.Words.{Text}
use Rattle.journal_model.specs.rules.Commands.{decl, buffers_of_op, first_mentions}
use Rattle.journal_model.specs.scripts.Reading.{names_of}
use Rattle.journal_model.specs.rules.State.{same_buffer, has_buffer}
use Rattle.journal_model.specs.scripts.CommandRules.{is_between}
use Rattle.journal_model.specs.scripts.ScriptRules.{is_name}
use Rattle.journal_model.specs.marks.ByName.{job_by_name}
use Rattle.journal_model.specs.scripts.MarkRules.{ThreadMappings, thread_mappings_at_end, has_apart_ranges}

-- ---- the rules
--
--    5  a number isn't plain or is out of its range                                          `lacks_number`
--    6  a name is malformed, unknown, or declared twice                                      `lacks_name`
--    7  a place is malformed, a list has none or too many, or all its places are desired     `lacks_place`
--    8  a range passes its buffer or its space, a length is 0, or too much would be shown    `has_range_fault`
--    9  bytes are malformed, none, or too many                                               `has_byte_fault`
--   10  one buffer twice in a copy or xor, or a job with too many buffers or operations      `has_job_fault`
--   11  an engine or an actor isn't there                                                    `lacks_actor`
--   12  one line too many of buffers, of threads, or of a thread                             `is_one_too_many`
--   13  the lengths of all operations so far are too long                                    `is_too_long`
--   14  a map of a mapped buffer, or an unmap, peek or poke of one that isn't mapped         `has_map_fault`
--   15  a page of a range of addresses isn't mapped at the line                              `lacks_page`
--
-- The least of them counts (`rule_broken`). The first four are in `FirstFault`: the input is too long; a line's bytes; its first word; the
-- number of its words, and its fixed words.

-- ---- rule 5: a number isn't plain or is out of its range

-- in a buffer line before the places
abbrev pub lacks_number_in_head : BufferHead → Bool
lacks_number_in_head h = is_none h.pages || is_none h.prio || is_none h.group || is_none h.align

-- in a place
abbrev pub is_broken_place : PlaceWord → Bool
is_broken_place place_word.BrokenNumber = true
is_broken_place _ = false

-- in an actor word
abbrev pub is_broken_actor : ActorWord → Bool
is_broken_actor actor_word.BrokenNumber = true
is_broken_actor _ = false

-- the number of an engine
abbrev pub is_broken_engine : EngineWord → Bool
is_broken_engine engine_word.BrokenNumber = true
is_broken_engine _ = false

-- in an operation
abbrev pub lacks_number_in_op : OpWord → Bool
lacks_number_in_op (op_word.Fill dst off len byte) = is_none off || is_none len
lacks_number_in_op (op_word.Copy dst doff src soff len) = is_none doff || is_none soff || is_none len
lacks_number_in_op (op_word.Xor dst doff src soff len) = is_none doff || is_none soff || is_none len
lacks_number_in_op (op_word.Probe src off len) = is_none off || is_none len
lacks_number_in_op op_word.Malformed = false

-- in an operation with addresses
abbrev pub lacks_number_in_vop : VOpWord → Bool
lacks_number_in_vop (vop_word.Fill addr len byte) = is_none addr || is_none len
lacks_number_in_vop (vop_word.Copy addr from len) = is_none addr || is_none from || is_none len
lacks_number_in_vop (vop_word.Xor addr from len) = is_none addr || is_none from || is_none len
lacks_number_in_vop (vop_word.Probe addr len) = is_none addr || is_none len
lacks_number_in_vop vop_word.Malformed = false

-- in a line
abbrev pub lacks_number : Line → Bool
lacks_number (line.Vram buddy size) = is_none size
lacks_number (line.Tt size) = is_none size
lacks_number (line.Frames size) = is_none size
lacks_number (line.Swap size) = is_none size
lacks_number (line.Engines size) = is_none size
lacks_number (line.Buffer head want busy) = lacks_number_in_head head || list_any is_broken_place want || list_any is_broken_place busy
lacks_number (line.Placed head list) = lacks_number_in_head head || list_any is_broken_place list
lacks_number (line.Turn actors) = list_any is_broken_actor actors
lacks_number (line.Write how b off bytes) = is_none off
lacks_number (line.Read how b off len) = is_none off || is_none len
lacks_number (line.Touch group) = is_none group
lacks_number (line.Submit engine ops) = is_broken_engine engine || list_any lacks_number_in_op ops
lacks_number (line.Vmap va n b off) = is_none va || is_none n || is_none off
lacks_number (line.Vunmap va n) = is_none va || is_none n
lacks_number (line.Vsubmit engine ops) = is_broken_engine engine || list_any lacks_number_in_vop ops
lacks_number _ = false

-- ---- rule 6: a name is malformed, unknown, or declared twice

-- in an operation
abbrev pub lacks_name_in_op : OpWord → Bool
lacks_name_in_op (op_word.Fill dst off len byte) = is_none dst
lacks_name_in_op (op_word.Copy dst doff src soff len) = is_none dst || is_none src
lacks_name_in_op (op_word.Xor dst doff src soff len) = is_none dst || is_none src
lacks_name_in_op (op_word.Probe src off len) = is_none src
lacks_name_in_op op_word.Malformed = false

-- a new name is malformed or already declared
abbrev pub has_wrong_name : List Text → BufferHead → Bool
has_wrong_name names head = not (is_name head.name) || list_any (bytes_eq head.name) names

-- in a line
abbrev pub lacks_name : Script → Line → Bool
lacks_name script (line.Buffer head want busy) = has_wrong_name (names_of script.buffers) head
lacks_name script (line.Placed head list) = has_wrong_name (names_of script.buffers) head
lacks_name script (line.Plain verb b) = is_none b
lacks_name script (line.Write how b off bytes) = is_none b
lacks_name script (line.Read how b off len) = is_none b
lacks_name script (line.Move b mem) = is_none b
lacks_name script (line.Submit engine ops) = list_any lacks_name_in_op ops
lacks_name script (line.Map b) = is_none b
lacks_name script (line.Unmap b) = is_none b
lacks_name script (line.Vmap va n b off) = is_none b
lacks_name script _ = false

-- ---- rule 7: a place or a list of places is malformed

-- the word is no place
abbrev pub is_no_place : PlaceWord → Bool
is_no_place place_word.Malformed = true
is_no_place _ = false

-- the place may be tried under pressure
abbrev pub may_force : PlaceWord → Bool
may_force (place_word.Is f) = not f.desired
may_force _ = true

-- a malformed place, no place or too many of them
abbrev pub is_no_list : ℕ → List PlaceWord → Bool
is_no_list most places = list_any is_no_place places || not (is_between 1 most (length places))

-- in a line; in version 2 some place must be one that is tried under pressure
abbrev pub lacks_place : Line → Bool
lacks_place (line.Buffer head want busy) = is_no_list 4 want || is_no_list 4 busy
lacks_place (line.Placed head list) = is_no_list max_places list || not (list_any may_force list)
lacks_place _ = false

-- ---- rule 8: a range passes its buffer or its space, a length is 0, or too many bytes would be shown

-- the length is 0
abbrev pub is_zero : Option ℕ → Bool
is_zero (Some n) = n == 0
is_zero None = false

-- the length is above the most
abbrev pub is_more_than : ℕ → Option ℕ → Bool
is_more_than most (Some n) = nat_lt most n
is_more_than most None = false

-- the range ends after the buffer
abbrev pub passes : Script → Option BufId → Option ℕ → Option ℕ → Bool
passes script (Some b) (Some off) (Some len) = nat_lt (page_bytes * (decl script b).pages) (off + len)
passes script _ _ _ = false

-- the range is empty or ends after the buffer
abbrev pub has_wrong_range : Script → Option BufId → Option ℕ → Option ℕ → Bool
has_wrong_range script b off len = is_zero len || passes script b off len

-- in an operation
abbrev pub passes_in_op : Script → OpWord → Bool
passes_in_op script (op_word.Fill dst off len byte) = has_wrong_range script dst off len
passes_in_op script (op_word.Copy dst doff src soff len) = has_wrong_range script dst doff len || passes script src soff len
passes_in_op script (op_word.Xor dst doff src soff len) = has_wrong_range script dst doff len || passes script src soff len
passes_in_op script (op_word.Probe src off len) = has_wrong_range script src off len || is_more_than max_shown_bytes len
passes_in_op script op_word.Malformed = false

-- malformed bytes have no length
abbrev pub bytes_pass : Script → Option BufId → Option ℕ → Option (List ℕ) → Bool
bytes_pass script b off (Some bytes) = passes script b off (Some (length bytes))
bytes_pass script b off None = false

-- a first place and a length pass the end
abbrev pub passes_end : ℕ → Option ℕ → Option ℕ → Bool
passes_end end (Some first) (Some len) = nat_lt end (first + len)
passes_end end _ _ = false

-- the pages end after those of the buffer
abbrev pub passes_pages : Script → Option BufId → Option ℕ → Option ℕ → Bool
passes_pages script (Some b) off n = passes_end (decl script b).pages off n
passes_pages script None off n = false

-- the range is empty or ends after the space
abbrev pub has_wrong_addresses : Option ℕ → Option ℕ → Bool
has_wrong_addresses addr len = is_zero len || passes_end 4294967296 addr len

-- in an operation with addresses
abbrev pub passes_in_vop : VOpWord → Bool
passes_in_vop (vop_word.Fill addr len byte) = has_wrong_addresses addr len
passes_in_vop (vop_word.Copy addr from len) = has_wrong_addresses addr len || has_wrong_addresses from len
passes_in_vop (vop_word.Xor addr from len) = has_wrong_addresses addr len || has_wrong_addresses from len
passes_in_vop (vop_word.Probe addr len) = has_wrong_addresses addr len || is_more_than max_shown_bytes len
passes_in_vop vop_word.Malformed = false

-- in a line
abbrev pub has_range_fault : Script → Line → Bool
has_range_fault script (line.Write how b off bytes) = bytes_pass script b off bytes
has_range_fault script (line.Read how b off len) = has_wrong_range script b off len || is_more_than max_shown_bytes len
has_range_fault script (line.Submit engine ops) = list_any (passes_in_op script) ops
has_range_fault script (line.Vmap va n b off) = passes_end space_pages va n || passes_pages script b off n
has_range_fault script (line.Vunmap va n) = passes_end space_pages va n
has_range_fault script (line.Vsubmit engine ops) = list_any passes_in_vop ops
has_range_fault script _ = false

-- ---- rule 9: bytes are malformed, none, or more than 256

-- the byte of a fill
abbrev pub lacks_byte_in_op : OpWord → Bool
lacks_byte_in_op (op_word.Fill dst off len byte) = is_none byte
lacks_byte_in_op _ = false

-- the byte of a fill with an address
abbrev pub lacks_byte_in_vop : VOpWord → Bool
lacks_byte_in_vop (vop_word.Fill addr len byte) = is_none byte
lacks_byte_in_vop _ = false

-- the bytes of a write
abbrev pub are_wrong_bytes : Option (List ℕ) → Bool
are_wrong_bytes (Some bytes) = not (is_between 1 max_shown_bytes (length bytes))
are_wrong_bytes None = true

-- in a line
abbrev pub has_byte_fault : Line → Bool
has_byte_fault (line.Write how b off bytes) = are_wrong_bytes bytes
has_byte_fault (line.Submit engine ops) = list_any lacks_byte_in_op ops
has_byte_fault (line.Vsubmit engine ops) = list_any lacks_byte_in_vop ops
has_byte_fault _ = false

-- ---- rule 10: one buffer twice in a copy or xor, or too many buffers or operations in a job; a job with addresses is judged by name

-- both names are known, and the buffer is one
abbrev pub same_known : Option BufId → Option BufId → Bool
same_known (Some b) (Some c) = same_buffer b c
same_known _ _ = false

-- in an operation
abbrev pub names_one_twice : OpWord → Bool
names_one_twice (op_word.Copy dst doff src soff len) = same_known dst src
names_one_twice (op_word.Xor dst doff src soff len) = same_known dst src
names_one_twice _ = false

-- the known buffers of an operation, as they are mentioned
abbrev pub buffers_of_word : OpWord → List BufId
buffers_of_word (op_word.Fill dst off len byte) = option_to_list dst
buffers_of_word (op_word.Copy dst doff src soff len) = option_to_list dst ++ option_to_list src
buffers_of_word (op_word.Xor dst doff src soff len) = option_to_list dst ++ option_to_list src
buffers_of_word (op_word.Probe src off len) = option_to_list src
buffers_of_word op_word.Malformed = []

-- more than 64 operations or 16 buffers
abbrev pub is_big_job : List OpWord → Bool
is_big_job ops = nat_lt max_job_ops (length ops) || nat_lt max_job_buffers (length (first_mentions [] (flat_map buffers_of_word ops)))

-- the operation of its words; a word that says nothing breaks a lesser rule
abbrev pub vop_in : VOpWord → VOp
vop_in (vop_word.Fill addr len byte) = vop.Fill (unwrap_or addr 0) (unwrap_or len 0) (unwrap_or byte 0)
vop_in (vop_word.Copy addr from len) = vop.Copy (unwrap_or addr 0) (unwrap_or from 0) (unwrap_or len 0)
vop_in (vop_word.Xor addr from len) = vop.Xor (unwrap_or addr 0) (unwrap_or from 0) (unwrap_or len 0)
vop_in (vop_word.Probe addr len) = vop.Probe (unwrap_or addr 0) (unwrap_or len 0)
vop_in vop_word.Malformed = vop.Probe 0 0

-- a buffer stands in both ranges of a copy or xor with addresses, as far as their pages are mapped
abbrev pub has_buffer_twice : ThreadMappings → VOpWord → Bool
has_buffer_twice d op = not (has_apart_ranges d.regions (vop_in op))

-- the job by name, if each page is mapped at the line
abbrev pub named_job : ThreadMappings → List VOpWord → Option (List Op)
named_job d ops = job_by_name d.regions (map vop_in ops)

-- more than 64 operations or 16 buffers, where each page is mapped
abbrev pub is_big_named_job : Option (List Op) → Bool
is_big_named_job (Some ops) = nat_lt max_job_ops (length ops) || nat_lt max_job_buffers (length (first_mentions [] (flat_map buffers_of_op ops)))
is_big_named_job None = false

-- in a line
abbrev pub has_job_fault : ThreadMappings → Line → Bool
has_job_fault d (line.Submit engine ops) = list_any names_one_twice ops || is_big_job ops
has_job_fault d (line.Vsubmit engine ops) = list_any (has_buffer_twice d) ops || is_big_named_job (named_job d ops)
has_job_fault d _ = false

-- ---- rule 11: an engine or an actor that isn't there

-- the actor is not there
abbrev pub is_missing_actor : ActorWord → Bool
is_missing_actor actor_word.Missing = true
is_missing_actor _ = false

-- the engine is not there
abbrev pub is_missing_engine : EngineWord → Bool
is_missing_engine engine_word.Missing = true
is_missing_engine _ = false

-- in a line
abbrev pub lacks_actor : Line → Bool
lacks_actor (line.Turn actors) = list_any is_missing_actor actors
lacks_actor (line.Submit engine ops) = is_missing_engine engine
lacks_actor (line.Vsubmit engine ops) = is_missing_engine engine
lacks_actor _ = false

-- ---- rule 12: one line too many

-- 256 buffers, 16 threads, and 4096 lines of a thread are the most
abbrev pub is_one_too_many : Progress → Line → Bool
is_one_too_many p (line.Buffer head want busy) = nat_le max_buffers (length p.script.buffers)
is_one_too_many p (line.Placed head list) = nat_le max_buffers (length p.script.buffers)
is_one_too_many p line.Thread = nat_le max_threads (length p.script.threads)
is_one_too_many p (line.Plain verb b) = nat_le max_thread_lines p.lines
is_one_too_many p (line.Write how b off bytes) = nat_le max_thread_lines p.lines
is_one_too_many p (line.Read how b off len) = nat_le max_thread_lines p.lines
is_one_too_many p (line.Move b mem) = nat_le max_thread_lines p.lines
is_one_too_many p (line.Touch group) = nat_le max_thread_lines p.lines
is_one_too_many p (line.Submit engine ops) = nat_le max_thread_lines p.lines
is_one_too_many p (line.Map b) = nat_le max_thread_lines p.lines
is_one_too_many p (line.Unmap b) = nat_le max_thread_lines p.lines
is_one_too_many p (line.Vmap va n b off) = nat_le max_thread_lines p.lines
is_one_too_many p (line.Vunmap va n) = nat_le max_thread_lines p.lines
is_one_too_many p (line.Vsubmit engine ops) = nat_le max_thread_lines p.lines
is_one_too_many p _ = false

-- ---- rule 13: the lengths of all operations so far

-- the length of an operation, as it is written
abbrev pub len_of_word : OpWord → ℕ
len_of_word (op_word.Fill dst off len byte) = unwrap_or len 0
len_of_word (op_word.Copy dst doff src soff len) = unwrap_or len 0
len_of_word (op_word.Xor dst doff src soff len) = unwrap_or len 0
len_of_word (op_word.Probe src off len) = unwrap_or len 0
len_of_word op_word.Malformed = 0

-- the length of an operation with addresses, as it is written
abbrev pub len_of_vop_word : VOpWord → ℕ
len_of_vop_word (vop_word.Fill addr len byte) = unwrap_or len 0
len_of_vop_word (vop_word.Copy addr from len) = unwrap_or len 0
len_of_vop_word (vop_word.Xor addr from len) = unwrap_or len 0
len_of_vop_word (vop_word.Probe addr len) = unwrap_or len 0
len_of_vop_word vop_word.Malformed = 0

-- the lengths of all operations of a line
abbrev pub lens_of_line : Line → ℕ
lens_of_line (line.Submit engine ops) = sum_by len_of_word ops
lens_of_line (line.Vsubmit engine ops) = sum_by len_of_vop_word ops
lens_of_line _ = 0

-- 67108864 is the most for a whole script
abbrev pub is_too_long : Progress → Line → Bool
is_too_long p l = nat_lt max_op_bytes (p.lens + lens_of_line l)

-- ---- rule 14: a map of a buffer that the thread has mapped, and an unmap, peek or poke of one that it hasn't

-- the thread has mapped the buffer at the line
abbrev pub has_mapped : ThreadMappings → Option BufId → Bool
has_mapped d (Some b) = has_buffer d.mapped b
has_mapped d None = false

-- in a line
abbrev pub has_map_fault : ThreadMappings → Line → Bool
has_map_fault d (line.Map b) = has_mapped d b
has_map_fault d (line.Unmap b) = not (has_mapped d b)
has_map_fault d (line.Read access.Mapped b off len) = not (has_mapped d b)
has_map_fault d (line.Write access.Mapped b off bytes) = not (has_mapped d b)
has_map_fault d _ = false

-- ---- rule 15: a page of a range of addresses isn't mapped at the line

-- in a line
abbrev pub lacks_page : ThreadMappings → Line → Bool
lacks_page d (line.Vsubmit engine ops) = is_none (named_job d ops)
lacks_page d _ = false

-- ---- the least of them

-- the least rule from the fifth on that the line breaks
abbrev pub rule_broken : Progress → Line → Option ℕ
rule_broken p l =
    if lacks_number l then Some 5
    else if lacks_name p.script l then Some 6
    else if lacks_place l then Some 7
    else if has_range_fault p.script l then Some 8
    else if has_byte_fault l then Some 9
    else if has_job_fault (thread_mappings_at_end p.script) l then Some 10
    else if lacks_actor l then Some 11
    else if is_one_too_many p l then Some 12
    else if is_too_long p l then Some 13
    else if has_map_fault (thread_mappings_at_end p.script) l then Some 14
    else if lacks_page (thread_mappings_at_end p.script) l then Some 15
    else None
