-- The commands of a script stay inside its buffers.
use Rattle.std.proofs.Common.{◌≡◌, ℕ, ◌+◌, ◌-◌, ◌*◌, ◌≤◌, ◌<◌, Bool, true, false, refl, ap, List, [], length, get_or, Option, Some, None, unwrap_or, IsTrue, arith, if◌then◌else◌}
use Rattle.std.specs.Prelude.{◌==◌, ◌&&◌, not, nat_le, nat_lt, slice_get, sum_by, All}
use Rattle.std.specs.List.{list_all}
use Rattle.std.proofs.lemmas.Bool.Decides.{nat_tests}
use Rattle.std.proofs.lemmas.List.{get_or-map, length-map}
use Rattle.std.proofs.lemmas.Option.{slice_get-get_or, unwrap_or-slice_get}
use Rattle.ttm_base.specs.declared.BufId.{BufId}
use Rattle.ttm_base.specs.declared.Op.{Op}
use Rattle.ttm_base.specs.declared.Op.TheVariants as op
use Rattle.journal_model.specs.declared.script.Script.{Script}
use Rattle.journal_model.specs.declared.script.Decl.{Decl}
use Rattle.journal_model.specs.declared.script.Command.{Command}
use Rattle.journal_model.specs.declared.script.Command.TheVariants as command
use Rattle.journal_model.specs.rules.Commands.{commands_of, decl, named, undeclared}
use Rattle.journal_model.specs.scripts.CommandRules.{command_len, is_between, is_byte, is_command, is_op, is_range_of}
use Rattle.journal_model.specs.scripts.MarkRules.{have_marks}
use Rattle.journal_model.specs.scripts.ScriptRules.{has_distinct_names, has_sizes, is_decl, is_script, is_turn_line}
use Rattle.journal_model.proofs.ListSteps.{passes_at}
use Rattle.plain_memory.specs.Kept.{sizes_of}
use Rattle.plain_memory.specs.Fits.{HasRange, OpFits, CommandFits}

first_of_two : (a b : Bool) → (a && b) ≡ true → a ≡ true
first_of_two a b h = grind arith

first_of_three : (a b c : Bool) → (a && b && c) ≡ true → a ≡ true
first_of_three a b c h = grind arith

second_of_three : (a b c : Bool) → (a && b && c) ≡ true → b ≡ true
second_of_three a b c h = grind arith

first_of_four : (a b c d : Bool) → (a && b && c && d) ≡ true → a ≡ true
first_of_four a b c d h = grind arith

third_of_four : (a b c d : Bool) → (a && b && c && d) ≡ true → c ≡ true
third_of_four a b c d h = grind arith

last_of_four : (a b c d : Bool) → (a && b && c && d) ≡ true → d ≡ true
last_of_four a b c d h = grind arith

seventh : (a b c d e f g h i j : Bool) → (a && b && c && d && e && f && g && h && i && j) ≡ true → g ≡ true
seventh a b c d e f g h i j t = grind arith

below : (m n : ℕ) → nat_lt m n ≡ true → m < n
below m n h = grind (arith, nat_tests)

at_most : (m n : ℕ) → nat_le m n ≡ true → m ≤ n
at_most m n h = grind (arith, nat_tests)

-- a range of a script is inside
range_fits : (script : Script) (b : BufId) (off len : ℕ) → is_range_of script b off len ≡ true → HasRange (sizes_of script) b off len
range_fits script b off len h =
    let parts_first = first_of_four (nat_lt b.0 (length script.buffers)) (nat_le off 16777216) (is_between 1 16777216 len) (nat_le (off + len) (4096 * (decl script b).pages)) h in
    let parts_last = last_of_four (nat_lt b.0 (length script.buffers)) (nat_le off 16777216) (is_between 1 16777216 len) (nat_le (off + len) (4096 * (decl script b).pages)) h in
    let there : b.0 < length script.buffers = below b.0 (length script.buffers) parts_first in
    let short : off + len ≤ 4096 * (decl script b).pages = at_most (off + len) (4096 * (decl script b).pages) parts_last in
    let n : length (sizes_of script) ≡ length script.buffers = length-map script.buffers (λ (d : Decl). 4096 * d.pages) in
    let size : get_or (sizes_of script) b.0 0 ≡ 4096 * (get_or script.buffers b.0 undeclared).pages = get_or-map (λ (d : Decl). 4096 * d.pages) script.buffers b.0 undeclared 0 there in
    let known : 4096 * (decl script b).pages ≡ 4096 * (get_or script.buffers b.0 undeclared).pages = ap (λ (d : Decl). 4096 * d.pages) (unwrap_or-slice_get script.buffers b.0 undeclared) in
    record { declared = omega (arith, n, there); inside = omega (arith, short, known, size) }

-- an operation of a script is inside
op_fits : (script : Script) (o : Op) → is_op script o ≡ true → OpFits (sizes_of script) o
op_fits script (op.Fill dst off len byte) h = range_fits script dst off len (first_of_two (is_range_of script dst off len) (nat_le byte 255) h)
op_fits script (op.Copy dst doff src soff len) h = (
  range_fits script dst doff len (first_of_three (is_range_of script dst doff len) (is_range_of script src soff len) (not (dst.0 == src.0)) h),
  range_fits script src soff len (second_of_three (is_range_of script dst doff len) (is_range_of script src soff len) (not (dst.0 == src.0)) h),
)
op_fits script (op.Xor dst doff src soff len) h = (
  range_fits script dst doff len (first_of_three (is_range_of script dst doff len) (is_range_of script src soff len) (not (dst.0 == src.0)) h),
  range_fits script src soff len (second_of_three (is_range_of script dst doff len) (is_range_of script src soff len) (not (dst.0 == src.0)) h),
)
op_fits script (op.Probe src off len) h = tt

ops_fit : (script : Script) (ops : List Op) → list_all (is_op script) ops ≡ true → All (OpFits (sizes_of script)) ops
ops_fit script ops h = λ k d l. op_fits script (get_or ops k d) (passes_at (is_op script) ops k (get_or ops k d) h (slice_get-get_or ops k d l))

-- a command of a script is inside
command_fits_here : (script : Script) (c : Command) → is_command script c ≡ true → CommandFits (sizes_of script) (Some c)
command_fits_here script (command.Write b off bytes) h =
    range_fits script b off (length bytes) (first_of_three (is_range_of script b off (length bytes)) (nat_le (length bytes) 256) (list_all is_byte bytes) h)
command_fits_here script (command.Read b off len) h = range_fits script b off len (first_of_two (is_range_of script b off len) (nat_le len 256) h)
command_fits_here script (command.Submit engine ops) h =
    ops_fit script ops (third_of_four (is_between 1 script.sizes.engines engine) (is_between 1 64 (length ops)) (list_all (is_op script) ops) (nat_le (length (named (command.Submit engine ops))) 16) h)
command_fits_here script cmd h = tt

module _ (script : Script) (fits : IsTrue (is_script script)) where
  commands_pass : list_all (list_all (is_command script)) script.threads ≡ true
  commands_pass =
      seventh (is_between 1 2 script.version) (has_sizes script) (nat_le (length script.buffers) 256) (list_all (is_decl script.version) script.buffers) (has_distinct_names script.buffers)
      (nat_le (length script.threads) 16) (list_all (list_all (is_command script)) script.threads) (nat_le (sum_by (sum_by command_len) script.threads) 67108864) (list_all (is_turn_line script) script.turns) (have_marks script) fits

  thread_passes : (t : ℕ) → list_all (is_command script) (commands_of script t) ≡ true
  thread_passes t = by (t == 0)
    where
      by_get : (o : Option (List Command)) → slice_get script.threads (t - 1) ≡ o → list_all (is_command script) (unwrap_or o []) ≡ true
      by_get None e = refl
      by_get (Some xs) e = passes_at (list_all (is_command script)) script.threads (t - 1) xs commands_pass e

      by : (b : Bool) → list_all (is_command script) (if b then [] else unwrap_or (slice_get script.threads (t - 1)) []) ≡ true
      by true = refl
      by false = by_get (slice_get script.threads (t - 1)) refl

  -- each command of each thread
  pub command_fits : (t n : ℕ) → CommandFits (sizes_of script) (slice_get (commands_of script t) n)
  command_fits t n = by (slice_get (commands_of script t) n) refl
    where
      by : (o : Option Command) → slice_get (commands_of script t) n ≡ o → CommandFits (sizes_of script) o
      by None e = tt
      by (Some c) e = command_fits_here script c (passes_at (is_command script) (commands_of script t) n c (thread_passes t) e)

-- a script has few threads
pub few_threads : (script : Script) → IsTrue (is_script script) → length script.threads ≤ 16
few_threads script h = grind (arith, nat_tests)
