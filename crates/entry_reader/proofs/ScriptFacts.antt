-- What every script keeps: few buffers with names of their own, few threads and engines.
use Rattle.std.proofs.Common.{◌≡◌, ◌≤◌, ◌^◌, Bool, true, length, arith}
use Rattle.std.specs.Prelude.{◌&&◌, nat_le, sum_by}
use Rattle.std.specs.List.{list_all}
use Rattle.journal_model.specs.declared.script.Script.{Script}
use Rattle.journal_model.specs.scripts.CommandRules.{command_len, is_between, is_command}
use Rattle.journal_model.specs.scripts.ScriptRules.{has_distinct_names, has_sizes, is_decl, is_script, is_turn_line}
use Rattle.journal_model.specs.scripts.MarkRules.{have_marks}
use Rattle.journal_model.specs.scripts.Readable.{is_u64}
use Rattle.law_legal.proofs.law_items.Tests.{both, le_is, lt_is}
use Rattle.law_legal.proofs.law_script.NamesAgain.{IsNamed}
use Rattle.law_legal.proofs.law_script.NumberLaws.{between}

-- the tests that count here, of ten
record SixTests (a b c d e f : Bool) : Type 0 where
  version : a ≡ true
  sizes : b ≡ true
  buffers : c ≡ true
  decls : d ≡ true
  names : e ≡ true
  threads : f ≡ true

six_of : (a b c d e f g h i j : Bool) → (((((((((a && b) && c) && d) && e) && f) && g) && h) && i) && j) ≡ true → SixTests a b c d e f
six_of a b c d e f g h i j all =
    let p = both ((((((((a && b) && c) && d) && e) && f) && g) && h) && i) j all in
    let q = both (((((((a && b) && c) && d) && e) && f) && g) && h) i p.0 in
    let r = both ((((((a && b) && c) && d) && e) && f) && g) h q.0 in
    let s = both (((((a && b) && c) && d) && e) && f) g r.0 in
    let t = both ((((a && b) && c) && d) && e) f s.0 in
    let u = both (((a && b) && c) && d) e t.0 in
    let v = both ((a && b) && c) d u.0 in
    let w = both (a && b) c v.0 in
    record { version = (both a b w.0).0; sizes = (both a b w.0).1; buffers = w.1; decls = v.1; names = u.1; threads = t.1 }

of_script : (script : Script) → is_script script ≡ true
    → SixTests (is_between 1 2 script.version) (has_sizes script) (nat_le (length script.buffers) 256) (list_all (is_decl script.version) script.buffers) (has_distinct_names script.buffers) (nat_le (length script.threads) 16)
of_script script h =
    six_of (is_between 1 2 script.version) (has_sizes script) (nat_le (length script.buffers) 256) (list_all (is_decl script.version) script.buffers)
    (has_distinct_names script.buffers) (nat_le (length script.threads) 16) (list_all (list_all (is_command script)) script.threads)
    (nat_le (sum_by (sum_by command_len) script.threads) 67108864) (list_all (is_turn_line script) script.turns) (have_marks script) h

-- the buffers of a script are declared once, by names
pub script_named : (script : Script) → is_script script ≡ true → IsNamed script
script_named script h = let f = of_script script h in record { decls = f.decls; distinct_ones = f.names }

-- and few
pub few_buffers : (script : Script) → is_script script ≡ true → length script.buffers ≤ 256
few_buffers script h = let f = of_script script h in le_is (length script.buffers) 256 f.buffers

-- few threads and engines
pub few_threads : (script : Script) → is_script script ≡ true → length script.threads ≤ 16
few_threads script h = let f = of_script script h in le_is (length script.threads) 16 f.threads

pub few_engines : (script : Script) → is_script script ≡ true → script.sizes.engines ≤ 8
few_engines script h =
    let f = of_script script h in
    let g = both (nat_le script.sizes.vram 16384 && nat_le script.sizes.tt 16384 && nat_le script.sizes.frames 16384 && nat_le script.sizes.swap 32768) (nat_le script.sizes.engines 8) f.sizes in
    le_is script.sizes.engines 8 g.1

pub small_version : (script : Script) → is_script script ≡ true → is_u64 script.version ≡ true
small_version script h = let f = of_script script h in let v = between 1 2 script.version f.version in lt_is script.version (2 ^ 64) (omega (arith, v.1))
