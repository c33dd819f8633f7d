-- Small texts, by computation: what they say, and the first line that is broken with the least rule that it breaks.
use Rattle.std.proofs.Common.{◌≡◌, [], ◌∷◌, ◌++◌, None, Some, false, refl}
use Rattle.std.specs.Prelude.{codes, Ok, None}
use Rattle.ttm_base.specs.declared.Mem.TheVariants.{System}
use Rattle.journal_model.specs.declared.script.Script.{Script}
use Rattle.journal_model.specs.declared.script.Command.TheVariants as command
use Rattle.journal_model.specs.scripts.Words.{Text}
use Rattle.journal_model.specs.rules.Commands.{whole}
use Rattle.journal_model.specs.scripts.FirstFault.{script_of, first_fault}
use Rattle.journal_model.proofs.Rows.{sizes, buf_named, buf_id}

-- ---- a script of eleven lines

abbrev six_lines : Text
six_lines = codes "ttm 1\nvram range 0\ntt 0\nframes 2\nswap 0\nengines 0\n"

abbrev line_of_a : Text
line_of_a = codes "buffer a 2 prio 1 group - align 1 want sys busy sys\n"

-- the lines above a command, and those below
abbrev with_command : Text → Text
with_command text = six_lines ++ line_of_a ++ codes "thread\nnew a\n" ++ text

abbrev border_text : Text
border_text = with_command (codes "write a 4094 0102\nread a 4093 4\nend\n")

abbrev border_script : Script
border_script =
    record {
      version = 1;
      sizes = sizes false 0 0 2 0 0;
      buffers = buf_named (codes "a") 2 (whole System) ∷ [];
      threads = (command.New (buf_id 0) ∷ command.Write (buf_id 0) 4094 (1 ∷ 2 ∷ []) ∷ command.Read (buf_id 0) 4093 4 ∷ []) ∷ [];
      turns = [];
      marks = [];
    }

whole_script : script_of border_text ≡ Ok border_script
whole_script = refl

empty_script : first_fault (six_lines ++ codes "end\n") ≡ None
empty_script = refl

-- ---- broken lines

nothing : first_fault [] ≡ Some (1, 3)
nothing = refl

three_lines : first_fault (codes "ttm 1\nvram range 0\ntt 0\n") ≡ Some (4, 3)
three_lines = refl

cut_line : first_fault (codes "ttm 1\nvram range 0\ntt") ≡ Some (3, 2)
cut_line = refl

third_version : first_fault (codes "ttm 3\n") ≡ Some (1, 4)
third_version = refl

leading_zero : first_fault (codes "ttm 1\nvram range 0\ntt 0\nframes 02\n") ≡ Some (4, 5)
leading_zero = refl

declared_twice : first_fault (six_lines ++ line_of_a ++ line_of_a) ≡ Some (8, 6)
declared_twice = refl

unknown_name : first_fault (six_lines ++ line_of_a ++ codes "thread\nnew c\n") ≡ Some (9, 6)
unknown_name = refl

no_page_in_reach : first_fault (six_lines ++ codes "buffer a 2 prio 1 group - align 1 want vram@4-4 busy sys\n") ≡ Some (7, 7)
no_page_in_reach = refl

written_out_reach : first_fault (six_lines ++ codes "buffer a 2 prio 1 group - align 1 want vram@0-0 busy sys\n") ≡ Some (7, 7)
written_out_reach = refl

-- the number in a place is the lesser rule
number_in_a_place : first_fault (six_lines ++ codes "buffer a 2 prio 1 group - align 1 want vram@04-8 busy sy\n") ≡ Some (7, 5)
number_in_a_place = refl

passes_the_buffer : first_fault (with_command (codes "write a 8191 0102\n")) ≡ Some (10, 8)
passes_the_buffer = refl

odd_digits : first_fault (with_command (codes "write a 4094 010\n")) ≡ Some (10, 9)
odd_digits = refl

two_spaces : first_fault (with_command (codes "write a 4094 0102\nread  a 4093 4\n")) ≡ Some (11, 4)
two_spaces = refl

no_engine : first_fault (with_command (codes "submit 1 fill a 0 1 00\n")) ≡ Some (10, 11)
no_engine = refl

no_thread : first_fault (with_command (codes "schedule t2\n")) ≡ Some (10, 11)
no_thread = refl

second_end : first_fault (border_text ++ codes "end\n") ≡ Some (13, 3)
second_end = refl

-- ---- one list of places

abbrev second_version : Text → Text
second_version list = codes "ttm 2\nvram range 8\ntt 4\nframes 2\nswap 0\nengines 0\nbuffer a 2 prio 1 group 3 align 1 place " ++ list ++ codes "\nend\n"

flags_in_order : first_fault (second_version (codes "vram@0-4+top+contig+desired,tt,sys+fallback")) ≡ None
flags_in_order = refl

-- none may be tried under pressure
all_desired : first_fault (second_version (codes "vram+desired,tt+desired")) ≡ Some (7, 7)
all_desired = refl

both_flags : first_fault (second_version (codes "vram+desired+fallback,tt")) ≡ Some (7, 7)
both_flags = refl

old_line_in_version_two : first_fault (codes "ttm 2\nvram range 0\ntt 0\nframes 2\nswap 0\nengines 0\n" ++ line_of_a) ≡ Some (7, 4)
old_line_in_version_two = refl

-- flags may follow SYSTEM, a reach may not
flags_in_system : first_fault (six_lines ++ codes "buffer a 2 prio 1 group - align 1 want sys+top busy sys+contig\nend\n") ≡ None
flags_in_system = refl

reach_in_system : first_fault (six_lines ++ codes "buffer a 2 prio 1 group - align 1 want sys@0-4 busy sys\nend\n") ≡ Some (7, 7)
reach_in_system = refl
