-- Mappings that end by a part of the marks.
use Rattle.std.proofs.Common.{◌≡◌, ℕ, Bool, false, List, ap, fold, arith}
use Rattle.std.specs.Prelude.{◌==◌, ◌&&◌, if◌then◌else◌}
use Rattle.std.proofs.lemmas.Bool.Decides.{nat_tests}
use Rattle.journal_model.specs.declared.script.Mark.{Mark}
use Rattle.cpu_maps.specs.declared.area.Area.{Area}
use Rattle.map_access.specs.Parts.{IsPart, is_within}
use Rattle.map_access.proofs.Parts.{fold_part}
use Rattle.map_follow.specs.Ends.{behind_line, with_end}

elsewhere : (thread n : ℕ) (m : Mark) → is_within thread n n m ≡ false → ((m.thread == thread) && (m.after == n)) ≡ false
elsewhere thread n m h = grind (arith, nat_tests, h)

ends_nothing : (thread n : ℕ) (areas : List Area) (m : Mark) → is_within thread n n m ≡ false → with_end thread n areas m ≡ areas
ends_nothing thread n areas m h = ap (λ (b : Bool). if b then behind_line thread m.kind areas else areas) (elsewhere thread n m h)

-- the lines of the part end all that ends
pub ends_by_part : (thread n : ℕ) (part marks : List Mark) (areas : List Area) → IsPart thread n n part marks
    → fold (with_end thread n) areas part ≡ fold (with_end thread n) areas marks
ends_by_part thread n part marks areas is = fold_part (with_end thread n) thread n n part marks (ends_nothing thread n) is areas
