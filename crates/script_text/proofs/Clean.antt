-- A line with no broken rule breaks none of them.
use Rattle.std.proofs.Common.{◌≡◌, ℕ, Bool, true, false, cond, Option, Some, None, refl}
use Rattle.journal_model.specs.declared.line.Progress.{Progress}
use Rattle.journal_model.specs.declared.line.Line.{Line}
use Rattle.journal_model.specs.scripts.LineRules.{lacks_number, lacks_name, lacks_place, has_range_fault, has_byte_fault, has_job_fault, lacks_actor, is_one_too_many, is_too_long, has_map_fault, lacks_page, rule_broken}
use Rattle.journal_model.specs.scripts.MarkRules.{thread_mappings_at_end}
use Rattle.script_text.specs.Steps.{IsClean, HasRanges}

abbrev none : Option ℕ
none = None

chain : (a b c d e f g h i j k : Bool)
    → cond a (Some 5) (cond b (Some 6) (cond c (Some 7) (cond d (Some 8) (cond e (Some 9) (cond f (Some 10) (cond g (Some 11) (cond h (Some 12) (cond i (Some 13) (cond j (Some 14) (cond k (Some 15) None)))))))))) ≡ none
    → (a ≡ false) × (b ≡ false) × (d ≡ false) × (h ≡ false) × (i ≡ false) × (k ≡ false)
chain true b c d e f g h i j k p = absurd cc
chain false true c d e f g h i j k p = absurd cc
chain false false true d e f g h i j k p = absurd cc
chain false false false true e f g h i j k p = absurd cc
chain false false false false true f g h i j k p = absurd cc
chain false false false false false true g h i j k p = absurd cc
chain false false false false false false true h i j k p = absurd cc
chain false false false false false false false true i j k p = absurd cc
chain false false false false false false false false true j k p = absurd cc
chain false false false false false false false false false true k p = absurd cc
chain false false false false false false false false false false true p = absurd cc
chain false false false false false false false false false false false p = (refl, refl, refl, refl, refl, refl)

pub clean : (p : Progress) (l : Line) → rule_broken p l ≡ none → HasRanges l → IsClean p l
clean p l h r =
    let all = chain (lacks_number l) (lacks_name p.script l) (lacks_place l) (has_range_fault p.script l) (has_byte_fault l) (has_job_fault (thread_mappings_at_end p.script) l) (lacks_actor l) (is_one_too_many p l) (is_too_long p l)
    (has_map_fault (thread_mappings_at_end p.script) l) (lacks_page (thread_mappings_at_end p.script) l) h in
    record { numbers = all.0; named = all.1; ranges = all.2; fits = all.3; short = all.4; mapped = all.5; said = r }
