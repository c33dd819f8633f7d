-- Words of jobs with addresses, and the jobs by name that they make.
use Rattle.std.proofs.Common.{◌≡◌, ℕ, ◌+◌, ◌≤◌, ◌<◌, min, Bool, true, false, List, [], ◌∷◌, length, map, Option, Some, None, refl, ap, sym, ◌∙◌, arith}
use Rattle.std.specs.Prelude.{◌&&◌, ◌||◌, not, nat_lt, is_none, option_map, unwrap_or}
use Rattle.std.specs.List.{list_any, list_all}
use Rattle.std.proofs.lemmas.Bool.Decides.{nat_tests}
use Rattle.ttm_base.specs.declared.Op.{Op}
use Rattle.journal_model.specs.declared.line.VOpWord.{VOpWord}
use Rattle.journal_model.specs.declared.line.VOpWord.TheVariants as vop_word
use Rattle.journal_model.specs.marks.Spaces.{Region}
use Rattle.journal_model.specs.marks.ByName.{job_by_name}
use Rattle.journal_model.specs.scripts.MarkRules.{ThreadMappings, has_apart_ranges}
use Rattle.journal_model.specs.declared.line.EngineWord.{EngineWord}
use Rattle.journal_model.specs.declared.script.Script.{Script}
use Rattle.journal_model.specs.declared.line.Line.{Line}
use Rattle.journal_model.specs.declared.line.Line.TheVariants as line
use Rattle.journal_model.specs.scripts.LineRules.{is_broken_engine, lacks_number, has_range_fault, lacks_number_in_vop, has_wrong_addresses, passes_in_vop, is_more_than, vop_in, has_buffer_twice, named_job, is_big_named_job, has_job_fault, lacks_page}
use Rattle.gpu_spaces.specs.Inside.{ends_inside, is_inside}
use Rattle.script_rules.specs.script_mappings.ThreadMappingLists.{Seen, IsThreadMappings}
use Rattle.script_rules.specs.Jobs.{names_many, breaks_job_at}

either : (a b : Bool) → (a || b) ≡ false → (a ≡ false) × (b ≡ false)
either true b h = absurd cc
either false b h = (refl, h)

joint : (a b : Bool) → a ≡ true → b ≡ true → (a && b) ≡ true
joint true b h k = k
joint false b h k = absurd cc

-- ---- ranges inside the space

range_inside : (addr len : Option ℕ) → is_none addr ≡ false → is_none len ≡ false → has_wrong_addresses addr len ≡ false → ends_inside (unwrap_or addr 0) (unwrap_or len 0) ≡ true
range_inside None len h k w = absurd cc
range_inside (Some a) None h k w = absurd cc
range_inside (Some a) (Some n) h k w = let f = (either _ (nat_lt 4294967296 (a + n)) w).1 in grind (arith, nat_tests, f)

op_inside : (w : VOpWord) → lacks_number_in_vop w ≡ false → passes_in_vop w ≡ false → is_inside (vop_in w) ≡ true
op_inside (vop_word.Fill addr len byte) h p = let n = either (is_none addr) (is_none len) h in range_inside addr len n.0 n.1 p
op_inside (vop_word.Copy addr from len) h p =
    let n = either (is_none addr || is_none from) (is_none len) h in
    let m = either (is_none addr) (is_none from) n.0 in
    let q = either (has_wrong_addresses addr len) (has_wrong_addresses from len) p in
    joint _ _ (range_inside addr len m.0 n.1 q.0) (range_inside from len m.1 n.1 q.1)
op_inside (vop_word.Xor addr from len) h p =
    let n = either (is_none addr || is_none from) (is_none len) h in
    let m = either (is_none addr) (is_none from) n.0 in
    let q = either (has_wrong_addresses addr len) (has_wrong_addresses from len) p in
    joint _ _ (range_inside addr len m.0 n.1 q.0) (range_inside from len m.1 n.1 q.1)
op_inside (vop_word.Probe addr len) h p =
    let n = either (is_none addr) (is_none len) h in
    let q = either (has_wrong_addresses addr len) (is_more_than 256 len) p in
    range_inside addr len n.0 n.1 q.0
op_inside vop_word.Malformed h p = refl

-- operations whose words break no rule lie in the space
pub ops_inside : (ws : List VOpWord) → list_any lacks_number_in_vop ws ≡ false → list_any passes_in_vop ws ≡ false → list_all is_inside (map vop_in ws) ≡ true
ops_inside [] h p = refl
ops_inside (w ∷ ws) h p =
    let n = either (lacks_number_in_vop w) (list_any lacks_number_in_vop ws) h in
    let q = either (passes_in_vop w) (list_any passes_in_vop ws) p in
    joint (is_inside (vop_in w)) (list_all is_inside (map vop_in ws)) (op_inside w n.0 q.0) (ops_inside ws n.1 q.1)

-- ---- one buffer twice

pub twice_in_words : (rs : List Region) (ws : List VOpWord) → list_any (λ v. not (has_apart_ranges rs v)) (map vop_in ws) ≡ list_any (λ w. not (has_apart_ranges rs (vop_in w))) ws
twice_in_words rs [] = refl
twice_in_words rs (w ∷ ws) = ap (λ b. not (has_apart_ranges rs (vop_in w)) || b) (twice_in_words rs ws)

-- ---- how many operations there are, counted up to one more than the most

pub not_mapped : (o : Option (List Op)) → None ≡ option_map (λ job. min (length job) 65) o → false ≡ is_big_named_job o
not_mapped None e = refl
not_mapped (Some job) e = absurd cc

pub is_long : (o : Option (List Op)) (count : ℕ) → Some count ≡ option_map (λ job. min (length job) 65) o → 64 < count → true ≡ is_big_named_job o
is_long None count e l = absurd cc
is_long (Some job) count e l =
    let same : count ≡ min (length job) 65 = cc in
    let long : 64 < length job = omega (arith, same, l) in
    let t : nat_lt 64 (length job) ≡ true = grind (arith, nat_tests, long) in
    sym (rw t refl)

pub is_short : (o : Option (List Op)) (count : ℕ) → Some count ≡ option_map (λ job. min (length job) 65) o → count ≤ 64 → names_many o ≡ is_big_named_job o
is_short None count e l = absurd cc
is_short (Some job) count e l =
    let same : count ≡ min (length job) 65 = cc in
    let few : length job ≤ 64 = omega (arith, same, l) in
    let f : nat_lt 64 (length job) ≡ false = grind (arith, nat_tests, few) in
    rw f refl

pub none_counted : (o : Option (List Op)) (most : ℕ) → is_none (option_map (λ job. min (length job) most) o) ≡ is_none o
none_counted None most = refl
none_counted (Some job) most = refl

-- ---- a line of such a job

twice_is : (d : ThreadMappings) (ws : List VOpWord) → list_any (λ w. not (has_apart_ranges d.regions (vop_in w))) ws ≡ list_any (has_buffer_twice d) ws
twice_is d [] = refl
twice_is d (w ∷ ws) = ap (λ b. not (has_apart_ranges d.regions (vop_in w)) || b) (twice_is d ws)

-- rule 10, by the mappings of the thread_mappings
pub job_fault_is : (d : ThreadMappings) (engine : EngineWord) (ws : List VOpWord) → breaks_job_at d.regions ws ≡ has_job_fault d (line.Vsubmit engine ws)
job_fault_is d engine ws = ap (λ b. b || is_big_named_job (named_job d ws)) (twice_is d ws)

pub job_fault_of : (seen : Seen) (d : ThreadMappings) (engine : EngineWord) (ws : List VOpWord) → IsThreadMappings seen d → breaks_job_at seen.regions ws ≡ has_job_fault d (line.Vsubmit engine ws)
job_fault_of seen d engine ws k = ap (λ rs. breaks_job_at rs ws) k.regions ∙ job_fault_is d engine ws

-- rule 15
pub page_fault_of : (seen : Seen) (d : ThreadMappings) (engine : EngineWord) (ws : List VOpWord) (most : ℕ) → IsThreadMappings seen d →
    is_none (option_map (λ job. min (length job) most) (job_by_name seen.regions (map vop_in ws))) ≡ lacks_page d (line.Vsubmit engine ws)
page_fault_of seen d engine ws most k = none_counted (job_by_name seen.regions (map vop_in ws)) most ∙ ap (λ rs. is_none (job_by_name rs (map vop_in ws))) k.regions

-- the operations of a line that breaks neither rule 5 nor rule 8 lie in the space
pub line_inside : (s : Script) (l : Line) (engine : EngineWord) (ws : List VOpWord) → l ≡ line.Vsubmit engine ws → lacks_number l ≡ false → has_range_fault s l ≡ false → list_all is_inside (map vop_in ws) ≡ true
line_inside s l engine ws e n r =
    let numbers : lacks_number (line.Vsubmit engine ws) ≡ false = ap lacks_number (sym e) ∙ n in
    let ranges : has_range_fault s (line.Vsubmit engine ws) ≡ false = ap (has_range_fault s) (sym e) ∙ r in
    ops_inside ws (either (is_broken_engine engine) (list_any lacks_number_in_vop ws) numbers).1 ranges

or_true : (a b : Bool) → b ≡ true → true ≡ (a || b)
or_true true b h = refl
or_true false b h = sym h

or_false : (a b : Bool) → b ≡ false → a ≡ (a || b)
or_false true b h = refl
or_false false b h = sym h

-- what is found of the operations is told of their words
pub big_told : (rs : List Region) (ws : List VOpWord) (found : Bool) → found ≡ is_big_named_job (job_by_name rs (map vop_in ws)) → found ≡ true → true ≡ breaks_job_at rs ws
big_told rs ws found e t = or_true (list_any (λ w. not (has_apart_ranges rs (vop_in w))) ws) (is_big_named_job (job_by_name rs (map vop_in ws))) (sym e ∙ t)

pub twice_told : (rs : List Region) (ws : List VOpWord) (found : Bool) → found ≡ is_big_named_job (job_by_name rs (map vop_in ws)) → found ≡ false → list_any (λ v. not (has_apart_ranges rs v)) (map vop_in ws) ≡ breaks_job_at rs ws
twice_told rs ws found e f = twice_in_words rs ws ∙ or_false (list_any (λ w. not (has_apart_ranges rs (vop_in w))) ws) (is_big_named_job (job_by_name rs (map vop_in ws))) (sym e ∙ f)
