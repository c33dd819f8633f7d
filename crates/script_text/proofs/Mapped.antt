-- What a line that breaks no rule maps: its pages, and the thread_mappings after it.
use Rattle.std.proofs.Common.{◌≡◌, ℕ, zero, suc, ◌+◌, ◌≤◌, Bool, true, false, List, [], ◌∷◌, Option, Some, None, refl, ap, sym, subst, ◌∙◌, arith}
use Rattle.std.specs.Prelude.{◌||◌, is_none, slice_get, unwrap_or}
use Rattle.std.specs.List.{list_all}
use Rattle.std.proofs.lemmas.Bool.{and_parts, leb-true}
use Rattle.std.proofs.lemmas.Bool.Decides.{nat_tests}
use Rattle.ttm_base.specs.declared.BufId.{BufId}
use Rattle.journal_model.specs.declared.script.Script.{Script}
use Rattle.journal_model.specs.declared.script.Decl.{Decl}
use Rattle.journal_model.specs.declared.line.Progress.{Progress}
use Rattle.journal_model.specs.declared.line.Line.{Line}
use Rattle.journal_model.specs.declared.line.Line.TheVariants as line
use Rattle.journal_model.specs.rules.Commands.{decl, undeclared}
use Rattle.journal_model.specs.scripts.LineRules.{lacks_number, lacks_name, has_range_fault, passes_end, passes_pages}
use Rattle.journal_model.specs.scripts.MarkRules as words
use Rattle.script_rules.specs.script_mappings.ThreadMappingLists.{Seen, IsThreadMappings}
use Rattle.script_text.specs.Steps.{IsClean, thread_mappings_next, has_few_pages}

either : (a b : Bool) → (a || b) ≡ false → (a ≡ false) × (b ≡ false)
either true b h = absurd cc
either false b h = (refl, h)

found_few : (ds : List Decl) (i : ℕ) → list_all has_few_pages ds ≡ true → (unwrap_or (slice_get ds i) undeclared).pages ≤ 4096
found_few [] i h = omega arith
found_few (d ∷ ds) zero h = leb-true d.pages 4096 (and_parts (has_few_pages d) (list_all has_few_pages ds) h).0
found_few (d ∷ ds) (suc i) h = found_few ds i (and_parts (has_few_pages d) (list_all has_few_pages ds) h).1

within : (end : ℕ) (off n : Option ℕ) → is_none off ≡ false → is_none n ≡ false → passes_end end off n ≡ false → unwrap_or off 0 + unwrap_or n 0 ≤ end
within end None n h k p = absurd cc
within end (Some i) None h k p = absurd cc
within end (Some i) (Some n) h k p = grind (arith, nat_tests, p)

pages_within : (s : Script) (b : Option BufId) (off n : Option ℕ) → list_all has_few_pages s.buffers ≡ true → is_none b ≡ false → is_none off ≡ false → is_none n ≡ false →
    passes_pages s b off n ≡ false → unwrap_or off 0 + unwrap_or n 0 ≤ 4096
pages_within s None off n few h k m p = absurd cc
pages_within s (Some b) off n few h k m p =
    let inside = within (decl s b).pages off n k m p in
    let most = found_few s.buffers b.0 few in
    omega (arith, inside, most)

-- the pages of a buffer that a line maps are among the most that one has
pub vmap_pages : (p : Progress) (l : Line) (va n : Option ℕ) (b : Option BufId) (off : Option ℕ) → l ≡ line.Vmap va n b off → IsClean p l → list_all has_few_pages p.script.buffers ≡ true →
    unwrap_or off 0 + unwrap_or n 0 ≤ 4096
vmap_pages p l va n b off e c few =
    let numbers : lacks_number (line.Vmap va n b off) ≡ false = ap lacks_number (sym e) ∙ c.numbers in
    let named : lacks_name p.script (line.Vmap va n b off) ≡ false = ap (lacks_name p.script) (sym e) ∙ c.named in
    let ranges : has_range_fault p.script (line.Vmap va n b off) ≡ false = ap (has_range_fault p.script) (sym e) ∙ c.ranges in
    let n1 = either (is_none va || is_none n) (is_none off) numbers in
    let n2 = either (is_none va) (is_none n) n1.0 in
    pages_within p.script b off n few named n1.1 n2.1 (either (passes_end 1048576 va n) (passes_pages p.script b off n) ranges).1

-- the thread_mappings after a line
pub next_of : (seen : Seen) (d : words.ThreadMappings) (l m : Line) → l ≡ m → IsThreadMappings seen (thread_mappings_next d m) → IsThreadMappings seen (thread_mappings_next d l)
next_of seen d l m e k = subst (λ x. IsThreadMappings seen (thread_mappings_next d x)) (sym e) k
