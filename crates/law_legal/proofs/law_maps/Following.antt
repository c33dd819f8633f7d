-- Areas follow a journal by one entry that isn't an answer.
use Rattle.std.proofs.Common.{◌≡◌, ℕ, Bool, true, false, List, [], ◌∷◌, ◌++◌, Option, None, ◌==◌, if◌then◌else◌, refl, sym, ◌∙◌, ap, arith}
use Rattle.std.specs.Prelude.{fold, map, option_map}
use Rattle.std.proofs.lemmas.Grind.{common_steps}
use Rattle.std.proofs.lemmas.List.Sums.{fold-append}
use Rattle.ttm_base.specs.declared.PagePlace.{PagePlace}
use Rattle.ttm_base.specs.Pages.{Page}
use Rattle.journal_model.specs.declared.script.Script.{Script}
use Rattle.journal_model.specs.declared.entry.Kind.{Kind}
use Rattle.journal_model.specs.declared.entry.Kind.TheVariants as kind
use Rattle.journal_model.specs.rules.Legal.{Made}
use Rattle.journal_model.specs.rules.State.{same_buffer}
use Rattle.journal_model.specs.statements.Complete.{is_answer}
use Rattle.journal_model.specs.marks.Mapped.{Mapping, entry_after, count_answers, has_ended}
use Rattle.cpu_maps.specs.declared.area.Area.{Area}
use Rattle.cpu_maps.specs.Areas.{entry_in, unmapped}
use Rattle.law_legal.specs.law_maps.Following.{page_there, Follow, areas_behind}
use Rattle.law_legal.proofs.law_maps.Entries.{same_either, entry_without_buffer, entry_without_page, entry_unmapped}

-- what names nothing, in either form
unless_named : (x : Bool) (o : Option PagePlace) → option_map page_there (if x then None else o) ≡ (if x then None else option_map page_there o)
unless_named true o = refl
unless_named false o = refl

paged_named : (y x : Bool) (o : Option PagePlace) →
    option_map page_there (if y then (if x then None else o) else o) ≡ (if y then (if x then None else option_map page_there o) else option_map page_there o)
paged_named true true o = refl
paged_named true false o = refl
paged_named false x o = refl

same_paged : {X : Type 0} (y x : Bool) (o : X) → (if y then (if x then o else o) else o) ≡ o
same_paged true true o = refl
same_paged true false o = refl
same_paged false x o = refl

-- one entry, kind by kind
pub step : (script : Script) (m : Mapping) (i : ℕ) (e : Made) (areas : List Area) (k : Kind) → is_answer k ≡ false →
    option_map page_there (entry_in (areas_behind k areas) m.thread m.b i) ≡ entry_after script m i e k (option_map page_there (entry_in areas m.thread m.b i))
step script m i e areas (kind.Result r) h = cc
step script m i e areas (kind.Refused d) h = cc
step script m i e areas (kind.Free b g) h = ap (option_map page_there) (entry_without_buffer b m.thread m.b i areas) ∙ unless_named (same_buffer m.b b) (entry_in areas m.thread m.b i)
step script m i e areas (kind.Move b mem n l) h = ap (option_map page_there) (entry_without_buffer b m.thread m.b i areas) ∙ unless_named (same_buffer m.b b) (entry_in areas m.thread m.b i)
step script m i e areas (kind.Bind b) h = ap (option_map page_there) (entry_without_buffer b m.thread m.b i areas) ∙ unless_named (same_buffer m.b b) (entry_in areas m.thread m.b i)
step script m i e areas (kind.Unbind b) h = ap (option_map page_there) (entry_without_buffer b m.thread m.b i areas) ∙ unless_named (same_buffer m.b b) (entry_in areas m.thread m.b i)
step script m i e areas (kind.SwapOut b page k) h = ap (option_map page_there) (entry_without_page b page m.thread m.b i areas) ∙ paged_named (page == i) (same_buffer m.b b) (entry_in areas m.thread m.b i)
step script m i e areas _ h = refl

-- what has no entry gets none
pub none_after : (script : Script) (m : Mapping) (i : ℕ) (e : Made) (k : Kind) → is_answer k ≡ false → entry_after script m i e k None ≡ None
none_after script m i e (kind.Result r) h = cc
none_after script m i e (kind.Refused d) h = cc
none_after script m i e (kind.Free b g) h = sym (same_either (same_buffer m.b b) None)
none_after script m i e (kind.Move b mem n l) h = sym (same_either (same_buffer m.b b) None)
none_after script m i e (kind.Bind b) h = sym (same_either (same_buffer m.b b) None)
none_after script m i e (kind.Unbind b) h = sym (same_either (same_buffer m.b b) None)
none_after script m i e (kind.SwapOut b page k) h = same_paged (page == i) (same_buffer m.b b) None
none_after script m i e _ h = refl

-- no answer more
pub same_count : (thread : ℕ) (made : List Made) (e : Made) → is_answer e.entry.kind ≡ false → count_answers thread (made ++ e ∷ []) ≡ count_answers thread made
same_count thread [] e h = grind (arith, common_steps, h)
same_count thread (x ∷ made) e h = let rest = same_count thread made e h in grind (arith, common_steps)

-- a function that leaves nothing at nothing goes inside
inside : (x : Bool) (g : Option Page → Option Page) (o : Option Page) → g None ≡ None → g (if x then None else o) ≡ (if x then None else g o)
inside true g o h = h
inside false g o h = refl

pub follows : (script : Script) (made : List Made) (e : Made) (m : Mapping) (areas : List Area) →
    is_answer e.entry.kind ≡ false → Follow script made areas m → Follow script (made ++ e ∷ []) (areas_behind e.entry.kind areas) m
follows script made e m areas h known = λ i.
    let g : Option Page → Option Page = entry_after script m i e e.entry.kind in
    let old = fold (λ old f. entry_after script m i f f.entry.kind old) None made in
    step script m i e areas e.entry.kind h
    ∙ ap g (known i)
    ∙ inside (has_ended m (count_answers m.thread made)) g old (none_after script m i e e.entry.kind h)
    ∙ rw (same_count m.thread made e h, fold-append (λ old f. entry_after script m i f f.entry.kind old) None made (e ∷ [])) refl

pub ended : (script : Script) (made : List Made) (m : Mapping) (areas : List Area) →
    has_ended m (count_answers m.thread made) ≡ true → Follow script made (map (unmapped m.thread m.b) areas) m
ended script made m areas h = λ i. ap (option_map page_there) (entry_unmapped m.thread m.b i areas) ∙ rw h refl
