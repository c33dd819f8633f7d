-- The mappings at the end of lines that fit are of pages of their buffers.
use Rattle.std.proofs.Common.{◌≡◌, true, eqb, List, [], ◌∷◌, Some, refl, ap, ◌∙◌}
use Rattle.std.specs.Prelude.{fold}
use Rattle.std.specs.List.{list_all}
use Rattle.journal_model.specs.declared.script.Script.{Script}
use Rattle.journal_model.specs.declared.script.Command.{Command}
use Rattle.journal_model.specs.declared.script.MarkKind.{MarkKind}
use Rattle.journal_model.specs.declared.script.MarkKind.TheVariants as mark
use Rattle.journal_model.specs.scripts.MarkRules.{ThreadMappings, empty_thread_mappings, thread_mappings_after, thread_mappings_at_end, is_mark, is_way}
use Rattle.law_legal.specs.law_items.Items.{Item, Alone, Asks, ComesFrom, thread_mappings_behind, item_fits, all_along, items_fit}
use Rattle.law_legal.proofs.law_items.ListFacts.{last_list}
use Rattle.law_legal.proofs.law_items.Puts.{thread_mappings_is}
use Rattle.law_legal.proofs.law_script.NamedJobs.{is_region, regions_stay}
use Rattle.law_legal.proofs.law_items.Tests.{both}

-- all mappings are of pages of their buffers
abbrev AreRight : Script → ThreadMappings → Type 0
AreRight s d = list_all (is_region s) d.regions ≡ true

way_stays : (s : Script) (d : ThreadMappings) (way : MarkKind) (c : Command) → is_way d way (Some c) ≡ true → AreRight s d → AreRight s (thread_mappings_after d way)
way_stays s d mark.Mapped c h r = r
way_stays s d (mark.Vsubmit vs) c h r = r
way_stays s d (mark.Map b) c h r = absurd cc
way_stays s d (mark.Unmap b) c h r = absurd cc
way_stays s d (mark.Vmap va n b off) c h r = absurd cc
way_stays s d (mark.Vunmap va n) c h r = absurd cc

line_stays : (s : Script) (d : ThreadMappings) (item : Item) → item_fits s d item ≡ true → AreRight s d → AreRight s (thread_mappings_behind d item)
line_stays s d (Alone m) h r = regions_stay s d m r (both (eqb s.version 2) (is_mark s d m) h).1
line_stays s d (Asks [] c) h r = r
line_stays s d (Asks (way ∷ []) c) h r = way_stays s d way c (both (eqb s.version 2) (is_way d way (Some c)) h).1 r
line_stays s d (Asks (way ∷ other ∷ ways) c) h r = absurd cc

lines_stay : (s : Script) (d : ThreadMappings) (items : List Item) → all_along (item_fits s) d items ≡ true → AreRight s d → AreRight s (fold thread_mappings_behind d items)
lines_stay s d [] h r = r
lines_stay s d (item ∷ items) h r =
    let f = both (item_fits s d item) (all_along (item_fits s) (thread_mappings_behind d item) items) h in
    lines_stay s (thread_mappings_behind d item) items f.1 (line_stays s d item f.0 r)

last_fits : (s : Script) (lists : List (List Item)) → list_all (items_fit s) lists ≡ true → items_fit s (last_list lists) ≡ true
last_fits s [] h = refl
last_fits s (items ∷ []) h = (both (items_fit s items) true h).0
last_fits s (items ∷ others ∷ lists) h = last_fits s (others ∷ lists) (both (items_fit s items) (list_all (items_fit s) (others ∷ lists)) h).1

-- what the thread at work has mapped is right
pub regions_at_end : (s : Script) (lists : List (List Item)) → ComesFrom s lists → list_all (items_fit s) lists ≡ true → list_all (is_region s) (thread_mappings_at_end s).regions ≡ true
regions_at_end s lists comes fit = ap (λ d. list_all (is_region s) d.regions) (thread_mappings_is s lists comes) ∙ lines_stay s empty_thread_mappings (last_list lists) (last_fits s lists fit) refl
