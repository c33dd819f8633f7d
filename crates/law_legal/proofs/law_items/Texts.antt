-- The text of a script by its lines.
use Rattle.std.proofs.Common.{◌≡◌, ℕ, ◌+◌, Bool, true, false, List, [], ◌∷◌, ◌++◌, map, Option, Some, None, refl, sym, ap, ◌∙◌, append_assoc}
use Rattle.std.specs.Prelude.{◌==◌, codes, filter_map, flat_map, slice_get}
use Rattle.std.specs.List.{list_any, list_all, enumerate_from}
use Rattle.std.proofs.lemmas.List.{append-nil}
use Rattle.std.proofs.lemmas.Grind.{flat_map-append}
use Rattle.journal_model.specs.declared.script.Script.{Script}
use Rattle.journal_model.specs.declared.script.Command.{Command}
use Rattle.journal_model.specs.declared.script.MarkKind.{MarkKind}
use Rattle.journal_model.specs.declared.script.MarkKind.TheVariants as mark
use Rattle.journal_model.specs.declared.space.VOp.{VOp}
use Rattle.journal_model.specs.scripts.Words.{Text, line}
use Rattle.journal_model.specs.marks.Marks.{addressed, is_mapped, marks_of}
use Rattle.journal_model.specs.scripts.MarkRules.{ThreadMappings, empty_thread_mappings, is_mark, is_way, is_line}
use Rattle.journal_model.specs.scripts.Spelling.{addressed_words, command_words, mapped_words, mark_line, command_lines, thread_lines}
use Rattle.law_legal.specs.law_items.Items.{Item, Alone, Asks, commands_in, marks_in, ComesFrom, written, item_text, items_text, thread_mappings_behind, item_fits, all_along, items_fit}
use Rattle.law_legal.proofs.law_items.Tests.{both, and_true}
use Rattle.law_legal.proofs.law_items.Places.{Stand, stand_first, stand_alone, stand_next, stand_here, stand_last, HasThreads, has_threads, next_threads, first_marks, all_append}

-- ---- lines and ways

-- a mark that fits has a line
pub mark_is_line : (s : Script) (d : ThreadMappings) (m : MarkKind) → is_mark s d m ≡ true → is_line m ≡ true
mark_is_line s d (mark.Map b) h = refl
mark_is_line s d (mark.Unmap b) h = refl
mark_is_line s d mark.Mapped h = absurd cc
mark_is_line s d (mark.Vmap va n b off) h = refl
mark_is_line s d (mark.Vunmap va n) h = refl
mark_is_line s d (mark.Vsubmit ops) h = absurd cc

-- a mark that may stand alone has a line
pub alone_is_line : (s : Script) (d : ThreadMappings) (m : MarkKind) → item_fits s d (Alone m) ≡ true → is_line m ≡ true
alone_is_line s d m h = mark_is_line s d m (both (s.version == 2) (is_mark s d m) h).1

-- a way has none
pub way_no_line : (d : ThreadMappings) (way : MarkKind) (o : Option Command) → is_way d way o ≡ true → is_line way ≡ false
way_no_line d (mark.Map b) o h = absurd cc
way_no_line d (mark.Unmap b) o h = absurd cc
way_no_line d mark.Mapped o h = refl
way_no_line d (mark.Vmap va n b off) o h = absurd cc
way_no_line d (mark.Vunmap va n) o h = absurd cc
way_no_line d (mark.Vsubmit ops) o h = refl

no_text : (s : Script) (way : MarkKind) → is_line way ≡ false → mark_line s way ≡ []
no_text s (mark.Map b) h = absurd cc
no_text s (mark.Unmap b) h = absurd cc
no_text s mark.Mapped h = refl
no_text s (mark.Vmap va n b off) h = absurd cc
no_text s (mark.Vunmap va n) h = absurd cc
no_text s (mark.Vsubmit ops) h = refl

ways_quiet : (s : Script) (d : ThreadMappings) (ways : List MarkKind) (c : Command) → item_fits s d (Asks ways c) ≡ true → flat_map (mark_line s) ways ≡ []
ways_quiet s d [] c h = refl
ways_quiet s d (way ∷ []) c h = append-nil (mark_line s way) ∙ no_text s way (way_no_line d way (Some c) (both (s.version == 2) (is_way d way (Some c)) h).1)
ways_quiet s d (way ∷ other ∷ ways) c h = absurd cc

-- ---- marks with lines of their own say nothing of how a command is written

passed : (m : MarkKind) (ms : List MarkKind) → is_line m ≡ true → (filter_map addressed (m ∷ ms) ≡ filter_map addressed ms) × (list_any is_mapped (m ∷ ms) ≡ list_any is_mapped ms)
passed (mark.Map b) ms h = (refl, refl)
passed (mark.Unmap b) ms h = (refl, refl)
passed mark.Mapped ms h = absurd cc
passed (mark.Vmap va n b off) ms h = (refl, refl)
passed (mark.Vunmap va n) ms h = (refl, refl)
passed (mark.Vsubmit ops) ms h = absurd cc

all_passed : (above ways : List MarkKind) → list_all is_line above ≡ true → (filter_map addressed (above ++ ways) ≡ filter_map addressed ways) × (list_any is_mapped (above ++ ways) ≡ list_any is_mapped ways)
all_passed [] ways h = (refl, refl)
all_passed (m ∷ above) ways h =
    let f = both (is_line m) (list_all is_line above) h in
    let here = passed m (above ++ ways) f.0 in
    let rest = all_passed above ways f.1 in
    (here.0 ∙ rest.0, here.1 ∙ rest.1)

abbrev by_marks : Script → Command → List (List VOp) → Bool → Text
by_marks s c jobs mapped =
    line (elim (slice_get jobs 0) [
      | Some vs ↦ addressed_words s vs c
      | None ↦ elim mapped [ true ↦ mapped_words s c | false ↦ command_words s c ]
    ])

written_is : (s : Script) (above ways : List MarkKind) (c : Command) → list_all is_line above ≡ true → written s (above ++ ways) c ≡ written s ways c
written_is s above ways c h =
    let p = all_passed above ways h in
    ap (λ jobs. by_marks s c jobs (list_any is_mapped (above ++ ways))) p.0 ∙ ap (λ b. by_marks s c (filter_map addressed ways) b) p.1

-- ---- the lines of a thread

-- after marks with lines of their own
lines_text : (s : Script) (t n : ℕ) (d : ThreadMappings) (above : List MarkKind) (items : List Item) → Stand s t n above items → list_all is_line above ≡ true → all_along (item_fits s) d items ≡ true
    → command_lines s t n (commands_in items) ≡ flat_map (mark_line s) above ++ flat_map (item_text s) items
lines_text s t n d above [] h k f = ap (λ ms. flat_map (mark_line s) ms) (stand_last s t n above h) ∙ sym (append-nil (flat_map (mark_line s) above))
lines_text s t n d above (Alone m ∷ items) h k f =
    let g = both (item_fits s d (Alone m)) (all_along (item_fits s) (thread_mappings_behind d (Alone m)) items) f in
    let lines = all_append is_line above (m ∷ []) k (and_true (is_line m) (alone_is_line s d m g.0)) in
    lines_text s t n (thread_mappings_behind d (Alone m)) (above ++ m ∷ []) items (stand_alone s t n above m items h) lines g.1
    ∙ ap (λ x. x ++ flat_map (item_text s) items) (flat_map-append (mark_line s) above (m ∷ []) ∙ ap (λ x. flat_map (mark_line s) above ++ x) (append-nil (mark_line s m)))
    ∙ append_assoc (flat_map (mark_line s) above) (mark_line s m) (flat_map (item_text s) items)
lines_text s t n d above (Asks ways c ∷ items) h k f =
    let g = both (item_fits s d (Asks ways c)) (all_along (item_fits s) (thread_mappings_behind d (Asks ways c)) items) f in
    let here = stand_here s t n above ways c items h in
    let rest = lines_text s t (n + 1) (thread_mappings_behind d (Asks ways c)) [] items (stand_next s t n above ways c items h) refl g.1 in
    let marks = flat_map (mark_line s) above in
    let behind = command_lines s t (n + 1) (commands_in items) in
    ap (λ ms. flat_map (mark_line s) ms ++ written s ms c ++ behind) here
    ∙ ap (λ x. x ++ written s (above ++ ways) c ++ behind) (flat_map-append (mark_line s) above ways ∙ ap (λ x. marks ++ x) (ways_quiet s d ways c g.0) ∙ append-nil marks)
    ∙ ap (λ x. marks ++ x ++ behind) (written_is s above ways c k)
    ∙ ap (λ x. marks ++ written s ways c ++ x) rest
    ∙ append_assoc marks (written s ways c) (flat_map (item_text s) items)

one_text : (s : Script) (t : ℕ) (items : List Item) → marks_of s t ≡ marks_in t 0 items → items_fit s items ≡ true
    → thread_lines s (t, commands_in items) ≡ items_text s items
one_text s t items h f = ap (λ x. line (codes "thread" ∷ []) ++ x) (lines_text s t 0 empty_thread_mappings [] items (stand_first s t items h) refl f)

texts : (s : Script) (t : ℕ) (lists : List (List Item)) → HasThreads s t lists → list_all (items_fit s) lists ≡ true
    → flat_map (thread_lines s) (enumerate_from t (map commands_in lists)) ≡ flat_map (items_text s) lists
texts s t [] h f = refl
texts s t (items ∷ lists) h f =
    let g = both (items_fit s items) (list_all (items_fit s) lists) f in
    ap (λ x. x ++ flat_map (thread_lines s) (enumerate_from (t + 1) (map commands_in lists))) (one_text s t items (first_marks s t items lists h).0 g.0)
    ∙ ap (λ x. items_text s items ++ x) (texts s (t + 1) lists (next_threads s t items lists h) g.1)

-- the lines of all threads
pub threads_text : (s : Script) (lists : List (List Item)) → ComesFrom s lists → list_all (items_fit s) lists ≡ true
    → flat_map (thread_lines s) (enumerate_from 1 s.threads) ≡ flat_map (items_text s) lists
threads_text s lists h f =
    ap (λ ts. flat_map (thread_lines s) (enumerate_from 1 ts)) h.threads ∙ texts s 1 lists (has_threads s lists h) f
