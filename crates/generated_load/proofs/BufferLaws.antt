-- The buffers of a generated script keep the rules.
use Rattle.std.proofs.Common.{◌≡◌, ℕ, zero, suc, ◌+◌, ◌*◌, ◌%◌, ◌<◌, ◌≤◌, Bool, true, List, [], ◌∷◌, ◌++◌, Some, length, map, refl, sym, ap, ◌∙◌, subst, add-one, arith}
use Rattle.std.specs.Prelude.{nat_le, nat_lt, not, ◌&&◌, unwrap_or, slice_get, sum_by, codes, decimal}
use Rattle.std.specs.List.{list_all, list_any}
use Rattle.std.proofs.lemmas.Bool.Decides.{nat_tests}
use Rattle.std.proofs.lemmas.List.{length-map}
use Rattle.rand_pcg.specs.Lcg.{Lcg}
use Rattle.ttm_base.specs.declared.BufId.{BufId}
use Rattle.ttm_base.specs.declared.Placement.{Placement}
use Rattle.journal_model.specs.declared.script.Decl.{Decl}
use Rattle.journal_model.specs.declared.script.Script.{Script}
use Rattle.journal_model.specs.scripts.Words.{Text, name_of}
use Rattle.journal_model.specs.scripts.Spelling.{buffer_line, placement_words}
use Rattle.journal_model.specs.rules.Commands.{decl, undeclared}
use Rattle.journal_model.specs.scripts.CommandRules.{is_between, is_range_of}
use Rattle.journal_model.specs.scripts.ScriptRules.{is_decl, is_name, is_group, is_place_list, same_text, has_distinct_names}
use Rattle.law_legal.proofs.law_items.Tests.{both, joint, is_le}
use Rattle.law_legal.proofs.law_items.ListFacts.{all_more, sum_more}
use Rattle.generated_load.specs.Draws.{draw}
use Rattle.generated_load.specs.Buffers.{load_name, load_pages, load_placement, load_buffer, load_buffers}
use Rattle.generated_load.proofs.DrawLaws.{draw_below}
use Rattle.generated_load.proofs.LineLaws.{few_digits, line_len}

-- the names of so many buffers
abbrev pub load_names : ℕ → List Text
load_names zero = []
load_names (suc n) = load_names n ++ load_name n ∷ []

-- at least four pages
abbrev pub has_pages : Decl → Bool
has_pages d = nat_le 4 d.pages

-- a name of at most three bytes
abbrev pub has_short_name : Decl → Bool
has_short_name d = nat_le (length d.name) 3

-- how long its line is
abbrev pub buffer_len : Decl → ℕ
buffer_len d = length (buffer_line 1 d)

-- the buffer of a number
pub record IsLoadBuffer (n : ℕ) (d : Decl) : Type 0 where
  pub name : d.name ≡ load_name n
  pub short : has_short_name d ≡ true
  pub decl : is_decl 1 d ≡ true
  pub pages : has_pages d ≡ true
  pub len : buffer_len d ≤ 200

-- the first so many buffers
pub record AreLoadBuffers (n : ℕ) (ds : List Decl) : Type 0 where
  pub names : map (λ d. d.name) ds ≡ load_names n
  pub short : list_all has_short_name ds ≡ true
  pub decls : list_all (is_decl 1) ds ≡ true
  pub pages : list_all has_pages ds ≡ true
  pub len : sum_by buffer_len ds ≤ 200 * n

-- the script has all buffers, and two user engines
pub record HasLoadBuffers (script : Script) : Type 0 where
  pub buffers : AreLoadBuffers 24 script.buffers
  pub engines : script.sizes.engines ≡ 2

-- both hold
pub holds : {a b : Bool} → a ≡ true → b ≡ true → (a && b) ≡ true
holds {a} {b} p q = joint a b p q

pub is_lt : (m n : ℕ) → m < n → nat_lt m n ≡ true
is_lt m n h = grind (arith, nat_tests)

-- ---- names

pub name_fits : (n : ℕ) → n < 24 → is_name (load_name n) ≡ true
name_fits n h = grind (arith, nat_tests)

name_is_short : (n : ℕ) → nat_le (length (load_name n)) 3 ≡ true
name_is_short n = grind (arith, nat_tests)

-- no two of these texts are one
abbrev distinct : List Text → Bool
distinct [] = true
distinct (w ∷ ws) = not (list_any (same_text w) ws) && distinct ws

any_name : (w : Text) (ds : List Decl) → list_any (λ e. same_text w e.name) ds ≡ list_any (same_text w) (map (λ d. d.name) ds)
any_name w [] = refl
any_name w (d ∷ ds) = let rest = any_name w ds in grind arith

distinct_names : (ds : List Decl) → has_distinct_names ds ≡ distinct (map (λ d. d.name) ds)
distinct_names [] = refl
distinct_names (d ∷ ds) = let any = any_name d.name ds in let rest = distinct_names ds in grind arith

pub names_differ : (ds : List Decl) → map (λ d. d.name) ds ≡ load_names 24 → has_distinct_names ds ≡ true
names_differ ds h = distinct_names ds ∙ ap distinct h

-- ---- how many there are, and how long

pub buffer_count : (ds : List Decl) → map (λ d. d.name) ds ≡ load_names 24 → length ds ≡ 24
buffer_count ds h = sym (length-map ds (λ d. d.name)) ∙ ap length h

pages_at : (ds : List Decl) → list_all has_pages ds ≡ true → (i : ℕ) → i < length ds → 4 ≤ (unwrap_or (slice_get ds i) undeclared).pages
pages_at [] h i lt = absurd (omega (arith, lt))
pages_at (d ∷ ds) h zero lt = let here = (both (has_pages d) (list_all has_pages ds) h).0 in grind (arith, nat_tests)
pages_at (d ∷ ds) h (suc i) lt = pages_at ds (both (has_pages d) (list_all has_pages ds) h).1 i (omega (arith, lt))

names_at : (ds : List Decl) → list_all has_short_name ds ≡ true → (i : ℕ) → length (unwrap_or (slice_get ds i) undeclared).name ≤ 3
names_at [] h i = omega arith
names_at (d ∷ ds) h zero = let here = (both (has_short_name d) (list_all has_short_name ds) h).0 in grind (arith, nat_tests)
names_at (d ∷ ds) h (suc i) = names_at ds (both (has_short_name d) (list_all has_short_name ds) h).1 i

-- a name in a line
pub name_len : (script : Script) (b : BufId) → HasLoadBuffers script → length (name_of script b) ≤ 3
name_len script b h = names_at script.buffers h.buffers.short b.0

pub is_declared_load : (script : Script) (b : BufId) → HasLoadBuffers script → b.0 < 24 → nat_lt b.0 (length script.buffers) ≡ true
is_declared_load script b h lt = let count = buffer_count script.buffers h.buffers.names in is_lt b.0 (length script.buffers) (omega (arith, count, lt))

-- a range in the smallest buffer
pub range_fits : (script : Script) (b : BufId) (off len : ℕ) → HasLoadBuffers script → b.0 < 24 → 1 ≤ len → off + len ≤ 16384 → is_range_of script b off len ≡ true
range_fits script b off len h lt some inside =
    let count = buffer_count script.buffers h.buffers.names in
    let pages : 4 ≤ (decl script b).pages = pages_at script.buffers h.buffers.pages b.0 (omega (arith, count, lt)) in
    holds (holds (holds (is_declared_load script b h lt) (is_le off 16777216 (omega (arith, inside))))
    (holds (is_le 1 len some) (is_le len 16777216 (omega (arith, inside)))))
    (is_le (off + len) (4096 * (decl script b).pages) (omega (arith, inside, pages)))

-- ---- the rules of a buffer

pub decl_fits : (n : ℕ) (d : Decl) → n < 24 → d.name ≡ load_name n → 4 ≤ d.pages → d.pages ≤ 16 → d.prio < 4 → (g : ℕ) → d.group ≡ Some g → g ≤ 15 → d.align ≡ 1 → d.placement ≡ load_placement → buffer_len d ≤ 200 → IsLoadBuffer n d
decl_fits n d lt name least most prio g group few align placement len = record {
  name = name;
  short = ap (λ (w : Text). nat_le (length w) 3) name ∙ name_is_short n;
  decl =
      holds (holds (holds (holds (holds (ap is_name name ∙ name_fits n lt) (holds (is_le 1 d.pages (omega (arith, least))) (is_le d.pages 4096 (omega (arith, most)))))
      (is_le d.prio 3 (omega (arith, prio)))) (ap is_group group ∙ is_le g 15 few)) (ap (is_between 1 4096) align)) (ap (λ (p : Placement). is_place_list 1 p.list) placement);
  pages = is_le 4 d.pages least;
  len = len;
}

-- ---- one buffer more

pub no_buffers : AreLoadBuffers 0 []
no_buffers = record { names = refl; short = refl; decls = refl; pages = refl; len = omega arith }

map_more : {X Y : Type 0} (f : X → Y) (xs : List X) (x : X) → map f (xs ++ x ∷ []) ≡ map f xs ++ f x ∷ []
map_more f [] x = refl
map_more f (y ∷ xs) x = ap (λ ys. f y ∷ ys) (map_more f xs x)

pub one_more : (n : ℕ) (ds : List Decl) (d : Decl) → AreLoadBuffers n ds → IsLoadBuffer n d → AreLoadBuffers (n + 1) (ds ++ d ∷ [])
one_more n ds d h k = record {
  names = map_more (λ d. d.name) ds d ∙ ap (λ (ws : List Text). ws ++ d.name ∷ []) h.names ∙ ap (λ (w : Text). load_names n ++ w ∷ []) k.name ∙ ap load_names (sym (add-one n));
  decls = all_more (is_decl 1) ds d h.decls k.decl;
  pages = all_more has_pages ds d h.pages k.pages;
  short = all_more has_short_name ds d h.short k.short;
  len = let sum = sum_more buffer_len ds d in let before = h.len in let here = k.len in omega (arith, sum, before, here);
}

-- ---- the buffers that are drawn

-- between 4 and 16 pages
some_pages : (n : ℕ) → (4 ≤ load_pages n) × (load_pages n ≤ 16)
some_pages n = (grind (arith, nat_tests), grind (arith, nat_tests))

-- the words of its line
line_of_buffer : (n prio : ℕ) → prio < 4 → buffer_len (load_buffer n prio) ≤ 200
line_of_buffer n prio low =
    let pages = some_pages n in
    let most = pages.1 in
    let group : n % 3 < 3 = omega arith in
    let name : length (load_name n) ≤ 3 = grind (arith, nat_tests, name_is_short n) in
    let a = few_digits (load_pages n) (omega (arith, most)) in
    let b = few_digits prio (omega (arith, low)) in
    let c = few_digits (n % 3) (omega (arith, group)) in
    let d = few_digits 1 (omega arith) in
    let line = line_len (codes "buffer" ∷ load_name n ∷ decimal (load_pages n) ∷ codes "prio" ∷ decimal prio ∷ codes "group" ∷ decimal (n % 3) ∷ codes "align" ∷ decimal 1 ∷ placement_words 1 load_placement.list) in
    omega (arith, line, name, a, b, c, d)

buffer_fits : (n prio : ℕ) → n < 24 → prio < 4 → IsLoadBuffer n (load_buffer n prio)
buffer_fits n prio lt low =
    let pages = some_pages n in
    let group : n % 3 ≤ 15 = omega arith in
    decl_fits n (load_buffer n prio) lt refl pages.0 pages.1 low (n % 3) refl group refl refl (line_of_buffer n prio low)

pub buffers_fit : (n : ℕ) → n ≤ 24 → (g : Lcg) → AreLoadBuffers n (load_buffers n g).0
unfolding load_buffers
buffers_fit zero few g = no_buffers
buffers_fit (suc n) few g =
    let before : AreLoadBuffers n (load_buffers n g).0 = buffers_fit n (omega (arith, few)) g in
    let prio = draw 4 (load_buffers n g).1 in
    let more : AreLoadBuffers (n + 1) ((load_buffers n g).0 ++ load_buffer n prio.0 ∷ []) =
    one_more n (load_buffers n g).0 (load_buffer n prio.0) before (buffer_fits n prio.0 (omega (arith, few)) (draw_below 4 (load_buffers n g).1 (omega arith))) in
    subst (λ k. AreLoadBuffers k ((load_buffers n g).0 ++ load_buffer n prio.0 ∷ [])) (add-one n) more
