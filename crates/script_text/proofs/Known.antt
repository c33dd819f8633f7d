-- What is mapped, and the limits of marks, commands and buffers, from line to line.
use Rattle.std.proofs.Common.{◌≡◌, ℕ, zero, suc, ◌+◌, ◌-◌, ◌≤◌, Bool, true, false, List, [], ◌∷◌, ◌++◌, length, map, Option, Some, None, refl, ap, sym, subst, ◌∙◌, arith}
use Rattle.std.specs.Prelude.{◌&&◌, ◌==◌, nat_le, filter, fold, slice_get, slice_set, unwrap_or, if◌then◌else◌}
use Rattle.std.specs.List.{list_all}
use Rattle.std.proofs.lemmas.Bool.{and_parts, eq-eqb, ne_eqb, leb-true, le-leb}
use Rattle.std.proofs.lemmas.Grind.{fold-append}
use Rattle.std.proofs.lemmas.List.{map-append}
use Rattle.std.proofs.lemmas.List.Elements.{filter-append}
use Rattle.ttm_base.specs.declared.FlaggedPlace.{FlaggedPlace}
use Rattle.journal_model.specs.declared.script.Command.{Command}
use Rattle.journal_model.specs.declared.script.Mark.{Mark}
use Rattle.journal_model.specs.declared.script.MarkKind.{MarkKind}
use Rattle.journal_model.specs.declared.script.MarkKind.TheVariants as mark
use Rattle.journal_model.specs.declared.line.Access.{Access}
use Rattle.journal_model.specs.declared.line.Access.TheVariants as access
use Rattle.journal_model.specs.declared.line.BufferHead.{BufferHead}
use Rattle.journal_model.specs.declared.line.Progress.{Progress}
use Rattle.journal_model.specs.declared.line.Line.{Line}
use Rattle.journal_model.specs.declared.line.Line.TheVariants as line
use Rattle.journal_model.specs.scripts.MarkRules.{empty_thread_mappings, thread_mappings_after, thread_mappings_at_end}
use Rattle.journal_model.specs.scripts.FirstFault.{or_zero, or_first, place_in, wanted, taken_under_pressure, decl_of, onto_last, mark_here, with_mark, with_mark_line, with_access, with_command, with_line}
use Rattle.script_rules.specs.script_mappings.ThreadMappingLists.{Seen, IsThreadMappings}
use Rattle.script_text.specs.Steps.{IsKnown, IsClean, has_few_pages, is_up_to, thread_mappings_next}

joint : (a b : Bool) → a ≡ true → b ≡ true → (a && b) ≡ true
joint true b h k = k
joint false b h k = absurd cc

all_more : {X : Type 0} (p : X → Bool) (xs : List X) (x : X) → list_all p xs ≡ true → p x ≡ true → list_all p (xs ++ x ∷ []) ≡ true
all_more p [] x h k = joint (p x) true k refl
all_more p (y ∷ xs) x h k =
    let f = and_parts (p y) (list_all p xs) h in
    joint (p y) (list_all p (xs ++ x ∷ [])) f.0 (all_more p xs x f.1 k)

length_more : {X : Type 0} (xs : List X) (x : X) → length (xs ++ x ∷ []) ≡ length xs + 1
length_more [] x = refl
length_more (y ∷ xs) x = let e = length_more xs x in omega (arith, e)

-- ---- marks

abbrev kinds_of : ℕ → List Mark → List MarkKind
kinds_of t ms = map (λ m. m.kind) (filter (λ m. m.thread == t) ms)

here : (t : ℕ) (m : Mark) → m.thread ≡ t → kinds_of t (m ∷ []) ≡ m.kind ∷ []
here t m e = let yes : (m.thread == t) ≡ true = eq-eqb m.thread t e in rw (kinds_of, yes) refl

kinds-append : (t : ℕ) (ms ks : List Mark) → kinds_of t (ms ++ ks) ≡ kinds_of t ms ++ kinds_of t ks
kinds-append t ms ks =
    ap (map (λ (m : Mark). m.kind)) (filter-append (λ (m : Mark). m.thread == t) ms ks)
    ∙ map-append (λ (m : Mark). m.kind) (filter (λ (m : Mark). m.thread == t) ms) (filter (λ (m : Mark). m.thread == t) ks)

-- one more mark of the thread
one_mark : (t : ℕ) (ms : List Mark) (m : Mark) → m.thread ≡ t → fold thread_mappings_after empty_thread_mappings (kinds_of t (ms ++ m ∷ [])) ≡ thread_mappings_after (fold thread_mappings_after empty_thread_mappings (kinds_of t ms)) m.kind
one_mark t ms m e =
    ap (fold thread_mappings_after empty_thread_mappings) (kinds-append t ms (m ∷ []) ∙ ap (λ ks. kinds_of t ms ++ ks) (here t m e))
    ∙ fold-append thread_mappings_after empty_thread_mappings (kinds_of t ms) (m.kind ∷ [])

-- a new thread has no marks yet
none_yet : (t : ℕ) (ms : List Mark) → list_all (is_up_to t) ms ≡ true → kinds_of (t + 1) ms ≡ []
none_yet t [] h = refl
none_yet t (m ∷ ms) h =
    let f = and_parts (is_up_to t m) (list_all (is_up_to t) ms) h in
    let low = leb-true m.thread t f.0 in
    let no : (m.thread == t + 1) ≡ false = ne_eqb m.thread (t + 1) (λ k. omega (arith, low, k)) in
    rw (kinds_of, no) (none_yet t ms f.1)

still_up : (t : ℕ) (ms : List Mark) → list_all (is_up_to t) ms ≡ true → list_all (is_up_to (t + 1)) ms ≡ true
still_up t [] h = refl
still_up t (m ∷ ms) h =
    let f = and_parts (is_up_to t m) (list_all (is_up_to t) ms) h in
    let low = leb-true m.thread t f.0 in
    joint (is_up_to (t + 1) m) (list_all (is_up_to (t + 1)) ms) (le-leb m.thread (t + 1) (omega (arith, low))) (still_up t ms f.1)

-- ---- the last thread with one more command

set_len : {X : Type 0} (xs : List X) (i : ℕ) (x : X) → length (slice_set xs i x) ≡ length xs
set_len [] i x = refl
set_len (y ∷ xs) zero x = refl
set_len (y ∷ xs) (suc i) x = ap suc (set_len xs i x)

set_get : {X : Type 0} (xs : List X) (i : ℕ) (x y : X) → slice_get xs i ≡ Some y → slice_get (slice_set xs i x) i ≡ Some x
set_get [] i x y h = absurd cc
set_get (z ∷ xs) zero x y h = refl
set_get (z ∷ xs) (suc i) x y h = set_get xs i x y h

abbrev put_at : Command → ℕ → List (List Command) → Option (List Command) → List (List Command)
put_at c n lists found = elim found [ Some xs ↦ slice_set lists n (xs ++ c ∷ []) | None ↦ lists ]

put_len : (c : Command) (n : ℕ) (lists : List (List Command)) (o : Option (List Command)) → length (put_at c n lists o) ≡ length lists
put_len c n lists None = refl
put_len c n lists (Some xs) = set_len lists n (xs ++ c ∷ [])

length_onto : (c : Command) (lists : List (List Command)) → length (onto_last c lists) ≡ length lists
length_onto c lists = put_len c (length lists - 1) lists (slice_get lists (length lists - 1))

put_few : (c : Command) (n : ℕ) (lists : List (List Command)) (o : Option (List Command)) → slice_get lists n ≡ o →
    length (unwrap_or (slice_get (put_at c n lists o) n) []) ≤ length (unwrap_or (slice_get lists n) []) + 1
put_few c n lists None h = omega arith
put_few c n lists (Some xs) h =
    let new : slice_get (slice_set lists n (xs ++ c ∷ [])) n ≡ Some (xs ++ c ∷ []) = set_get lists n (xs ++ c ∷ []) xs h in
    let a : length (unwrap_or (slice_get (slice_set lists n (xs ++ c ∷ [])) n) []) ≡ length (xs ++ c ∷ []) = ap (λ o. length (unwrap_or o [])) new in
    let b : length (unwrap_or (slice_get lists n) []) ≡ length xs = ap (λ o. length (unwrap_or o [])) h in
    let e = length_more xs c in
    omega (arith, a, b, e)

choice_few : (b : Bool) (xs ys : List Command) → length xs ≤ length ys + 1 → length (if b then [] else xs) ≤ length (if b then [] else ys) + 1
choice_few true xs ys h = omega arith
choice_few false xs ys h = h

-- the last thread of other threads
abbrev last_of : List (List Command) → ℕ → List Command
last_of ts t = if t == 0 then [] else unwrap_or (slice_get ts (t - 1)) []

one_command : (c : Command) (ts : List (List Command)) → length (last_of (onto_last c ts) (length (onto_last c ts))) ≤ length (last_of ts (length ts)) + 1
one_command c ts =
    let n : ℕ = length ts - 1 in
    let few = choice_few (length ts == 0) (unwrap_or (slice_get (onto_last c ts) n) []) (unwrap_or (slice_get ts n) []) (put_few c n ts (slice_get ts n) refl) in
    subst (λ t. length (last_of (onto_last c ts) t) ≤ length (last_of ts (length ts)) + 1) (sym (length_onto c ts)) few

new_get : (ts : List (List Command)) → slice_get (ts ++ [] ∷ []) (length ts) ≡ Some []
new_get [] = refl
new_get (x ∷ ts) = new_get ts

new_at : (ts : List (List Command)) → length (last_of (ts ++ [] ∷ []) (length ts + 1)) ≤ 0
new_at ts =
    let some : (length ts + 1 == 0) ≡ false = ne_eqb (length ts + 1) 0 (λ k. omega (arith, k)) in
    let before : length ts + 1 - 1 ≡ length ts = omega arith in
    rw (some, before, new_get ts) (let z : 0 ≤ 0 = omega arith in z)

last_new : (ts : List (List Command)) → length (last_of (ts ++ [] ∷ []) (length (ts ++ [] ∷ []))) ≤ 0
last_new ts = subst (λ t. length (last_of (ts ++ [] ∷ []) t) ≤ 0) (sym (length_more ts [])) (new_at ts)

-- ---- a line

-- with another command, mark or thread
command_known : (thread_mappings : Seen) (p : Progress) (c : Command) → IsKnown thread_mappings p → IsKnown thread_mappings (with_command p c)
command_known thread_mappings p c k =
    let few = k.commands in
    let more = one_command c p.script.threads in
    let same : thread_mappings_at_end (with_command p c).script ≡ thread_mappings_at_end p.script = ap (λ t. fold thread_mappings_after empty_thread_mappings (kinds_of t p.script.marks)) (length_onto c p.script.threads) in
    record {
      thread_mappings = subst (IsThreadMappings thread_mappings) (sym same) k.thread_mappings;
      pages = k.pages;
      placed = subst (λ t. list_all (is_up_to t) p.script.marks ≡ true) (sym (length_onto c p.script.threads)) k.placed;
      commands = omega (arith, few, more);
    }

mark_thread_mappings : (p : Progress) (m : MarkKind) → thread_mappings_at_end (with_mark p m).script ≡ thread_mappings_after (thread_mappings_at_end p.script) m
mark_thread_mappings p m = one_mark (length p.script.threads) p.script.marks (mark_here p.script m) refl

up_here : (t : ℕ) → nat_le t t ≡ true
up_here t = le-leb t t (omega arith)

mark_placed : (p : Progress) (m : MarkKind) → list_all (is_up_to (length p.script.threads)) p.script.marks ≡ true → list_all (is_up_to (length p.script.threads)) (with_mark p m).script.marks ≡ true
mark_placed p m h = all_more (is_up_to (length p.script.threads)) p.script.marks (mark_here p.script m) h (up_here (length p.script.threads))

-- a mark that maps nothing
way_known : (thread_mappings : Seen) (p : Progress) (m : MarkKind) → thread_mappings_after (thread_mappings_at_end p.script) m ≡ thread_mappings_at_end p.script → IsKnown thread_mappings p → IsKnown thread_mappings (with_mark p m)
way_known thread_mappings p m none k = record {
  thread_mappings = subst (IsThreadMappings thread_mappings) (sym (mark_thread_mappings p m ∙ none)) k.thread_mappings;
  pages = k.pages;
  placed = mark_placed p m k.placed;
  commands = k.commands;
}

access_known : (thread_mappings : Seen) (p : Progress) (how : Access) → IsKnown thread_mappings p → IsKnown thread_mappings (with_access p how)
access_known thread_mappings p access.Direct k = k
access_known thread_mappings p access.Mapped k = way_known thread_mappings p mark.Mapped refl k

-- a mark with a line of its own
line_known : (old thread_mappings : Seen) (p : Progress) (m : MarkKind) → IsThreadMappings thread_mappings (thread_mappings_after (thread_mappings_at_end p.script) m) → IsKnown old p → IsKnown thread_mappings (with_mark_line p m)
line_known old thread_mappings p m d k =
    let few = k.commands in
    record {
      thread_mappings = subst (IsThreadMappings thread_mappings) (sym (mark_thread_mappings p m)) d;
      pages = k.pages;
      placed = mark_placed p m k.placed;
      commands = omega (arith, few);
    }

thread_known : (old thread_mappings : Seen) (p : Progress) → IsThreadMappings thread_mappings empty_thread_mappings → IsKnown old p → IsKnown thread_mappings (with_line p line.Thread)
thread_known old thread_mappings p d k =
    let t = length p.script.threads in
    let longer : length (p.script.threads ++ [] ∷ []) ≡ t + 1 = length_more p.script.threads [] in
    let none : thread_mappings_at_end (with_line p line.Thread).script ≡ empty_thread_mappings =
    ap (λ n. fold thread_mappings_after empty_thread_mappings (kinds_of n p.script.marks)) longer ∙ ap (fold thread_mappings_after empty_thread_mappings) (none_yet t p.script.marks k.placed) in
    record {
      thread_mappings = subst (IsThreadMappings thread_mappings) (sym none) d;
      pages = k.pages;
      placed = subst (λ n. list_all (is_up_to n) p.script.marks ≡ true) (sym longer) (still_up t p.script.marks k.placed);
      commands = last_new p.script.threads;
    }

-- the same threads, marks and buffers
same_known : (old thread_mappings : Seen) (p : Progress) → IsThreadMappings thread_mappings (thread_mappings_at_end p.script) → IsKnown old p → IsKnown thread_mappings p
same_known old thread_mappings p d k = record { thread_mappings = d; pages = k.pages; placed = k.placed; commands = k.commands }

few_head : (head : BufferHead) (list : List FlaggedPlace) → or_zero head.pages ≤ 4096 → has_few_pages (decl_of head list) ≡ true
few_head head list h = le-leb (or_zero head.pages) 4096 h

-- what holds after a line that breaks no rule
pub known_on : (old thread_mappings : Seen) (p : Progress) (l : Line) → IsClean p l → IsThreadMappings thread_mappings (thread_mappings_next (thread_mappings_at_end p.script) l) → IsKnown old p → IsKnown thread_mappings (with_line p l)
known_on old thread_mappings p (line.Version version) c d k = record { thread_mappings = d; pages = k.pages; placed = k.placed; commands = k.commands }
known_on old thread_mappings p (line.Vram buddy size) c d k = record { thread_mappings = d; pages = k.pages; placed = k.placed; commands = k.commands }
known_on old thread_mappings p (line.Tt size) c d k = record { thread_mappings = d; pages = k.pages; placed = k.placed; commands = k.commands }
known_on old thread_mappings p (line.Frames size) c d k = record { thread_mappings = d; pages = k.pages; placed = k.placed; commands = k.commands }
known_on old thread_mappings p (line.Swap size) c d k = record { thread_mappings = d; pages = k.pages; placed = k.placed; commands = k.commands }
known_on old thread_mappings p (line.Engines size) c d k = record { thread_mappings = d; pages = k.pages; placed = k.placed; commands = k.commands }
known_on old thread_mappings p (line.Buffer head want busy) c d k = record {
  thread_mappings = d;
  pages = all_more has_few_pages p.script.buffers (decl_of head (map wanted want ++ map taken_under_pressure busy)) k.pages
      (few_head head (map wanted want ++ map taken_under_pressure busy) c.said);
  placed = k.placed;
  commands = k.commands;
}
known_on old thread_mappings p (line.Placed head list) c d k = record {
  thread_mappings = d;
  pages = all_more has_few_pages p.script.buffers (decl_of head (map place_in list)) k.pages (few_head head (map place_in list) c.said);
  placed = k.placed;
  commands = k.commands;
}
known_on old thread_mappings p line.Thread c d k = thread_known old thread_mappings p d k
known_on old thread_mappings p (line.Turn actors) c d k = record { thread_mappings = d; pages = k.pages; placed = k.placed; commands = k.commands }
known_on old thread_mappings p line.End c d k = record { thread_mappings = d; pages = k.pages; placed = k.placed; commands = k.commands }
known_on old thread_mappings p (line.Plain verb b) c d k = command_known thread_mappings p _ (same_known old thread_mappings p d k)
known_on old thread_mappings p (line.Write how b off bytes) c d k = command_known thread_mappings (with_access p how) _ (access_known thread_mappings p how (same_known old thread_mappings p d k))
known_on old thread_mappings p (line.Read how b off len) c d k = command_known thread_mappings (with_access p how) _ (access_known thread_mappings p how (same_known old thread_mappings p d k))
known_on old thread_mappings p (line.Move b mem) c d k = command_known thread_mappings p _ (same_known old thread_mappings p d k)
known_on old thread_mappings p (line.Touch group) c d k = command_known thread_mappings p _ (same_known old thread_mappings p d k)
known_on old thread_mappings p (line.Submit engine ops) c d k =
    let next = command_known thread_mappings p _ (same_known old thread_mappings p d k) in
    record { thread_mappings = next.thread_mappings; pages = next.pages; placed = next.placed; commands = next.commands }
known_on old thread_mappings p (line.Map b) c d k = line_known old thread_mappings p (mark.Map (or_first b)) d k
known_on old thread_mappings p (line.Unmap b) c d k = line_known old thread_mappings p (mark.Unmap (or_first b)) d k
known_on old thread_mappings p (line.Vmap va n b off) c d k = line_known old thread_mappings p (mark.Vmap (or_zero va) (or_zero n) (or_first b) (or_zero off)) d k
known_on old thread_mappings p (line.Vunmap va n) c d k = line_known old thread_mappings p (mark.Vunmap (or_zero va) (or_zero n)) d k
known_on old thread_mappings p (line.Vsubmit engine ops) c d k =
    let next = command_known thread_mappings (with_mark p (mark.Vsubmit _)) _ (way_known thread_mappings p (mark.Vsubmit _) refl (same_known old thread_mappings p d k)) in
    record { thread_mappings = next.thread_mappings; pages = next.pages; placed = next.placed; commands = next.commands }
