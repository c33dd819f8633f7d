-- The parts of what is held, and what is free, make the sizes.
use Rattle.std.proofs.Common.{◌≡◌, ℕ, ◌+◌, ◌-◌, zero, suc, Bool, true, false, List, [], ◌∷◌, ◌++◌, length, IsTrue, refl, sym, ◌∙◌, ap, ap₂, arith}
use Rattle.std.specs.Prelude.{nat_eq, nat_lt, nat_le, map, flat_map, filter, not, sum_by, ◌==◌, ◌&&◌, ◌||◌, if◌then◌else◌}
use Rattle.std.specs.List.{list_any}
use Rattle.std.proofs.lemmas.Bool.{eq-eqb}
use Rattle.std.proofs.lemmas.Bool.Decides.{nat_tests}
use Rattle.ttm_base.specs.declared.Mem.{Mem}
use Rattle.ttm_base.specs.declared.Mem.TheVariants.{Tt, Vram}
use Rattle.ttm_base.specs.declared.Span.{Span}
use Rattle.ttm_base.specs.ListWords.{count_from}
use Rattle.ttm_base.specs.Reach.{length_of}
use Rattle.ttm_base.specs.Holes.{has_page}
use Rattle.journal_model.specs.declared.script.Script.{Script}
use Rattle.journal_model.specs.declared.state.Core.{Core}
use Rattle.journal_model.specs.declared.state.Buffer.{Buffer}
use Rattle.journal_model.specs.rules.State.{target_spans}
use Rattle.journal_model.specs.rules.Places.{pages_of, pages_of_span}
use Rattle.journal_model.specs.rules.Holds.{live_buffers, spans_in, ghost_spans, buffer_holds, ghost_hold, holds, held_spans, held_frames, held_slots, live_frames, ghost_frames, has_number, is_free_page, size_of}
use Rattle.journal_model.specs.statements.Account.{Account, count_spans, account_of, frame_account, slot_account, count_free, total, are_distinct, is_balanced, has_accounts}
use Rattle.journal_model.specs.scripts.ScriptRules.{is_script}
use Rattle.journal_model.specs.rules.Legal.{state_of, IsLegal}
use Rattle.laws.specs.law_owners.OneOwner.{AreOwned, HaveOneOwner}
use Rattle.laws.proofs.law_owners.Counts.{one, summed, length-append, length-flat_map, summed-sum_by, summed-append, summed-flat_map, summed-map, summed-add}
use Rattle.laws.proofs.law_owners.Weights.{summed-same}
use Rattle.laws.proofs.law_owners.Law.{owner_law}

-- ---- what isn't held makes the rest of the size

-- one number more is kept from a filter
without_one : (p : ℕ → Bool) (m : ℕ) → p m ≡ true → (len start : ℕ) →
    length (filter (λ n. not (nat_eq n m) && p n) (count_from 1 len start)) + one (nat_le start m && nat_lt m (start + len)) ≡ length (filter p (count_from 1 len start))
without_one p m h zero start = let none = outside start m in omega (arith, none)
  where
    outside : (start m : ℕ) → one (nat_le start m && nat_lt m (start + 0)) ≡ 0
    outside start m = grind (arith, nat_tests)
without_one p m h (suc len) start =
    by (p start) (nat_eq start m) refl refl (length (filter (λ n. not (nat_eq n m) && p n) (count_from 1 len (1 + start)))) (length (filter p (count_from 1 len (1 + start)))) refl refl (without_one p m h len (1 + start))
  where
    by : (q e : Bool) → p start ≡ q → nat_eq start m ≡ e → (a b : ℕ) → length (filter (λ n. not (nat_eq n m) && p n) (count_from 1 len (1 + start))) ≡ a → length (filter p (count_from 1 len (1 + start))) ≡ b
        → a + one (nat_le (1 + start) m && nat_lt m ((1 + start) + len)) ≡ b
        → length (if not e && q then start ∷ filter (λ n. not (nat_eq n m) && p n) (count_from 1 len (1 + start)) else filter (λ n. not (nat_eq n m) && p n) (count_from 1 len (1 + start))) + one (nat_le start m && nat_lt m (start + suc len))
        ≡ length (if q then start ∷ filter p (count_from 1 len (1 + start)) else filter p (count_from 1 len (1 + start)))
    by true true w t a b u v rest = let at = here start m len t in let k = past start m len t in omega (arith, u, v, rest, at, k)
      where
        here : (start m len : ℕ) → nat_eq start m ≡ true → one (nat_le start m && nat_lt m (start + suc len)) ≡ 1
        here start m len t = grind (arith, nat_tests)

        past : (start m len : ℕ) → nat_eq start m ≡ true → one (nat_le (1 + start) m && nat_lt m ((1 + start) + len)) ≡ 0
        past start m len t = grind (arith, nat_tests)
    by false true w t a b u v rest = absurd (clash (p start) (p m) w h (ap p (same start m t)))
      where
        same : (start m : ℕ) → nat_eq start m ≡ true → start ≡ m
        same start m t = grind (arith, nat_tests)

        clash : (x y : Bool) → x ≡ false → y ≡ true → x ≡ y → ⊥
        clash x y e f g = cc
    by true false w t a b u v rest = let k = apart start m len t in omega (arith, u, v, rest, k)
      where
        apart : (start m len : ℕ) → nat_eq start m ≡ false → one (nat_le start m && nat_lt m (start + suc len)) ≡ one (nat_le (1 + start) m && nat_lt m ((1 + start) + len))
        apart start m len t = grind (arith, nat_tests)
    by false false w t a b u v rest = let k = apart start m len t in omega (arith, u, v, rest, k)
      where
        apart : (start m len : ℕ) → nat_eq start m ≡ false → one (nat_le start m && nat_lt m (start + suc len)) ≡ one (nat_le (1 + start) m && nat_lt m ((1 + start) + len))
        apart start m len t = grind (arith, nat_tests)

same_filter : (p q : ℕ → Bool) → ((n : ℕ) → p n ≡ q n) → (ns : List ℕ) → filter p ns ≡ filter q ns
same_filter p q h [] = refl
same_filter p q h (n ∷ ns) = ap₂ (λ (b : Bool) (rest : List ℕ). if b then n ∷ rest else rest) (h n) (same_filter p q h ns)

not_or : (a b : Bool) → not (a || b) ≡ (not a && not b)
not_or true b = refl
not_or false b = refl

length-count_from : (len start : ℕ) → length (count_from 1 len start) ≡ len
length-count_from zero start = refl
length-count_from (suc len) start = let rest = length-count_from len (1 + start) in omega (arith, rest)

all_kept : (ns : List ℕ) → filter (λ n. not (has_number [] n)) ns ≡ ns
all_kept [] = refl
all_kept (n ∷ ns) = ap (λ rest. n ∷ rest) (all_kept ns)

-- held numbers and the free ones are all
pub filled_up : (held : List ℕ) (size : ℕ) → AreOwned size held → count_free held size + length held ≡ size
filled_up [] size h = let all = ap length (all_kept (count_from 1 size 0)) in let long = length-count_from size 0 in omega (arith, all, long)
filled_up (m ∷ ms) size h =
    let d = parts (not (has_number ms m)) (are_distinct ms) h.distinct in
    let w = parts (nat_lt m size) _ h.within in
    let rest = filled_up ms size (record { distinct = d.1; within = w.1 }) in
    let fewer = without_one (λ n. not (has_number ms n)) m d.0 size 0 in
    let same : count_free (m ∷ ms) size ≡ length (filter (λ n. not (nat_eq n m) && not (has_number ms n)) (count_from 1 size 0)) =
    ap length (same_filter (λ n. not (has_number (m ∷ ms) n)) (λ n. not (nat_eq n m) && not (has_number ms n)) (λ n. not_or (nat_eq n m) (has_number ms n)) (count_from 1 size 0)) in
    let there = here m size w.0 in
    omega (arith, rest, fewer, same, there)
  where
    parts : (a b : Bool) → (a && b) ≡ true → (a ≡ true) × (b ≡ true)
    parts true true h = (refl, refl)
    parts true false h = cc
    parts false b h = cc

    here : (m size : ℕ) → nat_lt m size ≡ true → one (nat_le 0 m && nat_lt m (0 + size)) ≡ 1
    here m size l = grind (arith, nat_tests)

-- ---- pages

length-pages : (spans : List Span) → length (pages_of spans) ≡ count_spans spans
length-pages spans =
    length-flat_map pages_of_span spans
    ∙ summed-same (λ s. length (pages_of_span s)) length_of (λ s. length-count_from (length_of s) s.start) spans
    ∙ sym (summed-sum_by length_of spans)

pages_of-append : (xs ys : List Span) → length (pages_of (xs ++ ys)) ≡ length (pages_of xs) + length (pages_of ys)
pages_of-append [] ys = omega arith
pages_of-append (x ∷ xs) ys =
    let rest = pages_of-append xs ys in
    let left = length-append (pages_of_span x) (pages_of (xs ++ ys)) in
    let right = length-append (pages_of_span x) (pages_of xs) in
    omega (arith, rest, left, right)

length-spans : {X : Type 0} (f : X → List Span) (xs : List X) → length (pages_of (flat_map f xs)) ≡ summed (λ x. length (pages_of (f x))) xs
length-spans f [] = refl
length-spans f (x ∷ xs) = let both = pages_of-append (f x) (flat_map f xs) in let rest = length-spans f xs in omega (arith, both, rest)

held_length : (mem : Mem) (c : Core) →
    length (pages_of (held_spans mem c)) ≡ (sum_by (λ e. count_spans (spans_in mem e.1)) (live_buffers c) + sum_by (λ e. count_spans (target_spans mem e.1)) (live_buffers c)) + sum_by (λ g. count_spans (ghost_spans mem g)) c.ghosts
held_length mem c =
    length-spans (λ h. h.spans) (holds mem c)
    ∙ summed-append (λ h. length (pages_of h.spans)) (flat_map (buffer_holds mem) (live_buffers c)) (map (ghost_hold mem) c.ghosts)
    ∙ ap₂ ◌+◌ of_buffers of_ghosts
  where
    of_ghosts : summed (λ h. length (pages_of h.spans)) (map (ghost_hold mem) c.ghosts) ≡ sum_by (λ g. count_spans (ghost_spans mem g)) c.ghosts
    of_ghosts =
        summed-map (λ h. length (pages_of h.spans)) (ghost_hold mem) c.ghosts
        ∙ summed-same (λ g. length (pages_of (ghost_spans mem g))) (λ g. count_spans (ghost_spans mem g)) (λ g. length-pages (ghost_spans mem g)) c.ghosts
        ∙ sym (summed-sum_by (λ g. count_spans (ghost_spans mem g)) c.ghosts)

    two : (x : Buffer) → length (pages_of (spans_in mem x)) + (length (pages_of (target_spans mem x)) + 0) ≡ count_spans (spans_in mem x) + count_spans (target_spans mem x)
    two x = let own = length-pages (spans_in mem x) in let target = length-pages (target_spans mem x) in omega (arith, own, target)

    of_buffers : summed (λ h. length (pages_of h.spans)) (flat_map (buffer_holds mem) (live_buffers c)) ≡ sum_by (λ e. count_spans (spans_in mem e.1)) (live_buffers c) + sum_by (λ e. count_spans (target_spans mem e.1)) (live_buffers c)
    of_buffers =
        summed-flat_map (λ h. length (pages_of h.spans)) (buffer_holds mem) (live_buffers c)
        ∙ summed-same (λ e. length (pages_of (spans_in mem e.1)) + (length (pages_of (target_spans mem e.1)) + 0)) (λ e. count_spans (spans_in mem e.1) + count_spans (target_spans mem e.1)) (λ e. two e.1) (live_buffers c)
        ∙ summed-add (λ e. count_spans (spans_in mem e.1)) (λ e. count_spans (target_spans mem e.1)) (live_buffers c)
        ∙ ap₂ ◌+◌ (sym (summed-sum_by (λ e. count_spans (spans_in mem e.1)) (live_buffers c))) (sym (summed-sum_by (λ e. count_spans (target_spans mem e.1)) (live_buffers c)))

-- a page stands in the list where a span has it
has-span : (len start n : ℕ) → has_number (count_from 1 len start) n ≡ (nat_le start n && nat_lt n (start + len))
has-span zero start n = grind (arith, nat_tests)
has-span (suc len) start n = ap (λ q. nat_eq n start || q) (has-span len (1 + start) n) ∙ by len start n
  where
    by : (len start n : ℕ) → (nat_eq n start || (nat_le (1 + start) n && nat_lt n ((1 + start) + len))) ≡ (nat_le start n && nat_lt n (start + suc len))
    by len start n = grind (arith, nat_tests)

has-append : (n : ℕ) (xs ys : List ℕ) → has_number (xs ++ ys) n ≡ (has_number xs n || has_number ys n)
has-append n [] ys = refl
has-append n (x ∷ xs) ys = ap (λ q. nat_eq n x || q) (has-append n xs ys) ∙ by (nat_eq n x) (has_number xs n) (has_number ys n)
  where
    by : (a b c : Bool) → (a || (b || c)) ≡ ((a || b) || c)
    by true b c = refl
    by false b c = refl

has-pages : (n : ℕ) (spans : List Span) → has_number (pages_of spans) n ≡ list_any (has_page n) spans
has-pages n [] = refl
has-pages n (s ∷ ss) =
    has-append n (pages_of_span s) (pages_of ss)
    ∙ ap₂ (λ a b. a || b) (has-span (length_of s) s.start n ∙ by n s.start s.end) (has-pages n ss)
  where
    by : (n a b : ℕ) → (nat_le a n && nat_lt n (a + (b - a))) ≡ (nat_le a n && nat_lt n b)
    by n a b = grind (arith, nat_tests)

free_pages : (mem : Mem) (c : Core) (size : ℕ) → length (filter (is_free_page mem c) (count_from 1 size 0)) ≡ count_free (pages_of (held_spans mem c)) size
free_pages mem c size =
    ap length (same_filter (is_free_page mem c) (λ n. not (has_number (pages_of (held_spans mem c)) n)) (λ n. ap not (sym (has-pages n (held_spans mem c)))) (count_from 1 size 0))

-- ---- the accounts

balanced : (held : List ℕ) (a : Account) (size : ℕ) → AreOwned size held → total a ≡ size → is_balanced held a size ≡ true
balanced held a size h e = both (are_distinct held) (total a == size) h.distinct (eq-eqb (total a) size e)
  where
    both : (p q : Bool) → p ≡ true → q ≡ true → (p && q) ≡ true
    both true q e f = f
    both false q e f = cc

pages_balanced : (mem : Mem) (script : Script) (c : Core) → AreOwned (size_of script mem) (pages_of (held_spans mem c)) → is_balanced (pages_of (held_spans mem c)) (account_of mem script c) (size_of script mem) ≡ true
pages_balanced mem script c h =
    balanced (pages_of (held_spans mem c)) (account_of mem script c) (size_of script mem) h
    (let full = filled_up (pages_of (held_spans mem c)) (size_of script mem) h in
    let long = held_length mem c in
    let free = free_pages mem c (size_of script mem) in
    omega (arith, full, long, free))

frames_balanced : (script : Script) (c : Core) → AreOwned script.sizes.frames (held_frames c) → is_balanced (held_frames c) (frame_account script c) script.sizes.frames ≡ true
frames_balanced script c h =
    balanced (held_frames c) (frame_account script c) script.sizes.frames h
    (let full = filled_up (held_frames c) script.sizes.frames h in let long = length-append (live_frames c) (ghost_frames c) in omega (arith, full, long))

slots_balanced : (script : Script) (c : Core) → AreOwned script.sizes.swap (held_slots c) → is_balanced (held_slots c) (slot_account script c) script.sizes.swap ≡ true
slots_balanced script c h =
    balanced (held_slots c) (slot_account script c) script.sizes.swap h (let full = filled_up (held_slots c) script.sizes.swap h in omega (arith, full))

all_four : (a b c d : Bool) → a ≡ true → b ≡ true → c ≡ true → d ≡ true → (a && b && c && d) ≡ true
all_four true true true true e f g h = refl
all_four false b c d e f g h = cc
all_four true false c d e f g h = cc
all_four true true false d e f g h = cc
all_four true true true false e f g h = cc

pub balanced_from : (script : Script) (c : Core) → HaveOneOwner script c → has_accounts script c ≡ true
balanced_from script c h =
    all_four
    (is_balanced (pages_of (held_spans Vram c)) (account_of Vram script c) script.sizes.vram)
    (is_balanced (pages_of (held_spans Tt c)) (account_of Tt script c) script.sizes.tt)
    (is_balanced (held_frames c) (frame_account script c) script.sizes.frames)
    (is_balanced (held_slots c) (slot_account script c) script.sizes.swap)
    (pages_balanced Vram script c h.vram)
    (pages_balanced Tt script c h.tt)
    (frames_balanced script c h.frames)
    (slots_balanced script c h.slots)

pub account_law : (script : Script) (journal : List _) → IsTrue (is_script script) → IsLegal script journal → has_accounts script (state_of script journal).core ≡ true
account_law script journal fits h = balanced_from script (state_of script journal).core (owner_law script journal fits h)
