-- The memory and the numbers of answered commands, as code keeps them, are those of the definition along a journal; and mismatches
-- are counted from the front and at the end alike.
use Rattle.std.proofs.Common.{◌≡◌, ◌≢◌, ℕ, zero, suc, ◌+◌, ◌-◌, ◌≤◌, ◌<◌, Bool, true, false, inl, inr, refl, ap, subst, sym, ◌∙◌, List, [], ◌∷◌, ◌++◌, length, take, get_or, replicate, Option, Some, None, unwrap_or, IsTrue, arith, add_assoc, if◌then◌else◌}
use Rattle.std.specs.Prelude.{◌==◌, slice_get, fold, not}
use Rattle.std.proofs.Math.ListN.{set}
use Rattle.std.proofs.lemmas.Bool.{cases_lt}
use Rattle.std.proofs.lemmas.Bool.Decides.{nat_tests}
use Rattle.std.proofs.lemmas.List.{get_or-set_same, get_or-set_other, length-set, length-replicate, take_more}
use Rattle.std.proofs.lemmas.List.Sums.{fold_more}
use Rattle.std.proofs.lemmas.Option.{slice_get_past}
use Rattle.std.proofs.lemmas.Slice.Eq.{bytes_eq-Decides}
use Rattle.ttm_base.specs.declared.BufId.{BufId}
use Rattle.ttm_base.specs.declared.Actor.{Actor}
use Rattle.journal_model.specs.declared.script.Script.{Script}
use Rattle.journal_model.specs.declared.script.Command.{Command}
use Rattle.journal_model.specs.declared.entry.Entry.{Entry}
use Rattle.journal_model.specs.declared.entry.Kind.{Kind}
use Rattle.journal_model.specs.declared.entry.Kind.TheVariants as kind
use Rattle.journal_model.specs.declared.entry.Shown.{Shown}
use Rattle.journal_model.specs.declared.entry.Shown.TheVariants as shown
use Rattle.journal_model.specs.rules.Apply.{thread_of}
use Rattle.journal_model.specs.rules.Commands.{commands_of}
use Rattle.journal_model.specs.rules.PlainMemory.{Memory, Plain, first_plain, plain_of, plain_after, plain_after_kind, command_of, answered_one_more}
use Rattle.journal_model.specs.rules.Transparent.{bytes_shown, bytes_owed, IsKindPlain, IsTransparentFrom, IsTransparent}
use Rattle.plain_memory.specs.Kept.{BecomesMemory, memory_in, sizes_in, sizes_of}
use Rattle.journal_model.specs.scripts.ScriptRules.{is_script}
use Rattle.plain_memory.specs.Fits.{CommandFits}
use Rattle.plain_memory.specs.Along.{memory_after, is_answer, command_by, counts_after, IsPlain}
use Rattle.plain_memory.specs.Mismatches.{shows, is_mismatch, mismatch_at, mismatches_from, mismatches_of}
use Rattle.plain_memory.proofs.ContentLaws.{zeros}
use Rattle.plain_memory.proofs.FitLaws.{command_fits}

-- ---- by kind

-- the memory after an entry
memory_is_after : (script : Script) (p : Plain) (t : ℕ) (k : Kind) → (plain_after_kind script p t k).memory ≡ memory_after (command_of script p t) k p.memory
memory_is_after script p t (kind.Ticket s) = refl
memory_is_after script p t k = refl

-- how many commands are answered after it
answered_is_after : (script : Script) (p : Plain) (t : ℕ) (k : Kind) (u : ℕ) → (plain_after_kind script p t k).answered u ≡ (if is_answer k then answered_one_more t p.answered u else p.answered u)
answered_is_after script p t (kind.Ticket s) u = refl
answered_is_after script p t k u = refl

-- entries of the other kinds leave the memory alone
pub memory_stays : (command : Option Command) (k : Kind) (memory : Memory) → ((b : BufId) → k ≡ kind.New b → ⊥) → ((b : BufId) (g : ℕ) → k ≡ kind.Free b g → ⊥) →
    ((engine n : ℕ) → k ≡ kind.Arm engine n → ⊥) → ((r : Shown) → k ≡ kind.Result r → ⊥) → memory ≡ memory_after command k memory
memory_stays command (kind.New b) memory x y z v = absurd (x b refl)
memory_stays command (kind.Free b g) memory x y z v = absurd (y b g refl)
memory_stays command (kind.Arm engine n) memory x y z v = absurd (z engine n refl)
memory_stays command (kind.Result r) memory x y z v = absurd (v r refl)
memory_stays command k memory x y z v = refl

shows_so : (r : Shown) (owed : Option (List ℕ)) → bytes_shown r ≡ owed → shows r owed ≡ true
shows_so (shown.Read bytes) (Some owed) h = (bytes_eq-Decides bytes owed).1 (let e : bytes ≡ owed = cc in e)
shows_so (shown.Read bytes) None h = cc
shows_so shown.Plain (Some owed) h = cc
shows_so shown.Plain None h = refl
shows_so (shown.Find mem spans) (Some owed) h = cc
shows_so (shown.Find mem spans) None h = refl

-- an entry that is transparent is no mismatch
no_mismatch : (script : Script) (p : Plain) (who : Actor) (k : Kind) → IsKindPlain script p who k → mismatch_at script p (record { who = who; kind = k }) ≡ 0
no_mismatch script p who (kind.Result r) h = let count : Bool → ℕ = λ b. if not b then 1 else 0 in ap count (shows_so r (bytes_owed (command_of script p (thread_of who)) p.memory) h)
no_mismatch script p who k h = refl

no_mismatches : (script : Script) (p : Plain) (es : List Entry) → IsTransparentFrom script p es → mismatches_from script p es ≡ 0
no_mismatches script p [] h = refl
no_mismatches script p (e ∷ es) h =
    let here = no_mismatch script p e.who e.kind h.0 in
    let rest = no_mismatches script (plain_after script p e) es h.1 in
    λ i. here i + rest i

-- a transparent journal has no mismatches
pub transparent_has_none : (script : Script) (journal : List Entry) → IsTransparent script journal → mismatches_of script journal ≡ 0
transparent_has_none script journal h = no_mismatches script first_plain journal h

-- ---- the numbers of answered commands

one_more_cell : (u n : ℕ) → n + 1 ≡ (if u == u then n + 1 else n)
one_more_cell u n = grind (arith, nat_tests)

other_cell : (u t n : ℕ) → u ≢ t → n ≡ (if u == t then n + 1 else n)
other_cell u t n ne = grind (arith, nat_tests)

module _ (counts : List ℕ) (answered : ℕ → ℕ) (top : ℕ) (long : length counts ≡ top + 1) (same : (u : ℕ) → u ≤ top → get_or counts u 0 ≡ answered u) where
  counted : (t u : ℕ) → u ≤ top → get_or (set counts t (get_or counts t 0 + 1)) u 0 ≡ answered_one_more t answered u
  counted t u le =
      elim (cases_lt u t) [
        | inl below ↦ let ne : u ≢ t = omega arith in get_or-set_other counts t u (get_or counts t 0 + 1) 0 ne ∙ same u le ∙ other_cell u t (answered u) ne
        | inr from ↦ elim (cases_lt t u) [
          | inl above ↦ let ne : u ≢ t = omega arith in get_or-set_other counts t u (get_or counts t 0 + 1) 0 ne ∙ same u le ∙ other_cell u t (answered u) ne
          | inr to ↦
              let e : u ≡ t = omega arith in
              let P : ℕ → Type 0 = λ x. get_or (set counts x (get_or counts x 0 + 1)) u 0 ≡ answered_one_more x answered u in
              let within : u < length counts = omega (arith, long) in
              subst P e (get_or-set_same counts u (get_or counts u 0 + 1) 0 within ∙ ap (λ n. n + 1) (same u le) ∙ one_more_cell u (answered u))
        ]
      ]

  counted_if : (b : Bool) (t u : ℕ) → u ≤ top → get_or (if b then set counts t (get_or counts t 0 + 1) else counts) u 0 ≡ (if b then answered_one_more t answered u else answered u)
  counted_if true t u le = counted t u le
  counted_if false t u le = same u le

length-counted : (b : Bool) (counts : List ℕ) (t n : ℕ) → length (if b then set counts t n else counts) ≡ length counts
length-counted true counts t n = length-set counts t n
length-counted false counts t n = refl

-- no number rises by more than one
risen : (counts : List ℕ) (t u : ℕ) → get_or (set counts t (get_or counts t 0 + 1)) u 0 ≤ get_or counts u 0 + 1
risen [] t u = omega arith
risen (n ∷ counts) zero zero = omega arith
risen (n ∷ counts) zero (suc u) = omega arith
risen (n ∷ counts) (suc t) zero = omega arith
risen (n ∷ counts) (suc t) (suc u) = risen counts t u

pub risen_if : (b : Bool) (counts : List ℕ) (t u : ℕ) → get_or (if b then set counts t (get_or counts t 0 + 1) else counts) u 0 ≤ get_or counts u 0 + 1
risen_if true counts t u = risen counts t u
risen_if false counts t u = omega arith

-- ---- along a journal

no_commands : (script : Script) (t : ℕ) → length script.threads < t → commands_of script t ≡ []
no_commands script t h = by (t == 0)
  where
    by : (b : Bool) → (if b then [] else unwrap_or (slice_get script.threads (t - 1)) []) ≡ []
    by true = refl
    by false = let none = slice_get_past script.threads (t - 1) (omega arith) in ap (λ (o : Option (List Command)). unwrap_or o []) none

module _ (script : Script) (contents : List (List ℕ)) (counts : List ℕ) (p : Plain) (is : IsPlain script contents counts p) where
  -- the command that a thread is at
  command_same : (t : ℕ) → command_by script counts t ≡ command_of script p t
  command_same t =
      elim (cases_lt (length script.threads) t) [
        | inl past ↦
            let none = no_commands script t past in
            let first = slice_get_past (let xs : List Command = [] in xs) (get_or counts t 0) (omega arith) in
            let second = slice_get_past (let xs : List Command = [] in xs) (p.answered t) (omega arith) in
            ap (λ (xs : List Command). slice_get xs (get_or counts t 0)) none ∙ first ∙ sym second ∙ ap (λ (xs : List Command). slice_get xs (p.answered t)) (sym none)
        | inr here ↦ ap (λ n. slice_get (commands_of script t) n) (is.answered t here)
      ]

  -- past an entry
  pub passed : (contents' : List (List ℕ)) (counts' : List ℕ) (e : Entry) → BecomesMemory contents contents' (memory_after (command_by script counts (thread_of e.who)) e.kind (memory_in contents)) →
      counts' ≡ counts_after (thread_of e.who) e.kind counts → IsPlain script contents' counts' (plain_after script p e)
  passed contents' counts' e becomes counted_so = record {
    sizes = becomes.same_sizes ∙ is.sizes;
    memory =
        becomes.memory_is ∙ (λ i. memory_after (command_same (thread_of e.who) i) e.kind (is.memory i)) ∙ sym (memory_is_after script p (thread_of e.who) e.kind);
    threads = ap length counted_so ∙ length-counted (is_answer e.kind) counts (thread_of e.who) (get_or counts (thread_of e.who) 0 + 1) ∙ is.threads;
    answered = λ u le.
        ap (λ (xs : List ℕ). get_or xs u 0) counted_so
        ∙ counted_if counts p.answered (length script.threads) is.threads is.answered (is_answer e.kind) (thread_of e.who) u le
        ∙ sym (answered_is_after script p (thread_of e.who) e.kind u);
  }

  -- whether it is a mismatch
  pub mismatch_same : (e : Entry) → is_mismatch (command_by script counts (thread_of e.who)) (memory_in contents) e.kind ≡ is_mismatch (command_of script p (thread_of e.who)) p.memory e.kind
  mismatch_same e = λ i. is_mismatch (command_same (thread_of e.who) i) (is.memory i) e.kind

-- the command of a thread of a script is inside
pub fits_along : (script : Script) (contents : List (List ℕ)) (counts : List ℕ) (p : Plain) → IsTrue (is_script script) → IsPlain script contents counts p → (t : ℕ) →
    CommandFits (sizes_in contents) (command_by script counts t)
fits_along script contents counts p fits is t = subst (λ (s : List ℕ). CommandFits s (command_by script counts t)) (sym is.sizes) (command_fits script fits t (get_or counts t 0))

-- one thread more
pub replicate_push : (n x : ℕ) → replicate n x ++ x ∷ [] ≡ replicate (n + 1) x
replicate_push zero x = refl
replicate_push (suc n) x = let e : suc (n + 1) ≡ suc n + 1 = omega arith in ap (λ xs. x ∷ xs) (replicate_push n x) ∙ ap (λ m. replicate m x) e

-- before all entries
pub begun : (script : Script) (contents : List (List ℕ)) (counts : List ℕ) → sizes_in contents ≡ sizes_of script → memory_in contents ≡ (λ b i. 0) →
    counts ≡ replicate (length script.threads + 1) 0 → IsPlain script contents counts first_plain
begun script contents counts s m c =
    record { sizes = s; memory = m; threads = ap length c ∙ length-replicate {A = ℕ} (length script.threads + 1) 0; answered = λ t le. ap (λ (xs : List ℕ). get_or xs t 0) c ∙ zeros (length script.threads + 1) t }

-- ---- one entry more

mismatches-push : (script : Script) (p : Plain) (es : List Entry) (e : Entry) → mismatches_from script p (es ++ e ∷ []) ≡ mismatches_from script p es + mismatch_at script (fold (plain_after script) p es) e
mismatches-push script p [] e = omega arith
mismatches-push script p (x ∷ es) e =
    ap (λ n. mismatch_at script p x + n) (mismatches-push script (plain_after script p x) es e)
    ∙ sym (add_assoc (mismatch_at script p x) (mismatches_from script (plain_after script p x) es) (mismatch_at script (fold (plain_after script) (plain_after script p x) es) e))

module _ (script : Script) (journal : List Entry) (n : ℕ) (e : Entry) (below : n < length journal) (is : e ≡ get_or journal n e) where
  grown : take (n + 1) journal ≡ take n journal ++ e ∷ []
  grown = take_more journal n e below ∙ ap (λ (x : Entry). take n journal ++ x ∷ []) (sym is)

  pub mismatches_more : mismatches_of script (take (n + 1) journal) ≡ mismatches_of script (take n journal) + mismatch_at script (plain_of script (take n journal)) e
  mismatches_more = ap (λ (es : List Entry). mismatches_of script es) grown ∙ mismatches-push script first_plain (take n journal) e

  pub plain_more : plain_of script (take (n + 1) journal) ≡ plain_after script (plain_of script (take n journal)) e
  plain_more = fold_more (plain_after script) first_plain journal n e below ∙ ap (λ (x : Entry). plain_after script (plain_of script (take n journal)) x) (sym is)
