-- A command that begins to work costs at most what it cost while it locked.
use Rattle.std.proofs.Common.{◌≡◌, ℕ, ◌≤◌, ◌+◌, ◌*◌, zero, suc, Bool, true, false, List, [], ◌∷◌, length, Option, Some, None, refl, ◌∙◌, ap, subst, arith}
use Rattle.std.specs.Prelude.{slice_get, sum_by, unwrap_or, is_none, ◌||◌, if◌then◌else◌}
use Rattle.std.specs.List.{list_any, enumerate_from}
use Rattle.std.proofs.lemmas.List.Sums.{sum_by-cons}
use Rattle.ttm_base.specs.ListWords.{last_of}
use Rattle.ttm_base.specs.declared.Mem.{Mem}
use Rattle.ttm_base.specs.declared.Mem.TheVariants.{System, Tt, Vram}
use Rattle.ttm_base.specs.declared.BufId.{BufId}
use Rattle.ttm_base.specs.declared.Deny.{Deny}
use Rattle.journal_model.specs.declared.script.Script.{Script}
use Rattle.journal_model.specs.declared.script.Decl.{Decl}
use Rattle.journal_model.specs.declared.script.Command.{Command}
use Rattle.journal_model.specs.declared.script.Command.TheVariants as command
use Rattle.journal_model.specs.declared.state.State.{State}
use Rattle.journal_model.specs.declared.state.Course.{Course}
use Rattle.journal_model.specs.declared.state.Buffer.{Buffer}
use Rattle.journal_model.specs.rules.State.{new_buffer, live_in, buffer, has_target, has_buffer}
use Rattle.journal_model.specs.rules.Commands.{decl, undeclared, named}
use Rattle.journal_model.specs.rules.Places.{is_frame}
use Rattle.journal_model.specs.rules.Ready.{is_in_place, has_some_target}
use Rattle.journal_model.specs.rules.Tasks.{first_missing}
use Rattle.laws.specs.law_state.GoodState.{GoodState, HasPages}
use Rattle.laws.proofs.law_sound.Measure.{one_if, all_pages, packet_count, frame_count, to_give_back, carries_left, steps_left, is_slot, slots_to_fill, named_left, victim_left, has_failed, not_skipped, room_for_victims, if_named, search_share, search_left, held_left, whole_command, locking_left, command_left}
use Rattle.laws.proofs.lemma_end_measure.Locks.{count_most}

-- ---- one buffer

pub times_left : (a c n : ℕ) → a ≤ c → a * n ≤ c * n
times_left a c zero h = grind arith
times_left a c (suc n) h = let rest : a * n ≤ c * n = times_left a c n h in grind arith

pub pick_most : (q : Bool) (m n k : ℕ) → m ≤ k → n ≤ k → (if q then m else n) ≤ k
pick_most true m n k h l = h
pick_most false m n k h l = l

pub carries_most : (x : Buffer) → carries_left x ≤ 3
carries_most x = by x.mem (has_target System x) (has_target Tt x) (has_target Vram x)
  where
    by : (m : Mem) (a b c : Bool) →
        elim m [
          | System ↦ elim b [ true ↦ if c || a then 2 else 1 | false ↦ 3 ]
          | Tt ↦ elim a [ true ↦ 1 | false ↦ if b then 2 else 1 ]
          | Vram ↦ elim c [
            | true ↦ 1
            | false ↦ elim b [ true ↦ if a then 2 else 1 | false ↦ 3 ]
          ]
        ] ≤ 3
    by System a true c = pick_most (c || a) 2 1 3 (omega arith) (omega arith)
    by System a false c = omega arith
    by Tt true b c = omega arith
    by Tt false b c = pick_most b 2 1 3 (omega arith) (omega arith)
    by Vram a b true = omega arith
    by Vram a true false = pick_most a 2 1 3 (omega arith) (omega arith)
    by Vram a false false = omega arith

pub steps_most : (script : Script) (cmd : Command) (b : BufId) (x : Buffer) → steps_left script cmd b x ≤ 4
steps_most script cmd b x = by (is_in_place script cmd b x) (has_some_target x)
  where
    by : (p q : Bool) → elim p [ true ↦ 0 | false ↦ elim q [ true ↦ carries_left x | false ↦ 4 ] ] ≤ 4
    by true q = omega arith
    by false true = let c = carries_most x in omega (arith, c)
    by false false = omega arith

pub slots_most : (cmd : Command) (x : Buffer) → slots_to_fill cmd x ≤ length x.table
slots_most (command.SwapOut b) x = omega arith
slots_most cmd x = count_most is_slot x.table

pub named_most : (script : Script) (cmd : Command) (b : BufId) (x : Buffer) → (5 + 6291456 * steps_left script cmd b x) * length x.table + 67108865 * slots_to_fill cmd x ≤ 92274694 * length x.table
named_most script cmd b x =
    let steps = steps_most script cmd b x in
    let product : (5 + 6291456 * steps_left script cmd b x) * length x.table ≤ 25165829 * length x.table = times_left (5 + 6291456 * steps_left script cmd b x) 25165829 (length x.table) (omega (arith, steps)) in
    let slots = slots_most cmd x in
    omega (arith, product, slots)

digit : (q : Bool) → one_if q ≤ 1
digit true = omega arith
digit false = omega arith

pub give_most : (x : Buffer) → to_give_back x ≤ 2 * length x.table + 3
give_most x =
    let a = digit (has_target System x) in
    let b = digit (has_target Tt x) in
    let c = digit (has_target Vram x) in
    let frames = by x.mem in
    omega (arith, a, b, c, frames)
  where
    by : (m : Mem) → elim m [ Vram ↦ 2 * frame_count x | Tt ↦ 0 | System ↦ 0 ] ≤ 2 * length x.table
    by Vram = let n = count_most is_frame x.table in omega (arith, n)
    by Tt = omega arith
    by System = omega arith

-- ---- all declared buffers

-- a buffer has at most its declared pages
pub table_most : (script : Script) (s : State) → GoodState script s → (b : BufId) → length (buffer s b).table ≤ (decl script b).pages
table_most script s good b = by (live_in s.core.buffers b) (good.tables b)
  where
    by : (o : Option Buffer) → HasPages script b o → length (unwrap_or o (new_buffer 0)).table ≤ (decl script b).pages
    by None h = omega arith
    by (Some x) h = let e : length x.table ≡ (decl script b).pages = h in omega (arith, e)

sum_declared : (f : ℕ × Decl → ℕ) (xs : List Decl) (k : ℕ) → ((i : ℕ) (d : Decl) → slice_get xs i ≡ Some d → f (k + i, d) ≤ 96469001 * d.pages + 3) → sum_by f (enumerate_from k xs) ≤ 96469001 * sum_by (λ d. d.pages) xs + 3 * length xs
sum_declared f [] k h = omega arith
sum_declared f (x ∷ xs) k h =
    let now : k + 0 ≡ k = omega arith in
    let here : f (k, x) ≤ 96469001 * x.pages + 3 = subst (λ n. f (n, x) ≤ 96469001 * x.pages + 3) now (h zero x refl) in
    let rest = sum_declared f xs (k + 1) (λ i d e. (let on : k + suc i ≡ k + 1 + i = omega arith in subst (λ n. f (n, d) ≤ 96469001 * d.pages + 3) on (h (suc i) d e))) in
    let a = sum_by-cons f (k, x) (enumerate_from (k + 1) xs) in
    let b = sum_by-cons (λ d. d.pages) x xs in
    omega (arith, here, rest, a, b)

-- every declared buffer has a page
one_each : (xs : List Decl) → ((i : ℕ) (d : Decl) → slice_get xs i ≡ Some d → 1 ≤ d.pages) → length xs ≤ sum_by (λ d. d.pages) xs
one_each [] h = omega arith
one_each (x ∷ xs) h = let here = h zero x refl in let rest = one_each xs (λ i d e. h (suc i) d e) in let sum = sum_by-cons (λ d. d.pages) x xs in omega (arith, here, rest, sum)

module _ (script : Script) (s : State) (good : GoodState script s) (some : (i : ℕ) (d : Decl) → slice_get script.buffers i ≡ Some d → 1 ≤ d.pages) where
  declared_is : (i : ℕ) (d : Decl) → slice_get script.buffers i ≡ Some d → decl script (record { 0 = i }) ≡ d
  declared_is i d e = ap (λ o. unwrap_or o undeclared) e

  pages_most : (i : ℕ) (d : Decl) → slice_get script.buffers i ≡ Some d → length (buffer s (record { 0 = i })).table ≤ d.pages
  pages_most i d e = subst (λ x. length (buffer s (record { 0 = i })).table ≤ x.pages) (declared_is i d e) (table_most script s good (record { 0 = i }))

  skip_most : (c : Course) (e : ℕ × Decl) → not_skipped c e ≤ e.1.pages
  skip_most c e = pick_most (has_buffer c.skips (record { 0 = e.0 }) || list_any (has_failed (record { 0 = e.0 })) c.caught) 0 e.1.pages e.1.pages (omega arith) (omega arith)

  share_most : (c : Course) (cmd : Command) (i : ℕ) (d : Decl) → slice_get script.buffers i ≡ Some d → search_share script s c cmd (i, d) ≤ 96469001 * d.pages + 3
  share_most c cmd i d e =
      let skip : not_skipped c (i, d) ≤ d.pages = skip_most c (i, d) in
      let cost = named_most script cmd (record { 0 = i }) (buffer s (record { 0 = i })) in
      let pages = pages_most i d e in
      let own : if_named cmd (named_left script s cmd) (i, d) ≤ 92274694 * d.pages =
      pick_most (has_buffer (named cmd) (record { 0 = i })) (named_left script s cmd (record { 0 = i })) 0 (92274694 * d.pages) (omega (arith, cost, pages)) (omega arith) in
      omega (arith, skip, own)

  back_most : (cmd : Command) (i : ℕ) (d : Decl) → slice_get script.buffers i ≡ Some d → if_named cmd (λ b. to_give_back (buffer s b)) (i, d) ≤ 96469001 * d.pages + 3
  back_most cmd i d e =
      let cost = give_most (buffer s (record { 0 = i })) in
      let pages = pages_most i d e in
      pick_most (has_buffer (named cmd) (record { 0 = i })) (to_give_back (buffer s (record { 0 = i }))) 0 (96469001 * d.pages + 3) (omega (arith, cost, pages)) (omega arith)

  pub working_most : (c : Course) (cmd : Command) → c.caught ≡ [] → held_left script s c cmd ≤ locking_left script cmd
  working_most c cmd alone = by c.fail
    where
      few : length script.buffers ≤ all_pages script
      few = one_each script.buffers some

      by : (o : Option Deny) →
          elim o [
            | Some deny ↦ 2097153 + sum_by (if_named cmd (λ b. to_give_back (buffer s b))) (enumerate_from 0 script.buffers)
            | None ↦ packet_count cmd + search_left script s c cmd
          ] ≤ locking_left script cmd
      by (Some d) =
          let sum = sum_declared (if_named cmd (λ b. to_give_back (buffer s b))) script.buffers 0 (λ i d e. (let z : i ≡ 0 + i = omega arith in subst (λ n. if_named cmd (λ b. to_give_back (buffer s b)) (n, d) ≤ 96469001 * d.pages + 3) z (back_most cmd i d e))) in
          let n = few in
          omega (arith, sum, n)
      by None =
          let sum = sum_declared (search_share script s c cmd) script.buffers 0 (λ i d e. (let z : i ≡ 0 + i = omega arith in subst (λ n. search_share script s c cmd (n, d) ≤ 96469001 * d.pages + 3) z (share_most c cmd i d e))) in
          let room : room_for_victims (last_of c.caught) ≡ 2 = ap (λ vs. room_for_victims (last_of vs)) alone in
          let victims : sum_by (λ v. victim_left (buffer s v.b) v) c.caught ≡ 0 = ap (λ vs. sum_by (λ v. victim_left (buffer s v.b) v) vs) alone in
          let n = few in
          omega (arith, sum, room, victims, n)

-- ---- a command's part by its phase

abbrev pub phase : Script → State → Course → Command → Bool → Bool → Bool → ℕ
phase script s c cmd made fresh whole =
    elim made [
      | true ↦ 2097153
      | false ↦ elim fresh [
        | true ↦ whole_command script cmd
        | false ↦ elim whole [ true ↦ held_left script s c cmd | false ↦ locking_left script cmd ]
      ]
    ]

pub phase_is : (script : Script) (s : State) (c : Course) (cmd : Command) (m q w : Bool) → c.made ≡ m → is_none c.stamp ≡ q → is_none (first_missing c cmd) ≡ w → command_left script s c cmd ≡ phase script s c cmd m q w
phase_is script s c cmd m q w e f g =
    ap (λ x. phase script s c cmd x (is_none c.stamp) (is_none (first_missing c cmd))) e
    ∙ (ap (λ x. phase script s c cmd m x (is_none (first_missing c cmd))) f ∙ ap (λ x. phase script s c cmd m q x) g)

-- a command at work costs more than all that locks cost
pub command_least : (script : Script) (s : State) (c : Course) (cmd : Command) → 2097153 ≤ command_left script s c cmd
command_least script s c cmd = by c.made (is_none c.stamp) (is_none (first_missing c cmd))
  where
    held : (o : Option Deny) →
        2097153 ≤ elim o [
          | Some deny ↦ 2097153 + sum_by (if_named cmd (λ b. to_give_back (buffer s b))) (enumerate_from 0 script.buffers)
          | None ↦ packet_count cmd + search_left script s c cmd
        ]
    held (Some d) = omega arith
    held None = omega arith

    by : (m q w : Bool) → 2097153 ≤ phase script s c cmd m q w
    by true q w = omega arith
    by false true w = omega arith
    by false false true = held c.fail
    by false false false = omega arith

-- one that works, and whose search hasn't failed
pub working_least : (script : Script) (s : State) (c : Course) (cmd : Command) → c.fail ≡ None → packet_count cmd + 4194320 ≤ held_left script s c cmd
working_least script s c cmd f =
    let is : held_left script s c cmd ≡ packet_count cmd + search_left script s c cmd =
    ap (λ o. elim o [
      | Some deny ↦ 2097153 + sum_by (if_named cmd (λ b. to_give_back (buffer s b))) (enumerate_from 0 script.buffers)
      | None ↦ packet_count cmd + search_left script s c cmd
    ]) f in
    omega (arith, is)
