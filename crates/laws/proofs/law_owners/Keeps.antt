-- What each entry does to what is held: most hold no more than before, and the others take what was free.
use Rattle.std.proofs.Common.{◌≡◌, ℕ, ◌+◌, ◌≤◌, zero, suc, Bool, true, false, List, [], ◌∷◌, ◌++◌, Option, Some, None, refl, sym, arith}
use Rattle.std.specs.Prelude.{not, nat_eq, ◌==◌, map, filter, filter_map, fold, replicate, slice_set, unwrap_or, if◌then◌else◌}
use Rattle.std.specs.List.{cons_option}
use Rattle.ttm_base.specs.declared.Mem.{Mem}
use Rattle.ttm_base.specs.declared.Mem.TheVariants.{System, Tt, Vram}
use Rattle.ttm_base.specs.declared.BufId.{BufId}
use Rattle.ttm_base.specs.declared.JobId.{JobId}
use Rattle.ttm_base.specs.declared.Op.{Op}
use Rattle.ttm_base.specs.declared.Usage.{Usage}
use Rattle.ttm_base.specs.declared.Loc.{Loc}
use Rattle.ttm_base.specs.declared.Loc.TheVariants as loc
use Rattle.ttm_base.specs.declared.Span.{Span}
use Rattle.journal_model.specs.declared.state.Core.{Core}
use Rattle.journal_model.specs.declared.state.Buffer.{Buffer}
use Rattle.journal_model.specs.declared.state.Ghost.{Ghost}
use Rattle.journal_model.specs.declared.entry.Left.{Left}
use Rattle.journal_model.specs.declared.entry.Left.TheVariants as left
use Rattle.journal_model.specs.rules.State.{live_in, buffer_in, changed, new_buffer}
use Rattle.journal_model.specs.rules.Places.{frame_of, slot_of, frames_of}
use Rattle.journal_model.specs.rules.Waits.{jobs_before_target}
use Rattle.journal_model.specs.rules.ApplyPages.{with_fence, with_kernel_fences, with_spans, with_loc, without_frame, without_frames, bound, unbound}
use Rattle.journal_model.specs.rules.ApplyMoves.{moved, table_left, frames_left, ghost_of_moved, core_after_move}
use Rattle.journal_model.specs.rules.ApplyVictims.{leaves_tt}
use Rattle.journal_model.specs.rules.ApplyJobs.{with_use}
use Rattle.journal_model.specs.rules.ApplyCommands.{ghost_of_freed}
use Rattle.journal_model.specs.rules.Waits.{use_of}
use Rattle.laws.proofs.law_owners.Counts.{one, times, stands, weigh, summed-append, summed-filter, summed-set}
use Rattle.laws.proofs.law_owners.Weights.{Room, vram_pages, tt_pages, frames, slots, of_buffer, of_ghost, in_buffers, in_ghosts, weight, changed_weight, left_weight, fences_weigh_none}

-- ---- tables

-- what a location weighs
abbrev pub in_loc : (Loc → Option ℕ) → ℕ → Loc → ℕ
in_loc f n l = weigh (λ m. one (nat_eq n m)) (f l)

pub times-cons : (f : Loc → Option ℕ) (n : ℕ) (l : Loc) (table : List Loc) → times n (filter_map f (l ∷ table)) ≡ in_loc f n l + times n (filter_map f table)
times-cons f n l table = by (f l)
  where
    by : (o : Option ℕ) → times n (cons_option o (filter_map f table)) ≡ weigh (λ m. one (nat_eq n m)) o + times n (filter_map f table)
    by None = omega arith
    by (Some m) = refl

pub times-set : (f : Loc → Option ℕ) (n : ℕ) (table : List Loc) (i : ℕ) (l : Loc) → times n (filter_map f (slice_set table i l)) ≤ times n (filter_map f table) + in_loc f n l
times-set f n [] i l = omega arith
times-set f n (x ∷ table) zero l = let new = times-cons f n l table in let old = times-cons f n x table in omega (arith, new, old)
times-set f n (x ∷ table) (suc i) l =
    let rest = times-set f n table i l in
    let new = times-cons f n x (slice_set table i l) in
    let old = times-cons f n x table in
    omega (arith, rest, new, old)

times-map : (f : Loc → Option ℕ) (g : Loc → Loc) (n : ℕ) → ((l : Loc) → in_loc f n (g l) ≤ in_loc f n l) → (table : List Loc) → times n (filter_map f (map g table)) ≤ times n (filter_map f table)
times-map f g n h [] = omega arith
times-map f g n h (x ∷ table) =
    let rest = times-map f g n h table in
    let new = times-cons f n (g x) (map g table) in
    let old = times-cons f n x table in
    let here = h x in
    omega (arith, rest, new, old, here)

no_frames : (n : ℕ) (table : List Loc) → times n (filter_map frame_of (map (λ l. loc.Zero) table)) ≡ 0
no_frames n [] = refl
no_frames n (l ∷ table) = no_frames n table

no_slots : (n : ℕ) (table : List Loc) → times n (filter_map slot_of (map (λ l. loc.Zero) table)) ≡ 0
no_slots n [] = refl
no_slots n (l ∷ table) = no_slots n table

fresh_frames : (n pages : ℕ) → times n (filter_map frame_of (replicate pages loc.Zero)) ≡ 0
fresh_frames n zero = refl
fresh_frames n (suc pages) = fresh_frames n pages

fresh_slots : (n pages : ℕ) → times n (filter_map slot_of (replicate pages loc.Zero)) ≡ 0
fresh_slots n zero = refl
fresh_slots n (suc pages) = fresh_slots n pages

-- ---- one buffer

pub new_weighs_none : (r : Room) (n pages : ℕ) → of_buffer r n (new_buffer pages) ≡ 0
new_weighs_none vram_pages n pages = refl
new_weighs_none tt_pages n pages = refl
new_weighs_none frames n pages = fresh_frames n pages
new_weighs_none slots n pages = fresh_slots n pages

pub use_weighs_none : (r : Room) (n : ℕ) (job : JobId) (how : Usage) (x : Buffer) → of_buffer r n (with_fence job how x) ≡ of_buffer r n x
use_weighs_none vram_pages n job how x = refl
use_weighs_none tt_pages n job how x = refl
use_weighs_none frames n job how x = refl
use_weighs_none slots n job how x = refl

-- how much more a buffer holds with a target
abbrev pub target_gain : Room → Mem → ℕ → List Span → ℕ
target_gain vram_pages Vram n spans = stands n spans
target_gain tt_pages Tt n spans = stands n spans
target_gain _ _ n spans = 0

target_weighs : (r : Room) (n : ℕ) (mem : Mem) (spans : List Span) (x : Buffer) → of_buffer r n (with_spans mem (Some spans) x) ≤ of_buffer r n x + target_gain r mem n spans
target_weighs vram_pages n System spans x = omega arith
target_weighs vram_pages n Tt spans x = omega arith
target_weighs vram_pages n Vram spans x = omega arith
target_weighs tt_pages n System spans x = omega arith
target_weighs tt_pages n Tt spans x = omega arith
target_weighs tt_pages n Vram spans x = omega arith
target_weighs frames n System spans x = omega arith
target_weighs frames n Tt spans x = omega arith
target_weighs frames n Vram spans x = omega arith
target_weighs slots n System spans x = omega arith
target_weighs slots n Tt spans x = omega arith
target_weighs slots n Vram spans x = omega arith

pub taken_weighs : (r : Room) (n : ℕ) (jobs : List JobId) (mem : Mem) (spans : List Span) (x : Buffer) →
    of_buffer r n (with_kernel_fences jobs (with_spans mem (Some spans) x)) ≤ of_buffer r n x + target_gain r mem n spans
taken_weighs r n jobs mem spans x =
    let same = fences_weigh_none r n jobs (with_spans mem (Some spans) x) in let more = target_weighs r n mem spans x in omega (arith, same, more)

untaken_weighs : (r : Room) (n : ℕ) (mem : Mem) (x : Buffer) → of_buffer r n (with_spans mem None x) ≤ of_buffer r n x + 0
untaken_weighs vram_pages n System x = omega arith
untaken_weighs vram_pages n Tt x = omega arith
untaken_weighs vram_pages n Vram x = omega arith
untaken_weighs tt_pages n System x = omega arith
untaken_weighs tt_pages n Tt x = omega arith
untaken_weighs tt_pages n Vram x = omega arith
untaken_weighs frames n System x = omega arith
untaken_weighs frames n Tt x = omega arith
untaken_weighs frames n Vram x = omega arith
untaken_weighs slots n System x = omega arith
untaken_weighs slots n Tt x = omega arith
untaken_weighs slots n Vram x = omega arith

-- how much more a buffer holds with another location in its table
abbrev pub loc_gain : Room → ℕ → Loc → ℕ
loc_gain frames n l = in_loc frame_of n l
loc_gain slots n l = in_loc slot_of n l
loc_gain _ n l = 0

pub page_weighs : (r : Room) (n page : ℕ) (l : Loc) (x : Buffer) → of_buffer r n (with_loc page l x) ≤ of_buffer r n x + loc_gain r n l
page_weighs vram_pages n page l x = omega arith
page_weighs tt_pages n page l x = omega arith
page_weighs frames n page l x = times-set frame_of n x.table page l
page_weighs slots n page l x = times-set slot_of n x.table page l

frame_goes : (n : ℕ) (l : Loc) → in_loc frame_of n (without_frame l) ≤ in_loc frame_of n l
frame_goes n (loc.Frame f) = omega arith
frame_goes n (loc.Slot k) = omega arith
frame_goes n loc.Zero = omega arith

slot_stays : (n : ℕ) (l : Loc) → in_loc slot_of n (without_frame l) ≤ in_loc slot_of n l
slot_stays n (loc.Frame f) = omega arith
slot_stays n (loc.Slot k) = omega arith
slot_stays n loc.Zero = omega arith

depopulated_weighs : (r : Room) (n : ℕ) (x : Buffer) → of_buffer r n (without_frames x) ≤ of_buffer r n x + 0
depopulated_weighs vram_pages n x = omega arith
depopulated_weighs tt_pages n x = omega arith
depopulated_weighs frames n x = let fewer = times-map frame_of without_frame n (frame_goes n) x.table in omega (arith, fewer)
depopulated_weighs slots n x = let fewer = times-map slot_of without_frame n (slot_stays n) x.table in omega (arith, fewer)

bound_weighs : (r : Room) (n : ℕ) (x : Buffer) → of_buffer r n (bound x) ≤ of_buffer r n x + 0
bound_weighs vram_pages n x = omega arith
bound_weighs tt_pages n x = omega arith
bound_weighs frames n x = omega arith
bound_weighs slots n x = omega arith

unbound_weighs : (r : Room) (n : ℕ) (x : Buffer) → of_buffer r n (unbound x) ≤ of_buffer r n x + 0
unbound_weighs vram_pages n x = omega arith
unbound_weighs tt_pages n x = omega arith
unbound_weighs frames n x = omega arith
unbound_weighs slots n x = omega arith

caught_weighs : (r : Room) (n : ℕ) (mem : Mem) (x : Buffer) → of_buffer r n (leaves_tt mem x) ≤ of_buffer r n x + 0
caught_weighs r n System x = omega arith
caught_weighs r n Vram x = omega arith
caught_weighs vram_pages n Tt x = omega arith
caught_weighs tt_pages n Tt x = omega arith
caught_weighs frames n Tt x = omega arith
caught_weighs slots n Tt x = omega arith

-- a moved buffer, and the ghost that it may leave
frames_move : (n : ℕ) (mem : Mem) (x : Buffer) → times n (frames_left mem x) + times n (filter_map frame_of (table_left mem x.table)) ≤ times n (frames_of x)
frames_move n Tt x = let none = no_frames n x.table in omega (arith, none)
frames_move n Vram x = omega arith
frames_move n System x = omega arith

slots_move : (n : ℕ) (mem : Mem) (table : List Loc) → times n (filter_map slot_of (table_left mem table)) ≤ times n (filter_map slot_of table)
slots_move n Tt table = let none = no_slots n table in omega (arith, none)
slots_move n Vram table = omega arith
slots_move n System table = omega arith

moved_weighs : (r : Room) (n : ℕ) (mem : Mem) (job : JobId) (g : ℕ) (x : Buffer) → of_ghost r n (ghost_of_moved x job g) + of_buffer r n (moved mem job x) ≤ of_buffer r n x
moved_weighs vram_pages n System job g x = omega arith
moved_weighs vram_pages n Tt job g x = omega arith
moved_weighs vram_pages n Vram job g x = omega arith
moved_weighs tt_pages n System job g x = omega arith
moved_weighs tt_pages n Tt job g x = omega arith
moved_weighs tt_pages n Vram job g x = omega arith
moved_weighs frames n mem job g x = frames_move n x.mem x
moved_weighs slots n mem job g x = let fewer = slots_move n x.mem x.table in omega (arith, fewer)

freed_weighs : (r : Room) (n : ℕ) (c : Core) (g : ℕ) (x : Buffer) → of_ghost r n (ghost_of_freed c x g) ≤ of_buffer r n x
freed_weighs vram_pages n c g x = omega arith
freed_weighs tt_pages n c g x = omega arith
freed_weighs frames n c g x = omega arith
freed_weighs slots n c g x = omega arith

-- ---- the core

-- one buffer was changed and holds no more
pub lighter : (r : Room) (n : ℕ) (f : Buffer → Buffer) (c : Core) (b : BufId) → ((x : Buffer) → of_buffer r n (f x) ≤ of_buffer r n x + 0) → in_buffers r n (changed f c.buffers b) ≤ in_buffers r n c.buffers
lighter r n f c b h = let less = changed_weight f (of_buffer r n) c.buffers b 0 (λ x e. h x) in omega (arith, less)

uses_weigh_none : (r : Room) (n : ℕ) (job : JobId) (ops : List Op) (buffers : List (Option Buffer)) (bs : List BufId) → in_buffers r n (fold (with_use job ops) buffers bs) ≤ in_buffers r n buffers
uses_weigh_none r n job ops buffers [] = omega arith
uses_weigh_none r n job ops buffers (b ∷ bs) =
    let rest = uses_weigh_none r n job ops (with_use job ops buffers b) bs in
    let one = changed_weight (with_fence job (use_of ops b)) (of_buffer r n) buffers b 0 (λ x e. let same = use_weighs_none r n job (use_of ops b) x in omega (arith, same)) in
    omega (arith, rest, one)

one_more_ghost : (r : Room) (n : ℕ) (ghosts : List Ghost) (g : Ghost) → in_ghosts r n (ghosts ++ g ∷ []) ≡ in_ghosts r n ghosts + of_ghost r n g
one_more_ghost r n ghosts g = let both = summed-append (of_ghost r n) ghosts (g ∷ []) in omega (arith, both)

move_is_lighter : (r : Room) (n : ℕ) (c : Core) (b : BufId) (mem : Mem) (job : JobId) (l : Left) → weight r n (core_after_move c b mem job l) ≤ weight r n c
move_is_lighter r n c b mem job left.Now =
    let x = buffer_in c b in
    let m = moved_weighs r n mem job 0 x in
    let rest = left_weight (moved mem job) (of_buffer r n) c b (of_ghost r n (ghost_of_moved x job 0)) m (new_weighs_none r n 0) in
    omega (arith, rest)
move_is_lighter r n c b mem job (left.Ghost g) =
    let x = buffer_in c b in
    let m = moved_weighs r n mem job g x in
    let rest = left_weight (moved mem job) (of_buffer r n) c b (of_ghost r n (ghost_of_moved x job g)) m (new_weighs_none r n 0) in
    let more = one_more_ghost r n c.ghosts (ghost_of_moved x job g) in
    omega (arith, rest, more)

old_weight : (m : Buffer → ℕ) (c : Core) (b : BufId) → m (new_buffer 0) ≡ 0 → weigh m (live_in c.buffers b) ≡ m (buffer_in c b)
old_weight m c b none = by (live_in c.buffers b)
  where
    by : (o : Option Buffer) → weigh m o ≡ m (unwrap_or o (new_buffer 0))
    by None = sym none
    by (Some x) = refl

free_is_lighter : (r : Room) (n : ℕ) (c : Core) (b : BufId) (g : ℕ) (q : Bool) →
    in_buffers r n (slice_set c.buffers b.0 None) + in_ghosts r n (if q then c.ghosts else c.ghosts ++ ghost_of_freed c (buffer_in c b) g ∷ []) ≤ weight r n c
free_is_lighter r n c b g q = by q
  where
    gone : in_buffers r n (slice_set c.buffers b.0 None) + of_buffer r n (buffer_in c b) ≤ in_buffers r n c.buffers
    gone =
        let set = summed-set (of_buffer r n) c.buffers b.0 None in
        let old = old_weight (of_buffer r n) c b (new_weighs_none r n 0) in
        omega (arith, set, old)

    by : (q : Bool) → in_buffers r n (slice_set c.buffers b.0 None) + in_ghosts r n (if q then c.ghosts else c.ghosts ++ ghost_of_freed c (buffer_in c b) g ∷ []) ≤ weight r n c
    by true = let h = gone in omega (arith, h)
    by false =
        let h = gone in
        let more = one_more_ghost r n c.ghosts (ghost_of_freed c (buffer_in c b) g) in
        let some = freed_weighs r n c g (buffer_in c b) in
        omega (arith, h, more, some)

-- the kinds that take nothing
module _ (r : Room) (n : ℕ) (c : Core) where
  pub new_keeps : (b : BufId) (pages : ℕ) → in_buffers r n (slice_set c.buffers b.0 (Some (new_buffer pages))) + in_ghosts r n c.ghosts ≤ weight r n c
  new_keeps b pages = let set = summed-set (of_buffer r n) c.buffers b.0 (Some (new_buffer pages)) in let none = new_weighs_none r n pages in omega (arith, set, none)

  pub free_keeps : (b : BufId) (g : ℕ) → in_buffers r n (slice_set c.buffers b.0 None) + in_ghosts r n (if g == 0 then c.ghosts else c.ghosts ++ ghost_of_freed c (buffer_in c b) g ∷ []) ≤ weight r n c
  free_keeps b g = free_is_lighter r n c b g (g == 0)

  pub untake_keeps : (b : BufId) (mem : Mem) → in_buffers r n (changed (with_spans mem None) c.buffers b) + in_ghosts r n c.ghosts ≤ weight r n c
  untake_keeps b mem = let less = lighter r n (with_spans mem None) c b (untaken_weighs r n mem) in omega (arith, less)

  pub depopulate_keeps : (b : BufId) → in_buffers r n (changed without_frames c.buffers b) + in_ghosts r n c.ghosts ≤ weight r n c
  depopulate_keeps b = let less = lighter r n without_frames c b (depopulated_weighs r n) in omega (arith, less)

  pub bind_keeps : (b : BufId) → in_buffers r n (changed bound c.buffers b) + in_ghosts r n c.ghosts ≤ weight r n c
  bind_keeps b = let less = lighter r n bound c b (bound_weighs r n) in omega (arith, less)

  pub unbind_keeps : (b : BufId) → in_buffers r n (changed unbound c.buffers b) + in_ghosts r n c.ghosts ≤ weight r n c
  unbind_keeps b = let less = lighter r n unbound c b (unbound_weighs r n) in omega (arith, less)

  pub catch_keeps : (b : BufId) → in_buffers r n (changed (λ x. leaves_tt x.mem x) c.buffers b) + in_ghosts r n c.ghosts ≤ weight r n c
  catch_keeps b = let less = lighter r n (λ x. leaves_tt x.mem x) c b (λ x. caught_weighs r n x.mem x) in omega (arith, less)

  pub move_keeps : (b : BufId) (mem : Mem) (job : JobId) (l : Left) → weight r n (core_after_move c b mem job l) ≤ weight r n c
  move_keeps b mem job l = move_is_lighter r n c b mem job l

  pub arm_keeps : (job : JobId) (ops : List Op) (bs : List BufId) → in_buffers r n (fold (with_use job ops) c.buffers bs) + in_ghosts r n c.ghosts ≤ weight r n c
  arm_keeps job ops bs = let less = uses_weigh_none r n job ops c.buffers bs in omega (arith, less)

  pub reap_keeps : (g : ℕ) → in_buffers r n c.buffers + in_ghosts r n (filter (λ h. not (h.num == g)) c.ghosts) ≤ weight r n c
  reap_keeps g = let less = summed-filter (of_ghost r n) (λ h. not (h.num == g)) c.ghosts in omega (arith, less)

  pub take_adds : (b : BufId) (mem : Mem) (spans : List Span) →
      in_buffers r n (changed (λ x. with_kernel_fences (jobs_before_target c mem) (with_spans mem (Some spans) x)) c.buffers b) + in_ghosts r n c.ghosts ≤ weight r n c + target_gain r mem n spans
  take_adds b mem spans =
      let more = changed_weight (λ x. with_kernel_fences (jobs_before_target c mem) (with_spans mem (Some spans) x)) (of_buffer r n) c.buffers b (target_gain r mem n spans) (λ x e. taken_weighs r n (jobs_before_target c mem) mem spans x) in
      omega (arith, more)

  pub page_adds : (b : BufId) (page : ℕ) (l : Loc) → in_buffers r n (changed (with_loc page l) c.buffers b) + in_ghosts r n c.ghosts ≤ weight r n c + loc_gain r n l
  page_adds b page l = let more = changed_weight (with_loc page l) (of_buffer r n) c.buffers b (loc_gain r n l) (λ x e. page_weighs r n page l x) in omega (arith, more)
