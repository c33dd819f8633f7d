-- How often a page, frame or slot is held, buffer by buffer and ghost by ghost.
use Rattle.std.proofs.Common.{◌≡◌, ℕ, ◌+◌, ◌≤◌, List, [], ◌∷◌, Option, Some, None, refl, ◌∙◌, ap, ap₂, arith}
use Rattle.std.specs.Prelude.{slice_set, map, flat_map, option_map, unwrap_or}
use Rattle.ttm_base.specs.declared.Mem.{Mem}
use Rattle.ttm_base.specs.declared.Mem.TheVariants.{Tt, Vram}
use Rattle.ttm_base.specs.declared.BufId.{BufId}
use Rattle.ttm_base.specs.declared.JobId.{JobId}
use Rattle.ttm_base.specs.declared.Usage.TheVariants as usage
use Rattle.journal_model.specs.declared.script.Script.{Script}
use Rattle.journal_model.specs.declared.state.Core.{Core}
use Rattle.journal_model.specs.declared.state.Buffer.{Buffer}
use Rattle.journal_model.specs.declared.state.Ghost.{Ghost}
use Rattle.journal_model.specs.rules.State.{live_in, buffer_in, changed, target_spans, new_buffer}
use Rattle.journal_model.specs.rules.Places.{pages_of, frames_of, slots_of}
use Rattle.journal_model.specs.rules.Holds.{live_buffers, spans_in, ghost_spans, buffer_holds, ghost_hold, holds, held_spans, held_frames, held_slots, live_frames, ghost_frames}
use Rattle.journal_model.specs.rules.ApplyPages.{with_fence, with_kernel_fences}
use Rattle.laws.proofs.law_owners.Counts.{times, stands, summed, weigh, times-append, times-flat_map, stands-flat_map, summed-append, summed-flat_map, summed-map, summed-live, summed-set}

-- what is held
pub data Room : Type 0 where
  vram_pages : Room
  tt_pages : Room
  frames : Room
  slots : Room

-- how much of it there is
abbrev pub room_size : Script → Room → ℕ
room_size script vram_pages = script.sizes.vram
room_size script tt_pages = script.sizes.tt
room_size script frames = script.sizes.frames
room_size script slots = script.sizes.swap

-- how often a buffer holds number n of it
abbrev pub of_buffer : Room → ℕ → Buffer → ℕ
of_buffer vram_pages n x = stands n (spans_in Vram x) + stands n (target_spans Vram x)
of_buffer tt_pages n x = stands n (spans_in Tt x) + stands n (target_spans Tt x)
of_buffer frames n x = times n (frames_of x)
of_buffer slots n x = times n (slots_of x)

-- how often a ghost does
abbrev pub of_ghost : Room → ℕ → Ghost → ℕ
of_ghost vram_pages n g = stands n g.vram
of_ghost tt_pages n g = stands n g.tt
of_ghost frames n g = times n g.frames
of_ghost slots n g = 0

-- of buffers, and of ghosts
abbrev pub in_buffers : Room → ℕ → List (Option Buffer) → ℕ
in_buffers r n buffers = summed (weigh (of_buffer r n)) buffers

abbrev pub in_ghosts : Room → ℕ → List Ghost → ℕ
in_ghosts r n ghosts = summed (of_ghost r n) ghosts

-- how often it is held
abbrev pub weight : Room → ℕ → Core → ℕ
weight r n c = in_buffers r n c.buffers + in_ghosts r n c.ghosts

-- what is held, as a list
abbrev pub held : Room → Core → List ℕ
held vram_pages c = pages_of (held_spans Vram c)
held tt_pages c = pages_of (held_spans Tt c)
held frames c = held_frames c
held slots c = held_slots c

-- ---- the list has each number as often as it is held

spans_weigh : (mem : Mem) (n : ℕ) (c : Core) →
    stands n (held_spans mem c) ≡ summed (weigh (λ x. stands n (spans_in mem x) + (stands n (target_spans mem x) + 0))) c.buffers + summed (λ g. stands n (ghost_spans mem g)) c.ghosts
spans_weigh mem n c =
    stands-flat_map n (λ h. h.spans) (holds mem c)
    ∙ summed-append (λ h. stands n h.spans) (flat_map (buffer_holds mem) (live_buffers c)) (map (ghost_hold mem) c.ghosts)
    ∙ ap₂ ◌+◌
    (summed-flat_map (λ h. stands n h.spans) (buffer_holds mem) (live_buffers c)
    ∙ summed-live (λ x. stands n (spans_in mem x) + (stands n (target_spans mem x) + 0)) 0 c.buffers)
    (summed-map (λ h. stands n h.spans) (ghost_hold mem) c.ghosts)

-- a sum of equal parts
pub summed-same : {X : Type 0} (f g : X → ℕ) → ((x : X) → f x ≡ g x) → (xs : List X) → summed f xs ≡ summed g xs
summed-same f g e [] = refl
summed-same f g e (x ∷ xs) = ap₂ ◌+◌ (e x) (summed-same f g e xs)

pub weigh-same : {X : Type 0} (f g : X → ℕ) → ((x : X) → f x ≡ g x) → (o : Option X) → weigh f o ≡ weigh g o
weigh-same f g e None = refl
weigh-same f g e (Some x) = e x

without_zero : (mem : Mem) (n : ℕ) (buffers : List (Option Buffer)) →
    summed (weigh (λ x. stands n (spans_in mem x) + (stands n (target_spans mem x) + 0))) buffers ≡ summed (weigh (λ x. stands n (spans_in mem x) + stands n (target_spans mem x))) buffers
without_zero mem n buffers =
    summed-same (weigh (λ x. stands n (spans_in mem x) + (stands n (target_spans mem x) + 0))) (weigh (λ x. stands n (spans_in mem x) + stands n (target_spans mem x)))
    (weigh-same (λ x. stands n (spans_in mem x) + (stands n (target_spans mem x) + 0)) (λ x. stands n (spans_in mem x) + stands n (target_spans mem x)) (λ x. omega arith))
    buffers

no_ghost : (ghosts : List Ghost) → 0 ≡ summed (λ g. 0) ghosts
no_ghost [] = refl
no_ghost (g ∷ ghosts) = let rest = no_ghost ghosts in omega (arith, rest)

pub times-held : (r : Room) (n : ℕ) (c : Core) → times n (held r c) ≡ weight r n c
times-held vram_pages n c = spans_weigh Vram n c ∙ ap (λ m. m + summed (λ g. stands n (ghost_spans Vram g)) c.ghosts) (without_zero Vram n c.buffers)
times-held tt_pages n c = spans_weigh Tt n c ∙ ap (λ m. m + summed (λ g. stands n (ghost_spans Tt g)) c.ghosts) (without_zero Tt n c.buffers)
times-held frames n c =
    times-append n (live_frames c) (ghost_frames c)
    ∙ ap₂ ◌+◌
    (times-flat_map n (λ e. frames_of e.1) (live_buffers c) ∙ summed-live (λ x. times n (frames_of x)) 0 c.buffers)
    (times-flat_map n (λ g. g.frames) c.ghosts)
times-held slots n c =
    let live : times n (held_slots c) ≡ in_buffers slots n c.buffers = times-flat_map n (λ e. slots_of e.1) (live_buffers c) ∙ summed-live (λ x. times n (slots_of x)) 0 c.buffers in
    let none = no_ghost c.ghosts in
    omega (arith, live, none)

-- ---- one buffer changed

-- the buffer that is changed gains at most so much
pub changed_weight : (f : Buffer → Buffer) (m : Buffer → ℕ) (buffers : List (Option Buffer)) (b : BufId) (gain : ℕ) →
    ((x : Buffer) → live_in buffers b ≡ Some x → m (f x) ≤ m x + gain) → summed (weigh m) (changed f buffers b) ≤ summed (weigh m) buffers + gain
changed_weight f m buffers b gain h = by (live_in buffers b) refl (summed-set m buffers b.0 (option_map f (live_in buffers b)))
  where
    by : (o : Option Buffer) → live_in buffers b ≡ o → summed (weigh m) (slice_set buffers b.0 (option_map f (live_in buffers b))) + weigh m (live_in buffers b) ≤ summed (weigh m) buffers + weigh m (option_map f (live_in buffers b))
        → summed (weigh m) (slice_set buffers b.0 (option_map f (live_in buffers b))) ≤ summed (weigh m) buffers + gain
    by None e set =
        let old : weigh m (live_in buffers b) ≡ 0 = ap (weigh m) e in
        let new : weigh m (option_map f (live_in buffers b)) ≡ 0 = ap (λ o. weigh m (option_map f o)) e in
        omega (arith, set, old, new)
    by (Some x) e set =
        let old : weigh m (live_in buffers b) ≡ m x = ap (weigh m) e in
        let new : weigh m (option_map f (live_in buffers b)) ≡ m (f x) = ap (λ o. weigh m (option_map f o)) e in
        let more = h x e in
        omega (arith, set, old, new, more)

-- what a known buffer gives up may stand elsewhere
pub left_weight : (f : Buffer → Buffer) (m : Buffer → ℕ) (c : Core) (b : BufId) (rest : ℕ) →
    rest + m (f (buffer_in c b)) ≤ m (buffer_in c b) → m (new_buffer 0) ≡ 0 → summed (weigh m) (changed f c.buffers b) + rest ≤ summed (weigh m) c.buffers
left_weight f m c b rest h none = by (live_in c.buffers b) refl (summed-set m c.buffers b.0 (option_map f (live_in c.buffers b)))
  where
    by : (o : Option Buffer) → live_in c.buffers b ≡ o → summed (weigh m) (slice_set c.buffers b.0 (option_map f (live_in c.buffers b))) + weigh m (live_in c.buffers b) ≤ summed (weigh m) c.buffers + weigh m (option_map f (live_in c.buffers b))
        → summed (weigh m) (slice_set c.buffers b.0 (option_map f (live_in c.buffers b))) + rest ≤ summed (weigh m) c.buffers
    by None e set =
        let old : weigh m (live_in c.buffers b) ≡ 0 = ap (weigh m) e in
        let new : weigh m (option_map f (live_in c.buffers b)) ≡ 0 = ap (λ o. weigh m (option_map f o)) e in
        let is : buffer_in c b ≡ new_buffer 0 = ap (λ o. unwrap_or o (new_buffer 0)) e in
        let was : m (buffer_in c b) ≡ 0 = ap m is ∙ none in
        omega (arith, set, old, new, h, was)
    by (Some x) e set =
        let old : weigh m (live_in c.buffers b) ≡ m x = ap (weigh m) e in
        let new : weigh m (option_map f (live_in c.buffers b)) ≡ m (f x) = ap (λ o. weigh m (option_map f o)) e in
        let is : buffer_in c b ≡ x = ap (λ o. unwrap_or o (new_buffer 0)) e in
        let was : m (buffer_in c b) ≡ m x = ap m is in
        let will : m (f (buffer_in c b)) ≡ m (f x) = ap (λ y. m (f y)) is in
        omega (arith, set, old, new, h, was, will)

-- fences weigh nothing
pub fence_weighs_none : (r : Room) (n : ℕ) (job : JobId) (x : Buffer) → of_buffer r n (with_fence job usage.Kernel x) ≡ of_buffer r n x
fence_weighs_none vram_pages n job x = refl
fence_weighs_none tt_pages n job x = refl
fence_weighs_none frames n job x = refl
fence_weighs_none slots n job x = refl

pub fences_weigh_none : (r : Room) (n : ℕ) (jobs : List JobId) (x : Buffer) → of_buffer r n (with_kernel_fences jobs x) ≡ of_buffer r n x
fences_weigh_none r n [] x = refl
fences_weigh_none r n (j ∷ jobs) x = fences_weigh_none r n jobs (with_fence j usage.Kernel x) ∙ fence_weighs_none r n j x
