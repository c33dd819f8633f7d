-- The head of a ring is the state's, and so are what is left of it and what it shows next.
use Rattle.std.proofs.Common.{◌≡◌, ℕ, zero, suc, ◌≤◌, Bool, true, false, List, [], ◌∷◌, Option, Some, None, length, refl, sym, ◌∙◌, ap, arith}
use Rattle.std.specs.Prelude.{◌==◌, ◌&&◌, not, drop, nat_lt, is_some, option_and_then, option_map, slice_get, unwrap_or, if◌then◌else◌}
use Rattle.std.proofs.lemmas.Bool.Decides.{nat_tests}
use Rattle.ttm_base.specs.declared.JobId.{JobId}
use Rattle.ttm_base.specs.declared.Packet.{Packet}
use Rattle.ttm_base.specs.Packets.{probe_piece}
use Rattle.copy_packet.specs.Runs.{CanRun}
use Rattle.copy_engine.specs.Packets.{shown_by}
use Rattle.copy_engine.specs.Pushes as pushes
use Rattle.copy_engine.specs.Pushes.{Pushed, next_of, packet_of, ring_of, wait_of}
use Rattle.journal_model.specs.declared.script.Script.{Script}
use Rattle.journal_model.specs.declared.entry.Entry.{Entry}
use Rattle.journal_model.specs.declared.state.Job.{Job}
use Rattle.journal_model.specs.rules.Next.{head_of}
use Rattle.journal_model.specs.rules.Places.{aperture}
use Rattle.journal_model.specs.rules.Stores.{job_packet, no_packet}
use Rattle.journal_model.specs.rules.Waits.{waited_for}
use Rattle.journal_model.specs.rules.Legal.{state_of, stores_of, world_of}
use Rattle.laws.specs.law_jobs.JobLines.{unfinished_of}
use Rattle.laws.proofs.law_transparent.PacketPlacesLaw.{places_law}
use Rattle.room_representation.specs.declared.parts.Parts.{Parts}
use Rattle.room_representation.specs.RingJobs.{IsRing}
use Rattle.room_representation.specs.Held.{AreHeld}
use Rattle.room_representation.proofs.lemma_jobs.Lists.{filtered_at, find_is}
use Rattle.room_representation.proofs.lemma_jobs.Needs.{head_waits}
use Rattle.room_representation.proofs.lemma_jobs.Heads.{IsHead}
use Rattle.room_representation.proofs.lemma_jobs.Packets.{can_run, shows_same}
use Rattle.room_representation.proofs.lemma_jobs.Rows.{head_named}
use Rattle.room_queries.specs.Heads.{number_left, piece_left, head_piece}
use Rattle.room_queries.proofs.Known.{rows, context_known}

-- the jobs of a context that aren't done
abbrev is_left_of : ℕ → Job → Bool
is_left_of ctx j = (j.id.ctx == ctx) && not j.finished

-- what is first after some items is the next one
get_drop : {X : Type 0} (xs : List X) (n : ℕ) → slice_get (drop n xs) 0 ≡ slice_get xs n
get_drop xs zero = refl
get_drop [] (suc n) = refl
get_drop (x ∷ xs) (suc n) = get_drop xs n

-- what is at a place of a list, by whether the place is there
by_length : {X : Type 0} (xs : List X) (i : ℕ) → (x : X) → slice_get xs i ≡ Some x → nat_lt i (length xs) ≡ true
by_length [] i x e = cc
by_length (y ∷ xs) zero x e = grind (arith, nat_tests)
by_length (y ∷ xs) (suc i) x e = let r = by_length xs i x e in grind (arith, nat_tests, r)

-- nor is it there where nothing is
past_length : {X : Type 0} (xs : List X) (i : ℕ) → slice_get xs i ≡ None → nat_lt i (length xs) ≡ false
past_length [] i e = grind (arith, nat_tests)
past_length (y ∷ xs) zero e = cc
past_length (y ∷ xs) (suc i) e = let r = past_length xs i e in grind (arith, nat_tests, r)

-- both have a head, or neither
data AreFronts (jobs : Option Job) (ring : Option Pushed) : Type 0 where
  neither : jobs ≡ None → ring ≡ None → AreFronts jobs ring
  both : (j : Job) (q : Pushed) → jobs ≡ Some j → ring ≡ Some q → q.job ≡ j.id → q.packets ≡ j.packets → q.ran ≡ j.ran → AreFronts jobs ring

module _ (script : Script) (journal : List Entry) (p : Parts) (held : AreHeld script journal p) (ctx : ℕ) (known : ctx ≤ script.sizes.engines) where
  -- the first job of the context that is left
  abbrev first_left : Option Job
  first_left = slice_get (unfinished_of ctx (state_of script journal).core.jobs) 0

  -- is its head
  head_left : head_of (state_of script journal) ctx ≡ first_left
  head_left = find_is (is_left_of ctx) (state_of script journal).core.jobs

  -- the state's head and the ring's
  fronts : AreFronts (head_of (state_of script journal) ctx) (pushes.head_of p.rings ctx)
  fronts = by (unfinished_of ctx (state_of script journal).core.jobs) (ring_of p.rings ctx) head_left refl (held.represents.rings.each ctx (context_known script journal p held ctx known))
    where
      by : (js : List Job) (ps : List Pushed) → head_of (state_of script journal) ctx ≡ slice_get js 0 → pushes.head_of p.rings ctx ≡ slice_get ps 0 →
          IsRing (state_of script journal).core.jobs (state_of script journal).last_jobs js ps → AreFronts (head_of (state_of script journal) ctx) (pushes.head_of p.rings ctx)
      by [] [] a b r = neither a b
      by [] (q ∷ ps) a b r = absurd r
      by (j ∷ js) [] a b r = absurd r
      by (j ∷ js) (q ∷ ps) a b r = both j q a b r.0.job r.0.packets r.0.ran

  -- the job at the head
  pub front_job : option_map (λ (q : Pushed). q.job) (pushes.head_of p.rings ctx) ≡ option_map (λ (j : Job). j.id) (head_of (state_of script journal) ctx)
  front_job = elim fronts [
    | neither a b ↦ ap (option_map (λ (q : Pushed). q.job)) b ∙ sym (ap (option_map (λ (j : Job). j.id)) a)
    | both j q a b job packets ran ↦ ap (option_map (λ (q : Pushed). q.job)) b ∙ ap Some job ∙ sym (ap (option_map (λ (j : Job). j.id)) a)
  ]

  -- what it waits for
  pub front_waits : option_and_then (wait_of p.timeline) (pushes.head_of p.rings ctx) ≡ option_and_then (λ (j : Job). waited_for (state_of script journal).core j.waits) (head_of (state_of script journal) ctx)
  front_waits =
      head_waits (state_of script journal).core.jobs (state_of script journal).last_jobs p.timeline (rows script journal p held) held.represents.timeline p.rings held.represents.rings ctx (context_known script journal p held ctx known)

  -- where it is none, the state's has none
  pub none_left : option_map (λ (q : Pushed). q.job) (pushes.head_of p.rings ctx) ≡ None → head_of (state_of script journal) ctx ≡ None
  none_left e = elim fronts [ neither a b ↦ a | both j q a b job packets ran ↦ (let x : Some q.job ≡ None = sym (ap (option_map (λ (y : Pushed). y.job)) b) ∙ e in cc) ]

  -- which is so where a test says so
  pub no_head : (o : Option JobId) (t : Bool) → o ≡ option_map (λ (q : Pushed). q.job) (pushes.head_of p.rings ctx) → is_some o ≡ not t → t ≡ true → head_of (state_of script journal) ctx ≡ None
  no_head None t e h u = none_left (sym e)
  no_head (Some i) t e h u = let z : true ≡ false = h ∙ ap not u in cc

  -- then nothing is waited for
  pub no_wait : head_of (state_of script journal) ctx ≡ None → ◌≡◌ {A = Option JobId} None (option_and_then (λ (j : Job). waited_for (state_of script journal).core j.waits) (head_of (state_of script journal) ctx))
  no_wait e = sym (ap (option_and_then (λ (j : Job). waited_for (state_of script journal).core j.waits)) e)

  -- the number of its next packet
  pub front_number : (k : Packet) (n : ℕ) → next_of p.rings ctx ≡ Some k → option_map (λ (q : Pushed). q.ran) (pushes.head_of p.rings ctx) ≡ Some n → Some n ≡ number_left (head_of (state_of script journal) ctx)
  front_number k n some e = elim fronts [
    | neither a b ↦ (let x : None ≡ Some n = sym (ap (option_map (λ (y : Pushed). y.ran)) b) ∙ e in cc)
    | both j q a b job packets ran ↦
        (let next : slice_get j.packets j.ran ≡ Some k = sym (ap (option_and_then packet_of) b ∙ ap (λ ps. slice_get ps q.ran) packets ∙ ap (slice_get j.packets) ran) ∙ some in
        sym e ∙ ap (option_map (λ (y : Pushed). y.ran)) b ∙ ap Some ran ∙ sym (ap (λ t. if t then Some j.ran else None) (by_length j.packets j.ran k next)) ∙ ap number_left (sym a))
  ]

  -- where none is left
  pub no_number : next_of p.rings ctx ≡ None → None ≡ number_left (head_of (state_of script journal) ctx)
  no_number e = elim fronts [
    | neither a b ↦ ap number_left (sym a)
    | both j q a b job packets ran ↦
        (let next : slice_get j.packets j.ran ≡ None = sym (ap (option_and_then packet_of) b ∙ ap (λ ps. slice_get ps q.ran) packets ∙ ap (slice_get j.packets) ran) ∙ e in
        sym (ap (λ t. if t then Some j.ran else None) (past_length j.packets j.ran next)) ∙ ap number_left (sym a))
  ]

  -- ---- what it shows

  -- no byte where there is no job
  pub no_piece : head_of (state_of script journal) ctx ≡ None → [] ≡ head_piece (world_of script journal) ctx
  no_piece e = ap (piece_left (world_of script journal) ctx) (sym e)

  module _ (j : Job) (at_head : head_of (state_of script journal) ctx ≡ Some j) where
    -- it stands first
    head_is : IsHead (state_of script journal).core.jobs ctx j.id.num j
    head_is = record { first = sym head_left ∙ at_head; num = refl }

    -- its packet by name
    named : job_packet (state_of script journal).core (record { ctx = ctx; num = j.id.num }) j.ran ≡ unwrap_or (slice_get j.packets j.ran) no_packet
    named =
        ap (λ o. unwrap_or (option_and_then (λ (x : Job). slice_get x.packets j.ran) o) no_packet)
        (head_named (state_of script journal).last_jobs (state_of script journal).core.jobs (rows script journal p held) ctx j.id.num j head_is)

    -- what is shown, by the packet that is next
    piece : (o : Option Packet) → slice_get j.packets j.ran ≡ o → head_piece (world_of script journal) ctx ≡ probe_piece (aperture (state_of script journal).core) (stores_of script journal) (unwrap_or o no_packet)
    piece o e =
        ap (piece_left (world_of script journal) ctx) at_head
        ∙ ap (probe_piece (aperture (state_of script journal).core) (stores_of script journal)) (named ∙ ap (λ x. unwrap_or x no_packet) e)

    -- its packets can run, as packets name what is there after each legal journal
    runs : (k : Packet) → slice_get j.packets j.ran ≡ Some k → CanRun p.stores k
    runs k e =
        let at = filtered_at (is_left_of ctx) (state_of script journal).core.jobs j head_is.first in
        can_run script (state_of script journal).core (stores_of script journal) p.stores held.represents.stores held.represents.no_more k
        (places_law script journal held.fits held.legal at.0 0 j k at.1 (get_drop j.packets j.ran ∙ e))

  -- no byte where no packet is left
  pub no_more_piece : next_of p.rings ctx ≡ None → [] ≡ head_piece (world_of script journal) ctx
  no_more_piece e = elim fronts [
    | neither a b ↦ no_piece a
    | both j q a b job packets ran ↦
        sym (piece j a None (sym (ap (option_and_then packet_of) b ∙ ap (λ ps. slice_get ps q.ran) packets ∙ ap (slice_get j.packets) ran) ∙ e))
  ]

  -- the next packet can run
  pub front_runs : (k : Packet) → next_of p.rings ctx ≡ Some k → CanRun p.stores k
  front_runs k e = elim fronts [
    | neither a b ↦ (let x : None ≡ Some k = sym (ap (option_and_then packet_of) b) ∙ e in cc)
    | both j q a b job packets ran ↦ runs j a k (sym (ap (option_and_then packet_of) b ∙ ap (λ ps. slice_get ps q.ran) packets ∙ ap (slice_get j.packets) ran) ∙ e)
  ]

  -- and shows what its entry shows
  pub front_shows : (k : Packet) → next_of p.rings ctx ≡ Some k → shown_by k p.stores ≡ head_piece (world_of script journal) ctx
  front_shows k e = elim fronts [
    | neither a b ↦ (let x : None ≡ Some k = sym (ap (option_and_then packet_of) b) ∙ e in cc)
    | both j q a b job packets ran ↦
        shows_same script (state_of script journal).core (stores_of script journal) p.stores held.represents.stores held.represents.no_more k
        ∙ sym (piece j a (Some k) (sym (ap (option_and_then packet_of) b ∙ ap (λ ps. slice_get ps q.ran) packets ∙ ap (slice_get j.packets) ran) ∙ e))
  ]
