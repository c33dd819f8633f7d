-- All parts after entries on tickets and reservations.
use Rattle.std.proofs.Common.{◌≡◌, ℕ, ◌+◌, ◌^◌, ◌<◌, List, [], ◌∷◌, ◌++◌, Option, None, IsSome, refl, sym, ◌∙◌, ap, subst, arith}
use Rattle.ttm_base.specs.declared.Actor.TheVariants as actor
use Rattle.ttm_base.specs.declared.BufId.{BufId}
use Rattle.ttm_base.specs.declared.Stamp.{Stamp}
use Rattle.bo_table.specs.Seen.{Bos, with_reservation}
use Rattle.journal_model.specs.declared.script.Script.{Script}
use Rattle.journal_model.specs.declared.script.Command.{Command}
use Rattle.journal_model.specs.declared.state.State.{State}
use Rattle.journal_model.specs.declared.state.Course.{Course}
use Rattle.journal_model.specs.declared.state.Reservation.{Reservation}
use Rattle.journal_model.specs.declared.state.Task.{Task}
use Rattle.journal_model.specs.declared.entry.Entry.{Entry}
use Rattle.journal_model.specs.declared.entry.Kind.TheVariants as kind
use Rattle.journal_model.specs.rules.State.{course, reservation, reservation_in, reservation_changed}
use Rattle.journal_model.specs.rules.ApplyCommands.{with_holder, released, on_to_next}
use Rattle.journal_model.specs.rules.Legal.{IsLegalNext, state_of, stores_of, world_of}
use Rattle.ttm_base.specs.declared.Deny.{Deny}
use Rattle.laws.proofs.law_sound.Along.{Stepped, sound_law}
use Rattle.laws.proofs.law_sound.Gifts.{Gives, reserves, draws, seeks, fills}
use Rattle.laws.proofs.law_counters.Law.{counters_law}
use Rattle.room_representation.proofs.lemma_lists.KindLaws.{reservation_changed_unseen, released_unseen}
use Rattle.room_representation.specs.declared.parts.Parts.{Parts}
use Rattle.room_representation.specs.Held.{AreHeld}
use Rattle.room_representation.specs.steps.Courses.{course_at, course_in, with_course_by, stamped, with_held, begun_anew}
use Rattle.room_representation.proofs.steps.Steps.{held_still, thread_stepped, thread_there}
use Rattle.room_representation.proofs.steps.Few.{few_commands}
use Rattle.room_representation.proofs.steps.Frames.{eased_represented}

-- nothing was made
pub courses_same : (script : Script) (journal : List Entry) (p : Parts) → AreHeld script journal p → (courses : List Course) → courses ≡ p.courses → AreHeld script journal (record p { courses = courses })
courses_same script journal p held courses e = subst (λ cs. AreHeld script journal (record p { courses = cs })) (sym e) held

-- ---- a ticket is drawn

-- it is the next one
stamp_in : (script : Script) (s : State) (c : Course) (cmd : Command) (x : Task) (st : Stamp) → Gives script s c cmd x (kind.Ticket st) → st.0 ≡ s.last_stamp + 1
stamp_in script s c cmd _ _ (draws l) = refl
stamp_in script s c cmd _ st (seeks {aim = aim} k) = elim k [ ]
stamp_in script s c cmd _ st (fills k) = elim k [ ]

module _ (script : Script) (journal : List Entry) (p : Parts) (entry : Entry) (t : ℕ) (st : Stamp) (held : AreHeld script journal p) (is : entry ≡ record { who = actor.Thread t; kind = kind.Ticket st }) (legal : IsLegalNext script (world_of script journal) entry) where
  pub ticket_there : IsSome (course_at p.courses t)
  ticket_there = thread_there script journal p held t (kind.Ticket st) entry is legal refl

  pub few_drawn : p.tickets < 2 ^ 63
  few_drawn = subst (λ n. n < 2 ^ 63) (sym held.represents.stamp) (counters_law script journal held.fits held.legal).stamps

  pub ticket_held : (courses : List Course) (n : ℕ) (drawn : Stamp) → n ≡ p.tickets + 1 → drawn.0 ≡ p.tickets + 1 → courses ≡ with_course_by (stamped drawn) p.courses t →
      AreHeld script (journal ++ entry ∷ []) (record p { courses = courses; tickets = n })
  ticket_held courses n drawn d e c =
      let stepped = thread_stepped script journal p held t (kind.Ticket st) entry is legal refl in
      let next : p.tickets + 1 ≡ st.0 = ap (λ k. k + 1) held.represents.stamp ∙ sym (stamp_in script (state_of script journal) (course (state_of script journal) t) stepped.step.cmd stepped.step.task st stepped.gives) in
      let same : drawn ≡ st = ap (λ k. let x : Stamp = record { 0 = k } in x) (e ∙ next) in
      held_still script journal p (record p { courses = courses; tickets = n }) entry (record { who = actor.Thread t; kind = kind.Ticket st }) held is legal refl
      (eased_represented script (state_of script journal) (stores_of script journal) p held.represents p.bos p.lru courses n (state_of script journal).reservations (state_of script journal).lists (with_course_by (stamped st) (state_of script journal).courses t) st.0
      (ap (λ gs. record p.bos { reservations = gs }) held.represents.bos.reservations_are) held.represents.lists
      (c ∙ ap (λ x. with_course_by (stamped x) p.courses t) same ∙ ap (λ cs. with_course_by (stamped st) cs t) held.represents.courses) (d ∙ next))

-- ---- a buffer is reserved

module _ (script : Script) (journal : List Entry) (p : Parts) (entry : Entry) (t : ℕ) (b : BufId) (held : AreHeld script journal p) (is : entry ≡ record { who = actor.Thread t; kind = kind.Reserve b }) (legal : IsLegalNext script (world_of script journal) entry) where
  stepped : Stepped script (state_of script journal) t (kind.Reserve b)
  stepped = thread_stepped script journal p held t (kind.Reserve b) entry is legal refl

  pub reserve_there : IsSome (course_at p.courses t)
  reserve_there = thread_there script journal p held t (kind.Reserve b) entry is legal refl

  free_in : (c : Course) (cmd : Command) (x : Task) → Gives script (state_of script journal) c cmd x (kind.Reserve b) → (reservation (state_of script journal) b).holder ≡ None
  free_in c cmd _ (reserves l g) = g
  free_in c cmd _ (seeks {aim = aim} k) = elim k [ ]
  free_in c cmd _ (fills k) = elim k [ ]

  pub reserve_free : (reservation_in p.bos.reservations b).holder ≡ None
  reserve_free = ap (λ (gs : List Reservation). (reservation_in gs b).holder) held.represents.bos.reservations_are ∙ free_in (course (state_of script journal) t) stepped.step.cmd stepped.step.task stepped.gives

  pub reserve_held : (courses : List Course) (bos : Bos) (st : Option Stamp) → courses ≡ with_course_by (with_held b) p.courses t → st ≡ (course_in p.courses t).stamp → bos ≡ with_reservation (with_holder st) p.bos b →
      AreHeld script (journal ++ entry ∷ []) (record p { courses = courses; bos = bos })
  reserve_held courses bos st c i g =
      let stamp : st ≡ (course (state_of script journal) t).stamp = i ∙ ap (λ (cs : List Course). (course_in cs t).stamp) held.represents.courses in
      held_still script journal p (record p { courses = courses; bos = bos }) entry (record { who = actor.Thread t; kind = kind.Reserve b }) held is legal refl
      (eased_represented script (state_of script journal) (stores_of script journal) p held.represents bos p.lru courses p.tickets (reservation_changed (with_holder (course (state_of script journal) t).stamp) (state_of script journal).reservations b) (state_of script journal).lists (with_course_by (with_held b) (state_of script journal).courses t) (state_of script journal).last_stamp
      (g ∙ ap (λ (gs : List Reservation). record p.bos { reservations = reservation_changed (with_holder st) gs b }) held.represents.bos.reservations_are ∙ ap (λ o. record p.bos { reservations = reservation_changed (with_holder o) (state_of script journal).reservations b }) stamp)
      (reservation_changed_unseen script (with_holder (course (state_of script journal) t).stamp) (state_of script journal).core.buffers (state_of script journal).reservations (state_of script journal).lists p.lru b (λ x. refl) held.represents.lists)
      (c ∙ ap (λ cs. with_course_by (with_held b) cs t) held.represents.courses) held.represents.stamp)

-- ---- all that is held is let go

module _ (script : Script) (journal : List Entry) (p : Parts) (entry : Entry) (t : ℕ) (b : BufId) (st : Stamp) (held : AreHeld script journal p) (is : entry ≡ record { who = actor.Thread t; kind = kind.Backoff b st }) (legal : IsLegalNext script (world_of script journal) entry) where
  pub backoff_there : IsSome (course_at p.courses t)
  backoff_there = thread_there script journal p held t (kind.Backoff b st) entry is legal refl

  pub backoff_held : (courses : List Course) (bos : Bos) → courses ≡ with_course_by (begun_anew b) p.courses t → bos ≡ record p.bos { reservations = released p.bos.reservations (course_in p.courses t).held } →
      AreHeld script (journal ++ entry ∷ []) (record p { courses = courses; bos = bos })
  backoff_held courses bos c g =
      held_still script journal p (record p { courses = courses; bos = bos }) entry (record { who = actor.Thread t; kind = kind.Backoff b st }) held is legal refl
      (eased_represented script (state_of script journal) (stores_of script journal) p held.represents bos p.lru courses p.tickets (released (state_of script journal).reservations (course (state_of script journal) t).held) (state_of script journal).lists (with_course_by (begun_anew b) (state_of script journal).courses t) (state_of script journal).last_stamp
      (g ∙ ap (λ (gs : List Reservation). record p.bos { reservations = released gs (course_in p.courses t).held }) held.represents.bos.reservations_are ∙ ap (λ (cs : List Course). record p.bos { reservations = released (state_of script journal).reservations (course_in cs t).held }) held.represents.courses)
      (released_unseen script (state_of script journal).core.buffers (state_of script journal).reservations (state_of script journal).lists p.lru (course (state_of script journal) t).held held.represents.lists)
      (c ∙ ap (λ cs. with_course_by (begun_anew b) cs t) held.represents.courses) held.represents.stamp)

-- ---- a command is refused

module _ (script : Script) (journal : List Entry) (p : Parts) (entry : Entry) (t : ℕ) (d : Deny) (held : AreHeld script journal p) (is : entry ≡ record { who = actor.Thread t; kind = kind.Refused d }) (legal : IsLegalNext script (world_of script journal) entry) where
  pub refuse_there : IsSome (course_at p.courses t)
  refuse_there = thread_there script journal p held t (kind.Refused d) entry is legal refl

  -- its commands can be counted
  pub refuse_room : (course_in p.courses t).answered + 1 < 2 ^ 32
  refuse_room =
      let few = few_commands script held.fits t in
      let inside = ((sound_law script journal held.fits held.legal).owned.steady t).answered in
      let same = ap (λ (cs : List Course). (course_in cs t).answered) held.represents.courses in
      omega (arith, few, inside, same)

  pub refuse_held : (courses : List Course) (bos : Bos) → courses ≡ with_course_by on_to_next p.courses t → bos ≡ record p.bos { reservations = released p.bos.reservations (course_in p.courses t).held } →
      AreHeld script (journal ++ entry ∷ []) (record p { courses = courses; bos = bos })
  refuse_held courses bos c g =
      held_still script journal p (record p { courses = courses; bos = bos }) entry (record { who = actor.Thread t; kind = kind.Refused d }) held is legal refl
      (eased_represented script (state_of script journal) (stores_of script journal) p held.represents bos p.lru courses p.tickets (released (state_of script journal).reservations (course (state_of script journal) t).held) (state_of script journal).lists (with_course_by on_to_next (state_of script journal).courses t) (state_of script journal).last_stamp
      (g ∙ ap (λ (gs : List Reservation). record p.bos { reservations = released gs (course_in p.courses t).held }) held.represents.bos.reservations_are ∙ ap (λ (cs : List Course). record p.bos { reservations = released (state_of script journal).reservations (course_in cs t).held }) held.represents.courses)
      (released_unseen script (state_of script journal).core.buffers (state_of script journal).reservations (state_of script journal).lists p.lru (course (state_of script journal) t).held held.represents.lists)
      (c ∙ ap (λ cs. with_course_by on_to_next cs t) held.represents.courses) held.represents.stamp)
