-- All parts after a bulk move.
use Rattle.std.proofs.Common.{◌≡◌, ℕ, ◌<◌, true, List, [], ◌∷◌, ◌++◌, IsSome, refl, sym, ◌∙◌, ap, subst, arith}
use Rattle.std.specs.Prelude.{map, nat_le}
use Rattle.std.proofs.lemmas.Bool.Decides.{nat_tests}
use Rattle.ttm_base.specs.declared.Actor.TheVariants as actor
use Rattle.lru_bulk.specs.Lists.{Order, bulk_moved}
use Rattle.lru_bulk.specs.Members.{AreMembersListed}
use Rattle.journal_model.specs.declared.script.Script.{Script}
use Rattle.journal_model.specs.declared.script.Command.{Command}
use Rattle.journal_model.specs.declared.state.State.{State}
use Rattle.journal_model.specs.declared.state.Course.{Course}
use Rattle.journal_model.specs.declared.state.Task.{Task}
use Rattle.journal_model.specs.declared.entry.Entry.{Entry}
use Rattle.journal_model.specs.declared.entry.Kind.TheVariants as kind
use Rattle.journal_model.specs.rules.State.{course}
use Rattle.journal_model.specs.rules.ApplyCommands.{has_made}
use Rattle.journal_model.specs.scripts.CommandRules.{is_command}
use Rattle.journal_model.specs.rules.Lists as state
use Rattle.journal_model.specs.rules.Legal.{IsLegalNext, state_of, stores_of, world_of}
use Rattle.laws.proofs.law_state.Rules.{rules_of, at_work_rules}
use Rattle.laws.proofs.law_sound.Along.{Stepped}
use Rattle.laws.proofs.law_sound.Gifts.{Gives, shifts, seeks, fills}
use Rattle.room_representation.specs.lemma_lists.Listed.{AreListed}
use Rattle.room_representation.proofs.lemma_lists.KindLaws.{bulk_lists}
use Rattle.room_representation.specs.declared.parts.Parts.{Parts}
use Rattle.room_representation.specs.Held.{AreHeld}
use Rattle.room_representation.specs.steps.Courses.{course_at, with_course_by}
use Rattle.room_representation.proofs.steps.Steps.{held_still, thread_stepped, thread_there}
use Rattle.room_representation.proofs.steps.Frames.{eased_represented}

below_sixteen : (group : ℕ) → nat_le group 15 ≡ true → group < 16
below_sixteen group h = grind (arith, nat_tests)

module _ (script : Script) (journal : List Entry) (p : Parts) (entry : Entry) (t group : ℕ) (held : AreHeld script journal p) (is : entry ≡ record { who = actor.Thread t; kind = kind.Bulk group }) (legal : IsLegalNext script (world_of script journal) entry) where
  abbrev s : State
  s = state_of script journal

  stepped : Stepped script s t (kind.Bulk group)
  stepped = thread_stepped script journal p held t (kind.Bulk group) entry is legal refl

  pub bulk_there : IsSome (course_at p.courses t)
  bulk_there = thread_there script journal p held t (kind.Bulk group) entry is legal refl

  group_in : (c : Course) (cmd : Command) (x : Task) → is_command script cmd ≡ true → Gives script s c cmd x (kind.Bulk group) → nat_le group 15 ≡ true
  group_in c cmd _ h (shifts e) = ap (is_command script) (sym e) ∙ h
  group_in c cmd _ h (seeks {aim = aim} k) = elim k [ ]
  group_in c cmd _ h (fills k) = elim k [ ]

  -- the group is one of those that the LRU knows
  pub bulk_known : group < p.lru.groups
  bulk_known =
      let step = stepped.step in
      let fits = (at_work_rules script (rules_of script held.fits) s t step.cmd step.at_work).command in
      subst (λ n. group < n) (sym held.represents.lists.groups_are) (below_sixteen group (group_in (course s t) step.cmd step.task fits stepped.gives))

  pub bulk_held : (courses : List Course) (o : Order) → courses ≡ with_course_by has_made p.courses t → o ≡ bulk_moved p.lru group → AreMembersListed p.lru →
      AreHeld script (journal ++ entry ∷ []) (record p { lru = o; courses = courses })
  bulk_held courses o c l members =
      held_still script journal p (record p { lru = o; courses = courses }) entry (record { who = actor.Thread t; kind = kind.Bulk group }) held is legal refl
      (eased_represented script s (stores_of script journal) p held.represents p.bos o courses p.tickets s.reservations (map (state.members_last (state.is_member script group)) s.lists) (with_course_by has_made s.courses t) s.last_stamp
      (ap (λ gs. record p.bos { reservations = gs }) held.represents.bos.reservations_are)
      (subst (λ x. AreListed script s.core.buffers s.reservations (map (state.members_last (state.is_member script group)) s.lists) x) (sym l) (bulk_lists script s p.lru (record { 0 = 0 }) held.represents.lists members t group))
      (c ∙ ap (λ cs. with_course_by has_made cs t) held.represents.courses) held.represents.stamp)
