-- Each entry that gives up has its cause, in every legal journal.
use Rattle.std.proofs.Common.{◌≡◌, ℕ, true, List, [], Ok, IsTrue}
use Rattle.ttm_base.specs.declared.Deny.{Deny}
use Rattle.ttm_base.specs.declared.Actor.{Actor}
use Rattle.ttm_base.specs.declared.Actor.TheVariants as actor
use Rattle.std.proofs.lemmas.Bool.{or_left, or_right}
use Rattle.journal_model.specs.declared.script.Script.{Script}
use Rattle.journal_model.specs.declared.state.State.{State}
use Rattle.journal_model.specs.declared.entry.Entry.{Entry}
use Rattle.journal_model.specs.declared.entry.Kind.{Kind}
use Rattle.journal_model.specs.declared.entry.Kind.TheVariants as kind
use Rattle.journal_model.specs.scripts.ScriptRules.{is_script}
use Rattle.journal_model.specs.rules.Next.{next}
use Rattle.journal_model.specs.rules.Apply.{applied}
use Rattle.journal_model.specs.rules.Legal.{first_state, made_of, state_of, IsLegal}
use Rattle.laws.proofs.law_state.JournalCourses.{is_of_engine, is_of_reaper, of_engine, of_reaper}
use Rattle.laws.proofs.law_state.Rules.{rules_of}
use Rattle.laws.proofs.law_sound.Along.{stepped_of, of_worker}
use Rattle.laws.proofs.law_end.Lasting.{Steady, steady_keeps, steady_first}
use Rattle.laws.proofs.law_lists.Keeps.{AreListed, listed_keeps, listed_stays}
use Rattle.laws.proofs.law_lists.Law.{carried_law}
use Rattle.journal_model.specs.statements.Causes.{have_causes}
use Rattle.laws.specs.law_causes.Refused.{LeavesNothing}
use Rattle.laws.proofs.law_causes.Refusals.{refusals_law}
use Rattle.laws.proofs.lemma_causes_trail.Framed.{AreFramed, framed_stepped, framed_worker, framed_first}
use Rattle.laws.proofs.law_causes.Swaps.{none_gives}
use Rattle.laws.proofs.law_causes.Along.{caused_law}

-- what is carried along
pub record Lasting (script : Script) (s : State) : Type 0 where
  pub steady : Steady script s
  pub listed : AreListed script s
  pub framed : AreFramed s.core.buffers

module _ (script : Script) (fits : IsTrue (is_script script)) where
  lasting_keeps : (s : State) (who : Actor) (k : Kind) → Lasting script s → next script s who ≡ Ok k → Lasting script (applied script s who k)
  lasting_keeps s (actor.Thread t) k c h =
      let st = stepped_of script s t k c.steady.sound.owned.courses h in
      record {
        steady = steady_keeps script fits s (actor.Thread t) k c.steady h;
        listed = listed_keeps script (rules_of script fits) s t c.steady.good c.steady.courses c.listed k st;
        framed = framed_stepped script s t k st c.framed;
      }
  lasting_keeps s (actor.Engine e) k c h =
      let w = of_worker k (or_left (is_of_engine k) (is_of_reaper k) (of_engine script s e k h)) in
      record {
        steady = steady_keeps script fits s (actor.Engine e) k c.steady h;
        listed = listed_stays script s (actor.Engine e) k w c.listed;
        framed = framed_worker script s (actor.Engine e) k w c.framed;
      }
  lasting_keeps s actor.Reaper k c h =
      let w = of_worker k (or_right (is_of_engine k) (is_of_reaper k) (of_reaper script s k h)) in
      record {
        steady = steady_keeps script fits s actor.Reaper k c.steady h;
        listed = listed_stays script s actor.Reaper k w c.listed;
        framed = framed_worker script s actor.Reaper k w c.framed;
      }

  lasting_first : Lasting script (first_state script)
  lasting_first = record { steady = steady_first script fits; listed = (carried_law script [] fits tt).listed; framed = framed_first script }

  pub all_caused : (journal : List Entry) → IsLegal script journal → have_causes script [] (made_of script journal) ≡ true
  all_caused journal h =
      caused_law script (Lasting script) lasting_keeps (λ s c. c.steady.sound.owned) (λ s c. none_gives script (rules_of script fits) s c.listed c.framed c.steady.carrying.targets) lasting_first journal h

  pub all_refusals : (journal : List Entry) (t : ℕ) (d : Deny) → IsLegal script journal → next script (state_of script journal) (actor.Thread t) ≡ Ok (kind.Refused d) → LeavesNothing script (made_of script journal) (state_of script journal) t d
  all_refusals journal t d h n = refusals_law script (Lasting script) lasting_keeps (λ s c. c.steady.sound.owned) lasting_first journal t d h n
