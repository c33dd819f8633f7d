-- The laws of legal journals, together.
use Rattle.std.proofs.Common.{◌≡◌, ℕ, false, List, Some, Ok, refl}
use Rattle.std.specs.Prelude.{IsTrue, slice_get, take}
use Rattle.ttm_base.specs.declared.Actor.TheVariants as actor
use Rattle.journal_model.specs.declared.script.Script.{Script}
use Rattle.journal_model.specs.declared.entry.Entry.{Entry}
use Rattle.journal_model.specs.declared.entry.Kind.{Kind}
use Rattle.journal_model.specs.declared.entry.Kind.TheVariants as kind
use Rattle.journal_model.specs.scripts.ScriptRules.{is_script}
use Rattle.journal_model.specs.rules.Next.{next}
use Rattle.journal_model.specs.rules.Legal.{IsLegal, first_world, world_along, state_of}
use Rattle.laws.proofs.law_state.Shown.{shows, legal_plain}
use Rattle.laws.proofs.law_owners.Fronts.{legal_front, throughout_law}
use Rattle.laws.proofs.law_end.Ends.{journals_end}
use Rattle.laws.proofs.law_lists.Caught.{victims_law}
use Rattle.laws.proofs.law_answers.InOrder.{legal_at, in_order}
use Rattle.laws.proofs.law_causes.Law.{all_caused, all_refusals}
use Rattle.laws.proofs.law_causes.Reasons.{dry_explained}
use Rattle.laws.proofs.law_transparent.Law.{transparent_given}
use Rattle.laws.proofs.law_transparent.Ways.{have_ways}
use Rattle.law_legal.proofs.law_readable.Law.{readable_law, texts_differ}
use Rattle.law_legal.proofs.law_maps.Right.{maps_right}
use Rattle.law_legal.proofs.law_addresses.Jobs.{jobs_mean}
use Rattle.law_legal.specs.KeepsLaws.{KeepsLaws, DryPlacesAreExplained, RefusalsLeaveNothing}

module _ (script : Script) (journal : List Entry) (fits : IsTrue (is_script script)) (h : IsLegal script journal) where
  -- the step of an entry of a thread that shows nothing
  step_at : (i t : ℕ) (k : Kind) → slice_get journal i ≡ Some (record { who = actor.Thread t; kind = k }) → shows k ≡ false → next script (state_of script (take i journal)) (actor.Thread t) ≡ Ok k
  step_at i t k at plain =
      let e : Entry = record { who = actor.Thread t; kind = k } in
      legal_plain script (world_along script (first_world script) (take i journal)) e (legal_at script (first_world script) journal i e h at) plain

  dries : DryPlacesAreExplained script journal
  dries i t b k w at = dry_explained script (state_of script (take i journal)) t b k w (step_at i t (kind.Dry b k w) at refl)

  refusals : RefusalsLeaveNothing script journal
  refusals i t d at = all_refusals script fits (take i journal) t d (legal_front script journal i h) (step_at i t (kind.Refused d) at refl)

  pub keeps_laws : KeepsLaws script journal
  keeps_laws =
      record {
        transparent = transparent_given script fits (have_ways script fits) journal h;
        accounts = throughout_law script journal fits h;
        causes = all_caused script fits journal h;
        dry = dries;
        victims = victims_law script journal h;
        answers = in_order script journal h fits;
        refused = refusals;
        short = journals_end script fits journal h;
        readable = readable_law script journal fits h;
        own_report = λ other legal same. texts_differ script journal other fits h legal same;
        maps = maps_right script journal fits h;
        addresses = jobs_mean script fits;
      }
