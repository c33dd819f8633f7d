-- What holds of each legal journal of a script.
use Rattle.std.specs.Prelude.{◌≡◌, ℕ, ◌<◌, List, Some, IsTrue, length, slice_get, take}
use Rattle.std.specs.List.{list_all}
use Rattle.ttm_base.specs.declared.BufId.{BufId}
use Rattle.ttm_base.specs.declared.Deny.{Deny}
use Rattle.ttm_base.specs.declared.Actor.TheVariants as actor
use Rattle.journal_model.specs.declared.script.Script.{Script}
use Rattle.journal_model.specs.declared.entry.Entry.{Entry}
use Rattle.journal_model.specs.declared.entry.DryWhy.{DryWhy}
use Rattle.journal_model.specs.declared.entry.Kind.TheVariants as kind
use Rattle.journal_model.specs.rules.Legal.{IsLegal, made_of, state_of}
use Rattle.journal_model.specs.statements.Scheduled.{turn_limit}
use Rattle.journal_model.specs.scripts.Readable.{is_readable}
use Rattle.journal_model.specs.reports.ReportText.{report}
use Rattle.journal_model.specs.statements.Laws.{HasCauses}
use Rattle.journal_model.specs.statements.MarkLaws.{MapsAreRight}
use Rattle.journal_model.specs.rules.Transparent.{IsTransparent}
use Rattle.laws.specs.law_owners.Throughout.{HoldThroughout}
use Rattle.laws.specs.law_lists.NamedVictims.{NamesVictims}
use Rattle.laws.specs.law_answers.InOrder.{AreInOrder}
use Rattle.laws.specs.law_causes.Explains.{Explains}
use Rattle.laws.specs.law_causes.Refused.{LeavesNothing}
use Rattle.law_legal.specs.law_addresses.Addressed.{JobsMeanAddresses}

-- each dry entry says `short`, or names each live buffer in the place's manager with its first cause
abbrev pub DryPlacesAreExplained : Script → List Entry → Type 0
DryPlacesAreExplained script journal =
    (i t : ℕ) (b : BufId) (k : ℕ) (w : DryWhy) → slice_get journal i ≡ Some (record { who = actor.Thread t; kind = kind.Dry b k w }) →
    Explains script (state_of script (take i journal)) t b k w

-- each refused command has changed no byte of the plain memory, and ends with nothing held
abbrev pub RefusalsLeaveNothing : Script → List Entry → Type 0
RefusalsLeaveNothing script journal =
    (i t : ℕ) (d : Deny) → slice_get journal i ≡ Some (record { who = actor.Thread t; kind = kind.Refused d }) →
    LeavesNothing script (made_of script (take i journal)) (state_of script (take i journal)) t d

-- no other legal journal has the report of this one
abbrev pub HasItsOwnReport : Script → List Entry → Type 0
HasItsOwnReport script journal = (other : List Entry) → IsLegal script other → report script journal ≡ report script other → journal ≡ other

-- Reads and probes show the bytes of the memory where each buffer has its own place for good. After each entry no page, frame or slot is
-- held twice, and live, target, ghost and free ones make each size. Dry places, refusals for lack of room or frames, and backoffs have
-- their causes, and a dry entry names them. Each victim is the first of its lists that can be evicted. Commands are answered once and in
-- order, and a refused one leaves nothing. The journal is shorter than the limit of turns. Its entries' values are of their types, and no
-- other legal journal has its report.
pub record KeepsLaws (script : Script) (journal : List Entry) : Type 0 where
  pub transparent : IsTransparent script journal
  pub accounts : HoldThroughout script journal
  pub causes : HasCauses script journal
  pub dry : DryPlacesAreExplained script journal
  pub victims : NamesVictims script journal
  pub answers : AreInOrder script journal
  pub refused : RefusalsLeaveNothing script journal
  pub short : length journal < turn_limit script
  pub readable : IsTrue (list_all (is_readable script) journal)
  pub own_report : HasItsOwnReport script journal
  pub maps : MapsAreRight script journal
  pub addresses : JobsMeanAddresses script
