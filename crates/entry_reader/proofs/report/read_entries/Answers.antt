use Rattle.std.proofs.Common.{◌≡◌, ◌+◌, ◌<◌, [], ◌∷◌, Option, ap, refl, sym, subst, length, arith, length-append}
use Rattle.journal_model.specs.declared.entry.Entry.{Entry}
use Rattle.journal_model.specs.reports.Verdict.{IsEntryText}
use Rattle.entry_reader.specs.Read.{IsRead}
use Rattle.entry_reader.proofs.ReportSteps.{entry_found, entry_missing, line_fits, no_entries, whole_here}
use Rattle.entry_reader.proofs.report.read_entries.Goals as goal

pub loop-n-init : goal.loop-n-init
loop-n-init c = record {
  few = ap length c.new-entries.ensures;
  within = c.requires.head.within;
  read = rw c.new-entries.ensures (no_entries c.args.script.now c.args.text.now c.args.head.count c.args.head.len c.requires.head);
}

pub loop-n-preserved : goal.loop-n-preserved
loop-n-preserved c =
    let script = c.args.script.now in
    let text = c.args.text.now in
    let line = c.first_line_of-line.result.now in
    let after = c.behind-after.result.now in
    let entries = c.loop-n.entries in
    let entry = c.in-Some.entry in
    let inv = c.loop-n.invariant in
    let told = subst (λ (o : Option Entry). IsRead script (c.loop-n.n + 1) line o) c.in-Some.is c.in_ok-entry.ensures in
    let numbered : IsEntryText script (length entries + 1) line entry = subst (λ m. IsEntryText script (m + 1) line entry) (sym inv.few) told in
    let step = entry_found script text after line c.args.head.count c.loop-n.rest (length line) entries entry c.behind-after.ensures refl c.first_line_of-line.ensures inv.read numbered in
    let longer = length-append entries (entry ∷ []) in
    record {
      few = omega (arith, ap length c.in_ok-push-in-Some.ensures.ok, longer, inv.few);
      within = line_fits text after line c.loop-n.rest (length line) inv.within c.behind-after.ensures refl c.first_line_of-line.ensures;
      read = rw c.in_ok-push-in-Some.ensures.ok step;
    }

pub returns-in-None : goal.returns-in-None
returns-in-None c =
    let script = c.args.script.now in
    let line = c.first_line_of-line.result.now in
    let entries = c.loop-n.entries in
    let inv = c.loop-n.invariant in
    let none = subst (λ (o : Option Entry). IsRead script (c.loop-n.n + 1) line o) c.in-None.is c.in_ok-entry.ensures in
    let few = inv.few in
    let less : length entries < c.args.head.count = omega (arith, few) in
    record {
      within = inv.within;
      read = (
        entry_missing script c.args.text.now c.behind-after.result.now line c.args.head.count c.loop-n.rest entries c.behind-after.ensures c.first_line_of-line.ensures less inv.read
            (λ e k. none e (subst (λ m. IsEntryText script (m + 1) line e) few k)),
        ap (λ m. m + 1) (sym few),
      );
    }

pub returns : goal.returns
returns c =
    let inv = c.loop-n.invariant in
    let few = inv.few in
    let all : length c.loop-n.entries ≡ c.args.head.count = omega (arith, few) in
    record {
      within = inv.within;
      read = whole_here c.args.script.now c.args.text.now c.args.head.count c.loop-n.rest c.loop-n.entries all inv.read;
    }
