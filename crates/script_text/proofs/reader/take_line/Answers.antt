use Rattle.std.proofs.Common.{Option, ℕ, sym, subst}
use Rattle.script_text.specs.Steps.{IsJudged, IsKnown}
use Rattle.script_text.proofs.Clean.{clean}
use Rattle.script_text.proofs.Known.{known_on}
use Rattle.script_text.proofs.reader.take_line.Goals as goal

pub accept-requires-clause-clean : goal.accept-requires-clause-clean
accept-requires-clause-clean c =
    let judged = subst (λ (r : Option ℕ). IsJudged r c.judge.new.thread_mappings c.args.progress.now c.args.line) c.in-Ok-None.field-0-is c.in-Ok-None.ensures in
    clean c.args.progress.now c.args.line judged.0 c.requires.said

pub returns-in_ok-accept-in-Ok-None-clause-known : goal.returns-in_ok-accept-in-Ok-None-clause-known
returns-in_ok-accept-in-Ok-None-clause-known c =
    let judged = subst (λ (r : Option ℕ). IsJudged r c.judge.new.thread_mappings c.args.progress.now c.args.line) c.in-Ok-None.field-0-is c.in-Ok-None.ensures in
    subst (IsKnown c.judge.new.thread_mappings) (sym c.in_ok-accept-in-Ok-None.ensures.ok)
    (known_on c.args.known.now.thread_mappings c.judge.new.thread_mappings c.args.progress.now c.args.line
    (clean c.args.progress.now c.args.line judged.0 c.requires.said) judged.1 c.requires.known)
