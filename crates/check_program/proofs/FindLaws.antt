-- What was found.
use Rattle.std.proofs.Common.{◌≡◌, ◌≤◌, inl, length, subst}
use Rattle.journal_model.specs.declared.script.Script.{Script}
use Rattle.journal_model.specs.scripts.Words.{Text}
use Rattle.journal_model.specs.reports.Verdict.{IsAccepted, IsRejected, check_limit, report_part, script_part}
use Rattle.journal_model.specs.scripts.ScriptRules.{IsScript}
use Rattle.entry_reader.specs.Rules.{number_of}
use Rattle.program_edges.specs.Edges.{Edge, WasReadWhole}
use Rattle.check_program.specs.declared.finding.Finding.{Finding}
use Rattle.check_program.specs.declared.finding.Finding.TheVariants as finding
use Rattle.check_program.specs.Finds.{Finds, FindsIn, FindsReport}

-- what is found in both parts is found in the bytes
pub found : (bytes front behind : Text) (script : Script) → front ≡ script_part bytes → behind ≡ report_part bytes → IsScript front script →
    (f : Finding) → FindsReport script behind f → FindsIn bytes f
found bytes front behind script a b spelled finding.ReadFault h = h
found bytes front behind script a b spelled (finding.BadScript n rule) h = absurd h
found bytes front behind script a b spelled finding.Accepted h =
    record { script = script; spelled = subst (λ (t : Text). IsScript t script) a spelled; accepted = subst (λ (t : Text). IsAccepted script t) b h }
found bytes front behind script a b spelled (finding.Rejected entry rule) h =
    record { script = script; spelled = subst (λ (t : Text). IsScript t script) a spelled; rejected = subst (λ (t : Text). IsRejected script t entry (number_of rule)) b h }

-- and that of the source, where the bytes are all that it had
pub found_whole : (source : Edge) (bytes : Text) → WasReadWhole source bytes → length bytes ≤ check_limit → (f : Finding) → FindsIn bytes f → Finds source f
found_whole source bytes read few finding.ReadFault h = absurd h
found_whole source bytes read few (finding.BadScript n rule) h = record { bytes = bytes; read = read; few = few; finds = h }
found_whole source bytes read few finding.Accepted h = record { bytes = bytes; read = read; few = few; finds = h }
found_whole source bytes read few (finding.Rejected entry rule) h = inl (record { bytes = bytes; read = read; few = few; finds = h })
