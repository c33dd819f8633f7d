-- The text that is due for an outcome, and its status.
use Rattle.std.specs.Prelude.{ℕ, [], ◌∷◌, ◌++◌, codes, decimal, if◌then◌else◌}
use Rattle.journal_model.specs.scripts.Words.{Text, line}
use Rattle.journal_model.specs.statements.Complete.{is_complete}
use Rattle.journal_model.specs.reports.ReportText.{report}
use Rattle.sim_drive.specs.Ends.{Kept}
use Rattle.program_edges.specs.declared.status.Status.{Status}
use Rattle.program_edges.specs.declared.status.Status.TheVariants as status
use Rattle.program_edges.specs.Texts.{bad_script_text}
use Rattle.check_program.specs.Finds as finds
use Rattle.simulator.specs.declared.outcome.Outcome.{Outcome}
use Rattle.simulator.specs.declared.outcome.Outcome.TheVariants as outcome

-- the status of a device that has run
abbrev pub status_of_run : Kept → Status
status_of_run k = if is_complete k.script k.journal then status.Done else status.Unfinished

-- the status of the outcome, if its text is written
abbrev pub status_of : Outcome → Status
status_of outcome.Usage = status.Usage
status_of outcome.Help = status.Done
status_of outcome.Version = status.Done
status_of outcome.ReadFault = status.ReadFault
status_of (outcome.BadScript n rule) = status.BadScript
status_of (outcome.Ran k turns) = status_of_run k
status_of (outcome.Judged f) = finds.status_of f

-- the text of --help
abbrev pub help_text : Text
help_text =
    line (codes "Runs a script of a graphics memory manager (TTM), and reports each step." ∷ [])
    ++ line (codes "" ∷ [])
    ++ line (codes "ttm sim              reads a script from standard input, and writes its report:" ∷ [])
    ++ line (codes "                     ttm sim < examples/one_page_eviction.ttm" ∷ [])
    ++ line (codes "ttm sim --turns N    the same, in at most N turns: ttm sim --turns 100 < examples/one_page_eviction.ttm" ∷ [])
    ++ line (codes "ttm run              runs the script on threads, one for each actor: ttm run < examples/eviction_to_tt.ttm" ∷ [])
    ++ line (codes "ttm gen N            runs a script drawn from the number N on threads, and counts what came of it: ttm gen 1" ∷ [])
    ++ line (codes "ttm check            reads a script and a report behind it, and tells whether the report is right:" ∷ [])
    ++ line (codes "                     cat examples/one_page_eviction.ttm examples/one_page_eviction.report | ttm check" ∷ [])
    ++ line (codes "ttm --help           this text" ∷ [])
    ++ line (codes "ttm --version        the version" ∷ [])
    ++ line (codes "" ∷ [])
    ++ line (codes "The exit status is 0 (done), 2 (unknown words), 3 (the input is no script), 4 (a read failed)," ∷ [])
    ++ line (codes "5 (a write failed), 6 (no memory), 7 (not over after N turns) or 8 (the report isn't right)." ∷ [])
    ++ line (codes "Scripts and reports are described in docs/SPECIFICATION.md." ∷ [])

-- the text of a run: the report, after a line that names the turns where it isn't complete
abbrev pub run_text : Kept → ℕ → Text
run_text k turns =
    if is_complete k.script k.journal then report k.script k.journal
    else line (codes "unfinished" ∷ decimal turns ∷ []) ++ report k.script k.journal

-- the text of an outcome
abbrev pub text_of : Outcome → Text
text_of outcome.Usage = line (codes "usage" ∷ [])
text_of outcome.Help = help_text
text_of outcome.Version = line (codes "ttm 0.1.0" ∷ [])
text_of outcome.ReadFault = line (codes "read fault" ∷ [])
text_of (outcome.BadScript n rule) = bad_script_text n rule
text_of (outcome.Ran k turns) = run_text k turns
text_of (outcome.Judged f) = finds.text_of f
