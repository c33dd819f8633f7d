-- A victim's dry place is one of TT.
use Rattle.std.proofs.Common.{◌≡◌, true, false, [], ◌∷◌, refl}
use Rattle.std.specs.Prelude.{codes, filter_map, Option, Some, None}
use Rattle.ttm_base.specs.declared.Mem.TheVariants.{Tt, Vram}
use Rattle.ttm_base.specs.declared.BufId.{BufId}
use Rattle.journal_model.specs.declared.script.Script.{Script}
use Rattle.journal_model.specs.declared.script.Command.TheVariants as command
use Rattle.journal_model.specs.declared.entry.Kind.{Kind}
use Rattle.journal_model.specs.declared.entry.Kind.TheVariants as kind
use Rattle.journal_model.specs.rules.Commands.{whole}
use Rattle.journal_model.specs.rules.Legal.{made_of}
use Rattle.journal_model.specs.statements.Complete.{is_complete}
use Rattle.journal_model.specs.scripts.ScriptRules.{is_script}
use Rattle.journal_model.specs.statements.Scheduled.{scheduled}
use Rattle.journal_model.specs.statements.Causes.{have_causes}
use Rattle.journal_model.proofs.Rows.{sizes, buf_named, buf_id, script_of, kinds_of_thread}

abbrev pub victim_script : Script
victim_script =
    script_of (sizes false 4 3 16 0 0) (buf_named (codes "a") 2 (whole Vram) ∷ buf_named (codes "b") 3 (whole Vram) ∷ buf_named (codes "c") 2 (whole Tt) ∷ [])
    ((command.New (buf_id 0)
    ∷ command.Find (buf_id 0)
    ∷ command.New (buf_id 2)
    ∷ command.Find (buf_id 2)
    ∷ command.Pin (buf_id 2)
    ∷ command.New (buf_id 1)
    ∷ command.Find (buf_id 1)
    ∷ [])
    ∷ [])

abbrev dry_of_victim : Kind → Option BufId
dry_of_victim (kind.Dry b k w) = Some b
dry_of_victim _ = None

is_one : is_script victim_script ≡ true
is_one = refl

drys : filter_map dry_of_victim (kinds_of_thread 1 (scheduled victim_script 100)) ≡ buf_id 0 ∷ buf_id 1 ∷ []
drys = refl

complete : is_complete victim_script (scheduled victim_script 100) ≡ true
complete = refl

-- its declared places weren't dry; the hop through TT was
caused : have_causes victim_script [] (made_of victim_script (scheduled victim_script 100)) ≡ true
caused = refl
