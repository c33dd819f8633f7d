-- The law of a script whose journal has moves that overlap with jobs: its premises can be met.
use Rattle.std.proofs.Common.{◌≡◌, Bool, true, false, List, [], ◌∷◌, IsTrue, refl}
use Rattle.std.specs.Prelude.{◌&&◌}
use Rattle.std.specs.List.{list_any}
use Rattle.ttm_base.specs.declared.Mem.TheVariants.{Vram}
use Rattle.ttm_base.specs.declared.Op.TheVariants as op
use Rattle.journal_model.specs.declared.script.Script.{Script}
use Rattle.journal_model.specs.declared.script.Command.TheVariants as command
use Rattle.journal_model.specs.declared.entry.Entry.{Entry}
use Rattle.journal_model.specs.declared.entry.Kind.{Kind}
use Rattle.journal_model.specs.declared.entry.Kind.TheVariants as kind
use Rattle.journal_model.specs.declared.entry.Left.TheVariants as left
use Rattle.journal_model.specs.rules.Commands.{whole}
use Rattle.journal_model.specs.statements.Complete.{is_complete}
use Rattle.journal_model.specs.rules.Legal.{IsLegal}
use Rattle.journal_model.specs.scripts.ScriptRules.{is_script}
use Rattle.journal_model.specs.statements.Scheduled.{scheduled}
use Rattle.journal_model.specs.rules.Transparent.{IsTransparent}
use Rattle.journal_model.proofs.Rows.{sizes, buf_named, buf_id}
use Rattle.laws.proofs.law_state.Turns.{scheduled_legal}
use Rattle.laws.proofs.law_transparent.Law.{transparent_given}
use Rattle.laws.proofs.law_transparent.Ways.{have_ways}

-- the second buffer takes the pages of the first one in VRAM while the move out of them is still to run; then a job fills and probes it
abbrev overlap_script : Script
overlap_script =
    record {
      version = 1;
      sizes = sizes false 2 8 8 0 1;
      buffers = buf_named (97 ∷ []) 2 (whole Vram) ∷ buf_named (98 ∷ []) 2 (whole Vram) ∷ [];
      threads =
          (command.New (buf_id 0)
          ∷ command.Write (buf_id 0) 0 (119 ∷ [])
          ∷ command.Find (buf_id 0)
          ∷ command.New (buf_id 1)
          ∷ command.Find (buf_id 1)
          ∷ command.Submit 1 (op.Fill (buf_id 1) 1 1 85 ∷ op.Probe (buf_id 1) 0 2 ∷ [])
          ∷ command.Read (buf_id 0) 0 1
          ∷ command.Read (buf_id 1) 0 2
          ∷ [])
          ∷ [];
      turns = [];
      marks = [];
    }

abbrev overlap_journal : List Entry
overlap_journal = scheduled overlap_script 100

-- a victim's move, with pages that are free at once
abbrev is_eviction : Kind → Bool
is_eviction (kind.Move b m n left.Now) = true
is_eviction _ = false

-- a move that leaves its pages to a ghost
abbrev is_pipelined : Kind → Bool
is_pipelined (kind.Move b m n (left.Ghost g)) = true
is_pipelined _ = false

overlap_moves : (list_any (λ (e : Entry). is_eviction e.kind) overlap_journal && list_any (λ (e : Entry). is_pipelined e.kind) overlap_journal) ≡ true
overlap_moves = refl

overlap_fits : IsTrue (is_script overlap_script)
overlap_fits = refl

overlap_over : is_complete overlap_script overlap_journal ≡ true
overlap_over = refl

overlap_legal : IsLegal overlap_script overlap_journal
overlap_legal = scheduled_legal overlap_script 100

overlap_transparent : IsTransparent overlap_script overlap_journal
overlap_transparent = transparent_given overlap_script overlap_fits (have_ways overlap_script overlap_fits) overlap_journal overlap_legal
