-- A script has no line `end` but its last.
use Rattle.std.proofs.Common.{◌≡◌, ℕ, ◌+◌, Bool, true, false, cond, List, [], ◌∷◌, ◌++◌, map, Option, Some, None, refl, ap, sym, subst, ◌∙◌, append_assoc}
use Rattle.std.specs.Prelude.{codes, decimal, flat_map}
use Rattle.std.specs.List.{enumerate_from, list_all}
use Rattle.std.proofs.lemmas.List.{append-nil}
use Rattle.std.proofs.lemmas.List.Concat.{flat_map-cons}
use Rattle.ttm_base.specs.declared.Actor.{Actor}
use Rattle.journal_model.specs.declared.script.Script.{Script}
use Rattle.journal_model.specs.declared.script.Decl.{Decl}
use Rattle.journal_model.specs.declared.script.Command.{Command}
use Rattle.journal_model.specs.declared.script.Command.TheVariants as command
use Rattle.journal_model.specs.declared.script.MarkKind.{MarkKind}
use Rattle.journal_model.specs.declared.script.MarkKind.TheVariants as mark
use Rattle.journal_model.specs.declared.space.VOp.{VOp}
use Rattle.journal_model.specs.scripts.Words.{Text, actor_word, hex, line, mem_word, name_of}
use Rattle.journal_model.specs.marks.Marks.{is_mapped_at, marks_at, vsubmit_at}
use Rattle.journal_model.specs.scripts.ScriptRules.{is_decl, is_script}
use Rattle.journal_model.specs.scripts.Spelling.{addressed_words, buffer_line, command_line, command_lines, command_words, group_word, mapped_words, mark_line, mark_lines, op_words, parted, placement_words, spelling, thread_lines, turn_line, vop_words}
use Rattle.journal_model.specs.reports.Verdict.{ends_script, report_part, script_part}
use Rattle.law_legal.proofs.law_report.Cuts.{both}
use Rattle.law_legal.proofs.law_report.Items.{above}
use Rattle.law_legal.proofs.law_report.SmallWords.{hex_word, mem_above}
use Rattle.law_legal.specs.law_verdict.VerdictLaws.{ScriptsAreCutOff}
use Rattle.law_legal.proofs.law_verdict.ScriptWords as words
use Rattle.law_legal.proofs.law_verdict.Passes.{Passes, all_pass, both_pass, line_passes, lines_are, none_passes}

-- ---- sizes, buffers and turns

-- a line of a word and a number
numbered : (w : Text) (n : ℕ) → above 32 w ≡ true → ends_script (line (w ∷ decimal n ∷ [])) ≡ false → Passes (line (w ∷ decimal n ∷ []))
numbered w n h goes = line_passes (w ∷ decimal n ∷ []) (h, (words.number_above n, tt)) goes

manager_passes : (buddy : Bool) (n : ℕ) → Passes (line (codes "vram" ∷ cond buddy (codes "buddy") (codes "range") ∷ decimal n ∷ []))
manager_passes true n = line_passes (codes "vram" ∷ codes "buddy" ∷ decimal n ∷ []) (refl, (refl, (words.number_above n, tt))) refl
manager_passes false n = line_passes (codes "vram" ∷ codes "range" ∷ decimal n ∷ []) (refl, (refl, (words.number_above n, tt))) refl

buffer_passes : (version : ℕ) (d : Decl) → is_decl version d ≡ true → Passes (buffer_line version d)
buffer_passes version d h =
    line_passes (codes "buffer" ∷ d.name ∷ decimal d.pages ∷ codes "prio" ∷ decimal d.prio ∷ codes "group" ∷ group_word d.group ∷ codes "align" ∷ decimal d.align ∷ placement_words version d.placement.list)
    (refl, (words.decl_above version d h, (words.number_above d.pages, (refl, (words.number_above d.prio, (refl, (words.group_above d.group, (refl, (words.number_above d.align, words.placement_above version d.placement.list))))))))) refl

buffers_pass : (version : ℕ) (ds : List Decl) → list_all (is_decl version) ds ≡ true → Passes (flat_map (buffer_line version) ds)
buffers_pass version [] h = none_passes
buffers_pass version (d ∷ ds) h =
    let f = both (is_decl version d) (list_all (is_decl version) ds) h in
    subst Passes (sym (flat_map-cons (buffer_line version) d ds)) (both_pass (buffer_line version d) (flat_map (buffer_line version) ds) (buffer_passes version d f.0) (buffers_pass version ds f.1))

turn_passes : (actors : List Actor) → Passes (turn_line actors)
turn_passes [] = line_passes (codes "schedule" ∷ []) (refl, tt) refl
turn_passes (who ∷ actors) = line_passes (codes "schedule" ∷ map actor_word (who ∷ actors)) (refl, words.mapped_words actor_word (who ∷ actors) words.actor_above) refl

-- ---- threads

module _ (script : Script) (is : is_script script ≡ true) where
  command_passes : (cmd : Command) → Passes (line (command_words script cmd))
  command_passes (command.New b) = line_passes (codes "new" ∷ name_of script b ∷ []) (refl, (words.named_above script is b, tt)) refl
  command_passes (command.Free b) = line_passes (codes "free" ∷ name_of script b ∷ []) (refl, (words.named_above script is b, tt)) refl
  command_passes (command.Pin b) = line_passes (codes "pin" ∷ name_of script b ∷ []) (refl, (words.named_above script is b, tt)) refl
  command_passes (command.Unpin b) = line_passes (codes "unpin" ∷ name_of script b ∷ []) (refl, (words.named_above script is b, tt)) refl
  command_passes (command.Find b) = line_passes (codes "find" ∷ name_of script b ∷ []) (refl, (words.named_above script is b, tt)) refl
  command_passes (command.SwapOut b) = line_passes (codes "swapout" ∷ name_of script b ∷ []) (refl, (words.named_above script is b, tt)) refl
  command_passes (command.Write b off bytes) =
      line_passes (codes "write" ∷ name_of script b ∷ decimal off ∷ hex bytes ∷ []) (refl, (words.named_above script is b, (words.number_above off, (hex_word bytes, tt)))) refl
  command_passes (command.Read b off len) =
      line_passes (codes "read" ∷ name_of script b ∷ decimal off ∷ decimal len ∷ []) (refl, (words.named_above script is b, (words.number_above off, (words.number_above len, tt)))) refl
  command_passes (command.Move b mem) = line_passes (codes "move" ∷ name_of script b ∷ mem_word mem ∷ []) (refl, (words.named_above script is b, (mem_above mem, tt))) refl
  command_passes (command.Touch group) = line_passes (codes "touch" ∷ decimal group ∷ []) (refl, (words.number_above group, tt)) refl
  command_passes (command.Submit engine ops) =
      line_passes (codes "submit" ∷ decimal engine ∷ parted (map (op_words script) ops))
      (refl, (words.number_above engine, words.parted_above (op_words script) ops (words.op_above script is))) refl

  mapped_passes : (cmd : Command) → Passes (line (mapped_words script cmd))
  mapped_passes (command.Write b off bytes) =
      line_passes (codes "poke" ∷ name_of script b ∷ decimal off ∷ hex bytes ∷ []) (refl, (words.named_above script is b, (words.number_above off, (hex_word bytes, tt)))) refl
  mapped_passes (command.Read b off len) =
      line_passes (codes "peek" ∷ name_of script b ∷ decimal off ∷ decimal len ∷ []) (refl, (words.named_above script is b, (words.number_above off, (words.number_above len, tt)))) refl
  mapped_passes cmd = command_passes cmd

  addressed_passes : (vs : List VOp) (cmd : Command) → Passes (line (addressed_words script vs cmd))
  addressed_passes vs (command.Submit engine ops) =
      line_passes (codes "vsubmit" ∷ decimal engine ∷ parted (map vop_words vs)) (refl, (words.number_above engine, words.parted_above vop_words vs words.vop_above)) refl
  addressed_passes vs cmd = command_passes cmd

  -- as it is written
  written_passes : (o : Option (List VOp)) (b : Bool) (cmd : Command)
      → Passes (line (elim o [ Some vs ↦ addressed_words script vs cmd | None ↦ elim b [ true ↦ mapped_words script cmd | false ↦ command_words script cmd ] ]))
  written_passes (Some vs) b cmd = addressed_passes vs cmd
  written_passes None true cmd = mapped_passes cmd
  written_passes None false cmd = command_passes cmd

  mark_passes : (m : MarkKind) → Passes (mark_line script m)
  mark_passes (mark.Map b) = line_passes (codes "map" ∷ name_of script b ∷ []) (refl, (words.named_above script is b, tt)) refl
  mark_passes (mark.Unmap b) = line_passes (codes "unmap" ∷ name_of script b ∷ []) (refl, (words.named_above script is b, tt)) refl
  mark_passes (mark.Vmap va n b off) =
      line_passes (codes "vmap" ∷ decimal va ∷ decimal n ∷ name_of script b ∷ decimal off ∷ [])
      (refl, (words.number_above va, (words.number_above n, (words.named_above script is b, (words.number_above off, tt))))) refl
  mark_passes (mark.Vunmap va n) = line_passes (codes "vunmap" ∷ decimal va ∷ decimal n ∷ []) (refl, (words.number_above va, (words.number_above n, tt))) refl
  mark_passes mark.Mapped = none_passes
  mark_passes (mark.Vsubmit ops) = none_passes

  marks_pass : (thread n : ℕ) → Passes (mark_lines script thread n)
  marks_pass thread n = all_pass (mark_line script) (marks_at script thread n) mark_passes

  commands_pass : (thread n : ℕ) (cmds : List Command) → Passes (command_lines script thread n cmds)
  commands_pass thread n [] = marks_pass thread n
  commands_pass thread n (cmd ∷ cmds) =
      both_pass (mark_lines script thread n ++ command_line script thread n cmd) (command_lines script thread (n + 1) cmds)
      (both_pass (mark_lines script thread n) (command_line script thread n cmd) (marks_pass thread n) (written_passes (vsubmit_at script thread n) (is_mapped_at script thread n) cmd))
      (commands_pass thread (n + 1) cmds)

  thread_passes : (e : ℕ × List Command) → Passes (thread_lines script e)
  thread_passes e = both_pass (line (codes "thread" ∷ [])) (command_lines script e.0 0 e.1) (line_passes (codes "thread" ∷ []) (refl, tt) refl) (commands_pass e.0 0 e.1)

  -- ---- all lines

  -- but the last
  abbrev body : Text
  body =
      line (codes "ttm" ∷ decimal script.version ∷ [])
      ++ line (codes "vram" ∷ cond script.sizes.buddy (codes "buddy") (codes "range") ∷ decimal script.sizes.vram ∷ [])
      ++ line (codes "tt" ∷ decimal script.sizes.tt ∷ [])
      ++ line (codes "frames" ∷ decimal script.sizes.frames ∷ [])
      ++ line (codes "swap" ∷ decimal script.sizes.swap ∷ [])
      ++ line (codes "engines" ∷ decimal script.sizes.engines ∷ [])
      ++ flat_map (buffer_line script.version) script.buffers
      ++ flat_map (thread_lines script) (enumerate_from 1 script.threads)
      ++ flat_map turn_line script.turns

  body_passes : Passes body
  body_passes =
      both_pass _ (flat_map turn_line script.turns)
      (both_pass _ (flat_map (thread_lines script) (enumerate_from 1 script.threads))
      (both_pass _ (flat_map (buffer_line script.version) script.buffers)
      (both_pass _ _ (both_pass _ _ (both_pass _ _ (both_pass _ _ (both_pass _ _
      (numbered (codes "ttm") script.version refl refl)
      (manager_passes script.sizes.buddy script.sizes.vram))
      (numbered (codes "tt") script.sizes.tt refl refl))
      (numbered (codes "frames") script.sizes.frames refl refl))
      (numbered (codes "swap") script.sizes.swap refl refl))
      (numbered (codes "engines") script.sizes.engines refl refl))
      (buffers_pass script.version script.buffers (words.decls_of script is)))
      (all_pass (thread_lines script) (enumerate_from 1 script.threads) thread_passes))
      (all_pass turn_line script.turns turn_passes)

  abbrev last : Text
  last = line (codes "end" ∷ [])

  spelling_cut : (text : Text) → (script_part (spelling script ++ text) ≡ spelling script) × (report_part (spelling script ++ text) ≡ text)
  spelling_cut text =
      let grouped : (body ++ last) ++ text ≡ body ++ (last ++ text) = append_assoc body last text in
      let ended : script_part (last ++ text) ≡ last = flat_map-cons (λ t. t) last [] ∙ append-nil last in (
        ap script_part grouped ∙ body_passes.script (last ++ text) ∙ ap (λ t. body ++ t) ended,
        ap report_part grouped ∙ body_passes.report (last ++ text) ∙ lines_are text,
      )

pub scripts_are_cut_off : ScriptsAreCutOff
scripts_are_cut_off bytes text script is =
    subst (λ (b : Text). (script_part (b ++ text) ≡ b) × (report_part (b ++ text) ≡ text)) (sym is.spelled) (spelling_cut script is.fits text)
