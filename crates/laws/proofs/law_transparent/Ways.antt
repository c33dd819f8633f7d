-- In the states of legal journals victims are on their way, as far as bytes depend on it.
use Rattle.std.proofs.Common.{◌≡◌, ℕ, zero, suc, true, false, List, [], ◌∷◌, Option, Some, IsTrue, sym, subst, ◌∙◌}
use Rattle.std.specs.Prelude.{slice_get}
use Rattle.ttm_base.specs.declared.Mem.TheVariants.{System, Tt, Vram}
use Rattle.ttm_base.specs.declared.BufId.{BufId}
use Rattle.ttm_base.specs.declared.Deny.{Deny}
use Rattle.journal_model.specs.declared.state.Buffer.{Buffer}
use Rattle.journal_model.specs.declared.state.Victim.{Victim}
use Rattle.journal_model.specs.declared.entry.Why.{Why}
use Rattle.journal_model.specs.declared.entry.Why.TheVariants as why
use Rattle.journal_model.specs.declared.script.Script.{Script}
use Rattle.journal_model.specs.declared.state.State.{State}
use Rattle.journal_model.specs.declared.entry.Entry.{Entry}
use Rattle.journal_model.specs.rules.State.{buffer, course, has_target}
use Rattle.journal_model.specs.scripts.ScriptRules.{is_script}
use Rattle.journal_model.specs.rules.Legal.{World, first_world, world_after, world_along, state_of, IsLegalFrom}
use Rattle.laws.proofs.law_state.Shown.{legal_step}
use Rattle.laws.specs.law_sound.Sound.{OnItsWay, in_vram, to_tt, out_of_vram, in_tt, in_system}
use Rattle.laws.proofs.lemma_end_searches.Ways.{Ways}
use Rattle.laws.proofs.law_end.Lasting.{Steady, steady_keeps, steady_first}
use Rattle.laws.specs.lemma_bytes_told.Told.{OnWay}
use Rattle.laws.proofs.law_transparent.Law.{HaveWays}

untargeted : (x : Buffer) → has_target System x ≡ false → has_target System x ≡ true → ⊥
untargeted x e h = let z : false ≡ true = sym e ∙ h in cc

targeted : (x : Buffer) → has_target System x ≡ true → has_target System x ≡ false → ⊥
targeted x e h = let z : true ≡ false = sym e ∙ h in cc

elsewhere : (x : Buffer) → x.mem ≡ Tt → x.mem ≡ Vram → ⊥
elsewhere x e h = let z : Tt ≡ Vram = sym e ∙ h in cc

vram_swap : why.Vram ≡ why.Swap → ⊥
vram_swap e = cc

on_way : (x : Buffer) (w : Why) (fail : Option Deny) → OnItsWay x w fail → OnWay x w
on_way x w fail (in_vram m t) = record { back = λ h v. untargeted x t.0 h; swap = λ e h. absurd (vram_swap e) }
on_way x w fail (to_tt m t) = record { back = λ h v. untargeted x t.0 h; swap = λ e h. absurd (vram_swap e) }
on_way x w fail (out_of_vram m t) = record { back = λ h v. untargeted x t.0 h; swap = λ e h. absurd (vram_swap e) }
on_way x w fail (in_tt n m t) = record { back = λ h v. elsewhere x m v; swap = λ e h. absurd (targeted x t.0 h) }
on_way x w fail (in_system n m t) = record { back = λ h v. untargeted x t.0 h; swap = λ e h. m }

ways_at : (f : BufId → Buffer) (vs : List Victim) (i : ℕ) (v : Victim) → Ways f vs → slice_get vs i ≡ Some v → OnWay (f v.b) v.why
ways_at f [] i v w e = cc
ways_at f (u ∷ vs) zero v w e = let same : u ≡ v = cc in subst (λ (z : Victim). OnWay (f z.b) z.why) same (on_way (f u.b) u.why u.fail w.0)
ways_at f (u ∷ vs) (suc i) v w e = ways_at f vs i v w.1 e

-- ---- along a journal

steady_along : (script : Script) (fits : IsTrue (is_script script)) (w : World) (es : List Entry) → Steady script w.state → IsLegalFrom script w es → Steady script (world_along script w es).state
steady_along script fits w [] s l = s
steady_along script fits w (e ∷ es) s l =
    let step = legal_step script w e l.0 in
    steady_along script fits (world_after script w e) es (subst (λ (z : State). Steady script z) (sym step.state) (steady_keeps script fits w.state e.who step.kind s step.step)) l.1

pub have_ways : (script : Script) → IsTrue (is_script script) → HaveWays script
have_ways script fits journal l t v i e =
    ways_at (buffer (state_of script journal)) (course (state_of script journal) t).caught i v ((steady_along script fits (first_world script) journal (steady_first script fits) l).victims t).ways e
