-- Carrying a named buffer: each step brings it nearer to its place.
use Rattle.std.proofs.Common.{◌≡◌, ℕ, ◌≤◌, ◌+◌, ◌*◌, zero, suc, true, false, None, refl, ◌∙◌, arith}
use Rattle.std.proofs.lemmas.Grind.{common_steps}
use Rattle.ttm_base.specs.declared.Mem.TheVariants.{System, Tt}
use Rattle.ttm_base.specs.declared.BufId.{BufId}
use Rattle.journal_model.specs.declared.script.Script.{Script}
use Rattle.journal_model.specs.declared.state.Course.{Course}
use Rattle.journal_model.specs.declared.state.Buffer.{Buffer}
use Rattle.journal_model.specs.declared.script.Command.{Command}
use Rattle.journal_model.specs.declared.script.Command.TheVariants as command
use Rattle.journal_model.specs.rules.State.{has_target}
use Rattle.journal_model.specs.rules.Ready.{meets, has_some_target}
use Rattle.journal_model.specs.rules.ApplyPages.{bound}
use Rattle.laws.proofs.law_sound.Measure.{steps_left, carries_left}
use Rattle.laws.specs.law_sound.Sound.{Carried, Fits, at_target, system_tt, system_vram, system_both, tt_system, tt_tt, tt_vram, vram_vram, vram_tt, vram_system, vram_both}

-- whether a buffer meets its command is read from where it stands
meets_alike : (script : Script) (cmd : Command) (b : BufId) (x y : Buffer) → x.mem ≡ y.mem → x.spans ≡ y.spans → meets script cmd b x ≡ meets script cmd b y
meets_alike script (command.Submit engine ops) b x y m s = grind (arith, common_steps)
meets_alike script (command.Find c) b x y m s = grind (arith, common_steps)
meets_alike script (command.Move c mem) b x y m s = grind (arith, common_steps)
meets_alike script (command.SwapOut c) b x y m s = grind (arith, common_steps)
meets_alike script cmd b x y m s = refl

-- out of place with targets: so many carries
far : (script : Script) (cmd : Command) (b : BufId) (x : Buffer) → has_some_target x ≡ true → steps_left script cmd b x ≡ carries_left x
far script cmd b x h = grind (arith, common_steps)

near : (script : Script) (cmd : Command) (b : BufId) (x : Buffer) → has_some_target x ≡ false → meets script cmd b x ≡ true → steps_left script cmd b x ≡ 0
near script cmd b x h m = grind (arith, common_steps)

pub bind_nearer : (script : Script) (c : Course) (cmd : Command) (b : BufId) (x : Buffer) → c.fail ≡ None → x.mem ≡ System → has_target Tt x ≡ true → Carried (Fits script c cmd b x) x →
    steps_left script cmd b (bound x) + 1 ≤ steps_left script cmd b x
bind_nearer script c cmd b x ok m t (system_tt m' ts fits) =
    let was : steps_left script cmd b x ≡ carries_left x = far script cmd b x (let a = ts.0 in let k = ts.1 in grind (arith, common_steps)) in
    let one : carries_left x ≡ 1 = (let a = ts.0 in let k = ts.1 in let v = ts.2 in grind (arith, common_steps)) in
    let bare : has_some_target (bound x) ≡ false = (let a = ts.0 in let v = ts.2 in grind (arith, common_steps)) in
    let meet : meets script cmd b (bound x) ≡ true = meets_alike script cmd b (bound x) (at_target Tt x) refl refl ∙ fits ok in
    let now : steps_left script cmd b (bound x) ≡ 0 = near script cmd b (bound x) bare meet in
    omega arith
bind_nearer script c cmd b x ok m t (system_both m' ts fits) =
    let was : steps_left script cmd b x ≡ carries_left x = far script cmd b x (let a = ts.0 in let k = ts.1 in grind (arith, common_steps)) in
    let two : carries_left x ≡ 2 = (let a = ts.0 in let k = ts.1 in let v = ts.2 in grind (arith, common_steps)) in
    let some : has_some_target (bound x) ≡ true = (let a = ts.0 in let v = ts.2 in grind (arith, common_steps)) in
    let after : steps_left script cmd b (bound x) ≡ carries_left (bound x) = far script cmd b (bound x) some in
    let one : carries_left (bound x) ≡ 1 = (let a = ts.0 in let v = ts.2 in grind (arith, common_steps)) in
    omega arith
bind_nearer script c cmd b x ok m t (system_vram m' ts fits) = let k = ts.1 in absurd (grind arith)
bind_nearer script c cmd b x ok m t (tt_system m' ts fits) = absurd (grind arith)
bind_nearer script c cmd b x ok m t (tt_tt m' ts fits) = absurd (grind arith)
bind_nearer script c cmd b x ok m t (tt_vram m' ts fits) = absurd (grind arith)
bind_nearer script c cmd b x ok m t (vram_vram m' ts fits) = absurd (grind arith)
bind_nearer script c cmd b x ok m t (vram_tt m' ts fits) = absurd (grind arith)
bind_nearer script c cmd b x ok m t (vram_system m' ts fits) = absurd (grind arith)
bind_nearer script c cmd b x ok m t (vram_both m' ts fits) = absurd (grind arith)

-- what one step nearer is worth
pub step_worth : (a b n : ℕ) → a + 1 ≤ b → (5 + 6291456 * a) * n + 6291456 * n ≤ (5 + 6291456 * b) * n
step_worth a b zero h = grind arith
step_worth a b (suc n) h = let rest : (5 + 6291456 * a) * n + 6291456 * n ≤ (5 + 6291456 * b) * n = step_worth a b n h in grind arith

-- a bind: two units of each page up, three of the carry down
pub bind_sum : (n was now own own' buf buf' : ℕ) → now + 1 ≤ was → own ≡ (5 + 6291456 * was) * n → own' ≡ (5 + 6291456 * now) * n → buf ≡ 67108864 * n → buf' ≡ 71303168 * n →
    1 ≤ n → own' + buf' + 1 ≤ own + buf
bind_sum n was now own own' buf buf' h a b c d p =
    let w : (5 + 6291456 * now) * n + 6291456 * n ≤ (5 + 6291456 * was) * n = step_worth now was n h in omega arith
