-- What each entry on a victim does to its way.
use Rattle.std.proofs.Common.{◌≡◌, true, false, List, [], ◌∷◌, Option, Some, None, refl, sym, ◌∙◌, ap, ap₂, subst}
use Rattle.std.specs.Prelude.{fold, ◌||◌, if◌then◌else◌}
use Rattle.std.proofs.lemmas.Bool.{both_ways, or_parts}
use Rattle.ttm_base.specs.declared.Mem.{Mem}
use Rattle.ttm_base.specs.declared.Mem.TheVariants.{System, Tt, Vram}
use Rattle.ttm_base.specs.declared.Place.{Place}
use Rattle.ttm_base.specs.declared.Span.{Span}
use Rattle.ttm_base.specs.declared.BufId.{BufId}
use Rattle.ttm_base.specs.declared.JobId.{JobId}
use Rattle.ttm_base.specs.declared.Usage.TheVariants as usage
use Rattle.ttm_base.specs.declared.Deny.{Deny}
use Rattle.journal_model.specs.declared.script.Script.{Script}
use Rattle.journal_model.specs.declared.state.State.{State}
use Rattle.journal_model.specs.declared.state.Course.{Course}
use Rattle.journal_model.specs.declared.state.Buffer.{Buffer}
use Rattle.journal_model.specs.declared.entry.Why.{Why}
use Rattle.journal_model.specs.declared.entry.Why.TheVariants as why
use Rattle.journal_model.specs.rules.State.{buffer, has_target}
use Rattle.journal_model.specs.rules.Ready.{has_some_target}
use Rattle.journal_model.specs.rules.PageSteps.{target_to_untake}
use Rattle.journal_model.specs.rules.ApplyPages.{with_fence, with_spans, with_kernel_fences, unbound}
use Rattle.journal_model.specs.rules.ApplyMoves.{moved}
use Rattle.journal_model.specs.rules.ApplyVictims.{leaves_tt}
use Rattle.laws.specs.law_sound.Sound.{Targeted, OnItsWay, in_vram, to_tt, out_of_vram, in_tt, in_system}
use Rattle.laws.proofs.law_sound.Gifts.{PlaceOf, first, forced}
use Rattle.laws.proofs.lemma_end_searches.Ways.{way_alike}
use Rattle.laws.proofs.lemma_end_searches.Catching.{Prey, in_vram as prey_in_vram, in_tt as prey_in_tt, for_swap, hop}

tt_no_vram : Tt ≡ Vram → ⊥
tt_no_vram h = cc

system_no_vram : System ≡ Vram → ⊥
system_no_vram h = cc

-- no target at all
pub bare_targets : (x : Buffer) → has_some_target x ≡ false → Targeted x false false false
bare_targets x h =
    let p = or_parts (has_target System x || has_target Tt x) (has_target Vram x) h in
    let q = or_parts (has_target System x) (has_target Tt x) p.0 in
    (q.0, q.1, p.1)

none_there : (x : Buffer) → Targeted x false false false → (m : Mem) → has_target m x ≡ false
none_there x t System = t.0
none_there x t Tt = t.1
none_there x t Vram = t.2

-- the target in TT is given back
pub way_untaken : (x : Buffer) (w : Why) (f : Option Deny) → x.mem ≡ Vram → has_target (target_to_untake x) x ≡ true → OnItsWay x w f → OnItsWay (with_spans (target_to_untake x) None x) w f
way_untaken x w f m there way = by way
  where
    by : {z : Why} {g : Option Deny} → OnItsWay x z g → OnItsWay (with_spans (target_to_untake x) None x) z g
    by (in_vram n t) = absurd (both_ways (has_target (target_to_untake x) x) (none_there x t (target_to_untake x)) there)
    by (to_tt {fail} n t) =
        let is : target_to_untake x ≡ Tt = ap₂ (λ p q. if p then Vram else if q then Tt else System) t.2 t.1 in
        subst (λ y. OnItsWay (with_spans y None x) why.Vram fail) (sym is) (in_vram n (t.0, refl, t.2))
    by (out_of_vram n t) = absurd (tt_no_vram (sym n ∙ m))
    by (in_tt k n t) = absurd (tt_no_vram (sym n ∙ m))
    by (in_system k n t) = absurd (system_no_vram (sym n ∙ m))

-- unbound
pub way_unbound : (x : Buffer) (w : Why) (f : Option Deny) → has_target System x ≡ true → OnItsWay x w f → OnItsWay (unbound x) w f
way_unbound x w f there way = by way
  where
    by : {z : Why} {g : Option Deny} → OnItsWay x z g → OnItsWay (unbound x) z g
    by (in_vram n t) = absurd (both_ways (has_target System x) t.0 there)
    by (to_tt n t) = absurd (both_ways (has_target System x) t.0 there)
    by (out_of_vram n t) = absurd (both_ways (has_target System x) t.0 there)
    by (in_tt k n t) = in_system k refl (refl, t.1, t.2)
    by (in_system k n t) = absurd (both_ways (has_target System x) t.0 there)

-- moved out of VRAM
pub way_moved : (job : JobId) (x : Buffer) (w : Why) (f : Option Deny) → f ≡ None → x.mem ≡ Vram → has_target Tt x ≡ true → OnItsWay x w f → OnItsWay (moved Tt job x) w f
way_moved job x w f fine m there way = by way fine
  where
    by : {z : Why} {g : Option Deny} → OnItsWay x z g → g ≡ None → OnItsWay (moved Tt job x) z g
    by (in_vram n t) e = absurd (both_ways (has_target Tt x) t.1 there)
    by (to_tt n t) e = subst (OnItsWay (moved Tt job x) why.Vram) (sym e) (out_of_vram refl (t.0, refl, t.2))
    by (out_of_vram n t) e = absurd (tt_no_vram (sym n ∙ m))
    by (in_tt k n t) e = absurd (tt_no_vram (sym n ∙ m))
    by (in_system k n t) e = absurd (system_no_vram (sym n ∙ m))

-- fences change neither place nor targets
fenced_mem : (jobs : List JobId) (x : Buffer) → (fold (λ y job. with_fence job usage.Kernel y) x jobs).mem ≡ x.mem
fenced_mem [] x = refl
fenced_mem (j ∷ jobs) x = fenced_mem jobs (with_fence j usage.Kernel x)

fenced_targets : (jobs : List JobId) (x : Buffer) → (fold (λ y job. with_fence job usage.Kernel y) x jobs).targets ≡ x.targets
fenced_targets [] x = refl
fenced_targets (j ∷ jobs) x = fenced_targets jobs (with_fence j usage.Kernel x)

-- pages in TT are found
pub way_taken : (jobs : List JobId) (spans : List Span) (x : Buffer) (w : Why) (f : Option Deny) → x.mem ≡ Vram → has_target Tt x ≡ false → OnItsWay x w f → OnItsWay (with_kernel_fences jobs (with_spans Tt (Some spans) x)) w f
way_taken jobs spans x w f m lacks way = way_alike (with_spans Tt (Some spans) x) (with_kernel_fences jobs (with_spans Tt (Some spans) x)) w f (fenced_mem jobs (with_spans Tt (Some spans) x)) (fenced_targets jobs (with_spans Tt (Some spans) x)) (by way)
  where
    by : {z : Why} {g : Option Deny} → OnItsWay x z g → OnItsWay (with_spans Tt (Some spans) x) z g
    by (in_vram n t) = to_tt n (t.0, refl, t.2)
    by (to_tt n t) = to_tt n (t.0, refl, t.2)
    by (out_of_vram n t) = absurd (tt_no_vram (sym n ∙ m))
    by (in_tt k n t) = absurd (tt_no_vram (sym n ∙ m))
    by (in_system k n t) = absurd (system_no_vram (sym n ∙ m))

-- a victim's search finds pages in TT alone
pub hop_takes : (c : Course) (place : Place) (mem : Mem) → PlaceOf (hop c true) place → place.mem ≡ mem → mem ≡ Tt
hop_takes c place mem (first i f at) is = absurd (nothing place at)
  where
    nothing : (p : Place) → None ≡ Some p → ⊥
    nothing p h = cc
hop_takes c place mem (forced at) is = sym is ∙ ap (λ p. p.mem) at

-- caught: a buffer without targets, and none in VRAM for swap
pub way_caught : (script : Script) (s : State) (b : BufId) (w : Why) → Prey script s b w → has_some_target (buffer s b) ≡ false → (w ≡ why.Swap → (buffer s b).mem ≡ Vram → ⊥) → OnItsWay (leaves_tt (buffer s b).mem (buffer s b)) w None
way_caught script s b w prey bare low = by prey low
  where
    tt_is : why.Tt ≡ why.Vram → ⊥
    tt_is h = cc

    swap_is : why.Swap ≡ why.Vram → ⊥
    swap_is h = cc

    t : Targeted (buffer s b) false false false
    t = bare_targets (buffer s b) bare

    by_mem : (why.Swap ≡ why.Swap → (buffer s b).mem ≡ Vram → ⊥) → (m : Mem) → (buffer s b).mem ≡ m → OnItsWay (leaves_tt m (buffer s b)) why.Swap None
    by_mem n System e = in_system swap_is e t
    by_mem n Tt e = in_tt swap_is e (refl, t.1, t.2)
    by_mem n Vram e = absurd (n refl e)

    by : {z : Why} → Prey script s b z → (z ≡ why.Swap → (buffer s b).mem ≡ Vram → ⊥) → OnItsWay (leaves_tt (buffer s b).mem (buffer s b)) z None
    by (prey_in_vram m) n = subst (λ q. OnItsWay (leaves_tt q (buffer s b)) why.Vram None) (sym m) (in_vram m t)
    by (prey_in_tt m) n = subst (λ q. OnItsWay (leaves_tt q (buffer s b)) why.Tt None) (sym m) (in_tt tt_is m (refl, t.1, t.2))
    by (for_swap f h) n = by_mem n (buffer s b).mem refl
