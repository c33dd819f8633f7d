-- The rows of the carrying table after a choice was taken, or a target given back.
use Rattle.std.proofs.Common.{◌≡◌, Bool, true, false, List, [], Some, None, refl, sym, ◌∙◌, ap, ap₂, subst, ◌⊎◌, inl, inr}
use Rattle.std.specs.Prelude.{is_some, unwrap_or, if◌then◌else◌}
use Rattle.ttm_base.specs.declared.Mem.{Mem}
use Rattle.ttm_base.specs.declared.Mem.TheVariants.{System, Tt, Vram}
use Rattle.ttm_base.specs.declared.Span.{Span}
use Rattle.ttm_base.specs.declared.BufId.{BufId}
use Rattle.ttm_base.specs.Reach.{same_mem}
use Rattle.journal_model.specs.declared.script.Script.{Script}
use Rattle.journal_model.specs.declared.script.Command.{Command}
use Rattle.journal_model.specs.declared.state.Buffer.{Buffer}
use Rattle.journal_model.specs.rules.State.{has_target, target_of, with_target}
use Rattle.journal_model.specs.rules.Ready.{has_some_target}
use Rattle.journal_model.specs.rules.PageSteps.{target_to_untake}
use Rattle.journal_model.specs.rules.ApplyPages.{with_spans}
use Rattle.laws.specs.law_sound.Sound.{Targeted, Carried, system_tt, system_vram, system_both, tt_system, tt_tt, tt_vram, vram_vram, vram_tt, vram_system, vram_both}
use Rattle.laws.proofs.law_sound.Bufs.{clash}
use Rattle.laws.proofs.lemma_end_ways.Rows.{MeetsAt, meets_at, some_is}

-- y is x with one more target
pub record Took (to : Mem) (spans : List Span) (x y : Buffer) : Type 0 where
  pub mem : y.mem ≡ x.mem
  pub targets : y.targets ≡ with_target to (Some spans) x.targets

-- the targets after one was taken, where there was none
targeted_first : (to : Mem) (spans : List Span) (x y : Buffer) → Took to spans x y → Targeted x false false false → Targeted y (same_mem System to) (same_mem Tt to) (same_mem Vram to)
targeted_first System spans x y t ts = (ap (λ z. is_some z.system) t.targets, ap (λ z. is_some z.tt) t.targets ∙ ts.1, ap (λ z. is_some z.vram) t.targets ∙ ts.2)
targeted_first Tt spans x y t ts = (ap (λ z. is_some z.system) t.targets ∙ ts.0, ap (λ z. is_some z.tt) t.targets, ap (λ z. is_some z.vram) t.targets ∙ ts.2)
targeted_first Vram spans x y t ts = (ap (λ z. is_some z.system) t.targets ∙ ts.0, ap (λ z. is_some z.tt) t.targets ∙ ts.1, ap (λ z. is_some z.vram) t.targets)

-- the spans that were taken are those of the target
pub taken_spans : (to : Mem) (spans : List Span) (x y : Buffer) → Took to spans x y → unwrap_or (target_of to y.targets) [] ≡ spans
taken_spans System spans x y t = ap (λ z. unwrap_or z.system []) t.targets
taken_spans Tt spans x y t = ap (λ z. unwrap_or z.tt []) t.targets
taken_spans Vram spans x y t = ap (λ z. unwrap_or z.vram []) t.targets

module _ (script : Script) (cmd : Command) (i : BufId) where
  -- a first target: any but one in SYSTEM for a buffer that stands there
  pub first_row : (from to : Mem) (spans : List Span) (x y : Buffer) → Took to spans x y → x.mem ≡ from → Targeted x false false false → MeetsAt script cmd i y to → (from ≡ System → to ≡ System → ⊥) → Carried (MeetsAt script cmd i y) y
  first_row System System spans x y t m ts fits apart = absurd (apart refl refl)
  first_row System Tt spans x y t m ts fits apart = system_tt (t.mem ∙ m) (targeted_first Tt spans x y t ts) fits
  first_row System Vram spans x y t m ts fits apart = system_vram (t.mem ∙ m) (targeted_first Vram spans x y t ts) fits
  first_row Tt System spans x y t m ts fits apart = tt_system (t.mem ∙ m) (targeted_first System spans x y t ts) fits
  first_row Tt Tt spans x y t m ts fits apart = tt_tt (t.mem ∙ m) (targeted_first Tt spans x y t ts) fits
  first_row Tt Vram spans x y t m ts fits apart = tt_vram (t.mem ∙ m) (targeted_first Vram spans x y t ts) fits
  first_row Vram System spans x y t m ts fits apart = vram_system (t.mem ∙ m) (targeted_first System spans x y t ts) fits
  first_row Vram Tt spans x y t m ts fits apart = vram_tt (t.mem ∙ m) (targeted_first Tt spans x y t ts) fits
  first_row Vram Vram spans x y t m ts fits apart = vram_vram (t.mem ∙ m) (targeted_first Vram spans x y t ts) fits

  -- a hop on the way up, and one on the way down
  pub up_row : (spans : List Span) (x y : Buffer) → Took Tt spans x y → x.mem ≡ System → has_target Tt x ≡ false → Carried (MeetsAt script cmd i x) x → Carried (MeetsAt script cmd i y) y
  up_row spans x y t m n (system_vram e ts fits) =
      system_both (t.mem ∙ e) (ap (λ z. is_some z.system) t.targets ∙ ts.0, ap (λ z. is_some z.tt) t.targets, ap (λ z. is_some z.vram) t.targets ∙ ts.2) (meets_at script cmd i x y Vram (ap (λ z. z.vram) t.targets) fits)
  up_row spans x y t m n (system_tt e ts fits) = absurd (clash (sym ts.1 ∙ n))
  up_row spans x y t m n (system_both e ts fits) = absurd (clash (sym ts.1 ∙ n))
  up_row spans x y t m n (tt_system e ts fits) = absurd (let z : System ≡ Tt = sym m ∙ e in cc)
  up_row spans x y t m n (tt_tt e ts fits) = absurd (let z : System ≡ Tt = sym m ∙ e in cc)
  up_row spans x y t m n (tt_vram e ts fits) = absurd (let z : System ≡ Tt = sym m ∙ e in cc)
  up_row spans x y t m n (vram_vram e ts fits) = absurd (let z : System ≡ Vram = sym m ∙ e in cc)
  up_row spans x y t m n (vram_tt e ts fits) = absurd (let z : System ≡ Vram = sym m ∙ e in cc)
  up_row spans x y t m n (vram_system e ts fits) = absurd (let z : System ≡ Vram = sym m ∙ e in cc)
  up_row spans x y t m n (vram_both e ts fits) = absurd (let z : System ≡ Vram = sym m ∙ e in cc)

  pub down_row : (spans : List Span) (x y : Buffer) → Took Tt spans x y → x.mem ≡ Vram → has_target Vram x ≡ false → has_target Tt x ≡ false → Carried (MeetsAt script cmd i x) x → Carried (MeetsAt script cmd i y) y
  down_row spans x y t m v n (vram_system e ts fits) =
      vram_both (t.mem ∙ e) (ap (λ z. is_some z.system) t.targets ∙ ts.0, ap (λ z. is_some z.tt) t.targets, ap (λ z. is_some z.vram) t.targets ∙ ts.2) (meets_at script cmd i x y System (ap (λ z. z.system) t.targets) fits)
  down_row spans x y t m v n (vram_vram e ts fits) = absurd (clash (sym ts.2 ∙ v))
  down_row spans x y t m v n (vram_tt e ts fits) = absurd (clash (sym ts.1 ∙ n))
  down_row spans x y t m v n (vram_both e ts fits) = absurd (clash (sym ts.1 ∙ n))
  down_row spans x y t m v n (tt_system e ts fits) = absurd (let z : Vram ≡ Tt = sym m ∙ e in cc)
  down_row spans x y t m v n (tt_tt e ts fits) = absurd (let z : Vram ≡ Tt = sym m ∙ e in cc)
  down_row spans x y t m v n (tt_vram e ts fits) = absurd (let z : Vram ≡ Tt = sym m ∙ e in cc)
  down_row spans x y t m v n (system_tt e ts fits) = absurd (let z : Vram ≡ System = sym m ∙ e in cc)
  down_row spans x y t m v n (system_vram e ts fits) = absurd (let z : Vram ≡ System = sym m ∙ e in cc)
  down_row spans x y t m v n (system_both e ts fits) = absurd (let z : Vram ≡ System = sym m ∙ e in cc)

-- ---- given back

untake_is : (x : Buffer) (a b c : Bool) → Targeted x a b c → target_to_untake x ≡ (if c then Vram else if b then Tt else System)
untake_is x a b c ts = ap₂ (λ p q. if p then Vram else if q then Tt else System) ts.2 ts.1

module _ (P Q : Mem → Type 0) (x : Buffer) (all : (m : Mem) → Q m) where
  given : (m : Mem) → target_to_untake x ≡ m → (has_some_target (with_spans m None x) ≡ false) ⊎ Carried Q (with_spans m None x) → (has_some_target (with_spans (target_to_untake x) None x) ≡ false) ⊎ Carried Q (with_spans (target_to_untake x) None x)
  given m e h = subst (λ z. (has_some_target (with_spans z None x) ≡ false) ⊎ Carried Q (with_spans z None x)) (sym e) h

  bare : (y : Buffer) → Targeted y false false false → (has_some_target y ≡ false) ⊎ Carried Q y
  bare y ts = inl (some_is y false false false ts)

  pub untaken_row : Carried P x → (has_some_target (with_spans (target_to_untake x) None x) ≡ false) ⊎ Carried Q (with_spans (target_to_untake x) None x)
  untaken_row (system_tt e ts fits) = given Tt (untake_is x false true false ts) (bare (with_spans Tt None x) (ts.0, refl, ts.2))
  untaken_row (system_vram e ts fits) = given Vram (untake_is x false false true ts) (bare (with_spans Vram None x) (ts.0, ts.1, refl))
  untaken_row (system_both e ts fits) = given Vram (untake_is x false true true ts) (inr (system_tt e (ts.0, ts.1, refl) (all Tt)))
  untaken_row (tt_system e ts fits) = given System (untake_is x true false false ts) (bare (with_spans System None x) (refl, ts.1, ts.2))
  untaken_row (tt_tt e ts fits) = given Tt (untake_is x false true false ts) (bare (with_spans Tt None x) (ts.0, refl, ts.2))
  untaken_row (tt_vram e ts fits) = given Vram (untake_is x false false true ts) (bare (with_spans Vram None x) (ts.0, ts.1, refl))
  untaken_row (vram_vram e ts fits) = given Vram (untake_is x false false true ts) (bare (with_spans Vram None x) (ts.0, ts.1, refl))
  untaken_row (vram_tt e ts fits) = given Tt (untake_is x false true false ts) (bare (with_spans Tt None x) (ts.0, refl, ts.2))
  untaken_row (vram_system e ts fits) = given System (untake_is x true false false ts) (bare (with_spans System None x) (refl, ts.1, ts.2))
  untaken_row (vram_both e ts fits) = given Tt (untake_is x true true false ts) (inr (vram_system e (ts.0, refl, ts.2) (all System)))
