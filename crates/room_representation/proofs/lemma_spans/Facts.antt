-- What states tell of the spans of a buffer and of ghosts, in the words that the lemmas on entries ask for.
use Rattle.std.proofs.Common.{◌≡◌, ℕ, zero, suc, ◌+◌, ◌≤◌, false, List, [], ◌∷◌, Option, Some, None, refl, ◌∙◌, ap, arith}
use Rattle.std.specs.Prelude.{◌==◌, ◌||◌, find, is_some, slice_get, unwrap_or, if◌then◌else◌}
use Rattle.std.proofs.lemmas.Bool.{ne_eqb, or_parts}
use Rattle.ttm_base.specs.declared.Mem.{Mem}
use Rattle.ttm_base.specs.declared.Mem.TheVariants.{System, Tt, Vram}
use Rattle.ttm_base.specs.declared.Span.{Span}
use Rattle.ttm_base.specs.Reach.{same_mem}
use Rattle.journal_model.specs.declared.state.Buffer.{Buffer}
use Rattle.journal_model.specs.declared.state.Ghost.{Ghost}
use Rattle.journal_model.specs.rules.State.{has_target, target_of, target_spans}
use Rattle.journal_model.specs.rules.Holds.{spans_in}
use Rattle.journal_model.specs.rules.Ready.{has_some_target}

-- ---- spans and targets of a buffer

-- no target, no spans of one
pub no_target : (mine : Mem) (x : Buffer) → has_target mine x ≡ false → target_spans mine x ≡ []
no_target mine x h = by (target_of mine x.targets) h
  where
    by : (o : Option (List Span)) → is_some o ≡ false → unwrap_or o [] ≡ []
    by None e = refl
    by (Some ss) e = cc

-- nor where none waits for the buffer at all
pub no_target_at_all : (mine : Mem) (x : Buffer) → has_some_target x ≡ false → target_spans mine x ≡ []
no_target_at_all mine x h = by mine
  where
    all : ((has_target System x || has_target Tt x) ≡ false) × (has_target Vram x ≡ false)
    all = or_parts (has_target System x || has_target Tt x) (has_target Vram x) h

    two : (has_target System x ≡ false) × (has_target Tt x ≡ false)
    two = or_parts (has_target System x) (has_target Tt x) all.0

    by : (m : Mem) → target_spans m x ≡ []
    by System = no_target System x two.0
    by Tt = no_target Tt x two.1
    by Vram = no_target Vram x all.1

-- a buffer has spans in its own memory type alone
pub spans_elsewhere : (mine : Mem) (x : Buffer) → (x.mem ≡ mine → ⊥) → spans_in mine x ≡ []
spans_elsewhere mine x out = by x.mem mine refl out
  where
    by : (l m : Mem) → x.mem ≡ l → (x.mem ≡ m → ⊥) → (if same_mem l m then x.spans else []) ≡ []
    by System System e n = absurd (n e)
    by Tt Tt e n = absurd (n e)
    by Vram Vram e n = absurd (n e)
    by System Tt e n = refl
    by System Vram e n = refl
    by Tt System e n = refl
    by Tt Vram e n = refl
    by Vram System e n = refl
    by Vram Tt e n = refl

-- ---- ghosts

-- a number above all is of no ghost yet
pub new_number : (gs : List Ghost) (last : ℕ) → ((i : ℕ) (g : Ghost) → slice_get gs i ≡ Some g → g.num ≤ last) → find (λ h. h.num == last + 1) gs ≡ None
new_number [] last below = refl
new_number (g ∷ gs) last below =
    ap (λ q. if q then Some g else find (λ (h : Ghost). h.num == last + 1) gs) (ne_eqb g.num (last + 1) (λ e. (let l = below zero g refl in omega (arith, l, e))))
    ∙ new_number gs last (λ i h e. below (suc i) h e)
