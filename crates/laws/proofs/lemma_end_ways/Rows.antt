-- The rows of the carrying table: what each step makes of them, and that it brings the buffer nearer to its place.
use Rattle.std.proofs.Common.{◌≡◌, ℕ, ◌≤◌, ◌+◌, Bool, true, false, List, [], ◌∷◌, None, refl, sym, ◌∙◌, ap, ap₂, arith, ◌⊎◌, inl, inr, ⊎_elim}
use Rattle.std.specs.Prelude.{is_some, unwrap_or, not, ◌&&◌, ◌||◌, if◌then◌else◌}
use Rattle.std.specs.List.{list_all, list_any}
use Rattle.std.proofs.lemmas.Bool.{and_parts, or_cases, or_left, or_right}
use Rattle.ttm_base.specs.declared.Mem.{Mem}
use Rattle.ttm_base.specs.declared.Mem.TheVariants.{System, Tt, Vram}
use Rattle.ttm_base.specs.declared.Span.{Span}
use Rattle.ttm_base.specs.declared.FlaggedPlace.{FlaggedPlace}
use Rattle.ttm_base.specs.declared.BufId.{BufId}
use Rattle.ttm_base.specs.declared.JobId.{JobId}
use Rattle.ttm_base.specs.Reach.{same_mem, is_inside, is_contiguous, reach}
use Rattle.ttm_base.specs.Placement.{accepts, compatible}
use Rattle.journal_model.specs.declared.script.Script.{Script}
use Rattle.journal_model.specs.declared.script.Command.{Command}
use Rattle.journal_model.specs.declared.script.Command.TheVariants as command
use Rattle.journal_model.specs.declared.state.Course.{Course}
use Rattle.journal_model.specs.declared.state.Buffer.{Buffer}
use Rattle.journal_model.specs.rules.State.{has_target, target_of}
use Rattle.journal_model.specs.rules.Commands.{decl}
use Rattle.journal_model.specs.rules.Holds.{size_of}
use Rattle.journal_model.specs.rules.Ready.{is_well_placed, meets, has_some_target}
use Rattle.journal_model.specs.rules.ApplyPages.{bound, unbound}
use Rattle.journal_model.specs.rules.ApplyMoves.{moved}
use Rattle.laws.proofs.law_sound.Measure.{carries_left, steps_left}
use Rattle.laws.specs.law_sound.Sound.{Targeted, Carried, Fits, at_target, system_tt, system_vram, system_both, tt_system, tt_tt, tt_vram, vram_vram, vram_tt, vram_system, vram_both}
use Rattle.laws.proofs.law_sound.Bufs.{clash}

-- ---- whether a buffer meets its command

placed_alike : (script : Script) (b : BufId) (x y : Buffer) → x.mem ≡ y.mem → x.spans ≡ y.spans → is_well_placed script b x ≡ is_well_placed script b y
placed_alike script b x y m s = ap₂ (λ mem spans. compatible mem spans (decl script b).placement (size_of script mem)) m s

-- it is read from where it stands
pub meets_alike : (script : Script) (cmd : Command) (b : BufId) (x y : Buffer) → x.mem ≡ y.mem → x.spans ≡ y.spans → meets script cmd b x ≡ meets script cmd b y
meets_alike script (command.Submit engine ops) b x y m s = placed_alike script b x y m s
meets_alike script (command.Find c) b x y m s = placed_alike script b x y m s
meets_alike script (command.Move c mem) b x y m s = ap (λ z. same_mem z mem) m
meets_alike script (command.SwapOut c) b x y m s = ap (λ z. same_mem z System) m
meets_alike script cmd b x y m s = refl

-- what accepts spans accepts none
accepts_none : (mem : Mem) (spans : List Span) (size : ℕ) (list : List FlaggedPlace) → list_any (λ p. accepts mem spans size p.place) list ≡ true → list_any (λ p. accepts mem [] size p.place) list ≡ true
accepts_none mem spans size [] h = h
accepts_none mem spans size (p ∷ list) h =
    ⊎_elim
    (λ k. or_left (accepts mem [] size p.place) (list_any (λ p. accepts mem [] size p.place) list)
    (by p.place.contig (same_mem p.place.mem mem) (and_parts (same_mem p.place.mem mem) (list_all (is_inside (reach p.place size)) spans) (and_parts (same_mem p.place.mem mem && list_all (is_inside (reach p.place size)) spans) (not p.place.contig || is_contiguous spans) k).0).0))
    (λ k. or_right (accepts mem [] size p.place) (list_any (λ p. accepts mem [] size p.place) list) (accepts_none mem spans size list k))
    (or_cases (accepts mem spans size p.place) (list_any (λ p. accepts mem spans size p.place) list) h)
  where
    by : (q w : Bool) → w ≡ true → ((w && true) && (not q || true)) ≡ true
    by true true e = refl
    by false true e = refl
    by q false e = absurd (clash (sym e))

pub placed_bare : (script : Script) (b : BufId) (x y : Buffer) → y.mem ≡ x.mem → y.spans ≡ [] → is_well_placed script b x ≡ true → is_well_placed script b y ≡ true
placed_bare script b x y m s h =
    ap₂ (λ mem spans. compatible mem spans (decl script b).placement (size_of script mem)) m s
    ∙ accepts_none x.mem x.spans (size_of script x.mem) (decl script b).placement.list h

-- with no spans it meets the command too
pub meets_bare : (script : Script) (cmd : Command) (b : BufId) (x y : Buffer) → y.mem ≡ x.mem → y.spans ≡ [] → meets script cmd b x ≡ true → meets script cmd b y ≡ true
meets_bare script (command.Submit engine ops) b x y m s h = placed_bare script b x y m s h
meets_bare script (command.Find c) b x y m s h = placed_bare script b x y m s h
meets_bare script (command.Move c mem) b x y m s h = ap (λ z. same_mem z mem) m ∙ h
meets_bare script (command.SwapOut c) b x y m s h = ap (λ z. same_mem z System) m ∙ h
meets_bare script cmd b x y m s h = refl

-- ---- how near it is

abbrev pub carry_of : Mem → Bool → Bool → Bool → ℕ
carry_of m a b c =
    elim m [
      | System ↦ elim b [ true ↦ if c || a then 2 else 1 | false ↦ 3 ]
      | Tt ↦ elim a [ true ↦ 1 | false ↦ if b then 2 else 1 ]
      | Vram ↦ elim c [
        | true ↦ 1
        | false ↦ elim b [ true ↦ if a then 2 else 1 | false ↦ 3 ]
      ]
    ]

abbrev pub rank : Mem → Bool → Bool → Bool → Bool → ℕ
rank m a b c q =
    elim (not ((a || b) || c) && q) [ true ↦ 0 | false ↦ elim ((a || b) || c) [ true ↦ carry_of m a b c | false ↦ 4 ] ]

pub steps_is : (script : Script) (cmd : Command) (i : BufId) (x : Buffer) (m : Mem) (a b c q : Bool) → x.mem ≡ m → Targeted x a b c → meets script cmd i x ≡ q → steps_left script cmd i x ≡ rank m a b c q
steps_is script cmd i x m a b c q e ts f =
    ap (λ z. rank z (has_target System x) (has_target Tt x) (has_target Vram x) (meets script cmd i x)) e
    ∙ (ap (λ z. rank m z (has_target Tt x) (has_target Vram x) (meets script cmd i x)) ts.0
    ∙ (ap (λ z. rank m a z (has_target Vram x) (meets script cmd i x)) ts.1
    ∙ (ap (λ z. rank m a b z (meets script cmd i x)) ts.2
    ∙ ap (λ z. rank m a b c z) f)))

-- out of place with targets: so many carries
pub far : (script : Script) (cmd : Command) (i : BufId) (x : Buffer) → has_some_target x ≡ true → steps_left script cmd i x ≡ carries_left x
far script cmd i x h = ap (λ z. elim (not z && meets script cmd i x) [ true ↦ 0 | false ↦ elim z [ true ↦ carries_left x | false ↦ 4 ] ]) h

pub some_is : (x : Buffer) (a b c : Bool) → Targeted x a b c → has_some_target x ≡ ((a || b) || c)
some_is x a b c ts =
    ap (λ z. (z || has_target Tt x) || has_target Vram x) ts.0
    ∙ (ap (λ z. (a || z) || has_target Vram x) ts.1 ∙ ap (λ z. (a || b) || z) ts.2)

-- no target at all
pub none_is : (x : Buffer) → has_some_target x ≡ false → Targeted x false false false
none_is x h = by (has_target System x) (has_target Tt x) (has_target Vram x) h
  where
    by : (a b c : Bool) → ((a || b) || c) ≡ false → (a ≡ false) × (b ≡ false) × (c ≡ false)
    by true true true e = absurd (clash e)
    by true true false e = absurd (clash e)
    by true false true e = absurd (clash e)
    by true false false e = absurd (clash e)
    by false true true e = absurd (clash e)
    by false true false e = absurd (clash e)
    by false false true e = absurd (clash e)
    by false false false e = (refl, refl, refl)

-- ---- rows

pub carried_map : (P Q : Mem → Type 0) (x : Buffer) → ((m : Mem) → P m → Q m) → Carried P x → Carried Q x
carried_map P Q x h (system_tt m ts fits) = system_tt m ts (h Tt fits)
carried_map P Q x h (system_vram m ts fits) = system_vram m ts (h Vram fits)
carried_map P Q x h (system_both m ts fits) = system_both m ts (h Vram fits)
carried_map P Q x h (tt_system m ts fits) = tt_system m ts (h System fits)
carried_map P Q x h (tt_tt m ts fits) = tt_tt m ts (h Tt fits)
carried_map P Q x h (tt_vram m ts fits) = tt_vram m ts (h Vram fits)
carried_map P Q x h (vram_vram m ts fits) = vram_vram m ts (h Vram fits)
carried_map P Q x h (vram_tt m ts fits) = vram_tt m ts (h Tt fits)
carried_map P Q x h (vram_system m ts fits) = vram_system m ts (h System fits)
carried_map P Q x h (vram_both m ts fits) = vram_both m ts (h System fits)

-- the row is read from the memory type and the targets
pub carried_alike : (P : Mem → Type 0) (x y : Buffer) → y.mem ≡ x.mem → y.targets ≡ x.targets → Carried P x → Carried P y
carried_alike P x y m t row = by row
  where
    at : (a b c : Bool) → Targeted x a b c → Targeted y a b c
    at a b c ts = (ap (λ z. is_some (target_of System z)) t ∙ ts.0, ap (λ z. is_some (target_of Tt z)) t ∙ ts.1, ap (λ z. is_some (target_of Vram z)) t ∙ ts.2)

    by : Carried P x → Carried P y
    by (system_tt e ts fits) = system_tt (m ∙ e) (at false true false ts) fits
    by (system_vram e ts fits) = system_vram (m ∙ e) (at false false true ts) fits
    by (system_both e ts fits) = system_both (m ∙ e) (at false true true ts) fits
    by (tt_system e ts fits) = tt_system (m ∙ e) (at true false false ts) fits
    by (tt_tt e ts fits) = tt_tt (m ∙ e) (at false true false ts) fits
    by (tt_vram e ts fits) = tt_vram (m ∙ e) (at false false true ts) fits
    by (vram_vram e ts fits) = vram_vram (m ∙ e) (at false false true ts) fits
    by (vram_tt e ts fits) = vram_tt (m ∙ e) (at false true false ts) fits
    by (vram_system e ts fits) = vram_system (m ∙ e) (at true false false ts) fits
    by (vram_both e ts fits) = vram_both (m ∙ e) (at true true false ts) fits

module _ (script : Script) (cmd : Command) (i : BufId) where
  -- at its target the buffer meets the command
  abbrev pub MeetsAt : Buffer → Mem → Type 0
  MeetsAt x mem = meets script cmd i (at_target mem x) ≡ true

  -- the same of a buffer with the same target there
  pub meets_at : (x y : Buffer) (mem : Mem) → target_of mem y.targets ≡ target_of mem x.targets → MeetsAt x mem → MeetsAt y mem
  meets_at x y mem e h = meets_alike script cmd i (at_target mem y) (at_target mem x) refl (ap (λ o. unwrap_or o []) e) ∙ h

  pub fits_meet : (c : Course) (x : Buffer) → c.fail ≡ None → Carried (Fits script c cmd i x) x → Carried (MeetsAt x) x
  fits_meet c x fine row = carried_map (Fits script c cmd i x) (MeetsAt x) x (λ m h. h fine) row

  pub meet_fits : (c : Course) (x : Buffer) → Carried (MeetsAt x) x → Carried (Fits script c cmd i x) x
  meet_fits c x row = carried_map (MeetsAt x) (Fits script c cmd i x) x (λ m h. λ f. h) row

  -- the same targets in the same memory type
  pub fits_alike : (c : Course) (x y : Buffer) → y.mem ≡ x.mem → y.targets ≡ x.targets → Carried (Fits script c cmd i x) x → Carried (Fits script c cmd i y) y
  fits_alike c x y m t row =
      carried_map (Fits script c cmd i x) (Fits script c cmd i y) y (λ mem h. λ f. meets_at x y mem (ap (target_of mem) t) (h f)) (carried_alike (Fits script c cmd i x) x y m t row)

  -- one step nearer: in its place, or in a row further down
  pub record Nearer (x y : Buffer) : Type 0 where
    pub steps : steps_left script cmd i y + 1 ≤ steps_left script cmd i x
    pub row : (has_some_target y ≡ false) ⊎ Carried (MeetsAt y) y

  -- it stands where its last target was
  arrived : (x y : Buffer) (m mem : Mem) (a b c : Bool) → steps_left script cmd i x ≡ 1 → y.mem ≡ mem → Targeted y false false false → meets script cmd i y ≡ true → Nearer x y
  arrived x y m mem a b c was at none meet =
      let now : steps_left script cmd i y ≡ 0 = steps_is script cmd i y mem false false false true at none meet in
      record { steps = omega (arith, was, now); row = inl (some_is y false false false none) }

  pub bound_nearer : (x : Buffer) → x.mem ≡ System → has_target Tt x ≡ true → Carried (MeetsAt x) x → Nearer x (bound x)
  bound_nearer x m t (system_tt e ts fits) =
      arrived x (bound x) System Tt false true false (steps_is script cmd i x System false true false (meets script cmd i x) e ts refl) refl (ts.0, refl, ts.2)
      (meets_alike script cmd i (bound x) (at_target Tt x) refl refl ∙ fits)
  bound_nearer x m t (system_both e ts fits) =
      let was : steps_left script cmd i x ≡ 2 = steps_is script cmd i x System false true true (meets script cmd i x) e ts refl in
      let now : steps_left script cmd i (bound x) ≡ 1 = steps_is script cmd i (bound x) Tt false false true (meets script cmd i (bound x)) refl (ts.0, refl, ts.2) refl in
      record { steps = omega (arith, was, now); row = inr (tt_vram refl (ts.0, refl, ts.2) (meets_at x (bound x) Vram refl fits)) }
  bound_nearer x m t (system_vram e ts fits) = absurd (clash (sym t ∙ ts.1))
  bound_nearer x m t (tt_system e ts fits) = absurd (let z : System ≡ Tt = sym m ∙ e in cc)
  bound_nearer x m t (tt_tt e ts fits) = absurd (let z : System ≡ Tt = sym m ∙ e in cc)
  bound_nearer x m t (tt_vram e ts fits) = absurd (let z : System ≡ Tt = sym m ∙ e in cc)
  bound_nearer x m t (vram_vram e ts fits) = absurd (let z : System ≡ Vram = sym m ∙ e in cc)
  bound_nearer x m t (vram_tt e ts fits) = absurd (let z : System ≡ Vram = sym m ∙ e in cc)
  bound_nearer x m t (vram_system e ts fits) = absurd (let z : System ≡ Vram = sym m ∙ e in cc)
  bound_nearer x m t (vram_both e ts fits) = absurd (let z : System ≡ Vram = sym m ∙ e in cc)

  pub unbound_nearer : (x : Buffer) → x.mem ≡ Tt → (has_target System x || has_target Tt x) ≡ true → Carried (MeetsAt x) x → Nearer x (unbound x)
  unbound_nearer x m t (tt_system e ts fits) =
      arrived x (unbound x) Tt System true false false (steps_is script cmd i x Tt true false false (meets script cmd i x) e ts refl) refl (refl, ts.1, ts.2)
      (meets_bare script cmd i (at_target System x) (unbound x) refl refl fits)
  unbound_nearer x m t (tt_tt e ts fits) =
      let was : steps_left script cmd i x ≡ 2 = steps_is script cmd i x Tt false true false (meets script cmd i x) e ts refl in
      let now : steps_left script cmd i (unbound x) ≡ 1 = steps_is script cmd i (unbound x) System false true false (meets script cmd i (unbound x)) refl (refl, ts.1, ts.2) refl in
      record { steps = omega (arith, was, now); row = inr (system_tt refl (refl, ts.1, ts.2) (meets_at x (unbound x) Tt refl fits)) }
  unbound_nearer x m t (tt_vram e ts fits) = absurd (clash (sym t ∙ ap₂ (λ p q. p || q) ts.0 ts.1))
  unbound_nearer x m t (system_tt e ts fits) = absurd (let z : Tt ≡ System = sym m ∙ e in cc)
  unbound_nearer x m t (system_vram e ts fits) = absurd (let z : Tt ≡ System = sym m ∙ e in cc)
  unbound_nearer x m t (system_both e ts fits) = absurd (let z : Tt ≡ System = sym m ∙ e in cc)
  unbound_nearer x m t (vram_vram e ts fits) = absurd (let z : Tt ≡ Vram = sym m ∙ e in cc)
  unbound_nearer x m t (vram_tt e ts fits) = absurd (let z : Tt ≡ Vram = sym m ∙ e in cc)
  unbound_nearer x m t (vram_system e ts fits) = absurd (let z : Tt ≡ Vram = sym m ∙ e in cc)
  unbound_nearer x m t (vram_both e ts fits) = absurd (let z : Tt ≡ Vram = sym m ∙ e in cc)

  pub up_nearer : (x : Buffer) (job : JobId) → x.mem ≡ Tt → (has_target System x || has_target Tt x) ≡ false → Carried (MeetsAt x) x → Nearer x (moved Vram job x)
  up_nearer x job m t (tt_vram e ts fits) =
      arrived x (moved Vram job x) Tt Vram false false true (steps_is script cmd i x Tt false false true (meets script cmd i x) e ts refl) refl (ts.0, ts.1, refl)
      (meets_alike script cmd i (moved Vram job x) (at_target Vram x) refl refl ∙ fits)
  up_nearer x job m t (tt_system e ts fits) = absurd (clash (sym (sym t ∙ ap₂ (λ p q. p || q) ts.0 ts.1)))
  up_nearer x job m t (tt_tt e ts fits) = absurd (clash (sym (sym t ∙ ap₂ (λ p q. p || q) ts.0 ts.1)))
  up_nearer x job m t (system_tt e ts fits) = absurd (let z : Tt ≡ System = sym m ∙ e in cc)
  up_nearer x job m t (system_vram e ts fits) = absurd (let z : Tt ≡ System = sym m ∙ e in cc)
  up_nearer x job m t (system_both e ts fits) = absurd (let z : Tt ≡ System = sym m ∙ e in cc)
  up_nearer x job m t (vram_vram e ts fits) = absurd (let z : Tt ≡ Vram = sym m ∙ e in cc)
  up_nearer x job m t (vram_tt e ts fits) = absurd (let z : Tt ≡ Vram = sym m ∙ e in cc)
  up_nearer x job m t (vram_system e ts fits) = absurd (let z : Tt ≡ Vram = sym m ∙ e in cc)
  up_nearer x job m t (vram_both e ts fits) = absurd (let z : Tt ≡ Vram = sym m ∙ e in cc)

  pub across_nearer : (x : Buffer) (job : JobId) → x.mem ≡ Vram → has_target Vram x ≡ true → Carried (MeetsAt x) x → Nearer x (moved Vram job x)
  across_nearer x job m t (vram_vram e ts fits) =
      arrived x (moved Vram job x) Vram Vram false false true (steps_is script cmd i x Vram false false true (meets script cmd i x) e ts refl) refl (ts.0, ts.1, refl)
      (meets_alike script cmd i (moved Vram job x) (at_target Vram x) refl refl ∙ fits)
  across_nearer x job m t (vram_tt e ts fits) = absurd (clash (sym t ∙ ts.2))
  across_nearer x job m t (vram_system e ts fits) = absurd (clash (sym t ∙ ts.2))
  across_nearer x job m t (vram_both e ts fits) = absurd (clash (sym t ∙ ts.2))
  across_nearer x job m t (tt_system e ts fits) = absurd (let z : Vram ≡ Tt = sym m ∙ e in cc)
  across_nearer x job m t (tt_tt e ts fits) = absurd (let z : Vram ≡ Tt = sym m ∙ e in cc)
  across_nearer x job m t (tt_vram e ts fits) = absurd (let z : Vram ≡ Tt = sym m ∙ e in cc)
  across_nearer x job m t (system_tt e ts fits) = absurd (let z : Vram ≡ System = sym m ∙ e in cc)
  across_nearer x job m t (system_vram e ts fits) = absurd (let z : Vram ≡ System = sym m ∙ e in cc)
  across_nearer x job m t (system_both e ts fits) = absurd (let z : Vram ≡ System = sym m ∙ e in cc)

  pub down_nearer : (x : Buffer) (job : JobId) → x.mem ≡ Vram → has_target Vram x ≡ false → has_target Tt x ≡ true → Carried (MeetsAt x) x → Nearer x (moved Tt job x)
  down_nearer x job m v t (vram_tt e ts fits) =
      arrived x (moved Tt job x) Vram Tt false true false (steps_is script cmd i x Vram false true false (meets script cmd i x) e ts refl) refl (ts.0, refl, ts.2)
      (meets_alike script cmd i (moved Tt job x) (at_target Tt x) refl refl ∙ fits)
  down_nearer x job m v t (vram_both e ts fits) =
      let was : steps_left script cmd i x ≡ 2 = steps_is script cmd i x Vram true true false (meets script cmd i x) e ts refl in
      let now : steps_left script cmd i (moved Tt job x) ≡ 1 = steps_is script cmd i (moved Tt job x) Tt true false false (meets script cmd i (moved Tt job x)) refl (ts.0, refl, ts.2) refl in
      record { steps = omega (arith, was, now); row = inr (tt_system refl (ts.0, refl, ts.2) (meets_at x (moved Tt job x) System refl fits)) }
  down_nearer x job m v t (vram_vram e ts fits) = absurd (clash (sym ts.2 ∙ v))
  down_nearer x job m v t (vram_system e ts fits) = absurd (clash (sym t ∙ ts.1))
  down_nearer x job m v t (tt_system e ts fits) = absurd (let z : Vram ≡ Tt = sym m ∙ e in cc)
  down_nearer x job m v t (tt_tt e ts fits) = absurd (let z : Vram ≡ Tt = sym m ∙ e in cc)
  down_nearer x job m v t (tt_vram e ts fits) = absurd (let z : Vram ≡ Tt = sym m ∙ e in cc)
  down_nearer x job m v t (system_tt e ts fits) = absurd (let z : Vram ≡ System = sym m ∙ e in cc)
  down_nearer x job m v t (system_vram e ts fits) = absurd (let z : Vram ≡ System = sym m ∙ e in cc)
  down_nearer x job m v t (system_both e ts fits) = absurd (let z : Vram ≡ System = sym m ∙ e in cc)
