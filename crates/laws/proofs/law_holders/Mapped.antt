-- The aperture maps each page that a buffer in TT or a ghost has, to the frame at the same place.
use Rattle.std.proofs.Common.{◌≡◌, ℕ, ◌+◌, ◌≤◌, zero, suc, Bool, true, false, List, [], ◌∷◌, ◌++◌, Option, Some, None, refl, sym, subst, ◌∙◌, ap, ap₂, arith, ◌⊎◌, inl, inr, ⊎_elim}
use Rattle.std.specs.Prelude.{slice_get, zip, find, flat_map, filter_map, nat_lt, option_map, option_and_then, ◌==◌, if◌then◌else◌}
use Rattle.std.proofs.lemmas.Bool.{cases_eq, eqb-true, eq-eqb}
use Rattle.ttm_base.specs.declared.Mem.{Mem}
use Rattle.ttm_base.specs.declared.Mem.TheVariants.{System, Tt, Vram}
use Rattle.ttm_base.specs.declared.Loc.{Loc}
use Rattle.ttm_base.specs.declared.Loc.TheVariants as loc
use Rattle.ttm_base.specs.Reach.{same_mem}
use Rattle.journal_model.specs.declared.script.Script.{Script}
use Rattle.journal_model.specs.declared.state.Core.{Core}
use Rattle.journal_model.specs.declared.state.Buffer.{Buffer}
use Rattle.journal_model.specs.declared.state.Ghost.{Ghost}
use Rattle.journal_model.specs.rules.Places.{pages_of, frame_of, mapped_frame, mapped_in, mapped_pages, aperture}
use Rattle.journal_model.specs.rules.Holds.{spans_in}
use Rattle.laws.proofs.law_owners.Counts.{one, times, stands, summed, weigh}
use Rattle.laws.proofs.law_owners.Weights.{tt_pages, of_buffer, of_ghost, weight}
use Rattle.laws.proofs.law_owners.Law.{AreHeldOnce}
use Rattle.laws.specs.law_holders.Maps.{BufferMaps, GhostMaps, Maps}
use Rattle.laws.proofs.law_holders.Positions.{times_at, same_at, in_sum, two_in_sum, in_list, two_in_list}

-- ---- elements of lists

abbrev In : {X : Type 0} → X → List X → Type 0
In x [] = ⊥
In x (y ∷ ys) = (y ≡ x) ⊎ In x ys

in_found : {X : Type 0} (q : X → Bool) (xs : List X) (x : X) → find q xs ≡ Some x → In x xs × (q x ≡ true)
in_found q [] x e = cc
in_found q (y ∷ ys) x e = by (q y) refl (in_found q ys x) e
  where
    by : (t : Bool) → q y ≡ t → (find q ys ≡ Some x → In x ys × (q x ≡ true)) → (if t then Some y else find q ys) ≡ Some x → In x (y ∷ ys) × (q x ≡ true)
    by true t rest f = let same : y ≡ x = cc in (inl same, subst (λ z. q z ≡ true) same t)
    by false t rest f = let r = rest f in (inr r.0, r.1)

is_found : {X : Type 0} (q : X → Bool) (xs : List X) (x : X) → In x xs → q x ≡ true → (y : X) × (find q xs ≡ Some y)
is_found q [] x h t = absurd h
is_found q (y ∷ ys) x h t = by (q y) refl (λ r. is_found q ys x r t) h
  where
    by : (u : Bool) → q y ≡ u → (In x ys → (z : _) × (find q ys ≡ Some z)) → (y ≡ x) ⊎ In x ys → (z : _) × ((if u then Some y else find q ys) ≡ Some z)
    by true u rest h = (y, refl)
    by false u rest (inl e) = absurd (clash (q y) (q x) u t (ap q e))
      where
        clash : (a b : Bool) → a ≡ false → b ≡ true → a ≡ b → ⊥
        clash a b e f g = cc
    by false u rest (inr r) = rest r

in_either : {X : Type 0} (x : X) (xs ys : List X) → In x (xs ++ ys) → In x xs ⊎ In x ys
in_either x [] ys h = inr h
in_either x (z ∷ zs) ys (inl e) = inl (inl e)
in_either x (z ∷ zs) ys (inr h) = ⊎_elim (λ a. inl (inr a)) (λ b. inr b) (in_either x zs ys h)

in_left : {X : Type 0} (x : X) (xs ys : List X) → In x xs → In x (xs ++ ys)
in_left x [] ys h = absurd h
in_left x (z ∷ zs) ys (inl e) = inl e
in_left x (z ∷ zs) ys (inr h) = inr (in_left x zs ys h)

in_right : {X : Type 0} (x : X) (xs ys : List X) → In x ys → In x (xs ++ ys)
in_right x [] ys h = h
in_right x (z ∷ zs) ys h = inr (in_right x zs ys h)

in_flat : {X Y : Type 0} (g : X → List Y) (y : Y) (xs : List X) → In y (flat_map g xs) → (x : X) × In x xs × In y (g x)
in_flat g y [] h = absurd h
in_flat g y (x ∷ xs) h = ⊎_elim (λ a. (x, inl refl, a)) (λ b. let r = in_flat g y xs b in (r.0, inr r.1, r.2)) (in_either y (g x) (flat_map g xs) h)

to_flat : {X Y : Type 0} (g : X → List Y) (y : Y) (xs : List X) (x : X) → In x xs → In y (g x) → In y (flat_map g xs)
to_flat g y [] x h k = absurd h
to_flat g y (z ∷ zs) x (inl e) k = in_left y (g z) (flat_map g zs) (subst (λ w. In y (g w)) (sym e) k)
to_flat g y (z ∷ zs) x (inr h) k = in_right y (g z) (flat_map g zs) (to_flat g y zs x h k)

in_live : {X : Type 0} (x : X) (os : List (Option X)) → In x (filter_map (λ o. o) os) → (i : ℕ) × (option_and_then (λ o. o) (slice_get os i) ≡ Some x)
in_live x [] h = absurd h
in_live x (None ∷ os) h = let r = in_live x os h in (suc r.0, r.1)
in_live x (Some y ∷ os) (inl e) = (0, ap Some e)
in_live x (Some y ∷ os) (inr h) = let r = in_live x os h in (suc r.0, r.1)

to_live : {X : Type 0} (x : X) (os : List (Option X)) (i : ℕ) → option_and_then (λ o. o) (slice_get os i) ≡ Some x → In x (filter_map (λ o. o) os)
to_live x [] i e = cc
to_live x (None ∷ os) zero e = cc
to_live x (Some y ∷ os) zero e = let same : y ≡ x = cc in inl same
to_live x (None ∷ os) (suc i) e = to_live x os i e
to_live x (Some y ∷ os) (suc i) e = inr (to_live x os i e)

in_at : {X : Type 0} (x : X) (xs : List X) → In x xs → (i : ℕ) × (slice_get xs i ≡ Some x)
in_at x [] h = absurd h
in_at x (y ∷ ys) (inl e) = (0, ap Some e)
in_at x (y ∷ ys) (inr h) = let r = in_at x ys h in (suc r.0, r.1)

to_in : {X : Type 0} (x : X) (xs : List X) (i : ℕ) → slice_get xs i ≡ Some x → In x xs
to_in x [] i e = cc
to_in x (y ∷ ys) zero e = let same : y ≡ x = cc in inl same
to_in x (y ∷ ys) (suc i) e = inr (to_in x ys i e)

-- ---- pages beside frames

is_frame_at : (l : Loc) (f : ℕ) → frame_of l ≡ Some f → l ≡ loc.Frame f
is_frame_at (loc.Frame g) f e = let same : g ≡ f = cc in ap loc.Frame same
is_frame_at (loc.Slot k) f e = cc
is_frame_at loc.Zero f e = cc

abbrev pub AtBoth : {X : Type 0} → List ℕ → List X → ℕ → X → Type 0
AtBoth ns xs p x = (k : ℕ) × (slice_get ns k ≡ Some p) × (slice_get xs k ≡ Some x)

in_table : (ns : List ℕ) (table : List Loc) (p f : ℕ) → In (p, f) (filter_map mapped_frame (zip ns table)) → AtBoth ns table p (loc.Frame f)
in_table [] table p f h = absurd h
in_table (n ∷ ns) [] p f h = absurd h
in_table (n ∷ ns) (loc.Frame g ∷ table) p f (inl e) = let a : n ≡ p = ap (λ (z : ℕ × ℕ). z.0) e in let b : g ≡ f = ap (λ (z : ℕ × ℕ). z.1) e in (0, ap Some a, ap (λ m. Some (loc.Frame m)) b)
in_table (n ∷ ns) (loc.Frame g ∷ table) p f (inr h) = let r = in_table ns table p f h in (suc r.0, r.1, r.2)
in_table (n ∷ ns) (loc.Slot g ∷ table) p f h = let r = in_table ns table p f h in (suc r.0, r.1, r.2)
in_table (n ∷ ns) (loc.Zero ∷ table) p f h = let r = in_table ns table p f h in (suc r.0, r.1, r.2)

to_table : (ns : List ℕ) (table : List Loc) (p f k : ℕ) → slice_get ns k ≡ Some p → slice_get table k ≡ Some (loc.Frame f) → In (p, f) (filter_map mapped_frame (zip ns table))
to_table [] table p f k e g = cc
to_table (n ∷ ns) [] p f k e g = cc
to_table (n ∷ ns) (l ∷ table) p f zero e g =
    let a : n ≡ p = cc in let b : l ≡ loc.Frame f = cc in subst (λ m. In (p, f) (filter_map mapped_frame (zip (n ∷ ns) (m ∷ table)))) (sym b) (inl (ap (λ m. (m, f)) a))
to_table (n ∷ ns) (loc.Frame m ∷ table) p f (suc k) e g = inr (to_table ns table p f k e g)
to_table (n ∷ ns) (loc.Slot m ∷ table) p f (suc k) e g = to_table ns table p f k e g
to_table (n ∷ ns) (loc.Zero ∷ table) p f (suc k) e g = to_table ns table p f k e g

in_zip : (ns fs : List ℕ) (p f : ℕ) → In (p, f) (zip ns fs) → AtBoth ns fs p f
in_zip [] fs p f h = absurd h
in_zip (n ∷ ns) [] p f h = absurd h
in_zip (n ∷ ns) (g ∷ fs) p f (inl e) = let a : n ≡ p = ap (λ (z : ℕ × ℕ). z.0) e in let b : g ≡ f = ap (λ (z : ℕ × ℕ). z.1) e in (0, ap Some a, ap Some b)
in_zip (n ∷ ns) (g ∷ fs) p f (inr h) = let r = in_zip ns fs p f h in (suc r.0, r.1, r.2)

to_zip : (ns fs : List ℕ) (p f k : ℕ) → slice_get ns k ≡ Some p → slice_get fs k ≡ Some f → In (p, f) (zip ns fs)
to_zip [] fs p f k e g = cc
to_zip (n ∷ ns) [] p f k e g = cc
to_zip (n ∷ ns) (m ∷ fs) p f zero e g = let a : n ≡ p = cc in let b : m ≡ f = cc in inl (ap₂ (λ (x y : ℕ). (x, y)) a b)
to_zip (n ∷ ns) (m ∷ fs) p f (suc k) e g = inr (to_zip ns fs p f k e g)

-- ---- buffers and ghosts

in_buffer : (x : Buffer) (p f : ℕ) → In (p, f) (mapped_in x.mem x) → (x.mem ≡ Tt) × AtBoth (pages_of x.spans) x.table p (loc.Frame f)
in_buffer x p f h = by x.mem h
  where
    by : (m : Mem) → In (p, f) (mapped_in m x) → (m ≡ Tt) × AtBoth (pages_of x.spans) x.table p (loc.Frame f)
    by Tt h = (refl, in_table (pages_of x.spans) x.table p f h)
    by Vram h = absurd h
    by System h = absurd h

to_buffer : (x : Buffer) (p f k : ℕ) → x.mem ≡ Tt → slice_get (pages_of x.spans) k ≡ Some p → slice_get x.table k ≡ Some (loc.Frame f) → In (p, f) (mapped_in x.mem x)
to_buffer x p f k m e g = subst (λ m. In (p, f) (mapped_in m x)) (sym m) (to_table (pages_of x.spans) x.table p f k e g)

in_mapped : (c : Core) (p f : ℕ) → In (p, f) (mapped_pages c) → Maps c p f
in_mapped c p f h =
    ⊎_elim
    (λ a.
    let r = in_flat (λ (x : Buffer). mapped_in x.mem x) (p, f) (filter_map (λ x. x) c.buffers) a in
    let l = in_live r.0 c.buffers r.1 in
    let m = in_buffer r.0 p f r.2 in
    inl (record { b = record { 0 = l.0 }; buffer = r.0; live = l.1; mem = m.0; at = m.1.0; here = m.1.1; there = m.1.2 }))
    (λ b.
    let r = in_flat (λ (g : Ghost). zip (pages_of g.tt) g.frames) (p, f) c.ghosts b in
    let l = in_at r.0 c.ghosts r.1 in
    let m = in_zip (pages_of r.0.tt) r.0.frames p f r.2 in
    inr (record { place = l.0; ghost = r.0; is = l.1; at = m.0; here = m.1; there = m.2 }))
    (in_either (p, f) (flat_map (λ (x : Buffer). mapped_in x.mem x) (filter_map (λ x. x) c.buffers)) (flat_map (λ (g : Ghost). zip (pages_of g.tt) g.frames) c.ghosts) h)

to_mapped : (c : Core) (p f : ℕ) → Maps c p f → In (p, f) (mapped_pages c)
to_mapped c p f (inl m) =
    in_left (p, f) (flat_map (λ (x : Buffer). mapped_in x.mem x) (filter_map (λ x. x) c.buffers)) (flat_map (λ (g : Ghost). zip (pages_of g.tt) g.frames) c.ghosts)
    (to_flat (λ (x : Buffer). mapped_in x.mem x) (p, f) (filter_map (λ x. x) c.buffers) m.buffer (to_live m.buffer c.buffers m.b.0 m.live) (to_buffer m.buffer p f m.at m.mem m.here m.there))
to_mapped c p f (inr m) =
    in_right (p, f) (flat_map (λ (x : Buffer). mapped_in x.mem x) (filter_map (λ x. x) c.buffers)) (flat_map (λ (g : Ghost). zip (pages_of g.tt) g.frames) c.ghosts)
    (to_flat (λ (g : Ghost). zip (pages_of g.tt) g.frames) (p, f) c.ghosts m.ghost (to_in m.ghost c.ghosts m.place m.is) (to_zip (pages_of m.ghost.tt) m.ghost.frames p f m.at m.here m.there))

-- ---- a page is mapped once

module _ (script : Script) (c : Core) (once : AreHeldOnce script c) (p : ℕ) where
  few : weight tt_pages p c ≤ 1
  few = by (weight tt_pages p c) (nat_lt p script.sizes.tt) (once tt_pages p)
    where
      by : (w : ℕ) (q : Bool) → w ≤ one q → w ≤ 1
      by w true h = h
      by w false h = omega (arith, h)

  all_few : summed (weigh (of_buffer tt_pages p)) c.buffers + summed (of_ghost tt_pages p) c.ghosts ≤ 1
  all_few = few

  own_spans : (x : Buffer) → x.mem ≡ Tt → spans_in Tt x ≡ x.spans
  own_spans x e = by x.mem e
    where
      by : (m : Mem) → m ≡ Tt → (if same_mem m Tt then x.spans else []) ≡ x.spans
      by Tt e = refl
      by Vram e = cc
      by System e = cc

  buffer_weighs : (f : ℕ) (m : BufferMaps c p f) → 1 ≤ weigh (of_buffer tt_pages p) (option_and_then (λ o. o) (slice_get c.buffers m.b.0))
  buffer_weighs f m =
      subst (λ o. 1 ≤ weigh (of_buffer tt_pages p) o) (sym m.live)
      (let a : 1 ≤ stands p (spans_in Tt m.buffer) = subst (λ ss. 1 ≤ stands p ss) (sym (own_spans m.buffer m.mem)) (times_at p (pages_of m.buffer.spans) m.at m.here) in omega (arith, a))

  buffer_few : (f : ℕ) (m : BufferMaps c p f) → times p (pages_of m.buffer.spans) ≤ 1
  buffer_few f m =
      let s = in_sum (of_buffer tt_pages p) c.buffers m.b.0 in
      let w : weigh (of_buffer tt_pages p) (option_and_then (λ o. o) (slice_get c.buffers m.b.0)) ≡ of_buffer tt_pages p m.buffer = ap (weigh (of_buffer tt_pages p)) m.live in
      let e : stands p (spans_in Tt m.buffer) ≡ stands p m.buffer.spans = ap (stands p) (own_spans m.buffer m.mem) in
      let l = all_few in
      omega (arith, s, w, e, l)

  ghost_weighs : (f : ℕ) (m : GhostMaps c p f) → 1 ≤ of_ghost tt_pages p m.ghost
  ghost_weighs f m = times_at p (pages_of m.ghost.tt) m.at m.here

  ghost_few : (f : ℕ) (m : GhostMaps c p f) → times p (pages_of m.ghost.tt) ≤ 1
  ghost_few f m = let s = in_list (of_ghost tt_pages p) c.ghosts m.place m.ghost m.is in let l = all_few in omega (arith, s, l)

  pub maps_once : (f g : ℕ) → Maps c p f → Maps c p g → f ≡ g
  maps_once f g (inl m) (inl n) =
      ⊎_elim
      (λ e.
      let both : Some m.buffer ≡ Some n.buffer = sym m.live ∙ ap (λ i. option_and_then (λ o. o) (slice_get c.buffers i)) e ∙ n.live in
      let is : m.buffer ≡ n.buffer = cc in
      let at = same_at p (pages_of m.buffer.spans) m.at n.at (buffer_few f m) m.here (ap (λ (x : Buffer). slice_get (pages_of x.spans) n.at) is ∙ n.here) in
      let two : Some (loc.Frame f) ≡ Some (loc.Frame g) = sym m.there ∙ ap (slice_get m.buffer.table) at ∙ ap (λ (x : Buffer). slice_get x.table n.at) is ∙ n.there in
      cc)
      (λ ne. let s = two_in_sum (of_buffer tt_pages p) c.buffers m.b.0 n.b.0 ne in let a = buffer_weighs f m in let b = buffer_weighs g n in let l = all_few in absurd (omega (arith, s, a, b, l)))
      (cases_eq m.b.0 n.b.0)
  maps_once f g (inl m) (inr n) =
      let s = in_sum (of_buffer tt_pages p) c.buffers m.b.0 in
      let t = in_list (of_ghost tt_pages p) c.ghosts n.place n.ghost n.is in
      let a = buffer_weighs f m in
      let b = ghost_weighs g n in
      let l = all_few in
      absurd (omega (arith, s, t, a, b, l))
  maps_once f g (inr m) (inl n) =
      let s = in_sum (of_buffer tt_pages p) c.buffers n.b.0 in
      let t = in_list (of_ghost tt_pages p) c.ghosts m.place m.ghost m.is in
      let a = buffer_weighs g n in
      let b = ghost_weighs f m in
      let l = all_few in
      absurd (omega (arith, s, t, a, b, l))
  maps_once f g (inr m) (inr n) =
      ⊎_elim
      (λ e.
      let both : Some m.ghost ≡ Some n.ghost = sym m.is ∙ ap (slice_get c.ghosts) e ∙ n.is in
      let is : m.ghost ≡ n.ghost = cc in
      let at = same_at p (pages_of m.ghost.tt) m.at n.at (ghost_few f m) m.here (ap (λ (x : Ghost). slice_get (pages_of x.tt) n.at) is ∙ n.here) in
      let two : Some f ≡ Some g = sym m.there ∙ ap (slice_get m.ghost.frames) at ∙ ap (λ (x : Ghost). slice_get x.frames n.at) is ∙ n.there in
      cc)
      (λ ne.
      let s = two_in_list (of_ghost tt_pages p) c.ghosts m.place n.place m.ghost n.ghost ne m.is n.is in
      let a = ghost_weighs f m in
      let b = ghost_weighs g n in
      let l = all_few in
      absurd (omega (arith, s, a, b, l)))
      (cases_eq m.place n.place)

-- ---- the aperture

pub aperture_maps : (c : Core) (p f : ℕ) → aperture c p ≡ Some f → Maps c p f
aperture_maps c p f h = by (find (λ e. e.0 == p) (mapped_pages c)) refl h
  where
    by : (o : Option (ℕ × ℕ)) → find (λ e. e.0 == p) (mapped_pages c) ≡ o → option_map (λ e. e.1) o ≡ Some f → Maps c p f
    by None q g = cc
    by (Some e) q g =
        let r = in_found (λ e. e.0 == p) (mapped_pages c) e q in
        let a : e.0 ≡ p = eqb-true e.0 p r.1 in
        let b : e.1 ≡ f = cc in
        in_mapped c p f (subst (λ z. In z (mapped_pages c)) (ap₂ (λ (x y : ℕ). (x, y)) a b) r.0)

pub maps_aperture : (script : Script) (c : Core) → AreHeldOnce script c → (p f : ℕ) → Maps c p f → aperture c p ≡ Some f
maps_aperture script c once p f m =
    let r = is_found (λ e. e.0 == p) (mapped_pages c) (p, f) (to_mapped c p f m) (eq-eqb p p refl) in
    let is : aperture c p ≡ Some r.0.1 = ap (option_map (λ e. e.1)) r.1 in
    is ∙ ap Some (maps_once script c once p r.0.1 f (aperture_maps c p r.0.1 is) m)
