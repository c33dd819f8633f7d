-- Each page of TT has one holder: a buffer, a target or a ghost; and all held pages are within the size.
use Rattle.std.proofs.Common.{◌≡◌, ℕ, ◌+◌, ◌<◌, ◌≤◌, Bool, true, false, List, [], ◌∷◌, ◌++◌, Some, IsTrue, refl, sym, subst, arith, ⊎_elim, inl, inr}
use Rattle.std.specs.Prelude.{slice_get, nat_lt, option_and_then, if◌then◌else◌}
use Rattle.std.proofs.lemmas.Bool.{cases_eq}
use Rattle.std.proofs.lemmas.Bool.Decides.{nat_tests}
use Rattle.ttm_base.specs.declared.Mem.{Mem}
use Rattle.ttm_base.specs.declared.Mem.TheVariants.{System, Tt, Vram}
use Rattle.ttm_base.specs.declared.BufId.{BufId}
use Rattle.ttm_base.specs.Reach.{same_mem}
use Rattle.journal_model.specs.declared.script.Script.{Script}
use Rattle.journal_model.specs.declared.entry.Entry.{Entry}
use Rattle.journal_model.specs.declared.state.Buffer.{Buffer}
use Rattle.journal_model.specs.declared.state.Core.{Core}
use Rattle.journal_model.specs.declared.state.Ghost.{Ghost}
use Rattle.journal_model.specs.rules.State.{live_in, target_spans}
use Rattle.journal_model.specs.rules.Apply.{apply}
use Rattle.journal_model.specs.rules.Legal.{World, IsLegal, IsLegalNext, state_of, world_of}
use Rattle.journal_model.specs.rules.Places.{pages_of}
use Rattle.journal_model.specs.rules.Holds.{spans_in}
use Rattle.journal_model.specs.scripts.ScriptRules.{is_script}
use Rattle.journal_model.proofs.JournalLaws.{world_of-append, IsLegal-append}
use Rattle.laws.proofs.law_owners.Counts.{one, stands, summed, weigh}
use Rattle.laws.proofs.law_owners.Weights.{tt_pages, of_buffer, of_ghost, weight}
use Rattle.laws.proofs.law_owners.Law.{AreHeldOnce, once_law}
use Rattle.laws.specs.law_holders.Maps.{Maps}
use Rattle.laws.proofs.law_holders.Positions.{times_at, in_sum, two_in_sum, in_list, two_in_list}

-- ---- from legal journals

-- pages are held once after a legal entry
pub held_after : (script : Script) (journal : List Entry) (e : Entry) → IsTrue (is_script script) → IsLegal script journal → IsLegalNext script (world_of script journal) e
    → AreHeldOnce script (apply script (state_of script journal) e).core
held_after script journal e fits legal next =
    subst (λ (w : World). AreHeldOnce script w.state.core) (world_of-append script journal e) (once_law script (journal ++ e ∷ []) fits (IsLegal-append script journal e legal next))

-- ---- how often a page of TT is held

-- a buffer in TT holds its spans there
pub own_spans : (x : Buffer) → x.mem ≡ Tt → spans_in Tt x ≡ x.spans
own_spans x e = by x.mem e
  where
    by : (m : Mem) → m ≡ Tt → (if same_mem m Tt then x.spans else []) ≡ x.spans
    by Tt e = refl
    by Vram e = cc
    by System e = cc

-- a buffer that holds a page of TT is in TT
pub is_in_tt : (x : Buffer) (k p : ℕ) → slice_get (pages_of (spans_in Tt x)) k ≡ Some p → x.mem ≡ Tt
is_in_tt x k p h = by x.mem h
  where
    by : (m : Mem) → slice_get (pages_of (if same_mem m Tt then x.spans else [])) k ≡ Some p → m ≡ Tt
    by Tt e = refl
    by Vram e = cc
    by System e = cc

buffer_weighs : (x : Buffer) (k p : ℕ) → x.mem ≡ Tt → slice_get (pages_of x.spans) k ≡ Some p → 1 ≤ of_buffer tt_pages p x
buffer_weighs x k p m h = let a : 1 ≤ stands p (spans_in Tt x) = subst (λ ss. 1 ≤ stands p ss) (sym (own_spans x m)) (times_at p (pages_of x.spans) k h) in omega (arith, a)

target_weighs : (x : Buffer) (k p : ℕ) → slice_get (pages_of (target_spans Tt x)) k ≡ Some p → 1 ≤ of_buffer tt_pages p x
target_weighs x k p h = let a : 1 ≤ stands p (target_spans Tt x) = times_at p (pages_of (target_spans Tt x)) k h in omega (arith, a)

ghost_weighs : (g : Ghost) (k p : ℕ) → slice_get (pages_of g.tt) k ≡ Some p → 1 ≤ of_ghost tt_pages p g
ghost_weighs g k p h = times_at p (pages_of g.tt) k h

less : (x y : ℕ) → nat_lt x y ≡ true → x < y
less x y h = grind (arith, nat_tests)

module _ (script : Script) (c : Core) (once : AreHeldOnce script c) (p : ℕ) where
  abbrev all : ℕ
  all = summed (weigh (of_buffer tt_pages p)) c.buffers + summed (of_ghost tt_pages p) c.ghosts

  few : all ≤ 1
  few = by (weight tt_pages p c) (nat_lt p script.sizes.tt) (once tt_pages p)
    where
      by : (w : ℕ) (q : Bool) → w ≤ one q → w ≤ 1
      by w true h = h
      by w false h = omega (arith, h)

  inside : 1 ≤ all → p < script.sizes.tt
  inside h = by (weight tt_pages p c) (nat_lt p script.sizes.tt) refl (once tt_pages p) h
    where
      by : (w : ℕ) (q : Bool) → nat_lt p script.sizes.tt ≡ q → w ≤ one q → 1 ≤ w → p < script.sizes.tt
      by w true e l h = less p script.sizes.tt e
      by w false e l h = absurd (omega (arith, l, h))

  weighs : (b : BufId) (x : Buffer) → live_in c.buffers b ≡ Some x → 1 ≤ of_buffer tt_pages p x → 1 ≤ weigh (of_buffer tt_pages p) (option_and_then (λ o. o) (slice_get c.buffers b.0))
  weighs b x live h = subst (λ o. 1 ≤ weigh (of_buffer tt_pages p) o) (sym live) h

  -- two buffers in TT with one page are one
  pub alone_buffers : (b d : BufId) (x y : Buffer) (k j : ℕ) → live_in c.buffers b ≡ Some x → live_in c.buffers d ≡ Some y → x.mem ≡ Tt → y.mem ≡ Tt
      → slice_get (pages_of x.spans) k ≡ Some p → slice_get (pages_of y.spans) j ≡ Some p → b.0 ≡ d.0
  alone_buffers b d x y k j live live' m m' h h' =
      ⊎_elim (λ e. e)
      (λ ne.
      let s = two_in_sum (of_buffer tt_pages p) c.buffers b.0 d.0 ne in
      let u = weighs b x live (buffer_weighs x k p m h) in
      let v = weighs d y live' (buffer_weighs y j p m' h') in
      let l = few in
      absurd (omega (arith, s, u, v, l)))
      (cases_eq b.0 d.0)

  -- a buffer in TT and a ghost have no page in common
  pub alone_beside : (b : BufId) (x : Buffer) (k i j : ℕ) (g : Ghost) → live_in c.buffers b ≡ Some x → x.mem ≡ Tt → slice_get (pages_of x.spans) k ≡ Some p
      → slice_get c.ghosts i ≡ Some g → slice_get (pages_of g.tt) j ≡ Some p → ⊥
  alone_beside b x k i j g live m h is h' =
      let s = in_sum (of_buffer tt_pages p) c.buffers b.0 in
      let t = in_list (of_ghost tt_pages p) c.ghosts i g is in
      let u = weighs b x live (buffer_weighs x k p m h) in
      let v = ghost_weighs g j p h' in
      let l = few in
      omega (arith, s, t, u, v, l)

  -- two ghosts with one page are one
  pub alone_ghosts : (i j k n : ℕ) (g h : Ghost) → slice_get c.ghosts i ≡ Some g → slice_get c.ghosts j ≡ Some h → slice_get (pages_of g.tt) k ≡ Some p → slice_get (pages_of h.tt) n ≡ Some p → i ≡ j
  alone_ghosts i j k n g h is is' at at' =
      ⊎_elim (λ e. e)
      (λ ne.
      let s = two_in_list (of_ghost tt_pages p) c.ghosts i j g h ne is is' in
      let u = ghost_weighs g k p at in
      let v = ghost_weighs h n p at' in
      let l = few in
      absurd (omega (arith, s, u, v, l)))
      (cases_eq i j)

  -- a page of a buffer in TT is within the size
  pub buffer_inside : (b : BufId) (x : Buffer) (k : ℕ) → live_in c.buffers b ≡ Some x → x.mem ≡ Tt → slice_get (pages_of x.spans) k ≡ Some p → p < script.sizes.tt
  buffer_inside b x k live m h = let s = in_sum (of_buffer tt_pages p) c.buffers b.0 in let u = weighs b x live (buffer_weighs x k p m h) in inside (omega (arith, s, u))

  -- and so is a page of a target
  pub target_inside : (b : BufId) (x : Buffer) (k : ℕ) → live_in c.buffers b ≡ Some x → slice_get (pages_of (target_spans Tt x)) k ≡ Some p → p < script.sizes.tt
  target_inside b x k live h = let s = in_sum (of_buffer tt_pages p) c.buffers b.0 in let u = weighs b x live (target_weighs x k p h) in inside (omega (arith, s, u))

  -- and one of a ghost
  pub ghost_inside : (i k : ℕ) (g : Ghost) → slice_get c.ghosts i ≡ Some g → slice_get (pages_of g.tt) k ≡ Some p → p < script.sizes.tt
  ghost_inside i k g is h = let s = in_list (of_ghost tt_pages p) c.ghosts i g is in let u = ghost_weighs g k p h in inside (omega (arith, s, u))

  -- what is mapped is within the size
  pub maps_inside : (f : ℕ) → Maps c p f → p < script.sizes.tt
  maps_inside f (inl m) = buffer_inside m.b m.buffer m.at m.live m.mem m.here
  maps_inside f (inr m) = ghost_inside m.place m.at m.ghost m.is m.here
