-- The jobs in rings wait for sets of as many contexts as there are rings, whatever becomes of the rings.
use Rattle.std.proofs.Common.{◌≡◌, ℕ, ◌<◌, ◌^◌, List, [], ◌∷◌, Some, length, set, replicate, sym, subst}
use Rattle.std.proofs.lemmas.List.{length-replicate, length-set}
use Rattle.std.proofs.lemmas.List.Elements.{All-nil, All-cons, All-head, All-tail, All-replicate, All-get_or, All-set}
use Rattle.std.specs.Prelude.{All, slice_get}
use Rattle.copy_engine.specs.Pushes.{Pushed, ring_of, head_of, head_ran, after_packet_of}
use Rattle.copy_engine.specs.Sound.{AreWide, AreSound}

pub sound_new : (contexts : ℕ) → contexts < 2 ^ 32 → AreSound (replicate contexts [])
sound_new contexts h =
    let none : List Pushed = [] in
    record {
      wide = All-replicate (AreWide (length (replicate contexts none))) contexts none (All-nil (λ (pushed : Pushed). length pushed.waits ≡ length (replicate contexts none)));
      few = rw (length-replicate {A = List Pushed} contexts none) h;
    }

pub sound_set : (rings : List (List Pushed)) (ctx : ℕ) (ring : List Pushed) → AreSound rings → AreWide (length rings) ring → AreSound (set rings ctx ring)
sound_set rings ctx ring s w =
    let Wide : ℕ → Type 0 = λ n. All (AreWide n) (set rings ctx ring) in
    let Few : ℕ → Type 0 = λ n. n < 2 ^ 32 in
    record {
      wide = subst Wide (sym (length-set rings ctx ring)) (All-set (AreWide (length rings)) rings ctx ring w s.wide);
      few = subst Few (sym (length-set rings ctx ring)) s.few;
    }

-- one ring
pub wide_ring : (rings : List (List Pushed)) (ctx : ℕ) → ctx < length rings → AreSound rings → AreWide (length rings) (ring_of rings ctx)
wide_ring rings ctx h s = All-get_or (AreWide (length rings)) rings ctx [] h s.wide

pub wide_ran : (contexts : ℕ) (ring : List Pushed) → AreWide contexts ring → AreWide contexts (head_ran ring)
wide_ran contexts [] w = w
wide_ran contexts (pushed ∷ ring) w =
    let P : Pushed → Type 0 = λ (pushed : Pushed). length pushed.waits ≡ contexts in
    All-cons P (after_packet_of pushed) ring (All-head P pushed ring w) (All-tail P pushed ring w)

-- the head of a ring, if there is one
wide_first : (contexts : ℕ) (pushed : Pushed) (ring : List Pushed) → AreWide contexts ring → slice_get ring 0 ≡ Some pushed → length pushed.waits ≡ contexts
wide_first contexts pushed [] w e = cc
wide_first contexts pushed (first ∷ ring) w e =
    let same : first ≡ pushed = cc in
    let Wide : Pushed → Type 0 = λ x. length x.waits ≡ contexts in
    subst Wide same (All-head Wide first ring w)

pub wide_head : (rings : List (List Pushed)) (ctx : ℕ) (pushed : Pushed) → AreSound rings → ctx < length rings → head_of rings ctx ≡ Some pushed
    → length pushed.waits ≡ length rings
wide_head rings ctx pushed s h e = wide_first (length rings) pushed (ring_of rings ctx) (wide_ring rings ctx h s) e
