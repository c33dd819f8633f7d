-- What a legal move tells: between VRAM and TT, of a live buffer, and what it leaves.
use Rattle.std.proofs.Common.{◌≡◌, ◌≢◌, ℕ, zero, suc, ◌+◌, List, [], ◌∷◌, length, refl, sym, ◌∙◌, ap}
use Rattle.std.specs.Prelude.{map}
use Rattle.ttm_base.specs.declared.BufId.{BufId}
use Rattle.ttm_base.specs.declared.Mem.{Mem}
use Rattle.ttm_base.specs.declared.Mem.TheVariants.{System, Tt, Vram}
use Rattle.ttm_base.specs.ListWords.{count_from}
use Rattle.journal_model.specs.declared.script.Script.{Script}
use Rattle.journal_model.specs.declared.state.State.{State}
use Rattle.journal_model.specs.declared.state.Buffer.{Buffer}
use Rattle.journal_model.specs.declared.entry.Kind.TheVariants as kind
use Rattle.journal_model.specs.declared.entry.Left.{Left}
use Rattle.journal_model.specs.declared.entry.Left.TheVariants as left
use Rattle.journal_model.specs.rules.ApplyMoves.{copy_of_page, move_packets, frames_left}
use Rattle.journal_model.specs.rules.PageSteps.{next_ghost}
use Rattle.journal_model.specs.rules.Places.{name_in, name_in_spans, packet_place}
use Rattle.journal_model.specs.rules.State.{buffer, target_spans}
use Rattle.laws.specs.lemma_bytes_told.Told.{IsThere, Told, still, moves_up, moves_across, moves_down, evicts}
use Rattle.room_representation.specs.Bos.{unfenced}
use Rattle.room_moves.specs.Copies.{copies}

-- ---- by kind

-- the buffer is live, both places are VRAM or TT, and a ghost has the next number
pub record IsMove (s : State) (b : BufId) (mem : Mem) (l : Left) : Type 0 where
  pub live : IsThere s b
  pub from : (buffer s b).mem ≢ System
  pub to : mem ≢ System
  pub next : (g : ℕ) → l ≡ left.Ghost g → g ≡ next_ghost s

-- one ghost has one number
ghost_is : (a g : ℕ) → left.Ghost a ≡ left.Ghost g → g ≡ a
ghost_is a g e = let q : a ≡ g = cc in sym q

-- VRAM isn't SYSTEM
not_system : (m : Mem) → m ≡ Vram → m ≢ System
not_system m e q = let z : Vram ≡ System = sym e ∙ q in cc

-- nor is TT
tt_not_system : (m : Mem) → m ≡ Tt → m ≢ System
tt_not_system m e q = let z : Tt ≡ System = sym e ∙ q in cc

-- so a thread's entry tells
pub move_of : (script : Script) (s : State) (t : ℕ) (b : BufId) (mem : Mem) (n : ℕ) (l : Left) → Told script s t (kind.Move b mem n l) → IsMove s b mem l
move_of script s t b mem n l (still h) = cc
move_of script s t b _ _ _ (moves_up there m w) =
    record { live = there; from = tt_not_system (buffer s b).mem m; to = not_system Vram refl; next = λ g e. ghost_is (next_ghost s) g e }
move_of script s t b _ _ _ (moves_across there m w) =
    record { live = there; from = not_system (buffer s b).mem m; to = not_system Vram refl; next = λ g e. ghost_is (next_ghost s) g e }
move_of script s t b _ _ _ (moves_down there m w f) =
    record { live = there; from = not_system (buffer s b).mem m; to = tt_not_system Tt refl; next = λ g e. ghost_is (next_ghost s) g e }
move_of script s t b _ _ _ (evicts there m w f) =
    record { live = there; from = not_system (buffer s b).mem m; to = tt_not_system Tt refl; next = λ g e. (let z : left.Now ≡ left.Ghost g = e in cc) }

-- ---- its packets

-- out of SYSTEM packets name pages of spans
named_same : (m mem : Mem) → m ≢ System → (x : Buffer) (is : List ℕ) →
    map (λ i. copy_of_page (name_in_spans mem (target_spans mem x) i) (name_in_spans m x.spans i)) is ≡ map (λ i. copy_of_page (name_in_spans mem (target_spans mem x) i) (name_in m x i)) is
named_same Vram mem out x is = refl
named_same Tt mem out x is = refl
named_same System mem out x is = absurd (out refl)

-- walks over the spans of both places tell them
pub packets_are : (x : Buffer) (mem : Mem) → x.mem ≢ System → copies (length x.table) mem (target_spans mem x) x.mem x.spans ≡ move_packets x mem
packets_are x mem out = named_same x.mem mem out x (count_from 1 (length x.table) 0)

-- a list of n numbers has length n
length-count : (n start : ℕ) → length (count_from 1 n start) ≡ n
length-count zero start = refl
length-count (suc n) start = ap suc (length-count n (1 + start))

-- one each
length-map : {X Y : Type 0} (f : X → Y) (xs : List X) → length (map f xs) ≡ length xs
length-map f [] = refl
length-map f (x ∷ xs) = ap suc (length-map f xs)

-- one for each page
pub packets_many : (x : Buffer) (mem : Mem) → length (move_packets x mem) ≡ length x.table
packets_many x mem =
    length-map (λ i. copy_of_page (name_in_spans mem (target_spans mem x) i) (packet_place x i)) (count_from 1 (length x.table) 0) ∙ length-count (length x.table) 0

-- the frames that a buffer leaves don't depend on its fences
pub frames_unfenced : (m : Mem) (x : Buffer) → frames_left m (unfenced x) ≡ frames_left m x
frames_unfenced Tt x = refl
frames_unfenced Vram x = refl
frames_unfenced System x = refl
