-- Which pages the pieces of operations name, and that their steps depend on the places of these pages alone.
use Rattle.std.proofs.Common.{◌≡◌, ℕ, ◌+◌, ◌*◌, ◌/◌, ◌<◌, ◌≤◌, Bool, true, false, cond, List, [], ◌∷◌, ◌++◌, refl, ◌∙◌, ap, ap₂, arith, ⊎_elim}
use Rattle.std.specs.Prelude.{map, flat_map, nat_le, ◌==◌, ◌&&◌, ◌||◌, not, if◌then◌else◌}
use Rattle.std.specs.List.{list_all}
use Rattle.std.proofs.lemmas.Bool.{and_parts, leb-true, eqb-true, eq-eqb, or_cases}
use Rattle.ttm_base.specs.declared.BufId.{BufId}
use Rattle.ttm_base.specs.declared.Op.{Op}
use Rattle.ttm_base.specs.declared.Op.TheVariants as op
use Rattle.ttm_base.specs.Cutting as cutting
use Rattle.ttm_base.specs.Cutting.{op_len, pieces_of}
use Rattle.journal_model.specs.declared.script.Script.{Script}
use Rattle.journal_model.specs.rules.State.{same_buffer, has_buffer}
use Rattle.journal_model.specs.rules.Commands.{decl, buffers_of_op, writes, first_mentions}
use Rattle.journal_model.specs.scripts.CommandRules.{is_op, is_range_of, is_declared, is_between}
use Rattle.journal_model.specs.rules.Waits.{is_written}
use Rattle.laws.specs.law_cutting.Parts.{IsPiece}
use Rattle.laws.proofs.law_cutting.Whole.{Each, pieces_are}
use Rattle.laws.specs.lemma_bytes_model.Memory as memory
use Rattle.laws.specs.lemma_bytes_model.Memory.{Page, Own, Stores, Step, same_page, Write, Show, run, shown, put}
use Rattle.laws.specs.lemma_bytes_model.Entries.{Piece, Change, Probe, aimed, plain_after, steps, Stands, AllNamed}
use Rattle.laws.proofs.lemma_bytes_model.Actions.{or_first, or_second}
use Rattle.laws.specs.law_pieces.Pieces.{piece_view, views_of}

-- of each page that is changed, and of each that is read
abbrev pub AllOf : (ℕ → ℕ → Type 0) → (ℕ → ℕ → Type 0) → List Piece → Type 0
AllOf W R [] = Unit {0}
AllOf W R (Change b i c k f ∷ ps) = W b i × R c k × AllOf W R ps
AllOf W R (Probe b i g ∷ ps) = R b i × AllOf W R ps

pub all_append : (W R : ℕ → ℕ → Type 0) (ps qs : List Piece) → AllOf W R ps → AllOf W R qs → AllOf W R (ps ++ qs)
all_append W R [] qs a b = b
all_append W R (Change d i e k f ∷ ps) qs a b = (a.0, a.1, all_append W R ps qs a.2 b)
all_append W R (Probe d i g ∷ ps) qs a b = (a.0, all_append W R ps qs a.1 b)

pub all_map : (W R W' R' : ℕ → ℕ → Type 0) → ((b i : ℕ) → W b i → W' b i) → ((b i : ℕ) → R b i → R' b i) → (ps : List Piece) → AllOf W R ps → AllOf W' R' ps
all_map W R W' R' f h [] a = tt
all_map W R W' R' f h (Change b i c k g ∷ ps) a = (f b i a.0, h c k a.1, all_map W R W' R' f h ps a.2)
all_map W R W' R' f h (Probe b i g ∷ ps) a = (h b i a.0, all_map W R W' R' f h ps a.1)

-- ---- the places alone matter

pub steps_placed : (place place' : ℕ → ℕ → Page) (ps : List Piece) (s : Stores) → AllOf (λ b i. place b i ≡ place' b i) (λ b i. place b i ≡ place' b i) ps → steps place ps s ≡ steps place' ps s
steps_placed place place' [] s a = refl
steps_placed place place' (Change b i c k f ∷ ps) s a =
    ap₂ (λ (x : memory.Packet) (rest : List Step). record { packet = x; due = shown (aimed Own (Change b i c k f)) s } ∷ rest) (ap₂ (λ p q. Write p q f) a.0 a.1) (steps_placed place place' ps (run (aimed Own (Change b i c k f)) s) a.2)
steps_placed place place' (Probe b i g ∷ ps) s a =
    ap₂ (λ (x : memory.Packet) (rest : List Step). record { packet = x; due = shown (aimed Own (Probe b i g)) s } ∷ rest) (ap (λ p. Show p g) a.0) (steps_placed place place' ps s a.1)

-- and of the plain memory the pages of buffers
abbrev pub SameOwn : Stores → Stores → Type 0
SameOwn s t = (b i : ℕ) → s (Own b i) ≡ t (Own b i)

run_own : (s t : Stores) (b i c k : ℕ) (f : memory.Bytes → memory.Bytes → memory.Bytes) → SameOwn s t → SameOwn (run (Write (Own b i) (Own c k) f) s) (run (Write (Own b i) (Own c k) f) t)
run_own s t b i c k f same d j = ap₂ (cond (same_page (Own b i) (Own d j))) (ap₂ f (same b i) (same c k)) (same d j)

pub steps_own : (place : ℕ → ℕ → Page) (ps : List Piece) (s t : Stores) → SameOwn s t → steps place ps s ≡ steps place ps t
steps_own place [] s t same = refl
steps_own place (Change b i c k f ∷ ps) s t same =
    ap (λ (rest : List Step). record { packet = Write (place b i) (place c k) f; due = [] } ∷ rest)
    (steps_own place ps (run (Write (Own b i) (Own c k) f) s) (run (Write (Own b i) (Own c k) f) t) (run_own s t b i c k f same))
steps_own place (Probe b i g ∷ ps) s t same =
    ap₂ (λ (d : List ℕ) (rest : List Step). record { packet = Show (place b i) g; due = d } ∷ rest) (ap g (same b i)) (steps_own place ps s t same)

pub plain_own : (ps : List Piece) (s t : Stores) → SameOwn s t → SameOwn (plain_after ps s) (plain_after ps t)
plain_own [] s t same = same
plain_own (Change b i c k f ∷ ps) s t same = plain_own ps (run (Write (Own b i) (Own c k) f) s) (run (Write (Own b i) (Own c k) f) t) (run_own s t b i c k f same)
plain_own (Probe b i g ∷ ps) s t same = plain_own ps s t same

pub named_all : (place : ℕ → ℕ → Page) (used changed : ℕ → Bool) (ps : List Piece) →
    AllOf (λ b i. (changed b ≡ true) × Stands place b i) (λ b i. (used b ≡ true) × Stands place b i) ps → AllNamed place used changed ps
named_all place used changed [] a = tt
named_all place used changed (Change b i c k f ∷ ps) a = (a.0.0, a.1.0, a.0.1, a.1.1, named_all place used changed ps a.2)
named_all place used changed (Probe b i g ∷ ps) a = (a.0.0, a.0.1, named_all place used changed ps a.1)

-- ---- inside the buffers

inside : (off len at n pages : ℕ) → off + len ≤ 4096 * pages → at + n ≤ len → 0 < n → (off + at) / 4096 < pages
inside off len at n pages a b c = omega (arith, a, b, c)

range_ends : (script : Script) (b : BufId) (off len : ℕ) → is_range_of script b off len ≡ true → off + len ≤ 4096 * (decl script b).pages
range_ends script b off len h = leb-true (off + len) (4096 * (decl script b).pages) (last (is_declared script b) (nat_le off 16777216) (is_between 1 16777216 len) (nat_le (off + len) (4096 * (decl script b).pages)) h)
  where
    last : (p q r t : Bool) → (p && q && r && t) ≡ true → t ≡ true
    last true true true t h = h
    last true true false t h = cc
    last true false r t h = cc
    last false q r t h = cc

self : (b : BufId) → same_buffer b b ≡ true
self b = eq-eqb b.0 b.0 refl

module _ (script : Script) (W R : ℕ → ℕ → Type 0) where
  -- each piece of an operation
  pieces_named : (o : Op) → is_op script o ≡ true →
      ((b : BufId) → writes b o ≡ true → (i : ℕ) → i < (decl script b).pages → W b.0 i) →
      ((b : BufId) → has_buffer (buffers_of_op o) b ≡ true → (i : ℕ) → i < (decl script b).pages → R b.0 i) →
      (ps : List cutting.Piece) → Each (IsPiece o) ps → AllOf W R (map (piece_view o) ps)
  pieces_named o h w r [] e = tt
  pieces_named (op.Fill dst off len byte) h w r (p ∷ ps) e =
      let l = range_ends script dst off len (and_parts (is_range_of script dst off len) (nat_le byte 255) h).0 in
      let i = inside off len p.at p.len (decl script dst).pages l e.0.inside e.0.some in
      (w dst (self dst) ((off + p.at) / 4096) i, r dst (or_first (same_buffer dst dst) false (self dst)) ((off + p.at) / 4096) i, pieces_named (op.Fill dst off len byte) h w r ps e.1)
  pieces_named (op.Copy dst doff src soff len) h w r (p ∷ ps) e =
      let l = two (is_range_of script dst doff len) (is_range_of script src soff len) (not (dst.0 == src.0)) h in
      let a = inside doff len p.at p.len (decl script dst).pages (range_ends script dst doff len l.0) e.0.inside e.0.some in
      let b = inside soff len p.at p.len (decl script src).pages (range_ends script src soff len l.1) e.0.inside e.0.some in (
        w dst (self dst) ((doff + p.at) / 4096) a,
        r src (or_second (same_buffer src dst) (same_buffer src src || false) (or_first (same_buffer src src) false (self src))) ((soff + p.at) / 4096) b,
        pieces_named (op.Copy dst doff src soff len) h w r ps e.1,
      )
    where
      two : (p q t : Bool) → (p && q && t) ≡ true → (p ≡ true) × (q ≡ true)
      two true true t h = (refl, refl)
      two true false t h = cc
      two false q t h = cc
  pieces_named (op.Xor dst doff src soff len) h w r (p ∷ ps) e =
      let l = two (is_range_of script dst doff len) (is_range_of script src soff len) (not (dst.0 == src.0)) h in
      let a = inside doff len p.at p.len (decl script dst).pages (range_ends script dst doff len l.0) e.0.inside e.0.some in
      let b = inside soff len p.at p.len (decl script src).pages (range_ends script src soff len l.1) e.0.inside e.0.some in (
        w dst (self dst) ((doff + p.at) / 4096) a,
        r src (or_second (same_buffer src dst) (same_buffer src src || false) (or_first (same_buffer src src) false (self src))) ((soff + p.at) / 4096) b,
        pieces_named (op.Xor dst doff src soff len) h w r ps e.1,
      )
    where
      two : (p q t : Bool) → (p && q && t) ≡ true → (p ≡ true) × (q ≡ true)
      two true true t h = (refl, refl)
      two true false t h = cc
      two false q t h = cc
  pieces_named (op.Probe src off len) h w r (p ∷ ps) e =
      let l = range_ends script src off len (and_parts (is_range_of script src off len) (nat_le len 256) h).0 in
      let i = inside off len p.at p.len (decl script src).pages l e.0.inside e.0.some in
      (r src (or_first (same_buffer src src) false (self src)) ((off + p.at) / 4096) i, pieces_named (op.Probe src off len) h w r ps e.1)

  -- of all operations
  pub views_named : (ops : List Op) → list_all (is_op script) ops ≡ true →
      ((b : BufId) → is_written ops b ≡ true → (i : ℕ) → i < (decl script b).pages → W b.0 i) →
      ((b : BufId) → has_buffer (flat_map buffers_of_op ops) b ≡ true → (i : ℕ) → i < (decl script b).pages → R b.0 i) →
      AllOf W R (views_of ops)
  views_named [] h w r = tt
  views_named (o ∷ ops) h w r =
      let parts = and_parts (is_op script o) (list_all (is_op script) ops) h in
      all_append W R (map (piece_view o) (pieces_of o)) (views_of ops)
      (pieces_named o parts.0 (λ b k. w b (or_first (writes b o) (is_written ops b) k)) (λ b k. r b (in_first (buffers_of_op o) (flat_map buffers_of_op ops) b k)) (pieces_of o) (pieces_are o))
      (views_named ops parts.1 (λ b k. w b (or_second (writes b o) (is_written ops b) k)) (λ b k. r b (in_second (buffers_of_op o) (flat_map buffers_of_op ops) b k)))
    where
      in_first : (xs ys : List BufId) (b : BufId) → has_buffer xs b ≡ true → has_buffer (xs ++ ys) b ≡ true
      in_first [] ys b k = cc
      in_first (x ∷ xs) ys b k =
          ⊎_elim (λ e. or_first (same_buffer b x) (has_buffer (xs ++ ys) b) e) (λ e. or_second (same_buffer b x) (has_buffer (xs ++ ys) b) (in_first xs ys b e)) (or_cases (same_buffer b x) (has_buffer xs b) k)

      in_second : (xs ys : List BufId) (b : BufId) → has_buffer ys b ≡ true → has_buffer (xs ++ ys) b ≡ true
      in_second [] ys b k = k
      in_second (x ∷ xs) ys b k = or_second (same_buffer b x) (has_buffer (xs ++ ys) b) (in_second xs ys b k)

-- ---- each mention is named

pub mentioned : (bs seen : List BufId) (b : BufId) → has_buffer bs b ≡ true → has_buffer seen b ≡ false → has_buffer (first_mentions seen bs) b ≡ true
mentioned [] seen b h n = cc
mentioned (d ∷ ds) seen b h n = by (same_buffer b d) refl (has_buffer seen d) refl h (mentioned ds)
  where
    by : (q : Bool) → same_buffer b d ≡ q → (t : Bool) → has_buffer seen d ≡ t → (q || has_buffer ds b) ≡ true →
        ((seen : List BufId) (b : BufId) → has_buffer ds b ≡ true → has_buffer seen b ≡ false → has_buffer (first_mentions seen ds) b ≡ true) →
        has_buffer (if t then first_mentions seen ds else d ∷ first_mentions (d ∷ seen) ds) b ≡ true
    by true e true f g rest = let same : b ≡ d = ap (λ k. record { 0 = k }) (eqb-true b.0 d.0 e) in let u : has_buffer seen b ≡ true = ap (has_buffer seen) same ∙ f in absurd (clash (has_buffer seen b) u n)
      where
        clash : (a : Bool) → a ≡ true → a ≡ false → ⊥
        clash a t f = cc
    by true e false f g rest = or_first (same_buffer b d) (has_buffer (first_mentions (d ∷ seen) ds) b) e
    by false e true f g rest = rest seen b g n
    by false e false f g rest = or_second (same_buffer b d) (has_buffer (first_mentions (d ∷ seen) ds) b) (rest (d ∷ seen) b g (neither (same_buffer b d) (has_buffer seen b) e n))
      where
        neither : (p q : Bool) → p ≡ false → q ≡ false → (p || q) ≡ false
        neither false q e n = n
        neither true q e n = cc

-- what is written is mentioned
pub written_mentioned : (ops : List Op) (b : BufId) → is_written ops b ≡ true → has_buffer (flat_map buffers_of_op ops) b ≡ true
written_mentioned [] b h = cc
written_mentioned (op.Fill dst off len byte ∷ ops) b h =
    ⊎_elim (λ e. or_first (same_buffer b dst) (has_buffer (flat_map buffers_of_op ops) b) e) (λ e. or_second (same_buffer b dst) (has_buffer (flat_map buffers_of_op ops) b) (written_mentioned ops b e))
    (or_cases (same_buffer b dst) (is_written ops b) h)
written_mentioned (op.Copy dst doff src soff len ∷ ops) b h =
    ⊎_elim (λ e. or_first (same_buffer b dst) (same_buffer b src || has_buffer (flat_map buffers_of_op ops) b) e)
    (λ e. or_second (same_buffer b dst) (same_buffer b src || has_buffer (flat_map buffers_of_op ops) b) (or_second (same_buffer b src) (has_buffer (flat_map buffers_of_op ops) b) (written_mentioned ops b e)))
    (or_cases (same_buffer b dst) (is_written ops b) h)
written_mentioned (op.Xor dst doff src soff len ∷ ops) b h =
    ⊎_elim (λ e. or_first (same_buffer b dst) (same_buffer b src || has_buffer (flat_map buffers_of_op ops) b) e)
    (λ e. or_second (same_buffer b dst) (same_buffer b src || has_buffer (flat_map buffers_of_op ops) b) (or_second (same_buffer b src) (has_buffer (flat_map buffers_of_op ops) b) (written_mentioned ops b e)))
    (or_cases (same_buffer b dst) (is_written ops b) h)
written_mentioned (op.Probe src off len ∷ ops) b h = or_second (same_buffer b src) (has_buffer (flat_map buffers_of_op ops) b) (written_mentioned ops b h)
