-- The result of a write puts its bytes at the places of the buffer, whose jobs are done.
use mathlib.Core.Path.{fun_ext}
use Rattle.std.proofs.Common.{◌≡◌, ℕ, ◌+◌, ◌-◌, ◌*◌, ◌/◌, ◌%◌, ◌<◌, ◌≤◌, suc, Bool, true, false, List, [], ◌∷◌, length, None, refl, sym, subst, ◌∙◌, ap, arith}
use Rattle.std.specs.Prelude.{nat_eq, nat_le, nat_lt, ◌==◌, ◌&&◌, slice_index, if◌then◌else◌}
use Rattle.std.proofs.lemmas.Bool.{eqb-true, eq-eqb}
use Rattle.std.proofs.lemmas.Bool.Decides.{nat_tests}
use Rattle.ttm_base.specs.declared.BufId.{BufId}
use Rattle.ttm_base.specs.declared.Op.TheVariants as op
use Rattle.ttm_base.specs.Pages as pages
use Rattle.ttm_base.specs.Pages.{with_bytes}
use Rattle.journal_model.specs.declared.script.Script.{Script}
use Rattle.journal_model.specs.declared.script.Sizes.{Sizes}
use Rattle.journal_model.specs.declared.state.Core.{Core}
use Rattle.journal_model.specs.declared.state.Buffer.{Buffer}
use Rattle.journal_model.specs.rules.State.{buffer_in}
use Rattle.journal_model.specs.rules.Places.{page_at}
use Rattle.journal_model.specs.rules.Waits.{waited_for, jobs_before_write}
use Rattle.journal_model.specs.rules.Stores.{is_there, within, put_bytes}
use Rattle.journal_model.specs.rules.PlainMemory.{Memory, OwedProbes, with_range}
use Rattle.laws.proofs.law_owners.Law.{AreHeldOnce}
use Rattle.laws.specs.lemma_bytes_model.Memory as memory
use Rattle.laws.specs.lemma_bytes_model.Memory.{Page, Nowhere, Own, Write, put, run, run_all}
use Rattle.laws.specs.lemma_bytes_model.View.{View, Good, Live}
use Rattle.laws.specs.lemma_bytes_model.Entries.{Piece, aimed, steps, Stands, AllNamed, plain_after, cpu_wrote}
use Rattle.laws.proofs.lemma_bytes_model.Cpu.{cpu_write_keeps}
use Rattle.laws.specs.law_holders.Holding.{seen, buffer_at}
use Rattle.laws.proofs.law_holders.There.{held_there}
use Rattle.laws.specs.lemma_bytes_view.Seen.{put_in}
use Rattle.laws.proofs.lemma_bytes_view.World.{Seen, bare}
use Rattle.laws.proofs.lemma_bytes_view.PacketStep.{no_bytes, within_same, within_cut, put_same}
use Rattle.laws.proofs.lemma_bytes_view.Binds.{idle_done}
use Rattle.laws.specs.law_pieces.Pieces.{paged, piece_view}
use Rattle.laws.proofs.law_pieces.Pieces.{piece_on_memory}
use Rattle.laws.proofs.lemma_bytes_view.Viewed.{Viewed}
use Rattle.laws.proofs.lemma_bytes_arm.Arms.{Reached}
use Rattle.laws.proofs.lemma_bytes_arm.Named.{SameOwn, plain_own}

-- one byte at an offset of a buffer
abbrev byte_piece : BufId → ℕ → ℕ → Piece
byte_piece b off byte = piece_view (op.Fill b off 1 byte) (record { at = 0; len = 1 })

abbrev byte_pieces : BufId → ℕ → List ℕ → List Piece
byte_pieces b off [] = []
byte_pieces b off (byte ∷ values) = byte_piece b off byte ∷ byte_pieces b (off + 1) values

-- ---- on the plain memory

joined : (q h : Bool) (off n x u w z y : ℕ) → (x ≡ off → u ≡ w) → (off + 1 ≤ x → z ≡ w) →
    (if q && nat_le (off + 1) x && nat_lt x ((off + 1) + n) then z else (if q && nat_le (off + 0) x && nat_lt x ((off + 0) + 1) then u else y))
    ≡ (if q && nat_le off x && nat_lt x (off + suc n) then w else y)
joined true h off n x u w z y e f = grind (arith, nat_tests)
joined false h off n x u w z y e f = refl

range_joined : (b : BufId) (off byte : ℕ) (values : List ℕ) (m : Memory) → with_range b (off + 1) (length values) (slice_index values) (with_range b (off + 0) 1 (λ i. byte) m) ≡ with_range b off (suc (length values)) (slice_index (byte ∷ values)) m
range_joined b off byte values m =
    fun_ext (λ c. fun_ext (λ x.
    joined (b.0 == c) true off (length values) x byte (slice_index (byte ∷ values) (x - off)) (slice_index values (x - (off + 1))) (m c x)
    (λ e. ap (slice_index (byte ∷ values)) (let z : 0 ≡ x - off = omega (arith, e) in z))
    (λ l. ap (slice_index (byte ∷ values)) (let z : suc (x - (off + 1)) ≡ x - off = omega (arith, l) in z))))

empty_range : (b : BufId) (off : ℕ) (m : Memory) → m ≡ with_range b off 0 (slice_index []) m
empty_range b off m = fun_ext (λ c. fun_ext (λ x. none (b.0 == c) x (m c x) (slice_index [] (x - off))))
  where
    none : (q : Bool) (x y z : ℕ) → y ≡ (if q && nat_le off x && nat_lt x (off + 0) then z else y)
    none true x y z = grind (arith, nat_tests)
    none false x y z = refl

pieces_on_memory : (b : BufId) (off : ℕ) (values : List ℕ) (m : Memory) → plain_after (byte_pieces b off values) (paged m) ≡ paged (with_range b off (length values) (slice_index values) m)
pieces_on_memory b off [] m = ap paged (empty_range b off m)
pieces_on_memory b off (byte ∷ values) m =
    ap (plain_after (byte_pieces b (off + 1) values)) (piece_on_memory (op.Fill b off 1 byte) (record { at = 0; len = 1 }) m (omega arith))
    ∙ pieces_on_memory b (off + 1) values (with_range b (off + 0) 1 (λ i. byte) m)
    ∙ ap paged (range_joined b off byte values m)

-- ---- on the stores

-- bytes beyond the pages that there are don't matter
cut_put : (sizes : Sizes) (to : pages.Page) (off len : ℕ) (value : ℕ → ℕ) (st su : pages.PageBytes) → ((p : pages.Page) (o : ℕ) → within sizes st p o ≡ within sizes su p o) → (p : pages.Page) (o : ℕ) →
    within sizes (with_bytes st to off len value) p o ≡ within sizes (with_bytes su to off len value) p o
cut_put sizes to off len value st su same p o = by (is_there sizes p && nat_lt o 4096) (pages.same_page p to && nat_le off o && nat_lt o (off + len)) (same p o)
  where
    by : (q t : Bool) → ◌≡◌ {A = ℕ} (if q then st p o else 0) (if q then su p o else 0) → ◌≡◌ {A = ℕ} (if q then (if t then value (o - off) else st p o) else 0) (if q then (if t then value (o - off) else su p o) else 0)
    by true true e = refl
    by true false e = e
    by false t e = refl

twice : (sizes : Sizes) (st : pages.PageBytes) (p : pages.Page) (o : ℕ) → within sizes (within sizes st) p o ≡ within sizes st p o
twice sizes st p o = by (is_there sizes p && nat_lt o 4096)
  where
    by : (q : Bool) → ◌≡◌ {A = ℕ} (if q then (if q then st p o else 0) else 0) (if q then st p o else 0)
    by true = refl
    by false = refl

module _ (script : Script) (c : Core) (owed_probes : OwedProbes) (m : Memory) (bytes : pages.PageBytes) (u : Viewed script c owed_probes m bytes) (b : BufId) (n : ℕ)
    (held : AreHeldOnce script c) (ready : (i : ℕ) → i < n → Reached c b.0 i) where
  abbrev v : View
  v = u.view

  abbrev s : Seen script c owed_probes m bytes u.view
  s = u.seen

  abbrev g : Good no_bytes u.view
  g = u.good

  abbrev x : Buffer
  x = buffer_in c b

  there : (i : ℕ) → i < n → is_there script.sizes (page_at x i) ≡ true
  there i l = held_there script (bare c) held (page_at x i) (Live b.0 i) refl (λ e. (ready i l).somewhere (ap seen e))

  stands : (i : ℕ) → i < n → Stands v.place b.0 i
  stands i l = let r = ready i l in record { somewhere = λ e. r.somewhere (sym (s.place b.0 i) ∙ e); reached = λ k e. r.unswapped k (sym (s.place b.0 i) ∙ e) }

  at_page : (off : ℕ) → off < 4096 * n → (off + 0) / 4096 < n
  at_page off l = omega (arith, l)

  named : (off : ℕ) (values : List ℕ) → off + length values ≤ 4096 * n → AllNamed v.place (nat_eq b.0) (nat_eq b.0) (byte_pieces b off values)
  named off [] l = tt
  named off (byte ∷ values) l =
      let i = at_page off (omega (arith, l)) in
      (eq-eqb b.0 b.0 refl, eq-eqb b.0 b.0 refl, stands ((off + 0) / 4096) i, stands ((off + 0) / 4096) i, named (off + 1) values (omega (arith, l)))

  -- byte by byte
  put_all : (off : ℕ) (values : List ℕ) → off + length values ≤ 4096 * n → (vs : memory.Stores) (plain : memory.Stores) (st : pages.PageBytes) →
      ((p : pages.Page) (o : ℕ) → vs (seen p) o ≡ within script.sizes st p o) → (p : pages.Page) (o : ℕ) →
      run_all (steps v.place (byte_pieces b off values) plain) vs (seen p) o ≡ within script.sizes (put_bytes x off values st) p o
  put_all off [] l vs plain st agree p o = agree p o
  put_all off (byte ∷ values) l vs plain st agree p o =
      put_all (off + 1) values (omega (arith, l)) (run (aimed v.place (byte_piece b off byte)) vs) (run (aimed Own (byte_piece b off byte)) plain)
      (with_bytes st (page_at x (off / 4096)) (off % 4096) 1 (λ i. byte)) (one_put) p o
    where
      one_put : (p : pages.Page) (o : ℕ) → run (aimed v.place (byte_piece b off byte)) vs (seen p) o ≡ within script.sizes (with_bytes st (page_at x (off / 4096)) (off % 4096) 1 (λ i. byte)) p o
      one_put p o =
          ap (λ q. put q (put_in ((off + 0) % 4096) 1 (λ i. byte) (vs q)) vs (seen p) o) (s.place b.0 ((off + 0) / 4096))
          ∙ put_same script.sizes vs (within script.sizes st) agree (within_cut script.sizes st) (page_at x ((off + 0) / 4096)) ((off + 0) % 4096) 1 (λ i. byte) (λ i. byte)
          (there ((off + 0) / 4096) (at_page off (omega (arith, l)))) (λ i. refl) p o
          ∙ cut_put script.sizes (page_at x ((off + 0) / 4096)) ((off + 0) % 4096) 1 (λ i. byte) (within script.sizes st) st (twice script.sizes st) p o
          ∙ ap (λ k. within script.sizes (with_bytes st (page_at x (k / 4096)) (k % 4096) 1 (λ i. byte)) p o) (let z : off + 0 ≡ off = omega arith in z)

  module _ (off : ℕ) (values : List ℕ) (fits : off + length values ≤ 4096 * n) (idle : waited_for c (jobs_before_write (buffer_in c b)) ≡ None) where
    own : SameOwn v.plain (paged m)
    own d i = fun_ext (λ o. s.plain d i o)

    write_good : Good no_bytes (cpu_wrote (byte_pieces b off values) v)
    write_good =
        cpu_write_keeps no_bytes v g (byte_pieces b off values) (nat_eq b.0) (named off values fits)
        (λ d h j f. idle_done script c owed_probes m bytes v s d (subst (λ k. waited_for c (jobs_before_write (buffer_at c k)) ≡ None) (eqb-true b.0 d h) idle) j f)

    write_seen : Seen script c owed_probes (with_range b off (length values) (slice_index values) m) (within script.sizes (put_bytes (buffer_in c b) off values bytes)) (cpu_wrote (byte_pieces b off values) v)
    write_seen = record {
      count = s.count;
      left = s.left;
      begun = s.begun;
      done = s.done;
      prior = s.prior;
      strong = s.strong;
      shared = s.shared;
      ghost = s.ghost;
      mover = s.mover;
      place = s.place;
      owner = s.owner;
      there = s.there;
      stores = put_all off values fits v.stores v.plain bytes (λ p o. s.stores p o ∙ within_same script.sizes v.stores bytes s.stores s.cut p o);
      cut = within_cut script.sizes (put_bytes (buffer_in c b) off values bytes);
      plain = λ d i o.
          ap (λ (f : ℕ → ℕ). f o) (plain_own (byte_pieces b off values) v.plain (paged m) own d i)
          ∙ ap (λ (f : Page → ℕ → ℕ). f (Own d i) o) (pieces_on_memory b off values m);
    }

    pub write_viewed : Viewed script c owed_probes (with_range b off (length values) (slice_index values) m) (within script.sizes (put_bytes (buffer_in c b) off values bytes))
    write_viewed = record { view = cpu_wrote (byte_pieces b off values) v; good = write_good; seen = write_seen }
