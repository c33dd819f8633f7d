-- The aperture pages that a job names where it is emitted are held for it, and those of older jobs still are.
use Rattle.std.proofs.Common.{◌≡◌, ℕ, ◌+◌, ◌/◌, ◌<◌, zero, suc, Bool, true, false, List, [], ◌∷◌, ◌++◌, length, Option, Some, None, refl, sym, subst, ◌∙◌, ap, arith, ◌⊎◌, inl, inr, ⊎_elim}
use Rattle.std.specs.Prelude.{slice_get, map, fold, flat_map, nat_eq, unwrap_or, ◌||◌, if◌then◌else◌}
use Rattle.std.specs.List.{list_any, list_all}
use Rattle.std.proofs.lemmas.Bool.{or_cases, eqb-true, eq-eqb}
use Rattle.ttm_base.specs.declared.Mem.{Mem}
use Rattle.ttm_base.specs.declared.Mem.TheVariants.{System, Tt, Vram}
use Rattle.ttm_base.specs.declared.BufId.{BufId}
use Rattle.ttm_base.specs.declared.JobId.{JobId}
use Rattle.ttm_base.specs.declared.Span.{Span}
use Rattle.ttm_base.specs.declared.Usage.TheVariants as usage
use Rattle.ttm_base.specs.declared.Op.{Op}
use Rattle.ttm_base.specs.declared.Op.TheVariants as op
use Rattle.ttm_base.specs.declared.Packet.{Packet}
use Rattle.ttm_base.specs.declared.PagePlace.TheVariants as place
use Rattle.ttm_base.specs.ListWords.{count_from}
use Rattle.ttm_base.specs.Reach.{same_mem}
use Rattle.ttm_base.specs.Cutting as cutting
use Rattle.ttm_base.specs.Cutting.{PageMap, pieces_of, packet_of, packets_of}
use Rattle.ttm_base.specs.Packets.{is_aper, packet_names}
use Rattle.journal_model.specs.declared.script.Script.{Script}
use Rattle.journal_model.specs.declared.entry.Left.TheVariants as left
use Rattle.journal_model.specs.declared.state.Core.{Core}
use Rattle.journal_model.specs.declared.state.Buffer.{Buffer}
use Rattle.journal_model.specs.declared.state.Job.{Job}
use Rattle.journal_model.specs.rules.State.{new_buffer, live_in, buffer_in, has_buffer, changed, target_spans}
use Rattle.journal_model.specs.rules.Commands.{decl, buffers_of_op, first_mentions}
use Rattle.journal_model.specs.scripts.CommandRules.{is_op}
use Rattle.journal_model.specs.rules.Places.{pages_of, page_of_spans, name_in_spans, name_in, packet_place}
use Rattle.journal_model.specs.rules.Holds.{spans_in, has_number}
use Rattle.journal_model.specs.rules.Waits.{same_job, unfinished, jobs_before_write, jobs_before_use}
use Rattle.journal_model.specs.rules.ApplyMoves.{copy_of_page, move_packets, moved, ghost_of_moved, core_after_move}
use Rattle.journal_model.specs.rules.ApplyJobs.{with_use, core_after_arm}
use Rattle.laws.proofs.law_state.Lists.{get_pushed, get_within}
use Rattle.laws.proofs.lemma_bytes_model.Actions.{or_first, or_second}
use Rattle.laws.proofs.lemma_bytes_view.Jobs.{same_job-refl}
use Rattle.laws.proofs.lemma_bytes_view.Kept.{keep_more}
use Rattle.laws.proofs.lemma_bytes_view.MoreJobs.{get_last, among_unfinished}
use Rattle.laws.proofs.lemma_bytes_arm.Fences.{fold_kept, joins_writes}
use Rattle.laws.proofs.lemma_bytes_arm.Named.{AllOf, views_named, mentioned, written_mentioned}
use Rattle.laws.specs.lemma_bytes_model.Entries.{Piece, Change, Probe}
use Rattle.laws.specs.law_pieces.Pieces.{piece_view, views_of}
use Rattle.laws.proofs.law_spares.Holders.{BufferHolds, IsAwaited, GhostHolds, Holder, HaveHolders, ghost_kept, changed_either, changed_here, own_fence, no_page, uses_hold, more_ghosts}

-- ---- names of pages

at_number : (ns : List ℕ) (i page : ℕ) → i < length ns → unwrap_or (slice_get ns i) 0 ≡ page → has_number ns page ≡ true
at_number [] i page l e = absurd (omega (arith, l))
at_number (n ∷ ns) zero page l e = or_first (nat_eq page n) (has_number ns page) (eq-eqb page n (sym e))
at_number (n ∷ ns) (suc i) page l e = or_second (nat_eq page n) (has_number ns page) (at_number ns i page (omega (arith, l)) e)

aper_of_spans : (spans : List Span) (i page : ℕ) → i < length (pages_of spans) → is_aper page (place.Aper (page_of_spans spans i)) ≡ true → has_number (pages_of spans) page ≡ true
aper_of_spans spans i page l h = at_number (pages_of spans) i page l (eqb-true (page_of_spans spans i) page h)

-- the aperture page of a buffer is one of its pages of TT
named_here : (x : Buffer) (i page : ℕ) → (x.mem ≡ Tt → i < length (pages_of x.spans)) → is_aper page (packet_place x i) ≡ true → has_number (pages_of (spans_in Tt x)) page ≡ true
named_here x i page l h = by x.mem refl h
  where
    by : (m : Mem) → x.mem ≡ m → is_aper page (name_in m x i) ≡ true → has_number (pages_of (if same_mem m Tt then x.spans else [])) page ≡ true
    by Tt e g = aper_of_spans x.spans i page (l e) g
    by Vram e g = cc
    by System e g = cc

-- ---- a job more

-- older jobs keep their holders, and the new one has them
emitted : (c d : Core) (new : Job) → d.jobs ≡ c.jobs ++ new ∷ [] →
    ((i page : ℕ) (j : Job) → slice_get c.jobs i ≡ Some j → j.finished ≡ false → Holder c.buffers c.ghosts c.jobs page i j.id → Holder d.buffers d.ghosts (c.jobs ++ new ∷ []) page i j.id) →
    ((page : ℕ) → list_any (packet_names page) new.packets ≡ true → Holder d.buffers d.ghosts (c.jobs ++ new ∷ []) page (length c.jobs) new.id) →
    HaveHolders c → HaveHolders d
emitted c d new jobs old own h i page j at f n =
    subst (λ js. Holder d.buffers d.ghosts js page i j.id) (sym jobs)
    (⊎_elim
    (λ e. old i page j e f (h i page j e f n))
    (λ e.
    subst (λ k. Holder d.buffers d.ghosts (c.jobs ++ new ∷ []) page k j.id) (sym e.0)
    (subst (λ (y : Job). Holder d.buffers d.ghosts (c.jobs ++ new ∷ []) page (length c.jobs) y.id) (sym e.1) (own page (subst (λ (y : Job). list_any (packet_names page) y.packets ≡ true) e.1 n))))
    (get_pushed c.jobs new j i (subst (λ js. slice_get js i ≡ Some j) jobs at)))

-- ---- moves

counted : (p : Packet → Bool) (f : ℕ → Packet) (n start : ℕ) → list_any p (map f (count_from 1 n start)) ≡ true → (i : ℕ) × (i < start + n) × (p (f i) ≡ true)
counted p f zero start h = cc
counted p f (suc n) start h =
    ⊎_elim
    (λ e. (start, omega arith, e))
    (λ e. let r = counted p f n (1 + start) e in (r.0, (let l = r.1 in omega (arith, l)), r.2))
    (or_cases (p (f start)) (list_any p (map f (count_from 1 n (1 + start)))) h)

move_names : (x : Buffer) (mem : Mem) (page : ℕ) → (x.mem ≡ Tt → length (pages_of x.spans) ≡ length x.table) → (mem ≡ Tt → length (pages_of (target_spans Tt x)) ≡ length x.table) →
    list_any (packet_names page) (move_packets x mem) ≡ true → (has_number (pages_of (spans_in Tt x)) page ≡ true) ⊎ ((mem ≡ Tt) × (has_number (pages_of (target_spans Tt x)) page ≡ true))
move_names x mem page own target h =
    let r = counted (packet_names page) (λ i. copy_of_page (name_in_spans mem (target_spans mem x) i) (packet_place x i)) (length x.table) 0 h in
    let l : r.0 < length x.table = let a = r.1 in omega (arith, a) in
    ⊎_elim
    (λ e. inr (to mem refl r.0 l e))
    (λ e. inl (named_here x r.0 page (λ m. let many = own m in omega (arith, l, many)) e))
    (or_cases (is_aper page (name_in_spans mem (target_spans mem x) r.0)) (is_aper page (packet_place x r.0)) r.2)
  where
    to : (m : Mem) → mem ≡ m → (i : ℕ) → i < length x.table → is_aper page (name_in_spans m (target_spans m x) i) ≡ true → (mem ≡ Tt) × (has_number (pages_of (target_spans Tt x)) page ≡ true)
    to Tt e i l g = let many = target e in (e, aper_of_spans (target_spans Tt x) i page (omega (arith, l, many)) g)
    to Vram e i l g = cc
    to System e i l g = cc

module _ (c : Core) (b : BufId) (live : live_in c.buffers b ≡ Some (buffer_in c b)) (mem : Mem) (job : JobId)
    (own : (buffer_in c b).mem ≡ Tt → length (pages_of (buffer_in c b).spans) ≡ length (buffer_in c b).table)
    (target : mem ≡ Tt → length (pages_of (target_spans Tt (buffer_in c b))) ≡ length (buffer_in c b).table) where
  -- the buffer that moves
  abbrev x : Buffer
  x = buffer_in c b

  -- its job
  abbrev new : Job
  new = record { id = job; waits = unfinished c (jobs_before_write x); packets = move_packets x mem; ran = 0; finished = false }

  -- a page of the target, once it is that of the buffer
  arrived : (page : ℕ) → mem ≡ Tt → has_number (pages_of (target_spans Tt x)) page ≡ true → BufferHolds (changed (moved mem job) c.buffers b) page job
  arrived page e h = record {
    b = b;
    buffer = moved mem job x;
    live = changed_here (moved mem job) c.buffers b x live;
    holding = record { here = subst (λ m. has_number (pages_of (spans_in Tt (moved m job x))) page ≡ true) (sym e) h; fence = own_fence job usage.Kernel x };
  }

  module _ (g : ℕ) where
    -- the ghost after the move
    left_here : (page i : ℕ) (id : JobId) → has_number (pages_of (spans_in Tt x)) page ≡ true → (list_any (same_job id) (job ∷ []) ≡ true) ⊎ IsAwaited (c.jobs ++ new ∷ []) i id (job ∷ []) → GhostHolds (c.ghosts ++ ghost_of_moved x job g ∷ []) (c.jobs ++ new ∷ []) page i id
    left_here page i id h why = record { place = length c.ghosts; ghost = ghost_of_moved x job g; is = get_last c.ghosts (ghost_of_moved x job g); here = h; job = why }

    old_of_ghost : (i page : ℕ) (j : Job) → slice_get c.jobs i ≡ Some j → j.finished ≡ false → Holder c.buffers c.ghosts c.jobs page i j.id →
        Holder (changed (moved mem job) c.buffers b) (c.ghosts ++ ghost_of_moved x job g ∷ []) (c.jobs ++ new ∷ []) page i j.id
    old_of_ghost i page j at f (inl m) =
        ⊎_elim
        (λ k. inl k)
        (λ r.
        let same : r.0 ≡ x = let two : Some r.0 ≡ Some x = sym r.1 ∙ live in cc in
        let here = subst (λ y. has_number (pages_of (spans_in Tt y)) page ≡ true) same r.2.here in
        let fence = subst (λ y. list_any (same_job j.id) (jobs_before_write y) ≡ true) same r.2.fence in
        inr
        (left_here page i j.id here
        (inr
        (record {
          at = length c.jobs;
          later = new;
          there = get_last c.jobs new;
          after = get_within c.jobs i j at;
          among = or_first (same_job job job) false (same_job-refl job);
          waits = among_unfinished c (jobs_before_write x) i j at f fence;
        }))))
        (changed_either (moved mem job) c.buffers b page j.id m)
    old_of_ghost i page j at f (inr m) =
        inr (more_ghosts c.ghosts (ghost_of_moved x job g) (c.jobs ++ new ∷ []) page i j.id (ghost_kept c.ghosts c.jobs (c.jobs ++ new ∷ []) (keep_more c.jobs new) page i j.id m))

    pub move_holds : HaveHolders c → HaveHolders (core_after_move c b mem job (left.Ghost g))
    move_holds h =
        emitted c (core_after_move c b mem job (left.Ghost g)) new refl old_of_ghost
        (λ page n.
        ⊎_elim
        (λ e. inr (left_here page (length c.jobs) job e (inl (or_first (same_job job job) false (same_job-refl job)))))
        (λ e. inl (arrived page e.0 e.1))
        (move_names x mem page own target n))
        h

  -- out of VRAM with pages that are free at once
  pub evict_holds : ((buffer_in c b).mem ≡ Tt → ⊥) → HaveHolders c → HaveHolders (core_after_move c b mem job left.Now)
  evict_holds ne h =
      emitted c (core_after_move c b mem job left.Now) new refl old
      (λ page n. ⊎_elim (λ e. absurd (no_page page x ne e)) (λ e. inl (arrived page e.0 e.1)) (move_names x mem page own target n))
      h
    where
      old : (i page : ℕ) (j : Job) → slice_get c.jobs i ≡ Some j → j.finished ≡ false → Holder c.buffers c.ghosts c.jobs page i j.id → Holder (changed (moved mem job) c.buffers b) c.ghosts (c.jobs ++ new ∷ []) page i j.id
      old i page j at f (inl m) =
          ⊎_elim
          (λ k. inl k)
          (λ r.
          let same : r.0 ≡ x = let two : Some r.0 ≡ Some x = sym r.1 ∙ live in cc in
          absurd (no_page page x ne (subst (λ y. has_number (pages_of (spans_in Tt y)) page ≡ true) same r.2.here)))
          (changed_either (moved mem job) c.buffers b page j.id m)
      old i page j at f (inr m) = inr (ghost_kept c.ghosts c.jobs (c.jobs ++ new ∷ []) (keep_more c.jobs new) page i j.id m)

-- ---- jobs of commands

any_either : (p : Packet → Bool) (ps qs : List Packet) → list_any p (ps ++ qs) ≡ true → (list_any p ps ≡ true) ⊎ (list_any p qs ≡ true)
any_either p [] qs h = inr h
any_either p (x ∷ ps) qs h =
    ⊎_elim
    (λ e. inl (or_first (p x) (list_any p ps) e))
    (λ e. ⊎_elim (λ a. inl (or_second (p x) (list_any p ps) a)) (λ a. inr a) (any_either p ps qs e))
    (or_cases (p x) (list_any p (ps ++ qs)) h)

module _ (page : ℕ) (names : PageMap) (Found : Type 0) where
  -- where a page of a buffer is named, it is found
  abbrev Finds : ℕ → ℕ → Type 0
  Finds b i = is_aper page (names (record { 0 = b }) i) ≡ true → Found

  split_all : (ps qs : List Piece) → AllOf Finds Finds (ps ++ qs) → AllOf Finds Finds ps × AllOf Finds Finds qs
  split_all [] qs a = (tt, a)
  split_all (Change d i e k f ∷ ps) qs a = let r = split_all ps qs a.2 in ((a.0, a.1, r.0), r.1)
  split_all (Probe d i g ∷ ps) qs a = let r = split_all ps qs a.1 in ((a.0, r.0), r.1)

  of_op : (o : Op) (ps : List cutting.Piece) → AllOf Finds Finds (map (piece_view o) ps) → list_any (packet_names page) (map (packet_of names o) ps) ≡ true → Found
  of_op o [] a h = cc
  of_op (op.Fill dst off len byte) (p ∷ ps) a h =
      ⊎_elim a.0 (λ e. of_op (op.Fill dst off len byte) ps a.2 e)
      (or_cases (is_aper page (names dst ((off + p.at) / 4096))) (list_any (packet_names page) (map (packet_of names (op.Fill dst off len byte)) ps)) h)
  of_op (op.Copy dst doff src soff len) (p ∷ ps) a h =
      ⊎_elim
      (λ e. ⊎_elim a.0 a.1 (or_cases (is_aper page (names dst ((doff + p.at) / 4096))) (is_aper page (names src ((soff + p.at) / 4096))) e))
      (λ e. of_op (op.Copy dst doff src soff len) ps a.2 e)
      (or_cases (is_aper page (names dst ((doff + p.at) / 4096)) || is_aper page (names src ((soff + p.at) / 4096))) (list_any (packet_names page) (map (packet_of names (op.Copy dst doff src soff len)) ps)) h)
  of_op (op.Xor dst doff src soff len) (p ∷ ps) a h =
      ⊎_elim
      (λ e. ⊎_elim a.0 a.1 (or_cases (is_aper page (names dst ((doff + p.at) / 4096))) (is_aper page (names src ((soff + p.at) / 4096))) e))
      (λ e. of_op (op.Xor dst doff src soff len) ps a.2 e)
      (or_cases (is_aper page (names dst ((doff + p.at) / 4096)) || is_aper page (names src ((soff + p.at) / 4096))) (list_any (packet_names page) (map (packet_of names (op.Xor dst doff src soff len)) ps)) h)
  of_op (op.Probe src off len) (p ∷ ps) a h =
      ⊎_elim a.0 (λ e. of_op (op.Probe src off len) ps a.1 e)
      (or_cases (is_aper page (names src ((off + p.at) / 4096))) (list_any (packet_names page) (map (packet_of names (op.Probe src off len)) ps)) h)

  of_ops : (ops : List Op) → AllOf Finds Finds (views_of ops) → list_any (packet_names page) (packets_of names ops) ≡ true → Found
  of_ops [] a h = cc
  of_ops (o ∷ ops) a h =
      let r = split_all (map (piece_view o) (pieces_of o)) (views_of ops) a in
      ⊎_elim (of_op o (pieces_of o) r.0) (of_ops ops r.1) (any_either (packet_names page) (map (packet_of names o) (pieces_of o)) (packets_of names ops) h)

-- only a live buffer has pages
live_holds : (buffers : List (Option Buffer)) (b : BufId) (page : ℕ) (id : JobId) → has_number (pages_of (spans_in Tt (unwrap_or (live_in buffers b) (new_buffer 0)))) page ≡ true →
    list_any (same_job id) (jobs_before_write (unwrap_or (live_in buffers b) (new_buffer 0))) ≡ true → BufferHolds buffers page id
live_holds buffers b page id h f = by (live_in buffers b) refl h f
  where
    by : (o : Option Buffer) → live_in buffers b ≡ o → has_number (pages_of (spans_in Tt (unwrap_or o (new_buffer 0)))) page ≡ true →
        list_any (same_job id) (jobs_before_write (unwrap_or o (new_buffer 0))) ≡ true → BufferHolds buffers page id
    by None e h f = cc
    by (Some x) e h f = record { b = b; buffer = x; live = e; holding = record { here = h; fence = f } }

module _ (script : Script) (c : Core) (job : JobId) (ops : List Op) (ok : list_all (is_op script) ops ≡ true)
    (live : (b : BufId) → has_buffer (first_mentions [] (flat_map buffers_of_op ops)) b ≡ true → live_in c.buffers b ≡ Some (buffer_in c b))
    (long : (b : BufId) → live_in c.buffers b ≡ Some (buffer_in c b) → (buffer_in c b).mem ≡ Tt → length (pages_of (buffer_in c b).spans) ≡ (decl script b).pages) where
  -- the buffers that it names
  abbrev bs : List BufId
  bs = first_mentions [] (flat_map buffers_of_op ops)

  -- the job as it is emitted
  abbrev armed_job : Job
  armed_job = record { id = job; waits = flat_map (jobs_before_use c ops) bs; packets = packets_of (λ b. packet_place (buffer_in c b)) ops; ran = 0; finished = false }

  -- a page of a buffer of the job
  used : (page : ℕ) (b : BufId) → has_buffer (flat_map buffers_of_op ops) b ≡ true → (i : ℕ) → i < (decl script b).pages → is_aper page (packet_place (buffer_in c b) i) ≡ true →
      BufferHolds (fold (with_use job ops) c.buffers bs) page job
  used page b h i l a =
      let named = mentioned (flat_map buffers_of_op ops) [] b h refl in
      let there = live b named in
      let here = named_here (buffer_in c b) i page (λ m. let many = long b there m in omega (arith, l, many)) a in
      live_holds (fold (with_use job ops) c.buffers bs) b page job
      (ap (λ ns. has_number ns page) (fold_kept job ops (λ y. pages_of (spans_in Tt y)) (λ y how. refl) bs c b.0) ∙ here)
      (joins_writes job ops b bs c named (record { buffer = buffer_in c b; live = there }))

  pub arm_holds : HaveHolders c → HaveHolders (core_after_arm c job ops (first_mentions [] (flat_map buffers_of_op ops)))
  arm_holds h =
      emitted c (core_after_arm c job ops bs) armed_job refl old
      (λ page n.
      inl
      (of_ops page (λ b. packet_place (buffer_in c b)) (BufferHolds (fold (with_use job ops) c.buffers bs) page job) ops
      (views_named script
      (λ b i. is_aper page (packet_place (buffer_in c (record { 0 = b })) i) ≡ true → BufferHolds (fold (with_use job ops) c.buffers bs) page job)
      (λ b i. is_aper page (packet_place (buffer_in c (record { 0 = b })) i) ≡ true → BufferHolds (fold (with_use job ops) c.buffers bs) page job)
      ops ok
      (λ b w. used page b (written_mentioned ops b w))
      (used page))
      n))
      h
    where
      old : (i page : ℕ) (j : Job) → slice_get c.jobs i ≡ Some j → j.finished ≡ false → Holder c.buffers c.ghosts c.jobs page i j.id → Holder (fold (with_use job ops) c.buffers bs) c.ghosts (c.jobs ++ armed_job ∷ []) page i j.id
      old i page j at f (inl m) = inl (uses_hold job ops bs c.buffers page j.id m)
      old i page j at f (inr m) = inr (ghost_kept c.ghosts c.jobs (c.jobs ++ armed_job ∷ []) (keep_more c.jobs armed_job) page i j.id m)
