-- A table after one of its buffers was changed.
use Rattle.std.proofs.Common.{◌≡◌, true, ℕ, zero, suc, ◌<◌, ◌≤◌, List, [], ◌∷◌, ◌++◌, Option, Some, None, refl, sym, ◌∙◌, ap, arith, length}
use Rattle.std.specs.Prelude.{map, option_map, option_and_then, slice_get, slice_set, replicate, unwrap_or}
use Rattle.std.specs.Option.{ForSome}
use Rattle.ttm_base.specs.declared.BufId.{BufId}
use Rattle.ttm_base.specs.declared.JobId.{JobId}
use Rattle.ttm_base.specs.declared.Usage.{Usage}
use Rattle.fence_core.specs.declared.fence_set.Latest.{Latest}
use Rattle.fence_core.specs.Fences.{nothing_kept, added}
use Rattle.journal_model.specs.declared.state.Buffer.{Buffer}
use Rattle.journal_model.specs.declared.state.Reservation.{Reservation}
use Rattle.journal_model.specs.rules.State.{changed, live_in, reservation_changed, reservation_in, no_reservation, no_targets, new_buffer}
use Rattle.ttm_base.proofs.ListLaws.{set_same}
use Rattle.bo_table.proofs.Setting.{set_beyond}
use Rattle.ttm_base.specs.declared.Loc.{Loc}
use Rattle.ttm_base.specs.declared.Span.{Span}
use Rattle.ttm_base.specs.declared.Mem.TheVariants.{System}
use Rattle.resv_object.specs.ReservationObjects.{ReservationObject}
use Rattle.journal_model.specs.declared.state.Targets.{Targets}
use Rattle.ttm_base.specs.declared.Loc.TheVariants as loc
use Rattle.journal_model.specs.declared.script.Decl.{Decl}
use Rattle.bo_table.specs.declared.bo.Bo.{Bo}
use Rattle.bo_table.specs.Seen.{Bos, seen, body_of, reservation_of, IsBo, IsChanged, IsReservationChanged, IsReset, IsUsed, IsDead, first_bos, with_changed, with_reservation, with_reset, with_made, with_use, without_jobs, fences_at}

pub get_map : {X Y : Type 0} (f : X → Y) (xs : List X) (i : ℕ) → slice_get (map f xs) i ≡ option_map f (slice_get xs i)
get_map f [] i = refl
get_map f (x ∷ xs) zero = refl
get_map f (x ∷ xs) (suc i) = get_map f xs i

pub map_set : {X Y : Type 0} (f : X → Y) (xs : List X) (i : ℕ) (y : X) → map f (slice_set xs i y) ≡ slice_set (map f xs) i (f y)
map_set f [] i y = refl
map_set f (x ∷ xs) zero y = refl
map_set f (x ∷ xs) (suc i) y = ap (λ zs. f x ∷ zs) (map_set f xs i y)

pub map_push : {X Y : Type 0} (f : X → Y) (xs : List X) (x : X) → map f (xs ++ x ∷ []) ≡ map f xs ++ f x ∷ []
map_push f [] x = refl
map_push f (y ∷ xs) x = ap (λ zs. f y ∷ zs) (map_push f xs x)

pub length_map : {X Y : Type 0} (f : X → Y) (xs : List X) → length (map f xs) ≡ length xs
length_map f [] = refl
length_map f (x ∷ xs) = ap suc (length_map f xs)

-- a part of the element stays as it was
pub kept_part : {X Y : Type 0} (f : X → Y) (xs : List X) (i : ℕ) (old new : X) → slice_get xs i ≡ Some old → f new ≡ f old → map f (slice_set xs i new) ≡ map f xs
kept_part f xs i old new h e = map_set f xs i new ∙ ap (slice_set (map f xs) i) e ∙ set_same (map f xs) i (f old) (get_map f xs i ∙ ap (option_map f) h)

module _ (bos : List Bo) (b : BufId) (old new : Bo) (here : slice_get bos b.0 ≡ Some old) where
  live_here : live_in (map body_of bos) b ≡ body_of old
  live_here = ap (option_and_then (λ x. x)) (get_map body_of bos b.0 ∙ ap (option_map body_of) here)

  reservation_here : reservation_in (map reservation_of bos) b ≡ reservation_of old
  reservation_here = ap (λ o. unwrap_or o no_reservation) (get_map reservation_of bos b.0 ∙ ap (option_map reservation_of) here)

  fences_here : fences_at (map (λ (bo : Bo). bo.resv.fences) bos) b ≡ old.resv.fences
  fences_here = ap (λ (o : Option (List Latest)). unwrap_or o []) (get_map (λ (bo : Bo). bo.resv.fences) bos b.0 ∙ ap (option_map (λ (bo : Bo). bo.resv.fences)) here)

  pub changed_at : (f : Buffer → Buffer) → IsChanged f old new → seen (slice_set bos b.0 new) ≡ with_changed f (seen bos) b
  changed_at f h =
      let buffers : map body_of (slice_set bos b.0 new) ≡ changed f (map body_of bos) b =
      map_set body_of bos b.0 new ∙ ap (slice_set (map body_of bos) b.0) (h.body ∙ ap (option_map f) (sym live_here)) in
      let reservations : map reservation_of (slice_set bos b.0 new) ≡ map reservation_of bos = kept_part reservation_of bos b.0 old new here h.reservation in
      let fences : map (λ (bo : Bo). bo.resv.fences) (slice_set bos b.0 new) ≡ map (λ (bo : Bo). bo.resv.fences) bos = kept_part (λ bo. bo.resv.fences) bos b.0 old new here h.fences in
      let pages : map (λ (bo : Bo). length bo.table) (slice_set bos b.0 new) ≡ map (λ (bo : Bo). length bo.table) bos = kept_part (λ bo. length bo.table) bos b.0 old new here h.pages in
      cc

  pub reservation_changed_at : (f : Reservation → Reservation) → IsReservationChanged f old new → seen (slice_set bos b.0 new) ≡ with_reservation f (seen bos) b
  reservation_changed_at f h =
      let buffers : map body_of (slice_set bos b.0 new) ≡ map body_of bos = kept_part body_of bos b.0 old new here h.body in
      let reservations : map reservation_of (slice_set bos b.0 new) ≡ reservation_changed f (map reservation_of bos) b =
      map_set reservation_of bos b.0 new ∙ ap (slice_set (map reservation_of bos) b.0) (h.reservation ∙ ap f (sym reservation_here)) in
      let fences : map (λ (bo : Bo). bo.resv.fences) (slice_set bos b.0 new) ≡ map (λ (bo : Bo). bo.resv.fences) bos = kept_part (λ bo. bo.resv.fences) bos b.0 old new here h.fences in
      let pages : map (λ (bo : Bo). length bo.table) (slice_set bos b.0 new) ≡ map (λ (bo : Bo). length bo.table) bos = kept_part (λ bo. length bo.table) bos b.0 old new here h.pages in
      cc

  pub reset_at : (o : Option Buffer) → IsReset o old new → seen (slice_set bos b.0 new) ≡ with_reset o (seen bos) b
  reset_at o h =
      let buffers : map body_of (slice_set bos b.0 new) ≡ slice_set (map body_of bos) b.0 o = map_set body_of bos b.0 new ∙ ap (slice_set (map body_of bos) b.0) h.body in
      let reservations : map reservation_of (slice_set bos b.0 new) ≡ slice_set (map reservation_of bos) b.0 no_reservation = map_set reservation_of bos b.0 new ∙ ap (slice_set (map reservation_of bos) b.0) h.reservation in
      let fences : map (λ (bo : Bo). bo.resv.fences) (slice_set bos b.0 new) ≡ slice_set (map (λ (bo : Bo). bo.resv.fences) bos) b.0 (without_jobs (fences_at (map (λ (bo : Bo). bo.resv.fences) bos) b)) =
      map_set (λ bo. bo.resv.fences) bos b.0 new ∙ ap (slice_set (map (λ (bo : Bo). bo.resv.fences) bos) b.0) (h.fences ∙ ap without_jobs (sym fences_here)) in
      let pages : map (λ (bo : Bo). length bo.table) (slice_set bos b.0 new) ≡ map (λ (bo : Bo). length bo.table) bos = kept_part (λ bo. length bo.table) bos b.0 old new here h.pages in
      cc

  pub used_at : (job : JobId) (how : Usage) → IsUsed job how old new → seen (slice_set bos b.0 new) ≡ with_use job how (seen bos) b
  used_at job how h =
      let buffers : map body_of (slice_set bos b.0 new) ≡ map body_of bos = kept_part body_of bos b.0 old new here h.body in
      let reservations : map reservation_of (slice_set bos b.0 new) ≡ map reservation_of bos = kept_part reservation_of bos b.0 old new here h.reservation in
      let fences : map (λ (bo : Bo). bo.resv.fences) (slice_set bos b.0 new) ≡ slice_set (map (λ (bo : Bo). bo.resv.fences) bos) b.0 (added (fences_at (map (λ (bo : Bo). bo.resv.fences) bos) b) job how) =
      map_set (λ bo. bo.resv.fences) bos b.0 new ∙ ap (slice_set (map (λ (bo : Bo). bo.resv.fences) bos) b.0) (h.fences ∙ ap (λ set. added set job how) (sym fences_here)) in
      let pages : map (λ (bo : Bo). length bo.table) (slice_set bos b.0 new) ≡ map (λ (bo : Bo). length bo.table) bos = kept_part (λ bo. length bo.table) bos b.0 old new here h.pages in
      cc

  pages_here : unwrap_or (slice_get (map (λ (bo : Bo). length bo.table) bos) b.0) 0 ≡ length old.table
  pages_here = ap (λ (o : Option ℕ). unwrap_or o 0) (get_map (λ (bo : Bo). length bo.table) bos b.0 ∙ ap (option_map (λ (bo : Bo). length bo.table)) here)

  pub made_at : IsReset (Some (new_buffer (length old.table))) old new → seen (slice_set bos b.0 new) ≡ with_made (seen bos) b
  made_at h = reset_at (Some (new_buffer (length old.table))) h ∙ ap (λ n. with_reset (Some (new_buffer n)) (seen bos) b) (sym pages_here)

module _ (bos : List Bo) (b : BufId) (old : Bo) (here : slice_get bos b.0 ≡ Some old) where
  pub lent : IsBo (seen bos) b old
  lent =
      record {
        body = get_map body_of bos b.0 ∙ ap (option_map body_of) here;
        reservation = get_map reservation_of bos b.0 ∙ ap (option_map reservation_of) here;
        fences = get_map (λ (bo : Bo). bo.resv.fences) bos b.0 ∙ ap (option_map (λ (bo : Bo). bo.resv.fences)) here;
        pages = get_map (λ (bo : Bo). length bo.table) bos b.0 ∙ ap (option_map (λ (bo : Bo). length bo.table)) here;
      }

-- a buffer that isn't declared changes nothing
pub changed_beyond : (f : Buffer → Buffer) (bos : List Bo) (b : BufId) → length bos ≤ b.0 → with_changed f (seen bos) b ≡ seen bos
changed_beyond f bos b h =
    let e : changed f (map body_of bos) b ≡ map body_of bos = set_beyond (map body_of bos) b.0 (option_map f (live_in (map body_of bos) b)) (omega (arith, h, length_map body_of bos)) in
    cc

pub reservation_changed_beyond : (f : Reservation → Reservation) (bos : List Bo) (b : BufId) → length bos ≤ b.0 → with_reservation f (seen bos) b ≡ seen bos
reservation_changed_beyond f bos b h =
    let e : reservation_changed f (map reservation_of bos) b ≡ map reservation_of bos = set_beyond (map reservation_of bos) b.0 (f (reservation_in (map reservation_of bos) b)) (omega (arith, h, length_map reservation_of bos)) in
    cc

pub reset_beyond : (o : Option Buffer) (bos : List Bo) (b : BufId) → length bos ≤ b.0 → with_reset o (seen bos) b ≡ seen bos
reset_beyond o bos b h =
    let fs = map (λ (bo : Bo). bo.resv.fences) bos in
    let e : slice_set (map body_of bos) b.0 o ≡ map body_of bos = set_beyond (map body_of bos) b.0 o (omega (arith, h, length_map body_of bos)) in
    let g : slice_set (map reservation_of bos) b.0 no_reservation ≡ map reservation_of bos = set_beyond (map reservation_of bos) b.0 no_reservation (omega (arith, h, length_map reservation_of bos)) in
    let f : slice_set fs b.0 (without_jobs (fences_at fs b)) ≡ fs = set_beyond fs b.0 (without_jobs (fences_at fs b)) (omega (arith, h, length_map (λ (bo : Bo). bo.resv.fences) bos)) in
    cc

pub used_beyond : (job : JobId) (how : Usage) (bos : List Bo) (b : BufId) → length bos ≤ b.0 → with_use job how (seen bos) b ≡ seen bos
used_beyond job how bos b h =
    let fs = map (λ (bo : Bo). bo.resv.fences) bos in
    let f : slice_set fs b.0 (added (fences_at fs b) job how) ≡ fs = set_beyond fs b.0 (added (fences_at fs b) job how) (omega (arith, h, length_map (λ (bo : Bo). bo.resv.fences) bos)) in
    cc

pub all_zero : (table : List Loc) → map (λ l. loc.Zero) table ≡ replicate (length table) loc.Zero
all_zero [] = refl
all_zero (l ∷ table) = ap (λ ls. loc.Zero ∷ ls) (all_zero table)

-- what is required of the set of a buffer holds of the one that is at hand
pub knows : (bos : List Bo) (b : BufId) (bo : Bo) (ctx : ℕ) → ForSome (slice_get (seen bos).fences b.0) (λ set. ctx < length set) → slice_get bos b.0 ≡ Some bo → ctx < length bo.resv.fences
knows bos b bo ctx h here = h bo.resv.fences (get_map (λ (x : Bo). x.resv.fences) bos b.0 ∙ ap (option_map (λ (x : Bo). x.resv.fences)) here)

-- dead buffers, one for each declared one so far
pub dead_one : (decls : List Decl) (d : Decl) (contexts : ℕ) (bos : List Bo) (bo : Bo) → seen bos ≡ first_bos decls contexts → IsDead d.pages contexts bo → seen (bos ++ bo ∷ []) ≡ first_bos (decls ++ d ∷ []) contexts
dead_one decls d contexts bos bo h dead =
    let p : map body_of (bos ++ bo ∷ []) ≡ map (λ x. None) (decls ++ d ∷ []) =
    map_push body_of bos bo ∙ ap (λ xs. xs ++ body_of bo ∷ []) (ap (λ (t : Bos). t.buffers) h) ∙ ap (λ x. map (λ y. None) decls ++ x ∷ []) dead.body ∙ sym (map_push (λ x. None) decls d) in
    let q : map reservation_of (bos ++ bo ∷ []) ≡ map (λ x. no_reservation) (decls ++ d ∷ []) =
    map_push reservation_of bos bo ∙ ap (λ xs. xs ++ reservation_of bo ∷ []) (ap (λ (t : Bos). t.reservations) h) ∙ ap (λ x. map (λ y. no_reservation) decls ++ x ∷ []) dead.reservation ∙ sym (map_push (λ x. no_reservation) decls d) in
    let r : map (λ (x : Bo). x.resv.fences) (bos ++ bo ∷ []) ≡ map (λ x. replicate contexts nothing_kept) (decls ++ d ∷ []) =
    map_push (λ (x : Bo). x.resv.fences) bos bo ∙ ap (λ xs. xs ++ bo.resv.fences ∷ []) (ap (λ (t : Bos). t.fences) h) ∙ ap (λ x. map (λ y. replicate contexts nothing_kept) decls ++ x ∷ []) dead.fences
    ∙ sym (map_push (λ x. replicate contexts nothing_kept) decls d) in
    let n : map (λ (x : Bo). length x.table) (bos ++ bo ∷ []) ≡ map (λ (x : Decl). x.pages) (decls ++ d ∷ []) =
    map_push (λ (x : Bo). length x.table) bos bo ∙ ap (λ xs. xs ++ length bo.table ∷ []) (ap (λ (t : Bos). t.pages) h) ∙ ap (λ x. map (λ (y : Decl). y.pages) decls ++ x ∷ []) dead.pages
    ∙ sym (map_push (λ (x : Decl). x.pages) decls d) in
    cc

-- a buffer that is made
pub made_is : (old : Bo) (table : List Loc) (spans : List Span) (targets : Targets) (resv : ReservationObject) → table ≡ map (λ l. loc.Zero) old.table → spans ≡ [] → targets ≡ no_targets →
    resv ≡ record { holder = None; fences = replicate (length old.resv.fences) nothing_kept } →
    IsReset (Some (new_buffer (length old.table))) old (record { alive = true; mem = System; spans = spans; table = table; targets = targets; pins = 0; resv = resv })
made_is old table spans targets resv a b d e =
    let zero : table ≡ replicate (length old.table) loc.Zero = a ∙ all_zero old.table in
    let none : resv.holder ≡ None = ap (λ (r : ReservationObject). r.holder) e in
    record {
      body = cc;
      reservation = cc;
      fences = ap (λ (r : ReservationObject). r.fences) e;
      pages = ap length a ∙ length_map (λ l. loc.Zero) old.table;
    }
