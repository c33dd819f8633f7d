-- The lists of buffers after an answer.
use Rattle.std.proofs.Common.{◌≡◌, ℕ, zero, suc, ◌+◌, ◌<◌, true, false, List, [], ◌∷◌, ◌++◌, Option, Some, None, append-nil, cond, get_or, length, take, refl, sym, ◌∙◌, ap, subst, arith}
use Rattle.std.specs.Prelude.{◌==◌, filter, fold, if◌then◌else◌}
use Rattle.std.proofs.lemmas.Bool.Decides.{nat_tests}
use Rattle.std.proofs.lemmas.List.Elements.{filter_more}
use Rattle.std.proofs.lemmas.List.Sums.{fold-append}
use Rattle.ttm_base.specs.declared.BufId.{BufId}
use Rattle.bo_table.specs.Seen.{Bos}
use Rattle.lru_bulk.specs.declared.nodes.Listing.{Listing}
use Rattle.lru_bulk.specs.Lists as lru
use Rattle.lru_bulk.specs.Lists.{Order, added, listing_of}
use Rattle.lru_bulk.specs.Members.{AreMembersListed}
use Rattle.journal_model.specs.declared.script.Script.{Script}
use Rattle.journal_model.specs.declared.script.Command.{Command}
use Rattle.journal_model.specs.declared.script.Command.TheVariants as command
use Rattle.journal_model.specs.declared.state.Buffer.{Buffer}
use Rattle.journal_model.specs.declared.state.Course.{Course}
use Rattle.journal_model.specs.declared.state.Reservation.{Reservation}
use Rattle.journal_model.specs.rules.State.{reservation_in, has_buffer, live_in, reservation_changed}
use Rattle.journal_model.specs.rules.Commands.{decl, named}
use Rattle.journal_model.specs.rules.Lists.{touched}
use Rattle.journal_model.specs.rules.ApplyCommands.{held_as_named, pinned_less, pinned_more, with_pins}
use Rattle.room_representation.specs.lemma_lists.Listed.{AreListed}
use Rattle.room_representation.proofs.lemma_lists.KindLaws.{touched_again, pinned_again, pinned_lists, unpinned_further, unpinned_lists}
use Rattle.room_jobs.specs.Bodies.{body_at}
use Rattle.room_jobs.specs.Listings.{AreRelisted, AreTouched, unlisted_as, unpinned}

-- ---- buffers that are touched one after another

module _ (held bs : List BufId) (i : ℕ) (d : BufId) (l : i < length bs) (old mid new : Order) (h : AreTouched (filter (has_buffer held) (take i bs)) old mid) where
  -- the next one is held
  pub touched_more : has_buffer held (get_or bs i d) ≡ true → AreMembersListed mid → new ≡ lru.touched mid (get_or bs i d) → AreTouched (filter (has_buffer held) (take (i + 1) bs)) old new
  touched_more q members is script buffers reservations lists representation =
      let f = touched script buffers reservations in
      let before = filter (has_buffer held) (take i bs) in
      let b = get_or bs i d in
      let more : filter (has_buffer held) (take (i + 1) bs) ≡ before ++ b ∷ [] = filter_more (has_buffer held) bs i d l ∙ ap (λ c. before ++ cond c (b ∷ []) []) q in
      let e : fold f lists (filter (has_buffer held) (take (i + 1) bs)) ≡ f (fold f lists before) b = ap (fold f lists) more ∙ fold-append f lists before (b ∷ []) in
      subst (λ ls. AreListed script buffers reservations ls new) (sym e)
      (subst (AreListed script buffers reservations (f (fold f lists before) b)) (sym is) (touched_again script buffers reservations (fold f lists before) mid b (h script buffers reservations lists representation) members))

  -- it isn't
  pub touched_less : has_buffer held (get_or bs i d) ≡ false → new ≡ mid → AreTouched (filter (has_buffer held) (take (i + 1) bs)) old new
  touched_less q is script buffers reservations lists representation =
      let before = filter (has_buffer held) (take i bs) in
      let b = get_or bs i d in
      let same : filter (has_buffer held) (take (i + 1) bs) ≡ before = filter_more (has_buffer held) bs i d l ∙ ap (λ c. before ++ cond c (b ∷ []) []) q ∙ append-nil before in
      subst (λ ds. AreListed script buffers reservations (fold (touched script buffers reservations) lists ds) new) (sym same)
      (subst (AreListed script buffers reservations (fold (touched script buffers reservations) lists before)) (sym is) (h script buffers reservations lists representation))

-- any other command than a pin or an unpin touches
pub relisted_other : (script : Script) (bos : Bos) (held : List BufId) (cmd : Command) (old new : Order) → ((b : BufId) → cmd ≡ command.Pin b → ⊥) → ((b : BufId) → cmd ≡ command.Unpin b → ⊥) →
    AreTouched (filter (has_buffer held) (named cmd)) old new → AreRelisted script bos held cmd old new
relisted_other script bos held (command.Pin b) old new n m h = absurd (n b refl)
relisted_other script bos held (command.Unpin b) old new n m h = absurd (m b refl)
relisted_other script bos held cmd old new n m h = h

-- ---- by command

-- a pinned buffer is there, and one that is unpinned is live and pinned, as the table says
pub record IsUnpinned (bos : Bos) (buffers : List (Option Buffer)) (reservations : List Reservation) (b : BufId) : Type 0 where
  pub buffer : Buffer
  pub live : live_in buffers b ≡ Some buffer
  pub mem : (body_at bos b).mem ≡ buffer.mem
  pub pins : (reservation_in bos.reservations b).pins ≡ (reservation_in reservations b).pins
  pub some : 0 < (reservation_in reservations b).pins
  pub below : b.0 < length buffers

not_one : (k : ℕ) → (suc (suc k) == 1) ≡ false
not_one k = grind (arith, nat_tests)

-- what a pin or an unpin needs
abbrev pub IsHeldFor : Bos → List (Option Buffer) → List Reservation → List BufId → Command → Type 0
IsHeldFor bos buffers reservations held (command.Pin b) = (has_buffer held b ≡ true) × (b.0 < length reservations)
IsHeldFor bos buffers reservations held (command.Unpin b) = (has_buffer held b ≡ true) × (b.0 < length reservations) × IsUnpinned bos buffers reservations b
IsHeldFor bos buffers reservations held cmd = Unit {0}

-- the only buffer that a command names is touched alone, where it is held
one_held : (held : List BufId) (b : BufId) → has_buffer held b ≡ true → filter (has_buffer held) (b ∷ []) ≡ b ∷ []
one_held held b h = ap (λ q. cond q (b ∷ []) []) h

module _ (script : Script) (buffers : List (Option Buffer)) (reservations : List Reservation) (lists : List (List BufId)) (o new : Order) (bos : Bos) (c : Course)
    (representation : AreListed script buffers reservations lists o) (members : AreMembersListed o) where
  -- as the definition lists them
  abbrev AreAnswered : Command → Order → Type 0
  AreAnswered cmd order = AreListed script buffers (with_pins (Some cmd) reservations) (fold (touched script buffers (with_pins (Some cmd) reservations)) lists (held_as_named c (Some cmd))) order

  pinned : (b : BufId) → has_buffer c.held b ≡ true → b.0 < length reservations → new ≡ unlisted_as o b (listing_of o b) → AreAnswered (command.Pin b) new
  pinned b h room is =
      let after = reservation_changed pinned_more reservations b in
      subst (λ bs. AreListed script buffers after (fold (touched script buffers after) lists bs) new) (sym (one_held c.held b h))
      (subst (AreListed script buffers after (touched script buffers after lists b)) (sym is) (by (listing_of o b) refl))
    where
      by : (y : Option Listing) → listing_of o b ≡ y → AreListed script buffers (reservation_changed pinned_more reservations b) (touched script buffers (reservation_changed pinned_more reservations b) lists b) (unlisted_as o b y)
      by None e = pinned_again script buffers reservations lists o b representation members room (sym (representation.listings_are b) ∙ e)
      by (Some x) e = pinned_lists script buffers reservations lists o b representation members room x (sym (representation.listings_are b) ∙ e)

  less_pinned : (b : BufId) → has_buffer c.held b ≡ true → b.0 < length reservations → IsUnpinned bos buffers reservations b → new ≡ unpinned script bos o b → AreAnswered (command.Unpin b) new
  less_pinned b h room u is =
      let after = reservation_changed pinned_less reservations b in
      subst (λ bs. AreListed script buffers after (fold (touched script buffers after) lists bs) new) (sym (one_held c.held b h))
      (subst (AreListed script buffers after (touched script buffers after lists b)) (sym is) (by (reservation_in reservations b).pins refl))
    where
      by : (n : ℕ) → (reservation_in reservations b).pins ≡ n → AreListed script buffers (reservation_changed pinned_less reservations b) (touched script buffers (reservation_changed pinned_less reservations b) lists b) (unpinned script bos o b)
      by zero e = let s = u.some in absurd (omega (arith, e, s))
      by (suc zero) e =
          let one : (reservation_in bos.reservations b).pins ≡ 1 = u.pins ∙ e in
          let same : added o b (record { mem = u.buffer.mem; prio = (decl script b).prio; group = (decl script b).group }) ≡ unpinned script bos o b =
          ap (λ m. added o b (let y : Listing = record { mem = m; prio = (decl script b).prio; group = (decl script b).group } in y)) (sym u.mem)
          ∙ sym (ap (λ n. if n == 1 then added o b (let y : Listing = record { mem = (body_at bos b).mem; prio = (decl script b).prio; group = (decl script b).group } in y) else o) one) in
          subst (AreListed script buffers (reservation_changed pinned_less reservations b) (touched script buffers (reservation_changed pinned_less reservations b) lists b)) same
          (unpinned_lists script buffers reservations lists o b representation members room u.buffer u.live e u.below)
      by (suc (suc k)) e =
          let many : (reservation_in reservations b).pins ≡ k + 1 + 1 = omega (arith, e) in
          let more : (reservation_in bos.reservations b).pins ≡ suc (suc k) = u.pins ∙ e in
          let same : o ≡ unpinned script bos o b =
          sym (ap (λ q. if q then added o b (let y : Listing = record { mem = (body_at bos b).mem; prio = (decl script b).prio; group = (decl script b).group } in y) else o) (ap (λ n. n == 1) more ∙ not_one k)) in
          subst (AreListed script buffers (reservation_changed pinned_less reservations b) (touched script buffers (reservation_changed pinned_less reservations b) lists b)) same
          (unpinned_further script buffers reservations lists o b representation members room k many)

  -- the lists are those of the state after the answer
  pub answered_lists : (cmd : Command) → IsHeldFor bos buffers reservations c.held cmd → AreRelisted script bos c.held cmd o new → AreAnswered cmd new
  answered_lists (command.Pin b) h is = pinned b h.0 h.1 is
  answered_lists (command.Unpin b) h is = less_pinned b h.0 h.1 h.2 is
  answered_lists (command.New b) h is = is script buffers reservations lists representation
  answered_lists (command.Free b) h is = is script buffers reservations lists representation
  answered_lists (command.Find b) h is = is script buffers reservations lists representation
  answered_lists (command.SwapOut b) h is = is script buffers reservations lists representation
  answered_lists (command.Write b off bytes) h is = is script buffers reservations lists representation
  answered_lists (command.Read b off len) h is = is script buffers reservations lists representation
  answered_lists (command.Move b mem) h is = is script buffers reservations lists representation
  answered_lists (command.Touch group) h is = is script buffers reservations lists representation
  answered_lists (command.Submit engine ops) h is = is script buffers reservations lists representation
