-- What a thread's own course tells holds after each of its entries.
use Rattle.std.proofs.Common.{◌≡◌, ℕ, ◌≤◌, ◌+◌, zero, suc, Bool, true, false, List, [], ◌∷◌, ◌++◌, length, Option, Some, None, refl, sym, ◌∙◌, ap, subst, arith, ◌⊎◌, ⊎_elim}
use Rattle.std.specs.Prelude.{map, slice_get, is_none, if◌then◌else◌}
use Rattle.ttm_base.specs.declared.BufId.{BufId}
use Rattle.ttm_base.specs.declared.Stamp.{Stamp}
use Rattle.ttm_base.specs.declared.Deny.{Deny}
use Rattle.ttm_base.specs.declared.Deny.TheVariants as deny
use Rattle.ttm_base.specs.Placement.{forced_places}
use Rattle.journal_model.specs.declared.script.Script.{Script}
use Rattle.journal_model.specs.declared.script.Command.{Command}
use Rattle.journal_model.specs.declared.script.Command.TheVariants as command
use Rattle.journal_model.specs.declared.state.State.{State}
use Rattle.journal_model.specs.declared.state.Course.{Course}
use Rattle.journal_model.specs.declared.entry.Why.{Why}
use Rattle.journal_model.specs.rules.State.{new_course, has_buffer}
use Rattle.journal_model.specs.rules.Commands.{commands_of, named}
use Rattle.journal_model.specs.rules.Search.{is_caught, place_search_at_work}
use Rattle.journal_model.specs.rules.Tasks.{starts, first_missing}
use Rattle.journal_model.specs.rules.ApplyCommands.{has_made, on_to_next}
use Rattle.journal_model.specs.rules.ApplyPages.{search_over}
use Rattle.journal_model.specs.rules.ApplyVictims.{failed_if, with_fail, no_longer_caught, with_victim, gone_dry, course_after_dry}
pub use Rattle.laws.proofs.law_state.JournalCourses.{next_course, own_course}
use Rattle.laws.specs.law_sound.Sound.{Steady, command_of, wanted, wants, locks}
use Rattle.laws.proofs.law_sound.Turns.{Works}
use Rattle.laws.proofs.law_sound.Bufs.{victims_of, let_go, has_pushed, has_without, names_let_go, names_failed, names_pushed, none_caught, missing_is_named, clash}

-- ---- each change of a course

same_command : (cmd d : Command) (o : Option Command) → o ≡ Some cmd → o ≡ Some d → cmd ≡ d
same_command cmd d o e f = let it : Some cmd ≡ Some d = sym e ∙ f in cc

none_is : (o : Option Stamp) → is_none o ≡ true → o ≡ None
none_is None h = refl
none_is (Some st) h = cc

pub locking_command : (c : Course) (cmd : Command) → starts c cmd ≡ true → locks cmd ≡ true → c.stamp ≡ None
locking_command c (command.New b) h l = cc
locking_command c (command.Touch group) h l = cc
locking_command c cmd h l = none_is c.stamp h

-- who works wants nothing
pub works_wants : (c : Course) (cmd : Command) → Works c cmd → wants c cmd ≡ None
works_wants c cmd w = by c.made (starts c cmd) (first_missing c cmd) w.unmade w.begun w.whole
  where
    by : (m q : Bool) (o : Option BufId) → m ≡ false → q ≡ false → o ≡ None → wanted m q o ≡ None
    by true q o e f g = refl
    by false true o e f g = refl
    by false false o e f g = g

pub lock_wants : (c : Course) (cmd : Command) (b : BufId) → c.made ≡ false → starts c cmd ≡ false → first_missing c cmd ≡ Some b → wants c cmd ≡ Some b
lock_wants c cmd b m n f = by c.made (starts c cmd) (first_missing c cmd) m n f
  where
    by : (m q : Bool) (o : Option BufId) → m ≡ false → q ≡ false → o ≡ Some b → wanted m q o ≡ Some b
    by true q o e f g = cc
    by false true o e f g = cc
    by false false o e f g = g

made_wants : (c : Course) (cmd : Command) → c.made ≡ true → wants c cmd ≡ None
made_wants c cmd m = ap (λ q. wanted q (starts c cmd) (first_missing c cmd)) m

module _ (script : Script) (t : ℕ) (c : Course) (cmd : Command) (ok : Steady script t c) (at : command_of script t c ≡ Some cmd) where
  -- the command at work is the only one
  only : (d : Command) → command_of script t c ≡ Some d → cmd ≡ d
  only d e = same_command cmd d (command_of script t c) at e

  -- who locks has no victim
  pub locks_alone : (b d : BufId) → wants c cmd ≡ Some b → is_caught c d ≡ true → ⊥
  locks_alone b d w h = let n : wants c cmd ≡ None = ok.searching d cmd at h in let z : None ≡ Some b = sym n ∙ w in cc

  pub ticket_steady : (stamp : Stamp) → locks cmd ≡ true → ((b : BufId) → is_caught c b ≡ true → ⊥) → Steady script t (record c { stamp = Some stamp })
  ticket_steady stamp l alone =
      record {
        answered = ok.answered;
        apart = ok.apart;
        at_work = λ st e. (cmd, at, l);
        named_held = ok.named_held;
        named_first = ok.named_first;
        searching = λ b d e h. absurd (alone b h);
        unfailed = ok.unfailed;
        finished = ok.finished;
      }

  pub reserve_steady : (b : BufId) → c.made ≡ false → starts c cmd ≡ false → first_missing c cmd ≡ Some b → Steady script t (record c { held = c.held ++ b ∷ [] })
  reserve_steady b m st f =
      record {
        answered = ok.answered;
        apart = λ d h. absurd (locks_alone b d (lock_wants c cmd b m st f) h);
        at_work = ok.at_work;
        named_held = λ d x e h.
            ⊎_elim (λ k. ok.named_held d x e k)
            (λ k. subst (λ z. has_buffer (named z) d ≡ true) (only x e) (subst (λ z. has_buffer (named cmd) z ≡ true) (sym k) (missing_is_named c cmd b f (ok.named_first b cmd at))))
            (has_pushed c.held b d h);
        named_first = ok.named_first;
        searching = λ d x e h. absurd (locks_alone b d (lock_wants c cmd b m st f) h);
        unfailed = ok.unfailed;
        finished = ok.finished;
      }

  pub backoff_steady : (b : BufId) → c.made ≡ false → starts c cmd ≡ false → first_missing c cmd ≡ Some b → Steady script t (record c { held = []; first = Some b })
  backoff_steady b m st f =
      record {
        answered = ok.answered;
        apart = λ d h. refl;
        at_work = ok.at_work;
        named_held = λ d x e h. absurd (clash (sym h));
        named_first = λ d x e h. subst (λ z. has_buffer (named z) d ≡ true) (only x e) (subst (λ z. has_buffer (named cmd) z ≡ true) (let it : b ≡ d = cc in it) (missing_is_named c cmd b f (ok.named_first b cmd at)));
        searching = λ d x e h. absurd (locks_alone b d (lock_wants c cmd b m st f) h);
        unfailed = ok.unfailed;
        finished = ok.finished;
      }

  -- the command is done but for its result, and holds no more than it did
  pub made_steady : (held : List BufId) → c.caught ≡ [] → ((b : BufId) → has_buffer held b ≡ true → has_buffer c.held b ≡ true) → Steady script t (has_made (record c { held = held }))
  made_steady held alone less =
      record {
        answered = ok.answered;
        apart = λ b h. absurd (none_caught c b alone h);
        at_work = ok.at_work;
        named_held = λ b x e h. ok.named_held b x e (less b h);
        named_first = ok.named_first;
        searching = λ b x e h. absurd (none_caught c b alone h);
        unfailed = ok.unfailed;
        finished = λ m. alone;
      }

  -- a search goes on
  pub course_steady : (forced : Bool) (dry : ℕ) (skips : List BufId) → Steady script t (record c { forced = forced; dry = dry; skips = skips })
  course_steady forced dry skips =
      record {
        answered = ok.answered;
        apart = ok.apart;
        at_work = ok.at_work;
        named_held = ok.named_held;
        named_first = ok.named_first;
        searching = ok.searching;
        unfailed = ok.unfailed;
        finished = ok.finished;
      }

  pub search_steady : (b : BufId) → Steady script t (search_over b c)
  search_steady b = by (is_caught c b)
    where
      by : (q : Bool) → Steady script t (if q then c else record c { forced = false; dry = 0 })
      by true = ok
      by false = course_steady false 0 c.skips

  -- the command's own search has failed: no victim is caught
  pub own_fail_steady : (forced : Bool) (dry : ℕ) (fail : Option Deny) → c.caught ≡ [] → Steady script t (record c { forced = forced; dry = dry; fail = fail })
  own_fail_steady forced dry fail alone =
      record {
        answered = ok.answered;
        apart = ok.apart;
        at_work = ok.at_work;
        named_held = ok.named_held;
        named_first = ok.named_first;
        searching = ok.searching;
        unfailed = λ b h. absurd (none_caught c b alone h);
        finished = ok.finished;
      }

  -- a victim's search has failed
  pub victim_fail_steady : (b : BufId) (d : Deny) → Works c cmd → Steady script t (record c { caught = map (failed_if d b) c.caught })
  victim_fail_steady b d w =
      record {
        answered = ok.answered;
        apart = λ x h. ok.apart x (was x h);
        at_work = ok.at_work;
        named_held = ok.named_held;
        named_first = ok.named_first;
        searching = λ x y e h. ok.searching x y e (was x h);
        unfailed = λ x h. ok.unfailed x (was x h);
        finished = λ m. absurd (clash (sym m ∙ w.unmade));
      }
    where
      was : (x : BufId) → has_buffer (victims_of (map (failed_if d b) c.caught)) x ≡ true → is_caught c x ≡ true
      was x h = sym (ap (λ bs. has_buffer bs x) (names_failed d b c.caught)) ∙ h

  pub fail_steady : (b : BufId) (d : Deny) → Works c cmd → (is_caught c b ≡ false → c.caught ≡ []) → Steady script t (with_fail b d c)
  fail_steady b d w alone = by (is_caught c b) refl
    where
      by : (q : Bool) → is_caught c b ≡ q → Steady script t (if q then record c { caught = map (failed_if d b) c.caught } else record c { fail = Some d })
      by true e = victim_fail_steady b d w
      by false e = own_fail_steady c.forced c.dry (Some d) (alone e)

  pub dry_steady : (s : State) (b : BufId) (k : ℕ) → Works c cmd → (is_caught c b ≡ false → c.caught ≡ []) → (o : Option Command) → Steady script t (course_after_dry script s b k o c)
  dry_steady s b k w alone None = ok
  dry_steady s b k w alone (Some x) = by (is_caught c b) refl
    where
      by : (q : Bool) → is_caught c b ≡ q → Steady script t (if q then with_fail b deny.NoSpace c else gone_dry k (length (forced_places (place_search_at_work script s c x b).list)) c)
      by true e = fail_steady b deny.NoSpace w alone
      by false e = own_fail_steady true (k + 1) _ (alone e)

  pub catch_steady : (b : BufId) (why : Why) → Works c cmd → c.fail ≡ None → has_buffer c.held b ≡ false → Steady script t (with_victim b why c)
  catch_steady b why w fine other =
      record {
        answered = ok.answered;
        apart = λ x h. ⊎_elim (λ k. ok.apart x k) (λ k. subst (λ z. has_buffer c.held z ≡ false) (sym k) other) (was x h);
        at_work = ok.at_work;
        named_held = ok.named_held;
        named_first = ok.named_first;
        searching = λ x y e h. subst (λ z. wants c z ≡ None) (only y e) (works_wants c cmd w);
        unfailed = λ x h. fine;
        finished = λ m. absurd (clash (sym m ∙ w.unmade));
      }
    where
      was : (x : BufId) → has_buffer (victims_of (c.caught ++ record { b = b; why = why; fail = None } ∷ [])) x ≡ true → (is_caught c x ≡ true) ⊎ (x ≡ b)
      was x h = has_pushed (victims_of c.caught) b x (sym (ap (λ bs. has_buffer bs x) (names_pushed c.caught _)) ∙ h)

  pub loose_steady : (b : BufId) (skips : List BufId) → Works c cmd → Steady script t (record (no_longer_caught b c) { skips = skips })
  loose_steady b skips w =
      record {
        answered = ok.answered;
        apart = λ x h. ok.apart x (was x h);
        at_work = ok.at_work;
        named_held = ok.named_held;
        named_first = ok.named_first;
        searching = λ x y e h. ok.searching x y e (was x h);
        unfailed = λ x h. ok.unfailed x (was x h);
        finished = λ m. absurd (clash (sym m ∙ w.unmade));
      }
    where
      was : (x : BufId) → has_buffer (victims_of (let_go b c.caught)) x ≡ true → is_caught c x ≡ true
      was x h = has_without (victims_of c.caught) b x (sym (ap (λ bs. has_buffer bs x) (names_let_go b c.caught)) ∙ h)

within : {X : Type 0} (xs : List X) (i : ℕ) (x : X) → slice_get xs i ≡ Some x → i + 1 ≤ length xs
within [] i x h = cc
within (y ∷ xs) zero x h = omega arith
within (y ∷ xs) (suc i) x h = let l : i + 1 ≤ length xs = within xs i x h in omega arith

-- the start of a command
pub new_steady : (script : Script) (t n : ℕ) → n ≤ length (commands_of script t) → Steady script t (new_course n)
new_steady script t n l =
    record {
      answered = l;
      apart = λ b h. refl;
      at_work = λ st e. absurd (nothing st e);
      named_held = λ b d e h. absurd (clash (sym h));
      named_first = λ b d e h. absurd (none_first b h);
      searching = λ b d e h. absurd (clash (sym h));
      unfailed = λ b h. refl;
      finished = λ m. refl;
    }
  where
    nothing : (st : Stamp) → None ≡ Some st → ⊥
    nothing st h = cc

    none_first : (b : BufId) → None ≡ Some b → ⊥
    none_first b h = cc

pub next_steady : (script : Script) (t : ℕ) (c : Course) (cmd : Command) → command_of script t c ≡ Some cmd → Steady script t (on_to_next c)
next_steady script t c cmd at = new_steady script t (c.answered + 1) (within (commands_of script t) c.answered cmd at)
