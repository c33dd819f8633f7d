-- A search that has gone dry at some places still has others to look at; each entry keeps this.
use Rattle.std.proofs.Common.{◌≡◌, ℕ, ◌<◌, ◌+◌, zero, suc, Bool, true, false, List, [], ◌∷◌, ◌++◌, length, Option, Some, None, refl, sym, ◌∙◌, ap, ap₂, subst, arith, inl, ⊎_elim}
use Rattle.std.specs.Prelude.{slice_get, map, find, cond, not, unwrap_or, ◌==◌, ◌&&◌, ◌||◌, if◌then◌else◌}
use Rattle.std.proofs.lemmas.Bool.{cases_eq, both_ways, or_left, or_right, false_from_ne_true}
use Rattle.std.proofs.lemmas.Bool.Decides.{nat_tests}
use Rattle.ttm_base.specs.ListWords.{last_of}
use Rattle.ttm_base.specs.Placement.{forced_places}
use Rattle.ttm_base.specs.declared.Mem.{Mem}
use Rattle.ttm_base.specs.declared.Span.{Span}
use Rattle.ttm_base.specs.declared.BufId.{BufId}
use Rattle.ttm_base.specs.declared.Deny.{Deny}
use Rattle.ttm_base.specs.declared.Deny.TheVariants as deny
use Rattle.ttm_base.specs.declared.Actor.{Actor}
use Rattle.journal_model.specs.declared.script.Script.{Script}
use Rattle.journal_model.specs.declared.script.Command.{Command}
use Rattle.journal_model.specs.declared.state.State.{State}
use Rattle.journal_model.specs.declared.state.Course.{Course}
use Rattle.journal_model.specs.declared.state.Victim.{Victim}
use Rattle.journal_model.specs.declared.state.SearchAim.TheVariants.{Asked, Hop}
use Rattle.journal_model.specs.declared.state.Task.{Task}
use Rattle.journal_model.specs.declared.entry.Why.{Why}
use Rattle.journal_model.specs.declared.entry.DryWhy.{DryWhy}
use Rattle.journal_model.specs.declared.entry.Kind.{Kind}
use Rattle.journal_model.specs.declared.entry.Kind.TheVariants as kind
use Rattle.journal_model.specs.rules.State.{new_buffer, buffer, course, reservation, same_buffer, has_buffer, without_buffer}
use Rattle.journal_model.specs.rules.Commands.{commands_of, named, command_at_work, asked_places}
use Rattle.journal_model.specs.rules.Choice.{choice}
use Rattle.journal_model.specs.rules.Ready.{has_some_target, is_in_place, is_filled, is_ready, first_unready}
use Rattle.journal_model.specs.rules.Search.{PlaceSearch, place_search, place_search_at_work, is_caught}
use Rattle.journal_model.specs.rules.Tasks.{starts, first_missing}
use Rattle.journal_model.specs.rules.Legal.{first_state}
use Rattle.journal_model.specs.rules.Apply.{applied}
use Rattle.journal_model.specs.rules.ApplyCommands.{on_to_next, has_made}
use Rattle.journal_model.specs.rules.ApplyVictims.{failed_if, with_fail, gone_dry, course_after_dry, with_victim, no_longer_caught}
use Rattle.laws.specs.law_sound.Sound.{command_of}
use Rattle.laws.proofs.law_sound.Along.{Stepped, OfWorker, packet, done, reap, first_course}
use Rattle.laws.proofs.law_sound.Turns.{Turn, Works, OnMisplaced, OnCarried, answer, start, lock, victim_unbind, victim_empty, victim_give, victim_skip, victim_move, victim_fill, victim_search, refuse, give, give_up, act, fill_in_place, ask, bind, fill_to_bind, hop_up, unbind, move_up, move_across, move_down, fill_to_move, hop_down}
use Rattle.laws.proofs.law_sound.Gifts.{Gives, SearchOutcome, Filled, answers, makes, exists, shifts, draws, no_buffer, reserves, backs, seeks, binds, unbinds, moves, fills, lets_go, empties, depopulates, untakes, skips, gives_up, refuses, arms, frees, swaps, no_swap, acts, finds, evicts, dries, fresh, again, back, evicts_for_swap, nothing}
use Rattle.laws.proofs.law_sound.Bufs.{same_self, other_is, has_found, none_missing, none_last, last_caught, none_caught}
use Rattle.laws.proofs.law_sound.Steadies.{next_course, own_course}
use Rattle.laws.proofs.law_sound.Owners.{none_or}
use Rattle.laws.proofs.law_sound.Reservations.{IsFree, victim_free, swap_free}
use Rattle.laws.proofs.lemma_end_measure.Frame.{touches, untouched}
use Rattle.laws.proofs.lemma_end_measure.Border.{Known, one, others_same}
use Rattle.laws.proofs.lemma_end_measure.Parts.{after}
use Rattle.laws.proofs.lemma_end_searches.Searches.{real_place}
use Rattle.laws.proofs.lemma_end_searches.Catching.{hop}

-- where a search has gone dry, it is that of the buffer at work, which has no target yet, and places are left
pub record PlacesLeft (script : Script) (s : State) (c : Course) (cmd : Command) : Type 0 where
  pub works : Works c cmd
  pub b : BufId
  pub first : first_unready script s cmd ≡ Some b
  pub misplaced : is_in_place script cmd b (buffer s b) ≡ false
  pub untargeted : has_some_target (buffer s b) ≡ false
  pub fewer : c.dry < length (forced_places (asked_places script cmd b))

abbrev pub DryOf : Script → State → ℕ → Course → Type 0
DryOf script s t c = (cmd : Command) → command_of script t c ≡ Some cmd → c.fail ≡ None → 0 < c.dry → PlacesLeft script s c cmd

-- ---- buffers that stay

find_same : (p q : BufId → Bool) (bs : List BufId) → ((b : BufId) → has_buffer bs b ≡ true → p b ≡ q b) → find p bs ≡ find q bs
find_same p q [] h = refl
find_same p q (b ∷ bs) h =
    ap₂ (λ x o. cond x (Some b) o) (h b (or_left (same_buffer b b) (has_buffer bs b) (same_self b))) (find_same p q bs (λ d k. h d (or_right (same_buffer d b) (has_buffer bs d) k)))

pub unready_same : (script : Script) (s s' : State) (cmd : Command) → ((b : BufId) → has_buffer (named cmd) b ≡ true → buffer s' b ≡ buffer s b) → first_unready script s' cmd ≡ first_unready script s cmd
unready_same script s s' cmd same =
    find_same (λ b. not (is_ready script s' cmd b)) (λ b. not (is_ready script s cmd b)) (named cmd) (λ b h. ap (λ x. not (is_in_place script cmd b x && is_filled cmd x)) (same b h))

-- the places are left where the named buffers stay
left_same : (script : Script) (s s' : State) (c c' : Course) (cmd : Command) → Works c' cmd → c'.dry ≡ c.dry → ((b : BufId) → has_buffer (named cmd) b ≡ true → buffer s' b ≡ buffer s b) → PlacesLeft script s c cmd → PlacesLeft script s' c' cmd
left_same script s s' c c' cmd works dry same p =
    let member = has_found (λ y. not (is_ready script s cmd y)) (named cmd) p.b p.first in
    let is = same p.b member in
    record {
      works = works;
      b = p.b;
      first = unready_same script s s' cmd same ∙ p.first;
      misplaced = ap (is_in_place script cmd p.b) is ∙ p.misplaced;
      untargeted = ap has_some_target is ∙ p.untargeted;
      fewer = subst (λ n. n < length (forced_places (asked_places script cmd p.b))) (sym dry) p.fewer;
    }

module _ (script : Script) (s : State) (t : ℕ) (known : Known script s) (dry : (u : ℕ) → DryOf script s u (course s u)) where
  module _ (cmd : Command) (at : command_of script t (course s t) ≡ Some cmd) where
    -- what is to be shown of an entry
    abbrev Kept : Kind → Type 0
    Kept k = DryOf script (after script s t k) t (next_course script s t k)

    same_command : (d : Command) (o : Option Command) → o ≡ Some cmd → o ≡ Some d → cmd ≡ d
    same_command d o e f = let it : Some cmd ≡ Some d = sym e ∙ f in cc

    -- no place is dry
    never : (k : Kind) (c' : Course) → next_course script s t k ≡ c' → (c'.fail ≡ None → 0 < c'.dry → ⊥) → Kept k
    never k c' own bad d e f n = absurd (bad (sym (ap (λ c. c.fail) own) ∙ f) (subst (λ c. 0 < c.dry) own n))

    -- the search goes on as it was
    goes_on : (k : Kind) (c' : Course) → next_course script s t k ≡ c' → c'.answered ≡ (course s t).answered → c'.fail ≡ (course s t).fail → c'.dry ≡ (course s t).dry → (Works (course s t) cmd → Works c' cmd)
        → ((b : BufId) → has_buffer (named cmd) b ≡ true → Works (course s t) cmd → buffer (after script s t k) b ≡ buffer s b) → Kept k
    goes_on k c' own answered fail places works same d e f n =
        let is : cmd ≡ d = same_command d (command_of script t (next_course script s t k)) (ap (command_of script t) own ∙ (ap (slice_get (commands_of script t)) answered ∙ at)) e in
        let was = dry t cmd at (sym fail ∙ (sym (ap (λ c. c.fail) own) ∙ f)) (subst (λ m. 0 < m) places (subst (λ c. 0 < c.dry) own n)) in
        subst (PlacesLeft script (after script s t k) (next_course script s t k)) is
        (subst (λ c. PlacesLeft script (after script s t k) c cmd) (sym own) (left_same script s (after script s t k) (course s t) c' cmd (works was.works) places (λ b h. same b h was.works) was))

    -- ---- what speaks against dry places

    begins : starts (course s t) cmd ≡ true → (course s t).fail ≡ None → 0 < (course s t).dry → ⊥
    begins q f n = both_ways (starts (course s t) cmd) (dry t cmd at f n).works.begun q

    locking : (b : BufId) → first_missing (course s t) cmd ≡ Some b → (course s t).fail ≡ None → 0 < (course s t).dry → ⊥
    locking b m f n = none_some (sym (dry t cmd at f n).works.whole ∙ m)
      where
        none_some : None ≡ Some b → ⊥
        none_some h = cc

    -- the buffer at work is in place, or has a target, or there is none
    at_first : (b : BufId) → first_unready script s cmd ≡ Some b → (p : PlacesLeft script s (course s t) cmd) → p.b ≡ b
    at_first b u p = one p.b b (sym p.first ∙ u)
      where
        one : (x y : BufId) → Some x ≡ Some y → x ≡ y
        one x y h = cc

    placed : (b : BufId) → first_unready script s cmd ≡ Some b → is_in_place script cmd b (buffer s b) ≡ true → (course s t).fail ≡ None → 0 < (course s t).dry → ⊥
    placed b u i f n = let p = dry t cmd at f n in both_ways (is_in_place script cmd b (buffer s b)) (subst (λ z. is_in_place script cmd z (buffer s z) ≡ false) (at_first b u p) p.misplaced) i

    targeted : (b : BufId) → first_unready script s cmd ≡ Some b → has_some_target (buffer s b) ≡ true → (course s t).fail ≡ None → 0 < (course s t).dry → ⊥
    targeted b u i f n = let p = dry t cmd at f n in both_ways (has_some_target (buffer s b)) (subst (λ z. has_some_target (buffer s z) ≡ false) (at_first b u p) p.untargeted) i

    all_ready : first_unready script s cmd ≡ None → (course s t).fail ≡ None → 0 < (course s t).dry → ⊥
    all_ready u f n = let p = dry t cmd at f n in none_some p.b (sym u ∙ p.first)
      where
        none_some : (b : BufId) → None ≡ Some b → ⊥
        none_some b h = cc

    failed : (d : Deny) → (course s t).fail ≡ Some d → (course s t).fail ≡ None → ⊥
    failed d e f = some_none (sym e ∙ f)
      where
        some_none : Some d ≡ None → ⊥
        some_none h = cc

    zero_less : 0 < 0 → ⊥
    zero_less h = absurd (omega (arith, h))

    -- ---- the buffers of others

    -- a named buffer is held
    is_held : (b : BufId) → has_buffer (named cmd) b ≡ true → Works (course s t) cmd → has_buffer (course s t).held b ≡ true
    is_held b h works = none_missing (course s t) cmd b works.whole h

    -- and no victim
    not_caught : (v d : BufId) → is_caught (course s t) v ≡ true → has_buffer (course s t).held d ≡ true → d ≡ v → ⊥
    not_caught v d c h q = both_ways (has_buffer (course s t).held v) ((known.owned.steady t).apart v c) (subst (λ z. has_buffer (course s t).held z ≡ true) q h)

    -- nor free
    not_free : (v d : BufId) → (reservation s v).holder ≡ None → has_buffer (course s t).held d ≡ true → d ≡ v → ⊥
    not_free v d free h q = let m = known.owned.held t d (inl h) in none_or (reservation s v).holder m.0 free (subst (λ z. (reservation s z).holder ≡ Some m.0) q m.2)

    -- an entry on a victim
    on_victim : (k : Kind) (v : BufId) → next_course script s t k ≡ course s t → is_caught (course s t) v ≡ true → ((d : BufId) → touches script s t k d ≡ same_buffer v d) → Kept k
    on_victim k v own c touch =
        goes_on k (course s t) own refl refl refl (λ w. w)
        (λ d h works. ap (λ o. unwrap_or o (new_buffer 0)) (untouched script s t k d (touch d ∙ other_is v d (λ q. not_caught v d c (is_held d h works) (sym q)))))

    -- a course that differs in its victims alone
    victims_differ : (k : Kind) (caught : List Victim) (passed : List BufId) → next_course script s t k ≡ record (course s t) { caught = caught; skips = passed } → (after script s t k).core ≡ s.core → Kept k
    victims_differ k caught passed own core =
        goes_on k (record (course s t) { caught = caught; skips = passed }) own refl refl refl (λ w. record { unmade = w.unmade; begun = w.begun; whole = w.whole })
        (λ d h works. ap (λ c. buffer (record s { core = c }) d) core)

    catches : (b : BufId) (w : Why) → IsFree s b → Kept (kind.Catch b w)
    catches b w free =
        goes_on (kind.Catch b w) (with_victim b w (course s t)) refl refl refl refl (λ z. record { unmade = z.unmade; begun = z.begun; whole = z.whole })
        (λ d h works. ap (λ o. unwrap_or o (new_buffer 0)) (untouched script s t (kind.Catch b w) d (other_is b d (λ q. not_free b d free.free (is_held d h works) (sym q)))))

    -- ---- a named buffer's search

    took : (b : BufId) (mem : Mem) (spans : List Span) → is_caught (course s t) b ≡ false → Kept (kind.Take b mem spans)
    took b mem spans c = never (kind.Take b mem spans) (record (course s t) { forced = false; dry = 0 }) (ap (λ q. if q then course s t else record (course s t) { forced = false; dry = 0 }) c) (λ f n. zero_less n)

    dry_course : (b : BufId) (k : ℕ) (w : DryWhy) → command_at_work script s t ≡ Some cmd → is_caught (course s t) b ≡ false
        → next_course script s t (kind.Dry b k w) ≡ gone_dry k (length (forced_places (place_search_at_work script s (course s t) cmd b).list)) (course s t)
    dry_course b k w work c =
        ap (λ o. course_after_dry script s b k o (course s t)) work
        ∙ ap (λ z. if z then with_fail b deny.NoSpace (course s t) else gone_dry k (length (forced_places (place_search_at_work script s (course s t) cmd b).list)) (course s t)) c

    -- not the last place
    not_last : (k places : ℕ) → (if k + 1 == places then Some deny.NoSpace else (course s t).fail) ≡ None → k + 1 ≡ places → ⊥
    not_last k places f e = by (k + 1 == places) refl f
      where
        some_none : Some deny.NoSpace ≡ None → ⊥
        some_none h = cc

        differ : (a b : ℕ) → (a == b) ≡ false → a ≡ b → ⊥
        differ a b h q = absurd (grind (arith, nat_tests))

        by : (q : Bool) → (k + 1 == places) ≡ q → (if q then Some deny.NoSpace else (course s t).fail) ≡ None → ⊥
        by true h g = some_none g
        by false h g = differ (k + 1) places h e

    asked_dry : (b : BufId) (k : ℕ) (w : DryWhy) → command_at_work script s t ≡ Some cmd → OnMisplaced script s (course s t) cmd b → has_some_target (buffer s b) ≡ false → is_caught (course s t) b ≡ false
        → k < length (forced_places (asked_places script cmd b)) → Kept (kind.Dry b k w)
    asked_dry b k w work on bare c real d e f n =
        subst (PlacesLeft script (after script s t (kind.Dry b k w)) (next_course script s t (kind.Dry b k w))) is
        (subst (λ z. PlacesLeft script (after script s t (kind.Dry b k w)) z cmd) (sym own)
        (record {
          works = record { unmade = on.on.named.works.unmade; begun = on.on.named.works.begun; whole = on.on.named.works.whole };
          b = b;
          first = on.on.first;
          misplaced = on.misplaced;
          untargeted = bare;
          fewer = omega (arith, real, other);
        }))
      where
        list_is : length (forced_places (place_search_at_work script s (course s t) cmd b).list) ≡ length (forced_places (asked_places script cmd b))
        list_is = ap (λ q. length (forced_places (place_search script cmd (course s t) b (if q then Hop else Asked)).list)) (ap₂ (λ p q. p || q) c bare)

        own : next_course script s t (kind.Dry b k w) ≡ gone_dry k (length (forced_places (place_search_at_work script s (course s t) cmd b).list)) (course s t)
        own = dry_course b k w work c

        is : cmd ≡ d
        is = same_command d (command_of script t (next_course script s t (kind.Dry b k w))) (ap (command_of script t) own ∙ at) e

        other : k + 1 ≡ length (forced_places (asked_places script cmd b)) → ⊥
        other q = not_last k (length (forced_places (place_search_at_work script s (course s t) cmd b).list)) (sym (ap (λ z. z.fail) own) ∙ f) (q ∙ sym list_is)

    -- a hop has one place alone
    hop_dry : (b : BufId) (w : DryWhy) → command_at_work script s t ≡ Some cmd → has_some_target (buffer s b) ≡ true → is_caught (course s t) b ≡ false → (course s t).dry ≡ 0 → (k : ℕ) → k ≡ 0 → Kept (kind.Dry b k w)
    hop_dry b w work some c none k is =
        never (kind.Dry b k w) (gone_dry k (length (forced_places (place_search_at_work script s (course s t) cmd b).list)) (course s t)) (dry_course b k w work c)
        (λ f n. not_last k (length (forced_places (place_search_at_work script s (course s t) cmd b).list)) f (ap (λ m. m + 1) is ∙ sym list_is))
      where
        one_place : (q : Bool) → length (forced_places (hop (course s t) q).list) ≡ 1
        one_place true = refl
        one_place false = refl

        list_is : length (forced_places (place_search_at_work script s (course s t) cmd b).list) ≡ 0 + 1
        list_is = ap (λ q. length (forced_places (place_search script cmd (course s t) b (if q then Hop else Asked)).list)) (ap₂ (λ p q. p || q) c some) ∙ one_place (is_caught (course s t) b)

    -- ---- searches and fills

    asked_sought : (b : BufId) (k : Kind) → command_at_work script s t ≡ Some cmd → OnMisplaced script s (course s t) cmd b → has_some_target (buffer s b) ≡ false → is_caught (course s t) b ≡ false
        → SearchOutcome script s (course s t) b (place_search script cmd (course s t) b Asked) k → Kept k
    asked_sought b k work on bare c (finds place {mem} {spans} w m h) = took b mem spans c
    asked_sought b k work on bare c (evicts place {v} {w} at lacks is found) = catches v w (victim_free script s (course s t).skips place v found)
    asked_sought b k work on bare c (dries place {w} at lacks) =
        asked_dry b (course s t).dry w work on bare c (real_place script s b (forced_places (asked_places script cmd b)) (course s t).dry (subst (λ p. choice script s.core b p ≡ None) at lacks))

    hop_sought : (b : BufId) (k : Kind) (q : PlaceSearch) → command_at_work script s t ≡ Some cmd → has_some_target (buffer s b) ≡ true → is_caught (course s t) b ≡ false → (course s t).dry ≡ 0 → q.dry ≡ (course s t).dry → SearchOutcome script s (course s t) b q k → Kept k
    hop_sought b k q work some c none is (finds place {mem} {spans} w m h) = took b mem spans c
    hop_sought b k q work some c none is (evicts place {v} {w} at lacks why_is found) = catches v w (victim_free script s (course s t).skips place v found)
    hop_sought b k q work some c none is (dries place {w} at lacks) = hop_dry b w work some c none q.dry (is ∙ none)

    filled_kept : (b : BufId) (k : Kind) → is_caught (course s t) b ≡ false → ((course s t).fail ≡ None → 0 < (course s t).dry → ⊥) → Filled script s b k → Kept k
    filled_kept b k c bad (fresh {frame} f l) = never (kind.Populate b _ frame) (course s t) refl bad
    filled_kept b k c bad (again {frame} f l) = never (kind.Populate b _ frame) (course s t) refl bad
    filled_kept b k c bad (back {slot} {frame} f l) = never (kind.SwapIn b _ slot frame) (course s t) refl bad
    filled_kept b k c bad (evicts_for_swap {v = v} f found) = catches v _ (swap_free s v found)
    filled_kept b k c bad (nothing f) =
        never (kind.NoPages b) (record (course s t) { fail = Some deny.NoPages })
        (ap (λ z. if z then record (course s t) { caught = map (failed_if deny.NoPages b) (course s t).caught } else record (course s t) { fail = Some deny.NoPages }) c) (λ e n. some_none e)
      where
        some_none : Some deny.NoPages ≡ None → ⊥
        some_none h = cc

    victim_filled : (v : Victim) (k : Kind) → is_caught (course s t) v.b ≡ true → Filled script s v.b k → Kept k
    victim_filled v k c (fresh {frame} f l) = on_victim (kind.Populate v.b _ frame) v.b refl c (λ d. refl)
    victim_filled v k c (again {frame} f l) = on_victim (kind.Populate v.b _ frame) v.b refl c (λ d. refl)
    victim_filled v k c (back {slot} {frame} f l) = on_victim (kind.SwapIn v.b _ slot frame) v.b refl c (λ d. refl)
    victim_filled v k c (evicts_for_swap {v = x} f found) = catches x _ (swap_free s x found)
    victim_filled v k c (nothing f) =
        victims_differ (kind.NoPages v.b) (map (failed_if deny.NoPages v.b) (course s t).caught) (course s t).skips
        (ap (λ z. if z then record (course s t) { caught = map (failed_if deny.NoPages v.b) (course s t).caught } else record (course s t) { fail = Some deny.NoPages }) c) refl

    victim_sought : (v : Victim) (k : Kind) (q : PlaceSearch) → command_at_work script s t ≡ Some cmd → is_caught (course s t) v.b ≡ true → SearchOutcome script s (course s t) v.b q k → Kept k
    victim_sought v k q work c (finds place {mem} {spans} w m h) =
        on_victim (kind.Take v.b mem spans) v.b (ap (λ z. if z then course s t else record (course s t) { forced = false; dry = 0 }) c) c (λ d. refl)
    victim_sought v k q work c (evicts place {v = x} {w} at lacks is found) = catches x w (victim_free script s (course s t).skips place x found)
    victim_sought v k q work c (dries place {w} at lacks) =
        victims_differ (kind.Dry v.b q.dry w) (map (failed_if deny.NoSpace v.b) (course s t).caught) (course s t).skips
        (ap (λ o. course_after_dry script s v.b q.dry o (course s t)) work
        ∙ (ap (λ z. if z then with_fail v.b deny.NoSpace (course s t) else gone_dry q.dry (length (forced_places (place_search_at_work script s (course s t) cmd v.b).list)) (course s t)) c
        ∙ ap (λ z. if z then record (course s t) { caught = map (failed_if deny.NoSpace v.b) (course s t).caught } else record (course s t) { fail = Some deny.NoSpace }) c)) refl

    -- of a named buffer nothing is caught
    uncaught : (b : BufId) → last_of (course s t).caught ≡ None → is_caught (course s t) b ≡ false
    uncaught b h = false_from_ne_true (is_caught (course s t) b) (λ q. none_caught (course s t) b (none_last (course s t).caught h) q)

    -- one that is carried is at no dry place
    carried_none : {mem : Mem} (b : BufId) → OnCarried script s (course s t) cmd b mem → (course s t).dry ≡ 0
    carried_none b on = by (course s t).dry refl
      where
        by : (n : ℕ) → (course s t).dry ≡ n → (course s t).dry ≡ 0
        by zero e = e
        by (suc n) e = absurd (targeted b on.on.on.first on.some on.on.on.fine (omega (arith, e)))

    hop_dry_is : (b : BufId) → is_caught (course s t) b ≡ false → (place_search script cmd (course s t) b Hop).dry ≡ (course s t).dry
    hop_dry_is b c = ap (λ q. (hop (course s t) q).dry) c

    hops_on : {mem : Mem} (b : BufId) (k : Kind) → command_at_work script s t ≡ Some cmd → OnCarried script s (course s t) cmd b mem → SearchOutcome script s (course s t) b (place_search script cmd (course s t) b Hop) k → Kept k
    hops_on b k work on sought =
        let c = uncaught b on.on.on.named.alone in
        hop_sought b k (place_search script cmd (course s t) b Hop) work on.some c (carried_none b on) (hop_dry_is b c) sought

    -- ---- each task

    own_kept : (x : Task) (k : Kind) → command_at_work script s t ≡ Some cmd → Turn script s (course s t) cmd x → Gives script s (course s t) cmd x k → Kept k
    own_kept x k work (answer m) answers = never k (on_to_next (course s t)) refl (λ f n. zero_less n)
    own_kept x k work (start m q) (makes is dead) = never k (has_made (course s t)) refl (begins q)
    own_kept x k work (start m q) (exists is) = never k (on_to_next (course s t)) refl (λ f n. zero_less n)
    own_kept x k work (start m q) (shifts is) = never k (has_made (course s t)) refl (begins q)
    own_kept x k work (start m q) (draws l) = never k (record (course s t) { stamp = Some (record { 0 = s.last_stamp + 1 }) }) refl (begins q)
    own_kept x k work (lock m n f) (no_buffer l) = never k (on_to_next (course s t)) refl (λ e z. zero_less z)
    own_kept x k work (lock {b} m n f) (reserves l h) = never k (record (course s t) { held = (course s t).held ++ b ∷ [] }) refl (locking b f)
    own_kept x k work (lock {b} m n f) (backs l h q) = never k (record (course s t) { held = []; first = Some b }) refl (locking b f)
    own_kept x k work (victim_unbind v on q) (unbinds i) = on_victim k v.b refl (last_caught (course s t) v on.last) (λ d. refl)
    own_kept x k work (victim_empty v on n e) lets_go = victims_differ k (no_longer_caught v.b (course s t)).caught (course s t).skips refl refl
    own_kept x k work (victim_empty v on n e) (empties w f g) = on_victim k v.b refl (last_caught (course s t) v on.last) (λ d. refl)
    own_kept x k work (victim_give v d on vram f g) (depopulates m h) = on_victim k v.b refl (last_caught (course s t) v on.last) (λ y. refl)
    own_kept x k work (victim_give v d on vram f g) (untakes n) = on_victim k v.b refl (last_caught (course s t) v on.last) (λ y. refl)
    own_kept x k work (victim_skip v d on vram f g) skips = victims_differ k (no_longer_caught v.b (course s t)).caught ((course s t).skips ++ v.b ∷ []) refl refl
    own_kept x k work (victim_move v on vram f q r) moves = on_victim k v.b refl (last_caught (course s t) v on.last) (λ d. refl)
    own_kept x k work (victim_fill v on vram f q r) (fills filled) = victim_filled v k (last_caught (course s t) v on.last) filled
    own_kept x k work (victim_search v on vram f q) (seeks sought) = victim_sought v k (place_search script cmd (course s t) v.b Hop) work (last_caught (course s t) v on.last) sought
    own_kept x k work (refuse on r) refuses = never k (on_to_next (course s t)) refl (λ f n. zero_less n)
    own_kept x k work (give d on a f u g) (depopulates m h) = never k (course s t) refl (λ e n. failed d f e)
    own_kept x k work (give d on a f u g) (untakes h) = never k (course s t) refl (λ e n. failed d f e)
    own_kept x k work (give_up on a f u) gives_up = never k (on_to_next (course s t)) refl (λ e n. zero_less n)
    own_kept x k work (act on a f u) (arms ops is) = never k (has_made (course s t)) refl (all_ready u)
    own_kept x k work (act on a f u) (frees {b} {g} is q) = never k (has_made (record (course s t) { held = without_buffer (course s t).held b })) refl (all_ready u)
    own_kept x k work (act on a f u) (swaps is q r) = never k (course s t) refl (all_ready u)
    own_kept x k work (act on a f u) (no_swap is) = never k (on_to_next (course s t)) refl (λ e n. zero_less n)
    own_kept x k work (act on a f u) acts = never k (on_to_next (course s t)) refl (λ e n. zero_less n)
    own_kept x k work (fill_in_place {b} on i) (fills filled) = filled_kept b k (uncaught b on.named.alone) (placed b on.first i) filled
    own_kept x k work (ask {b} on n) (seeks sought) = asked_sought b k work on n (uncaught b on.on.named.alone) sought
    own_kept x k work (bind {b} on q r) binds = never k (course s t) refl (targeted b on.on.on.first on.some)
    own_kept x k work (fill_to_bind {b} on q r) (fills filled) = filled_kept b k (uncaught b on.on.on.named.alone) (targeted b on.on.on.first on.some) filled
    own_kept x k work (hop_up {b} on q) (seeks sought) = hops_on b k work on sought
    own_kept x k work (unbind {b} on q) (unbinds i) = never k (course s t) refl (targeted b on.on.on.first on.some)
    own_kept x k work (move_up {b} on q) moves = never k (course s t) refl (targeted b on.on.on.first on.some)
    own_kept x k work (move_across {b} on q) moves = never k (course s t) refl (targeted b on.on.on.first on.some)
    own_kept x k work (move_down {b} on q r p) moves = never k (course s t) refl (targeted b on.on.on.first on.some)
    own_kept x k work (fill_to_move {b} on q r p) (fills filled) = filled_kept b k (uncaught b on.on.on.named.alone) (targeted b on.on.on.first on.some) filled
    own_kept x k work (hop_down {b} on q r) (seeks sought) = hops_on b k work on sought

  pub dry_keeps : (k : Kind) → Stepped script s t k → (u : ℕ) → DryOf script (after script s t k) u (course (after script s t k) u)
  dry_keeps k st u =
      ⊎_elim
      (λ q.
      subst (λ z. DryOf script (after script s t k) z (course (after script s t k) z)) (sym q)
      (subst (DryOf script (after script s t k) t) (sym (own_course script s t k st.here)) (own_kept st.step.cmd st.at st.step.task k st.step.at_work st.turn st.gives)))
      (λ n.
      subst (DryOf script (after script s t k) u) (sym ((one script s t k known st).others u n))
      (λ cmd at f more.
      let p = dry u cmd at f more in
      left_same script s (after script s t k) (course s u) (course s u) cmd p.works refl
      (λ b h. ap (λ o. unwrap_or o (new_buffer 0)) (others_same script s t k known st u b n (inl (none_missing (course s u) cmd b p.works.whole h)))) p))
      (cases_eq u t)

-- ---- engines, the reaper and the first state

pub dry_stays : (script : Script) (s : State) (who : Actor) (k : Kind) → OfWorker k → ((u : ℕ) → DryOf script s u (course s u)) → (u : ℕ) → DryOf script (applied script s who k) u (course (applied script s who k) u)
dry_stays script s who k packet dry u cmd at f n = let p = dry u cmd at f n in record { works = p.works; b = p.b; first = p.first; misplaced = p.misplaced; untargeted = p.untargeted; fewer = p.fewer }
dry_stays script s who k done dry u cmd at f n = let p = dry u cmd at f n in record { works = p.works; b = p.b; first = p.first; misplaced = p.misplaced; untargeted = p.untargeted; fewer = p.fewer }
dry_stays script s who k reap dry u cmd at f n = let p = dry u cmd at f n in record { works = p.works; b = p.b; first = p.first; misplaced = p.misplaced; untargeted = p.untargeted; fewer = p.fewer }

pub dry_first : (script : Script) (u : ℕ) → DryOf script (first_state script) u (course (first_state script) u)
dry_first script u cmd at f n = absurd (let none : (course (first_state script) u).dry ≡ 0 = ap (λ c. c.dry) (first_course script u) in omega (arith, n, none))
