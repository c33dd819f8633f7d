-- What a thread does next while the search of a named buffer goes on, and once it has failed.
use Rattle.std.proofs.Common.{◌≡◌, ℕ, Bool, true, false, List, [], ◌∷◌, Option, Some, None, Ok, refl, sym, ◌∙◌, ap, ap₂, subst, ◌⊎◌, inl, inr}
use Rattle.std.specs.Prelude.{find, cond, not, map, unwrap_or, nat_lt, ◌&&◌, ◌||◌, if◌then◌else◌}
use Rattle.std.proofs.lemmas.Bool.{both_ways, or_left, or_right}
use Rattle.ttm_base.specs.ListWords.{last_of}
use Rattle.ttm_base.specs.declared.Mem.{Mem}
use Rattle.ttm_base.specs.declared.Mem.TheVariants.{System, Tt, Vram}
use Rattle.ttm_base.specs.declared.BufId.{BufId}
use Rattle.ttm_base.specs.declared.FlaggedPlace.{FlaggedPlace}
use Rattle.ttm_base.specs.declared.Deny.{Deny}
use Rattle.ttm_base.specs.declared.Deny.TheVariants as deny
use Rattle.journal_model.specs.declared.script.Script.{Script}
use Rattle.journal_model.specs.declared.script.Command.{Command}
use Rattle.journal_model.specs.declared.state.State.{State}
use Rattle.journal_model.specs.declared.state.Course.{Course}
use Rattle.journal_model.specs.declared.state.Victim.{Victim}
use Rattle.journal_model.specs.declared.state.Buffer.{Buffer}
use Rattle.journal_model.specs.declared.state.SearchAim.{SearchAim}
use Rattle.journal_model.specs.declared.state.SearchAim.TheVariants.{Asked, Hop}
use Rattle.journal_model.specs.declared.state.Task.{Task}
use Rattle.journal_model.specs.declared.state.Task.TheVariants as task
use Rattle.journal_model.specs.declared.entry.Why.{Why}
use Rattle.journal_model.specs.declared.entry.Why.TheVariants as why
use Rattle.journal_model.specs.declared.entry.Kind.{Kind}
use Rattle.journal_model.specs.declared.entry.Kind.TheVariants as kind
use Rattle.journal_model.specs.rules.State.{buffer, reservation, same_buffer, has_buffer, has_target}
use Rattle.journal_model.specs.rules.Commands.{named, asked_places}
use Rattle.journal_model.specs.rules.Ready.{has_some_target, is_in_place, is_filled, is_ready, first_unready}
use Rattle.journal_model.specs.rules.Search.{PlaceSearch, place_search, is_caught, through_tt, aim_of}
use Rattle.journal_model.specs.rules.Tasks.{starts, first_missing, filled_then, gives_back, forbidden, carried, task_of_failed, task_of_misplaced, task_of_unready, task_of_held, task_of_victim, task_of_command}
use Rattle.journal_model.specs.rules.Next.{step_of_task}
use Rattle.laws.proofs.law_sound.Turns.{Turn, Works, OnVictim, OnNamed, OnBuffer, OnMisplaced, OnCarried, answer, start, lock, victim_unbind, victim_empty, victim_give, victim_skip, victim_move, victim_fill, victim_search, refuse, give, give_up, act, fill_in_place, ask, bind, fill_to_bind, hop_up, unbind, move_up, move_across, move_down, fill_to_move, hop_down}
use Rattle.laws.proofs.law_sound.Gifts.{Gives, SearchOutcome, Filled, task_gives, answers, makes, exists, shifts, draws, no_buffer, reserves, backs, seeks, binds, unbinds, moves, fills, lets_go, empties, depopulates, untakes, skips, gives_up, refuses, arms, frees, swaps, no_swap, acts, finds, evicts, dries, fresh, again, back, evicts_for_swap, nothing}
use Rattle.laws.proofs.law_sound.Bufs.{same_self, has_found, clash}
use Rattle.laws.proofs.law_sound.Reservations.{IsFree, victim_free, swap_free}

-- ---- place_searches

-- where a command looks for pages for a buffer
abbrev pub places_of : Script → Command → BufId → SearchAim → List FlaggedPlace
places_of script cmd b Asked = asked_places script cmd b
places_of script cmd b Hop = through_tt

-- the place_search of a hop, by whether the buffer is a victim
abbrev hopping : Course → Bool → PlaceSearch
hopping c q = if q then record { list = through_tt; forced = false; dry = 0 } else record { list = through_tt; forced = c.forced; dry = c.dry }

pub place_search_places : (script : Script) (cmd : Command) (c : Course) (b : BufId) (aim : SearchAim) → (place_search script cmd c b aim).list ≡ places_of script cmd b aim
place_search_places script cmd c b Asked = refl
place_search_places script cmd c b Hop = by (is_caught c b)
  where
    by : (q : Bool) → (hopping c q).list ≡ through_tt
    by true = refl
    by false = refl

pub place_search_forced : (script : Script) (cmd : Command) (c : Course) (b : BufId) (aim : SearchAim) → is_caught c b ≡ false → (place_search script cmd c b aim).forced ≡ c.forced
place_search_forced script cmd c b Asked e = refl
place_search_forced script cmd c b Hop e = ap (λ q. (hopping c q).forced) e

pub place_search_dry : (script : Script) (cmd : Command) (c : Course) (b : BufId) (aim : SearchAim) → is_caught c b ≡ false → (place_search script cmd c b aim).dry ≡ c.dry
place_search_dry script cmd c b Asked e = refl
place_search_dry script cmd c b Hop e = ap (λ q. (hopping c q).dry) e

-- ---- a named buffer that searches

-- where the search of a buffer that is no victim goes
abbrev pub named_aim : Buffer → SearchAim
named_aim x = if has_some_target x then Hop else Asked

pub aim_is_named : (c : Course) (b : BufId) (x : Buffer) → is_caught c b ≡ false → aim_of c b x ≡ named_aim x
aim_is_named c b x e = ap (λ q. if q || has_some_target x then Hop else Asked) e

-- how a misplaced buffer without pins goes on
abbrev pub way_of : BufId → Buffer → Task
way_of b x = elim (has_some_target x) [ true ↦ carried x.mem b x | false ↦ task.Search b Asked ]

pub record Seeking (script : Script) (s : State) (cmd : Command) (b : BufId) (aim : SearchAim) : Type 0 where
  pub first : first_unready script s cmd ≡ Some b
  pub misplaced : is_in_place script cmd b (buffer s b) ≡ false
  pub way : way_of b (buffer s b) ≡ task.Search b aim
  pub aim_is : named_aim (buffer s b) ≡ aim

-- the entry is on this victim
abbrev pub is_aside : BufId → Kind → Bool
is_aside v (kind.Take b mem spans) = same_buffer v b
is_aside v (kind.Untake b mem) = same_buffer v b
is_aside v (kind.Populate b page frame) = same_buffer v b
is_aside v (kind.SwapIn b page slot frame) = same_buffer v b
is_aside v (kind.Depopulate b) = same_buffer v b
is_aside v (kind.Unbind b) = same_buffer v b
is_aside v (kind.Move b mem n l) = same_buffer v b
is_aside v (kind.Loose b) = same_buffer v b
is_aside v (kind.Skip b) = same_buffer v b
is_aside v (kind.Dry b k w) = same_buffer v b
is_aside v (kind.SwapOut b page slot) = same_buffer v b
is_aside v (kind.NoPages b) = same_buffer v b
is_aside v _ = false

module _ (script : Script) (s : State) (c : Course) (cmd : Command) where
  none_some : (v : Victim) → last_of c.caught ≡ None → last_of c.caught ≡ Some v → ⊥
  none_some v e f = let it : None ≡ Some v = sym e ∙ f in cc

  -- a search is a victim's, or that of a named buffer
  pub data Searcher (b : BufId) (aim : SearchAim) : Type 0 where
    victims : (v : Victim) → OnVictim c cmd v → v.why ≡ why.Vram → b ≡ v.b → aim ≡ Hop → Searcher b aim
    named_one : OnNamed s c cmd → c.fail ≡ None → Seeking script s cmd b aim → Searcher b aim

  pub searcher_of : (b : BufId) (aim : SearchAim) → Turn script s c cmd (task.Search b aim) → Searcher b aim
  searcher_of b aim (victim_search v on i f q) = victims v on i.why refl refl
  searcher_of b aim (ask on n) =
      named_one on.on.named on.on.fine
      (record {
        first = on.on.first;
        misplaced = on.misplaced;
        way = ap (λ q. elim q [ true ↦ carried (buffer s b).mem b (buffer s b) | false ↦ task.Search b Asked ]) n;
        aim_is = ap (λ q. if q then Hop else Asked) n;
      })
  searcher_of b aim (hop_up on n) =
      named_one on.on.on.named on.on.on.fine
      (record {
        first = on.on.on.first;
        misplaced = on.on.misplaced;
        way = ap (λ q. elim q [ true ↦ carried (buffer s b).mem b (buffer s b) | false ↦ task.Search b Asked ]) on.some
            ∙ (ap (λ m. carried m b (buffer s b)) on.stands ∙ ap (λ q. elim q [ true ↦ filled_then (task.Bind b) b (buffer s b) | false ↦ task.Search b Hop ]) n);
        aim_is = ap (λ q. if q then Hop else Asked) on.some;
      })
  searcher_of b aim (hop_down on m n) =
      named_one on.on.on.named on.on.on.fine
      (record {
        first = on.on.on.first;
        misplaced = on.on.misplaced;
        way = ap (λ q. elim q [ true ↦ carried (buffer s b).mem b (buffer s b) | false ↦ task.Search b Asked ]) on.some
            ∙ (ap (λ l. carried l b (buffer s b)) on.stands
            ∙ (ap (λ q. elim q [ true ↦ task.Move b Vram | false ↦ elim (has_target Tt (buffer s b)) [ true ↦ filled_then (task.Move b Tt) b (buffer s b) | false ↦ task.Search b Hop ] ]) m
            ∙ ap (λ q. elim q [ true ↦ filled_then (task.Move b Tt) b (buffer s b) | false ↦ task.Search b Hop ]) n));
        aim_is = ap (λ q. if q then Hop else Asked) on.some;
      })

  -- a fill is a victim's, or that of a named buffer
  pub data Filler (b : BufId) : Type 0 where
    victim_fills : (v : Victim) → OnVictim c cmd v → b ≡ v.b → Filler b
    named_fills : OnNamed s c cmd → first_unready script s cmd ≡ Some b → Filler b

  pub filler_of : (b : BufId) → Turn script s c cmd (task.Fill b) → Filler b
  filler_of b (victim_fill v on i f n q) = victim_fills v on refl
  filler_of b (fill_in_place on i) = named_fills on.named on.first
  filler_of b (fill_to_bind on n q) = named_fills on.on.on.named on.on.on.first
  filler_of b (fill_to_move on m n q) = named_fills on.on.on.named on.on.on.first

  -- ---- the task of a command whose buffers are held and that has no victim

  held_task : Works c cmd → last_of c.caught ≡ None → task_of_command script s c cmd ≡ task_of_held script s c cmd
  held_task w l = by c.made (starts c cmd) (first_missing c cmd) (last_of c.caught) w.unmade w.begun w.whole l
    where
      by : (m q : Bool) (o : Option BufId) (v : Option Victim) → m ≡ false → q ≡ false → o ≡ None → v ≡ None →
          elim m as (λ m. Task) [
            | true ↦ task.Answer
            | false ↦ elim q as (λ q. Task) [
              | true ↦ task.Start
              | false ↦ elim o as (λ o. Task) [ Some b ↦ task.Lock b | None ↦ elim v as (λ v. Task) [ Some w ↦ task_of_victim w (buffer s w.b) | None ↦ task_of_held script s c cmd ] ]
            ]
          ] ≡ task_of_held script s c cmd
      by true q o v e f g h = cc
      by false true o v e f g h = cc
      by false false (Some b) v e f g h = cc
      by false false None (Some w) e f g h = cc
      by false false None None e f g h = refl

  -- refused, or it searches
  pub searching_task : (b : BufId) (aim : SearchAim) → Works c cmd → last_of c.caught ≡ None → c.fail ≡ None → Seeking script s cmd b aim →
      ((d : Deny) × (task_of_command script s c cmd ≡ task.Refuse d)) ⊎ (task_of_command script s c cmd ≡ task.Search b aim)
  searching_task b aim w l f k = by_ban (forbidden s cmd) refl
    where
      misplaced : task_of_unready script s cmd b ≡ task_of_misplaced b (reservation s b) (buffer s b)
      misplaced = ap (λ q. elim q [ true ↦ task.Fill b | false ↦ task_of_misplaced b (reservation s b) (buffer s b) ]) k.misplaced

      held : forbidden s cmd ≡ None → task_of_held script s c cmd ≡ task_of_unready script s cmd b
      held e =
          ap (λ o. elim o [
            | Some d ↦ task.Refuse d
            | None ↦ elim c.fail [
              | Some d ↦ task_of_failed script s cmd d
              | None ↦ elim (first_unready script s cmd) [ Some b ↦ task_of_unready script s cmd b | None ↦ task.Act ]
            ]
          ]) e
          ∙ (ap (λ o. elim o [
            | Some d ↦ task_of_failed script s cmd d
            | None ↦ elim (first_unready script s cmd) [ Some b ↦ task_of_unready script s cmd b | None ↦ task.Act ]
          ]) f
          ∙ ap (λ o. elim o [ Some b ↦ task_of_unready script s cmd b | None ↦ task.Act ]) k.first)

      by_pins : (q : Bool) → nat_lt 0 (reservation s b).pins ≡ q →
          ((d : Deny) × (task_of_misplaced b (reservation s b) (buffer s b) ≡ task.Refuse d)) ⊎ (task_of_misplaced b (reservation s b) (buffer s b) ≡ task.Search b aim)
      by_pins true e = inl (deny.Pinned, ap (λ q. elim q [ true ↦ task.Refuse deny.Pinned | false ↦ way_of b (buffer s b) ]) e)
      by_pins false e = inr (ap (λ q. elim q [ true ↦ task.Refuse deny.Pinned | false ↦ way_of b (buffer s b) ]) e ∙ k.way)

      onward : task_of_command script s c cmd ≡ task_of_misplaced b (reservation s b) (buffer s b) →
          ((d : Deny) × (task_of_misplaced b (reservation s b) (buffer s b) ≡ task.Refuse d)) ⊎ (task_of_misplaced b (reservation s b) (buffer s b) ≡ task.Search b aim) →
          ((d : Deny) × (task_of_command script s c cmd ≡ task.Refuse d)) ⊎ (task_of_command script s c cmd ≡ task.Search b aim)
      onward e (inl r) = inl (r.0, e ∙ r.1)
      onward e (inr r) = inr (e ∙ r)

      by_ban : (o : Option Deny) → forbidden s cmd ≡ o → ((d : Deny) × (task_of_command script s c cmd ≡ task.Refuse d)) ⊎ (task_of_command script s c cmd ≡ task.Search b aim)
      by_ban (Some d) e =
          inl (
            d,
            held_task w l
                ∙ ap (λ o. elim o [
                  | Some d ↦ task.Refuse d
                  | None ↦ elim c.fail [
                    | Some d ↦ task_of_failed script s cmd d
                    | None ↦ elim (first_unready script s cmd) [ Some b ↦ task_of_unready script s cmd b | None ↦ task.Act ]
                  ]
                ]) e,
          )
      by_ban None e = onward (held_task w l ∙ (held e ∙ misplaced)) (by_pins (nat_lt 0 (reservation s b).pins) refl)

  -- what a failed command does
  pub data Closes : Task → Type 0 where
    refuses_it : (d : Deny) → Closes (task.Refuse d)
    gives_it_up : (d : Deny) → Closes (task.GiveUp d)
    gives_it_back : (b : BufId) → Closes (task.GiveBack b)

  pub closing_task : (d : Deny) → Works c cmd → last_of c.caught ≡ None → c.fail ≡ Some d → Closes (task_of_command script s c cmd)
  closing_task d w l f = subst Closes (sym (held_task w l)) (by (forbidden s cmd) c.fail f)
    where
      by_gift : (b : BufId) (q : Bool) (d : Deny) → Closes (elim q [ true ↦ task.GiveBack b | false ↦ task.GiveUp d ])
      by_gift b true d = gives_it_back b
      by_gift b false d = gives_it_up d

      failed : (d : Deny) (o : Option BufId) → Closes (elim o [ Some b ↦ elim (gives_back (buffer s b)) [ true ↦ task.GiveBack b | false ↦ task.GiveUp d ] | None ↦ task.GiveUp d ])
      failed d None = gives_it_up d
      failed d (Some b) = by_gift b (gives_back (buffer s b)) d

      by : (o p : Option Deny) → p ≡ Some d →
          Closes (elim o [
            | Some d ↦ task.Refuse d
            | None ↦ elim p [
              | Some d ↦ task_of_failed script s cmd d
              | None ↦ elim (first_unready script s cmd) [ Some b ↦ task_of_unready script s cmd b | None ↦ task.Act ]
            ]
          ])
      by (Some e) p g = refuses_it e
      by None (Some e) g = failed e (first_unready script s cmd)
      by None None g = cc

  pub data Closing : Kind → Type 0 where
    refused : {d : Deny} → Closing (kind.Refused d)
    emptied : {b : BufId} → Closing (kind.Depopulate b)
    untaken : {b : BufId} {mem : Mem} → Closing (kind.Untake b mem)

  pub closing_of : (x : Task) (k : Kind) → Closes x → Gives script s c cmd x k → Closing k
  closing_of x k (refuses_it d) refuses = refused
  closing_of x k (gives_it_up d) gives_up = refused
  closing_of x k (gives_it_back b) (depopulates m f) = emptied
  closing_of x k (gives_it_back b) (untakes n) = untaken

  -- ---- entries on a victim

  -- or one more is caught
  pub data Aside (v : BufId) : Kind → Type 0 where
    on_it : {k : Kind} → is_aside v k ≡ true → Aside v k
    one_more : {x : BufId} {w : Why} → IsFree s x → Aside v (kind.Catch x w)

  on_unbind : (b : BufId) (k : Kind) → Gives script s c cmd (task.Unbind b) k → Aside b k
  on_unbind b k (unbinds i) = on_it (same_self b)

  on_empty : (b : BufId) (k : Kind) → Gives script s c cmd (task.Empty b) k → Aside b k
  on_empty b k lets_go = on_it (same_self b)
  on_empty b k (empties w f e) = on_it (same_self b)

  on_give : (b : BufId) (k : Kind) → Gives script s c cmd (task.GiveBack b) k → Aside b k
  on_give b k (depopulates m f) = on_it (same_self b)
  on_give b k (untakes n) = on_it (same_self b)

  on_skip : (b : BufId) (k : Kind) → Gives script s c cmd (task.Skip b) k → Aside b k
  on_skip b k skips = on_it (same_self b)

  on_move : (b : BufId) (mem : Mem) (k : Kind) → Gives script s c cmd (task.Move b mem) k → Aside b k
  on_move b mem k moves = on_it (same_self b)

  on_fill : (b : BufId) (k : Kind) → Gives script s c cmd (task.Fill b) k → Aside b k
  on_fill b k (fills f) = by k f
    where
      by : (k : Kind) → Filled script s b k → Aside b k
      by k (fresh f l) = on_it (same_self b)
      by k (again f l) = on_it (same_self b)
      by k (back f l) = on_it (same_self b)
      by k (evicts_for_swap {slot} {v} f e) = one_more (swap_free s v e)
      by k (nothing f) = on_it (same_self b)

  on_search : (b : BufId) (aim : SearchAim) (k : Kind) → Gives script s c cmd (task.Search b aim) k → Aside b k
  on_search b aim k (seeks f) = by k f
    where
      by : (k : Kind) → SearchOutcome script s c b (place_search script cmd c b aim) k → Aside b k
      by k (finds place w m e) = on_it (same_self b)
      by k (evicts place {v} {w} a n e f) = one_more (victim_free script s c.skips place v f)
      by k (dries place a n) = on_it (same_self b)

  module _ (v : Victim) (last : last_of c.caught ≡ Some v) (works : Works c cmd) where
    is_it : (w : Victim) → OnVictim c cmd w → (k : Kind) → Aside w.b k → Aside v.b k
    is_it w on k a = let it : w ≡ v = (let e : Some w ≡ Some v = sym on.last ∙ last in cc) in subst (λ z. Aside z.b k) it a

    no : (k : Kind) → OnNamed s c cmd → Aside v.b k
    no k on = absurd (none_some v on.alone last)

    pub aside_of : (x : Task) (k : Kind) → Turn script s c cmd x → Gives script s c cmd x k → Aside v.b k
    aside_of x k (answer m) g = absurd (both_ways c.made works.unmade m)
    aside_of x k (start m q) g = absurd (both_ways (starts c cmd) works.begun q)
    aside_of x k (lock {b} m n f) g = absurd (missing b (sym works.whole ∙ f))
      where
        missing : (b : BufId) → ◌≡◌ {A = Option BufId} None (Some b) → ⊥
        missing b e = cc
    aside_of x k (victim_unbind w on q) g = is_it w on k (on_unbind w.b k g)
    aside_of x k (victim_empty w on q r) g = is_it w on k (on_empty w.b k g)
    aside_of x k (victim_give w d on i f q) g = is_it w on k (on_give w.b k g)
    aside_of x k (victim_skip w d on i f q) g = is_it w on k (on_skip w.b k g)
    aside_of x k (victim_move w on i f q r) g = is_it w on k (on_move w.b Tt k g)
    aside_of x k (victim_fill w on i f q r) g = is_it w on k (on_fill w.b k g)
    aside_of x k (victim_search w on i f q) g = is_it w on k (on_search w.b Hop k g)
    aside_of x k (refuse on r) g = no k on
    aside_of x k (give d on l f u q) g = no k on
    aside_of x k (give_up on l f u) g = no k on
    aside_of x k (act on l f u) g = no k on
    aside_of x k (fill_in_place on i) g = no k on.named
    aside_of x k (ask on n) g = no k on.on.named
    aside_of x k (bind on q r) g = no k on.on.on.named
    aside_of x k (fill_to_bind on q r) g = no k on.on.on.named
    aside_of x k (hop_up on q) g = no k on.on.on.named
    aside_of x k (unbind on q) g = no k on.on.on.named
    aside_of x k (move_up on q) g = no k on.on.on.named
    aside_of x k (move_across on q) g = no k on.on.on.named
    aside_of x k (move_down on q r p) g = no k on.on.on.named
    aside_of x k (fill_to_move on q r p) g = no k on.on.on.named
    aside_of x k (hop_down on q r) g = no k on.on.on.named

-- ---- buffers that stay

find_same : (p q : BufId → Bool) (bs : List BufId) → ((b : BufId) → has_buffer bs b ≡ true → p b ≡ q b) → find p bs ≡ find q bs
find_same p q [] h = refl
find_same p q (b ∷ bs) h =
    ap₂ (λ x o. cond x (Some b) o) (h b (or_left (same_buffer b b) (has_buffer bs b) (same_self b))) (find_same p q bs (λ d k. h d (or_right (same_buffer d b) (has_buffer bs d) k)))

-- a search goes on where the named buffers stay
pub seeking_same : (script : Script) (s s' : State) (cmd : Command) (b : BufId) (aim : SearchAim) → ((d : BufId) → has_buffer (named cmd) d ≡ true → buffer s' d ≡ buffer s d) → Seeking script s cmd b aim → Seeking script s' cmd b aim
seeking_same script s s' cmd b aim same k =
    let is = same b (has_found (λ y. not (is_ready script s cmd y)) (named cmd) b k.first) in
    record {
      first = find_same (λ d. not (is_ready script s' cmd d)) (λ d. not (is_ready script s cmd d)) (named cmd) (λ d h. ap (λ x. not (is_in_place script cmd d x && is_filled cmd x)) (same d h)) ∙ k.first;
      misplaced = ap (is_in_place script cmd b) is ∙ k.misplaced;
      way = ap (way_of b) is ∙ k.way;
      aim_is = ap named_aim is ∙ k.aim_is;
    }
