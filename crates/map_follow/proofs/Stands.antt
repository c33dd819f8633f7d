-- The pages of an access stand where its buffer has them.
use Rattle.std.proofs.Common.{◌≡◌, ℕ, zero, suc, ◌+◌, ◌*◌, ◌-◌, ◌<◌, ◌≤◌, Bool, true, false, List, [], ◌∷◌, Option, Some, None, Ok, IsTrue, ap, refl, sym, ◌∙◌, subst, length, if◌then◌else◌, arith}
use Rattle.std.specs.Prelude.{◌==◌, nat_lt, option_and_then, option_map, slice_get, unwrap_or}
use Rattle.std.specs.List.{list_all}
use Rattle.std.proofs.lemmas.Bool.{and_parts, false≢true, ltb-true}
use Rattle.std.proofs.lemmas.Option.{none-some}
use Rattle.ttm_base.specs.declared.BufId.{BufId}
use Rattle.ttm_base.specs.declared.Loc.{Loc}
use Rattle.ttm_base.specs.declared.Loc.TheVariants as loc
use Rattle.ttm_base.specs.declared.Mem.{Mem}
use Rattle.ttm_base.specs.declared.Mem.TheVariants.{System, Tt, Vram}
use Rattle.ttm_base.specs.declared.PagePlace.{PagePlace}
use Rattle.ttm_base.specs.declared.PagePlace.TheVariants as place
use Rattle.journal_model.specs.declared.script.Script.{Script}
use Rattle.journal_model.specs.declared.script.Command.{Command}
use Rattle.journal_model.specs.declared.state.Buffer.{Buffer}
use Rattle.journal_model.specs.declared.state.State.{State}
use Rattle.journal_model.specs.declared.entry.Entry.{Entry}
use Rattle.journal_model.specs.declared.entry.Kind.{Kind}
use Rattle.journal_model.specs.declared.entry.Kind.TheVariants as kind
use Rattle.journal_model.specs.declared.entry.Shown.{Shown}
use Rattle.journal_model.specs.rules.Commands.{commands_of, decl}
use Rattle.journal_model.specs.scripts.CommandRules.{is_command}
use Rattle.journal_model.specs.statements.Complete.{is_by_thread}
use Rattle.journal_model.specs.rules.Legal.{IsLegal, IsLegalNext, state_of, stores_of, world_of}
use Rattle.journal_model.specs.marks.Mapped.{Access, access_of, meets_page, peek_or_poke}
use Rattle.journal_model.specs.marks.Marks.{is_mapped_at}
use Rattle.journal_model.specs.rules.Places.{is_frame, page_at, page_in, page_in_table, page_in_vram, pages_of}
use Rattle.journal_model.specs.scripts.ScriptRules.{is_script}
use Rattle.journal_model.specs.rules.State.{buffer, course, live_in, new_buffer}
use Rattle.journal_model.specs.rules.Stores.{showing}
use Rattle.laws.specs.law_state.GoodState.{HasPages}
use Rattle.laws.proofs.law_state.GoodStates.{good_law}
use Rattle.laws.proofs.law_state.JobsKeep.{all_at}
use Rattle.laws.proofs.law_state.Pins.{courses_law}
use Rattle.laws.proofs.law_state.Rules.{Rules, rules_of}
use Rattle.laws.proofs.law_state.Shown.{LegalStep, legal_step}
use Rattle.laws.proofs.law_sound.Along.{sound_law}
use Rattle.laws.proofs.lemma_bytes_told.Shapes.{Shapely}
use Rattle.laws.proofs.law_transparent.Carried.{clear_law}
use Rattle.law_legal.specs.law_maps.Following.{page_there}
use Rattle.law_legal.proofs.law_maps.Stays.{Settled}
use Rattle.law_legal.proofs.law_maps.Tells.{IsSettledFor, inside, tells}
use Rattle.map_access.specs.Accesses.{access_in}
use Rattle.map_follow.specs.Founds.{framed, place_in, place_of}
use Rattle.map_follow.proofs.Answered.{AreFound}

record Placed (x : Buffer) (i : ℕ) : Type 0 where
  named : PagePlace
  at : place_of x.mem x.spans x.table i ≡ Some named
  there : page_there named ≡ page_at x i

-- ---- a page that stands somewhere

page_among : {X : Type 0} (xs : List X) (i : ℕ) → i < length xs → (x : X) × (slice_get xs i ≡ Some x)
page_among [] i h = absurd (omega arith)
page_among (x ∷ xs) zero h = (x, refl)
page_among (x ∷ xs) (suc i) h = page_among xs i (omega arith)

-- a page of a table that has a frame
frame_there : (o : Option Loc) → is_frame (unwrap_or o loc.Zero) ≡ true → (f : ℕ) × (o ≡ Some (loc.Frame f))
frame_there (Some (loc.Frame f)) h = (f, refl)
frame_there (Some (loc.Slot k)) h = cc
frame_there (Some loc.Zero) h = cc
frame_there None h = cc

module _ (x : Buffer) (i : ℕ) where
  in_table : (m : Mem) → x.mem ≡ m → (m ≡ Vram → ⊥) → (f : ℕ) × (slice_get x.table i ≡ Some (loc.Frame f)) → Placed x i
  in_table System e other fr = record {
    named = place.Frame fr.0;
    at = ap (λ l. place_of l x.spans x.table i) e ∙ ap (option_and_then framed) fr.1;
    there = ap (λ o. page_there (place.Frame fr.0)) fr.1 ∙ sym (ap (λ l. page_in l x i) e ∙ ap (λ o. page_in_table (unwrap_or o loc.Zero)) fr.1);
  }
  in_table Tt e other fr = record {
    named = place.Frame fr.0;
    at = ap (λ l. place_of l x.spans x.table i) e ∙ ap (option_and_then framed) fr.1;
    there = ap (λ o. page_there (place.Frame fr.0)) fr.1 ∙ sym (ap (λ l. page_in l x i) e ∙ ap (λ o. page_in_table (unwrap_or o loc.Zero)) fr.1);
  }
  in_table Vram e other fr = absurd (other refl)

  in_vram : x.mem ≡ Vram → (p : ℕ) × (slice_get (pages_of x.spans) i ≡ Some p) → Placed x i
  in_vram e pg = record {
    named = place.Vram pg.0;
    at = ap (λ l. place_of l x.spans x.table i) e ∙ ap (option_map place.Vram) pg.1;
    there = sym (ap (λ l. page_in l x i) e ∙ ap page_in_vram pg.1);
  }

  placed : Shapely x → i < length x.table → Settled x i → Placed x i
  placed shape low settled = by x.mem refl
    where
      by : (m : Mem) → x.mem ≡ m → Placed x i
      by System e = in_table System e (λ z. cc) (frame_there (slice_get x.table i) (settled e))
      by Tt e = in_table Tt e (λ z. cc) (shape.full e i low)
      by Vram e =
          let long = shape.long (λ s. let z : Vram ≡ System = sym e ∙ s in cc) in
          in_vram e (page_among (pages_of x.spans) i (omega (arith, long, low)))

-- ---- an access of a script

-- the command of an access
pub record IsTold (script : Script) (a : Access) : Type 0 where
  pub cmd : Command
  pub rule : is_command script cmd ≡ true
  pub access : access_of cmd ≡ Some a

pub access_told : (script : Script) → Rules script → (t n : ℕ) (a : Access) → peek_or_poke script t n ≡ Some a → IsTold script a
access_told script rules t n a h = by (is_mapped_at script t n) h
  where
    of_thread : (o : Option (List Command)) → slice_get script.threads (t - 1) ≡ o → (cmd : Command) → slice_get (unwrap_or o []) n ≡ Some cmd → is_command script cmd ≡ true
    of_thread None e cmd g = cc
    of_thread (Some cmds) e cmd g = all_at (is_command script) cmds n cmd (all_at (list_all (is_command script)) script.threads (t - 1) cmds rules.commands e) g

    of_script : (q : Bool) (cmd : Command) → slice_get (if q then [] else unwrap_or (slice_get script.threads (t - 1)) []) n ≡ Some cmd → is_command script cmd ≡ true
    of_script true cmd g = cc
    of_script false cmd g = of_thread (slice_get script.threads (t - 1)) refl cmd g

    by_command : (o : Option Command) → slice_get (commands_of script t) n ≡ o → option_and_then access_of o ≡ Some a → IsTold script a
    by_command None e g = cc
    by_command (Some cmd) e g = record { cmd = cmd; rule = of_script (t == 0) cmd e; access = g }

    by : (q : Bool) → (if q then option_and_then access_of (slice_get (commands_of script t) n) else None) ≡ Some a → IsTold script a
    by true g = by_command (slice_get (commands_of script t) n) refl g
    by false g = cc

pub page_fits : (script : Script) → Rules script → (t n : ℕ) (a : Access) (i : ℕ) → peek_or_poke script t n ≡ Some a → meets_page a i ≡ true → i < (decl script a.b).pages
page_fits script rules t n a i h meets =
    let told = access_told script rules t n a h in
    let low = inside script told.cmd a told.rule told.access in
    let high = ltb-true (4096 * i) (a.off + a.len) (and_parts (nat_lt a.off (4096 * (i + 1))) (nat_lt (4096 * i) (a.off + a.len)) meets).1 in
    omega (arith, low, high)

-- ---- an access of a legal entry

module _ (script : Script) (journal : List Entry) (fits : IsTrue (is_script script)) (legal : IsLegal script journal) where
  abbrev s : State
  s = state_of script journal

  page_placed : (b : BufId) (i : ℕ) → Settled (buffer s b) i → i < (decl script b).pages → Placed (buffer s b) i
  page_placed b i settled low = by (live_in s.core.buffers b) refl
    where
      no_frame : Settled (new_buffer 0) i → ⊥
      no_frame h = let z : false ≡ true = h refl in cc

      by : (o : Option Buffer) → live_in s.core.buffers b ≡ o → Placed (buffer s b) i
      by None e = absurd (no_frame (subst (λ x. Settled (unwrap_or x (new_buffer 0)) i) e settled))
      by (Some x) e =
          let is : buffer s b ≡ x = ap (λ o. unwrap_or o (new_buffer 0)) e in
          let pages : length x.table ≡ (decl script b).pages = subst (HasPages script b) e ((good_law script fits journal legal).tables b) in
          subst (λ y. Placed y i) (sym is)
          (placed x i ((clear_law script fits journal legal).shapes b x e) (omega (arith, pages, low)) (subst (λ y. Settled y i) is settled))

  pub settled_for : (e : Entry) → IsLegalNext script (world_of script journal) e → (t : ℕ) (a : Access) → access_in script t (course s t).answered e ≡ Some a →
      IsSettledFor s a × (peek_or_poke script t (course s t).answered ≡ Some a)
  settled_for e next_is t a h = by_kind e.kind (ap (λ (f : Entry). f.kind) step.entry) h
    where
      step : LegalStep script (world_of script journal) e
      step = legal_step script (world_of script journal) e next_is

      by_test : (q : Bool) → is_by_thread t e.who ≡ q → (if q then peek_or_poke script t (course s t).answered else None) ≡ Some a → (r : Shown) → step.kind ≡ kind.Result r →
          IsSettledFor s a × (peek_or_poke script t (course s t).answered ≡ Some a)
      by_test true mine g r k = (
        tells script (rules_of script fits) s (good_law script fits journal legal) (sound_law script journal fits legal) (courses_law script journal legal) e.who (kind.Result r)
            (step.step ∙ ap Ok k) t a mine g,
        g,
      )
      by_test false mine g r k = absurd (none-some a g)

      is_result : Kind → Bool
      is_result (kind.Result q) = true
      is_result k = false

      result_of : (k : Kind) (r : Shown) → kind.Result r ≡ showing script (stores_of script journal) s e.who k → (q : Shown) × (k ≡ kind.Result q)
      result_of (kind.Result q) r g = (q, refl)
      result_of (kind.Packet n j piece) r g = absurd (false≢true (sym (ap is_result g)))
      result_of k r g = absurd (false≢true (sym (ap is_result g)))

      by_kind : (k : Kind) → k ≡ showing script (stores_of script journal) s e.who step.kind →
          elim k as (λ _. Option Access) [ kind.Result r ↦ if is_by_thread t e.who then peek_or_poke script t (course s t).answered else None | _ ↦ None ] ≡ Some a →
          IsSettledFor s a × (peek_or_poke script t (course s t).answered ≡ Some a)
      by_kind (kind.Result r) is g = let q = result_of step.kind r is in by_test (is_by_thread t e.who) refl g q.0 q.1
      by_kind k is g = absurd (none-some a g)

  pub are_found : (e : Entry) → IsLegalNext script (world_of script journal) e → (t : ℕ) → AreFound script s (place_in s) (access_in script t (course s t).answered e)
  are_found e next_is t a h i meets =
      let told = settled_for e next_is t a h in
      let low = page_fits script (rules_of script fits) t (course s t).answered a i told.1 meets in
      let p = page_placed a.b i (told.0 i meets) low in
      record { named = p.named; at = p.at; there = p.there; fits = low }
