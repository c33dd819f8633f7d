-- What an entry shows changes no state, and each legal entry is its actor's step with what it shows.
use Rattle.std.proofs.Common.{◌≡◌, Bool, true, false, Result, Ok, Err, refl, sym, ◌∙◌, ap}
use Rattle.ttm_base.specs.declared.Actor.{Actor}
use Rattle.ttm_base.specs.declared.Need.{Need}
use Rattle.journal_model.specs.declared.script.Script.{Script}
use Rattle.journal_model.specs.declared.state.State.{State}
use Rattle.journal_model.specs.declared.entry.Entry.{Entry}
use Rattle.journal_model.specs.declared.entry.Kind.{Kind}
use Rattle.journal_model.specs.declared.entry.Kind.TheVariants as kind
use Rattle.journal_model.specs.rules.Next.{next}
use Rattle.journal_model.specs.rules.Apply.{applied}
use Rattle.journal_model.specs.rules.Stores.{Stores, showing}
use Rattle.journal_model.specs.rules.Legal.{World, world_after, shown_step, IsLegalNext}

-- the state doesn't depend on what is shown
pub shown_alike : (script : Script) (stores : Stores) (s z : State) (who : Actor) (k : Kind) → applied script s who (showing script stores z who k) ≡ applied script s who k
shown_alike script stores s z who (kind.Result r) = refl
shown_alike script stores s z who k = refl

-- a step of the actor, and what the entry does and is by it
pub record LegalStep (script : Script) (w : World) (e : Entry) : Type 0 where
  pub kind : Kind
  pub step : next script w.state e.who ≡ Ok kind
  pub entry : e ≡ record { who = e.who; kind = showing script w.stores w.state e.who kind }
  pub state : (world_after script w e).state ≡ applied script w.state e.who kind

pub legal_step : (script : Script) (w : World) (e : Entry) → IsLegalNext script w e → LegalStep script w e
legal_step script w e h = by_step (next script w.state e.who) refl h
  where
    by_step : (r : Result Kind Need) → next script w.state e.who ≡ r → shown_step script w e.who r ≡ Ok e → LegalStep script w e
    by_step (Ok k) n h =
        let it : (record { who = e.who; kind = showing script w.stores w.state e.who k }) ≡ e = cc in
        record {
          kind = k;
          step = n;
          entry = sym it;
          state = ap (λ f. applied script w.state f.who f.kind) (sym it) ∙ shown_alike script w.stores w.state w.state e.who k;
        }
    by_step (Err need) n h = cc

-- the entry shows bytes, or may
abbrev pub shows : Kind → Bool
shows (kind.Packet n k piece) = true
shows (kind.Result r) = true
shows _ = false

pub shown_plain : (script : Script) (stores : Stores) (s : State) (who : Actor) (k : Kind) → shows (showing script stores s who k) ≡ false → showing script stores s who k ≡ k
shown_plain script stores s who (kind.Packet n k piece) h = cc
shown_plain script stores s who (kind.Result r) h = cc
shown_plain script stores s who k h = refl

-- an entry that shows nothing is its actor's step
pub legal_plain : (script : Script) (w : World) (e : Entry) → IsLegalNext script w e → shows e.kind ≡ false → next script w.state e.who ≡ Ok e.kind
legal_plain script w e h plain =
    let l = legal_step script w e h in
    let is : e.kind ≡ showing script w.stores w.state e.who l.kind = ap (λ (f : Entry). f.kind) l.entry in
    l.step ∙ ap Ok (sym (is ∙ shown_plain script w.stores w.state e.who l.kind (sym (ap shows is) ∙ plain)))
