-- What a legal journal tells of the jobs after it: they are in line, a new one has the next number, and a packet is the head's next.
use Rattle.std.proofs.Common.{◌≡◌, ℕ, ◌+◌, Bool, true, false, List, Ok, IsTrue, refl, ◌∙◌, ap, ap₂, subst}
use Rattle.std.specs.Prelude.{◌==◌}
use Rattle.std.proofs.lemmas.Bool.{eqb-true, and_parts, true≢false}
use Rattle.ttm_base.specs.declared.Actor.{Actor}
use Rattle.ttm_base.specs.declared.Actor.TheVariants as actor
use Rattle.ttm_base.specs.declared.BufId.{BufId}
use Rattle.ttm_base.specs.declared.Mem.{Mem}
use Rattle.ttm_base.specs.Packets.{probe_piece}
use Rattle.journal_model.specs.declared.script.Script.{Script}
use Rattle.journal_model.specs.declared.entry.Entry.{Entry}
use Rattle.journal_model.specs.declared.entry.Kind.{Kind}
use Rattle.journal_model.specs.declared.entry.Kind.TheVariants as kind
use Rattle.journal_model.specs.declared.entry.Left.{Left}
use Rattle.journal_model.specs.declared.state.State.{State}
use Rattle.journal_model.specs.rules.Next.{next}
use Rattle.journal_model.specs.rules.PageSteps.{next_job}
use Rattle.journal_model.specs.scripts.ScriptRules.{is_script}
use Rattle.journal_model.specs.rules.Legal.{World, IsLegal, IsLegalNext, state_of}
use Rattle.journal_model.specs.rules.Places.{aperture}
use Rattle.journal_model.specs.rules.Stores.{showing, job_packet}
use Rattle.laws.proofs.law_state.Shown.{legal_step}
use Rattle.laws.specs.law_state.GoodState.{last_number}
use Rattle.laws.proofs.law_state.Counters.{is_left, next_counted}
use Rattle.laws.proofs.law_jobs.Law.{line_law}
use Rattle.room_representation.specs.Lines.{AreInLine}

-- what the lemmas on timelines and rings ask for
pub in_line : (script : Script) (journal : List Entry) → IsTrue (is_script script) → IsLegal script journal → AreInLine (state_of script journal).last_jobs (state_of script journal).core.jobs
in_line script journal fits legal = λ ctx. line_law script journal ctx fits legal

-- a move's job has the next number of context 0
pub move_number : (script : Script) (s : State) (who : Actor) (b : BufId) (mem : Mem) (n : ℕ) (l : Left) → next script s who ≡ Ok (kind.Move b mem n l) → n ≡ last_number s.last_jobs 0 + 1
move_number script s who b mem n l h = eqb-true n (next_job s 0) (and_parts (n == next_job s 0) (is_left s l) (next_counted script s who (kind.Move b mem n l) h)).0

-- a thread's job has the next number of its engine
pub arm_number : (script : Script) (s : State) (who : Actor) (engine n : ℕ) → next script s who ≡ Ok (kind.Arm engine n) → n ≡ last_number s.last_jobs engine + 1
arm_number script s who engine n h = eqb-true n (next_job s engine) (next_counted script s who (kind.Arm engine n) h)

-- a packet's entry is its engine's step, with the bytes that the packet shows
pub record IsShown (script : Script) (w : World) (e n k : ℕ) (piece : List ℕ) : Type 0 where
  pub plain : List ℕ
  pub step : next script w.state (actor.Engine e) ≡ Ok (kind.Packet n k plain)
  pub shown : piece ≡ probe_piece (aperture w.state.core) w.stores (job_packet w.state.core (record { ctx = e; num = n }) k)

-- a packet's entry is told by its numbers and its bytes, and is no other entry
packet_parts : (n k m i : ℕ) (piece plain : List ℕ) → kind.Packet n k piece ≡ kind.Packet m i plain → (m ≡ n) × (i ≡ k) × (piece ≡ plain)
packet_parts n k m i piece plain e = (cc, cc, cc)

abbrev is_packet : Kind → Bool
is_packet (kind.Packet n k piece) = true
is_packet k = false

not_packet : (n k : ℕ) (piece : List ℕ) (l : Kind) → is_packet l ≡ false → kind.Packet n k piece ≡ l → ⊥
not_packet n k piece l other e = true≢false (ap is_packet e ∙ other)

-- where it is legal
pub packet_shown : (script : Script) (w : World) (x : Entry) (e n k : ℕ) (piece : List ℕ) → x ≡ record { who = actor.Engine e; kind = kind.Packet n k piece } → IsLegalNext script w x → IsShown script w e n k piece
packet_shown script w x e n k piece is legal =
    let it : Entry = record { who = actor.Engine e; kind = kind.Packet n k piece } in
    let st = legal_step script w it (subst (λ y. IsLegalNext script w y) is legal) in
    by st.kind st.step (ap (λ (y : Entry). y.kind) st.entry)
  where
    by : (l : Kind) → next script w.state (actor.Engine e) ≡ Ok l → kind.Packet n k piece ≡ showing script w.stores w.state (actor.Engine e) l → IsShown script w e n k piece
    by (kind.Packet m i y) h g =
        let parts = packet_parts n k m i piece (probe_piece (aperture w.state.core) w.stores (job_packet w.state.core (record { ctx = e; num = m }) i)) g in
        let num : m ≡ n = parts.0 in
        let at : i ≡ k = parts.1 in
        record {
          plain = y;
          step = h ∙ ap₂ (λ a b. Ok (kind.Packet a b y)) num at;
          shown = parts.2 ∙ ap₂ (λ a b. probe_piece (aperture w.state.core) w.stores (job_packet w.state.core (record { ctx = e; num = a }) b)) num at;
        }
    by (kind.Result r) h g = absurd (not_packet n k piece _ refl g)
    by l h g = absurd (not_packet n k piece _ refl g)
