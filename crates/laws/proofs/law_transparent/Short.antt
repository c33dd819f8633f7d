-- The ranges of each packet lie in one page each, from the emission of its job on.
use Rattle.std.proofs.Common.{◌≡◌, ℕ, ◌+◌, ◌≤◌, Bool, true, false, List, [], ◌∷◌, ◌++◌, Option, Some, None, IsTrue, refl, sym, subst, arith, ⊎_elim}
use Rattle.std.specs.Prelude.{slice_get, map, if◌then◌else◌}
use Rattle.std.specs.List.{list_all}
use Rattle.std.proofs.lemmas.Bool.{and_parts}
use Rattle.std.proofs.lemmas.Bool.Decides.{nat_tests}
use Rattle.ttm_base.specs.declared.BufId.{BufId}
use Rattle.ttm_base.specs.declared.JobId.{JobId}
use Rattle.ttm_base.specs.declared.Mem.{Mem}
use Rattle.ttm_base.specs.declared.Op.{Op}
use Rattle.ttm_base.specs.declared.Op.TheVariants as op
use Rattle.ttm_base.specs.declared.Packet.{Packet}
use Rattle.ttm_base.specs.declared.Packet.TheVariants as packet
use Rattle.ttm_base.specs.declared.Actor.{Actor}
use Rattle.ttm_base.specs.Cutting.{Piece, PageMap, pieces_of, packet_of, packets_of}
use Rattle.journal_model.specs.declared.script.Script.{Script}
use Rattle.journal_model.specs.declared.script.Command.{Command}
use Rattle.journal_model.specs.declared.script.Command.TheVariants as command
use Rattle.journal_model.specs.declared.state.State.{State}
use Rattle.journal_model.specs.declared.state.Buffer.{Buffer}
use Rattle.journal_model.specs.declared.state.Job.{Job}
use Rattle.journal_model.specs.declared.entry.Entry.{Entry}
use Rattle.journal_model.specs.declared.entry.Kind.{Kind}
use Rattle.journal_model.specs.declared.entry.Kind.TheVariants as kind
use Rattle.journal_model.specs.rules.State.{buffer_in}
use Rattle.journal_model.specs.rules.Commands.{command_at_work}
use Rattle.journal_model.specs.scripts.CommandRules.{is_op, is_command}
use Rattle.journal_model.specs.scripts.ScriptRules.{is_script}
use Rattle.journal_model.specs.rules.Places.{packet_place}
use Rattle.journal_model.specs.rules.Waits.{same_job}
use Rattle.journal_model.specs.rules.Apply.{applied, thread_of}
use Rattle.journal_model.specs.rules.ApplyMoves.{move_packets}
use Rattle.journal_model.specs.rules.ApplyJobs.{ops_of, changed_job}
use Rattle.journal_model.specs.rules.Legal.{World, first_world, world_after, world_along, state_of, IsLegalFrom, IsLegal}
use Rattle.laws.proofs.law_state.Shown.{legal_step}
use Rattle.laws.proofs.law_state.Lists.{get_pushed, get_mapped}
use Rattle.laws.proofs.law_state.Rules.{Rules, rules_of, at_work_rules}
use Rattle.laws.specs.law_cutting.Parts.{IsPiece}
use Rattle.laws.proofs.law_cutting.Whole.{Each, pieces_are}

abbrev pub IsShort : Packet → Type 0
IsShort (packet.Fill to off len byte) = off + len ≤ 4096
IsShort (packet.Copy to toff from foff len) = (toff + len ≤ 4096) × (foff + len ≤ 4096)
IsShort (packet.Xor to toff from foff len) = (toff + len ≤ 4096) × (foff + len ≤ 4096)
IsShort (packet.Probe from off len) = (off + len ≤ 4096) × (len ≤ 256)

abbrev pub AreShort : List Job → Type 0
AreShort jobs = (i : ℕ) (j : Job) → slice_get jobs i ≡ Some j → Each IsShort j.packets

-- ---- the packets of a job

each-append : {X : Type 0} (P : X → Type 0) (xs ys : List X) → Each P xs → Each P ys → Each P (xs ++ ys)
each-append P [] ys a b = b
each-append P (x ∷ xs) ys a b = (a.0, each-append P xs ys a.1 b)

each-map : {X Y : Type 0} (P : X → Type 0) (Q : Y → Type 0) (f : X → Y) (xs : List X) → ((x : X) → P x → Q (f x)) → Each P xs → Each Q (map f xs)
each-map P Q f [] h a = tt
each-map P Q f (x ∷ xs) h a = (h x a.0, each-map P Q f xs h a.1)

probe_len : (script : Script) (o : Op) → is_op script o ≡ true → (src : BufId) (off len : ℕ) → o ≡ op.Probe src off len → len ≤ 256
probe_len script (op.Probe src off len) h src' off' len' e = let same : len ≡ len' = cc in let k : len ≤ 256 = grind (arith, nat_tests) in omega (arith, same, k)
probe_len script (op.Fill dst off len byte) h src' off' len' e = cc
probe_len script (op.Copy dst doff src soff len) h src' off' len' e = cc
probe_len script (op.Xor dst doff src soff len) h src' off' len' e = cc

piece_is_short : (script : Script) (names : PageMap) (o : Op) → is_op script o ≡ true → (p : Piece) → IsPiece o p → IsShort (packet_of names o p)
piece_is_short script names (op.Fill dst off len byte) h p is = is.pages
piece_is_short script names (op.Copy dst doff src soff len) h p is = is.pages
piece_is_short script names (op.Xor dst doff src soff len) h p is = is.pages
piece_is_short script names (op.Probe src off len) h p is = (is.pages, (let most = probe_len script (op.Probe src off len) h src off len refl in let l = is.inside in omega (arith, most, l)))

packets_are_short : (script : Script) (names : PageMap) (ops : List Op) → list_all (is_op script) ops ≡ true → Each IsShort (packets_of names ops)
packets_are_short script names [] h = tt
packets_are_short script names (o ∷ ops) h =
    let parts = and_parts (is_op script o) (list_all (is_op script) ops) h in
    each-append IsShort (map (packet_of names o) (pieces_of o)) (packets_of names ops)
    (each-map (IsPiece o) IsShort (packet_of names o) (pieces_of o) (piece_is_short script names o parts.0) (pieces_are o))
    (packets_are_short script names ops parts.1)

submitted : (script : Script) (engine : ℕ) (ops : List Op) → is_command script (command.Submit engine ops) ≡ true → list_all (is_op script) ops ≡ true
submitted script engine ops h = grind (arith, nat_tests)

command_is_short : (script : Script) (names : PageMap) (cmd : Command) → is_command script cmd ≡ true → Each IsShort (packets_of names (ops_of (Some cmd)))
command_is_short script names (command.Submit engine ops) h = packets_are_short script names ops (submitted script engine ops h)
command_is_short script names (command.New b) h = tt
command_is_short script names (command.Free b) h = tt
command_is_short script names (command.Pin b) h = tt
command_is_short script names (command.Unpin b) h = tt
command_is_short script names (command.Find b) h = tt
command_is_short script names (command.SwapOut b) h = tt
command_is_short script names (command.Write b off bytes) h = tt
command_is_short script names (command.Read b off len) h = tt
command_is_short script names (command.Move b mem) h = tt
command_is_short script names (command.Touch group) h = tt

armed_is_short : (script : Script) → Rules script → (names : PageMap) (s : State) (t : ℕ) → Each IsShort (packets_of names (ops_of (command_at_work script s t)))
armed_is_short script r names s t = by (command_at_work script s t) refl
  where
    by : (o : Option Command) → command_at_work script s t ≡ o → Each IsShort (packets_of names (ops_of o))
    by None e = tt
    by (Some cmd) e = command_is_short script names cmd (at_work_rules script r s t cmd e).command

all_short : {X : Type 0} (f : X → Packet) (xs : List X) → ((x : X) → IsShort (f x)) → Each IsShort (map f xs)
all_short f [] h = tt
all_short f (x ∷ xs) h = (h x, all_short f xs h)

moved_is_short : (x : Buffer) (mem : Mem) → Each IsShort (move_packets x mem)
moved_is_short x mem = all_short _ _ (λ i. (omega arith, omega arith))

-- ---- each kind

pushed_short : (jobs : List Job) (y : Job) → Each IsShort y.packets → AreShort jobs → AreShort (jobs ++ y ∷ [])
pushed_short jobs y h k i j e = ⊎_elim (λ r. k i j r) (λ r. subst (λ (z : Job). Each IsShort z.packets) (sym r.1) h) (get_pushed jobs y j i e)

changed_short : (f : Job → Job) (id : JobId) (jobs : List Job) → ((x : Job) → (f x).packets ≡ x.packets) → AreShort jobs → AreShort (changed_job f id jobs)
changed_short f id jobs same k i j e =
    let g = get_mapped (λ x. if same_job id x.id then f x else x) jobs j i e in
    subst (λ (z : Job). Each IsShort z.packets) (sym g.2) (by g.0 (same_job id g.0.id) (k i g.0 g.1))
  where
    by : (x : Job) (q : Bool) → Each IsShort x.packets → Each IsShort (if q then f x else x).packets
    by x true h = subst (Each IsShort) (sym (same x)) h
    by x false h = h

short_keeps : (script : Script) → Rules script → (s : State) (who : Actor) (k : Kind) → AreShort s.core.jobs → AreShort (applied script s who k).core.jobs
short_keeps script r s who (kind.Ticket stamp) h = h
short_keeps script r s who (kind.Reserve b) h = h
short_keeps script r s who (kind.Backoff b stamp) h = h
short_keeps script r s who (kind.New b) h = h
short_keeps script r s who (kind.Free b g) h = h
short_keeps script r s who (kind.Take b mem spans) h = h
short_keeps script r s who (kind.Untake b mem) h = h
short_keeps script r s who (kind.Populate b page f) h = h
short_keeps script r s who (kind.SwapIn b page slot f) h = h
short_keeps script r s who (kind.Depopulate b) h = h
short_keeps script r s who (kind.Bind b) h = h
short_keeps script r s who (kind.Unbind b) h = h
short_keeps script r s who (kind.Move b mem n l) h = pushed_short s.core.jobs _ (moved_is_short (buffer_in s.core b) mem) h
short_keeps script r s who (kind.Catch b w) h = h
short_keeps script r s who (kind.Loose b) h = h
short_keeps script r s who (kind.Skip b) h = h
short_keeps script r s who (kind.Dry b k w) h = h
short_keeps script r s who (kind.SwapOut b page slot) h = h
short_keeps script r s who (kind.NoPages b) h = h
short_keeps script r s who (kind.Arm engine n) h = pushed_short s.core.jobs _ (armed_is_short script r (λ b. packet_place (buffer_in s.core b)) s (thread_of who)) h
short_keeps script r s who (kind.Packet n k piece) h = changed_short _ _ s.core.jobs (λ x. refl) h
short_keeps script r s who (kind.Done n) h = changed_short _ _ s.core.jobs (λ x. refl) h
short_keeps script r s who (kind.Reap g) h = h
short_keeps script r s who (kind.Bulk group) h = h
short_keeps script r s who (kind.Result shown) h = h
short_keeps script r s who (kind.Refused d) h = h

short_along : (script : Script) → Rules script → (w : World) (es : List Entry) → AreShort w.state.core.jobs → IsLegalFrom script w es → AreShort (world_along script w es).state.core.jobs
short_along script r w [] h l = h
short_along script r w (e ∷ es) h l =
    let step = legal_step script w e l.0 in
    short_along script r (world_after script w e) es (subst (λ (s : State). AreShort s.core.jobs) (sym step.state) (short_keeps script r w.state e.who step.kind h)) l.1

none_short : AreShort []
none_short i j e = cc

pub short_law : (script : Script) (journal : List Entry) → IsTrue (is_script script) → IsLegal script journal → AreShort (state_of script journal).core.jobs
short_law script journal fits h = short_along script (rules_of script fits) (first_world script) journal none_short h
