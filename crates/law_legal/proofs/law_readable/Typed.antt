-- The spans of buffers have pages and end within 32 bits, slots in tables are numbers of 32 bits, ghosts have numbers that were
-- drawn, and jobs fill with bytes.
use Rattle.std.proofs.Common.{◌≡◌, ℕ, ◌+◌, ◌≤◌, zero, suc, Bool, true, false, List, [], ◌∷◌, ◌++◌, length, Option, Some, None, refl, sym, subst, ◌∙◌, ap, arith, ⊎_elim}
use Rattle.std.specs.Prelude.{slice_get, slice_set, map, fold, filter, replicate, option_map, option_and_then, unwrap_or, not, ◌==◌, ◌&&◌, ◌||◌, if◌then◌else◌}
use Rattle.std.specs.List.{list_all}
use Rattle.std.proofs.lemmas.Bool.{and_parts, eqb-true}
use Rattle.ttm_base.specs.declared.Mem.{Mem}
use Rattle.ttm_base.specs.declared.Mem.TheVariants.{System, Tt, Vram}
use Rattle.ttm_base.specs.declared.BufId.{BufId}
use Rattle.ttm_base.specs.declared.JobId.{JobId}
use Rattle.ttm_base.specs.declared.Span.{Span}
use Rattle.ttm_base.specs.declared.Op.{Op}
use Rattle.ttm_base.specs.declared.Op.TheVariants as op
use Rattle.ttm_base.specs.declared.Usage.{Usage}
use Rattle.ttm_base.specs.declared.Usage.TheVariants as usage
use Rattle.ttm_base.specs.declared.Loc.{Loc}
use Rattle.ttm_base.specs.declared.Loc.TheVariants as loc
use Rattle.ttm_base.specs.declared.Packet.{Packet}
use Rattle.ttm_base.specs.declared.Packet.TheVariants as packet
use Rattle.ttm_base.specs.declared.Actor.{Actor}
use Rattle.ttm_base.specs.ListWords.{count_from}
use Rattle.ttm_base.specs.Cutting.{PageMap, Piece, packet_of, packets_of, pieces_of}
use Rattle.journal_model.specs.declared.script.Script.{Script}
use Rattle.journal_model.specs.declared.script.Command.{Command}
use Rattle.journal_model.specs.declared.script.Command.TheVariants as command
use Rattle.journal_model.specs.declared.state.State.{State}
use Rattle.journal_model.specs.declared.state.Buffer.{Buffer}
use Rattle.journal_model.specs.declared.state.Ghost.{Ghost}
use Rattle.journal_model.specs.declared.state.Job.{Job}
use Rattle.journal_model.specs.declared.entry.Kind.{Kind}
use Rattle.journal_model.specs.declared.entry.Kind.TheVariants as kind
use Rattle.journal_model.specs.declared.entry.Left.{Left}
use Rattle.journal_model.specs.declared.entry.Left.TheVariants as left
use Rattle.journal_model.specs.rules.State.{buffer_in, live_in, changed, new_buffer, target_spans}
use Rattle.journal_model.specs.rules.Commands.{decl, command_at_work}
use Rattle.journal_model.specs.scripts.CommandRules.{is_byte, is_command, is_op, is_between}
use Rattle.journal_model.specs.rules.Places.{name_in_spans, packet_place}
use Rattle.journal_model.specs.rules.Waits.{same_job, jobs_before_target}
use Rattle.journal_model.specs.rules.PageSteps.{next_ghost}
use Rattle.journal_model.specs.rules.Apply.{applied, thread_of}
use Rattle.journal_model.specs.rules.ApplyCommands.{named_in}
use Rattle.journal_model.specs.rules.ApplyPages.{with_fence, with_kernel_fences, with_spans, with_loc, without_frame, without_frames, bound, unbound}
use Rattle.journal_model.specs.rules.ApplyMoves.{copy_of_page, moved, table_left, move_packets, ghosts_left, last_ghost_left}
use Rattle.journal_model.specs.rules.ApplyVictims.{leaves_tt}
use Rattle.journal_model.specs.rules.ApplyJobs.{with_use, ops_of, changed_job}
use Rattle.journal_model.specs.rules.Legal.{first_state}
use Rattle.journal_model.specs.scripts.Readable.{is_u32, is_span, is_kind}
use Rattle.laws.proofs.law_state.Lists.{set_at, get_pushed, get_mapped}
use Rattle.laws.proofs.law_state.Rules.{Rules, at_work_rules}
use Rattle.laws.proofs.law_state.Counters as counters
use Rattle.laws.proofs.law_state.Counters.{is_counted}
use Rattle.law_legal.proofs.law_readable.Tests.{joint, all_appended, all_mapped, all_set}

-- ---- buffers

-- a slot is a number of 32 bits
abbrev pub is_loc : Loc → Bool
is_loc (loc.Slot k) = is_u32 k
is_loc (loc.Frame f) = true
is_loc loc.Zero = true

-- spans that may be missing
abbrev pub are_some_spans : Option (List Span) → Bool
are_some_spans None = true
are_some_spans (Some ss) = list_all is_span ss

pub record IsTyped (x : Buffer) : Type 0 where
  pub spans : list_all is_span x.spans ≡ true
  pub system : are_some_spans x.targets.system ≡ true
  pub tt : are_some_spans x.targets.tt ≡ true
  pub vram : are_some_spans x.targets.vram ≡ true
  pub table : list_all is_loc x.table ≡ true

abbrev pub AreTyped : List (Option Buffer) → Type 0
AreTyped buffers = (b : BufId) (x : Buffer) → live_in buffers b ≡ Some x → IsTyped x

changed_typed : (f : Buffer → Buffer) (buffers : List (Option Buffer)) (b : BufId) → ((x : Buffer) → IsTyped x → IsTyped (f x)) → AreTyped buffers → AreTyped (changed f buffers b)
changed_typed f buffers b keep h d y e =
    ⊎_elim
    (λ q. h d y (sym (ap (option_and_then (λ x. x)) q) ∙ e))
    (λ q. by (live_in buffers b) (h b) (sym (ap (option_and_then (λ x. x)) q.1) ∙ e))
    (set_at buffers b.0 d.0 (option_map f (live_in buffers b)))
  where
    by : (o : Option Buffer) → ((x : Buffer) → o ≡ Some x → IsTyped x) → option_map f o ≡ Some y → IsTyped y
    by None q g = cc
    by (Some x) q g = let same : f x ≡ y = cc in subst IsTyped same (keep x (q x refl))

set_typed : (buffers : List (Option Buffer)) (b : BufId) (o : Option Buffer) → ((x : Buffer) → o ≡ Some x → IsTyped x) → AreTyped buffers → AreTyped (slice_set buffers b.0 o)
set_typed buffers b o new h d y e =
    ⊎_elim
    (λ q. h d y (sym (ap (option_and_then (λ x. x)) q) ∙ e))
    (λ q. new y (sym (ap (option_and_then (λ x. x)) q.1) ∙ e))
    (set_at buffers b.0 d.0 o)

all_zero : (n : ℕ) → list_all is_loc (replicate n loc.Zero) ≡ true
all_zero zero = refl
all_zero (suc n) = all_zero n

pub fresh_typed : (n : ℕ) → IsTyped (new_buffer n)
fresh_typed n = record { spans = refl; system = refl; tt = refl; vram = refl; table = all_zero n }

some_typed : (x y : Buffer) → IsTyped x → Some x ≡ Some y → IsTyped y
some_typed x y h e = let same : x ≡ y = cc in subst IsTyped same h

fenced : (job : JobId) (how : Usage) (x : Buffer) → IsTyped x → IsTyped (with_fence job how x)
fenced job how x h = record { spans = h.spans; system = h.system; tt = h.tt; vram = h.vram; table = h.table }

kernel_fenced : (jobs : List JobId) (x : Buffer) → IsTyped x → IsTyped (with_kernel_fences jobs x)
kernel_fenced [] x h = h
kernel_fenced (j ∷ jobs) x h = kernel_fenced jobs (with_fence j usage.Kernel x) (fenced j usage.Kernel x h)

retargeted : (m : Mem) (o : Option (List Span)) (x : Buffer) → are_some_spans o ≡ true → IsTyped x → IsTyped (with_spans m o x)
retargeted System o x k h = record { spans = h.spans; system = k; tt = h.tt; vram = h.vram; table = h.table }
retargeted Tt o x k h = record { spans = h.spans; system = h.system; tt = k; vram = h.vram; table = h.table }
retargeted Vram o x k h = record { spans = h.spans; system = h.system; tt = h.tt; vram = k; table = h.table }

caught_typed : (m : Mem) (x : Buffer) → IsTyped x → IsTyped (leaves_tt m x)
caught_typed Tt x h = retargeted System (Some []) x refl h
caught_typed Vram x h = h
caught_typed System x h = h

paged : (page : ℕ) (l : Loc) (x : Buffer) → is_loc l ≡ true → IsTyped x → IsTyped (with_loc page l x)
paged page l x k h = record { spans = h.spans; system = h.system; tt = h.tt; vram = h.vram; table = all_set is_loc x.table page l k h.table }

-- ---- lists of locations

unframed : (table : List Loc) → list_all is_loc table ≡ true → list_all is_loc (map without_frame table) ≡ true
unframed [] h = refl
unframed (loc.Frame f ∷ table) h = unframed table h
unframed (loc.Slot k ∷ table) h = let p = and_parts (is_u32 k) (list_all is_loc table) h in joint (is_u32 k) (list_all is_loc (map without_frame table)) p.0 (unframed table p.1)
unframed (loc.Zero ∷ table) h = unframed table h

emptied : (x : Buffer) → IsTyped x → IsTyped (without_frames x)
emptied x h = record { spans = h.spans; system = h.system; tt = h.tt; vram = h.vram; table = unframed x.table h.table }

left_table : (m : Mem) (table : List Loc) → list_all is_loc table ≡ true → list_all is_loc (table_left m table) ≡ true
left_table Tt table h = all_mapped is_loc (λ l. loc.Zero) (λ l. refl) table
left_table Vram table h = h
left_table System table h = h

-- ---- the spans of a target

given : (o : Option (List Span)) → are_some_spans o ≡ true → list_all is_span (unwrap_or o []) ≡ true
given None h = refl
given (Some ss) h = h

bound_typed : (x : Buffer) → IsTyped x → IsTyped (bound x)
bound_typed x h = record { spans = given x.targets.tt h.tt; system = h.system; tt = refl; vram = h.vram; table = h.table }

unbound_typed : (x : Buffer) → IsTyped x → IsTyped (unbound x)
unbound_typed x h = record { spans = refl; system = refl; tt = h.tt; vram = h.vram; table = h.table }

moved_typed : (m : Mem) (job : JobId) (x : Buffer) → IsTyped x → IsTyped (moved m job x)
moved_typed System job x h = record { spans = given x.targets.system h.system; system = refl; tt = h.tt; vram = h.vram; table = left_table x.mem x.table h.table }
moved_typed Tt job x h = record { spans = given x.targets.tt h.tt; system = h.system; tt = refl; vram = h.vram; table = left_table x.mem x.table h.table }
moved_typed Vram job x h = record { spans = given x.targets.vram h.vram; system = h.system; tt = h.tt; vram = refl; table = left_table x.mem x.table h.table }

used_typed : (job : JobId) (ops : List Op) (bs : List BufId) (buffers : List (Option Buffer)) → AreTyped buffers → AreTyped (fold (with_use job ops) buffers bs)
used_typed job ops [] buffers h = h
used_typed job ops (b ∷ bs) buffers h = used_typed job ops bs (with_use job ops buffers b) (changed_typed _ buffers b (λ x k. fenced job _ x k) h)

-- ---- each kind

buffers_keep : (script : Script) (s : State) (who : Actor) (k : Kind) → is_kind script k ≡ true → AreTyped s.core.buffers → AreTyped (applied script s who k).core.buffers
buffers_keep script s who (kind.New b) q h = set_typed s.core.buffers b (Some (new_buffer (decl script b).pages)) (λ x e. some_typed _ x (fresh_typed (decl script b).pages) e) h
buffers_keep script s who (kind.Free b g) q h = set_typed s.core.buffers b None (λ x e. cc) h
buffers_keep script s who (kind.Take b mem spans) q h =
    changed_typed _ s.core.buffers b
    (λ x k. kernel_fenced (jobs_before_target s.core mem) (with_spans mem (Some spans) x) (retargeted mem (Some spans) x (and_parts _ (list_all is_span spans) q).1 k)) h
buffers_keep script s who (kind.Untake b mem) q h = changed_typed _ s.core.buffers b (λ x k. retargeted mem None x refl k) h
buffers_keep script s who (kind.Populate b page f) q h = changed_typed _ s.core.buffers b (λ x k. paged page (loc.Frame f) x refl k) h
buffers_keep script s who (kind.SwapIn b page slot f) q h = changed_typed _ s.core.buffers b (λ x k. paged page (loc.Frame f) x refl k) h
buffers_keep script s who (kind.Depopulate b) q h = changed_typed _ s.core.buffers b emptied h
buffers_keep script s who (kind.Bind b) q h = changed_typed _ s.core.buffers b bound_typed h
buffers_keep script s who (kind.Unbind b) q h = changed_typed _ s.core.buffers b unbound_typed h
buffers_keep script s who (kind.Move b mem n l) q h = changed_typed _ s.core.buffers b (moved_typed mem (record { ctx = 0; num = n })) h
buffers_keep script s who (kind.Catch b w) q h = changed_typed _ s.core.buffers b (λ x k. caught_typed x.mem x k) h
buffers_keep script s who (kind.SwapOut b page slot) q h = changed_typed _ s.core.buffers b (λ x k. paged page (loc.Slot slot) x (and_parts _ (is_u32 slot) q).1 k) h
buffers_keep script s who (kind.Arm engine n) q h =
    used_typed (record { ctx = engine; num = n }) (ops_of (command_at_work script s (thread_of who))) (named_in (command_at_work script s (thread_of who))) s.core.buffers h
buffers_keep script s who k q h = h

-- ---- ghosts

abbrev pub AreDrawn : List Ghost → ℕ → Type 0
AreDrawn ghosts last = (i : ℕ) (g : Ghost) → slice_get ghosts i ≡ Some g → g.num ≤ last

pushed : (gs : List Ghost) (g : Ghost) (last : ℕ) → g.num ≡ last + 1 → AreDrawn gs last → AreDrawn (gs ++ g ∷ []) g.num
pushed gs g last e h i x q =
    ⊎_elim
    (λ r. let a = h i x r in omega (arith, a, e))
    (λ r. let same : x.num ≡ g.num = ap (λ (y : Ghost). y.num) r.1 in omega (arith, same))
    (get_pushed gs g x i q)

filtered : (p : Ghost → Bool) (gs : List Ghost) (last : ℕ) → AreDrawn gs last → AreDrawn (filter p gs) last
filtered p [] last h i x q = cc
filtered p (g ∷ gs) last h i x q = by (p g) i (λ j. filtered p gs last (λ j y f. h (suc j) y f) j x) q
  where
    by : (c : Bool) (i : ℕ) → ((j : ℕ) → slice_get (filter p gs) j ≡ Some x → x.num ≤ last) → slice_get (if c then g ∷ filter p gs else filter p gs) i ≡ Some x → x.num ≤ last
    by true zero rest e = h zero x e
    by true (suc i) rest e = rest i e
    by false i rest e = rest i e

freed : (gs : List Ghost) (g : Ghost) (last : ℕ) → ((g.num == 0) || (g.num == last + 1)) ≡ true → AreDrawn gs last → AreDrawn (if g.num == 0 then gs else gs ++ g ∷ []) (if g.num == 0 then last else g.num)
freed gs g last q h = by (g.num == 0) q
  where
    by : (c : Bool) → (c || (g.num == last + 1)) ≡ true → AreDrawn (if c then gs else gs ++ g ∷ []) (if c then last else g.num)
    by true e = h
    by false e = pushed gs g last (eqb-true g.num (last + 1) e) h

left_drawn : (s : State) (x : Buffer) (job : JobId) (l : Left) → counters.is_left s l ≡ true → AreDrawn s.core.ghosts s.last_ghost → AreDrawn (ghosts_left x job l s.core.ghosts) (last_ghost_left l s.last_ghost)
left_drawn s x job left.Now q h = h
left_drawn s x job (left.Ghost g) q h = pushed s.core.ghosts _ s.last_ghost (eqb-true g (next_ghost s) q) h

ghosts_keep : (script : Script) (s : State) (who : Actor) (k : Kind) → is_counted s k ≡ true → AreDrawn s.core.ghosts s.last_ghost → AreDrawn (applied script s who k).core.ghosts (applied script s who k).last_ghost
ghosts_keep script s who (kind.Free b g) q h = freed s.core.ghosts _ s.last_ghost q h
ghosts_keep script s who (kind.Move b mem n l) q h = left_drawn s (buffer_in s.core b) (record { ctx = 0; num = n }) l (and_parts _ (counters.is_left s l) q).1 h
ghosts_keep script s who (kind.Reap g) q h = filtered (λ x. not (x.num == g)) s.core.ghosts s.last_ghost h
ghosts_keep script s who k q h = h

-- ---- packets

-- a fill is with a byte
abbrev pub is_packet : Packet → Bool
is_packet (packet.Fill to off len byte) = is_byte byte
is_packet (packet.Copy to toff from foff len) = true
is_packet (packet.Xor to toff from foff len) = true
is_packet (packet.Probe from off len) = true

abbrev pub ArePackets : List Job → Type 0
ArePackets jobs = (i : ℕ) (j : Job) → slice_get jobs i ≡ Some j → list_all is_packet j.packets ≡ true

one_more : (jobs : List Job) (j : Job) → list_all is_packet j.packets ≡ true → ArePackets jobs → ArePackets (jobs ++ j ∷ [])
one_more jobs j k h i x q =
    ⊎_elim (λ r. h i x r) (λ r. subst (λ (y : Job). list_all is_packet y.packets ≡ true) (sym r.1) k) (get_pushed jobs j x i q)

job_changed : (f : Job → Job) (id : JobId) (jobs : List Job) → ((j : Job) → (f j).packets ≡ j.packets) → ArePackets jobs → ArePackets (changed_job f id jobs)
job_changed f id jobs same h i y q =
    let r = get_mapped (λ j. if same_job id j.id then f j else j) jobs y i q in
    subst (λ ps. list_all is_packet ps ≡ true) (sym (ap (λ (j : Job). j.packets) r.2 ∙ by r.0 (same_job id r.0.id))) (h i r.0 r.1)
  where
    by : (j : Job) (c : Bool) → (if c then f j else j).packets ≡ j.packets
    by j true = same j
    by j false = refl

op_packets : (script : Script) (pages : PageMap) (o : Op) → is_op script o ≡ true → (ps : List Piece) → list_all is_packet (map (packet_of pages o) ps) ≡ true
op_packets script pages (op.Fill dst off len byte) h ps = all_mapped is_packet (packet_of pages (op.Fill dst off len byte)) (λ p. (and_parts _ (is_byte byte) h).1) ps
op_packets script pages (op.Copy dst doff src soff len) h ps = all_mapped is_packet (packet_of pages (op.Copy dst doff src soff len)) (λ p. refl) ps
op_packets script pages (op.Xor dst doff src soff len) h ps = all_mapped is_packet (packet_of pages (op.Xor dst doff src soff len)) (λ p. refl) ps
op_packets script pages (op.Probe src off len) h ps = all_mapped is_packet (packet_of pages (op.Probe src off len)) (λ p. refl) ps

ops_packets : (script : Script) (pages : PageMap) (ops : List Op) → list_all (is_op script) ops ≡ true → list_all is_packet (packets_of pages ops) ≡ true
ops_packets script pages [] h = refl
ops_packets script pages (o ∷ ops) h =
    let p = and_parts (is_op script o) (list_all (is_op script) ops) h in
    all_appended is_packet (map (packet_of pages o) (pieces_of o)) (packets_of pages ops) (op_packets script pages o p.0 (pieces_of o)) (ops_packets script pages ops p.1)

command_ops : (script : Script) (cmd : Command) → is_command script cmd ≡ true → list_all (is_op script) (ops_of (Some cmd)) ≡ true
command_ops script (command.Submit engine ops) h =
    (and_parts (is_between 1 script.sizes.engines engine && _) (list_all (is_op script) ops) (and_parts (is_between 1 script.sizes.engines engine && _ && list_all (is_op script) ops) _ h).0).1
command_ops script cmd h = refl

work_ops : (script : Script) → Rules script → (s : State) (t : ℕ) → list_all (is_op script) (ops_of (command_at_work script s t)) ≡ true
work_ops script r s t = by (command_at_work script s t) (λ cmd e. (at_work_rules script r s t cmd e).command)
  where
    by : (o : Option Command) → ((cmd : Command) → o ≡ Some cmd → is_command script cmd ≡ true) → list_all (is_op script) (ops_of o) ≡ true
    by None h = refl
    by (Some cmd) h = command_ops script cmd (h cmd refl)

copies_fill_none : (x : Buffer) (mem : Mem) → list_all is_packet (move_packets x mem) ≡ true
copies_fill_none x mem =
    all_mapped {X = ℕ} is_packet (λ i. copy_of_page (name_in_spans mem (target_spans mem x) i) (packet_place x i)) (λ i. refl) (count_from 1 (length x.table) 0)

packets_keep : (script : Script) → Rules script → (s : State) (who : Actor) (k : Kind) → ArePackets s.core.jobs → ArePackets (applied script s who k).core.jobs
packets_keep script r s who (kind.Move b mem n l) h = one_more s.core.jobs _ (copies_fill_none (buffer_in s.core b) mem) h
packets_keep script r s who (kind.Arm engine n) h =
    one_more s.core.jobs _ (ops_packets script (λ b. packet_place (buffer_in s.core b)) (ops_of (command_at_work script s (thread_of who))) (work_ops script r s (thread_of who))) h
packets_keep script r s who (kind.Packet n k piece) h = job_changed (λ j. record j { ran = j.ran + 1 }) _ s.core.jobs (λ j. refl) h
packets_keep script r s who (kind.Done n) h = job_changed (λ j. record j { finished = true }) _ s.core.jobs (λ j. refl) h
packets_keep script r s who k h = h

-- ---- all of it

pub record Typed (s : State) : Type 0 where
  pub buffers : AreTyped s.core.buffers
  pub ghosts : AreDrawn s.core.ghosts s.last_ghost
  pub packets : ArePackets s.core.jobs

pub typed_keeps : (script : Script) → Rules script → (s : State) (who : Actor) (k : Kind) → is_kind script k ≡ true → is_counted s k ≡ true → Typed s → Typed (applied script s who k)
typed_keeps script r s who k fits counted h = record {
  buffers = buffers_keep script s who k fits h.buffers;
  ghosts = ghosts_keep script s who k counted h.ghosts;
  packets = packets_keep script r s who k h.packets;
}

pub typed_first : (script : Script) → Typed (first_state script)
typed_first script = record { buffers = λ b x e. absurd (none script.buffers b.0 x e); ghosts = λ i g e. cc; packets = λ i j e. cc }
  where
    none : {X : Type 0} (xs : List X) (i : ℕ) (x : Buffer) → ◌≡◌ {A = Option Buffer} (option_and_then (λ x. x) (slice_get (map (λ x. None) xs) i)) (Some x) → ⊥
    none [] i x e = cc
    none (y ∷ xs) zero x e = cc
    none (y ∷ xs) (suc i) x e = none xs i x e
