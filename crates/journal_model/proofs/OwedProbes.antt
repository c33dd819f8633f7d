-- What a probe has to show is settled when its job is armed: by the journal before that, and then by the operations before the
-- probe. No other entry changes it.
use Rattle.std.proofs.Common.{◌≡◌, ℕ, true, false, Bool, List, [], refl, arith, unwrap_or}
use Rattle.std.specs.Prelude.{slice_get}
use Rattle.std.proofs.lemmas.Bool.Decides.{nat_tests}
use Rattle.ttm_base.specs.declared.JobId.{JobId}
use Rattle.ttm_base.specs.declared.Op.{Op}
use Rattle.journal_model.specs.declared.script.Script.{Script}
use Rattle.journal_model.specs.declared.entry.Kind.{Kind}
use Rattle.journal_model.specs.declared.entry.Kind.TheVariants as kind
use Rattle.journal_model.specs.rules.Waits.{same_job}
use Rattle.journal_model.specs.rules.PlainMemory.{Plain, plain_after_arm, plain_after_kind, pieces_shown}

-- the entry arms this job
abbrev pub is_arm_of : JobId → Kind → Bool
is_arm_of job (kind.Arm engine n) = same_job (record { ctx = engine; num = n }) job
is_arm_of job _ = false

self : (job : JobId) → same_job job job ≡ true
self job = grind (arith, nat_tests)

pub settled : (job : JobId) (ops : List Op) (p : Plain) (k : ℕ) → (plain_after_arm job ops p).owed_probes job k ≡ unwrap_or (slice_get (pieces_shown p.memory ops) k) []
settled job ops p k = rw (self job) refl

pub kept : (script : Script) (p : Plain) (thread : ℕ) (e : Kind) (job : JobId) (k : ℕ) → is_arm_of job e ≡ false → (plain_after_kind script p thread e).owed_probes job k ≡ p.owed_probes job k
kept script p thread (kind.Ticket s) job k h = refl
kept script p thread (kind.Reserve b) job k h = refl
kept script p thread (kind.Backoff b s) job k h = refl
kept script p thread (kind.New b) job k h = refl
kept script p thread (kind.Free b g) job k h = refl
kept script p thread (kind.Take b mem spans) job k h = refl
kept script p thread (kind.Untake b mem) job k h = refl
kept script p thread (kind.Populate b page f) job k h = refl
kept script p thread (kind.SwapIn b page l f) job k h = refl
kept script p thread (kind.Depopulate b) job k h = refl
kept script p thread (kind.Bind b) job k h = refl
kept script p thread (kind.Unbind b) job k h = refl
kept script p thread (kind.Move b mem n l) job k h = refl
kept script p thread (kind.Catch b w) job k h = refl
kept script p thread (kind.Loose b) job k h = refl
kept script p thread (kind.Skip b) job k h = refl
kept script p thread (kind.Dry b j w) job k h = refl
kept script p thread (kind.SwapOut b page l) job k h = refl
kept script p thread (kind.NoPages b) job k h = refl
kept script p thread (kind.Arm engine n) job k h = rw h refl
kept script p thread (kind.Packet n j piece) job k h = refl
kept script p thread (kind.Done n) job k h = refl
kept script p thread (kind.Reap g) job k h = refl
kept script p thread (kind.Bulk group) job k h = refl
kept script p thread (kind.Result r) job k h = refl
kept script p thread (kind.Refused d) job k h = refl
