-- The laws of legal journals and of address spaces that are proved, as statements. Each is the contract of a function in a crate `law_*`,
-- which cites it by its name here. `MarkLaws` has those on mappings and versions.
use Rattle.std.specs.Prelude.{◌≡◌, ℕ, ◌≤◌, List, Some, [], IsTrue, filter, flat_map, length}
use Rattle.std.specs.List.{list_all}
use Rattle.journal_model.specs.Types.{Entry, MarkKind, Op, Script}
use Rattle.journal_model.specs.declared.space.VOp.{VOp}
use Rattle.journal_model.specs.statements.Account.{has_accounts}
use Rattle.journal_model.specs.rules.Legal.{state_of, IsLegal, made_of}
use Rattle.journal_model.specs.statements.Complete.{is_complete}
use Rattle.journal_model.specs.scripts.ScriptRules.{is_script}
use Rattle.journal_model.specs.reports.ReportText.{report}
use Rattle.journal_model.specs.rules.Transparent.{IsTransparent}
use Rattle.journal_model.specs.statements.Causes.{have_causes}
use Rattle.journal_model.specs.scripts.Readable.{is_readable}
use Rattle.journal_model.specs.statements.Spares.{spares_jobs}
use Rattle.journal_model.specs.statements.DeadEnd.{IsDeadEnd}
use Rattle.journal_model.specs.statements.Scheduled.{scheduled, turn_limit}
use Rattle.journal_model.specs.rules.PlainMemory.{Memory, after_ops, pieces_shown}
use Rattle.journal_model.specs.marks.Spaces.{space_of, regions_of, regions_space, has_pages, are_disjoint, steps_of, is_remap}
use Rattle.journal_model.specs.marks.ByName.{job_by_name, after_vops, vops_shown}
use Rattle.journal_model.specs.scripts.MarkRules.{has_apart_ranges}

-- each law speaks of every script that has a spelling and of every journal that is legal for it
abbrev pub ForLegal : (Script → List Entry → Type 0) → Type 0
ForLegal law = (script : Script) (journal : List Entry) → IsTrue (is_script script) → IsLegal script journal → law script journal

-- reads and probes show the bytes of the memory where each buffer has its own place for good
abbrev pub LegalIsTransparent : Type 0
LegalIsTransparent = ForLegal IsTransparent

-- live, target and ghost pages never overlap, and with the free ones make each size
abbrev pub HasAccounts : Script → List Entry → Type 0
HasAccounts script journal = IsTrue (has_accounts script (state_of script journal).core)

-- the accounts hold in every state
abbrev pub LegalHasAccounts : Type 0
LegalHasAccounts = ForLegal HasAccounts

-- dry places, refusals for lack of room or frames, and backoffs have their causes
abbrev pub HasCauses : Script → List Entry → Type 0
HasCauses script journal = IsTrue (have_causes script [] (made_of script journal))

-- each entry that gives up has its cause
abbrev pub LegalHasCauses : Type 0
LegalHasCauses = ForLegal HasCauses

-- the values of each entry are of their fields' types, its spans have pages, and its buffers are declared
abbrev pub LegalIsReadable : Type 0
LegalIsReadable = ForLegal (λ script journal. IsTrue (list_all (is_readable script) journal))

-- no entry takes or gives an aperture page that an unfinished job names, also by packets that have run
abbrev pub SparesJobs : Script → List Entry → Type 0
SparesJobs script journal = IsTrue (list_all (λ m. spares_jobs m.before.core m.entry.kind) (made_of script journal))

-- what the waits imply of the aperture
abbrev pub LegalSparesJobs : Type 0
LegalSparesJobs = ForLegal SparesJobs

-- some actor has an entry while the journal isn't complete
abbrev pub NeverEndsDead : Script → List Entry → Type 0
NeverEndsDead script journal = IsDeadEnd script journal → ⊥

-- no state of a legal journal is a dead end
abbrev pub LegalNeverEndsDead : Type 0
LegalNeverEndsDead = ForLegal NeverEndsDead

-- the simulator's own schedule ends within its limit
abbrev pub LimitSuffices : Type 0
LimitSuffices = (script : Script) → IsTrue (is_script script) → IsTrue (is_complete script (scheduled script (turn_limit script)))

-- a script of the first version and its form in the second have the same journals
abbrev pub FormsAgree : Type 0
FormsAgree = (script : Script) (n : ℕ) → scheduled (record script { version = 2 }) n ≡ scheduled script n

-- for one script two legal journals have two texts
abbrev pub TextsDiffer : Type 0
TextsDiffer =
    (script : Script) (journal other : List Entry) → IsTrue (is_script script) →
    IsLegal script journal → IsLegal script other → report script journal ≡ report script other → journal ≡ other

-- ---- address spaces; each request has a page at least

-- a law of any list of requests
abbrev pub ForRequests : (List MarkKind → Type 0) → Type 0
ForRequests law = (requests : List MarkKind) → IsTrue (list_all has_pages requests) → law requests

-- the mappings of a space say what its requests say
abbrev pub RegionsAreTheSpace : Type 0
RegionsAreTheSpace = ForRequests (λ requests. (page : ℕ) → regions_space (regions_of requests) page ≡ space_of requests page)

-- they stand in rising order, and no two have a page in common
abbrev pub RegionsAreDisjoint : Type 0
RegionsAreDisjoint = ForRequests (λ requests. IsTrue (are_disjoint (regions_of requests)))

-- a request leaves parts of at most two mappings
abbrev pub RemapsAreFew : Type 0
RemapsAreFew =
    ForRequests (λ requests. (request : MarkKind) → IsTrue (has_pages request) →
    length (filter is_remap (steps_of (regions_of requests) request)) ≤ 2)

-- A job by name means what the job with addresses means, in every memory, and its probes show the same bytes. No buffer stands in
-- both ranges of a copy or xor.
abbrev pub NamesAreAddresses : Type 0
NamesAreAddresses =
    ForRequests (λ requests. (vs : List VOp) (ops : List Op) (memory : Memory) →
    IsTrue (list_all (has_apart_ranges (regions_of requests)) vs) → job_by_name (regions_of requests) vs ≡ Some ops →
    ((b i : ℕ) → after_ops memory ops b i ≡ after_vops (space_of requests) memory vs b i)
    × (flat_map (λ piece. piece) (pieces_shown memory ops) ≡ vops_shown (space_of requests) memory vs))
