-- Parts of a text, one after the other: what was written where one of them was refused, and the report by its parts.
use Rattle.std.proofs.Common.{◌≡◌, ℕ, ◌<◌, Bool, true, false, List, [], ◌∷◌, ◌++◌, Option, Result, ap, refl, ◌∙◌, sym, ⊎_elim, append_assoc, length-append, arith}
use Rattle.std.specs.Prelude.{IsErr, ◌||◌, codes, decimal, length, flat_map}
use Rattle.std.specs.List.{list_any, enumerate_from}
use Rattle.std.proofs.lemmas.Bool.{or_cases, or_parts}
use Rattle.std.specs.Io.KnownBytes.{append_known}
use Rattle.io_edge.specs.Written.{AppendsFront, Writes}
use Rattle.io_edge.proofs.Told.{append_known-twice, front_of_first, front_of_next, writes_next, writes_refused}
use Rattle.journal_model.specs.declared.script.Script.{Script}
use Rattle.journal_model.specs.declared.entry.Entry.{Entry}
use Rattle.journal_model.specs.declared.state.Core.{Core}
use Rattle.journal_model.specs.scripts.Words.{Text, line}
use Rattle.journal_model.specs.marks.Marks.{is_map, is_vmap}
use Rattle.journal_model.specs.statements.Complete.{thread_numbers}
use Rattle.journal_model.specs.rules.Legal.{state_of}
use Rattle.journal_model.specs.reports.EntryText.{entry_line}
use Rattle.journal_model.specs.reports.ReportText.{account_line, account_lines, maps_part, report, spaces_part, thread_results}
use Rattle.page_accounts.specs.declared.accounts.Accounts.{Accounts}
use Rattle.page_accounts.specs.Accounts.{AreAccountsOf}
use Rattle.report_text.specs.Parts.{four_lines, journal_part, mappings_part, outcome_part}
use Rattle.report_text.proofs.WrittenLines.{line_has_some}

-- two parts written are one
pub wrote_two : (o m n : Option (List ℕ)) (a b : Text) → m ≡ append_known o a → n ≡ append_known m b → n ≡ append_known o (a ++ b)
wrote_two o m n a b first second = second ∙ ap (λ t. append_known t b) first ∙ append_known-twice o a b

-- ---- three parts

pub first_of_three : {T E : Type 0} (r : Result T E) (o n : Option (List ℕ)) (a b c : Text) → IsErr r → AppendsFront o n a → Writes r o n ((a ++ b) ++ c)
first_of_three r o n a b c h front = writes_refused r o n ((a ++ b) ++ c) h (front_of_first c (front_of_first b front))

pub second_of_three : {T E : Type 0} (r : Result T E) (o m n : Option (List ℕ)) (a b c : Text) → IsErr r → m ≡ append_known o a → AppendsFront m n b
    → Writes r o n ((a ++ b) ++ c)
second_of_three r o m n a b c h one front = writes_refused r o n ((a ++ b) ++ c) h (front_of_first c (front_of_next a one front))

pub third_of_three : {T E : Type 0} (r : Result T E) (o m m' n : Option (List ℕ)) (a b c : Text) → IsErr r → m ≡ append_known o a → m' ≡ append_known m b
    → AppendsFront m' n c → Writes r o n ((a ++ b) ++ c)
third_of_three r o m m' n a b c h one two front = writes_refused r o n ((a ++ b) ++ c) h (front_of_next (a ++ b) (wrote_two o m m' a b one two) front)

pub last_of_three : {T E : Type 0} (r : Result T E) (o m m' n : Option (List ℕ)) (a b c : Text) → m ≡ append_known o a → m' ≡ append_known m b → Writes r m' n c
    → Writes r o n ((a ++ b) ++ c)
last_of_three r o m m' n a b c one two last = writes_next r o m' n (a ++ b) c (wrote_two o m m' a b one two) last

-- ---- four parts

pub first_of_four : {T E : Type 0} (r : Result T E) (o n : Option (List ℕ)) (a b c d : Text) → IsErr r → AppendsFront o n a → Writes r o n (((a ++ b) ++ c) ++ d)
first_of_four r o n a b c d h front = writes_refused r o n (((a ++ b) ++ c) ++ d) h (front_of_first d (front_of_first c (front_of_first b front)))

pub second_of_four : {T E : Type 0} (r : Result T E) (o m n : Option (List ℕ)) (a b c d : Text) → IsErr r → m ≡ append_known o a → AppendsFront m n b
    → Writes r o n (((a ++ b) ++ c) ++ d)
second_of_four r o m n a b c d h one front = writes_refused r o n (((a ++ b) ++ c) ++ d) h (front_of_first d (front_of_first c (front_of_next a one front)))

pub third_of_four : {T E : Type 0} (r : Result T E) (o m m' n : Option (List ℕ)) (a b c d : Text) → IsErr r → m ≡ append_known o a → m' ≡ append_known m b
    → AppendsFront m' n c → Writes r o n (((a ++ b) ++ c) ++ d)
third_of_four r o m m' n a b c d h one two front =
    writes_refused r o n (((a ++ b) ++ c) ++ d) h (front_of_first d (front_of_next (a ++ b) (wrote_two o m m' a b one two) front))

pub last_of_four : {T E : Type 0} (r : Result T E) (o m m' m'' n : Option (List ℕ)) (a b c d : Text) → m ≡ append_known o a → m' ≡ append_known m b
    → m'' ≡ append_known m' c → Writes r m'' n d → Writes r o n (((a ++ b) ++ c) ++ d)
last_of_four r o m m' m'' n a b c d one two three last =
    writes_next r o m'' n ((a ++ b) ++ c) d (wrote_two o m' m'' (a ++ b) c (wrote_two o m m' a b one two) three) last

-- ---- the report by its parts

joined : (a b c d a' b' c' d' : Text) → a ≡ a' → b ≡ b' → c ≡ c' → d ≡ d' → ((a ++ b) ++ c) ++ d ≡ ((a' ++ b') ++ c') ++ d'
joined a b c d a' b' c' d' p q r s = cc

-- the accounts given are those of the definition
same_lines : (script : Script) (c : Core) (a : Accounts) → AreAccountsOf script c a → account_lines script c ≡ four_lines script.sizes a
same_lines script c a h =
    joined _ _ _ _ _ _ _ _
    (ap (account_line (codes "vram") script.sizes.vram) (sym h.vram)) (ap (account_line (codes "tt") script.sizes.tt) (sym h.tt))
    (ap (account_line (codes "frames") script.sizes.frames) (sym h.frames)) (ap (account_line (codes "swap") script.sizes.swap) (sym h.swap))

-- those before the results, the others but for those on mappings, and these
regrouped : (a b c h rs k ac ac' m s z : Text) → ac ≡ ac'
    → (((((((((a ++ b) ++ c) ++ h) ++ rs) ++ k) ++ ac) ++ m) ++ s) ++ z) ≡ (((((a ++ b) ++ c) ++ (((h ++ rs) ++ k) ++ ac')) ++ (m ++ s)) ++ z)
regrouped a b c h rs k ac ac' m s z same =
    ap (λ t. ((((((((((a ++ b) ++ c) ++ h) ++ rs) ++ k) ++ t) ++ m) ++ s) ++ z))) same ∙ in_four a b c h rs k ac' m s z
  where
    in_four : (a b c h rs k ac m s z : Text)
        → (((((((((a ++ b) ++ c) ++ h) ++ rs) ++ k) ++ ac) ++ m) ++ s) ++ z) ≡ (((((a ++ b) ++ c) ++ (((h ++ rs) ++ k) ++ ac)) ++ (m ++ s)) ++ z)
    in_four a b c h rs k ac m s z = simp append_assoc

pub report_by_parts : (script : Script) (journal : List Entry) (a : Accounts) → AreAccountsOf script (state_of script journal).core a
    → report script journal ≡ ((journal_part script journal ++ outcome_part script journal a) ++ mappings_part script journal) ++ line (codes "end" ∷ [])
report_by_parts script journal a h =
    regrouped (line (codes "report" ∷ decimal script.version ∷ [])) (line (codes "journal" ∷ decimal (length journal) ∷ []))
    (flat_map (entry_line script) (enumerate_from 1 journal)) (line (codes "results" ∷ [])) (flat_map (thread_results journal) (thread_numbers script))
    (line (codes "accounts" ∷ [])) (account_lines script (state_of script journal).core) (four_lines script.sizes a)
    (maps_part script journal) (spaces_part script) (line (codes "end" ∷ []))
    (same_lines script (state_of script journal).core a h)

-- ---- the parts on mappings, where there are some

-- a part that is left out
left_out : (b : Bool) (t : Text) → b ≡ false → (let part : Text = elim b as (λ _. Text) [ true ↦ t | false ↦ [] ] in part ≡ [])
left_out true t h = cc
left_out false t h = refl

-- without a mapping there is nothing to write
pub no_mappings : (script : Script) (journal : List Entry) → (list_any (λ m. is_map m.kind) script.marks || list_any (λ m. is_vmap m.kind) script.marks) ≡ false
    → mappings_part script journal ≡ []
no_mappings script journal h =
    let none = or_parts (list_any (λ m. is_map m.kind) script.marks) (list_any (λ m. is_vmap m.kind) script.marks) h in
    ap (λ t. t ++ spaces_part script) (left_out (list_any (λ m. is_map m.kind) script.marks) _ none.0)
    ∙ left_out (list_any (λ m. is_vmap m.kind) script.marks) _ none.1

has_some : (b : Bool) (ws : List Text) (t : Text) → b ≡ true → (let part : Text = elim b as (λ _. Text) [ true ↦ line ws ++ t | false ↦ [] ] in 0 < length part)
has_some true ws t h = let e = line_has_some ws in let l = length-append (line ws) t in omega (arith, e, l)
has_some false ws t h = cc

-- with one there is
pub some_mappings : (script : Script) (journal : List Entry) → (list_any (λ m. is_map m.kind) script.marks || list_any (λ m. is_vmap m.kind) script.marks) ≡ true
    → 0 < length (mappings_part script journal)
some_mappings script journal h =
    let l = length-append (maps_part script journal) (spaces_part script) in
    ⊎_elim
    (λ e. let some : 0 < length (maps_part script journal) = has_some (list_any (λ m. is_map m.kind) script.marks) (codes "maps" ∷ []) _ e in omega (arith, some, l))
    (λ e. let some : 0 < length (spaces_part script) = has_some (list_any (λ m. is_vmap m.kind) script.marks) (codes "spaces" ∷ []) _ e in omega (arith, some, l))
    (or_cases (list_any (λ m. is_map m.kind) script.marks) (list_any (λ m. is_vmap m.kind) script.marks) h)
