-- A report of a script is right up to one place, and breaks one rule there.
use Rattle.std.proofs.Common.{◌≡◌, ℕ, ◌+◌, ◌<◌, ◌≤◌, Bool, true, false, List, ◌∷◌, ◌++◌, length, Ok, ◌⊎◌, inl, inr, refl, ap, sym, subst, ◌∙◌, arith}
use Rattle.std.proofs.lemmas.Bool.{cases_lt}
use Rattle.ttm_base.specs.declared.Actor.{Actor}
use Rattle.journal_model.specs.declared.script.Script.{Script}
use Rattle.journal_model.specs.declared.state.State.{State}
use Rattle.journal_model.specs.declared.entry.Entry.{Entry}
use Rattle.journal_model.specs.declared.entry.Kind.{Kind}
use Rattle.journal_model.specs.declared.entry.Kind.TheVariants as kind
use Rattle.journal_model.specs.scripts.Words.{Text}
use Rattle.journal_model.specs.rules.Stores.{Stores, showing}
use Rattle.journal_model.specs.rules.Legal.{World, IsLegalNext, world_of}
use Rattle.journal_model.specs.statements.Complete.{is_complete}
use Rattle.journal_model.specs.reports.ReportText.{report}
use Rattle.journal_model.specs.reports.Verdict.{HasHead, IsRejected, IsRightTo, IsStep, TellsNext, no_head, no_entry, no_step, not_shown, not_complete, no_end, unshown, unshown_step}
use Rattle.laws.proofs.law_state.Shown.{legal_step}
use Rattle.law_legal.proofs.law_verdict.Heads.{one_head}
use Rattle.law_legal.proofs.law_verdict.Fronts.{OneEntry, Goes, as_long, longer_goes, one_told}

-- ---- causes

-- a line tells the entry, and it isn't legal next
pub data Fault (script : Script) (w : World) (e : Entry) (rule : ℕ) : Type 0 where
  other_step : rule ≡ 3 → (IsStep script w e → ⊥) → Fault script w e rule
  other_bytes : rule ≡ 4 → IsStep script w e → (IsLegalNext script w e → ⊥) → Fault script w e rule

-- all entries are legal; 0 stands for no rule
pub data Ending (script : Script) (text : Text) (journal : List Entry) (rule : ℕ) : Type 0 where
  incomplete : rule ≡ 5 → is_complete script journal ≡ false → Ending script text journal rule
  other_end : rule ≡ 6 → is_complete script journal ≡ true → (text ≡ report script journal → ⊥) → Ending script text journal rule
  whole : rule ≡ 0 → is_complete script journal ≡ true → text ≡ report script journal → Ending script text journal rule

-- why the report isn't right beyond this journal
pub data Cause (script : Script) (text : Text) (count : ℕ) (journal : List Entry) (rule : ℕ) : Type 0 where
  untold : rule ≡ 2 → length journal < count → ((e : Entry) → TellsNext script text count journal e → ⊥) → Cause script text count journal rule
  told : (e : Entry) → TellsNext script text count journal e → Fault script (world_of script journal) e rule → Cause script text count journal rule
  ended : count ≡ length journal → Ending script text journal rule → Cause script text count journal rule

-- a place after which it isn't, and the rule
pub record Stop (script : Script) (text : Text) (entry rule : ℕ) : Type 0 where
  pub count : ℕ
  pub journal : List Entry
  pub texts : List Text
  pub right : IsRightTo script text count journal texts
  pub cause : Cause script text count journal rule
  pub place : entry ≡ length journal + 1

-- ---- one rule

unshown_showing : (script : Script) (stores : Stores) (s : State) (who : Actor) (k : Kind) → unshown (showing script stores s who k) ≡ unshown k
unshown_showing script stores s who (kind.Result r) = refl
unshown_showing script stores s who (kind.Packet n k piece) = refl
unshown_showing script stores s who k = refl

legal_is_step : (script : Script) (w : World) (e : Entry) → IsLegalNext script w e → IsStep script w e
legal_is_step script w e h =
    let l = legal_step script w e h in
    let shown : unshown e.kind ≡ unshown l.kind = ap (λ (f : Entry). unshown f.kind) l.entry ∙ unshown_showing script w.stores w.state e.who l.kind in
    ap unshown_step l.step ∙ ap (λ (k : Kind). Ok k) (sym shown)

both_ways : {b : Bool} → b ≡ false → b ≡ true → ⊥
both_ways o c = cc

one_fault : (script : Script) (w : World) (e : Entry) (r q : ℕ) → Fault script w e r → Fault script w e q → r ≡ q
one_fault script w e r q (other_step a f) (other_step b g) = a ∙ sym b
one_fault script w e r q (other_step a f) (other_bytes b s g) = absurd (f s)
one_fault script w e r q (other_bytes a s f) (other_step b g) = absurd (g s)
one_fault script w e r q (other_bytes a s f) (other_bytes b t g) = a ∙ sym b

one_ending : (script : Script) (text : Text) (journal : List Entry) (r q : ℕ) → Ending script text journal r → Ending script text journal q → r ≡ q
one_ending script text journal r q (incomplete a o) (incomplete b p) = a ∙ sym b
one_ending script text journal r q (incomplete a o) (other_end b c g) = absurd (both_ways o c)
one_ending script text journal r q (incomplete a o) (whole b c g) = absurd (both_ways o c)
one_ending script text journal r q (other_end a c f) (incomplete b o) = absurd (both_ways o c)
one_ending script text journal r q (other_end a c f) (other_end b d g) = a ∙ sym b
one_ending script text journal r q (other_end a c f) (whole b d g) = absurd (f g)
one_ending script text journal r q (whole a c f) (incomplete b o) = absurd (both_ways o c)
one_ending script text journal r q (whole a c f) (other_end b d g) = absurd (g f)
one_ending script text journal r q (whole a c f) (whole b d g) = a ∙ sym b

module _ (script : Script) (one_entry : OneEntry script) (text : Text) where
  one_cause : (count : ℕ) (journal : List Entry) (r q : ℕ) → Cause script text count journal r → Cause script text count journal q → r ≡ q
  one_cause count journal r q (untold a less f) (untold b more g) = a ∙ sym b
  one_cause count journal r q (untold a less f) (told e t g) = absurd (f e t)
  one_cause count journal r q (untold a less f) (ended all g) = absurd (omega (arith, less, all))
  one_cause count journal r q (told e t f) (untold b less g) = absurd (g e t)
  one_cause count journal r q (told e t f) (told d u g) =
      one_fault script (world_of script journal) e r q f
      (subst (λ (x : Entry). Fault script (world_of script journal) x q) (sym (one_told script one_entry text count journal e d t u)) g)
  one_cause count journal r q (told e t f) (ended all g) = let less = t.counted in absurd (omega (arith, less, all))
  one_cause count journal r q (ended all f) (untold b less g) = absurd (omega (arith, less, all))
  one_cause count journal r q (ended all f) (told e t g) = let less = t.counted in absurd (omega (arith, less, all))
  one_cause count journal r q (ended all f) (ended same g) = one_ending script text journal r q f g

  -- ---- one place

  -- a legal entry that is told gives no cause
  legal_goes_on : (count : ℕ) (journal : List Entry) (r : ℕ) → Cause script text count journal r → Goes script one_entry text count journal → ⊥
  legal_goes_on count journal r (untold a less f) g = f g.entry g.tells
  legal_goes_on count journal r (told e t f) g = by_fault f
    where
      same : g.entry ≡ e
      same = one_told script one_entry text count journal g.entry e g.tells t

      legal : IsLegalNext script (world_of script journal) e
      legal = subst (λ (x : Entry). IsLegalNext script (world_of script journal) x) same g.legal

      by_fault : Fault script (world_of script journal) e r → ⊥
      by_fault (other_step a bad) = bad (legal_is_step script (world_of script journal) e legal)
      by_fault (other_bytes a step bad) = bad legal
  legal_goes_on count journal r (ended all f) g = let less = g.tells.counted in omega (arith, less, all)

  one_rule : (count : ℕ) (journal other : List Entry) (r q : ℕ) → journal ≡ other → Cause script text count journal r → Cause script text count other q → r ≡ q
  one_rule count journal other r q same f g = one_cause count journal r q f (subst (λ (es : List Entry). Cause script text count es q) (sym same) g)

  one_of : (count : ℕ) (journal other : List Entry) (texts behind : List Text) (r q : ℕ) → IsRightTo script text count journal texts → IsRightTo script text count other behind
      → Cause script text count journal r → Cause script text count other q → (length journal ≡ length other) × (r ≡ q)
  one_of count journal other texts behind r q h k f g = by_order (cases_lt (length journal) (length other)) (cases_lt (length other) (length journal))
    where
      by_order : (length journal < length other) ⊎ (length other ≤ length journal) → (length other < length journal) ⊎ (length journal ≤ length other) → (length journal ≡ length other) × (r ≡ q)
      by_order (inl less) more = absurd (legal_goes_on count journal r f (longer_goes script one_entry text count journal other texts behind h k less))
      by_order (inr most) (inl more) = absurd (legal_goes_on count other q g (longer_goes script one_entry text count other journal behind texts k h more))
      by_order (inr most) (inr least) =
          let same : length journal ≡ length other = omega (arith, most, least) in
          (same, one_rule count journal other r q (as_long script one_entry text count journal other texts behind h k same) f g)

  -- two places are one, with one rule
  pub one_stop : (n m r q : ℕ) → Stop script text n r → Stop script text m q → (n ≡ m) × (r ≡ q)
  one_stop n m r q h k =
      let count = (one_head script text h.count k.count (h.right.right ++ h.texts) (k.right.right ++ k.texts) h.right.head k.right.head).0 in
      let right : IsRightTo script text h.count k.journal k.texts = subst (λ c. IsRightTo script text c k.journal k.texts) (sym count) k.right in
      let cause : Cause script text h.count k.journal q = subst (λ c. Cause script text c k.journal q) (sym count) k.cause in
      let both = one_of h.count h.journal k.journal h.texts k.texts r q h.right right h.cause cause in
      (h.place ∙ ap (λ l. l + 1) both.0 ∙ sym k.place, both.1)

  -- ---- what is rejected stops

  -- the first two lines are missing, or there is a place
  pub data Rejection (entry rule : ℕ) : Type 0 where
    headless : ((count : ℕ) (texts : List Text) → HasHead script text count texts → ⊥) → entry ≡ 0 → rule ≡ 1 → Rejection entry rule
    stopped : Stop script text entry rule → 1 ≤ rule → Rejection entry rule

  pub rejection : (n r : ℕ) → IsRejected script text n r → Rejection n r
  rejection n r (no_head none) = headless none refl refl
  rejection n r (no_entry count journal texts right less none) =
      stopped (record { count = count; journal = journal; texts = texts; right = right; cause = untold refl less none; place = refl }) (omega arith)
  rejection n r (no_step count journal e tells bad) =
      stopped (record { count = count; journal = journal; texts = tells.next_line ∷ tells.behind; right = tells.right; cause = told e tells (other_step refl bad); place = refl }) (omega arith)
  rejection n r (not_shown count journal e tells step bad) =
      stopped (record { count = count; journal = journal; texts = tells.next_line ∷ tells.behind; right = tells.right; cause = told e tells (other_bytes refl step bad); place = refl }) (omega arith)
  rejection n r (not_complete journal texts right goes) =
      stopped (record { count = length journal; journal = journal; texts = texts; right = right; cause = ended refl (incomplete refl goes); place = refl }) (omega arith)
  rejection n r (no_end journal texts right complete bad) =
      stopped (record { count = length journal; journal = journal; texts = texts; right = right; cause = ended refl (other_end refl complete bad); place = refl }) (omega arith)

  has_head : (n r : ℕ) → Stop script text n r → ((count : ℕ) (texts : List Text) → HasHead script text count texts → ⊥) → ⊥
  has_head n r h none = none h.count (h.right.right ++ h.texts) h.right.head

  one_rejection : (n m r q : ℕ) → Rejection n r → Rejection m q → (n ≡ m) × (r ≡ q)
  one_rejection n m r q (headless none a b) (headless other c d) = (a ∙ sym c, b ∙ sym d)
  one_rejection n m r q (headless none a b) (stopped k some) = absurd (has_head m q k none)
  one_rejection n m r q (stopped h some) (headless none a b) = absurd (has_head n r h none)
  one_rejection n m r q (stopped h some) (stopped k more) = one_stop n m r q h k

  pub rejected_once : (n m r q : ℕ) → IsRejected script text n r → IsRejected script text m q → (n ≡ m) × (r ≡ q)
  rejected_once n m r q h k = one_rejection n m r q (rejection n r h) (rejection m q k)

  -- what stops by no rule isn't rejected
  pub not_rejected : (n m q : ℕ) → Stop script text n 0 → IsRejected script text m q → ⊥
  not_rejected n m q h k = by_rejection (rejection m q k)
    where
      by_rejection : Rejection m q → ⊥
      by_rejection (headless none a b) = has_head n 0 h none
      by_rejection (stopped other some) = let same = (one_stop n m 0 q h other).1 in omega (arith, some, same)
