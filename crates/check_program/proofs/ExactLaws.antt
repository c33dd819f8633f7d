-- Exactly where the statuses come.
use Rattle.std.proofs.Common.{◌≡◌, ℕ, ◌<◌, ◌≤◌, ◌++◌, ◌⊎◌, true, inl, inr, Option, Some, None, IfSome, length, length-append, ap, sym, subst, ◌∙◌, refl, arith}
use Rattle.std.specs.Io.KnownBytes.{prepend_known}
use Rattle.journal_model.specs.declared.script.Script.{Script}
use Rattle.journal_model.specs.scripts.Words.{Text}
use Rattle.journal_model.specs.scripts.FirstFault.{first_fault}
use Rattle.journal_model.specs.reports.Verdict.{IsAccepted, IsRejected, check_limit, report_part, script_part}
use Rattle.journal_model.specs.reports.ReportText.{report}
use Rattle.journal_model.specs.scripts.ScriptRules.{IsScript}
use Rattle.law_legal.proofs.law_script.Story.{fault_where_no_script, one_value}
use Rattle.law_legal.proofs.law_verdict.Law.{accepted_is_not_rejected, cut_reports_are_accepted, rejected_once}
use Rattle.law_legal.proofs.law_verdict.ScriptLines.{scripts_are_cut_off}
use Rattle.entry_reader.specs.Rules.{number_of}
use Rattle.program_edges.specs.declared.status.Status.{Status}
use Rattle.program_edges.specs.declared.status.Status.TheVariants as status
use Rattle.program_edges.specs.Edges.{Edge, IsWritten, WasReadWhole}
use Rattle.check_program.specs.declared.finding.Finding.{Finding}
use Rattle.check_program.specs.declared.finding.Finding.TheVariants as finding
use Rattle.check_program.specs.Finds.{AreAccepted, AreRejected, Finds, FindsIn, rejected_text, status_of, text_of}
use Rattle.check_program.specs.Ends.{EndsChecked, broken, cut, nothing, whole}
use Rattle.check_program.specs.Exact.{AreInvalid, AreScriptAndReport, HaveScript, IsExact, ReportsAreValid, VerdictsAreExact, is_verdict}

-- ---- bytes have one verdict

never_both : (bytes : Text) (entry rule : ℕ) → AreAccepted bytes → AreRejected bytes entry rule → ⊥
never_both bytes entry rule a r =
    let same = one_value (script_part bytes) a.script r.script a.spelled r.spelled in
    accepted_is_not_rejected (script_part bytes) (report_part bytes) r.script entry rule r.spelled
    (subst (λ (s : Script). IsAccepted s (report_part bytes)) same a.accepted) r.rejected

once : (bytes : Text) (entry rule other_entry other_rule : ℕ) → AreRejected bytes entry rule → AreRejected bytes other_entry other_rule → (entry ≡ other_entry) × (rule ≡ other_rule)
once bytes entry rule other_entry other_rule a b =
    let same = one_value (script_part bytes) a.script b.script a.spelled b.spelled in
    rejected_once b.script (report_part bytes) entry rule other_entry other_rule b.spelled.fits
    (subst (λ (s : Script). IsRejected s (report_part bytes) entry rule) same a.rejected) b.rejected

no_script : (bytes : Text) (fault : ℕ × ℕ) → first_fault (script_part bytes) ≡ Some fault → HaveScript bytes → ⊥
no_script bytes fault bad h = let none = (fault_where_no_script (script_part bytes)).1 (h.script, h.spelled) in let both : Some fault ≡ None = sym bad ∙ none in cc

-- ---- what a status tells

data Tells (bytes : Text) (sink : Edge) (s : Status) : Type 0 where
  bad : s ≡ status.BadScript → length bytes ≤ check_limit → (HaveScript bytes → ⊥) → Tells bytes sink s
  valid : s ≡ status.Done → length bytes ≤ check_limit → AreAccepted bytes → Tells bytes sink s
  invalid : s ≡ status.Rejected → length bytes ≤ check_limit → (entry rule : ℕ) → AreRejected bytes entry rule → IsWritten sink (rejected_text entry rule) → Tells bytes sink s
  long : s ≡ status.Rejected → check_limit < length bytes → Tells bytes sink s

long_front : (bytes front : Text) (after : Option Text) → prepend_known front after ≡ Some bytes → length front ≤ length bytes
long_front bytes front None h = cc
long_front bytes front (Some rest) h =
    let whole : front ++ rest ≡ bytes = cc in
    let len = ap length whole in
    let both = length-append front rest in
    omega (arith, len, both)

module _ (source sink : Edge) (bytes : Text) (left : source.before ≡ Some bytes) where
  -- the bytes that were read are those
  all_read : (read : Text) → WasReadWhole source read → read ≡ bytes
  all_read read h = subst (λ o. IfSome o (λ all. read ≡ all)) left h.all

  by_finding : (f : Finding) → Finds source f → IsWritten sink (text_of f) → is_verdict (status_of f) ≡ true → Tells bytes sink (status_of f)
  by_finding finding.ReadFault h written v = cc
  by_finding (finding.BadScript n rule) h written v =
      let same = all_read h.bytes h.read in
      bad refl (subst (λ (b : Text). length b ≤ check_limit) same h.few)
      (no_script bytes (n, rule) (subst (λ (b : Text). FindsIn b (finding.BadScript n rule)) same h.finds))
  by_finding finding.Accepted h written v =
      let same = all_read h.bytes h.read in
      valid refl (subst (λ (b : Text). length b ≤ check_limit) same h.few) (subst (λ (b : Text). FindsIn b finding.Accepted) same h.finds)
  by_finding (finding.Rejected entry rule) (inl h) written v =
      let same = all_read h.bytes h.read in
      invalid refl (subst (λ (b : Text). length b ≤ check_limit) same h.few) entry (number_of rule)
      (subst (λ (b : Text). FindsIn b (finding.Rejected entry rule)) same h.finds) written
  by_finding (finding.Rejected entry rule) (inr h) written v =
      let most = long_front bytes h.read.front source.after (sym h.read.taken ∙ left) in
      let len = h.read.len in
      long refl (omega (arith, most, len))

  tells : (s : Status) → EndsChecked source sink s → is_verdict s ≡ true → Tells bytes sink s
  tells s (whole f h written) v = by_finding f h written v
  tells s (broken f h front) v = cc
  tells s (cut f h front) v = cc
  tells s (nothing h same) v = cc

-- ---- exactly

not_done : {s : Status} → s ≡ status.BadScript → s ≡ status.Done → ⊥
not_done a e = cc

not_bad : {s : Status} → s ≡ status.Done → s ≡ status.BadScript → ⊥
not_bad a e = cc

not_rejected : {s : Status} → s ≡ status.Done → s ≡ status.Rejected → ⊥
not_rejected a e = cc

nor_rejected : {s : Status} → s ≡ status.BadScript → s ≡ status.Rejected → ⊥
nor_rejected a e = cc

script_of_accepted : (bytes : Text) → AreAccepted bytes → HaveScript bytes
script_of_accepted bytes h = record { script = h.script; spelled = h.spelled }

script_of_rejected : (bytes : Text) (entry rule : ℕ) → AreRejected bytes entry rule → HaveScript bytes
script_of_rejected bytes entry rule h = record { script = h.script; spelled = h.spelled }

no_longer : (bytes : Text) → length bytes ≤ check_limit → (AreInvalid bytes → ⊥) → (check_limit < length bytes) ⊎ AreInvalid bytes → ⊥
no_longer bytes few never (inl more) = omega (arith, few, more)
no_longer bytes few never (inr h) = never h

exact : (bytes : Text) (sink : Edge) (s : Status) → Tells bytes sink s → IsExact bytes sink s
exact bytes sink s (bad is few none) =
    record {
      valid = (λ e. absurd (not_done is e), λ h. absurd (none (script_of_accepted bytes h.1)));
      bad_script = (λ e. (few, none), λ h. is);
      rejected = (λ e. absurd (nor_rejected is e), λ h. absurd (no_longer bytes few (λ i. none i.script) h));
      named = λ entry rule short h. absurd (none (script_of_rejected bytes entry rule h));
    }
exact bytes sink s (valid is few accepted) =
    record {
      valid = (λ e. (few, accepted), λ h. is);
      bad_script = (λ e. absurd (not_bad is e), λ h. absurd (h.1 (script_of_accepted bytes accepted)));
      rejected = (λ e. absurd (not_rejected is e), λ h. absurd (no_longer bytes few (λ i. i.unaccepted accepted) h));
      named = λ entry rule short h. absurd (never_both bytes entry rule accepted h);
    }
exact bytes sink s (invalid is few entry rule rejected written) =
    record {
      valid = (λ e. absurd (not_rejected e is), λ h. absurd (never_both bytes entry rule h.1 rejected));
      bad_script = (λ e. absurd (nor_rejected e is), λ h. absurd (h.1 (script_of_rejected bytes entry rule rejected)));
      rejected = (
        λ e. inr (record { few = few; script = script_of_rejected bytes entry rule rejected; unaccepted = λ accepted. never_both bytes entry rule accepted rejected }),
        λ h. is,
      );
      named = λ n r short h.
          (let same = once bytes entry rule n r rejected h in
          subst (λ (t : Text). IsWritten sink t) (ap (λ x. rejected_text x rule) same.0 ∙ ap (rejected_text n) same.1) written);
    }
exact bytes sink s (long is more) =
    record {
      valid = (λ e. absurd (not_rejected e is), λ h. (let few = h.0 in absurd (omega (arith, few, more))));
      bad_script = (λ e. absurd (nor_rejected e is), λ h. (let few = h.0 in absurd (omega (arith, few, more))));
      rejected = (λ e. inl more, λ h. is);
      named = λ n r few h. absurd (omega (arith, few, more));
    }

pub verdicts_are_exact : VerdictsAreExact
verdicts_are_exact source sink s bytes left ends v = exact bytes sink s (tells source sink bytes left s ends v)

-- ---- a script and a report of it

are_accepted : (bytes : Text) → AreScriptAndReport bytes → AreAccepted bytes
are_accepted bytes h =
    let cut = scripts_are_cut_off h.script_bytes (report h.script h.journal) h.script h.spelled in
    subst AreAccepted (sym h.are)
    (record {
      script = h.script;
      spelled = subst (λ (b : Text). IsScript b h.script) (sym cut.0) h.spelled;
      accepted = cut_reports_are_accepted h.script_bytes h.script h.journal h.spelled h.legal h.complete;
    })

pub reports_are_valid : ReportsAreValid
reports_are_valid source sink s bytes left ends v few h = (verdicts_are_exact source sink s bytes left ends v).valid.1 (few, are_accepted bytes h)
