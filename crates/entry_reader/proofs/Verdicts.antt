-- What a report that was read tells of the verdict on it.
use Rattle.std.proofs.Common.{◌≡◌, ℕ, suc, ◌+◌, ◌≤◌, List, [], ◌∷◌, ◌++◌, length, drop, refl, ap, sym, subst, ◌∙◌, arith, append_assoc, length-append}
use Rattle.journal_model.specs.declared.script.Script.{Script}
use Rattle.journal_model.specs.declared.entry.Entry.{Entry}
use Rattle.journal_model.specs.scripts.Words.{Text}
use Rattle.journal_model.specs.scripts.Cut.{lines_of}
use Rattle.journal_model.specs.rules.Legal.{IsLegal}
use Rattle.journal_model.specs.reports.Verdict.{AreEntryTexts, HasHead, IsEntryText, IsRejected, IsRightTo, TellsNext, no_entry}
use Rattle.entry_reader.specs.Parsing.{HasEntries, IsCut}

append_same : (a b x y : List Text) → length a ≡ length b → a ++ x ≡ b ++ y → x ≡ y
append_same [] [] x y e h = h
append_same [] (u ∷ b) x y e h = absurd (omega (arith, e))
append_same (t ∷ a) [] x y e h = absurd (omega (arith, e))
append_same (t ∷ a) (u ∷ b) x y e h = let rest : a ++ x ≡ b ++ y = cc in append_same a b x y (omega (arith, e)) rest

behind_two : (t u : Text) (a b : List Text) → t ∷ u ∷ a ≡ t ∷ u ∷ b → a ≡ b
behind_two t u a b h = cc

same_length : (script : Script) (n : ℕ) (texts : List Text) (es : List Entry) → AreEntryTexts script n texts es → length texts ≡ length es
same_length script n [] [] h = refl
same_length script n [] (e ∷ es) h = absurd h
same_length script n (t ∷ texts) [] h = absurd h
same_length script n (t ∷ texts) (e ∷ es) h = ap suc (same_length script (n + 1) texts es h.1)

-- the texts of the first entries, and of the others
texts_apart : (script : Script) (n : ℕ) (texts : List Text) (es more : List Entry) → AreEntryTexts script n texts (es ++ more)
    → (front : List Text) × (back : List Text) × (texts ≡ front ++ back) × AreEntryTexts script n front es × AreEntryTexts script (n + length es) back more
texts_apart script n texts [] more h =
    let same : n ≡ n + 0 = omega arith in ([], texts, refl, tt, subst (λ m. AreEntryTexts script m texts more) same h)
texts_apart script n [] (e ∷ es) more h = absurd h
texts_apart script n (t ∷ texts) (e ∷ es) more h =
    let rest = texts_apart script (n + 1) texts es more h.1 in
    let same : (n + 1) + length es ≡ n + length (e ∷ es) = omega arith in
    (t ∷ rest.0, rest.1, ap (λ ts. t ∷ ts) rest.2, (h.0, rest.3), subst (λ m. AreEntryTexts script m rest.1 more) same rest.4)

next_of : (script : Script) (n : ℕ) (back : List Text) (e : Entry) (more : List Entry) → AreEntryTexts script n back (e ∷ more)
    → (t : Text) × (ts : List Text) × (back ≡ t ∷ ts) × IsEntryText script n t e
next_of script n [] e more h = absurd h
next_of script n (t ∷ ts) e more h = (t, ts, refl, h.0)

-- an entry that was read is told after the legal ones before it
pub tells_next : (script : Script) (text : Text) (count rest : ℕ) (es : List Entry) (e : Entry) (more : List Entry)
    → HasEntries script text count rest (es ++ e ∷ more) → length (es ++ e ∷ more) ≤ count → IsLegal script es → TellsNext script text count es e
tells_next script text count rest es e more h within legal =
    let parts = texts_apart script 1 h.right es (e ∷ more) h.texts in
    let next = next_of script (1 + length es) parts.1 e more parts.4 in
    let others = lines_of (drop rest text) in
    let lines : h.right ++ others ≡ parts.0 ++ (next.0 ∷ (next.1 ++ others)) =
    ap (λ ts. ts ++ others) (parts.2 ∙ ap (λ ts. parts.0 ++ ts) next.2) ∙ append_assoc parts.0 (next.0 ∷ next.1) others in
    let len = length-append es (e ∷ more) in
    let n : 1 + length es ≡ length es + 1 = omega arith in
    record {
      next_line = next.0;
      behind = next.1 ++ others;
      right = record {
        right = parts.0;
        head = subst (λ (ls : List Text). HasHead script text count ls) lines h.head;
        within = omega (arith, within, len);
        entries = parts.3;
        legal = legal;
      };
      counted = omega (arith, within, len);
      entry = subst (λ m. IsEntryText script m next.0 e) n next.3;
    }

-- all that were read, where they are legal
pub right_to : (script : Script) (text : Text) (count rest : ℕ) (es : List Entry) → HasEntries script text count rest es → length es ≤ count → IsLegal script es
    → IsRightTo script text count es (lines_of (drop rest text))
right_to script text count rest es h within legal = record { right = h.right; head = h.head; within = within; entries = h.texts; legal = legal }

none_next : (script : Script) (text : Text) (rest : ℕ) (es : List Entry) (h : IsCut script text rest es) (e : Entry) → TellsNext script text h.count es e → ⊥
none_next script text rest es h e t =
    let len = same_length script 1 t.right.right es t.right.entries ∙ sym (same_length script 1 h.told.right es h.told.texts) in
    let lines = behind_two _ _ (t.right.right ++ t.next_line ∷ t.behind) (h.told.right ++ lines_of (drop rest text)) (sym t.right.head.lines ∙ h.told.head.lines) in
    h.no_entry t.next_line t.behind e (sym (append_same t.right.right h.told.right (t.next_line ∷ t.behind) (lines_of (drop rest text)) len lines)) t.entry

-- a legal journal that is cut is rejected at the next entry
pub cut_rejects : (script : Script) (text : Text) (rest : ℕ) (es : List Entry) → IsCut script text rest es → IsLegal script es → IsRejected script text (length es + 1) 2
cut_rejects script text rest es h legal =
    let counted = h.counted in
    no_entry h.count es (lines_of (drop rest text)) (right_to script text h.count rest es h.told (omega (arith, counted)) legal) h.counted (none_next script text rest es h)
