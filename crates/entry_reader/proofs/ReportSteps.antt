-- Reading a report line by line.
use Rattle.std.proofs.Common.{◌≡◌, ℕ, ◌+◌, ◌<◌, ◌≤◌, List, [], ◌∷◌, ◌++◌, length, take, drop, refl, ap, sym, subst, ◌∙◌, arith, append_assoc, drop-drop, length-drop, length-take}
use Rattle.std.specs.Prelude.{decimal, flat_map}
use Rattle.std.specs.List.{enumerate_from}
use Rattle.std.proofs.lemmas.List.{append-nil, take-append-drop}
use Rattle.std.proofs.lemmas.List.Concat.{flat_map-cons}
use Rattle.std.proofs.lemmas.Grind.{flat_map-append}
use Rattle.journal_model.specs.declared.script.Script.{Script}
use Rattle.journal_model.specs.declared.entry.Entry.{Entry}
use Rattle.journal_model.specs.scripts.Words.{Text, actor_word, spaced}
use Rattle.journal_model.specs.reports.EntryText.{entry_line, kind_words}
use Rattle.journal_model.specs.scripts.Cut.{lines_of}
use Rattle.journal_model.specs.reports.Verdict.{AreEntryTexts, HasHead, IsEntryText}
use Rattle.script_words.specs.Lines.{line_len}
use Rattle.entry_reader.specs.Parsing.{HasEntries, IsCut, IsHead, IsWhole, head_text, text_to}
use Rattle.entry_reader.proofs.HeadTold.{first_is, first_length, first_line, line_len_within}

-- no entry yet
pub no_entries : (script : Script) (text : Text) (count len : ℕ) → IsHead script text count len → HasEntries script text count len []
no_entries script text count len h = record {
  right = [];
  head = h.lines;
  texts = tt;
  bytes = h.bytes ∙ ap (λ t. t ++ drop len text) (sym (append-nil (head_text script count)));
}

texts_more : (script : Script) (n : ℕ) (texts : List Text) (es : List Entry) (t : Text) (e : Entry) → AreEntryTexts script n texts es → IsEntryText script (n + length es) t e
    → AreEntryTexts script n (texts ++ t ∷ []) (es ++ e ∷ [])
texts_more script n [] [] t e h k = (let same : n + 0 ≡ n = omega arith in subst (λ m. IsEntryText script m t e) same k, tt)
texts_more script n [] (x ∷ es) t e h k = absurd h
texts_more script n (u ∷ texts) [] t e h k = absurd h
texts_more script n (u ∷ texts) (x ∷ es) t e h k =
    let same : n + length (x ∷ es) ≡ (n + 1) + length es = omega arith in
    (h.0, texts_more script (n + 1) texts es t e h.1 (subst (λ m. IsEntryText script m t e) same k))

numbered_more : {X : Type 0} (n : ℕ) (xs : List X) (x : X) → enumerate_from n (xs ++ x ∷ []) ≡ enumerate_from n xs ++ (n + length xs, x) ∷ []
numbered_more {X = X} n [] x = let same : n ≡ n + 0 = omega arith in ap (λ (m : ℕ). (let p : ℕ × X = (m, x) in p ∷ [])) same
numbered_more {X = X} n (y ∷ xs) x =
    let same : (n + 1) + length xs ≡ n + length (y ∷ xs) = omega arith in
    let first : ℕ × X = (n, y) in
    ap (λ es. first ∷ es) (numbered_more (n + 1) xs x ∙ ap (λ (m : ℕ). (let p : ℕ × X = (m, x) in enumerate_from (n + 1) xs ++ p ∷ [])) same)

text_more : (script : Script) (count : ℕ) (es : List Entry) (e : Entry) → text_to script count (es ++ e ∷ []) ≡ text_to script count es ++ entry_line script (1 + length es, e)
text_more script count es e =
    ap (λ xs. head_text script count ++ flat_map (entry_line script) xs) (numbered_more 1 es e)
    ∙ ap (λ t. head_text script count ++ t) (flat_map-append (entry_line script) (enumerate_from 1 es) ((1 + length es, e) ∷ [])
    ∙ ap (λ t. flat_map (entry_line script) (enumerate_from 1 es) ++ t) (flat_map-cons (entry_line script) (1 + length es, e) [] ∙ append-nil (entry_line script (1 + length es, e))))
    ∙ sym (append_assoc (head_text script count) (flat_map (entry_line script) (enumerate_from 1 es)) (entry_line script (1 + length es, e)))

some_text : (t : Text) → 0 < length (t ++ 10 ∷ [])
some_text [] = omega arith
some_text (c ∷ t) = omega arith

-- an entry's line isn't empty
line_there : (script : Script) (n : ℕ) (text : Text) (len : ℕ) (e : Entry) → IsEntryText script n (take len text) e → 0 < length text
line_there script n text len e k =
    let some = some_text (spaced (decimal n ∷ actor_word e.who ∷ kind_words script e.kind)) in
    omega (arith, ap length k.says, length-take len text, some)

-- one entry more
pub entry_more : (script : Script) (text : Text) (count rest len : ℕ) (es : List Entry) (e : Entry) → len ≡ line_len (drop rest text)
    → HasEntries script text count rest es → IsEntryText script (length es + 1) (take len (drop rest text)) e → HasEntries script text count (rest + len) (es ++ e ∷ [])
entry_more script text count rest len es e p h k =
    let behind = drop rest text in
    let here = take len behind in
    let next : drop len behind ≡ drop (rest + len) text = drop-drop len rest text in
    let some : 0 < length behind = line_there script (length es + 1) behind len e k in
    let lines : lines_of behind ≡ here ∷ lines_of (drop len behind) = subst (λ m. lines_of behind ≡ take m behind ∷ lines_of (drop m behind)) (sym p) (first_line behind some) in
    let right : h.right ++ lines_of behind ≡ (h.right ++ here ∷ []) ++ lines_of (drop (rest + len) text) =
    ap (λ ls. h.right ++ ls) (lines ∙ ap (λ t. here ∷ lines_of t) next) ∙ sym (append_assoc h.right (here ∷ []) (lines_of (drop (rest + len) text))) in
    let n : length es + 1 ≡ 1 + length es = omega arith in
    let at : IsEntryText script (1 + length es) here e = subst (λ m. IsEntryText script m here e) n k in
    record {
      right = h.right ++ here ∷ [];
      head = subst (λ (ls : List Text). HasHead script text count ls) right h.head;
      texts = texts_more script 1 h.right es here e h.texts at;
      bytes = h.bytes ∙ ap (λ t. text_to script count es ++ t) (sym (take-append-drop len behind) ∙ ap (λ t. t ++ drop len behind) at.says ∙ ap (λ t. entry_line script (1 + length es, e) ++ t) next)
          ∙ sym (append_assoc (text_to script count es) (entry_line script (1 + length es, e)) (drop (rest + len) text))
          ∙ ap (λ t. t ++ drop (rest + len) text) (sym (text_more script count es e));
    }

-- the line after them is the text of no entry
pub cut_here : (script : Script) (text : Text) (count rest len : ℕ) (es : List Entry) → len ≡ line_len (drop rest text) → length es < count
    → HasEntries script text count rest es → ((e : Entry) → IsEntryText script (length es + 1) (take len (drop rest text)) e → ⊥) → IsCut script text rest es
cut_here script text count rest len es p less h none = record {
  count = count;
  told = h;
  counted = less;
  no_entry = λ first behind e lines k.
      (let one = first_is (drop rest text) first behind lines in
      let same : first ≡ take len (drop rest text) = sym one.0 ∙ ap (λ m. take m (drop rest text)) (sym p) in
      none e (subst (λ (t : Text). IsEntryText script (length es + 1) t e) same k));
}

-- all that are counted
pub whole_here : (script : Script) (text : Text) (count rest : ℕ) (es : List Entry) → length es ≡ count → HasEntries script text count rest es → IsWhole script text rest es
whole_here script text count rest es e h = record { told = subst (λ n. HasEntries script text n rest es) (sym e) h }

-- ---- as the line is found

pub line_fits : (text after line : Text) (rest len : ℕ) → rest ≤ length text → after ≡ drop rest text → len ≡ length line → line ≡ take (line_len after) after → rest + len ≤ length text
line_fits text after line rest len h q p e =
    let f = first_length after line len p e in
    let w = line_len_within after in
    omega (arith, h, f.0, w, ap length q, length-drop rest text)

pub entry_found : (script : Script) (text after line : Text) (count rest len : ℕ) (es : List Entry) (e : Entry) → after ≡ drop rest text → len ≡ length line
    → line ≡ take (line_len after) after → HasEntries script text count rest es → IsEntryText script (length es + 1) line e → HasEntries script text count (rest + len) (es ++ e ∷ [])
entry_found script text after line count rest len es e q p l h k =
    let f = first_length after line len p l in
    let same : line ≡ take len (drop rest text) = f.1 ∙ ap (take len) q in
    entry_more script text count rest len es e (f.0 ∙ ap line_len q) h (subst (λ (t : Text). IsEntryText script (length es + 1) t e) same k)

pub entry_missing : (script : Script) (text after line : Text) (count rest : ℕ) (es : List Entry) → after ≡ drop rest text → line ≡ take (line_len after) after → length es < count
    → HasEntries script text count rest es → ((e : Entry) → IsEntryText script (length es + 1) line e → ⊥) → IsCut script text rest es
entry_missing script text after line count rest es q l less h none =
    let f = first_length after line (length line) refl l in
    let same : line ≡ take (length line) (drop rest text) = f.1 ∙ ap (take (length line)) q in
    cut_here script text count rest (length line) es (f.0 ∙ ap line_len q) less h
    (λ e k. none e (subst (λ (t : Text). IsEntryText script (length es + 1) t e) (sym same) k))
