-- What the lines say is a script with these bytes.
use Rattle.std.proofs.Common.{◌≡◌, ℕ, ◌+◌, Bool, true, false, cond, List, [], ◌∷◌, ◌++◌, Option, Some, None, Result, Ok, Err, refl, sym, ap, subst, ◌∙◌, append_assoc}
use Rattle.std.specs.Prelude.{◌||◌, not, flat_map}
use Rattle.std.specs.List.{list_any}
use Rattle.std.proofs.lemmas.Bool.{false≢true}
use Rattle.std.proofs.lemmas.List.{append-nil}
use Rattle.std.proofs.lemmas.List.Concat.{flat_map-cons}
use Rattle.journal_model.specs.declared.script.Script.{Script}
use Rattle.journal_model.specs.declared.line.Progress.{Progress}
use Rattle.journal_model.specs.declared.line.Phase.{Phase}
use Rattle.journal_model.specs.declared.line.Phase.TheVariants as phase
use Rattle.journal_model.specs.declared.line.Keyword.{Keyword}
use Rattle.journal_model.specs.declared.line.Keyword.TheVariants as key
use Rattle.journal_model.specs.declared.line.Line.{Line}
use Rattle.journal_model.specs.declared.line.Access.TheVariants as access
use Rattle.journal_model.specs.scripts.Words.{Text, line}
use Rattle.journal_model.specs.scripts.Cut.{cut_at}
use Rattle.journal_model.specs.scripts.LineWords.{keyword_of, may_come, parts_of, line_of, is_empty}
use Rattle.journal_model.specs.scripts.LineRules.{rule_broken}
use Rattle.journal_model.specs.scripts.FirstFault.{first_word, with_line, unless_broken, fault_of_parts, after_words, after_line, breaks_text, ends_line, without_end, is_behind_end, script_from}
use Rattle.law_legal.proofs.law_script.WordLaws.{IsWordOf, keyword_is}
use Rattle.law_legal.proofs.law_script.LineLaws.{made, breaks_none, Breaks_none}
use Rattle.law_legal.proofs.law_script.TextLaws.{text_is_line}
use Rattle.law_legal.specs.law_items.Items.{Item}
use Rattle.law_legal.proofs.law_script.CommandSteps.{item_step, plain_tells, write_tells, read_tells, move_tells, touch_tells, submit_tells, not_false}
use Rattle.law_legal.proofs.law_script.MarkSteps.{map_tells, unmap_tells, vmap_tells, vunmap_tells, vsubmit_tells}
use Rattle.law_legal.proofs.law_script.Regions.{regions_at_end}
use Rattle.law_legal.proofs.law_script.BufferSteps.{buffer_step, buffer_says}
use Rattle.law_legal.proofs.law_script.LastSteps.{thread_from_buffers, thread_from_threads, turn_from_buffers, turn_from_threads, turn_from_turns, end_from_buffers, end_from_threads, end_from_turns, few_seats}
use Rattle.law_legal.proofs.law_script.HeadSteps.{at, version_step, vram_step, tt_step, frames_step, swap_step, engines_step}
use Rattle.law_legal.proofs.law_script.Sound.{Sound, text_of, Grows}
use Rattle.law_legal.proofs.law_script.LineRuns.{led}

-- ---- a line

step : {lists : List (List Item)} (ph : Phase) (k : Keyword) (s : Script) (n m : ℕ) (ws : List Text) (l : Line) → may_come s.version ph k ≡ true → IsWordOf (first_word ws) k → parts_of s k ws ≡ made l → Breaks_none (at ph s n m) l → Sound (at ph s n m) lists → Grows (at ph s n m) lists l ws
step phase.Version key.Ttm s n m ws l c w p r h = version_step s n m ws l w p h
step phase.Vram key.Vram s n m ws l c w p r h = vram_step s n m ws l w p r h
step phase.Tt key.Tt s n m ws l c w p r h = tt_step s n m ws l w p r h
step phase.Frames key.Frames s n m ws l c w p r h = frames_step s n m ws l w p r h
step phase.Swap key.Swap s n m ws l c w p r h = swap_step s n m ws l w p r h
step phase.Engines key.Engines s n m ws l c w p r h = engines_step s n m ws l w p r h
step phase.Buffers key.Buffer s n m ws l c w p r h = buffer_step s n m ws l (buffer_says s n m ws l w h.version p r) h
step phase.Buffers key.Thread s n m ws l c w p r h = thread_from_buffers s n m ws l w p r h
step phase.Buffers key.Schedule s n m ws l c w p r h = turn_from_buffers s n m ws l w p r h
step phase.Buffers key.End s n m ws l c w p r h = end_from_buffers s n m ws l w p h
step phase.Threads key.Thread s n m ws l c w p r h = thread_from_threads s n m ws l w p r h
step phase.Threads key.Schedule s n m ws l c w p r h = turn_from_threads s n m ws l w p r h
step phase.Threads key.End s n m ws l c w p r h = end_from_threads s n m ws l w p h
step phase.Threads (key.Plain v) s n m ws l c w p r h = item_step s n m ws l (plain_tells s n m v ws l w p r) h
step phase.Threads (key.Write access.Direct) s n m ws l c w p r h = item_step s n m ws l (write_tells access.Direct s n m ws l tt w p r) h
step phase.Threads (key.Write access.Mapped) s n m ws l c w p r h = item_step s n m ws l (write_tells access.Mapped s n m ws l c w p r) h
step phase.Threads (key.Read access.Direct) s n m ws l c w p r h = item_step s n m ws l (read_tells access.Direct s n m ws l tt w p r) h
step phase.Threads (key.Read access.Mapped) s n m ws l c w p r h = item_step s n m ws l (read_tells access.Mapped s n m ws l c w p r) h
step phase.Threads key.Move s n m ws l c w p r h = item_step s n m ws l (move_tells s n m ws l w p r) h
step phase.Threads key.Touch s n m ws l c w p r h = item_step s n m ws l (touch_tells s n m ws l w p r) h
step phase.Threads key.Submit s n m ws l c w p r h = item_step s n m ws l (submit_tells s n m ws l (few_seats phase.Threads s n m h).1 w p r) h
step phase.Threads key.Map s n m ws l c w p r h = item_step s n m ws l (map_tells s n m ws l c w p r) h
step phase.Threads key.Unmap s n m ws l c w p r h = item_step s n m ws l (unmap_tells s n m ws l c w p r) h
step phase.Threads key.Vmap s n m ws l c w p r h = item_step s n m ws l (vmap_tells s n m ws l c w p r) h
step phase.Threads key.Vunmap s n m ws l c w p r h = item_step s n m ws l (vunmap_tells s n m ws l c w p r) h
step {lists = lists} phase.Threads key.Vsubmit s n m ws l c w p r h =
    item_step s n m ws l (vsubmit_tells s n m ws l c (few_seats phase.Threads s n m h).1 h.decls (regions_at_end s lists h.comes h.marks) w p r) h
step phase.Turns key.Schedule s n m ws l c w p r h = turn_from_turns s n m ws l w p r h
step phase.Turns key.End s n m ws l c w p r h = end_from_turns s n m ws l w p h
step _ _ s n m ws l c w p r h = absurd (false≢true c)

-- the lines so far grow by a text
pub record Longer (p : Progress) (lists : List (List Item)) (q : Progress) (text : Text) : Type 0 where
  pub next : List (List Item)
  pub sound : Sound q next
  pub more : text_of q next ≡ text_of p lists ++ text

no_rule : (o : Option ℕ) (p q : Progress) → unless_broken o p ≡ Ok q → (o ≡ None) × (p ≡ q)
no_rule None p q h = (refl, cc)
no_rule (Some rule) p q h = absurd cc

from_parts : (p : Progress) (lists : List (List Item)) (q : Progress) (ws : List Text) (o : Option Line) → ((l : Line) → o ≡ made l → Breaks_none p l → Grows p lists l ws) → fault_of_parts p o ≡ Ok q → Longer p lists q (line ws)
from_parts p lists q ws None grow h = absurd cc
from_parts p lists q ws (Some l) grow h =
    let r = no_rule (rule_broken p l) (with_line p l) q h in
    let g = grow l refl (breaks_none p l r.0) in
    subst (λ (x : Progress). Longer p lists x (line ws)) r.1 (record { next = g.next; sound = g.sound; more = g.more })

unless : (b : Bool) (o : Option Line) (l : Line) → cond b None o ≡ made l → o ≡ made l
unless true o l h = absurd cc
unless false o l h = h

may : (b : Bool) (p q : Progress) (r : Result Progress ℕ) → cond (not b) (Err 3) r ≡ Ok q → (b ≡ true) × (r ≡ Ok q)
may true p q r h = (refl, h)
may false p q r h = absurd cc

words_grow : (p : Progress) (lists : List (List Item)) (q : Progress) (ws : List Text) → Sound p lists → after_words p ws ≡ Ok q → Longer p lists q (line ws)
words_grow p lists q ws h e =
    let k = keyword_of (first_word ws) in
    let c = may (may_come p.script.version p.phase k) p q (fault_of_parts p (line_of p.script k ws)) e in
    from_parts p lists q ws (line_of p.script k ws) (λ l o r. step p.phase k p.script p.lines p.lens ws l c.0 (keyword_is (first_word ws)) (unless (list_any is_empty ws) (parts_of p.script k ws) l o) r h) c.1

not_broken : (b : Bool) (q : Progress) (r : Result Progress ℕ) → cond b (Err 2) r ≡ Ok q → (b ≡ false) × (r ≡ Ok q)
not_broken true q r h = absurd cc
not_broken false q r h = (refl, h)

first_of : (a b c : Bool) → (a || b || c) ≡ false → a ≡ false
first_of true b c h = absurd cc
first_of false b c h = refl

ends : (text : Text) → breaks_text text ≡ false → ends_line text ≡ true
ends text h = not_false (ends_line text) (first_of (not (ends_line text)) _ _ h)

line_grows : (p : Progress) (lists : List (List Item)) (q : Progress) (text : Text) → Sound p lists → after_line p text ≡ Ok q → Longer p lists q text
line_grows p lists q text h e =
    let b = not_broken (breaks_text text) q (after_words p (cut_at 32 (without_end text))) e in
    subst (λ (x : Text). Longer p lists q x) (sym (text_is_line text (ends text b.0))) (words_grow p lists q (cut_at 32 (without_end text)) h b.1)

-- ---- all lines

-- texts joined
abbrev pub all_of : List Text → Text
all_of texts = flat_map (λ t. t) texts

-- where all lines lead
pub record Ends (p : Progress) (lists : List (List Item)) (texts : List Text) (s : Script) : Type 0 where
  pub q : Progress
  pub last : List (List Item)
  pub sound : Sound q last
  pub over : is_behind_end q.phase ≡ true
  pub is : q.script ≡ s
  pub more : text_of q last ≡ text_of p lists ++ all_of texts

over_is : (b : Bool) (x s : Script) (n : ℕ) → (let r : Result Script (ℕ × ℕ) = cond b (Ok x) (Err (n + 1, 3)) in r ≡ Ok s) → (b ≡ true) × (x ≡ s)
over_is true x s n h = (refl, cc)
over_is false x s n h = absurd cc

goes : (a : Result Progress ℕ) (p : Progress) (lists : List (List Item)) (n : ℕ) (text : Text) (texts : List Text) (s : Script) → Sound p lists → after_line p text ≡ a
    → ((next : Progress) (more : List (List Item)) → Sound next more → script_from next (n + 1) texts ≡ Ok s → Ends next more texts s) → led a n texts ≡ Ok s → Ends p lists (text ∷ texts) s
goes (Err rule) p lists n text texts s h e rest r = absurd cc
goes (Ok next) p lists n text texts s h e rest r =
    let g = line_grows p lists next text h e in
    let z = rest next g.next g.sound r in
    record {
      q = z.q;
      last = z.last;
      sound = z.sound;
      over = z.over;
      is = z.is;
      more = z.more ∙ ap (λ t. t ++ all_of texts) g.more ∙ append_assoc (text_of p lists) text (all_of texts) ∙ ap (λ t. text_of p lists ++ t) (sym (flat_map-cons (λ t. t) text texts));
    }

-- lines that say a script lead to it
pub runs : (texts : List Text) (p : Progress) (lists : List (List Item)) (n : ℕ) (s : Script) → Sound p lists → script_from p n texts ≡ Ok s → Ends p lists texts s
runs [] p lists n s h r =
    let o = over_is (is_behind_end p.phase) p.script s n r in
    record { q = p; last = lists; sound = h; over = o.0; is = o.1; more = sym (append-nil (text_of p lists)) }
runs (text ∷ texts) p lists n s h r = goes (after_line p text) p lists n text texts s h refl (λ next more g e. runs texts next more (n + 1) s g e) r
