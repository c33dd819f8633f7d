-- The lines of the head.
use Rattle.std.proofs.Common.{◌≡◌, ℕ, ◌<◌, ◌≤◌, ◌^◌, Bool, true, false, cond, List, [], ◌∷◌, ◌++◌, Option, Some, None, refl, sym, ap, subst, ◌∙◌, arith, bytes_eq, inl, inr}
use Rattle.std.specs.Prelude.{◌&&◌, codes, decimal, is_none, flat_map, nat_le}
use Rattle.std.specs.Fmt.{digits}
use Rattle.std.specs.List.{list_all}
use Rattle.std.proofs.lemmas.List.{append-nil}
use Rattle.journal_model.specs.declared.script.Script.{Script}
use Rattle.journal_model.specs.declared.script.Sizes.{Sizes}
use Rattle.journal_model.specs.declared.line.Progress.{Progress}
use Rattle.journal_model.specs.declared.line.Phase.{Phase}
use Rattle.journal_model.specs.declared.line.Phase.TheVariants as phase
use Rattle.journal_model.specs.declared.line.Line.{Line}
use Rattle.journal_model.specs.declared.line.Line.TheVariants as says
use Rattle.journal_model.specs.scripts.Words.{Text, line}
use Rattle.journal_model.specs.scripts.Spelling.{buffer_line, turn_line}
use Rattle.journal_model.specs.scripts.ScriptRules.{has_sizes, is_decl, is_turn_line}
use Rattle.journal_model.specs.scripts.CommandRules.{is_between}
use Rattle.journal_model.specs.scripts.Reading.{number_in}
use Rattle.journal_model.specs.scripts.LineWords.{size_line, version_line, vram_line}
use Rattle.journal_model.specs.scripts.FirstFault.{or_zero, first_word, with_line, with_sizes}
use Rattle.law_legal.proofs.law_script.NumberLaws.{number_takes}
use Rattle.law_legal.proofs.law_script.WordLaws.{bytes_are}
use Rattle.law_legal.proofs.law_script.LineLaws.{made, Breaks_none}
use Rattle.law_legal.proofs.law_script.KindLaws.{version_said}
use Rattle.law_legal.specs.law_items.Items.{Item, items_text, items_fit}
use Rattle.law_legal.proofs.law_items.ListFacts.{all_nil}
use Rattle.law_legal.proofs.law_items.Puts.{no_lists}
use Rattle.law_legal.proofs.law_script.Sound.{frame, seats, six, is_asked, IsEarly, Stage, Sound, text_of, Grows}
use Rattle.law_legal.proofs.law_items.Tests.{is_le}

-- ---- a size

-- an option with a value
pub there : {X : Type 0} (o : Option X) (f : Option X → X) → ((x : X) → f (Some x) ≡ x) → is_none o ≡ false → o ≡ Some (f o)
there None f s h = absurd cc
there (Some x) f s h = ap (λ y. Some y) (sym (s x))

-- a number that is there is spelled so, and in its range
pub number_there : (low high : ℕ) (w : Text) → high < 2 ^ 64 → is_none (number_in low high w) ≡ false
    → (w ≡ decimal (or_zero (number_in low high w))) × (low ≤ or_zero (number_in low high w)) × (or_zero (number_in low high w) ≤ high)
number_there low high w small h = number_takes low high w (or_zero (number_in low high w)) small (there (number_in low high w) or_zero (λ x. refl) h)

-- a line of a keyword and a number
pub record IsSize (sized : Option ℕ → Line) (high : ℕ) (word : Text) (ws : List Text) (l : Line) : Type 0 where
  pub n : Option ℕ
  pub is : sized n ≡ l
  pub good : is_none n ≡ false → (ws ≡ word ∷ decimal (or_zero n) ∷ []) × (or_zero n ≤ high)

size_says : (sized : Option ℕ → Line) (high : ℕ) (word : Text) (ws : List Text) (l : Line) → high < 2 ^ 64 → first_word ws ≡ word → size_line sized high ws ≡ made l → IsSize sized high word ws l
size_says sized high word [] l small k h = absurd cc
size_says sized high word (w ∷ []) l small k h = absurd cc
size_says sized high word (w ∷ size ∷ []) l small k h = record {
  n = number_in 0 high size;
  is = cc;
  good = λ r. let t = number_there 0 high size small r in (ap (λ v. v ∷ size ∷ []) k ∙ ap (λ v. word ∷ v ∷ []) t.0, t.2);
}
size_says sized high word (w ∷ size ∷ x ∷ xs) l small k h = absurd cc

-- ---- sizes

-- the limits of the sizes, each for itself
pub record SizesFit (s : Sizes) : Type 0 where
  pub vram : nat_le s.vram 16384 ≡ true
  pub tt_pages : nat_le s.tt 16384 ≡ true
  pub frames : nat_le s.frames 16384 ≡ true
  pub swap : nat_le s.swap 32768 ≡ true
  pub engines : nat_le s.engines 8 ≡ true

five : (a b c d e : Bool) → (a && b && c && d && e) ≡ true → (a ≡ true) × (b ≡ true) × (c ≡ true) × (d ≡ true) × (e ≡ true)
five true true true true true h = (refl, refl, refl, refl, refl)
five false b c d e h = absurd cc
five true false c d e h = absurd cc
five true true false d e h = absurd cc
five true true true false e h = absurd cc
five true true true true false h = absurd cc

five_joint : (a b c d e : Bool) → a ≡ true → b ≡ true → c ≡ true → d ≡ true → e ≡ true → (a && b && c && d && e) ≡ true
five_joint true true true true true p q r s t = refl
five_joint false b c d e p q r s t = absurd cc
five_joint true false c d e p q r s t = absurd cc
five_joint true true false d e p q r s t = absurd cc
five_joint true true true false e p q r s t = absurd cc
five_joint true true true true false p q r s t = absurd cc

-- the sizes of a script are within their limits
pub sizes_fit : (s : Script) → has_sizes s ≡ true → SizesFit s.sizes
sizes_fit s h =
    let f = five (nat_le s.sizes.vram 16384) (nat_le s.sizes.tt 16384) (nat_le s.sizes.frames 16384) (nat_le s.sizes.swap 32768) (nat_le s.sizes.engines 8) h in
    record { vram = f.0; tt_pages = f.1; frames = f.2; swap = f.3; engines = f.4 }

-- and the other way round
pub fit_sizes : (s : Script) → SizesFit s.sizes → has_sizes s ≡ true
fit_sizes s f =
    five_joint (nat_le s.sizes.vram 16384) (nat_le s.sizes.tt 16384) (nat_le s.sizes.frames 16384) (nat_le s.sizes.swap 32768) (nat_le s.sizes.engines 8) f.vram f.tt_pages f.frames f.swap f.engines

-- other sizes, where nothing else has come
sized : {lists : List (List Item)} (p : Progress) (next : Phase) (sizes : Sizes) → Sound p lists → IsEarly p.script → SizesFit sizes → Stage next (with_sizes p next sizes).script → Sound (with_sizes p next sizes) lists
sized {lists = lists} p next sizes h early fit stage =
    let none = no_lists p.script lists h.comes early.threads in record {
      version = h.version;
      sizes = fit_sizes (with_sizes p next sizes).script fit;
      few_buffers = h.few_buffers;
      decls = h.decls;
      names = h.names;
      comes = record { threads = h.comes.threads; marks = h.comes.marks };
      few_threads = h.few_threads;
      commands = all_nil (list_all (is_asked (frame (with_sizes p next sizes).script))) lists none;
      few_lines = h.few_lines;
      lines = h.lines;
      lens = h.lens;
      short = h.short;
      marks = all_nil (items_fit (frame (with_sizes p next sizes).script)) lists none;
      turns = all_nil (is_turn_line (seats (with_sizes p next sizes).script)) p.script.turns early.turns;
      stage = stage;
    }

-- ---- the lines

-- the lines so far, by their parts
abbrev pub at : Phase → Script → ℕ → ℕ → Progress
at ph s n m = record { phase = ph; script = s; lines = n; lens = m }

-- the line of TT
pub tt_step : {lists : List (List Item)} (s : Script) (n m : ℕ) (ws : List Text) (l : Line) → first_word ws ≡ codes "tt" → size_line says.Tt 16384 ws ≡ made l → Breaks_none (at phase.Tt s n m) l → Sound (at phase.Tt s n m) lists → Grows (at phase.Tt s n m) lists l ws
tt_step {lists = lists} s n m ws l k e r h =
    let p = at phase.Tt s n m in
    let z = size_says says.Tt 16384 (codes "tt") ws l (omega arith) k e in
    subst (λ (x : Line). Breaks_none p x → Grows p lists x ws) z.is (λ b.
    let g = z.good b.numbers in
    let f = sizes_fit s h.sizes in
    record {
      next = lists;
      sound = sized p phase.Frames (record (s.sizes) { tt = or_zero z.n }) h h.stage (record { vram = f.vram; tt_pages = is_le (or_zero z.n) 16384 g.1; frames = f.frames; swap = f.swap; engines = f.engines }) (record { buffers = h.stage.buffers; threads = h.stage.threads; turns = h.stage.turns });
      more = ap (λ x. text_of p lists ++ line x) (sym g.0);
    }) r

-- the line of the frames
pub frames_step : {lists : List (List Item)} (s : Script) (n m : ℕ) (ws : List Text) (l : Line) → first_word ws ≡ codes "frames" → size_line says.Frames 16384 ws ≡ made l → Breaks_none (at phase.Frames s n m) l → Sound (at phase.Frames s n m) lists → Grows (at phase.Frames s n m) lists l ws
frames_step {lists = lists} s n m ws l k e r h =
    let p = at phase.Frames s n m in
    let z = size_says says.Frames 16384 (codes "frames") ws l (omega arith) k e in
    subst (λ (x : Line). Breaks_none p x → Grows p lists x ws) z.is (λ b.
    let g = z.good b.numbers in
    let f = sizes_fit s h.sizes in
    record {
      next = lists;
      sound = sized p phase.Swap (record (s.sizes) { frames = or_zero z.n }) h h.stage (record { vram = f.vram; tt_pages = f.tt_pages; frames = is_le (or_zero z.n) 16384 g.1; swap = f.swap; engines = f.engines }) (record { buffers = h.stage.buffers; threads = h.stage.threads; turns = h.stage.turns });
      more = ap (λ x. text_of p lists ++ line x) (sym g.0);
    }) r

-- the line of the slots
pub swap_step : {lists : List (List Item)} (s : Script) (n m : ℕ) (ws : List Text) (l : Line) → first_word ws ≡ codes "swap" → size_line says.Swap 32768 ws ≡ made l → Breaks_none (at phase.Swap s n m) l → Sound (at phase.Swap s n m) lists → Grows (at phase.Swap s n m) lists l ws
swap_step {lists = lists} s n m ws l k e r h =
    let p = at phase.Swap s n m in
    let z = size_says says.Swap 32768 (codes "swap") ws l (omega arith) k e in
    subst (λ (x : Line). Breaks_none p x → Grows p lists x ws) z.is (λ b.
    let g = z.good b.numbers in
    let f = sizes_fit s h.sizes in
    record {
      next = lists;
      sound = sized p phase.Engines (record (s.sizes) { swap = or_zero z.n }) h h.stage (record { vram = f.vram; tt_pages = f.tt_pages; frames = f.frames; swap = is_le (or_zero z.n) 32768 g.1; engines = f.engines }) (record { buffers = h.stage.buffers; threads = h.stage.threads; turns = h.stage.turns });
      more = ap (λ x. text_of p lists ++ line x) (sym g.0);
    }) r

-- nothing follows the head yet
bare_body : {A B C : Type 0} (t : Text) (f : A → Text) (g : B → Text) (k : C → Text) (xs : List A) (bs : List B) (cs : List C) → xs ≡ [] → bs ≡ [] → cs ≡ []
    → t ++ flat_map f xs ++ flat_map g bs ++ flat_map k cs ≡ t
bare_body t f g k [] [] [] p q r = append-nil _ ∙ append-nil _ ∙ append-nil t
bare_body t f g k (a ∷ xs) bs cs p q r = absurd cc
bare_body t f g k [] (b ∷ bs) cs p q r = absurd cc
bare_body t f g k [] [] (c ∷ cs) p q r = absurd cc

-- the line of the engines
pub engines_step : {lists : List (List Item)} (s : Script) (n m : ℕ) (ws : List Text) (l : Line) → first_word ws ≡ codes "engines" → size_line says.Engines 8 ws ≡ made l → Breaks_none (at phase.Engines s n m) l → Sound (at phase.Engines s n m) lists → Grows (at phase.Engines s n m) lists l ws
engines_step {lists = lists} s n m ws l k e r h =
    let p = at phase.Engines s n m in
    let z = size_says says.Engines 8 (codes "engines") ws l (omega arith) k e in
    subst (λ (x : Line). Breaks_none p x → Grows p lists x ws) z.is (λ b.
    let g = z.good b.numbers in
    let f = sizes_fit s h.sizes in
    let t = with_line p (says.Engines z.n) in
    record {
      next = lists;
      sound = sized p phase.Buffers (record (s.sizes) { engines = or_zero z.n }) h h.stage (record { vram = f.vram; tt_pages = f.tt_pages; frames = f.frames; swap = f.swap; engines = is_le (or_zero z.n) 8 g.1 }) (h.stage.threads, h.stage.turns);
      more = bare_body (six t.script) (buffer_line s.version) (items_text (frame t.script)) turn_line s.buffers lists s.turns h.stage.buffers (no_lists s lists h.comes h.stage.threads) h.stage.turns ∙ ap (λ x. text_of p lists ++ line x) (sym g.0);
    }) r

-- ---- the first two lines

-- the first version as a word
pub one : decimal 1 ≡ codes "1"
unfolding digits
one = refl

-- the second version as a word
pub two : decimal 2 ≡ codes "2"
unfolding digits
two = refl

versioned : {lists : List (List Item)} (s : Script) (n m : ℕ) (ws : List Text) (v : ℕ) → is_between 1 2 v ≡ true → ws ≡ codes "ttm" ∷ decimal v ∷ [] → Sound (at phase.Version s n m) lists → Grows (at phase.Version s n m) lists (says.Version v) ws
versioned {lists = lists} s n m ws v between e h = record {
  next = lists;
  sound = record {
    version = between;
    sizes = h.sizes;
    few_buffers = h.few_buffers;
    decls = all_nil (is_decl v) s.buffers h.stage.buffers;
    names = h.names;
    comes = record { threads = h.comes.threads; marks = h.comes.marks };
    few_threads = h.few_threads;
    commands = all_nil (list_all (is_asked (frame (record s { version = v })))) lists (no_lists s lists h.comes h.stage.threads);
    few_lines = h.few_lines;
    lines = h.lines;
    lens = h.lens;
    short = h.short;
    marks = all_nil (items_fit (frame (record s { version = v }))) lists (no_lists s lists h.comes h.stage.threads);
    turns = all_nil (is_turn_line (seats (record s { version = v }))) s.turns h.stage.turns;
    stage = record { buffers = h.stage.buffers; threads = h.stage.threads; turns = h.stage.turns };
  };
  more = ap line (sym e);
}

-- the first line
pub version_step : {lists : List (List Item)} (s : Script) (n m : ℕ) (ws : List Text) (l : Line) → first_word ws ≡ codes "ttm" → version_line ws ≡ made l → Sound (at phase.Version s n m) lists → Grows (at phase.Version s n m) lists l ws
version_step {lists = lists} s n m ws l k e h =
    let p = at phase.Version s n m in
    elim (version_said ws l k e) [
      | inl a ↦ subst (λ (x : Line). Grows p lists x ws) (sym a.1) (versioned s n m ws 1 refl (a.0 ∙ ap (λ t. codes "ttm" ∷ t ∷ []) (sym one)) h)
      | inr a ↦ subst (λ (x : Line). Grows p lists x ws) (sym a.1) (versioned s n m ws 2 refl (a.0 ∙ ap (λ t. codes "ttm" ∷ t ∷ []) (sym two)) h)
    ]

-- the word of a manager
abbrev pub kind_word : Bool → Text
kind_word b = cond b (codes "buddy") (codes "range")

-- a line of VRAM
pub record IsVram (ws : List Text) (l : Line) : Type 0 where
  pub buddy : Bool
  pub n : Option ℕ
  pub is : says.Vram buddy n ≡ l
  pub good : is_none n ≡ false → (ws ≡ codes "vram" ∷ kind_word buddy ∷ decimal (or_zero n) ∷ []) × (or_zero n ≤ 16384)

vram_chosen : (a b : Bool) (w kind size : Text) (l : Line) → w ≡ codes "vram" → (a ≡ true → kind ≡ codes "range") → (b ≡ true → kind ≡ codes "buddy")
    → cond a (made (says.Vram false (number_in 0 16384 size))) (cond b (made (says.Vram true (number_in 0 16384 size))) None) ≡ made l → IsVram (w ∷ kind ∷ size ∷ []) l
vram_chosen true b w kind size l k p q h = record {
  buddy = false;
  n = number_in 0 16384 size;
  is = cc;
  good = λ r. let t = number_there 0 16384 size (omega arith) r in (ap (λ v. v ∷ kind ∷ size ∷ []) k ∙ ap (λ v. codes "vram" ∷ v ∷ size ∷ []) (p refl) ∙ ap (λ v. codes "vram" ∷ codes "range" ∷ v ∷ []) t.0, t.2);
}
vram_chosen false true w kind size l k p q h = record {
  buddy = true;
  n = number_in 0 16384 size;
  is = cc;
  good = λ r. let t = number_there 0 16384 size (omega arith) r in (ap (λ v. v ∷ kind ∷ size ∷ []) k ∙ ap (λ v. codes "vram" ∷ v ∷ size ∷ []) (q refl) ∙ ap (λ v. codes "vram" ∷ codes "buddy" ∷ v ∷ []) t.0, t.2);
}
vram_chosen false false w kind size l k p q h = absurd cc

vram_says : (ws : List Text) (l : Line) → first_word ws ≡ codes "vram" → vram_line ws ≡ made l → IsVram ws l
vram_says [] l k h = absurd cc
vram_says (w ∷ []) l k h = absurd cc
vram_says (w ∷ v ∷ []) l k h = absurd cc
vram_says (w ∷ v ∷ size ∷ []) l k h = vram_chosen (bytes_eq v (codes "range")) (bytes_eq v (codes "buddy")) w v size l k (bytes_are v (codes "range")) (bytes_are v (codes "buddy")) h
vram_says (w ∷ v ∷ size ∷ x ∷ xs) l k h = absurd cc

-- the line of VRAM
pub vram_step : {lists : List (List Item)} (s : Script) (n m : ℕ) (ws : List Text) (l : Line) → first_word ws ≡ codes "vram" → vram_line ws ≡ made l → Breaks_none (at phase.Vram s n m) l → Sound (at phase.Vram s n m) lists → Grows (at phase.Vram s n m) lists l ws
vram_step {lists = lists} s n m ws l k e r h =
    let p = at phase.Vram s n m in
    let z = vram_says ws l k e in
    subst (λ (x : Line). Breaks_none p x → Grows p lists x ws) z.is (λ b.
    let g = z.good b.numbers in
    let f = sizes_fit s h.sizes in
    record {
      next = lists;
      sound = sized p phase.Tt (record (s.sizes) { buddy = z.buddy; vram = or_zero z.n }) h h.stage (record { vram = is_le (or_zero z.n) 16384 g.1; tt_pages = f.tt_pages; frames = f.frames; swap = f.swap; engines = f.engines }) (record { buffers = h.stage.buffers; threads = h.stage.threads; turns = h.stage.turns });
      more = ap (λ x. text_of p lists ++ line x) (sym g.0);
    }) r
