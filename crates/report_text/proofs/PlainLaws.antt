-- Lines without a line feed but the last.
use Rattle.std.proofs.Common.{◌≡◌, ℕ, zero, suc, ◌+◌, ◌/◌, ◌%◌, ◌==◌, Bool, true, false, List, [], ◌∷◌, ◌++◌, IsTrue, refl, sym, ◌∙◌, arith, subst}
use Rattle.std.proofs.lemmas.Bool.{ne_eqb, or_from, or_parts}
use Rattle.std.proofs.lemmas.List.Folds.{list_any-append}
use Rattle.std.specs.Prelude.{cond, codes, decimal, map, slice_get, unwrap_or}
use Rattle.std.specs.Char.{digit_char}
use Rattle.std.specs.Fmt.{digit_glyph, digits, digits_onto}
use Rattle.std.specs.List.{join_with_byte, list_any}
use Rattle.ttm_base.specs.declared.Actor.{Actor}
use Rattle.ttm_base.specs.declared.BufId.{BufId}
use Rattle.ttm_base.specs.declared.Deny.{Deny}
use Rattle.ttm_base.specs.declared.Mem.{Mem}
use Rattle.ttm_base.specs.declared.Span.{Span}
use Rattle.journal_model.specs.declared.entry.Cause.{Cause}
use Rattle.journal_model.specs.declared.entry.CauseRow.{CauseRow}
use Rattle.journal_model.specs.declared.entry.DryWhy.{DryWhy}
use Rattle.journal_model.specs.declared.entry.Entry.{Entry}
use Rattle.journal_model.specs.declared.entry.Kind.{Kind}
use Rattle.journal_model.specs.declared.entry.Left.{Left}
use Rattle.journal_model.specs.declared.entry.Shown.{Shown}
use Rattle.journal_model.specs.declared.entry.Why.{Why}
use Rattle.journal_model.specs.declared.script.Decl.{Decl}
use Rattle.journal_model.specs.declared.script.Script.{Script}
use Rattle.ttm_base.specs.declared.Actor.TheVariants as actor
use Rattle.ttm_base.specs.declared.Deny.TheVariants as deny
use Rattle.ttm_base.specs.declared.Mem.TheVariants as mem
use Rattle.journal_model.specs.declared.entry.Kind.TheVariants as kind
use Rattle.journal_model.specs.declared.entry.Shown.TheVariants as shown
use Rattle.journal_model.specs.declared.entry.Why.TheVariants as why
use Rattle.journal_model.specs.declared.entry.Left.TheVariants as left
use Rattle.journal_model.specs.declared.entry.DryWhy.TheVariants as dry
use Rattle.journal_model.specs.declared.entry.Cause.TheVariants as cause
use Rattle.journal_model.specs.reports.EntryText.{cause_row_word, cause_word, deny_word, dry_word, entry_line, kind_words, left_word, piece_words, shown_words, why_word}
use Rattle.journal_model.specs.reports.ReportText.{answer_line, answer_words}
use Rattle.journal_model.specs.scripts.Words.{Text, actor_word, hex, line, listed, mem_word, name_of, span_word, spaced, spans_word}
use Rattle.io_edge.specs.Lines.{is_line}
use Rattle.report_text.specs.Lines.{breaks, names_break}
use Rattle.report_text.proofs.LineLaws.{longer_line}

-- ---- texts

plain_append : (s t : Text) → breaks s ≡ false → breaks t ≡ false → breaks (s ++ t) ≡ false
plain_append s t h k = list_any-append (λ b. b == 10) s t ∙ or_from (breaks s) (breaks t) h k

plain_cons : (b : ℕ) (t : Text) → (b == 10) ≡ false → breaks t ≡ false → breaks (b ∷ t) ≡ false
plain_cons b t h k = or_from (b == 10) (breaks t) h k

glyph : (p : Bool) (d : ℕ) → (cond p (48 + d) (87 + d) == 10) ≡ false
glyph true d = ne_eqb (48 + d) 10 (λ e. omega (arith, e))
glyph false d = ne_eqb (87 + d) 10 (λ e. omega (arith, e))

onto : (k n : ℕ) (acc : Text) → breaks acc ≡ false → breaks (digits_onto k 10 false n acc) ≡ false
onto zero n acc h = h
onto (suc k) n acc h =
    let more = plain_cons (digit_glyph false (n % 10)) acc (glyph _ (n % 10)) h in
    ends (n / 10 == 0) (digit_glyph false (n % 10) ∷ acc) (digits_onto k 10 false (n / 10) (digit_glyph false (n % 10) ∷ acc)) more (onto k (n / 10) (digit_glyph false (n % 10) ∷ acc) more)
  where
    ends : (p : Bool) (s t : Text) → breaks s ≡ false → breaks t ≡ false → breaks (cond p s t) ≡ false
    ends true s t a b = a
    ends false s t a b = b

plain_decimal : (n : ℕ) → breaks (decimal n) ≡ false
unfolding digits
plain_decimal n = onto 64 n [] refl

plain_hex : (bytes : List ℕ) → breaks (hex bytes) ≡ false
plain_hex [] = refl
plain_hex (b ∷ bytes) =
    plain_cons (digit_char (b / 16)) (digit_char (b % 16) ∷ hex bytes) (glyph _ (b / 16)) (plain_cons (digit_char (b % 16)) (hex bytes) (glyph _ (b % 16)) (plain_hex bytes))

-- ---- lists of words

joined : (c : ℕ) (w : Text) (ws : List Text) → (c == 10) ≡ false → list_any breaks (w ∷ ws) ≡ false → breaks (join_with_byte c (w ∷ ws)) ≡ false
joined c w [] e h = (or_parts (breaks w) false h).0
joined c w (v ∷ ws) e h =
    let parts = or_parts (breaks w) (list_any breaks (v ∷ ws)) h in
    plain_append w (c ∷ join_with_byte c (v ∷ ws)) parts.0 (plain_cons c (join_with_byte c (v ∷ ws)) e (joined c v ws e parts.1))

each : {X : Type 0} (f : X → Text) → ((x : X) → breaks (f x) ≡ false) → (xs : List X) → list_any breaks (map f xs) ≡ false
each f h [] = refl
each f h (x ∷ xs) = or_from (breaks (f x)) (list_any breaks (map f xs)) (h x) (each f h xs)

plain_listed : {X : Type 0} (f : X → Text) → ((x : X) → breaks (f x) ≡ false) → (xs : List X) → breaks (listed (map f xs)) ≡ false
plain_listed f h [] = refl
plain_listed f h (x ∷ xs) = joined 44 (f x) (map f xs) refl (each f h (x ∷ xs))

-- a word before others
then : (w : Text) (ws : List Text) → breaks w ≡ false → list_any breaks ws ≡ false → list_any breaks (w ∷ ws) ≡ false
then w ws h k = or_from (breaks w) (list_any breaks ws) h k

last_feed : (t : Text) → breaks t ≡ false → is_line (t ++ 10 ∷ []) ≡ true
last_feed [] h = refl
last_feed (b ∷ t) h = let parts = or_parts (b == 10) (breaks t) h in longer_line b (t ++ 10 ∷ []) parts.0 (last_feed t parts.1)

-- a line of words without a line feed
plain_line : (w : Text) (ws : List Text) → list_any breaks (w ∷ ws) ≡ false → IsTrue (is_line (line (w ∷ ws)))
plain_line w ws h = last_feed (spaced (w ∷ ws)) (joined 32 w ws refl h)

-- ---- words

plain_span : (s : Span) → breaks (span_word s) ≡ false
plain_span s =
    plain_append (decimal s.start ++ codes "-") (decimal s.end) (plain_append (decimal s.start) (codes "-") (plain_decimal s.start) refl) (plain_decimal s.end)

plain_spans : (spans : List Span) → breaks (spans_word spans) ≡ false
plain_spans spans = plain_listed span_word plain_span spans

plain_mem : (m : Mem) → breaks (mem_word m) ≡ false
plain_mem mem.System = refl
plain_mem mem.Tt = refl
plain_mem mem.Vram = refl

plain_actor : (who : Actor) → breaks (actor_word who) ≡ false
plain_actor (actor.Thread t) = plain_append (codes "t") (decimal t) refl (plain_decimal t)
plain_actor (actor.Engine e) = plain_append (codes "e") (decimal e) refl (plain_decimal e)
plain_actor actor.Reaper = refl

plain_deny : (d : Deny) → breaks (deny_word d) ≡ false
plain_deny deny.NoBuffer = refl
plain_deny deny.Exists = refl
plain_deny deny.Pinned = refl
plain_deny deny.NotPinned = refl
plain_deny deny.PinMax = refl
plain_deny deny.NoSpace = refl
plain_deny deny.NoPages = refl
plain_deny deny.NoSwap = refl

plain_why : (w : Why) → breaks (why_word w) ≡ false
plain_why why.Vram = refl
plain_why why.Tt = refl
plain_why why.Swap = refl

plain_left : (l : Left) → breaks (left_word l) ≡ false
plain_left left.Now = refl
plain_left (left.Ghost g) = plain_decimal g

plain_cause : (c : Cause) → breaks (cause_word c) ≡ false
plain_cause cause.Pinned = refl
plain_cause (cause.Reserved s) = plain_append (codes "reserved:") (decimal s.0) refl (plain_decimal s.0)
plain_cause cause.Outside = refl
plain_cause cause.Skipped = refl

plain_shown : (s : Shown) → list_any breaks (shown_words s) ≡ false
plain_shown shown.Plain = refl
plain_shown (shown.Read bytes) = then (codes "read") (hex bytes ∷ []) refl (then (hex bytes) [] (plain_hex bytes) refl)
plain_shown (shown.Find m spans) =
    then (codes "find") (mem_word m ∷ spans_word spans ∷ []) refl (then (mem_word m) (spans_word spans ∷ []) (plain_mem m) (then (spans_word spans) [] (plain_spans spans) refl))

plain_piece : (bytes : List ℕ) → list_any breaks (piece_words bytes) ≡ false
plain_piece [] = refl
plain_piece (b ∷ bytes) = then (hex (b ∷ bytes)) [] (plain_hex (b ∷ bytes)) refl

-- ---- names

named : (ds : List Decl) (i : ℕ) (other : Decl) → list_any (λ d. breaks d.name) ds ≡ false → breaks other.name ≡ false → breaks (unwrap_or (slice_get ds i) other).name ≡ false
named [] i other h k = k
named (d ∷ ds) zero other h k = (or_parts (breaks d.name) (list_any (λ e. breaks e.name) ds) h).0
named (d ∷ ds) (suc i) other h k = named ds i other (or_parts (breaks d.name) (list_any (λ e. breaks e.name) ds) h).1 k

plain_name : (script : Script) → names_break script ≡ false → (b : BufId) → breaks (name_of script b) ≡ false
plain_name script h b = named script.buffers b.0 _ h refl

plain_row : (script : Script) → names_break script ≡ false → (row : CauseRow) → breaks (cause_row_word script row) ≡ false
plain_row script h row =
    plain_append (name_of script row.b ++ codes ":") (cause_word row.cause) (plain_append (name_of script row.b) (codes ":") (plain_name script h row.b) refl)
    (plain_cause row.cause)

plain_dry : (script : Script) → names_break script ≡ false → (w : DryWhy) → breaks (dry_word script w) ≡ false
plain_dry script h dry.Short = refl
plain_dry script h (dry.Of rows) = plain_listed (cause_row_word script) (plain_row script h) rows

-- a word, the name of a buffer, and other words
named_words : (script : Script) → names_break script ≡ false → (w : Text) (b : BufId) (ws : List Text) → breaks w ≡ false → list_any breaks ws ≡ false
    → list_any breaks (w ∷ name_of script b ∷ ws) ≡ false
named_words script h w b ws k more = then w (name_of script b ∷ ws) k (then (name_of script b) ws (plain_name script h b) more)

one : (n : ℕ) → list_any breaks (decimal n ∷ []) ≡ false
one n = then (decimal n) [] (plain_decimal n) refl

two : (m n : ℕ) → list_any breaks (decimal m ∷ decimal n ∷ []) ≡ false
two m n = then (decimal m) (decimal n ∷ []) (plain_decimal m) (one n)

plain_kind : (script : Script) → names_break script ≡ false → (k : Kind) → list_any breaks (kind_words script k) ≡ false
plain_kind script h (kind.Ticket s) = then (codes "ticket") (decimal s.0 ∷ []) refl (one s.0)
plain_kind script h (kind.Reserve b) = named_words script h (codes "reserve") b [] refl refl
plain_kind script h (kind.Backoff b s) = named_words script h (codes "backoff") b (decimal s.0 ∷ []) refl (one s.0)
plain_kind script h (kind.New b) = named_words script h (codes "new") b [] refl refl
plain_kind script h (kind.Free b g) = named_words script h (codes "free") b (decimal g ∷ []) refl (one g)
plain_kind script h (kind.Take b m spans) =
    named_words script h (codes "take") b (mem_word m ∷ spans_word spans ∷ []) refl
    (then (mem_word m) (spans_word spans ∷ []) (plain_mem m) (then (spans_word spans) [] (plain_spans spans) refl))
plain_kind script h (kind.Untake b m) = named_words script h (codes "untake") b (mem_word m ∷ []) refl (then (mem_word m) [] (plain_mem m) refl)
plain_kind script h (kind.Populate b page f) = named_words script h (codes "populate") b (decimal page ∷ decimal f ∷ []) refl (two page f)
plain_kind script h (kind.SwapIn b page k f) =
    named_words script h (codes "swapin") b (decimal page ∷ decimal k ∷ decimal f ∷ []) refl (then (decimal page) (decimal k ∷ decimal f ∷ []) (plain_decimal page) (two k f))
plain_kind script h (kind.Depopulate b) = named_words script h (codes "depopulate") b [] refl refl
plain_kind script h (kind.Bind b) = named_words script h (codes "bind") b [] refl refl
plain_kind script h (kind.Unbind b) = named_words script h (codes "unbind") b [] refl refl
plain_kind script h (kind.Move b m n l) =
    named_words script h (codes "move") b (mem_word m ∷ decimal n ∷ left_word l ∷ []) refl
    (then (mem_word m) (decimal n ∷ left_word l ∷ []) (plain_mem m) (then (decimal n) (left_word l ∷ []) (plain_decimal n) (then (left_word l) [] (plain_left l) refl)))
plain_kind script h (kind.Catch b w) = named_words script h (codes "catch") b (why_word w ∷ []) refl (then (why_word w) [] (plain_why w) refl)
plain_kind script h (kind.Loose b) = named_words script h (codes "loose") b [] refl refl
plain_kind script h (kind.Skip b) = named_words script h (codes "skip") b [] refl refl
plain_kind script h (kind.Dry b k w) =
    named_words script h (codes "dry") b (decimal k ∷ dry_word script w ∷ []) refl
    (then (decimal k) (dry_word script w ∷ []) (plain_decimal k) (then (dry_word script w) [] (plain_dry script h w) refl))
plain_kind script h (kind.SwapOut b page k) = named_words script h (codes "swapout") b (decimal page ∷ decimal k ∷ []) refl (two page k)
plain_kind script h (kind.NoPages b) = named_words script h (codes "nopages") b [] refl refl
plain_kind script h (kind.Arm engine n) =
    then (codes "arm") ((codes "e" ++ decimal engine) ∷ decimal n ∷ []) refl
    (then (codes "e" ++ decimal engine) (decimal n ∷ []) (plain_append (codes "e") (decimal engine) refl (plain_decimal engine)) (one n))
plain_kind script h (kind.Packet n k piece) =
    then (codes "packet") (decimal n ∷ decimal k ∷ piece_words piece) refl
    (then (decimal n) (decimal k ∷ piece_words piece) (plain_decimal n) (then (decimal k) (piece_words piece) (plain_decimal k) (plain_piece piece)))
plain_kind script h (kind.Done n) = then (codes "done") (decimal n ∷ []) refl (one n)
plain_kind script h (kind.Reap g) = then (codes "reap") (decimal g ∷ []) refl (one g)
plain_kind script h (kind.Bulk group) = then (codes "bulk") (decimal group ∷ []) refl (one group)
plain_kind script h (kind.Result r) = then (codes "result") (shown_words r) refl (plain_shown r)
plain_kind script h (kind.Refused d) = then (codes "refused") (deny_word d ∷ []) refl (then (deny_word d) [] (plain_deny d) refl)

-- ---- lines

-- of an entry, where no name breaks it
pub entry_is_line : (script : Script) (number : ℕ) (entry : Entry) (t : Text) → names_break script ≡ false → t ≡ entry_line script (number, entry) → IsTrue (is_line t)
entry_is_line script number entry t h e =
    subst (λ (x : Text). IsTrue (is_line x)) (sym e)
    (plain_line (decimal number) (actor_word entry.who ∷ kind_words script entry.kind)
    (then (decimal number) (actor_word entry.who ∷ kind_words script entry.kind) (plain_decimal number)
    (then (actor_word entry.who) (kind_words script entry.kind) (plain_actor entry.who) (plain_kind script h entry.kind))))

plain_answer : (k : Kind) → list_any breaks (unwrap_or (answer_words k) []) ≡ false
plain_answer (kind.Result r) = plain_shown r
plain_answer (kind.Refused d) = then (codes "refused") (deny_word d ∷ []) refl (then (deny_word d) [] (plain_deny d) refl)
plain_answer _ = refl

-- of an answer
pub answer_is_line : (thread number : ℕ) (k : Kind) (t : Text) → t ≡ answer_line thread (number, unwrap_or (answer_words k) []) → IsTrue (is_line t)
answer_is_line thread number k t e =
    let ws = unwrap_or (answer_words k) [] in
    subst (λ (x : Text). IsTrue (is_line x)) (sym e)
    (plain_line (codes "t" ++ decimal thread) (decimal number ∷ ws)
    (then (codes "t" ++ decimal thread) (decimal number ∷ ws) (plain_append (codes "t") (decimal thread) refl (plain_decimal thread))
    (then (decimal number) ws (plain_decimal number) (plain_answer k))))
