-- The words of a kind that are read are those of the kind, whose values are readable.
use Rattle.std.proofs.Common.{◌≡◌, true, List, [], ◌∷◌, Option, Some, None, refl, ap, sym, ◌∙◌, bytes_eq}
use Rattle.std.specs.Prelude.{◌&&◌, codes, decimal, option_map}
use Rattle.std.specs.List.{list_all}
use Rattle.ttm_base.specs.declared.BufId.{BufId}
use Rattle.journal_model.specs.declared.script.Script.{Script}
use Rattle.journal_model.specs.declared.entry.Kind.{Kind}
use Rattle.journal_model.specs.declared.entry.Kind.TheVariants as kind
use Rattle.journal_model.specs.declared.entry.Shown.TheVariants as shown
use Rattle.journal_model.specs.scripts.Words.{Text, name_of}
use Rattle.journal_model.specs.reports.EntryText.{kind_words, piece_words}
use Rattle.journal_model.specs.scripts.CommandRules.{is_declared}
use Rattle.journal_model.specs.scripts.Readable.{are_bytes, is_dry_why, is_kind, is_left, is_span, is_u32, is_u64}
use Rattle.journal_model.specs.scripts.Reading.{bytes_in_hex, known, mem_of, names_of}
use Rattle.law_legal.proofs.law_items.Tests.{joint}
use Rattle.law_legal.proofs.law_script.WordLaws.{bytes_are}
use Rattle.entry_reader.specs.EntryReading.{buffer_kind, deny_of, dry_of, engine_of, find_kind, kind_of, kind_of_four, kind_of_one, kind_of_three, kind_of_two, left_of, list_of, on_buffer, on_worded, page_kind, pair_kind, piece_of, plain_kind, read_kind, span_of, u32_of, u64_of, why_of, worded_kind, with_four, with_three, with_two}
use Rattle.entry_reader.proofs.Wholes.{Told, five_words, four_told, four_words, one_told, three_told, three_words, told_if, two_told, two_words}
use Rattle.entry_reader.proofs.WordLaws.{bytes_told, deny_told, engine_told, known_told, left_told, mem_told, piece_told, spans_told, u32_told, u64_told, why_told}
use Rattle.entry_reader.proofs.CauseLaws.{dry_told}

-- the words are those of the kind
abbrev pub IsSaid : Script → List Text → Kind → Type 0
IsSaid script ws k = (is_kind script k ≡ true) × (kind_words script k ≡ ws)

is_verb : (v w : Text) → bytes_eq v w ≡ true → w ≡ v
is_verb v w e = sym (bytes_are v w e)

-- a verb and its buffer
alone : (script : Script) (v a w : Text) (b : BufId) (k : Kind) → known (names_of script.buffers) a ≡ Some b
    → ((is_kind script k ≡ is_declared script b) × (kind_words script k ≡ w ∷ name_of script b ∷ [])) → bytes_eq v w ≡ true → IsSaid script (v ∷ a ∷ []) k
alone script v a w b k p said e =
    let n = known_told script a b p in
    (said.0 ∙ n.0, said.1 ∙ two_words (is_verb v w e) n.1)

buffer_told : (script : Script) (v a : Text) (b : BufId) → known (names_of script.buffers) a ≡ Some b → Told (buffer_kind v b) (IsSaid script (v ∷ a ∷ []))
buffer_told script v a b p =
    let P = IsSaid script (v ∷ a ∷ []) in
    (told_if (bytes_eq v (codes "reserve")) (Some (kind.Reserve b)) _ P (alone script v a (codes "reserve") b (kind.Reserve b) p (refl, refl))
    (told_if (bytes_eq v (codes "new")) (Some (kind.New b)) _ P (alone script v a (codes "new") b (kind.New b) p (refl, refl))
    (told_if (bytes_eq v (codes "depopulate")) (Some (kind.Depopulate b)) _ P (alone script v a (codes "depopulate") b (kind.Depopulate b) p (refl, refl))
    (told_if (bytes_eq v (codes "bind")) (Some (kind.Bind b)) _ P (alone script v a (codes "bind") b (kind.Bind b) p (refl, refl))
    (told_if (bytes_eq v (codes "unbind")) (Some (kind.Unbind b)) _ P (alone script v a (codes "unbind") b (kind.Unbind b) p (refl, refl))
    (told_if (bytes_eq v (codes "loose")) (Some (kind.Loose b)) _ P (alone script v a (codes "loose") b (kind.Loose b) p (refl, refl))
    (told_if (bytes_eq v (codes "skip")) (Some (kind.Skip b)) _ P (alone script v a (codes "skip") b (kind.Skip b) p (refl, refl))
    (told_if (bytes_eq v (codes "nopages")) (Some (kind.NoPages b)) None P (alone script v a (codes "nopages") b (kind.NoPages b) p (refl, refl)) tt))))))))

on_buffer_told : (script : Script) (v a : Text) (o : Option BufId) → known (names_of script.buffers) a ≡ o → Told (on_buffer v o) (IsSaid script (v ∷ a ∷ []))
on_buffer_told script v a None p = tt
on_buffer_told script v a (Some b) p = buffer_told script v a b p

plain_told : (script : Script) (v a : Text) → codes "result" ≡ v → Told (plain_kind a) (IsSaid script (v ∷ a ∷ []))
plain_told script v a e =
    told_if (bytes_eq a (codes "ok")) (Some (kind.Result shown.Plain)) None (IsSaid script (v ∷ a ∷ [])) (λ f. (refl, two_words e (is_verb a (codes "ok") f))) tt

one_word_told : (script : Script) (v a : Text) → Told (kind_of_one (names_of script.buffers) v a) (IsSaid script (v ∷ a ∷ []))
one_word_told script v a =
    let P = IsSaid script (v ∷ a ∷ []) in
    (told_if (bytes_eq v (codes "ticket")) (option_map (λ x0. kind.Ticket (record { 0 = x0 })) (u64_of a)) _ P
    (λ e. one_told (λ x0. kind.Ticket (record { 0 = x0 })) (u64_of a) P (λ x0 p0.
    let t0 = u64_told a x0 p0 in
    (t0.0, two_words (is_verb v (codes "ticket") e) t0.1)))
    (told_if (bytes_eq v (codes "done")) (option_map (λ x0. kind.Done x0) (u64_of a)) _ P
    (λ e. one_told (λ x0. kind.Done x0) (u64_of a) P (λ x0 p0.
    let t0 = u64_told a x0 p0 in
    (t0.0, two_words (is_verb v (codes "done") e) t0.1)))
    (told_if (bytes_eq v (codes "reap")) (option_map (λ x0. kind.Reap x0) (u64_of a)) _ P
    (λ e. one_told (λ x0. kind.Reap x0) (u64_of a) P (λ x0 p0.
    let t0 = u64_told a x0 p0 in
    (t0.0, two_words (is_verb v (codes "reap") e) t0.1)))
    (told_if (bytes_eq v (codes "bulk")) (option_map (λ x0. kind.Bulk x0) (u32_of a)) _ P
    (λ e. one_told (λ x0. kind.Bulk x0) (u32_of a) P (λ x0 p0.
    let t0 = u32_told a x0 p0 in
    (t0.0, two_words (is_verb v (codes "bulk") e) t0.1)))
    (told_if (bytes_eq v (codes "result")) (plain_kind a) _ P (λ e. plain_told script v a (is_verb v (codes "result") e))
    (told_if (bytes_eq v (codes "refused")) (option_map (λ x0. kind.Refused x0) (deny_of a)) (on_buffer v (known (names_of script.buffers) a)) P
    (λ e. one_told (λ x0. kind.Refused x0) (deny_of a) P (λ x0 p0.
    let t0 = deny_told a x0 p0 in
    (refl, two_words (is_verb v (codes "refused") e) t0)))
    (on_buffer_told script v a (known (names_of script.buffers) a) refl)))))))

read_told : (script : Script) (v a b : Text) → codes "result" ≡ v → Told (read_kind a b) (IsSaid script (v ∷ a ∷ b ∷ []))
read_told script v a b e =
    let P = IsSaid script (v ∷ a ∷ b ∷ []) in
    told_if (bytes_eq a (codes "read")) (option_map (λ bytes. kind.Result (shown.Read bytes)) (bytes_in_hex b)) None P
    (λ f. one_told (λ bytes. kind.Result (shown.Read bytes)) (bytes_in_hex b) P
    (λ bytes p. let t = bytes_told b bytes p in (t.0, three_words e (is_verb a (codes "read") f) t.1))) tt

worded_told : (script : Script) (v a b : Text) (x : BufId) → known (names_of script.buffers) a ≡ Some x → Told (worded_kind v x b) (IsSaid script (v ∷ a ∷ b ∷ []))
worded_told script v a b x p =
    let P = IsSaid script (v ∷ a ∷ b ∷ []) in
    let n = known_told script a x p in
    (told_if (bytes_eq v (codes "backoff")) (option_map (λ s. kind.Backoff x (record { 0 = s })) (u64_of b)) _ P
    (λ e. one_told (λ s. kind.Backoff x (record { 0 = s })) (u64_of b) P (λ s q.
    let t = u64_told b s q in
    (joint (is_declared script x) (is_u64 s) n.0 t.0, three_words (is_verb v (codes "backoff") e) n.1 t.1)))
    (told_if (bytes_eq v (codes "free")) (option_map (λ g. kind.Free x g) (u64_of b)) _ P
    (λ e. one_told (λ g. kind.Free x g) (u64_of b) P (λ g q.
    let t = u64_told b g q in
    (joint (is_declared script x) (is_u64 g) n.0 t.0, three_words (is_verb v (codes "free") e) n.1 t.1)))
    (told_if (bytes_eq v (codes "untake")) (option_map (λ mem. kind.Untake x mem) (mem_of b)) _ P
    (λ e. one_told (λ mem. kind.Untake x mem) (mem_of b) P (λ mem q. (n.0, three_words (is_verb v (codes "untake") e) n.1 (mem_told b mem q))))
    (told_if (bytes_eq v (codes "catch")) (option_map (λ w. kind.Catch x w) (why_of b)) None P
    (λ e. one_told (λ w. kind.Catch x w) (why_of b) P (λ w q. (n.0, three_words (is_verb v (codes "catch") e) n.1 (why_told b w q)))) tt))))

on_worded_told : (script : Script) (v a b : Text) (o : Option BufId) → known (names_of script.buffers) a ≡ o → Told (on_worded v o b) (IsSaid script (v ∷ a ∷ b ∷ []))
on_worded_told script v a b None p = tt
on_worded_told script v a b (Some x) p = worded_told script v a b x p

pair_told : (script : Script) (v a b : Text) → Told (pair_kind (names_of script.buffers) v a b) (IsSaid script (v ∷ a ∷ b ∷ []))
pair_told script v a b =
    let P = IsSaid script (v ∷ a ∷ b ∷ []) in
    (told_if (bytes_eq v (codes "arm")) (with_two (λ x0 x1. kind.Arm x0 x1) (engine_of a) (u64_of b)) _ P
    (λ e. two_told (λ x0 x1. kind.Arm x0 x1) (engine_of a) (u64_of b) P (λ x0 x1 p0 p1.
    let t0 = engine_told a x0 p0 in
    let t1 = u64_told b x1 p1 in
    (joint (is_u32 x0) (is_u64 x1) t0.0 t1.0, three_words (is_verb v (codes "arm") e) t0.1 t1.1)))
    (told_if (bytes_eq v (codes "packet")) (with_two (λ x0 x1. kind.Packet x0 x1 []) (u64_of a) (u32_of b)) (on_worded v (known (names_of script.buffers) a) b) P
    (λ e. two_told (λ x0 x1. kind.Packet x0 x1 []) (u64_of a) (u32_of b) P (λ x0 x1 p0 p1.
    let t0 = u64_told a x0 p0 in
    let t1 = u32_told b x1 p1 in
    (joint (is_u64 x0 && is_u32 x1) true (joint (is_u64 x0) (is_u32 x1) t0.0 t1.0) refl, three_words (is_verb v (codes "packet") e) t0.1 t1.1)))
    (on_worded_told script v a b (known (names_of script.buffers) a) refl)))

two_words_told : (script : Script) (v a b : Text) → Told (kind_of_two (names_of script.buffers) v a b) (IsSaid script (v ∷ a ∷ b ∷ []))
two_words_told script v a b =
    told_if (bytes_eq v (codes "result")) (read_kind a b) (pair_kind (names_of script.buffers) v a b) (IsSaid script (v ∷ a ∷ b ∷ []))
    (λ e. read_told script v a b (is_verb v (codes "result") e)) (pair_told script v a b)

find_told : (script : Script) (v a b c : Text) → codes "result" ≡ v → Told (find_kind a b c) (IsSaid script (v ∷ a ∷ b ∷ c ∷ []))
find_told script v a b c e =
    let P = IsSaid script (v ∷ a ∷ b ∷ c ∷ []) in
    told_if (bytes_eq a (codes "find")) (with_two (λ mem spans. kind.Result (shown.Find mem spans)) (mem_of b) (list_of span_of c)) None P
    (λ f. two_told (λ mem spans. kind.Result (shown.Find mem spans)) (mem_of b) (list_of span_of c) P
    (λ mem spans p q. let t = spans_told c spans q in (t.0, four_words e (is_verb a (codes "find") f) (mem_told b mem p) t.1))) tt

page_told : (script : Script) (v a b c : Text) → Told (page_kind (names_of script.buffers) v a b c) (IsSaid script (v ∷ a ∷ b ∷ c ∷ []))
page_told script v a b c =
    let P = IsSaid script (v ∷ a ∷ b ∷ c ∷ []) in
    (told_if (bytes_eq v (codes "populate")) (with_three (λ x0 x1 x2. kind.Populate x0 x1 x2) (known (names_of script.buffers) a) (u32_of b) (u32_of c)) _ P
    (λ e. three_told (λ x0 x1 x2. kind.Populate x0 x1 x2) (known (names_of script.buffers) a) (u32_of b) (u32_of c) P (λ x0 x1 x2 p0 p1 p2.
    let t0 = known_told script a x0 p0 in
    let t1 = u32_told b x1 p1 in
    let t2 = u32_told c x2 p2 in
    (joint ((is_declared script x0) && (is_u32 x1)) (is_u32 x2) (joint (is_declared script x0) (is_u32 x1) t0.0 t1.0) t2.0, four_words (is_verb v (codes "populate") e) t0.1 t1.1 t2.1)))
    (told_if (bytes_eq v (codes "swapout")) (with_three (λ x0 x1 x2. kind.SwapOut x0 x1 x2) (known (names_of script.buffers) a) (u32_of b) (u32_of c)) None P
    (λ e. three_told (λ x0 x1 x2. kind.SwapOut x0 x1 x2) (known (names_of script.buffers) a) (u32_of b) (u32_of c) P (λ x0 x1 x2 p0 p1 p2.
    let t0 = known_told script a x0 p0 in
    let t1 = u32_told b x1 p1 in
    let t2 = u32_told c x2 p2 in
    (joint ((is_declared script x0) && (is_u32 x1)) (is_u32 x2) (joint (is_declared script x0) (is_u32 x1) t0.0 t1.0) t2.0, four_words (is_verb v (codes "swapout") e) t0.1 t1.1 t2.1))) tt))

three_words_told : (script : Script) (v a b c : Text) → Told (kind_of_three (names_of script.buffers) v a b c) (IsSaid script (v ∷ a ∷ b ∷ c ∷ []))
three_words_told script v a b c =
    let P = IsSaid script (v ∷ a ∷ b ∷ c ∷ []) in
    (told_if (bytes_eq v (codes "take")) (with_three (λ x0 x1 x2. kind.Take x0 x1 x2) (known (names_of script.buffers) a) (mem_of b) (list_of span_of c)) _ P
    (λ e. three_told (λ x0 x1 x2. kind.Take x0 x1 x2) (known (names_of script.buffers) a) (mem_of b) (list_of span_of c) P (λ x0 x1 x2 p0 p1 p2.
    let t0 = known_told script a x0 p0 in
    let t1 = mem_told b x1 p1 in
    let t2 = spans_told c x2 p2 in
    (joint (is_declared script x0) (list_all is_span x2) t0.0 t2.0, four_words (is_verb v (codes "take") e) t0.1 t1 t2.1)))
    (told_if (bytes_eq v (codes "dry")) (with_three (λ x0 x1 x2. kind.Dry x0 x1 x2) (known (names_of script.buffers) a) (u32_of b) (dry_of (names_of script.buffers) c)) _ P
    (λ e. three_told (λ x0 x1 x2. kind.Dry x0 x1 x2) (known (names_of script.buffers) a) (u32_of b) (dry_of (names_of script.buffers) c) P (λ x0 x1 x2 p0 p1 p2.
    let t0 = known_told script a x0 p0 in
    let t1 = u32_told b x1 p1 in
    let t2 = dry_told script c x2 p2 in
    (joint ((is_declared script x0) && (is_u32 x1)) (is_dry_why script x2) (joint (is_declared script x0) (is_u32 x1) t0.0 t1.0) t2.0, four_words (is_verb v (codes "dry") e) t0.1 t1.1 t2.1)))
    (told_if (bytes_eq v (codes "packet")) (with_three (λ x0 x1 x2. kind.Packet x0 x1 x2) (u64_of a) (u32_of b) (piece_of c)) _ P
    (λ e. three_told (λ x0 x1 x2. kind.Packet x0 x1 x2) (u64_of a) (u32_of b) (piece_of c) P (λ x0 x1 x2 p0 p1 p2.
    let t0 = u64_told a x0 p0 in
    let t1 = u32_told b x1 p1 in
    let t2 = piece_told c x2 p2 in
    (joint ((is_u64 x0) && (is_u32 x1)) (are_bytes x2) (joint (is_u64 x0) (is_u32 x1) t0.0 t1.0) t2.0, ap (λ x. x ∷ decimal x0 ∷ decimal x1 ∷ piece_words x2) (is_verb v (codes "packet") e) ∙ ap (λ x. v ∷ x ∷ decimal x1 ∷ piece_words x2) t0.1 ∙ ap (λ x. v ∷ a ∷ x ∷ piece_words x2) t1.1 ∙ ap (λ xs. v ∷ a ∷ b ∷ xs) t2.1)))
    (told_if (bytes_eq v (codes "result")) (find_kind a b c) (page_kind (names_of script.buffers) v a b c) P (λ e. find_told script v a b c (is_verb v (codes "result") e)) (page_told script v a b c)))))

four_words_told : (script : Script) (v a b c d : Text) → Told (kind_of_four (names_of script.buffers) v a b c d) (IsSaid script (v ∷ a ∷ b ∷ c ∷ d ∷ []))
four_words_told script v a b c d =
    let P = IsSaid script (v ∷ a ∷ b ∷ c ∷ d ∷ []) in
    (told_if (bytes_eq v (codes "swapin")) (with_four (λ x0 x1 x2 x3. kind.SwapIn x0 x1 x2 x3) (known (names_of script.buffers) a) (u32_of b) (u32_of c) (u32_of d)) _ P
    (λ e. four_told (λ x0 x1 x2 x3. kind.SwapIn x0 x1 x2 x3) (known (names_of script.buffers) a) (u32_of b) (u32_of c) (u32_of d) P (λ x0 x1 x2 x3 p0 p1 p2 p3.
    let t0 = known_told script a x0 p0 in
    let t1 = u32_told b x1 p1 in
    let t2 = u32_told c x2 p2 in
    let t3 = u32_told d x3 p3 in
    (joint (((is_declared script x0) && (is_u32 x1)) && (is_u32 x2)) (is_u32 x3) (joint ((is_declared script x0) && (is_u32 x1)) (is_u32 x2) (joint (is_declared script x0) (is_u32 x1) t0.0 t1.0) t2.0) t3.0, five_words (is_verb v (codes "swapin") e) t0.1 t1.1 t2.1 t3.1)))
    (told_if (bytes_eq v (codes "move")) (with_four (λ x0 x1 x2 x3. kind.Move x0 x1 x2 x3) (known (names_of script.buffers) a) (mem_of b) (u64_of c) (left_of d)) None P
    (λ e. four_told (λ x0 x1 x2 x3. kind.Move x0 x1 x2 x3) (known (names_of script.buffers) a) (mem_of b) (u64_of c) (left_of d) P (λ x0 x1 x2 x3 p0 p1 p2 p3.
    let t0 = known_told script a x0 p0 in
    let t1 = mem_told b x1 p1 in
    let t2 = u64_told c x2 p2 in
    let t3 = left_told d x3 p3 in
    (joint ((is_declared script x0) && (is_u64 x2)) (is_left x3) (joint (is_declared script x0) (is_u64 x2) t0.0 t2.0) t3.0, five_words (is_verb v (codes "move") e) t0.1 t1 t2.1 t3.1))) tt))

-- the words are those of the kind that they tell
pub kind_told : (script : Script) (ws : List Text) → Told (kind_of (names_of script.buffers) ws) (IsSaid script ws)
kind_told script [] = tt
kind_told script (v ∷ []) = tt
kind_told script (v ∷ a ∷ []) = one_word_told script v a
kind_told script (v ∷ a ∷ b ∷ []) = two_words_told script v a b
kind_told script (v ∷ a ∷ b ∷ c ∷ []) = three_words_told script v a b c
kind_told script (v ∷ a ∷ b ∷ c ∷ d ∷ []) = four_words_told script v a b c d
kind_told script (v ∷ a ∷ b ∷ c ∷ d ∷ x ∷ ws) = tt
