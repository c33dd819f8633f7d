-- The words of a kind with readable values are read.
use Rattle.std.proofs.Common.{◌≡◌, true, [], ◌∷◌, ◌++◌, Some, refl, ap, ◌∙◌}
use Rattle.std.specs.Prelude.{◌&&◌, codes, decimal}
use Rattle.std.specs.List.{list_all}
use Rattle.journal_model.specs.declared.script.Script.{Script}
use Rattle.journal_model.specs.declared.entry.Kind.{Kind}
use Rattle.journal_model.specs.declared.entry.Kind.TheVariants as kind
use Rattle.journal_model.specs.declared.entry.Shown.TheVariants as shown
use Rattle.journal_model.specs.scripts.Words.{hex, mem_word, name_of, spans_word}
use Rattle.journal_model.specs.reports.EntryText.{deny_word, dry_word, kind_words, left_word, why_word}
use Rattle.journal_model.specs.scripts.CommandRules.{is_declared}
use Rattle.journal_model.specs.scripts.ScriptRules.{is_script}
use Rattle.journal_model.specs.scripts.Readable.{are_bytes, is_dry_why, is_kind, is_left, is_span, is_u32, is_u64}
use Rattle.journal_model.specs.scripts.Reading.{bytes_in_hex, known, mem_of, names_of}
use Rattle.law_legal.proofs.law_items.Tests.{both}
use Rattle.law_legal.proofs.law_script.AgainLaws.{bytes_again}
use Rattle.law_legal.proofs.law_script.WordLaws.{mem_again}
use Rattle.law_legal.proofs.law_script.NamesAgain.{IsNamed, known_again}
use Rattle.entry_reader.specs.EntryReading.{deny_of, dry_of, engine_of, kind_of, left_of, list_of, on_buffer, on_worded, piece_of, span_of, u32_of, u64_of, why_of}
use Rattle.entry_reader.proofs.Wholes.{four_made, one_made, three_made, two_made}
use Rattle.entry_reader.proofs.WordLaws.{deny_again, engine_again, left_again, piece_again, spans_again, u32_again, u64_again, why_again}
use Rattle.entry_reader.proofs.CauseLaws.{dry_again}

-- a kind is read from its words
pub kind_again : (script : Script) → is_script script ≡ true → IsNamed script → (k : Kind) → is_kind script k ≡ true
    → kind_of (names_of script.buffers) (kind_words script k) ≡ Some k
kind_again script is named (kind.Ticket s) h =
    one_made (λ x0. kind.Ticket (record { 0 = x0 })) (u64_of (decimal s.0)) s.0 (u64_again s.0 h)
kind_again script is named (kind.Reserve b) h = ap (on_buffer (codes "reserve")) (known_again script b named h)
kind_again script is named (kind.Backoff b s) h =
    let f1 = both ((is_declared script b)) (is_u64 s.0) h in
    ap (λ o. on_worded (codes "backoff") o (decimal s.0)) (known_again script b named f1.0)
    ∙ one_made (λ x0. kind.Backoff b (record { 0 = x0 })) (u64_of (decimal s.0)) s.0 (u64_again s.0 f1.1)
kind_again script is named (kind.New b) h = ap (on_buffer (codes "new")) (known_again script b named h)
kind_again script is named (kind.Free b g) h =
    let f1 = both ((is_declared script b)) (is_u64 g) h in
    ap (λ o. on_worded (codes "free") o (decimal g)) (known_again script b named f1.0) ∙ one_made (λ x0. kind.Free b x0) (u64_of (decimal g)) g (u64_again g f1.1)
kind_again script is named (kind.Take b mem spans) h =
    let f1 = both ((is_declared script b)) (list_all is_span spans) h in
    three_made (λ x0 x1 x2. kind.Take x0 x1 x2) (known (names_of script.buffers) (name_of script b)) (mem_of (mem_word mem)) (list_of span_of (spans_word spans)) b mem spans (known_again script b named f1.0) (mem_again mem) (spans_again spans f1.1)
kind_again script is named (kind.Untake b mem) h =
    ap (λ o. on_worded (codes "untake") o (mem_word mem)) (known_again script b named h) ∙ one_made (λ x0. kind.Untake b x0) (mem_of (mem_word mem)) mem (mem_again mem)
kind_again script is named (kind.Populate b page f) h =
    let f2 = both ((is_declared script b) && (is_u32 page)) (is_u32 f) h in
    let f1 = both ((is_declared script b)) (is_u32 page) f2.0 in
    three_made (λ x0 x1 x2. kind.Populate x0 x1 x2) (known (names_of script.buffers) (name_of script b)) (u32_of (decimal page)) (u32_of (decimal f)) b page f (known_again script b named f1.0) (u32_again page f1.1) (u32_again f f2.1)
kind_again script is named (kind.SwapIn b page k f) h =
    let f3 = both ((is_declared script b) && (is_u32 page) && (is_u32 k)) (is_u32 f) h in
    let f2 = both ((is_declared script b) && (is_u32 page)) (is_u32 k) f3.0 in
    let f1 = both ((is_declared script b)) (is_u32 page) f2.0 in
    four_made (λ x0 x1 x2 x3. kind.SwapIn x0 x1 x2 x3) (known (names_of script.buffers) (name_of script b)) (u32_of (decimal page)) (u32_of (decimal k)) (u32_of (decimal f)) b page k f (known_again script b named f1.0) (u32_again page f1.1) (u32_again k f2.1) (u32_again f f3.1)
kind_again script is named (kind.Depopulate b) h = ap (on_buffer (codes "depopulate")) (known_again script b named h)
kind_again script is named (kind.Bind b) h = ap (on_buffer (codes "bind")) (known_again script b named h)
kind_again script is named (kind.Unbind b) h = ap (on_buffer (codes "unbind")) (known_again script b named h)
kind_again script is named (kind.Move b mem n l) h =
    let f2 = both ((is_declared script b) && (is_u64 n)) (is_left l) h in
    let f1 = both ((is_declared script b)) (is_u64 n) f2.0 in
    four_made (λ x0 x1 x2 x3. kind.Move x0 x1 x2 x3) (known (names_of script.buffers) (name_of script b)) (mem_of (mem_word mem)) (u64_of (decimal n)) (left_of (left_word l)) b mem n l (known_again script b named f1.0) (mem_again mem) (u64_again n f1.1) (left_again l f2.1)
kind_again script is named (kind.Catch b w) h =
    ap (λ o. on_worded (codes "catch") o (why_word w)) (known_again script b named h) ∙ one_made (λ x0. kind.Catch b x0) (why_of (why_word w)) w (why_again w)
kind_again script is named (kind.Loose b) h = ap (on_buffer (codes "loose")) (known_again script b named h)
kind_again script is named (kind.Skip b) h = ap (on_buffer (codes "skip")) (known_again script b named h)
kind_again script is named (kind.Dry b k w) h =
    let f2 = both ((is_declared script b) && (is_u32 k)) (is_dry_why script w) h in
    let f1 = both ((is_declared script b)) (is_u32 k) f2.0 in
    three_made (λ x0 x1 x2. kind.Dry x0 x1 x2) (known (names_of script.buffers) (name_of script b)) (u32_of (decimal k)) (dry_of (names_of script.buffers) (dry_word script w)) b k w (known_again script b named f1.0) (u32_again k f1.1) (dry_again script is w f2.1)
kind_again script is named (kind.SwapOut b page k) h =
    let f2 = both ((is_declared script b) && (is_u32 page)) (is_u32 k) h in
    let f1 = both ((is_declared script b)) (is_u32 page) f2.0 in
    three_made (λ x0 x1 x2. kind.SwapOut x0 x1 x2) (known (names_of script.buffers) (name_of script b)) (u32_of (decimal page)) (u32_of (decimal k)) b page k (known_again script b named f1.0) (u32_again page f1.1) (u32_again k f2.1)
kind_again script is named (kind.NoPages b) h = ap (on_buffer (codes "nopages")) (known_again script b named h)
kind_again script is named (kind.Arm engine n) h =
    let f1 = both ((is_u32 engine)) (is_u64 n) h in
    two_made (λ x0 x1. kind.Arm x0 x1) (engine_of (codes "e" ++ decimal engine)) (u64_of (decimal n)) engine n (engine_again engine f1.0) (u64_again n f1.1)
kind_again script is named (kind.Packet n k []) h =
    let f2 = both (is_u64 n && is_u32 k) true h in
    let f1 = both (is_u64 n) (is_u32 k) f2.0 in
    two_made (λ x0 x1. kind.Packet x0 x1 []) (u64_of (decimal n)) (u32_of (decimal k)) n k (u64_again n f1.0) (u32_again k f1.1)
kind_again script is named (kind.Packet n k (b ∷ bytes)) h =
    let f2 = both (is_u64 n && is_u32 k) (are_bytes (b ∷ bytes)) h in
    let f1 = both (is_u64 n) (is_u32 k) f2.0 in
    three_made (λ x0 x1 x2. kind.Packet x0 x1 x2) (u64_of (decimal n)) (u32_of (decimal k)) (piece_of (hex (b ∷ bytes))) n k (b ∷ bytes)
    (u64_again n f1.0) (u32_again k f1.1) (piece_again b bytes f2.1)
kind_again script is named (kind.Done n) h =
    one_made (λ x0. kind.Done x0) (u64_of (decimal n)) n (u64_again n h)
kind_again script is named (kind.Reap g) h =
    one_made (λ x0. kind.Reap x0) (u64_of (decimal g)) g (u64_again g h)
kind_again script is named (kind.Bulk group) h =
    one_made (λ x0. kind.Bulk x0) (u32_of (decimal group)) group (u32_again group h)
kind_again script is named (kind.Result shown.Plain) h = refl
kind_again script is named (kind.Result (shown.Read bytes)) h =
    one_made (λ x0. kind.Result (shown.Read x0)) (bytes_in_hex (hex bytes)) bytes (bytes_again bytes h)
kind_again script is named (kind.Result (shown.Find mem spans)) h =
    two_made (λ x0 x1. kind.Result (shown.Find x0 x1)) (mem_of (mem_word mem)) (list_of span_of (spans_word spans)) mem spans (mem_again mem) (spans_again spans h)
kind_again script is named (kind.Refused d) h =
    one_made (λ x0. kind.Refused x0) (deny_of (deny_word d)) d (deny_again d)
