use Rattle.std.proofs.Common.{◌≡◌, false, true, sym, ap, ◌∙◌, ℕ, List, Some, inl, inr, arith}
use Rattle.std.specs.List.{list_all}
use Rattle.std.proofs.lemmas.Grind.{common_steps}
use Rattle.journal_model.specs.scripts.Reading.{is_hex}
use Rattle.script_words.proofs.Hex.{bytes_of-not_hex, hex_reads}
use Rattle.script_words.proofs.words.bytes.Goals as goal

pub returns-then-not-are_hex_digits : goal.returns-then-not-are_hex_digits
returns-then-not-are_hex_digits c =
    let h : list_all is_hex c.args.word.now ≡ false = grind (arith, common_steps, c.are_hex_digits.ensures, c.if-not-are_hex_digits.true) in
    sym (bytes_of-not_hex c.args.word.now h)

pub returns-in_ok-owned-in-Ok : goal.returns-in_ok-owned-in-Ok
returns-in_ok-owned-in-Ok c =
    let h : list_all is_hex c.args.word.now ≡ true = grind (arith, common_steps, c.are_hex_digits.ensures, c.if-not-are_hex_digits.false) in
    let k = rw c.in-Ok.ensures.ok at (hex_reads c.args.word.now h) in
    ap (λ (bs : List ℕ). Some bs) (c.in_ok-owned-in-Ok.ensures ∙ c.as_slice.ensures.value) ∙ sym k

pub returns-in_default : goal.returns-in_default
returns-in_default c =
    let h : list_all is_hex c.args.word.now ≡ true = grind (arith, common_steps, c.are_hex_digits.ensures, c.if-not-are_hex_digits.false) in
    elim c.in-Err.ensures.err [
      | inl memory ↦ absurd (c.in_default.not-OutOfMemory memory)
      | inr fault ↦ sym (rw fault at (hex_reads c.args.word.now h))
    ]
