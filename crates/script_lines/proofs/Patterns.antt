-- A pattern on a slice, and the same on its list.
use Rattle.std.proofs.Common.{◌≡◌, ℕ, suc, ◌≤◌, List, [], ◌∷◌, length, get_or, drop, Some, ap, ◌∙◌, Bool, arith, zero, take, ◌-◌, length-drop}
use Rattle.std.proofs.lemmas.Grind.{common_steps}
use Rattle.journal_model.specs.declared.line.Access.{Access}
use Rattle.journal_model.specs.declared.line.Line.{Line}
use Rattle.journal_model.specs.declared.line.Line.TheVariants as line
use Rattle.journal_model.specs.declared.line.BufferHead.{BufferHead}
use Rattle.journal_model.specs.scripts.Words.{Text}
use Rattle.journal_model.specs.scripts.LineWords.{read_line, read_parts, buffer_line_of, lists_line, has_head_words, buffer_head_of, vmap_line, vunmap_line, op_words_of, submit_of_ops, submit_line, vop_words_of, vsubmit_of_ops, vsubmit_line}
use Rattle.journal_model.specs.scripts.Reading.{number_in, known, engine_word_of}

pub read_is : (how : Access) (names : List Text) (xs : List Text) (b off len : Text) → length xs ≡ 4 → b ≡ get_or xs 1 b → off ≡ get_or xs 2 off → len ≡ get_or xs 3 len
    → Some (read_parts how names b off len) ≡ read_line how names xs
read_is how names [] b off len h p q r = absurd (omega (arith, h))
read_is how names (w ∷ []) b off len h p q r = absurd (omega (arith, h))
read_is how names (w ∷ x ∷ []) b off len h p q r = absurd (omega (arith, h))
read_is how names (w ∷ x ∷ y ∷ []) b off len h p q r = absurd (omega (arith, h))
read_is how names (w ∷ x ∷ y ∷ z ∷ []) b off len h p q r = ap (λ t. Some (read_parts how names t off len)) p ∙ ap (λ t. Some (read_parts how names x t len)) q ∙ ap (λ t. Some (read_parts how names x y t)) r
read_is how names (w ∷ x ∷ y ∷ z ∷ v ∷ vs) b off len h p q r = absurd (omega (arith, h))

pub buffer_is : (two fits : Bool) (head : BufferHead) (xs : List Text) (n p a r b g c e : Text) → 9 ≤ length xs
    → n ≡ get_or xs 1 n → p ≡ get_or xs 2 p → a ≡ get_or xs 3 a → r ≡ get_or xs 4 r → b ≡ get_or xs 5 b → g ≡ get_or xs 6 g → c ≡ get_or xs 7 c → e ≡ get_or xs 8 e
    → fits ≡ has_head_words a b c → head ≡ buffer_head_of n p r g e → lists_line two fits head (drop 9 xs) ≡ buffer_line_of two xs
buffer_is two fits head [] n p a r b g c e h q1 q2 q3 q4 q5 q6 q7 q8 f l = absurd (omega (arith, h))
buffer_is two fits head (w ∷ []) n p a r b g c e h q1 q2 q3 q4 q5 q6 q7 q8 f l = absurd (omega (arith, h))
buffer_is two fits head (w ∷ x1 ∷ []) n p a r b g c e h q1 q2 q3 q4 q5 q6 q7 q8 f l = absurd (omega (arith, h))
buffer_is two fits head (w ∷ x1 ∷ x2 ∷ []) n p a r b g c e h q1 q2 q3 q4 q5 q6 q7 q8 f l = absurd (omega (arith, h))
buffer_is two fits head (w ∷ x1 ∷ x2 ∷ x3 ∷ []) n p a r b g c e h q1 q2 q3 q4 q5 q6 q7 q8 f l = absurd (omega (arith, h))
buffer_is two fits head (w ∷ x1 ∷ x2 ∷ x3 ∷ x4 ∷ []) n p a r b g c e h q1 q2 q3 q4 q5 q6 q7 q8 f l = absurd (omega (arith, h))
buffer_is two fits head (w ∷ x1 ∷ x2 ∷ x3 ∷ x4 ∷ x5 ∷ []) n p a r b g c e h q1 q2 q3 q4 q5 q6 q7 q8 f l = absurd (omega (arith, h))
buffer_is two fits head (w ∷ x1 ∷ x2 ∷ x3 ∷ x4 ∷ x5 ∷ x6 ∷ []) n p a r b g c e h q1 q2 q3 q4 q5 q6 q7 q8 f l = absurd (omega (arith, h))
buffer_is two fits head (w ∷ x1 ∷ x2 ∷ x3 ∷ x4 ∷ x5 ∷ x6 ∷ x7 ∷ []) n p a r b g c e h q1 q2 q3 q4 q5 q6 q7 q8 f l = absurd (omega (arith, h))
buffer_is two fits head (w ∷ x1 ∷ x2 ∷ x3 ∷ x4 ∷ x5 ∷ x6 ∷ x7 ∷ x8 ∷ rest) n p a r b g c e h q1 q2 q3 q4 q5 q6 q7 q8 f l =
    let words : has_head_words a b c ≡ has_head_words x3 x5 x7 = ap (λ t. has_head_words t b c) q3 ∙ ap (λ t. has_head_words x3 t c) q5 ∙ ap (λ t. has_head_words x3 x5 t) q7 in
    let made : buffer_head_of n p r g e ≡ buffer_head_of x1 x2 x4 x6 x8 =
    ap (λ t. buffer_head_of t p r g e) q1 ∙ ap (λ t. buffer_head_of x1 t r g e) q2 ∙ ap (λ t. buffer_head_of x1 x2 t g e) q4 ∙ ap (λ t. buffer_head_of x1 x2 x4 t e) q6 ∙ ap (λ t. buffer_head_of x1 x2 x4 x6 t) q8 in
    ap (λ t. lists_line two t head rest) (f ∙ words) ∙ ap (λ t. lists_line two (has_head_words x3 x5 x7) t rest) (l ∙ made)

take_whole : {X : Type 0} (xs : List X) (n : ℕ) → length xs ≤ n → take n xs ≡ xs
take_whole [] n h = grind (arith, common_steps)
take_whole (x ∷ xs) zero h = absurd (omega (arith, h))
take_whole (x ∷ xs) (suc n) h = ap (λ ys. x ∷ ys) (take_whole xs n (omega (arith, h)))

-- what is left of a slice after a front
pub rest_whole : {X : Type 0} (n : ℕ) (xs : List X) → take (length xs - n) (drop n xs) ≡ drop n xs
rest_whole n xs = take_whole (drop n xs) (length xs - n) (omega (arith, length-drop n xs))

pub vunmap_is : (xs : List Text) (va n : Text) → length xs ≡ 3 → va ≡ get_or xs 1 va → n ≡ get_or xs 2 n → Some (line.Vunmap (number_in 0 1048575 va) (number_in 1 4096 n)) ≡ vunmap_line xs
vunmap_is [] va n h p q = absurd (omega (arith, h))
vunmap_is (w ∷ []) va n h p q = absurd (omega (arith, h))
vunmap_is (w ∷ x ∷ []) va n h p q = absurd (omega (arith, h))
vunmap_is (w ∷ x ∷ y ∷ []) va n h p q = ap (λ t. Some (line.Vunmap (number_in 0 1048575 t) (number_in 1 4096 n))) p ∙ ap (λ t. Some (line.Vunmap (number_in 0 1048575 x) (number_in 1 4096 t))) q
vunmap_is (w ∷ x ∷ y ∷ z ∷ zs) va n h p q = absurd (omega (arith, h))

-- a vmap by its words
abbrev vmap_parts : List Text → Text → Text → Text → Text → Line
vmap_parts names va n b off = line.Vmap (number_in 0 1048575 va) (number_in 1 4096 n) (known names b) (number_in 0 4095 off)

pub vmap_is : (names xs : List Text) (va n b off : Text) → length xs ≡ 5 → va ≡ get_or xs 1 va → n ≡ get_or xs 2 n → b ≡ get_or xs 3 b → off ≡ get_or xs 4 off
    → Some (line.Vmap (number_in 0 1048575 va) (number_in 1 4096 n) (known names b) (number_in 0 4095 off)) ≡ vmap_line names xs
vmap_is names [] va n b off h p q r s = absurd (omega (arith, h))
vmap_is names (w ∷ []) va n b off h p q r s = absurd (omega (arith, h))
vmap_is names (w ∷ x ∷ []) va n b off h p q r s = absurd (omega (arith, h))
vmap_is names (w ∷ x ∷ y ∷ []) va n b off h p q r s = absurd (omega (arith, h))
vmap_is names (w ∷ x ∷ y ∷ z ∷ []) va n b off h p q r s = absurd (omega (arith, h))
vmap_is names (w ∷ x ∷ y ∷ z ∷ v ∷ []) va n b off h p q r s =
    ap (λ t. Some (vmap_parts names t n b off)) p ∙ ap (λ t. Some (vmap_parts names x t b off)) q ∙ ap (λ t. Some (vmap_parts names x y t off)) r ∙ ap (λ t. Some (vmap_parts names x y z t)) s
vmap_is names (w ∷ x ∷ y ∷ z ∷ v ∷ u ∷ us) va n b off h p q r s = absurd (omega (arith, h))

pub submit_is : (names xs : List Text) (engines : ℕ) (number : Text) → 2 ≤ length xs → number ≡ get_or xs 1 number
    → submit_of_ops (engine_word_of engines number) (op_words_of names (take (length xs - 2) (drop 2 xs))) ≡ submit_line names engines xs
submit_is names [] engines number h p = absurd (omega (arith, h))
submit_is names (w ∷ []) engines number h p = absurd (omega (arith, h))
submit_is names (w ∷ x ∷ ws) engines number h p =
    ap (λ t. submit_of_ops (engine_word_of engines number) (op_words_of names t)) (rest_whole 2 (w ∷ x ∷ ws)) ∙ ap (λ t. submit_of_ops (engine_word_of engines t) (op_words_of names ws)) p

pub vsubmit_is : (xs : List Text) (engines : ℕ) (number : Text) → 2 ≤ length xs → number ≡ get_or xs 1 number
    → vsubmit_of_ops (engine_word_of engines number) (vop_words_of (take (length xs - 2) (drop 2 xs))) ≡ vsubmit_line engines xs
vsubmit_is [] engines number h p = absurd (omega (arith, h))
vsubmit_is (w ∷ []) engines number h p = absurd (omega (arith, h))
vsubmit_is (w ∷ x ∷ ws) engines number h p =
    ap (λ t. vsubmit_of_ops (engine_word_of engines number) (vop_words_of t)) (rest_whole 2 (w ∷ x ∷ ws)) ∙ ap (λ t. vsubmit_of_ops (engine_word_of engines t) (vop_words_of ws)) p
