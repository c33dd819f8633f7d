-- The bytes of a text that show, cut as far as the loop has come.
use Rattle.std.proofs.Common.{◌≡◌, ℕ, suc, ◌+◌, ◌-◌, ◌≤◌, ◌<◌, Bool, true, false, cond, eqb, List, [], ◌∷◌, ◌++◌, take, drop, length, get_or, length-drop, refl, sym, ap, ◌∙◌, append_assoc, arith, add-one}
use Rattle.std.specs.Prelude.{not, ◌||◌}
use Rattle.std.proofs.lemmas.Bool.Decides.{nat_tests}
use Rattle.std.proofs.Math.Seq.{take-suc}
use Rattle.std.proofs.lemmas.List.{append-nil, get_or-drop}
use Rattle.journal_model.specs.scripts.Cut.{cut_at, onto}
use Rattle.journal_model.specs.scripts.FirstFault.{is_shown}
use Rattle.journal_model.specs.scripts.Words.{Text}
use Rattle.script_words.specs.Lines.{shown, shown_len}
use Rattle.script_words.proofs.Cuts.{behind, behind-nil, behind-onto, drop_here}

-- ---- the next byte

shown_len-more : (b : ℕ) (bs : Text) → is_shown b ≡ true → shown_len (b ∷ bs) ≡ shown_len bs + 1
shown_len-more b bs h = ap (λ t. cond t (shown_len bs + 1) 0) h

shown_len-ends : (b : ℕ) (bs : Text) → is_shown b ≡ false → shown_len (b ∷ bs) ≡ 0
shown_len-ends b bs h = ap (λ t. cond t (shown_len bs + 1) 0) h

shown-more : (b : ℕ) (bs : Text) → is_shown b ≡ true → shown (b ∷ bs) ≡ b ∷ shown bs
shown-more b bs h = ap (λ n. take n (b ∷ bs)) (shown_len-more b bs h ∙ add-one (shown_len bs))

shown-ends : (b : ℕ) (bs : Text) → is_shown b ≡ false → shown (b ∷ bs) ≡ []
shown-ends b bs h = ap (λ n. take n (b ∷ bs)) (shown_len-ends b bs h)

-- ---- how many show

pub len_more : (text : Text) (i : ℕ) → i < length text → is_shown (get_or text i 0) ≡ true → i + shown_len (drop i text) ≡ shown_len text
    → (i + 1) + shown_len (drop (i + 1) text) ≡ shown_len text
len_more text i lt h so_far =
    let here : shown_len (drop i text) ≡ shown_len (drop (i + 1) text) + 1 = ap shown_len (drop_here text i 0 lt) ∙ shown_len-more (get_or text i 0) (drop (i + 1) text) h in
    omega (arith, here, so_far)

pub len_ends : (text : Text) (i : ℕ) → i < length text → is_shown (get_or text i 0) ≡ false → i + shown_len (drop i text) ≡ shown_len text → i ≡ shown_len text
len_ends text i lt h so_far =
    let here : shown_len (drop i text) ≡ 0 = ap shown_len (drop_here text i 0 lt) ∙ shown_len-ends (get_or text i 0) (drop (i + 1) text) h in
    omega (arith, here, so_far)

-- ---- the words so far

pub word_ends : (text : Text) (start i : ℕ) (done all : List Text) → i < length text → is_shown (get_or text i 0) ≡ true → eqb (get_or text i 0) 32 ≡ true
    → done ++ behind (take (i - start) (drop start text)) (cut_at 32 (shown (drop i text))) ≡ all
    → (done ++ take (i - start) (drop start text) ∷ []) ++ behind (take (i + 1 - (i + 1)) (drop (i + 1) text)) (cut_at 32 (shown (drop (i + 1) text))) ≡ all
word_ends text start i done all lt h hit so_far =
    let group = take (i - start) (drop start text) in
    let rest = drop (i + 1) text in
    let b = get_or text i 0 in
    let none : i + 1 - (i + 1) ≡ 0 = omega arith in
    let cut : cut_at 32 (shown (drop i text)) ≡ [] ∷ cut_at 32 (shown rest) =
    ap (λ t. cut_at 32 (shown t)) (drop_here text i 0 lt) ∙ ap (cut_at 32) (shown-more b rest h) ∙ ap (λ t. cond t ([] ∷ cut_at 32 (shown rest)) (onto b (cut_at 32 (shown rest)))) hit in
    ap (λ k. (done ++ group ∷ []) ++ behind (take k rest) (cut_at 32 (shown rest))) none
    ∙ ap (λ ps. (done ++ group ∷ []) ++ ps) (behind-nil (λ c. eqb c 32) (shown rest))
    ∙ append_assoc done (group ∷ []) (cut_at 32 (shown rest))
    ∙ sym (ap (λ g. done ++ g ∷ cut_at 32 (shown rest)) (append-nil group))
    ∙ sym (ap (λ ps. done ++ behind group ps) cut)
    ∙ so_far

pub word_goes_on : (text : Text) (start i : ℕ) (done all : List Text) → start ≤ i → i < length text → is_shown (get_or text i 0) ≡ true → eqb (get_or text i 0) 32 ≡ false
    → done ++ behind (take (i - start) (drop start text)) (cut_at 32 (shown (drop i text))) ≡ all
    → done ++ behind (take (i + 1 - start) (drop start text)) (cut_at 32 (shown (drop (i + 1) text))) ≡ all
word_goes_on text start i done all le lt h miss so_far =
    let group = take (i - start) (drop start text) in
    let rest = drop (i + 1) text in
    let b = get_or text i 0 in
    let k : i + 1 - start ≡ suc (i - start) = omega arith in
    let at : start + (i - start) ≡ i = omega arith in
    let within : i - start < length (drop start text) = omega (arith, length-drop start text) in
    let item : get_or (drop start text) (i - start) 0 ≡ b = get_or-drop start text (i - start) 0 ∙ ap (λ n. get_or text n 0) at in
    let grown : take (i + 1 - start) (drop start text) ≡ group ++ b ∷ [] =
    ap (λ n. take n (drop start text)) k ∙ take-suc (drop start text) (i - start) 0 within ∙ ap (λ x. group ++ x ∷ []) item in
    let cut : cut_at 32 (shown (drop i text)) ≡ onto b (cut_at 32 (shown rest)) =
    ap (λ t. cut_at 32 (shown t)) (drop_here text i 0 lt) ∙ ap (cut_at 32) (shown-more b rest h) ∙ ap (λ t. cond t ([] ∷ cut_at 32 (shown rest)) (onto b (cut_at 32 (shown rest)))) miss in
    let step : behind group (cut_at 32 (shown (drop i text))) ≡ behind (group ++ b ∷ []) (cut_at 32 (shown rest)) = ap (behind group) cut ∙ behind-onto group b (cut_at 32 (shown rest)) in
    ap (λ g. done ++ behind g (cut_at 32 (shown rest))) grown ∙ sym (ap (λ ps. done ++ ps) step) ∙ so_far

pub last_word : (text : Text) (start i : ℕ) (done all : List Text) → i < length text → is_shown (get_or text i 0) ≡ false
    → done ++ behind (take (i - start) (drop start text)) (cut_at 32 (shown (drop i text))) ≡ all
    → done ++ take (i - start) (drop start text) ∷ [] ≡ all
last_word text start i done all lt h so_far =
    let group = take (i - start) (drop start text) in
    let cut : cut_at 32 (shown (drop i text)) ≡ [] ∷ [] =
    ap (λ t. cut_at 32 (shown t)) (drop_here text i 0 lt) ∙ ap (cut_at 32) (shown-ends (get_or text i 0) (drop (i + 1) text) h) in
    sym (ap (λ g. done ++ g ∷ []) (append-nil group)) ∙ sym (ap (λ ps. done ++ behind group ps) cut) ∙ so_far

-- ---- where a word ends

pub space_shows : (b : ℕ) → eqb b 32 ≡ true → is_shown b ≡ true
space_shows b h = grind (arith, nat_tests)

no_either : (s e : Bool) → (not s || e) ≡ false → (s ≡ true) × (e ≡ false)
no_either true e h = (refl, h)
no_either false e h = absurd cc

pub no_end : (b : ℕ) → (not (is_shown b) || eqb b 32) ≡ false → (is_shown b ≡ true) × (eqb b 32 ≡ false)
no_end b h = no_either (is_shown b) (eqb b 32) h

one_of : (s e : Bool) → (not s || e) ≡ true → e ≡ false → s ≡ false
one_of false e h g = refl
one_of true e h g = absurd cc

pub some_end : (b : ℕ) → (not (is_shown b) || eqb b 32) ≡ true → eqb b 32 ≡ false → is_shown b ≡ false
some_end b h g = one_of (is_shown b) (eqb b 32) h g
