-- Parts of a list of bytes, place by place.
use Rattle.std.proofs.Common.{◌≡◌, ℕ, zero, suc, ◌+◌, ◌<◌, ◌≤◌, List, [], ◌∷◌, ◌++◌, length, take, drop, get_or, set, bit_xor, refl, ap, ◌∙◌, sym, arith}
use Rattle.std.proofs.lemmas.List.{take_more_set}
use Rattle.std.proofs.lemmas.Grind.{common_steps}
use Rattle.byte_store.specs.Parts.{filled, overwritten, part, xored}

-- how long they are
pub length-filled : (len byte : ℕ) → length (filled len byte) ≡ len
unfolding filled
length-filled len byte = grind (arith, common_steps)

pub length-overwritten : (bytes : List ℕ) (at : ℕ) (others : List ℕ) → at + length others ≤ length bytes → length (overwritten bytes at others) ≡ length bytes
length-overwritten bytes at others h = grind (arith, common_steps)

pub length-part : (bytes : List ℕ) (at len : ℕ) → at + len ≤ length bytes → length (part bytes at len) ≡ len
length-part bytes at len h = grind (arith, common_steps)

-- what stands where
pub get_or-filled : (len byte i d : ℕ) → i < len → get_or (filled len byte) i d ≡ byte
unfolding filled
get_or-filled len byte i d h = grind (arith, common_steps)

pub get_or-part : (bytes : List ℕ) (at len i d : ℕ) → i < len → at + len ≤ length bytes → get_or (part bytes at len) i d ≡ get_or bytes (at + i) d
get_or-part bytes at len i d lt h = grind (arith, common_steps)

pub get_or-overwritten_below : (bytes : List ℕ) (at : ℕ) (others : List ℕ) (i d : ℕ) → i < at → at ≤ length bytes → get_or (overwritten bytes at others) i d ≡ get_or bytes i d
get_or-overwritten_below bytes at others i d lt h = grind (arith, common_steps)

pub get_or-overwritten_inside : (bytes : List ℕ) (at : ℕ) (others : List ℕ) (i d : ℕ) → i < length others → at ≤ length bytes
    → get_or (overwritten bytes at others) (at + i) d ≡ get_or others i d
get_or-overwritten_inside bytes at others i d lt h = grind (arith, common_steps)

pub get_or-overwritten_behind : (bytes : List ℕ) (at : ℕ) (others : List ℕ) (i d : ℕ) → at + length others ≤ i → at + length others ≤ length bytes
    → get_or (overwritten bytes at others) i d ≡ get_or bytes i d
get_or-overwritten_behind bytes at others i d le h = grind (arith, common_steps)

-- ---- exclusive or

pub length-xored : (xs ys : List ℕ) → length xs ≡ length ys → length (xored xs ys) ≡ length xs
length-xored [] ys h = refl
length-xored (x ∷ xs) [] h = cc
length-xored (x ∷ xs) (y ∷ ys) h = ap suc (length-xored xs ys (omega arith))

-- one byte more
pub xored_more : (xs ys : List ℕ) (i : ℕ) → i < length xs → i < length ys
    → xored (take (suc i) xs) (take (suc i) ys) ≡ xored (take i xs) (take i ys) ++ bit_xor (get_or xs i 0) (get_or ys i 0) ∷ []
xored_more [] ys i h k = absurd (omega arith)
xored_more (x ∷ xs) [] i h k = absurd (omega arith)
xored_more (x ∷ xs) (y ∷ ys) zero h k = refl
xored_more (x ∷ xs) (y ∷ ys) (suc i) h k = ap (λ zs. bit_xor x y ∷ zs) (xored_more xs ys i (omega arith) (omega arith))

-- what stands where
pub get_or-xored : (xs ys : List ℕ) (i : ℕ) → i < length xs → i < length ys → get_or (xored xs ys) i 0 ≡ bit_xor (get_or xs i 0) (get_or ys i 0)
get_or-xored [] ys i h k = absurd (omega arith)
get_or-xored (x ∷ xs) [] i h k = absurd (omega arith)
get_or-xored (x ∷ xs) (y ∷ ys) zero h k = refl
get_or-xored (x ∷ xs) (y ∷ ys) (suc i) h k = get_or-xored xs ys i (omega arith) (omega arith)

-- a list whose bytes from a place on are those of another has its byte there
pub same_byte : (xs ys : List ℕ) (i : ℕ) → drop i xs ≡ drop i ys → get_or xs i 0 ≡ get_or ys i 0
same_byte xs ys i h = grind (arith, common_steps)

-- after a step of the loop
pub xor_step : (old now from : List ℕ) (i : ℕ) → i < length now → length now ≡ length old → i < length from → take i now ≡ xored (take i old) (take i from)
    → drop i now ≡ drop i old
    → take (i + 1) (set now i (bit_xor (get_or now i 0) (get_or from i 0))) ≡ xored (take (i + 1) old) (take (i + 1) from)
xor_step old now from i h l k done others =
    let e : i + 1 ≡ suc i = omega arith in
    let more : i < length old = omega arith in
    take_more_set now i (bit_xor (get_or now i 0) (get_or from i 0))
    h ∙ ap (λ t. t ++ bit_xor (get_or now i 0) (get_or from i 0) ∷ []) done
    ∙ ap (λ n. xored (take i old) (take i from) ++ bit_xor n (get_or from i 0) ∷ []) (same_byte now old i others)
    ∙ sym (xored_more old from i more k) ∙ ap (λ n. xored (take n old) (take n from)) (sym e)
