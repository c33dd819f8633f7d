-- The buffers that are gathered are the first mentions.
use Rattle.std.proofs.Common.{◌≡◌, Bool, true, false, cond, List, [], ◌∷◌, ◌++◌, refl, sym, ap, ◌∙◌, append_assoc}
use Rattle.std.specs.Prelude.{fold, ◌||◌}
use Rattle.std.proofs.lemmas.List.{append-nil}
use Rattle.ttm_base.specs.declared.BufId.{BufId}
use Rattle.journal_model.specs.rules.State.{has_buffer, same_buffer}
use Rattle.journal_model.specs.rules.Commands.{first_mentions}
use Rattle.script_rules.specs.Mentions.{mentioned}

-- both lists have the same buffers
abbrev SameMembers : List BufId → List BufId → Type 0
SameMembers s t = (b : BufId) → has_buffer s b ≡ has_buffer t b

either : (x y z w : Bool) → y ≡ w → (x ≡ z) → (x || y) ≡ (z || w)
either x y z w p q = ap (λ a. x || a) p ∙ ap (λ a. a || w) q

or_nothing : (x : Bool) → (x || false) ≡ x
or_nothing true = refl
or_nothing false = refl

or_swap : (x y z : Bool) → (x || (y || z)) ≡ (y || (x || z))
or_swap true true z = refl
or_swap true false z = refl
or_swap false y z = refl

one_more : (s : List BufId) (c b : BufId) → has_buffer (s ++ c ∷ []) b ≡ has_buffer (c ∷ s) b
one_more [] c b = refl
one_more (x ∷ s) c b = ap (λ r. same_buffer b x || r) (one_more s c b) ∙ or_swap (same_buffer b x) (same_buffer b c) (has_buffer s b)

grown : (s t : List BufId) (c : BufId) → SameMembers s t → SameMembers (s ++ c ∷ []) (c ∷ t)
grown s t c h b = one_more s c b ∙ ap (λ r. same_buffer b c || r) (h b)

by_case : (x y : Bool) (s t : List BufId) (b : BufId) (bs : List BufId) → x ≡ y → SameMembers s t
    → ((u v : List BufId) → SameMembers u v → fold mentioned u bs ≡ u ++ first_mentions v bs)
    → fold mentioned (cond x s (s ++ b ∷ [])) bs ≡ s ++ cond y (first_mentions t bs) (b ∷ first_mentions (b ∷ t) bs)
by_case true true s t b bs h same rest = rest s t same
by_case false false s t b bs h same rest = rest (s ++ b ∷ []) (b ∷ t) (grown s t b same) ∙ append_assoc s (b ∷ []) (first_mentions (b ∷ t) bs)
by_case true false s t b bs h same rest = absurd cc
by_case false true s t b bs h same rest = absurd cc

gathered : (s t : List BufId) (bs : List BufId) → SameMembers s t → fold mentioned s bs ≡ s ++ first_mentions t bs
gathered s t [] same = sym (append-nil s)
gathered s t (b ∷ bs) same = by_case (has_buffer s b) (has_buffer t b) s t b bs (same b) same (λ u v h. gathered u v bs h)

pub gathered_all : (bs : List BufId) → fold mentioned [] bs ≡ first_mentions [] bs
gathered_all bs = gathered [] [] bs (λ b. refl)
