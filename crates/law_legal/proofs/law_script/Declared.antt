-- What lines that fit have mapped is declared.
use Rattle.std.proofs.Common.{◌≡◌, Bool, true, false, cond, eqb, List, [], ◌∷◌, length, Some, refl, ap, ◌∙◌}
use Rattle.std.specs.Prelude.{◌||◌, not, filter, nat_lt}
use Rattle.std.specs.List.{list_all}
use Rattle.std.proofs.lemmas.Bool.{eqb-true}
use Rattle.ttm_base.specs.declared.BufId.{BufId}
use Rattle.journal_model.specs.declared.script.Script.{Script}
use Rattle.journal_model.specs.declared.script.Command.{Command}
use Rattle.journal_model.specs.declared.script.MarkKind.{MarkKind}
use Rattle.journal_model.specs.declared.script.MarkKind.TheVariants as mark
use Rattle.journal_model.specs.rules.State.{has_buffer, same_buffer}
use Rattle.journal_model.specs.scripts.CommandRules.{is_declared}
use Rattle.journal_model.specs.scripts.MarkRules.{ThreadMappings, thread_mappings_after, is_mark, is_way}
use Rattle.law_legal.specs.law_items.Items.{Item, Alone, Asks, thread_mappings_behind, item_fits}
use Rattle.law_legal.proofs.law_items.Tests.{both, joint}

same_declared : (s : Script) (t : Bool) (b c : BufId) → eqb b.0 c.0 ≡ t → t ≡ true → is_declared s c ≡ true → is_declared s b ≡ true
same_declared s true b c e h k = ap (λ n. nat_lt n (length s.buffers)) (eqb-true b.0 c.0 e) ∙ k
same_declared s false b c e h k = absurd cc

found : (s : Script) (t : Bool) (bs : List BufId) (b c : BufId) → eqb b.0 c.0 ≡ t → is_declared s c ≡ true → (has_buffer bs b ≡ true → is_declared s b ≡ true) → (t || has_buffer bs b) ≡ true → is_declared s b ≡ true
found s true bs b c e h rest k = same_declared s true b c e refl h
found s false bs b c e h rest k = rest k

-- a buffer of the list is declared
pub declared_of : (s : Script) (bs : List BufId) (b : BufId) → list_all (is_declared s) bs ≡ true → has_buffer bs b ≡ true → is_declared s b ≡ true
declared_of s [] b h k = absurd cc
declared_of s (c ∷ bs) b h k =
    let f = both (is_declared s c) (list_all (is_declared s) bs) h in
    found s (eqb b.0 c.0) bs b c refl f.0 (declared_of s bs b f.1) k

with_first : (s : Script) (t : Bool) (b : BufId) (bs : List BufId) → is_declared s b ≡ true → list_all (is_declared s) bs ≡ true → list_all (is_declared s) (cond t (b ∷ bs) bs) ≡ true
with_first s true b bs h k = joint (is_declared s b) (list_all (is_declared s) bs) h k
with_first s false b bs h k = k

kept : (s : Script) (p : BufId → Bool) (bs : List BufId) → list_all (is_declared s) bs ≡ true → list_all (is_declared s) (filter p bs) ≡ true
kept s p [] h = refl
kept s p (b ∷ bs) h =
    let f = both (is_declared s b) (list_all (is_declared s) bs) h in
    with_first s (p b) b (filter p bs) f.0 (kept s p bs f.1)

-- all that is mapped is declared
abbrev pub AreThere : Script → ThreadMappings → Type 0
AreThere s d = list_all (is_declared s) d.mapped ≡ true

mark_keeps : (s : Script) (d : ThreadMappings) (m : MarkKind) → is_mark s d m ≡ true → AreThere s d → AreThere s (thread_mappings_after d m)
mark_keeps s d (mark.Map b) h r = joint (is_declared s b) (list_all (is_declared s) d.mapped) (both (is_declared s b) (not (has_buffer d.mapped b)) h).0 r
mark_keeps s d (mark.Unmap b) h r = kept s (λ c. not (same_buffer b c)) d.mapped r
mark_keeps s d (mark.Vmap va n b off) h r = r
mark_keeps s d (mark.Vunmap va n) h r = r
mark_keeps s d mark.Mapped h r = absurd cc
mark_keeps s d (mark.Vsubmit vs) h r = absurd cc

way_keeps : (s : Script) (d : ThreadMappings) (way : MarkKind) (c : Command) → is_way d way (Some c) ≡ true → AreThere s d → AreThere s (thread_mappings_after d way)
way_keeps s d mark.Mapped c h r = r
way_keeps s d (mark.Vsubmit vs) c h r = r
way_keeps s d (mark.Map b) c h r = absurd cc
way_keeps s d (mark.Unmap b) c h r = absurd cc
way_keeps s d (mark.Vmap va n b off) c h r = absurd cc
way_keeps s d (mark.Vunmap va n) c h r = absurd cc

-- a line that fits keeps this
pub item_keeps : (s : Script) (d : ThreadMappings) (item : Item) → item_fits s d item ≡ true → AreThere s d → AreThere s (thread_mappings_behind d item)
item_keeps s d (Alone m) h r = mark_keeps s d m (both (eqb s.version 2) (is_mark s d m) h).1 r
item_keeps s d (Asks [] c) h r = r
item_keeps s d (Asks (way ∷ []) c) h r = way_keeps s d way c (both (eqb s.version 2) (is_way d way (Some c)) h).1 r
item_keeps s d (Asks (way ∷ other ∷ ways) c) h r = absurd cc
