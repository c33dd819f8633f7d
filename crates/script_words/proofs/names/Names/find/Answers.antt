use Rattle.std.proofs.Common.{ℕ, sym, ap, ◌∙◌, bytes_eq}
use Rattle.std.specs.Prelude.{option_map}
use Rattle.std.specs.List.{position}
use Rattle.ttm_base.specs.declared.BufId.{BufId}
use Rattle.script_words.proofs.NameLaws.{position-map}
use Rattle.script_words.proofs.names.Names.find.Goals as goal

pub returns-in-Some : goal.returns-in-Some
returns-in-Some c =
    let at = sym (ap (position (bytes_eq c.args.name.now)) c.self.view_is) ∙ position-map (λ v. v.items) (bytes_eq c.args.name.now) c.self.inside.set.keys ∙ sym c.get_index_of.ensures.index ∙ c.in-Some.is in
    let made : ℕ → BufId = λ i. record { 0 = i } in
    sym (ap (option_map made) at)

pub returns-in-None : goal.returns-in-None
returns-in-None c =
    let at = sym (ap (position (bytes_eq c.args.name.now)) c.self.view_is) ∙ position-map (λ v. v.items) (bytes_eq c.args.name.now) c.self.inside.set.keys ∙ sym c.get_index_of.ensures.index ∙ c.in-None.is in
    let made : ℕ → BufId = λ i. record { 0 = i } in
    sym (ap (option_map made) at)
