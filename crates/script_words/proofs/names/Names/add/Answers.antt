use Rattle.std.proofs.Common.{sym, ap, ◌∙◌, bytes_eq}
use Rattle.std.specs.List.{list_any}
use Rattle.script_words.proofs.NameLaws.{added, list_any-map}
use Rattle.script_words.proofs.names.Names.add.Goals as goal

pub returns-clause-ok : goal.returns-clause-ok
returns-clause-ok c =
    let absent = sym (list_any-map (λ v. v.items) (bytes_eq c.in_ok-name.name.items) c.self.inside.set.keys) ∙ ap (list_any (bytes_eq c.in_ok-name.name.items)) c.self.view_is
    ∙ ap (λ n. list_any (bytes_eq n) c.args.self.now) c.in_ok-name.ensures.items ∙ c.requires in
    added (λ v. v.items) _ c.self.inside.set.keys _ c.in_ok-name.name _ _ absent c.in_ok-insert.ensures.keys c.self.view_is c.in_ok-name.ensures.items
