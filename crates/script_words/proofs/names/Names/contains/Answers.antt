use Rattle.std.proofs.Common.{sym, ap, ◌∙◌, bytes_eq}
use Rattle.std.specs.List.{list_any}
use Rattle.script_words.proofs.NameLaws.{list_any-map}
use Rattle.script_words.proofs.names.Names.contains.Goals as goal

pub returns : goal.returns
returns c =
    c.contains.ensures ∙ sym (list_any-map (λ v. v.items) (bytes_eq c.args.name.now) c.self.inside.set.keys) ∙ ap (list_any (bytes_eq c.args.name.now)) c.self.view_is
