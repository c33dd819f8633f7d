use Rattle.std.proofs.Common.{◌≡◌, true, subst}
use Rattle.journal_model.specs.declared.script.Script.{Script}
use Rattle.journal_model.specs.scripts.ScriptRules.{is_script}
use Rattle.map_access.proofs.search.MarkSearch.keeps_rules.Goals as goal

pub returns : goal.returns
returns c = λ known.
    let same : c.self.inside.script.now ≡ c.args.self.now = let seen = c.self.view_is in cc in
    subst (λ (s : Script). is_script s ≡ true) same (c.self.invariant.rules known)
