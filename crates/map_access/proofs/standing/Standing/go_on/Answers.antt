use Rattle.std.proofs.Common.{◌≡◌, ℕ, List, Option, subst}
use Rattle.std.proofs.lemmas.Result.{on_ok_weaker}
use Rattle.map_access.specs.Passing.{Stands}
use Rattle.map_access.proofs.Passed.{stand_next}
use Rattle.map_access.proofs.standing.Standing.go_on.Goals as goal

pub returns : goal.returns
returns c =
    let same : c.args.self.now ≡ c.self.inside.starts = let seen = c.self.view_is in cc in
    on_ok_weaker c.pass.result
    (stand_next c.args.search.now c.args.thread c.args.n c.self.inside.starts c.pass.new.starts
    (subst (λ (starts : List (Option ℕ)). Stands c.args.search.now c.args.thread c.args.n starts) same c.requires.here))
    c.pass.ensures
