use Rattle.std.proofs.Common.{rules, List, ap, sym, subst, ◌∙◌, ◌∷◌, Some}
use Rattle.atomic_table.specs.Table.{rest}
use Rattle.turn_lock.specs.Growing.{Grows}
use Rattle.turn_lock.proofs.Keeps.{publishes, advances}
use Rattle.turn_lock.proofs.turns.Turns.give.Goals as goal

pub store-requires : goal.store-requires
store-requires g c = let e = c.exchange-lent.ensures.3 in let y = c.args.held.value in (
  search rules,
  search rules,
  publishes g.V.Logged.list g.V.Logged.root g.V.Logged.done _ _ _ _ _ c.requires.holder.0.0 _ y g.met.V.Logged.done_grows (ap (λ m. m.0.stage) e ∙ c.requires.holder.0.1)
      (ap (λ m. m.1) e ∙ ap (λ q. (0, Some y) ∷ rest q) c.requires.holder.1)
      (subst (λ (l : List g.row.V-Item.Denot). Grows l (g.V.Logged.list y)) (ap (λ m. m.0.seen) (sym e)) c.requires.grows)
      (ap (λ m. m.0.root) e ∙ c.requires.root)
      c.count-count.ensures,
)

pub fetch_add-number-requires : goal.fetch_add-number-requires
fetch_add-number-requires g c = let e = c.exchange-lent.ensures.3 in let y = c.args.held.value in
    let carries = ap (λ m. m.1) e ∙ ap (λ q. (0, Some y) ∷ rest q) c.requires.holder.1 in
    let p = (c.store.ensures.2 y carries).1 in (
      search rules,
      search rules,
      advances g.V.Logged.list g.V.Logged.root g.V.Logged.done _ _ _ _ _ c.requires.holder.0.0 y
          (ap (λ m. m.0.stage) p ∙ (ap (λ m. m.0.stage) e ∙ c.requires.holder.0.1))
          (ap (λ m. m.1) p ∙ carries)
          (ap (λ m. m.0.seen) (sym p))
          (ap (λ m. m.0.root) p ∙ (ap (λ m. m.0.root) e ∙ c.requires.root)),
    )
