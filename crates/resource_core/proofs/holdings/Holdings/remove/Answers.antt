use Rattle.std.proofs.Common.{◌≡◌, ◌+◌, length, get_or, is_some, ap, sym, ◌∙◌, arith}
use Rattle.std.specs.HashMap.{get_by}
use Rattle.std.proofs.lemmas.Bool.{ltb-true, ltb-false}
use Rattle.resource_core.specs.declared.holding.Holding.{Holding}
use Rattle.resource_core.specs.Places.{key_of, same_key}
use Rattle.resource_core.specs.Resources.{holds, without_owner, all_spans}
use Rattle.resource_core.specs.Tied.{total}
use Rattle.resource_core.proofs.PlaceLaws.{below, removed, total_removed}
use Rattle.resource_core.proofs.TableLaws.{found_some, found_first, moved_there, put_moved, put_gone}
use Rattle.resource_core.proofs.holdings.Holdings.remove.Goals as goal

pub known_place-at-requires : goal.known_place-at-requires
known_place-at-requires c =
    found_some (λ key. get_by (same_key key) c.self.inside.places) (λ key. get_by (same_key key) c.self.inside.places) _ _ c.self.invariant c.args.owner
    ∙ ap (holds c.args.owner) c.self.view_is ∙ c.requires

pub swap_remove-spans-requires : goal.swap_remove-spans-requires
swap_remove-spans-requires c =
    let b = below c.args.owner c.self.inside.held.items c.known_place-at.result
    (found_first (λ key. get_by (same_key key) c.self.inside.places) (λ key. get_by (same_key key) c.self.inside.places) _ _ c.self.invariant c.args.owner c.known_place-at.result c.known_place-at.ensures) in
    omega (arith, b)

pub put-requires : goal.put-requires
put-requires c = λ e.
    let first = found_first (λ key. get_by (same_key key) c.self.inside.places) (λ key. get_by (same_key key) c.self.inside.places) _ _ c.self.invariant c.args.owner c.known_place-at.result c.known_place-at.ensures in
    let left : c.swap_remove-spans.new.self.items ≡ without_owner c.args.owner c.self.inside.held.items = c.swap_remove-spans.ensures.items ∙ removed c.args.owner c.self.inside.held.items c.known_place-at.result c.swap_remove-spans.result first in
    let short = ltb-true c.known_place-at.result (length c.deref.result.now) (sym c.in-Some.ensures.lookup.0) in
    let n = ap length c.deref.ensures.value in
    let there = moved_there (λ key. get_by (same_key key) c.self.inside.places) (λ key. get_by (same_key key) c.take_out.new.places) _ c.self.inside.held.items c.swap_remove-spans.new.self.items
    c.args.owner c.key_of.result c.key_of-in-Some.result c.known_place-at.result c.in-Some.moved.now c.self.invariant c.key_of.ensures left (omega (arith, short, n))
    (c.key_of-in-Some.ensures ∙ ap (λ (h : Holding). key_of h.owner) (c.in-Some.ensures.lookup.1 ∙ ap (λ xs. get_or xs c.known_place-at.result c.in-Some.moved.now) c.deref.ensures.value)) (λ k. c.take_out.ensures.each k) in
    absurd (let z = sym (ap is_some e) ∙ there in cc)

pub invariant_of-self : goal.invariant_of-self
invariant_of-self c =
    let first = found_first (λ key. get_by (same_key key) c.self.inside.places) (λ key. get_by (same_key key) c.self.inside.places) _ _ c.self.invariant c.args.owner c.known_place-at.result c.known_place-at.ensures in
    let left : c.swap_remove-spans.new.self.items ≡ without_owner c.args.owner c.self.inside.held.items = c.swap_remove-spans.ensures.items ∙ removed c.args.owner c.self.inside.held.items c.known_place-at.result c.swap_remove-spans.result first in
    let short = ltb-true c.known_place-at.result (length c.deref.result.now) (sym c.in-Some.ensures.lookup.0) in
    let n = ap length c.deref.ensures.value in
    put_moved (λ key. get_by (same_key key) c.self.inside.places) (λ key. get_by (same_key key) c.take_out.new.places) (λ key. get_by (same_key key) c.put.new.places) _ _ _ c.self.inside.held.items c.swap_remove-spans.new.self.items
    c.args.owner c.key_of.result c.key_of-in-Some.result c.known_place-at.result c.in-Some.moved.now c.self.invariant c.known_place-at.ensures c.key_of.ensures left (omega (arith, short, n))
    (c.key_of-in-Some.ensures ∙ ap (λ (h : Holding). key_of h.owner) (c.in-Some.ensures.lookup.1 ∙ ap (λ xs. get_or xs c.known_place-at.result c.in-Some.moved.now) c.deref.ensures.value)) (λ k. c.take_out.ensures.each k) c.take_out.ensures.len
    (λ k. c.put.ensures.each k) c.put.ensures.len

pub invariant_of-self-in-None : goal.invariant_of-self-in-None
invariant_of-self-in-None c =
    let first = found_first (λ key. get_by (same_key key) c.self.inside.places) (λ key. get_by (same_key key) c.self.inside.places) _ _ c.self.invariant c.args.owner c.known_place-at.result c.known_place-at.ensures in
    let left : c.swap_remove-spans.new.self.items ≡ without_owner c.args.owner c.self.inside.held.items = c.swap_remove-spans.ensures.items ∙ removed c.args.owner c.self.inside.held.items c.known_place-at.result c.swap_remove-spans.result first in
    let past = ltb-false c.known_place-at.result (length c.deref.result.now) (sym c.in-None.ensures.lookup.0) in
    let n = ap length c.deref.ensures.value in
    put_gone (λ key. get_by (same_key key) c.self.inside.places) (λ key. get_by (same_key key) c.take_out.new.places) _ _ c.self.inside.held.items c.swap_remove-spans.new.self.items
    c.args.owner c.key_of.result c.known_place-at.result c.self.invariant c.known_place-at.ensures c.key_of.ensures left (omega (arith, past, n)) (λ k. c.take_out.ensures.each k) c.take_out.ensures.len

pub returns-in-Some-clause-left : goal.returns-in-Some-clause-left
returns-in-Some-clause-left c =
    let first = found_first (λ key. get_by (same_key key) c.self.inside.places) (λ key. get_by (same_key key) c.self.inside.places) _ _ c.self.invariant c.args.owner c.known_place-at.result c.known_place-at.ensures in
    c.swap_remove-spans.ensures.items ∙ removed c.args.owner c.self.inside.held.items c.known_place-at.result c.swap_remove-spans.result first ∙ ap (without_owner c.args.owner) c.self.view_is

pub returns-in-Some-clause-spans : goal.returns-in-Some-clause-spans
returns-in-Some-clause-spans c = λ w.
    let first = found_first (λ key. get_by (same_key key) c.self.inside.places) (λ key. get_by (same_key key) c.self.inside.places) _ _ c.self.invariant c.args.owner c.known_place-at.result c.known_place-at.ensures in
    let left : c.swap_remove-spans.new.self.items ≡ without_owner c.args.owner c.self.inside.held.items = c.swap_remove-spans.ensures.items ∙ removed c.args.owner c.self.inside.held.items c.known_place-at.result c.swap_remove-spans.result first in
    ap (λ hs. total w (all_spans hs)) (sym c.self.view_is) ∙ total_removed c.args.owner w c.self.inside.held.items c.known_place-at.result c.swap_remove-spans.result first
    ∙ ap (λ (h : Holding). total w h.spans + total w (all_spans (without_owner c.args.owner c.self.inside.held.items))) (sym c.swap_remove-spans.ensures.value)
    ∙ ap (λ hs. total w c.swap_remove-spans.result.spans + total w (all_spans hs)) (sym left)

pub returns-in-None-clause-left : goal.returns-in-None-clause-left
returns-in-None-clause-left c =
    let first = found_first (λ key. get_by (same_key key) c.self.inside.places) (λ key. get_by (same_key key) c.self.inside.places) _ _ c.self.invariant c.args.owner c.known_place-at.result c.known_place-at.ensures in
    c.swap_remove-spans.ensures.items ∙ removed c.args.owner c.self.inside.held.items c.known_place-at.result c.swap_remove-spans.result first ∙ ap (without_owner c.args.owner) c.self.view_is

pub returns-in-None-clause-spans : goal.returns-in-None-clause-spans
returns-in-None-clause-spans c = λ w.
    let first = found_first (λ key. get_by (same_key key) c.self.inside.places) (λ key. get_by (same_key key) c.self.inside.places) _ _ c.self.invariant c.args.owner c.known_place-at.result c.known_place-at.ensures in
    let left : c.swap_remove-spans.new.self.items ≡ without_owner c.args.owner c.self.inside.held.items = c.swap_remove-spans.ensures.items ∙ removed c.args.owner c.self.inside.held.items c.known_place-at.result c.swap_remove-spans.result first in
    ap (λ hs. total w (all_spans hs)) (sym c.self.view_is) ∙ total_removed c.args.owner w c.self.inside.held.items c.known_place-at.result c.swap_remove-spans.result first
    ∙ ap (λ (h : Holding). total w h.spans + total w (all_spans (without_owner c.args.owner c.self.inside.held.items))) (sym c.swap_remove-spans.ensures.value)
    ∙ ap (λ hs. total w c.swap_remove-spans.result.spans + total w (all_spans hs)) (sym left)
