use Rattle.std.proofs.Common.{◌≡◌, ◌+◌, ◌-◌, ℕ, min, sym, refl, arith, ap, ◌∙◌, [], ◌∷◌}
use Rattle.std.specs.Prelude.{map}
use Rattle.std.proofs.lemmas.List.{map-append}
use Rattle.gpu_spaces.specs.Kept.{regions_in}
use Rattle.gpu_spaces.specs.Spots.{spot_of, part_of}
use Rattle.gpu_spaces.specs.declared.pieces.Piece.{Piece}
use Rattle.gpu_spaces.proofs.Cutting.{pieces_go_on}
use Rattle.gpu_spaces.proofs.pieces.pieces_of.Goals as goal

pub loop-at-preserved : goal.loop-at-preserved
loop-at-preserved c =
    let at : ℕ = c.loop-at.at in
    let n : c.min-n.result ≡ min (c.args.len - at) c.in-Some.spot.room = omega (arith, c.min-n.ensures, c.from-in-loop-at.ensures) in
    let there : c.args.addr + c.from.result ≡ c.args.addr + at = omega (arith, c.from.ensures) in
    let piece : Piece = record { b = c.in-Some.spot.b; off = c.in-Some.spot.off; len = c.min-n.result } in
    record {
      inside = omega (arith, c.loop-at.invariant.inside, n);
      made =
          pieces_go_on (regions_in c.args.mappings.now) c.args.addr at c.args.len c.min-n.result (c.args.addr + c.from.result)
          (map part_of c.loop-at.pieces) (map part_of c.push.new.self) (spot_of c.in-Some.spot) (part_of piece) _
          c.loop-at-test.true there (sym c.in-Some.ensures.spot) n refl (ap (map part_of) c.in_ok-push.ensures.ok ∙ map-append part_of c.loop-at.pieces (piece ∷ [])) c.loop-at.invariant.made;
    }
