use Rattle.std.proofs.Common.{◌≡◌, ◌+◌, ◌-◌, ℕ, min, sym, arith}
use Rattle.journal_model.specs.marks.ByName.{first_address, second_address}
use Rattle.gpu_spaces.specs.Kept.{regions_in}
use Rattle.gpu_spaces.specs.Spots.{spot_of}
use Rattle.gpu_spaces.proofs.Cutting.{counts_go_on}
use Rattle.gpu_spaces.proofs.job.count_ops.Goals as goal

pub loop-at-preserved : goal.loop-at-preserved
loop-at-preserved c =
    let len : ℕ = c.vop_len-len.result in
    let at : ℕ = c.loop-at.at in
    let most : ℕ = c.args.most in
    let count : ℕ = c.loop-at.count in
    let first : c.first_address.result + c.from.result ≡ first_address c.args.op + at = omega (arith, c.first_address.ensures, c.from.ensures) in
    let second : c.second_address.result + c.from-in-loop-at.result ≡ second_address c.args.op + at = omega (arith, c.second_address.ensures, c.from-in-loop-at.ensures) in
    let n : c.min-n.result ≡ min (len - at) (min c.in-Some.first.room c.in-Some-spot_at.second.room) = omega (arith, c.min-n.ensures, c.min.ensures, c.from-in-loop-at-2.ensures) in
    let more : c.min-count.result ≡ min (count + 1) most = omega (arith, c.min-count.ensures, c.saturating_add.ensures) in
    record {
      inside = omega (arith, c.loop-at.invariant.inside, n);
      few = omega (arith, more);
      made =
          counts_go_on (regions_in c.args.mappings.now) c.args.op at len c.min-n.result (c.first_address.result + c.from.result) (c.second_address.result + c.from-in-loop-at.result)
          count c.min-count.result most (spot_of c.in-Some.first) (spot_of c.in-Some-spot_at.second) _
          c.loop-at-test.true first second (sym c.in-Some.ensures.spot) (sym c.in-Some-spot_at.ensures.spot) n c.loop-at.invariant.few more c.loop-at.invariant.made;
    }
