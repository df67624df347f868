use Rattle.std.proofs.Common.{◌≡◌, length, arith}
use Rattle.lanczos_pairs.specs.RitzPairs.{pair}
use Rattle.lanczos_pairs.proofs.ritz_pairs.pair.Goals as goal

pub returns : goal.returns
unfolding pair
returns c =
    let long : length c.ritz.new.x ≡ c.args.n = omega arith in
    rw (c.copy_from_slice.ensures.after, rw long at c.norm_out.ensures, c.ritz.ensures)
