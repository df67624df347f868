use Rattle.std.proofs.Common.{ℕ, List, ◌∙◌, ap, take, drop}
use Rattle.octets.proofs.StoreLaws.{copied}
use Rattle.octets.proofs.write.put_four.Goals as goal

pub returns : goal.returns
returns c = copied c.args.out.now _ c.args.at 4 c.args.x c.requires (c.copy_from_slice.ensures.after ∙ ap (λ (l : List ℕ). take 4 (drop 4 l)) c.to_be_bytes.ensures)
