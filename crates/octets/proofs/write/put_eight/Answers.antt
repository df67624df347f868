use Rattle.std.proofs.Common.{◌∙◌}
use Rattle.octets.proofs.StoreLaws.{copied}
use Rattle.octets.proofs.write.put_eight.Goals as goal

pub returns : goal.returns
returns c = copied c.args.out.now _ c.args.at 8 c.args.x c.requires (c.copy_from_slice.ensures.after ∙ c.to_be_bytes.ensures)
