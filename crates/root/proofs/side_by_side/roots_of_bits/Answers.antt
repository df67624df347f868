use Rattle.std.proofs.Common.{ap, arith}
use Rattle.root.specs.declared.Found.{Found}
use Rattle.root.proofs.Steps.{n_in, room, bits_are, finite}
use Rattle.root.proofs.side_by_side.roots_of_bits.Goals as goal

pub digits_pair-requires : goal.digits_pair-requires
digits_pair-requires c =
    (omega (arith, n_in c.args.b c.requires.0 c.requires.1 _ c.of-x.ensures), omega (arith, n_in c.args.c c.requires.2 c.requires.3 _ c.of-y.ensures))

pub pattern-requires : goal.pattern-requires
pattern-requires c = room c.args.b c.requires.0 c.requires.1 _ _ c.of-x.ensures (ap (λ (w : Found × Found). w.0) c.digits_pair.ensures)

pub pattern-requires-2 : goal.pattern-requires-2
pattern-requires-2 c = room c.args.c c.requires.2 c.requires.3 _ _ c.of-y.ensures (ap (λ (w : Found × Found). w.1) c.digits_pair.ensures)

pub float_from_bits-result : goal.float_from_bits-result
float_from_bits-result c =
    finite c.args.b c.requires.0 c.requires.1 _ (bits_are c.args.b c.requires.0 c.requires.1 _ _ _ c.of-x.ensures (ap (λ (w : Found × Found). w.0) c.digits_pair.ensures) c.pattern.ensures)

pub float_from_bits-result-2 : goal.float_from_bits-result-2
float_from_bits-result-2 c =
    finite c.args.c c.requires.2 c.requires.3 _ (bits_are c.args.c c.requires.2 c.requires.3 _ _ _ c.of-y.ensures (ap (λ (w : Found × Found). w.1) c.digits_pair.ensures) c.pattern-2.ensures)

pub returns : goal.returns
returns c =
    let b = bits_are c.args.b c.requires.0 c.requires.1 _ _ _ c.of-x.ensures (ap (λ (w : Found × Found). w.0) c.digits_pair.ensures) c.pattern.ensures in
    let d = bits_are c.args.c c.requires.2 c.requires.3 _ _ _ c.of-y.ensures (ap (λ (w : Found × Found). w.1) c.digits_pair.ensures) c.pattern-2.ensures in
    rw (b, d)
