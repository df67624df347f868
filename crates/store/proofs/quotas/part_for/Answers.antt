use Rattle.std.proofs.Common.{refl, arith}
use Rattle.store.proofs.Fits.{fits_laid, lies}
use Rattle.store.proofs.quotas.part_for.Goals as goal

pub bounds-list-1 : goal.bounds-list-1
bounds-list-1 c = let f = fits_laid c.args.owner c.args.list.now c.args.tiles.now c.args.bytes.now c.requires.0 c.requires.1 in omega arith

pub bounds-list-first : goal.bounds-list-first
bounds-list-first c = let f = fits_laid c.args.owner c.args.list.now c.args.tiles.now c.args.bytes.now c.requires.0 c.requires.1 in omega arith

pub overflow_add-result-3 : goal.overflow_add-result-3
overflow_add-result-3 c = let f = fits_laid c.args.owner c.args.list.now c.args.tiles.now c.args.bytes.now c.requires.0 c.requires.1 in omega arith

pub returns-clause-lies : goal.returns-clause-lies
returns-clause-lies c = lies c.args.owner c.args.list.now c.args.tiles.now c.args.bytes.now _ refl (fits_laid _ _ _ _ c.requires.0 c.requires.1)
