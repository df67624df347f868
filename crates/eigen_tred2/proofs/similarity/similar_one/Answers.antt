use Rattle.eigen_tred2.proofs.similarity.similar_one.Goals as goal

pub returns : goal.returns
returns c = rw (← c.put.ensures, ← c.at.ensures, ← c.similar_column-g.ensures)
