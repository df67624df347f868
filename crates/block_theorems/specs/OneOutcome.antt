-- The promises of the calls on blocks determine the outcome: two that satisfy one are the same. Laws only.
use Rattle.std.specs.Prelude.{◌≡◌, List, ℕ}
use Rattle.grid.specs.Real.{Vec}
use Rattle.answers.specs.Answers.{refused}
use Rattle.answers.specs.declared.Answer.{Answer}
use Rattle.answers.proofs.OutcomeLaws.{one_outcome}
use Rattle.block_read.specs.Content.{Part}
use Rattle.block_read.specs.Reading.{answer_of}
use Rattle.block_read.specs.Held.{block_read, shape_of}
use Rattle.block_read.specs.Lookup.{lookup, lookup_at, found, copied}
use Rattle.block_read.specs.declared.lookup.Block.{Block}
use Rattle.block_read.specs.declared.lookup.Shape.{Shape}
use Rattle.block_read.specs.declared.lookup.Found.{Found}
use Rattle.block_write.specs.Writing.{length_of, written}

pub check_one : (t : List ℕ) (o p : Answer) → o ≡ refused (answer_of t) 0 → p ≡ refused (answer_of t) 0 → o ≡ p
check_one t = one_outcome (refused (answer_of t) 0)

pub read_one : (t : List ℕ) (o p : Block) → o ≡ block_read t → p ≡ block_read t → o ≡ p
read_one t = one_outcome (block_read t)

pub shape_one : (t : List ℕ) (o p : Shape) → o ≡ shape_of t → p ≡ shape_of t → o ≡ p
shape_one t = one_outcome (shape_of t)

-- what is found, and where it stands
pub find_one : (a b : ℕ × ℕ) (own main : List ℕ) (kind : ℕ) (o p : List ℕ × (ℕ × ℕ)) → o ≡ (lookup own main kind, lookup_at a own b main kind)
    → p ≡ (lookup own main kind, lookup_at a own b main kind) → o ≡ p
find_one a b own main kind = one_outcome (lookup own main kind, lookup_at a own b main kind)

pub locate_one : (own main : List ℕ) (kind : ℕ) (o p : Found) → o ≡ found own main kind → p ≡ found own main kind → o ≡ p
locate_one own main kind = one_outcome (found own main kind)

pub copy_one : (own main : List ℕ) (kind : ℕ) (out : Vec) (o p : Answer × Vec) → o ≡ copied own main kind out → p ≡ copied own main kind out → o ≡ p
copy_one own main kind out = one_outcome (copied own main kind out)

pub length_one : (r c n k1 k2 k3 o p : ℕ) → o ≡ length_of r c n k1 k2 k3 → p ≡ length_of r c n k1 k2 k3 → o ≡ p
length_one r c n k1 k2 k3 = one_outcome (length_of r c n k1 k2 k3)

pub write_one : (r c n : ℕ) (ps : List Part) (out : List ℕ) (o p : Answer × List ℕ) → o ≡ written r c n ps out → p ≡ written r c n ps out → o ≡ p
write_one r c n ps out = one_outcome (written r c n ps out)
