-- What is proved of `leading`: o and p are what calls that meet its promise came back with, x a `symmetric_eigen`'s outcome. Laws only.
use Rattle.std.specs.Prelude.{false, true, ◌≡◌, ◌*◌, ◌+◌, ◌-◌, ◌<◌, ◌≤◌, ℕ, length}
use Rattle.std.specs.Float.Ieee.{le}
use Rattle.answers.specs.Answers.{done, passed}
use Rattle.answers.specs.declared.Answer.{Answer}
use Rattle.calls_theorems.specs.Leading.{leading_of_eigen_descends, leading_of_eigen_done, leading_of_eigen_number, leading_of_eigen_value}
use Rattle.eigen_theorems.specs.Outcome.{Outcome, Promised}
use Rattle.grid.specs.Real.{Vec, at}
use Rattle.leading.specs.Leading.{checks, leading}
use Rattle.leading.proofs.Result.{leading_finite_out, leading_old_contents, leading_one, leading_untouched}
use Rattle.leaves.specs.Finite.{Finite}

-- Two outcomes that satisfy the promise are one.
pub t2_leading_one : (n k : ℕ) (v x : Vec) (o p : Answer × Vec) → o ≡ leading n k v x → p ≡ leading n k v x → o ≡ p
t2_leading_one = leading_one

-- On answer 0 every number of out is finite.
pub t46_leading_finite_out : (n k : ℕ) (v x : Vec) (o : Answer × Vec) → o ≡ leading n k v x → o.0.answer ≡ 0 → Finite o.1
t46_leading_finite_out = leading_finite_out

-- Where checks 1, 15 and 6 pass, what out held before changes nothing.
pub t46_leading_old_contents : (n k : ℕ) (v x y : Vec) → length x ≡ length y → passed (checks n k (length v) (length x)) ≡ true
    → leading n k v x ≡ leading n k v y
t46_leading_old_contents = leading_old_contents

-- Where they refuse, out is as it was.
pub t46_leading_untouched : (n k : ℕ) (v x : Vec) → passed (checks n k (length v) (length x)) ≡ false
    → leading n k v x ≡ (checks n k (length v) (length x), x)
t46_leading_untouched = leading_untouched

-- A result of `symmetric_eigen` with answer 0, handed on with k up to n and an out of k + k * n numbers, is answered with 0.
pub t46_leading_of_eigen_done : (n limit edition k : ℕ) (a work result out : Vec) (x : Outcome) → Promised n limit edition a work result x
    → x.0.answer ≡ 0 → k ≤ n → length out ≡ k + k * n → (o : Answer × Vec) → o ≡ leading n k x.2 out → o.0 ≡ done 0
t46_leading_of_eigen_done = leading_of_eigen_done

-- Then the values descend.
pub t46_leading_of_eigen_descends : (n limit edition k : ℕ) (a work result out : Vec) (x : Outcome) → Promised n limit edition a work result x
    → x.0.answer ≡ 0 → k ≤ n → length out ≡ k + k * n → (o : Answer × Vec) → o ≡ leading n k x.2 out
    → (s t : ℕ) → s < t → t < k → le (at o.1 t) (at o.1 s) ≡ true
t46_leading_of_eigen_descends = leading_of_eigen_descends

-- Value t is value n - 1 - t of the result, counted from 0: the greatest first, and of equal ones the later first.
pub t46_leading_of_eigen_value : (n limit edition k : ℕ) (a work result out : Vec) (x : Outcome) → Promised n limit edition a work result x
    → x.0.answer ≡ 0 → k ≤ n → length out ≡ k + k * n → (o : Answer × Vec) → o ≡ leading n k x.2 out
    → (t : ℕ) → t < k → at o.1 t ≡ at x.2 (n - 1 - t)
t46_leading_of_eigen_value = leading_of_eigen_value

-- And number i of row t is entry (i, n - 1 - t) of the result's vectors: the row is the column of its value.
pub t46_leading_of_eigen_number : (n limit edition k : ℕ) (a work result out : Vec) (x : Outcome) → Promised n limit edition a work result x
    → x.0.answer ≡ 0 → k ≤ n → length out ≡ k + k * n → (o : Answer × Vec) → o ≡ leading n k x.2 out
    → (t i : ℕ) → t < k → i < n → at o.1 (k + (t * n + i)) ≡ at x.2 (n + (i * n + (n - 1 - t)))
t46_leading_of_eigen_number = leading_of_eigen_number
