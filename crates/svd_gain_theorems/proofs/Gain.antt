-- **Gain does not move the basis** (`gain_keeps_basis`): two calls of `svd`, of a matrix and of 2 ^ k times it, k of either sign. Laws only.
use Rattle.std.specs.Prelude.{◌≡◌, refl, Bool, true, false, cond, map, ℕ, zero, suc, ◌+◌, ◌≤◌, ◌<◌, min, ℤ, pos, negsuc, neg_ℤ, Float, length, take, drop}
use Rattle.std.proofs.Common.{sym, ap, ◌∙◌, subst₂, true≢false, arith, eq-eqb, length-take, length-drop, get_or-take, get_or-drop, ext_get_or}
use Rattle.std.proofs.Math.IntN.{+ℤ-neg_ℤ_cancel}
use Rattle.std.specs.Float.{nan, inf, fin}
use Rattle.std.proofs.lemmas.List.{length-map}
use Rattle.std.proofs.Math.ListN.{get_or-map}
use Rattle.grid.specs.Real.{Vec, at, zeros}
use Rattle.leaves.specs.Scan.{first_bad}
use Rattle.answers.specs.Answers.{passed, refusal7, least}
use Rattle.answers.specs.AnswersLaws.{least_le}
use Rattle.answers.specs.declared.Answer.{Answer}
use Rattle.svd_jacobi_svd_tall.specs.JacobiSvdTall.{jacobi}
use Rattle.svd_sort_svd_descending.specs.Result.{longest, sorted_out}
use Rattle.svd.specs.Svd.{loaded, checks, ran, svd}
use Rattle.svd_theorems.specs.Outcome.{Outcome, Promised, Taken}
use Rattle.svd_theorems.proofs.OutcomeLaws.{taken_by}
use Rattle.svd_gain_theorems.specs.Scale.{scale, Scaled}
use Rattle.svd_gain_theorems.specs.Alike.{Alike, under}
use Rattle.svd_gain_theorems.specs.AlikeLaws.{under_in, under_out, equal, powered}
use Rattle.svd_gain_theorems.specs.Found.{match, bad_same}
use Rattle.svd_gain_theorems.specs.Fine.{RunFine, SvdFine}
use Rattle.svd_gain_theorems.specs.Gained.{Gained}
use Rattle.svd_gain_theorems.specs.LeftLaws.{svd_left}
use Rattle.svd_gain_theorems.proofs.Values.{Ends, jacobi_gain}
use Rattle.svd_gain_theorems.proofs.Out.{loaded_alike, sorted_alike}

-- ---- up

-- the four numbers agree, and on 0 the results are alike
record Both (k r : ℕ) (x y : Outcome) : Type 0 where
  answers : y.0 ≡ x.0
  results : passed x.0 ≡ true → Alike (under k r) x.2 y.2

-- the checks, then the numbers given, then the run
choose : (k r : ℕ) (c c' d d' : Answer) (x x' : Outcome) (w0 r0 w1 r1 w0' r0' w1' r1' : Vec) → c' ≡ c → d' ≡ d
    → (passed c ≡ true → passed d ≡ true → Both k r x x')
    → Both k r (cond (passed c) (cond (passed d) x (d, w0, r0)) (c, w1, r1)) (cond (passed c') (cond (passed d') x' (d', w0', r0')) (c', w1', r1'))
choose k r c c' d d' x x' w0 r0 w1 r1 w0' r0' w1' r1' p q h = go (passed c) refl (passed d) refl
  where
    p' : passed c' ≡ passed c
    p' = ap passed p

    q' : passed d' ≡ passed d
    q' = ap passed q

    go : (s : Bool) → passed c ≡ s → (t : Bool) → passed d ≡ t
        → Both k r (cond (passed c) (cond (passed d) x (d, w0, r0)) (c, w1, r1)) (cond (passed c') (cond (passed d') x' (d', w0', r0')) (c', w1', r1'))
    go true e true g = rw (p', e, q', g) (h e g)
    go true e false g = rw (p', e, q', g) (record { answers = q; results = λ z. absurd (true≢false (sym z ∙ g)) })
    go false e t g = rw (p', e) (record { answers = p; results = λ z. absurd (true≢false (sym z ∙ e)) })

module _ (k m n want_u want_vt limit : ℕ) (a b work work' result result' : Vec) (long : length b ≡ length a) (each : (i : ℕ) → Scaled k (at a i) (at b i))
    (works : length work' ≡ length work) (results : length result' ≡ length result) where
  up : SvdFine m n want_u want_vt limit a work result → SvdFine m n want_u want_vt limit b work' result'
      → Both k (least m n) (svd m n want_u want_vt limit a work result) (svd m n want_u want_vt limit b work' result')
  unfolding svd ran
  up f g =
      choose k (least m n) (check a work result) (check b work' result') (given a) (given b) (run a work result) (run b work' result') (zeros (length work)) (zeros (length result)) work result
      (zeros (length work')) (zeros (length result')) work' result' checked scanned (λ p q. ends p q (jacobi_ends p q))
    where
      check : Vec → Vec → Vec → Answer
      check a work result = checks m n want_u want_vt limit (length a) (length work) (length result)

      given : Vec → Answer
      given a = refusal7 (first_bad a)

      on : Vec → Vec → Answer × Vec
      on a work = jacobi (longest m n) (least m n) limit (loaded m n a)

      run : Vec → Vec → Vec → Outcome
      run a work result =
          ((on a work).0, zeros (length (zeros (length work))), cond (passed (on a work).0) (sorted_out m n want_u want_vt (on a work).1) (zeros (length result)))

      checked : check b work' result' ≡ check a work result
      checked = rw (long, works, results)

      scanned : given b ≡ given a
      scanned = ap refusal7 (bad_same a b (match (λ i. k) a b (record { long = long; each = each })))

      taken : (a work result : Vec) → passed (check a work result) ≡ true → passed (given a) ≡ true → Taken m n want_u want_vt limit a work result
      taken a work result p q = taken_by m n want_u want_vt limit a work result p q

      begins : (a work result : Vec) → passed (check a work result) ≡ true → passed (given a) ≡ true → SvdFine m n want_u want_vt limit a work result
          → RunFine (longest m n) (least m n) limit (loaded m n a)
      begins a work result p q f =
          f (taken a work result p q)

      jacobi_ends : passed (check a work result) ≡ true → passed (given a) ≡ true → Ends k (longest m n) (least m n) (on a work) (on b work')
      jacobi_ends p q =
          jacobi_gain k (longest m n) (least m n) limit (loaded m n a) (loaded m n b)
          (begins a work result p q f) (begins b work' result' (ap passed checked ∙ p) (ap passed scanned ∙ q) g) (loaded_alike k m n a b each)

      ends : passed (check a work result) ≡ true → passed (given a) ≡ true → Ends k (longest m n) (least m n) (on a work) (on b work')
          → Both k (least m n) (run a work result) (run b work' result')
      ends p q e = record { answers = e.answers; results = out }
        where
          few : least m n ≤ 256
          few = least_le m n 256 (taken a work result p q).tall (taken a work result p q).wide

          out : passed (on a work).0 ≡ true
              → Alike (under k (least m n)) (cond (passed (on a work).0) (sorted_out m n want_u want_vt (on a work).1) (zeros (length result)))
              (cond (passed (on b work').0) (sorted_out m n want_u want_vt (on b work').1) (zeros (length result')))
          out z =
              rw (ap passed e.answers, z)
              (sorted_alike k m n want_u want_vt (on a work).1 (on b work').1 few (e.worked z))

-- ---- down, with the two calls in each other's place

pub scale_back : (k : ℤ) (x : Float) → scale (neg_ℤ k) (scale k x) ≡ x
unfolding scale
scale_back k nan = refl
scale_back k (inf s) = refl
scale_back k (fin s zero e) = refl
scale_back k (fin s (suc m) e) = ap (fin s (suc m)) (+ℤ-neg_ℤ_cancel e k)

pub at_map : (k : ℤ) (a : Vec) (i : ℕ) → at (map (scale k) a) i ≡ scale k (at a i)
unfolding scale
at_map k a i = get_or-map (scale k) a i nan

-- two results, number by number
pub record Results (k : ℤ) (r : ℕ) (x y : Vec) : Type 0 where
  pub long : length y ≡ length x
  pub low : (i : ℕ) → i < r → at y i ≡ scale k (at x i)
  pub high : (i : ℕ) → r ≤ i → at y i ≡ at x i

pub values_of : (k : ℤ) (r : ℕ) (x y : Vec) → Results k r x y → take r y ≡ map (scale k) (take r x)
values_of k r x y h =
    ext_get_or nan (take r y) (map (scale k) (take r x)) (length-take r y ∙ ap (λ (n : ℕ). min r n) h.long ∙ sym (length-map (take r x) (scale k) ∙ length-take r x))
    (λ i l.
    let m : i < r = omega (arith, length-take r y) in
    get_or-take r y i nan m ∙ h.low i m ∙ ap (scale k) (sym (get_or-take r x i nan m)) ∙ sym (at_map k (take r x) i))

pub factors_of : (k : ℤ) (r : ℕ) (x y : Vec) → Results k r x y → drop r y ≡ drop r x
factors_of k r x y h =
    ext_get_or nan (drop r y) (drop r x) (rw (length-drop r y, length-drop r x, h.long))
    (λ i l. get_or-drop r y i nan ∙ h.high (r + i) (omega arith) ∙ sym (get_or-drop r x i nan))

pub results_up : (k r : ℕ) (x y : Vec) → Alike (under k r) x y → Results (pos k) r x y
results_up k r x y h =
    record {
      long = h.long;
      low = λ i l. powered (at x i) (under_in k r i l) (h.each i);
      high = λ i l. equal (at x i) (under k r i) (under_out k r i l) (h.each i);
    }

pub results_down : (j r : ℕ) (x y : Vec) → Alike (under (suc j) r) y x → Results (negsuc j) r x y
results_down j r x y h =
    record {
      long = sym h.long;
      low = λ i l. sym (ap (scale (negsuc j)) (powered (at y i) (under_in (suc j) r i l) (h.each i)) ∙ scale_back (pos (suc j)) (at y i));
      high = λ i l. sym (equal (at y i) (under (suc j) r i) (under_out (suc j) r i l) (h.each i));
    }

-- ---- the theorem

-- x and y are what svd gives
record Between (k : ℤ) (r : ℕ) (x y : Outcome) : Type 0 where
  numbers : y.0 ≡ x.0
  results : x.0.answer ≡ 0 → Results k r x.2 y.2

module _ (m n want_u want_vt limit : ℕ) (a work work' result result' : Vec) (works : length work' ≡ length work) (results : length result' ≡ length result) where
  between : (k : ℤ) → SvdFine m n want_u want_vt limit a work result → SvdFine m n want_u want_vt limit (map (scale k) a) work' result'
      → Between k (least m n) (svd m n want_u want_vt limit a work result) (svd m n want_u want_vt limit (map (scale k) a) work' result')
  between (pos k) f g =
      let b = map (scale (pos k)) a in
      let h = up k m n want_u want_vt limit a b work work' result result' (length-map a (scale (pos k))) (at_map (pos k) a) works results f g in
      record { numbers = h.answers; results = λ z. results_up k (least m n) _ _ (h.results (eq-eqb _ 0 z)) }
  between (negsuc j) f g =
      let b = map (scale (negsuc j)) a in
      let back : (i : ℕ) → Scaled (suc j) (at b i) (at a i) = λ i. sym (ap (scale (pos (suc j))) (at_map (negsuc j) a i) ∙ scale_back (negsuc j) (at a i)) in
      let h = up (suc j) m n want_u want_vt limit b a work' work result' result (sym (length-map a (scale (negsuc j)))) back (sym works) (sym results) g f in
      record {
        numbers = sym h.answers;
        results = λ z. results_down j (least m n) _ _ (h.results (eq-eqb _ 0 (sym (ap (λ (q : Answer). q.answer) h.answers) ∙ z)));
      }

-- **gain_keeps_basis**: x and y are what two calls came back with that meet svd's promise
pub gain_keeps_basis : (k : ℤ) (m n want_u want_vt limit : ℕ) (matrix work result work' result' : Vec) (x y : Outcome) → length work' ≡ length work → length result' ≡ length result
    → Promised m n want_u want_vt limit matrix work result x → Promised m n want_u want_vt limit (map (scale k) matrix) work' result' y
    → SvdFine m n want_u want_vt limit matrix work result → SvdFine m n want_u want_vt limit (map (scale k) matrix) work' result'
    → Gained k (least m n) work result work' result' x y
gain_keeps_basis k m n want_u want_vt limit matrix work result work' result' x y works results p q f g =
    subst₂ (λ (o o' : Outcome). Gained k (least m n) work result work' result' o o') (sym p) (sym q)
    (record {
      numbers = h.numbers;
      values = λ z. values_of k (least m n) _ _ (h.results z);
      factors = λ z. factors_of k (least m n) _ _ (h.results z);
      first = svd_left m n want_u want_vt limit matrix work result;
      second = svd_left m n want_u want_vt limit (map (scale k) matrix) work' result';
    })
  where
    h : Between k (least m n) (svd m n want_u want_vt limit matrix work result) (svd m n want_u want_vt limit (map (scale k) matrix) work' result')
    h = between m n want_u want_vt limit matrix work work' result result' works results k f g
