-- The outcome that a run gives (`RunGives`): one at most (`gives_once`), its loops are document 000's own, and what a stop means. Laws only.
use Rattle.leaves.specs.declared.Bad.{Bad}
use Rattle.std.specs.Prelude.{◌≡◌, refl, ◌⊎◌, ℕ, suc, ◌+◌, ◌≤◌, ◌<◌, length, Option, Some, None}
use Rattle.std.proofs.Common.{sym, ap, ◌∙◌, subst, ⊎_elim, true≢false, arith}
use Rattle.std.proofs.Math.Decide.{ℕ_discrete, dec_lt}
use Rattle.grid.specs.Real.{Vec, at}
use Rattle.leaves.specs.Finite.{Finite}
use Rattle.leaves.specs.FiniteLaws.{both_finite, finite_rows}
use Rattle.leaves.specs.Scan.{by_rows}
use Rattle.leaves.specs.ScanLaws as Scans
use Rattle.leaves.specs.ScanLaws.{first_once, fine_no_first}
use Rattle.answers.specs.Answers.{answered, done}
use Rattle.answers.specs.declared.Answer.{Answer}
use Rattle.eigen_tql2.specs.Sort.{sorted}
use Rattle.eigen_theorems.specs.Tql2Document as Doc
use Rattle.eigen_theorems.specs.Tql2Document.{Carried, begun, valued}
use Rattle.eigen_theorems.specs.Tql2Outcome.{Sound, FirstIn, list1, list2, End, here, bad, used, Looped, no_more, stop, once, again, Turned, at_once, by_passes, by_mark, by_limit, Ran, none, more, Whole, RunGives, well, at_mark2, at_mark1, at_limit}

-- ---- what a mark sees

-- its class and its index
class_in : Option Bad → ℕ
class_in (Some seen) = seen.class
class_in None = 0

index_in : Option Bad → ℕ
index_in (Some seen) = seen.index
index_in None = 0

-- a class is 8 or 10
pub first_class : (x : Vec) (b i : ℕ) → FirstIn x b i → (b ≡ 8) ⊎ (b ≡ 10)
first_class x b i f = Scans.first_class (at x) (length x) i b f

pub class_above : (x : Vec) (b i : ℕ) → FirstIn x b i → 7 < b
class_above x b i f = ⊎_elim (λ e. omega arith) (λ e. omega arith) (first_class x b i f)

pub class_not_nine : (x : Vec) (b i : ℕ) → FirstIn x b i → b ≡ 9 → ⊥
class_not_nine x b i f q = ⊎_elim (λ e. omega arith) (λ e. omega arith) (first_class x b i f)

-- a list that is finite has none
pub none_first : (x : Vec) (b i : ℕ) → FirstIn x b i → Finite x → ⊥
none_first x b i f g = fine_no_first x i b g f

-- a list has one at most
pub one_first : (x : Vec) (b i c j : ℕ) → FirstIn x b i → FirstIn x c j → ◌≡◌ {A = ℕ × ℕ} (b, i) (c, j)
unfolding class_in index_in
one_first x b i c j f g = let e = first_once (at x) (length x) i b j c f g in λ k. (class_in (e k), index_in (e k))

sound_first : (x : Carried) {b i : ℕ} → FirstIn (list1 x) b i → Sound x → ⊥
sound_first x f s = none_first (list1 x) _ _ f (both_finite x.d x.e s.values s.beside)

pub whole_first : (n : ℕ) (x : Carried) {b i : ℕ} → FirstIn (list2 n x) b i → Whole x → ⊥
whole_first n x f w = none_first (list2 n x) _ _ f (both_finite x.d (by_rows n x.v) w.values (finite_rows n x.v w.vectors))

-- how a run ends, by number
kind : End → ℕ
kind here = 1
kind (bad b i) = 2
kind used = 0

-- ---- at most `limit` passes at one l; and document 000's own loops

pub looped_within : (n edition l m : ℕ) {k c : ℕ} {e : End} {x y : Carried} → Looped n edition l m k c x e y → c ≤ k
looped_within n edition l m no_more = omega arith
looped_within n edition l m (stop b) = omega arith
looped_within n edition l m (once f s) = omega arith
looped_within n edition l m (again f s a) = omega (arith, looped_within n edition l m a)

-- a loop that settles is document 000's
pub looped_document : (n edition l m : ℕ) {k c : ℕ} {e : End} {x y : Carried} → Looped n edition l m k c x e y → e ≡ here → Doc.Looped n edition l m x y
unfolding kind
looped_document n edition l m no_more q = absurd (omega (arith, ap kind q))
looped_document n edition l m (stop b) q = absurd (omega (arith, ap kind q))
looped_document n edition l m (once f s) q = Doc.once s
looped_document n edition l m (again f s a) q = Doc.again s (looped_document n edition l m a q)

pub turned_document : (n limit edition l : ℕ) {x : Carried} {c : ℕ} {e : End} {y : Carried} → Turned n limit edition l x c e y → e ≡ here → Doc.Turned n edition l x y
unfolding kind
turned_document n limit edition l (at_once p) q = Doc.at_once p
turned_document n limit edition l (by_passes p a) q = Doc.by_passes p (looped_document n edition l _ a refl)
turned_document n limit edition l (by_mark p a) q = absurd (omega (arith, ap kind q))
turned_document n limit edition l (by_limit p a) q = absurd (omega (arith, ap kind q))

pub ran_document : (n limit edition : ℕ) {x : Carried} {l c : ℕ} {y : Carried} → Ran n limit edition x l c y → Doc.Ran n edition x l y
ran_document n limit edition none = Doc.none
ran_document n limit edition (more {l = l} p t) = Doc.more (ran_document n limit edition p) (turned_document n limit edition l t refl)

-- ---- one outcome at most

-- where the passes at one l, or a turn, end
abbrev Left : Type 0
Left = ℕ × End × Carried

-- one pass more
next : Left → Left
next t = (suc t.0, t.1, t.2)

looped_once : (n edition l m : ℕ) {k c : ℕ} {x : Carried} {e : End} {y : Carried} {b : ℕ} {f : End} {z : Carried} → Looped n edition l m k c x e y → Looped n edition l m k b x f z → ◌≡◌ {A = Left} (c, e, y) (b, f, z)
unfolding next
looped_once n edition l m no_more no_more = refl
looped_once n edition l m (stop {b = b} {i = i} {x = x} p) (stop {b = c} {i = j} q) =
    let o = one_first (list1 (Doc.body n edition l m x)) b i c j p q in λ k. (1, bad (o k).0 (o k).1, Doc.body n edition l m x)
looped_once n edition l m (stop p) (once q s) = absurd (sound_first _ p q)
looped_once n edition l m (stop p) (again q s b) = absurd (sound_first _ p q)
looped_once n edition l m (once p s) (stop q) = absurd (sound_first _ q p)
looped_once n edition l m (once p s) (once q t) = refl
looped_once n edition l m (once p s) (again q t b) = absurd (true≢false (sym s ∙ t))
looped_once n edition l m (again p s a) (stop q) = absurd (sound_first _ q p)
looped_once n edition l m (again p s a) (once q t) = absurd (true≢false (sym t ∙ s))
looped_once n edition l m (again p s a) (again q t b) = ap next (looped_once n edition l m a b)

-- what a run's record has for each end: its stop and its index
unfoldable pub code : End → ℕ
code here = 1
code (bad b i) = b
code used = 0

unfoldable pub pointer : End → ℕ
pointer here = 0
pointer (bad b i) = i
pointer used = 0

turned_once : (n limit edition l : ℕ) (x : Carried) {c : ℕ} {e : End} {y : Carried} {b : ℕ} {f : End} {z : Carried} → Turned n limit edition l x c e y → Turned n limit edition l x b f z
    → ◌≡◌ {A = Left} (c, e, y) (b, f, z)
unfolding kind
turned_once n limit edition l x (at_once p) (at_once q) = refl
turned_once n limit edition l x (at_once p) (by_passes q b) = absurd (true≢false (sym q ∙ p))
turned_once n limit edition l x (at_once p) (by_mark q b) = absurd (true≢false (sym q ∙ p))
turned_once n limit edition l x (at_once p) (by_limit q b) = absurd (true≢false (sym q ∙ p))
turned_once n limit edition l x (by_passes p a) (at_once q) = absurd (true≢false (sym p ∙ q))
turned_once n limit edition l x (by_passes p a) (by_passes q b) = ap (λ (t : Left). (t.0, here, valued l t.2)) (looped_once n edition l _ a b)
turned_once n limit edition l x (by_passes p a) (by_mark q b) = absurd (omega (arith, ap (λ (t : Left). kind t.1) (looped_once n edition l _ a b)))
turned_once n limit edition l x (by_passes p a) (by_limit q b) = absurd (omega (arith, ap (λ (t : Left). kind t.1) (looped_once n edition l _ a b)))
turned_once n limit edition l x (by_mark p a) (at_once q) = absurd (true≢false (sym p ∙ q))
turned_once n limit edition l x (by_mark p a) (by_passes q b) = absurd (omega (arith, ap (λ (t : Left). kind t.1) (looped_once n edition l _ a b)))
turned_once n limit edition l x (by_mark p a) (by_mark q b) = looped_once n edition l _ a b
turned_once n limit edition l x (by_mark p a) (by_limit q b) = looped_once n edition l _ a b
turned_once n limit edition l x (by_limit p a) (at_once q) = absurd (true≢false (sym p ∙ q))
turned_once n limit edition l x (by_limit p a) (by_passes q b) = absurd (omega (arith, ap (λ (t : Left). kind t.1) (looped_once n edition l _ a b)))
turned_once n limit edition l x (by_limit p a) (by_mark q b) = looped_once n edition l _ a b
turned_once n limit edition l x (by_limit p a) (by_limit q b) = looped_once n edition l _ a b

pub ran_once : (n limit edition : ℕ) (x : Carried) {l c : ℕ} {y : Carried} {b : ℕ} {z : Carried} → Ran n limit edition x l c y → Ran n limit edition x l b z → ◌≡◌ {A = ℕ × Carried} (c, y) (b, z)
ran_once n limit edition x none none = refl
ran_once n limit edition x (more {l = l} {c = c} {k = k} {y = y} {z = z} p s) (more {c = b} {k = j} {y = w} {z = u} q t) =
    let o = ran_once n limit edition x p q in
    let r = turned_once n limit edition l w (subst (λ (v : Carried). Turned n limit edition l v k here z) (ap (λ (v : ℕ × Carried). v.1) o) s) t in
    λ i. ((o i).0 + (r i).0, (r i).2)

-- the turn at l of a run that has come further
record Turning (n limit edition : ℕ) (x : Carried) (l : ℕ) : Type 0 where
  count : ℕ
  before : Carried
  passes : ℕ
  after : Carried
  ran : Ran n limit edition x l count before
  turned : Turned n limit edition l before passes here after

turning : (n limit edition : ℕ) (x : Carried) (l : ℕ) {m c : ℕ} {y : Carried} → Ran n limit edition x m c y → l < m → Turning n limit edition x l
turning n limit edition x l none h = absurd (omega arith)
turning n limit edition x l (more {l = m} {c = c} {k = k} {y = y} {z = z} p t) h = elim (ℕ_discrete m l) [
  | yes e ↦
      subst (Turning n limit edition x) e (record { count = c; before = y; passes = k; after = z; ran = p; turned = t })
  | no d ↦ turning n limit edition x l p (omega arith)
]

-- so a run that has come past l has not stopped there
not_past : (n limit edition : ℕ) (x : Carried) {l m c b k : ℕ} {e : End} {y z w : Carried} → Ran n limit edition x m b w → l < m → Ran n limit edition x l c y → Turned n limit edition l y k e z → e ≡ here
not_past n limit edition x {l = l} {k = k} {e = e} {z = z} r h p t =
    let u = turning n limit edition x l r h in
    let o = ran_once n limit edition x p u.ran in
    ap (λ (v : Left). v.1) (turned_once n limit edition l u.before (subst (λ (v : Carried). Turned n limit edition l v k e z) (ap (λ (v : ℕ × Carried). v.1) o) t) u.turned)

abbrev Halt : Type 0
Halt = ℕ × ℕ × End × Carried

-- two that stop, stop alike
halt_once : (n limit edition : ℕ) (x : Carried) {l c k : ℕ} {e : End} {y z : Carried} {m b j : ℕ} {f : End} {v w : Carried} → (e ≡ here → ⊥) → (f ≡ here → ⊥)
    → Ran n limit edition x l c y → Turned n limit edition l y k e z → Ran n limit edition x m b v → Turned n limit edition m v j f w → ◌≡◌ {A = Halt} (l, c + k, e, z) (m, b + j, f, w)
halt_once n limit edition x {l = l} {c = c} {k = k} {e = e} {y = y} {z = z} {m = m} {b = b} {j = j} {f = f} {v = v} {w = w} de df p s q t = elim (dec_lt l m) [
  | yes h ↦ absurd (de (not_past n limit edition x q h p s))
  | no h ↦ elim (dec_lt m l) [
    | yes g ↦ absurd (df (not_past n limit edition x p g q t))
    | no g ↦
        let i : l ≡ m = omega arith in
        let p' : Ran n limit edition x m c y = subst (λ (u : ℕ). Ran n limit edition x u c y) i p in
        let s' : Turned n limit edition m y k e z = subst (λ (u : ℕ). Turned n limit edition u y k e z) i s in
        let o = ran_once n limit edition x p' q in
        let r = turned_once n limit edition m v (subst (λ (u : Carried). Turned n limit edition m u k e z) (ap (λ (u : ℕ × Carried). u.1) o) s') t in
        λ d. (i d, (o d).0 + (r d).0, (r d).1, (r d).2)
  ]
]

-- one that comes to n has stopped nowhere
never_halts : (n limit edition : ℕ) (x : Carried) {l c b k : ℕ} {e : End} {y z w : Carried} {A : Type 0} → (e ≡ here → ⊥) → Ran n limit edition x n b w → l < n → Ran n limit edition x l c y → Turned n limit edition l y k e z → A
never_halts n limit edition x d r h p t = absurd (d (not_past n limit edition x r h p t))

bad_not : {b i : ℕ} → bad b i ≡ here → ⊥
unfolding kind
bad_not q = omega (arith, ap kind q)

used_not : used ≡ here → ⊥
unfolding kind
used_not q = omega (arith, ap kind q)

-- the class and the index of an end
saw : End → ℕ × ℕ
saw here = (0, 0)
saw (bad b i) = (b, i)
saw used = (0, 0)

abbrev pub Ended : Type 0
Ended = Answer × Vec × Vec × Vec

pub gives_once : (n limit edition : ℕ) (x : Vec × Vec × Vec) (o p : Ended) → RunGives n limit edition x o → RunGives n limit edition x p → o ≡ p
unfolding kind saw
gives_once n limit edition x o p (well r f) (well s g) = ap (λ (t : ℕ × Carried). (done t.0, (sorted n (t.1.v, t.1.d)).0, (sorted n (t.1.v, t.1.d)).1, t.1.e)) (ran_once n limit edition (begun n x) r s)
gives_once n limit edition x o p (well r f) (at_mark2 s g) = absurd (whole_first n _ g (subst Whole (ap (λ (t : ℕ × Carried). t.1) (ran_once n limit edition (begun n x) r s)) f))
gives_once n limit edition x o p (well r f) (at_mark1 h s t) = never_halts n limit edition (begun n x) bad_not r h s t
gives_once n limit edition x o p (well r f) (at_limit h s t) = never_halts n limit edition (begun n x) used_not r h s t
gives_once n limit edition x o p (at_mark2 r f) (well s g) = absurd (whole_first n _ f (subst Whole (ap (λ (t : ℕ × Carried). t.1) (ran_once n limit edition (begun n x) s r)) g))
gives_once n limit edition x o p (at_mark2 {b = b} {i = i} r f) (at_mark2 {b = c} {i = j} {y = z} s g) =
    let t = ran_once n limit edition (begun n x) r s in
    let q = one_first (list2 n z) b i c j (subst (λ (y : Carried). FirstIn (list2 n y) b i) (ap (λ (y : ℕ × Carried). y.1) t) f) g in
    λ k. (answered (q k).0 2 (q k).1 (t k).0, (t k).1.v, (t k).1.d, (t k).1.e)
gives_once n limit edition x o p (at_mark2 r f) (at_mark1 h s t) = never_halts n limit edition (begun n x) bad_not r h s t
gives_once n limit edition x o p (at_mark2 r f) (at_limit h s t) = never_halts n limit edition (begun n x) used_not r h s t
gives_once n limit edition x o p (at_mark1 h s t) (well r f) = never_halts n limit edition (begun n x) bad_not r h s t
gives_once n limit edition x o p (at_mark1 h s t) (at_mark2 r f) = never_halts n limit edition (begun n x) bad_not r h s t
gives_once n limit edition x o p (at_mark1 h s t) (at_mark1 g u w) =
    ap (λ (q : Halt). (answered (saw q.2).0 1 (saw q.2).1 q.1, q.3.v, q.3.d, q.3.e)) (halt_once n limit edition (begun n x) bad_not bad_not s t u w)
gives_once n limit edition x o p (at_mark1 h s t) (at_limit g u w) = absurd (omega (arith, ap (λ (q : Halt). kind q.2) (halt_once n limit edition (begun n x) bad_not used_not s t u w)))
gives_once n limit edition x o p (at_limit h s t) (well r f) = never_halts n limit edition (begun n x) used_not r h s t
gives_once n limit edition x o p (at_limit h s t) (at_mark2 r f) = never_halts n limit edition (begun n x) used_not r h s t
gives_once n limit edition x o p (at_limit h s t) (at_mark1 g u w) = absurd (omega (arith, ap (λ (q : Halt). kind q.2) (halt_once n limit edition (begun n x) used_not bad_not s t u w)))
gives_once n limit edition x o p (at_limit h s t) (at_limit g u w) =
    ap (λ (q : Halt). (answered 9 q.0 0 q.1, q.3.v, q.3.d, q.3.e)) (halt_once n limit edition (begun n x) used_not used_not s t u w)

-- ---- what a stop means

-- where mark 1 stops a run, what it saw is of that class, at that index of d, then e
looped_bad : (n edition l m : ℕ) {k c : ℕ} {x : Carried} {e : End} {y : Carried} → Looped n edition l m k c x e y → kind e ≡ 2 → FirstIn (list1 y) (saw e).0 (saw e).1
unfolding kind saw
looped_bad n edition l m no_more q = absurd (omega arith)
looped_bad n edition l m (stop f) q = f
looped_bad n edition l m (once f t) q = absurd (omega arith)
looped_bad n edition l m (again f t a) q = looped_bad n edition l m a q

pub looped_sees : (n edition l m : ℕ) {k c b i : ℕ} {x y : Carried} → Looped n edition l m k c x (bad b i) y → FirstIn (list1 y) b i
unfolding kind saw
looped_sees n edition l m a = looped_bad n edition l m a refl

turned_bad : (n limit edition l : ℕ) {x : Carried} {c : ℕ} {e : End} {y : Carried} → Turned n limit edition l x c e y → kind e ≡ 2 → FirstIn (list1 y) (saw e).0 (saw e).1
unfolding kind saw
turned_bad n limit edition l (at_once p) q = absurd (omega arith)
turned_bad n limit edition l (by_passes p a) q = absurd (omega arith)
turned_bad n limit edition l (by_mark p a) q = looped_sees n edition l _ a
turned_bad n limit edition l (by_limit p a) q = absurd (omega arith)

pub mark1_sees : (n limit edition l : ℕ) {x : Carried} {c b i : ℕ} {y : Carried} → Turned n limit edition l x c (bad b i) y → FirstIn (list1 y) b i
unfolding kind saw
mark1_sees n limit edition l t = turned_bad n limit edition l t refl

-- where the limit stops it, just so many passes were run at that l
looped_used : (n edition l m : ℕ) {k c : ℕ} {x : Carried} {e : End} {y : Carried} → Looped n edition l m k c x e y → e ≡ used → c ≡ k
unfolding kind
looped_used n edition l m no_more q = refl
looped_used n edition l m (stop b) q = absurd (omega (arith, ap kind q))
looped_used n edition l m (once f t) q = absurd (omega (arith, ap kind q))
looped_used n edition l m (again f t a) q = ap suc (looped_used n edition l m a q)

turned_used : (n limit edition l : ℕ) {x : Carried} {c : ℕ} {e : End} {y : Carried} → Turned n limit edition l x c e y → e ≡ used → c ≡ limit
unfolding kind
turned_used n limit edition l (at_once p) q = absurd (omega (arith, ap kind q))
turned_used n limit edition l (by_passes p a) q = absurd (omega (arith, ap kind q))
turned_used n limit edition l (by_mark p a) q = absurd (omega (arith, ap kind q))
turned_used n limit edition l (by_limit p a) q = looped_used n edition l _ a refl

pub limit_spent : (n limit edition l : ℕ) {x : Carried} {c : ℕ} {y : Carried} → Turned n limit edition l x c used y → c ≡ limit
limit_spent n limit edition l t = turned_used n limit edition l t refl

-- and where it settles, at most so many
pub turned_within : (n limit edition l : ℕ) {x : Carried} {c : ℕ} {e : End} {y : Carried} → Turned n limit edition l x c e y → c ≤ limit
turned_within n limit edition l (at_once p) = omega arith
turned_within n limit edition l (by_passes p a) = looped_within n edition l _ a
turned_within n limit edition l (by_mark p a) = looped_within n edition l _ a
turned_within n limit edition l (by_limit p a) = looped_within n edition l _ a

-- what a run gives where the answer is 0 is document 000's `tql2`
pub gives_document : (n limit edition : ℕ) (x : Vec × Vec × Vec) (o : Ended) → RunGives n limit edition x o → o.0.answer ≡ 0 → Doc.Tql2 n edition x (o.1, o.2, o.3)
gives_document n limit edition x o (well {y = y} r w) a = record { last = y; ran = ran_document n limit edition r; values = refl }
gives_document n limit edition x o (at_mark2 {b = b} {i = i} {y = y} r f) a = absurd (omega (arith, class_above (list2 n y) b i f))
gives_document n limit edition x o (at_mark1 {l = l} {b = b} {i = i} {z = z} h r t) a = absurd (omega (arith, class_above (list1 z) b i (mark1_sees n limit edition l t)))
gives_document n limit edition x o (at_limit h r t) a = absurd (omega arith)
