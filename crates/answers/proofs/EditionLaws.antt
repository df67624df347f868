-- What the check of an edition and three lengths says where it passes and where it refuses. Laws only.
use Rattle.std.specs.Prelude.{◌≡◌, refl, ◌⊎◌, Bool, true, false, cond, not, ◌&&◌, ℕ, ◌≤◌, leb}
use Rattle.std.proofs.Common.{sym, ap, ◌∙◌, inl, inr, ⊎_elim, true≢false, arith, leb-true}
use Rattle.std.proofs.Math.Decide.{ℕ_discrete}
use Rattle.answers.specs.Answers.{refused, passed}
use Rattle.answers.specs.Checks.{edition_good, lengths, fitting_edition}
use Rattle.answers.specs.Early.{EarlyOr12}
use Rattle.answers.specs.Index.{AtMark}
use Rattle.answers.specs.ChecksLaws.{lengths_index}
use Rattle.answers.specs.IndexLaws.{no_mark}
use Rattle.answers.specs.ChecksLaws.{lengths_few, lengths_right}
use Rattle.answers.proofs.OutcomeLaws.{few_early}
use Rattle.answers.specs.declared.Answer.{Answer}

pub right_edition : (edition : ℕ) → (edition ≡ 1) ⊎ (edition ≡ 2) → edition_good edition ≡ true
unfolding edition_good
right_edition edition = ⊎_elim (λ e. rw e) (λ e. rw e)

pub edition_right : (edition : ℕ) → edition_good edition ≡ true → (edition ≡ 1) ⊎ (edition ≡ 2)
unfolding edition_good
edition_right edition = go (leb 1 edition) refl (leb edition 2) refl
  where
    one : (e : ℕ) → 1 ≤ e → e ≤ 2 → (e ≡ 1) ⊎ (e ≡ 2)
    one e p q = elim (ℕ_discrete e 1) [
      | yes f ↦ inl f
      | no f ↦ inr (omega arith)
    ]

    go : (p : Bool) → leb 1 edition ≡ p → (q : Bool) → leb edition 2 ≡ q → (p && q) ≡ true → (edition ≡ 1) ⊎ (edition ≡ 2)
    go true e true f h = one edition (leb-true 1 edition e) (leb-true edition 2 f)
    go true e false f h = absurd (true≢false (sym h))
    go false e q f h = absurd (true≢false (sym h))

-- 12 whatever the lengths, and with an edition that is good it is the lengths' answer
pub edition_12 : (edition a wa b wb c wc : ℕ) → edition_good edition ≡ false → fitting_edition edition a wa b wb c wc ≡ refused 12 0
unfolding fitting_edition
edition_12 edition a wa b wb c wc g = rw g

pub edition_lengths : (edition a wa b wb c wc : ℕ) → edition_good edition ≡ true → fitting_edition edition a wa b wb c wc ≡ lengths a wa b wb c wc
unfolding fitting_edition
edition_lengths edition a wa b wb c wc g = rw g

pub fitting_edition_right : (edition a wa b wb c wc : ℕ) → (fitting_edition edition a wa b wb c wc).answer ≡ 0 → ((edition ≡ 1) ⊎ (edition ≡ 2)) × (a ≡ wa) × (b ≡ wb) × (c ≡ wc)
fitting_edition_right edition a wa b wb c wc h = go (edition_good edition) refl
  where
    go : (g : Bool) → edition_good edition ≡ g → ((edition ≡ 1) ⊎ (edition ≡ 2)) × (a ≡ wa) × (b ≡ wb) × (c ≡ wc)
    go true g =
        let l = lengths_right a wa b wb c wc (ap (λ (x : Answer). x.answer) (sym (edition_lengths edition a wa b wb c wc g)) ∙ h) in
        (edition_right edition g, l.0, l.1, l.2)
    go false g = absurd (omega (arith, ap (λ (x : Answer). x.answer) (edition_12 edition a wa b wb c wc g), h))

-- it refuses with 6 or 12, which leave every array as it was, at no mark and with the index 0
pub record Checked12 (x : Answer) : Type 0 where
  pub early : passed x ≡ false → EarlyOr12 x
  pub unmarked : AtMark x → ⊥
  pub none : x.index ≡ 0

pub edition_checked : (edition a wa b wb c wc : ℕ) → Checked12 (fitting_edition edition a wa b wb c wc)
unfolding fitting_edition
edition_checked edition a wa b wb c wc = go (edition_good edition)
  where
    go : (g : Bool) → Checked12 (cond (not g) (refused 12 0) (lengths a wa b wb c wc))
    go true = record {
      early = λ t. inl (few_early (lengths a wa b wb c wc) (lengths_few a wa b wb c wc) t);
      unmarked = no_mark (lengths a wa b wb c wc) (omega (arith, lengths_few a wa b wb c wc));
      none = lengths_index a wa b wb c wc;
    }
    go false = record { early = λ t. inr refl; unmarked = ⊎_elim (λ e. omega arith) (λ e. omega arith); none = refl }
