-- A plain map's tiles and bytes, and where a tile stands in it. Laws only.
use Rattle.std.specs.Prelude.{◌≡◌, refl, ◌⊎◌, Bool, true, false, List, [], ◌∷◌, ◌++◌, ℕ, suc, ◌+◌, eqb, length}
use Rattle.std.proofs.Common.{ap, ◌∙◌, inl, inr, append_assoc, eqb-true, length-append}
use Rattle.std.proofs.Math.Option.{none, some}
use Rattle.store_definition.specs.Store.{place, sum}
use Rattle.store_definition.specs.Calls.{Map, lookup, without, sizes}

-- ---- a map's tiles and bytes, one behind the other

unfoldable pub keys : Map → List ℕ
keys [] = []
keys (e ∷ m) = e.0 ∷ keys m

unfoldable pub flat : Map → List ℕ
flat [] = []
flat (e ∷ m) = e.1 ++ flat m

pub keys_append : (m n : Map) → keys (m ++ n) ≡ keys m ++ keys n
unfolding keys
keys_append [] n = refl
keys_append (e ∷ m) n = ap (λ (l : List ℕ). e.0 ∷ l) (keys_append m n)

pub sizes_append : (m n : Map) → sizes (m ++ n) ≡ sizes m ++ sizes n
unfolding sizes
sizes_append [] n = refl
sizes_append (e ∷ m) n = ap (λ (l : List ℕ). length e.1 ∷ l) (sizes_append m n)

pub flat_append : (m n : Map) → flat (m ++ n) ≡ flat m ++ flat n
unfolding flat
flat_append [] n = refl
flat_append (e ∷ m) n = ap (λ (l : List ℕ). e.1 ++ l) (flat_append m n) ∙ simp append_assoc

pub keys_length : (m : Map) → length (keys m) ≡ length m
unfolding keys
keys_length [] = refl
keys_length (e ∷ m) = ap suc (keys_length m)

pub sizes_length : (m : Map) → length (sizes m) ≡ length m
unfolding sizes
sizes_length [] = refl
sizes_length (e ∷ m) = ap suc (sizes_length m)

pub flat_length : (m : Map) → length (flat m) ≡ sum (sizes m)
unfolding sizes flat sum
flat_length [] = refl
flat_length (e ∷ m) = length-append e.1 (flat m) ∙ ap (λ (n : ℕ). length e.1 + n) (flat_length m)

-- ---- a tile is held, and the map is what stands before it, it, and what stands behind it; or it isn't

pub record Split (t : ℕ) (m : Map) : Type 0 where
  pub front : Map
  pub block : List ℕ
  pub back : Map
  pub whole : m ≡ front ++ ((t, block) ∷ back)
  pub at : place t (keys m) ≡ length front
  pub gone : without t m ≡ front ++ back
  pub looked : lookup t m ≡ some block

pub record Missing (t : ℕ) (m : Map) : Type 0 where
  pub at : place t (keys m) ≡ length m
  pub looked : lookup t m ≡ none

pub split : (t : ℕ) (m : Map) → Split t m ⊎ Missing t m
unfolding place keys lookup without
split t [] = inr (record { at = refl; looked = refl })
split t (e ∷ m) = go (eqb e.0 t) refl (split t m)
  where
    go : (b : Bool) → eqb e.0 t ≡ b → Split t m ⊎ Missing t m → Split t (e ∷ m) ⊎ Missing t (e ∷ m)
    go true g s = inl (record {
      front = [];
      block = e.1;
      back = m;
      whole = ap (λ (u : ℕ). (u, e.1) ∷ m) (eqb-true e.0 t g);
      at = rw g;
      gone = rw g;
      looked = rw g;
    })
    go false g (inl s) = inl (record {
      front = e ∷ s.front;
      block = s.block;
      back = s.back;
      whole = ap (λ (x : Map). e ∷ x) s.whole;
      at = rw g (ap suc s.at);
      gone = rw g (ap (λ (x : Map). e ∷ x) s.gone);
      looked = rw g s.looked;
    })
    go false g (inr s) = inr (record { at = rw g (ap suc s.at); looked = rw g s.looked })
