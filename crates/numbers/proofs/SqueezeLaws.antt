-- Laws of slices without their spaces. Assumes nothing.
use mathlib.Core.Path.{◌≡◌, refl, sym, ap, ◌∙◌}
use mathlib.Core.List.{List, [], ◌∷◌, ◌++◌}
use mathlib.Core.Bool.{Bool, true, false}
use Prim.Native.Nat.{ℕ, suc, ◌+◌, ◌≤◌, ◌<◌}
use native.Mathlib.Numerals.{add-one}
use native.Mathlib.Omega.{arith}
use lib.ListN.{length, drop}
use lib.Seq.{slice, slice-cons, slice_empty}
use lib.Dec.{eqb}
use borrow.Author.Tests.{ne_eqb}
use Rattle.exact.specs.Class.{pick}
use Rattle.exact.specs.Place.{peek, run_end, slice_at, slice_join}
use Rattle.language.specs.Scalars.{digit}
use Rattle.numbers.specs.declared.digits.Stretch.{Stretch}
use Rattle.numbers.specs.Places.{squeezed, run_dense}
use Rattle.numbers.specs.Contract.{Grouped, Tight}

pub squeezed_append : (u v : List ℕ) → squeezed (u ++ v) ≡ squeezed u ++ squeezed v
unfolding squeezed
squeezed_append [] v = refl
squeezed_append (b ∷ u) v = by (eqb b 32) (squeezed_append u v)
  where
    by : (x : Bool) → squeezed (u ++ v) ≡ squeezed u ++ squeezed v → pick x (squeezed (u ++ v)) (b ∷ squeezed (u ++ v)) ≡ pick x (squeezed u) (b ∷ squeezed u) ++ squeezed v
    by true ih = ih
    by false ih = ap (b ∷◌) ih

pub squeezed_le : (u : List ℕ) → length (squeezed u) ≤ length u
unfolding squeezed
squeezed_le [] = omega arith
squeezed_le (b ∷ u) = by (eqb b 32) (squeezed_le u)
  where
    by : (x : Bool) → length (squeezed u) ≤ length u → length (pick x (squeezed u) (b ∷ squeezed u)) ≤ suc (length u)
    by true ih = omega arith
    by false ih = omega arith

module _ (doc : List ℕ) where
  pub squeeze_join : (a b e : ℕ) → a ≤ b → b ≤ e → squeezed (slice a b doc) ++ squeezed (slice b e doc) ≡ squeezed (slice a e doc)
  squeeze_join a b e h k = sym (squeezed_append (slice a b doc) (slice b e doc)) ∙ ap squeezed (slice_join a b e doc h k)

  pub tight_join : (a b e : ℕ) → a ≤ b → b ≤ e → Tight doc a b → Tight doc b e → Tight doc a e
  tight_join a b e h k x y =
      sym (squeeze_join a b e h k) ∙ (ap (λ u. u ++ squeezed (slice b e doc)) x ∙ (ap (λ u. slice a b doc ++ u) y ∙ slice_join a b e doc h k))

  pub tight_none : (a : ℕ) → Tight doc a a
  unfolding squeezed
  tight_none a = rw (slice_empty a doc) refl

  -- one byte that is no space
  module _ (at b : ℕ) (h : b ≡ peek doc at) (n : b ≡ 32 → ⊥) (l : at < length doc) where
    pub slice_byte : slice at (at + 1) doc ≡ b ∷ []
    slice_byte = slice-cons at (at + 1) doc 256 (omega arith) (omega arith) ∙ rw (h, add-one, slice_empty (suc at) doc) refl

    pub squeeze_byte : squeezed (slice at (at + 1) doc) ≡ b ∷ []
    unfolding squeezed
    squeeze_byte = ap squeezed slice_byte ∙ rw (ne_eqb b 32 n) refl

    pub tight_byte : Tight doc at (at + 1)
    tight_byte = squeeze_byte ∙ sym slice_byte

  -- digits in one run
  pub tight_run : (d e : ℕ) → e ≡ run_end digit doc d → Tight doc d e
  tight_run d e h = rw (h, ← slice_at d _ doc) (run_dense (drop d doc))

  pub tight_group : (spaced : Bool) (d : ℕ) (g : Stretch) → Grouped spaced doc d g → g.dense ≡ true → Tight doc d g.end.at
  tight_group spaced d g x h = tight_run d g.end.at (x.dense h)
