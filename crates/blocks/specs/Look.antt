-- READERS THAT A LOOK DECIDES, and a choice with them: by the look one of the two loses, whatever the allowance. Assumes nothing.
use Rattle.std.specs.Prelude.{◌≡◌, ◌⊎◌, Bool, ℕ, ◌+◌, ◌≤◌, ◌<◌, leb}
use Rattle.std.proofs.Math.Path.{refl}
use Rattle.std.proofs.Common.{sym, ap, ◌∙◌, inl, inr, arith, leb-true, leb-false}
use mathlib.Core.List.{List}
use Rattle.std.proofs.Math.Bool.{true, false}
use Rattle.exact.specs.Class.{clash, or, leb_yes}
use Rattle.exact.specs.Out.{Out, Reader, bind, reach, margin, Tame, reach_from, reach_bind, ok, soft, bad}
use Rattle.exact.specs.Comb.{seq_r}
use Rattle.exact.specs.More.{Which, Spot, Meet, second, first, neither}
use Rattle.blocks.specs.Or.{merge, or_r}

abbrev pub Test : Type 0
Test = ℕ → List ℕ → Bool

abbrev pub Stop : Type 0
Stop = ℕ → List ℕ → ℕ

-- where the look says yes, the reader goes beyond `stop`; else it is refused there
pub record Decided {X : Type 0} (look : Test) (stop : Stop) (r : Reader X) : Type 0 where
  pub goes : (at : ℕ) (s : List ℕ) → look at s ≡ true → stop at s < reach (r at s)
  pub shut : (at : ℕ) (s : List ℕ) → look at s ≡ false → r at s ≡ bad (stop at s)

pub seq_decided : {X Y : Type 0} {e : ℕ} {look : Test} {stop : Stop} {r : Reader X} {q : X → Reader Y} → ((x : X) → Tame e (q x)) → Decided look stop r → Decided look stop (seq_r r q)
seq_decided {r = r} {q} m d =
    record {
      goes = λ at s e. omega (arith, d.goes at s e, reach_bind (r at s) q m);
      shut = λ at s e. ap (λ o. bind o q) (d.shut at s e);
    }

pub reach_left : {X : Type 0} (o : Out X) (q : ℕ) → reach o ≤ reach (merge o (bad q))
reach_left (ok v a t) q = omega arith
reach_left (soft p v a t) q = omega arith
reach_left (bad p) q = omega arith

-- TWO OF THEM: where the first goes on, the second is refused no later; elsewhere the first is refused no later
pub record Ordered (look₁ : Test) (stop₁ : Stop) (look₂ : Test) (stop₂ : Stop) : Type 0 where
  pub low : (at : ℕ) (s : List ℕ) → stop₁ at s ≤ stop₂ at s
  pub alone : (at : ℕ) (s : List ℕ) → look₁ at s ≡ true → look₂ at s ≡ false
  pub level : (at : ℕ) (s : List ℕ) → look₁ at s ≡ true → stop₂ at s ≤ stop₁ at s

abbrev pub turn : Bool → Bool → Which
turn true y = first
turn false true = second
turn false false = neither

module _ {X : Type 0} {look₁ look₂ : Test} {stop₁ stop₂ : Stop} {r q : Reader X} (h : Ordered look₁ stop₁ look₂ stop₂) (d : Decided look₁ stop₁ r) (e : Decided look₂ stop₂ q) where
  pub decided_meet : Meet (λ at s. turn (look₁ at s) (look₂ at s)) stop₁ stop₂ r q
  decided_meet = record { spot = λ at s. go at s (look₁ at s) refl (look₂ at s) refl }
    where
      go : (at : ℕ) (s : List ℕ) (x : Bool) → look₁ at s ≡ x → (y : Bool) → look₂ at s ≡ y → Spot (turn x y) (stop₁ at s) (stop₂ at s) (r at s) (q at s)
      go at s true x y z = (e.shut at s (h.alone at s x), omega (arith, h.level at s x, d.goes at s x))
      go at s false x true z = (d.shut at s x, omega (arith, h.low at s, e.goes at s z))
      go at s false x false z = (d.shut at s x, e.shut at s z)

-- ONE BESIDE SUCH A READER: refused no later than `stop`, or it goes as far where the look says no
pub data Stands {X : Type 0} (look : Bool) (stop : ℕ) (o : Out X) : Type 0 where
  refused : (p : ℕ) → o ≡ bad p → p ≤ stop → Stands look stop o
  past : look ≡ false → stop ≤ reach o → Stands look stop o

-- at s the look does not matter; or the reader is as the base is, and that stands
pub data Place {X : Type 0} (look : Bool) (stop : ℕ) (at : ℕ) (s : List ℕ) (base o : Out X) : Type 0 where
  aside : look ≡ false → stop ≡ at → Place look stop at s base o
  same : margin s ≡ 0 → o ≡ base → Stands look stop base → Place look stop at s base o

pub record Beside {X : Type 0} (look : Test) (stop : Stop) (base r : Reader X) : Type 0 where
  pub tame₀ : Tame 0 base
  pub tame : Tame 0 r
  pub place : (at : ℕ) (s : List ℕ) → Place (look at s) (stop at s) at s (base at s) (r at s)

abbrev pub which : Bool → Bool → Which
which true y = second
which false true = first
which false false = neither

module _ {X : Type 0} (look : Test) (stop : Stop) (base : Reader X) where
  abbrev pub kind : ℕ → List ℕ → Which
  kind at s = which (look at s) (leb (stop at s) (reach (base at s)))

  abbrev pub ends : Stop
  ends at s = reach (base at s)

  pub beside_meet : {r q : Reader X} → Beside look stop base r → Decided look stop q → Meet kind ends stop r q
  beside_meet {r} {q} b d = record { spot = λ at s. go at s (look at s) refl (b.place at s) }
    where
      at_place : (at : ℕ) (s : List ℕ) (x : Bool) → look at s ≡ x → Place x (stop at s) at s (base at s) (r at s) → (y : Bool) → leb (stop at s) (reach (base at s)) ≡ y
          → Spot (which x y) (reach (base at s)) (stop at s) (r at s) (q at s)
      at_place at s x e (aside f z) true y = rw f (d.shut at s (e ∙ f), omega (arith, reach_from (b.tame.tame at s)))
      at_place at s x e (aside f z) false y = absurd (omega (arith, leb-false (stop at s) (reach (base at s)) y, reach_from (b.tame₀.tame at s)))
      at_place at s true e (same z f (refused p g l)) y w =
          (f ∙ (g ∙ ap bad (sym (ap reach g))), omega (arith, d.goes at s e, ap reach g))
      at_place at s false e (same z f (refused p g l)) true w = (d.shut at s e, omega (arith, leb-true (stop at s) (reach (base at s)) w, ap reach f))
      at_place at s false e (same z f (refused p g l)) false w = (f ∙ (g ∙ ap bad (sym (ap reach g))), d.shut at s e)
      at_place at s x e (same z f (past g l)) true w = rw g (d.shut at s (e ∙ g), omega (arith, ap reach f))
      at_place at s x e (same z f (past g l)) false w = absurd (omega (arith, leb-false (stop at s) (reach (base at s)) w))

      go : (at : ℕ) (s : List ℕ) (x : Bool) → look at s ≡ x → Place x (stop at s) at s (base at s) (r at s)
          → Spot (which x (leb (stop at s) (reach (base at s)))) (reach (base at s)) (stop at s) (r at s) (q at s)
      go at s x e c = at_place at s x e c (leb (stop at s) (reach (base at s))) refl

  -- where it does not win, it is not refused among the spaces
  pub beside_flat : {r : Reader X} → Beside look stop base r → (at : ℕ) (s : List ℕ) → (kind at s ≡ first) ⊎ (at + margin s ≤ ends at s)
  beside_flat {r} b at s = go (b.place at s)
    where
      go : Place (look at s) (stop at s) at s (base at s) (r at s) → (kind at s ≡ first) ⊎ (at + margin s ≤ ends at s)
      go (same z f c) = inr (omega (arith, reach_from (b.tame₀.tame at s)))
      go (aside f z) = inl (rw (f, leb_yes (stop at s) (reach (base at s)) (omega (arith, reach_from (b.tame₀.tame at s)))))
