-- A LOOK THROUGH A CHAIN, broken off where it is long: what it tells (`Walks`), and how far it has come (`Walking`). Assumes nothing.
use Rattle.std.specs.Prelude.{◌≡◌, List, Bool, true, false, ℕ, ◌+◌, ◌-◌, ◌≤◌, ◌<◌, length, get_or, Result, Ok, Err}
use Rattle.std.proofs.Common.{arith}
use Rattle.exact.specs.Tells.{Tells, tells_yes, tells_no}
use Rattle.repeats.specs.declared.TooLong.{TooLong}
use Rattle.repeats.specs.Numbering.{Numbering}
use Rattle.repeats.specs.Links.{Walkable, Walked, walk_first, walk_none, walk_key, walk_room, walk_less, walk_same, walk_more}
use Rattle.repeats.specs.Links

-- what it tells of A
unfoldable pub Walks : Type 0 → Result Bool TooLong → Type 0
Walks A (Ok true) = A
Walks A (Ok false) = A → ⊥
Walks A (Err e) = Unit {0}

pub walks_long : (A : Type 0) (e : TooLong) → Walks A (Err e)
unfolding Walks
walks_long A e = tt

pub walks_map : {A B : Type 0} → (A → B) → (B → A) → (r : Result Bool TooLong) → Walks A r → Walks B r
unfolding Walks
walks_map f g (Ok true) x = f x
walks_map f g (Ok false) x = λ y. x (g y)
walks_map f g (Err e) x = tt

module _ (A : Type 0) (r : Result Bool TooLong) (x : Walks A r) where
  pub walks_met : r ≡ Ok true → A
  unfolding Walks
  walks_met e = rw e at x

  pub walks_past : r ≡ Ok false → A → ⊥
  unfolding Walks
  walks_past e = rw e at x

-- the look has come to h, and taken no more steps than it may
pub record Walking (N : Numbering) (P : ℕ → Type 0) (links : List ℕ) (head i h steps : ℕ) : Type 0 where
  pub walked : Walked N P links head i h
  pub few : steps ≤ 16

module _ (N : Numbering) (P : ℕ → Type 0) (links : List ℕ) (head i : ℕ) (w : Walkable N links head i) where
  pub chain_first : Walking N P links head i head 0
  chain_first = record { walked = walk_first N P links head i w; few = omega arith }

  module _ (h steps : ℕ) (x : Walking N P links head i h steps) where
    pub chain_none : h ≤ 0 → Walks (Links.Met P links head) (Ok false)
    unfolding Walks
    chain_none l = walk_none N P links head i w h x.walked l

    module _ (l : 0 < h) (k : ℕ) (e : k ≡ h - 1) where
      pub chain_before : k < i
      chain_before = omega (arith, (walk_key N P links head i w h x.walked l).before)

      pub chain_met : (r : Bool) → r ≡ true → Tells (P k) r → Walks (Links.Met P links head) (Ok true)
      unfolding Walks
      chain_met r f t = walk_same N P links head i w h x.walked l (rw e at (tells_yes r f t))

      pub chain_room : k < length links
      chain_room = omega (arith, walk_room N P links head i w h x.walked l)

      pub chain_less : (g : ℕ) → g ≡ get_or links k 0 → g < h
      chain_less g f = rw (f, e) (walk_less N P links head i w h l)

      pub chain_more : (g : ℕ) (r : Bool) → g ≡ get_or links k 0 → r ≡ false → Tells (P k) r → (steps ≡ 16 → ⊥) → Walking N P links head i g (steps + 1)
      chain_more g r z f t o =
          record { walked = rw (z, e) (walk_more N P links head i w h x.walked l (rw e at (tells_no r f t))); few = omega (arith, x.few, o) }
