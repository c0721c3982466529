-- Laws of fields by their heads, as `search` takes them. Assumes nothing.
use mathlib.Core.Path.{◌≡◌, refl}
use mathlib.Core.List.{List}
use mathlib.Core.Bool.{Bool, true, false}
use Prim.Native.Nat.{ℕ, ◌+◌, ◌*◌, ◌-◌, ◌≤◌, ◌<◌}
use native.Mathlib.Omega.{arith}
use lib.ListN.{get_or}
use lib.Dec.{leb}
use borrow.Author.Rules.{rules}
use borrow.Author.Tests.{leb-true, leb-false}
use Rattle.exact.specs.Tells.{Tells}
use Rattle.uncut.specs.Heads.{end_at, Behind, Whole}

pub behind_is : (stored : List ℕ) (a e h l : ℕ) → h ≡ get_or stored (a + 1) 0 → l ≡ get_or stored (a + 2) 0 → l < 256 → e ≡ a + 3 + 256 * h + l → Behind stored a e
unfolding end_at
behind_is stored a e h l f g m z = record { is = omega arith; low = omega arith }

pub short_none : (stored : List ℕ) (a stop : ℕ) → stop - a < 3 → Tells (Whole stored a stop) false
short_none stored a stop l h = omega (arith, h.begins)

pub whole_told : (stored : List ℕ) (a stop e : ℕ) → a ≤ stop → 3 ≤ stop - a → Behind stored a e → Tells (Whole stored a stop) (leb e stop)
whole_told stored a stop e o l h = by (leb e stop) refl
  where
    by : (b : Bool) → leb e stop ≡ b → Tells (Whole stored a stop) b
    by true z = let m = leb-true e stop z in record { begins = omega arith; ends = omega (arith, h.is) }
    by false z = λ w. let m = leb-false e stop z in omega (arith, h.is, w.ends)

pub ruleset heading = (behind_is, short_none, whole_told, rules)
