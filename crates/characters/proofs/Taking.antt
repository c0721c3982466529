-- A byte taken: laws as `search` takes them. Assumes nothing.
use mathlib.Core.Path.{◌≡◌, sym}
use mathlib.Core.List.{List}
use Prim.Native.Nat.{ℕ, ◌+◌, ◌≤◌, ◌<◌}
use native.Mathlib.Omega.{arith}
use lib.ListN.{length, drop, get_or, get_or-eq_default}
use borrow.Author.Rules.{rules}
use Rattle.exact.specs.Class.{is, only}
use Rattle.exact.specs.Lang.{byte_r}
use Rattle.exact.specs.Place.{get_d_any, byte_is, byte_not}
use Rattle.characters.specs.declared.Reading.{Reading}
use Rattle.characters.specs.Reads.{Took}
use Rattle.std.specs.declared.option.Option.TheVariants.{None, Some}
use Rattle.std.specs.declared.result.Result.TheVariants.{Err, Ok}
use Rattle.characters.specs.Reads.{ByteRead, byte_inside, byte_there, byte_next, byte_over, Skips}

module _ (doc : List ℕ) (at : ℕ) where
  pub took_byte : (n : Reading) → at < length doc → n.at ≡ at + 1 → ByteRead doc at (Some (get_or doc at 0, n))
  unfolding ByteRead
  took_byte n l e = (l, get_d_any doc at 0 256 l, e)

  pub took_over : length doc ≤ at → ByteRead doc at None
  unfolding ByteRead
  took_over l = (l, get_or-eq_default doc 256 l)

module _ (doc : List ℕ) (at b : ℕ) (small : b < 256) (r : Took) (h : ByteRead doc at r) where
  pub take_is : (g : ℕ) (n : Reading) → r ≡ Some (g, n) → g ≡ b → Skips doc at (byte_r (is (only b)) at (drop at doc)) (Ok n.at)
  unfolding Skips
  take_is g n e k =
      let i = byte_inside doc at r h g n e in
      rw
      (byte_next doc at r h g n e)
      (record { value = b; is = byte_is doc at b g small (byte_there doc at r h g n e) k; behind = omega arith; inside = omega arith })

  pub take_other : (g : ℕ) (n : Reading) → r ≡ Some (g, n) → (g ≡ b → ⊥) → Skips doc at (byte_r (is (only b)) at (drop at doc)) (Err at)
  unfolding Skips
  take_other g n e k = byte_not doc at b g small (byte_there doc at r h g n e) k

  pub take_over : r ≡ None → Skips doc at (byte_r (is (only b)) at (drop at doc)) (Err at)
  unfolding Skips
  take_over e = let z = byte_over doc at r h e in byte_not doc at b 256 small (sym z) (λ k. omega arith)

pub ruleset taking = (took_byte, took_over, take_is, take_other, take_over, rules)
