-- Laws of keys in stored bytes by their places, as `search` takes them. Assumes nothing.
use mathlib.Core.Path.{◌≡◌, refl, ap, ◌∙◌}
use mathlib.Core.List.{List}
use Prim.Native.Nat.{ℕ, ◌+◌, ◌≤◌}
use native.Mathlib.Omega.{arith}
use lib.ListN.{length}
use mir.Syntax.{w64}
use mir.Val.{Fits}
use Rattle.uncut.specs.Short.{longest}
use Rattle.distinct.specs.declared.Key.{Key}
use Rattle.distinct.specs.Names.{Part}
use Rattle.distinct.specs.Shown.{Shown}
use Rattle.uncut.specs.Heads.{end_at, Behind, end_after}
use Rattle.uncut.specs.Keys.{beyond, Keyed, Placed, placed_keys}

-- ---- the place behind a key, and behind its value

module _ (stored : List ℕ) (p : ℕ) (k : Keyed stored p) where
  pub key_inside : p + 3 ≤ length stored
  key_inside = omega (arith, k.inside, end_after stored p, end_after stored (end_at stored p))

  pub key_few : p ≤ longest
  key_few = omega (arith, k.few, end_after stored p, end_after stored (end_at stored p))

  pub key_fits : Fits w64 (p + 3)
  key_fits = let f = key_few in omega arith

  module _ (e : ℕ) (h : Behind stored p e) where
    pub value_inside : e + 3 ≤ length stored
    value_inside = omega (arith, k.inside, h.is, end_after stored (end_at stored p))

    pub value_few : e ≤ longest
    value_few = omega (arith, k.few, h.is, end_after stored (end_at stored p))

    pub key_part : Part stored (p + 3) e
    key_part = let v = value_inside in record { order = omega (arith, h.is, end_after stored p); fits = omega arith }

    pub next_told : (q : ℕ) → Behind stored e q → q ≡ beyond stored p
    next_told q g = g.is ∙ ap (end_at stored) h.is

-- ---- a key of an object

module _ (stored : List ℕ) (stop p : ℕ) (k : Placed stored stop p) where
  pub keyed_shown : (x : Key) → Behind stored p x.to → x.from ≡ p + 3 → Behind stored x.to x.next → Shown (placed_keys stored stop) stored p x
  keyed_shown x h e g =
      record {
        part = rw e (key_part stored p k.keyed x.to h);
        is = rw (h.is, e) refl;
        next = next_told stored p k.keyed x.to h x.next g;
        narrow = let v = value_few stored p k.keyed x.to h in omega arith;
      }
