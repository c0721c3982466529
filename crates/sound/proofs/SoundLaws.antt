-- Laws of the whole test, as `search` takes them. Assumes nothing.
use mathlib.Core.Path.{◌≡◌, refl}
use mathlib.Core.List.{List}
use mathlib.Core.Bool.{Bool, true, false}
use Prim.Native.Nat.{ℕ, ◌/◌, ◌≤◌, ◌<◌}
use native.Mathlib.Omega.{arith}
use lib.Dec.{eqb}
use borrow.Author.Rules.{rules}
use borrow.Author.Tests.{eqb-true, eqb-false}
use Rattle.notation.specs.Class.{pick}
use Rattle.language.specs.Tree.{width}
use Rattle.language.specs.Answered.{deepest, BADROW}
use Rattle.language.specs.Lent.{words_in}
use Rattle.language.specs.Written.{Sounded, is_sound, unsound}
use Rattle.std.specs.declared.option.Option.{Option}
use Rattle.std.specs.declared.option.Option.TheVariants.{Some, None}
use Rattle.sound.specs.declared.Tested.{Tested}
use Rattle.sound.specs.Members.{Sane, One}
use Rattle.sound.specs.Tested.{Lies, Tests}
use Rattle.sound.specs.Pairs.{alone_at, one_rows, Lone, lone}
use Rattle.sound.specs.Sounding.{sane_sound, holds_held, held_rows}

module _ (table text : List ℕ) (rows n : ℕ) (e : n ≡ words_in table / width) where
  -- more rows than the table counts for
  pub sound_few : n < rows → Sounded table rows text BADROW
  sound_few l = unsound (λ s. let z = holds_held table text rows s.holds in omega (arith, z.fits))

  pub sound_lies : rows ≤ n → Lies table text rows 0
  sound_lies l = record { whole = omega arith; few = omega arith; inside = omega arith }

  module _ (q : Option Tested) (t : Tests table text (One (Sane deepest)) rows 0 0 0 q) where
    pub sound_bad : q ≡ None → Sounded table rows text BADROW
    sound_bad h =
        let z : Tests table text (One (Sane deepest)) rows 0 0 0 None = rw h at t in
        unsound
        (λ s.
        let y = holds_held table text rows s.holds in
        z _ (One.one y.sane) (alone_at table text s.tree y.at) (omega (arith, one_rows s.tree, y.count)))

    pub sound_told : (w : Tested) → q ≡ Some w → rows ≤ n → Sounded table rows text (pick (eqb w.row rows) 0 BADROW)
    sound_told w h l = by (eqb w.row rows) refl
      where
        z : Lone table text (Sane deepest) rows 0 0 0 w.row w.text
        z = let y : Tests table text (One (Sane deepest)) rows 0 0 0 (Some w) = rw h at t in lone table text y

        by : (b : Bool) → eqb w.row rows ≡ b → Sounded table rows text (pick b 0 BADROW)
        by true f = is_sound (sane_sound table text rows z.tree z.good z.at (omega (arith, z.next, eqb-true w.row rows f)) (omega arith))
        by false f =
            unsound
            (λ s.
            let y = held_rows table text rows z.tree s.tree z.good z.at (holds_held table text rows s.holds) in
            eqb-false w.row rows f (omega (arith, z.next)))

pub ruleset sounding = (sound_few, sound_lies, sound_bad, sound_told, rules)
