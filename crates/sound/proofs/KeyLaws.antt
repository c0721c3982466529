-- Laws of keys by their rows, compared and sought, as `search` takes them. Assumes nothing.
use mathlib.Core.Path.{◌≡◌, refl}
use mathlib.Core.List.{List}
use mathlib.Core.Bool.{Bool}
use Prim.Native.Nat.{ℕ, ◌+◌, ◌*◌, ◌<◌}
use native.Mathlib.Omega.{arith}
use lib.ListN.{length, get_or}
use lib.Seq.{slice}
use borrow.Author.Rules.{rules}
use Rattle.exact.specs.Tells.{Tells}
use Rattle.language.specs.Tree.{width}
use Rattle.std.specs.Prelude.{Option, Result}
use Rattle.repeats.specs.declared.TooLong.{TooLong}
use Rattle.distinct.specs.Names.{Part}
use Rattle.distinct.specs.Chains.{SitsTold}
use Rattle.distinct.specs.Ranks.{Finds}
use Rattle.sound.specs.Keys.{text_at}
use Rattle.sound.specs.Pairwise.{Named}

-- ---- the text of a row

module _ (table text : List ℕ) (r : ℕ) (w : Named table text r) where
  pub named_inside : (j : ℕ) → j < width → width * r + j < length table
  named_inside j l = omega (arith, w.whole)

  pub named_part : (a e : ℕ) → a ≡ get_or table (width * r + 3) 0 → e ≡ get_or table (width * r + 4) 0 → Part text a e
  named_part a e h g = rw (h, g) w.part

module _ (table text : List ℕ) (r a e : ℕ) (h : a ≡ get_or table (width * r + 3) 0) (g : e ≡ get_or table (width * r + 4) 0) where
  pub text_told : text_at table text r ≡ slice a e text
  text_told = rw (h, g) refl

  pub texts_told : (other words : List ℕ) (q b f : ℕ) → b ≡ get_or other (width * q + 3) 0 → f ≡ get_or other (width * q + 4) 0 → (y : Bool) → Tells (slice a e text ≡ slice b f words) y → Tells (text_at table text r ≡ text_at other words q) y
  texts_told other words q b f j k y t = rw (h, g, j, k) at t

  -- sought in a window
  module _ (words froms tos : List ℕ) (n : ℕ) where
    pub row_sits : (s : Result (Option ℕ) TooLong) → SitsTold words froms tos n (slice a e text) s → SitsTold words froms tos n (text_at table text r) s
    row_sits s t = rw (h, g) at t

    pub row_finds : (order : List ℕ) (s : Result ℕ ℕ) → Finds words froms tos order n (slice a e text) s → Finds words froms tos order n (text_at table text r) s
    row_finds order s t = rw (h, g) at t

pub ruleset keying = (named_inside, named_part, text_told, texts_told, row_sits, row_finds, rules)
