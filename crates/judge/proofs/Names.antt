-- A name, and the key that it is with its span. Assumes nothing.
use mathlib.Core.Path.{◌≡◌, ap}
use mathlib.Core.List.{List}
use Prim.Native.Nat.{ℕ}
use lib.ListN.{drop}
use Rattle.exact.specs.Out.{ok, bad, bind}
use Rattle.exact.specs.Lang.{ret_r}
use Rattle.language.specs.Kind.{KEY}
use Rattle.language.specs.Tree.{leaf}
use Rattle.rooms.specs.declared.Cursor.{Cursor}
use Rattle.rooms.specs.Contract.{Ans}
use Rattle.std.specs.declared.result.Result.TheVariants.{Err, Ok}
use Rattle.strings.specs.Contract.{Texted, Texts}
use Rattle.strings.specs.Joining.{itself}
use Rattle.strings.specs.Keys.{name_r, key_r}
use Rattle.strings.specs.Spans.{spanned_r}

module _ (doc : List ℕ) (c : Cursor) (a : Ans) (T T' : List ℕ) (w : Texts doc c (name_r c.at (drop c.at doc)) a T T') where
  pub name_bad : (q : ℕ) → a ≡ Err q → key_r c.at (drop c.at doc) ≡ bad q
  unfolding Texts key_r spanned_r
  name_bad q e = let k : name_r c.at (drop c.at doc) ≡ bad q = rw e at w in ap (λ o. bind o (λ s e. ret_r (leaf KEY c.at e s) e)) k

  module _ (n : Cursor) (e : a ≡ Ok n) where
    pub name_got : Texted itself doc c (name_r c.at (drop c.at doc)) n 0 T T'
    unfolding Texts
    name_got = rw e at w

    pub name_is : key_r c.at (drop c.at doc) ≡ ok (leaf KEY c.at n.at name_got.value) n.at (drop n.at doc)
    unfolding key_r spanned_r
    name_is = ap (λ o. bind o (λ s e. ret_r (leaf KEY c.at e s) e)) name_got.is
